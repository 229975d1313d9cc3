use Rattle.std.proofs.Common.{rules, ◌≡◌, ℕ, ◌+◌, ◌∙◌, ◌++◌, List, take, sym, ap, subst, arith, append_assoc, slice_index_or, Option}
use Rattle.std.specs.Prelude.{unwrap_or}
use Rattle.dpc_model.specs.Operators.{all_of}
use Rattle.dpc_model.specs.Engines.{Accepts, engine_value, added_output}
use Rattle.dpc_model.specs.declared.operators.OpSpec.{OpSpec}
use Rattle.dpc_model.specs.declared.tuples.Tuple.{Tuple}
use Rattle.dpc_model.specs.declared.tuples.Tagged.{Tagged}
use Rattle.checkpoint_redo.specs.Keeping.{added_by}
use Rattle.checkpoint_redo.proofs.Series.{accepts-at, all-taken, added-taken}
use Rattle.checkpoint_redo.proofs.redoing.redo.Goals as goal

pub bucket-requires-clause-accepts : goal.bucket-requires-clause-accepts
bucket-requires-clause-accepts g c =
    let i = c.loop-i.i in
    let k = c.args.k in
    let bs = c.args.buckets.now in
    let bucket = c.index-buckets-i.result in
    let here : Accepts (g.M.Engine.width c.args.engine.now) (k + i) (slice_index_or bs i bucket) = accepts-at (g.M.Engine.width c.args.engine.now) k i bs bucket c.loop-i-test.true c.requires.accepts in
    subst (λ (xs : List Tagged). Accepts (g.M.Engine.width c.loop-i.engine) (k + i) xs) (sym (c.as_slice.ensures ∙ c.index-buckets-i.is))
    (subst (λ (w : Option ℕ). Accepts w (k + i) (slice_index_or bs i bucket)) (sym c.loop-i.invariant.width) here)

pub loop-i-preserved : goal.loop-i-preserved
loop-i-preserved g c =
    let i = c.loop-i.i in
    let k = c.args.k in
    let bs = c.args.buckets.now in
    let bucket = c.index-buckets-i.result in
    let so_far = c.loop-i.invariant in
    let inputs : c.as_slice.result.now ≡ slice_index_or bs i bucket = c.as_slice.ensures ∙ c.index-buckets-i.is in
    let number : (k + i) + 1 ≡ k + (i + 1) = omega arith in
    let all = all-taken i bs bucket c.loop-i-test.true in
    let ops = g.M.Engine.operators c.args.engine.now in
    let width = unwrap_or (g.M.Engine.width c.args.engine.now) 0 in
    record {
      fresh = search rules;
      next = c.in-Ok.ensures.next ∙ number;
      operators = c.in-Ok.ensures.operators ∙ so_far.operators;
      width = c.in-Ok.ensures.width ∙ so_far.width;
      steps = search rules;
      after = λ before h.
          let past = all_of (take i bs) in
          let took = c.in-Ok.ensures.after (before ++ past) (so_far.after before h) in
          let inside : (before ++ past) ++ c.as_slice.result.now ≡ before ++ all_of (take (i + 1) bs) =
          append_assoc before past c.as_slice.result.now ∙ ap (λ (xs : List Tagged). before ++ (past ++ xs)) inputs ∙ ap (λ (xs : List Tagged). before ++ xs) (sym all) in
          subst (λ (n : ℕ). g.M.Engine.after c.bucket.new.self (before ++ all_of (take (i + 1) bs)) n) number
          (subst (λ (xs : List Tagged). g.M.Engine.after c.bucket.new.self xs ((k + i) + 1)) inside took);
      added = λ before h.
          let past = all_of (take i bs) in
          let first = added_by (engine_value ops) width before (take i bs) k in
          let told = c.in-Ok.ensures.answer (before ++ past) (so_far.after before h) in
          let output : c.in-Ok.output ≡ added_output (engine_value ops) width (before ++ past) (slice_index_or bs i bucket) (k + i) =
          told
          ∙ ap (λ (os : List OpSpec). added_output (engine_value os) (unwrap_or (g.M.Engine.width c.loop-i.engine) 0) (before ++ past) c.as_slice.result.now (k + i)) so_far.operators
          ∙ ap (λ (w : Option ℕ). added_output (engine_value ops) (unwrap_or w 0) (before ++ past) c.as_slice.result.now (k + i)) so_far.width
          ∙ ap (λ (xs : List Tagged). added_output (engine_value ops) width (before ++ past) xs (k + i)) inputs in
          let appended : c.append.new.self.items ≡ c.loop-i.outputs.items ++ c.in-Ok.output = search rules in
          appended ∙ ap (λ (ts : List Tuple). ts ++ c.in-Ok.output) (so_far.added before h) ∙ ap (λ (ts : List Tuple). first ++ ts) output
          ∙ sym (added-taken (engine_value ops) width before k i bs bucket c.loop-i-test.true);
    }
