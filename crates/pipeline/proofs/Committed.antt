-- Work that was done apart is what processing the buckets here gives.
use Rattle.std.proofs.Common.{◌≡◌, ◌↔◌, ℕ, ◌+◌, ◌*◌, ◌^◌, ◌<◌, Bool, IsTrue, Some, List, [], ◌∷◌, ◌++◌, length, refl, sym, ap, subst, ◌∙◌}
use Rattle.dpc_model.specs.Operators.{all_of}
use Rattle.dpc_model.specs.Engines.{engine_value, added_output, nameless, TookAlike}
use Rattle.dpc_model.specs.Parts.{Inputs, processed, Outputs}
use Rattle.dpc_model.specs.PartStands.{at_cursor, StandsForPorts}
use Rattle.dpc_model.specs.declared.operators.OpSpec.{OpSpec}
use Rattle.dpc_model.specs.declared.tuples.Tuple.{Tuple}
use Rattle.dpc_model.specs.declared.tuples.Tagged.{Tagged}
use Rattle.dpc_model.proofs.Buckets.{nameless-value}
use Rattle.law_buckets.specs.Series.{buckets_from}
use Rattle.checkpoint_redo.specs.Keeping.{KeptValue, added_by}
use Rattle.fragment_mill.specs.Mills.{MillState, MillAfter, specs_of}
use Rattle.mill_work.specs.Milling.{OrderValue}
use Rattle.sunion.specs.Values.{SUnionValue}
use Rattle.sunion.specs.Unions.{after_advancing}
use Rattle.pipeline.specs.Flowing.{PipelineValue, IsMillOf, IsEngineOf, StandsForData}
use Rattle.pipeline.specs.Running.{HasRun, HasAdvanced}
use Rattle.pipeline.specs.Committing.{IsDone, CanPut}
use Rattle.pipeline.proofs.Wholes.{data-work, cursor-engine}
use Rattle.pipeline.proofs.Work.{work-advanced}

-- names do not count
nameless-added : (ops : List OpSpec) (w : ℕ) (before : List Tagged) (bs : List (List Tagged)) (k : ℕ) → added_by (engine_value (nameless ops)) w before bs k ≡ added_by (engine_value ops) w before bs k
nameless-added ops w before [] k = refl
nameless-added ops w before (b ∷ bs) k =
    let here : added_output (engine_value (nameless ops)) w before b k ≡ added_output (engine_value ops) w before b k = rw (nameless-value ops before (k * w), nameless-value ops (before ++ b) ((k + 1) * w)) refl in
    ap (λ (ts : List Tuple). ts ++ added_by (engine_value (nameless ops)) w (before ++ b) bs (k + 1)) here
    ∙ ap (λ (ts : List Tuple). added_output (engine_value ops) w before b k ++ ts) (nameless-added ops w (before ++ b) bs (k + 1))

-- an engine that is the one at the cursor, and no other, is the order's
pub same-engine : (ops : List OpSpec) (v : PipelineValue) (x : Inputs) (o : Outputs) (m : MillState) (same : Bool) → StandsForData ops v x o → (IsTrue same ↔ (at_cursor v.keeper.keeper ≡ m)) →
    ((xs : List Tagged) (k : ℕ) → TookAlike (λ (n : MillState). Some n.width) (λ (n : MillState). specs_of n.stages) (λ (n : MillState). n.spent) MillAfter (at_cursor v.keeper.keeper) m xs k → at_cursor v.keeper.keeper ≡ m) →
    (IsTrue same ↔ IsEngineOf ops v.union.width x m)
same-engine ops v x o m same h is determined =
    let w = v.union.width in
    let at = cursor-engine ops v x o h in (
      λ e. subst (λ (n : MillState). IsEngineOf ops w x n) (is.0 e) at,
      λ g. is.1 (determined (processed w x) x.cursor (record {
        wide = ap Some (at.of.wide ∙ sym g.of.wide);
        made_of = at.of.operators ∙ sym g.of.operators;
        unspent = (at.of.unspent, g.of.unspent);
        took = (at.took, g.took);
      })),
    )

-- an order that was milled is a run
pub done-run : (ops : List OpSpec) (w k : ℕ) (before : List Tagged) (order : OrderValue MillState) (n : MillState) (bs : List (List Tagged)) (added : List Tuple) → IsMillOf ops w order.before → MillAfter order.before before k →
    order.buckets ≡ bs → IsDone order n added → HasRun ops w n before bs k added
done-run ops w k before order n bs added mill stood buckets done =
    let begins : order.cursor ≡ k = done.order.begins ∙ stood.next in
    let at : MillAfter order.before before order.cursor = subst (λ (j : ℕ). MillAfter order.before before j) (sym begins) stood in
    let operators : specs_of order.before.stages ≡ nameless ops = mill.operators in
    let width : order.before.width ≡ w = mill.wide in
    let same : n.width ≡ order.before.width = let wide = done.wide in cc in
    let took = done.took before at in
    record {
      mill = record { operators = done.made_of ∙ operators; wide = same ∙ width; unspent = done.unspent };
      after =
          subst (λ (j : ℕ). MillAfter n (before ++ all_of bs) (j + length bs)) begins
          (subst (λ (xs : List (List Tagged)). MillAfter n (before ++ all_of xs) (order.cursor + length xs)) buckets took);
      output =
          done.outputs before at
          ∙ ap (λ (os : List OpSpec). added_by (engine_value os) order.before.width before order.buckets order.cursor) operators
          ∙ ap (λ (j : ℕ). added_by (engine_value (nameless ops)) j before order.buckets order.cursor) width
          ∙ nameless-added ops w before order.buckets order.cursor
          ∙ ap (λ (xs : List (List Tagged)). added_by (engine_value ops) w before xs order.cursor) buckets
          ∙ ap (λ (j : ℕ). added_by (engine_value ops) w before bs j) begins;
    }

-- the inputs and the operators go on behind the buckets
pub put-advanced : (ops : List OpSpec) (old : PipelineValue) (u : SUnionValue) (k : KeptValue MillState) (x : Inputs) (o : Outputs) (count : ℕ) (after : MillState) (outputs : List Tuple) → CanPut ops old x o count after outputs →
    u.width ≡ old.union.width → StandsForPorts u.width u.union (after_advancing count x) → k ≡ record old.keeper { keeper = record old.keeper.keeper { state = after } } → HasAdvanced ops u k old.union.width x count outputs
put-advanced ops old u k x o count after outputs h wide ports is =
    let w = old.union.width in
    let can = h.can.stands in
    let held = ap (λ (j : KeptValue MillState). j.keeper.held) is in
    let state : after ≡ k.keeper.state = sym (ap (λ (j : KeptValue MillState). j.keeper.state) is) in
    let run = done-run ops w x.cursor (processed w x) h.order after (buckets_from w x x.cursor count) outputs h.engine.of h.engine.took h.buckets h.milled in
    work-advanced ops old.union u old.keeper k x count outputs wide ports held (data-work ops old x o can) h.can.ready
    (subst (λ (m : MillState). HasRun ops w m (processed w x) (buckets_from w x x.cursor count) x.cursor outputs) state run)

-- no bucket is closed, and the end is in range
pub put-open : (ops : List OpSpec) (old : PipelineValue) (x : Inputs) (o : Outputs) (count : ℕ) (after : MillState) (outputs : List Tuple) → CanPut ops old x o count after outputs → old.union.union.closed ≡ 0
put-open ops old x o count after outputs h = h.can.stands.ports.closed ∙ ap (λ (cs : List (List Tagged)). length cs) h.can.ready.none_closed

pub put-end : (ops : List OpSpec) (old : PipelineValue) (x : Inputs) (o : Outputs) (count : ℕ) (after : MillState) (outputs : List Tuple) → CanPut ops old x o count after outputs → (old.union.union.cursor + count) * old.union.width < 2 ^ 64
put-end ops old x o count after outputs h = subst (λ (k : ℕ). (k + count) * old.union.width < 2 ^ 64) (sym h.can.stands.ports.cursor) h.can.ready.end
