use Rattle.std.proofs.Common.{◌≡◌, ◌∙◌, ◌+◌, ◌*◌, ◌≤◌, ◌++◌, length, map, ap, sym, subst, refl, List, Some}
use Rattle.std.specs.Prelude.{slice_get}
use Rattle.std.proofs.lemmas.Option.{slice_get_read}
use Rattle.dpc_model.specs.Engines.{FitsBucket}
use Rattle.dpc_model.specs.Fragments.{ReadsBelow, serial}
use Rattle.dpc_model.specs.declared.tuples.Tagged.{Tagged}
use Rattle.dpc_model.specs.declared.plans.FragSpec.{FragSpec}
use Rattle.dpc_model.specs.declared.plans.StreamRef.{StreamRef}
use Rattle.ops_join.proofs.Givings.{takes-as, first-as, on-err}
use Rattle.fragment_mill.specs.Mills.{MillAfter, mill_added}
use Rattle.ideal_run.specs.Buckets.{bucket_of, IsMillAt}
use Rattle.ideal_run.proofs.Streams.{reads-before, same-frag}
use Rattle.ideal_run.proofs.Steps.{inputs_below, bucket_in, bucket-end, gathered-is, mill-fits, mill-adds, mill-more}
use Rattle.ideal_run.proofs.giving.give_bucket.Goals as goal

pub bucket_inputs-requires-clause-reads : goal.bucket_inputs-requires-clause-reads
bucket_inputs-requires-clause-reads g c =
    let at = slice_get_read c.args.plan.now.frags (length c.args.plan.now.frags) (length c.args.outputs.now) c.index-as_slice-outputs.result refl c.requires.frag (rw c.as_slice.ensures at c.index-as_slice-outputs.is) in
    subst (λ (ss : List StreamRef). ReadsBelow (length c.args.outputs.now) ss) (sym (c.as_slice-reads.ensures ∙ ap (λ (f : FragSpec). f.inputs) (sym c.index-as_slice-outputs.is))) (reads-before c.args.plan.now (length c.args.outputs.now) c.index-as_slice-outputs.result at c.requires.plan)

pub bucket_into-requires-clause-next : goal.bucket_into-requires-clause-next
bucket_into-requires-clause-next g c =
    let plan = c.args.plan.now in
    let i = length c.args.outputs.now in
    let f = c.index-as_slice-outputs.result in
    let there : slice_get plan.frags i ≡ Some f = slice_get_read plan.frags (length plan.frags) i f refl c.requires.frag (rw c.as_slice.ensures at c.index-as_slice-outputs.is) in
    let mill = c.requires.mill f there in
    sym mill.after.next

pub bucket_into-requires-clause-accepts : goal.bucket_into-requires-clause-accepts
bucket_into-requires-clause-accepts g c =
    let plan = c.args.plan.now in
    let i = length c.args.outputs.now in
    let f = c.index-as_slice-outputs.result in
    let there : slice_get plan.frags i ≡ Some f = slice_get_read plan.frags (length plan.frags) i f refl c.requires.frag (rw c.as_slice.ensures at c.index-as_slice-outputs.is) in
    let mill = c.requires.mill f there in
    let within : (c.args.k + 1) * plan.width ≤ plan.end = bucket-end plan.width plan.end c.args.k c.requires.plan.width c.requires.bucket in
    let gathered : c.as_slice-2.result.now ≡ bucket_in plan f c.args.k =
    c.as_slice-2.ensures.value ∙ c.in_ok-bucket.ensures ∙ ap (λ (ss : List StreamRef). serial (map (bucket_of plan c.args.k) ss)) (c.as_slice-reads.ensures ∙ ap (λ (h : FragSpec). h.inputs) (sym c.index-as_slice-outputs.is))
    ∙ gathered-is plan f c.args.k in
    subst (λ (xs : List Tagged). FitsBucket c.args.mill.now.width c.args.k xs) (sym gathered)
    (mill-fits plan c.requires.plan i f there c.args.k within c.args.mill.now mill)

pub returns-in_err-bucket_into-clause-first : goal.returns-in_err-bucket_into-clause-first
returns-in_err-bucket_into-clause-first g c =
    let plan = c.args.plan.now in
    let i = length c.args.outputs.now in
    let f = c.index-as_slice-outputs.result in
    let there : slice_get plan.frags i ≡ Some f = slice_get_read plan.frags (length plan.frags) i f refl c.requires.frag (rw c.as_slice.ensures at c.index-as_slice-outputs.is) in
    let mill = c.requires.mill f there in
    let within : (c.args.k + 1) * plan.width ≤ plan.end = bucket-end plan.width plan.end c.args.k c.requires.plan.width c.requires.bucket in
    let gathered : c.as_slice-2.result.now ≡ bucket_in plan f c.args.k =
    c.as_slice-2.ensures.value ∙ c.in_ok-bucket.ensures ∙ ap (λ (ss : List StreamRef). serial (map (bucket_of plan c.args.k) ss)) (c.as_slice-reads.ensures ∙ ap (λ (h : FragSpec). h.inputs) (sym c.index-as_slice-outputs.is))
    ∙ gathered-is plan f c.args.k in
    let rows = ap (λ (xs : List Tagged). mill_added c.args.mill.now (inputs_below plan f c.args.k) xs c.args.k) gathered ∙ mill-adds plan c.requires.plan i f there c.args.k within c.args.mill.now mill in
    on-err _ (first-as (g.R.RowSink.took c.args.sink.now c.args.out.now) (g.R.RowSink.took c.bucket_into.new.sink c.bucket_into.new.out) _ _ rows (c.in_err-bucket_into.ensures.first (inputs_below plan f c.args.k) mill.after))

pub returns-clause-rows : goal.returns-clause-rows
returns-clause-rows g c =
    let plan = c.args.plan.now in
    let i = length c.args.outputs.now in
    let f = c.index-as_slice-outputs.result in
    let there : slice_get plan.frags i ≡ Some f = slice_get_read plan.frags (length plan.frags) i f refl c.requires.frag (rw c.as_slice.ensures at c.index-as_slice-outputs.is) in
    let mill = c.requires.mill f there in
    let within : (c.args.k + 1) * plan.width ≤ plan.end = bucket-end plan.width plan.end c.args.k c.requires.plan.width c.requires.bucket in
    let gathered : c.as_slice-2.result.now ≡ bucket_in plan f c.args.k =
    c.as_slice-2.ensures.value ∙ c.in_ok-bucket.ensures ∙ ap (λ (ss : List StreamRef). serial (map (bucket_of plan c.args.k) ss)) (c.as_slice-reads.ensures ∙ ap (λ (h : FragSpec). h.inputs) (sym c.index-as_slice-outputs.is))
    ∙ gathered-is plan f c.args.k in
    let rows = ap (λ (xs : List Tagged). mill_added c.args.mill.now (inputs_below plan f c.args.k) xs c.args.k) gathered ∙ mill-adds plan c.requires.plan i f there c.args.k within c.args.mill.now mill in
    takes-as (g.R.RowSink.took c.args.sink.now c.args.out.now) (g.R.RowSink.took c.bucket_into.new.sink c.bucket_into.new.out) _ _ rows (c.in_ok-bucket_into.ensures.rows (inputs_below plan f c.args.k) mill.after)

pub returns-clause-after : goal.returns-clause-after
returns-clause-after g c =
    let plan = c.args.plan.now in
    let i = length c.args.outputs.now in
    let f = c.index-as_slice-outputs.result in
    let there : slice_get plan.frags i ≡ Some f = slice_get_read plan.frags (length plan.frags) i f refl c.requires.frag (rw c.as_slice.ensures at c.index-as_slice-outputs.is) in
    let mill = c.requires.mill f there in
    let within : (c.args.k + 1) * plan.width ≤ plan.end = bucket-end plan.width plan.end c.args.k c.requires.plan.width c.requires.bucket in
    let gathered : c.as_slice-2.result.now ≡ bucket_in plan f c.args.k =
    c.as_slice-2.ensures.value ∙ c.in_ok-bucket.ensures ∙ ap (λ (ss : List StreamRef). serial (map (bucket_of plan c.args.k) ss)) (c.as_slice-reads.ensures ∙ ap (λ (h : FragSpec). h.inputs) (sym c.index-as_slice-outputs.is))
    ∙ gathered-is plan f c.args.k in
    λ h e.
    let past = inputs_below plan f c.args.k in
    let took = subst (λ (xs : List Tagged). MillAfter c.bucket_into.new.self (past ++ xs) (c.args.k + 1)) gathered (c.in_ok-bucket_into.ensures.after past mill.after) in
    subst (λ (h : FragSpec). IsMillAt plan h (c.args.k + 1) c.bucket_into.new.self) (same-frag plan.frags i f h there e)
    (mill-more plan c.requires.plan i f there c.args.k within c.args.mill.now mill c.bucket_into.new.self c.bucket_into.ensures.width c.bucket_into.ensures.operators took)
