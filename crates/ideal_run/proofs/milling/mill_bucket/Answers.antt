use Rattle.std.proofs.Common.{◌≡◌, ◌∙◌, ◌+◌, ◌*◌, ◌≤◌, ◌++◌, length, map, ap, sym, subst, refl, List, Some}
use Rattle.std.specs.Prelude.{slice_get}
use Rattle.std.proofs.lemmas.Option.{slice_get_read, same_Some}
use Rattle.dpc_model.specs.Engines.{FitsBucket, added_output, engine_value}
use Rattle.dpc_model.specs.Fragments.{ReadsBelow, serial}
use Rattle.dpc_model.specs.declared.tuples.Tagged.{Tagged}
use Rattle.dpc_model.specs.declared.plans.FragSpec.{FragSpec}
use Rattle.dpc_model.specs.declared.plans.StreamRef.{StreamRef}
use Rattle.fragment_mill.specs.Mills.{MillAfter, specs_of}
use Rattle.ideal_run.specs.Buckets.{bucket_of, IsMillAt}
use Rattle.ideal_run.proofs.Streams.{reads-before, same-frag}
use Rattle.ideal_run.proofs.Steps.{inputs_below, bucket_in, bucket-end, gathered-is, mill-fits, mill-adds, mill-more}
use Rattle.ideal_run.proofs.milling.mill_bucket.Goals as goal
use Rattle.ideal_run.proofs.milling.mill_bucket.Goals.{In_ok-bucket}

-- the fragment
there : (c : In_ok-bucket) → slice_get c.args.plan.now.frags (length c.args.outputs.now) ≡ Some c.index-as_slice-outputs.result
there c = slice_get_read c.args.plan.now.frags (length c.args.plan.now.frags) (length c.args.outputs.now) c.index-as_slice-outputs.result refl c.requires.frag (rw c.as_slice.ensures at c.index-as_slice-outputs.is)

within : (c : In_ok-bucket) → (c.args.k + 1) * c.args.plan.now.width ≤ c.args.plan.now.end
within c = bucket-end c.args.plan.now.width c.args.plan.now.end c.args.k c.requires.plan.width c.requires.bucket

gathered : (c : In_ok-bucket) → c.in_ok-bucket.bucket.items ≡ bucket_in c.args.plan.now c.index-as_slice-outputs.result c.args.k
gathered c =
    c.in_ok-bucket.ensures ∙ ap (λ (ss : List StreamRef). serial (map (bucket_of c.args.plan.now c.args.k) ss)) (c.as_slice-reads.ensures ∙ ap (λ (f : FragSpec). f.inputs) (sym c.index-as_slice-outputs.is))
    ∙ gathered-is c.args.plan.now c.index-as_slice-outputs.result c.args.k

pub bucket_inputs-requires-clause-reads : goal.bucket_inputs-requires-clause-reads
bucket_inputs-requires-clause-reads c =
    let at = slice_get_read c.args.plan.now.frags (length c.args.plan.now.frags) (length c.args.outputs.now) c.index-as_slice-outputs.result refl c.requires.frag (rw c.as_slice.ensures at c.index-as_slice-outputs.is) in
    subst (λ (ss : List StreamRef). ReadsBelow (length c.args.outputs.now) ss) (sym (c.as_slice-reads.ensures ∙ ap (λ (f : FragSpec). f.inputs) (sym c.index-as_slice-outputs.is))) (reads-before c.args.plan.now (length c.args.outputs.now) c.index-as_slice-outputs.result at c.requires.plan)

pub bucket-requires-clause-next : goal.bucket-requires-clause-next
bucket-requires-clause-next c =
    let x = (goal.at.bucket-requires-clause-next c).In_ok-bucket in
    sym (c.requires.mill c.index-as_slice-outputs.result (there x)).after.next

pub bucket-requires-clause-accepts : goal.bucket-requires-clause-accepts
bucket-requires-clause-accepts c =
    let x = (goal.at.bucket-requires-clause-accepts c).In_ok-bucket in
    subst (λ (xs : List Tagged). FitsBucket c.args.mill.now.width c.args.k xs) (sym (c.as_slice-2.ensures.value ∙ gathered x))
    (mill-fits c.args.plan.now c.requires.plan (length c.args.outputs.now) c.index-as_slice-outputs.result (there x) c.args.k (within x) c.args.mill.now (c.requires.mill c.index-as_slice-outputs.result (there x)))

pub returns-clause-output : goal.returns-clause-output
returns-clause-output c =
    let x = (goal.at.returns-clause-output c).In_ok-bucket in
    let f = c.index-as_slice-outputs.result in
    let mill = c.requires.mill f (there x) in
    let plan = c.args.plan.now in
    c.in-Ok.ensures.answer (inputs_below plan f c.args.k) mill.after
    ∙ ap (λ (xs : List Tagged). added_output (engine_value (specs_of c.args.mill.now.stages)) c.args.mill.now.width
    (inputs_below plan f c.args.k) xs c.args.k) (c.as_slice-2.ensures.value ∙ gathered x)
    ∙ mill-adds plan c.requires.plan (length c.args.outputs.now) f (there x) c.args.k (within x) c.args.mill.now mill

pub returns-clause-after : goal.returns-clause-after
returns-clause-after c = λ g e.
    let x = (goal.at.returns-clause-after c).In_ok-bucket in
    let f = c.index-as_slice-outputs.result in
    let mill = c.requires.mill f (there x) in
    let plan = c.args.plan.now in
    let i = length c.args.outputs.now in
    let past = inputs_below plan f c.args.k in
    let took = subst (λ (xs : List Tagged). MillAfter c.bucket.new.self (past ++ xs) (c.args.k + 1)) (c.as_slice-2.ensures.value ∙ gathered x) (c.in-Ok.ensures.after past mill.after) in
    subst (λ (h : FragSpec). IsMillAt plan h (c.args.k + 1) c.bucket.new.self) (same-frag plan.frags i f g (there x) e)
    (mill-more plan c.requires.plan i f (there x) c.args.k (within x) c.args.mill.now mill c.bucket.new.self (same_Some c.bucket.new.self.width c.args.mill.now.width c.bucket.ensures.width) c.bucket.ensures.operators took)
