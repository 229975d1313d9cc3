use Rattle.std.proofs.Common.{◌≡◌, List, refl, subst}
use Rattle.dpc_model.specs.Engines.{Accepts}
use Rattle.dpc_model.specs.declared.tuples.Tagged.{Tagged}
use Rattle.fragment_mill.specs.Mills.{width_of}
use Rattle.fragment_mill.proofs.Operators.{IsFit-stays}
use Rattle.fragment_mill.proofs.Straight.{as-they-stand}
use Rattle.fragment_mill.proofs.mill.Stage.bucket_into.Goals as goal

pub bucket_into-requires-clause-accepts : goal.bucket_into-requires-clause-accepts
bucket_into-requires-clause-accepts g c =
    let whole = as-they-stand c.args.inputs.now c.args.outputs.now c.args.self.now.reads c.as_slice-reads.result.now c.as_slice-reads.ensures (c.if-are_straight.ensures refl) c.requires.serial (c.if-are_among.ensures.0 refl) in
    subst (λ (xs : List Tagged). Accepts (width_of c.args.self.now.operator) c.args.k xs) whole c.requires.accepts

pub returns-then-are_among-clause-rows : goal.returns-then-are_among-clause-rows
returns-then-are_among-clause-rows g c =
    let whole = as-they-stand c.args.inputs.now c.args.outputs.now c.args.self.now.reads c.as_slice-reads.result.now c.as_slice-reads.ensures (c.if-are_straight.ensures refl) c.requires.serial (c.if-are_among.ensures.0 refl) in
    rw whole c.bucket_into.ensures.rows

pub returns-then-are_among-clause-first : goal.returns-then-are_among-clause-first
returns-then-are_among-clause-first g c =
    let whole = as-they-stand c.args.inputs.now c.args.outputs.now c.args.self.now.reads c.as_slice-reads.result.now c.as_slice-reads.ensures (c.if-are_straight.ensures refl) c.requires.serial (c.if-are_among.ensures.0 refl) in
    rw whole c.bucket_into.ensures.first

pub returns-then-are_among-clause-after : goal.returns-then-are_among-clause-after
returns-then-are_among-clause-after g c =
    let whole = as-they-stand c.args.inputs.now c.args.outputs.now c.args.self.now.reads c.as_slice-reads.result.now c.as_slice-reads.ensures (c.if-are_straight.ensures refl) c.requires.serial (c.if-are_among.ensures.0 refl) in
    rw whole c.bucket_into.ensures.after

pub returns-then-are_among-clause-fits : goal.returns-then-are_among-clause-fits
returns-then-are_among-clause-fits g c = λ w f. IsFit-stays w c.args.self.now _ refl c.bucket_into.ensures.operators c.bucket_into.ensures.width f

pub returns-clause-rows : goal.returns-clause-rows
returns-clause-rows g c =
    let gathered = rw c.as_slice-reads.ensures at c.in_ok-gathered.ensures in
    rw (c.as_slice.ensures.value, gathered) at c.bucket_into-2.ensures.rows

pub returns-clause-first : goal.returns-clause-first
returns-clause-first g c =
    let gathered = rw c.as_slice-reads.ensures at c.in_ok-gathered.ensures in
    rw (c.as_slice.ensures.value, gathered) at c.bucket_into-2.ensures.first

pub returns-clause-after : goal.returns-clause-after
returns-clause-after g c =
    let gathered = rw c.as_slice-reads.ensures at c.in_ok-gathered.ensures in
    rw (c.as_slice.ensures.value, gathered) at c.bucket_into-2.ensures.after

pub returns-clause-fits : goal.returns-clause-fits
returns-clause-fits g c = λ w f. IsFit-stays w c.args.self.now _ refl c.bucket_into-2.ensures.operators c.bucket_into-2.ensures.width f
