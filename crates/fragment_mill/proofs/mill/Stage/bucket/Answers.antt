use Rattle.std.proofs.Common.{List, refl, subst}
use Rattle.dpc_model.specs.Engines.{Accepts}
use Rattle.dpc_model.specs.declared.tuples.Tagged.{Tagged}
use Rattle.fragment_mill.specs.Mills.{width_of}
use Rattle.fragment_mill.proofs.Operators.{IsFit-stays}
use Rattle.fragment_mill.proofs.Straight.{as-they-stand}
use Rattle.fragment_mill.proofs.mill.Stage.bucket.Goals as goal

pub take-requires-clause-accepts : goal.take-requires-clause-accepts
take-requires-clause-accepts c =
    let whole = as-they-stand c.args.inputs.now c.args.outputs.now.items c.args.self.now.reads c.as_slice-reads.result.now c.as_slice-reads.ensures (c.if-are_straight.ensures refl) c.requires.serial (c.if-are_among.ensures.0 refl) in
    subst (λ (xs : List Tagged). Accepts (width_of c.args.self.now.operator) c.args.k xs) whole c.requires.accepts

pub returns-then-are_among-clause-added : goal.returns-then-are_among-clause-added
returns-then-are_among-clause-added c =
    let whole = as-they-stand c.args.inputs.now c.args.outputs.now.items c.args.self.now.reads c.as_slice-reads.result.now c.as_slice-reads.ensures (c.if-are_straight.ensures refl) c.requires.serial (c.if-are_among.ensures.0 refl) in
    rw whole c.take.ensures.added

pub returns-then-are_among-clause-after : goal.returns-then-are_among-clause-after
returns-then-are_among-clause-after c =
    let whole = as-they-stand c.args.inputs.now c.args.outputs.now.items c.args.self.now.reads c.as_slice-reads.result.now c.as_slice-reads.ensures (c.if-are_straight.ensures refl) c.requires.serial (c.if-are_among.ensures.0 refl) in
    rw whole c.take.ensures.after

pub returns-then-are_among-clause-lies : goal.returns-then-are_among-clause-lies
returns-then-are_among-clause-lies c =
    let whole = as-they-stand c.args.inputs.now c.args.outputs.now.items c.args.self.now.reads c.as_slice-reads.result.now c.as_slice-reads.ensures (c.if-are_straight.ensures refl) c.requires.serial (c.if-are_among.ensures.0 refl) in
    rw whole c.take.ensures.lies

pub returns-then-are_among-clause-fits : goal.returns-then-are_among-clause-fits
returns-then-are_among-clause-fits c = λ w f. IsFit-stays w c.args.self.now _ refl c.take.ensures.operators c.take.ensures.width f

pub returns-clause-added : goal.returns-clause-added
returns-clause-added c =
    let gathered = rw (c.as_slice-reads.ensures, c.as_slice.ensures.value) at c.in_ok-gathered.ensures in
    rw (c.as_slice-2.ensures.value, gathered) at c.take-2.ensures.added

pub returns-clause-after : goal.returns-clause-after
returns-clause-after c =
    let gathered = rw (c.as_slice-reads.ensures, c.as_slice.ensures.value) at c.in_ok-gathered.ensures in
    rw (c.as_slice-2.ensures.value, gathered) at c.take-2.ensures.after

pub returns-clause-lies : goal.returns-clause-lies
returns-clause-lies c =
    let gathered = rw (c.as_slice-reads.ensures, c.as_slice.ensures.value) at c.in_ok-gathered.ensures in
    rw (c.as_slice-2.ensures.value, gathered) at c.take-2.ensures.lies

pub returns-clause-fits : goal.returns-clause-fits
returns-clause-fits c = λ w f. IsFit-stays w c.args.self.now _ refl c.take-2.ensures.operators c.take-2.ensures.width f
