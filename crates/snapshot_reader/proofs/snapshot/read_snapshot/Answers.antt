use Rattle.std.proofs.Common.{sym, ◌∙◌}
use Rattle.std.specs.Prelude.{Err}
use Rattle.std.proofs.lemmas.Result.{err_from_is_err_and}
use Rattle.snapshot_form.specs.Reading.{plain_at}
use Rattle.snapshot_reader.specs.declared.faults.ReadFault.TheVariants.{NoReading}
use Rattle.snapshot_reader.proofs.Whole.{Says, none-read, goes-on, ends, told-of, frag-ops}
use Rattle.snapshot_reader.proofs.snapshot.read_snapshot.Goals as goal
use Rattle.snapshot_reader.proofs.snapshot.read_snapshot.Goals.{After-made_of}

pub returns-in_err-plain-clause-none : goal.returns-in_err-plain-clause-none
returns-in_err-plain-clause-none c =
    let plan = c.args.plan.now in
    let ops = frag-ops plan c.args.frag c.as_slice.result.now c.index-as_slice-frag.result c.as_slice-ops.result.now c.requires.known c.as_slice.ensures c.index-as_slice-frag.is c.as_slice-ops.ensures in
    let p = err_from_is_err_and c.from_residual.result c.from_residual.ensures.1 in
    rw (p.1, p.2)
    (told-of plan c.args.frag c.args.bytes.now c.new-bytes.result c.as_slice-ops.result.now (Err c.in_err-plain.field-0.0) ops c.new-bytes.ensures
    (none-read plan c.args.frag (plain_at c.as_slice-ops.result.now c.new-bytes.result) c.in_err-plain.field-0.0 c.read_plain.new.bytes c.in_err-plain.ensures)).none

pub returns-then-not-is_at_end-clause-none : goal.returns-then-not-is_at_end-clause-none
returns-then-not-is_at_end-clause-none c =
    let plan = c.args.plan.now in
    let ops = frag-ops plan c.args.frag c.as_slice.result.now c.index-as_slice-frag.result c.as_slice-ops.result.now c.requires.known c.as_slice.ensures c.index-as_slice-frag.is c.as_slice-ops.ensures in
    (told-of plan c.args.frag c.args.bytes.now c.new-bytes.result c.as_slice-ops.result.now (Err NoReading) ops c.new-bytes.ensures
    (goes-on plan c.args.frag (plain_at c.as_slice-ops.result.now c.new-bytes.result) c.in_ok-plain.plain c.read_plain.new.bytes c.in_ok-plain.ensures (sym c.is_at_end.ensures ∙ c.if-not-is_at_end.true))).none

says : (c : After-made_of) → Says c.args.plan.now c.args.frag c.args.bytes.now c.made_of.result
says c =
    let plan = c.args.plan.now in
    let ops = frag-ops plan c.args.frag c.as_slice.result.now c.index-as_slice-frag.result c.as_slice-ops.result.now c.requires.known c.as_slice.ensures c.index-as_slice-frag.is c.as_slice-ops.ensures in
    told-of plan c.args.frag c.args.bytes.now c.new-bytes.result c.as_slice-ops.result.now c.made_of.result ops c.new-bytes.ensures
    (ends plan c.args.frag (plain_at c.as_slice-ops.result.now c.new-bytes.result) c.in_ok-plain.plain c.read_plain.new.bytes c.made_of.result c.in_ok-plain.ensures
    (sym c.is_at_end.ensures ∙ c.if-not-is_at_end.false) c.made_of.ensures)

pub returns-clause-reading : goal.returns-clause-reading
returns-clause-reading c = (says c).reading

pub returns-clause-none : goal.returns-clause-none
returns-clause-none c = (says c).none
