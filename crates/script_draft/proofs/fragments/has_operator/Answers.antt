use Rattle.std.proofs.Common.{◌≡◌, ◌∙◌, true, false, sym}
use Rattle.std.proofs.lemmas.List.{take_all}
use Rattle.script_rules.specs.Drafts.{op_names}
use Rattle.script_rules.specs.Reasons.{is_among}
use Rattle.script_draft.proofs.Names.{operator-here, no-operator-next}
use Rattle.script_draft.proofs.fragments.has_operator.Goals as goal

pub returns-then-has_name : goal.returns-then-has_name
returns-then-has_name c =
    let found : is_among c.args.name.now (op_names c.frag-item.result) ≡ true = rw (← c.as_slice.ensures) (sym c.has_name.ensures ∙ c.if-has_name.true) in
    sym (operator-here c.args.name.now c.loop-frag.frag-index c.frag-item.result c.args.frags.now c.loop-frag-test.true c.frag-item.is found)

pub loop-frag-preserved : goal.loop-frag-preserved
loop-frag-preserved c =
    let none : is_among c.args.name.now (op_names c.frag-item.result) ≡ false = rw (← c.as_slice.ensures) (sym c.has_name.ensures ∙ c.if-has_name.false) in
    no-operator-next c.args.name.now c.loop-frag.frag-index c.frag-item.result c.args.frags.now c.loop-frag-test.true c.frag-item.is c.loop-frag.invariant none

pub returns : goal.returns
returns c =
    let all = take_all c.loop-frag.frag-index c.args.frags.now c.loop-frag-test.false in
    sym (rw all at c.loop-frag.invariant)
