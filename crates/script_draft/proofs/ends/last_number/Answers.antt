use Rattle.std.proofs.Common.{◌≡◌, ◌∙◌, Some, None, refl, sym}
use Rattle.dpc_lists.specs.Lists.{last_or}
use Rattle.script_draft.proofs.Lasts.{last-get}
use Rattle.script_draft.proofs.ends.last_number.Goals as goal

pub returns-in-Some : goal.returns-in-Some
returns-in-Some c =
    let last : last_or None c.args.numbers.now ≡ Some c.in-Some.number.now = last-get c.args.numbers.now ∙ sym c.in-Some.ensures.value in
    rw last refl

pub returns-in-None : goal.returns-in-None
returns-in-None c =
    let last : last_or None c.args.numbers.now ≡ None = last-get c.args.numbers.now ∙ sym c.in-None.ensures.value in
    rw last refl
