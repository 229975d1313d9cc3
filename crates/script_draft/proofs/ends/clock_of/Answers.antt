use Rattle.std.proofs.Common.{◌≡◌, ◌∙◌, Some, None, refl, sym}
use Rattle.dpc_lists.specs.Lists.{last_or}
use Rattle.dpc_model.specs.declared.scripts.Phase.{Phase}
use Rattle.script_draft.proofs.Lasts.{last-get, last-map}
use Rattle.script_draft.proofs.ends.clock_of.Goals as goal

pub returns-in-Some : goal.returns-in-Some
returns-in-Some c =
    let last : last_or None c.args.phases.now ≡ Some c.in-Some.phase.now = last-get c.args.phases.now ∙ sym c.in-Some.ensures.value in
    rw (last-map (λ (p : Phase). p.now) c.args.phases.now, last) refl

pub returns-in-None : goal.returns-in-None
returns-in-None c =
    let last : last_or None c.args.phases.now ≡ None = last-get c.args.phases.now ∙ sym c.in-None.ensures.value in
    rw (last-map (λ (p : Phase). p.now) c.args.phases.now, last) refl
