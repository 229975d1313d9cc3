use Rattle.std.proofs.Common.{◌≡◌, ◌∙◌, Some, None, refl, sym}
use Rattle.dpc_lists.specs.Lists.{last_or}
use Rattle.dpc_model.specs.declared.tuples.Tuple.{Tuple}
use Rattle.script_draft.proofs.Lasts.{last-get, last-map}
use Rattle.script_draft.proofs.draft.sources.last_time.Goals as goal

pub returns-in-Some : goal.returns-in-Some
returns-in-Some c =
    let last : last_or None c.args.log.now ≡ Some c.in-Some.tuple.now = last-get c.args.log.now ∙ sym c.in-Some.ensures.value in
    rw (last-map (λ (t : Tuple). t.stime) c.args.log.now, last) refl

pub returns-in-None : goal.returns-in-None
returns-in-None c =
    let last : last_or None c.args.log.now ≡ None = last-get c.args.log.now ∙ sym c.in-None.ensures.value in
    rw (last-map (λ (t : Tuple). t.stime) c.args.log.now, last) refl
