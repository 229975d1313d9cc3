use Rattle.std.proofs.Common.{ap, ◌∙◌}
use Rattle.saved_slots.specs.Slots.{given}
use Rattle.saved_slots.proofs.Found.{none_given}
use Rattle.saved_slots.proofs.slots.shut_both.Goals as goal

pub returns-clause-shut : goal.returns-clause-shut
returns-clause-shut g c honest =
    let again = c.write.ensures.honest honest in
    let twice = c.write-2.ensures.honest again in
    ap (given c.args.room) (c.in_ok-sync.ensures.seen twice)
    ∙ none_given c.args.room _ _ _ c.requires.roomy (c.in_ok-write.ensures.written honest) (c.in_ok-write-2.ensures.written again)
