use Rattle.std.proofs.Common.{rules, ◌≡◌, ◌∙◌, length, replicate}
use Rattle.dpc_model.specs.Sessions.{opening_session}
use Rattle.dpc_lists.proofs.Places.{same-each}
use Rattle.source_core.proofs.source.openings.Goals as goal

pub returns : goal.returns
returns c =
    let made : c.in_ok-sessions.sessions.items ≡ replicate (length c.args.readers.now) opening_session = search rules in
    made ∙ same-each opening_session c.args.readers.now
