use Rattle.std.proofs.Common.{◌∙◌, List, ap, slice_set}
use Rattle.dpc_model.specs.Sessions.{no_session, opening_session}
use Rattle.dpc_model.specs.declared.sessions.Sub.{Sub}
use Rattle.dpc_lists.proofs.Mapped.{mapped-more}
use Rattle.soutput.proofs.batches.open_all.Goals as goal

pub loop-session-preserved : goal.loop-session-preserved
loop-session-preserved c =
    let i = c.loop-session.session-index in
    let s = c.opening.result in
    ap (λ (ss : List Sub). slice_set ss i s) c.loop-session.invariant
    ∙ mapped-more (λ _. opening_session) i c.args.sessions.now s no_session c.loop-session-test.true c.opening.ensures
