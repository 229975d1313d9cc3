use Rattle.std.proofs.Common.{◌∙◌, List, ap, slice_set, slice_index_or, refl}
use Rattle.dpc_model.specs.Sessions.{no_session, with_session_shut}
use Rattle.dpc_model.specs.declared.sessions.Sub.{Sub}
use Rattle.dpc_lists.proofs.Mapped.{mapped_to, mapped-more}
use Rattle.soutput.proofs.batches.shut_all.Goals as goal

pub loop-session-preserved : goal.loop-session-preserved
loop-session-preserved c =
    let i = c.loop-session.session-index in
    let subs = c.args.sessions.now in
    ap (λ (ss : List Sub). slice_set ss i (with_session_shut (slice_index_or ss i no_session))) c.loop-session.invariant
    ∙ mapped-more with_session_shut i subs (with_session_shut (slice_index_or (mapped_to with_session_shut i subs) i no_session)) no_session c.loop-session-test.true refl
