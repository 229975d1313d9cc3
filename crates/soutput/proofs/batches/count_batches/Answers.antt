use Rattle.std.proofs.Common.{◌<◌, ◌+◌, ◌^◌, ◌∙◌, ap, sym, subst, slice_set, slice_index_or, List}
use Rattle.dpc_model.specs.declared.sessions.Sub.{Sub}
use Rattle.dpc_model.specs.Sessions.{no_session, with_batch}
use Rattle.soutput.proofs.BatchLists.{counted-more, uncounted, room-at}
use Rattle.soutput.proofs.batches.count_batches.Goals as goal

pub count_batch-requires : goal.count_batch-requires
count_batch-requires c =
    let i = c.loop-session.session-index in
    let subs = c.args.sessions.now in
    let same = ap (λ (ss : List Sub). slice_index_or ss i no_session) c.loop-session.invariant ∙ uncounted i subs no_session in
    subst (λ (s : Sub). s.batches + 1 < 2 ^ 64) (sym same) (room-at i subs no_session c.requires c.loop-session-test.true)

pub loop-session-preserved : goal.loop-session-preserved
loop-session-preserved c =
    let i = c.loop-session.session-index in
    let subs = c.args.sessions.now in
    let s = c.count_batch.new.self in
    ap (λ (ss : List Sub). slice_set ss i s) c.loop-session.invariant ∙ counted-more i subs s no_session c.loop-session-test.true (c.count_batch.ensures ∙ ap with_batch (ap (λ (ss : List Sub). slice_index_or ss i no_session) c.loop-session.invariant))
