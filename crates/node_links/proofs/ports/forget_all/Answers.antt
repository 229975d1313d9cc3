use Rattle.std.proofs.Common.{◌∙◌, ap, List, slice_set, slice_index_or}
use Rattle.upstream.specs.Upstreams.{UpstreamValue, with_no_tick}
use Rattle.node_links.specs.Linking.{seen_otherwise}
use Rattle.dpc_lists.proofs.Mapped.{mapped-more}
use Rattle.node_links.proofs.ports.forget_all.Goals as goal

pub loop-upstream-preserved : goal.loop-upstream-preserved
loop-upstream-preserved c =
    let i = c.loop-upstream.upstream-index in
    let after = c.forget_session.new.self in
    let d = c.upstream-item.result in
    ap (λ (us : List UpstreamValue). slice_set us i after) c.loop-upstream.invariant
    ∙ mapped-more (seen_otherwise with_no_tick) i c.args.upstreams.now after d c.loop-upstream-test.true (c.forget_session.ensures ∙ ap (λ (us : List UpstreamValue). seen_otherwise with_no_tick (slice_index_or us i d)) c.loop-upstream.invariant)
