use Rattle.std.proofs.Common.{subst, List}
use Rattle.upstream.specs.Upstreams.{UpstreamValue}
use Rattle.node_links.specs.Linking.{senders_at, IsTable}
use Rattle.node_links.proofs.Kept.{unmarked-new}
use Rattle.node_links.proofs.ports.Ports.new.Goals as goal

pub invariant_of-result : goal.invariant_of-result
invariant_of-result c = (
  subst (λ (us : List UpstreamValue). IsTable c.in_ok-table.table.items (senders_at us)) c.as_slice.ensures.value c.in_ok-table.ensures,
  λ e. unmarked-new c.args.plan.now c.args.streams.now c.in_ok-upstreams.upstreams.items c.in_ok-upstreams.ensures,
)
