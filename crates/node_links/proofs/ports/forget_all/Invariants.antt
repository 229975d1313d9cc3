use Rattle.std.proofs.Common.{◌≡◌}
use Rattle.upstream.specs.Upstreams.{with_no_tick}
use Rattle.node_links.specs.Linking.{seen_otherwise}
use Rattle.dpc_lists.proofs.Mapped.{mapped_to}
use Rattle.node_links.proofs.ports.forget_all.Given as goal

-- so many ports
abbrev pub invariant-loop-upstream : goal.invariant-loop-upstream
invariant-loop-upstream l = l.upstreams ≡ mapped_to (seen_otherwise with_no_tick) l.upstream-index l.fn.upstreams
