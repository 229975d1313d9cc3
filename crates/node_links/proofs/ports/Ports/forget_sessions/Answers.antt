use Rattle.std.proofs.Common.{rules, ◌≡◌, map, length}
use Rattle.dpc_lists.proofs.Mapped.{written-back}
use Rattle.upstream.specs.Upstreams.{with_no_tick}
use Rattle.node_links.specs.Linking.{seen_otherwise}
use Rattle.node_links.proofs.Kept.{kept-each}
use Rattle.node_links.proofs.ports.Ports.forget_sessions.Goals as goal

pub invariant_of-self : goal.invariant_of-self
invariant_of-self c =
    let p = c.self.inside in
    let us = p.upstreams.items in
    let long : p.upstreams.len ≡ length us = search rules in
    let all : c.forget_all.new.upstreams ≡ map (seen_otherwise with_no_tick) us = search rules in
    kept-each p.table.items p.marked us _ with_no_tick (λ u h. h) (written-back p.upstreams.len (seen_otherwise with_no_tick) us c.forget_all.new.upstreams long all) c.self.invariant
