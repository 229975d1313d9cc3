use Rattle.std.proofs.Common.{rules, ◌≡◌, map, length}
use Rattle.dpc_lists.proofs.Mapped.{written-back}
use Rattle.upstream.specs.Upstreams.{with_tick}
use Rattle.node_links.specs.Linking.{seen_otherwise}
use Rattle.node_links.proofs.Kept.{kept-each, ticks-mark-none}
use Rattle.node_links.proofs.ports.Ports.tick.Goals as goal

pub invariant_of-self : goal.invariant_of-self
invariant_of-self c =
    let p = c.self.inside in
    let us = p.upstreams.items in
    let long : p.upstreams.len ≡ length us = search rules in
    let all : c.tick_all.new.upstreams ≡ map (seen_otherwise with_tick) us = search rules in
    kept-each p.table.items p.marked us _ with_tick ticks-mark-none (written-back p.upstreams.len (seen_otherwise with_tick) us c.tick_all.new.upstreams long all) c.self.invariant
