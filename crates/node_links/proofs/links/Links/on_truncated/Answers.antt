use Rattle.std.proofs.Common.{◌<◌, subst, sym, length, arith, List}
use Rattle.dpc_lists.proofs.Elements.{length-changed}
use Rattle.upstream.specs.Upstreams.{UpstreamValue, with_truncation}
use Rattle.node_links.specs.Linking.{seen_otherwise}
use Rattle.node_links.proofs.Viewing.{port-low, port-seen, replica-low}
use Rattle.node_links.proofs.links.Links.on_truncated.Goals as goal

pub mark_truncated-requires-clause-port : goal.mark_truncated-requires-clause-port
mark_truncated-requires-clause-port c = let l = c.self.inside in port-low l.ports l.replicas.items l.me l.grants l.watches l.tries c.args.self.now c.args.port c.self.view_is c.requires.port

pub mark_truncated-requires-clause-replica : goal.mark_truncated-requires-clause-replica
mark_truncated-requires-clause-replica c =
    let l = c.self.inside in replica-low l.ports l.replicas.items l.me l.grants l.watches l.tries c.args.self.now c.args.port c.args.r c.self.view_is c.requires.replica

pub all_truncated-requires : goal.all_truncated-requires
all_truncated-requires c =
    let l = c.self.inside in
    let low = port-low l.ports l.replicas.items l.me l.grants l.watches l.tries c.args.self.now c.args.port c.self.view_is c.requires.port in
    let same = length-changed c.args.port (seen_otherwise (with_truncation c.args.r c.args.base)) l.ports in
    subst (λ (us : List UpstreamValue). c.args.port < length us) (sym c.mark_truncated.ensures) (omega (arith, low, same))

pub returns-clause-after : goal.returns-clause-after
returns-clause-after c =
    let l = c.self.inside in
    port-seen l.ports c.mark_truncated.new.self l.replicas.items l.me l.grants l.watches l.tries c.args.self.now c.args.port (with_truncation c.args.r c.args.base) c.self.view_is c.mark_truncated.ensures

pub returns-clause-all : goal.returns-clause-all
returns-clause-all c = c.all_truncated.ensures
