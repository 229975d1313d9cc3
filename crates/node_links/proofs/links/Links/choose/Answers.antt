use Rattle.std.proofs.Common.{◌∙◌, ap}
use Rattle.upstream.specs.Upstreams.{UpstreamValue, with_choice, asked_actor}
use Rattle.node_links.proofs.Viewing.{port-low, port-seen, upstream-is}
use Rattle.node_links.proofs.links.Links.choose.Goals as goal

pub choose-requires : goal.choose-requires
choose-requires c = let l = c.self.inside in port-low l.ports l.replicas.items l.me l.grants l.watches l.tries c.args.self.now c.args.port c.self.view_is c.requires

pub returns-clause-after : goal.returns-clause-after
returns-clause-after c =
    let l = c.self.inside in
    port-seen l.ports c.choose.new.self l.replicas.items l.me l.grants l.watches l.tries c.args.self.now c.args.port (with_choice c.args.broken c.args.answered) c.self.view_is c.choose.ensures.after

pub returns-clause-asked : goal.returns-clause-asked
returns-clause-asked c =
    let l = c.self.inside in
    c.choose.ensures.asked ∙ ap (λ (u : UpstreamValue). asked_actor c.args.broken c.args.answered u)
    (upstream-is l.ports l.replicas.items l.me l.grants l.watches l.tries c.args.self.now c.args.port c.self.view_is)
