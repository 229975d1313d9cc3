use Rattle.std.proofs.Common.{◌∙◌, ap}
use Rattle.upstream.specs.Upstreams.{with_tick}
use Rattle.node_links.specs.Linking.{LinksValue, with_upstreams}
use Rattle.node_links.proofs.Viewing.{ports-changed}
use Rattle.node_links.proofs.links.Links.tick_sessions.Goals as goal

pub returns : goal.returns
returns c =
    let l = c.self.inside in
    ports-changed l.ports c.tick.new.self l.replicas.items l.me l.grants l.watches l.tries with_tick c.tick.ensures
    ∙ ap (λ (v : LinksValue). record v { known = with_upstreams with_tick v.known }) c.self.view_is
