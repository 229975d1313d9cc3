use Rattle.upstream.specs.Upstreams.{with_marks_ended}
use Rattle.node_links.proofs.Viewing.{port-low, port-seen}
use Rattle.node_links.proofs.links.Links.end_marks.Goals as goal

pub end_marks-requires : goal.end_marks-requires
end_marks-requires c = let l = c.self.inside in port-low l.ports l.replicas.items l.me l.grants l.watches l.tries c.args.self.now c.args.port c.self.view_is c.requires

pub returns : goal.returns
returns c =
    let l = c.self.inside in
    port-seen l.ports c.end_marks.new.self l.replicas.items l.me l.grants l.watches l.tries c.args.self.now c.args.port (with_marks_ended c.args.count) c.self.view_is c.end_marks.ensures
