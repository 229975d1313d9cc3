use Rattle.std.proofs.Common.{◌∙◌, ap}
use Rattle.dpc_lists.specs.Lists.{changed}
use Rattle.upstream.specs.Upstreams.{with_marks_ended}
use Rattle.node_links.specs.Linking.{seen_otherwise}
use Rattle.node_links.proofs.Kept.{port-set, kept-at, counts-mark-none}
use Rattle.node_links.proofs.ports.Ports.end_marks.Goals as goal

pub invariant_of-self : goal.invariant_of-self
invariant_of-self c =
    let p = c.self.inside in
    let f = with_marks_ended c.args.count in
    kept-at p.table.items p.marked p.upstreams.items _ c.args.port f (counts-mark-none c.args.count)
    (port-set p.upstreams.items c.args.self.now c.args.port f c.index_mut.result.now c.end_marks.new.self c.self.view_is c.requires c.index_mut.ensures.value c.end_marks.ensures) c.self.invariant

pub returns : goal.returns
returns c =
    let f = with_marks_ended c.args.count in
    port-set c.self.inside.upstreams.items c.args.self.now c.args.port f c.index_mut.result.now c.end_marks.new.self c.self.view_is c.requires c.index_mut.ensures.value c.end_marks.ensures
    ∙ ap (changed c.args.port (seen_otherwise f)) c.self.view_is
