use Rattle.std.proofs.Common.{◌∙◌, ap}
use Rattle.dpc_lists.specs.Lists.{changed}
use Rattle.upstream.specs.Upstreams.{with_beat}
use Rattle.node_links.specs.Linking.{seen_otherwise}
use Rattle.node_links.proofs.Kept.{port-set, kept-at, beats-mark-none}
use Rattle.node_links.proofs.ports.Ports.note_beat.Goals as goal

pub invariant_of-self : goal.invariant_of-self
invariant_of-self c =
    let p = c.self.inside in
    let f = with_beat c.args.r c.args.beat in
    kept-at p.table.items p.marked p.upstreams.items _ c.args.port f (beats-mark-none c.args.r c.args.beat)
    (port-set p.upstreams.items c.args.self.now c.args.port f c.index_mut.result.now c.note_beat.new.self c.self.view_is c.requires.port c.index_mut.ensures.value c.note_beat.ensures) c.self.invariant

pub returns : goal.returns
returns c =
    let f = with_beat c.args.r c.args.beat in
    port-set c.self.inside.upstreams.items c.args.self.now c.args.port f c.index_mut.result.now c.note_beat.new.self c.self.view_is c.requires.port c.index_mut.ensures.value c.note_beat.ensures
    ∙ ap (changed c.args.port (seen_otherwise f)) c.self.view_is
