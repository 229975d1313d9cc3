use Rattle.std.proofs.Common.{◌∙◌, ap}
use Rattle.dpc_lists.specs.Lists.{changed}
use Rattle.upstream.specs.Upstreams.{with_truncation}
use Rattle.node_links.specs.Linking.{seen_otherwise}
use Rattle.node_links.proofs.Kept.{port-set, table-kept}
use Rattle.node_links.proofs.ports.Ports.mark_truncated.Goals as goal

pub invariant_of-self : goal.invariant_of-self
invariant_of-self c =
    let p = c.self.inside in
    let f = with_truncation c.args.r c.args.base in (
      table-kept p.table.items p.upstreams.items _ c.args.port f
          (port-set p.upstreams.items c.args.self.now c.args.port f c.index_mut.result.now c.mark_truncated.new.self c.self.view_is c.requires.port c.index_mut.ensures.value c.mark_truncated.ensures)
          c.self.invariant.0,
      λ e. absurd (cc),
    )

pub returns : goal.returns
returns c =
    let f = with_truncation c.args.r c.args.base in
    port-set c.self.inside.upstreams.items c.args.self.now c.args.port f c.index_mut.result.now c.mark_truncated.new.self c.self.view_is c.requires.port c.index_mut.ensures.value c.mark_truncated.ensures
    ∙ ap (changed c.args.port (seen_otherwise f)) c.self.view_is
