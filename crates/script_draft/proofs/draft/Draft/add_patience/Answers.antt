use Rattle.std.proofs.Common.{◌-◌, length, refl, sym, subst}
use Rattle.script_rules.specs.Drafts.{with_delay}
use Rattle.script_draft.specs.Caches.{HasFewNodes}
use Rattle.script_draft.specs.Columns.{AreColumns, source_columns}
use Rattle.script_draft.proofs.Nodes.{few-changed}
use Rattle.script_draft.proofs.Columns.{columns-patience}
use Rattle.script_draft.proofs.draft.Draft.add_patience.Goals as goal

pub invariant_of-self : goal.invariant_of-self
invariant_of-self c = record {
  entries = c.self.invariant.entries;
  down = c.self.invariant.down;
  nodes = subst HasFewNodes (sym c.set_delay.ensures) (few-changed (with_delay c.args.delay) (length c.self.inside.frags.items - 1) c.self.inside.frags.items (λ x. refl) c.self.invariant.nodes);
  columns = subst (λ fs. AreColumns (source_columns c.self.inside.sources.items) fs c.self.inside.earlier.items c.self.inside.ports.items c.self.inside.outs.items) (sym c.set_delay.ensures)
      (columns-patience (source_columns c.self.inside.sources.items) c.args.delay c.self.inside.frags.items _ _ _ c.self.invariant.columns);
}
