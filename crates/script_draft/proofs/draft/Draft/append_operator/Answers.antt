use Rattle.std.proofs.Common.{◌≡◌, ◌-◌, ◌∙◌, false, length, map, refl, sym, ap, subst}
use Rattle.dpc_lists.specs.Lists.{is_nil}
use Rattle.dpc_model.specs.Columns.{kind_columns, wire_columns}
use Rattle.script_rules.specs.Drafts.{with_op}
use Rattle.script_draft.specs.Columns.{source_columns, ports_of, outs_of}
use Rattle.script_draft.specs.contracts.draft.Draft.{the_view}
use Rattle.script_draft.proofs.Nodes.{few-changed}
use Rattle.script_draft.proofs.Columns.{columns-operator, ports-same, outs-same}
use Rattle.script_draft.proofs.draft.Draft.append_operator.Goals as goal

pub invariant_of-self-in-Ok : goal.invariant_of-self-in-Ok
invariant_of-self-in-Ok c =
    let d = the_view c.self.inside in
    let op = c.args.op in
    let frags = c.self.inside.frags.items in
    let some = subst (λ x. is_nil x.frags ≡ false) (sym c.self.view_is) c.requires.part in
    let columns = subst (λ x. c.args.columns ≡ kind_columns op.kind (map (wire_columns (ports_of x) (outs_of x)) op.reads)) (sym c.self.view_is) c.requires.columns in
    let ports = ports-same d _ _ _ c.self.invariant.columns in
    let outs = outs-same d _ _ _ c.self.invariant.columns in
    let is : c.args.columns ≡ kind_columns op.kind (map (wire_columns c.self.inside.ports.items c.self.inside.outs.items) op.reads) =
    columns ∙ ap (λ p. kind_columns op.kind (map (wire_columns p (outs_of d)) op.reads)) ports
    ∙ ap (λ o. kind_columns op.kind (map (wire_columns c.self.inside.ports.items o) op.reads)) outs in
    record {
      entries = c.self.invariant.entries;
      down = c.self.invariant.down;
      nodes = rw c.in-Ok.ensures.ok (few-changed (with_op op) (length frags - 1) frags (λ x. refl) c.self.invariant.nodes);
      columns = rw (c.in-Ok.ensures.ok, c.in_ok-push.ensures.items)
          (columns-operator (source_columns c.self.inside.sources.items) op frags _ _ _ c.args.columns c.self.invariant.columns some is c.requires.few);
    }
