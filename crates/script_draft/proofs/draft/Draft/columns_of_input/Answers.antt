use Rattle.std.proofs.Common.{◌≡◌, ◌≤◌, ◌∙◌, Some, sym, ap, subst}
use Rattle.std.specs.Prelude.{option_map}
use Rattle.dpc_lists.specs.Lists.{nth}
use Rattle.dpc_model.specs.Columns.{wire_columns}
use Rattle.dpc_model.specs.declared.operators.Wire.TheVariants.{Port, Op}
use Rattle.script_rules.specs.Drafts.{wire_named}
use Rattle.script_draft.specs.Columns.{ports_of, outs_of}
use Rattle.script_draft.specs.contracts.draft.Draft.{the_view}
use Rattle.script_draft.proofs.Columns.{ports-same, outs-same, few-nth}
use Rattle.script_draft.proofs.draft.Draft.columns_of_input.Goals as goal

pub returns-in-Port-clause-columns : goal.returns-in-Port-clause-columns
returns-in-Port-clause-columns c =
    let d = c.args.self.now in
    let named : wire_named d c.args.name.now ≡ Some (Port c.in-Port.port) = sym c.in_ok-port.ensures ∙ ap Some c.in-Port.is in
    let there : c.number_at.result ≡ nth 0 c.self.inside.ports.items c.in-Port.port = rw c.as_slice.ensures.value at c.number_at.ensures in
    let same = ports-same (the_view c.self.inside) _ _ _ c.self.invariant.columns in
    let at : nth 0 (ports_of d) c.in-Port.port ≡ c.number_at.result =
    subst (λ x. nth 0 (ports_of x) c.in-Port.port ≡ c.number_at.result) c.self.view_is (ap (λ l. nth 0 l c.in-Port.port) same ∙ sym there) in
    ap Some (sym at) ∙ ap (option_map (wire_columns (ports_of d) (outs_of d))) (sym named)

pub returns-in-Op-clause-columns : goal.returns-in-Op-clause-columns
returns-in-Op-clause-columns c =
    let d = c.args.self.now in
    let named : wire_named d c.args.name.now ≡ Some (Op c.in-Op.op) = sym c.in_ok-port.ensures ∙ ap Some c.in-Op.is in
    let there : c.number_at-in-Op.result ≡ nth 0 c.self.inside.outs.items c.in-Op.op = rw c.as_slice-in-Op.ensures.value at c.number_at-in-Op.ensures in
    let same = outs-same (the_view c.self.inside) _ _ _ c.self.invariant.columns in
    let at : nth 0 (outs_of d) c.in-Op.op ≡ c.number_at-in-Op.result =
    subst (λ x. nth 0 (outs_of x) c.in-Op.op ≡ c.number_at-in-Op.result) c.self.view_is (ap (λ l. nth 0 l c.in-Op.op) same ∙ sym there) in
    ap Some (sym at) ∙ ap (option_map (wire_columns (ports_of d) (outs_of d))) (sym named)

pub returns-in-Port-clause-few : goal.returns-in-Port-clause-few
returns-in-Port-clause-few c =
    let there : c.number_at.result ≡ nth 0 c.self.inside.ports.items c.in-Port.port = rw c.as_slice.ensures.value at c.number_at.ensures in
    subst (λ n. n ≤ 8) (sym there) (few-nth c.self.inside.ports.items c.in-Port.port c.self.invariant.columns.few_ports)

pub returns-in-Op-clause-few : goal.returns-in-Op-clause-few
returns-in-Op-clause-few c =
    let there : c.number_at-in-Op.result ≡ nth 0 c.self.inside.outs.items c.in-Op.op = rw c.as_slice-in-Op.ensures.value at c.number_at-in-Op.ensures in
    subst (λ n. n ≤ 8) (sym there) (few-nth c.self.inside.outs.items c.in-Op.op c.self.invariant.columns.few_outs)
