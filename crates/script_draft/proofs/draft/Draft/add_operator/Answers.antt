use Rattle.std.proofs.Common.{◌≡◌, ◌∷◌, [], ◌∙◌, map, sym, ap}
use Rattle.dpc_lists.specs.Lists.{nth}
use Rattle.dpc_model.specs.Columns.{kind_columns, wire_columns}
use Rattle.script_rules.specs.Drafts.{wire_named}
use Rattle.script_rules.specs.Reasons.{input_columns}
use Rattle.script_rules.specs.Statements.{OperatorLine}
use Rattle.script_rules.proofs.Passing.{is_fine}
use Rattle.script_draft.specs.Names.{names_in}
use Rattle.script_draft.specs.Columns.{ports_of, outs_of}
use Rattle.script_draft.proofs.Found.{reads-same, kind-two}
use Rattle.script_draft.proofs.draft.Draft.add_operator.Goals as goal

pub append_operator-requires-clause-columns : goal.append_operator-requires-clause-columns
append_operator-requires-clause-columns c =
    let d = c.args.self.now in
    let names = names_in c.args.inputs in
    let columns = input_columns d names in
    let fine = is_fine d (OperatorLine c.args.name.now names c.args.kind) c.requires.faultless in
    let two : c.columns_of_kind-columns.result ≡ kind_columns c.args.kind (nth 0 columns 0 ∷ nth 0 columns 1 ∷ []) =
    rw (← c.first_columns-first.ensures.columns, ← c.second_columns-second.ensures.columns) c.columns_of_kind-columns.ensures in
    two ∙ sym (kind-two c.args.kind columns) ∙ ap (kind_columns c.args.kind) (sym (reads-same (ports_of d) (outs_of d) (wire_named d) names fine.known))
    ∙ ap (λ reads. kind_columns c.args.kind (map (wire_columns (ports_of d) (outs_of d)) reads)) (sym (c.from_vec-reads.ensures ∙ c.in_ok-wires.ensures))
