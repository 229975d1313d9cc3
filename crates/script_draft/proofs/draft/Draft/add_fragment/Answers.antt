use Rattle.std.proofs.Common.{◌≡◌, map, subst}
use Rattle.script_rules.specs.Statements.{FragmentLine}
use Rattle.script_rules.proofs.Passing.{is_fine}
use Rattle.script_draft.specs.Names.{names_in}
use Rattle.script_draft.specs.Columns.{columns_in, source_columns}
use Rattle.script_draft.proofs.Found.{streams-among}
use Rattle.script_draft.proofs.draft.Draft.add_fragment.Goals as goal

pub append_fragment-requires-clause-inputs : goal.append_fragment-requires-clause-inputs
append_fragment-requires-clause-inputs c =
    let fine = is_fine c.args.self.now (FragmentLine c.args.name.now c.args.replicas (names_in c.args.streams)) c.requires.faultless in
    rw (c.from_vec.ensures, c.in_ok-inputs.ensures) (streams-among c.args.self.now (names_in c.args.streams) fine.stream)

pub append_fragment-requires-clause-ports : goal.append_fragment-requires-clause-ports
append_fragment-requires-clause-ports c =
    let ports : c.in_ok-ports.ports.items ≡ map (columns_in (source_columns c.self.inside.sources.items) c.in_ok-earlier.earlier.items) c.in_ok-inputs.inputs.items =
    rw (c.as_slice.ensures.value, c.as_slice-2.ensures.value, c.as_slice-3.ensures.value) at c.in_ok-ports.ensures in
    rw c.from_vec.ensures
    (subst (λ d. c.in_ok-ports.ports.items ≡ map (columns_in (source_columns d.sources) c.in_ok-earlier.earlier.items) c.in_ok-inputs.inputs.items) c.self.view_is ports)
