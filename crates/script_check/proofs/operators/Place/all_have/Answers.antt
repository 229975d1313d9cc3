use Rattle.std.proofs.Common.{refl, sym, ap, ◌∙◌}
use Rattle.std.specs.Prelude.{◌==◌}
use Rattle.std.proofs.lemmas.Bool.{ne_eqb}
use Rattle.dpc_model.specs.ScriptText.{wire_word}
use Rattle.script_check.specs.Locals.{name_columns, port_columns}
use Rattle.script_check.proofs.Places.{all-fails}
use Rattle.script_check.proofs.operators.Place.all_have.Goals as goal

pub returns-then-name_columns-columns : goal.returns-then-name_columns-columns
returns-then-name_columns-columns c =
    let plan = c.args.self.plan.now in
    let f = c.args.self.frag.now in
    let ports = port_columns plan c.args.self.before.now c.args.self.columns.now f in
    let outs = c.args.outs.now in
    sym (all-fails (λ n. n == c.args.columns) (λ r. name_columns plan f c.args.done.now ports outs (wire_word plan f r)) c.loop-wire.wire-index _ _ c.args.reads.now c.loop-wire-test.true refl
    (ap (λ w. name_columns plan f c.args.done.now ports outs w == c.args.columns) (sym c.name_of_wire-name.ensures) ∙ ap (λ n. n == c.args.columns) (sym c.name_columns.ensures) ∙ ne_eqb _ c.args.columns c.if-name_columns-columns.true))
