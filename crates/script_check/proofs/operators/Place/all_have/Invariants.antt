use Rattle.std.proofs.Common.{◌≡◌, true, take}
use Rattle.std.specs.Prelude.{◌==◌}
use Rattle.dpc_lists.specs.Lists.{list_all}
use Rattle.script_check.specs.Locals.{read_columns, port_columns}
use Rattle.script_check.proofs.operators.Place.all_have.Given as goal

abbrev pub invariant-loop-wire : goal.invariant-loop-wire
invariant-loop-wire l =
    list_all (λ n. n == l.columns) (read_columns l.self.plan.now l.self.frag.now l.done (port_columns l.self.plan.now l.self.before.now l.self.columns.now l.self.frag.now) l.outs (take l.wire-index l.reads)) ≡ true
