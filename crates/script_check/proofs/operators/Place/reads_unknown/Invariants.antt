use Rattle.std.proofs.Common.{◌≡◌, false, take}
use Rattle.std.specs.Prelude.{is_none}
use Rattle.dpc_lists.specs.Lists.{list_any}
use Rattle.dpc_model.specs.ScriptText.{wire_word}
use Rattle.script_check.specs.Locals.{wire_of}
use Rattle.script_check.proofs.operators.Place.reads_unknown.Given as goal

abbrev pub invariant-loop-wire : goal.invariant-loop-wire
invariant-loop-wire l = list_any (λ r. is_none (wire_of l.self.plan.now l.self.frag.now l.done (wire_word l.self.plan.now l.self.frag.now r))) (take l.wire-index l.reads) ≡ false
