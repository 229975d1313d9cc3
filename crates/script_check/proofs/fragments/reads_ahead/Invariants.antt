use Rattle.std.proofs.Common.{◌≡◌, false, map, take}
use Rattle.std.specs.Prelude.{is_none}
use Rattle.dpc_lists.specs.Lists.{list_any}
use Rattle.dpc_model.specs.ScriptText.{stream_name}
use Rattle.script_check.specs.Locals.{stream_of}
use Rattle.script_check.proofs.fragments.reads_ahead.Given as goal

abbrev pub invariant-loop-stream : goal.invariant-loop-stream
invariant-loop-stream l = list_any (λ w. is_none (stream_of l.plan.sources l.before w)) (map (stream_name l.plan) (take l.stream-index l.streams)) ≡ false
