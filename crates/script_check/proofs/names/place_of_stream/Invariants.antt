use Rattle.std.proofs.Common.{◌≡◌, false, map, take}
use Rattle.dpc_model.specs.ScriptText.{stream_name}
use Rattle.script_rules.specs.Reasons.{is_among}
use Rattle.script_check.proofs.names.place_of_stream.Given as goal

-- none so far
abbrev pub invariant-loop-i : goal.invariant-loop-i
invariant-loop-i l = is_among l.name (map (stream_name l.plan) (take l.i l.streams)) ≡ false
