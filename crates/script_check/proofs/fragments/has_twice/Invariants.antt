use Rattle.std.proofs.Common.{◌≡◌, map, drop}
use Rattle.dpc_model.specs.ScriptText.{stream_name}
use Rattle.script_rules.specs.Reasons.{has_twice}
use Rattle.script_check.proofs.fragments.has_twice.Given as goal

-- none before it stands twice
abbrev pub invariant-loop-i : goal.invariant-loop-i
invariant-loop-i l = has_twice (map (stream_name l.plan) l.streams) ≡ has_twice (map (stream_name l.plan) (drop l.i l.streams))
