use Rattle.std.proofs.Common.{◌≡◌, false, map, take}
use Rattle.dpc_model.specs.ScriptText.{stream_name}
use Rattle.script_rules.specs.Drafts.{plan_of}
use Rattle.script_rules.specs.Reasons.{is_among}
use Rattle.script_draft.proofs.draft.Draft.place_of_stream.Given as goal

-- none so far
abbrev pub invariant-loop-i : goal.invariant-loop-i
invariant-loop-i l = is_among l.name (map (stream_name (plan_of l.self)) (take l.i l.streams)) ≡ false
