use Rattle.std.proofs.Common.{◌≡◌, false, map, take}
use Rattle.script_rules.specs.Reasons.{is_among}
use Rattle.script_draft.proofs.named.place_of.Given as goal

-- none so far
abbrev pub invariant-loop-i : goal.invariant-loop-i
invariant-loop-i g l = is_among l.name (map g.T.Named.name (take l.i l.all)) ≡ false
