use Rattle.std.proofs.Common.{◌≡◌, false, take}
use Rattle.std.specs.Prelude.{flat_map}
use Rattle.script_rules.specs.Drafts.{op_names}
use Rattle.script_rules.specs.Reasons.{is_among}
use Rattle.script_draft.proofs.fragments.has_operator.Given as goal

-- none so far
abbrev pub invariant-loop-frag : goal.invariant-loop-frag
invariant-loop-frag l = is_among l.name (flat_map op_names (take l.frag-index l.frags)) ≡ false
