use Rattle.std.proofs.Common.{◌≡◌, false, take}
use Rattle.dpc_lists.specs.Lists.{is_nil, list_any}
use Rattle.dpc_model.specs.declared.plans.FragSpec.{FragSpec}
use Rattle.script_draft.proofs.fragments.has_empty.Given as goal

-- none so far
abbrev pub invariant-loop-frag : goal.invariant-loop-frag
invariant-loop-frag l = list_any (λ (f : FragSpec). is_nil f.ops) (take l.frag-index l.frags) ≡ false
