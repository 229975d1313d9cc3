use Rattle.std.proofs.Common.{◌≡◌, ◌-◌, ◌∙◌, refl, ap, length, arith}
use Rattle.dpc_lists.specs.Lists.{changed}
use Rattle.script_rules.specs.Drafts.{with_op}
use Rattle.script_draft.proofs.Changes.{set-changed}
use Rattle.script_draft.proofs.Columns.{some-long}
use Rattle.script_draft.proofs.draft.operators.push_operator.Goals as goal

pub returns-clause-ok : goal.returns-clause-ok
returns-clause-ok c =
    let fs = c.args.frags.now.items in
    let some = some-long fs c.requires in
    let many : c.len-last.result - 1 ≡ length fs - 1 = omega (arith, c.args.frags.now.ok) in
    set-changed (with_op c.args.op) fs (c.len-last.result - 1) c.index_mut.result.now _ (omega (arith, some, c.args.frags.now.ok)) c.index_mut.ensures.value (rw c.in_ok-push.ensures.ok refl)
    ∙ ap (λ i. changed i (with_op c.args.op) fs) many
