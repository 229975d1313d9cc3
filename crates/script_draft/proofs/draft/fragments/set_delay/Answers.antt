use Rattle.std.proofs.Common.{◌≡◌, ◌-◌, ◌∙◌, refl, ap, length, arith}
use Rattle.dpc_lists.specs.Lists.{changed}
use Rattle.script_rules.specs.Drafts.{with_delay}
use Rattle.script_draft.proofs.Changes.{set-changed}
use Rattle.script_draft.proofs.draft.fragments.set_delay.Goals as goal

pub returns-then-count-gt0 : goal.returns-then-count-gt0
returns-then-count-gt0 c =
    let fs = c.args.frags.now.items in
    let many : c.len-count.result - 1 ≡ length fs - 1 = omega (arith, c.args.frags.now.ok) in
    set-changed (with_delay c.args.delay) fs (c.len-count.result - 1) c.index_mut.result.now _ (omega (arith, c.args.frags.now.ok)) c.index_mut.ensures.value refl
    ∙ ap (λ i. changed i (with_delay c.args.delay) fs) many
