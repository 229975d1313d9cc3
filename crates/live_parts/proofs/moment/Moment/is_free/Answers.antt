use Rattle.std.proofs.Common.{◌≡◌, ◌∙◌, ◌&&◌, true, nat_lt, sym, ap, arith}
use Rattle.std.proofs.lemmas.Grind.{common_steps}
use Rattle.dpc_lists.specs.Lists.{is_nil}
use Rattle.live_parts.proofs.moment.Moment.is_free.Goals as goal

pub returns-then-self-gt0 : goal.returns-then-self-gt0
returns-then-self-gt0 c = λ p h.
    let begun : nat_lt 0 p.phase ≡ true = grind (arith, common_steps, h.phase, c.if-self-gt0.true) in
    c.is_directed.ensures p h ∙ ap (λ b. b && is_nil p.todo) (sym begun)
