use Rattle.std.proofs.Common.{◌≡◌, sym, ap, ◌∙◌, rules}
use Rattle.mill_pool.specs.Seats.{known}
use Rattle.mill_pool.proofs.Steps.{pushes, sees}
use Rattle.mill_pool.proofs.pool.Pool.put.Goals as goal

pub push_as-requires-clause-rule : goal.push_as-requires-clause-rule
push_as-requires-clause-rule g c =
    let many : c.len.result ≡ (known c.seat.inside.pass).puts = search rules in
    let ticket : c.new.result.ticket ≡ record { seat = c.seat.inside.number; number = c.len.result } = ap (λ j. j.ticket) c.new.ensures in (
      pushes _ _ _ c.new.result c.seat.invariant.live (ap (λ t. t.seat) ticket ∙ sym c.seat.invariant.numbered) (ap (λ t. t.number) ticket ∙ many),
      sees _ _,
    )
