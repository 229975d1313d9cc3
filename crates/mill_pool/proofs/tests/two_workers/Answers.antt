use Rattle.std.proofs.Common.{◌≡◌, ◌∷◌, ◌++◌, []}
use Rattle.mill_pool.proofs.Gathering.{last_of, others_of}
use Rattle.mill_pool.proofs.tests.two_workers.Goals as goal

pub both_at_once-first-requires-clause-seats : goal.both_at_once-first-requires-clause-seats
both_at_once-first-requires-clause-seats g c = let all : c.in_ok-pool.seats.items ≡ c.pop.new.self.items ++ c.in-Some.second ∷ [] = (c.in-Some.ensures {u = tt}).items in
    let rest : c.pop.new.self.items ≡ c.pop-2.new.self.items ++ c.in-Some-pop.first ∷ [] = (c.in-Some-pop.ensures {u = tt}).items in
    λ _ _. (last_of c.in_ok-pool.pool.queue _ _ _ rest (others_of c.in_ok-pool.pool.queue _ _ _ all c.in_ok-pool.ensures.all.0), last_of c.in_ok-pool.pool.queue _ _ _ all c.in_ok-pool.ensures.all.0)
