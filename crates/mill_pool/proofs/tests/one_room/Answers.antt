use Rattle.std.proofs.Common.{◌≡◌, ◌∷◌, ◌++◌, []}
use Rattle.mill_pool.proofs.Gathering.{last_of, others_of}
use Rattle.mill_pool.proofs.tests.one_room.Goals as goal

pub exchange-requires-clause-first : goal.exchange-requires-clause-first
exchange-requires-clause-first g c = let all : c.in_ok-pool.seats.items ≡ c.pop.new.self.items ++ c.in-Some.second ∷ [] = (c.in-Some.ensures {u = tt}).items in
    let rest : c.pop.new.self.items ≡ c.pop-2.new.self.items ++ c.in-Some-pop.first ∷ [] = (c.in-Some-pop.ensures {u = tt}).items in
    last_of c.in_ok-pool.pool.queue _ _ _ rest (others_of c.in_ok-pool.pool.queue _ _ _ all c.in_ok-pool.ensures.all.0)

pub exchange-requires-clause-second : goal.exchange-requires-clause-second
exchange-requires-clause-second g c = let all : c.in_ok-pool.seats.items ≡ c.pop.new.self.items ++ c.in-Some.second ∷ [] = (c.in-Some.ensures {u = tt}).items in
    last_of c.in_ok-pool.pool.queue _ _ _ all c.in_ok-pool.ensures.all.0
