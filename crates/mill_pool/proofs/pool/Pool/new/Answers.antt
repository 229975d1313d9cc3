use Rattle.mill_pool.proofs.Making.{HasMade, all_with}
use Rattle.mill_pool.proofs.pool.Pool.new.Goals as goal

pub returns-clause-all : goal.returns-clause-all
returns-clause-all g c =
    let made = c.in_ok-all.ensures in
    let h : HasMade c.in_ok-queue.queue c.make_seats.new.pass c.in_ok-all.all.items c.args.seats =
    record { ours = made.queue; maker = made.first; theirs = made.made.0; many = made.made.1 } in
    all_with c.in_ok-queue.queue c.make_seats.new.pass c.new.result c.in_ok-all.all.items c.insert.new.self.items c.args.seats h c.requires.seats.1
    c.new.ensures c.in_ok-insert.ensures.items
