use Rattle.std.proofs.Common.{◌≡◌, ◌+◌, ◌++◌, length, drop}
use Rattle.live_view.specs.Telling.{new_tuples, new_bound}
use Rattle.live_view.proofs.teller.Gathering.add_all.Given as goal

abbrev pub invariant-loop-item : goal.invariant-loop-item
invariant-loop-item l =
    (l.self.tuples.items ++ new_tuples l.self.count (drop l.item-index l.items) ≡ l.fn.self.tuples.items ++ new_tuples l.fn.self.count l.items)
    × (new_bound l.self.count l.self.bound (drop l.item-index l.items) ≡ new_bound l.fn.self.count l.fn.self.bound l.items)
    × (l.self.count + length (new_tuples l.self.count (drop l.item-index l.items)) ≡ l.fn.self.count + length (new_tuples l.fn.self.count l.items))
