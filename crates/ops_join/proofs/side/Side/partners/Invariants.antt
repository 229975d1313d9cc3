use Rattle.std.proofs.Common.{◌≡◌, ◌-◌, ◌++◌, ◌==◌, max, reverse, length, take}
use Rattle.dpc_model.specs.declared.tuples.Tuple.{Tuple}
use Rattle.ops_join.specs.Sides.{other_end, code_of, slot_at, slot_of, is_partner, places_from, last_from}
use Rattle.ops_join.proofs.side.Side.partners.Given as goal

abbrev pub invariant-loop-link : goal.invariant-loop-link
invariant-loop-link l = record {
  last : max l.self.first l.link
      ≡ last_from (λ (t : Tuple). slot_of l.fn.end l.keys (length l.self.chains.heads.items) t == slot_at (length l.self.chains.heads.items) (code_of (other_end l.fn.end) l.keys l.of))
      l.self.first l.self.first (take (l.link - l.self.first) l.self.tuples.items);
  places : l.places.items ++ reverse (places_from (is_partner l.fn.end l.within l.keys l.of) 0 (take (l.link - l.self.first) l.self.tuples.items))
      ≡ reverse (places_from (is_partner l.fn.end l.within l.keys l.of) 0 l.self.tuples.items);
}

abbrev pub decreases-loop-link : goal.decreases-loop-link
decreases-loop-link l = l.link - l.self.first
