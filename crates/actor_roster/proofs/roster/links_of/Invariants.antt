use Rattle.std.proofs.Common.{◌≡◌, ◌/◌, ◌%◌, map}
use Rattle.dpc_lists.specs.Lists.{range_with_len}
use Rattle.dpc_model.specs.Actors.{are_linked}
use Rattle.actor_roster.proofs.roster.links_of.Given as goal

abbrev pub invariant-loop-place : goal.invariant-loop-place
invariant-loop-place l = l.links.items ≡ map (λ place. are_linked l.plan (place / l.width) (place % l.width)) (range_with_len 0 l.place)
