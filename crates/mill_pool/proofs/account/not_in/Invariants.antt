use Rattle.std.proofs.Common.{◌≡◌, not, take}
use Rattle.std.specs.List.{filter}
use Rattle.std.specs.HashSet.{contains}
use Rattle.mill_pool.specs.Jobs.{is_ticket}
use Rattle.mill_pool.proofs.account.not_in.Given as goal

abbrev pub invariant-loop-ticket : goal.invariant-loop-ticket
invariant-loop-ticket l = l.others.items ≡ filter (λ t. not (contains is_ticket l.set t)) (take l.ticket-index l.tickets)
