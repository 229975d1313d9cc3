use Rattle.std.proofs.Common.{◌≡◌, true, take}
use Rattle.dpc_lists.specs.Lists.{list_all}
use Rattle.script_rules.specs.Checking.{is_client_in_range}
use Rattle.script_check.proofs.ranges.are_clients_in_range.Given as goal

abbrev pub invariant-loop-client : goal.invariant-loop-client
invariant-loop-client l = list_all is_client_in_range (take l.client-index l.clients) ≡ true
