use Rattle.std.proofs.Common.{◌≡◌, ◌≤◌, ◌+◌, List, map, take, length, vec_len, vec_capacity, All}
use Rattle.std.specs.List.{AllZip}
use Rattle.dpc_model.specs.Actors.{nodes_of}
use Rattle.dpc_model.specs.declared.messages.Event.{Event}
use Rattle.saved_runs.specs.Disks.{IsBack, all_disks}
use Rattle.saved_runs.specs.Nodes.{IsNodeOf, IsNumbered, IsReady, past_nodes}
use Rattle.saved_runs.specs.Told.{AreSavedFrom}
use Rattle.saved_runs.proofs.telling.tell_all.Given as goal

-- the first nodes are told of, and their disks are here
abbrev pub invariant-loop-node : goal.invariant-loop-node
invariant-loop-node g l = record {
  back : AllZip (IsBack g.D.Disk) (all_disks l.fn.disks.items l.fn.nodes.items) (all_disks l.disks.items l.nodes.items);
  places : All (IsNodeOf l.plan l.room) l.nodes.items;
  taken : vec_len l.disks + vec_len l.nodes ≤ vec_capacity l.disks;
  space : vec_len l.told + vec_len l.nodes ≤ vec_capacity l.told;
  many : length l.disks.items + length l.nodes.items ≡ length l.fn.nodes.items;
  told : (events : List Event) → All (IsReady l.plan events) l.fn.nodes.items → IsNumbered (past_nodes l.plan) l.fn.nodes.items → length l.fn.nodes.items ≡ length (nodes_of l.plan)
      → All (IsReady l.plan events) l.nodes.items × IsNumbered (past_nodes l.plan) l.nodes.items
      × AreSavedFrom l.plan l.room events (length l.plan.sources) (take (length l.disks.items) (nodes_of l.plan)) (map g.D.Disk.seen l.disks.items) l.told.items;
}

abbrev pub decreases-loop-node : goal.decreases-loop-node
decreases-loop-node g l = vec_len l.nodes
