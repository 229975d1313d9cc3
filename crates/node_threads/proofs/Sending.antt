-- What stands behind the lock may cross threads.
use denote.RattleType.{RattleType}
use denote.Param.Send.{IsSend, IsSync, AllSend, sendable, struct_send}
use denote.Struct.Declared.{shape}
use denote.Struct.Struct.{Struct}
use denote.Enum.Declared.{shape as cases}
use denote.Enum.Enum.{Enum}
use Rattle.std.proofs.Crossing.{crosses}
use Rattle.std.proofs.MapsCrossing as maps
use Rattle.dpc_model.proofs.Crossing.{expression-sends, operator-sends, plan-sends}
use Rattle.dpc_model.specs.contracts.plans.Plan as Plan
use Rattle.ops_join.specs.contracts.join.Join as Join
use Rattle.ops_window.specs.contracts.totals.Totals as Totals
use Rattle.ops_window.specs.contracts.pane.Pane as Pane
use Rattle.ops_window.specs.contracts.cell_map.Cells as Cells
use Rattle.ops_window.specs.contracts.aggregate.Aggregate as Aggregate
use Rattle.ops_stateless.specs.contracts.filter.Filter as Filter
use Rattle.ops_stateless.specs.contracts.map.MapOp as MapOp
use Rattle.ops_stateless.specs.contracts.union.Union as Union
use Rattle.fragment_mill.specs.contracts.operator.Operator as Operator
use Rattle.fragment_mill.specs.contracts.mill.Stage as Stage
use Rattle.fragment_mill.specs.contracts.mill.FragMill as FragMill
use Rattle.pipeline.specs.contracts.pipeline.Pipeline as Pipeline
use Rattle.pipeline.specs.contracts.snapshots.Snapshot as Snapshot
use Rattle.node_links.specs.contracts.links.Links as Links
use Rattle.node_core.specs.contracts.node.Node as Node
use Rattle.dpc_model.specs.contracts.messages.Message as Message
use Rattle.node_core.specs.contracts.packets.Packet as Packet
use Rattle.world_parts.specs.contracts.envelopes.Envelope as Envelope
use Rattle.client_fold.specs.contracts.client.Client as Client
use Rattle.source_core.specs.contracts.source.SourceNode as SourceNode
use Rattle.actor_roster.specs.contracts.roster.Roster as Roster
use Rattle.world_parts.specs.contracts.parts.WorldParts as WorldParts
use Rattle.world_core.specs.contracts.world.World as World
use Rattle.live_run.specs.contracts.run.LiveRun as LiveRun
use Rattle.std.specs.declared.sync.ledger.Ledger as ledger
use Rattle.std.proofs.sync.ledger.Book.TheSendSync as book
use Rattle.event_shares.specs.declared.names.RunName as names
use Rattle.node_threads.specs.contracts.hall.Hall as Hall

totals-send : IsSend Totals.the_row
totals-send = search (sendable, crosses) depth 60 fits 20000

totals-sync : IsSync Totals.the_row
totals-sync = search (sendable, crosses) depth 60 fits 20000

-- panes are shared, so that their totals must bear to be read by several threads
pane-sends : IsSend Pane.the_row
pane-sends = search (totals-send, totals-sync, sendable, crosses, maps.crosses) depth 60 fits 20000

cells-send : IsSend Cells.the_row
cells-send = search (pane-sends, sendable, crosses, maps.crosses) depth 60 fits 20000

aggregate-sends : IsSend Aggregate.the_row
aggregate-sends = search (cells-send, sendable, crosses, maps.crosses) depth 60 fits 20000

join-sends : IsSend Join.the_row
join-sends = search (sendable, crosses) depth 60 fits 20000

filter-sends : IsSend Filter.the_row
filter-sends = search (expression-sends, sendable, crosses) depth 60 fits 20000

map-sends : IsSend MapOp.the_row
map-sends = search (expression-sends, sendable, crosses) depth 60 fits 20000

union-sends : IsSend Union.the_row
union-sends = search (sendable, crosses) depth 60 fits 20000

operator-cases : IsSend (Enum (cases Operator.the_type))
operator-cases = search (join-sends, aggregate-sends, filter-sends, map-sends, union-sends, sendable, crosses) depth 60 fits 20000

stage-sends : IsSend Stage.the_row
stage-sends = search (operator-cases, sendable, crosses) depth 60 fits 20000

pub mill-sends : IsSend FragMill.the_row
mill-sends = search (stage-sends, sendable, crosses) depth 60 fits 20000

plan-fields : IsSend (Struct (shape Plan.the_type))
plan-fields = search (operator-sends, sendable, crosses) depth 60 fits 20000

roster-inside : IsSend Roster.TheInside.the_row
roster-inside = search (plan-fields, sendable, crosses) depth 60 fits 20000

roster-sends : IsSend Roster.the_row
roster-sends = search (roster-inside, sendable) depth 20 fits 20000

snapshot-sends : IsSend Snapshot.the_row
snapshot-sends = search (mill-sends, sendable, crosses) depth 60 fits 20000

message-cases : IsSend (Enum (cases Message.the_type))
message-cases = search (sendable, crosses) depth 60 fits 20000

packet-cases : IsSend (Enum (cases Packet.the_type))
packet-cases = search (message-cases, snapshot-sends, sendable, crosses) depth 60 fits 20000

envelope-sends : IsSend Envelope.the_row
envelope-sends = search (packet-cases, sendable, crosses) depth 60 fits 20000

pipeline-sends : IsSend Pipeline.the_row
pipeline-sends = search (mill-sends, snapshot-sends, sendable, crosses) depth 60 fits 20000

links-send : IsSend Links.the_row
links-send = search (sendable, crosses) depth 60 fits 20000

node-sends : IsSend Node.the_row
node-sends = search (pipeline-sends, links-send, sendable, crosses) depth 60 fits 20000

client-sends : IsSend Client.the_row
client-sends = search (sendable, crosses) depth 60 fits 20000

source-sends : IsSend SourceNode.the_row
source-sends = search (sendable, crosses) depth 60 fits 20000

parts-send : IsSend WorldParts.the_row
parts-send = search (node-sends, client-sends, source-sends, envelope-sends, sendable, crosses) depth 60 fits 20000

world-sends : IsSend World.the_row
world-sends = search (roster-sends, parts-send, sendable, crosses) depth 60 fits 20000

pub run_sends : IsSend LiveRun.the_row
run_sends = search (world-sends, sendable, crosses) depth 60 fits 20000

-- and what has it with a book, whatever names both
module _ (N : RattleType) (r : names.Ghosts N.Denot) (l : ledger.Ghosts N.Denot) where
  hall_fields : AllSend (shape (Hall.TheInside.the_type N r l)).fields
  hall_fields = (run_sends, (book.the_send N l, (search sendable depth 40, (search sendable depth 20, tt))))

  hall_plain : IsSend (Struct (shape (Hall.TheInside.the_type N r l)))
  hall_plain = struct_send (shape (Hall.TheInside.the_type N r l)) hall_fields

  hall_inside : IsSend (Hall.TheInside.the_row N r l)
  hall_inside = search (hall_plain, sendable) depth 20

  pub hall_sends : IsSend (Hall.the_row N r l)
  hall_sends = search (hall_inside, sendable) depth 20
