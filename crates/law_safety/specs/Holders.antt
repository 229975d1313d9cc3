-- Who holds tuples of a stream, and what they hold of it.
use Rattle.std.specs.Prelude.{ℕ, Option, Some, None, slice_get}
use Rattle.dpc_model.specs.Reading.{Reader}
use Rattle.dpc_model.specs.Actors.{role_of}
use Rattle.dpc_model.specs.declared.actors.Role.{Role}
use Rattle.dpc_model.specs.declared.actors.Role.TheVariants.{Source as IsSource, Node as IsNode, Client as IsClient, Nobody}
use Rattle.dpc_model.specs.Ports.{Port}
use Rattle.dpc_model.specs.declared.plans.StreamRef.{StreamRef}
use Rattle.node_model.specs.Nodes.{Home, PlainNode, streams_of}
use Rattle.node_model.specs.Clients.{ClientState, client_stream, reader_of}
use Rattle.world_model.specs.Worlds.{World, home_of, slot_of}

-- a reader of a stream: a client, or a port of an actor that is a node
pub data Holder : Type 0 where
  AtClient : (c : ℕ) → Holder
  AtPort : (a p : ℕ) → Holder

abbrev pub client_holds : World → ℕ → Option ClientState → Option (StreamRef × Reader)
client_holds w c None = None
client_holds w c (Some x) = Some (client_stream w.plan c, reader_of x)

abbrev pub port_holds : Option StreamRef → Option Port → Option (StreamRef × Reader)
port_holds None q = None
port_holds (Some s) None = None
port_holds (Some s) (Some q) = Some (s, q.inlet.held)

abbrev pub node_holds : Home → ℕ → Option PlainNode → Option (StreamRef × Reader)
node_holds home p None = None
node_holds home p (Some n) = port_holds (slice_get (streams_of home) p) (slice_get n.ports p)

abbrev pub role_holds : World → ℕ → ℕ → Role → Option (StreamRef × Reader)
role_holds w a p (IsNode f r) = node_holds (home_of w.plan (f, r)) p (slot_of w a).node
role_holds w a p (IsSource s) = None
role_holds w a p (IsClient c) = None
role_holds w a p Nobody = None

-- the stream that a holder reads and what it holds of it, where it is there and up
abbrev pub holding : World → Holder → Option (StreamRef × Reader)
holding w (AtClient c) = client_holds w c (slice_get w.clients c)
holding w (AtPort a p) = role_holds w a p (role_of w.plan a)
