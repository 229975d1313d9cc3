-- No two readers of a stream, nor two replicas, disagree on its stable tuples.
use Rattle.std.specs.Prelude.{◌≡◌, ℕ, ◌⊎◌, if◌then◌else◌, List, take, Option, Some, None}
use Rattle.dpc_lists.specs.Lists.{IsPrefixOf}
use Rattle.dpc_model.specs.Fragments.{log_of}
use Rattle.dpc_model.specs.Reading.{Reader}
use Rattle.dpc_model.specs.Actors.{role_of}
use Rattle.dpc_model.specs.declared.actors.Role.{Role}
use Rattle.dpc_model.specs.declared.actors.Role.TheVariants.{Source as IsSource, Node as IsNode, Client as IsClient, Nobody}
use Rattle.dpc_model.specs.declared.tuples.Tuple.{Tuple}
use Rattle.dpc_model.specs.declared.messages.Event.{Event}
use Rattle.dpc_model.specs.declared.plans.Plan.{Plan}
use Rattle.dpc_model.specs.declared.plans.StreamRef.{StreamRef}
use Rattle.dpc_model.specs.declared.plans.StreamRef.TheVariants.{Source, Frag}
use Rattle.node_model.specs.Nodes.{Home, PlainNode, out_stable}
use Rattle.world_model.specs.Worlds.{World, home_of, slot_of, source_at, run}
use Rattle.law_safety.specs.Holders.{Holder, holding}

-- where stable tuples of a stream stand: at a reader, or as the output of a source or a node
pub data Place : Type 0 where
  Held : (h : Holder) → Place
  Output : (a : ℕ) → Place

abbrev pub stable_of : Option (StreamRef × Reader) → Option (StreamRef × List Tuple)
stable_of None = None
stable_of (Some x) = Some (x.0, x.1.stable)

-- a node that recovers has no output
abbrev pub node_stable : Home → Option PlainNode → Option (StreamRef × List Tuple)
node_stable home None = None
node_stable home (Some n) = if n.recovering then None else Some (Frag home.frag, out_stable home n)

abbrev pub output_stable : World → ℕ → Role → Option (StreamRef × List Tuple)
output_stable w a (IsSource s) = Some (Source s, take (source_at w s).emitted (log_of w.plan s))
output_stable w a (IsNode f r) = node_stable (home_of w.plan (f, r)) (slot_of w a).node
output_stable w a (IsClient c) = None
output_stable w a Nobody = None

-- the stream and its stable tuples at a place
abbrev pub stable_at : World → Place → Option (StreamRef × List Tuple)
stable_at w (Held h) = stable_of (holding w h)
stable_at w (Output a) = output_stable w a (role_of w.plan a)

-- of two stable lists of one stream, at whatever places and moments, one is a beginning of the other
abbrev pub NoneDisagree : Plan → List Event → List Event → Type 0
NoneDisagree plan events others =
    (x y : Place) (s : StreamRef) (ts us : List Tuple) → stable_at (run plan events) x ≡ Some (s, ts) → stable_at (run plan others) y ≡ Some (s, us) → IsPrefixOf ts us ⊎ IsPrefixOf us ts
