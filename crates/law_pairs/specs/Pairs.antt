-- One stream made of what two clients of one stream take in a run.
use Rattle.std.specs.Prelude.{◌≡◌, ◌⊎◌, ℕ, ◌<◌, List, [], ◌∷◌, ◌++◌, length, Contains}
use Rattle.dpc_model.specs.Reading.{Reader, empty_reader}
use Rattle.dpc_model.specs.declared.messages.Event.{Event}
use Rattle.dpc_model.specs.declared.plans.Plan.{Plan}
use Rattle.dpc_model.specs.declared.tuples.Item.{Item}
use Rattle.dpc_model.specs.declared.tuples.Item.TheVariants.{Tentative}
use Rattle.dpc_model.specs.declared.tuples.Tuple.{Tuple}
use Rattle.node_model.specs.Clients.{client_stream, reader_of}
use Rattle.world_model.specs.Worlds.{World, client_at, new_world, happens, run}
use Rattle.world_model.specs.Safe.{HoldsOf, AreTrueItems}
use Rattle.law_session_origins.specs.Standing.{takes}
use Rattle.back_channel.specs.Merging.{Merged, merge, items_between, Leaves, OneBegins}
use Rattle.back_channel.specs.Told.{reader_of as reader_with}

-- ---- the stream

-- what a client holds
abbrev pub held_at : World → ℕ → Reader
held_at w c = reader_of (client_at w c)

-- the merge of what two clients hold
abbrev pub merge_at : World → ℕ → ℕ → Merged
merge_at w x y = merge (held_at w x) (held_at w y)

-- what an event adds: the items from the merge before to the merge after
abbrev pub told_of : World → Event → ℕ → ℕ → List Item
told_of w e x y = items_between (merge_at w x y) (merge_at (happens w e) x y)

abbrev pub told_from : World → ℕ → ℕ → List Event → List Item
told_from w x y [] = []
told_from w x y (e ∷ events) = told_of w e x y ++ told_from (happens w e) x y events

-- what the events of a run add, one behind another
unfoldable pub pair_items : Plan → List Event → ℕ → ℕ → List Item
pair_items plan events x y = told_from (new_world plan) x y events

-- ---- what holds of it

-- two clients of one stream
pub record AreReaders (plan : Plan) (x y : ℕ) : Type 0 where
  pub first : x < length plan.clients
  pub second : y < length plan.clients
  pub same : client_stream plan x ≡ client_stream plan y

-- at an event each of two clients goes on by what it takes, and before and after it one's stable tuples begin with the other's
pub record GoTogether (w : World) (e : Event) (x y : ℕ) : Type 0 where
  pub first : Leaves (held_at w x) (takes w e x) (held_at (happens w e) x)
  pub second : Leaves (held_at w y) (takes w e y) (held_at (happens w e) y)
  pub before : OneBegins (held_at w x).stable (held_at w y).stable
  pub after : OneBegins (held_at (happens w e) x).stable (held_at (happens w e) y).stable

-- a client took this item in a run
abbrev pub WasTaken : Plan → List Event → ℕ → Item → Type 0
WasTaken plan events c item = Contains (client_at (run plan events) c).taken item

pub record IsOneStream (plan : Plan) (events : List Event) (x y : ℕ) : Type 0 where
  -- each item has a reading behind those before it, and all leave the merge
  pub leaves : Leaves empty_reader (pair_items plan events x y) (reader_with (merge_at (run plan events) x y))
  -- the merge's stable tuples are a beginning of the failure-free output, and are all up to its bound
  pub holds : HoldsOf plan (client_stream plan x) (reader_with (merge_at (run plan events) x y))
  -- each stable tuple is the failure-free one of its number, and each boundary counts the failure-free ones
  pub are_true : AreTrueItems plan (client_stream plan x) (pair_items plan events x y)
  -- each tentative one was taken by one of the two
  pub tentative : (t : Tuple) → Contains (pair_items plan events x y) (Tentative t)
      → WasTaken plan events x (Tentative t) ⊎ WasTaken plan events y (Tentative t)
