-- What a source sends: nothing that may be corrected.
use Rattle.std.specs.Prelude.{◌≡◌, ⊤, ℕ, ◌⊎◌, Bool, true, false, List, [], ◌∷◌, ◌++◌, Some, slice_get}
use Rattle.dpc_lists.specs.Lists.{list_all}
use Rattle.dpc_model.specs.Actors.{role_of}
use Rattle.dpc_model.specs.declared.actors.Role.TheVariants.{Source as IsSource}
use Rattle.dpc_model.specs.declared.tuples.Item.{Item}
use Rattle.dpc_model.specs.declared.tuples.Item.TheVariants.{Stable, Tentative, Passed, Boundary, Undo, RecDone}
use Rattle.dpc_model.specs.declared.messages.Event.{Event}
use Rattle.dpc_model.specs.declared.messages.Sess.{Sess}
use Rattle.dpc_model.specs.declared.messages.Subscribe.{Subscribe}
use Rattle.dpc_model.specs.declared.messages.Message.TheVariants as message
use Rattle.dpc_model.specs.declared.plans.Plan.{Plan}
use Rattle.node_model.specs.Mails.{Packet, Plain, SnapFor}
use Rattle.world_model.specs.Worlds.{Envelope, run}

-- an item that is never corrected
abbrev pub is_sure_item : Item → Bool
is_sure_item (Stable k t) = true
is_sure_item (Boundary b m) = true
is_sure_item (Tentative t) = false
is_sure_item (Passed b) = false
is_sure_item (Undo n) = false
is_sure_item RecDone = false

-- the items answer a subscription of a reader that holds tentative tuples: those go, what follows is sure, and the corrections end
pub record AnswersTentative (es : List Envelope) (a to : ℕ) (u : Sess) (items : List Item) : Type 0 where
  pub place : ℕ
  pub envelope : Envelope
  pub asked : Subscribe
  pub sure : List Item
  pub there : slice_get es place ≡ Some envelope
  pub of_reader : envelope.sender ≡ to
  pub at_sender : envelope.to ≡ a
  pub asks : envelope.packet ≡ Plain (message.Subscribe asked)
  pub session : asked.sess ≡ u
  pub tentative : asked.tentative ≡ true
  pub are_sure : list_all is_sure_item sure ≡ true
  pub all : items ≡ Undo asked.n ∷ (sure ++ RecDone ∷ [])

-- a source sends beats, and batches of sure items, or of such an answer with number 0
abbrev pub SendsSurely : List Envelope → ℕ → ℕ → Packet → Type 0
SendsSurely es a to (Plain (message.Batch u index items)) = (list_all is_sure_item items ≡ true) ⊎ ((index ≡ 0) × AnswersTentative es a to u items)
SendsSurely es a to (Plain (message.Beat b)) = ⊤
SendsSurely es a to (Plain (message.Subscribe asked)) = ⊥
SendsSurely es a to (Plain (message.Truncated u base)) = ⊥
SendsSurely es a to (Plain (message.Ack i n)) = ⊥
SendsSurely es a to (Plain (message.Ask i n)) = ⊥
SendsSurely es a to (Plain (message.Grant i n)) = ⊥
SendsSurely es a to (Plain (message.SnapAsk i n)) = ⊥
SendsSurely es a to (SnapFor i try s) = ⊥

-- so does every source that sent one of these envelopes
abbrev pub SourcesSendSurely : Plan → List Envelope → Type 0
SourcesSendSurely plan es = (k s : ℕ) (e : Envelope) → slice_get es k ≡ Some e → role_of plan e.sender ≡ IsSource s → SendsSurely es e.sender e.to e.packet

abbrev pub SourcesAreSure : Plan → List Event → Type 0
SourcesAreSure plan events = SourcesSendSurely plan (run plan events).envelopes
