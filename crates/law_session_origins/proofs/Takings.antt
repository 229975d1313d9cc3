-- What a client takes: items of an envelope that is delivered to it.
use Rattle.std.proofs.Common.{◌≡◌, ℕ, zero, suc, true, false, cond, not, ◌||◌, ◌==◌, nat_lt, List, [], ◌∷◌, ◌++◌, refl, sym, ap, subst, ◌∙◌, arith, Option, Some, None, slice_get, ◌⊎◌, inl, inr, append-nil}
use Rattle.std.specs.Prelude.{Contains}
use Rattle.dpc_lists.specs.Lists.{nth, changed}
use Rattle.dpc_model.specs.Reading.{Reader, NoReading, Skipped, Taken as Reads, reading, Folded, fold_items, taken_first}
use Rattle.dpc_model.specs.Inlets.{AfterBatch, take_batch, same_sess, after_missing_batch, after_next_batch}
use Rattle.dpc_model.specs.Actors.{role_of}
use Rattle.dpc_model.specs.Ports.{sender_at}
use Rattle.dpc_model.specs.declared.actors.Role.TheVariants.{Client as IsClient}
use Rattle.dpc_model.specs.declared.batches.Taken.TheVariants.{Old}
use Rattle.dpc_model.specs.declared.tuples.Item.{Item}
use Rattle.dpc_model.specs.declared.messages.Event.{Event}
use Rattle.dpc_model.specs.declared.messages.Event.TheVariants.{Emit, Release, Crash, Restart, Deliver, Tick, Mill}
use Rattle.dpc_model.specs.declared.messages.Message.{Message}
use Rattle.dpc_model.specs.declared.messages.Message.TheVariants as message
use Rattle.dpc_model.specs.declared.messages.Sess.{Sess}
use Rattle.dpc_model.specs.declared.plans.Plan.{Plan}
use Rattle.node_model.specs.Mails.{Packet, Plain, SnapFor}
use Rattle.node_model.specs.NodeSteps.{packet_step, mill_step, tick_step}
use Rattle.node_model.specs.Sources.{source_emits, source_releases, source_packet_step, source_tick_step}
use Rattle.node_model.specs.Clients.{ClientState, client_stream, new_client, client_after_batch, client_message, client_packet, client_marks_ended, client_after_packet, client_tick_step}
use Rattle.world_model.specs.Worlds.{World, Envelope, Slot, home_of, node_place, source_at, client_at, restart_slot, source_stepped, node_stepped, client_stepped, happens}
use Rattle.world_model.specs.Orderly.{items_carried}
use Rattle.law_safety.proofs.EventCases.{AreCases, by-event}
use Rattle.law_safety.proofs.Carried.{here, there}
use Rattle.dpc_model.proofs.Folding.{first_taken}
use Rattle.law_granting.proofs.Keys.{nth-changed}

-- ---- lists

-- an element of a list is its first one, or one of the others
pub among : {X : Type 0} (y x : X) (xs : List X) → Contains (y ∷ xs) x → (y ≡ x) ⊎ Contains xs x
among y x xs (zero, less, e) = inl e
among y x xs (suc k, less, e) = inr (k, omega (arith, less), e)

pub none-there : {X : Type 0} (x : X) → Contains [] x → ⊥
none-there x c = let less = c.1 in absurd (omega (arith, less))

-- ---- the items taken

-- the items that a fold took are among those that it read
folded-among : (r : Reader) (items : List Item) (f : Folded) → fold_items r items ≡ Some f → (i : Item) → Contains f.taken i → Contains items i
folded-among r [] f e i c = let h : f ≡ record { after = r; taken = [] } = cc in absurd (none-there i (subst (λ (x : Folded). Contains x.taken i) h c))
folded-among r (x ∷ items) f e i c =
    (elim (reading r x) as (λ y. elim y as (λ _. Option Folded) [ NoReading ↦ None | Skipped ↦ fold_items r items | Reads s ↦ taken_first x (fold_items s items) ] ≡ Some f → Contains (x ∷ items) i) [
      | NoReading ↦ λ h. cc
      | Skipped ↦ λ h. there x i items (folded-among r items f h i c)
      | Reads s ↦ λ h.
          let p = first_taken x (fold_items s items) f h in
          let g = p.0 in
          elim (among x i g.taken (subst (λ (y : Folded). Contains y.taken i) p.2 c)) [
            | inl same ↦ subst (λ (y : Item). Contains (y ∷ items) i) (sym same) (here i items)
            | inr more ↦ there x i items (folded-among s items g p.1 i more)
          ]
    ]) e

-- a client takes nothing else than items of the packet
record TakesOf (x y : ClientState) (items : List Item) : Type 0 where
  more : List Item
  taken : y.taken ≡ x.taken ++ more
  from : (i : Item) → Contains more i → Contains items i

takes-none : (x y : ClientState) (items : List Item) → y.taken ≡ x.taken → TakesOf x y items
takes-none x y items e = record { more = []; taken = e ∙ sym (append-nil x.taken); from = λ i c. absurd (none-there i c) }

batch-takes : (x : ClientState) (u : Sess) (index : ℕ) (items : List Item) → TakesOf x (client_after_batch (take_batch x.port.inlet u index items) x) items
unfolding take_batch
batch-takes x u index items =
    let q = x.port.inlet in
    elim (not (same_sess u q.sess) || nat_lt index q.next) as (λ c. TakesOf x (client_after_batch (cond {A = AfterBatch} c (record { after = q; answer = Old }) (cond (q.broken || nat_lt q.next index) (after_missing_batch q) (after_next_batch q (fold_items q.held items)))) x) items) [
      | true ↦ takes-none x (client_after_batch (record { after = q; answer = Old }) x) items refl
      | false ↦ elim (q.broken || nat_lt q.next index) as (λ c. TakesOf x (client_after_batch (cond {A = AfterBatch} c (after_missing_batch q) (after_next_batch q (fold_items q.held items))) x) items) [
        | true ↦ takes-none x (client_after_batch (after_missing_batch q) x) items refl
        | false ↦ by-folded (fold_items q.held items) refl
      ]
    ]
  where
    by-folded : (o : Option Folded) → fold_items x.port.inlet.held items ≡ o → TakesOf x (client_after_batch (after_next_batch x.port.inlet o) x) items
    by-folded None e = takes-none x (client_after_batch (after_next_batch x.port.inlet None) x) items refl
    by-folded (Some f) e = record { more = f.taken; taken = refl; from = folded-among x.port.inlet.held items f e }

message-takes : (r : ℕ) (m : Message) (x : ClientState) → TakesOf x (client_message r m x) (items_carried (Plain m))
message-takes r (message.Batch u index items) x =
    elim (x.port.chosen == r) as (λ b. TakesOf x (cond b (client_after_batch (take_batch x.port.inlet u index items) x) x) items) [ true ↦ batch-takes x u index items | false ↦ takes-none x x items refl ]
message-takes r (message.Truncated u base) x = takes-none x (client_message r (message.Truncated u base) x) [] refl
message-takes r (message.Beat b) x = takes-none x (client_message r (message.Beat b) x) [] refl
message-takes r (message.Subscribe asked) x = takes-none x x [] refl
message-takes r (message.Ack i n) x = takes-none x x [] refl
message-takes r (message.Ask i n) x = takes-none x x [] refl
message-takes r (message.Grant i n) x = takes-none x x [] refl
message-takes r (message.SnapAsk i n) x = takes-none x x [] refl

packet-takes : (o : Option (ℕ × ℕ)) (packet : Packet) (x : ClientState) → TakesOf x (client_packet o packet x) (items_carried packet)
packet-takes None packet x = takes-none x x (items_carried packet) refl
packet-takes (Some pr) (Plain m) x = message-takes pr.1 m x
packet-takes (Some pr) (SnapFor i try s) x = takes-none x x [] refl

client-takes : (plan : Plan) (c a : ℕ) (packet : Packet) (x : ClientState) → TakesOf x (client_after_packet plan c a packet x) (items_carried packet)
unfolding client_after_packet
client-takes plan c a packet x = let k = packet-takes (sender_at plan (client_stream plan c ∷ []) a) packet (client_marks_ended x) in record { more = k.more; taken = k.taken; from = k.from }

client-ticked : (plan : Plan) (c now : ℕ) (x : ClientState) → (client_tick_step plan c now x).after.taken ≡ x.taken
unfolding client_tick_step
client-ticked plan c now x = refl

-- ---- what brought it

-- an item comes to a client by an envelope that carries it
pub record Comes (w : World) (e : Event) (c : ℕ) (i : Item) : Type 0 where
  pub number : ℕ
  pub delivers : e ≡ Deliver number
  pub envelope : Envelope
  pub found : slice_get w.envelopes number ≡ Some envelope
  pub to : role_of w.plan envelope.to ≡ IsClient c
  pub carried : Contains (items_carried envelope.packet) i

-- what an event adds to the items that a client took
pub record Adds (w : World) (e : Event) (c : ℕ) (next : World) : Type 0 where
  pub more : List Item
  pub taken : (client_at next c).taken ≡ (client_at w c).taken ++ more
  pub comes : (i : Item) → Contains more i → Comes w e c i

module _ (w : World) (c : ℕ) where
  abbrev ComesBy : Event → World → Type 0
  ComesBy e next = Adds w e c next

  nothing : (e : Event) (next : World) → (client_at next c).taken ≡ (client_at w c).taken → ComesBy e next
  nothing e next same = record { more = []; taken = same ∙ sym (append-nil (client_at w c).taken); comes = λ i d. absurd (none-there i d) }

  came-cases : AreCases w ComesBy
  came-cases =
      record {
        still = λ e. nothing e w refl;
        wires = λ e cuts. nothing e (record w { cuts = cuts }) refl;
        emitted = λ a s t role. nothing (Emit a t) (source_stepped a (source_emits w.plan s t (source_at w s)) w) refl;
        released = λ a s t role. nothing (Release a t) (source_stepped a (source_releases w.plan s t (source_at w s)) w) refl;
        source_took = λ k s e found can role. nothing (Deliver k) (source_stepped e.to (source_packet_step w.plan s e.sender e.packet (source_at w s)) w) refl;
        source_ticks = λ a s now role. nothing (Tick a now) (source_stepped a (source_tick_step w.plan s now (source_at w s)) w) refl;
        crashed = λ a f r role. nothing (Crash a) (record w { nodes = changed (node_place w.plan a) (λ (slot : Slot). record slot { node = None }) w.nodes }) refl;
        restarted = λ a i f r role. nothing (Restart a i) (record w { nodes = changed (node_place w.plan a) (restart_slot (home_of w.plan (f, r)) i) w.nodes }) refl;
        node_took = λ k f r e n found can role up. nothing (Deliver k) (node_stepped e.to (packet_step (home_of w.plan (f, r)) e.sender e.packet n) w) refl;
        node_ticked = λ a now f r n role up clock. nothing (Tick a now) (node_stepped a (tick_step (home_of w.plan (f, r)) now n) w) refl;
        node_milled = λ a r f q n role up can. nothing (Mill a r) (node_stepped a (mill_step (home_of w.plan (f, q)) r n) w) refl;
        client_took = λ k d e found can role. took k d e found role (nth-changed (new_client w.plan c) d (client_after_packet w.plan d e.sender e.packet) w.clients c);
        client_ticks = λ a d now role. ticked a d now (nth-changed (new_client w.plan c) d (λ (_ : ClientState). (client_tick_step w.plan d now (client_at w d)).after) w.clients c);
      }
    where
      took : (k d : ℕ) (e : Envelope) → slice_get w.envelopes k ≡ Some e → role_of w.plan e.to ≡ IsClient d →
          (nth (new_client w.plan c) (changed d (client_after_packet w.plan d e.sender e.packet) w.clients) c ≡ client_at w c)
          ⊎ ((c ≡ d) × (nth (new_client w.plan c) (changed d (client_after_packet w.plan d e.sender e.packet) w.clients) c ≡ client_after_packet w.plan d e.sender e.packet (client_at w c))) →
          ComesBy (Deliver k) (record w { clients = changed d (client_after_packet w.plan d e.sender e.packet) w.clients })
      took k d e found role (inl same) = nothing (Deliver k) (record w { clients = changed d (client_after_packet w.plan d e.sender e.packet) w.clients }) (ap (λ (z : ClientState). z.taken) same)
      took k d e found role (inr it) =
          let t = client-takes w.plan d e.sender e.packet (client_at w c) in
          record {
            more = t.more;
            taken = ap (λ (z : ClientState). z.taken) it.1 ∙ t.taken;
            comes = λ i inside. record { number = k; delivers = refl; envelope = e; found = found; to = role ∙ ap IsClient (sym it.0); carried = t.from i inside };
          }

      ticked : (a d now : ℕ) → (nth (new_client w.plan c) (changed d (λ (_ : ClientState). (client_tick_step w.plan d now (client_at w d)).after) w.clients) c ≡ client_at w c)
          ⊎ ((c ≡ d) × (nth (new_client w.plan c) (changed d (λ (_ : ClientState). (client_tick_step w.plan d now (client_at w d)).after) w.clients) c ≡ (client_tick_step w.plan d now (client_at w d)).after)) →
          ComesBy (Tick a now) (client_stepped a d (client_tick_step w.plan d now (client_at w d)) w)
      ticked a d now (inl same) = nothing (Tick a now) (client_stepped a d (client_tick_step w.plan d now (client_at w d)) w) (ap (λ (z : ClientState). z.taken) same)
      ticked a d now (inr it) = nothing (Tick a now) (client_stepped a d (client_tick_step w.plan d now (client_at w d)) w) (ap (λ (z : ClientState). z.taken) it.1 ∙ client-ticked w.plan d now (client_at w d) ∙ ap (λ (j : ℕ). (client_at w j).taken) (sym it.0))

  pub event-comes : (e : Event) → ComesBy e (happens w e)
  event-comes e = by-event w ComesBy came-cases e
