-- Every event keeps the bases of a fragment's replicas at most what each client of its output holds.
use Rattle.std.proofs.Common.{◌≡◌, ℕ, ◌+◌, ◌≤◌, true, false, cond, not, ◌||◌, ◌&&◌, ◌==◌, nat_lt, List, [], ◌∷◌, ◌++◌, map, length, refl, sym, ap, subst, ◌∙◌, arith, Option, Some, None, slice_get, ◌⊎◌, inl, inr}
use Rattle.std.proofs.lemmas.List.{length-map}
use Rattle.dpc_lists.specs.Lists.{nth, changed, list_any}
use Rattle.dpc_model.specs.Inlets.{InletState, take_batch, with_next_session}
use Rattle.dpc_model.specs.Actors.{role_of, inputs_of, same_stream, are_peers, senders_of}
use Rattle.dpc_model.specs.declared.actors.Role.{Role}
use Rattle.dpc_model.specs.declared.actors.Role.TheVariants.{Source as IsSource, Node as IsNode, Client as IsClient, Nobody}
use Rattle.dpc_model.specs.Ports.{sender_at, must_reopen, port_after_tick, without_ended_marks, subscriptions, acks_to}
use Rattle.dpc_model.specs.Sessions.{Acked}
use Rattle.dpc_model.specs.declared.messages.Event.{Event}
use Rattle.dpc_model.specs.declared.messages.Message.{Message}
use Rattle.dpc_model.specs.declared.messages.Message.TheVariants as message
use Rattle.dpc_model.specs.declared.plans.Plan.{Plan}
use Rattle.dpc_model.specs.declared.plans.StreamRef.{StreamRef}
use Rattle.dpc_model.specs.declared.plans.StreamRef.TheVariants.{Source, Frag}
use Rattle.node_model.specs.Mails.{Snap, Packet, Plain, SnapFor, Mail, mails, Stepped}
use Rattle.node_model.specs.Nodes.{Home, PlainNode, own_readers, new_node, restarted_node}
use Rattle.node_model.specs.NodeSteps.{packet_step, mill_step, tick_step}
use Rattle.node_model.specs.Sources.{source_emits, source_releases, source_packet_step, source_tick_step}
use Rattle.node_model.specs.Clients.{ClientState, client_stream, new_client, client_after_batch, client_message, client_packet, client_marks_ended, client_after_packet, client_tick_step}
use Rattle.world_model.specs.Worlds.{World, Envelope, Slot, home_of, node_place, slot_of, source_at, client_at, from, node_stepped, restart_slot, happens, run, new_world}
use Rattle.world_model.specs.Orderly.{is_fitting, packet_way, carries_fitting}
use Rattle.law_safety.specs.Plans.{IsCheckedPlan}
use Rattle.dpc_lists.proofs.Truths.{both, eq-of, eq-test}
use Rattle.dpc_lists.proofs.Elements.{none-there}
use Rattle.dpc_lists.proofs.Somes.{some-same}
use Rattle.node_model.proofs.Mailed.{kept-port}
use Rattle.law_safety.proofs.Numbering.{all-at}
use Rattle.law_safety.proofs.EventCases.{AreCases, by-event}
use Rattle.law_safety.proofs.Happening.{IsFine}
use Rattle.law_safety.proofs.Law.{run-good}
use Rattle.law_safety.proofs.Promises.{slot-here}
use Rattle.law_safety.proofs.ClientHolds.{held_at-beat}
use Rattle.dpc_lists.proofs.Each.{Each, each-append}
use Rattle.world_model.proofs.Running.{new_world-none}
use Rattle.law_safety.proofs.Growing.{run-plan}
use Rattle.law_granting.proofs.Each.{each-subscription}
use Rattle.law_granting.proofs.Keys.{nth-changed}
use Rattle.law_granting.proofs.Slots.{slot-there, got-sent}
use Rattle.law_granting.proofs.Asked.{same-or, each-unit}
use Rattle.law_granting.proofs.Prefix.{IsReader, reader-found}
use Rattle.law_granting.proofs.Running.{new-slot}
use Rattle.law_readers.specs.Counts.{count_at, ReadsOf, ClientsAreKeptFor}
use Rattle.law_readers.proofs.Running.{every-run}
use Rattle.law_readers.proofs.Passing.{Passed}
use Rattle.law_readers.proofs.Sessions.{each-acked}
use Rattle.law_readers.proofs.Counting.{none-acked, IsLow, Low, LowPacket, LowMail, TellsLow, delivered-low, milled-low, ticked-low, took-longer}

-- ---- a client

message-longer : (r : ℕ) (m : Message) (x : ClientState) → length x.port.inlet.held.stable ≤ length (client_message r m x).port.inlet.held.stable
message-longer r (message.Batch u index items) x =
    elim (x.port.chosen == r) as (λ b. length x.port.inlet.held.stable ≤ length (cond {A = ClientState} b (client_after_batch (take_batch x.port.inlet u index items) x) x).port.inlet.held.stable) [
      | true ↦
          let t = take_batch x.port.inlet u index items in
          subst (λ (z : _). length x.port.inlet.held.stable ≤ length z.inlet.held.stable) (sym (kept-port t.answer (record x { port = record x.port { inlet = t.after } }))) (took-longer x.port.inlet u index items)
      | false ↦ omega arith
    ]
message-longer r (message.Beat b) x = rw (held_at-beat r b x.port) (omega arith)
message-longer r (message.Truncated u base) x = omega arith
message-longer r (message.Subscribe asked) x = omega arith
message-longer r (message.Ack i n) x = omega arith
message-longer r (message.Ask i n) x = omega arith
message-longer r (message.Grant i n) x = omega arith
message-longer r (message.SnapAsk i n) x = omega arith

packet-longer : (o : Option (ℕ × ℕ)) (p : Packet) (x : ClientState) → length x.port.inlet.held.stable ≤ length (client_packet o p x).port.inlet.held.stable
packet-longer None p x = omega arith
packet-longer (Some pr) (Plain m) x = message-longer pr.1 m x
packet-longer (Some pr) (SnapFor i try s) x = omega arith

delivered-longer : (plan : Plan) (c a : ℕ) (p : Packet) (x : ClientState) → length x.port.inlet.held.stable ≤ length (client_after_packet plan c a p x).port.inlet.held.stable
unfolding client_after_packet
delivered-longer plan c a p x = packet-longer (sender_at plan (client_stream plan c ∷ []) a) p (client_marks_ended x)

ticked-stable : (plan : Plan) (c now : ℕ) (x : ClientState) → length x.port.inlet.held.stable ≤ length (client_tick_step plan c now x).after.port.inlet.held.stable
unfolding client_tick_step
ticked-stable plan c now x =
    let port = port_after_tick (without_ended_marks x.port) in
    elim (must_reopen port) as (λ b. length x.port.inlet.held.stable ≤ length (cond {A = InletState} b (with_next_session port.inlet) port.inlet).held.stable) [ true ↦ omega arith | false ↦ omega arith ]

-- a client tells no more than it holds
abbrev TellsAtMost : ℕ → Packet → Type 0
TellsAtMost b (Plain (message.Ack i n)) = n ≤ b
TellsAtMost b (Plain (message.Batch u index items)) = Unit {0}
TellsAtMost b (Plain (message.Subscribe asked)) = Unit {0}
TellsAtMost b (Plain (message.Truncated u base)) = Unit {0}
TellsAtMost b (Plain (message.Beat x)) = Unit {0}
TellsAtMost b (Plain (message.Ask i n)) = Unit {0}
TellsAtMost b (Plain (message.Grant i n)) = Unit {0}
TellsAtMost b (Plain (message.SnapAsk i n)) = Unit {0}
TellsAtMost b (SnapFor i try s) = Unit {0}

ticked-tells : (plan : Plan) (c now : ℕ) (x : ClientState) → Each (λ m. TellsAtMost (length x.port.inlet.held.stable) m.packet) (client_tick_step plan c now x).sends
unfolding client_tick_step
ticked-tells plan c now x =
    let port = port_after_tick (without_ended_marks x.port) in
    let count = length x.port.inlet.held.stable in
    each-append (λ m. TellsAtMost count m.packet) (mails (subscriptions plan (port ∷ []) (client_stream plan c ∷ []))) (mails (acks_to plan 1 count (client_stream plan c)))
    (each-subscription (λ m. TellsAtMost count m.packet) plan (port ∷ []) (client_stream plan c ∷ []) (λ to asked. tt)) (each-acked (λ m. TellsAtMost count m.packet) 1 count (senders_of plan (client_stream plan c)) (λ to. omega arith))

-- ---- a world

pub low-more : (home : Home) (x b d : ℕ) (acks : List Acked) (base : ℕ) → b ≤ d → IsLow home x b acks base → IsLow home x d acks base
low-more home x b d acks base more h = let low = h.base in record { base = omega (arith, low, more); many = h.many; acks = λ k e. let own = h.acks k e in omega (arith, own, more) }

low-packet-more : (b d : ℕ) (p : Packet) → b ≤ d → LowPacket b p → LowPacket d p
low-packet-more b d (Plain m) more h = tt
low-packet-more b d (SnapFor i try s) more h = omega (arith, more, h)

tells-more : (b d : ℕ) (p : Packet) → b ≤ d → TellsAtMost b p → TellsAtMost d p
tells-more b d (Plain (message.Ack i n)) more h = omega (arith, more, h)
tells-more b d (Plain (message.Batch u index items)) more h = tt
tells-more b d (Plain (message.Subscribe asked)) more h = tt
tells-more b d (Plain (message.Truncated u base)) more h = tt
tells-more b d (Plain (message.Beat x)) more h = tt
tells-more b d (Plain (message.Ask i n)) more h = tt
tells-more b d (Plain (message.Grant i n)) more h = tt
tells-more b d (Plain (message.SnapAsk i n)) more h = tt
tells-more b d (SnapFor i try s) more h = tt

-- the replicas of a fragment and what was sent, of the client c, which is actor x
pub record LowWorld (plan : Plan) (x c f : ℕ) (w : World) : Type 0 where
  pub nodes : (a r : ℕ) (n : PlainNode) → role_of plan a ≡ IsNode f r → (slot_of w a).node ≡ Some n → IsLow (home_of plan (f, r)) x (count_at w c) n.acks n.base
  pub snapshots : (k r : ℕ) (e : Envelope) → slice_get w.envelopes k ≡ Some e → role_of plan e.sender ≡ IsNode f r → LowPacket (count_at w c) e.packet
  pub told : (k : ℕ) (e : Envelope) → slice_get w.envelopes k ≡ Some e → role_of plan e.sender ≡ IsClient c → TellsAtMost (count_at w c) e.packet

-- a world in which the client holds no less, and what is new is low
low-next : (x c f : ℕ) (w next : World) → next.plan ≡ w.plan → count_at w c ≤ count_at next c →
    ((a r : ℕ) (n : PlainNode) → role_of w.plan a ≡ IsNode f r → (slot_of next a).node ≡ Some n → ((slot_of w a).node ≡ Some n) ⊎ IsLow (home_of w.plan (f, r)) x (count_at w c) n.acks n.base) →
    ((k : ℕ) (e : Envelope) → slice_get next.envelopes k ≡ Some e → (slice_get w.envelopes k ≡ Some e)
    ⊎ (((r : ℕ) → role_of w.plan e.sender ≡ IsNode f r → LowPacket (count_at w c) e.packet) × (role_of w.plan e.sender ≡ IsClient c → TellsAtMost (count_at w c) e.packet))) →
    LowWorld w.plan x c f w → LowWorld w.plan x c f next
low-next x c f w next plan more nodes envelopes h =
    record {
      nodes = λ a r n role up. low-more (home_of w.plan (f, r)) x (count_at w c) (count_at next c) n.acks n.base more (elim (nodes a r n role up) [ inl old ↦ h.nodes a r n role old | inr new ↦ new ]);
      snapshots = λ k r e there role. low-packet-more (count_at w c) (count_at next c) e.packet more (elim (envelopes k e there) [ inl old ↦ h.snapshots k r e old role | inr new ↦ new.0 r role ]);
      told = λ k e there role. tells-more (count_at w c) (count_at next c) e.packet more (elim (envelopes k e there) [ inl old ↦ h.told k e old role | inr new ↦ new.1 role ]);
    }

module _ (w : World) (most x c f : ℕ) (fine : IsFine w most) (reads : ReadsOf w.plan x c f) (reader : IsReader w.plan (Frag f) x) (h : LowWorld w.plan x c f w) where
  abbrev count : ℕ
  count = count_at w c

  abbrev After : World → Type 0
  After next = LowWorld w.plan x c f next

  quiet-low : (next : World) → next.plan ≡ w.plan → next.envelopes ≡ w.envelopes → count ≤ count_at next c → ((a : ℕ) → slot_of next a ≡ slot_of w a) → After next
  quiet-low next plan same more slots =
      low-next x c f w next plan more (λ a r n role up. inl (sym (ap (λ (z : Slot). z.node) (slots a)) ∙ up)) (λ k e there. inl (sym (ap (λ (es : List Envelope). slice_get es k) same) ∙ there)) h

  -- mails of a source
  source-low : (next : World) (a s : ℕ) (ms : List Mail) → next.plan ≡ w.plan → next.envelopes ≡ w.envelopes ++ map (from a) ms → role_of w.plan a ≡ IsSource s → count ≤ count_at next c → ((a : ℕ) → slot_of next a ≡ slot_of w a) → After next
  source-low next a s ms plan same role more slots =
      low-next x c f w next plan more (λ b r n is up. inl (sym (ap (λ (z : Slot). z.node) (slots b)) ∙ up))
      (λ k e there. by-place k e (got-sent (λ m. Unit {0}) a w.envelopes ms k e (each-unit ms) (sym (ap (λ (es : List Envelope). slice_get es k) same) ∙ there))) h
    where
      by-place : (k : ℕ) (e : Envelope) → (slice_get w.envelopes k ≡ Some e) ⊎ ((m : Mail) × (e ≡ from a m) × Unit {0}) → (slice_get w.envelopes k ≡ Some e)
          ⊎ (((r : ℕ) → role_of w.plan e.sender ≡ IsNode f r → LowPacket count e.packet) × (role_of w.plan e.sender ≡ IsClient c → TellsAtMost count e.packet))
      by-place k e (inl old) = inl old
      by-place k e (inr (m, of, u)) =
          let sender : role_of w.plan e.sender ≡ IsSource s = ap (λ (z : Envelope). role_of w.plan z.sender) of ∙ role in
          inr (λ r is. absurd (no-node r (sym sender ∙ is)), λ is. absurd (no-client (sym sender ∙ is)))
        where
          no-node : (r : ℕ) → IsSource s ≡ IsNode f r → ⊥
          no-node r clash = cc

          no-client : IsSource s ≡ IsClient c → ⊥
          no-client clash = cc

  -- a client's mails
  client-low : (next : World) (a d : ℕ) (ms : List Mail) → next.plan ≡ w.plan → next.envelopes ≡ w.envelopes ++ map (from a) ms → role_of w.plan a ≡ IsClient d → Each (λ m. TellsAtMost (count_at w d) m.packet) ms → count ≤ count_at next c →
      ((a : ℕ) → slot_of next a ≡ slot_of w a) → After next
  client-low next a d ms plan same role each more slots =
      low-next x c f w next plan more (λ b r n is up. inl (sym (ap (λ (z : Slot). z.node) (slots b)) ∙ up))
      (λ k e there. by-place k e (got-sent (λ m. TellsAtMost (count_at w d) m.packet) a w.envelopes ms k e each (sym (ap (λ (es : List Envelope). slice_get es k) same) ∙ there))) h
    where
      by-place : (k : ℕ) (e : Envelope) → (slice_get w.envelopes k ≡ Some e) ⊎ ((m : Mail) × (e ≡ from a m) × TellsAtMost (count_at w d) m.packet) → (slice_get w.envelopes k ≡ Some e)
          ⊎ (((r : ℕ) → role_of w.plan e.sender ≡ IsNode f r → LowPacket count e.packet) × (role_of w.plan e.sender ≡ IsClient c → TellsAtMost count e.packet))
      by-place k e (inl old) = inl old
      by-place k e (inr (m, of, tells)) =
          let sender : role_of w.plan e.sender ≡ IsClient d = ap (λ (z : Envelope). role_of w.plan z.sender) of ∙ role in
          inr (λ r is. absurd (no-node r (sym sender ∙ is)), λ is. told-at (same-client (sym sender ∙ is)) (subst (λ (z : Envelope). TellsAtMost (count_at w d) z.packet) (sym of) tells))
        where
          no-node : (r : ℕ) → IsClient d ≡ IsNode f r → ⊥
          no-node r clash = cc

          same-client : IsClient d ≡ IsClient c → d ≡ c
          same-client e = cc

          told-at : d ≡ c → TellsAtMost (count_at w d) e.packet → TellsAtMost count e.packet
          told-at is t = subst (λ (z : ℕ). TellsAtMost (count_at w z) e.packet) is t

  -- ---- nodes

  -- one slot is changed, and nothing is sent
  slot-low : (y g q : ℕ) (change : Slot → Slot) → role_of w.plan y ≡ IsNode g q → ((n : PlainNode) → (change (slot_of w y)).node ≡ Some n → ((slot_of w y).node ≡ Some n) ⊎ IsLow (home_of w.plan (g, q)) x count n.acks n.base) →
      After (record w { nodes = changed (node_place w.plan y) change w.nodes })
  slot-low y g q change role own =
      low-next x c f w (record w { nodes = changed (node_place w.plan y) change w.nodes }) refl (omega arith) (λ a r n is up. by-actor a r n is up (same-or a y)) (λ k e there. inl there) h
    where
      next : World
      next = record w { nodes = changed (node_place w.plan y) change w.nodes }

      by-actor : (a r : ℕ) (n : PlainNode) → role_of w.plan a ≡ IsNode f r → (slot_of (record w { nodes = changed (node_place w.plan y) change w.nodes }) a).node ≡ Some n → (a ≡ y) ⊎ (a ≡ y → ⊥) →
          ((slot_of w a).node ≡ Some n) ⊎ IsLow (home_of w.plan (f, r)) x count n.acks n.base
      by-actor a r n is up (inr other) = inl (sym (ap (λ (z : Slot). z.node) (slot-there w y a g q f r change role is other)) ∙ up)
      by-actor a r n is up (inl same) =
          let here = slot-here w most y g q change fine role in
          let now : (change (slot_of w y)).node ≡ Some n = sym (ap (λ (z : Slot). z.node) (ap (λ (z : ℕ). slot_of (record w { nodes = changed (node_place w.plan y) change w.nodes }) z) same ∙ here)) ∙ up in
          let whole : IsNode g q ≡ IsNode f r = sym role ∙ ap (λ (z : ℕ). role_of w.plan z) (sym same) ∙ is in
          let one : g ≡ f = cc in
          let two : q ≡ r = cc in
          elim (own n now) [
            | inl old ↦ inl (ap (λ (z : ℕ). (slot_of w z).node) same ∙ old)
            | inr new ↦ inr (subst (λ (z : ℕ). IsLow (home_of w.plan (z, r)) x count n.acks n.base) one (subst (λ (z : ℕ). IsLow (home_of w.plan (g, z)) x count n.acks n.base) two new))
          ]

  -- a node's step
  node-low : (y g q : ℕ) (n : PlainNode) (s : Stepped PlainNode) → role_of w.plan y ≡ IsNode g q → (slot_of w y).node ≡ Some n →
      (g ≡ f → IsLow (home_of w.plan (f, q)) x count n.acks n.base → Passed (Low (home_of w.plan (f, q)) x count) (LowMail count) s) → After (node_stepped y s w)
  node-low y g q n s role up steps = by-fragment (same-or g f)
    where
      change : Slot → Slot
      change = λ (slot : Slot). record slot { node = Some s.after }

      by-fragment : (g ≡ f) ⊎ (g ≡ f → ⊥) → After (node_stepped y s w)
      by-fragment (inr other) =
          low-next x c f w (node_stepped y s w) refl (omega arith) (λ a r m is now. inl (sym (ap (λ (z : Slot). z.node) (slot-there w y a g q f r change role is (λ same. other (fragment a r same is)))) ∙ now))
          (λ k e there. apart k e (got-sent (λ m. Unit {0}) y w.envelopes s.sends k e (each-unit s.sends) there)) h
        where
          fragment : (a r : ℕ) → a ≡ y → role_of w.plan a ≡ IsNode f r → g ≡ f
          fragment a r same is = let whole : IsNode g q ≡ IsNode f r = sym role ∙ ap (λ (z : ℕ). role_of w.plan z) (sym same) ∙ is in cc

          apart : (k : ℕ) (e : Envelope) → (slice_get w.envelopes k ≡ Some e) ⊎ ((m : Mail) × (e ≡ from y m) × Unit {0}) → (slice_get w.envelopes k ≡ Some e)
              ⊎ (((r : ℕ) → role_of w.plan e.sender ≡ IsNode f r → LowPacket count e.packet) × (role_of w.plan e.sender ≡ IsClient c → TellsAtMost count e.packet))
          apart k e (inl old) = inl old
          apart k e (inr (m, of, u)) = inr (λ r is. absurd (other (fragment e.sender r (ap (λ (z : Envelope). z.sender) of) is)), λ is. absurd (no-client (sym role ∙ ap (λ (z : Envelope). role_of w.plan z.sender) (sym of) ∙ is)))
            where
              no-client : IsNode g q ≡ IsClient c → ⊥
              no-client clash = cc
      by-fragment (inl one) =
          let role_f : role_of w.plan y ≡ IsNode f q = role ∙ ap (λ (z : ℕ). IsNode z q) one in
          let passed = steps one (h.nodes y q n role_f up) in
          let here = slot-here w most y f q change fine role_f in
          low-next x c f w (node_stepped y s w) refl (omega arith) (λ a r m is now. inr-or a r m is now role_f here passed.after (same-or a y))
          (λ k e there. mine k e passed (got-sent (LowMail count) y w.envelopes s.sends k e passed.sends there)) h
        where
          inr-or : (a r : ℕ) (m : PlainNode) → role_of w.plan a ≡ IsNode f r → (slot_of (node_stepped y s w) a).node ≡ Some m → role_of w.plan y ≡ IsNode f q → slot_of (node_stepped y s w) y ≡ change (slot_of w y) →
              IsLow (home_of w.plan (f, q)) x count s.after.acks s.after.base → (a ≡ y) ⊎ (a ≡ y → ⊥) → ((slot_of w a).node ≡ Some m) ⊎ IsLow (home_of w.plan (f, r)) x count m.acks m.base
          inr-or a r m is now role_f here low (inr other) = inl (sym (ap (λ (z : Slot). z.node) (slot-there w y a f q f r change role_f is other)) ∙ now)
          inr-or a r m is now role_f here low (inl same) =
              let it : s.after ≡ m = some-same s.after m (sym (ap (λ (z : Slot). z.node) (ap (λ (z : ℕ). slot_of (node_stepped y s w) z) same ∙ here)) ∙ now) in
              let whole : IsNode f q ≡ IsNode f r = sym role_f ∙ ap (λ (z : ℕ). role_of w.plan z) (sym same) ∙ is in
              let two : q ≡ r = cc in
              inr (subst (λ (z : PlainNode). IsLow (home_of w.plan (f, r)) x count z.acks z.base) it (subst (λ (z : ℕ). IsLow (home_of w.plan (f, z)) x count s.after.acks s.after.base) two low))

          mine : (k : ℕ) (e : Envelope) → Passed (Low (home_of w.plan (f, q)) x count) (LowMail count) s → (slice_get w.envelopes k ≡ Some e) ⊎ ((m : Mail) × (e ≡ from y m) × LowMail count m) → (slice_get w.envelopes k ≡ Some e)
              ⊎ (((r : ℕ) → role_of w.plan e.sender ≡ IsNode f r → LowPacket count e.packet) × (role_of w.plan e.sender ≡ IsClient c → TellsAtMost count e.packet))
          mine k e passed (inl old) = inl old
          mine k e passed (inr (m, of, low)) =
              inr (λ r is. subst (λ (z : Envelope). LowPacket count z.packet) (sym of) low, λ is. absurd (no-client (sym role ∙ ap (λ (z : Envelope). role_of w.plan z.sender) (sym of) ∙ is)))
            where
              no-client : IsNode g q ≡ IsClient c → ⊥
              no-client clash = cc

  restarted-low : (home : Home) (i : ℕ) → IsLow home x count (restarted_node home i).acks (restarted_node home i).base
  unfolding restarted_node
  restarted-low home i =
      record { base = omega arith; many = length-map (own_readers home) (λ (_ : ℕ). (0, 0)); acks = λ k e. let none = none-acked (own_readers home) k in omega (arith, none) }

  restart-low : (home : Home) (i : ℕ) (slot : Slot) (n : PlainNode) → (restart_slot home i slot).node ≡ Some n → (slot.node ≡ Some n) ⊎ IsLow home x count n.acks n.base
  restart-low home i slot n e = by-node slot.node refl e
    where
      by-node : (o : Option PlainNode) → slot.node ≡ o → (elim o as (λ _. Slot) [ Some m ↦ slot | None ↦ cond (nat_lt slot.last_inc i) (record { last_inc = i; node = Some (restarted_node home i) }) slot ]).node ≡ Some n → (slot.node ≡ Some n) ⊎ IsLow home x count n.acks n.base
      by-node (Some m) up d = inl d
      by-node None up d =
          elim (nat_lt slot.last_inc i) as (λ b. (cond {A = Slot} b (record { last_inc = i; node = Some (restarted_node home i) }) slot).node ≡ Some n → (slot.node ≡ Some n) ⊎ IsLow home x count n.acks n.base) [
            | true ↦ λ g. inr (subst (λ (z : PlainNode). IsLow home x count z.acks z.base) (some-same (restarted_node home i) n g) (restarted-low home i))
            | false ↦ λ g. inl g
          ] d

  -- what comes to a replica of the fragment is low
  came-low : (k q : ℕ) (e : Envelope) → slice_get w.envelopes k ≡ Some e → role_of w.plan e.to ≡ IsNode f q → TellsLow (home_of w.plan (f, q)) x count reader.place reader.low reader.it e.sender e.packet
  came-low k q e there role =
      record {
        snapshot = λ i try s same. by-sender i try s same (role_of w.plan e.sender) refl;
        ack = λ i n same mine.
            let told = h.told k e there (ap (λ (z : ℕ). role_of w.plan z) mine ∙ reads.client) in
            subst (λ (p : Packet). TellsAtMost count p) same told;
      }
    where
      way : (i try : ℕ) (s : Snap) → e.packet ≡ SnapFor i try s → are_peers (role_of w.plan e.sender) (IsNode f q) ≡ true
      way i try s same =
          let fits = all-at (is_fitting w.plan) w.envelopes k e fine.fits there in
          let it = (both (packet_way w.plan (role_of w.plan e.sender) (role_of w.plan e.to) e.packet) (carries_fitting w.plan (role_of w.plan e.sender) e.packet) fits).0 in
          rw (same, role) at it

      by-sender : (i try : ℕ) (s : Snap) → e.packet ≡ SnapFor i try s → (sender : Role) → role_of w.plan e.sender ≡ sender → s.base ≤ count
      by-sender i try s same (IsNode g r) is =
          let peers : (g == f && not (r == q)) ≡ true = rw is at (way i try s same) in
          let one = eq-of g f (both (g == f) (not (r == q)) peers).0 in
          subst (λ (p : Packet). LowPacket count p) same (h.snapshots k r e there (is ∙ ap (λ (z : ℕ). IsNode z r) one))
      by-sender i try s same (IsSource u) is = let clash : false ≡ true = rw is at (way i try s same) in cc
      by-sender i try s same (IsClient u) is = let clash : false ≡ true = rw is at (way i try s same) in cc
      by-sender i try s same Nobody is = let clash : false ≡ true = rw is at (way i try s same) in cc

  -- a client changes
  client-count : (d : ℕ) (change : ClientState → ClientState) (cs : List ClientState) → ((z : ClientState) → length z.port.inlet.held.stable ≤ length (change z).port.inlet.held.stable) → cs ≡ changed d change w.clients → count ≤ length (nth (new_client w.plan c) cs c).port.inlet.held.stable
  client-count d change cs longer same =
      subst (λ (zs : List ClientState). count ≤ length (nth (new_client w.plan c) zs c).port.inlet.held.stable) (sym same)
      (elim (nth-changed (new_client w.plan c) d change w.clients c) [
        | inl still ↦ subst (λ (z : ClientState). count ≤ length z.port.inlet.held.stable) (sym still) (omega arith)
        | inr here ↦ subst (λ (z : ClientState). count ≤ length z.port.inlet.held.stable) (sym here.1) (longer (client_at w c))
      ])

  low-cases : AreCases w (λ e next. After next)
  low-cases =
      record {
        still = λ e. h;
        wires = λ e cuts. quiet-low (record w { cuts = cuts }) refl refl (omega arith) (λ a. refl);
        emitted = λ a s t role. source-low _ a s (source_emits w.plan s t (source_at w s)).sends refl refl role (omega arith) (λ a. refl);
        released = λ a s t role. source-low _ a s (source_releases w.plan s t (source_at w s)).sends refl refl role (omega arith) (λ a. refl);
        source_took = λ k s e there can role. source-low _ e.to s (source_packet_step w.plan s e.sender e.packet (source_at w s)).sends refl refl role (omega arith) (λ a. refl);
        source_ticks = λ a s now role. source-low _ a s (source_tick_step w.plan s now (source_at w s)).sends refl refl role (omega arith) (λ a. refl);
        crashed = λ a g r role. slot-low a g r (λ (slot : Slot). record slot { node = None }) role (λ n e. cc);
        restarted = λ a i g r role. slot-low a g r (restart_slot (home_of w.plan (g, r)) i) role (λ n e. restart-low (home_of w.plan (g, r)) i (slot_of w a) n e);
        node_took = λ k g q e n there can role up. node-low e.to g q n (packet_step (home_of w.plan (g, q)) e.sender e.packet n) role up (λ one low.
            let role_f : role_of w.plan e.to ≡ IsNode f q = role ∙ ap (λ (z : ℕ). IsNode z q) one in
            subst (λ (z : ℕ). Passed (Low (home_of w.plan (f, q)) x count) (LowMail count) (packet_step (home_of w.plan (z, q)) e.sender e.packet n)) (sym one)
            (delivered-low (home_of w.plan (f, q)) x count reader.place reader.low reader.it e.sender e.packet n (came-low k q e there role_f) low));
        node_ticked = λ a now g q n role up clock. node-low a g q n (tick_step (home_of w.plan (g, q)) now n) role up (λ one low.
            subst (λ (z : ℕ). Passed (Low (home_of w.plan (f, q)) x count) (LowMail count) (tick_step (home_of w.plan (z, q)) now n)) (sym one)
            (ticked-low (home_of w.plan (f, q)) x count reader.place reader.low reader.it now n low));
        node_milled = λ a m g q n role up can. node-low a g q n (mill_step (home_of w.plan (g, q)) m n) role up (λ one low.
            subst (λ (z : ℕ). Passed (Low (home_of w.plan (f, q)) x count) (LowMail count) (mill_step (home_of w.plan (z, q)) m n)) (sym one)
            (milled-low (home_of w.plan (f, q)) x count reader.place reader.low reader.it m n low));
        client_took = λ k d e there can role.
            quiet-low (record w { clients = changed d (client_after_packet w.plan d e.sender e.packet) w.clients }) refl refl
            (client-count d (client_after_packet w.plan d e.sender e.packet) _ (λ z. delivered-longer w.plan d e.sender e.packet z) refl) (λ a. refl);
        client_ticks = λ a d now role.
            client-low _ a d (client_tick_step w.plan d now (client_at w d)).sends refl refl role (ticked-tells w.plan d now (client_at w d))
            (ticked-count d now) (λ a. refl);
      }
    where
      ticked-count : (d now : ℕ) → count ≤ length (nth (new_client w.plan c) (changed d (λ _. (client_tick_step w.plan d now (client_at w d)).after) w.clients) c).port.inlet.held.stable
      ticked-count d now =
          elim (nth-changed (new_client w.plan c) d (λ (_ : ClientState). (client_tick_step w.plan d now (client_at w d)).after) w.clients c) [
            | inl still ↦ subst (λ (z : ClientState). count ≤ length z.port.inlet.held.stable) (sym still) (omega arith)
            | inr here ↦ subst (λ (z : ClientState). count ≤ length z.port.inlet.held.stable) (sym here.1)
                (subst (λ (z : ℕ). count ≤ length (client_tick_step w.plan z now (client_at w z)).after.port.inlet.held.stable) here.0 (ticked-stable w.plan c now (client_at w c)))
          ]

-- ---- a run

pub new-node-low : (home : Home) (x b : ℕ) → IsLow home x b (new_node home).acks (new_node home).base
unfolding new_node
new-node-low home x b =
    record { base = omega arith; many = length-map (own_readers home) (λ (_ : ℕ). (0, 0)); acks = λ k e. let none = none-acked (own_readers home) k in omega (arith, none) }

new-low : (plan : Plan) (x c f : ℕ) → LowWorld plan x c f (new_world plan)
new-low plan x c f =
    record {
      nodes = λ a r n role up.
          let slot = new-slot plan a f r role in
          let it = some-same (new_node (home_of plan (f, r))) n (sym (ap (λ (z : Slot). z.node) slot) ∙ up) in
          subst (λ (z : PlainNode). IsLow (home_of plan (f, r)) x (count_at (new_world plan) c) z.acks z.base) it (new-node-low (home_of plan (f, r)) x (count_at (new_world plan) c));
      snapshots = λ k r e there role. absurd (none-there k e (new_world plan).envelopes (new_world-none plan) there);
      told = λ k e there role. absurd (none-there k e (new_world plan).envelopes (new_world-none plan) there);
    }

-- a client reads its stream
client-reads : (plan : Plan) (x c f : ℕ) → ReadsOf plan x c f → IsReader plan (Frag f) x
client-reads plan x c f reads = reader-found plan (Frag f) x (by-inputs (inputs_of plan (IsClient c)) reads.stream (ap (λ (r : Role). inputs_of plan r) reads.client))
  where
    by-inputs : (ss : List StreamRef) → nth (Source 0) ss 0 ≡ Frag f → inputs_of plan (role_of plan x) ≡ ss → list_any (same_stream (Frag f)) (inputs_of plan (role_of plan x)) ≡ true
    by-inputs [] e same = let clash : Source 0 ≡ Frag f = e in cc
    by-inputs (s ∷ ss) e same =
        let first : s ≡ Frag f = e in
        let mine : (f == f) ≡ true = eq-test f f refl in
        rw same (subst (λ (z : StreamRef). (same_stream (Frag f) z || list_any (same_stream (Frag f)) ss) ≡ true) (sym first) (rw mine refl))

run-low : (plan : Plan) (events : List Event) (x c f : ℕ) → IsCheckedPlan plan → ReadsOf plan x c f → LowWorld plan x c f (run plan events)
run-low plan events x c f checked reads =
    every-run plan (λ w. LowWorld plan x c f w) (new-low plan x c f)
    (λ before e h.
    let w = run plan before in
    let g = run-good plan before checked in
    let same = run-plan plan before in
    subst (λ (p : Plan). LowWorld p x c f (happens w e)) same
    (by-event w (λ e next. LowWorld w.plan x c f next)
    (low-cases w (1 + length before) x c f g.fine (subst (λ (p : Plan). ReadsOf p x c f) (sym same) reads) (subst (λ (p : Plan). IsReader p (Frag f) x) (sym same) (client-reads plan x c f reads))
    (subst (λ (p : Plan). LowWorld p x c f w) (sym same) h)) e)) events

pub clients-kept : (plan : Plan) (events : List Event) → IsCheckedPlan plan → ClientsAreKeptFor plan events
clients-kept plan events checked x c f reads =
    let h = run-low plan events x c f checked reads in
    record {
      bases = λ a r n role up. (h.nodes a r n role up).base;
      acks = λ a r k n role up it. (h.nodes a r n role up).acks k it;
      snapshots = λ k r i try e s there role same. subst (λ (p : Packet). LowPacket (count_at (run plan events) c) p) same (h.snapshots k r e there role);
      told = λ k i n e there role same. subst (λ (p : Packet). TellsAtMost (count_at (run plan events) c) p) same (h.told k e there role);
    }
