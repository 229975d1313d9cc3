-- What opened a session, by the batches that were sent in it.
use Rattle.std.proofs.Common.{◌≡◌, ℕ, Bool, true, false, cond, ◌&&◌, ◌||◌, ◌==◌, List, [], ◌∷◌, length, drop, refl, sym, ap, subst, ◌∙◌, Option, Some, None, slice_get, unwrap_or}
use Rattle.dpc_lists.specs.Lists.{list_any}
use Rattle.dpc_model.specs.Inlets.{same_sess}
use Rattle.dpc_model.specs.declared.messages.Event.{Event}
use Rattle.dpc_model.specs.declared.messages.Event.TheVariants.{Deliver}
use Rattle.dpc_model.specs.declared.messages.Message.TheVariants as message
use Rattle.dpc_model.specs.declared.messages.Sess.{Sess}
use Rattle.dpc_model.specs.declared.messages.Subscribe.{Subscribe}
use Rattle.node_model.specs.Mails.{Packet, Plain, SnapFor}
use Rattle.world_model.specs.Worlds.{World, Envelope, happens}
use Rattle.world_model.specs.SessionLaw.{Channel}
use Rattle.law_safety.proofs.Growing.{event-grows}
use Rattle.law_sessions.proofs.Asked.{brought as was-sent}
use Rattle.std.proofs.lemmas.Bool.{or_left, or_right}
use Rattle.dpc_lists.proofs.Elements.{get-first}
use Rattle.dpc_lists.proofs.Somes.{some-same}
use Rattle.law_sessions.specs.Openings.{packet_asks, asks_for, brings, is_first_packet, has_first, asked_next}
use Rattle.law_granting.specs.Taken.{index_in, index_of, subscribes_packet}
use Rattle.law_granting.proofs.Sending.{indexes, is_zero}
use Rattle.law_session_origins.specs.Asking.{IsSentFor}

-- ---- a first batch

first-packet : (l : Channel) (p : Packet) (v : ℕ) → index_in l.sess p ≡ Some v → is_zero v ≡ true → is_first_packet l p ≡ true
first-packet l (Plain (message.Batch u index items)) v e z =
    (elim (same_sess u l.sess) as (λ b. cond {A = Option ℕ} b (Some index) None ≡ Some v → (b && index == 0) ≡ true) [
      | true ↦ λ f. let same : index ≡ v = some-same index v f in ap (λ (x : ℕ). x == 0) same ∙ z
      | false ↦ λ f. cc
    ]) e
first-packet l (Plain (message.Subscribe asked)) v e z = cc
first-packet l (Plain (message.Truncated u base)) v e z = cc
first-packet l (Plain (message.Beat b)) v e z = cc
first-packet l (Plain (message.Ack i n)) v e z = cc
first-packet l (Plain (message.Ask i n)) v e z = cc
first-packet l (Plain (message.Grant i n)) v e z = cc
first-packet l (Plain (message.SnapAsk i n)) v e z = cc
first-packet l (SnapFor i try s) v e z = cc

abbrev is_first : Channel → Envelope → Bool
is_first l e = e.sender == l.sender && (e.to == l.reader && is_first_packet l e.packet)

first-envelope : (l : Channel) (e : Envelope) (v : ℕ) → index_of l e ≡ Some v → is_zero v ≡ true → is_first l e ≡ true
first-envelope l e v h z =
    (elim (e.sender == l.sender) as (λ a. cond {A = Option ℕ} (a && e.to == l.reader) (index_in l.sess e.packet) None ≡ Some v → (a && (e.to == l.reader && is_first_packet l e.packet)) ≡ true) [
      | true ↦ elim (e.to == l.reader) as (λ b. cond {A = Option ℕ} b (index_in l.sess e.packet) None ≡ Some v → (b && is_first_packet l e.packet) ≡ true) [
        | true ↦ λ f. first-packet l e.packet v f z
        | false ↦ λ f. cc
      ]
      | false ↦ λ f. cc
    ]) h

-- the batch with index 0 is the first one
pub first-there : (l : Channel) (es : List Envelope) → list_any is_zero (indexes l es) ≡ true → has_first l es ≡ true
first-there l [] e = cc
first-there l (x ∷ es) e =
    (elim (index_of l x) as (λ o. index_of l x ≡ o → list_any is_zero (elim o as (λ _. List ℕ) [ None ↦ indexes l es | Some j ↦ j ∷ indexes l es ]) ≡ true → (is_first l x || has_first l es) ≡ true) [
      | None ↦ λ f g. or_right (is_first l x) (has_first l es) (first-there l es g)
      | Some v ↦ λ f g. (elim (is_zero v) as (λ b. is_zero v ≡ b → (b || list_any is_zero (indexes l es)) ≡ true → (is_first l x || has_first l es) ≡ true) [
        | true ↦ λ z d. or_left (is_first l x) (has_first l es) (first-envelope l x v f z)
        | false ↦ λ z d. or_right (is_first l x) (has_first l es) (first-there l es d)
      ]) refl g
    ]) refl e

-- ---- who asked

-- an event brings a subscription to the session
abbrev pub Brings : Channel → World → Event → Type 0
Brings l w e = (asked : Subscribe) × (brings l w e ≡ Some asked)

-- the packet of a subscription to the session
pub sub-of : (u : Sess) (packet : Packet) → subscribes_packet u packet ≡ true → (asked : Subscribe) × (packet ≡ Plain (message.Subscribe asked)) × (same_sess asked.sess u ≡ true)
sub-of u (Plain (message.Subscribe asked)) h = (asked, refl, h)
sub-of u (Plain (message.Batch v index items)) h = cc
sub-of u (Plain (message.Truncated v base)) h = cc
sub-of u (Plain (message.Beat b)) h = cc
sub-of u (Plain (message.Ack i n)) h = cc
sub-of u (Plain (message.Ask i n)) h = cc
sub-of u (Plain (message.Grant i n)) h = cc
sub-of u (Plain (message.SnapAsk i n)) h = cc
sub-of u (SnapFor i try snap) h = cc

packet-brings : (l : Channel) (p : Packet) → subscribes_packet l.sess p ≡ true → (asked : Subscribe) × (packet_asks l p ≡ Some asked)
packet-brings l p e =
    let s = sub-of l.sess p e in
    let here : packet_asks l (Plain (message.Subscribe s.0)) ≡ Some s.0 = rw s.2 refl in (s.0, ap (λ (q : Packet). packet_asks l q) s.1 ∙ here)

pub delivery-brings : (l : Channel) (w : World) (k : ℕ) (e : Envelope) → slice_get w.envelopes k ≡ Some e → (e.sender == l.reader) ≡ true → (e.to == l.sender) ≡ true → subscribes_packet l.sess e.packet ≡ true → Brings l w (Deliver k)
delivery-brings l w k e there from to packet =
    let p = packet-brings l e.packet packet in
    let here : asks_for l e ≡ Some p.0 = rw (from, to) p.1 in (p.0, ap (λ (o : Option Envelope). elim o as (λ _. Option Subscribe) [ None ↦ None | Some x ↦ asks_for l x ]) there ∙ here)

brought : (l : Channel) (w : World) (e : Event) (asked : Subscribe) → brings l w e ≡ Some asked → IsSentFor l w.envelopes asked
brought l w e asked h = let s = was-sent l w e asked h in record { number = s.0; envelope = s.1; there = s.2; asks = s.3 }

sent-later : (l : Channel) (w : World) (e : Event) (asked : Subscribe) → IsSentFor l w.envelopes asked → IsSentFor l (happens w e).envelopes asked
sent-later l w e asked h =
    let g = event-grows w e in
    record {
      number = h.number;
      envelope = h.envelope;
      there = ap (λ (es : List Envelope). slice_get es h.number) g.envelopes ∙ get-first w.envelopes g.more h.number h.envelope h.there;
      asks = h.asks;
    }

-- what asked for the session was sent, also after an event more
pub sent-next : (l : Channel) (w : World) (e : Event) (asked : Subscribe) → IsSentFor l w.envelopes asked → IsSentFor l (happens w e).envelopes (asked_next l asked w e)
sent-next l w e asked h =
    sent-later l w e (asked_next l asked w e)
    (elim (has_first l (drop (length w.envelopes) (happens w e).envelopes)) as (λ b. IsSentFor l w.envelopes (cond b (unwrap_or (brings l w e) asked) asked)) [
      | false ↦ h
      | true ↦ (elim (brings l w e) as (λ o. brings l w e ≡ o → IsSentFor l w.envelopes (unwrap_or o asked)) [
        | None ↦ λ f. h
        | Some x ↦ λ f. brought l w e x f
      ]) refl
    ])

-- and so was what opens it now
pub sent-now : (l : Channel) (w : World) (e : Event) (asked : Subscribe) → has_first l (drop (length w.envelopes) (happens w e).envelopes) ≡ true → Brings l w e → IsSentFor l (happens w e).envelopes (asked_next l asked w e)
sent-now l w e asked first came =
    let it = came.1 in
    let same : asked_next l asked w e ≡ came.0 = rw (first, it) refl in
    sent-later l w e (asked_next l asked w e) (subst (λ (x : Subscribe). IsSentFor l w.envelopes x) (sym same) (brought l w e came.0 it))
