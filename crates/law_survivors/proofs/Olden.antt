-- Acknowledgements are of incarnations that their sender reached, and so is what a replica knows of them.
use Rattle.std.proofs.Common.{◌≡◌, ℕ, zero, suc, ◌+◌, ◌≤◌, max, true, false, cond, ◌==◌, nat_lt, List, [], ◌∷◌, map, length, refl, sym, ap, subst, ◌∙◌, arith, Option, Some, None, slice_get, ◌⊎◌, inl, inr}
use Rattle.dpc_lists.specs.Lists.{nth, changed}
use Rattle.dpc_model.specs.Actors.{role_of}
use Rattle.dpc_model.specs.Ports.{Port}
use Rattle.dpc_model.specs.Sessions.{Acked, after_ack}
use Rattle.dpc_model.specs.declared.sessions.Sub.{Sub}
use Rattle.dpc_model.specs.declared.actors.Role.TheVariants.{Node as IsNode}
use Rattle.dpc_model.specs.declared.messages.Event.{Event}
use Rattle.dpc_model.specs.declared.messages.Message.TheVariants as message
use Rattle.dpc_model.specs.declared.plans.Plan.{Plan}
use Rattle.dpc_model.specs.declared.plans.StreamRef.TheVariants.{Frag}
use Rattle.dpc_lists.proofs.Truths.{lt-of}
use Rattle.dpc_lists.proofs.Somes.{some-same}
use Rattle.dpc_lists.proofs.Each.{Each}
use Rattle.node_model.specs.Mails.{Packet, Plain, Mail, Stepped}
use Rattle.node_model.specs.Nodes.{Home, PlainNode, own_readers, new_node, restarted_node}
use Rattle.node_model.specs.NodeSteps.{packet_step, mill_step, tick_step}
use Rattle.world_model.specs.Worlds.{World, Envelope, Slot, home_of, slot_of, happens, run, new_world}
use Rattle.law_granting.proofs.Asked.{each-unit}
use Rattle.law_granting.proofs.Keys.{nth-changed}
use Rattle.law_granting.proofs.Slots.{got-sent}
use Rattle.law_granting.proofs.Saying.{own-delivered, own-milled, own-ticked}
use Rattle.law_readers.proofs.Passing.{Obliges, Takes, packet-passed, mill-passed, tick-passed}
use Rattle.law_safety.specs.Plans.{IsCheckedPlan}
use Rattle.law_safety.proofs.Law.{run-good}
use Rattle.law_safety.proofs.Growing.{run-plan}
use Rattle.law_granting.proofs.Prefix.{IsReader}
use Rattle.law_granting.proofs.Running.{new-slot}
use Rattle.law_readers.proofs.Running.{every-run}
use Rattle.law_survivors.proofs.Doing.{HasStepped, ReplicaDoes, replica-does}
use Rattle.law_survivors.proofs.Running.{never-sent}
use Rattle.law_survivors.proofs.Refused.{asking-run}
use Rattle.law_survivors.proofs.Peers.{SaysOf, SaysMail, packet-says, milled-says, ticked-says}

-- ---- what one replica knows

zero-first : {X : Type 0} (xs : List X) (k : ℕ) → (nth {X = Acked} (0, 0) (map (λ (_ : X). (0, 0)) xs) k).0 ≡ 0
zero-first [] k = refl
zero-first (x ∷ xs) zero = refl
zero-first (x ∷ xs) (suc k) = zero-first xs k

acked-first : (i count b : ℕ) (a : Acked) → i ≤ b → a.0 ≤ b → (after_ack i count a).0 ≤ b
acked-first i count b a h k =
    elim (nat_lt a.0 i) as (λ c. (cond {A = Acked} c (i, count) (cond (a.0 == i) (i, max a.1 count) a)).0 ≤ b) [
      | true ↦ h
      | false ↦ elim (a.0 == i) as (λ c. (cond {A = Acked} c (i, max a.1 count) a).0 ≤ b) [ true ↦ h | false ↦ k ]
    ]

module _ (home : Home) (x k b : ℕ) (it : nth 0 (own_readers home) k ≡ x) where
  abbrev pub First : List Port → List Sub → List Acked → ℕ → Type 0
  First ports subs acks base = (nth {X = Acked} (0, 0) acks k).0 ≤ b

  abbrev Any : Mail → Type 0
  Any m = Unit {0}

  first-obliges : Obliges home First Any
  first-obliges =
      record {
        told = λ to m e. tt;
        snapped = λ n to i try h. tt;
        batched = λ n j sub l items h there tally. tt;
        counted = λ n h. h;
        shut = λ n h. h;
        emptied = λ n h. let none = zero-first n.acks k in omega (arith, none);
        based = λ n count h. h;
        moved = λ n rs keeps h. h;
      }

  -- what x acknowledges is of no later incarnation
  abbrev pub TellsFirst : ℕ → Packet → Type 0
  TellsFirst a packet = (i count : ℕ) → packet ≡ Plain (message.Ack i count) → a ≡ x → i ≤ b

  first-takes : (a : ℕ) (packet : Packet) → TellsFirst a packet → Takes home First Any a packet
  first-takes a packet tells =
      record {
        subscribed = λ asked j n same reader h. record { after = h; sends = each-unit _ };
        acked = λ i count j n same reader h. by-place i count n same h j reader (nth-changed (0, 0) j (after_ack i count) n.acks k);
        took = λ u index p r items n same place chosen h. h;
        adopted = λ i try s n same h. h;
      }
    where
      by-place : (i count : ℕ) (n : PlainNode) → packet ≡ Plain (message.Ack i count) → (nth {X = Acked} (0, 0) n.acks k).0 ≤ b → (j : ℕ) → nth 0 (own_readers home) j ≡ a →
          (nth {X = Acked} (0, 0) (changed j (after_ack i count) n.acks) k ≡ nth (0, 0) n.acks k) ⊎ ((k ≡ j) × (nth {X = Acked} (0, 0) (changed j (after_ack i count) n.acks) k ≡ after_ack i count (nth (0, 0) n.acks k))) → (nth {X = Acked} (0, 0) (changed j (after_ack i count) n.acks) k).0 ≤ b
      by-place i count n same h j reader (inl still) = subst (λ (z : Acked). z.0 ≤ b) (sym still) h
      by-place i count n same h j reader (inr (here, now)) =
          subst (λ (z : Acked). z.0 ≤ b) (sym now) (acked-first i count b (nth (0, 0) n.acks k) (tells i count same (sym reader ∙ ap (λ (z : ℕ). nth 0 (own_readers home) z) (sym here) ∙ it)) h)

  pub packet-first : (a : ℕ) (packet : Packet) (n : PlainNode) → TellsFirst a packet → (nth {X = Acked} (0, 0) n.acks k).0 ≤ b → (nth {X = Acked} (0, 0) (packet_step home a packet n).after.acks k).0 ≤ b
  packet-first a packet n tells h = (packet-passed home First Any first-obliges a packet (first-takes a packet tells) n h).after

  pub milled-first : (r : ℕ) (n : PlainNode) → (nth {X = Acked} (0, 0) n.acks k).0 ≤ b → (nth {X = Acked} (0, 0) (mill_step home r n).after.acks k).0 ≤ b
  milled-first r n h = (mill-passed home First Any first-obliges r n h).after

  pub ticked-first : (now : ℕ) (n : PlainNode) → (nth {X = Acked} (0, 0) n.acks k).0 ≤ b → (nth {X = Acked} (0, 0) (tick_step home now n).after.acks k).0 ≤ b
  ticked-first now n h = (tick-passed home First Any first-obliges now n (λ m j. j) (λ m j. each-unit _) h).after

-- ---- a world

-- the acknowledgements of a, and what the replicas of f know of them; its place among the readers is k
pub record AreReached (plan : Plan) (a f k : ℕ) (w : World) : Type 0 where
  pub told : (j i count : ℕ) (e : Envelope) → slice_get w.envelopes j ≡ Some e → e.sender ≡ a → e.packet ≡ Plain (message.Ack i count) → i ≤ (slot_of w a).last_inc
  pub entries : (t c : ℕ) (v : PlainNode) → role_of plan t ≡ IsNode f c → (slot_of w t).node ≡ Some v → (nth {X = Acked} (0, 0) v.acks k).0 ≤ (slot_of w a).last_inc

new-acks : (home : Home) (k : ℕ) → (nth {X = Acked} (0, 0) (new_node home).acks k).0 ≡ 0
unfolding new_node
new-acks home k = zero-first (own_readers home) k

pub first-entries : (home : Home) (k b : ℕ) (v : PlainNode) → v ≡ new_node home → (nth {X = Acked} (0, 0) v.acks k).0 ≤ b
first-entries home k b v is = let none = new-acks home k in let same = ap (λ (z : PlainNode). (nth {X = Acked} (0, 0) z.acks k).0) is in omega (arith, none, same)

restarted-acks : (home : Home) (i k : ℕ) → (nth {X = Acked} (0, 0) (restarted_node home i).acks k).0 ≡ 0
unfolding restarted_node
restarted-acks home i k = zero-first (own_readers home) k

module _ (w next : World) (d : Event) (a g r f k : ℕ) (role : role_of w.plan a ≡ IsNode g r) (it : (c : ℕ) → nth 0 (own_readers (home_of w.plan (f, c))) k ≡ a) (does : (t f c : ℕ) → role_of w.plan t ≡ IsNode f c → ReplicaDoes w (home_of w.plan (f, c)) t d next)
    (inc-last : (n : PlainNode) → (slot_of w a).node ≡ Some n → n.grants.inc ≡ (slot_of w a).last_inc) (h : AreReached w.plan a f k w) where
  abbrev Here : Home
  Here = home_of w.plan (g, r)

  le-equal : (i j : ℕ) → i ≡ j → i ≤ j
  le-equal i j e = omega (arith, e)

  last-grows : (slot_of w a).last_inc ≤ (slot_of next a).last_inc
  last-grows = by-does (does a g r role)
    where
      by-does : ReplicaDoes w Here a d next → (slot_of w a).last_inc ≤ (slot_of next a).last_inc
      by-does (ReplicaDoes.Rests slot sends) = le-equal (slot_of w a).last_inc (slot_of next a).last_inc (sym (ap (λ (z : Slot). z.last_inc) slot))
      by-does (ReplicaDoes.Falls crash down last sends) = le-equal (slot_of w a).last_inc (slot_of next a).last_inc (sym last)
      by-does (ReplicaDoes.Starts i newer down now last sends) = let less = lt-of (slot_of w a).last_inc i newer in omega (arith, less, last)
      by-does (ReplicaDoes.Takes j e n event there can to s) = le-equal (slot_of w a).last_inc (slot_of next a).last_inc (sym s.last)
      by-does (ReplicaDoes.Ticks now n event s) = le-equal (slot_of w a).last_inc (slot_of next a).last_inc (sym s.last)
      by-does (ReplicaDoes.Mills m n s) = le-equal (slot_of w a).last_inc (slot_of next a).last_inc (sym s.last)

  old-told : (j i count : ℕ) (e : Envelope) → slice_get w.envelopes j ≡ Some e → e.sender ≡ a → e.packet ≡ Plain (message.Ack i count) → i ≤ (slot_of next a).last_inc
  old-told j i count e there mine packet = let low = h.told j i count e there mine packet in let more = last-grows in omega (arith, low, more)

  stepped-told : (n : PlainNode) (t : Stepped PlainNode) → HasStepped w next a n t → t.after.grants.inc ≡ n.grants.inc → Each (SaysMail Here t.after) t.sends → (j i count : ℕ) (e : Envelope) → slice_get next.envelopes j ≡ Some e → e.sender ≡ a → e.packet ≡ Plain (message.Ack i count) → i ≤ (slot_of next a).last_inc
  stepped-told n t s inc each j i count e there mine packet =
      elim (got-sent (SaysMail Here t.after) a w.envelopes t.sends j e each (sym (ap (λ (es : List Envelope). slice_get es j) s.sends) ∙ there)) [
        | inl old ↦ old-told j i count e old mine packet
        | inr (m, of, says) ↦
            let is : i ≡ t.after.grants.inc = subst (λ (z : Packet). SaysOf t.after z) packet (subst (λ (z : Envelope). SaysOf t.after z.packet) (sym of) says) in
            le-equal i (slot_of next a).last_inc (is ∙ inc ∙ inc-last n s.up ∙ sym s.last)
      ]

  told-next : ReplicaDoes w Here a d next → (j i count : ℕ) (e : Envelope) → slice_get next.envelopes j ≡ Some e → e.sender ≡ a → e.packet ≡ Plain (message.Ack i count) → i ≤ (slot_of next a).last_inc
  told-next (ReplicaDoes.Rests slot sends) j i count e there mine packet = old-told j i count e (sends j e there mine) mine packet
  told-next (ReplicaDoes.Falls crash down last sends) j i count e there mine packet = old-told j i count e (sends j e there mine) mine packet
  told-next (ReplicaDoes.Starts c newer down now last sends) j i count e there mine packet = old-told j i count e (sends j e there mine) mine packet
  told-next (ReplicaDoes.Takes q f n event at can to s) j i count e there mine packet = stepped-told n (packet_step Here f.sender f.packet n) s (own-delivered Here f.sender f.packet n).grants.inc (packet-says Here (packet_step Here f.sender f.packet n).after f.sender f.packet n) j i count e there mine packet
  told-next (ReplicaDoes.Ticks now n event s) j i count e there mine packet = stepped-told n (tick_step Here now n) s (own-ticked Here now n).grants.inc (ticked-says Here now n) j i count e there mine packet
  told-next (ReplicaDoes.Mills m n s) j i count e there mine packet = stepped-told n (mill_step Here m n) s (own-milled Here m n).grants.inc (milled-says Here (mill_step Here m n).after m n) j i count e there mine packet

  more-entry : (e : Acked) → e.0 ≤ (slot_of w a).last_inc → e.0 ≤ (slot_of next a).last_inc
  more-entry e low = let more = last-grows in omega (arith, low, more)

  entries-next : (t c : ℕ) → role_of w.plan t ≡ IsNode f c → ReplicaDoes w (home_of w.plan (f, c)) t d next → (v : PlainNode) → (slot_of next t).node ≡ Some v → (nth {X = Acked} (0, 0) v.acks k).0 ≤ (slot_of next a).last_inc
  entries-next t c role_t (ReplicaDoes.Rests slot sends) v up = more-entry (nth (0, 0) v.acks k) (h.entries t c v role_t (sym (ap (λ (z : Slot). z.node) slot) ∙ up))
  entries-next t c role_t (ReplicaDoes.Falls crash down last sends) v up = let clash : ◌≡◌ {A = Option PlainNode} None (Some v) = sym down ∙ up in cc
  entries-next t c role_t (ReplicaDoes.Starts i newer down now last sends) v up =
      let none = restarted-acks (home_of w.plan (f, c)) i k in
      let same = ap (λ (z : PlainNode). (nth {X = Acked} (0, 0) z.acks k).0) (some-same (restarted_node (home_of w.plan (f, c)) i) v (sym now ∙ up)) in omega (arith, none, same)
  entries-next t c role_t (ReplicaDoes.Takes j e n event there can to s) v up =
      let z = (packet_step (home_of w.plan (f, c)) e.sender e.packet n).after in
      subst (λ (y : PlainNode). (nth {X = Acked} (0, 0) y.acks k).0 ≤ (slot_of next a).last_inc) (some-same z v (sym s.now ∙ up))
      (more-entry (nth (0, 0) z.acks k) (packet-first (home_of w.plan (f, c)) a k (slot_of w a).last_inc (it c) e.sender e.packet n (λ i count packet mine. h.told j i count e there mine packet) (h.entries t c n role_t s.up)))
  entries-next t c role_t (ReplicaDoes.Ticks now n event s) v up =
      let z = (tick_step (home_of w.plan (f, c)) now n).after in
      subst (λ (y : PlainNode). (nth {X = Acked} (0, 0) y.acks k).0 ≤ (slot_of next a).last_inc) (some-same z v (sym s.now ∙ up)) (more-entry (nth (0, 0) z.acks k) (ticked-first (home_of w.plan (f, c)) a k (slot_of w a).last_inc (it c) now n (h.entries t c n role_t s.up)))
  entries-next t c role_t (ReplicaDoes.Mills m n s) v up =
      let z = (mill_step (home_of w.plan (f, c)) m n).after in
      subst (λ (y : PlainNode). (nth {X = Acked} (0, 0) y.acks k).0 ≤ (slot_of next a).last_inc) (some-same z v (sym s.now ∙ up)) (more-entry (nth (0, 0) z.acks k) (milled-first (home_of w.plan (f, c)) a k (slot_of w a).last_inc (it c) m n (h.entries t c n role_t s.up)))

  pub reached-next : AreReached w.plan a f k next
  reached-next = record { told = told-next (does a g r role); entries = λ t c v role_t up. entries-next t c role_t (does t f c role_t) v up }

-- ---- every run

pub reached-run : (plan : Plan) (events : List Event) → IsCheckedPlan plan → (a g r f : ℕ) → role_of plan a ≡ IsNode g r → (reader : IsReader plan (Frag f) a) → AreReached plan a f reader.place (run plan events)
reached-run plan events checked a g r f role reader =
    every-run plan (λ w. AreReached plan a f reader.place w) first (λ before e h.
    let w = run plan before in
    let same = run-plan plan before in
    let role_w : role_of w.plan a ≡ IsNode g r = ap (λ (z : Plan). role_of z a) same ∙ role in
    subst (λ (z : Plan). AreReached z a f reader.place (happens w e)) same
    (reached-next w (happens w e) e a g r f reader.place role_w (λ c. ap (λ (z : Plan). nth 0 (own_readers (home_of z (f, c))) reader.place) same ∙ reader.it) (λ t f c role_t. replica-does w (1 + length before) (run-good plan before checked).fine t f c role_t e)
    (λ n up. ((asking-run plan before checked).nodes a g r n role_w up).inc) (subst (λ (z : Plan). AreReached z a f reader.place w) (sym same) h))) events
  where
    first : AreReached plan a f reader.place (new_world plan)
    first =
        record {
          told = λ j i count e there mine packet. absurd (never-sent plan j e there);
          entries = λ t c v role_t up. first-entries (home_of plan (f, c)) reader.place (slot_of (new_world plan) a).last_inc v (some-same v (new_node (home_of plan (f, c))) (sym up ∙ ap (λ (z : Slot). z.node) (new-slot plan t f c role_t)));
        }
