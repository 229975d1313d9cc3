-- What a replica knows of a reader's acknowledgements it was told by the reader.
use Rattle.std.proofs.Common.{◌≡◌, ℕ, zero, suc, ◌+◌, ◌<◌, ◌≤◌, max, true, false, cond, ◌==◌, nat_lt, List, [], ◌∷◌, map, length, refl, sym, ap, subst, ◌∙◌, arith, Option, Some, None, slice_get, ◌⊎◌, inl, inr}
use Rattle.dpc_lists.specs.Lists.{nth, changed}
use Rattle.dpc_lists.proofs.Truths.{eq-of}
use Rattle.dpc_lists.proofs.Somes.{some-same}
use Rattle.dpc_lists.proofs.Elements.{get-first}
use Rattle.dpc_model.specs.Actors.{role_of}
use Rattle.dpc_model.specs.Ports.{Port}
use Rattle.dpc_model.specs.Sessions.{Acked, after_ack}
use Rattle.dpc_model.specs.declared.sessions.Sub.{Sub}
use Rattle.dpc_model.specs.declared.actors.Role.TheVariants.{Node as IsNode}
use Rattle.dpc_model.specs.declared.messages.Event.{Event}
use Rattle.dpc_model.specs.declared.messages.Message.TheVariants as message
use Rattle.dpc_model.specs.declared.plans.Plan.{Plan}
use Rattle.dpc_model.specs.declared.plans.StreamRef.TheVariants.{Frag}
use Rattle.dpc_model.proofs.Numbers.{le-or}
use Rattle.node_model.specs.Mails.{Packet, Plain, Mail}
use Rattle.node_model.specs.Nodes.{Home, PlainNode, own_readers, new_node, restarted_node}
use Rattle.node_model.specs.NodeSteps.{packet_step, mill_step, tick_step}
use Rattle.world_model.specs.Worlds.{World, Envelope, Slot, home_of, slot_of, happens, run, new_world}
use Rattle.law_granting.proofs.Asked.{each-unit}
use Rattle.law_granting.proofs.Keys.{nth-changed}
use Rattle.law_granting.proofs.Prefix.{IsReader}
use Rattle.law_granting.proofs.Running.{new-slot}
use Rattle.law_readers.proofs.Counting.{none-acked}
use Rattle.law_readers.proofs.Passing.{Obliges, Takes, packet-passed, mill-passed, tick-passed}
use Rattle.law_readers.proofs.Running.{every-run}
use Rattle.law_safety.specs.Plans.{IsCheckedPlan}
use Rattle.law_safety.proofs.Law.{run-good}
use Rattle.law_safety.proofs.Growing.{run-plan, event-grows}
use Rattle.law_survivors.proofs.Doing.{ReplicaDoes, replica-does}

-- nothing was acknowledged, or what was told
abbrev pub StemsFrom : (ℕ → ℕ → Type 0) → Acked → Type 0
StemsFrom told e = (e.1 ≡ 0) ⊎ told e.0 e.1

max-second : (a b : ℕ) → a ≤ b → max a b ≡ b
max-second a b h = grind (arith, h)

max-first : (a b : ℕ) → b < a → max a b ≡ a
max-first a b h = grind (arith, h)

after-stems : (told : ℕ → ℕ → Type 0) (i count : ℕ) (e : Acked) → told i count → StemsFrom told e → StemsFrom told (after_ack i count e)
after-stems told i count e now h =
    elim (nat_lt e.0 i) as (λ c. StemsFrom told (cond {A = Acked} c (i, count) (cond (e.0 == i) (i, max e.1 count) e))) [
      | true ↦ inr now
      | false ↦ (elim (e.0 == i) as (λ c. (e.0 == i) ≡ c → StemsFrom told (cond {A = Acked} c (i, max e.1 count) e)) [
        | true ↦ λ same. larger (eq-of e.0 i same) (le-or e.1 count) h
        | false ↦ λ other. h
      ]) refl
    ]
  where
    larger : e.0 ≡ i → (e.1 ≤ count) ⊎ (count < e.1) → StemsFrom told e → StemsFrom told (i, max e.1 count)
    larger same (inl low) k = inr (subst (λ (c : ℕ). told i c) (sym (max-second e.1 count low)) now)
    larger same (inr more) (inl none) = absurd (omega (arith, more, none))
    larger same (inr more) (inr was) = inr (subst (λ (c : ℕ). told i c) (sym (max-first e.1 count more)) (subst (λ (j : ℕ). told j e.1) same was))

module _ (home : Home) (x k : ℕ) (told : ℕ → ℕ → Type 0) (it : nth 0 (own_readers home) k ≡ x) where
  abbrev pub Stem : List Port → List Sub → List Acked → ℕ → Type 0
  Stem ports subs acks base = StemsFrom told (nth {X = Acked} (0, 0) acks k)

  abbrev Any : Mail → Type 0
  Any m = Unit {0}

  stem-obliges : Obliges home Stem Any
  stem-obliges =
      record {
        told = λ to m e. tt;
        snapped = λ n to i try h. tt;
        batched = λ n j sub l items h there tally. tt;
        counted = λ n h. h;
        shut = λ n h. h;
        emptied = λ n h. inl (none-acked n.acks k);
        based = λ n count h. h;
        moved = λ n rs keeps h. h;
      }

  -- what x acknowledges is told
  abbrev pub TellsIt : ℕ → Packet → Type 0
  TellsIt a packet = (i count : ℕ) → packet ≡ Plain (message.Ack i count) → a ≡ x → told i count

  stem-takes : (a : ℕ) (packet : Packet) → TellsIt a packet → Takes home Stem Any a packet
  stem-takes a packet tells =
      record {
        subscribed = λ asked j n same reader h. record { after = h; sends = each-unit _ };
        acked = λ i count j n same reader h. by-place i count n same h j reader (nth-changed (0, 0) j (after_ack i count) n.acks k);
        took = λ u index p r items n same place chosen h. h;
        adopted = λ i try s n same h. h;
      }
    where
      by-place : (i count : ℕ) (n : PlainNode) → packet ≡ Plain (message.Ack i count) → StemsFrom told (nth (0, 0) n.acks k) → (j : ℕ) → nth 0 (own_readers home) j ≡ a →
          (nth {X = Acked} (0, 0) (changed j (after_ack i count) n.acks) k ≡ nth (0, 0) n.acks k) ⊎ ((k ≡ j) × (nth {X = Acked} (0, 0) (changed j (after_ack i count) n.acks) k ≡ after_ack i count (nth (0, 0) n.acks k))) → StemsFrom told (nth {X = Acked} (0, 0) (changed j (after_ack i count) n.acks) k)
      by-place i count n same h j reader (inl still) = subst (λ (z : Acked). StemsFrom told z) (sym still) h
      by-place i count n same h j reader (inr (here, now)) =
          subst (λ (z : Acked). StemsFrom told z) (sym now) (after-stems told i count (nth (0, 0) n.acks k) (tells i count same (sym reader ∙ ap (λ (z : ℕ). nth 0 (own_readers home) z) (sym here) ∙ it)) h)

  pub packet-stems : (a : ℕ) (packet : Packet) (n : PlainNode) → TellsIt a packet → StemsFrom told (nth {X = Acked} (0, 0) n.acks k) → StemsFrom told (nth {X = Acked} (0, 0) (packet_step home a packet n).after.acks k)
  packet-stems a packet n tells h = (packet-passed home Stem Any stem-obliges a packet (stem-takes a packet tells) n h).after

  pub milled-stems : (r : ℕ) (n : PlainNode) → StemsFrom told (nth {X = Acked} (0, 0) n.acks k) → StemsFrom told (nth {X = Acked} (0, 0) (mill_step home r n).after.acks k)
  milled-stems r n h = (mill-passed home Stem Any stem-obliges r n h).after

  pub ticked-stems : (now : ℕ) (n : PlainNode) → StemsFrom told (nth {X = Acked} (0, 0) n.acks k) → StemsFrom told (nth {X = Acked} (0, 0) (tick_step home now n).after.acks k)
  ticked-stems now n h = (tick-passed home Stem Any stem-obliges now n (λ m j. j) (λ m j. each-unit _) h).after

-- ---- a world

-- a acknowledged so many tuples to t in the incarnation i
pub record WasTold (w : World) (a t i count : ℕ) : Type 0 where
  pub place : ℕ
  pub envelope : Envelope
  pub there : slice_get w.envelopes place ≡ Some envelope
  pub sender : envelope.sender ≡ a
  pub sent_to : envelope.to ≡ t
  pub packet : envelope.packet ≡ Plain (message.Ack i count)

-- so it is of each entry of a in the replicas of f; its place among the readers is k
abbrev pub AreStemming : Plan → ℕ → ℕ → ℕ → World → Type 0
AreStemming plan a f k w = (t c : ℕ) (v : PlainNode) → role_of plan t ≡ IsNode f c → (slot_of w t).node ≡ Some v → StemsFrom (WasTold w a t) (nth {X = Acked} (0, 0) v.acks k)

zeros : {X : Type 0} (xs : List X) (k : ℕ) → (nth {X = Acked} (0, 0) (map (λ (_ : X). (0, 0)) xs) k).1 ≡ 0
zeros [] k = refl
zeros (x ∷ xs) zero = refl
zeros (x ∷ xs) (suc k) = zeros xs k

new-zero : (home : Home) (k : ℕ) → (nth {X = Acked} (0, 0) (new_node home).acks k).1 ≡ 0
unfolding new_node
new-zero home k = zeros (own_readers home) k

restarted-zero : (home : Home) (i k : ℕ) → (nth {X = Acked} (0, 0) (restarted_node home i).acks k).1 ≡ 0
unfolding restarted_node
restarted-zero home i k = zeros (own_readers home) k

module _ (w : World) (d : Event) (a f k t c : ℕ) (role : role_of w.plan t ≡ IsNode f c) (it : nth 0 (own_readers (home_of w.plan (f, c))) k ≡ a) (h : (v : PlainNode) → (slot_of w t).node ≡ Some v → StemsFrom (WasTold w a t) (nth {X = Acked} (0, 0) v.acks k)) where
  abbrev next : World
  next = happens w d

  abbrev Here : Home
  Here = home_of w.plan (f, c)

  abbrev entry : PlainNode → Acked
  entry v = nth {X = Acked} (0, 0) v.acks k

  told-on : (i count : ℕ) → WasTold w a t i count → WasTold next a t i count
  told-on i count s =
      let there = ap (λ (es : List Envelope). slice_get es s.place) (event-grows w d).envelopes ∙ get-first w.envelopes (event-grows w d).more s.place s.envelope s.there in
      record { place = s.place; envelope = s.envelope; there = there; sender = s.sender; sent_to = s.sent_to; packet = s.packet }

  stems-on : (e : Acked) → StemsFrom (WasTold w a t) e → StemsFrom (WasTold next a t) e
  stems-on e (inl none) = inl none
  stems-on e (inr was) = inr (told-on e.0 e.1 was)

  stepped : (z v : PlainNode) → (slot_of next t).node ≡ Some z → (slot_of next t).node ≡ Some v → StemsFrom (WasTold w a t) (entry z) → StemsFrom (WasTold next a t) (entry v)
  stepped z v now up s = subst (λ (y : PlainNode). StemsFrom (WasTold next a t) (entry y)) (some-same z v (sym now ∙ up)) (stems-on (entry z) s)

  pub stems-next : ReplicaDoes w Here t d next → (v : PlainNode) → (slot_of next t).node ≡ Some v → StemsFrom (WasTold next a t) (entry v)
  stems-next (ReplicaDoes.Rests slot sends) v up = stems-on (entry v) (h v (sym (ap (λ (z : Slot). z.node) slot) ∙ up))
  stems-next (ReplicaDoes.Falls crash down last sends) v up = let clash : ◌≡◌ {A = Option PlainNode} None (Some v) = sym down ∙ up in cc
  stems-next (ReplicaDoes.Starts i newer down now last sends) v up = inl (sym (ap (λ (z : PlainNode). (entry z).1) (some-same (restarted_node Here i) v (sym now ∙ up))) ∙ restarted-zero Here i k)
  stems-next (ReplicaDoes.Takes j e n event there can to s) v up =
      stepped (packet_step Here e.sender e.packet n).after v s.now up
      (packet-stems Here a k (WasTold w a t) it e.sender e.packet n (λ i count packet mine. record { place = j; envelope = e; there = there; sender = mine; sent_to = to; packet = packet }) (h n s.up))
  stems-next (ReplicaDoes.Ticks now n event s) v up = stepped (tick_step Here now n).after v s.now up (ticked-stems Here a k (WasTold w a t) it now n (h n s.up))
  stems-next (ReplicaDoes.Mills m n s) v up = stepped (mill_step Here m n).after v s.now up (milled-stems Here a k (WasTold w a t) it m n (h n s.up))

-- ---- every run

pub stems-run : (plan : Plan) (events : List Event) → IsCheckedPlan plan → (a f : ℕ) → (reader : IsReader plan (Frag f) a) → AreStemming plan a f reader.place (run plan events)
stems-run plan events checked a f reader =
    every-run plan (λ w. AreStemming plan a f reader.place w) first (λ before e h t c v role up.
    let w = run plan before in
    let same = run-plan plan before in
    let role_w : role_of w.plan t ≡ IsNode f c = ap (λ (z : Plan). role_of z t) same ∙ role in
    stems-next w e a f reader.place t c role_w (ap (λ (z : Plan). nth 0 (own_readers (home_of z (f, c))) reader.place) same ∙ reader.it) (λ v up. h t c v role up) (replica-does w (1 + length before) (run-good plan before checked).fine t f c role_w e) v up) events
  where
    first : AreStemming plan a f reader.place (new_world plan)
    first t c v role up = inl (ap (λ (z : PlainNode). (nth {X = Acked} (0, 0) z.acks reader.place).1) (some-same v (new_node (home_of plan (f, c))) (sym up ∙ ap (λ (z : Slot). z.node) (new-slot plan t f c role))) ∙ new-zero (home_of plan (f, c)) reader.place)
