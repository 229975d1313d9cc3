-- One step of a node keeps its base at most what a client holds; and what a client holds never shrinks.
use Rattle.std.proofs.Common.{◌≡◌, ℕ, zero, suc, ◌<◌, ◌≤◌, max, true, false, cond, ◌&&◌, ◌||◌, ◌==◌, nat_lt, nat_le, List, [], ◌∷◌, map, length, refl, sym, ap, subst, ◌∙◌, arith, Option, Some, None, inl, inr}
use Rattle.std.proofs.lemmas.List.{length-map}
use Rattle.dpc_lists.specs.Lists.{nth, least, push}
use Rattle.dpc_model.specs.Reading.{Reader, Reading, NoReading, Skipped, Taken as TakenItem, reading, is_sure, Folded, taken_first, fold_items}
use Rattle.dpc_model.specs.Inlets.{InletState, AfterBatch, is_old, after_missing_batch, after_next_batch, take_batch}
use Rattle.dpc_model.specs.Ports.{Port}
use Rattle.dpc_model.specs.Sessions.{no_session, Acked, answer_to, after_ack, base_after}
use Rattle.dpc_model.specs.declared.sessions.Sub.{Sub}
use Rattle.dpc_model.specs.declared.batches.Taken.TheVariants.{Old}
use Rattle.dpc_model.specs.declared.tuples.Tuple.{Tuple}
use Rattle.dpc_model.specs.declared.tuples.Item.{Item}
use Rattle.dpc_model.specs.declared.tuples.Item.TheVariants as item
use Rattle.dpc_model.specs.declared.messages.Sess.{Sess}
use Rattle.dpc_model.specs.declared.messages.Message.{Message}
use Rattle.dpc_model.specs.declared.messages.Message.TheVariants as message
use Rattle.dpc_lists.proofs.Elements.{length-changed}
use Rattle.node_model.specs.Mails.{Snap, Packet, Plain, SnapFor, Mail, mail}
use Rattle.node_model.specs.Nodes.{Home, PlainNode, streams_of, own_readers, shown}
use Rattle.node_model.specs.NodeSteps.{packet_step, mill_step, tick_step}
use Rattle.dpc_lists.proofs.Each.{Each}
use Rattle.law_granting.proofs.Each.{each-subscription}
use Rattle.law_granting.proofs.Keys.{nth-changed}
use Rattle.law_readers.proofs.Passing.{At, Passed, Obliges, Takes, packet-passed, mill-passed, tick-passed}

-- ---- a node

-- the base, and what the reader x acknowledged, are at most b
pub record IsLow (home : Home) (x b : ℕ) (acked : List Acked) (kept : ℕ) : Type 0 where
  pub base : kept ≤ b
  pub many : length acked ≡ length (own_readers home)
  pub acks : (k : ℕ) → nth 0 (own_readers home) k ≡ x → (nth {X = Acked} (0, 0) acked k).1 ≤ b

abbrev pub Low : Home → ℕ → ℕ → List Port → List Sub → List Acked → ℕ → Type 0
Low home x b ports subs acks base = IsLow home x b acks base

-- and so is a snapshot's base
abbrev pub LowPacket : ℕ → Packet → Type 0
LowPacket b (SnapFor i try s) = s.base ≤ b
LowPacket b (Plain m) = Unit {0}

abbrev pub LowMail : ℕ → Mail → Type 0
LowMail b m = LowPacket b m.packet

least-at : (os : List Acked) (k : ℕ) → k < length os → least 0 (map (λ (a : Acked). a.1) os) ≤ (nth {X = Acked} (0, 0) os k).1
least-at [] k h = absurd (omega (arith, h))
least-at (a ∷ []) zero h = omega arith
least-at (a ∷ []) (suc k) h = absurd (omega (arith, h))
least-at (a ∷ c ∷ os) zero h = omega arith
least-at (a ∷ c ∷ os) (suc k) h = let rest = least-at (c ∷ os) k (omega (arith, h)) in omega (arith, rest)

pub none-acked : {X : Type 0} (xs : List X) (k : ℕ) → (nth {X = Acked} (0, 0) (map (λ (_ : X). (0, 0)) xs) k).1 ≡ 0
none-acked [] k = refl
none-acked (x ∷ xs) zero = refl
none-acked (x ∷ xs) (suc k) = none-acked xs k

acked-low : (i count b : ℕ) (a : Acked) → count ≤ b → a.1 ≤ b → (after_ack i count a).1 ≤ b
acked-low i count b a h k =
    elim (nat_lt a.0 i) as (λ c. (cond {A = Acked} c (i, count) (cond (a.0 == i) (i, max a.1 count) a)).1 ≤ b) [
      | true ↦ h
      | false ↦ elim (a.0 == i) as (λ c. (cond {A = Acked} c (i, max a.1 count) a).1 ≤ b) [ true ↦ omega (arith, h, k) | false ↦ k ]
    ]

-- x is a reader of the node's output
module _ (home : Home) (x b place : ℕ) (within : place < length (own_readers home)) (it : nth 0 (own_readers home) place ≡ x) where
  based-low : (acks : List Acked) (base count : ℕ) → IsLow home x b acks base → IsLow home x b acks (base_after base acks count)
  based-low acks base count h =
      let many = h.many in
      let least_one = least-at acks place (omega (arith, many, within)) in
      let own = h.acks place it in
      let old = h.base in
      record { base = omega (arith, least_one, own, old); many = h.many; acks = h.acks }

  low-obliges : Obliges home (Low home x b) (LowMail b)
  low-obliges =
      record {
        told = λ to m e. tt;
        snapped = λ n to i try h. h.base;
        batched = λ n k sub l items h there e. tt;
        counted = λ n h. h;
        shut = λ n h. h;
        emptied = λ n h. record { base = omega arith; many = length-map n.acks (λ (_ : Acked). (0, 0)) ∙ h.many; acks = λ k e. let none = none-acked n.acks k in omega (arith, none) };
        based = λ n count h. based-low n.acks n.base count h;
        moved = λ n rs keeps h. h;
      }

  -- what the packet tells is low
  pub record TellsLow (a : ℕ) (packet : Packet) : Type 0 where
    pub snapshot : (i try : ℕ) (s : Snap) → packet ≡ SnapFor i try s → s.base ≤ b
    pub ack : (i count : ℕ) → packet ≡ Plain (message.Ack i count) → a ≡ x → count ≤ b

  low-takes : (a : ℕ) (packet : Packet) → TellsLow a packet → Takes home (Low home x b) (LowMail b) a packet
  low-takes a packet t =
      record {
        subscribed = λ asked k n same reader h. record { after = h; sends = answer k (answer_to (shown home n) (nth no_session n.subs k) asked).answer };
        acked = λ i count k n same reader h. record {
          base = h.base;
          many = length-changed k (after_ack i count) n.acks ∙ h.many;
          acks = λ j e. elim (nth-changed (0, 0) k (after_ack i count) n.acks j) [
            | inl still ↦ subst (λ (z : Acked). z.1 ≤ b) (sym still) (h.acks j e)
            | inr here ↦
                let mine : a ≡ x = sym reader ∙ ap (λ (z : ℕ). nth 0 (own_readers home) z) (sym here.0) ∙ e in
                subst (λ (z : Acked). z.1 ≤ b) (sym here.1) (acked-low i count b (nth (0, 0) n.acks j) (t.ack i count same mine) (h.acks j e))
          ];
        };
        took = λ u index p r items n same place chosen h. h;
        adopted = λ i try s n same h. record { base = t.snapshot i try s same; many = h.many; acks = h.acks };
      }
    where
      answer : (k : ℕ) (o : Option Message) → Each (LowMail b) (elim o as (λ _. List Mail) [ None ↦ [] | Some m ↦ mail (nth 0 (own_readers home) k) m ∷ [] ])
      answer k None = tt
      answer k (Some m) = (tt, tt)

  pub delivered-low : (a : ℕ) (packet : Packet) (n : PlainNode) → TellsLow a packet → At (Low home x b) n → Passed (Low home x b) (LowMail b) (packet_step home a packet n)
  delivered-low a packet n t h = packet-passed home (Low home x b) (LowMail b) low-obliges a packet (low-takes a packet t) n h

  pub milled-low : (r : ℕ) (n : PlainNode) → At (Low home x b) n → Passed (Low home x b) (LowMail b) (mill_step home r n)
  milled-low r n h = mill-passed home (Low home x b) (LowMail b) low-obliges r n h

  pub ticked-low : (now : ℕ) (n : PlainNode) → At (Low home x b) n → Passed (Low home x b) (LowMail b) (tick_step home now n)
  ticked-low now n h = tick-passed home (Low home x b) (LowMail b) low-obliges now n (λ m k. k) (λ m k. each-subscription (LowMail b) home.plan m.ports (streams_of home) (λ to asked. tt)) h

-- ---- a reader

push-longer : (ts : List Tuple) (t : Tuple) → length ts ≤ length (push ts t)
push-longer [] t = omega arith
push-longer (u ∷ ts) t = let rest = push-longer ts t in omega (arith, rest)

-- no item makes the stable tuples fewer
abbrev NoFewer : Reader → Reading → Type 0
NoFewer r NoReading = Unit {0}
NoFewer r Skipped = Unit {0}
NoFewer r (TakenItem s) = length r.stable ≤ length s.stable

reading-longer : (r : Reader) (i : Item) → NoFewer r (reading r i)
reading-longer r (item.Stable k t) =
    elim (nat_lt k (length r.stable)) as (λ c. NoFewer r (cond c Skipped (cond (k == length r.stable && is_sure r) (TakenItem (record r { stable = push r.stable t })) NoReading))) [
      | true ↦ tt
      | false ↦ elim (k == length r.stable && is_sure r) as (λ c. NoFewer r (cond c (TakenItem (record r { stable = push r.stable t })) NoReading)) [ true ↦ push-longer r.stable t | false ↦ tt ]
    ]
reading-longer r (item.Tentative t) =
    elim (nat_le r.bound t.stime) as (λ c. NoFewer r (cond c (TakenItem (record r { tentative = push r.tentative t })) Skipped)) [ true ↦ omega arith | false ↦ tt ]
reading-longer r (item.Passed b) =
    elim (nat_lt r.bound b && nat_lt r.passed b) as (λ c. NoFewer r (cond c (TakenItem (record r { passed = b })) Skipped)) [ true ↦ omega arith | false ↦ tt ]
reading-longer r (item.Boundary b m) =
    elim (nat_le m (length r.stable) && is_sure r) as (λ c. NoFewer r (cond c (cond (nat_lt r.bound b) (TakenItem (record r { bound = b })) Skipped) NoReading)) [
      | true ↦ elim (nat_lt r.bound b) as (λ c. NoFewer r (cond c (TakenItem (record r { bound = b })) Skipped)) [ true ↦ omega arith | false ↦ tt ]
      | false ↦ tt
    ]
reading-longer r (item.Undo n) = omega arith
reading-longer r item.RecDone = elim (is_sure r) as (λ c. NoFewer r (cond c (TakenItem r) NoReading)) [ true ↦ omega arith | false ↦ tt ]

abbrev NoneFewer : ℕ → Option Folded → Type 0
NoneFewer k None = Unit {0}
NoneFewer k (Some f) = k ≤ length f.after.stable

first-longer : (k : ℕ) (i : Item) (o : Option Folded) → NoneFewer k o → NoneFewer k (taken_first i o)
first-longer k i None h = h
first-longer k i (Some f) h = h

fewer-later : (j k : ℕ) (o : Option Folded) → j ≤ k → NoneFewer k o → NoneFewer j o
fewer-later j k None h g = g
fewer-later j k (Some f) h g = omega (arith, h, g)

fold-longer : (r : Reader) (items : List Item) → NoneFewer (length r.stable) (fold_items r items)
fold-longer r [] = omega arith
fold-longer r (i ∷ items) =
    (elim (reading r i) as (λ x. NoFewer r x → NoneFewer (length r.stable) (elim x [ NoReading ↦ None | Skipped ↦ fold_items r items | TakenItem s ↦ taken_first i (fold_items s items) ])) [
      | NoReading ↦ λ h. tt
      | Skipped ↦ λ h. fold-longer r items
      | TakenItem s ↦ λ h. first-longer (length r.stable) i (fold_items s items) (fewer-later (length r.stable) (length s.stable) (fold_items s items) h (fold-longer s items))
    ]) (reading-longer r i)

pub took-longer : (inlet : InletState) (u : Sess) (index : ℕ) (items : List Item) → length inlet.held.stable ≤ length (take_batch inlet u index items).after.held.stable
unfolding take_batch
took-longer inlet u index items =
    elim (is_old inlet u index) as (λ b. length inlet.held.stable ≤ length (cond {A = AfterBatch} b (record { after = inlet; answer = Old }) (cond (inlet.broken || nat_lt inlet.next index) (after_missing_batch inlet) (after_next_batch inlet (fold_items inlet.held items)))).after.held.stable) [
      | true ↦ omega arith
      | false ↦ elim (inlet.broken || nat_lt inlet.next index) as (λ b. length inlet.held.stable ≤ length (cond {A = AfterBatch} b (after_missing_batch inlet) (after_next_batch inlet (fold_items inlet.held items))).after.held.stable) [
        | true ↦ omega arith
        | false ↦ by-folded (fold_items inlet.held items) (fold-longer inlet.held items)
      ]
    ]
  where
    by-folded : (o : Option Folded) → NoneFewer (length inlet.held.stable) o → length inlet.held.stable ≤ length (after_next_batch inlet o).after.held.stable
    by-folded None h = omega arith
    by-folded (Some f) h = h
