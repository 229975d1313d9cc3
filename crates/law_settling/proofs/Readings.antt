-- What a packet of its source makes of an inlet, by parts.
use Rattle.std.proofs.Common.{◌≡◌, ℕ, ◌+◌, ◌≤◌, true, false, cond, not, ◌&&◌, ◌||◌, nat_lt, List, refl, sym, ap, ◌∙◌, arith, Option, Some, None, ◌⊎◌, inl, inr}
use Rattle.std.proofs.lemmas.Grind.{common_steps}
use Rattle.dpc_model.specs.Reading.{Reader, Folded, fold_items}
use Rattle.dpc_model.specs.Inlets.{InletState, same_sess, is_newer, AfterBatch, is_old, after_missing_batch, after_next_batch, take_batch, after_tally, shows_loss}
use Rattle.dpc_model.specs.declared.batches.Taken.TheVariants.{Old}
use Rattle.dpc_model.specs.declared.tuples.Item.{Item}
use Rattle.dpc_model.specs.declared.messages.Sess.{Sess}
use Rattle.dpc_model.specs.declared.messages.Message.TheVariants as message
use Rattle.node_model.specs.Mails.{Packet, Plain, SnapFor}
use Rattle.dpc_lists.proofs.Truths.{not-lt, or-true}
use Rattle.law_safety.proofs.Batches.{take_batch-bound}
use Rattle.law_settling.proofs.Exact.{inlet_after}
use Rattle.law_settling.proofs.Standing.{asked_inlet}

-- the bound of what is held does not fall
pub after-bound : (packet : Packet) (i : InletState) → i.held.bound ≤ (inlet_after packet i).held.bound
after-bound (Plain (message.Batch u index items)) i = take_batch-bound i u index items
after-bound (Plain (message.Beat b)) i = omega arith
after-bound (Plain (message.Subscribe asked)) i = omega arith
after-bound (Plain (message.Truncated u base)) i = omega arith
after-bound (Plain (message.Ack j n)) i = omega arith
after-bound (Plain (message.Ask j n)) i = omega arith
after-bound (Plain (message.Grant j n)) i = omega arith
after-bound (Plain (message.SnapAsk j n)) i = omega arith
after-bound (SnapFor j try s) i = omega arith

-- a batch, by its three cases
by-batch : (P : InletState → Type 0) (i : InletState) (u : Sess) (index : ℕ) (items : List Item) → P i → P (record i { broken = true }) → (i.broken ≡ false → (f : Folded) → P (after_next_batch i (Some f)).after) → P (take_batch i u index items).after
unfolding take_batch
by-batch P i u index items old missing next =
    elim (is_old i u index) as (λ b. P (cond {A = AfterBatch} b (record { after = i; answer = Old }) (cond (i.broken || nat_lt i.next index) (after_missing_batch i) (after_next_batch i (fold_items i.held items)))).after) [
      | true ↦ old
      | false ↦ (elim i.broken as (λ c. i.broken ≡ c → P (cond {A = AfterBatch} (c || nat_lt i.next index) (after_missing_batch i) (after_next_batch i (fold_items i.held items))).after) [
        | true ↦ λ e. missing
        | false ↦ λ e. elim (nat_lt i.next index) as (λ c. P (cond {A = AfterBatch} c (after_missing_batch i) (after_next_batch i (fold_items i.held items))).after) [
          | true ↦ missing
          | false ↦ by-folded e (fold_items i.held items)
        ]
      ]) refl
    ]
  where
    by-folded : i.broken ≡ false → (o : Option Folded) → P (after_next_batch i o).after
    by-folded e None = missing
    by-folded e (Some f) = next e f

-- a broken inlet stays so
pub after-broken : (packet : Packet) (i : InletState) → i.broken ≡ true → (inlet_after packet i).broken ≡ true
after-broken (Plain (message.Batch u index items)) i h = by-batch (λ j. j.broken ≡ true) i u index items h refl (λ e f. let clash : true ≡ false = sym h ∙ e in cc)
after-broken (Plain (message.Beat b)) i h = ap (λ c. c || shows_loss i b.tally) h
after-broken (Plain (message.Subscribe asked)) i h = h
after-broken (Plain (message.Truncated u base)) i h = h
after-broken (Plain (message.Ack j n)) i h = h
after-broken (Plain (message.Ask j n)) i h = h
after-broken (Plain (message.Grant j n)) i h = h
after-broken (Plain (message.SnapAsk j n)) i h = h
after-broken (SnapFor j try s) i h = h

-- and so does an answered one
pub after-answered : (packet : Packet) (i : InletState) → i.answered ≡ true → (inlet_after packet i).answered ≡ true
after-answered (Plain (message.Batch u index items)) i h = by-batch (λ j. j.answered ≡ true) i u index items h h (λ e f. rw h refl)
after-answered (Plain (message.Beat b)) i h = h
after-answered (Plain (message.Subscribe asked)) i h = h
after-answered (Plain (message.Truncated u base)) i h = h
after-answered (Plain (message.Ack j n)) i h = h
after-answered (Plain (message.Ask j n)) i h = h
after-answered (Plain (message.Grant j n)) i h = h
after-answered (Plain (message.SnapAsk j n)) i h = h
after-answered (SnapFor j try s) i h = h

-- a batch of another session is old
pub other-batch : (i : InletState) (v : Sess) (n : ℕ) (items : List Item) → same_sess v i.sess ≡ false → (take_batch i v n items).after ≡ i
unfolding take_batch
other-batch i v n items other = rw other refl

-- the first batch of the session that was asked for is taken
pub first-batch : (h : Reader) (u v : Sess) (items : List Item) (f : Folded) → same_sess v u ≡ true → fold_items h items ≡ Some f → (take_batch (asked_inlet h u) v 0 items).after.held ≡ f.after
unfolding take_batch
first-batch h u v items f same e = rw (same, e) refl

-- ---- beats

-- one that was not answered hears nothing
pub unanswered-tally : (i : InletState) (tally : Option (Sess × ℕ)) → i.answered ≡ false → i.broken ≡ false → (after_tally i tally).broken ≡ false
unanswered-tally i None answered broken = rw (answered, broken) refl
unanswered-tally i (Some l) answered broken = rw (answered, broken) refl

pub asked-tally : (h : Reader) (u : Sess) (tally : Option (Sess × ℕ)) → after_tally (asked_inlet h u) tally ≡ asked_inlet h u
asked-tally h u None = refl
asked-tally h u (Some l) = refl

-- an answered one that hears of a session is broken by it, or it is its own, and it took all batches that are told of
pub tally-says : (i : InletState) (v : Sess) (n : ℕ) → i.answered ≡ true → ((after_tally i (Some (v, n))).broken ≡ true) ⊎ ((i.broken ≡ false) × (same_sess v i.sess ≡ true) × (n ≤ i.next))
tally-says i v n answered =
    let all : (i.broken || (i.answered && (not (same_sess v i.sess) || nat_lt i.next n))) ≡ (i.broken || (not (same_sess v i.sess) || nat_lt i.next n)) = rw answered refl in
    (elim i.broken as (λ c. i.broken ≡ c → ((after_tally i (Some (v, n))).broken ≡ true) ⊎ ((c ≡ false) × (same_sess v i.sess ≡ true) × (n ≤ i.next))) [
      | true ↦ λ b. inl (all ∙ rw b refl)
      | false ↦ λ b. (elim (same_sess v i.sess) as (λ d. same_sess v i.sess ≡ d → ((after_tally i (Some (v, n))).broken ≡ true) ⊎ ((false ≡ false) × (d ≡ true) × (n ≤ i.next))) [
        | false ↦ λ e. inl (all ∙ (rw e (or-true i.broken)))
        | true ↦ λ e.
            (elim (nat_lt i.next n) as (λ d. nat_lt i.next n ≡ d → ((after_tally i (Some (v, n))).broken ≡ true) ⊎ ((false ≡ false) × (true ≡ true) × (n ≤ i.next))) [
              | true ↦ λ f. inl (all ∙ (rw (e, f) (or-true i.broken)))
              | false ↦ λ f. inr (refl, refl, not-lt i.next n f)
            ]) refl
      ]) refl
    ]) refl

-- and by one that tells of no session
pub none-says : (i : InletState) → i.answered ≡ true → (after_tally i None).broken ≡ true
none-says i answered = rw answered (or-true i.broken)

-- ---- sessions in order

pub next-newer : (u v : Sess) → is_newer v u ≡ false → is_newer (record u { number = u.number + 1 }) v ≡ true
next-newer u v h = grind (arith, common_steps)

-- none that is not newer is the next one
pub never-next : (u v : Sess) → is_newer v u ≡ false → same_sess v (record u { number = u.number + 1 }) ≡ true → ⊥
never-next u v h e = grind (arith, common_steps)

-- one that is not newer is the same, or older
pub same-or-older : (u v : Sess) → is_newer v u ≡ false → same_sess v u ≡ false → is_newer u v ≡ true
same-or-older u v h e = grind (arith, common_steps)

pub newer-not-same : (u v : Sess) → is_newer u v ≡ true → is_newer v u ≡ false
newer-not-same u v h = grind (arith, common_steps)
