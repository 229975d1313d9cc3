-- Sessions and ports, by number.
use Rattle.std.proofs.Common.{◌≡◌, ℕ, zero, suc, List, [], ◌∷◌, map, refl, ◌⊎◌, inl, inr, length, false, Some, None, slice_get, true, cond, ◌||◌, nat_lt, Option}
use Rattle.std.proofs.lemmas.List.{length-map}
use Rattle.dpc_lists.specs.Lists.{nth}
use Rattle.dpc_model.specs.Sessions.{no_session, with_batch, with_batches, tally_of}
use Rattle.dpc_model.specs.declared.sessions.Sub.{Sub}
use Rattle.dpc_model.specs.declared.tuples.Item.{Item}
use Rattle.dpc_model.specs.Ports.{Port, no_port}
use Rattle.dpc_model.specs.Reading.{Folded, fold_items}
use Rattle.dpc_model.specs.Inlets.{InletState, AfterBatch, is_old, after_missing_batch, after_next_batch, take_batch}
use Rattle.dpc_model.specs.declared.batches.Taken.TheVariants.{Old}
use Rattle.dpc_model.specs.declared.messages.Sess.{Sess}

pub nth-const : {X : Type 0} (z : Sub) (ys : List X) (k : ℕ) → (nth no_session (map (λ (_ : X). z) ys) k ≡ z) ⊎ (nth no_session (map (λ (_ : X). z) ys) k ≡ no_session)
nth-const z [] k = inr refl
nth-const z (y ∷ ys) zero = inl refl
nth-const z (y ∷ ys) (suc k) = nth-const z ys k

pub nth-none : {X : Type 0} (ys : List X) (j : ℕ) → nth no_session (map (λ (_ : X). no_session) ys) j ≡ no_session
nth-none [] j = refl
nth-none (y ∷ ys) zero = refl
nth-none (y ∷ ys) (suc j) = nth-none ys j

pub length-counted : (items : List Item) (subs : List Sub) → length (with_batches items subs) ≡ length subs
length-counted [] subs = refl
length-counted (i ∷ items) subs = length-map subs with_batch

pub shut-tally : (s : Sub) → s.is_open ≡ false → tally_of s ≡ None
shut-tally s h = elim s.kept as (λ k. tally_of (record s { kept = k }) ≡ None) [ None ↦ refl | Some u ↦ rw h refl ]

pub nth-there : (ports : List Port) (p : ℕ) (q : Port) → slice_get ports p ≡ Some q → nth no_port ports p ≡ q
nth-there ports p q e = rw e refl

-- a batch leaves the session
pub took-session : (inlet : InletState) (u : Sess) (index : ℕ) (items : List Item) → (take_batch inlet u index items).after.sess ≡ inlet.sess
unfolding take_batch
took-session inlet u index items =
    elim (is_old inlet u index) as (λ b. (cond {A = AfterBatch} b (record { after = inlet; answer = Old }) (cond (inlet.broken || nat_lt inlet.next index) (after_missing_batch inlet) (after_next_batch inlet (fold_items inlet.held items)))).after.sess ≡ inlet.sess) [
      | true ↦ refl
      | false ↦ elim (inlet.broken || nat_lt inlet.next index) as (λ b. (cond {A = AfterBatch} b (after_missing_batch inlet) (after_next_batch inlet (fold_items inlet.held items))).after.sess ≡ inlet.sess) [
        | true ↦ refl
        | false ↦ by-folded (fold_items inlet.held items)
      ]
    ]
  where
    by-folded : (o : Option Folded) → (after_next_batch inlet o).after.sess ≡ inlet.sess
    by-folded None = refl
    by-folded (Some f) = refl
