-- What an event gives stands in one batch of every open session.
use Rattle.std.proofs.Common.{◌≡◌, ◌≢◌, ℕ, zero, suc, ◌+◌, Bool, true, false, List, [], ◌∷◌, map, refl, sym, ap, subst, ◌∙◌, arith, Option, Some, None, slice_get}
use Rattle.std.specs.Prelude.{Contains, IfSome}
use Rattle.dpc_lists.specs.Lists.{nth}
use Rattle.dpc_model.specs.declared.tuples.Item.{Item}
use Rattle.dpc_model.specs.declared.messages.Sess.{Sess}
use Rattle.dpc_model.specs.declared.messages.Message.TheVariants as message
use Rattle.dpc_model.specs.Sessions.{tally_of, with_batch, batches_from}
use Rattle.dpc_model.specs.declared.sessions.Sub.{Sub}
use Rattle.node_model.specs.Mails.{Mail, mail, to_readers}
use Rattle.node_model.specs.Nodes.{Home, PlainNode, own_readers}
use Rattle.node_model.specs.NodeSteps.{give}
use Rattle.world_model.specs.Safe.{CarriesLast}

pub here : {X : Type 0} (x : X) (xs : List X) → Contains (x ∷ xs) x
here x xs = (0, omega arith, refl)

pub there : {X : Type 0} (y x : X) (xs : List X) → Contains xs x → Contains (y ∷ xs) x
there y x xs c = let less = c.1 in (suc c.0, omega (arith, less), c.2)

-- ---- one session

-- the batch of a session stands among those of all
batch-carried : (readers : List ℕ) (k i : ℕ) (items : List Item) (subs : List Sub) (sub : Sub) (l : Sess × ℕ) → slice_get subs i ≡ Some sub → tally_of sub ≡ Some l →
    Contains (to_readers readers (batches_from k items subs)) (mail (nth 0 readers (k + i)) (message.Batch l.0 l.1 items))
batch-carried readers k i items [] sub l e f = cc
batch-carried readers k zero items (s ∷ subs) sub l e f =
    let same : tally_of s ≡ Some l = ap tally_of (let eq : s ≡ sub = cc in eq) ∙ f in
    let none : k + 0 ≡ k = omega arith in
    rw none (subst (λ (o : Option (Sess × ℕ)). Contains (to_readers readers (elim o [
      | None ↦ batches_from (k + 1) items subs
      | Some l' ↦ (k, message.Batch l'.0 l'.1 items) ∷ batches_from (k + 1) items subs
    ])) (mail (nth 0 readers k) (message.Batch l.0 l.1 items))) (sym same)
    (here (mail (nth 0 readers k) (message.Batch l.0 l.1 items)) (to_readers readers (batches_from (k + 1) items subs))))
batch-carried readers k (suc i) items (s ∷ subs) sub l e f =
    let next : k + suc i ≡ k + 1 + i = omega arith in
    let more = batch-carried readers (k + 1) i items subs sub l e f in
    elim (tally_of s) as (λ o. Contains (to_readers readers (elim o [
      | None ↦ batches_from (k + 1) items subs
      | Some l' ↦ (k, message.Batch l'.0 l'.1 items) ∷ batches_from (k + 1) items subs
    ])) (mail (nth 0 readers (k + suc i)) (message.Batch l.0 l.1 items))) [
      | None ↦ rw next more
      | Some l' ↦ rw next (there (mail (nth 0 readers k) (message.Batch l'.0 l'.1 items)) (mail (nth 0 readers (k + 1 + i)) (message.Batch l.0 l.1 items)) (to_readers readers (batches_from (k + 1) items subs)) more)
    ]

-- ---- the sessions after it

-- the session in whose place a counted one stands
counted-from : (subs : List Sub) (k : ℕ) (sub : Sub) → slice_get (map with_batch subs) k ≡ Some sub → (old : Sub) × (slice_get subs k ≡ Some old) × (sub ≡ with_batch old)
counted-from [] k sub e = cc
counted-from (s ∷ subs) zero sub e = (s, refl, cc)
counted-from (s ∷ subs) (suc k) sub e = counted-from subs k sub e

-- what the items of one event leave in a session's number stands in a batch of it
abbrev pub IsGivenIn : List Mail → List Sub → List ℕ → List Item → ℕ → Type 0
IsGivenIn ms subs readers items k = (sub : Sub) → slice_get subs k ≡ Some sub → IfSome (tally_of sub) (CarriesLast ms (nth 0 readers k) items)

counted-given : (ms : List Mail) (to : ℕ) (items : List Item) (old : Sub) → ((l : Sess × ℕ) → tally_of old ≡ Some l → Contains ms (mail to (message.Batch l.0 l.1 items))) →
    IfSome (tally_of (with_batch old)) (CarriesLast ms to items)
counted-given ms to items old h = by-parts old.kept old.is_open refl refl
  where
    by-parts : (kept : Option Sess) (is_open : Bool) → old.kept ≡ kept → old.is_open ≡ is_open → IfSome (tally_of (with_batch old)) (CarriesLast ms to items)
    by-parts None true e f = rw (f, e) tt
    by-parts None false e f = rw (f, e) tt
    by-parts (Some s) false e f = rw (f, e) tt
    by-parts (Some s) true e f = rw (f, e) (old.batches, refl, h (s, old.batches) (rw (e, f) refl))

pub give-given : (home : Home) (items : List Item) (n : PlainNode) (k : ℕ) → items ≢ [] → IsGivenIn (give home items n).sends (give home items n).after.subs (own_readers home) items k
give-given home [] n k some = absurd (some refl)
give-given home (i ∷ items) n k some = λ sub e.
    let c = counted-from n.subs k sub e in
    let zero_on : 0 + k ≡ k = omega arith in
    rw c.2 (counted-given (give home (i ∷ items) n).sends (nth 0 (own_readers home) k) (i ∷ items) c.0
    (λ l f. rw zero_on at (batch-carried (own_readers home) 0 k (i ∷ items) n.subs c.0 l c.1 f)))
