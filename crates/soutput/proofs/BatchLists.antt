-- Batches to sessions, one session more; and sessions counted one by one.
use Rattle.std.proofs.Common.{◌≡◌, ℕ, zero, suc, ◌+◌, ◌<◌, true, false, List, [], ◌∷◌, ◌++◌, map, take, drop, length, refl, ap, ◌∙◌, arith, Option, Some, None, slice_index_or, slice_set}
use Rattle.std.specs.Prelude.{◌^◌, nat_lt}
use Rattle.std.proofs.lemmas.Bool.{and_parts, or_parts, ltb-true}
use Rattle.dpc_lists.specs.Lists.{list_all, list_any}
use Rattle.dpc_model.specs.Sessions.{tally_of, with_batch, batches_from, batches_of}
use Rattle.dpc_model.specs.declared.tuples.Item.{Item}
use Rattle.dpc_model.specs.declared.messages.Sess.{Sess}
use Rattle.dpc_model.specs.declared.messages.Message.{Message}
use Rattle.dpc_model.specs.declared.messages.Message.TheVariants as message
use Rattle.dpc_model.specs.declared.sessions.Sub.{Sub}
use Rattle.dpc_model.proofs.Subs.{shut-tally}
use Rattle.soutput.specs.Giving.{batch_to}

pub batches-taken : (k i : ℕ) (items : List Item) (subs : List Sub) (d : Sub) → i < length subs →
    batches_from k items (take (i + 1) subs) ≡ batches_from k items (take i subs) ++ batch_to (k + i) items (tally_of (slice_index_or subs i d))
batches-taken k i items [] d low = absurd (omega (arith, low))
batches-taken k zero items (x ∷ subs) d low =
    let none : k + 0 ≡ k = omega arith in
    let first_to : Option (Sess × ℕ) → List (ℕ × Message) = λ o. elim o [ None ↦ [] | Some l ↦ (k, message.Batch l.0 l.1 items) ∷ [] ] in
    rw none (elim (tally_of x) as (λ o. first_to o ≡ batch_to k items o) [ None ↦ refl | Some l ↦ refl ])
batches-taken k (suc i) items (x ∷ subs) d low =
    let next : k + 1 + i ≡ k + suc i = omega arith in
    let more : suc i + 1 ≡ suc (i + 1) = omega arith in
    let ms = batches_from (k + 1) items (take i subs) in
    let m = batch_to (k + suc i) items (tally_of (slice_index_or subs i d)) in
    let rest : batches_from (k + 1) items (take (i + 1) subs) ≡ ms ++ m = rw next at (batches-taken (k + 1) i items subs d (omega (arith, low))) in
    let in_front : List (ℕ × Message) → Option (Sess × ℕ) → List (ℕ × Message) = λ ns o. elim o [ None ↦ ns | Some l ↦ (k, message.Batch l.0 l.1 items) ∷ ns ] in
    rw more (elim (tally_of x) as (λ o. in_front (batches_from (k + 1) items (take (i + 1) subs)) o ≡ in_front ms o ++ m) [
      | None ↦ rest
      | Some l ↦ ap (λ (ns : List (ℕ × Message)). (k, message.Batch l.0 l.1 items) ∷ ns) rest
    ])

-- the first i sessions are counted, the others not yet
abbrev pub counted_to : ℕ → List Sub → List Sub
counted_to i subs = map with_batch (take i subs) ++ drop i subs

pub counted-more : (i : ℕ) (subs : List Sub) (s d : Sub) → i < length subs → s ≡ with_batch (slice_index_or (counted_to i subs) i d) →
    slice_set (counted_to i subs) i s ≡ counted_to (i + 1) subs
counted-more i [] s d low e = absurd (omega (arith, low))
counted-more zero (x ∷ subs) s d low e = rw e refl
counted-more (suc i) (x ∷ subs) s d low e =
    let next : suc i + 1 ≡ suc (i + 1) = omega arith in rw next (ap (λ (ys : List Sub). with_batch x ∷ ys) (counted-more i subs s d (omega (arith, low)) e))

-- a session that is not counted yet is as it was
pub uncounted : (i : ℕ) (subs : List Sub) (s : Sub) → slice_index_or (counted_to i subs) i s ≡ slice_index_or subs i s
uncounted zero subs s = refl
uncounted (suc i) [] s = refl
uncounted (suc i) (x ∷ subs) s = uncounted i subs s

-- each session can be counted
pub room-at : (i : ℕ) (subs : List Sub) (d : Sub) → list_all (λ (s : Sub). nat_lt (s.batches + 1) (2 ^ 64)) subs ≡ true → i < length subs → (slice_index_or subs i d).batches + 1 < 2 ^ 64
room-at i [] d h low = absurd (omega (arith, low))
room-at zero (x ∷ subs) d h low = ltb-true (x.batches + 1) (2 ^ 64) (and_parts (nat_lt (x.batches + 1) (2 ^ 64)) _ h).0
room-at (suc i) (x ∷ subs) d h low = room-at i subs d (and_parts (nat_lt (x.batches + 1) (2 ^ 64)) _ h).1 (omega (arith, low))

-- where no session is open, nothing is sent
none-sent : (k : ℕ) (items : List Item) (subs : List Sub) → list_any (λ (s : Sub). s.is_open) subs ≡ false → batches_from k items subs ≡ []
none-sent k items [] h = refl
none-sent k items (x ∷ subs) h =
    let p = or_parts x.is_open (list_any (λ (s : Sub). s.is_open) subs) h in
    let after : Option (Sess × ℕ) → List (ℕ × Message) = λ o. elim o [ None ↦ batches_from (k + 1) items subs | Some l ↦ (k, message.Batch l.0 l.1 items) ∷ batches_from (k + 1) items subs ] in
    ap after (shut-tally x p.0) ∙ none-sent (k + 1) items subs p.1

pub none-of : (items : List Item) (subs : List Sub) → list_any (λ (s : Sub). s.is_open) subs ≡ false → batches_of items subs ≡ []
none-of [] subs h = refl
none-of (i ∷ items) subs h = none-sent 0 (i ∷ items) subs h
