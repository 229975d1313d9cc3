-- Partners have one code, and so one slot.
use Rattle.std.proofs.Common.{◌≡◌, ℕ, zero, suc, ◌-◌, ◌<◌, ◌≤◌, true, false, ◌==◌, ◌&&◌, List, [], ◌∷◌, length, get_or, refl, sym, ◌∙◌, ap, arith}
use Rattle.std.proofs.lemmas.Grind.{common_steps}
use Rattle.std.proofs.lemmas.Nat.{and_le_r}
use Rattle.std.specs.List.{fold}
use Rattle.std.specs.Ordering.{int_eq}
use Rattle.dpc_lists.proofs.Truths.{both, and-none, eq-test}
use Rattle.dpc_model.specs.Values.{column}
use Rattle.dpc_model.specs.Operators.{keys_agree, is_within}
use Rattle.dpc_model.specs.declared.tuples.Tuple.{Tuple}
use Rattle.ops_join.specs.declared.ends.End.{End}
use Rattle.ops_join.specs.declared.ends.End.TheVariants.{Left, Right}
use Rattle.ops_join.specs.Sides.{mix, code_of, other_end, slot_at, slot_of, is_partner}

codes-from : (keys : List (ℕ × ℕ)) (l r : Tuple) (h : ℕ) → keys_agree keys l r ≡ true →
    fold (λ (n : ℕ) (pair : ℕ × ℕ). mix n (column l pair.0)) h keys ≡ fold (λ (n : ℕ) (pair : ℕ × ℕ). mix n (column r pair.1)) h keys
codes-from [] l r h e = refl
codes-from (k ∷ keys) l r h e =
    let parts = both _ (keys_agree keys l r) e in
    let same : column l k.0 ≡ column r k.1 = grind (arith, common_steps, parts.0) in
    ap (λ v. fold (λ (n : ℕ) (pair : ℕ × ℕ). mix n (column l pair.0)) (mix h v) keys) same ∙ codes-from keys l r (mix h (column r k.1)) parts.1

pub share-slot : (end : End) (w : ℕ) (keys : List (ℕ × ℕ)) (slots : ℕ) (of t : Tuple) → is_partner end w keys of t ≡ true →
    (slot_of end keys slots t == slot_at slots (code_of (other_end end) keys of)) ≡ true
share-slot Left w keys slots of t e =
    let parts = both (is_within w t.stime of.stime) (keys_agree keys t of) e in
    eq-test (slot_of Left keys slots t) (slot_at slots (code_of Right keys of)) (ap (slot_at slots) (codes-from keys t of 0 parts.1))
share-slot Right w keys slots of t e =
    let parts = both (is_within w of.stime t.stime) (keys_agree keys of t) e in
    eq-test (slot_of Right keys slots t) (slot_at slots (code_of Left keys of)) (ap (slot_at slots) (sym (codes-from keys of t 0 parts.1)))

pub slot-below : (slots h : ℕ) → slot_at slots h ≤ slots - 1
slot-below slots h = and_le_r h (slots - 1)

-- a pair of key columns that differ
pub agree-apart : (keys : List (ℕ × ℕ)) (i : ℕ) (d : ℕ × ℕ) (l r : Tuple) → i < length keys → (column l (get_or keys i d).0 ≡ column r (get_or keys i d).1 → ⊥) → false ≡ keys_agree keys l r
agree-apart [] i d l r low apart = absurd (omega (arith, low))
agree-apart (k ∷ keys) zero d l r low apart =
    (elim (int_eq (column l k.0) (column r k.1)) as (λ b. int_eq (column l k.0) (column r k.1) ≡ b → false ≡ (b && keys_agree keys l r)) [
      | true ↦ λ e. let same : column l k.0 ≡ column r k.1 = grind (arith, common_steps, e) in absurd (apart same)
      | false ↦ λ e. refl
    ]) refl
agree-apart (k ∷ keys) (suc i) d l r low apart = rw (← agree-apart keys i d l r (omega (arith, low)) apart) (sym (and-none (int_eq (column l k.0) (column r k.1))))
