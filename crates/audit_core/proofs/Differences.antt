-- The first difference between two lists of tuples.
use Rattle.std.proofs.Common.{◌≡◌, ◌≢◌, ℕ, zero, suc, ◌+◌, ◌≤◌, true, false, eqb, List, [], ◌∷◌, ◌++◌, length, take, drop, Some, None, refl, sym, ap, ◌∙◌, arith}
use Rattle.std.specs.Cmp.Lexicographic.{pointwise}
use Rattle.std.specs.Cmp.Rules.{signed_items}
use Rattle.std.specs.Cmp.Derive.{both_true}
use Rattle.std.specs.Ordering.{int_eq}
use Rattle.std.specs.List.{slice_get}
use Rattle.std.proofs.lemmas.Bool.{and_parts, lt-ltb, le-ltb}
use Rattle.std.proofs.lemmas.Bool.Decides.{Decides-eqb}
use Rattle.std.proofs.lemmas.List.{take-append-drop}
use Rattle.dpc_model.specs.declared.tuples.Tuple.{Tuple}
use Rattle.audit_core.specs.Audits.{same_tuple, first_difference}
use Rattle.audit_core.specs.Judging.{Differs}

-- ---- a tuple beside another

pub same-self : (t : Tuple) → same_tuple t t ≡ true
same-self t = both_true ((Decides-eqb t.stime t.stime).1 refl) ((signed_items t.vals t.vals).1 refl)

pub same-is : (s t : Tuple) → same_tuple s t ≡ true → s ≡ t
same-is s t e =
    let parts = and_parts (eqb s.stime t.stime) (pointwise int_eq s.vals t.vals) e in
    let time = (Decides-eqb s.stime t.stime).0 parts.0 in
    let vals = (signed_items s.vals t.vals).0 parts.1 in
    ap (λ n. with_time n s) time ∙ ap (λ vs. record { stime = t.stime; vals = vs }) vals
  where
    with_time : ℕ → Tuple → Tuple
    with_time n u = record { stime = n; vals = u.vals }

pub other-false : (s t : Tuple) → s ≢ t → same_tuple s t ≡ false
other-false s t other =
    (elim (same_tuple s t) as (λ c. same_tuple s t ≡ c → c ≡ false) [
      | true ↦ λ e. absurd (other (same-is s t e))
      | false ↦ λ e. refl
    ]) refl

-- ---- places in a list

pub behind-first : (n : ℕ) (ss : List Tuple) → slice_get (drop n ss) 0 ≡ slice_get ss n
behind-first zero ss = refl
behind-first (suc n) [] = refl
behind-first (suc n) (s ∷ ss) = behind-first n ss

pub take-next : (n : ℕ) (ss : List Tuple) (t : Tuple) → slice_get ss n ≡ Some t → take (suc n) ss ≡ take n ss ++ t ∷ []
take-next n [] t e = absurd (cc)
take-next zero (s ∷ ss) t e = let same : s ≡ t = cc in ap (λ u. u ∷ []) same
take-next (suc n) (s ∷ ss) t e = ap (λ us. s ∷ us) (take-next n ss t e)

-- ---- the first difference

-- behind tuples that are in both
pub behind-same : (b k : ℕ) (gone ss ts : List Tuple) → first_difference b k (gone ++ ss) (gone ++ ts) ≡ first_difference b (k + length gone) ss ts
behind-same b k [] ss ts = let none : k + 0 ≡ k = omega arith in rw none refl
behind-same b k (t ∷ gone) ss ts =
    let next : k + 1 + length gone ≡ k + length (t ∷ gone) = omega arith in
    rw (same-self t) (behind-same b (k + 1) gone ss ts ∙ ap (λ m. first_difference b m ss ts) next)

-- behind the first n of the recorded ones
pub behind-rows : (b n : ℕ) (ss rows more : List Tuple) → n ≡ length rows → rows ≡ take n ss → first_difference b 0 ss (rows ++ more) ≡ first_difference b n (drop n ss) more
behind-rows b n ss rows more long same =
    let front : ss ≡ rows ++ drop n ss = sym (take-append-drop n ss) ∙ ap (λ us. us ++ drop n ss) (sym same) in
    let count : 0 + length rows ≡ n = omega (arith, long) in
    ap (λ us. first_difference b 0 us (rows ++ more)) front
    ∙ behind-same b 0 rows (drop n ss) more
    ∙ ap (λ m. first_difference b m (drop n ss) more) count

-- the next row is another one
pub other-row : (b n : ℕ) (ss : List Tuple) (row : Tuple) (more : List Tuple) → Differs b (slice_get ss 0) row → first_difference b n ss (row ∷ more) ≡ Some (n, slice_get ss 0, Some row)
other-row b n [] row more low = rw (lt-ltb row.stime b low) refl
other-row b n (s ∷ ss) row more other = rw (other-false s row other) refl

-- it is behind the recorded ones, and not missing
pub longer-row : (b n : ℕ) (ss : List Tuple) (row : Tuple) (more : List Tuple) → slice_get ss 0 ≡ None → b ≤ row.stime → first_difference b n ss (row ∷ more) ≡ None
longer-row b n [] row more none late = rw (le-ltb row.stime b late) refl
longer-row b n (s ∷ ss) row more none late = absurd (cc)

-- no row is next
pub no-row : (b n : ℕ) (ss : List Tuple) → slice_get ss 0 ≡ None → first_difference b n ss [] ≡ None
no-row b n [] none = refl
no-row b n (s ∷ ss) none = absurd (cc)

pub no-row-more : (b n : ℕ) (ss : List Tuple) (s : Tuple) → slice_get ss 0 ≡ Some s → first_difference b n ss [] ≡ Some (n, slice_get ss 0, None)
no-row-more b n [] s some = absurd (cc)
no-row-more b n (t ∷ ss) s some = refl
