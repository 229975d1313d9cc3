-- What a beginning of a stream that is all up to a bound says of the stream.
use Rattle.std.proofs.Common.{◌≡◌, ℕ, zero, suc, ◌≤◌, Bool, true, false, cond, List, [], ◌∷◌, ◌++◌, length, refl, ◌∙◌, arith, slice_get, Some, take, sym, ap}
use Rattle.std.proofs.lemmas.Grind.{common_steps}
use Rattle.std.proofs.lemmas.List.{append-nil}
use Rattle.std.proofs.lemmas.List.Elements.{filter-append}
use Rattle.dpc_lists.specs.Lists.{IsPrefixOf}
use Rattle.std.specs.List.{filter}
use Rattle.std.proofs.Math.Seq.{take-append_seam}
use Rattle.dpc_model.specs.Streams.{NoneBelow, time_of, InOrder, cut, is_below}
use Rattle.dpc_model.specs.declared.tuples.Tuple.{Tuple}
use Rattle.dpc_model.proofs.IdealCausality.{cut-cut}
use Rattle.dpc_model.proofs.Cuts.{those_from, none-below, ordered-split}

NoneBelow-behind : (n : ℕ) (xs ys : List Tuple) → NoneBelow time_of n (xs ++ ys) → NoneBelow time_of n ys
NoneBelow-behind n [] ys s = s
NoneBelow-behind n (x ∷ xs) ys s = NoneBelow-behind n xs ys s.1

-- where a beginning has as many tuples as lie below b, nothing behind it does
pub rest-cut : (b : ℕ) (xs ys : List Tuple) → InOrder (xs ++ ys) → length (cut (xs ++ ys) b) ≤ length xs → cut ys b ≡ []
rest-cut b [] [] o h = refl
rest-cut b [] (y ∷ ys) o h =
    (elim (is_below b y) as (λ c. is_below b y ≡ c → length (cond c (y ∷ cut ys b) (cut ys b)) ≤ 0 → cond c (y ∷ cut ys b) (cut ys b) ≡ []) [
      | true ↦ λ e k. absurd (omega (arith, k))
      | false ↦ λ e k. rest-cut b [] ys o.1 k
    ]) refl h
rest-cut b (x ∷ xs) ys o h =
    (elim (is_below b x) as (λ c. is_below b x ≡ c → length (cond c (x ∷ cut (xs ++ ys) b) (cut (xs ++ ys) b)) ≤ suc (length xs) → cut ys b ≡ []) [
      | true ↦ λ e k. rest-cut b xs ys o.1 (omega (arith, k))
      | false ↦ λ e k. none-below time_of b (time_of x) ys (grind (arith, common_steps)) (NoneBelow-behind (time_of x) xs ys o.0)
    ]) refl h

-- so below b the beginning is the whole
pub prefix-cut : (b : ℕ) (xs ys : List Tuple) → InOrder (xs ++ ys) → length (cut (xs ++ ys) b) ≤ length xs → cut (xs ++ ys) b ≡ cut xs b
prefix-cut b xs ys o h = filter-append (is_below b) xs ys ∙ rw (rest-cut b xs ys o h) (append-nil (cut xs b))

-- what lies below b is a beginning
pub cut-beginning : (b : ℕ) (ts : List Tuple) → InOrder ts → IsPrefixOf (cut ts b) ts
cut-beginning b ts o = (those_from time_of b ts, ordered-split time_of b ts o)

-- the elements of a beginning are those of the whole
pub get-prefix : {X : Type 0} (xs ys : List X) (i : ℕ) (x : X) → IsPrefixOf xs ys → slice_get xs i ≡ Some x → slice_get ys i ≡ Some x
get-prefix {X = X} xs ys i x p e = rw p.1 (go xs i e)
  where
    go : (zs : List X) (j : ℕ) → slice_get zs j ≡ Some x → slice_get (zs ++ p.0) j ≡ Some x
    go [] j k = cc
    go (z ∷ zs) zero k = k
    go (z ∷ zs) (suc j) k = go zs j k

-- fewer tuples lie below an earlier time
pub length-filter_le : {X : Type 0} (q : X → Bool) (xs : List X) → length (filter q xs) ≤ length xs
length-filter_le q [] = omega arith
length-filter_le q (x ∷ xs) = elim (q x) as (λ c. length (cond c (x ∷ filter q xs) (filter q xs)) ≤ suc (length xs)) [
  | true ↦ omega (arith, length-filter_le q xs)
  | false ↦ omega (arith, length-filter_le q xs)
]

pub length-cut_le : (b b' : ℕ) (ts : List Tuple) → b ≤ b' → length (cut ts b) ≤ length (cut ts b')
length-cut_le b b' ts h = rw (← cut-cut ts b b' h) (length-filter_le (is_below b) (cut ts b'))

pub prefix-taken : (xs ys : List Tuple) → IsPrefixOf xs ys → xs ≡ take (length xs) ys
prefix-taken xs ys p = sym (ap (λ (z : List Tuple). take (length xs) z) p.1 ∙ take-append_seam xs p.0)
