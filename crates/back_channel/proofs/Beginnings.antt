-- Lists that begin other lists.
use Rattle.std.proofs.Common.{◌≡◌, inl, inr, ◌≤◌, nat_lt, true, false, cond, List, ◌++◌, length, take, drop, refl, sym, ap, subst, ◌∙◌, arith}
use Rattle.std.proofs.lemmas.Bool.{ltb-true, ltb-false}
use Rattle.std.proofs.lemmas.List.{take-append-drop, take-take, take_all, length-take}
use Rattle.std.proofs.Math.Seq.{take-append_seam}
use Rattle.dpc_model.specs.declared.tuples.Tuple.{Tuple}
use Rattle.back_channel.specs.Merging.{OneBegins, longer}

-- xs begins ys
pub record Begins (xs ys : List Tuple) : Type 0 where
  pub is : xs ≡ take (length xs) ys

pub begins-self : (xs : List Tuple) → Begins xs xs
begins-self xs = record { is = sym (take_all (length xs) xs (omega arith)) }

pub begins-append : (xs ys : List Tuple) → Begins xs (xs ++ ys)
begins-append xs ys = record { is = sym (take-append_seam xs ys) }

pub begins-length : (xs ys : List Tuple) → Begins xs ys → length xs ≤ length ys
begins-length xs ys h =
    let e = ap (λ us. length us) h.is in
    let l = length-take (length xs) ys in omega (arith, e, l)

-- a shorter beginning of one list begins a longer one
pub begins-both : (xs ys zs : List Tuple) → Begins xs zs → Begins ys zs → length xs ≤ length ys → Begins xs ys
begins-both xs ys zs h k low =
    record { is = h.is ∙ sym (take-take (length xs) (length ys) zs low) ∙ ap (λ us. take (length xs) us) (sym k.is) }

pub begins-through : (xs ys zs : List Tuple) → Begins xs ys → Begins ys zs → Begins xs zs
begins-through xs ys zs h k =
    let low = begins-length xs ys h in
    record { is = h.is ∙ ap (λ us. take (length xs) us) k.is ∙ take-take (length xs) (length ys) zs low }

pub begins-whole : (xs ys : List Tuple) → Begins xs ys → length ys ≤ length xs → xs ≡ ys
begins-whole xs ys h low = h.is ∙ take_all (length xs) ys low

pub begins-split : (xs ys : List Tuple) → Begins xs ys → ys ≡ xs ++ drop (length xs) ys
begins-split xs ys h = sym (take-append-drop (length xs) ys) ∙ ap (λ us. us ++ drop (length xs) ys) (sym h.is)

-- ---- the longer one

pub one-begins : (xs ys zs : List Tuple) → Begins xs zs → Begins ys zs → OneBegins xs ys
one-begins xs ys zs h k =
    (elim (nat_lt (length xs) (length ys)) as (λ c. nat_lt (length xs) (length ys) ≡ c → OneBegins xs ys) [
      | true ↦ λ e. inl (begins-both xs ys zs h k (let l = ltb-true (length xs) (length ys) e in omega (arith, l))).is
      | false ↦ λ e. inr (begins-both ys xs zs k h (ltb-false (length xs) (length ys) e)).is
    ]) refl

-- both begin it
pub first-begins : (xs ys : List Tuple) → OneBegins xs ys → Begins xs (longer xs ys)
first-begins xs ys o =
    (elim (nat_lt (length xs) (length ys)) as (λ c. nat_lt (length xs) (length ys) ≡ c → Begins xs (cond c ys xs)) [
      | true ↦ λ e. by_one e o
      | false ↦ λ e. begins-self xs
    ]) refl
  where
    by_one : nat_lt (length xs) (length ys) ≡ true → OneBegins xs ys → Begins xs ys
    by_one e (inl h) = record { is = h }
    by_one e (inr h) =
        let low = begins-length ys xs (record { is = h }) in
        let less = ltb-true (length xs) (length ys) e in absurd (omega (arith, low, less))

pub second-begins : (xs ys : List Tuple) → OneBegins xs ys → Begins ys (longer xs ys)
second-begins xs ys o =
    (elim (nat_lt (length xs) (length ys)) as (λ c. nat_lt (length xs) (length ys) ≡ c → Begins ys (cond c ys xs)) [
      | true ↦ λ e. begins-self ys
      | false ↦ λ e. by_one (ltb-false (length xs) (length ys) e) o
    ]) refl
  where
    by_one : length ys ≤ length xs → OneBegins xs ys → Begins ys xs
    by_one low (inl h) =
        let k : Begins xs ys = record { is = h } in subst (λ us. Begins ys us) (sym (begins-whole xs ys k low)) (begins-self ys)
    by_one low (inr h) = record { is = h }

-- and it begins what both begin
pub longer-begins : (xs ys zs : List Tuple) → Begins xs zs → Begins ys zs → Begins (longer xs ys) zs
longer-begins xs ys zs h k =
    elim (nat_lt (length xs) (length ys)) as (λ c. Begins (cond c ys xs) zs) [ true ↦ k | false ↦ h ]
