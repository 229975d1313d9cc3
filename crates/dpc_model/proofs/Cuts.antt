-- An ordered list below a number, and from it on.
use Rattle.std.proofs.Common.{◌≡◌, ℕ, zero, suc, ◌+◌, ◌≤◌, ◌<◌, get_or, true, false, cond, nat_lt, nat_le, List, [], ◌∷◌, ◌++◌, length, take, drop, refl, sym, ◌∙◌, ap, arith}
use Rattle.std.proofs.lemmas.Grind.{common_steps}
use Rattle.std.proofs.Math.Seq.{take-append_seam, drop-append_seam}
use Rattle.std.proofs.lemmas.Bool.{lt-ltb, le-ltb}
use Rattle.std.specs.List.{filter, AllByRecursion, All}
use Rattle.std.proofs.lemmas.List.Elements.{All-head, All-tail}
use Rattle.dpc_model.specs.Streams.{NoneBelow, IsOrdered, cut, count_below}
use Rattle.dpc_model.specs.declared.tuples.Tuple.{Tuple}
use Rattle.dpc_model.proofs.Causality.{NoneBelow-append}

module _ {X : Type 0} (key : X → ℕ) where
  abbrev pub those_below : ℕ → List X → List X
  those_below b xs = filter (λ x. nat_lt (key x) b) xs

  abbrev pub those_from : ℕ → List X → List X
  those_from b xs = filter (λ x. nat_le b (key x)) xs

  pub none-below : (b n : ℕ) (xs : List X) → b ≤ n → NoneBelow key n xs → those_below b xs ≡ []
  none-below b n [] h s = refl
  none-below b n (x ∷ xs) h s = grind (arith, common_steps, s.0, none-below b n xs h s.1)

  pub all-from : (b n : ℕ) (xs : List X) → b ≤ n → NoneBelow key n xs → those_from b xs ≡ xs
  all-from b n [] h s = refl
  all-from b n (x ∷ xs) h s = grind (arith, common_steps, s.0, all-from b n xs h s.1)

  pub ordered-split : (b : ℕ) (xs : List X) → IsOrdered key xs → xs ≡ those_below b xs ++ those_from b xs
  ordered-split b [] o = refl
  ordered-split b (x ∷ xs) o =
      (elim (nat_lt (key x) b) as (λ c. nat_lt (key x) b ≡ c → x ∷ xs ≡ cond c (x ∷ those_below b xs) (those_below b xs) ++ those_from b (x ∷ xs)) [
        | true ↦ λ e.
            let late : nat_le b (key x) ≡ false = grind (arith, common_steps) in
            rw late (ap (λ (ys : List X). x ∷ ys) (ordered-split b xs o.1))
        | false ↦ λ e.
            let late : nat_le b (key x) ≡ true = grind (arith, common_steps) in
            let low : b ≤ key x = grind (arith, common_steps) in
            rw (none-below b (key x) xs low o.0, late) (sym (ap (λ (ys : List X). x ∷ ys) (all-from b (key x) xs low o.0)))
      ]) refl

  -- those below are so many first ones, and those from it on the others
  pub below-take : (b : ℕ) (xs : List X) → IsOrdered key xs → take (length (those_below b xs)) xs ≡ those_below b xs
  below-take b xs o = ap (λ (ys : List X). take (length (those_below b xs)) ys) (ordered-split b xs o) ∙ take-append_seam (those_below b xs) (those_from b xs)

  pub from-drop : (b : ℕ) (xs : List X) → IsOrdered key xs → drop (length (those_below b xs)) xs ≡ those_from b xs
  from-drop b xs o = ap (λ (ys : List X). drop (length (those_below b xs)) ys) (ordered-split b xs o) ∙ drop-append_seam (those_below b xs) (those_from b xs)

  none_below-get : (n i : ℕ) (xs : List X) (d : X) → NoneBelow key n xs → i < length xs → n ≤ key (get_or xs i d)
  none_below-get n i [] d s h = absurd (omega (arith, h))
  none_below-get n zero (x ∷ xs) d s h = s.0
  none_below-get n (suc i) (x ∷ xs) d s h = none_below-get n i xs d s.1 (omega (arith, h))

  -- an element below the number is counted, with all those before it
  pub count-more : (xs : List X) (i b : ℕ) (d : X) → IsOrdered key xs → i < length xs → key (get_or xs i d) < b → i + 1 ≤ length (those_below b xs)
  count-more [] i b d o h k = absurd (omega (arith, h))
  count-more (x ∷ xs) zero b d o h k = rw (lt-ltb (key x) b k) (omega arith)
  count-more (x ∷ xs) (suc i) b d o h k =
      let within : i < length xs = omega (arith, h) in
      let first : key x < b = omega (arith, none_below-get (key x) i xs d o.0 within, k) in
      rw (lt-ltb (key x) b first) (omega (arith, count-more xs i b d o.1 within k))

  -- none is counted from one on that is not below the number
  pub count-end : (xs : List X) (i b : ℕ) (d : X) → IsOrdered key xs → i < length xs → b ≤ key (get_or xs i d) → length (those_below b xs) ≤ i
  count-end [] i b d o h k = absurd (omega (arith, h))
  count-end (x ∷ xs) zero b d o h k = rw (le-ltb (key x) b k, none-below b (key x) xs k o.0) (omega arith)
  count-end (x ∷ xs) (suc i) b d o h k =
      let rest = count-end xs i b d o.1 (omega (arith, h)) k in
      grind (arith, common_steps, rest)

  pub none_below-all : (m n : ℕ) (ys : List X) → m ≤ n → AllByRecursion (λ y. n ≤ key y) ys → NoneBelow key m ys
  none_below-all m n [] h s = tt
  none_below-all m n (y ∷ ys) h s = (omega (arith, s.0), none_below-all m n ys h s.1)

  pub none_below-zero : (xs : List X) → NoneBelow key 0 xs
  none_below-zero [] = tt
  none_below-zero (x ∷ xs) = (omega arith, none_below-zero xs)

  -- ordered lists one after the other, the first below a number and the second from it on
  pub ordered-append : (b : ℕ) (xs ys : List X) → IsOrdered key xs → IsOrdered key ys → AllByRecursion (λ x. key x < b) xs → AllByRecursion (λ y. b ≤ key y) ys → IsOrdered key (xs ++ ys)
  ordered-append b [] ys o p h l = p
  ordered-append b (x ∷ xs) ys o p h l =
      (NoneBelow-append key (key x) xs ys o.0 (none_below-all (key x) b ys (omega (arith, h.0)) l), ordered-append b xs ys o.1 p h.1 l)

-- tuples below b are all of what lies below it
pub cut-below : (b : ℕ) (ts : List Tuple) → All (λ (t : Tuple). t.stime < b) ts → cut ts b ≡ ts
cut-below b [] low = refl
cut-below b (t ∷ ts) low =
    let first = All-head (λ (u : Tuple). u.stime < b) t ts low in
    let rest = cut-below b ts (All-tail (λ (u : Tuple). u.stime < b) t ts low) in
    grind (arith, common_steps, first, rest)

pub none-counted : (ts : List Tuple) → count_below ts 0 ≡ 0
none-counted [] = refl
none-counted (t ∷ ts) = let out : nat_lt t.stime 0 ≡ false = grind (arith, common_steps) in rw out (none-counted ts)
