-- The output of an operator, cut at a time, is its output of the inputs cut at that time.
use Rattle.std.proofs.Common.{◌≡◌, ℕ, ◌≤◌, Bool, true, false, cond, List, [], ◌∷◌, ◌++◌, map, refl, sym, ◌∙◌, ap, arith, nat_lt}
use Rattle.std.proofs.lemmas.Grind.{common_steps}
use Rattle.std.proofs.lemmas.Bool.{ltb-true, ltb-false}
use Rattle.std.specs.List.{filter}
use Rattle.std.proofs.lemmas.List.Elements.{filter-append}
use Rattle.dpc_lists.specs.Lists.{insert_by, sort_by}
use Rattle.dpc_model.specs.Streams.{NoneBelow, IsOrdered, cut, is_below}
use Rattle.dpc_model.specs.Values.{value_of, is_true}
use Rattle.dpc_model.specs.Operators.{filtered, mapped, mapped_tuple, united, all_of}
use Rattle.dpc_model.specs.Formula.{Formula}
use Rattle.dpc_model.specs.declared.tuples.Tuple.{Tuple}

-- two tests may be made in either order
pub filter-filter : {X : Type 0} (p q : X → Bool) (xs : List X) → filter p (filter q xs) ≡ filter q (filter p xs)
filter-filter p q [] = refl
filter-filter p q (x ∷ xs) = grind (arith, common_steps, filter-filter p q xs)

-- a test that a function keeps may be made before it
pub filter-map : {X Y : Type 0} (p : Y → Bool) (q : X → Bool) (f : X → Y) → ((x : X) → p (f x) ≡ q x) → (xs : List X) → filter p (map f xs) ≡ map f (filter q xs)
filter-map p q f h [] = refl
filter-map p q f h (x ∷ xs) = grind (arith, common_steps, h x, filter-map p q f h xs)

-- filter
pub cut-filtered : (e : Formula) (ts : List Tuple) (b : ℕ) → cut (filtered e ts) b ≡ filtered e (cut ts b)
cut-filtered e ts b = filter-filter (is_below b) (λ t. is_true (value_of e t)) ts

-- map
pub cut-mapped : (es : List Formula) (ts : List Tuple) (b : ℕ) → cut (mapped es ts) b ≡ mapped es (cut ts b)
cut-mapped es ts b = filter-map (is_below b) (is_below b) (mapped_tuple es) (λ t. refl) ts

-- ---- union

module _ {X : Type 0} (key : X → ℕ) where
  pub NoneBelow-le : (m n : ℕ) (xs : List X) → m ≤ n → NoneBelow key n xs → NoneBelow key m xs
  NoneBelow-le m n [] h s = tt
  NoneBelow-le m n (x ∷ xs) h s = (omega (arith, s.0), NoneBelow-le m n xs h s.1)

  pub NoneBelow-append : (n : ℕ) (xs ys : List X) → NoneBelow key n xs → NoneBelow key n ys → NoneBelow key n (xs ++ ys)
  NoneBelow-append n [] ys s t = t
  NoneBelow-append n (x ∷ xs) ys s t = (s.0, NoneBelow-append n xs ys s.1 t)

  -- also in order of another number
  NoneBelow-insert : (by : X → ℕ) (n : ℕ) (x : X) (xs : List X) → n ≤ key x → NoneBelow key n xs → NoneBelow key n (insert_by by x xs)
  NoneBelow-insert by n x [] h s = (h, tt)
  NoneBelow-insert by n x (y ∷ ys) h s =
      elim (nat_lt (by y) (by x)) as (λ b. NoneBelow key n (cond b (y ∷ insert_by by x ys) (x ∷ y ∷ ys))) [
        | true ↦ (s.0, NoneBelow-insert by n x ys h s.1)
        | false ↦ (h, s)
      ]

  pub NoneBelow-sort : (by : X → ℕ) (n : ℕ) (xs : List X) → NoneBelow key n xs → NoneBelow key n (sort_by by xs)
  NoneBelow-sort by n [] s = tt
  NoneBelow-sort by n (x ∷ xs) s = NoneBelow-insert by n x (sort_by by xs) s.0 (NoneBelow-sort by n xs s.1)

  IsOrdered-insert : (x : X) (xs : List X) → IsOrdered key xs → IsOrdered key (insert_by key x xs)
  IsOrdered-insert x [] s = (tt, tt)
  IsOrdered-insert x (y ∷ ys) s =
      (elim (nat_lt (key y) (key x)) as (λ b. nat_lt (key y) (key x) ≡ b → IsOrdered key (cond b (y ∷ insert_by key x ys) (x ∷ y ∷ ys))) [
        | true ↦ λ e. (NoneBelow-insert key (key y) x ys (omega (arith, ltb-true (key y) (key x) e)) s.0, IsOrdered-insert x ys s.1)
        | false ↦ λ e. ((ltb-false (key y) (key x) e, NoneBelow-le (key x) (key y) ys (ltb-false (key y) (key x) e) s.0), s)
      ]) refl

  pub IsOrdered-sort : (xs : List X) → IsOrdered key (sort_by key xs)
  IsOrdered-sort [] = tt
  IsOrdered-sort (x ∷ xs) = IsOrdered-insert x (sort_by key xs) (IsOrdered-sort xs)

  -- an element that is not smaller than x stands behind it
  pub insert_by-first : (x : X) (xs : List X) → NoneBelow key (key x) xs → insert_by key x xs ≡ x ∷ xs
  insert_by-first x [] s = refl
  insert_by-first x (y ∷ ys) s = grind (arith, common_steps, s.0)

  pub NoneBelow-filter : (p : X → Bool) (n : ℕ) (xs : List X) → NoneBelow key n xs → NoneBelow key n (filter p xs)
  NoneBelow-filter p n [] s = tt
  NoneBelow-filter p n (x ∷ xs) s =
      elim (p x) as (λ c. NoneBelow key n (cond c (x ∷ filter p xs) (filter p xs))) [
        | true ↦ (s.0, NoneBelow-filter p n xs s.1)
        | false ↦ NoneBelow-filter p n xs s.1
      ]

  -- an element that is kept goes among those that are kept
  filter-insert : (p : X → Bool) (x : X) (xs : List X) → p x ≡ true → IsOrdered key xs → filter p (insert_by key x xs) ≡ insert_by key x (filter p xs)
  filter-insert p x [] h s = rw h refl
  filter-insert p x (y ∷ ys) h s =
      (elim (nat_lt (key y) (key x)) as (λ c. nat_lt (key y) (key x) ≡ c → filter p (cond c (y ∷ insert_by key x ys) (x ∷ y ∷ ys)) ≡ insert_by key x (filter p (y ∷ ys))) [
        | true ↦ λ e.
            (elim (p y) as (λ c. p y ≡ c → cond c (y ∷ filter p (insert_by key x ys)) (filter p (insert_by key x ys)) ≡ insert_by key x (cond c (y ∷ filter p ys) (filter p ys))) [
              | true ↦ λ k. rw e (ap (λ zs. y ∷ zs) (filter-insert p x ys h s.1))
              | false ↦ λ k. filter-insert p x ys h s.1
            ]) refl
        | false ↦ λ e.
            let g : key x ≤ key y = ltb-false (key y) (key x) e in
            rw h (sym (insert_by-first x (filter p (y ∷ ys)) (NoneBelow-filter p (key x) (y ∷ ys) (g, NoneBelow-le (key x) (key y) ys g s.0))))
      ]) refl

  -- one that is not kept changes nothing
  filter-insert_out : (p : X → Bool) (x : X) (xs : List X) → p x ≡ false → filter p (insert_by key x xs) ≡ filter p xs
  filter-insert_out p x [] h = rw h refl
  filter-insert_out p x (y ∷ ys) h = grind (arith, common_steps, filter-insert_out p x ys h)

  -- what is kept of a sorted list is what is kept, sorted
  pub filter-sort : (p : X → Bool) (xs : List X) → filter p (sort_by key xs) ≡ sort_by key (filter p xs)
  filter-sort p [] = refl
  filter-sort p (x ∷ xs) =
      (elim (p x) as (λ c. p x ≡ c → filter p (insert_by key x (sort_by key xs)) ≡ sort_by key (cond c (x ∷ filter p xs) (filter p xs))) [
        | true ↦ λ e. filter-insert p x (sort_by key xs) e (IsOrdered-sort xs) ∙ ap (λ ys. insert_by key x ys) (filter-sort p xs)
        | false ↦ λ e. filter-insert_out p x (sort_by key xs) e ∙ filter-sort p xs
      ]) refl

  -- ordered elements stay as they stand
  pub sort_by-ordered : (xs : List X) → IsOrdered key xs → sort_by key xs ≡ xs
  sort_by-ordered [] o = refl
  sort_by-ordered (x ∷ xs) o = rw (sort_by-ordered xs o.1) (insert_by-first x xs o.0)

-- the lists cut one by one
pub filter-all_of : {X : Type 0} (p : X → Bool) (xss : List (List X)) → filter p (all_of xss) ≡ all_of (map (λ xs. filter p xs) xss)
filter-all_of p [] = refl
filter-all_of p (xs ∷ xss) = filter-append p xs (all_of xss) ∙ ap (λ ys. filter p xs ++ ys) (filter-all_of p xss)

-- union
pub cut-united : (inputs : List (List Tuple)) (b : ℕ) → cut (united inputs) b ≡ united (map (λ ts. cut ts b) inputs)
cut-united inputs b =
    filter-sort (λ (t : Tuple). t.stime) (is_below b) (all_of inputs) ∙ ap (λ (ts : List Tuple). sort_by (λ (t : Tuple). t.stime) ts) (filter-all_of (is_below b) inputs)
