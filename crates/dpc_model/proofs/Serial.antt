-- Inputs in serial order: what stands at each port, and that each may stand before the next.
use Rattle.std.proofs.Common.{◌≡◌, ℕ, zero, suc, ◌+◌, ◌<◌, ◌≤◌, Bool, true, false, cond, nat_lt, ◌==◌, List, [], ◌∷◌, ◌++◌, map, length, get_or, refl, ◌∙◌, ap, arith, append-nil, add-one, add-zero, sym, append_assoc}
use Rattle.std.proofs.lemmas.Grind.{common_steps}
use Rattle.std.proofs.lemmas.List.Elements.{filter-append}
use Rattle.std.specs.List.{filter, AllAdjacentBelow, AllByRecursion}
use Rattle.std.specs.Prelude.{IsTrue}
use Rattle.std.specs.Cmp.Derive.{both_true}
use Rattle.std.proofs.lemmas.Bool.{and_parts, ltb-true, ltb-false}
use Rattle.std.proofs.lemmas.List.Sorted.{IsNonDecreasingBy-from_all_adjacent}
use Rattle.dpc_model.specs.Engines.{precedes, is_serial, ports_of}
use Rattle.dpc_model.proofs.Sorting.{IsOrdered-from}
use Rattle.dpc_lists.specs.Lists.{nth, insert_by, sort_by, range_with_len}
use Rattle.dpc_model.specs.Streams.{NoneBelow, IsOrdered, time_of, AllInOrder}
use Rattle.dpc_model.specs.Fragments.{tag, tagged_from, serial, at_port}
use Rattle.dpc_model.specs.declared.tuples.Tuple.{Tuple}
use Rattle.dpc_model.specs.declared.tuples.Tagged.{Tagged}
use Rattle.dpc_model.proofs.Causality.{filter-sort, sort_by-ordered, NoneBelow-append, NoneBelow-sort}
use Rattle.dpc_model.proofs.Order.{tagged_time, IsOrdered-map, nth-InOrder}

abbrev is_at : ℕ → Tagged → Bool
is_at p x = x.port == p

-- tuples with another tag, and with this one
other_tag : (p q : ℕ) (ts : List Tuple) → (q == p) ≡ false → filter (is_at p) (map (tag q) ts) ≡ []
other_tag p q [] e = refl
other_tag p q (t ∷ ts) e = rw e (other_tag p q ts e)

same_tag : (p q : ℕ) (ts : List Tuple) → (q == p) ≡ true → filter (is_at p) (map (tag q) ts) ≡ map (tag q) ts
same_tag p q [] e = refl
same_tag p q (t ∷ ts) e = rw e (ap (λ (xs : List Tagged). tag q t ∷ xs) (same_tag p q ts e))

port_before : (p s : ℕ) (ports : List (List Tuple)) → p < s → filter (is_at p) (tagged_from s ports) ≡ []
port_before p s [] h = refl
port_before p s (ts ∷ ports) h =
    let other : (s == p) ≡ false = grind (arith, common_steps) in
    filter-append (is_at p) (map (tag s) ts) (tagged_from (s + 1) ports) ∙ rw (other_tag p s ts other) (port_before p (s + 1) ports (omega (arith, h)))

port_from : (p s i : ℕ) (ports : List (List Tuple)) → p ≡ s + i → filter (is_at p) (tagged_from s ports) ≡ map (tag p) (nth [] ports i)
port_from p s i [] h = refl
port_from p s zero (ts ∷ ports) h =
    let here : (s == p) ≡ true = grind (arith, common_steps, h) in
    let same : s ≡ p = omega (arith, h) in
    filter-append (is_at p) (map (tag s) ts) (tagged_from (s + 1) ports)
    ∙ rw (same_tag p s ts here, port_before p (s + 1) ports (omega (arith, h))) (append-nil (map (tag s) ts) ∙ ap (λ (n : ℕ). map (tag n) ts) same)
port_from p s (suc i) (ts ∷ ports) h =
    let other : (s == p) ≡ false = grind (arith, common_steps, h) in
    filter-append (is_at p) (map (tag s) ts) (tagged_from (s + 1) ports) ∙ rw (other_tag p s ts other) (port_from p (s + 1) i ports (omega (arith, h)))

untagged : (p : ℕ) (ts : List Tuple) → map (λ (x : Tagged). x.tuple) (map (tag p) ts) ≡ ts
untagged p [] = refl
untagged p (t ∷ ts) = ap (λ (us : List Tuple). t ∷ us) (untagged p ts)

-- of the ports one after another, and in serial order
pub at_port-tagged : (ports : List (List Tuple)) (p : ℕ) → at_port p (tagged_from 0 ports) ≡ nth [] ports p
at_port-tagged ports p = ap (λ (xs : List Tagged). map (λ (x : Tagged). x.tuple) xs) (port_from p 0 p ports (omega arith)) ∙ untagged p (nth [] ports p)

pub at_port-serial : (ports : List (List Tuple)) (p : ℕ) → AllInOrder ports → at_port p (serial ports) ≡ nth [] ports p
at_port-serial ports p o =
    let carried = nth [] ports p in
    ap (λ (xs : List Tagged). map (λ (x : Tagged). x.tuple) xs)
    (filter-sort tagged_time (is_at p) (tagged_from 0 ports)
    ∙ ap (λ (xs : List Tagged). sort_by tagged_time xs) (port_from p 0 p ports (omega arith))
    ∙ sort_by-ordered tagged_time (map (tag p) carried) (IsOrdered-map time_of tagged_time (tag p) (λ t. refl) carried (nth-InOrder ports p o)))
    ∙ untagged p carried

-- the elements by their places
elements-from : (f : ℕ → List Tuple) (a : ℕ) (ins : List (List Tuple)) → ((i : ℕ) → f (a + i) ≡ nth [] ins i) → map f (range_with_len a (length ins)) ≡ ins
elements-from f a [] h = refl
elements-from f a (ts ∷ ins) h =
    let first : f a ≡ ts = rw (add-zero a) at (h 0) in
    rw first (ap (λ (yss : List (List Tuple)). ts ∷ yss)
    (elements-from f (a + 1) ins (λ i. let one : (a + 1) + i ≡ a + suc i = omega arith in rw one (h (suc i)))))

pub ports_of-serial : (ins : List (List Tuple)) → AllInOrder ins → ports_of (length ins) (serial ins) ≡ ins
ports_of-serial ins h =
    elements-from (λ p. at_port p (serial ins)) 0 ins (λ i. let one : 0 + i ≡ i = omega arith in rw one (at_port-serial ins i h))

-- ---- each may stand before the next

abbrev tagged_port : Tagged → ℕ
tagged_port x = x.port

precedes-earlier : (x y : Tagged) → tagged_time x < tagged_time y → precedes x y ≡ true
precedes-earlier x y h = grind (arith, common_steps)

precedes-port : (x y : Tagged) → tagged_time x ≤ tagged_time y → x.port ≤ y.port → precedes x y ≡ true
precedes-port x y h l = grind (arith, common_steps)

precedes-time : (x y : Tagged) → precedes x y ≡ true → tagged_time x ≤ tagged_time y
precedes-time x y e = grind (arith, common_steps)

precedes-trans : (x y z : Tagged) → precedes x y ≡ true → precedes y z ≡ true → precedes x z ≡ true
precedes-trans x y z h k = grind (arith, common_steps)

-- the first of these may follow x
abbrev pub MayFollow : Tagged → List Tagged → Type 0
MayFollow x [] = Unit {0}
MayFollow x (y ∷ ys) = precedes x y ≡ true

serial-cons : (x : Tagged) (xs : List Tagged) → MayFollow x xs → is_serial xs ≡ true → is_serial (x ∷ xs) ≡ true
serial-cons x [] f h = refl
serial-cons x (y ∷ ys) f h = both_true f h

pub serial-rest : (x : Tagged) (xs : List Tagged) → is_serial (x ∷ xs) ≡ true → MayFollow x xs × (is_serial xs ≡ true)
serial-rest x [] h = (tt, refl)
serial-rest x (y ∷ ys) h = and_parts (precedes x y) (is_serial (y ∷ ys)) h

-- an element put before those that are not smaller
follow-insert : (y x : Tagged) (zs : List Tagged) → MayFollow y zs → tagged_time y < tagged_time x → MayFollow y (insert_by tagged_time x zs)
follow-insert y x [] f l = precedes-earlier y x l
follow-insert y x (z ∷ zs) f l =
    elim (nat_lt (tagged_time z) (tagged_time x)) as (λ c. MayFollow y (cond c (z ∷ insert_by tagged_time x zs) (x ∷ z ∷ zs))) [
      | true ↦ f
      | false ↦ precedes-earlier y x l
    ]

serial-insert : (x : Tagged) (ys : List Tagged) → NoneBelow tagged_port x.port ys → is_serial ys ≡ true → is_serial (insert_by tagged_time x ys) ≡ true
serial-insert x [] n h = refl
serial-insert x (y ∷ ys) n h =
    let p = serial-rest y ys h in
    (elim (nat_lt (tagged_time y) (tagged_time x)) as (λ c. nat_lt (tagged_time y) (tagged_time x) ≡ c → is_serial (cond c (y ∷ insert_by tagged_time x ys) (x ∷ y ∷ ys)) ≡ true) [
      | true ↦ λ e. serial-cons y (insert_by tagged_time x ys) (follow-insert y x ys p.0 (ltb-true (tagged_time y) (tagged_time x) e)) (serial-insert x ys n.1 p.1)
      | false ↦ λ e. both_true (precedes-port x y (ltb-false (tagged_time y) (tagged_time x) e) n.0) h
    ]) refl

-- a list in order of port, sorted by time
serial-sorted : (xs : List Tagged) → IsOrdered tagged_port xs → is_serial (sort_by tagged_time xs) ≡ true
serial-sorted [] h = refl
serial-sorted (x ∷ xs) h = serial-insert x (sort_by tagged_time xs) (NoneBelow-sort tagged_port tagged_time x.port xs h.0) (serial-sorted xs h.1)

tags-from : (n p : ℕ) (ts : List Tuple) → n ≤ p → NoneBelow tagged_port n (map (tag p) ts)
tags-from n p [] h = tt
tags-from n p (t ∷ ts) h = (h, tags-from n p ts h)

tagged-from : (n p : ℕ) (ports : List (List Tuple)) → n ≤ p → NoneBelow tagged_port n (tagged_from p ports)
tagged-from n p [] h = tt
tagged-from n p (ts ∷ rest) h = NoneBelow-append tagged_port n (map (tag p) ts) (tagged_from (p + 1) rest) (tags-from n p ts h) (tagged-from n (p + 1) rest (omega arith))

tags-ordered : (p : ℕ) (ts : List Tuple) (ys : List Tagged) → NoneBelow tagged_port p ys → IsOrdered tagged_port ys → IsOrdered tagged_port (map (tag p) ts ++ ys)
tags-ordered p [] ys n h = h
tags-ordered p (t ∷ ts) ys n h = (NoneBelow-append tagged_port p (map (tag p) ts) ys (tags-from p p ts (omega arith)) n, tags-ordered p ts ys n h)

tagged-ordered : (p : ℕ) (ports : List (List Tuple)) → IsOrdered tagged_port (tagged_from p ports)
tagged-ordered p [] = tt
tagged-ordered p (ts ∷ rest) = tags-ordered p ts (tagged_from (p + 1) rest) (tagged-from p (p + 1) rest (omega arith)) (tagged-ordered (p + 1) rest)

pub serial-is : (ports : List (List Tuple)) → is_serial (serial ports) ≡ true
serial-is ports = serial-sorted (tagged_from 0 ports) (tagged-ordered 0 ports)

-- ---- the same by index, and of any two

neighbours : (xs : List Tagged) → is_serial xs ≡ true → (k : ℕ) (d : Tagged) → suc k < length xs → precedes (get_or xs k d) (get_or xs (suc k) d) ≡ true
neighbours [] s k d h = absurd (omega (arith, h))
neighbours (x ∷ []) s k d h = absurd (omega (arith, h))
neighbours (x ∷ y ∷ ys) s zero d h = (serial-rest x (y ∷ ys) s).0
neighbours (x ∷ y ∷ ys) s (suc k) d h = neighbours (y ∷ ys) (serial-rest x (y ∷ ys) s).1 k d (omega (arith, h))

pub serial-adjacent : (xs : List Tagged) → is_serial xs ≡ true → AllAdjacentBelow (λ x y. IsTrue (precedes x y)) xs (length xs)
serial-adjacent xs s = λ k d h. rw (add-one k) (neighbours xs s k d (omega (arith, h)))

pub adjacent-serial : (xs : List Tagged) → AllAdjacentBelow (λ x y. IsTrue (precedes x y)) xs (length xs) → is_serial xs ≡ true
adjacent-serial [] h = refl
adjacent-serial (x ∷ []) h = refl
adjacent-serial (x ∷ y ∷ ys) h =
    let rest = adjacent-serial (y ∷ ys) (λ k d low. let e : suc k + 1 ≡ suc (k + 1) = omega arith in (rw e at (h (suc k) d (omega (arith, low))))) in
    both_true (h 0 x (omega arith)) rest

precedes-all : (x y : Tagged) (ys : List Tagged) → precedes x y ≡ true → AllByRecursion (λ z. precedes y z ≡ true) ys → AllByRecursion (λ z. precedes x z ≡ true) ys
precedes-all x y [] h s = tt
precedes-all x y (z ∷ ys) h s = (precedes-trans x y z h s.0, precedes-all x y ys h s.1)

pub serial-all : (x : Tagged) (xs : List Tagged) → is_serial (x ∷ xs) ≡ true → AllByRecursion (λ y. precedes x y ≡ true) xs
serial-all x [] h = tt
serial-all x (y ∷ ys) h = let p = serial-rest x (y ∷ ys) h in (p.0, precedes-all x y ys p.0 (serial-all y ys p.1))

pub adjacent-ordered : (xs : List Tagged) → AllAdjacentBelow (λ x y. IsTrue (precedes x y)) xs (length xs) → IsOrdered tagged_time xs
adjacent-ordered xs h =
    IsOrdered-from tagged_time xs
    (IsNonDecreasingBy-from_all_adjacent tagged_time xs (λ i d low. precedes-time (get_or xs i d) (get_or xs (i + 1) d) (h i d low)))

pub serial-ordered : (xs : List Tagged) → is_serial xs ≡ true → IsOrdered tagged_time xs
serial-ordered xs h = adjacent-ordered xs (serial-adjacent xs h)

pub tagged_from-push : (p : ℕ) (ins : List (List Tuple)) (ts : List Tuple) → tagged_from p (ins ++ ts ∷ []) ≡ tagged_from p ins ++ map (tag (p + length ins)) ts
tagged_from-push p [] ts = rw (add-zero p) (append-nil (map (tag p) ts))
tagged_from-push p (us ∷ ins) ts =
    let one : (p + 1) + length ins ≡ p + suc (length ins) = omega arith in
    let rest : tagged_from (p + 1) (ins ++ ts ∷ []) ≡ tagged_from (p + 1) ins ++ map (tag (p + suc (length ins))) ts = rw (← one) (tagged_from-push (p + 1) ins ts) in
    rw rest (sym (append_assoc (map (tag p) us) (tagged_from (p + 1) ins) (map (tag (p + suc (length ins))) ts)))
