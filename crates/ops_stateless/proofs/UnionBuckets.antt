-- The output of a union over a bucket is the bucket's tuples as they stand.
use Rattle.std.proofs.Common.{◌≡◌, ℕ, zero, suc, ◌+◌, ◌*◌, ◌<◌, ◌≤◌, true, false, cond, ◌==◌, List, [], ◌∷◌, ◌++◌, map, refl, sym, ◌∙◌, ap, arith, nat_lt, nat_le, append_assoc, All}
use Rattle.std.proofs.lemmas.Grind.{common_steps}
use Rattle.std.specs.List.{filter, AllByRecursion}
use Rattle.dpc_lists.specs.Lists.{sort_by, insert_by, range_with_len}
use Rattle.dpc_model.specs.Streams.{NoneBelow, time_of}
use Rattle.dpc_model.specs.Engines.{IsBucket, LiesBelow, precedes, from_time, ports_of, engine_value, lone_operator, added_output, is_serial}
use Rattle.dpc_model.specs.Fragments.{at_port}
use Rattle.dpc_model.specs.Operators.{united, all_of}
use Rattle.dpc_model.specs.declared.tuples.Tuple.{Tuple}
use Rattle.dpc_model.specs.declared.tuples.Tagged.{Tagged}
use Rattle.dpc_model.specs.declared.operators.OpKind.TheVariants.{Union}
use Rattle.dpc_model.proofs.Causality.{filter-sort, filter-all_of, IsOrdered-sort, insert_by-first, NoneBelow-append, NoneBelow-sort}
use Rattle.dpc_model.proofs.Buckets.{added-is, operator-causal, lone-added, after-begin}
use Rattle.dpc_model.proofs.Serial.{serial-rest, serial-all, adjacent-serial}
use Rattle.dpc_model.proofs.Kept.{ports_of-kept}
use Rattle.ops_stateless.specs.Unions.{union_value}

-- the tuples of the first n ports, as they stand
abbrev pub standing : ℕ → List Tagged → List Tuple
standing n xs = map (λ (x : Tagged). x.tuple) (filter (λ (x : Tagged). nat_lt x.port n) xs)

-- ---- an element behind later ones, and before none that is earlier, comes first

abbrev AreLater : ℕ → List Tuple → Type 0
AreLater n ts = AllByRecursion (λ t. n < time_of t) ts

insert_by-second : (t u : Tuple) (ts : List Tuple) → time_of t < time_of u → insert_by time_of u (t ∷ ts) ≡ t ∷ insert_by time_of u ts
insert_by-second t u ts h = grind (arith, common_steps, h)

first-sorted : (t : Tuple) (later rest : List Tuple) → AreLater (time_of t) later → NoneBelow time_of (time_of t) rest →
    sort_by time_of (later ++ t ∷ rest) ≡ t ∷ sort_by time_of (later ++ rest)
first-sorted t [] rest h s = insert_by-first time_of t (sort_by time_of rest) (NoneBelow-sort time_of time_of (time_of t) rest s)
first-sorted t (u ∷ later) rest h s =
    ap (λ (ts : List Tuple). insert_by time_of u ts) (first-sorted t later rest h.1 s) ∙ insert_by-second t u (sort_by time_of (later ++ rest)) h.0

abbrev Precedes : Tagged → List Tagged → Type 0
Precedes x ys = AllByRecursion (λ y. precedes x y ≡ true) ys

-- ---- the tuples of ports from s on

abbrev from_ports : ℕ → ℕ → List Tagged → List Tuple
from_ports s m xs = all_of (map (λ p. at_port p xs) (range_with_len s m))

other_port : (p : ℕ) (x : Tagged) (xs : List Tagged) → (x.port == p) ≡ false → at_port p (x ∷ xs) ≡ at_port p xs
other_port p x xs e = rw e refl

other_ports : (s m : ℕ) (x : Tagged) (xs : List Tagged) → x.port < s → from_ports s m (x ∷ xs) ≡ from_ports s m xs
other_ports s zero x xs h = refl
other_ports s (suc m) x xs h =
    let other : (x.port == s) ≡ false = grind (arith, common_steps) in
    rw (other_port s x xs other) (ap (λ (ts : List Tuple). at_port s xs ++ ts) (other_ports (s + 1) m x xs (omega (arith, h))))

none_below-port : (p : ℕ) (x : Tagged) (xs : List Tagged) → Precedes x xs → NoneBelow time_of x.tuple.stime (at_port p xs)
none_below-port p x [] h = tt
none_below-port p x (y ∷ ys) h =
    elim (y.port == p) as (λ b. NoneBelow time_of x.tuple.stime (map (λ (z : Tagged). z.tuple) (cond b (y ∷ filter (λ (z : Tagged). z.port == p) ys) (filter (λ (z : Tagged). z.port == p) ys)))) [
      | true ↦ (grind (arith, common_steps, h.0), none_below-port p x ys h.1)
      | false ↦ none_below-port p x ys h.1
    ]

later-port : (p : ℕ) (x : Tagged) (xs : List Tagged) → p < x.port → Precedes x xs → AreLater x.tuple.stime (at_port p xs)
later-port p x [] l h = tt
later-port p x (y ∷ ys) l h =
    (elim (y.port == p) as (λ b. (y.port == p) ≡ b → AreLater x.tuple.stime (map (λ (z : Tagged). z.tuple) (cond b (y ∷ filter (λ (z : Tagged). z.port == p) ys) (filter (λ (z : Tagged). z.port == p) ys)))) [
      | true ↦ λ e. (grind (arith, common_steps, h.0), later-port p x ys l h.1)
      | false ↦ λ e. later-port p x ys l h.1
    ]) refl

none_below-ports : (s m : ℕ) (x : Tagged) (xs : List Tagged) → Precedes x xs → NoneBelow time_of x.tuple.stime (from_ports s m xs)
none_below-ports s zero x xs h = tt
none_below-ports s (suc m) x xs h =
    NoneBelow-append time_of x.tuple.stime (at_port s xs) (from_ports (s + 1) m xs) (none_below-port s x xs h) (none_below-ports (s + 1) m x xs h)

later-append : (n : ℕ) (ts us : List Tuple) → AreLater n ts → AreLater n us → AreLater n (ts ++ us)
later-append n [] us s t = t
later-append n (x ∷ ts) us s t = (s.0, later-append n ts us s.1 t)

-- a tuple that precedes the others comes first
sorted-first : (s m : ℕ) (later : List Tuple) (x : Tagged) (xs : List Tagged) → AreLater x.tuple.stime later → Precedes x xs → s ≤ x.port → x.port < s + m →
    sort_by time_of (later ++ from_ports s m (x ∷ xs)) ≡ x.tuple ∷ sort_by time_of (later ++ from_ports s m xs)
sorted-first s zero later x xs l h a b = absurd (omega (arith, a, b))
sorted-first s (suc m) later x xs l h a b =
    (elim (x.port == s) as (λ c. (x.port == s) ≡ c → sort_by time_of (later ++ (at_port s (x ∷ xs) ++ from_ports (s + 1) m (x ∷ xs))) ≡ x.tuple ∷ sort_by time_of (later ++ (at_port s xs ++ from_ports (s + 1) m xs))) [
      | true ↦ λ e.
          let here : at_port s (x ∷ xs) ≡ x.tuple ∷ at_port s xs = rw e refl in
          let behind : x.port < s + 1 = grind (arith, common_steps) in
          rw (here, other_ports (s + 1) m x xs behind)
          (first-sorted x.tuple later (at_port s xs ++ from_ports (s + 1) m xs) l
          (NoneBelow-append time_of x.tuple.stime (at_port s xs) (from_ports (s + 1) m xs) (none_below-port s x xs h) (none_below-ports (s + 1) m x xs h)))
      | false ↦ λ e.
          let past : s < x.port = grind (arith, common_steps) in
          rw (other_port s x xs e, ← append_assoc later (at_port s xs) (from_ports (s + 1) m (x ∷ xs)), ← append_assoc later (at_port s xs) (from_ports (s + 1) m xs))
          (sorted-first (s + 1) m (later ++ at_port s xs) x xs (later-append x.tuple.stime later (at_port s xs) l (later-port s x xs past h)) h (omega (arith, past)) (omega (arith, b)))
    ]) refl

-- a port past the last one
past_port : (s m : ℕ) (x : Tagged) (xs : List Tagged) → s + m ≤ x.port → from_ports s m (x ∷ xs) ≡ from_ports s m xs
past_port s zero x xs h = refl
past_port s (suc m) x xs h =
    let other : (x.port == s) ≡ false = grind (arith, common_steps) in
    rw (other_port s x xs other) (ap (λ (ts : List Tuple). at_port s xs ++ ts) (past_port (s + 1) m x xs (omega (arith, h))))

-- tuples in serial order are their union
united-serial : (n : ℕ) (xs : List Tagged) → is_serial xs ≡ true → sort_by time_of (from_ports 0 n xs) ≡ standing n xs
united-serial n [] h = none 0 n
  where
    none : (s m : ℕ) → sort_by time_of (from_ports s m []) ≡ []
    none s zero = refl
    none s (suc m) = none (s + 1) m
united-serial n (x ∷ xs) h =
    (elim (nat_lt x.port n) as (λ b. nat_lt x.port n ≡ b → sort_by time_of (from_ports 0 n (x ∷ xs))
    ≡ map (λ (y : Tagged). y.tuple) (cond b (x ∷ filter (λ (y : Tagged). nat_lt y.port n) xs) (filter (λ (y : Tagged). nat_lt y.port n) xs))) [
      | true ↦ λ e.
          let low : x.port < 0 + n = grind (arith, common_steps) in
          sorted-first 0 n [] x xs tt (serial-all x xs h) (omega arith) low ∙ ap (λ (ts : List Tuple). x.tuple ∷ ts) (united-serial n xs (serial-rest x xs h).1)
      | false ↦ λ e.
          let high : 0 + n ≤ x.port = grind (arith, common_steps) in
          ap (λ (ts : List Tuple). sort_by time_of ts) (past_port 0 n x xs high) ∙ united-serial n xs (serial-rest x xs h).1
    ]) refl

-- ---- what a bucket adds

united-from : (b : ℕ) (inputs : List (List Tuple)) → from_time b (united inputs) ≡ united (map (from_time b) inputs)
united-from b inputs =
    filter-sort time_of (λ (t : Tuple). nat_le b t.stime) (all_of inputs)
    ∙ ap (λ (ts : List Tuple). sort_by time_of ts) (filter-all_of (λ (t : Tuple). nat_le b t.stime) inputs)

pub union-added : (n w k : ℕ) (before bucket : List Tagged) → All (LiesBelow (k * w)) before → IsBucket w k bucket →
    standing n bucket ≡ added_output (engine_value (lone_operator Union n)) w before bucket k
union-added n w k before bucket h b =
    let whole = united (ports_of n (before ++ bucket)) in
    sym
    (added-is (union_value n) w k before bucket (operator-causal Union n tt) (IsOrdered-sort time_of (all_of (ports_of n (before ++ bucket)))) h b.inside
    ∙ united-from (k * w) (ports_of n (before ++ bucket)) ∙ ap united (ports_of-kept (λ (t : Tuple). nat_le (k * w) t.stime) n (before ++ bucket))
    ∙ ap (λ (xs : List Tagged). united (ports_of n xs)) (after-begin w k before bucket h b.inside) ∙ united-serial n bucket (adjacent-serial bucket b.ordered))
    ∙ sym (lone-added Union n w before bucket k)
