-- What a snapshot keeps can be told by frames.
use Rattle.std.proofs.Common.{◌≡◌, ℕ, suc, ◌+◌, ◌*◌, ◌^◌, ◌<◌, ◌≤◌, Bool, true, ◌&&◌, ◌==◌, nat_lt, nat_le, List, [], ◌∷◌, map, length, refl, sym, subst, arith, All}
use Rattle.std.specs.List.{filter}
use Rattle.dpc_lists.specs.Lists.{nth, list_all}
use Rattle.dpc_lists.proofs.Truths.{both, both-of, lt-of, lt-test, eq-of, all-weaker, all-part}
use Rattle.dpc_model.specs.Engines.{LiesBelow}
use Rattle.dpc_model.specs.Fragments.{at_port, serial}
use Rattle.dpc_model.specs.declared.tuples.Tuple.{Tuple}
use Rattle.dpc_model.specs.declared.tuples.Tagged.{Tagged}
use Rattle.world_model.specs.Orderly.{has_columns}
use Rattle.stream_codec.specs.Frames.{is_in_range, is_i64}
use Rattle.ops_join.specs.Joins.{JoinState, JoinAfter, kept_from}
use Rattle.law_safety.proofs.Numbering.{all-nth}
use Rattle.law_safety.proofs.Columns.{all-both, AllColumns, serial-columns, tagged-columns}
use Rattle.law_fit.proofs.Readers.{all-of}
use Rattle.snapshot_form.specs.Savable.{CanBeTold}
use Rattle.law_saves.specs.Typed.{has_values}
use Rattle.law_saves.proofs.Widths.{is_width}

-- of a few columns, below a time
abbrev pub is_small : Tuple → Bool
is_small t = nat_lt t.stime (2 ^ 62) && is_width (length t.vals)

can-be-told : (t : Tuple) → is_small t ≡ true → has_values t ≡ true → CanBeTold t
unfolding is_in_range
can-be-told t small values =
    let s = both (nat_lt t.stime (2 ^ 62)) (is_width (length t.vals)) small in
    both-of _ _ (both-of (nat_lt t.stime (2 ^ 62)) true s.0 refl) (both-of (is_width (length t.vals)) (list_all is_i64 t.vals) s.1 values)

-- tuples that are small, with values of i64
pub all-told : (ts : List Tuple) → list_all is_small ts ≡ true → list_all has_values ts ≡ true → All CanBeTold ts
all-told ts small values =
    all-of (λ t. is_small t && has_values t) CanBeTold ts (λ t h. let k = both (is_small t) (has_values t) h in can-be-told t k.0 k.1) (all-both is_small has_values ts small values)

-- ---- the sides of a join

below-list : (b : ℕ) (xs : List Tagged) → All (LiesBelow b) xs → list_all (λ (x : Tagged). nat_lt x.tuple.stime b) xs ≡ true
below-list b [] h = refl
below-list b (x ∷ xs) h =
    both-of (nat_lt x.tuple.stime b) _ (lt-test x.tuple.stime b (h 0 x (omega arith))) (below-list b xs (λ k d l. h (suc k) d (omega (arith, l))))

port-below : (p b : ℕ) (xs : List Tagged) → list_all (λ (x : Tagged). nat_lt x.tuple.stime b) xs ≡ true → list_all (λ (t : Tuple). nat_lt t.stime b) (at_port p xs) ≡ true
port-below p b xs h = mapped (filter (λ (x : Tagged). x.port == p) xs) (all-part (λ (x : Tagged). nat_lt x.tuple.stime b) (λ (x : Tagged). x.port == p) xs h)
  where
    mapped : (ys : List Tagged) → list_all (λ (x : Tagged). nat_lt x.tuple.stime b) ys ≡ true → list_all (λ (t : Tuple). nat_lt t.stime b) (map (λ (x : Tagged). x.tuple) ys) ≡ true
    mapped [] k = refl
    mapped (y ∷ ys) k = let e = both (nat_lt y.tuple.stime b) (list_all (λ (x : Tagged). nat_lt x.tuple.stime b) ys) k in both-of (nat_lt y.tuple.stime b) _ e.0 (mapped ys e.1)

port-small : (c p b : ℕ) (xs : List Tagged) → is_width c ≡ true → b ≤ 2 ^ 62 → list_all (λ (x : Tagged). nat_lt x.tuple.stime b) xs ≡ true
    → list_all (has_columns c) (at_port p xs) ≡ true → list_all is_small (at_port p xs) ≡ true
port-small c p b xs width within below columns =
    let early : list_all (λ (t : Tuple). nat_lt t.stime b) (at_port p xs) ≡ true = port-below p b xs below in
    all-weaker is_small (λ (t : Tuple). nat_lt t.stime b && has_columns c t) (at_port p xs)
    (λ t h.
    let k = both (nat_lt t.stime b) (has_columns c t) h in
    let low = lt-of t.stime b k.0 in
    both-of (nat_lt t.stime (2 ^ 62)) (is_width (length t.vals)) (lt-test t.stime (2 ^ 62) (omega (arith, low, within)))
    (subst (λ n. is_width n ≡ true) (sym (eq-of (length t.vals) c k.1)) width))
    (all-both (λ (t : Tuple). nat_lt t.stime b) (has_columns c) (at_port p xs) early columns)

side-small : (cs : List ℕ) (tss : List (List Tuple)) (within b p : ℕ) → p < length cs → list_all is_width cs ≡ true → AllColumns cs tss → b ≤ 2 ^ 62
    → list_all (λ (x : Tagged). nat_lt x.tuple.stime b) (serial tss) ≡ true → list_all is_small (kept_from within b (at_port p (serial tss))) ≡ true
side-small cs tss within b p there widths columns fits below =
    all-part is_small (λ (t : Tuple). nat_le b (t.stime + within)) (at_port p (serial tss))
    (port-small (nth 0 cs p) p b (serial tss) (all-nth is_width 0 cs p there widths) fits below (tagged-columns cs p (serial tss) (serial-columns cs tss columns)))

-- what a join keeps of inputs with few columns, where its next bucket begins within the run
pub sides-small : (j : JoinState) (cs : List ℕ) (tss : List (List Tuple)) (k : ℕ) → JoinAfter j (serial tss) k → length cs ≡ 2 → list_all is_width cs ≡ true → AllColumns cs tss
    → k * j.width ≤ 2 ^ 62 → (list_all is_small j.left ≡ true) × (list_all is_small j.right ≡ true)
sides-small j cs tss k after two widths columns fits =
    let below = below-list (k * j.width) (serial tss) after.below in (
      rw after.left (side-small cs tss j.within (k * j.width) 0 (omega (arith, two)) widths columns fits below),
      rw after.right (side-small cs tss j.within (k * j.width) 1 (omega (arith, two)) widths columns fits below),
    )
