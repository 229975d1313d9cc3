-- Closing buckets and moving the cursor leaves the closed buckets and the stamps in place.
use Rattle.std.proofs.Common.{◌≡◌, ℕ, zero, suc, ◌+◌, ◌≤◌, Bool, true, false, cond, ◌&&◌, nat_lt, nat_le, List, [], ◌∷◌, ◌++◌, map, length, refl, ◌∙◌, arith, length-append}
use Rattle.std.proofs.lemmas.List.{length-map}
use Rattle.std.proofs.lemmas.List.FromFn.{length-range_with_len}
use Rattle.std.specs.List.{filter, enumerate_from}
use Rattle.dpc_lists.specs.Lists.{list_all, range_with_len}
use Rattle.dpc_model.specs.Fragments.{serial}
use Rattle.dpc_model.specs.Reading.{Reader}
use Rattle.dpc_model.specs.Due.{Stamps}
use Rattle.dpc_model.specs.declared.tuples.Tagged.{Tagged}
use Rattle.dpc_model.specs.Engines.{lies_in, is_serial}
use Rattle.dpc_model.proofs.Serial.{serial-is}
use Rattle.dpc_model.specs.Parts.{bucket_at}
use Rattle.node_model.specs.Nodes.{Home, PlainNode, node_frontier, buckets_of}
use Rattle.world_model.specs.Orderly.{fits_port, port_columns, closed_in_place}
use Rattle.dpc_lists.proofs.Truths.{both, both-of, le-of, le-test}
use Rattle.law_safety.proofs.Serials.{bucket-lies, AreColumns, bucket-columns}

-- a numbered bucket lies behind the cursor by its number, in serial order, with the columns of the ports
abbrev pub is_placed : ℕ → List ℕ → ℕ → ℕ × List Tagged → Bool
is_placed width cs c b = list_all (lies_in width (c + b.0)) b.1 && is_serial b.1 && list_all (fits_port cs) b.1

-- the buckets of these readers, from one number on
abbrev pub bucket_by : ℕ → List Reader → ℕ → List Tagged
bucket_by width rs k = serial (map (bucket_at width k) rs)

bucket-placed : (width : ℕ) (cs : List ℕ) (c i k : ℕ) (rs : List Reader) → AreColumns cs rs → c + i ≡ k → is_placed width cs c (i, bucket_by width rs k) ≡ true
bucket-placed width cs c i k rs h e =
    both-of (list_all (lies_in width (c + i)) (bucket_by width rs k) && is_serial (bucket_by width rs k)) _
    (both-of (list_all (lies_in width (c + i)) (bucket_by width rs k)) _ (rw e (bucket-lies width k rs)) (serial-is (map (bucket_at width k) rs))) (bucket-columns width k cs rs h)

pub buckets-placed : (width : ℕ) (cs : List ℕ) (c i from count : ℕ) (rs : List Reader) → AreColumns cs rs → c + i ≡ from →
    list_all (is_placed width cs c) (enumerate_from i (map (bucket_by width rs) (range_with_len from count))) ≡ true
buckets-placed width cs c i from zero rs h e = refl
buckets-placed width cs c i from (suc count) rs h e =
    both-of (is_placed width cs c (i, bucket_by width rs from)) (list_all (is_placed width cs c) (enumerate_from (i + 1) (map (bucket_by width rs) (range_with_len (from + 1) count))))
    (bucket-placed width cs c i from rs h e) (buckets-placed width cs c (i + 1) (from + 1) count rs h (omega arith))

-- numbers go on behind a list
numbered-append : {X : Type 0} (q : ℕ × X → Bool) (i : ℕ) (xs ys : List X) → list_all q (enumerate_from i xs) ≡ true → list_all q (enumerate_from (i + length xs) ys) ≡ true →
    list_all q (enumerate_from i (xs ++ ys)) ≡ true
numbered-append q i [] ys h k = let none : i + 0 ≡ i = omega arith in rw none at k
numbered-append q i (x ∷ xs) ys h k =
    let p = both (q (i, x)) (list_all q (enumerate_from (i + 1) xs)) h in
    let more : i + suc (length xs) ≡ i + 1 + length xs = omega arith in
    both-of (q (i, x)) (list_all q (enumerate_from (i + 1) (xs ++ ys))) p.0 (numbered-append q (i + 1) xs ys p.1 (rw more at k))

-- what a list of closed buckets is to be
pub record AreClosed (home : Home) (c : ℕ) (closed : List (List Tagged)) : Type 0 where
  pub placed : list_all (is_placed home.plan.width (port_columns home) c) (enumerate_from 0 closed) ≡ true
  pub within : c + length closed ≤ buckets_of home.plan

pub closed-of : (home : Home) (n : PlainNode) → closed_in_place home n ≡ true → AreClosed home n.cursor n.closed
closed-of home n h =
    let p = both (list_all (is_placed home.plan.width (port_columns home) n.cursor) (enumerate_from 0 n.closed)) (nat_le (node_frontier n) (buckets_of home.plan)) h in
    record { placed = p.0; within = le-of (node_frontier n) (buckets_of home.plan) p.1 }

pub closed-test : (home : Home) (n : PlainNode) → AreClosed home n.cursor n.closed → closed_in_place home n ≡ true
closed-test home n h =
    both-of (list_all (is_placed home.plan.width (port_columns home) n.cursor) (enumerate_from 0 n.closed)) (nat_le (node_frontier n) (buckets_of home.plan)) h.placed
    (le-test (node_frontier n) (buckets_of home.plan) h.within)

-- more buckets are closed behind those that are
pub closed-more : (home : Home) (c count : ℕ) (rs : List Reader) (closed : List (List Tagged)) → AreColumns (port_columns home) rs → AreClosed home c closed → c + length closed + count ≤ buckets_of home.plan →
    AreClosed home c (closed ++ map (bucket_by home.plan.width rs) (range_with_len (c + length closed) count))
closed-more home c count rs closed fits h few =
    let more = map (bucket_by home.plan.width rs) (range_with_len (c + length closed) count) in
    let many : length more ≡ count = length-map (range_with_len (c + length closed) count) (bucket_by home.plan.width rs) ∙ length-range_with_len (c + length closed) count in
    record {
      placed = numbered-append (is_placed home.plan.width (port_columns home) c) 0 closed more h.placed
          (buckets-placed home.plan.width (port_columns home) c (0 + length closed) (c + length closed) count rs fits (omega arith));
      within = omega (arith, many, length-append closed more);
    }

-- where none is closed the cursor may move
pub none-closed : (home : Home) (c : ℕ) → c ≤ buckets_of home.plan → AreClosed home c []
none-closed home c h = record { placed = refl; within = omega arith }

-- a stamp at or past the cursor, and below the last bucket
abbrev pub is_stamp_in : ℕ → ℕ → ℕ × ℕ → Bool
is_stamp_in c buckets s = nat_le c s.0 && nat_lt s.0 buckets

pub stamps-moved : (c r buckets : ℕ) (stamps : Stamps) → list_all (is_stamp_in c buckets) stamps ≡ true →
    list_all (is_stamp_in (c + r) buckets) (filter (λ (s : ℕ × ℕ). nat_le (c + r) s.0) stamps) ≡ true
stamps-moved c r buckets [] h = refl
stamps-moved c r buckets (s ∷ stamps) h =
    let p = both (is_stamp_in c buckets s) (list_all (is_stamp_in c buckets) stamps) h in
    let rest = filter (λ (s : ℕ × ℕ). nat_le (c + r) s.0) stamps in
    (elim (nat_le (c + r) s.0) as (λ b. nat_le (c + r) s.0 ≡ b → list_all (is_stamp_in (c + r) buckets) (cond b (s ∷ rest) rest) ≡ true) [
      | true ↦ λ e. both-of (is_stamp_in (c + r) buckets s) (list_all (is_stamp_in (c + r) buckets) rest)
          (both-of (nat_le (c + r) s.0) (nat_lt s.0 buckets) e (both (nat_le c s.0) (nat_lt s.0 buckets) p.0).1) (stamps-moved c r buckets stamps p.1)
      | false ↦ λ e. stamps-moved c r buckets stamps p.1
    ]) refl
