use Rattle.std.proofs.Common.{◌≡◌, ℕ, zero, suc, ◌≤◌, ◌<◌, true, false, List, [], ◌∷◌, length, refl, arith, rules, nat_lt, slice_index_or}
use Rattle.std.proofs.lemmas.Bool.{ltb-true, ltb-false}
use Rattle.std.proofs.lemmas.List.Sorted.{IsPartitionPoint-from_clause, IsPartitionedBy-ltb}
use Rattle.std.specs.List.Sorted.{IsPartitionPoint}
use Rattle.dpc_model.specs.Streams.{IsOrdered}
use Rattle.dpc_model.specs.declared.tuples.Tagged.{Tagged}
use Rattle.dpc_model.proofs.Cuts.{count-more, count-end}
use Rattle.dpc_model.proofs.Prefixes.{length-filter_le}
use Rattle.dpc_model.proofs.Halves.{rises}
use Rattle.ops_join.specs.Groups.{tagged_below}
use Rattle.ops_join.proofs.Groups.{tagged_time}
use Rattle.ops_join.proofs.rows_given.count_below.Goals as goal

at-least : (b i : ℕ) (xs : List Tagged) (d : Tagged) → IsOrdered tagged_time xs → i ≤ length xs → ((k : ℕ) → k < i → nat_lt (slice_index_or xs k d).tuple.stime b ≡ true) → i ≤ tagged_below b xs
at-least b zero xs d o low h = omega arith
at-least b (suc k) xs d o low h =
    let more = count-more tagged_time xs k b d o (omega (arith, low)) (ltb-true (slice_index_or xs k d).tuple.stime b (h k (omega arith))) in omega (arith, more)

at-most : (b i : ℕ) (xs : List Tagged) (d : Tagged) → IsOrdered tagged_time xs → (i < length xs → nat_lt (slice_index_or xs i d).tuple.stime b ≡ false) → tagged_below b xs ≤ i
at-most b i xs d o h =
    let all : tagged_below b xs ≤ length xs = length-filter_le (λ (x : Tagged). nat_lt x.tuple.stime b) xs in
    (elim (nat_lt i (length xs)) as (λ c. nat_lt i (length xs) ≡ c → tagged_below b xs ≤ i) [
      | true ↦ λ e. let here = ltb-true i (length xs) e in count-end tagged_time xs i b d o here (ltb-false (slice_index_or xs i d).tuple.stime b (h here))
      | false ↦ λ e. let past = ltb-false i (length xs) e in omega (arith, past, all)
    ]) refl

-- the place behind all inputs below a time is their number
count-at : (b i : ℕ) (xs : List Tagged) → IsOrdered tagged_time xs → i ≤ length xs → IsPartitionPoint (λ (y : Tagged). nat_lt y.tuple.stime b ≡ true) (λ (y : Tagged). nat_lt y.tuple.stime b ≡ false) xs i → i ≡ tagged_below b xs
count-at b i [] o low p = omega (arith, low)
count-at b i (x ∷ xs) o low p =
    let least = at-least b i (x ∷ xs) x o low (λ k h. p.0 k x (omega arith) h) in
    let most = at-most b i (x ∷ xs) x o (λ h. p.1 i x (omega arith) h) in omega (arith, least, most)

pub returns-clause-count : goal.returns-clause-count
returns-clause-count c =
    let xs = c.args.inputs.now in
    let parted = IsPartitionedBy-ltb tagged_time xs c.args.time (rises tagged_time xs c.requires) in
    let point = IsPartitionPoint-from_clause (λ (x : Tagged). nat_lt x.tuple.stime c.args.time) xs _ c.partition_point.ensures.partitioned parted (λ a r q k. search rules) in
    count-at c.args.time c.partition_point.result xs c.requires c.partition_point.ensures.bound point
