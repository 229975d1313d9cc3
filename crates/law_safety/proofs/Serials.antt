-- A bucket of a node lies in its time, and its tuples have the columns of their ports.
use Rattle.std.proofs.Common.{◌≡◌, ℕ, ◌+◌, ◌*◌, true, false, cond, ◌&&◌, nat_le, List, [], ◌∷◌, ◌++◌, map, refl}
use Rattle.dpc_lists.specs.Lists.{list_all}
use Rattle.dpc_model.specs.Streams.{is_below}
use Rattle.dpc_model.specs.Operators.{between}
use Rattle.dpc_model.specs.Engines.{lies_in}
use Rattle.dpc_model.specs.Fragments.{tag, tagged_from, serial}
use Rattle.dpc_model.specs.Reading.{Reader}
use Rattle.dpc_model.specs.declared.tuples.Tuple.{Tuple}
use Rattle.dpc_model.proofs.Order.{tagged_time}
use Rattle.dpc_model.specs.Parts.{bucket_at}
use Rattle.world_model.specs.Orderly.{has_columns, fits_port}
use Rattle.dpc_lists.proofs.Truths.{both-of, all-append, all-sort, all-part}
use Rattle.law_safety.proofs.Columns.{AllColumns, serial-columns}

-- ---- time

tags-lie : (width k p : ℕ) (ts : List Tuple) → list_all (lies_in width k) (map (tag p) (between (k * width) ((k + 1) * width) ts)) ≡ true
tags-lie width k p [] = refl
tags-lie width k p (t ∷ ts) =
    let rest = between (k * width) ((k + 1) * width) ts in
    (elim (nat_le (k * width) t.stime && is_below ((k + 1) * width) t) as (λ c. (nat_le (k * width) t.stime && is_below ((k + 1) * width) t) ≡ c →
    list_all (lies_in width k) (map (tag p) (cond c (t ∷ rest) rest)) ≡ true) [
      | true ↦ λ e. both-of (lies_in width k (tag p t)) (list_all (lies_in width k) (map (tag p) rest)) e (tags-lie width k p ts)
      | false ↦ λ e. tags-lie width k p ts
    ]) refl

buckets-lie : (width k p : ℕ) (rs : List Reader) → list_all (lies_in width k) (tagged_from p (map (bucket_at width k) rs)) ≡ true
buckets-lie width k p [] = refl
buckets-lie width k p (r ∷ rs) =
    all-append (lies_in width k) (map (tag p) (bucket_at width k r)) (tagged_from (p + 1) (map (bucket_at width k) rs))
    (tags-lie width k p (r.stable ++ r.tentative)) (buckets-lie width k (p + 1) rs)

pub bucket-lies : (width k : ℕ) (rs : List Reader) → list_all (lies_in width k) (serial (map (bucket_at width k) rs)) ≡ true
bucket-lies width k rs = all-sort (lies_in width k) tagged_time (tagged_from 0 (map (bucket_at width k) rs)) (buckets-lie width k 0 rs)

-- ---- columns

-- what each reader holds has the columns that stand beside it
abbrev pub AreColumns : List ℕ → List Reader → Type 0
AreColumns [] [] = Unit {0}
AreColumns (c ∷ cs) (r ∷ rs) = (list_all (has_columns c) (r.stable ++ r.tentative) ≡ true) × AreColumns cs rs
AreColumns [] (r ∷ rs) = ⊥
AreColumns (c ∷ cs) [] = ⊥

buckets-columns : (width k : ℕ) (cs : List ℕ) (rs : List Reader) → AreColumns cs rs → AllColumns cs (map (bucket_at width k) rs)
buckets-columns width k [] [] h = tt
buckets-columns width k [] (r ∷ rs) h = absurd h
buckets-columns width k (c ∷ cs) [] h = absurd h
buckets-columns width k (c ∷ cs) (r ∷ rs) h =
    (all-part (has_columns c) (λ t. nat_le (k * width) t.stime && is_below ((k + 1) * width) t) (r.stable ++ r.tentative) h.0, buckets-columns width k cs rs h.1)

pub bucket-columns : (width k : ℕ) (cs : List ℕ) (rs : List Reader) → AreColumns cs rs → list_all (fits_port cs) (serial (map (bucket_at width k) rs)) ≡ true
bucket-columns width k cs rs h = serial-columns cs (map (bucket_at width k) rs) (buckets-columns width k cs rs h)
