-- Buckets as the ports hold them are accepted in their turn.
use Rattle.std.proofs.Common.{◌≡◌, ℕ, zero, suc, ◌+◌, ◌*◌, ◌^◌, ◌<◌, Bool, nat_lt, nat_le, ◌&&◌, List, [], ◌∷◌, ◌++◌, map, length, sym, ◌∙◌, ap, arith, All, Some}
use Rattle.std.proofs.lemmas.List.Elements.{filter_passes}
use Rattle.std.proofs.lemmas.List.FromFn.{length-map-range_with_len}
use Rattle.std.proofs.lemmas.Simd.{map-map}
use Rattle.std.specs.List.{filter}
use Rattle.dpc_model.specs.Engines.{lies_in, LiesIn, FitsBucket, AcceptsAll}
use Rattle.dpc_model.specs.Fragments.{serial}
use Rattle.dpc_model.specs.Parts.{Inputs, bucket_at, bucket_held}
use Rattle.dpc_model.specs.Reading.{Reader}
use Rattle.dpc_model.specs.declared.tuples.Tuple.{Tuple}
use Rattle.dpc_model.specs.declared.tuples.Tagged.{Tagged}
use Rattle.dpc_model.proofs.Kept.{serial-kept}
use Rattle.dpc_model.proofs.Serial.{serial-is, serial-adjacent}
use Rattle.sunion.specs.Unions.{held_in, bucket_in}
use Rattle.law_buckets.specs.Series.{buckets_from}

-- whether a tuple lies in bucket k
abbrev pub is_in : ℕ → ℕ → Tuple → Bool
is_in w k t = nat_le (k * w) t.stime && nat_lt t.stime ((k + 1) * w)

-- all that a port holds
abbrev pub content : Reader → List Tuple
content r = r.stable ++ r.tentative

-- a bucket is cut out of all that the ports hold
pub bucket-cut : (w k : ℕ) (rs : List Reader) → bucket_held w rs k ≡ filter (lies_in w k) (serial (map content rs))
bucket-cut w k rs =
    ap serial (sym (map-map (λ (ts : List Tuple). filter (is_in w k) ts) content rs)) ∙ sym (serial-kept (is_in w k) (map content rs))

pub bucket-inside : (w k : ℕ) (rs : List Reader) → All (LiesIn w k) (bucket_held w rs k)
bucket-inside w k rs = rw (bucket-cut w k rs) (filter_passes (lies_in w k) (serial (map content rs)))

pub bucket-fits : (w k : ℕ) (rs : List Reader) → (k + 1) * w < 2 ^ 64 → FitsBucket w k (bucket_held w rs k)
bucket-fits w k rs fits =
    let ports = map (bucket_at w k) rs in
    record {
      bucket = record { inside = bucket-inside w k rs; ordered = serial-adjacent (serial ports) (serial-is ports) };
      end = fits;
    }

pub buckets-accepted : (w : ℕ) (x : Inputs) (k count : ℕ) → (k + count) * w < 2 ^ 64 → AcceptsAll (Some w) k (buckets_from w x k count)
buckets-accepted w x k zero h = tt
buckets-accepted w x k (suc n) h = (bucket-fits w k (held_in x) (omega (arith, h)), buckets-accepted w x (k + 1) n (omega (arith, h)))

-- so are buckets behind others
pub accepts-append : (w k : ℕ) (bs cs : List (List Tagged)) → AcceptsAll (Some w) k bs → AcceptsAll (Some w) (k + length bs) cs → AcceptsAll (Some w) k (bs ++ cs)
accepts-append w k [] cs h g = let none : k + 0 ≡ k = omega arith in rw none at g
accepts-append w k (b ∷ bs) cs h g =
    let more : k + suc (length bs) ≡ k + 1 + length bs = omega arith in
    (h.0, accepts-append w (k + 1) bs cs h.1 (rw more at g))

pub count-buckets : (w : ℕ) (x : Inputs) (k count : ℕ) → length (buckets_from w x k count) ≡ count
count-buckets w x k count = length-map-range_with_len (bucket_in w x) k count
