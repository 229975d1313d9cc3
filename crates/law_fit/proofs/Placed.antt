-- Closed buckets that stand in their places are accepted in their turn.
use Rattle.std.proofs.Common.{◌≡◌, ℕ, ◌+◌, ◌*◌, ◌/◌, ◌^◌, ◌<◌, ◌≤◌, true, ◌&&◌, List, [], ◌∷◌, length, arith, Some}
use Rattle.std.proofs.Math.Nat.{div-mul-le_self}
use Rattle.std.specs.List.{enumerate_from}
use Rattle.dpc_lists.specs.Lists.{list_all}
use Rattle.dpc_model.specs.Engines.{lies_in, LiesIn, is_serial, FitsBucket, AcceptsAll}
use Rattle.dpc_model.specs.declared.tuples.Tagged.{Tagged}
use Rattle.dpc_model.proofs.Serial.{serial-adjacent}
use Rattle.world_model.specs.Orderly.{fits_port}
use Rattle.dpc_lists.proofs.Truths.{both}
use Rattle.dpc_model.proofs.Numbers.{times-le}
use Rattle.law_safety.proofs.Closing.{is_placed}
use Rattle.law_fit.proofs.Readers.{all-of}

-- a bucket of the run ends by its end
pub bucket-ends : (w end k : ℕ) → k ≤ end / w → k * w ≤ end
bucket-ends w end k low =
    let whole : end / w * w ≤ end = div-mul-le_self end w in
    let fits : k * w ≤ end / w * w = times-le k (end / w) w low in
    omega (arith, fits, whole)

placed-fits : (w : ℕ) (cs : List ℕ) (c i k : ℕ) (b : List Tagged) → c + i ≡ k → (k + 1) * w < 2 ^ 64 → is_placed w cs c (i, b) ≡ true → FitsBucket w k b
placed-fits w cs c i k b at ends h =
    let outer = both (list_all (lies_in w (c + i)) b && is_serial b) (list_all (fits_port cs) b) h in
    let inner = both (list_all (lies_in w (c + i)) b) (is_serial b) outer.0 in
    record {
      bucket = record {
        inside = all-of (lies_in w k) (LiesIn w k) b (λ x e. e) (rw at at inner.0);
        ordered = serial-adjacent b inner.1;
      };
      end = ends;
    }

pub placed-accepted : (w : ℕ) (cs : List ℕ) (c i k end : ℕ) (closed : List (List Tagged)) → c + i ≡ k → end < 2 ^ 63 → k + length closed ≤ end / w →
    list_all (is_placed w cs c) (enumerate_from i closed) ≡ true → AcceptsAll (Some w) k closed
placed-accepted w cs c i k end [] at low few h = tt
placed-accepted w cs c i k end (b ∷ closed) at low few h =
    let p = both (is_placed w cs c (i, b)) (list_all (is_placed w cs c) (enumerate_from (i + 1) closed)) h in
    let ends = bucket-ends w end (k + 1) (omega (arith, few)) in
    (placed-fits w cs c i k b at (omega (arith, ends, low)) p.0, placed-accepted w cs c (i + 1) (k + 1) end closed (omega (arith, at)) low (omega (arith, few)) p.1)
