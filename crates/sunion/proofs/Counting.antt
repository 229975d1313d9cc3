-- Numbers over all ports, and all ports changed, one port more.
use Rattle.std.proofs.Common.{◌≡◌, ℕ, zero, suc, ◌+◌, ◌*◌, ◌/◌, ◌<◌, ◌≤◌, Bool, true, false, nat_lt, nat_le, ◌&&◌, ◌||◌, not, ◌-◌, max, if◌then◌else◌, Some, None, List, [], ◌∷◌, ◌++◌, map, take, drop, length, min, refl, sym, ap, ◌∙◌, arith, slice_index_or, slice_set}
use Rattle.std.proofs.lemmas.Bool.{ltb-true, ltb-false, lt-ltb, le-leb, leb-true}
use Rattle.std.proofs.lemmas.Grind.{common_steps}
use Rattle.std.proofs.Math.Nat.{le-div_iff_mul-le}
use Rattle.std.proofs.lemmas.Nat.{le-div}
use Rattle.dpc_lists.specs.Lists.{last_below, list_all}
use Rattle.dpc_model.specs.Due.{reach, is_reached}
use Rattle.dpc_model.specs.Inlets.{restarted_inlet}
use Rattle.dpc_model.specs.Reading.{Reader, stable_reader}
use Rattle.dpc_model.specs.PartStands.{InletValue}
use Rattle.dpc_lists.proofs.Places.{last-none}
use Rattle.sunion.specs.Ports.{least_over, begun_anew, forgetting, reached_at, complete_at, passing_inputs}

pub least_over-more : (f : InletValue → ℕ) (most : ℕ) (ports : List InletValue) (i : ℕ) (port : InletValue) → i < length ports → port ≡ slice_index_or ports i port →
    least_over f most (take (i + 1) ports) ≡ min (least_over f most (take i ports)) (f port)
least_over-more f most [] i port low e = absurd (omega (arith, low))
least_over-more f most (p ∷ ports) zero port low e = let same = ap f e in omega (arith, same)
least_over-more f most (p ∷ ports) (suc i) port low e =
    let next : suc i + 1 ≡ suc (i + 1) = omega arith in
    let rest = least_over-more f most ports i port (omega (arith, low)) e in
    rw next (omega (arith, rest))

pub least_over-within : (f : InletValue → ℕ) (most : ℕ) (ports : List InletValue) → least_over f most ports ≤ most
least_over-within f most [] = omega arith
least_over-within f most (p ∷ ports) = let rest = least_over-within f most ports in omega (arith, rest)

-- ---- so many ports changed

abbrev pub forgetting_to : ℕ → ℕ → List InletValue → List InletValue
forgetting_to time i ports = map (forgetting time) (take i ports) ++ drop i ports

pub forgetting-more : (time i : ℕ) (ports : List InletValue) (port d : InletValue) → i < length ports → port ≡ forgetting time (slice_index_or (forgetting_to time i ports) i d) →
    slice_set (forgetting_to time i ports) i port ≡ forgetting_to time (i + 1) ports
forgetting-more time i [] port d low e = absurd (omega (arith, low))
forgetting-more time zero (p ∷ ports) port d low e = rw e refl
forgetting-more time (suc i) (p ∷ ports) port d low e =
    let next : suc i + 1 ≡ suc (i + 1) = omega arith in
    rw next (ap (λ (ps : List InletValue). forgetting time p ∷ ps) (forgetting-more time i ports port d (omega (arith, low)) e))

-- one that did not forget yet is as it was
pub forgetting-yet : (time i : ℕ) (ports : List InletValue) (d : InletValue) → slice_index_or (forgetting_to time i ports) i d ≡ slice_index_or ports i d
forgetting-yet time zero ports d = refl
forgetting-yet time (suc i) [] d = refl
forgetting-yet time (suc i) (p ∷ ports) d = forgetting-yet time i ports d

pub forgetting-all : (time i : ℕ) (ports : List InletValue) → length ports ≤ i → forgetting_to time i ports ≡ map (forgetting time) ports
forgetting-all time zero [] h = refl
forgetting-all time (suc i) [] h = refl
forgetting-all time zero (p ∷ ports) h = absurd (omega (arith, h))
forgetting-all time (suc i) (p ∷ ports) h = ap (λ (ps : List InletValue). forgetting time p ∷ ps) (forgetting-all time i ports (omega (arith, h)))

-- one port more begins anew
pub anew-more : (time i : ℕ) (counts : List ℕ) (ports : List InletValue) (d e : InletValue) (n : ℕ) → i < length ports → length counts ≡ length ports →
    e ≡ record { count = slice_index_or counts i n; state = restarted_inlet (stable_reader [] time) (slice_index_or ports i d).state.sess } →
    begun_anew time (take (i + 1) counts) (take (i + 1) ports) ≡ begun_anew time (take i counts) (take i ports) ++ e ∷ []
anew-more time i counts [] d e n low many is = absurd (omega (arith, low))
anew-more time i [] (p ∷ ports) d e n low many is = absurd (omega (arith, many))
anew-more time zero (m ∷ counts) (p ∷ ports) d e n low many is = rw is refl
anew-more time (suc i) (m ∷ counts) (p ∷ ports) d e n low many is =
    let next : suc i + 1 ≡ suc (i + 1) = omega arith in
    rw next (ap (λ (vs : List InletValue). record { count = m; state = restarted_inlet (stable_reader [] time) p.state.sess } ∷ vs) (anew-more time i counts ports d e n (omega (arith, low)) (omega (arith, many)) is))

-- ---- the last number that passes a test

pub last-some : (test : ℕ → Bool) (n k : ℕ) → k < n → test k ≡ true → ((j : ℕ) → k < j → j < n → test j ≡ false) → last_below test n ≡ Some k
last-some test zero k low e h = absurd (omega (arith, low))
last-some test (suc n) k low e h =
    (elim (nat_lt k n) as (λ b. nat_lt k n ≡ b → last_below test (suc n) ≡ Some k) [
      | true ↦ λ more. let less = ltb-true k n more in rw (h n less (omega arith)) (last-some test n k less e (λ j up down. h j up (omega (arith, down))))
      | false ↦ λ more. let last : n ≡ k = let past = ltb-false k n more in omega (arith, past, low) in rw (last, e) refl
    ]) refl

-- ---- buckets that every port passes

below-div : (width k n : ℕ) → 0 < width → nat_le ((k + 1) * width) n ≡ nat_lt k (n / width)
below-div width k n some =
    (elim (nat_le ((k + 1) * width) n) as (λ b. nat_le ((k + 1) * width) n ≡ b → b ≡ nat_lt k (n / width)) [
      | true ↦ λ e. let more = le-div (k + 1) n width some (leb-true ((k + 1) * width) n e) in sym (lt-ltb k (n / width) (omega (arith, more)))
      | false ↦ λ e.
          (elim (nat_lt k (n / width)) as (λ b. nat_lt k (n / width) ≡ b → false ≡ b) [
            | true ↦ λ low.
                let less = ltb-true k (n / width) low in
                let all : (k + 1) * width ≤ n = (le-div_iff_mul-le {k = width} {x = k + 1} {y = n} some).0 (omega (arith, less)) in
                sym e ∙ le-leb ((k + 1) * width) n all
            | false ↦ λ low. refl
          ]) refl
    ]) refl

all-below : (f : InletValue → ℕ) (most k : ℕ) (ports : List InletValue) → k < most → list_all (λ (p : InletValue). nat_lt k (f p)) ports ≡ nat_lt k (least_over f most ports)
all-below f most k [] low = sym (lt-ltb k most low)
all-below f most k (p ∷ ports) low = let rest = all-below f most k ports low in rw rest (both (f p) (least_over f most ports))
  where
    both : (a b : ℕ) → (nat_lt k a && nat_lt k b) ≡ nat_lt k (min a b)
    both a b = grind (arith, common_steps)

reaching : (width k : ℕ) → 0 < width → (ports : List InletValue) → (f : Reader → ℕ) →
    list_all (λ (r : Reader). nat_le ((k + 1) * width) (f r)) (map (λ (i : InletValue). i.state.held) ports) ≡ list_all (λ (p : InletValue). nat_lt k (f p.state.held / width)) ports
reaching width k some [] f = refl
reaching width k some (p ∷ ports) f = rw (below-div width k (f p.state.held) some, reaching width k some ports f) refl

-- whether a bucket is reached, by the two counts
pub reached-by : (width buckets frontier : ℕ) (any_closed : Bool) (ports : List InletValue) (k : ℕ) → 0 < width → k < buckets →
    is_reached (passing_inputs width ports frontier any_closed) k
    ≡ (nat_le frontier k && nat_lt k (least_over (reached_at width) buckets ports) && (any_closed || not (nat_lt k (least_over (complete_at width) buckets ports))))
reached-by width buckets frontier any_closed ports k some low =
    rw (reaching width k some ports reach, reaching width k some ports (λ (r : Reader). r.bound), all-below (reached_at width) buckets k ports low, all-below (complete_at width) buckets k ports low) refl

-- the first bucket that can be the last reached one
abbrev pub passing_from : ℕ → ℕ → ℕ → Bool → List InletValue → ℕ
passing_from width buckets frontier any_closed ports = if any_closed then frontier else max frontier (least_over (complete_at width) buckets ports)

pub reached-last : (width buckets frontier : ℕ) (any_closed : Bool) (ports : List InletValue) → 0 < width →
    passing_from width buckets frontier any_closed ports < least_over (reached_at width) buckets ports →
    last_below (is_reached (passing_inputs width ports frontier any_closed)) buckets ≡ Some (least_over (reached_at width) buckets ports - 1)
reached-last width buckets frontier any_closed ports some h =
    let end = least_over (reached_at width) buckets ports in
    let complete = least_over (complete_at width) buckets ports in
    let within : end ≤ buckets = least_over-within (reached_at width) buckets ports in
    last-some (is_reached (passing_inputs width ports frontier any_closed)) buckets (end - 1) (omega (arith, within, h))
    (reached-by width buckets frontier any_closed ports (end - 1) some (omega (arith, within, h)) ∙ here end complete frontier any_closed h)
    (λ j up down. reached-by width buckets frontier any_closed ports j some down ∙ past end complete frontier j any_closed (omega (arith, up)))
  where
    here : (end complete frontier : ℕ) (any : Bool) → (if any then frontier else max frontier complete) < end →
        (nat_le frontier (end - 1) && nat_lt (end - 1) end && (any || not (nat_lt (end - 1) complete))) ≡ true
    here end complete frontier true h = grind (arith, common_steps, h)
    here end complete frontier false h = grind (arith, common_steps, h)

    past : (end complete frontier j : ℕ) (any : Bool) → end ≤ j → (nat_le frontier j && nat_lt j end && (any || not (nat_lt j complete))) ≡ false
    past end complete frontier j any h = grind (arith, common_steps, h)

pub reached-none : (width buckets frontier : ℕ) (any_closed : Bool) (ports : List InletValue) → 0 < width →
    least_over (reached_at width) buckets ports ≤ passing_from width buckets frontier any_closed ports →
    last_below (is_reached (passing_inputs width ports frontier any_closed)) buckets ≡ None
reached-none width buckets frontier any_closed ports some h =
    last-none (is_reached (passing_inputs width ports frontier any_closed)) buckets
    (λ k low. reached-by width buckets frontier any_closed ports k some low ∙ none (least_over (reached_at width) buckets ports) (least_over (complete_at width) buckets ports) frontier k any_closed h)
  where
    none : (end complete frontier k : ℕ) (any : Bool) → end ≤ (if any then frontier else max frontier complete) → (nat_le frontier k && nat_lt k end && (any || not (nat_lt k complete))) ≡ false
    none end complete frontier k true h = grind (arith, common_steps, h)
    none end complete frontier k false h = grind (arith, common_steps, h)
