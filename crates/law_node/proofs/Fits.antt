-- Fit inputs can be processed, and stay fit.
use Rattle.std.proofs.Common.{◌≡◌, ℕ, zero, suc, ◌+◌, ◌-◌, ◌*◌, ◌/◌, ◌^◌, ◌<◌, ◌≤◌, Bool, true, false, not, ◌&&◌, ◌||◌, nat_lt, nat_le, min, List, [], ◌∷◌, ◌++◌, map, length, refl, sym, ap, subst, ◌∙◌, arith, All, ◌⊎◌, inl, inr, Some}
use Rattle.std.proofs.lemmas.Grind.{common_steps}
use Rattle.std.proofs.lemmas.List.Elements.{All-from_recursion, recursion_from_All}
use Rattle.std.proofs.Math.Nat.{div-mul-le_self}
use Rattle.std.proofs.lemmas.Nat.{le-div}
use Rattle.std.proofs.lemmas.List.{length-append}
use Rattle.std.specs.List.{AllByRecursion}
use Rattle.std.specs.Prelude.{if◌then◌else◌}
use Rattle.dpc_lists.specs.Lists.{is_nil, least, last_below, list_all}
use Rattle.dpc_model.specs.Reading.{Reader}
use Rattle.dpc_model.specs.Due.{DueInputs, reach, stamp_of, waited_long, is_complete, is_overdue, is_reached, last_due}
use Rattle.dpc_model.specs.Inlets.{InletState}
use Rattle.dpc_model.specs.Parts.{Inputs, frontier_of}
use Rattle.dpc_model.specs.declared.tuples.Tagged.{Tagged}
use Rattle.dpc_lists.proofs.Truths.{true-not-false}
use Rattle.dpc_model.proofs.Numbers.{times-le}
use Rattle.dpc_model.specs.Engines.{AcceptsAll}
use Rattle.sunion.specs.Unions.{held_in, complete_upto_in, after_advancing}
use Rattle.law_buckets.specs.Series.{buckets_from, AreReady, CanClose}
use Rattle.law_buckets.proofs.Accepted.{buckets-accepted, accepts-append, count-buckets}
use Rattle.law_buckets.proofs.Complete.{least-reached}
use Rattle.pipeline.specs.Flowing.{count_upto, stably_upto, after_processing}
use Rattle.node_model.specs.Fitting.{AreFitInputs}

-- ---- how far the ports are known

reached-each : (w c : ℕ) (inlets : List InletState) → AllByRecursion (λ (r : Reader). c * w ≤ r.bound) (map (λ (i : InletState). i.held) inlets) →
    AllByRecursion (λ (i : InletState). c * w ≤ i.held.bound) inlets
reached-each w c [] h = h
reached-each w c (i ∷ inlets) h = (h.0, reached-each w c inlets h.1)

-- a bucket up to which all are complete ends at or before every bound
pub complete-reached : (w c : ℕ) (x : Inputs) → 0 < w → c ≤ complete_upto_in w x → All (λ (i : InletState). c * w ≤ i.held.bound) x.inlets
complete-reached w c x pos h =
    All-from_recursion (λ (i : InletState). c * w ≤ i.held.bound) x.inlets (reached-each w c x.inlets (least-reached w c (held_in x) pos h))

ends-first : (w c end : ℕ) (inlets : List InletState) → c ≤ least 0 (map (λ (r : Reader). r.bound / w) (map (λ (i : InletState). i.held) inlets)) →
    AllByRecursion (λ (i : InletState). c * w ≤ i.held.bound) inlets → AllByRecursion (λ (i : InletState). i.held.bound ≤ end) inlets → c * w ≤ end
ends-first w c end [] low reached within =
    let none : c ≡ 0 = omega (arith, low) in
    let zero : c * w ≡ 0 = ap (λ (k : ℕ). k * w) none ∙ (omega arith) in omega (arith, zero)
ends-first w c end (i ∷ inlets) low reached within = let a = reached.0 in let b = within.0 in omega (arith, a, b)

-- and within the run
pub complete-ends : (w buckets end c : ℕ) (x : Inputs) → 0 < w → AreFitInputs w buckets end x → c ≤ complete_upto_in w x → c * w ≤ end
complete-ends w buckets end c x pos fit h =
    ends-first w c end x.inlets h (recursion_from_All (λ (i : InletState). c * w ≤ i.held.bound) x.inlets (complete-reached w c x pos h))
    (recursion_from_All (λ (i : InletState). i.held.bound ≤ end) x.inlets fit.within)

-- ---- ready buckets

pub are-ready : (w buckets end count : ℕ) (x : Inputs) → 0 < w → end < 2 ^ 63 → AreFitInputs w buckets end x → x.closed ≡ [] → x.cursor + count ≤ complete_upto_in w x → AreReady w x count
are-ready w buckets end count x pos low fit none complete =
    let ends = complete-ends w buckets end (x.cursor + count) x pos fit complete in
    record { ordered = fit.ordered; past = fit.past; none_closed = none; complete = complete; end = omega (arith, ends, low) }

-- some bucket is ready only where none is closed
pub some-ready : (x : Inputs) (w count : ℕ) → 1 ≤ count → count ≤ (if is_nil x.closed then complete_upto_in w x - x.cursor else 0) → (x.closed ≡ []) × (x.cursor + count ≤ complete_upto_in w x)
some-ready x w count some h =
    (elim x.closed as (λ (bs : List (List Tagged)). count ≤ (if is_nil bs then complete_upto_in w x - x.cursor else 0) → (bs ≡ []) × (x.cursor + count ≤ complete_upto_in w x)) [
      | [] ↦ λ few. (refl, omega (arith, some, few))
      | b ∷ bs ↦ λ few. absurd (omega (arith, some, few))
    ]) h

pub fit-advanced : (w buckets end count : ℕ) (x : Inputs) → 0 < w → buckets ≡ end / w → AreFitInputs w buckets end x → x.closed ≡ [] → x.cursor + count ≤ complete_upto_in w x →
    AreFitInputs w buckets end (after_advancing count x)
fit-advanced w buckets end count x pos many fit none complete =
    let ends = complete-ends w buckets end (x.cursor + count) x pos fit complete in
    let low = le-div (x.cursor + count) end w pos ends in
    let no_more : length x.closed ≡ 0 = ap length none in
    record {
      ordered = fit.ordered;
      past = fit.past;
      reached = complete-reached w (x.cursor + count) x pos complete;
      within = fit.within;
      placed = subst (λ (bs : List (List Tagged)). AcceptsAll (Some w) (x.cursor + count) bs) (sym none) tt;
      frontier = omega (arith, low, many, no_more);
    }

-- ---- buckets up to a last one

-- no bucket is processed stably, or none is closed and those are complete
abbrev Splits : ℕ → Inputs → ℕ → Type 0
Splits w x r = (r ≡ 0) ⊎ ((x.closed ≡ []) × (x.cursor + r ≤ complete_upto_in w x))

split-open : (count complete cursor : ℕ) → (min count (complete - cursor) ≡ 0) ⊎ (cursor + min count (complete - cursor) ≤ complete)
split-open count complete cursor =
    (elim (nat_lt cursor complete) as (λ (b : Bool). nat_lt cursor complete ≡ b → (min count (complete - cursor) ≡ 0) ⊎ (cursor + min count (complete - cursor) ≤ complete)) [
      | true ↦ λ e. inr (grind (arith, common_steps, e))
      | false ↦ λ e. inl (grind (arith, common_steps, e))
    ]) refl

splits : (w last : ℕ) (x : Inputs) → Splits w x (stably_upto w last x)
splits w last x =
    (elim x.closed as (λ (bs : List (List Tagged)). let r = min (count_upto last x) (if is_nil bs then complete_upto_in w x - x.cursor else 0) in (r ≡ 0) ⊎ ((bs ≡ []) × (x.cursor + r ≤ complete_upto_in w x))) [
      | [] ↦ (elim (split-open (count_upto last x) (complete_upto_in w x) x.cursor) [ inl h ↦ inl h | inr h ↦ inr (refl, h) ])
      | b ∷ bs ↦ inl (omega arith)
    ])

-- the end of the last bucket
closing-ends : (w buckets end last : ℕ) → buckets ≡ end / w → last < buckets → (last + 1) * w ≤ end
closing-ends w buckets end last many h =
    let whole : end / w * w ≤ end = div-mul-le_self end w in
    let low : last + 1 ≤ end / w = omega (arith, h, many) in
    let fits : (last + 1) * w ≤ end / w * w = times-le (last + 1) (end / w) w low in
    omega (arith, fits, whole)

few-stably : (w last : ℕ) (x : Inputs) → stably_upto w last x ≤ count_upto last x
few-stably w last x = let most = (if is_nil x.closed then complete_upto_in w x - x.cursor else 0) in grind (arith, common_steps)

-- behind all of them the frontier stands behind the last one
view-behind : (w last : ℕ) (x : Inputs) → frontier_of x ≤ last →
    x.cursor + stably_upto w last x + length x.closed + (count_upto last x - stably_upto w last x) ≡ last + 1
view-behind w last x frontier = let few = few-stably w last x in omega (arith, few, frontier)

placed-behind : (w last buckets end : ℕ) (x : Inputs) → AreFitInputs w buckets end x → AcceptsAll (Some w) (x.cursor + stably_upto w last x) x.closed
placed-behind w last buckets end x fit =
    (elim (splits w last x) [
      | inl h ↦ let same : x.cursor ≡ x.cursor + stably_upto w last x = omega (arith, h) in subst (λ (k : ℕ). AcceptsAll (Some w) k x.closed) same fit.placed
      | inr h ↦ subst (λ (bs : List (List Tagged)). AcceptsAll (Some w) (x.cursor + stably_upto w last x) bs) (sym h.0) tt
    ])

-- so many buckets can be closed behind those that are processed stably
pub can-close : (w buckets end last : ℕ) (x : Inputs) → buckets ≡ end / w → end < 2 ^ 63 → AreFitInputs w buckets end x → frontier_of x ≤ last → last < buckets →
    CanClose w (after_advancing (stably_upto w last x) x) (count_upto last x - stably_upto w last x)
can-close w buckets end last x many low fit frontier below =
    let ends = closing-ends w buckets end last many below in
    let behind : (frontier_of (after_advancing (stably_upto w last x) x) + (count_upto last x - stably_upto w last x)) * w ≡ (last + 1) * w = ap (λ (k : ℕ). k * w) (view-behind w last x frontier) in
    record { ordered = fit.ordered; placed = placed-behind w last buckets end x fit; end = omega (arith, behind, ends, low) }

-- the ones before are ready
pub can-advance : (w buckets end last : ℕ) (x : Inputs) → 0 < w → end < 2 ^ 63 → AreFitInputs w buckets end x → 0 < stably_upto w last x → AreReady w x (stably_upto w last x)
can-advance w buckets end last x pos low fit some =
    (elim (splits w last x) [
      | inl h ↦ absurd (omega (arith, h, some))
      | inr h ↦ are-ready w buckets end (stably_upto w last x) x pos low fit h.0 h.1
    ])

-- and the inputs behind them fit
pub fit-processed : (w buckets end last : ℕ) (x : Inputs) → 0 < w → buckets ≡ end / w → end < 2 ^ 63 → AreFitInputs w buckets end x → frontier_of x ≤ last → last < buckets →
    AreFitInputs w buckets end (after_processing w last x)
fit-processed w buckets end last x pos many low fit frontier below =
    let r = stably_upto w last x in
    let y = after_advancing r x in
    let more = buckets_from w y (frontier_of y) (count_upto last x - r) in
    let closing = can-close w buckets end last x many low fit frontier below in
    let count : length (x.closed ++ more) ≡ length x.closed + (count_upto last x - r) = length-append x.closed more ∙ ap (λ (k : ℕ). length x.closed + k) (count-buckets w y (frontier_of y) (count_upto last x - r)) in
    let behind = view-behind w last x frontier in
    record {
      ordered = fit.ordered;
      past = fit.past;
      reached = reached;
      within = fit.within;
      placed = accepts-append w (x.cursor + r) x.closed more closing.placed (buckets-accepted w y (frontier_of y) (count_upto last x - r) closing.end);
      frontier = omega (arith, count, behind, below);
    }
  where
    reached : All (λ (i : InletState). (x.cursor + stably_upto w last x) * w ≤ i.held.bound) x.inlets
    reached =
        (elim (splits w last x) [
          | inl h ↦ let same : x.cursor ≡ x.cursor + stably_upto w last x = omega (arith, h) in subst (λ (k : ℕ). All (λ (i : InletState). k * w ≤ i.held.bound) x.inlets) same fit.reached
          | inr h ↦ complete-reached w (x.cursor + stably_upto w last x) x pos h.1
        ])

-- ---- a bucket that is due

due-inside : (test : ℕ → Bool) (n last : ℕ) → last_below test n ≡ Some last → (last < n) × (test last ≡ true)
due-inside test zero last e = cc
due-inside test (suc n) last e =
    (elim (test n) as (λ (b : Bool). test n ≡ b → (if b then Some n else last_below test n) ≡ Some last → (last < suc n) × (test last ≡ true)) [
      | true ↦ λ t h. let same : n ≡ last = some-inner h in (omega (arith, same), subst (λ (k : ℕ). test k ≡ true) same t)
      | false ↦ λ t h. let rest = due-inside test n last h in let low = rest.0 in (omega (arith, low), rest.1)
    ]) refl e
  where
    some-inner : {X : Type 0} {x y : X} → Some x ≡ Some y → x ≡ y
    some-inner e = cc

none-at : (p waits reaches turn : Bool) → (false && waits || (p && false && reaches && turn)) ≡ true → true ≡ false
none-at true waits reaches turn e = sym e
none-at false waits reaches turn e = sym e

-- it lies at or past the frontier, and within the run
pub due-lies : (v : DueInputs) (now buckets last : ℕ) → last_due v now buckets ≡ Some last → (v.frontier ≤ last) × (last < buckets)
due-lies v now buckets last e =
    let found = due-inside (λ k. is_overdue v now k || is_reached v k) buckets last e in
    let waits = waited_long (stamp_of v.stamps last) v.delay now in
    let reaches = list_all (λ (r : Reader). nat_le ((last + 1) * v.width) (reach r)) v.ports in
    let turn = v.any_closed || not (is_complete v.width v.ports last) in
    let frontier = (elim (nat_le v.frontier last) as (λ (b : Bool). nat_le v.frontier last ≡ b → (b && waits || (v.passing && b && reaches && turn)) ≡ true → v.frontier ≤ last) [
      | true ↦ λ c h. grind (arith, common_steps, c)
      | false ↦ λ c h. absurd (true-not-false (none-at v.passing waits reaches turn h))
    ]) refl found.1 in
    (frontier, found.0)
