-- Complete buckets are those of the stable tuples, and the inputs that are processed go on by them.
use Rattle.std.proofs.Common.{◌≡◌, ℕ, zero, suc, ◌+◌, ◌*◌, ◌/◌, ◌<◌, ◌≤◌, Bool, nat_le, ◌&&◌, List, [], ◌∷◌, ◌++◌, map, refl, sym, ◌∙◌, ap, arith, All, append-nil, append_assoc}
use Rattle.std.proofs.lemmas.Grind.{common_steps}
use Rattle.std.proofs.lemmas.List.Elements.{filter-append, recursion_from_All}
use Rattle.std.proofs.lemmas.Simd.{map-map}
use Rattle.std.proofs.Math.Nat.{le-div_iff_mul-le}
use Rattle.std.specs.List.{filter, AllByRecursion}
use Rattle.dpc_lists.specs.Lists.{least}
use Rattle.dpc_model.specs.Streams.{IsOrdered, is_below, cut}
use Rattle.dpc_model.specs.Operators.{all_of}
use Rattle.dpc_model.specs.Engines.{lies_in}
use Rattle.dpc_model.specs.Fragments.{serial, tagged_from, cut_tagged}
use Rattle.dpc_model.specs.Inlets.{InletState}
use Rattle.dpc_model.specs.Parts.{Inputs, processed, bucket_at, ArePastBounds}
use Rattle.dpc_model.specs.Reading.{Reader}
use Rattle.dpc_model.specs.declared.tuples.Tuple.{Tuple}
use Rattle.dpc_model.specs.declared.tuples.Tagged.{Tagged}
use Rattle.dpc_model.proofs.Causality.{IsOrdered-sort}
use Rattle.dpc_model.proofs.Cuts.{ordered-split}
use Rattle.dpc_model.proofs.Kept.{serial-kept}
use Rattle.dpc_model.proofs.Order.{IsOrdered-filter, tagged_time}
use Rattle.dpc_model.proofs.WindowCausality.{filter-implied}
use Rattle.sunion.specs.Unions.{held_in, bucket_in, complete_upto_in}
use Rattle.law_buckets.specs.Series.{buckets_from}
use Rattle.law_buckets.proofs.Accepted.{is_in}

-- ---- which ports reach the end of a bucket

-- a number that is at most the least is reached by each port
pub least-reached : (w c : ℕ) (rs : List Reader) → 0 < w → c ≤ least 0 (map (λ (r : Reader). r.bound / w) rs) → AllByRecursion (λ (r : Reader). c * w ≤ r.bound) rs
least-reached w c [] pos h = tt
least-reached w c (r ∷ []) pos h = ((le-div_iff_mul-le {k = w} {x = c} {y = r.bound} pos).0 h, tt)
least-reached w c (r ∷ q ∷ rs) pos h =
    let others = least 0 (map (λ (s : Reader). s.bound / w) (q ∷ rs)) in
    let first : c ≤ r.bound / w = omega (arith, h) in
    let rest : c ≤ others = omega (arith, h) in
    ((le-div_iff_mul-le {k = w} {x = c} {y = r.bound} pos).0 first, least-reached w c (q ∷ rs) pos rest)

-- ---- one bucket

none-in : (w k b : ℕ) (ts : List Tuple) → (k + 1) * w ≤ b → AllByRecursion (λ (t : Tuple). b ≤ t.stime) ts → filter (is_in w k) ts ≡ []
none-in w k b [] h late = refl
none-in w k b (t ∷ ts) h late = grind (arith, common_steps, late.0, none-in w k b ts h late.1)

-- at a port that goes as far no tentative tuple lies in the bucket
stable-at : (w k : ℕ) (r : Reader) → (k + 1) * w ≤ r.bound → AllByRecursion (λ (t : Tuple). r.bound ≤ t.stime) r.tentative → bucket_at w k r ≡ filter (is_in w k) r.stable
stable-at w k r h late = filter-append (is_in w k) r.stable r.tentative ∙ rw (none-in w k r.bound r.tentative h late) (append-nil (filter (is_in w k) r.stable))

-- the stable tuples by port
abbrev pub stable_in : List InletState → List (List Tuple)
stable_in inlets = map (λ (i : InletState). i.held.stable) inlets

stable-buckets : (w k : ℕ) (inlets : List InletState) → AllByRecursion (λ (r : Reader). (k + 1) * w ≤ r.bound) (map (λ (i : InletState). i.held) inlets) →
    AllByRecursion (λ (i : InletState). All (λ (t : Tuple). i.held.bound ≤ t.stime) i.held.tentative) inlets →
    map (bucket_at w k) (map (λ (i : InletState). i.held) inlets) ≡ map (λ (ts : List Tuple). filter (is_in w k) ts) (stable_in inlets)
stable-buckets w k [] h late = refl
stable-buckets w k (i ∷ inlets) h late =
    let here = stable-at w k i.held h.0 (recursion_from_All (λ (t : Tuple). i.held.bound ≤ t.stime) i.held.tentative late.0) in
    rw here (ap (λ (tss : List (List Tuple)). filter (is_in w k) i.held.stable ∷ tss) (stable-buckets w k inlets h.1 late.1))

-- all stable inputs
abbrev pub stable_inputs : Inputs → List Tagged
stable_inputs x = serial (stable_in x.inlets)

pub complete-bucket : (w : ℕ) (x : Inputs) (k : ℕ) → 0 < w → ArePastBounds x → k + 1 ≤ complete_upto_in w x → bucket_in w x k ≡ filter (lies_in w k) (stable_inputs x)
complete-bucket w x k pos past h =
    let late = recursion_from_All (λ (i : InletState). All (λ (t : Tuple). i.held.bound ≤ t.stime) i.held.tentative) x.inlets past in
    ap serial (stable-buckets w k x.inlets (least-reached w (k + 1) (held_in x) pos h) late) ∙ sym (serial-kept (is_in w k) (stable_in x.inlets))

-- ---- inputs in order of time, cut at the ends of buckets

-- two tests one after the other are both at once
pub filter-both : {X : Type 0} (p q : X → Bool) (xs : List X) → filter p (filter q xs) ≡ filter (λ x. p x && q x) xs
filter-both p q [] = refl
filter-both p q (x ∷ xs) = grind (arith, common_steps, filter-both p q xs)

-- behind the inputs below a bucket stand those of the bucket
pub cut-next : (w k : ℕ) (xs : List Tagged) → IsOrdered tagged_time xs → cut_tagged (k * w) xs ++ filter (lies_in w k) xs ≡ cut_tagged ((k + 1) * w) xs
cut-next w k xs o =
    let later : k * w ≤ (k + 1) * w = omega arith in
    let upto = cut_tagged ((k + 1) * w) xs in
    let early : cut_tagged (k * w) upto ≡ cut_tagged (k * w) xs =
    filter-implied (λ (x : Tagged). is_below (k * w) x.tuple) (λ (x : Tagged). is_below ((k + 1) * w) x.tuple) (λ x e. grind (arith, common_steps, later)) xs in
    let late = filter-both (λ (x : Tagged). nat_le (k * w) x.tuple.stime) (λ (x : Tagged). is_below ((k + 1) * w) x.tuple) xs in
    sym (ordered-split tagged_time (k * w) upto (IsOrdered-filter tagged_time (λ (x : Tagged). is_below ((k + 1) * w) x.tuple) xs o) ∙ rw (early, late) refl)

-- ---- the inputs that are processed

pub stable-ordered : (x : Inputs) → IsOrdered tagged_time (stable_inputs x)
stable-ordered x = IsOrdered-sort tagged_time (tagged_from 0 (stable_in x.inlets))

-- they are cut out of all stable ones
pub processed-cut : (w : ℕ) (x : Inputs) → processed w x ≡ cut_tagged (x.cursor * w) (stable_inputs x)
processed-cut w x =
    ap serial (sym (map-map (λ (ts : List Tuple). cut ts (x.cursor * w)) (λ (i : InletState). i.held.stable) x.inlets))
    ∙ sym (serial-kept (is_below (x.cursor * w)) (stable_in x.inlets))

-- complete buckets go on where the inputs below them end
pub complete-next : (w : ℕ) (x : Inputs) (k count : ℕ) → 0 < w → ArePastBounds x → k + count ≤ complete_upto_in w x →
    cut_tagged (k * w) (stable_inputs x) ++ all_of (buckets_from w x k count) ≡ cut_tagged ((k + count) * w) (stable_inputs x)
complete-next w x k zero pos past h = let none : k + 0 ≡ k = omega arith in rw none (append-nil (cut_tagged (k * w) (stable_inputs x)))
complete-next w x k (suc n) pos past h =
    let xs = stable_inputs x in
    let number : k + 1 + n ≡ k + suc n = omega arith in
    let behind = all_of (buckets_from w x (k + 1) n) in
    let first : cut_tagged (k * w) xs ++ bucket_in w x k ≡ cut_tagged ((k + 1) * w) xs =
    ap (λ (ys : List Tagged). cut_tagged (k * w) xs ++ ys) (complete-bucket w x k pos past (omega (arith, h))) ∙ cut-next w k xs (stable-ordered x) in
    sym (append_assoc (cut_tagged (k * w) xs) (bucket_in w x k) behind)
    ∙ ap (λ (ys : List Tagged). ys ++ behind) first
    ∙ complete-next w x (k + 1) n pos past (omega (arith, h))
    ∙ ap (λ (m : ℕ). cut_tagged (m * w) xs) number
