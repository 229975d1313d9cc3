-- A mill over the failure-free inputs of a fragment, one bucket more.
use Rattle.std.proofs.Common.{◌≡◌, ℕ, ◌+◌, ◌*◌, ◌/◌, ◌<◌, ◌≤◌, List, [], ◌∷◌, ◌++◌, map, refl, sym, ◌∙◌, ap, subst, arith, nat_le, Some}
use Rattle.std.specs.Prelude.{slice_get}
use Rattle.std.proofs.Math.Nat.{le-div_iff_mul-le}
use Rattle.std.proofs.lemmas.Grind.{common_steps}
use Rattle.dpc_model.specs.Streams.{IsOrdered, is_below, cut}
use Rattle.dpc_model.specs.Engines.{IsBucket, FitsBucket, from_time, engine_value, added_output, nameless}
use Rattle.dpc_model.specs.Fragments.{serial, tagged_from, cut_tagged, ideal, AreSoundOps}
use Rattle.dpc_model.specs.declared.tuples.Tuple.{Tuple}
use Rattle.dpc_model.specs.declared.tuples.Tagged.{Tagged}
use Rattle.dpc_model.specs.declared.operators.OpSpec.{OpSpec}
use Rattle.dpc_model.specs.declared.plans.FragSpec.{FragSpec}
use Rattle.dpc_model.specs.declared.plans.Plan.{Plan}
use Rattle.dpc_model.specs.declared.plans.StreamRef.{StreamRef}
use Rattle.dpc_model.specs.declared.plans.StreamRef.TheVariants.{Frag}
use Rattle.dpc_model.proofs.Buckets.{from_tagged, added-is, inputs-ordered, nameless-value, cut-inside}
use Rattle.dpc_model.proofs.Causality.{filter-filter, IsOrdered-sort}
use Rattle.dpc_model.proofs.IdealCausality.{cut-fragment_value}
use Rattle.dpc_model.proofs.WindowCausality.{filter-implied}
use Rattle.dpc_model.proofs.Order.{IsOrdered-filter, tagged_time, fragment-InOrder}
use Rattle.dpc_model.proofs.Cuts.{none-below, ordered-split, none_below-zero}
use Rattle.dpc_model.proofs.Kept.{serial-kept}
use Rattle.dpc_model.proofs.Serial.{serial-is, serial-adjacent}
use Rattle.fragment_mill.specs.Mills.{MillState, specs_of, MillAfter}
use Rattle.ideal_run.specs.Buckets.{bucket_of, IsMillAt}
use Rattle.ideal_run.specs.IdealPlans.{IsIdealPlan}
use Rattle.ideal_run.proofs.Streams.{ideal-value, sound-ops}

-- ---- the inputs of a bucket

module _ (w k : ℕ) (ports : List (List Tuple)) where
  abbrev xs : List Tagged
  xs = serial ports

  ordered : IsOrdered tagged_time xs
  ordered = IsOrdered-sort tagged_time (tagged_from 0 ports)

  later : k * w ≤ (k + 1) * w
  later = grind (arith, common_steps)

  abbrev own : List (List Tuple)
  own = map (λ (ts : List Tuple). cut ts ((k + 1) * w)) (map (λ (ts : List Tuple). from_time (k * w) ts) ports)

  -- those of each port, gathered
  pub bucket-own : cut_tagged ((k + 1) * w) (from_tagged (k * w) xs) ≡ serial own
  bucket-own =
      ap (λ (ys : List Tagged). cut_tagged ((k + 1) * w) ys) (serial-kept (λ (t : Tuple). nat_le (k * w) t.stime) ports)
      ∙ serial-kept (is_below ((k + 1) * w)) (map (λ (ts : List Tuple). from_time (k * w) ts) ports)

  -- they are serial
  pub bucket-is : IsBucket w k (cut_tagged ((k + 1) * w) (from_tagged (k * w) xs))
  bucket-is = record { inside = cut-inside w k xs; ordered = rw bucket-own (serial-adjacent (serial own) (serial-is own)) }

  -- and go on where the inputs before them end
  pub bucket-next : cut_tagged (k * w) xs ++ cut_tagged ((k + 1) * w) (from_tagged (k * w) xs) ≡ cut_tagged ((k + 1) * w) xs
  bucket-next =
      let below = λ (b : ℕ) (x : Tagged). is_below b x.tuple in
      let early : cut_tagged (k * w) (cut_tagged ((k + 1) * w) xs) ≡ cut_tagged (k * w) xs =
      filter-implied (below (k * w)) (below ((k + 1) * w)) (λ x e. grind (arith, common_steps, later)) xs in
      ap (λ (ys : List Tagged). ys ++ cut_tagged ((k + 1) * w) (from_tagged (k * w) xs)) (sym early)
      ∙ ap (λ (ys : List Tagged). cut_tagged (k * w) (cut_tagged ((k + 1) * w) xs) ++ ys)
      (filter-filter (below ((k + 1) * w)) (λ (x : Tagged). nat_le (k * w) x.tuple.stime) xs)
      ∙ sym (ordered-split tagged_time (k * w) (cut_tagged ((k + 1) * w) xs) (IsOrdered-filter tagged_time (below ((k + 1) * w)) xs ordered))

-- ---- a fragment of a plan

-- the failure-free inputs of a fragment
abbrev pub inputs_of : Plan → FragSpec → List (List Tuple)
inputs_of plan f = map (ideal plan) f.inputs

-- those below bucket k
abbrev pub inputs_below : Plan → FragSpec → ℕ → List Tagged
inputs_below plan f k = cut_tagged (k * plan.width) (serial (inputs_of plan f))

-- those of bucket k
abbrev pub bucket_in : Plan → FragSpec → ℕ → List Tagged
bucket_in plan f k = cut_tagged ((k + 1) * plan.width) (from_tagged (k * plan.width) (serial (inputs_of plan f)))

buckets-of : (plan : Plan) (k : ℕ) (ss : List StreamRef) →
    map (λ (ts : List Tuple). cut ts ((k + 1) * plan.width)) (map (λ (ts : List Tuple). from_time (k * plan.width) ts) (map (ideal plan) ss)) ≡ map (bucket_of plan k) ss
buckets-of plan k [] = refl
buckets-of plan k (s ∷ ss) = ap (λ (tss : List (List Tuple)). bucket_of plan k s ∷ tss) (buckets-of plan k ss)

-- what was gathered of the streams that it reads
pub gathered-is : (plan : Plan) (f : FragSpec) (k : ℕ) → serial (map (bucket_of plan k) f.inputs) ≡ bucket_in plan f k
gathered-is plan f k = ap serial (sym (buckets-of plan k f.inputs)) ∙ sym (bucket-own plan.width k (inputs_of plan f))

sound-nameless : (ops : List OpSpec) → AreSoundOps ops → AreSoundOps (nameless ops)
sound-nameless [] h = tt
sound-nameless (op ∷ ops) h = (h.0, sound-nameless ops h.1)

-- before bucket 0
pub mill-none : (plan : Plan) (f : FragSpec) (m : MillState) → m.width ≡ plan.width → specs_of m.stages ≡ nameless f.ops → MillAfter m [] 0 → IsMillAt plan f 0 m
mill-none plan f m width operators after =
    let zero-time : 0 * plan.width ≡ 0 = omega arith in
    let before = none-below tagged_time 0 0 (serial (inputs_of plan f)) (omega arith) (none_below-zero tagged_time (serial (inputs_of plan f))) in
    record { width = width; operators = operators; after = rw (zero-time, before) after }

-- one bucket more
module _ (plan : Plan) (ideals : IsIdealPlan plan) (i : ℕ) (f : FragSpec) (there : slice_get plan.frags i ≡ Some f) (k : ℕ) (within : (k + 1) * plan.width ≤ plan.end)
    (m : MillState) (mill : IsMillAt plan f k m) where
  abbrev before : List Tagged
  before = inputs_below plan f k

  pub mill-next : k ≡ m.next
  mill-next = sym mill.after.next

  pub mill-fits : FitsBucket m.width k (bucket_in plan f k)
  mill-fits = record { bucket = subst (λ (w : ℕ). IsBucket w k (bucket_in plan f k)) (sym mill.width) (bucket-is plan.width k (inputs_of plan f)); end = rw mill.width (omega (arith, within, ideals.small)) }

  sound : AreSoundOps (specs_of m.stages)
  sound = rw mill.operators (sound-nameless f.ops (sound-ops plan i f there ideals))

  -- what the bucket adds is that of the fragment's stream
  pub mill-adds : added_output (engine_value (specs_of m.stages)) m.width before (bucket_in plan f k) k ≡ bucket_of plan k (Frag i)
  mill-adds =
      let bucket = bucket_in plan f k in
      let v = engine_value (specs_of m.stages) in
      let causal = λ (xs : List Tagged) (early late : ℕ) (le : early ≤ late). cut-fragment_value (specs_of m.stages) xs early late sound le in
      let fits = mill-fits.bucket in
      let ordered = fragment-InOrder (specs_of m.stages) (before ++ bucket) ((k + 1) * m.width) (inputs-ordered m.width k before bucket mill.after.ordered mill.after.below fits) in
      let late = (k + 1) * plan.width in
      added-is v m.width k before bucket causal ordered mill.after.below fits.inside
      ∙ ap (λ (w : ℕ). from_time (k * w) (v (before ++ bucket) ((k + 1) * w))) mill.width
      ∙ ap (λ (ys : List Tagged). from_time (k * plan.width) (v ys late)) (bucket-next plan.width k (inputs_of plan f))
      ∙ ap (λ (os : List OpSpec). from_time (k * plan.width) (engine_value os (cut_tagged late (serial (inputs_of plan f))) late)) mill.operators
      ∙ ap (λ (ts : List Tuple). from_time (k * plan.width) ts)
      (nameless-value f.ops (cut_tagged late (serial (inputs_of plan f))) late
      ∙ sym (cut-fragment_value f.ops (serial (inputs_of plan f)) late plan.end (sound-ops plan i f there ideals) within)
      ∙ ap (λ (ts : List Tuple). cut ts late) (ideal-value plan i f there ideals))
      ∙ filter-filter (λ (t : Tuple). nat_le (k * plan.width) t.stime) (is_below late) (ideal plan (Frag i))

  pub mill-more : (n : MillState) → n.width ≡ m.width → specs_of n.stages ≡ specs_of m.stages → MillAfter n (before ++ bucket_in plan f k) (k + 1) → IsMillAt plan f (k + 1) n
  mill-more n width operators after =
      record {
        width = width ∙ mill.width;
        operators = operators ∙ mill.operators;
        after = rw (bucket-next plan.width k (inputs_of plan f)) at after;
      }

-- ---- the buckets below an end

pub bucket-end : (w end k : ℕ) → 0 < w → k < end / w → (k + 1) * w ≤ end
bucket-end w end k h l = (le-div_iff_mul-le {k = w} {x = k + 1} {y = end} h).0 (omega (arith, l))
