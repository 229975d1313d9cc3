-- The failure-free streams by name.
use Rattle.std.proofs.Common.{◌≡◌, ℕ, zero, suc, ◌+◌, ◌-◌, ◌<◌, ◌≤◌, take, drop, List, [], ◌∷◌, map, length, sym, ap, arith, nat_le, Option, Some, unwrap_or, option_map}
use Rattle.std.proofs.lemmas.Option.{slice_get-map}
use Rattle.std.proofs.Math.Seq.{take-length}
use Rattle.std.proofs.lemmas.List.{length-drop}
use Rattle.std.specs.List.{slice_get}
use Rattle.dpc_lists.specs.Lists.{nth, push}
use Rattle.dpc_lists.proofs.Elements.{nth-past}
use Rattle.dpc_model.specs.Streams.{InOrder, time_of}
use Rattle.dpc_model.specs.Engines.{from_time}
use Rattle.dpc_model.specs.Fragments.{serial, fragment_value, log_of, stream_upto, fragments_upto, ideal_upto, ideal, AreSoundOps, AreSoundFrags, ReadsBelow, ReadBefore}
use Rattle.dpc_model.specs.declared.tuples.Tuple.{Tuple}
use Rattle.dpc_model.specs.declared.plans.FragSpec.{FragSpec}
use Rattle.dpc_model.specs.declared.plans.SourceSpec.{SourceSpec}
use Rattle.dpc_model.specs.declared.plans.Plan.{Plan}
use Rattle.dpc_model.specs.declared.plans.StreamRef.TheVariants.{Source, Frag}
use Rattle.dpc_model.proofs.Cuts.{cut-below}
use Rattle.dpc_model.proofs.Order.{IsOrdered-filter}
use Rattle.dpc_model.proofs.FragmentValues.{ideal-frag, length-push}
use Rattle.ideal_run.specs.IdealPlans.{IsIdealPlan}

-- ---- logs

-- a slice from a place on
pub rest-whole : (n : ℕ) (ts : List Tuple) → take (length ts - n) (drop n ts) ≡ drop n ts
rest-whole n ts = rw (← length-drop n ts) (take-length (drop n ts))

-- the stream of a source is its log
pub ideal-log : (plan : Plan) (s : ℕ) → IsIdealPlan plan → ideal plan (Source s) ≡ log_of plan s
unfolding ideal ideal_upto
ideal-log plan s h = cut-below plan.end (log_of plan s) (h.logs s)

pub log-ordered : (plan : Plan) (s : ℕ) → IsIdealPlan plan → InOrder (log_of plan s)
log-ordered plan s h = h.sound.logs s

pub rest-ordered : (b : ℕ) (ts : List Tuple) → InOrder ts → InOrder (from_time b ts)
rest-ordered b ts o = IsOrdered-filter time_of (λ (t : Tuple). nat_le b t.stime) ts o

-- ---- the fragment of a number

-- a fragment that is there, in other words
pub frag-at : (frags : List FragSpec) (i : ℕ) (f d : FragSpec) → slice_get frags i ≡ Some f → (i < length frags) × (nth d frags i ≡ f)
frag-at [] i f d e = cc
frag-at (g ∷ frags) zero f d e = (omega arith, some-same e)
  where
    some-same : Some g ≡ Some f → g ≡ f
    some-same p = cc
frag-at (g ∷ frags) (suc i) f d e = let rest = frag-at frags i f d e in (omega (arith, rest.0), rest.1)

pub same-frag : (frags : List FragSpec) (i : ℕ) (f g : FragSpec) → slice_get frags i ≡ Some f → slice_get frags i ≡ Some g → f ≡ g
same-frag frags i f g e k = cc

sound-in : (frags : List FragSpec) (i : ℕ) (f : FragSpec) → slice_get frags i ≡ Some f → AreSoundFrags frags → AreSoundOps f.ops
sound-in [] i f e s = cc
sound-in (g ∷ frags) zero f e s = some-same e
  where
    some-same : Some g ≡ Some f → AreSoundOps f.ops
    some-same p = let same : g ≡ f = cc in rw (← same) s.0
sound-in (g ∷ frags) (suc i) f e s = sound-in frags i f e s.1

pub sound-ops : (plan : Plan) (i : ℕ) (f : FragSpec) → slice_get plan.frags i ≡ Some f → IsIdealPlan plan → AreSoundOps f.ops
sound-ops plan i f there h = sound-in plan.frags i f there h.sound.ops

reads-in : (n i : ℕ) (frags : List FragSpec) (f : FragSpec) → slice_get frags i ≡ Some f → ReadBefore n frags → ReadsBelow (n + i) f.inputs
reads-in n i [] f e r = cc
reads-in n zero (g ∷ frags) f e r = some-same e
  where
    some-same : Some g ≡ Some f → ReadsBelow (n + zero) f.inputs
    some-same p = let same : g ≡ f = cc in let none : n + zero ≡ n = omega arith in rw (none, ← same) r.0
reads-in n (suc i) (g ∷ frags) f e r = let next : n + suc i ≡ (n + 1) + i = omega arith in rw next (reads-in (n + 1) i frags f e r.1)

-- it reads fragments before it
pub reads-before : (plan : Plan) (i : ℕ) (f : FragSpec) → slice_get plan.frags i ≡ Some f → IsIdealPlan plan → ReadsBelow i f.inputs
reads-before plan i f there h = let none : 0 + i ≡ i = omega arith in rw none at (reads-in 0 i plan.frags f there h.sound.inputs)

-- its value over the failure-free streams that it reads is its stream
pub ideal-value : (plan : Plan) (i : ℕ) (f : FragSpec) → slice_get plan.frags i ≡ Some f → IsIdealPlan plan → fragment_value f.ops (serial (map (ideal plan) f.inputs)) plan.end ≡ ideal plan (Frag i)
unfolding ideal
ideal-value plan i f there h =
    let at = frag-at plan.frags i f f there in
    sym (rw at.1 at (ideal-frag plan i plan.end f at.0 h.sound.inputs))

-- ---- no fragment

length-fragments_upto : (plan : Plan) (b : ℕ) (values : List (List Tuple)) (frags : List FragSpec) → length (fragments_upto plan b values frags) ≡ length values + length frags
length-fragments_upto plan b values [] = omega arith
length-fragments_upto plan b values (f ∷ frags) =
    let out = fragment_value f.ops (serial (map (stream_upto plan b values) f.inputs)) b in
    omega (arith, length-fragments_upto plan b (push values out) frags, length-push values out)

-- one that is not there has no stream
pub ideal-none : (plan : Plan) (i : ℕ) → length plan.frags ≤ i → ideal plan (Frag i) ≡ []
unfolding ideal ideal_upto
ideal-none plan i past =
    nth-past [] (fragments_upto plan plan.end [] plan.frags) i (omega (arith, past, length-fragments_upto plan plan.end [] plan.frags))
