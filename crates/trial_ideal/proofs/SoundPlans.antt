-- The parts of a sound plan, by index and by recursion.
use Rattle.std.proofs.Common.{◌≡◌, ℕ, zero, suc, ◌+◌, ◌<◌, ◌≤◌, Bool, true, false, ◌&&◌, IsTrue, ◌↔◌, List, [], ◌∷◌, map, length, get_or, arith, All}
use Rattle.std.proofs.lemmas.List.Elements.{recursion_from_All, All-from_recursion}
use Rattle.std.proofs.lemmas.List.Sorted.{IsNonDecreasingBy-from_all_adjacent}
use Rattle.std.specs.List.{AllByRecursion}
use Rattle.dpc_lists.specs.Lists.{nth}
use Rattle.dpc_model.specs.Streams.{time_of, InOrder}
use Rattle.dpc_model.specs.Fragments.{IsSound, IsSoundKind, AreSoundOps, AreSoundFrags, ReadsBelow, ReadBefore}
use Rattle.dpc_model.specs.declared.tuples.Tuple.{Tuple}
use Rattle.dpc_model.specs.declared.operators.OpSpec.{OpSpec}
use Rattle.dpc_model.specs.declared.plans.FragSpec.{FragSpec}
use Rattle.dpc_model.specs.declared.plans.SourceSpec.{SourceSpec}
use Rattle.dpc_model.specs.declared.plans.Plan.{Plan}
use Rattle.dpc_model.specs.declared.plans.StreamRef.{StreamRef}
use Rattle.dpc_model.specs.declared.plans.StreamRef.TheVariants.{Source, Frag}
use Rattle.dpc_model.proofs.Sorting.{IsOrdered-from}
use Rattle.trial_ideal.specs.Sound.{HasOrder, IsSoundRead}

-- ---- logs

in_order-from : (ts : List Tuple) → HasOrder ts → InOrder ts
in_order-from ts h = IsOrdered-from time_of ts (IsNonDecreasingBy-from_all_adjacent time_of ts h)

in_order-to : (ts : List Tuple) (i : ℕ) (d : Tuple) → i + 1 < length ts → InOrder ts → (get_or ts i d).stime ≤ (get_or ts (i + 1) d).stime
in_order-to [] i d h o = absurd (omega (arith, h))
in_order-to (t ∷ []) i d h o = absurd (omega (arith, h))
in_order-to (t ∷ u ∷ ts) zero d h o = o.0.0
in_order-to (t ∷ u ∷ ts) (suc i) d h o = let e : suc i + 1 ≡ suc (i + 1) = omega arith in rw e (in_order-to (u ∷ ts) i d (omega (arith, h)) o.1)

abbrev HasOrderedLog : SourceSpec → Type 0
HasOrderedLog s = HasOrder s.log

logs-from : (sources : List SourceSpec) (s : ℕ) → AllByRecursion HasOrderedLog sources → InOrder (nth [] (map (λ (source : SourceSpec). source.log) sources) s)
logs-from [] s h = tt
logs-from (source ∷ sources) zero h = in_order-from source.log h.0
logs-from (source ∷ sources) (suc s) h = logs-from sources s h.1

logs-to : (sources : List SourceSpec) → ((s : ℕ) → InOrder (nth [] (map (λ (source : SourceSpec). source.log) sources) s)) → AllByRecursion HasOrderedLog sources
logs-to [] h = tt
logs-to (source ∷ sources) h = (λ i d low. in_order-to source.log i d low (h 0), logs-to sources (λ s. h (suc s)))

-- ---- operators

abbrev HasSoundKind : OpSpec → Type 0
HasSoundKind op = IsSoundKind op.kind

ops-from : (ops : List OpSpec) → AllByRecursion HasSoundKind ops → AreSoundOps ops
ops-from [] h = tt
ops-from (op ∷ ops) h = (h.0, ops-from ops h.1)

ops-to : (ops : List OpSpec) → AreSoundOps ops → AllByRecursion HasSoundKind ops
ops-to [] h = tt
ops-to (op ∷ ops) h = (h.0, ops-to ops h.1)

abbrev HasSoundOps : FragSpec → Type 0
HasSoundOps f = All HasSoundKind f.ops

frags-from : (frags : List FragSpec) → AllByRecursion HasSoundOps frags → AreSoundFrags frags
frags-from [] h = tt
frags-from (f ∷ frags) h = (ops-from f.ops (recursion_from_All HasSoundKind f.ops h.0), frags-from frags h.1)

frags-to : (frags : List FragSpec) → AreSoundFrags frags → AllByRecursion HasSoundOps frags
frags-to [] h = tt
frags-to (f ∷ frags) h = (All-from_recursion HasSoundKind f.ops (ops-to f.ops h.0), frags-to frags h.1)

-- ---- what fragments read

reads-from : (n : ℕ) (streams : List StreamRef) → AllByRecursion (IsSoundRead n) streams → ReadsBelow n streams
reads-from n [] h = tt
reads-from n (Source s ∷ streams) h = reads-from n streams h.1
reads-from n (Frag f ∷ streams) h = (h.0, reads-from n streams h.1)

reads-to : (n : ℕ) (streams : List StreamRef) → ReadsBelow n streams → AllByRecursion (IsSoundRead n) streams
reads-to n [] h = tt
reads-to n (Source s ∷ streams) h = (tt, reads-to n streams h)
reads-to n (Frag f ∷ streams) h = (h.0, reads-to n streams h.1)

before-from : (n : ℕ) (frags : List FragSpec) → ((i : ℕ) (d : FragSpec) → i < length frags → All (IsSoundRead (n + i)) (get_or frags i d).inputs) → ReadBefore n frags
before-from n [] h = tt
before-from n (f ∷ frags) h =
    let e : n + 0 ≡ n = omega arith in
    let first = rw e at (h 0 f (omega arith)) in (
      reads-from n f.inputs (recursion_from_All (IsSoundRead n) f.inputs first),
      before-from (n + 1) frags (λ i d low. let k : n + 1 + i ≡ n + suc i = omega arith in rw k (h (suc i) d (omega (arith, low)))),
    )

before-to : (n : ℕ) (frags : List FragSpec) → ReadBefore n frags → (i : ℕ) (d : FragSpec) → i < length frags → All (IsSoundRead (n + i)) (get_or frags i d).inputs
before-to n [] h i d low = absurd (omega (arith, low))
before-to n (f ∷ frags) h zero d low = let e : n + 0 ≡ n = omega arith in rw e (All-from_recursion (IsSoundRead n) f.inputs (reads-to n f.inputs h.0))
before-to n (f ∷ frags) h (suc i) d low = let k : n + suc i ≡ n + 1 + i = omega arith in rw k (before-to (n + 1) frags h.1 i d (omega (arith, low)))

-- ---- plans

abbrev ReadSoundly : List FragSpec → Type 0
ReadSoundly frags = (i : ℕ) (d : FragSpec) → i < length frags → All (IsSoundRead i) (get_or frags i d).inputs

sound-from : (p : Plan) → All HasOrderedLog p.sources → All HasSoundOps p.frags → ReadSoundly p.frags → IsSound p
sound-from p l o r =
    record {
      logs = λ s. logs-from p.sources s (recursion_from_All HasOrderedLog p.sources l);
      ops = frags-from p.frags (recursion_from_All HasSoundOps p.frags o);
      inputs = before-from 0 p.frags (λ i d low. let e : 0 + i ≡ i = omega arith in rw e (r i d low));
    }

sound-logs : (p : Plan) → IsSound p → All HasOrderedLog p.sources
sound-logs p s = All-from_recursion HasOrderedLog p.sources (logs-to p.sources s.logs)

sound-ops : (p : Plan) → IsSound p → All HasSoundOps p.frags
sound-ops p s = All-from_recursion HasSoundOps p.frags (frags-to p.frags s.ops)

sound-reads : (p : Plan) → IsSound p → ReadSoundly p.frags
sound-reads p s i d low = let e : 0 + i ≡ i = omega arith in (rw e at (before-to 0 p.frags s.inputs i d low))

three-from : (a b c : Bool) → IsTrue (a && b && c) → IsTrue a × IsTrue b × IsTrue c
three-from true true true h = (h, h, h)
three-from true true false h = absurd (cc)
three-from true false c h = absurd (cc)
three-from false b c h = absurd (cc)

three-to : (a b c : Bool) → IsTrue a → IsTrue b → IsTrue c → IsTrue (a && b && c)
three-to true true true h k l = h
three-to true true false h k l = absurd (cc)
three-to true false c h k l = absurd (cc)
three-to false b c h k l = absurd (cc)

-- the three tests tell whether a plan is sound
pub sound-tests : (p : Plan) (logs kinds reads : Bool) → IsTrue logs ↔ All HasOrderedLog p.sources → IsTrue kinds ↔ All HasSoundOps p.frags → IsTrue reads ↔ ReadSoundly p.frags →
    IsTrue (logs && kinds && reads) ↔ IsSound p
sound-tests p logs kinds reads l k r = (
  λ h. let t = three-from logs kinds reads h in sound-from p (l.0 t.0) (k.0 t.1) (r.0 t.2),
  λ s. three-to logs kinds reads (l.1 (sound-logs p s)) (k.1 (sound-ops p s)) (r.1 (sound-reads p s)),
)
