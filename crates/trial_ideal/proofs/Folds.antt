-- One operator or fragment more, and one window more.
use Rattle.std.proofs.Common.{◌≡◌, ℕ, zero, suc, ◌+◌, ◌<◌, List, [], ◌∷◌, ◌++◌, map, length, take, get_or, refl, ap, arith, Option, Some, None, unwrap_or, ℤ, append_assoc, append-nil, ◌∙◌}
use Rattle.std.specs.List.{flat_map, range_with_len}
use Rattle.std.proofs.lemmas.List.Concat.{flat_map-append}
use Rattle.dpc_lists.specs.Lists.{push, last_or}
use Rattle.dpc_model.specs.Operators.{output_of}
use Rattle.dpc_model.specs.Fragments.{serial, read_wire, outputs_after, fragment_value, stream_upto, fragments_upto, IsSoundKind, AreSoundOps, AreSoundFrags}
use Rattle.dpc_model.specs.declared.tuples.Tuple.{Tuple}
use Rattle.dpc_model.specs.declared.tuples.Tagged.{Tagged}
use Rattle.dpc_model.specs.declared.operators.OpSpec.{OpSpec}
use Rattle.dpc_model.specs.declared.plans.FragSpec.{FragSpec}
use Rattle.dpc_model.specs.declared.plans.Plan.{Plan}
use Rattle.dpc_lists.proofs.Elements.{range-more}

pub outputs_after-more : (outs : List (List Tuple)) (ops : List OpSpec) (xs : List Tagged) (b i : ℕ) (d : OpSpec) → i < length ops →
    let before = outputs_after outs (take i ops) xs b in
    outputs_after outs (take (i + 1) ops) xs b ≡ push before (output_of (get_or ops i d).kind (map (read_wire xs before) (get_or ops i d).reads) b)
outputs_after-more outs [] xs b i d h = absurd (omega (arith, h))
outputs_after-more outs (op ∷ ops) xs b zero d h = refl
outputs_after-more outs (op ∷ ops) xs b (suc i) d h =
    let e : suc i + 1 ≡ suc (i + 1) = omega arith in
    rw e (outputs_after-more (push outs (output_of op.kind (map (read_wire xs outs) op.reads) b)) ops xs b i d (omega (arith, h)))

fragments_upto-more : (plan : Plan) (b : ℕ) (values : List (List Tuple)) (frags : List FragSpec) (i : ℕ) (d : FragSpec) → i < length frags →
    let before = fragments_upto plan b values (take i frags) in
    fragments_upto plan b values (take (i + 1) frags)
    ≡ push before (fragment_value (get_or frags i d).ops (serial (map (stream_upto plan b before) (get_or frags i d).inputs)) b)
fragments_upto-more plan b values [] i d h = absurd (omega (arith, h))
fragments_upto-more plan b values (f ∷ frags) zero d h = refl
fragments_upto-more plan b values (f ∷ frags) (suc i) d h =
    let e : suc i + 1 ≡ suc (i + 1) = omega arith in
    rw e (fragments_upto-more plan b (push values (fragment_value f.ops (serial (map (stream_upto plan b values) f.inputs)) b)) frags i d (omega (arith, h)))

-- each operator and each fragment is sound
pub sound-kind : (ops : List OpSpec) (i : ℕ) (d : OpSpec) → i < length ops → AreSoundOps ops → IsSoundKind (get_or ops i d).kind
sound-kind [] i d h s = absurd (omega (arith, h))
sound-kind (op ∷ ops) zero d h s = s.0
sound-kind (op ∷ ops) (suc i) d h s = sound-kind ops i d (omega (arith, h)) s.1

pub sound-frag : (frags : List FragSpec) (i : ℕ) (d : FragSpec) → i < length frags → AreSoundFrags frags → AreSoundOps (get_or frags i d).ops
sound-frag [] i d h s = absurd (omega (arith, h))
sound-frag (f ∷ frags) zero d h s = s.0
sound-frag (f ∷ frags) (suc i) d h s = sound-frag frags i d (omega (arith, h)) s.1

-- the last output
pub last-some : (outs rest : List (List Tuple)) (ts : List Tuple) → outs ≡ rest ++ ts ∷ [] → unwrap_or (last_or None outs) [] ≡ ts
last-some outs rest ts h = rw h (behind None rest)
  where
    behind : (p : Option (List Tuple)) (tss : List (List Tuple)) → unwrap_or (last_or p (tss ++ ts ∷ [])) [] ≡ ts
    behind p [] = refl
    behind p (us ∷ tss) = behind (Some us) tss

-- one group more
pub rows-more : (f : ℤ → Tuple) (out new first : List Tuple) (all left rest : List ℤ) (z : ℤ) → out ++ map f left ≡ first ++ map f all → left ≡ z ∷ rest → new ≡ out ++ f z ∷ [] →
    new ++ map f rest ≡ first ++ map f all
rows-more f out new first all left rest z h e k = rw (k, append_assoc out (f z ∷ []) (map f rest)) (rw e at h)

-- one fragment more, of what the code has
pub fragment-more : (plan : Plan) (b i : ℕ) (d : FragSpec) (values new ports : List (List Tuple)) (value : List Tuple) → i < length plan.frags →
    values ≡ fragments_upto plan b [] (take i plan.frags) → ports ≡ map (stream_upto plan b values) (get_or plan.frags i d).inputs →
    value ≡ fragment_value (get_or plan.frags i d).ops (serial ports) b → new ≡ push values value → new ≡ fragments_upto plan b [] (take (i + 1) plan.frags)
fragment-more plan b i d values new ports value h v p f e = rw (fragments_upto-more plan b [] plan.frags i d h, ← v, ← p, ← f) e

pub windows-more : (f : ℕ → List Tuple) (n : ℕ) → flat_map f (range_with_len 0 (n + 1)) ≡ flat_map f (range_with_len 0 n) ++ f n
windows-more f n =
    let e : 0 + n ≡ n = omega arith in
    rw (range-more 0 n, e) (flat_map-append f (range_with_len 0 n) (n ∷ []) ∙ ap (λ (ts : List Tuple). flat_map f (range_with_len 0 n) ++ ts) (append-nil (f n)))
