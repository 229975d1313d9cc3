-- The failure-free output up to a time is the whole one, cut at that time.
use Rattle.std.proofs.Common.{◌≡◌, ℕ, ◌≤◌, List, [], ◌∷◌, map, refl, ◌∙◌, ap, arith, None, unwrap_or}
use Rattle.std.proofs.lemmas.Grind.{common_steps}
use Rattle.std.proofs.lemmas.List.{map-append}
use Rattle.std.specs.List.{last_or}
use Rattle.dpc_lists.specs.Lists.{nth, push}
use Rattle.dpc_model.specs.Streams.{cut, is_below, cut_each}
use Rattle.dpc_model.specs.Operators.{output_of}
use Rattle.dpc_model.specs.Fragments.{serial, read_wire, outputs_after, fragment_value, log_of, stream_upto, fragments_upto, ideal_upto, ideal, IsSoundKind, AreSoundOps, AreSoundFrags, cut_tagged}
use Rattle.dpc_model.specs.declared.tuples.Tuple.{Tuple}
use Rattle.dpc_model.specs.declared.tuples.Tagged.{Tagged}
use Rattle.dpc_model.specs.declared.operators.OpKind.{OpKind}
use Rattle.dpc_model.specs.declared.operators.OpKind.TheVariants.{Filter, Map, Union, Join, Aggregate}
use Rattle.dpc_model.specs.declared.operators.OpSpec.{OpSpec}
use Rattle.dpc_model.specs.declared.plans.FragSpec.{FragSpec}
use Rattle.dpc_model.specs.declared.plans.Plan.{Plan}
use Rattle.dpc_model.specs.declared.plans.StreamRef.{StreamRef}
use Rattle.dpc_model.specs.declared.plans.StreamRef.TheVariants.{Source, Frag}
use Rattle.dpc_model.proofs.Causality.{cut-filtered, cut-mapped, cut-united}
use Rattle.dpc_model.proofs.JoinCausality.{cut-joined}
use Rattle.dpc_model.proofs.WindowCausality.{cut-aggregated, filter-implied}
use Rattle.dpc_model.proofs.Kept.{nth-kept, reads-kept, serial-kept, last-mapped}

-- ---- any operator

pub cut-output_of : (kind : OpKind) (ins : List (List Tuple)) (b b' : ℕ) → IsSoundKind kind → b ≤ b' → cut (output_of kind ins b') b ≡ output_of kind (cut_each b ins) b
cut-output_of (Filter e) ins b b' s h = rw (← nth-kept (is_below b) 0 ins) (cut-filtered e (nth [] ins 0) b)
cut-output_of (Map es) ins b b' s h = rw (← nth-kept (is_below b) 0 ins) (cut-mapped es (nth [] ins 0) b)
cut-output_of Union ins b b' s h = cut-united ins b
cut-output_of (Join w keys) ins b b' s h = rw (← nth-kept (is_below b) 0 ins, ← nth-kept (is_below b) 1 ins) (cut-joined w keys (nth [] ins 0) (nth [] ins 1) b)
cut-output_of (Aggregate size step group aggs) ins b b' s h =
    rw (← nth-kept (is_below b) 0 ins) (cut-aggregated size step group aggs (nth [] ins 0) b s.0 s.1 b' h)

-- ---- a fragment

pub cut-outputs_after : (outs : List (List Tuple)) (ops : List OpSpec) (xs : List Tagged) (b b' : ℕ) → AreSoundOps ops → b ≤ b' →
    cut_each b (outputs_after outs ops xs b') ≡ outputs_after (cut_each b outs) ops (cut_tagged b xs) b
cut-outputs_after outs [] xs b b' s h = refl
cut-outputs_after outs (op ∷ ops) xs b b' s h =
    let ins = map (read_wire xs outs) op.reads in
    let out = output_of op.kind ins b' in
    cut-outputs_after (push outs out) ops xs b b' s.1 h
    ∙ ap (λ (yss : List (List Tuple)). outputs_after yss ops (cut_tagged b xs) b)
    (map-append (λ (ts : List Tuple). cut ts b) outs (out ∷ [])
    ∙ ap (λ (ts : List Tuple). push (cut_each b outs) ts)
    (cut-output_of op.kind ins b b' s.0 h ∙ ap (λ (yss : List (List Tuple)). output_of op.kind yss b) (reads-kept (is_below b) xs outs op.reads)))

pub cut-fragment_value : (ops : List OpSpec) (xs : List Tagged) (b b' : ℕ) → AreSoundOps ops → b ≤ b' →
    cut (fragment_value ops xs b') b ≡ fragment_value ops (cut_tagged b xs) b
cut-fragment_value ops xs b b' s h =
    last-mapped (λ (ts : List Tuple). cut ts b) refl (outputs_after [] ops xs b')
    ∙ ap (λ (yss : List (List Tuple)). unwrap_or (last_or None yss) []) (cut-outputs_after [] ops xs b b' s h)

-- ---- the failure-free output

-- a later cut and then an earlier one are the earlier one
pub cut-cut : (ts : List Tuple) (b b' : ℕ) → b ≤ b' → cut (cut ts b') b ≡ cut ts b
cut-cut ts b b' h = filter-implied (is_below b) (is_below b') (λ (t : Tuple) e. grind (arith, common_steps)) ts

stream_upto-cut : (plan : Plan) (b b' : ℕ) (values : List (List Tuple)) (s : StreamRef) → b ≤ b' →
    cut (stream_upto plan b' values s) b ≡ stream_upto plan b (cut_each b values) s
stream_upto-cut plan b b' values (Source s) h = cut-cut (log_of plan s) b b' h
stream_upto-cut plan b b' values (Frag f) h = nth-kept (is_below b) f values

streams_upto-cut : (plan : Plan) (b b' : ℕ) (values : List (List Tuple)) (ss : List StreamRef) → b ≤ b' →
    cut_each b (map (stream_upto plan b' values) ss) ≡ map (stream_upto plan b (cut_each b values)) ss
streams_upto-cut plan b b' values [] h = refl
streams_upto-cut plan b b' values (s ∷ ss) h =
    rw (stream_upto-cut plan b b' values s h) (ap (λ (yss : List (List Tuple)). stream_upto plan b (cut_each b values) s ∷ yss) (streams_upto-cut plan b b' values ss h))

fragments_upto-cut : (plan : Plan) (b b' : ℕ) (values : List (List Tuple)) (frags : List FragSpec) → AreSoundFrags frags → b ≤ b' →
    cut_each b (fragments_upto plan b' values frags) ≡ fragments_upto plan b (cut_each b values) frags
fragments_upto-cut plan b b' values [] s h = refl
fragments_upto-cut plan b b' values (f ∷ rest) s h =
    let ins = map (stream_upto plan b' values) f.inputs in
    let out = fragment_value f.ops (serial ins) b' in
    fragments_upto-cut plan b b' (push values out) rest s.1 h
    ∙ ap (λ (yss : List (List Tuple)). fragments_upto plan b yss rest)
    (map-append (λ (ts : List Tuple). cut ts b) values (out ∷ [])
    ∙ ap (λ (ts : List Tuple). push (cut_each b values) ts)
    (cut-fragment_value f.ops (serial ins) b b' s.0 h
    ∙ ap (λ (xs : List Tagged). fragment_value f.ops xs b)
    (serial-kept (is_below b) ins ∙ ap (λ (yss : List (List Tuple)). serial yss) (streams_upto-cut plan b b' values f.inputs h))))

pub cut-ideal_upto : (plan : Plan) (s : StreamRef) (b b' : ℕ) → AreSoundFrags plan.frags → b ≤ b' → cut (ideal_upto plan s b') b ≡ ideal_upto plan s b
unfolding ideal_upto
cut-ideal_upto plan s b b' sound h =
    stream_upto-cut plan b b' (fragments_upto plan b' [] plan.frags) s h
    ∙ ap (λ (yss : List (List Tuple)). stream_upto plan b yss s) (fragments_upto-cut plan b b' [] plan.frags sound h)

pub cut-ideal : (plan : Plan) (s : StreamRef) (b : ℕ) → AreSoundFrags plan.frags → b ≤ plan.end → cut (ideal plan s) b ≡ ideal_upto plan s b
unfolding ideal
cut-ideal plan s b sound h = cut-ideal_upto plan s b plan.end sound h
