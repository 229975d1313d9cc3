-- A mill before bucket 0.
use Rattle.std.proofs.Common.{◌≡◌, ℕ, zero, suc, ◌*◌, ◌<◌, false, List, [], ◌∷◌, map, length, take, get_or, Some, refl, sym, ◌∙◌, ap, arith, All, slice_get}
use Rattle.std.proofs.lemmas.List.Elements.{All-from_recursion, All-nil}
use Rattle.std.specs.List.{AllByRecursion}
use Rattle.dpc_model.specs.Streams.{is_below, cut_each}
use Rattle.dpc_model.specs.Engines.{LiesBelow, nameless}
use Rattle.dpc_model.specs.Fragments.{outputs_after, IsSoundKind, AreSoundOps, AreSoundFrags}
use Rattle.dpc_model.specs.declared.tuples.Tuple.{Tuple}
use Rattle.dpc_model.specs.declared.operators.OpSpec.{OpSpec}
use Rattle.dpc_model.specs.declared.operators.Wire.{Wire}
use Rattle.dpc_model.specs.declared.plans.FragSpec.{FragSpec}
use Rattle.dpc_model.proofs.IdealCausality.{cut-outputs_after}
use Rattle.dpc_model.proofs.Cuts.{none-below, none_below-zero}
use Rattle.dpc_model.proofs.Order.{tagged_time}
use Rattle.dpc_model.proofs.FragmentValues.{frag-is}
use Rattle.fragment_mill.specs.Mills.{spent_of, OperatorAfter, MillState, specs_of, new_stage, new_mill, inputs_of, MillAfter}
use Rattle.fragment_mill.specs.Milling.{IsFit, IsReady}
use Rattle.fragment_mill.specs.declared.mill.Stage.{Stage}
use Rattle.fragment_mill.proofs.Operators.{kind-new, IsFit-new, idle-new, after-new, next-after}
use Rattle.fragment_mill.proofs.Running.{sound-take}
use Rattle.fragment_mill.proofs.Stepping.{inputs-kept}

-- ---- nothing was read

-- of no inputs, up to time 0, no stage reads any
inputs-none : (ops : List OpSpec) (ws : List Wire) (b : ℕ) → b ≡ 0 → AreSoundOps ops → inputs_of [] (outputs_after [] ops [] b) ws ≡ []
inputs-none ops ws b e sound =
    let outs = outputs_after [] ops [] 0 in
    let same : cut_each 0 outs ≡ outs = cut-outputs_after [] ops [] 0 0 sound (omega arith) in
    rw e (sym (inputs-kept (is_below 0) [] outs ws ∙ ap (λ (yss : List (List Tuple)). inputs_of [] yss ws) same) ∙ none-below tagged_time 0 0 (inputs_of [] outs ws) (omega arith) (none_below-zero tagged_time (inputs_of [] outs ws)))

-- operators that took nothing make a mill that took nothing
pub MillAfter-none : (m : MillState) → All (IsFit m.width) m.stages → All (λ s. OperatorAfter s.operator [] 0) m.stages → m.next ≡ 0 → MillAfter m [] 0
MillAfter-none m fits after e = record {
  next = e;
  below = All-nil (LiesBelow (0 * m.width));
  ordered = tt;
  stages = λ i d h. rw (inputs-none (take i (specs_of m.stages)) (get_or m.stages i d).reads (0 * m.width) (omega arith) (sound-take m.width i m.stages fits)) (after i d h);
}

-- a mill of these stages before bucket 0
pub IsReady-none : (w : ℕ) (ss : List Stage) → All (IsFit w) ss → All (λ s. spent_of s.operator ≡ false) ss → All (λ s. OperatorAfter s.operator [] 0) ss → IsReady (record { width = w; stages = ss; next = 0; spent = false })
IsReady-none w ss fits idle after = record { fits = fits; idle = λ e. idle; waits = λ e i d low. next-after (get_or ss i d).operator [] 0 (after i d low) }

-- ---- a new mill

new-fits : (w : ℕ) (ops : List OpSpec) → AreSoundOps ops → AllByRecursion (IsFit w) (map (new_stage w) ops)
new-fits w [] s = tt
new-fits w (op ∷ ops) s = (IsFit-new w op s.0, new-fits w ops s.1)

new-idle : (w : ℕ) (ops : List OpSpec) → AllByRecursion (λ (s : Stage). spent_of s.operator ≡ false) (map (new_stage w) ops)
new-idle w [] = tt
new-idle w (op ∷ ops) = (idle-new w (length op.reads) op.kind, new-idle w ops)

new-after : (w : ℕ) (ops : List OpSpec) → AllByRecursion (λ (s : Stage). OperatorAfter s.operator [] 0) (map (new_stage w) ops)
new-after w [] = tt
new-after w (op ∷ ops) = (after-new w (length op.reads) op.kind, new-after w ops)

pub new-all-fit : (w : ℕ) (ops : List OpSpec) → AreSoundOps ops → All (IsFit w) (map (new_stage w) ops)
new-all-fit w ops s = All-from_recursion (IsFit w) (map (new_stage w) ops) (new-fits w ops s)

pub new-all-idle : (w : ℕ) (ops : List OpSpec) → All (λ (s : Stage). spent_of s.operator ≡ false) (map (new_stage w) ops)
new-all-idle w ops = All-from_recursion (λ (s : Stage). spent_of s.operator ≡ false) (map (new_stage w) ops) (new-idle w ops)

pub new-all-after : (w : ℕ) (ops : List OpSpec) → All (λ (s : Stage). OperatorAfter s.operator [] 0) (map (new_stage w) ops)
new-all-after w ops = All-from_recursion (λ (s : Stage). OperatorAfter s.operator [] 0) (map (new_stage w) ops) (new-after w ops)

specs-new : (w : ℕ) (ops : List OpSpec) → specs_of (map (new_stage w) ops) ≡ nameless ops
specs-new w [] = refl
specs-new w (op ∷ ops) = rw (kind-new w (length op.reads) op.kind, specs-new w ops) refl

-- ---- a fragment of a plan

pub op-sound : (ops : List OpSpec) (i : ℕ) (op : OpSpec) → AreSoundOps ops → i < length ops → op ≡ get_or ops i op → IsSoundKind op.kind
op-sound ops i op s h e = rw e (go ops i s h)
  where
    go : (ops : List OpSpec) (i : ℕ) → AreSoundOps ops → i < length ops → IsSoundKind (get_or ops i op).kind
    go [] i s h = absurd (omega (arith, h))
    go (o ∷ ops) zero s h = s.0
    go (o ∷ ops) (suc i) s h = go ops i s.1 (omega (arith, h))

pub frag-sound : (frags : List FragSpec) (i : ℕ) (f : FragSpec) → AreSoundFrags frags → i < length frags → f ≡ get_or frags i f → AreSoundOps f.ops
frag-sound frags i f s h e = rw e (go frags i s h)
  where
    go : (frags : List FragSpec) (i : ℕ) → AreSoundFrags frags → i < length frags → AreSoundOps (get_or frags i f).ops
    go [] i s h = absurd (omega (arith, h))
    go (g ∷ frags) zero s h = s.0
    go (g ∷ frags) (suc i) s h = go frags i s.1 (omega (arith, h))

-- a mill of the operators of a fragment is that of the fragment
pub made-of : (w i : ℕ) (frags : List FragSpec) (f g : FragSpec) (m : MillState) → m ≡ new_mill w g.ops → g ≡ get_or frags i g → slice_get frags i ≡ Some f → m ≡ new_mill w f.ops
made-of w i frags f g m e at is = e ∙ ap (λ (h : FragSpec). new_mill w h.ops) (at ∙ frag-is frags i g f is)

-- and has its operators
pub operators-of : (w i : ℕ) (frags : List FragSpec) (f g : FragSpec) (ss : List Stage) → ss ≡ map (new_stage w) g.ops → g ≡ get_or frags i g → slice_get frags i ≡ Some f → specs_of ss ≡ nameless f.ops
operators-of w i frags f g ss e at is =
    let same : ss ≡ map (new_stage w) f.ops = e ∙ ap (λ (h : FragSpec). map (new_stage w) h.ops) (at ∙ frag-is frags i g f is) in
    rw same (specs-new w f.ops)
