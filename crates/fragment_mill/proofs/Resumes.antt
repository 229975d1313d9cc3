-- Mills of plain data: that they are ready, what is wrong with the data, and what comes back of a mill.
use Rattle.std.proofs.Common.{◌≡◌, ℕ, zero, suc, ◌+◌, ◌*◌, ◌<◌, ◌≤◌, Bool, true, false, cond, List, [], ◌∷◌, ◌++◌, map, length, take, drop, get_or, Option, None, Some, unwrap_or, refl, sym, ◌∙◌, ap, subst, arith, slice_get, append_assoc, All}
use Rattle.std.proofs.lemmas.List.{append-nil}
use Rattle.std.proofs.lemmas.List.Elements.{All-from_recursion, recursion_from_All}
use Rattle.std.specs.List.{AllByRecursion}
use Rattle.std.specs.Option.{option_map}
use Rattle.dpc_model.specs.Engines.{nameless}
use Rattle.dpc_model.specs.Fragments.{tagged_from, read_wire, outputs_after, IsSoundKind, AreSoundOps}
use Rattle.dpc_model.specs.declared.tuples.Tuple.{Tuple}
use Rattle.dpc_model.specs.declared.tuples.Tagged.{Tagged}
use Rattle.dpc_model.specs.declared.operators.OpKind.{OpKind}
use Rattle.dpc_model.specs.declared.operators.OpKind.TheVariants as kind
use Rattle.dpc_model.specs.declared.operators.OpSpec.{OpSpec}
use Rattle.dpc_model.specs.declared.operators.Wire.{Wire}
use Rattle.dpc_model.specs.declared.plans.FragSpec.{FragSpec}
use Rattle.dpc_model.specs.declared.plans.Plan.{Plan}
use Rattle.dpc_model.proofs.Causality.{IsOrdered-sort}
use Rattle.dpc_model.proofs.Order.{tagged_time, at_port-InOrder}
use Rattle.ops_join.proofs.Resumes.{wait-after}
use Rattle.ops_join.proofs.Steps.{drop-at}
use Rattle.ops_window.proofs.Resumes.{kept-saved}
use Rattle.ops_window.proofs.Resumes.{wait-after as cells-wait}
use Rattle.fragment_mill.specs.declared.operator.Operator.{Operator}
use Rattle.fragment_mill.specs.declared.operator.Operator.TheVariants.{Filter, Map, Union, Join, Aggregate}
use Rattle.fragment_mill.specs.declared.mill.Stage.{Stage}
use Rattle.fragment_mill.specs.declared.states.OperatorParts.{OperatorParts}
use Rattle.fragment_mill.specs.declared.states.OperatorParts.TheVariants as part
use Rattle.fragment_mill.specs.Mills.{kind_of, port_count, operators_of, width_of, next_of, spent_of, spec_of, specs_of, new_operator, new_stage, OperatorAfter, MillState, inputs_of}
use Rattle.fragment_mill.specs.Milling.{ports_for, IsFit, IsReady}
use Rattle.fragment_mill.specs.States.{part_of, parts_of, suits_kind, fault_from, ops_at, resumed, resumed_stage, resumed_stages, SuitsItself, IsOf, ComesBack, StatesComeBack}
use Rattle.fragment_mill.proofs.Operators.{kind-stays, IsFit-stays, IsFit-new, kind-new}

-- ---- one operator with a state

pub operators-resumed : (next : ℕ) (o : Operator) (p : OperatorParts) → operators_of (resumed next o p) ≡ operators_of o
operators-resumed next (Filter f) p = refl
operators-resumed next (Map m) p = refl
operators-resumed next (Union u) p = refl
operators-resumed next (Join j) part.Plain = refl
operators-resumed next (Join j) (part.Join left right) = refl
operators-resumed next (Join j) (part.Aggregate cells) = refl
operators-resumed next (Aggregate a) part.Plain = refl
operators-resumed next (Aggregate a) (part.Join left right) = refl
operators-resumed next (Aggregate a) (part.Aggregate cells) = refl

width-resumed : (next : ℕ) (o : Operator) (p : OperatorParts) → width_of (resumed next o p) ≡ width_of o
width-resumed next (Filter f) p = refl
width-resumed next (Map m) p = refl
width-resumed next (Union u) p = refl
width-resumed next (Join j) part.Plain = refl
width-resumed next (Join j) (part.Join left right) = refl
width-resumed next (Join j) (part.Aggregate cells) = refl
width-resumed next (Aggregate a) part.Plain = refl
width-resumed next (Aggregate a) (part.Join left right) = refl
width-resumed next (Aggregate a) (part.Aggregate cells) = refl

idle-resumed : (next w n : ℕ) (k : OpKind) (p : OperatorParts) → spent_of (resumed next (new_operator w n k) p) ≡ false
idle-resumed next w n (kind.Filter e) p = refl
idle-resumed next w n (kind.Map es) p = refl
idle-resumed next w n kind.Union p = refl
idle-resumed next w n (kind.Join within keys) part.Plain = refl
idle-resumed next w n (kind.Join within keys) (part.Join left right) = refl
idle-resumed next w n (kind.Join within keys) (part.Aggregate cells) = refl
idle-resumed next w n (kind.Aggregate size step group aggs) part.Plain = refl
idle-resumed next w n (kind.Aggregate size step group aggs) (part.Join left right) = refl
idle-resumed next w n (kind.Aggregate size step group aggs) (part.Aggregate cells) = refl

waits-resumed : (b next w n : ℕ) (k : OpKind) (p : OperatorParts) → suits_kind b k p ≡ true → next_of (resumed next (new_operator w n k) p) ≡ next
waits-resumed b next w n (kind.Filter e) p h = refl
waits-resumed b next w n (kind.Map es) p h = refl
waits-resumed b next w n kind.Union p h = refl
waits-resumed b next w n (kind.Join within keys) part.Plain h = absurd (cc)
waits-resumed b next w n (kind.Join within keys) (part.Join left right) h = refl
waits-resumed b next w n (kind.Join within keys) (part.Aggregate cells) h = absurd (cc)
waits-resumed b next w n (kind.Aggregate size step group aggs) part.Plain h = absurd (cc)
waits-resumed b next w n (kind.Aggregate size step group aggs) (part.Join left right) h = absurd (cc)
waits-resumed b next w n (kind.Aggregate size step group aggs) (part.Aggregate cells) h = refl

-- ---- a mill of data without a fault is ready

fits-resumed : (w next : ℕ) (op : OpSpec) (p : OperatorParts) → IsSoundKind op.kind → IsFit w (resumed_stage next (new_stage w op) p)
fits-resumed w next op p s =
    let new = new_stage w op in
    IsFit-stays w new (resumed_stage next new p) refl (operators-resumed next new.operator p) (width-resumed next new.operator p) (IsFit-new w op s)

kind-resumed : (w next : ℕ) (op : OpSpec) (p : OperatorParts) → kind_of (resumed next (new_operator w (length op.reads) op.kind) p) ≡ op.kind
kind-resumed w next op p =
    let new = new_operator w (length op.reads) op.kind in
    kind-stays new (resumed next new p) (operators-resumed next new p) ∙ kind-new w (length op.reads) op.kind

if-none : (c : Bool) (o : Option ℕ) (i : ℕ) → cond c o (Some i) ≡ None → (c ≡ true) × (o ≡ None)
if-none true o i e = (refl, e)
if-none false o i e = absurd (cc)

module _ (w next b : ℕ) where
  pub all-fit : (ops : List OpSpec) (ps : List OperatorParts) → AreSoundOps ops → AllByRecursion (IsFit w) (resumed_stages next (map (new_stage w) ops) ps)
  all-fit [] ps s = tt
  all-fit (op ∷ ops) [] s = tt
  all-fit (op ∷ ops) (p ∷ ps) s = (fits-resumed w next op p s.0, all-fit ops ps s.1)

  all-idle : (ops : List OpSpec) (ps : List OperatorParts) → AllByRecursion (λ (t : Stage). spent_of t.operator ≡ false) (resumed_stages next (map (new_stage w) ops) ps)
  all-idle [] ps = tt
  all-idle (op ∷ ops) [] = tt
  all-idle (op ∷ ops) (p ∷ ps) = (idle-resumed next w (length op.reads) op.kind p, all-idle ops ps)

  all-wait : (i : ℕ) (ops : List OpSpec) (ps : List OperatorParts) → fault_from b i ops ps ≡ None → AllByRecursion (λ (t : Stage). next_of t.operator ≡ next) (resumed_stages next (map (new_stage w) ops) ps)
  all-wait i [] ps e = tt
  all-wait i (op ∷ ops) [] e = tt
  all-wait i (op ∷ ops) (p ∷ ps) e =
      let both = if-none (suits_kind b op.kind p) (fault_from b (i + 1) ops ps) i e in
      (waits-resumed b next w (length op.reads) op.kind p both.0, all-wait (i + 1) ops ps both.1)

  pub IsReady-resumed : (ops : List OpSpec) (ps : List OperatorParts) → AreSoundOps ops → fault_from b 0 ops ps ≡ None →
      IsReady (record { width = w; stages = resumed_stages next (map (new_stage w) ops) ps; next = next; spent = false })
  IsReady-resumed ops ps sound e =
      let stages = resumed_stages next (map (new_stage w) ops) ps in
      record {
        fits = All-from_recursion (IsFit w) stages (all-fit ops ps sound);
        idle = λ h. All-from_recursion (λ (t : Stage). spent_of t.operator ≡ false) stages (all-idle ops ps);
        waits = λ h. All-from_recursion (λ (t : Stage). next_of t.operator ≡ next) stages (all-wait 0 ops ps e);
      }

  pub specs-resumed : (i : ℕ) (ops : List OpSpec) (ps : List OperatorParts) → fault_from b i ops ps ≡ None → specs_of (resumed_stages next (map (new_stage w) ops) ps) ≡ nameless ops
  specs-resumed i [] [] e = refl
  specs-resumed i [] (p ∷ ps) e = absurd (cc)
  specs-resumed i (op ∷ ops) [] e = absurd (cc)
  specs-resumed i (op ∷ ops) (p ∷ ps) e =
      let both = if-none (suits_kind b op.kind p) (fault_from b (i + 1) ops ps) i e in
      let rest = specs-resumed (i + 1) ops ps both.1 in
      let same = kind-resumed w next op p in
      rw (same, rest) refl

-- the operators of a fragment, as code finds them
pub ops-are : (plan : Plan) (frag : ℕ) (f : FragSpec) → frag < length plan.frags → f ≡ get_or plan.frags frag f → ops_at plan frag ≡ f.ops
ops-are plan frag f h e = go plan.frags frag h e
  where
    go : (frags : List FragSpec) (i : ℕ) → i < length frags → f ≡ get_or frags i f → unwrap_or (option_map (λ (g : FragSpec). g.ops) (slice_get frags i)) [] ≡ f.ops
    go [] i h e = absurd (omega (arith, h))
    go (g ∷ frags) zero h e = ap (λ (x : FragSpec). x.ops) (sym e)
    go (g ∷ frags) (suc i) h e = go frags i (omega (arith, h)) e

-- ---- the loop that makes the stages

drop-none : (ops : List OpSpec) (n : ℕ) → slice_get ops n ≡ None → drop n ops ≡ []
drop-none [] zero e = refl
drop-none [] (suc n) e = refl
drop-none (op ∷ ops) zero e = absurd (cc)
drop-none (op ∷ ops) (suc n) e = drop-none ops n e

drop-short : (ops : List OpSpec) (n : ℕ) → length ops ≤ n → drop n ops ≡ []
drop-short [] zero h = refl
drop-short [] (suc n) h = refl
drop-short (op ∷ ops) zero h = absurd (omega (arith, h))
drop-short (op ∷ ops) (suc n) h = drop-short ops n (omega (arith, h))

module _ (b n : ℕ) (ops : List OpSpec) (ps : List OperatorParts) where
  pub fault-more : (op : OpSpec) (p : OperatorParts) (rest : List OperatorParts) → slice_get ops n ≡ Some op → ps ≡ p ∷ rest → suits_kind b op.kind p ≡ true →
      fault_from b (n + 1) (drop (n + 1) ops) rest ≡ fault_from b n (drop n ops) ps
  fault-more op p rest at e suits = let here = drop-at ops n op at in rw (here, e, suits) refl

  pub fault-here : (op : OpSpec) (p : OperatorParts) (rest : List OperatorParts) → slice_get ops n ≡ Some op → ps ≡ p ∷ rest → suits_kind b op.kind p ≡ false → fault_from b n (drop n ops) ps ≡ Some n
  fault-here op p rest at e suits = let here = drop-at ops n op at in rw (here, e, suits) refl

  pub fault-over : (p : OperatorParts) (rest : List OperatorParts) → slice_get ops n ≡ None → ps ≡ p ∷ rest → fault_from b n (drop n ops) ps ≡ Some n
  fault-over p rest at e = let here = drop-none ops n at in rw (here, e) refl

  pub fault-short : n < length ops → ps ≡ [] → fault_from b n (drop n ops) ps ≡ Some n
  fault-short h e = by (drop n ops) (long ops n h)
    where
      long : (os : List OpSpec) (m : ℕ) → m < length os → drop m os ≡ [] → ⊥
      long [] m l f = absurd (omega (arith, l))
      long (o ∷ os) zero l f = absurd (cc)
      long (o ∷ os) (suc m) l f = long os m (omega (arith, l)) f

      by : (os : List OpSpec) → (os ≡ [] → ⊥) → fault_from b n os ps ≡ Some n
      by [] f = absurd (f refl)
      by (o ∷ os) f = rw e refl

  pub fault-none : length ops ≤ n → ps ≡ [] → fault_from b n (drop n ops) ps ≡ None
  fault-none h e = let here = drop-short ops n h in rw (here, e) refl

module _ (w next n : ℕ) (ops : List OpSpec) (ps : List OperatorParts) (old new all : List Stage) where
  pub made-more : (op : OpSpec) (p : OperatorParts) (rest : List OperatorParts) (s : Stage) → slice_get ops n ≡ Some op → ps ≡ p ∷ rest → s ≡ resumed_stage next (new_stage w op) p → new ≡ old ++ s ∷ [] →
      old ++ resumed_stages next (map (new_stage w) (drop n ops)) ps ≡ all → new ++ resumed_stages next (map (new_stage w) (drop (n + 1) ops)) rest ≡ all
  made-more op p rest s at e is pushed h =
      let here = drop-at ops n op at in
      let whole : old ++ (resumed_stage next (new_stage w op) p ∷ resumed_stages next (map (new_stage w) (drop (n + 1) ops)) rest) ≡ all = rw (here, e) at h in
      rw (pushed, is) (append_assoc old (resumed_stage next (new_stage w op) p ∷ []) (resumed_stages next (map (new_stage w) (drop (n + 1) ops)) rest) ∙ whole)

none-made : (next : ℕ) (ss : List Stage) → resumed_stages next ss [] ≡ []
none-made next [] = refl
none-made next (s ∷ ss) = refl

pub made-all : (next : ℕ) (ss old all : List Stage) (ps : List OperatorParts) → ps ≡ [] → old ++ resumed_stages next ss ps ≡ all → old ≡ all
made-all next ss old all ps e h = sym (append-nil old) ∙ ap (λ (ts : List Stage). old ++ ts) (sym (none-made next ss)) ∙ (rw e at h)

-- ---- what comes back

-- one operator of a mill's width that took what it reads, in order
suits-after : (o : Operator) (w k : ℕ) (xs : List Tagged) (outs : List (List Tuple)) (ws : List Wire) → unwrap_or (width_of o) w ≡ w → IsSoundKind (kind_of o) → OperatorAfter o (inputs_of xs outs ws) k →
    suits_kind (k * w) (kind_of o) (part_of o) ≡ true
suits-after (Filter f) w k xs outs ws wide sound after = refl
suits-after (Map m) w k xs outs ws wide sound after = refl
suits-after (Union u) w k xs outs ws wide sound after = refl
suits-after (Join j) w k xs outs ws wide sound after =
    let ordered = IsOrdered-sort tagged_time (tagged_from 0 (map (read_wire xs outs) ws)) in
    let both = wait-after j (inputs_of xs outs ws) k after (at_port-InOrder 0 (inputs_of xs outs ws) ordered) (at_port-InOrder 1 (inputs_of xs outs ws) ordered) in
    let same : j.next * j.width ≡ k * w = rw (after.next, wide) refl in
    let sides = rw same at both in
    rw (sides.0, sides.1) refl
suits-after (Aggregate a) w k xs outs ws wide sound after =
    let cells = cells-wait a (inputs_of xs outs ws) k sound.1 after in
    let same : a.next * a.width ≡ k * w = rw (after.next, wide) refl in
    rw same at cells

-- an operator is the one with its own state
same-resumed : (o : Operator) (w next n : ℕ) → unwrap_or (width_of o) w ≡ w → port_count o ≡ ports_for (kind_of o) n → spent_of o ≡ false → next_of o ≡ next →
    resumed next (new_operator w n (kind_of o)) (part_of o) ≡ o
same-resumed (Filter f) w next n wide ports idle waits = rw (← waits, ← idle) refl
same-resumed (Map m) w next n wide ports idle waits = rw (← waits, ← idle) refl
same-resumed (Union u) w next n wide ports idle waits = rw (← wide, ← ports, ← waits, ← idle) refl
same-resumed (Join j) w next n wide ports idle waits = rw (← wide, ← waits, ← idle) refl
same-resumed (Aggregate a) w next n wide ports idle waits = rw (kept-saved a.cells, ← wide, ← waits, ← idle) refl

module _ (w next : ℕ) where
  abbrev pub IsOwn : Stage → Type 0
  IsOwn s = (suits_kind (next * w) (kind_of s.operator) (part_of s.operator) ≡ true) × (resumed next (new_operator w (length s.reads) (kind_of s.operator)) (part_of s.operator) ≡ s.operator)

  fault-own : (i : ℕ) (ops : List OpSpec) (ss : List Stage) → specs_of ss ≡ nameless ops → AllByRecursion IsOwn ss → fault_from (next * w) i ops (map (λ (s : Stage). part_of s.operator) ss) ≡ None
  fault-own i [] [] e a = refl
  fault-own i [] (s ∷ ss) e a = absurd (cc)
  fault-own i (op ∷ ops) [] e a = absurd (cc)
  fault-own i (op ∷ ops) (s ∷ ss) e a =
      let first : spec_of s ≡ record { name = []; kind = op.kind; reads = op.reads } = cc in
      let rest : specs_of ss ≡ nameless ops = cc in
      let same : kind_of s.operator ≡ op.kind = ap (λ (o : OpSpec). o.kind) first in
      let suits : suits_kind (next * w) op.kind (part_of s.operator) ≡ true = rw same at a.0.0 in
      rw suits (fault-own (i + 1) ops ss rest a.1)

  stages-own : (ops : List OpSpec) (ss : List Stage) → specs_of ss ≡ nameless ops → AllByRecursion IsOwn ss → resumed_stages next (map (new_stage w) ops) (map (λ (s : Stage). part_of s.operator) ss) ≡ ss
  stages-own [] [] e a = refl
  stages-own [] (s ∷ ss) e a = absurd (cc)
  stages-own (op ∷ ops) [] e a = absurd (cc)
  stages-own (op ∷ ops) (s ∷ ss) e a =
      let first : spec_of s ≡ record { name = []; kind = op.kind; reads = op.reads } = cc in
      let rest : specs_of ss ≡ nameless ops = cc in
      let kinds : kind_of s.operator ≡ op.kind = ap (λ (o : OpSpec). o.kind) first in
      let reads : s.reads ≡ op.reads = ap (λ (o : OpSpec). o.reads) first in
      let operator : resumed next (new_operator w (length op.reads) op.kind) (part_of s.operator) ≡ s.operator = rw (kinds, reads) at a.0.1 in
      let stages = stages-own ops ss rest a.1 in
      rw (operator, ← reads, stages) refl

-- an unspent mill whose operators suit their kinds comes back
pub suited-back : (plan : Plan) (frag : ℕ) (m : MillState) → IsReady m → IsOf plan frag m → All (λ (s : Stage). suits_kind (m.next * plan.width) (kind_of s.operator) (part_of s.operator) ≡ true) m.stages →
    ComesBack plan frag m (parts_of m)
suited-back plan frag m ready h suit =
    let w = plan.width in
    let own : AllByRecursion (IsOwn w m.next) m.stages = recursion_from_All (IsOwn w m.next) m.stages (λ i d low.
    let s = get_or m.stages i d in
    let fit : IsFit w s = subst (λ (v : ℕ). IsFit v s) h.width (ready.fits i d low) in
    (suit i d low, same-resumed s.operator w m.next (length s.reads) fit.width fit.ports (ready.idle h.idle i d low) (ready.waits h.idle i d low))) in
    let stages = stages-own w m.next (ops_at plan frag) m.stages h.operators own in
    record {
      sound = fault-own w m.next 0 (ops_at plan frag) m.stages h.operators own;
      same = rw (stages, ← h.width, ← h.idle) refl;
    }

-- so does one that took inputs
pub all-come-back : StatesComeBack
all-come-back plan frag m xs ready h took =
    let w = plan.width in
    suited-back plan frag m ready h (λ i d low.
    let s = get_or m.stages i d in
    let fit : IsFit w s = subst (λ (v : ℕ). IsFit v s) h.width (ready.fits i d low) in
    suits-after s.operator w m.next xs (outputs_after [] (take i (specs_of m.stages)) xs (m.next * m.width)) s.reads fit.width fit.sound (took.stages i d low))

-- and one whose operators say so themselves
suits-wide : (o : Operator) (w next : ℕ) → unwrap_or (width_of o) w ≡ w → next_of o ≡ next → spent_of o ≡ false → SuitsItself o → suits_kind (next * w) (kind_of o) (part_of o) ≡ true
suits-wide (Filter f) w next wide waits idle suits = refl
suits-wide (Map m) w next wide waits idle suits = refl
suits-wide (Union u) w next wide waits idle suits = refl
suits-wide (Join j) w next wide waits idle suits = rw (← waits, ← wide) (suits idle)
suits-wide (Aggregate a) w next wide waits idle suits = rw (← waits, ← wide) (suits idle)

pub comes-back : (plan : Plan) (frag : ℕ) (m : MillState) → IsReady m → IsOf plan frag m → All (λ (s : Stage). SuitsItself s.operator) m.stages → ComesBack plan frag m (parts_of m)
comes-back plan frag m ready h suit =
    let w = plan.width in
    suited-back plan frag m ready h (λ i d low.
    let s = get_or m.stages i d in
    let fit : IsFit w s = subst (λ (v : ℕ). IsFit v s) h.width (ready.fits i d low) in
    suits-wide s.operator w m.next fit.width (ready.waits h.idle i d low) (ready.idle h.idle i d low) (suit i d low))
