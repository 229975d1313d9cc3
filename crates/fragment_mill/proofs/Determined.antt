-- What a mill took determines it.
use Rattle.std.proofs.Common.{◌≡◌, ℕ, ◌*◌, ◌<◌, false, Bool, Option, Some, None, List, [], length, take, get_or, unwrap_or, refl, sym, ◌∙◌, ap, arith, All}
use Rattle.std.proofs.lemmas.List.{same_lists}
use Rattle.std.proofs.Math.ListN.{get_or-map}
use Rattle.dpc_model.specs.Fragments.{outputs_after}
use Rattle.dpc_model.specs.declared.tuples.Tagged.{Tagged}
use Rattle.dpc_model.specs.declared.operators.OpSpec.{OpSpec}
use Rattle.dpc_model.specs.declared.operators.OpKind.{OpKind}
use Rattle.dpc_model.specs.declared.operators.OpKind.TheVariants as kind
use Rattle.dpc_model.specs.declared.operators.Wire.{Wire}
use Rattle.ops_stateless.specs.FilterOp.{filter_before}
use Rattle.ops_stateless.specs.MapOps.{map_before}
use Rattle.ops_stateless.specs.Unions.{union_before}
use Rattle.ops_stateless.proofs.Standing.{filter-is, map-is, union-is}
use Rattle.ops_join.proofs.Standing.{join_before, join-is}
use Rattle.ops_window.proofs.Standing.{aggregate_before, aggregate-is}
use Rattle.fragment_mill.specs.declared.operator.Operator.{Operator}
use Rattle.fragment_mill.specs.declared.operator.Operator.TheVariants.{Filter, Map, Union, Join, Aggregate}
use Rattle.fragment_mill.specs.declared.mill.Stage.{Stage}
use Rattle.fragment_mill.specs.Mills.{kind_of, port_count, width_of, next_of, spent_of, operators_of, OperatorAfter, MillState, spec_of, specs_of, inputs_of, MillAfter}
use Rattle.fragment_mill.specs.Milling.{ports_for, IsFit, IsMill, IsReady}
use Rattle.fragment_mill.specs.Sameness.{InputsDetermineMills}
use Rattle.fragment_mill.proofs.Operators.{kind-stays, ports-stay, next-after}
use Rattle.fragment_mill.proofs.Running.{specs-length}

-- ---- one operator

-- the operator of this kind, with so many ports and this width, that took these inputs, those below bucket k
abbrev pub operator_before : OpKind → ℕ → ℕ → List Tagged → ℕ → Operator
operator_before (kind.Filter e) ports width xs k = Filter (filter_before e k)
operator_before (kind.Map es) ports width xs k = Map (map_before es k)
operator_before kind.Union ports width xs k = Union (union_before ports width k)
operator_before (kind.Join within keys) ports width xs k = Join (join_before within keys width xs k)
operator_before (kind.Aggregate size step group aggs) ports width xs k = Aggregate (aggregate_before size step group aggs width xs k)

pub operator-is : (o : Operator) (w : ℕ) (xs : List Tagged) (k : ℕ) → unwrap_or (width_of o) w ≡ w → spent_of o ≡ false → OperatorAfter o xs k →
    o ≡ operator_before (kind_of o) (port_count o) w xs k
operator-is (Filter f) w xs k e idle after = ap (λ g. Filter g) (filter-is f k after idle)
operator-is (Map m) w xs k e idle after = ap (λ n. Map n) (map-is m k after idle)
operator-is (Union u) w xs k e idle after = ap (λ v. Union v) (union-is u xs k after idle) ∙ ap (λ v. Union (union_before u.ports v k)) e
operator-is (Join j) w xs k e idle after = ap (λ i. Join i) (join-is j xs k after idle) ∙ ap (λ v. Join (join_before j.within j.keys v xs k)) e
operator-is (Aggregate a) w xs k e idle after =
    ap (λ b. Aggregate b) (aggregate-is a xs k after idle) ∙ ap (λ v. Aggregate (aggregate_before a.size a.step a.group a.aggs v xs k)) e

-- two operators of one kind, with as many ports and the same width, that took the same inputs are the same
pub same-operators : (o p : Operator) (w : ℕ) (xs : List Tagged) (k : ℕ) → kind_of o ≡ kind_of p → port_count o ≡ port_count p →
    unwrap_or (width_of o) w ≡ w → unwrap_or (width_of p) w ≡ w → spent_of o ≡ false → spent_of p ≡ false → OperatorAfter o xs k → OperatorAfter p xs k → o ≡ p
same-operators o p w xs k kind ports width width' idle idle' after after' =
    operator-is o w xs k width idle after
    ∙ ap (λ (a : OpKind). operator_before a (port_count o) w xs k) kind
    ∙ ap (λ (n : ℕ). operator_before (kind_of p) n w xs k) ports
    ∙ sym (operator-is p w xs k width' idle' after')

-- so are two of one width with the same operators
width-own : (w : Option ℕ) → unwrap_or w (unwrap_or w 0) ≡ unwrap_or w 0
width-own None = refl
width-own (Some n) = refl

pub same-engines : (o p : Operator) (xs : List Tagged) (k : ℕ) → width_of o ≡ width_of p → operators_of o ≡ operators_of p →
    (spent_of o ≡ false) × (spent_of p ≡ false) → OperatorAfter o xs k × OperatorAfter p xs k → o ≡ p
same-engines o p xs k width made idle after =
    same-operators o p (unwrap_or (width_of o) 0) xs k (kind-stays p o made) (ports-stay p o made) (width-own (width_of o))
    (rw width (width-own (width_of p))) idle.0 idle.1 after.0 after.1

-- ---- the stages

-- a stage with these parts is the one
abbrev stage_of : List Wire → Operator → Stage
stage_of reads operator = record { reads = reads; operator = operator }

pub same-stages : (s t : Stage) (w : ℕ) (xs : List Tagged) (k : ℕ) → spec_of s ≡ spec_of t → IsFit w s → IsFit w t →
    spent_of s.operator ≡ false → spent_of t.operator ≡ false → OperatorAfter s.operator xs k → OperatorAfter t.operator xs k → s ≡ t
same-stages s t w xs k spec fit fit' idle idle' after after' =
    let reads : s.reads ≡ t.reads = ap (λ (op : OpSpec). op.reads) spec in
    let kind : kind_of s.operator ≡ kind_of t.operator = ap (λ (op : OpSpec). op.kind) spec in
    let ports : port_count s.operator ≡ port_count t.operator =
    fit.ports
    ∙ ap (λ (a : OpKind). ports_for a (length s.reads)) kind
    ∙ ap (λ (ws : List Wire). ports_for (kind_of t.operator) (length ws)) reads
    ∙ sym fit'.ports in
    let operator : s.operator ≡ t.operator = same-operators s.operator t.operator w xs k kind ports fit.width fit'.width idle idle' after after' in
    ap (λ (ws : List Wire). stage_of ws s.operator) reads ∙ ap (λ (o : Operator). stage_of t.reads o) operator

-- ---- the mill

-- each stage of an unspent mill waits for the mill's next bucket
pub stages-next : (m : MillState) → IsMill m → m.spent ≡ false → All (λ (s : Stage). next_of s.operator ≡ m.next) m.stages
stages-next m mill idle i d low = let t = mill.took idle in next-after (get_or m.stages i d).operator _ m.next (t.1.stages i d low)

-- the stages of two mills at the same place have the same operator without its state
same-specs : (ss ts : List Stage) (i : ℕ) (d : Stage) → specs_of ss ≡ specs_of ts → spec_of (get_or ss i d) ≡ spec_of (get_or ts i d)
same-specs ss ts i d e = sym (get_or-map spec_of ss i d) ∙ ap (λ (ops : List OpSpec). get_or ops i (spec_of d)) e ∙ get_or-map spec_of ts i d

-- what a stage of a mill took, said by another mill's operators and reads
taken-as : (ss ts : List Stage) (w : ℕ) (xs : List Tagged) (k i : ℕ) (d : Stage) → specs_of ss ≡ specs_of ts →
    OperatorAfter (get_or ts i d).operator (inputs_of xs (outputs_after [] (take i (specs_of ts)) xs (k * w)) (get_or ts i d).reads) k →
    OperatorAfter (get_or ts i d).operator (inputs_of xs (outputs_after [] (take i (specs_of ss)) xs (k * w)) (get_or ss i d).reads) k
taken-as ss ts w xs k i d e h =
    let reads : (get_or ss i d).reads ≡ (get_or ts i d).reads = ap (λ (op : OpSpec). op.reads) (same-specs ss ts i d e) in
    rw (e, reads) h

-- a mill with these parts
abbrev mill_of : ℕ → List Stage → ℕ → Bool → MillState
mill_of width stages next spent = record { width = width; stages = stages; next = next; spent = spent }

same-parts : (w v : ℕ) (ss ts : List Stage) (k j : ℕ) (b c : Bool) → w ≡ v → ss ≡ ts → k ≡ j → b ≡ c → mill_of w ss k b ≡ mill_of v ts j c
same-parts w v ss ts k j b c width stages next spent = rw (width, stages, next, spent) refl

same-ready : (m n : MillState) (xs : List Tagged) (k : ℕ) → IsReady m → IsReady n → m.width ≡ n.width → specs_of m.stages ≡ specs_of n.stages →
    m.spent ≡ false → n.spent ≡ false → MillAfter m xs k → MillAfter n xs k → m ≡ n
same-ready m n xs k mill mill' width specs idle idle' after after' =
    let long : length m.stages ≡ length n.stages = sym (specs-length m.stages n.stages (sym specs)) in
    let stages : m.stages ≡ n.stages =
    same_lists m.stages n.stages long (λ i d low.
    let low' : i < length n.stages = omega (arith, low, long) in
    let reads = inputs_of xs (outputs_after [] (take i (specs_of m.stages)) xs (k * m.width)) (get_or m.stages i d).reads in
    let fit : IsFit m.width (get_or n.stages i d) = rw width (mill'.fits i d low') in
    let taken = taken-as m.stages n.stages m.width xs k i d specs (rw width (after'.stages i d low')) in
    same-stages (get_or m.stages i d) (get_or n.stages i d) m.width reads k (same-specs m.stages n.stages i d specs) (mill.fits i d low) fit
    (mill.idle idle i d low) (mill'.idle idle' i d low') (after.stages i d low) taken)
    in
    same-parts m.width n.width m.stages n.stages m.next n.next m.spent n.spent width stages (after.next ∙ sym after'.next) (idle ∙ sym idle')

-- a mill that took some inputs is ready for the next bucket
pub ready-mill : (m : MillState) → IsMill m → IsReady m
ready-mill m mill = record { fits = mill.fits; idle = mill.idle; waits = stages-next m mill }

pub same-mills : InputsDetermineMills
same-mills m n xs k mill mill' = same-ready m n xs k (ready-mill m mill) (ready-mill n mill')

-- .. and so they are as engines
pub mills-determined : (m n : MillState) (xs : List Tagged) (k : ℕ) → IsReady m → IsReady n → Some m.width ≡ Some n.width → specs_of m.stages ≡ specs_of n.stages →
    (m.spent ≡ false) × (n.spent ≡ false) → MillAfter m xs k × MillAfter n xs k → m ≡ n
mills-determined m n xs k mill mill' wide specs idle after =
    let width : m.width ≡ n.width = cc in same-ready m n xs k mill mill' width specs idle.0 idle.1 after.0 after.1
