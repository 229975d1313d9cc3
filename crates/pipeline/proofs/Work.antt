-- The inputs and the operators go on to stand for the plain inputs.
use Rattle.std.proofs.Common.{◌≡◌, ℕ, ◌+◌, ◌*◌, ◌^◌, ◌<◌, List, [], ◌∷◌, ◌++◌, length, refl, sym, ap, subst, ◌∙◌, arith, append-nil, append_assoc, length-append, Option, Some, None, false, nat_le}
use Rattle.std.specs.Prelude.{IfSome, IsNone, ◌↔◌}
use Rattle.std.specs.List.{filter}
use Rattle.dpc_model.specs.Operators.{all_of}
use Rattle.dpc_model.specs.Engines.{FitsBucket}
use Rattle.dpc_model.specs.Parts.{Inputs, frontier_of, processed, processed_and_closed}
use Rattle.dpc_model.specs.PartStands.{at_cursor, StandsForPorts, StandsForKeeper}
use Rattle.dpc_model.specs.declared.operators.OpSpec.{OpSpec}
use Rattle.dpc_model.specs.declared.tuples.Tuple.{Tuple}
use Rattle.dpc_model.specs.declared.tuples.Tagged.{Tagged}
use Rattle.checkpoint_redo.specs.Keeping.{KeptValue}
use Rattle.fragment_mill.specs.Mills.{MillState, MillAfter}
use Rattle.sunion.specs.Values.{SUnionValue}
use Rattle.sunion.specs.Unions.{held_in, bucket_in, after_advancing, with_closed}
use Rattle.sunion.proofs.Lawful.{closing-stands}
use Rattle.law_buckets.specs.Series.{buckets_from, AreReady, CanClose, after_closing_all}
use Rattle.law_buckets.proofs.Accepted.{bucket-fits, count-buckets}
use Rattle.law_buckets.proofs.Advancing.{ready-buckets-advance}
use Rattle.law_buckets.proofs.Closing.{inputs-close, view-closes}
use Rattle.pipeline.specs.Flowing.{IsMillOf}
use Rattle.pipeline.specs.Running.{StandsForWork, HasRun, HasAdvanced, HasClosed}
use Rattle.pipeline.proofs.OneMore.{buckets-more}
use Rattle.pipeline.proofs.Ranges.{ends-below, number-below}

-- ---- one bucket

-- the next bucket of a mill that took so many
pub next-run : (ops : List OpSpec) (w : ℕ) (m : MillState) (before : List Tagged) (x : Inputs) (first i : ℕ) (added : List Tuple) → HasRun ops w m before (buckets_from w x first i) first added → first + i ≡ m.next
next-run ops w m before x first i added h = let next = h.after.next in let many = count-buckets w x first i in omega (arith, next, many)

-- a bucket that the inputs hold fits it
pub fits-run : (ops : List OpSpec) (w k : ℕ) (m : MillState) (x : Inputs) (bucket : List Tagged) → IsMillOf ops w m → bucket ≡ bucket_in w x k → (k + 1) * w < 2 ^ 64 → FitsBucket m.width k bucket
fits-run ops w k m x bucket mill same end =
    subst (λ (v : ℕ). FitsBucket v k bucket) (sym mill.wide)
    (subst (λ (xs : List Tagged). FitsBucket w k xs) (sym same) (bucket-fits w k (held_in x) end))

-- one bucket more was taken
pub run-next : (ops : List OpSpec) (w k : ℕ) (m : MillState) (before : List Tagged) (x : Inputs) (first i : ℕ) (bucket : List Tagged) (added : List Tuple) → bucket ≡ bucket_in w x k → k ≡ first + i →
    HasRun ops w m before (buckets_from w x first i ++ bucket ∷ []) first added → HasRun ops w m before (buckets_from w x first (i + 1)) first added
run-next ops w k m before x first i bucket added same number h =
    let here : bucket ≡ bucket_in w x (first + i) = same ∙ ap (λ (n : ℕ). bucket_in w x n) number in
    let all : buckets_from w x first i ++ bucket ∷ [] ≡ buckets_from w x first (i + 1) =
    ap (λ (b : List Tagged). buckets_from w x first i ++ b ∷ []) here ∙ sym (buckets-more w x first i) in
    subst (λ (bs : List (List Tagged)). HasRun ops w m before bs first added) all h

-- ---- ready buckets

pub none-run : (ops : List OpSpec) (u : SUnionValue) (k : KeptValue MillState) (x : Inputs) → StandsForWork ops u k x → x.closed ≡ [] → HasRun ops u.width k.keeper.state (processed u.width x) [] x.cursor []
none-run ops u k x h none = record {
  mill = h.state;
  after = subst (λ (cs : List (List Tagged)). MillAfter k.keeper.state (processed u.width x ++ all_of cs) (x.cursor + length cs)) none (h.keeper.frontier refl);
  output = refl;
}

pub open-at : (o : Option MillState) (m : MillState) (P : MillState → Type 0) → IsNone o → P m → P (elim o [ None ↦ m | Some n ↦ n ])
open-at None m P none p = p
open-at (Some n) m P none p = absurd cc

pub work-advanced : (ops : List OpSpec) (u v : SUnionValue) (k n : KeptValue MillState) (x : Inputs) (count : ℕ) (added : List Tuple) → v.width ≡ u.width →
    StandsForPorts v.width v.union (after_advancing count x) → n.keeper.held ≡ k.keeper.held → StandsForWork ops u k x → AreReady u.width x count →
    HasRun ops u.width n.keeper.state (processed u.width x) (buckets_from u.width x x.cursor count) x.cursor added → HasAdvanced ops v n u.width x count added
work-advanced ops u v k n x count added wide ports same h ready run =
    let w = u.width in
    let m = n.keeper.state in
    let y = after_advancing count x in
    let number : x.cursor + length (buckets_from w x x.cursor count) ≡ x.cursor + count = ap (λ (j : ℕ). x.cursor + j) (count-buckets w x x.cursor count) in
    let inputs = (ready-buckets-advance ops w false x count h.some ready).inputs in
    let stood : MillAfter m (processed w y) (x.cursor + count) =
    subst (λ (j : ℕ). MillAfter m (processed w y) j) number (subst (λ (xs : List Tagged). MillAfter m xs (x.cursor + length (buckets_from w x x.cursor count))) (sym inputs) run.after) in
    let none : IsNone n.keeper.held = subst (λ (o : Option MillState). IsNone o) (sym same) (h.keeper.held.1 ready.none_closed) in
    let whole : MillAfter m (processed w y ++ []) ((x.cursor + count) + 0) =
    let zero : (x.cursor + count) + 0 ≡ x.cursor + count = omega arith in rw (zero, append-nil (processed w y)) stood in
    let keeper : StandsForKeeper MillAfter w false n.keeper y = record {
      held = subst (λ (o : Option MillState). IsNone o ↔ (x.closed ≡ [])) (sym same) h.keeper.held;
      cursor = λ _. open-at n.keeper.held m (λ (s : MillState). MillAfter s (processed w y) (x.cursor + count)) none stood;
      frontier = λ _. subst (λ (cs : List (List Tagged)). MillAfter m (processed w y ++ all_of cs) ((x.cursor + count) + length cs)) (sym ready.none_closed) whole;
    } in
    record {
      stands = record {
        sound = h.sound;
        some = subst (λ (j : ℕ). 0 < j) (sym wide) h.some;
        ports = ports;
        state = subst (λ (j : ℕ). IsMillOf ops j m) (sym wide) run.mill;
        held = subst (λ (j : ℕ). IfSome n.keeper.held (IsMillOf ops j)) (sym wide) (subst (λ (o : Option MillState). IfSome o (IsMillOf ops w)) (sym same) h.held);
        keeper = subst (λ (j : ℕ). StandsForKeeper MillAfter j false n.keeper y) (sym wide) keeper;
      };
      output = run.output;
    }

-- over no bucket
pub work-still : (ops : List OpSpec) (u v : SUnionValue) (k : KeptValue MillState) (x : Inputs) (count : ℕ) → count ≡ 0 → v.width ≡ u.width → StandsForPorts v.width v.union (after_advancing 0 x) → StandsForWork ops u k x → HasAdvanced ops v k u.width x count []
work-still ops u v k x count e wide ports h =
    let w = u.width in
    let zero : x.cursor ≡ x.cursor + 0 = omega arith in
    let keeper : StandsForKeeper MillAfter w false k.keeper (after_advancing 0 x) =
    subst (λ (c : ℕ). StandsForKeeper MillAfter w false k.keeper (record x { cursor = c; stamps = filter (λ (s : ℕ × ℕ). nat_le (x.cursor + 0) s.0) x.stamps })) zero
    (record { held = h.keeper.held; cursor = h.keeper.cursor; frontier = h.keeper.frontier }) in
    rw e (record {
      stands = record {
        sound = h.sound;
        some = subst (λ (j : ℕ). 0 < j) (sym wide) h.some;
        ports = ports;
        state = subst (λ (j : ℕ). IsMillOf ops j k.keeper.state) (sym wide) h.state;
        held = subst (λ (j : ℕ). IfSome k.keeper.held (IsMillOf ops j)) (sym wide) h.held;
        keeper = subst (λ (j : ℕ). StandsForKeeper MillAfter j false k.keeper (after_advancing 0 x)) (sym wide) keeper;
      };
      output = refl;
    })

-- ---- closed buckets

pub view-run : (ops : List OpSpec) (u : SUnionValue) (k : KeptValue MillState) (x : Inputs) → StandsForWork ops u k x → HasRun ops u.width k.keeper.state (processed_and_closed u.width x) [] (frontier_of x) []
view-run ops u k x h = record {
  mill = h.state;
  after = let zero : frontier_of x + 0 ≡ frontier_of x = omega arith in rw (zero, append-nil (processed_and_closed u.width x)) (h.keeper.frontier refl);
  output = refl;
}

-- the inputs with one bucket more closed
pub ports-more : (u v : SUnionValue) (x : Inputs) (w i : ℕ) → v.width ≡ w → u ≡ with_closed (v.union.closed + 1) v → StandsForPorts v.width v.union (after_closing_all w i x) → StandsForPorts u.width u.union (after_closing_all w (i + 1) x)
ports-more u v x w i wide new h =
    let y = after_closing_all w i x in
    let more = closing-stands v y h in
    let next : frontier_of y ≡ frontier_of x + i = view-closes w x i in
    let closed : y.closed ++ bucket_in v.width y (frontier_of y) ∷ [] ≡ x.closed ++ buckets_from w x (frontier_of x) (i + 1) =
    ap (λ (j : ℕ). y.closed ++ bucket_in j x (frontier_of y) ∷ []) wide
    ∙ ap (λ (j : ℕ). y.closed ++ bucket_in w x j ∷ []) next
    ∙ append_assoc x.closed (buckets_from w x (frontier_of x) i) (bucket_in w x (frontier_of x + i) ∷ [])
    ∙ ap (λ (bs : List (List Tagged)). x.closed ++ bs) (sym (buckets-more w x (frontier_of x) i)) in
    subst (λ (t : SUnionValue). StandsForPorts t.width t.union (after_closing_all w (i + 1) x)) (sym new)
    (subst (λ (cs : List (List Tagged)). StandsForPorts v.width (record v.union { closed = v.union.closed + 1 }) (record x { closed = cs })) closed more)

pub cursor-mill : (P : MillState → Type 0) (o : Option MillState) (m : MillState) → P m → IfSome o P → P (elim o [ None ↦ m | Some n ↦ n ])
cursor-mill P None m p h = p
cursor-mill P (Some n) m p h = h

not-empty : (xs ys : List (List Tagged)) (count : ℕ) → 0 < count → length ys ≡ count → xs ++ ys ≡ [] → ⊥
not-empty xs ys count some many e = let none = ap (λ (zs : List (List Tagged)). length zs) e in let all = length-append xs ys in omega (arith, none, all, many, some)

pub work-closed : (ops : List OpSpec) (u v : SUnionValue) (k n : KeptValue MillState) (x : Inputs) (count : ℕ) (added : List Tuple) → 0 < count → v.width ≡ u.width →
    StandsForPorts v.width v.union (after_closing_all u.width count x) → n.keeper.held ≡ Some (at_cursor k.keeper) → StandsForWork ops u k x → CanClose u.width x count →
    HasRun ops u.width n.keeper.state (processed_and_closed u.width x) (buckets_from u.width x (frontier_of x) count) (frontier_of x) added → HasClosed ops v n u.width x count added
work-closed ops u v k n x count added some wide ports same h can run =
    let w = u.width in
    let m = n.keeper.state in
    let at = at_cursor k.keeper in
    let y = after_closing_all w count x in
    let bs = buckets_from w x (frontier_of x) count in
    let number : frontier_of x + length bs ≡ frontier_of y = ap (λ (j : ℕ). frontier_of x + j) (count-buckets w x (frontier_of x) count) ∙ sym (view-closes w x count) in
    let stood : MillAfter m (processed_and_closed w y) (frontier_of y) =
    subst (λ (j : ℕ). MillAfter m (processed_and_closed w y) j) number (subst (λ (xs : List Tagged). MillAfter m xs (frontier_of x + length bs)) (sym (inputs-close w x count)) run.after) in
    let held : IsNone (Some at) ↔ (y.closed ≡ []) = (λ none. absurd cc, λ e. absurd (not-empty x.closed bs count some (count-buckets w x (frontier_of x) count) e)) in
    let keeper : StandsForKeeper MillAfter w false (record { state = m; held = Some at }) y = record { held = held; cursor = λ _. h.keeper.cursor refl; frontier = λ _. stood } in
    record {
      stands = record {
        sound = h.sound;
        some = subst (λ (j : ℕ). 0 < j) (sym wide) h.some;
        ports = ports;
        state = subst (λ (j : ℕ). IsMillOf ops j m) (sym wide) run.mill;
        held =
            subst (λ (j : ℕ). IfSome n.keeper.held (IsMillOf ops j)) (sym wide)
            (subst (λ (o : Option MillState). IfSome o (IsMillOf ops w)) (sym same) (cursor-mill (IsMillOf ops w) k.keeper.held k.keeper.state h.state h.held));
        keeper =
            subst (λ (j : ℕ). StandsForKeeper MillAfter j false n.keeper y) (sym wide)
            (subst (λ (o : Option MillState). StandsForKeeper MillAfter w false (record { state = m; held = o }) y) (sym same) keeper);
      };
      output = run.output;
    }

-- over no bucket
pub work-open : (ops : List OpSpec) (u : SUnionValue) (k : KeptValue MillState) (x : Inputs) (count : ℕ) → count ≡ 0 → StandsForWork ops u k x → HasClosed ops u k u.width x count []
work-open ops u k x count e h =
    let none : x.closed ≡ x.closed ++ [] = sym (append-nil x.closed) in
    rw e (record { stands = subst (λ (cs : List (List Tagged)). StandsForWork ops u k (record x { closed = cs })) none h; output = refl })

-- ---- numbers

pub view-number : (v : SUnionValue) (x : Inputs) (w i : ℕ) → StandsForPorts v.width v.union (after_closing_all w i x) → v.union.cursor + v.union.closed ≡ frontier_of x + i
view-number v x w i h = let cursor = h.cursor in let closed = h.closed in let next = view-closes w x i in omega (arith, cursor, closed, next)

pub view-is : (v : SUnionValue) (x : Inputs) (w i k cursor closed : ℕ) → cursor ≡ v.union.cursor → closed ≡ v.union.closed → k ≡ cursor + closed →
    StandsForPorts v.width v.union (after_closing_all w i x) → k ≡ frontier_of x + i
view-is v x w i k cursor closed a b e h = let number = view-number v x w i h in omega (arith, a, b, e, number)

-- the next bucket to close, where i are closed, is that of the inputs before
pub closed-bucket : (v : SUnionValue) (x : Inputs) (w i : ℕ) (bucket : List Tagged) → v.width ≡ w → bucket ≡ bucket_in v.width (after_closing_all w i x) (frontier_of (after_closing_all w i x)) → bucket ≡ bucket_in w x (frontier_of x + i)
closed-bucket v x w i bucket wide e =
    e ∙ ap (λ (j : ℕ). bucket_in j x (frontier_of (after_closing_all w i x))) wide ∙ ap (λ (n : ℕ). bucket_in w x n) (view-closes w x i)

-- where i of so many buckets are closed, one more can be
pub can-end : (ops : List OpSpec) (u : SUnionValue) (k : KeptValue MillState) (x : Inputs) (count i : ℕ) → StandsForWork ops u k x → CanClose u.width x count → i < count → (frontier_of x + i + 1) * u.width < 2 ^ 64
can-end ops u k x count i h can low = ends-below u.width (frontier_of x + i + 1) (frontier_of x + count) (2 ^ 64) (omega (arith, low)) can.end

pub can-number : (ops : List OpSpec) (u : SUnionValue) (k : KeptValue MillState) (x : Inputs) (count i : ℕ) → StandsForWork ops u k x → CanClose u.width x count → i < count → frontier_of x + i + 1 < 2 ^ 64
can-number ops u k x count i h can low = number-below u.width (frontier_of x + i + 1) (2 ^ 64) h.some (can-end ops u k x count i h can low)
