-- A data path before its first bucket, and what it can process then.
use Rattle.std.proofs.Common.{◌≡◌, ℕ, ◌+◌, ◌-◌, ◌*◌, ◌^◌, ◌<◌, ◌≤◌, Bool, true, false, nat_le, List, [], ◌∷◌, ◌++◌, length, refl, sym, ap, subst, ◌∙◌, arith, All, min, Option, Some, None}
use Rattle.std.proofs.lemmas.Grind.{common_steps}
use Rattle.std.proofs.lemmas.List.Elements.{All-head, All-from_recursion}
use Rattle.std.proofs.lemmas.List.{append-nil}
use Rattle.std.specs.Prelude.{if◌then◌else◌, IfSome, IsNone}
use Rattle.dpc_lists.specs.Lists.{is_nil}
use Rattle.dpc_model.specs.Streams.{InOrder, cut}
use Rattle.dpc_model.specs.Engines.{LiesBelow, AcceptsAll}
use Rattle.dpc_model.specs.Fragments.{AreSoundOps, fragment_value}
use Rattle.dpc_model.specs.Inlets.{InletState, new_inlet, sess_of, take_batch}
use Rattle.dpc_model.specs.Parts.{Inputs, frontier_of, processed, processed_and_closed, Stream, stream_by, Outputs}
use Rattle.dpc_model.specs.PartStands.{OutputValue, StandsForPorts, StandsForOutput}
use Rattle.dpc_model.specs.declared.operators.OpSpec.{OpSpec}
use Rattle.dpc_model.specs.declared.tuples.Tuple.{Tuple}
use Rattle.dpc_model.specs.declared.tuples.Tagged.{Tagged}
use Rattle.dpc_model.specs.declared.tuples.Item.{Item}
use Rattle.dpc_model.specs.declared.tuples.Item.TheVariants.{Stable, Boundary, Tentative}
use Rattle.dpc_model.proofs.IdealCausality.{cut-fragment_value}
use Rattle.checkpoint_redo.specs.Keeping.{KeptValue}
use Rattle.fragment_mill.specs.Mills.{MillState, MillAfter}
use Rattle.dpc_model.specs.declared.sessions.Sub.{Sub}
use Rattle.soutput.specs.Giving.{new_output}
use Rattle.sunion.specs.Values.{SUnionValue}
use Rattle.sunion.specs.Laws.{new_inputs}
use Rattle.sunion.specs.Unions.{new_union, complete_upto_in, after_advancing, after_taking_at, taken_at, IsAccepted}
use Rattle.sunion.specs.declared.sunion.Verdict.{Verdict}
use Rattle.sunion.proofs.Lawful.{start-stands}
use Rattle.law_buckets.specs.Series.{AreReady, CanClose}
use Rattle.law_buckets.proofs.Advancing.{open-stream}
use Rattle.law_buckets.proofs.Ordered.{processed-ordered}
use Rattle.dpc_model.specs.Operators.{all_of}
use Rattle.dpc_model.proofs.Numbers.{none-times}
use Rattle.pipeline.specs.Flowing.{PipelineValue, IsMillOf, StandsForData, stably_upto, count_upto, CanMill, CanProcess}
use Rattle.pipeline.proofs.Work.{open-at}
use Rattle.pipeline.proofs.Wholes.{work-data}

-- ---- before the first bucket

none-of : (w b : ℕ) (xs : List Tagged) → b ≡ 0 → All (LiesBelow (b * w)) xs → xs ≡ []
none-of w b [] e h = refl
none-of w b (x ∷ xs) e h =
    let low = All-head (LiesBelow (b * w)) x xs h in
    let zero : b * w ≡ 0 = ap (λ (n : ℕ). n * w) e ∙ none-times w in
    absurd (omega (arith, low, zero))

-- nothing was processed
pub nothing-processed : (w : ℕ) (x : Inputs) → x.cursor ≡ 0 → processed w x ≡ []
nothing-processed w x e = none-of w x.cursor (processed w x) e (processed-ordered w x).below

cut-none : (ts : List Tuple) → cut ts 0 ≡ []
cut-none [] = refl
cut-none (t ∷ ts) = grind (arith, common_steps, cut-none ts)

-- of nothing comes nothing
pub value-none : (ops : List OpSpec) → AreSoundOps ops → fragment_value ops [] 0 ≡ []
value-none ops sound = sym (cut-fragment_value ops [] 0 0 sound (omega arith)) ∙ cut-none (fragment_value ops [] 0)

pub first-stream : (ops : List OpSpec) (w : ℕ) (passing : Bool) (x : Inputs) → AreSoundOps ops → x.cursor ≡ 0 → x.closed ≡ [] → stream_by (fragment_value ops) w passing x ≡ record { stable = []; bound = 0; tentative = []; passed = None }
first-stream ops w passing x sound start none =
    let nothing = nothing-processed w x start in
    let zero : x.cursor * w ≡ 0 = ap (λ (n : ℕ). n * w) start ∙ none-times w in
    let value : fragment_value ops (processed w x) (x.cursor * w) ≡ [] =
    ap (λ (xs : List Tagged). fragment_value ops xs (x.cursor * w)) nothing ∙ ap (λ (b : ℕ). fragment_value ops [] b) zero ∙ value-none ops sound in
    open-stream ops w passing x [] none value ∙ ap (λ (b : ℕ). record { stable = []; bound = b; tentative = []; passed = None }) zero

pub before-first : (ops : List OpSpec) (u : SUnionValue) (k : KeptValue MillState) (out : OutputValue) (passing : Bool) (x : Inputs) → AreSoundOps ops → 0 < u.width → StandsForPorts u.width u.union x →
    IsMillOf ops u.width k.keeper.state → k.keeper.held ≡ None → MillAfter k.keeper.state [] 0 → x.cursor ≡ 0 → x.closed ≡ [] →
    StandsForOutput (record { stable = []; bound = 0; tentative = []; passed = None }) out (record { subs = out.subs; acks = out.acks; base = 0 }) →
    StandsForData ops (record { union = u; keeper = k; output = out; passing = passing }) x (record { subs = out.subs; acks = out.acks; base = 0 })
before-first ops u k out passing x sound some ports mill held after start none output =
    let w = u.width in
    let nothing = nothing-processed w x start in
    let m = k.keeper.state in
    let at : MillAfter m (processed w x) x.cursor = subst (λ (xs : List Tagged). MillAfter m xs x.cursor) (sym nothing) (subst (λ (n : ℕ). MillAfter m [] n) (sym start) after) in
    let zero : x.cursor + 0 ≡ x.cursor = omega arith in
    let frontier : MillAfter m (processed_and_closed w x) (frontier_of x) =
    subst (λ (cs : List (List Tagged)). MillAfter m (processed w x ++ all_of cs) (x.cursor + length cs)) (sym none) (rw (zero, append-nil (processed w x)) at) in
    let empty : IsNone k.keeper.held = rw held refl in
    work-data ops u k out passing w x (record { subs = out.subs; acks = out.acks; base = 0 })
    (record {
      sound = sound;
      some = some;
      ports = ports;
      state = mill;
      held = subst (λ (o : Option MillState). IfSome o (IsMillOf ops w)) (sym held) tt;
      keeper = record { held = (λ _. none, λ _. empty); cursor = λ _. open-at k.keeper.held m (λ (s : MillState). MillAfter s (processed w x) x.cursor) empty at; frontier = λ _. frontier };
    }) refl
    (subst (λ (s : Stream). StandsForOutput s out (record { subs = out.subs; acks = out.acks; base = 0 })) (sym (first-stream ops w passing x sound start none)) output)

-- ---- the inputs of the test

taken : (a b : Tuple) → b.stime ≡ 15 → (take_batch (new_inlet 1) (sess_of 1 1) 0 (Stable 0 a ∷ Boundary 10 1 ∷ Tentative b ∷ [])).after
    ≡ record (new_inlet 1) { held = record { stable = a ∷ []; bound = 10; tentative = b ∷ []; passed = 0 }; next = 1 }
unfolding take_batch
taken a b e = let late : nat_le 10 b.stime ≡ true = rw e refl in rw late refl

-- one complete bucket
ready-inputs : (a b : Tuple) (x : Inputs) → b.stime ≡ 15 → x.cursor ≡ 0 → x.closed ≡ [] → x.inlets ≡ record (new_inlet 1) { held = record { stable = a ∷ []; bound = 10; tentative = b ∷ []; passed = 0 }; next = 1 } ∷ [] →
    AreReady 10 x 1 × (complete_upto_in 10 x ≡ 1)
ready-inputs a b x e start none is =
    let i : InletState = record (new_inlet 1) { held = record { stable = a ∷ []; bound = 10; tentative = b ∷ []; passed = 0 }; next = 1 } in
    let complete : complete_upto_in 10 x ≡ 1 = rw is refl in
    let late : 10 ≤ b.stime = omega (arith, e) in (
      record {
        ordered = rw is (All-from_recursion (λ (j : InletState). InOrder j.held.stable) (i ∷ []) ((tt, tt), tt));
        past = rw is (All-from_recursion (λ (j : InletState). All (λ (t : Tuple). j.held.bound ≤ t.stime) j.held.tentative) (i ∷ []) (All-from_recursion (λ (t : Tuple). 10 ≤ t.stime) (b ∷ []) (late, tt), tt));
        none_closed = none;
        complete = omega (arith, complete, start);
        end = omega (arith, start);
      },
      complete,
    )

pub fed : (u v : SUnionValue) (answer : Verdict) (items : List Item) (a b : Tuple) → u ≡ new_union 1 10 20 5 1 → items ≡ Stable 0 a ∷ Boundary 10 1 ∷ Tentative b ∷ [] → b.stime ≡ 15 → IsAccepted 0 (sess_of 1 1) 0 items 1 u v answer →
    (v.width ≡ 10) × ((x : Inputs) × StandsForPorts v.width v.union x × AreReady 10 x 1 × (x.cursor ≡ 0) × (complete_upto_in 10 x ≡ 1))
fed u v answer items a b new is e h =
    let x = new_inputs 1 1 in
    let y = after_taking_at u.width 1 0 (taken_at 0 (sess_of 1 1) 0 items x) x in
    let stood : StandsForPorts u.width u.union x = subst (λ (t : SUnionValue). StandsForPorts t.width t.union x) (sym new) (start-stands.0 1 10 20 5 1) in
    let inlet = ap (λ (is : List Item). (take_batch (new_inlet 1) (sess_of 1 1) 0 is).after) is ∙ taken a b e in
    let inlets : y.inlets ≡ record (new_inlet 1) { held = record { stable = a ∷ []; bound = 10; tentative = b ∷ []; passed = 0 }; next = 1 } ∷ [] = ap (λ (i : InletState). i ∷ []) inlet in
    let all = ready-inputs a b y e refl refl inlets in
    (h.fixed.0 ∙ ap (λ (t : SUnionValue). t.width) new, (y, h.after x stood, all.0, refl, all.1))

-- the whole, before its first bucket
pub first-can : (u : SUnionValue) (k : KeptValue MillState) (out : OutputValue) (passing : Bool) (p : PipelineValue) → u.width ≡ 10 →
    ((x : Inputs) × StandsForPorts u.width u.union x × AreReady 10 x 1 × (x.cursor ≡ 0) × (complete_upto_in 10 x ≡ 1)) → k.keeper.held ≡ None → MillAfter k.keeper.state [] 0 →
    ((ops : List OpSpec) × AreSoundOps ops × IsMillOf ops 10 k.keeper.state) → ((subs : List Sub) × (out ≡ record (new_output 1 0 [] 0) { subs = subs })) →
    p ≡ record { union = u; keeper = k; output = out; passing = passing } →
    (p.union.width ≡ 10) × ((ops : List OpSpec) × (x : Inputs) × (o : Outputs) × CanMill ops p x o 1 × (x.cursor ≡ 0) × (complete_upto_in 10 x ≡ 1))
first-can u k out passing p wide inputs held after mill told is =
    let ops = mill.0 in
    let x = inputs.0 in
    let ready = inputs.2 in
    let v = record (new_output 1 0 [] 0) { subs = told.0 } in
    let o : Outputs = record { subs = out.subs; acks = out.acks; base = 0 } in
    let bare : StandsForOutput (record { stable = []; bound = 0; tentative = []; passed = None }) v (record { subs = v.subs; acks = v.acks; base = 0 }) = record {
      count = refl;
      within = omega arith;
      kept = refl;
      base = refl;
      bound = refl;
      tentative = refl;
      passed = refl;
      subs = refl;
      acks = refl;
    } in
    let output : StandsForOutput (record { stable = []; bound = 0; tentative = []; passed = None }) out o =
    subst (λ (q : OutputValue). StandsForOutput (record { stable = []; bound = 0; tentative = []; passed = None }) q (record { subs = q.subs; acks = q.acks; base = 0 })) (sym told.1) bare in
    let path = before-first ops u k out passing x mill.1 (omega (arith, wide)) inputs.1 (subst (λ (w : ℕ). IsMillOf ops w k.keeper.state) (sym wide) mill.2) held after inputs.3 ready.none_closed output in
    let can : CanMill ops (record { union = u; keeper = k; output = out; passing = passing }) x o 1 = record { stands = path; some = omega arith; ready = subst (λ (w : ℕ). AreReady w x 1) (sym wide) ready } in
    (ap (λ (d : PipelineValue). d.union.width) is ∙ wide, (ops, x, o, subst (λ (d : PipelineValue). CanMill ops d x o 1) (sym is) can, inputs.3, inputs.4))

-- ---- the next bucket can be closed

few-are-none : (b : Bool) (n a : ℕ) → a ≡ 0 → min n (if b then a else 0) ≡ 0
few-are-none true n a e = omega (arith, e)
few-are-none false n a e = omega arith

pub can-close-next : (ops : List OpSpec) (p : PipelineValue) (x : Inputs) (o : Outputs) → StandsForData ops p (after_advancing 1 x) o → p.union.width ≡ 10 → AreReady 10 x 1 → x.cursor ≡ 0 → complete_upto_in 10 x ≡ 1 →
    CanProcess ops p (after_advancing 1 x) o 1
can-close-next ops p x o h wide ready start complete =
    let y = after_advancing 1 x in
    let none : length x.closed ≡ 0 = ap (λ (cs : List (List Tagged)). length cs) ready.none_closed in
    let some : complete_upto_in p.union.width x - (x.cursor + 1) ≡ 0 = ap (λ (w : ℕ). complete_upto_in w x - (x.cursor + 1)) wide ∙ (omega (arith, complete, start)) in
    let few : stably_upto p.union.width 1 y ≡ 0 = few-are-none (is_nil x.closed) (count_upto 1 y) (complete_upto_in p.union.width x - (x.cursor + 1)) some in
    let end : (frontier_of (after_advancing 0 y) + (count_upto 1 y - 0)) * 10 < 2 ^ 64 = omega (arith, start, none) in
    let closing : CanClose 10 (after_advancing 0 y) (count_upto 1 y - 0) = record {
      ordered = ready.ordered;
      placed = subst (λ (cs : List (List Tagged)). AcceptsAll (Some 10) ((x.cursor + 1) + 0) cs) (sym ready.none_closed) tt;
      end = end;
    } in
    record {
      stands = h;
      frontier = omega (arith, start, none);
      stable = λ e. absurd (omega (arith, e, few));
      closing =
          subst (λ (w : ℕ). CanClose w (after_advancing (stably_upto p.union.width 1 y) y) (count_upto 1 y - stably_upto p.union.width 1 y)) (sym wide)
          (subst (λ (n : ℕ). CanClose 10 (after_advancing n y) (count_upto 1 y - n)) (sym few) closing);
    }
