-- A mill over one bucket, stage by stage.
use Rattle.std.proofs.Common.{◌≡◌, ℕ, zero, suc, ◌+◌, ◌*◌, ◌<◌, ◌≤◌, true, false, List, [], ◌∷◌, ◌++◌, map, length, take, get_or, set, Option, None, Some, unwrap_or, refl, sym, ◌∙◌, ap, subst, ⊎_elim, arith, All}
use Rattle.std.proofs.lemmas.Bool.{cases_lt}
use Rattle.std.proofs.lemmas.List.{map-append, take_more, take_all, length-map, get_or-set_same, get_or-set_other}
use Rattle.std.proofs.lemmas.List.Elements.{All-set, All-nil, recursion_from_All}
use Rattle.std.proofs.Math.ListN.{get_or-map}
use Rattle.std.proofs.Math.Seq.{map-set_same}
use Rattle.std.specs.List.{AllByRecursion, last_or}
use Rattle.dpc_lists.specs.Lists.{push}
use Rattle.dpc_model.specs.Engines.{FitsBucket, LiesIn, Accepts, from_time, engine_value, added_output}
use Rattle.dpc_model.specs.Operators.{output_of}
use Rattle.dpc_model.specs.Fragments.{read_wire, outputs_after, AreSoundOps}
use Rattle.dpc_model.specs.declared.tuples.Tuple.{Tuple}
use Rattle.dpc_model.specs.declared.tuples.Tagged.{Tagged}
use Rattle.dpc_model.specs.declared.operators.OpSpec.{OpSpec}
use Rattle.dpc_model.proofs.Buckets.{LiesBelow-next, inputs-ordered, added-is}
use Rattle.dpc_model.proofs.IdealCausality.{cut-fragment_value}
use Rattle.dpc_model.proofs.FragmentValues.{outputs-more}
use Rattle.dpc_model.proofs.Order.{fragment-InOrder}
use Rattle.dpc_model.proofs.Kept.{last-mapped}
use Rattle.dpc_model.proofs.Serial.{serial-is, serial-adjacent}
use Rattle.fragment_mill.specs.Mills.{kind_of, width_of, next_of, spent_of, OperatorAfter, MillState, spec_of, specs_of, inputs_of, MillAfter, mill_added}
use Rattle.fragment_mill.specs.Milling.{added_of, IsOfBucket, AreOfBucket, IsFit, IsReady}
use Rattle.fragment_mill.specs.declared.mill.Stage.{Stage}
use Rattle.fragment_mill.proofs.Operators.{Accepts-from}
use Rattle.fragment_mill.proofs.Places.{inputs-lie}
use Rattle.fragment_mill.proofs.Stepping.{inputs-split, added-output}

-- ---- lists of stages

-- the stages fit, their operators are those that they were, and those from number i on stand as they stood
pub record Renewed (w i : ℕ) (olds news : List Stage) : Type 0 where
  pub specs : specs_of news ≡ specs_of olds
  pub fits : All (IsFit w) news
  pub waiting : (j : ℕ) (d : Stage) → i ≤ j → get_or news j d ≡ get_or olds j d

pub Renewed-none : (w : ℕ) (olds : List Stage) → All (IsFit w) olds → Renewed w 0 olds olds
Renewed-none w olds fits = record { specs = refl; fits = fits; waiting = λ j d h. refl }

pub specs-length : (ss ts : List Stage) → specs_of ts ≡ specs_of ss → length ts ≡ length ss
specs-length ss ts e = sym (length-map ts spec_of) ∙ ap (λ (ops : List OpSpec). length ops) e ∙ length-map ss spec_of

-- a stage reads what it read
reads-stay : (j : ℕ) (d : Stage) (ss ts : List Stage) → specs_of ts ≡ specs_of ss → (get_or ts j d).reads ≡ (get_or ss j d).reads
reads-stay j d ss ts e =
    ap (λ (op : OpSpec). op.reads) (sym (get_or-map spec_of ts j d) ∙ ap (λ (ops : List OpSpec). get_or ops j (spec_of d)) e ∙ get_or-map spec_of ss j d)

-- one stage more
pub Renewed-more : (w i : ℕ) (s t : Stage) (olds news : List Stage) → Renewed w i olds news → s ≡ get_or news i s → spec_of t ≡ spec_of s → IsFit w t → Renewed w (i + 1) olds (set news i t)
Renewed-more w i s t olds news r at spec fit = record {
  specs = map-set_same spec_of news i t s (spec ∙ ap spec_of at) ∙ r.specs;
  fits = All-set (IsFit w) news i t fit r.fits;
  waiting = λ j e h. get_or-set_other news i j t e (λ same. omega (arith, h, same)) ∙ r.waiting j e (omega (arith, h));
}

-- what holds of the stages below i, and of the next one in its new state
pub below-more : (P : Stage → Type 0) (i : ℕ) (t : Stage) (ts : List Stage) → i < length ts → ((j : ℕ) (d : Stage) → j < i → P (get_or ts j d)) → P t →
    (j : ℕ) (d : Stage) → j < i + 1 → P (get_or (set ts i t) j d)
below-more P i t ts l h p = λ j d low. ⊎_elim
    (λ (below : j < i). subst P (sym (get_or-set_other ts i j t d (λ same. omega (arith, below, same)))) (h j d below))
    (λ (least : i ≤ j). let same : j ≡ i = omega (arith, low, least) in rw (same, get_or-set_same ts i t d l) p)
    (cases_lt j i)

get_or-any : (i : ℕ) (d e : Stage) (ts : List Stage) → i < length ts → get_or ts i d ≡ get_or ts i e
get_or-any i d e [] h = absurd (omega (arith, h))
get_or-any zero d e (t ∷ ts) h = refl
get_or-any (suc i) d e (t ∷ ts) h = get_or-any i d e ts (omega (arith, h))

-- ---- the operators before a stage

sound-all : (w i : ℕ) (ss : List Stage) → AllByRecursion (IsFit w) ss → AreSoundOps (take i (specs_of ss))
sound-all w zero ss f = tt
sound-all w (suc i) [] f = tt
sound-all w (suc i) (s ∷ ss) f = (f.0.sound, sound-all w i ss f.1)

pub sound-take : (w i : ℕ) (ss : List Stage) → All (IsFit w) ss → AreSoundOps (take i (specs_of ss))
sound-take w i ss f = sound-all w i ss (recursion_from_All (IsFit w) ss f)

-- what the first i operators give
abbrev pub outputs_of : List OpSpec → ℕ → List Tagged → ℕ → List (List Tuple)
outputs_of ops i xs b = outputs_after [] (take i ops) xs b

outputs_of-more : (ss : List Stage) (i : ℕ) (d : Stage) (xs : List Tagged) (b : ℕ) → i < length ss →
    outputs_of (specs_of ss) (i + 1) xs b
    ≡ push (outputs_of (specs_of ss) i xs b) (output_of (kind_of (get_or ss i d).operator) (map (read_wire xs (outputs_of (specs_of ss) i xs b)) (get_or ss i d).reads) b)
outputs_of-more ss i d xs b h =
    let inside : i < length (specs_of ss) = omega (arith, h, length-map ss spec_of) in
    let more : take (i + 1) (specs_of ss) ≡ take i (specs_of ss) ++ spec_of (get_or ss i d) ∷ [] =
    take_more (specs_of ss) i (spec_of d) inside ∙ ap (λ (op : OpSpec). take i (specs_of ss) ++ op ∷ []) (get_or-map spec_of ss i d) in
    ap (λ (ops : List OpSpec). outputs_after [] ops xs b) more ∙ outputs-more [] (take i (specs_of ss)) (spec_of (get_or ss i d)) xs b

-- the last one that was pushed
last-pushed : (d : Option (List Tuple)) (xss : List (List Tuple)) (ts : List Tuple) → unwrap_or (last_or d (xss ++ ts ∷ [])) [] ≡ ts
last-pushed d [] ts = refl
last-pushed d (us ∷ xss) ts = last-pushed (Some us) xss ts

-- ---- over one bucket

-- after i stages: what they took, whatever the mill had taken before
pub record Stood (m : MillState) (inputs : List Tagged) (k i : ℕ) (news : List Stage) : Type 0 where
  pub renewed : Renewed m.width i m.stages news
  pub idle : (j : ℕ) (d : Stage) → j < i → spent_of (get_or news j d).operator ≡ false
  pub waits : (j : ℕ) (d : Stage) → j < i → next_of (get_or news j d).operator ≡ k + 1
  pub took : (before : List Tagged) → MillAfter m before k → (j : ℕ) (d : Stage) → j < i →
      OperatorAfter (get_or news j d).operator (inputs_of (before ++ inputs) (outputs_of (specs_of m.stages) j (before ++ inputs) ((k + 1) * m.width)) (get_or m.stages j d).reads) (k + 1)

-- and what they added
pub record Running (m : MillState) (inputs : List Tagged) (k i : ℕ) (news : List Stage) (outs : List (List Tuple)) : Type 0 where
  pub stood : Stood m inputs k i news
  pub gave : (before : List Tagged) → MillAfter m before k →
      outs ≡ map (λ (ts : List Tuple). from_time (k * m.width) ts) (outputs_of (specs_of m.stages) i (before ++ inputs) ((k + 1) * m.width))
  pub lies : AreOfBucket m.width k outs

pub Running-none : (m : MillState) (inputs : List Tagged) (k : ℕ) → All (IsFit m.width) m.stages → Running m inputs k 0 m.stages []
Running-none m inputs k fits = record {
  stood = record {
    renewed = Renewed-none m.width m.stages fits;
    idle = λ j d l. absurd (omega (arith, l));
    waits = λ j d l. absurd (omega (arith, l));
    took = λ before h j d l. absurd (omega (arith, l));
  };
  gave = λ before h. refl;
  lies = All-nil (λ (ts : List Tuple). All (IsOfBucket m.width k) ts);
}

-- the next stage of a mill takes what it reads of the bucket
module _ (m : MillState) (inputs : List Tagged) (k i : ℕ) (s : Stage) (news : List Stage) (outs : List (List Tuple)) (mill : IsReady m) (idle : m.spent ≡ false) (next : k ≡ m.next)
    (bucket : FitsBucket m.width k inputs) (r : Running m inputs k i news outs) (l : i < length m.stages) (at : s ≡ get_or news i s) where
  abbrev ops : List OpSpec
  ops = specs_of m.stages

  -- it stands as it stood
  here : s ≡ get_or m.stages i s
  here = at ∙ r.stood.renewed.waiting i s (omega arith)

  fit : IsFit m.width s
  fit = subst (λ (u : Stage). IsFit m.width u) (sym here) (mill.fits i s l)

  ready : (before : List Tagged) → MillAfter m before k → OperatorAfter s.operator (inputs_of before (outputs_of ops i before (k * m.width)) s.reads) k
  ready before h = subst (λ (u : Stage). OperatorAfter u.operator (inputs_of before (outputs_of ops i before (k * m.width)) u.reads) k) (sym here) (h.stages i s l)

  sound : AreSoundOps (take i ops)
  sound = sound-take m.width i m.stages mill.fits

  -- its operator waits for this bucket
  pub Running-next : k ≡ next_of s.operator
  Running-next = next ∙ sym (subst (λ (u : Stage). next_of u.operator ≡ m.next) (sym here) (mill.waits idle i s l))

  -- what it reads lies in the bucket
  reads-lie : All (LiesIn m.width k) (inputs_of inputs outs s.reads)
  reads-lie = inputs-lie m.width k inputs outs s.reads bucket.bucket.inside r.lies

  -- and it can take it
  pub Running-accepts : Accepts (width_of s.operator) k (inputs_of inputs outs s.reads)
  Running-accepts =
      Accepts-from m.width k (width_of s.operator) (inputs_of inputs outs s.reads) fit.width
      (record { bucket = record { inside = reads-lie; ordered = serial-adjacent (inputs_of inputs outs s.reads) (serial-is (map (read_wire inputs outs) s.reads)) }; end = bucket.end })

  pub Running-renewed : (t : Stage) → spec_of t ≡ spec_of s → ((w : ℕ) → IsFit w s → IsFit w t) → Renewed m.width (i + 1) m.stages (set news i t)
  Running-renewed t spec fits = Renewed-more m.width i s t m.stages news r.stood.renewed at spec (fits m.width fit)

  -- what the stages took, with this one
  pub Stood-more : (t : Stage) →
      ((before : List Tagged) → OperatorAfter s.operator before k → OperatorAfter t.operator (before ++ inputs_of inputs outs s.reads) (k + 1)) →
      spent_of t.operator ≡ false → next_of t.operator ≡ k + 1 → spec_of t ≡ spec_of s → ((w : ℕ) → IsFit w s → IsFit w t) → Stood m inputs k (i + 1) (set news i t)
  Stood-more t after rested waited spec fits =
      let end = (k + 1) * m.width in
      record {
        renewed = Running-renewed t spec fits;
        idle = below-more (λ (u : Stage). spent_of u.operator ≡ false) i t news (omega (arith, l, specs-length m.stages news r.stood.renewed.specs)) r.stood.idle rested;
        waits = below-more (λ (u : Stage). next_of u.operator ≡ k + 1) i t news (omega (arith, l, specs-length m.stages news r.stood.renewed.specs)) r.stood.waits waited;
        took = λ before h j e low. ⊎_elim
            (λ (below : j < i).
            subst (λ (u : Stage). OperatorAfter u.operator (inputs_of (before ++ inputs) (outputs_of ops j (before ++ inputs) end) (get_or m.stages j e).reads) (k + 1))
            (sym (get_or-set_other news i j t e (λ same. omega (arith, below, same)))) (r.stood.took before h j e below))
            (λ (least : i ≤ j).
            let same : j ≡ i = omega (arith, low, least) in
            let inside : i < length news = omega (arith, l, specs-length m.stages news r.stood.renewed.specs) in
            let split = inputs-split m.width k before inputs (take i ops) s h.below h.ordered bucket.bucket sound in
            let taken = rw (r.gave before h, split) at (after (inputs_of before (outputs_of ops i before (k * m.width)) s.reads) (ready before h)) in
            rw (same, get_or-set_same news i t e inside, get_or-any i e s m.stages l)
            (subst (λ (u : Stage). OperatorAfter t.operator (inputs_of (before ++ inputs) (outputs_of ops i (before ++ inputs) end) u.reads) (k + 1)) here taken))
            (cases_lt j i);
      }

  -- what this stage had taken, where the mill had taken these
  abbrev pub stood_of : List Tagged → List Tagged
  stood_of before = inputs_of before (outputs_of ops i before (k * m.width)) s.reads

  pub Running-ready : (before : List Tagged) → MillAfter m before k → OperatorAfter s.operator (stood_of before) k
  Running-ready = ready

  -- its whole output
  abbrev whole_of : List Tagged → List Tuple
  whole_of before = output_of (kind_of s.operator) (map (read_wire (before ++ inputs) (outputs_of ops i (before ++ inputs) ((k + 1) * m.width))) s.reads) ((k + 1) * m.width)

  adds : (before : List Tagged) → MillAfter m before k → added_of s.operator (stood_of before) (inputs_of inputs outs s.reads) k ≡ from_time (k * m.width) (whole_of before)
  adds before h = rw (r.gave before h) (added-output m.width k before inputs (take i ops) s h.below h.ordered bucket.bucket sound fit)

  outputs-are : (before : List Tagged) → outputs_of ops (i + 1) (before ++ inputs) ((k + 1) * m.width) ≡ push (outputs_of ops i (before ++ inputs) ((k + 1) * m.width)) (whole_of before)
  outputs-are before =
      let end = (k + 1) * m.width in
      outputs_of-more m.stages i s (before ++ inputs) end l
      ∙ ap (λ (u : Stage). push (outputs_of ops i (before ++ inputs) end) (output_of (kind_of u.operator) (map (read_wire (before ++ inputs) (outputs_of ops i (before ++ inputs) end)) u.reads) end)) (sym here)

  pub Running-more : (t : Stage) (more : List (List Tuple)) →
      ((before : List Tagged) → OperatorAfter s.operator before k → more ≡ push outs (added_of s.operator before (inputs_of inputs outs s.reads) k)) →
      ((before : List Tagged) → OperatorAfter s.operator before k → OperatorAfter t.operator (before ++ inputs_of inputs outs s.reads) (k + 1)) →
      spent_of t.operator ≡ false → next_of t.operator ≡ k + 1 → spec_of t ≡ spec_of s → ((w : ℕ) → IsFit w s → IsFit w t) →
      ((w : ℕ) → unwrap_or (width_of s.operator) w ≡ w → All (LiesIn w k) (inputs_of inputs outs s.reads) → AreOfBucket w k outs → AreOfBucket w k more) → Running m inputs k (i + 1) (set news i t) more
  Running-more t more answer after rested waited spec fits lie =
      record {
        stood = Stood-more t after rested waited spec fits;
        gave = λ before h.
            answer (stood_of before) (ready before h) ∙ ap (λ (ts : List Tuple). push outs ts) (adds before h)
            ∙ rw (r.gave before h, outputs-are before) (sym (map-append (λ (ts : List Tuple). from_time (k * m.width) ts) (outputs_of ops i (before ++ inputs) ((k + 1) * m.width)) (whole_of before ∷ [])));
        lies = lie m.width fit.width reads-lie r.lies;
      }

  -- what the last stage adds is what the mill does
  pub Running-adds : i + 1 ≡ length m.stages → (before : List Tagged) → MillAfter m before k →
      added_of s.operator (stood_of before) (inputs_of inputs outs s.reads) k ≡ mill_added m before inputs k
  Running-adds last before h =
      let end = (k + 1) * m.width in
      let all : take (i + 1) ops ≡ ops = take_all (i + 1) ops (omega (arith, last, length-map m.stages spec_of)) in
      let sound-ops = rw all at (sound-take m.width (i + 1) m.stages mill.fits) in
      let ordered = inputs-ordered m.width k before inputs h.ordered h.below bucket.bucket in
      let whole : engine_value ops (before ++ inputs) end ≡ whole_of before =
      ap (λ (os : List OpSpec). unwrap_or (last_or None (outputs_after [] os (before ++ inputs) end)) []) (sym all)
      ∙ ap (λ (xss : List (List Tuple)). unwrap_or (last_or None xss) []) (outputs-are before)
      ∙ last-pushed None (outputs_of ops i (before ++ inputs) end) (whole_of before) in
      adds before h ∙ ap (λ (ts : List Tuple). from_time (k * m.width) ts) (sym whole)
      ∙ sym (added-is (engine_value ops) m.width k before inputs (λ xs b b' le. cut-fragment_value ops xs b b' sound-ops le)
      (fragment-InOrder ops (before ++ inputs) end ordered) h.below bucket.bucket.inside)

-- all stages of a mill took the bucket
module _ (m : MillState) (inputs : List Tagged) (k i : ℕ) (news : List Stage) (outs : List (List Tuple)) (mill : IsReady m) (bucket : FitsBucket m.width k inputs)
    (r : Running m inputs k i news outs) (l : length m.stages ≤ i) where
  -- the last output is what the bucket adds
  pub Running-answer : (before : List Tagged) → MillAfter m before k → unwrap_or (last_or None outs) [] ≡ added_output (engine_value (specs_of m.stages)) m.width before inputs k
  Running-answer before h =
      let ops = specs_of m.stages in
      let all : take i ops ≡ ops = take_all i ops (omega (arith, l, length-map m.stages spec_of)) in
      let sound = rw all at (sound-take m.width i m.stages mill.fits) in
      let end = (k + 1) * m.width in
      let ordered = inputs-ordered m.width k before inputs h.ordered h.below bucket.bucket in
      let whole = outputs_after [] ops (before ++ inputs) end in
      let given : outs ≡ map (λ (ts : List Tuple). from_time (k * m.width) ts) whole = rw all at (r.gave before h) in
      rw given (sym (last-mapped (λ (ts : List Tuple). from_time (k * m.width) ts) refl whole))
      ∙ sym (added-is (engine_value ops) m.width k before inputs (λ xs b b' le. cut-fragment_value ops xs b b' sound le)
      (fragment-InOrder ops (before ++ inputs) end ordered) h.below bucket.bucket.inside)

-- all stages took it
module _ (m : MillState) (inputs : List Tagged) (k i : ℕ) (news : List Stage) (mill : IsReady m) (bucket : FitsBucket m.width k inputs)
    (r : Stood m inputs k i news) (l : length m.stages ≤ i) where
  -- the mill before the next bucket
  abbrev pub milled : ℕ → MillState
  milled w = record { width = w; stages = news; next = k + 1; spent = false }

  -- it took it
  pub Stood-after : (w : ℕ) → w ≡ m.width → (before : List Tagged) → MillAfter m before k → MillAfter (milled w) (before ++ inputs) (k + 1)
  Stood-after w e before h = rw e (record {
    next = refl;
    below = LiesBelow-next m.width k before inputs h.below bucket.bucket.inside;
    ordered = inputs-ordered m.width k before inputs h.ordered h.below bucket.bucket;
    stages = λ j d low.
        let inside : j < length m.stages = omega (arith, low, specs-length m.stages news r.renewed.specs) in
        rw (r.renewed.specs, reads-stay j d m.stages news r.renewed.specs) (r.took before h j d (omega (arith, inside, l)));
  })

  pub Stood-done : (w : ℕ) → w ≡ m.width → IsReady (milled w)
  Stood-done w e = record {
    fits = rw e r.renewed.fits;
    idle = λ _ j d low. r.idle j d (omega (arith, low, l, specs-length m.stages news r.renewed.specs));
    waits = λ _ j d low. r.waits j d (omega (arith, low, l, specs-length m.stages news r.renewed.specs));
  }

-- a mill whose stages fit, where memory ran out
pub IsReady-spent : (w : ℕ) (n : MillState) → n.width ≡ w → n.spent ≡ true → All (IsFit w) n.stages → IsReady n
IsReady-spent w n e s fits = record { fits = rw e fits; idle = λ h. absurd (cc); waits = λ h. absurd (cc) }
