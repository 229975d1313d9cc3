-- The stream that stands after buckets is the one before with what is new.
use Rattle.std.proofs.Common.{◌≡◌, ℕ, zero, suc, ◌+◌, ◌-◌, ◌*◌, ◌<◌, ◌≤◌, Bool, true, false, not, ◌&&◌, nat_lt, List, [], ◌∷◌, ◌++◌, length, refl, sym, ap, subst, ◌∙◌, arith, append-nil, Option, Some, None}
use Rattle.std.specs.Prelude.{if◌then◌else◌, unwrap_or}
use Rattle.std.proofs.lemmas.Grind.{common_steps}
use Rattle.dpc_lists.specs.Lists.{is_nil}
use Rattle.dpc_model.specs.Engines.{engine_value}
use Rattle.dpc_model.specs.Fragments.{AreSoundOps, fragment_value}
use Rattle.dpc_model.specs.Parts.{Inputs, frontier_of, processed, processed_and_closed, Stream, stream_by}
use Rattle.dpc_model.specs.declared.operators.OpSpec.{OpSpec}
use Rattle.dpc_model.specs.declared.tuples.Tuple.{Tuple}
use Rattle.dpc_model.specs.declared.tuples.Tagged.{Tagged}
use Rattle.checkpoint_redo.specs.Keeping.{added_by}
use Rattle.sunion.specs.Unions.{after_advancing}
use Rattle.law_buckets.specs.Series.{buckets_from, AreReady, CanClose, after_closing_all}
use Rattle.law_buckets.proofs.Accepted.{count-buckets}
use Rattle.law_buckets.proofs.Advancing.{ready-buckets-advance, open-stream}
use Rattle.law_buckets.proofs.Closing.{buckets-close}
use Rattle.soutput.specs.declared.fresh.Fresh.{Fresh}
use Rattle.soutput.specs.Laws.{stream_with}

-- what so many buckets from the cursor on, and from the frontier on, add
abbrev pub stably_added : List OpSpec → ℕ → Inputs → ℕ → List Tuple
stably_added ops w x r = added_by (engine_value ops) w (processed w x) (buckets_from w x x.cursor r) x.cursor

abbrev pub closed_added : List OpSpec → ℕ → Inputs → ℕ → List Tuple
closed_added ops w x n = added_by (engine_value ops) w (processed_and_closed w x) (buckets_from w x (frontier_of x) n) (frontier_of x)

-- a stream with no bucket closed
pub open-is : (ops : List OpSpec) (w : ℕ) (passing : Bool) (x : Inputs) → x.closed ≡ [] → let s : Stream = stream_by (fragment_value ops) w passing x in
    s ≡ record { stable = s.stable; bound = s.bound; tentative = []; passed = None }
open-is ops w passing x none = open-stream ops w passing x (fragment_value ops (processed w x) (x.cursor * w)) none refl

-- buckets are processed stably
pub stream-advanced : (ops : List OpSpec) (w : ℕ) (passing : Bool) (x : Inputs) (r : ℕ) → AreSoundOps ops → 0 < w → (0 < r → AreReady w x r) → let s : Stream = stream_by (fragment_value ops) w passing x in
    stream_by (fragment_value ops) w passing (after_advancing r x)
    ≡ record { stable = s.stable ++ stably_added ops w x r; bound = (x.cursor + r) * w; tentative = s.tentative; passed = s.passed }
stream-advanced ops w passing x zero sound some ready =
    let s = stream_by (fragment_value ops) w passing x in
    let none : x.cursor ≡ x.cursor + 0 = omega arith in
    subst (λ (c : ℕ). stream_by (fragment_value ops) w passing (record x { cursor = c }) ≡ record { stable = s.stable ++ []; bound = c * w; tentative = s.tentative; passed = s.passed }) none
    (ap (λ (ts : List Tuple). record { stable = ts; bound = x.cursor * w; tentative = s.tentative; passed = s.passed }) (sym (append-nil s.stable)))
stream-advanced ops w passing x (suc n) sound some ready =
    let h = ready (omega arith) in
    let s : Stream = stream_by (fragment_value ops) w passing x in
    let bare = open-is ops w passing x h.none_closed in
    (ready-buckets-advance ops w passing x (suc n) some h).stream sound
    ∙ ap (λ (t : Stream). record { stable = s.stable ++ stably_added ops w x (suc n); bound = (x.cursor + suc n) * w; tentative = t.tentative; passed = t.passed }) (sym bare)

-- ---- milling

pub mill-stream : (ops : List OpSpec) (w : ℕ) (passing : Bool) (x : Inputs) (r : ℕ) (new : Fresh) → AreSoundOps ops → 0 < w → 0 < r → AreReady w x r →
    new.stable ≡ stably_added ops w x r → new.bound ≡ Some ((x.cursor + r) * w) → new.tentative ≡ [] → new.passed ≡ None →
    stream_by (fragment_value ops) w passing (after_advancing r x) ≡ stream_with new (stream_by (fragment_value ops) w passing x)
mill-stream ops w passing x r new sound some many ready stable bound tentative passed =
    let s : Stream = stream_by (fragment_value ops) w passing x in
    stream-advanced ops w passing x r sound some (λ _. ready) ∙ rw (stable, bound, tentative, passed, append-nil s.tentative) refl

-- ---- processing up to a bucket

-- a list with some more elements is not empty
some-more : (xs ys : List (List Tagged)) (n : ℕ) → length ys ≡ n → 0 < n → is_nil (xs ++ ys) ≡ false
some-more [] [] n many some = absurd (omega (arith, many, some))
some-more [] (y ∷ ys) n many some = refl
some-more (x ∷ xs) ys n many some = refl

-- how far tentative output is told to go, where r buckets of a count are processed stably and the others closed
passed-is : (passing : Bool) (closed more : List (List Tagged)) (r count upto before : ℕ) → length more ≡ count - r → r ≤ count → 0 < count → (0 < r → closed ≡ []) →
    (if passing && not (is_nil (closed ++ more)) then Some upto else None)
    ≡ (elim (if passing && nat_lt r count then Some upto else None) as (λ _. Option ℕ) [ None ↦ (if passing && not (is_nil closed) then Some before else None) | Some b ↦ Some b ])
passed-is false closed more r count upto before many low some none = refl
passed-is true closed more r count upto before many low some none =
    (elim (nat_lt r count) as (λ b. nat_lt r count ≡ b → (if not (is_nil (closed ++ more)) then Some upto else None)
    ≡ (elim (if b then Some upto else None) as (λ _. Option ℕ) [ None ↦ (if not (is_nil closed) then Some before else None) | Some b ↦ Some b ])) [
      | true ↦ λ e. let fewer : r < count = grind (arith, common_steps, e) in rw (some-more closed more (count - r) many (omega (arith, fewer))) refl
      | false ↦ λ e.
          let all : count ≤ r = grind (arith, common_steps, e) in
          let nothing : closed ≡ [] = none (omega (arith, all, some)) in
          let no_more : more ≡ [] = empty more (omega (arith, many, all)) in
          rw (nothing, no_more) refl
    ]) refl
  where
    empty : (ys : List (List Tagged)) → length ys ≡ 0 → ys ≡ []
    empty [] h = refl
    empty (y ∷ ys) h = absurd (omega (arith, h))

-- the boundary moves where a bucket is processed stably
bound-is : (w cursor r : ℕ) → (cursor + r) * w ≡ unwrap_or (if nat_lt 0 r then Some ((cursor + r) * w) else None) (cursor * w)
bound-is w cursor zero = let none : cursor + 0 ≡ cursor = omega arith in rw none refl
bound-is w cursor (suc n) = let some : nat_lt 0 (suc n) ≡ true = grind (arith, common_steps) in rw some refl

-- what is told between the streams
pub passed-given : (passing any none : Bool) (upto before : ℕ) (p t : Option ℕ) → p ≡ (if passing && any then Some upto else None) →
    t ≡ (elim p as (λ _. Option ℕ) [ None ↦ (if passing && not none then Some before else None) | Some b ↦ Some b ]) → p ≡ (if any then t else None)
passed-given true true none upto before p t e f = e ∙ sym (rw e at f)
passed-given false true none upto before p t e f = e ∙ sym (rw e at f)
passed-given true false none upto before p t e f = e
passed-given false false none upto before p t e f = e

pub process-stream : (ops : List OpSpec) (w : ℕ) (passing : Bool) (x : Inputs) (r count upto : ℕ) (new : Fresh) → AreSoundOps ops → 0 < w → r ≤ count → 0 < count → (0 < r → AreReady w x r) →
    CanClose w (after_advancing r x) (count - r) → upto ≡ (frontier_of (after_advancing r x) + (count - r)) * w →
    new.stable ≡ stably_added ops w x r → new.bound ≡ (if nat_lt 0 r then Some ((x.cursor + r) * w) else None) → new.tentative ≡ closed_added ops w (after_advancing r x) (count - r) →
    new.passed ≡ (if passing && nat_lt r count then Some upto else None) →
    stream_by (fragment_value ops) w passing (after_closing_all w (count - r) (after_advancing r x)) ≡ stream_with new (stream_by (fragment_value ops) w passing x)
process-stream ops w passing x r count upto new sound some low any ready can end stable bound tentative passed =
    let s : Stream = stream_by (fragment_value ops) w passing x in
    let y = after_advancing r x in
    let more = buckets_from w y (frontier_of y) (count - r) in
    let first = stream-advanced ops w passing x r sound some ready in
    let then_closed = (buckets-close ops w passing y (count - r) can).stream sound in
    let told = passed-is passing x.closed more r count upto (frontier_of x * w) (count-buckets w y (frontier_of y) (count - r)) low any (λ h. (ready h).none_closed) in
    then_closed
    ∙ ap (λ (t : Stream). record { stable = t.stable; bound = t.bound; tentative = t.tentative ++ closed_added ops w y (count - r); passed = if passing && not (is_nil (x.closed ++ more)) then Some ((frontier_of y + (count - r)) * w) else None }) first
    ∙ ap (λ (n : ℕ). record { stable = s.stable ++ stably_added ops w x r; bound = (x.cursor + r) * w; tentative = s.tentative ++ closed_added ops w y (count - r); passed = if passing && not (is_nil (x.closed ++ more)) then Some n else None }) (sym end)
    ∙ ap (λ (o : Option ℕ). record { stable = s.stable ++ stably_added ops w x r; bound = (x.cursor + r) * w; tentative = s.tentative ++ closed_added ops w y (count - r); passed = o }) told
    ∙ ap (λ (b : ℕ). record {
      stable = s.stable ++ stably_added ops w x r;
      bound = b;
      tentative = s.tentative ++ closed_added ops w y (count - r);
      passed = elim (if passing && nat_lt r count then Some upto else None) as (λ _. Option ℕ) [ None ↦ s.passed | Some b ↦ Some b ];
    }) (bound-is w x.cursor r)
    ∙ rw (stable, bound, tentative, passed) refl
