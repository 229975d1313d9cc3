-- The inputs go on to stand for the plain ones, call by call.
use Rattle.std.proofs.Common.{◌≡◌, ℕ, zero, suc, ◌+◌, ◌-◌, ◌*◌, ◌<◌, ◌≤◌, Bool, true, false, nat_le, ◌==◌, List, [], ◌∷◌, map, drop, length, refl, sym, ap, subst, ◌∙◌, arith, mul-le-mul_right, Option, None, slice_index_or}
use Rattle.std.proofs.lemmas.Grind.{common_steps}
use Rattle.std.proofs.lemmas.Bool.{leb-true}
use Rattle.std.proofs.lemmas.List.Elements.{All-nil, All-cons, All-head, All-tail}
use Rattle.std.specs.List.{All, AllZip, filter}
use Rattle.std.specs.Prelude.{unwrap_or, if◌then◌else◌}
use Rattle.dpc_model.specs.Streams.{InOrder, NoneBelow, time_of}
use Rattle.dpc_lists.proofs.Elements.{get-drop, nth-is}
use Rattle.inlet.proofs.Dropping.{drop_below-past}
use Rattle.dpc_lists.specs.Lists.{nth, changed}
use Rattle.dpc_model.specs.Due.{Stamps, stamp_of}
use Rattle.dpc_model.specs.Inlets.{InletState, with_next_session, asked_by, no_inlet}
use Rattle.dpc_model.specs.Parts.{Inputs}
use Rattle.dpc_model.specs.PartStands.{InletValue, StandsForInlet, StandsForPorts}
use Rattle.dpc_model.specs.declared.tuples.Tuple.{Tuple}
use Rattle.dpc_model.specs.declared.messages.Subscribe.{Subscribe}
use Rattle.inlet.specs.Forgotten.{Keeps}
use Rattle.inlet.proofs.Standing.{reopen-tells, drop_below-stands}
use Rattle.sunion.specs.Clocks.{stamps_from}
use Rattle.sunion.specs.Ports.{forgetting}
use Rattle.sunion.specs.Values.{SUnionValue}
use Rattle.sunion.specs.Unions.{StandsForInputs, no_value, after_advancing, ForgetsBelow}
use Rattle.sunion.proofs.Waiting.{stamp-at, stamp-before}

-- ---- one port

pub stands-at : (b i : ℕ) (vs : List InletValue) (xs : List InletState) → i < length vs → AllZip (StandsForInlet b) vs xs → StandsForInlet b (nth no_value vs i) (nth no_inlet xs i)
stands-at b i [] xs low z = absurd (omega (arith, low))
stands-at b i (v ∷ vs) [] low z = absurd z
stands-at b zero (v ∷ vs) (x ∷ xs) low z = z.0
stands-at b (suc i) (v ∷ vs) (x ∷ xs) low z = stands-at b i vs xs (omega (arith, low)) z.1

pub stands-changed : (b i : ℕ) (f : InletValue → InletValue) (g : InletState → InletState) (vs : List InletValue) (xs : List InletState) →
    ((v : InletValue) (x : InletState) → StandsForInlet b v x → StandsForInlet b (f v) (g x)) → AllZip (StandsForInlet b) vs xs → AllZip (StandsForInlet b) (changed i f vs) (changed i g xs)
stands-changed b i f g [] [] h z = tt
stands-changed b i f g [] (x ∷ xs) h z = absurd z
stands-changed b i f g (v ∷ vs) [] h z = absurd z
stands-changed b zero f g (v ∷ vs) (x ∷ xs) h z = (h v x z.0, z.1)
stands-changed b (suc i) f g (v ∷ vs) (x ∷ xs) h z = (z.0, stands-changed b i f g vs xs h z.1)

pub reopen-told : (v : SUnionValue) (x : Inputs) (port : ℕ) (old : InletValue) (asked : Subscribe) → port < length v.union.inlets → old ≡ slice_index_or v.union.inlets port old →
    ((gone : List Tuple) (y : InletState) → Keeps gone old y → asked ≡ asked_by (with_next_session y)) → StandsForInputs v x → asked ≡ asked_by (with_next_session (nth no_inlet x.inlets port))
reopen-told v x port old asked low e told h =
    let here = nth-is no_value old port v.union.inlets low e in
    let b = x.cursor * v.width in
    reopen-tells b old (nth no_inlet x.inlets port) asked told
    (subst (λ (i : InletValue). StandsForInlet b i (nth no_inlet x.inlets port)) here (stands-at b port v.union.inlets x.inlets low h.inlets))

-- ---- the cursor moves on

filtered : (first k : ℕ) (stamps : Stamps) → stamp_of (filter (λ (s : ℕ × ℕ). nat_le first s.0) stamps) k ≡ if nat_le first k then stamp_of stamps k else None
filtered first k [] = none (nat_le first k) None
  where
    none : (b : Bool) (o : Option ℕ) → o ≡ (if b then o else o)
    none true o = refl
    none false o = refl
filtered first k (s ∷ stamps) =
    (elim (s.0 == k) as (λ b. (s.0 == k) ≡ b → stamp_of (filter (λ (s : ℕ × ℕ). nat_le first s.0) (s ∷ stamps)) k ≡ (if nat_le first k then stamp_of (s ∷ stamps) k else None)) [
      | true ↦ λ e.
          let same : nat_le first s.0 ≡ nat_le first k = let one : s.0 ≡ k = grind (arith, common_steps, e) in ap (λ (n : ℕ). nat_le first n) one in
          (elim (nat_le first k) as (λ b. nat_le first k ≡ b → stamp_of (filter (λ (s : ℕ × ℕ). nat_le first s.0) (s ∷ stamps)) k ≡ (if b then stamp_of (s ∷ stamps) k else None)) [
            | true ↦ λ f. rw (same, f, e) refl
            | false ↦ λ f. rw (same, f) (filtered first k stamps ∙ rw f refl)
          ]) refl
      | false ↦ λ e.
          (elim (nat_le first s.0) as (λ b. nat_le first s.0 ≡ b → stamp_of (filter (λ (s : ℕ × ℕ). nat_le first s.0) (s ∷ stamps)) k ≡ (if nat_le first k then stamp_of (s ∷ stamps) k else None)) [
            | true ↦ λ f. rw (f, e) (filtered first k stamps)
            | false ↦ λ f. rw (f, e) (filtered first k stamps)
          ]) refl
    ]) refl

dropped : (first count : ℕ) (clocks : List (Option ℕ)) (k : ℕ) →
    stamp_of (stamps_from (first + count) (drop count clocks)) k ≡ if nat_le (first + count) k then stamp_of (stamps_from first clocks) k else None
dropped first count clocks k =
    (elim (nat_le (first + count) k) as (λ b. nat_le (first + count) k ≡ b → stamp_of (stamps_from (first + count) (drop count clocks)) k ≡ (if b then stamp_of (stamps_from first clocks) k else None)) [
      | true ↦ λ e.
          let low = leb-true (first + count) k e in
          let place : k ≡ (first + count) + (k - (first + count)) = omega (arith, low) in
          let same : k ≡ first + (count + (k - (first + count))) = omega (arith, low) in
          stamp-at (first + count) (drop count clocks) (k - (first + count)) k place
          ∙ ap (λ (o : Option (Option ℕ)). unwrap_or o None) (get-drop count (k - (first + count)) clocks) ∙ sym (stamp-at first clocks (count + (k - (first + count))) k same)
      | false ↦ λ e. let early : k < first + count = grind (arith, common_steps, e) in stamp-before (first + count) (drop count clocks) k early
    ]) refl

pub advance-stamps : (first count : ℕ) (clocks : List (Option ℕ)) (stamps : Stamps) → ((k : ℕ) → stamp_of (stamps_from first clocks) k ≡ stamp_of stamps k) → (k : ℕ) →
    stamp_of (stamps_from (first + count) (drop count clocks)) k ≡ stamp_of (filter (λ (s : ℕ × ℕ). nat_le (first + count) s.0) stamps) k
advance-stamps first count clocks stamps h k =
    dropped first count clocks k ∙ ap (λ (o : Option ℕ). if nat_le (first + count) k then o else None) (h k) ∙ sym (filtered (first + count) k stamps)

pub forgetting-stands : (b d : ℕ) (vs : List InletValue) (xs : List InletState) → b ≤ d → AllZip (StandsForInlet b) vs xs → AllZip (StandsForInlet d) (map (forgetting d) vs) xs
forgetting-stands b d [] [] low z = tt
forgetting-stands b d [] (x ∷ xs) low z = absurd z
forgetting-stands b d (v ∷ vs) [] low z = absurd z
forgetting-stands b d (v ∷ vs) (x ∷ xs) low z = (drop_below-stands b d d v x low (omega arith) z.0, forgetting-stands b d vs xs low z.1)

pub forgetting-forgets : (b d : ℕ) (vs : List InletValue) (xs : List InletState) → AllZip (StandsForInlet b) vs xs → All (λ (i : InletState). InOrder i.held.stable) xs → ForgetsBelow d (map (forgetting d) vs)
forgetting-forgets b d [] [] z o = All-nil (λ (i : InletValue). NoneBelow time_of d i.state.held.stable)
forgetting-forgets b d [] (x ∷ xs) z o = absurd z
forgetting-forgets b d (v ∷ vs) [] z o = absurd z
forgetting-forgets b d (v ∷ vs) (x ∷ xs) z o =
    All-cons (λ (i : InletValue). NoneBelow time_of d i.state.held.stable) (forgetting d v) (map (forgetting d) vs)
    (drop_below-past b d v x (All-head (λ (i : InletState). InOrder i.held.stable) x xs o) z.0)
    (forgetting-forgets b d vs xs z.1 (All-tail (λ (i : InletState). InOrder i.held.stable) x xs o))

pub advance-stands : (width first count closed : ℕ) (clocks : List (Option ℕ)) (inlets : List InletValue) (x : Inputs) →
    StandsForPorts width (record { inlets = inlets; stamps = stamps_from first clocks; cursor = first; closed = closed }) x →
    StandsForPorts width (record { inlets = map (forgetting ((first + count) * width)) inlets; stamps = stamps_from (first + count) (drop count clocks); cursor = first + count; closed = closed }) (after_advancing count x)
advance-stands width first count closed clocks inlets x h =
    let cursor : first ≡ x.cursor = h.cursor in
    let b = x.cursor * width in
    let low : b ≤ (x.cursor + count) * width = mul-le-mul_right width (omega arith) in
    record {
      inlets =
          subst (λ (n : ℕ). AllZip (StandsForInlet ((x.cursor + count) * width)) (map (forgetting ((n + count) * width)) inlets) x.inlets) (sym cursor)
          (forgetting-stands b ((x.cursor + count) * width) inlets x.inlets low h.inlets);
      stamps = λ k.
          advance-stamps first count clocks x.stamps h.stamps k
          ∙ ap (λ (n : ℕ). stamp_of (filter (λ (s : ℕ × ℕ). nat_le (n + count) s.0) x.stamps) k) cursor;
      cursor = ap (λ (n : ℕ). n + count) cursor;
      closed = h.closed;
    }
