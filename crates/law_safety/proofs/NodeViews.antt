-- What a node shows, and how each of its steps leads from one view to the next.
use Rattle.std.proofs.Common.{◌≡◌, ℕ, zero, suc, ◌+◌, ◌-◌, ◌*◌, ◌<◌, ◌≤◌, Bool, true, false, cond, not, ◌&&◌, ◌==◌, nat_lt, List, [], ◌∷◌, ◌++◌, map, length, drop, refl, sym, ap, subst, ◌∙◌, arith, Some, None, length-append, ◌⊎◌, inl, inr}
use Rattle.std.proofs.lemmas.Grind.{common_steps}
use Rattle.std.proofs.lemmas.List.{append-nil, length-map}
use Rattle.std.proofs.Math.Seq.{drop-append_seam}
use Rattle.std.proofs.lemmas.List.FromFn.{length-range_with_len}
use Rattle.dpc_lists.specs.Lists.{is_nil, IsPrefixOf, range_with_len}
use Rattle.dpc_model.specs.Fragments.{ideal, ideal_upto}
use Rattle.dpc_model.specs.declared.sessions.Sub.{Sub}
use Rattle.dpc_model.specs.declared.tuples.Tuple.{Tuple}
use Rattle.dpc_model.specs.declared.tuples.Tagged.{Tagged}
use Rattle.dpc_model.specs.declared.plans.Plan.{Plan}
use Rattle.dpc_model.specs.declared.plans.StreamRef.{StreamRef}
use Rattle.dpc_model.specs.declared.plans.StreamRef.TheVariants.{Frag}
use Rattle.dpc_model.proofs.IdealCausality.{cut-ideal, cut-ideal_upto}
use Rattle.dpc_model.proofs.Order.{ideal_upto-InOrder}
use Rattle.dpc_model.proofs.Prefixes.{cut-beginning}
use Rattle.node_model.specs.Nodes.{Home, PlainNode, held_by, node_frontier, out_stable, out_with_closed, out_tentative, out_bound, out_passed, shown, bucket_of}
use Rattle.node_model.specs.NodeSteps.{stably, given_by, given_stable, after_stable_buckets, with_closed, with_failure}
use Rattle.world_model.specs.SessionLaw.{bound_of}
use Rattle.law_safety.proofs.Outputs.{ideal-InOrder}
use Rattle.law_safety.specs.Plans.{IsChecked, IsPlace}
use Rattle.dpc_lists.proofs.Truths.{lt-of, eq-of, not-lt}
use Rattle.law_safety.proofs.Closing.{closed-of}
use Rattle.law_safety.proofs.Processing.{stably-open}
use Rattle.law_safety.proofs.Frames.{IsGood, inputs_done-held, out_stable-held}
use Rattle.law_safety.proofs.OutFits.{cursor-within}
use Rattle.law_safety.proofs.Giving.{none-tentative, stable-none}
use Rattle.law_safety.proofs.Views.{IsView, IsViewStep, IsBoundStep, IsPassedStep, IsPast, IsClear}
use Rattle.law_safety.proofs.Continues.{view-continues}

-- ---- what a node shows

-- a beginning of the failure-free stream
beginning : (plan : Plan) (s : StreamRef) (b : ℕ) → IsChecked plan → b ≤ plan.end → IsPrefixOf (ideal_upto plan s b) (ideal plan s)
beginning plan s b checked within = rw (← cut-ideal plan s b checked.sound.ops within) (cut-beginning b (ideal plan s) (ideal-InOrder plan s checked.sound))

-- an earlier part of it
earlier : (plan : Plan) (s : StreamRef) (b b' : ℕ) → IsChecked plan → b ≤ b' → IsPrefixOf (ideal_upto plan s b) (ideal_upto plan s b')
earlier plan s b b' checked low = rw (← cut-ideal_upto plan s b b' checked.sound.ops low) (cut-beginning b (ideal_upto plan s b') (ideal_upto-InOrder plan s b' checked.sound.logs))

-- a node that has nothing closed shows nothing tentative
pub clear-shown : (home : Home) (n : PlainNode) → n.closed ≡ [] → IsClear (shown home n)
clear-shown home n none = (none-tentative home n none, no-passed home.plan.passing)
  where
    no-passed : (b : Bool) → cond (b && not (is_nil n.closed)) (Some (node_frontier n * home.plan.width)) None ≡ None
    no-passed true = rw none refl
    no-passed false = refl

pub shown-view : (home : Home) (most : ℕ) (n : PlainNode) → IsPlace home → n.recovering ≡ false → IsGood home most n → IsView home.plan (Frag home.frag) (shown home n)
shown-view home most n place up g =
    let o = g.safe.output up in
    record {
      beginning = rw o.output (beginning home.plan (Frag home.frag) (n.cursor * home.plan.width) place.checked (cursor-within home n place g.safe up));
      bound = λ b e. by-cursor (n.cursor == 0) b e;
      stable = λ e. clear-shown home n (stable-none n up g.orderly.state e);
    }
  where
    by-cursor : (c : Bool) (b : ℕ × ℕ) → cond c None (Some (n.cursor * home.plan.width, length (out_stable home n))) ≡ Some b → b.1 ≤ length (out_stable home n)
    by-cursor true b e = cc
    by-cursor false b e = let same : ◌≡◌ {A = ℕ × ℕ} (n.cursor * home.plan.width, length (out_stable home n)) b = cc in let count = ap (λ (x : ℕ × ℕ). x.1) same in omega (arith, count)

-- the bound shown is the cursor's time
pub shown-bound : (home : Home) (n : PlainNode) → bound_of (out_bound home n) ≡ n.cursor * home.plan.width
shown-bound home n =
    (elim (n.cursor == 0) as (λ c. (n.cursor == 0) ≡ c → bound_of (cond c None (Some (n.cursor * home.plan.width, length (out_stable home n)))) ≡ n.cursor * home.plan.width) [
      | true ↦ λ e. let none : n.cursor ≡ 0 = eq-of n.cursor 0 e in rw none (omega arith)
      | false ↦ λ e. refl
    ]) refl

seam : {X : Type 0} (xs ys : List X) → IsPrefixOf xs ys → ys ≡ xs ++ drop (length xs) ys
seam xs ys p = p.1 ∙ ap (λ (zs : List _). xs ++ zs) (sym (drop-append_seam xs p.0)) ∙ ap (λ (zs : List _). xs ++ drop (length xs) zs) (sym p.1)

-- ---- processing

drop-prefix : {X : Type 0} (k : ℕ) (xs ys : List X) → IsPrefixOf xs ys → IsPrefixOf (drop k xs) (drop k ys)
drop-prefix k xs ys p = subst (λ (zs : List _). IsPrefixOf (drop k xs) (drop k zs)) (sym p.1) (parts k xs p.0)
  where
    parts : {X : Type 0} (k : ℕ) (xs rest : List X) → IsPrefixOf (drop k xs) (drop k (xs ++ rest))
    parts zero xs rest = (rest, refl)
    parts (suc k) [] rest = (drop (suc k) rest, refl)
    parts (suc k) (x ∷ xs) rest = parts k xs rest

drop-same : {X : Type 0} (xs ys : List X) → ys ≡ xs → drop (length xs) ys ≡ []
drop-same xs ys e = ap (λ (zs : List _). drop (length xs) zs) e ∙ all xs
  where
    all : {X : Type 0} (xs : List X) → drop (length xs) xs ≡ []
    all [] = refl
    all (x ∷ xs) = all xs

tentative-prefix : (home : Home) (n m : PlainNode) → out_stable home m ≡ out_stable home n → IsPrefixOf (out_with_closed home n) (out_with_closed home m) → IsPrefixOf (out_tentative home n) (out_tentative home m)
unfolding out_tentative
tentative-prefix home n m same p = rw same (drop-prefix (length (out_stable home n)) (out_with_closed home n) (out_with_closed home m) p)

-- a node after r buckets more were processed stably, and others closed
pub record HasGone (home : Home) (n m : PlainNode) (r : ℕ) (more : List (List Tagged)) : Type 0 where
  pub held : held_by m ≡ held_by n
  pub cursor : m.cursor ≡ n.cursor + r
  pub closed : m.closed ≡ n.closed ++ more
  pub none : (r ≡ 0) ⊎ (n.closed ≡ [])

module _ (home : Home) (most : ℕ) (n m : PlainNode) (r : ℕ) (more : List (List Tagged)) (place : IsPlace home) (up : n.recovering ≡ false) (still : m.recovering ≡ false) (g : IsGood home most n) (k : IsGood home most m) (h : HasGone home n m r more) where
  gone-stable : out_stable home m ≡ out_stable home n ++ drop (length (out_stable home n)) (out_stable home m)
  gone-stable =
      let low : n.cursor * home.plan.width ≤ m.cursor * home.plan.width = (let e = h.cursor in grind (arith, common_steps)) in
      seam (out_stable home n) (out_stable home m)
      (rw ((g.safe.output up).output, (k.safe.output still).output) (earlier home.plan (Frag home.frag) (n.cursor * home.plan.width) (m.cursor * home.plan.width) place.checked low))

  gone-same : r ≡ 0 → out_stable home m ≡ out_stable home n
  gone-same e = out_stable-held home n m h.held (let c = h.cursor in omega (arith, c, e))

  gone-bound : (b : Bool) → nat_lt 0 r ≡ b → IsBoundStep (shown home n) (shown home m) (cond b (out_bound home m) None)
  gone-bound true e =
      let some = lt-of 0 r e in
      let c = h.cursor in
      let not_zero : (m.cursor == 0) ≡ false = grind (arith, common_steps) in
      let low : n.cursor * home.plan.width ≤ m.cursor * home.plan.width = grind (arith, common_steps) in
      let old = shown-bound home n in
      subst (λ (d : Bool). IsBoundStep (shown home n) (shown home m) (cond d None (Some (m.cursor * home.plan.width, length (out_stable home m))))) (sym not_zero)
      (shown-bound home m, omega (arith, old, low), omega arith)
  gone-bound false e =
      let none : r ≡ 0 = grind (arith, common_steps) in
      let c = h.cursor in
      let same : m.cursor ≡ n.cursor = omega (arith, c, none) in
      shown-bound home m ∙ ap (λ (c : ℕ). c * home.plan.width) same ∙ sym (shown-bound home n)

  gone-tentative : out_tentative home m ≡ out_tentative home n ++ drop (length (out_tentative home n)) (out_tentative home m)
  gone-tentative = seam (out_tentative home n) (out_tentative home m) (by-none h.none)
    where
      by-none : (r ≡ 0) ⊎ (n.closed ≡ []) → IsPrefixOf (out_tentative home n) (out_tentative home m)
      by-none (inr e) = rw (none-tentative home n e) (out_tentative home m, refl)
      by-none (inl e) =
          let c = h.cursor in
          let same : m.cursor ≡ n.cursor = omega (arith, c, e) in
          tentative-prefix home n m (gone-same e) (view-continues home most n m more place g.safe g.orderly (closed-of home m k.orderly.closed) (inputs_done-held home n m h.held same) same h.closed)

  gone-view : node_frontier n ≤ node_frontier m
  gone-view = let c = h.cursor in let long = ap length h.closed ∙ length-append n.closed more in omega (arith, c, long)

  gone-passed : (b : Bool) → nat_lt 0 (length more) ≡ b → IsPassedStep (shown home n) (shown home m) (cond b (out_passed home m) None)
  gone-passed b e = by-passing home.plan.passing refl b e
    where
      view_time : PlainNode → ℕ
      view_time x = (x.cursor + length x.closed) * home.plan.width

      past : node_frontier n ≤ node_frontier m → (b : Bool) → IsPast (node_frontier m * home.plan.width) (cond b (Some (node_frontier n * home.plan.width)) None)
      past low true = grind (arith, common_steps)
      past low false = tt

      some-closed : nat_lt 0 (length more) ≡ true → is_nil m.closed ≡ false
      some-closed f = let some = lt-of 0 (length more) f in let long = ap length h.closed ∙ length-append n.closed more in by-list m.closed (omega (arith, some, long))
        where
          by-list : (xs : List (List Tagged)) → 0 < length xs → is_nil xs ≡ false
          by-list [] l = absurd (omega (arith, l))
          by-list (x ∷ xs) l = refl

      by-passing : (p : Bool) → home.plan.passing ≡ p → (b : Bool) → nat_lt 0 (length more) ≡ b → IsPassedStep (shown home n) (shown home m) (cond b (out_passed home m) None)
      by-passing false off true f = rw off refl
      by-passing false off false f = rw off refl
      by-passing true on true f = rw (on, some-closed f) (refl, past gone-view (not (is_nil n.closed)))
      by-passing true on false f =
          let same : m.closed ≡ n.closed = h.closed ∙ ap (λ (xs : List (List Tagged)). n.closed ++ xs) (no-more more f) ∙ append-nil n.closed in
          by-none same h.none
        where
          no-more : (xs : List (List Tagged)) → nat_lt 0 (length xs) ≡ false → xs ≡ []
          no-more [] e = refl
          no-more (x ∷ xs) e = absurd (let none : length (x ∷ xs) ≤ 0 = not-lt 0 (length (x ∷ xs)) e in omega (arith, none))

          by-none : m.closed ≡ n.closed → (r ≡ 0) ⊎ (n.closed ≡ []) → out_passed home m ≡ out_passed home n
          by-none same (inl e) = let c = h.cursor in let cursor : m.cursor ≡ n.cursor = omega (arith, c, e) in rw (same, cursor) refl
          by-none same (inr e) = let none : m.closed ≡ [] = same ∙ e in rw (none, e, on) refl

  -- what is given leads from the old view to the new one
  pub gone-step : IsViewStep home.plan (Frag home.frag) (shown home n) (shown home m) (given_by home n m (nat_lt 0 r) (nat_lt 0 (length more)))
  gone-step =
      let o = k.safe.output still in
      record {
        stable = gone-stable;
        beginning = rw o.output (beginning home.plan (Frag home.frag) (m.cursor * home.plan.width) place.checked (cursor-within home m place k.safe still));
        bound = gone-bound (nat_lt 0 r) refl;
        clear = by-none h.none;
        tentative = gone-tentative;
        passed = gone-passed (nat_lt 0 (length more)) refl;
        done = λ e. cc;
      }
    where
      by-none : (r ≡ 0) ⊎ (n.closed ≡ []) → IsClear (shown home n) ⊎ ((drop (length (out_stable home n)) (out_stable home m) ≡ []) × (cond (nat_lt 0 r) (out_bound home m) None ≡ None) × (false ≡ false))
      by-none (inr e) = inl (clear-shown home n e)
      by-none (inl e) = let none : nat_lt 0 r ≡ false = grind (arith, common_steps) in inr (drop-same (out_stable home n) (out_stable home m) (gone-same e), rw none refl, refl)

-- ---- the steps of a node

-- sessions are no part of what is shown, nor are the state of asks and the base of later use
pub shown-subs : (home : Home) (n : PlainNode) (subs : List Sub) → shown home (record n { subs = subs }) ≡ shown home n
unfolding out_stable out_with_closed out_tentative
shown-subs home n subs = refl

lt-gap : (r count : ℕ) → nat_lt r count ≡ nat_lt 0 (count - r)
lt-gap r count = grind (arith, common_steps)

-- the step of a tick that processes buckets
pub processed-step : (home : Home) (most last : ℕ) (n : PlainNode) → IsPlace home → n.recovering ≡ false → IsGood home most n →
    let count = last + 1 - node_frontier n in
    let r = stably home n count in
    let new = with_failure (with_closed home (count - r) (after_stable_buckets home r n)) in
    IsGood home most new → IsViewStep home.plan (Frag home.frag) (shown home n) (shown home new) (given_by home n new (nat_lt 0 r) (nat_lt r count))
processed-step home most last n place up g good =
    let count = last + 1 - node_frontier n in
    let r = stably home n count in
    let m = with_closed home (count - r) (after_stable_buckets home r n) in
    let new = with_failure m in
    let more = map (bucket_of home (after_stable_buckets home r n)) (range_with_len (node_frontier (after_stable_buckets home r n)) (count - r)) in
    let many : length more ≡ count - r =
    length-map (range_with_len (node_frontier (after_stable_buckets home r n)) (count - r)) (bucket_of home (after_stable_buckets home r n)) ∙ length-range_with_len (node_frontier (after_stable_buckets home r n)) (count - r) in
    let gone : HasGone home n new r more = record { held = refl; cursor = refl; closed = refl; none = stably-open home n count } in
    let same : nat_lt 0 (length more) ≡ nat_lt r count = ap (λ (l : ℕ). nat_lt 0 l) many ∙ sym (lt-gap r count) in
    subst (λ (b : Bool). IsViewStep home.plan (Frag home.frag) (shown home n) (shown home new) (given_by home n new (nat_lt 0 r) b)) same
    (gone-step home most n new r more place up up g good gone)

-- milling, with the last corrections or without
pub milled-step : (home : Home) (most r : ℕ) (n m : PlainNode) (done : Bool) → IsPlace home → n.recovering ≡ false → m.recovering ≡ false → IsGood home most n → IsGood home most m →
    held_by m ≡ held_by n → m.cursor ≡ n.cursor + r → n.closed ≡ [] → m.closed ≡ [] → IsViewStep home.plan (Frag home.frag) (shown home n) (shown home m) (given_stable home n m done)
milled-step home most r n m done place up still g k held cursor none none' =
    let gone : HasGone home n m r [] = record { held = held; cursor = cursor; closed = none' ∙ sym (ap (λ (xs : List (List Tagged)). xs ++ []) none); none = inr none } in
    let o = k.safe.output still in
    record {
      stable = gone-stable home most n m r [] place up still g k gone;
      beginning = rw o.output (beginning home.plan (Frag home.frag) (m.cursor * home.plan.width) place.checked (cursor-within home m place k.safe still));
      bound = by-cursor (m.cursor == 0) refl;
      clear = inl (clear-shown home n none);
      tentative = none-tentative home m none' ∙ sym (ap (λ (ts : List Tuple). ts ++ []) (none-tentative home n none));
      passed = (clear-shown home m none').1 ∙ sym (clear-shown home n none).1;
      done = λ e. clear-shown home m none';
    }
  where
    by-cursor : (b : Bool) → (m.cursor == 0) ≡ b → IsBoundStep (shown home n) (shown home m) (cond b None (Some (m.cursor * home.plan.width, length (out_stable home m))))
    by-cursor true e =
        let zero_now = eq-of m.cursor 0 e in
        let same : m.cursor ≡ n.cursor = omega (arith, cursor, zero_now) in
        shown-bound home m ∙ ap (λ (c : ℕ). c * home.plan.width) same ∙ sym (shown-bound home n)
    by-cursor false e =
        let old = shown-bound home n in
        let low : n.cursor * home.plan.width ≤ m.cursor * home.plan.width = grind (arith, common_steps) in
        (shown-bound home m, omega (arith, old, low), omega arith)
