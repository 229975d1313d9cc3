-- The session law, one event: what a sender gives takes every reader of the session from its old view to the new one.
use Rattle.std.proofs.Common.{◌≡◌, ℕ, zero, suc, ◌+◌, ◌-◌, ◌<◌, ◌≤◌, max, Bool, true, false, cond, not, ◌&&◌, ◌==◌, nat_lt, nat_le, nat_eq as eqb, List, [], ◌∷◌, ◌++◌, length, take, drop, refl, sym, ap, subst, ◌∙◌, arith, Option, Some, None, slice_get, length-append, length-drop, ◌⊎◌, inl, inr}
use Rattle.std.specs.Prelude.{IfSome, IsSome}
use Rattle.std.proofs.lemmas.Grind.{common_steps}
use Rattle.std.proofs.lemmas.List.{length-take-le, length-take, append-nil}
use Rattle.dpc_lists.specs.Lists.{push, is_nil, IsPrefixOf}
use Rattle.dpc_model.specs.Fragments.{ideal}
use Rattle.dpc_model.specs.Reading.{Reader, Reading, NoReading, Skipped, Taken, reading, is_sure, Folded, fold_items, taken_first}
use Rattle.dpc_model.specs.Sessions.{Shown, Given, given_items, stable_items, boundary_item, tentative_items, passed_item, item_if, first_batch}
use Rattle.dpc_model.specs.declared.tuples.Tuple.{Tuple}
use Rattle.dpc_model.specs.declared.tuples.Item.{Item}
use Rattle.dpc_model.specs.declared.tuples.Item.TheVariants.{Stable, Tentative, Passed, Boundary, Undo, RecDone}
use Rattle.dpc_model.specs.declared.messages.Subscribe.{Subscribe}
use Rattle.dpc_model.specs.declared.plans.Plan.{Plan}
use Rattle.dpc_model.specs.declared.plans.StreamRef.{StreamRef}
use Rattle.std.proofs.lemmas.List.Elements.{filter-append}
use Rattle.dpc_model.proofs.Prefixes.{get-prefix}
use Rattle.dpc_lists.proofs.Elements.{get-drop}
use Rattle.dpc_model.specs.Engines.{from_time}
use Rattle.world_model.specs.SessionLaw.{Fits, bound_of, passed_of, taken_whole, LeavesView}
use Rattle.dpc_lists.proofs.Truths.{both, le-test, lt-of, lt-test, eq-of, eq-test}
use Rattle.law_safety.proofs.Clienting.{fold-append}

-- items have a reading, which leaves this reader
abbrev pub Leaves : Reader → List Item → Reader → Type 0
Leaves r items s = (f : Folded) × (fold_items r items ≡ Some f) × (f.after ≡ s)

pub leaves-none : (r : Reader) → Leaves r [] r
leaves-none r = (record { after = r; taken = [] }, refl, refl)

pub leaves-append : (r s t : Reader) (xs ys : List Item) → Leaves r xs s → Leaves s ys t → Leaves r (xs ++ ys) t
leaves-append r s t xs ys h k =
    (record { after = k.0.after; taken = h.0.taken ++ k.0.taken }, fold-append r xs ys h.0 k.0 h.1 (subst (λ (u : Reader). fold_items u ys ≡ Some k.0) (sym h.2) k.1), k.2)

leaves-skip : (r s : Reader) (i : Item) (items : List Item) → reading r i ≡ Skipped → Leaves r items s → Leaves r (i ∷ items) s
leaves-skip r s i items e h =
    (h.0, subst (λ (x : Reading). elim x [ NoReading ↦ None | Skipped ↦ fold_items r items | Taken u ↦ taken_first i (fold_items u items) ] ≡ Some h.0) (sym e) h.1, h.2)

leaves-take : (r u s : Reader) (i : Item) (items : List Item) → reading r i ≡ Taken u → Leaves u items s → Leaves r (i ∷ items) s
leaves-take r u s i items e h = (
  record { after = h.0.after; taken = i ∷ h.0.taken },
  subst (λ (x : Reading). elim x [ NoReading ↦ None | Skipped ↦ fold_items r items | Taken v ↦ taken_first i (fold_items v items) ] ≡ Some (record { after = h.0.after; taken = i ∷ h.0.taken })) (sym e) (taken h.0 (fold_items u items) h.1),
  h.2,
)
  where
    taken : (f : Folded) (o : Option Folded) → o ≡ Some f → taken_first i o ≡ Some (record { after = f.after; taken = i ∷ f.taken })
    taken f o d = rw d refl

-- ---- single items

read-old : (r : Reader) (k : ℕ) (t : Tuple) → k < length r.stable → reading r (Stable k t) ≡ Skipped
read-old r k t h = rw (lt-test k (length r.stable) h) refl

read-next : (r : Reader) (k : ℕ) (t : Tuple) → k ≡ length r.stable → is_sure r ≡ true → reading r (Stable k t) ≡ Taken (record r { stable = push r.stable t })
read-next r k t e h =
    let out : nat_lt k (length r.stable) ≡ false = grind (arith, common_steps) in
    let here : eqb k (length r.stable) ≡ true = eq-test k (length r.stable) e in rw (out, here, h) refl

-- ---- stable items

get-taken : (m : ℕ) (xs : List Tuple) (t : Tuple) → slice_get xs m ≡ Some t → push (take m xs) t ≡ take (m + 1) xs
get-taken m [] t e = cc
get-taken zero (x ∷ xs) t e = let same : x ≡ t = cc in rw same refl
get-taken (suc m) (x ∷ xs) t e = let next : suc m + 1 ≡ suc (m + 1) = omega arith in rw next (ap (λ (ys : List Tuple). x ∷ ys) (get-taken m xs t e))

pub stable-leaves : (whole : List Tuple) (n k : ℕ) (ts : List Tuple) (r : Reader) → n ≤ length whole → ((i : ℕ) (t : Tuple) → slice_get ts i ≡ Some t → slice_get whole (k + i) ≡ Some t) → k + length ts ≤ length whole →
    r.stable ≡ take (max n k) whole → is_sure r ≡ true → Leaves r (stable_items k ts) (record r { stable = take (max n (k + length ts)) whole })
stable-leaves whole n k [] r few part many same sure =
    let none : k + 0 ≡ k = omega arith in
    subst (λ (ys : List Tuple). Leaves r [] (record r { stable = ys })) (same ∙ ap (λ (m : ℕ). take (max n m) whole) (sym none)) (leaves-none r)
stable-leaves whole n k (t ∷ ts) r few part many same sure =
    let long : length r.stable ≡ max n k = ap length same ∙ length-take-le (max n k) whole (omega (arith, few, many)) in
    let here : slice_get whole k ≡ Some t = (let none : k + 0 ≡ k = omega arith in rw none at (part 0 t refl)) in
    let rest : (i : ℕ) (u : Tuple) → slice_get ts i ≡ Some u → slice_get whole (k + 1 + i) ≡ Some u = λ i u e. (let next : k + 1 + i ≡ k + suc i = omega arith in rw next (part (suc i) u e)) in
    let next : k + suc (length ts) ≡ k + 1 + length ts = omega arith in
    (elim (nat_lt k n) as (λ b. nat_lt k n ≡ b → Leaves r (Stable k t ∷ stable_items (k + 1) ts) (record r { stable = take (max n (k + suc (length ts))) whole })) [
      | true ↦ λ e.
          let less = lt-of k n e in
          let top : max n k ≡ max n (k + 1) = omega (arith, less) in
          rw next (leaves-skip r _ (Stable k t) (stable_items (k + 1) ts) (read-old r k t (omega (arith, long, less)))
          (stable-leaves whole n (k + 1) ts r few rest (omega (arith, many)) (same ∙ ap (λ (m : ℕ). take m whole) top) sure))
      | false ↦ λ e.
          let low : n ≤ k = grind (arith, common_steps) in
          let top : max n k ≡ k = omega (arith, low) in
          let more : max n (k + 1) ≡ k + 1 = omega (arith, low) in
          let u = record r { stable = push r.stable t } in
          let pushed : push r.stable t ≡ take (max n (k + 1)) whole =
          ap (λ (ys : List Tuple). push ys t) (same ∙ ap (λ (m : ℕ). take m whole) top) ∙ get-taken k whole t here ∙ ap (λ (m : ℕ). take m whole) (sym more) in
          rw next (leaves-take r u _ (Stable k t) (stable_items (k + 1) ts) (read-next r k t (omega (arith, long, top)) sure)
          (stable-leaves whole n (k + 1) ts u few rest (omega (arith, many)) pushed sure))
    ]) refl

-- ---- the other items

pub boundary-leaves : (r : Reader) (b m : ℕ) → m ≤ length r.stable → is_sure r ≡ true → Leaves r (Boundary b m ∷ []) (record r { bound = max r.bound b })
boundary-leaves r b m few sure =
    let enough = le-test m (length r.stable) few in
    (elim (nat_lt r.bound b) as (λ c. nat_lt r.bound b ≡ c → Leaves r (Boundary b m ∷ []) (record r { bound = max r.bound b })) [
      | true ↦ λ e.
          let less = lt-of r.bound b e in
          let top : b ≡ max r.bound b = omega (arith, less) in
          leaves-take r (record r { bound = b }) (record r { bound = max r.bound b }) (Boundary b m) [] (rw (enough, sure, e) refl)
          (subst (λ (c : ℕ). Leaves (record r { bound = b }) [] (record r { bound = c })) top (leaves-none (record r { bound = b })))
      | false ↦ λ e.
          let more : b ≤ r.bound = grind (arith, common_steps) in
          let top : r.bound ≡ max r.bound b = omega (arith, more) in
          leaves-skip r (record r { bound = max r.bound b }) (Boundary b m) [] (rw (enough, sure, e) refl)
          (subst (λ (c : ℕ). Leaves r [] (record r { bound = c })) top (leaves-none r))
    ]) refl

append-one : (xs ys : List Tuple) (t : Tuple) → (xs ++ t ∷ []) ++ ys ≡ xs ++ t ∷ ys
append-one [] ys t = refl
append-one (x ∷ xs) ys t = ap (λ (zs : List Tuple). x ∷ zs) (append-one xs ys t)

pub tentative-leaves : (r : Reader) (ts : List Tuple) → Leaves r (tentative_items ts) (record r { tentative = r.tentative ++ from_time r.bound ts })
tentative-leaves r [] = subst (λ (ys : List Tuple). Leaves r [] (record r { tentative = ys })) (sym (append-nil r.tentative)) (leaves-none r)
tentative-leaves r (t ∷ ts) =
    (elim (nat_le r.bound t.stime) as (λ b. nat_le r.bound t.stime ≡ b → Leaves r (Tentative t ∷ tentative_items ts) (record r { tentative = r.tentative ++ cond b (t ∷ from_time r.bound ts) (from_time r.bound ts) })) [
      | true ↦ λ e.
          let u = record r { tentative = push r.tentative t } in
          leaves-take r u _ (Tentative t) (tentative_items ts) (rw e refl)
          (subst (λ (ys : List Tuple). Leaves u (tentative_items ts) (record r { tentative = ys })) (append-one r.tentative (from_time r.bound ts) t) (tentative-leaves u ts))
      | false ↦ λ e. leaves-skip r _ (Tentative t) (tentative_items ts) (rw e refl) (tentative-leaves r ts)
    ]) refl

-- a passed mark, from one that tentative output went to before
pub passed-leaves : (r : Reader) (v : ℕ) → r.passed ≤ v → (r.passed ≡ 0) ⊎ (r.bound < r.passed) → Leaves r (Passed v ∷ []) (record r { passed = passed_of r.bound (Some v) })
passed-leaves r v low mark =
    (elim (nat_lt r.bound v) as (λ b. nat_lt r.bound v ≡ b → Leaves r (Passed v ∷ []) (record r { passed = cond b v 0 })) [
      | true ↦ λ e. (elim (nat_lt r.passed v) as (λ b. nat_lt r.passed v ≡ b → Leaves r (Passed v ∷ []) (record r { passed = v })) [
        | true ↦ λ f. leaves-take r (record r { passed = v }) (record r { passed = v }) (Passed v) [] (rw (e, f) refl) (leaves-none (record r { passed = v }))
        | false ↦ λ f.
            let high : v ≤ r.passed = grind (arith, common_steps) in
            let same : r.passed ≡ v = omega (arith, low, high) in
            leaves-skip r (record r { passed = v }) (Passed v) [] (rw (e, f) refl) (subst (λ (c : ℕ). Leaves r [] (record r { passed = c })) same (leaves-none r))
      ]) refl
      | false ↦ λ e.
          let high : v ≤ r.bound = grind (arith, common_steps) in
          leaves-skip r (record r { passed = 0 }) (Passed v) [] (rw e refl) (subst (λ (c : ℕ). Leaves r [] (record r { passed = c })) (none high mark) (leaves-none r))
    ]) refl
  where
    none : v ≤ r.bound → (r.passed ≡ 0) ⊎ (r.bound < r.passed) → r.passed ≡ 0
    none high (inl e) = e
    none high (inr less) = absurd (omega (arith, high, less, low))

pub done-leaves : (r : Reader) (b : Bool) → (b ≡ true → is_sure r ≡ true) → Leaves r (item_if b RecDone) r
done-leaves r true sure = leaves-take r r r RecDone [] (rw (sure refl) refl) (leaves-none r)
done-leaves r false sure = leaves-none r

-- ---- a view

-- what a reader holds behind a view: n or k stable tuples, this bound, and the view's tentative output past it
abbrev pub held_view : List Tuple → ℕ → ℕ → ℕ → List Tuple → Option ℕ → Reader
held_view whole n k b tentative passed = record { stable = take (max n k) whole; bound = b; tentative = from_time b tentative; passed = passed_of b passed }

abbrev pub IsBoundStep : Shown → Shown → Option (ℕ × ℕ) → Type 0
IsBoundStep x y None = bound_of y.bound ≡ bound_of x.bound
IsBoundStep x y (Some b) = (bound_of y.bound ≡ b.0) × (bound_of x.bound ≤ b.0) × (b.1 ≤ length y.stable)

abbrev pub IsPast : ℕ → Option ℕ → Type 0
IsPast v None = Unit {0}
IsPast v (Some u) = u ≤ v

abbrev pub IsPassedStep : Shown → Shown → Option ℕ → Type 0
IsPassedStep x y None = y.passed ≡ x.passed
IsPassedStep x y (Some v) = (y.passed ≡ Some v) × IsPast v x.passed

-- a view has no tentative output
abbrev pub IsClear : Shown → Type 0
IsClear x = (x.tentative ≡ []) × (x.passed ≡ None)

-- what an event gives leads from one view to the next
pub record IsViewStep (plan : Plan) (s : StreamRef) (x y : Shown) (g : Given) : Type 0 where
  pub stable : y.stable ≡ x.stable ++ g.stable
  pub beginning : IsPrefixOf y.stable (ideal plan s)
  pub bound : IsBoundStep x y g.bound
  -- corrections come where nothing is tentative
  pub clear : IsClear x ⊎ ((g.stable ≡ []) × (g.bound ≡ None) × (g.done ≡ false))
  pub tentative : y.tentative ≡ x.tentative ++ g.tentative
  pub passed : IsPassedStep x y g.passed
  pub done : g.done ≡ true → IsClear y

prefix-get : (xs ys whole : List Tuple) (i : ℕ) (t : Tuple) → IsPrefixOf (xs ++ ys) whole → slice_get ys i ≡ Some t → slice_get whole (length xs + i) ≡ Some t
prefix-get xs ys whole i t p e = get-prefix (xs ++ ys) whole (length xs + i) t p (get-behind xs ys i ∙ e)
  where
    get-behind : (xs ys : List Tuple) (i : ℕ) → slice_get (xs ++ ys) (length xs + i) ≡ slice_get ys i
    get-behind [] ys i = let none : 0 + i ≡ i = omega arith in rw none refl
    get-behind (x ∷ xs) ys i = let next : suc (length xs) + i ≡ suc (length xs + i) = omega arith in rw next (get-behind xs ys i)

prefix-few : (xs whole : List Tuple) → IsPrefixOf xs whole → length xs ≤ length whole
prefix-few xs whole p = let same = ap length p.1 in let more = length-append xs p.0 in omega (arith, same, more)

-- stable items and a boundary, where nothing is tentative
clear-leaves : (whole : List Tuple) (n b b' : ℕ) (xs ts : List Tuple) (o : Option (ℕ × ℕ)) → n ≤ length whole → IsPrefixOf (xs ++ ts) whole →
    (b' ≡ max b (bound_of o)) → ((m : ℕ × ℕ) → o ≡ Some m → m.1 ≤ length (xs ++ ts)) →
    Leaves (held_view whole n (length xs) b [] None) (stable_items (length xs) ts ++ boundary_item o) (held_view whole n (length (xs ++ ts)) b' [] None)
clear-leaves whole n b b' xs ts o few p top low =
    let r = held_view whole n (length xs) b [] None in
    let long = length-append xs ts in
    let many = prefix-few (xs ++ ts) whole p in
    let one = stable-leaves whole n (length xs) ts r few (λ i t e. prefix-get xs ts whole i t p e) (omega (arith, long, many)) refl refl in
    let mid = held_view whole n (length (xs ++ ts)) b [] None in
    let first : Leaves r (stable_items (length xs) ts) mid = rw long one in
    leaves-append r mid (held_view whole n (length (xs ++ ts)) b' [] None) (stable_items (length xs) ts) (boundary_item o) first (by-bound o top low)
  where
    by-bound : (o : Option (ℕ × ℕ)) → b' ≡ max b (bound_of o) → ((m : ℕ × ℕ) → o ≡ Some m → m.1 ≤ length (xs ++ ts)) →
        Leaves (held_view whole n (length (xs ++ ts)) b [] None) (boundary_item o) (held_view whole n (length (xs ++ ts)) b' [] None)
    by-bound None e h =
        let same : b ≡ b' = omega (arith, e) in
        subst (λ (c : ℕ). Leaves (held_view whole n (length (xs ++ ts)) b [] None) [] (held_view whole n (length (xs ++ ts)) c [] None)) same (leaves-none (held_view whole n (length (xs ++ ts)) b [] None))
    by-bound (Some m) e h =
        let r = held_view whole n (length (xs ++ ts)) b [] None in
        let all = prefix-few (xs ++ ts) whole p in
        let long = length-take-le (max n (length (xs ++ ts))) whole (omega (arith, few, all)) in
        let low = h m refl in
        rw e (boundary-leaves r m.0 m.1 (omega (arith, long, low)) refl)

passed-low : (b v : ℕ) (o : Option ℕ) → IsPast v o → passed_of b o ≤ v
passed-low b v None h = omega arith
passed-low b v (Some u) h = elim (nat_lt b u) as (λ c. cond c u 0 ≤ v) [ true ↦ h | false ↦ omega arith ]

passed-mark : (b : ℕ) (o : Option ℕ) → (passed_of b o ≡ 0) ⊎ (b < passed_of b o)
passed-mark b None = inl refl
passed-mark b (Some u) = (elim (nat_lt b u) as (λ c. nat_lt b u ≡ c → (cond c u 0 ≡ 0) ⊎ (b < cond c u 0)) [
  | true ↦ λ e. inr (lt-of b u e)
  | false ↦ λ e. inl refl
]) refl

pub given-leaves : (plan : Plan) (s : StreamRef) (asked : Subscribe) (x y : Shown) (g : Given) (start : Reader) → asked.n ≤ length (ideal plan s) → IsViewStep plan s x y g →
    Leaves (taken_whole plan s asked x start) (given_items (length x.stable) g) (taken_whole plan s asked y start)
given-leaves plan s asked x y g start few step =
    let whole = ideal plan s in
    let n = asked.n in
    let b = max start.bound (bound_of x.bound) in
    let b' = max start.bound (bound_of y.bound) in
    let k' = length y.stable in
    let r0 = taken_whole plan s asked x start in
    let r1 = held_view whole n k' b' x.tentative x.passed in
    let r2 = held_view whole n k' b' y.tentative x.passed in
    let r3 = held_view whole n k' b' y.tentative y.passed in
    let stable = stable_items (length x.stable) g.stable in
    let bound = boundary_item g.bound in
    let tentative = tentative_items g.tentative in
    let passed = passed_item g.passed in
    leaves-append r0 r3 r3 (stable ++ bound ++ tentative ++ passed) (item_if g.done RecDone)
    (leaves-append r0 r2 r3 (stable ++ bound ++ tentative) passed
    (leaves-append r0 r1 r2 (stable ++ bound) tentative (to-bound step.clear) to-tentative) (to-passed g.passed step.passed))
    (done-leaves r3 g.done (λ e. rw ((step.done e).0, (step.done e).1) refl))
  where
    bound-step : (o : Option (ℕ × ℕ)) → IsBoundStep x y o → max start.bound (bound_of y.bound) ≡ max (max start.bound (bound_of x.bound)) (bound_of o)
    bound-step None e = omega (arith, e)
    bound-step (Some m) e = let one = e.0 in let two = e.1 in omega (arith, one, two)

    none-bound : (o : Option (ℕ × ℕ)) → o ≡ None → IsBoundStep x y o → bound_of y.bound ≡ bound_of x.bound
    none-bound None e h = h
    none-bound (Some m) e h = cc

    bound-low : (o : Option (ℕ × ℕ)) → IsBoundStep x y o → (m : ℕ × ℕ) → o ≡ Some m → m.1 ≤ length (x.stable ++ g.stable)
    bound-low None e m f = cc
    bound-low (Some b) e m f = let same : b ≡ m = cc in rw (← step.stable) (subst (λ (c : ℕ × ℕ). c.1 ≤ length y.stable) same e.2)

    to-bound : IsClear x ⊎ ((g.stable ≡ []) × (g.bound ≡ None) × (g.done ≡ false)) →
        Leaves (taken_whole plan s asked x start) (stable_items (length x.stable) g.stable ++ boundary_item g.bound)
        (held_view (ideal plan s) asked.n (length y.stable) (max start.bound (bound_of y.bound)) x.tentative x.passed)
    to-bound (inl clear) =
        rw (clear.0, clear.1, step.stable) (clear-leaves (ideal plan s) asked.n (max start.bound (bound_of x.bound)) (max start.bound (bound_of y.bound)) x.stable g.stable g.bound few
        (rw step.stable at step.beginning) (bound-step g.bound step.bound) (bound-low g.bound step.bound))
    to-bound (inr none) =
        let whole = ideal plan s in
        let same : y.stable ≡ x.stable = step.stable ∙ ap (λ (ts : List Tuple). x.stable ++ ts) none.0 ∙ append-nil x.stable in
        let bound : bound_of y.bound ≡ bound_of x.bound = none-bound g.bound none.1 step.bound in
        rw (none.0, none.1, same, bound) (leaves-none (taken_whole plan s asked x start))

    to-tentative : Leaves (held_view (ideal plan s) asked.n (length y.stable) (max start.bound (bound_of y.bound)) x.tentative x.passed) (tentative_items g.tentative)
        (held_view (ideal plan s) asked.n (length y.stable) (max start.bound (bound_of y.bound)) y.tentative x.passed)
    to-tentative =
        let b = max start.bound (bound_of y.bound) in
        let r = held_view (ideal plan s) asked.n (length y.stable) b x.tentative x.passed in
        let joined : from_time b y.tentative ≡ from_time b x.tentative ++ from_time b g.tentative =
        ap (λ (ts : List Tuple). from_time b ts) step.tentative ∙ filter-append (λ (t : Tuple). nat_le b t.stime) x.tentative g.tentative in
        subst (λ (ts : List Tuple). Leaves r (tentative_items g.tentative) (record r { tentative = ts })) (sym joined) (tentative-leaves r g.tentative)

    to-passed : (o : Option ℕ) → IsPassedStep x y o → Leaves (held_view (ideal plan s) asked.n (length y.stable) (max start.bound (bound_of y.bound)) y.tentative x.passed) (passed_item o)
        (held_view (ideal plan s) asked.n (length y.stable) (max start.bound (bound_of y.bound)) y.tentative y.passed)
    to-passed None e = rw e (leaves-none (held_view (ideal plan s) asked.n (length y.stable) (max start.bound (bound_of y.bound)) y.tentative x.passed))
    to-passed (Some v) e =
        let b = max start.bound (bound_of y.bound) in
        let r = held_view (ideal plan s) asked.n (length y.stable) b y.tentative x.passed in
        subst (λ (o : Option ℕ). Leaves r (Passed v ∷ []) (record r { passed = passed_of b o })) (sym e.0) (passed-leaves r v (passed-low b v x.passed e.1) (passed-mark b x.passed))

-- a correction of all tentative output
pub undo-leaves : (plan : Plan) (s : StreamRef) (asked : Subscribe) (x y : Shown) (start : Reader) (m : ℕ) → y.stable ≡ x.stable → y.bound ≡ x.bound → IsClear y →
    Leaves (taken_whole plan s asked x start) (Undo m ∷ []) (taken_whole plan s asked y start)
undo-leaves plan s asked x y start m stable bound clear =
    rw (stable, bound, clear.0, clear.1)
    (leaves-take (taken_whole plan s asked x start) (record (taken_whole plan s asked x start) { tentative = []; passed = 0 }) (record (taken_whole plan s asked x start) { tentative = []; passed = 0 }) (Undo m) [] refl
    (leaves-none (record (taken_whole plan s asked x start) { tentative = []; passed = 0 })))

-- ---- the first batch

-- what a sender shows of its stream
pub record IsView (plan : Plan) (s : StreamRef) (x : Shown) : Type 0 where
  pub beginning : IsPrefixOf x.stable (ideal plan s)
  pub bound : (b : ℕ × ℕ) → x.bound ≡ Some b → b.1 ≤ length x.stable
  pub stable : x.is_stable ≡ true → IsClear x

start-clear : (r : Reader) → is_sure r ≡ true → (r.tentative ≡ []) × (r.passed ≡ 0)
start-clear r h = let p = both (is_nil r.tentative) (r.passed == 0) h in (by-list r.tentative p.0, eq-of r.passed 0 p.1)
  where
    by-list : (ts : List Tuple) → is_nil ts ≡ true → ts ≡ []
    by-list [] e = refl
    by-list (t ∷ ts) e = cc

fits-few : (plan : Plan) (s : StreamRef) (asked : Subscribe) (start : Reader) → Fits plan s asked start → asked.n ≤ length (ideal plan s)
fits-few plan s asked start h = let same : length (take asked.n (ideal plan s)) ≡ asked.n = sym (ap length h.stable) ∙ h.count in omega (arith, same, length-take asked.n (ideal plan s))

drop-part : (n : ℕ) (xs whole : List Tuple) (i : ℕ) (t : Tuple) → IsPrefixOf xs whole → slice_get (drop n xs) i ≡ Some t → slice_get whole (n + i) ≡ Some t
drop-part n xs whole i t p e = get-prefix xs whole (n + i) t p (sym (get-drop n i xs) ∙ e)

pub first-leaves : (plan : Plan) (s : StreamRef) (asked : Subscribe) (x : Shown) (start : Reader) → IsView plan s x → Fits plan s asked start → Leaves start (first_batch x asked) (taken_whole plan s asked x start)
first-leaves plan s asked x start view fit =
    let whole = ideal plan s in
    let n = asked.n in
    let b' = max start.bound (bound_of x.bound) in
    let few = fits-few plan s asked start fit in
    let all = prefix-few x.stable whole view.beginning in
    let undo = item_if asked.tentative (Undo n) in
    let stable = stable_items n (drop n x.stable) in
    let bound = boundary_item x.bound in
    let tentative = tentative_items x.tentative in
    let passed = passed_item x.passed in
    let r0 : Reader = record { stable = take n whole; bound = start.bound; tentative = []; passed = 0 } in
    let r1 : Reader = record { stable = take (max n (length x.stable)) whole; bound = start.bound; tentative = []; passed = 0 } in
    let r2 : Reader = record { stable = take (max n (length x.stable)) whole; bound = b'; tentative = []; passed = 0 } in
    let r3 : Reader = record { stable = take (max n (length x.stable)) whole; bound = b'; tentative = from_time b' x.tentative; passed = 0 } in
    let r4 = taken_whole plan s asked x start in
    let left : length (drop n x.stable) ≡ length x.stable - n = length-drop n x.stable in
    let top : max n n ≡ n = omega arith in
    let last : max n (n + length (drop n x.stable)) ≡ max n (length x.stable) = omega (arith, left) in
    let one : Leaves start undo r0 = by-tentative asked.tentative refl in
    let two : Leaves r0 stable r1 =
    subst (λ (m : ℕ). Leaves r0 stable (record r0 { stable = take m whole })) last
    (stable-leaves whole n n (drop n x.stable) r0 few (λ i t e. drop-part n x.stable whole i t view.beginning e) (omega (arith, left, few, all)) (ap (λ (m : ℕ). take m whole) (sym top)) refl) in
    let three : Leaves r1 bound r2 = by-bound x.bound refl in
    let four : Leaves r2 tentative r3 = tentative-leaves r2 x.tentative in
    let five : Leaves r3 passed r4 = by-passed x.passed refl in
    let six : Leaves r4 (item_if (asked.tentative && x.is_stable) RecDone) r4 = done-leaves r4 (asked.tentative && x.is_stable) (λ e. let c = view.stable (both asked.tentative x.is_stable e).1 in rw (c.0, c.1) refl) in
    leaves-append start r4 r4 (undo ++ stable ++ bound ++ tentative ++ passed) (item_if (asked.tentative && x.is_stable) RecDone)
    (leaves-append start r3 r4 (undo ++ stable ++ bound ++ tentative) passed
    (leaves-append start r2 r3 (undo ++ stable ++ bound) tentative
    (leaves-append start r1 r2 (undo ++ stable) bound (leaves-append start r0 r1 undo stable one two) three) four) five) six
  where
    by-tentative : (b : Bool) → asked.tentative ≡ b → Leaves start (item_if b (Undo asked.n)) (record { stable = take asked.n (ideal plan s); bound = start.bound; tentative = []; passed = 0 })
    by-tentative true e =
        subst (λ (ts : List Tuple). Leaves start (Undo asked.n ∷ []) (record { stable = ts; bound = start.bound; tentative = []; passed = 0 })) fit.stable
        (leaves-take start (record start { tentative = []; passed = 0 }) (record start { tentative = []; passed = 0 }) (Undo asked.n) [] refl (leaves-none (record start { tentative = []; passed = 0 })))
    by-tentative false e =
        let clear = start-clear start (fit.tentative ∙ ap not e) in
        subst (λ (c : ℕ). Leaves start [] (record { stable = take asked.n (ideal plan s); bound = start.bound; tentative = []; passed = c })) clear.1
        (subst (λ (us : List Tuple). Leaves start [] (record { stable = take asked.n (ideal plan s); bound = start.bound; tentative = us; passed = start.passed })) clear.0
        (subst (λ (ts : List Tuple). Leaves start [] (record { stable = ts; bound = start.bound; tentative = start.tentative; passed = start.passed })) fit.stable (leaves-none start)))

    by-bound : (o : Option (ℕ × ℕ)) → x.bound ≡ o →
        Leaves (record { stable = take (max asked.n (length x.stable)) (ideal plan s); bound = start.bound; tentative = []; passed = 0 }) (boundary_item o)
        (record { stable = take (max asked.n (length x.stable)) (ideal plan s); bound = max start.bound (bound_of x.bound); tentative = []; passed = 0 })
    by-bound None e =
        let r : Reader = record { stable = take (max asked.n (length x.stable)) (ideal plan s); bound = start.bound; tentative = []; passed = 0 } in
        let same : start.bound ≡ max start.bound 0 = omega arith in rw e (subst (λ (c : ℕ). Leaves r [] (record r { bound = c })) same (leaves-none r))
    by-bound (Some m) e =
        let r : Reader = record { stable = take (max asked.n (length x.stable)) (ideal plan s); bound = start.bound; tentative = []; passed = 0 } in
        let few = fits-few plan s asked start fit in
        let all = prefix-few x.stable (ideal plan s) view.beginning in
        let long = length-take-le (max asked.n (length x.stable)) (ideal plan s) (omega (arith, few, all)) in
        let low = view.bound m e in
        rw e (boundary-leaves r m.0 m.1 (omega (arith, long, low)) refl)

    by-passed : (o : Option ℕ) → x.passed ≡ o →
        Leaves (record { stable = take (max asked.n (length x.stable)) (ideal plan s); bound = max start.bound (bound_of x.bound); tentative = from_time (max start.bound (bound_of x.bound)) x.tentative; passed = 0 })
        (passed_item o) (taken_whole plan s asked x start)
    by-passed None e =
        rw e (leaves-none (record { stable = take (max asked.n (length x.stable)) (ideal plan s); bound = max start.bound (bound_of x.bound); tentative = from_time (max start.bound (bound_of x.bound)) x.tentative; passed = 0 }))
    by-passed (Some v) e =
        let b = max start.bound (bound_of x.bound) in
        let r : Reader = record { stable = take (max asked.n (length x.stable)) (ideal plan s); bound = b; tentative = from_time b x.tentative; passed = 0 } in
        subst (λ (o : Option ℕ). Leaves r (Passed v ∷ []) (record r { passed = passed_of b o })) (sym e) (passed-leaves r v (omega arith) (inl refl))

-- ---- the law, one event more

from-law : (o : Option Folded) (s : Reader) → IfSome o (λ (f : Folded). f.after ≡ s) → IsSome o → (f : Folded) × (o ≡ Some f) × (f.after ≡ s)
from-law None s h k = cc
from-law (Some f) s h k = (f, refl, h)

to-law : (o : Option Folded) (s : Reader) → (f : Folded) × (o ≡ Some f) × (f.after ≡ s) → IfSome o (λ (f : Folded). f.after ≡ s) × IsSome o
to-law o s h = rw h.1 (h.2, refl)

-- a session that was opened with its first batch
pub first-law : (plan : Plan) (s : StreamRef) (asked : Subscribe) (x : Shown) → IsView plan s x → LeavesView plan s asked x (first_batch x asked)
first-law plan s asked x view start fit = to-law (fold_items start (first_batch x asked)) (taken_whole plan s asked x start) (first-leaves plan s asked x start view fit)

-- one event gives more
pub given-law : (plan : Plan) (s : StreamRef) (asked : Subscribe) (x y : Shown) (g : Given) (items : List Item) → IsViewStep plan s x y g → LeavesView plan s asked x items →
    LeavesView plan s asked y (items ++ given_items (length x.stable) g)
given-law plan s asked x y g items step law start fit =
    let l = law start fit in
    to-law (fold_items start (items ++ given_items (length x.stable) g)) (taken_whole plan s asked y start)
    (leaves-append start (taken_whole plan s asked x start) (taken_whole plan s asked y start) items (given_items (length x.stable) g)
    (from-law (fold_items start items) (taken_whole plan s asked x start) l.0 l.1) (given-leaves plan s asked x y g start (fits-few plan s asked start fit) step))

-- and one corrects
pub undo-law : (plan : Plan) (s : StreamRef) (asked : Subscribe) (x y : Shown) (m : ℕ) (items : List Item) → y.stable ≡ x.stable → y.bound ≡ x.bound → IsClear y → LeavesView plan s asked x items →
    LeavesView plan s asked y (items ++ Undo m ∷ [])
undo-law plan s asked x y m items stable bound clear law start fit =
    let l = law start fit in
    to-law (fold_items start (items ++ Undo m ∷ [])) (taken_whole plan s asked y start)
    (leaves-append start (taken_whole plan s asked x start) (taken_whole plan s asked y start) items (Undo m ∷ [])
    (from-law (fold_items start items) (taken_whole plan s asked x start) l.0 l.1) (undo-leaves plan s asked x y start m stable bound clear))
