-- What holds of the stream that two clients make in a run.
use Rattle.std.proofs.Common.{◌≡◌, ◌⊎◌, inl, inr, ℕ, ◌≤◌, ◌<◌, max, nat_lt, nat_le, ◌==◌, ◌&&◌, true, false, cond, List, [], ◌∷◌, ◌++◌, length, Some, slice_get, refl, sym, ap, subst, ◌∙◌, arith}
use Rattle.std.specs.List.{Contains}
use Rattle.std.proofs.lemmas.List.{append-nil, append_assoc}
use Rattle.std.proofs.lemmas.List.Elements.{Contains-append_left, Contains-append_right, Contains-append_cases, Contains-push, Contains-push_cases}
use Rattle.dpc_lists.specs.Lists.{push}
use Rattle.dpc_lists.proofs.Elements.{get-first}
use Rattle.dpc_model.specs.Fragments.{ideal_upto}
use Rattle.dpc_model.specs.Reading.{Reader, NoReading, Skipped, Taken, reading, is_sure, empty_reader}
use Rattle.dpc_model.specs.Streams.{cut}
use Rattle.dpc_model.specs.declared.messages.Event.{Event}
use Rattle.dpc_model.specs.declared.plans.Plan.{Plan}
use Rattle.dpc_model.specs.declared.plans.StreamRef.{StreamRef}
use Rattle.dpc_model.specs.declared.tuples.Item.{Item}
use Rattle.dpc_model.specs.declared.tuples.Item.TheVariants.{Stable, Tentative, Passed, Boundary, Undo, RecDone}
use Rattle.dpc_model.specs.declared.tuples.Tuple.{Tuple}
use Rattle.node_model.specs.Clients.{client_stream}
use Rattle.world_model.specs.Worlds.{World, client_at, new_world, happens, run_from, run}
use Rattle.world_model.specs.Safe.{HoldsOf, IsTrueItem, AreTrueItems}
use Rattle.world_model.proofs.Running.{run-push}
use Rattle.law_safety.specs.Plans.{IsCheckedPlan}
use Rattle.law_safety.proofs.Outputs.{cut-held}
use Rattle.law_safety.proofs.Truth.{AreTrueItems-append}
use Rattle.law_session_origins.specs.Standing.{takes}
use Rattle.law_session_origins.proofs.Takings.{none-there}
use Rattle.law_journals.proofs.Items.{taken-grows}
use Rattle.back_channel.specs.Merging.{merge, Leaves}
use Rattle.back_channel.specs.Sides.{left_by}
use Rattle.back_channel.specs.Told.{IsOfOne, reader_of as reader_with}
use Rattle.back_channel.proofs.Foldings.{behind-one, leaves-none, leaves-end, leaves-append}
use Rattle.back_channel.proofs.Leading.{leads}
use Rattle.back_channel.proofs.Onward.{goes-on}
use Rattle.back_channel.proofs.Sources.{told-of-one}
use Rattle.law_pairs.specs.Pairs.{held_at, merge_at, told_of, told_from, pair_items, AreReaders, GoTogether, WasTaken, IsOneStream}
use Rattle.law_pairs.proofs.Holding.{taken-leaves, holds-of, first-holds, merge-holds}
use Rattle.law_pairs.proofs.Going.{go-together, holds-both}

-- ---- events one behind another

told-append : (w : World) (x y : ℕ) (events more : List Event) → told_from w x y (events ++ more) ≡ told_from w x y events ++ told_from (run_from w events) x y more
told-append w x y [] more = refl
told-append w x y (e ∷ events) more =
    ap (λ (items : List Item). told_of w e x y ++ items) (told-append (happens w e) x y events more) ∙ sym (append_assoc (told_of w e x y) (told_from (happens w e) x y events) (told_from (run_from (happens w e) events) x y more))

pub none-told : (plan : Plan) (x y : ℕ) → pair_items plan [] x y ≡ []
unfolding pair_items
none-told plan x y = refl

pub one-told : (plan : Plan) (events : List Event) (e : Event) (x y : ℕ) → pair_items plan (events ++ e ∷ []) x y ≡ pair_items plan events x y ++ told_of (run plan events) e x y
unfolding pair_items run
one-told plan events e x y =
    told-append (new_world plan) x y events (e ∷ [])
    ∙ ap (λ (items : List Item). told_from (new_world plan) x y events ++ items) (append-nil (told_of (run_from (new_world plan) events) e x y))

-- a fact of the items of a run, by what each event adds
module _ (plan : Plan) (x y : ℕ) (P : List Event → List Item → Type 0) where
  by-events : (done events : List Event) (items : List Item) → items ≡ pair_items plan done x y → P done items →
      ((before : List Event) (e : Event) (told : List Item) → told ≡ pair_items plan before x y → P before told → P (before ++ e ∷ []) (told ++ told_of (run plan before) e x y)) →
      P (done ++ events) (pair_items plan (done ++ events) x y)
  by-events done [] items same h next =
      let none = append-nil done in
      subst (λ (es : List Event). P es (pair_items plan es x y)) (sym none) (subst (λ (is : List Item). P done is) same h)
  by-events done (e ∷ events) items same h next =
      let more = items ++ told_of (run plan done) e x y in
      let told : more ≡ pair_items plan (done ++ e ∷ []) x y = ap (λ (is : List Item). is ++ told_of (run plan done) e x y) same ∙ sym (one-told plan done e x y) in
      subst (λ (es : List Event). P es (pair_items plan es x y)) (append_assoc done (e ∷ []) events)
      (by-events (done ++ e ∷ []) events more told (next done e items same h) next)

  pub by-run : (events : List Event) → P [] [] →
      ((before : List Event) (e : Event) (told : List Item) → told ≡ pair_items plan before x y → P before told → P (before ++ e ∷ []) (told ++ told_of (run plan before) e x y)) →
      P events (pair_items plan events x y)
  by-run events start next = by-events [] events [] (sym (none-told plan x y)) start next

-- ---- what one event adds

step-leaves : (w : World) (e : Event) (x y : ℕ) → GoTogether w e x y → Leaves (reader_with (merge_at w x y)) (told_of w e x y) (reader_with (merge_at (happens w e) x y))
step-leaves w e x y g =
    leads (merge_at w x y) (merge_at (happens w e) x y)
    (goes-on (held_at w x) (held_at w y) (held_at (happens w e) x) (held_at (happens w e) y) (takes w e x, g.first) (takes w e y, g.second) g.before g.after)

step-of-one : (w : World) (e : Event) (x y : ℕ) (i : Item) → GoTogether w e x y → Contains (told_of w e x y) i → IsOfOne (held_at (happens w e) x) (held_at (happens w e) y) i
step-of-one w e x y i g =
    told-of-one (held_at w x) (held_at w y) (held_at (happens w e) x) (held_at (happens w e) y) i (takes w e x, g.first) (takes w e y, g.second) g.before g.after

-- ---- stable tuples and boundaries

true-of-one : (plan : Plan) (s : StreamRef) (r q : Reader) (i : Item) → IsCheckedPlan plan → HoldsOf plan s r → HoldsOf plan s q → IsOfOne r q i → IsTrueItem plan s i
true-of-one plan s r q (Stable k t) checked h g (inl e) = let p = h.stable in subst (λ (ts : List Tuple). slice_get ts k ≡ Some t) (sym p.1) (get-first r.stable p.0 k t e)
true-of-one plan s r q (Stable k t) checked h g (inr e) = let p = g.stable in subst (λ (ts : List Tuple). slice_get ts k ≡ Some t) (sym p.1) (get-first q.stable p.0 k t e)
true-of-one plan s r q (Boundary b m) checked h g e =
    let both = merge-holds plan s r q h g in
    let low : max r.bound q.bound ≤ plan.end = both.within in
    let upto = cut-held plan s (reader_with (merge r q)) (max r.bound q.bound) checked.checked.sound both (omega arith) in
    subst (λ (t : ℕ). (t ≤ plan.end) × (m ≡ length (ideal_upto plan s t))) (sym e.0)
    (low, e.1 ∙ ap (λ (t : ℕ). length (cut (merge r q).stable t)) e.0 ∙ ap (λ (ts : List Tuple). length ts) upto)
true-of-one plan s r q (Tentative t) checked h g e = tt
true-of-one plan s r q (Passed b) checked h g e = tt
true-of-one plan s r q (Undo n) checked h g e = tt
true-of-one plan s r q RecDone checked h g e = tt

all-true : (plan : Plan) (s : StreamRef) (items : List Item) → ((i : Item) → Contains items i → IsTrueItem plan s i) → AreTrueItems plan s items
all-true plan s [] h = tt
all-true plan s (i ∷ items) h =
    (h i (Contains-append_left (i ∷ []) items i (Contains-push [] i)), all-true plan s items (λ (j : Item) (c : Contains items j). h j (Contains-append_right (i ∷ []) items j c)))

-- ---- tentative tuples

-- a tentative tuple that an item leaves was there or came with it
one-came : (r next : Reader) (i : Item) (t : Tuple) → left_by r (reading r i) ≡ Some next → Contains next.tentative t → Contains r.tentative t ⊎ (i ≡ Tentative t)
one-came r next i t left h = by-item i left
  where
    stays : (q : Reader) → q ≡ next → q.tentative ≡ r.tentative → Contains r.tentative t
    stays q e same = subst (λ (ts : List Tuple). Contains ts t) (ap (λ (z : Reader). z.tentative) (sym e) ∙ same) h

    by-item : (j : Item) → left_by r (reading r j) ≡ Some next → Contains r.tentative t ⊎ (j ≡ Tentative t)
    by-item (Stable k u) =
        elim (nat_lt k (length r.stable)) as (λ c. left_by r (cond c Skipped (cond (k == length r.stable && is_sure r) (Taken (record r { stable = push r.stable u })) NoReading)) ≡ Some next → Contains r.tentative t ⊎ (Stable k u ≡ Tentative t)) [
          | true ↦ λ e. let same : r ≡ next = cc in inl (stays r same refl)
          | false ↦ elim (k == length r.stable && is_sure r) as (λ c. left_by r (cond c (Taken (record r { stable = push r.stable u })) NoReading) ≡ Some next → Contains r.tentative t ⊎ (Stable k u ≡ Tentative t)) [
            | true ↦ λ e. let same : record r { stable = push r.stable u } ≡ next = cc in inl (stays (record r { stable = push r.stable u }) same refl)
            | false ↦ λ e. absurd (cc)
          ]
        ]
    by-item (Tentative u) =
        elim (nat_le r.bound u.stime) as (λ c. left_by r (cond c (Taken (record r { tentative = push r.tentative u })) Skipped) ≡ Some next → Contains r.tentative t ⊎ (Tentative u ≡ Tentative t)) [
          | true ↦ λ e.
              let same : next ≡ record r { tentative = push r.tentative u } = cc in
              elim (Contains-push_cases r.tentative u t (subst (λ (q : Reader). Contains q.tentative t) same h)) [
                | inl old ↦ inl old
                | inr is ↦ inr (ap Tentative is)
              ]
          | false ↦ λ e. let same : r ≡ next = cc in inl (stays r same refl)
        ]
    by-item (Passed b) =
        elim (nat_lt r.bound b && nat_lt r.passed b) as (λ c. left_by r (cond c (Taken (record r { passed = b })) Skipped) ≡ Some next → Contains r.tentative t ⊎ (Passed b ≡ Tentative t)) [
          | true ↦ λ e. let same : record r { passed = b } ≡ next = cc in inl (stays (record r { passed = b }) same refl)
          | false ↦ λ e. let same : r ≡ next = cc in inl (stays r same refl)
        ]
    by-item (Boundary b m) =
        elim (nat_le m (length r.stable) && is_sure r) as (λ c. left_by r (cond c (cond (nat_lt r.bound b) (Taken (record r { bound = b })) Skipped) NoReading) ≡ Some next → Contains r.tentative t ⊎ (Boundary b m ≡ Tentative t)) [
          | true ↦ elim (nat_lt r.bound b) as (λ c. left_by r (cond c (Taken (record r { bound = b })) Skipped) ≡ Some next → Contains r.tentative t ⊎ (Boundary b m ≡ Tentative t)) [
            | true ↦ λ e. let same : record r { bound = b } ≡ next = cc in inl (stays (record r { bound = b }) same refl)
            | false ↦ λ e. let same : r ≡ next = cc in inl (stays r same refl)
          ]
          | false ↦ λ e. absurd (cc)
        ]
    by-item (Undo n) = λ e.
        let same : next ≡ record r { tentative = []; passed = 0 } = cc in absurd (none-there t (subst (λ (q : Reader). Contains q.tentative t) same h))
    by-item RecDone =
        elim (is_sure r) as (λ c. left_by r (cond c (Taken r) NoReading) ≡ Some next → Contains r.tentative t ⊎ (RecDone ≡ Tentative t)) [
          | true ↦ λ e. let same : r ≡ next = cc in inl (stays r same refl)
          | false ↦ λ e. absurd (cc)
        ]

tentative-came : (r s : Reader) (items : List Item) (t : Tuple) → Leaves r items s → Contains s.tentative t → Contains r.tentative t ⊎ Contains items (Tentative t)
tentative-came r s [] t h c = inl (subst (λ (q : Reader). Contains q.tentative t) (sym (leaves-end r s h)) c)
tentative-came r s (i ∷ items) t h c =
    let b = behind-one r s i items h in
    elim (tentative-came b.next s items t b.rest c) [
      | inl there ↦ elim (one-came r b.next i t b.left there) [
        | inl old ↦ inl old
        | inr e ↦ inr (subst (λ (j : Item). Contains (j ∷ items) (Tentative t)) (sym e) (Contains-append_left (Tentative t ∷ []) items (Tentative t) (Contains-push [] (Tentative t))))
      ]
      | inr later ↦ inr (Contains-append_right (i ∷ []) items (Tentative t) later)
    ]

held-was-taken : (plan : Plan) (events : List Event) (c : ℕ) (t : Tuple) → IsCheckedPlan plan → c < length plan.clients → Contains (held_at (run plan events) c).tentative t → WasTaken plan events c (Tentative t)
held-was-taken plan events c t checked low h =
    elim (tentative-came empty_reader (held_at (run plan events) c) (client_at (run plan events) c).taken t (taken-leaves plan events c checked low) h) [
      | inl none ↦ absurd (none-there t none)
      | inr taken ↦ taken
    ]

still-taken : (plan : Plan) (events more : List Event) (c : ℕ) (i : Item) → WasTaken plan events c i → WasTaken plan (events ++ more) c i
still-taken plan events more c i h =
    let p = taken-grows plan events more c in
    subst (λ (items : List Item). Contains items i) (sym p.1) (Contains-append_left (client_at (run plan events) c).taken p.0 i h)

-- ---- the whole

module _ (plan : Plan) (x y : ℕ) (checked : IsCheckedPlan plan) (h : AreReaders plan x y) where
  abbrev s : StreamRef
  s = client_stream plan x

  leaves-run : (events : List Event) → Leaves empty_reader (pair_items plan events x y) (reader_with (merge_at (run plan events) x y))
  leaves-run events =
      by-run plan x y (λ (es : List Event) (items : List Item). Leaves empty_reader items (reader_with (merge_at (run plan es) x y))) events start
      (λ (before : List Event) (e : Event) (told : List Item) _ k.
      subst (λ (w : World). Leaves empty_reader (told ++ told_of (run plan before) e x y) (reader_with (merge_at w x y))) (sym (run-push plan before e))
      (leaves-append empty_reader (reader_with (merge_at (run plan before) x y)) (reader_with (merge_at (happens (run plan before) e) x y)) told (told_of (run plan before) e x y) k
      (step-leaves (run plan before) e x y (go-together plan before e x y checked h))))
    where
      start : Leaves empty_reader [] (reader_with (merge_at (run plan []) x y))
      start =
          subst (λ (r : Reader). Leaves empty_reader [] (reader_with (merge r (held_at (run plan []) y)))) (sym (first-holds plan x))
          (subst (λ (r : Reader). Leaves empty_reader [] (reader_with (merge empty_reader r))) (sym (first-holds plan y)) (leaves-none empty_reader))

  told-true : (before : List Event) (e : Event) → AreTrueItems plan s (told_of (run plan before) e x y)
  told-true before e =
      let w = happens (run plan before) e in
      let left = subst (λ (v : World). HoldsOf plan s (held_at v x)) (run-push plan before e) (holds-of plan (before ++ e ∷ []) x checked h.first) in
      let right = subst (λ (v : World). HoldsOf plan s (held_at v y)) (run-push plan before e) (holds-both plan (before ++ e ∷ []) x y checked h) in
      all-true plan s (told_of (run plan before) e x y)
      (λ (i : Item) c. true-of-one plan s (held_at w x) (held_at w y) i checked left right (step-of-one (run plan before) e x y i (go-together plan before e x y checked h) c))

  true-run : (events : List Event) → AreTrueItems plan s (pair_items plan events x y)
  true-run events =
      by-run plan x y (λ (es : List Event) (items : List Item). AreTrueItems plan s items) events tt
      (λ (before : List Event) (e : Event) (told : List Item) _ k. AreTrueItems-append plan s told (told_of (run plan before) e x y) k (told-true before e))

  abbrev TakenOf : List Event → List Item → Type 0
  TakenOf events items = (t : Tuple) → Contains items (Tentative t) → WasTaken plan events x (Tentative t) ⊎ WasTaken plan events y (Tentative t)

  step-taken : (before : List Event) (e : Event) (t : Tuple) → Contains (told_of (run plan before) e x y) (Tentative t) → WasTaken plan (before ++ e ∷ []) x (Tentative t) ⊎ WasTaken plan (before ++ e ∷ []) y (Tentative t)
  step-taken before e t c =
      let of-one = subst (λ (w : World). IsOfOne (held_at w x) (held_at w y) (Tentative t)) (sym (run-push plan before e)) (step-of-one (run plan before) e x y (Tentative t) (go-together plan before e x y checked h) c) in
      elim of-one [
        | inl left ↦ inl (held-was-taken plan (before ++ e ∷ []) x t checked h.first left)
        | inr right ↦ inr (held-was-taken plan (before ++ e ∷ []) y t checked h.second right)
      ]

  taken-run : (events : List Event) → TakenOf events (pair_items plan events x y)
  taken-run events =
      by-run plan x y TakenOf events (λ (t : Tuple) c. absurd (none-there (Tentative t) c))
      (λ (before : List Event) (e : Event) (told : List Item) _ k (t : Tuple) c.
      elim (Contains-append_cases told (told_of (run plan before) e x y) (Tentative t) c) [
        | inl old ↦ elim (k t old) [
          | inl left ↦ inl (still-taken plan before (e ∷ []) x (Tentative t) left)
          | inr right ↦ inr (still-taken plan before (e ∷ []) y (Tentative t) right)
        ]
        | inr new ↦ step-taken before e t new
      ])

pub one-stream : (plan : Plan) (events : List Event) (x y : ℕ) → IsCheckedPlan plan → AreReaders plan x y → IsOneStream plan events x y
one-stream plan events x y checked h =
    record {
      leaves = leaves-run plan x y checked h events;
      holds = merge-holds plan (client_stream plan x) (held_at (run plan events) x) (held_at (run plan events) y) (holds-of plan events x checked h.first) (holds-both plan events x y checked h);
      are_true = true-run plan x y checked h events;
      tentative = taken-run plan x y checked h events;
    }
