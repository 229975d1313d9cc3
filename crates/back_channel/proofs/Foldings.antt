-- Items that are read one behind another.
use Rattle.std.proofs.Common.{◌≡◌, ◌≤◌, nat_lt, nat_le, ◌==◌, ◌&&◌, true, false, cond, List, [], ◌∷◌, ◌++◌, length, Some, None, refl, sym, ap, subst, ◌∙◌, arith}
use Rattle.std.proofs.lemmas.Bool.{ltb-true}
use Rattle.dpc_model.specs.Reading.{Reader, NoReading, Skipped, Taken, reading, is_sure, Folded, taken_first, fold_items}
use Rattle.dpc_model.specs.declared.tuples.Item.{Item}
use Rattle.dpc_model.specs.declared.tuples.Item.TheVariants.{Stable, Tentative, Passed, Boundary, Undo, RecDone}
use Rattle.dpc_model.proofs.Folding.{first_taken}
use Rattle.dpc_lists.specs.Lists.{push}
use Rattle.back_channel.specs.Merging.{Leaves}
use Rattle.back_channel.specs.Sides.{left_by}
use Rattle.back_channel.proofs.Beginnings.{Begins, begins-self, begins-append, begins-through}

-- ---- the first item

pub leaves-none : (r : Reader) → Leaves r [] r
leaves-none r = (record { after = r; taken = [] }, refl, refl)

pub leaves-taken : (r s t : Reader) (i : Item) (items : List Item) → reading r i ≡ Taken s → Leaves s items t → Leaves r (i ∷ items) t
leaves-taken r s t i items e h = (record h.0 { taken = i ∷ h.0.taken }, rw (e, fold_items) (ap (taken_first i) h.1), h.2)

pub leaves-skipped : (r t : Reader) (i : Item) (items : List Item) → reading r i ≡ Skipped → Leaves r items t → Leaves r (i ∷ items) t
leaves-skipped r t i items e h = (h.0, rw (e, fold_items) h.1, h.2)

-- what the first item left, and that the others were read there
pub record IsBehind (r : Reader) (i : Item) (items : List Item) (t : Reader) : Type 0 where
  pub next : Reader
  pub left : left_by r (reading r i) ≡ Some next
  pub rest : Leaves next items t

pub behind-one : (r t : Reader) (i : Item) (items : List Item) → Leaves r (i ∷ items) t → IsBehind r i items t
behind-one r t i items h =
    (elim (reading r i) as (λ x. reading r i ≡ x → elim x [ NoReading ↦ None | Skipped ↦ fold_items r items | Taken s ↦ taken_first i (fold_items s items) ] ≡ Some h.0 → IsBehind r i items t) [
      | NoReading ↦ λ k e. absurd (cc)
      | Skipped ↦ λ k e. record { next = r; left = ap (left_by r) k; rest = (h.0, e, h.2) }
      | Taken s ↦ λ k e.
          let p = first_taken i (fold_items s items) h.0 e in
          record { next = s; left = ap (left_by r) k; rest = (p.0, p.1, sym (ap (λ (f : Folded). f.after) p.2) ∙ h.2) }
    ]) refl h.1

pub leaves-cons : (r s t : Reader) (i : Item) (items : List Item) → left_by r (reading r i) ≡ Some s → Leaves s items t → Leaves r (i ∷ items) t
leaves-cons r s t i items left rest =
    (elim (reading r i) as (λ x. reading r i ≡ x → left_by r x ≡ Some s → Leaves r (i ∷ items) t) [
      | NoReading ↦ λ e l. absurd (cc)
      | Skipped ↦ λ e l. leaves-skipped r t i items e (let same : s ≡ r = cc in subst (λ (u : Reader). Leaves u items t) same rest)
      | Taken u ↦ λ e l. leaves-taken r u t i items e (let same : s ≡ u = cc in subst (λ (v : Reader). Leaves v items t) same rest)
    ]) refl left

pub leaves-end : (r t : Reader) → Leaves r [] t → r ≡ t
leaves-end r t h =
    let e : h.0 ≡ record { after = r; taken = [] } = let f = h.1 in cc in sym (ap (λ (f : Folded). f.after) e) ∙ h.2

pub leaves-append : (r s t : Reader) (is js : List Item) → Leaves r is s → Leaves s js t → Leaves r (is ++ js) t
leaves-append r s t [] js h k = subst (λ (u : Reader). Leaves u js t) (sym (leaves-end r s h)) k
leaves-append r s t (i ∷ is) js h k =
    let b = behind-one r s i is h in leaves-cons r b.next t i (is ++ js) b.left (leaves-append b.next s t is js b.rest k)

-- what all but the last item left
pub record IsBefore (r : Reader) (items : List Item) (i : Item) (t : Reader) : Type 0 where
  pub mid : Reader
  pub front : Leaves r items mid
  pub last : left_by mid (reading mid i) ≡ Some t

pub before-last : (r t : Reader) (items : List Item) (i : Item) → Leaves r (items ++ i ∷ []) t → IsBefore r items i t
before-last r t [] i h =
    let b = behind-one r t i [] h in
    record { mid = r; front = leaves-none r; last = b.left ∙ ap (λ (u : Reader). Some u) (leaves-end b.next t b.rest) }
before-last r t (j ∷ js) i h =
    let b = behind-one r t j (js ++ i ∷ []) h in
    let u = before-last b.next t js i b.rest in
    record { mid = u.mid; front = leaves-cons r b.next u.mid j js b.left u.front; last = u.last }

-- ---- a reader goes on

pub record IsOnward (r s : Reader) : Type 0 where
  pub stable : Begins r.stable s.stable
  pub bound : r.bound ≤ s.bound

pub onward-self : (r : Reader) → IsOnward r r
onward-self r = record { stable = begins-self r.stable; bound = omega arith }

pub onward-through : (r s t : Reader) → IsOnward r s → IsOnward s t → IsOnward r t
onward-through r s t h k =
    record { stable = begins-through r.stable s.stable t.stable h.stable k.stable; bound = let a = h.bound in let b = k.bound in omega (arith, a, b) }

same-onward : (r s : Reader) → Some r ≡ Some s → IsOnward r s
same-onward r s e = let same : r ≡ s = cc in subst (λ (u : Reader). IsOnward r u) same (onward-self r)

to-onward : (r s u : Reader) → IsOnward r u → Some u ≡ Some s → IsOnward r s
to-onward r s u h e = let same : u ≡ s = cc in subst (λ (v : Reader). IsOnward r v) same h

pub one-onward : (r s : Reader) (i : Item) → left_by r (reading r i) ≡ Some s → IsOnward r s
one-onward r s (Stable k t) =
    elim (nat_lt k (length r.stable)) as (λ c. left_by r (cond c Skipped (cond (k == length r.stable && is_sure r) (Taken (record r { stable = push r.stable t })) NoReading)) ≡ Some s → IsOnward r s) [
      | true ↦ same-onward r s
      | false ↦ elim (k == length r.stable && is_sure r) as (λ c. left_by r (cond c (Taken (record r { stable = push r.stable t })) NoReading) ≡ Some s → IsOnward r s) [
        | true ↦ to-onward r s (record r { stable = push r.stable t }) (record { stable = begins-append r.stable (t ∷ []); bound = omega arith })
        | false ↦ λ e. absurd (cc)
      ]
    ]
one-onward r s (Tentative t) =
    elim (nat_le r.bound t.stime) as (λ c. left_by r (cond c (Taken (record r { tentative = push r.tentative t })) Skipped) ≡ Some s → IsOnward r s) [
      | true ↦ to-onward r s (record r { tentative = push r.tentative t }) (record { stable = begins-self r.stable; bound = omega arith })
      | false ↦ same-onward r s
    ]
one-onward r s (Passed b) =
    elim (nat_lt r.bound b && nat_lt r.passed b) as (λ c. left_by r (cond c (Taken (record r { passed = b })) Skipped) ≡ Some s → IsOnward r s) [
      | true ↦ to-onward r s (record r { passed = b }) (record { stable = begins-self r.stable; bound = omega arith })
      | false ↦ same-onward r s
    ]
one-onward r s (Boundary b m) =
    elim (nat_le m (length r.stable) && is_sure r) as (λ c. left_by r (cond c (cond (nat_lt r.bound b) (Taken (record r { bound = b })) Skipped) NoReading) ≡ Some s → IsOnward r s) [
      | true ↦ (elim (nat_lt r.bound b) as (λ c. nat_lt r.bound b ≡ c → left_by r (cond c (Taken (record r { bound = b })) Skipped) ≡ Some s → IsOnward r s) [
        | true ↦ λ e. to-onward r s (record r { bound = b }) (record { stable = begins-self r.stable; bound = let l = ltb-true r.bound b e in omega (arith, l) })
        | false ↦ λ e. same-onward r s
      ]) refl
      | false ↦ λ e. absurd (cc)
    ]
one-onward r s (Undo n) = to-onward r s (record r { tentative = []; passed = 0 }) (record { stable = begins-self r.stable; bound = omega arith })
one-onward r s RecDone =
    elim (is_sure r) as (λ c. left_by r (cond c (Taken r) NoReading) ≡ Some s → IsOnward r s) [
      | true ↦ same-onward r s
      | false ↦ λ e. absurd (cc)
    ]

pub all-onward : (r t : Reader) (items : List Item) → Leaves r items t → IsOnward r t
all-onward r t [] h = subst (λ (u : Reader). IsOnward r u) (leaves-end r t h) (onward-self r)
all-onward r t (i ∷ items) h =
    let b = behind-one r t i items h in
    onward-through r b.next t (one-onward r b.next i b.left) (all-onward b.next t items b.rest)
