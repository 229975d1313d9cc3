-- Each step keeps the rule of a view.
use Rattle.std.proofs.Common.{◌≡◌, ◌≢◌, ℕ, ◌++◌, List, [], Some, None, set, refl, sym, subst, ap, ◌∙◌, ⊎_elim, le_refl, le_trans, zero-le, IfSome}
use Rattle.std.proofs.lemmas.List.{append-nil, append_assoc}
use mathlib.Core.Option.{some}
use lib.ListN.{get_elem?}
use Rattle.crossbeam_utils.specs.Register.{Admits, TurnsAt, Forks, Merges}
use Rattle.atomic_table.proofs.Lists.{at_set, at_snoc}
use Rattle.dpc_lists.specs.Lists.{IsPrefixOf}
use Rattle.dpc_model.specs.declared.plans.Plan.{Plan}
use Rattle.live_view.specs.Showing.{IsTrueShown, sight_of, unseen, Precedes, Keeps, Sees}
use Rattle.live_view.specs.declared.shown.Shown.{Shown}
use Rattle.live_view.specs.declared.sight.Sight.{Sight}

pub prefix-refl : {X : Type 0} (xs : List X) → IsPrefixOf xs xs
prefix-refl xs = ([], sym (append-nil xs))

pub prefix-trans : {X : Type 0} (xs ys zs : List X) → IsPrefixOf xs ys → IsPrefixOf ys zs → IsPrefixOf xs zs
prefix-trans xs ys zs p q = (p.0 ++ q.0, q.1 ∙ ap (λ l. l ++ q.0) p.1 ∙ append_assoc xs p.0 q.0)

pub precedes-refl : (x : Shown) → Precedes (sight_of x) (sight_of x)
precedes-refl x = (refl, prefix-refl x.tuples, le_refl x.bound)

pub unseen-precedes : (w : Sight) → Precedes unseen w
unseen-precedes w = (tt, (w.tuples, refl), zero-le)

-- w has a client that v, if it has one, has too
pub precedes-trans : (v u w : Sight) → Precedes v u → Precedes u w → Precedes v w
precedes-trans v u w p q = (
  (elim v.client as (λ o. IfSome o (λ c. u.client ≡ Some c) → IfSome o (λ c. w.client ≡ Some c)) [
    | Some c ↦ λ e. subst (λ o. IfSome o (λ d. w.client ≡ Some d)) e q.0
    | None ↦ λ e. tt
  ]) p.0,
  prefix-trans v.tuples u.tuples w.tuples p.1 q.1,
  le_trans p.2 q.2,
)

-- a step that shows something true, which has all that was shown, keeps the rule
pub shows : (plan : Plan) (seat : ℕ) (v : Sight) (x y : Shown) → (IsTrueShown plan x → IsTrueShown plan y) → Precedes (sight_of x) (sight_of y) → TurnsAt (Keeps plan) seat v x y (Sees plan)
shows plan seat v x y true_then up views h at =
    let after = true_then h.0 in (
      sight_of y,
      (
        after,
        λ j u e. ⊎_elim (λ (t : (j ≡ seat) × (sight_of y ≡ u)). subst (λ z. Precedes z (sight_of y)) t.1 (precedes-refl y))
            (λ (t : (j ≢ seat) × (get_elem? views j ≡ some u)). precedes-trans u (sight_of x) (sight_of y) (h.1 j u t.1) up) (at_set views seat j (sight_of y) u e),
      ),
      (after, precedes-trans v (sight_of x) (sight_of y) (h.1 seat v at) up, refl),
    )

-- so does a look
pub looks : (plan : Plan) (seat : ℕ) (v : Sight) (x : Shown) → TurnsAt (Keeps plan) seat v x x (Sees plan)
looks plan seat v x = shows plan seat v x x (λ h. h) (precedes-refl x)

pub admits : (plan : Plan) → Admits (Keeps plan) unseen
admits plan x views h = (h.0, λ j u e. ⊎_elim (h.1 j u) (λ (t : unseen ≡ u). subst (λ z. Precedes z (sight_of x)) t (unseen-precedes (sight_of x))) (at_snoc views unseen u j e))

set_seen : (x : Shown) (views : List Sight) (seat : ℕ) (w : Sight) → ((j : ℕ) (u : Sight) → get_elem? views j ≡ some u → Precedes u (sight_of x)) → Precedes w (sight_of x)
    → (j : ℕ) (u : Sight) → get_elem? (set views seat w) j ≡ some u → Precedes u (sight_of x)
set_seen x views seat w h own j u e =
    ⊎_elim (λ (t : (j ≡ seat) × (w ≡ u)). subst (λ z. Precedes z (sight_of x)) t.1 own) (λ (t : (j ≢ seat) × (get_elem? views j ≡ some u)). h j u t.1) (at_set views seat j w u e)

-- what a seat has seen may be told
pub forks : (plan : Plan) (seat : ℕ) (v : Sight) → Forks (Keeps plan) seat v v v
forks plan seat v x views h at =
    let own = h.1 seat v at in
    (h.0, λ j u e. ⊎_elim (set_seen x views seat v h.1 own j u) (λ (t : v ≡ u). subst (λ z. Precedes z (sight_of x)) t own) (at_snoc (set views seat v) v u j e))

-- and learnt by another
pub merges : (plan : Plan) (seat : ℕ) (v : Sight) (other : ℕ) (w : Sight) → Merges (Keeps plan) seat v other w w unseen
merges plan seat v other w x views h at apart there =
    let told : Precedes w (sight_of x) =
    ⊎_elim (λ (t : (other ≡ seat) × (w ≡ w)). absurd (apart t.0)) (λ (t : (other ≢ seat) × (get_elem? views other ≡ some w)). h.1 other w t.1) (at_set views seat other w w there) in
    (h.0, set_seen x (set views seat w) other unseen (set_seen x views seat w h.1 told) (unseen-precedes (sight_of x)))

pub precedes_itself : (v : Sight) → Precedes v v
precedes_itself v = ((elim v.client as (λ o. IfSome o (λ c. o ≡ Some c)) [ Some c ↦ refl | None ↦ tt ]), prefix-refl v.tuples, le_refl v.bound)
