-- Whether there is an item to give.
use Rattle.std.proofs.Common.{◌≡◌, ℕ, Bool, true, false, ◌&&◌, List, [], ◌∷◌, ◌++◌, map, refl, ◌∙◌, Option, Some, None}
use Rattle.std.specs.Prelude.{not, is_none}
use Rattle.dpc_lists.specs.Lists.{is_nil}
use Rattle.dpc_model.specs.PartStands.{OutputValue}
use Rattle.dpc_model.specs.Sessions.{stable_items, boundary_item, tentative_items, passed_item, item_if, given_items, with_batch, with_batches}
use Rattle.dpc_model.specs.declared.tuples.Tuple.{Tuple}
use Rattle.dpc_model.specs.declared.tuples.Item.{Item}
use Rattle.dpc_model.specs.declared.tuples.Item.TheVariants.{RecDone}
use Rattle.dpc_model.specs.declared.sessions.Sub.{Sub}
use Rattle.soutput.specs.declared.fresh.Fresh.{Fresh}
use Rattle.soutput.specs.Giving.{is_nothing, given_behind, fresh_items}

pub nil-append : {X : Type 0} (xs ys : List X) → is_nil (xs ++ ys) ≡ (is_nil xs && is_nil ys)
nil-append [] ys = refl
nil-append (x ∷ xs) ys = refl

pub nil-stable : (k : ℕ) (ts : List Tuple) → is_nil (stable_items k ts) ≡ is_nil ts
nil-stable k [] = refl
nil-stable k (t ∷ ts) = refl

nil-tentative : (ts : List Tuple) → is_nil (tentative_items ts) ≡ is_nil ts
nil-tentative [] = refl
nil-tentative (t ∷ ts) = refl

nil-passed : (o : Option ℕ) → is_nil (passed_item o) ≡ is_none o
nil-passed None = refl
nil-passed (Some b) = refl

nil-boundary : (count : ℕ) (new : Fresh) → is_nil (boundary_item (given_behind count new).bound) ≡ is_none new.bound
nil-boundary count new = elim new.bound as (λ b. is_nil (boundary_item (given_behind count (record new { bound = b })).bound) ≡ is_none b) [ None ↦ refl | Some b ↦ refl ]

nil-if : (b : Bool) (i : Item) → is_nil (item_if b i) ≡ not b
nil-if true i = refl
nil-if false i = refl

pub nothing-given : (count : ℕ) (new : Fresh) → is_nil (given_items count (given_behind count new)) ≡ is_nothing new
nothing-given count new =
    let g = given_behind count new in
    let s = stable_items count new.stable in
    let b = boundary_item g.bound in
    let t = tentative_items new.tentative in
    let p = passed_item new.passed in
    let d = item_if new.done RecDone in
    nil-append (s ++ b ++ t ++ p) d ∙ rw (nil-append (s ++ b ++ t) p, nil-append (s ++ b) t, nil-append s b, nil-stable count new.stable, nil-boundary count new, nil-tentative new.tentative, nil-passed new.passed, nil-if new.done RecDone) refl

pub counted : (v : OutputValue) (new : Fresh) (subs : List Sub) → is_nothing new ≡ false → with_batches (fresh_items v new) subs ≡ map with_batch subs
counted v new subs h = rw (nothing-given v.count new, h) refl

pub uncounted : (v : OutputValue) (new : Fresh) (subs : List Sub) → is_nothing new ≡ true → with_batches (fresh_items v new) subs ≡ subs
uncounted v new subs h = rw (nothing-given v.count new, h) refl

pub some-new : (new : Fresh) → true ≡ not (is_nothing new) → is_nothing new ≡ false
some-new new h = opposite (is_nothing new) h
  where
    opposite : (b : Bool) → true ≡ not b → b ≡ false
    opposite true e = absurd cc
    opposite false e = refl

pub none-new : (new : Fresh) → false ≡ not (is_nothing new) → is_nothing new ≡ true
none-new new h = opposite (is_nothing new) h
  where
    opposite : (b : Bool) → false ≡ not b → b ≡ true
    opposite true e = refl
    opposite false e = absurd cc
