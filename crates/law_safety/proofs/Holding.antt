-- A reader that takes true items goes on to hold of its stream.
use Rattle.std.proofs.Common.{◌≡◌, ℕ, ◌≤◌, true, false, cond, ◌&&◌, ◌||◌, nat_lt, nat_le, nat_eq as eqb, List, [], ◌∷◌, ◌++◌, length, Some, None, refl, ap, arith, slice_get, length-append}
use Rattle.std.proofs.lemmas.Grind.{common_steps}
use Rattle.dpc_lists.specs.Lists.{IsPrefixOf, push}
use Rattle.dpc_model.specs.Fragments.{ideal}
use Rattle.dpc_model.specs.Reading.{Reader, NoReading, Skipped, Taken, reading, is_sure, Folded, fold_items, taken_first}
use Rattle.dpc_model.specs.declared.tuples.Item.{Item}
use Rattle.dpc_model.specs.declared.tuples.Item.TheVariants.{Stable, Tentative, Passed, Boundary, Undo, RecDone}
use Rattle.dpc_model.specs.declared.plans.Plan.{Plan}
use Rattle.dpc_model.specs.declared.plans.StreamRef.{StreamRef}
use Rattle.dpc_model.specs.Inlets.{InletState, take_batch, is_old, after_missing_batch, after_next_batch}
use Rattle.dpc_model.specs.declared.batches.Taken.TheVariants.{Old}
use Rattle.dpc_model.specs.declared.messages.Sess.{Sess}
use Rattle.world_model.specs.Safe.{IsTrueItem, AreTrueItems, HoldsOf}

-- a beginning goes on with the element that stands behind it
pub prefix_push : {X : Type 0} (xs rest : List X) (t : X) → slice_get (xs ++ rest) (length xs) ≡ Some t → IsPrefixOf (xs ++ t ∷ []) (xs ++ rest)
prefix_push [] [] t e = cc
prefix_push [] (y ∷ rest) t e = (rest, cc)
prefix_push (x ∷ xs) rest t e = let p = prefix_push xs rest t e in (p.0, ap (λ ys. x ∷ ys) p.1)

pub IsPrefixOf-push : {X : Type 0} (xs ys : List X) (t : X) → IsPrefixOf xs ys → slice_get ys (length xs) ≡ Some t → IsPrefixOf (push xs t) ys
IsPrefixOf-push xs ys t p e = rw p.1 (prefix_push xs p.0 t (rw p.1 at e))

-- only the stable tuples and the bound matter
pub HoldsOf-same : (plan : Plan) (s : StreamRef) (r r' : Reader) → r'.stable ≡ r.stable → r'.bound ≡ r.bound → HoldsOf plan s r → HoldsOf plan s r'
HoldsOf-same plan s r r' e f h =
    record { stable = rw e h.stable; within = rw f h.within; bound = rw (e, f) h.bound }

-- an item that is taken leaves a reader that holds
pub reading-holds : (plan : Plan) (s : StreamRef) (r r' : Reader) (i : Item) → HoldsOf plan s r → IsTrueItem plan s i → reading r i ≡ Taken r' → HoldsOf plan s r'
reading-holds plan s r r' (Stable k t) h true_i e =
    (elim (nat_lt k (length r.stable)) as (λ b. cond b Skipped (cond (eqb k (length r.stable) && is_sure r) (Taken (record r { stable = push r.stable t })) NoReading) ≡ Taken r' → HoldsOf plan s r') [
      | true ↦ λ f. cc
      | false ↦ (elim (eqb k (length r.stable)) as (λ b. eqb k (length r.stable) ≡ b → cond (b && is_sure r) (Taken (record r { stable = push r.stable t })) NoReading ≡ Taken r' → HoldsOf plan s r') [
        | false ↦ λ g f. cc
        | true ↦ λ g. (elim (is_sure r) as (λ c. cond c (Taken (record r { stable = push r.stable t })) NoReading ≡ Taken r' → HoldsOf plan s r') [
          | false ↦ λ f. cc
          | true ↦ λ f.
              let same : r' ≡ record r { stable = push r.stable t } = cc in
              let at : k ≡ length r.stable = grind (arith, common_steps) in
              rw same (record {
                stable = IsPrefixOf-push r.stable (ideal plan s) t h.stable (rw at at true_i);
                within = h.within;
                bound = omega (arith, h.bound, length-append r.stable (t ∷ []));
              })
        ])
      ]) refl
    ]) e
reading-holds plan s r r' (Tentative t) h true_i e =
    (elim (nat_le r.bound t.stime) as (λ b. cond b (Taken (record r { tentative = push r.tentative t })) Skipped ≡ Taken r' → HoldsOf plan s r') [
      | true ↦ λ f. HoldsOf-same plan s r r' (cc) (cc) h
      | false ↦ λ f. cc
    ]) e
reading-holds plan s r r' (Passed b) h true_i e =
    (elim (nat_lt r.bound b && nat_lt r.passed b) as (λ c. cond c (Taken (record r { passed = b })) Skipped ≡ Taken r' → HoldsOf plan s r') [
      | true ↦ λ f. HoldsOf-same plan s r r' (cc) (cc) h
      | false ↦ λ f. cc
    ]) e
reading-holds plan s r r' (Boundary b m) h true_i e =
    (elim (nat_le m (length r.stable)) as (λ c. nat_le m (length r.stable) ≡ c → cond (c && is_sure r) (cond (nat_lt r.bound b) (Taken (record r { bound = b })) Skipped) NoReading ≡ Taken r' → HoldsOf plan s r') [
      | false ↦ λ g f. cc
      | true ↦ λ g. (elim (is_sure r) as (λ c. cond c (cond (nat_lt r.bound b) (Taken (record r { bound = b })) Skipped) NoReading ≡ Taken r' → HoldsOf plan s r') [
        | false ↦ λ f. cc
        | true ↦ elim (nat_lt r.bound b) as (λ c. cond c (Taken (record r { bound = b })) Skipped ≡ Taken r' → HoldsOf plan s r') [
          | false ↦ λ f. cc
          | true ↦ λ f.
              let same : r' ≡ record r { bound = b } = cc in
              let few : m ≤ length r.stable = grind (arith, common_steps) in
              rw same (record { stable = h.stable; within = true_i.0; bound = rw (← true_i.1) few })
        ]
      ])
    ]) refl e
reading-holds plan s r r' (Undo n) h true_i e = HoldsOf-same plan s r r' (cc) (cc) h
reading-holds plan s r r' RecDone h true_i e =
    (elim (is_sure r) as (λ c. cond c (Taken r) NoReading ≡ Taken r' → HoldsOf plan s r') [
      | true ↦ λ f. HoldsOf-same plan s r r' (cc) (cc) h
      | false ↦ λ f. cc
    ]) e

-- and so does a list of items
pub fold_items-holds : (plan : Plan) (s : StreamRef) (r : Reader) (items : List Item) (f : Folded) →
    HoldsOf plan s r → AreTrueItems plan s items → fold_items r items ≡ Some f → HoldsOf plan s f.after
fold_items-holds plan s r [] f h k e = let same : f ≡ record { after = r; taken = [] } = cc in rw same h
fold_items-holds plan s r (i ∷ items) f h k e =
    (elim (reading r i) as (λ x. reading r i ≡ x → elim x [ NoReading ↦ None | Skipped ↦ fold_items r items | Taken r' ↦ taken_first i (fold_items r' items) ] ≡ Some f → HoldsOf plan s f.after) [
      | NoReading ↦ λ g d. cc
      | Skipped ↦ λ g d. fold_items-holds plan s r items f h k.1 d
      | Taken r' ↦ λ g d.
          (elim (fold_items r' items) as (λ o. fold_items r' items ≡ o → taken_first i o ≡ Some f → HoldsOf plan s f.after) [
            | None ↦ λ q d'. cc
            | Some g' ↦ λ q d'.
                let same : f.after ≡ g'.after = cc in
                rw same (fold_items-holds plan s r' items g' (reading-holds plan s r r' i h k.0 g) k.1 q)
          ]) refl d
    ]) refl e

-- taking a batch of true items keeps it, whatever the answer is
pub take_batch-holds : (plan : Plan) (s : StreamRef) (inlet : InletState) (u : Sess) (index : ℕ) (items : List Item) →
    HoldsOf plan s inlet.held → AreTrueItems plan s items → HoldsOf plan s (take_batch inlet u index items).after.held
unfolding take_batch
take_batch-holds plan s inlet u index items h k =
    elim (is_old inlet u index) as (λ c. HoldsOf plan s (cond c (record { after = inlet; answer = Old }) (cond (inlet.broken || nat_lt inlet.next index) (after_missing_batch inlet) (after_next_batch inlet (fold_items inlet.held items)))).after.held) [
      | true ↦ h
      | false ↦ elim (inlet.broken || nat_lt inlet.next index) as (λ c. HoldsOf plan s (cond c (after_missing_batch inlet) (after_next_batch inlet (fold_items inlet.held items))).after.held) [
        | true ↦ h
        | false ↦ (elim (fold_items inlet.held items) as (λ o. fold_items inlet.held items ≡ o → HoldsOf plan s (after_next_batch inlet o).after.held) [
          | None ↦ λ e. h
          | Some f ↦ λ e. fold_items-holds plan s inlet.held items f h k e
        ]) refl
      ]
    ]
