-- One node's save.
use Rattle.std.proofs.Common.{◌≡◌, ℕ, zero, suc, ◌<◌, ◌^◌, false, Result, Err, List, [], ◌∷◌, get_or, set, Option, Some, None, length, inl, inr, refl, sym, ap, subst, ◌∙◌, arith}
use Rattle.std.specs.List.{AllZip}
use Rattle.std.specs.Prelude.{IsErrAnd, IsErrOf}
use Rattle.disk_model.specs.declared.disk.Disk.{Ghosts}
use Rattle.dpc_model.specs.Actors.{role_of}
use Rattle.dpc_model.specs.declared.actors.Role.TheVariants.{Node as IsNode}
use Rattle.dpc_model.specs.declared.plans.Plan.{Plan}
use Rattle.dpc_model.specs.declared.scripts.Script.{Script}
use Rattle.fragment_mill.specs.Mills.{MillState}
use Rattle.law_saves.specs.Saves.{snap_at, later}
use Rattle.law_saves.specs.Typed.{IsTyped}
use Rattle.node_model.specs.Mails.{Snap}
use Rattle.node_model.specs.Nodes.{PlainNode, spec_of}
use Rattle.node_model.specs.NodeSteps.{snapshot}
use Rattle.node_model.specs.Stands.{SnapValue}
use Rattle.pipeline.specs.Recovery.{StandsForSnapshot}
use Rattle.saved_point.specs.Points.{faults_in, room_in, IsResting, IsUnchanged}
use Rattle.saved_point.specs.declared.point.SavedPoint.{SavedPoint}
use Rattle.saved_slots.specs.Slots.{given, number_of}
use Rattle.disk_model.specs.Synced.{IsSynced}
use Rattle.script_rules.specs.Checking.{IsChecked}
use Rattle.snapshot_form.specs.Bytes.{snapshot_bytes}
use Rattle.snapshot_form.specs.Savable.{IsSavable}
use Rattle.world_core.specs.Runs.{RunOf, world_of}
use Rattle.world_model.specs.Worlds.{home_of, node_at, slot_of, run}
use Rattle.phase_saves.specs.Nodes.{HasSaved, Agrees, Went, IsSame, Saves, SomeRose}
use Rattle.phase_saves.specs.declared.node.SavingNode.{SavingNode}
use Rattle.phase_saves.proofs.Listing.{GoneTo}
use Rattle.phase_saves.proofs.Law.{can-be-saved}
use Rattle.phase_saves.proofs.Ups.{up-here, snap-here, snap-up}

-- ---- errors that are handed on

pub err-is : {T S E : Type 0} (r : Result T E) (x y : E) → IsErrAnd r (λ (z : E). z ≡ x) → IsErrOf r y → IsErrOf {T = S} (Err x) y
err-is {T = T} {S = S} {E = E} r x y h told =
    let at : IsErrAnd {T = T} (Err y) (λ (z : E). z ≡ x) = subst (λ (q : Result T E). IsErrAnd q (λ (z : E). z ≡ x)) told h in ap Err (sym at)

module _ {D : Type 0} {g : Ghosts D} where
  -- ---- nothing changed

  -- a point of which nothing changed
  pub still-rests : (old new : SavedPoint D g) → room_in new ≡ room_in old → IsUnchanged old new → IsResting old → IsResting new
  still-rests old new room same rests =
      record {
        honest = subst g.is_honest (sym same.disk) rests.honest;
        synced = subst (λ (d : D). IsSynced (g.history d) (g.seen d)) (sym same.disk) rests.synced;
        fresh = same.spent ∙ rests.fresh;
        slot = ap (λ (d : D). given new.slots.room (g.seen d)) same.disk ∙ ap (λ n. given n (g.seen old.slots.disk)) room ∙ rests.slot ∙ sym same.last;
        number =
            ap (λ (d : D). number_of new.slots.room (g.seen d) new.slots.last) same.disk ∙ ap (λ n. number_of n (g.seen old.slots.disk) new.slots.last) room
            ∙ ap (number_of old.slots.room (g.seen old.slots.disk)) same.last ∙ rests.number ∙ sym same.number;
      }

  pub same-still : (n : SavingNode D g) → IsSame n n
  same-still n = record { actor = refl; frag = refl; room = refl; extent = refl; faults = omega arith; honest = λ h. h }

  -- a node that has nothing to save
  pub idle : (run : RunOf) (n : SavingNode D g) → ((f r : ℕ) → role_of run.plan n.actor ≡ IsNode f r → snap_at (world_of run) n.actor ≡ None) → Saves run n n
  idle run n none =
      record { rests = λ h. h; saved = λ script r last checked same role rests agrees. subst (λ (s : Option Snap). Agrees run.plan r n (later last s)) (sym (none n.frag r role)) agrees }

  -- ---- lists of nodes

  -- the disk of one of them failed
  pub rose-at : (R : SavingNode D g → SavingNode D g → Type 0) (xs ys : List (SavingNode D g)) (k : ℕ) (y z : SavingNode D g) → GoneTo R k xs ys → k < length ys → y ≡ get_or ys k y
      → faults_in y.point < faults_in z.point → SomeRose xs (set ys k z)
  rose-at R [] [] k y z h low at rise = absurd (omega (arith, low))
  rose-at R [] (w ∷ ys) k y z h low at rise = absurd h
  rose-at R (x ∷ xs) [] k y z h low at rise = absurd h
  rose-at R (x ∷ xs) (w ∷ ys) zero y z h low at rise = inl (subst (λ (v : SavingNode D g). faults_in v.point < faults_in z.point) (at ∙ h.0) rise)
  rose-at R (x ∷ xs) (w ∷ ys) (suc k) y z h low at rise = inr (rose-at R xs ys k y z h.1 (omega (arith, low)) at rise)

  pub rose-later : (xs ys zs : List (SavingNode D g)) → AllZip IsSame xs ys → SomeRose ys zs → SomeRose xs zs
  rose-later [] [] zs h rose = absurd rose
  rose-later [] (y ∷ ys) zs h rose = absurd h
  rose-later (x ∷ xs) [] zs h rose = absurd h
  rose-later (x ∷ xs) (y ∷ ys) [] h rose = absurd rose
  rose-later (x ∷ xs) (y ∷ ys) (z ∷ zs) h rose =
      elim rose [
        | inl here ↦ (let less = h.0.faults in let rise = here in inl (omega (arith, less, rise)))
        | inr there ↦ inr (rose-later xs ys zs h.1 there)
      ]

module _ {D : Type 0} {g : Ghosts D} where
  pub rose-still : (xs ys zs : List (SavingNode D g)) → SomeRose xs ys → AllZip IsSame ys zs → SomeRose xs zs
  rose-still [] ys zs rose h = absurd rose
  rose-still (x ∷ xs) [] zs rose h = absurd rose
  rose-still (x ∷ xs) (y ∷ ys) [] rose h = absurd h
  rose-still (x ∷ xs) (y ∷ ys) (z ∷ zs) rose h =
      elim rose [
        | inl here ↦ (let more = h.0.faults in let rise = here in inl (omega (arith, more, rise)))
        | inr there ↦ inr (rose-still xs ys zs there h.1)
      ]

-- ---- a snapshot can be saved

savable : (script : Script) (run : RunOf) (a f r : ℕ) (p : PlainNode) (v : SnapValue MillState) → IsChecked script → script.plan ≡ run.plan → role_of run.plan a ≡ IsNode f r → node_at (world_of run) a ≡ Some p → p.recovering ≡ false
    → StandsForSnapshot (spec_of (home_of run.plan (f, r))).ops run.plan.width v (snapshot (home_of run.plan (f, r)) p) → IsTyped v → length (snapshot_bytes v) < 2 ^ 32 → IsSavable run.plan f v
savable script w a f r p v checked same role up well stands typed short =
    let P : Plan → Type 0 = λ q. role_of q a ≡ IsNode f r → (slot_of (run q w.events) a).node ≡ Some p → p.recovering ≡ false
    → StandsForSnapshot (spec_of (home_of q (f, r))).ops q.width v (snapshot (home_of q (f, r)) p) → IsTyped v → length (snapshot_bytes v) < 2 ^ 32 → IsSavable q f v in
    subst P same (can-be-saved script w.events a f r p v checked) role (sym (up-here w a f r role) ∙ up) well stands typed short

module _ {D : Type 0} {g : Ghosts D} where
  -- a node that was up saved this snapshot
  pub saved-it : (run : RunOf) (old new : SavingNode D g) (v : SnapValue MillState) (up : (f r : ℕ) → role_of run.plan old.actor ≡ IsNode f r → (p : PlainNode) × (node_at (world_of run) old.actor ≡ Some p) × (p.recovering ≡ false)
      × StandsForSnapshot (spec_of (home_of run.plan (f, r))).ops run.plan.width v (snapshot (home_of run.plan (f, r)) p))
      → IsTyped v → IsSame old new → (IsResting old.point → IsResting new.point)
      → ((plan : Plan) → IsResting old.point → (length (snapshot_bytes v) < 2 ^ 32 → IsSavable plan old.frag v) → Went plan new v new.last) → Saves run old new
  saved-it run old new v up typed same rests went = record { rests = rests; saved = saved }
    where
      saved : (script : Script) (r : ℕ) (last : Option Snap) → IsChecked script → script.plan ≡ run.plan → role_of run.plan old.actor ≡ IsNode old.frag r →
          IsResting old.point → Agrees run.plan r old last → Agrees run.plan r new (later last (snap_at (world_of run) old.actor))
      saved script r last checked is role resting agrees =
          let u = up old.frag r role in
          let p = u.0 in
          let home = home_of run.plan (old.frag, r) in
          let now : snap_at (world_of run) old.actor ≡ Some (snapshot home p) = snap-here run old.actor old.frag r (Some p) role u.1 ∙ snap-up home p u.2 in
          let stands : StandsForSnapshot (spec_of (home_of run.plan (new.frag, r))).ops run.plan.width v (snapshot home p)
          = subst (λ f. StandsForSnapshot (spec_of (home_of run.plan (f, r))).ops run.plan.width v (snapshot home p)) (sym same.frag) u.3 in
          let well = went run.plan resting (λ short. savable script run old.actor old.frag r p v checked is role u.1 u.2 u.3 typed short) in
          let has : HasSaved run.plan r new (snapshot home p) = record { snapshot = v; stands = stands; went = well } in
          subst (λ (s : Option Snap). Agrees run.plan r new (later last s)) (sym now) has
