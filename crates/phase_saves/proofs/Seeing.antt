-- How what nodes saved goes on with a run.
use Rattle.std.proofs.Common.{◌≡◌, ◌==◌, ℕ, Bool, true, false, if◌then◌else◌, List, [], ◌∷◌, ◌++◌, length, Option, None, Result, Ok, Err, refl, sym, ap, subst, ◌∙◌, arith}
use Rattle.std.specs.Prelude.{OnOk}
use Rattle.disk_model.specs.declared.disk.Disk.{Ghosts}
use Rattle.dpc_lists.proofs.Truths.{eq-of}
use Rattle.dpc_model.specs.Actors.{role_of}
use Rattle.dpc_model.specs.declared.actors.Role.TheVariants.{Node as IsNode}
use Rattle.dpc_model.specs.declared.messages.Event.{Event}
use Rattle.dpc_model.specs.declared.messages.Event.TheVariants.{Phase, Emit, Release, Cut, Heal, Crash, Restart, Deliver, Tick, Mill}
use Rattle.dpc_model.specs.declared.plans.Plan.{Plan}
use Rattle.law_saves.specs.Saves.{snap_at, later, ends_phase, saved_before, saved_last}
use Rattle.law_saves.proofs.Going.{from-one}
use Rattle.node_model.specs.Mails.{Snap}
use Rattle.run_watchers.specs.Watching.{gone_on, unstarted}
use Rattle.world_core.specs.Runs.{RunOf, world_of}
use Rattle.world_model.specs.Worlds.{World, new_world, happens, run}
use Rattle.world_model.proofs.Running.{run-push}
use Rattle.phase_saves.specs.Nodes.{Agrees, IsSame, Saves, SomeRose}
use Rattle.phase_saves.specs.Runs.{Has, IsUpToDate, IsDone, HasStayed, HasSeen, HasDone, HaveSaved}
use Rattle.phase_saves.specs.declared.node.SavingNode.{SavingNode}
use Rattle.phase_saves.specs.declared.watch.PhaseSaves.{PhaseSaves}
use Rattle.phase_saves.proofs.Listing.{zip-same, zip-weaker, zip-both, zip-then}
use Rattle.phase_saves.proofs.Nodes.{same-still, rose-later, rose-still}

-- ---- events

none-yet : (plan : Plan) (a : ℕ) → saved_before plan [] a ≡ None
unfolding saved_before
none-yet plan a = refl

one-more : (plan : Plan) (events : List Event) (e : Event) (a : ℕ)
    → saved_before plan (events ++ e ∷ []) a ≡ (if ends_phase e then later (saved_before plan events a) (snap_at (run plan events) a) else saved_before plan events a)
unfolding saved_before run
one-more plan events e a = from-one a (new_world plan) None events e

if-so : {X : Type 0} (b : Bool) (x y : X) → b ≡ true → (if b then x else y) ≡ x
if-so b x y e = rw e refl

if-not : {X : Type 0} (b : Bool) (x y : X) → b ≡ false → (if b then x else y) ≡ y
if-not b x y e = rw e refl

-- an event that ends no phase
no-more : (plan : Plan) (events : List Event) (e : Event) (a : ℕ) → ends_phase e ≡ false → saved_before plan (events ++ e ∷ []) a ≡ saved_before plan events a
no-more plan events e a goes = one-more plan events e a ∙ if-not (ends_phase e) _ _ goes

-- one that ends a phase
more : (plan : Plan) (events : List Event) (e : Event) (a : ℕ) → ends_phase e ≡ true → saved_before plan (events ++ e ∷ []) a ≡ later (saved_before plan events a) (snap_at (run plan events) a)
more plan events e a ends = one-more plan events e a ∙ if-so (ends_phase e) _ _ ends

-- it leaves all nodes as they are
phase-stays : (w : World) (e : Event) → ends_phase e ≡ true → happens w e ≡ w
phase-stays w (Phase p) ends = refl
phase-stays w (Emit s t) ends = absurd (cc)
phase-stays w (Release s t) ends = absurd (cc)
phase-stays w (Cut a b) ends = absurd (cc)
phase-stays w (Heal a b) ends = absurd (cc)
phase-stays w (Crash a) ends = absurd (cc)
phase-stays w (Restart a i) ends = absurd (cc)
phase-stays w (Deliver k) ends = absurd (cc)
phase-stays w (Tick a now) ends = absurd (cc)
phase-stays w (Mill a r) ends = absurd (cc)

still-there : (before : RunOf) (e : Event) → ends_phase e ≡ true → world_of (gone_on before e) ≡ world_of before
still-there before e ends = run-push before.plan before.events e ∙ phase-stays (world_of before) e ends

-- at the end of a run with events
at-the-end : (plan : Plan) (events : List Event) (a : ℕ) → (length events == 0) ≡ false → saved_last plan events a ≡ later (saved_before plan events a) (snap_at (run plan events) a)
at-the-end plan [] a some = absurd (cc (some))
at-the-end plan (e ∷ events) a some = refl

-- and of one without
without-events : (plan : Plan) (events : List Event) (a : ℕ) → (length events == 0) ≡ true → saved_last plan events a ≡ saved_before plan events a
without-events plan [] a none = sym (none-yet plan a)
without-events plan (e ∷ events) a none = let never = eq-of (length (e ∷ events)) 0 none in absurd (omega (arith, never))

module _ {D : Type 0} {g : Ghosts D} where
  -- ---- one node

  same-then : (x y z : SavingNode D g) → IsSame x y → IsSame y z → IsSame x z
  same-then x y z a b =
      record {
        actor = b.actor ∙ a.actor;
        frag = b.frag ∙ a.frag;
        room = b.room ∙ a.room;
        extent = b.extent ∙ a.extent;
        faults = (let first = a.faults in let second = b.faults in omega (arith, first, second));
        honest = λ h. b.honest (a.honest h);
      }

  -- at an event that ends no phase
  goes-on : (before : RunOf) (e : Event) (x y : SavingNode D g) → ends_phase e ≡ false → IsUpToDate before x y → IsUpToDate (gone_on before e) x y
  goes-on before e x y goes u =
      record {
        rests = u.rests;
        saved = λ script r checked same role begun.
            subst (λ (s : Option Snap). Agrees before.plan r y s) (sym (no-more before.plan before.events e y.actor goes)) (u.saved script r checked same role begun);
      }

  -- one that saved what it can save now
  then-saves : (now : RunOf) (last next : ℕ → Option Snap) (x y z : SavingNode D g) → ((a : ℕ) → later (last a) (snap_at (world_of now) a) ≡ next a)
      → Has now last x y → IsSame y z → Saves now y z → Has now next x z
  then-saves now last next x y z all u same s =
      record {
        rests = λ h. s.rests (u.rests h);
        saved = λ script r checked is role begun.
            let plan = now.plan in
            let here : role_of plan y.actor ≡ IsNode y.frag r
            = subst (λ a. role_of plan a ≡ IsNode y.frag r) same.actor (subst (λ f. role_of plan z.actor ≡ IsNode f r) same.frag role) in
            let has = s.saved script r (last y.actor) checked is here (u.rests begun.rests) (u.saved script r checked is here begun) in
            subst (λ a. Agrees plan r z (next a)) (sym same.actor) (subst (λ (t : Option Snap). Agrees plan r z t) (all y.actor) has);
      }

  -- at an event that ends a phase
  goes-up : (before : RunOf) (e : Event) (x y z : SavingNode D g) → ends_phase e ≡ true → IsUpToDate before x y → IsSame y z → Saves (gone_on before e) y z → IsUpToDate (gone_on before e) x z
  goes-up before e x y z ends u same s =
      then-saves (gone_on before e) (saved_before before.plan before.events) (saved_before before.plan (before.events ++ e ∷ [])) x y z
      (λ a. ap (λ (w : World). later (saved_before before.plan before.events a) (snap_at w a)) (still-there before e ends) ∙ sym (more before.plan before.events e a ends))
      (record { rests = u.rests; saved = u.saved }) same s

  -- ---- all nodes

  -- before the first event
  pub begins : (plan : Plan) (p : PhaseSaves D g) → HasSeen p (unstarted plan) p
  begins plan p = λ well. zip-same (IsUpToDate (unstarted plan)) first p.nodes.items
    where
      first : (x : SavingNode D g) → IsUpToDate (unstarted plan) x x
      first x =
          record {
            rests = λ h. h;
            saved = λ script r checked same role begun. subst (λ (s : Option Snap). Agrees plan r x s) (sym (none-yet plan x.actor)) (begun.nothing plan);
          }

  pub stays-so : (p : PhaseSaves D g) → HasStayed p p
  stays-so p = record { same = zip-same IsSame same-still p.nodes.items; rose = λ well failed. absurd (cc (well, failed)) }

  pub stays-then : (a b c : PhaseSaves D g) → HasStayed a b → HasStayed b c → HasStayed a c
  stays-then a b c h i =
      record {
        same = zip-then IsSame IsSame IsSame same-then a.nodes.items b.nodes.items c.nodes.items h.same i.same;
        rose = λ well failed. by-flag b.failed refl well failed;
      }
    where
      by-flag : (f : Bool) → b.failed ≡ f → a.failed ≡ false → c.failed ≡ true → SomeRose a.nodes.items c.nodes.items
      by-flag true is well failed = rose-still a.nodes.items b.nodes.items c.nodes.items (h.rose well is) i.same
      by-flag false is well failed = rose-later a.nodes.items b.nodes.items c.nodes.items h.same (i.rose is failed)

  -- nothing was saved, since a disk failed
  pub failed-on : (start p : PhaseSaves D g) (now : RunOf) → p.failed ≡ true → HasSeen start now p
  failed-on start p now failed = λ well. absurd (cc (well, failed))

  -- nothing was to be saved
  pub rested : (start p : PhaseSaves D g) (before now : RunOf) (e : Event) → now ≡ gone_on before e → ends_phase e ≡ false → HasSeen start before p → HasSeen start now p
  rested start p before now e is goes seen =
      subst (λ (r : RunOf). HasSeen start r p) (sym is)
      (λ well. zip-weaker (IsUpToDate before) (IsUpToDate (gone_on before e)) (λ x y u. goes-on before e x y goes u) start.nodes.items p.nodes.items (seen well))

  -- all were saved, or a disk failed
  pub saved : (start p q : PhaseSaves D g) (before now : RunOf) (e : Event) → now ≡ gone_on before e → ends_phase e ≡ true → p.failed ≡ false → HasSeen start before p → HasStayed p q → HaveSaved now p q
      → HasSeen start now q
  saved start p q before now e is ends well seen stayed gone =
      subst (λ (r : RunOf). HasSeen start r q) (sym is)
      (λ calm. zip-then (IsUpToDate before) (λ y z. IsSame y z × Saves (gone_on before e) y z) (IsUpToDate (gone_on before e)) (λ x y z u s. goes-up before e x y z ends u s.0 s.1)
      start.nodes.items p.nodes.items q.nodes.items (seen well) (zip-both IsSame (Saves (gone_on before e)) p.nodes.items q.nodes.items stayed.same (subst (λ (r : RunOf). HaveSaved r p q) is gone calm)))

  -- ---- the end

  pub ends-failed : (start p : PhaseSaves D g) (now : RunOf) → p.failed ≡ true → HasDone start now p
  ends-failed start p now failed = λ well. absurd (cc (well, failed))

  pub ends-bare : (start p : PhaseSaves D g) (now : RunOf) → (length now.events == 0) ≡ true → HasSeen start now p → HasDone start now p
  ends-bare start p now none seen = λ well. zip-weaker (IsUpToDate now) (IsDone now) same start.nodes.items p.nodes.items (seen well)
    where
      same : (x y : SavingNode D g) → IsUpToDate now x y → IsDone now x y
      same x y u =
          record {
            rests = u.rests;
            saved = λ script r checked is role begun.
                subst (λ (s : Option Snap). Agrees now.plan r y s) (sym (without-events now.plan now.events y.actor none)) (u.saved script r checked is role begun);
          }

  pub ends-saved : (start p q : PhaseSaves D g) (now : RunOf) → (length now.events == 0) ≡ false → p.failed ≡ false → HasSeen start now p → HasStayed p q → HaveSaved now p q → HasDone start now q
  ends-saved start p q now some well seen stayed gone = λ calm.
      zip-then (IsUpToDate now) (λ y z. IsSame y z × Saves now y z) (IsDone now)
      (λ x y z u s. then-saves now (saved_before now.plan now.events) (saved_last now.plan now.events) x y z (λ a. sym (at-the-end now.plan now.events a some)) u s.0 s.1)
      start.nodes.items p.nodes.items q.nodes.items (seen well) (zip-both IsSame (Saves now) p.nodes.items q.nodes.items stayed.same (gone calm))

-- what is so at an Ok makes another thing so there
pub then-ok : {E : Type 0} (P Q : Type 0) (r : Result Unit E) → (P → Q) → OnOk r P → OnOk r Q
then-ok P Q (Ok done) f h = f h
then-ok P Q (Err fault) f h = tt
