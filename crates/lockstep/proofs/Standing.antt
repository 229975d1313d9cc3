-- Steps of a run, one after another.
use Rattle.std.proofs.Common.{◌≡◌, ℕ, ◌+◌, ◌<◌, false, List, [], ◌∷◌, ◌++◌, length, get_or, take, drop, refl, sym, ap, subst, ◌∙◌, append_assoc, Some, None, Result, Err, IfErr}
use Rattle.std.specs.Prelude.{reverse, fold}
use Rattle.std.specs.Result.{IsErr, IsErrAnd}
use Rattle.std.proofs.lemmas.Grind.{reverse_onto}
use Rattle.std.proofs.lemmas.List.{take_more, reverse-append, take-append-drop}
use Rattle.std.proofs.lemmas.List.Sums.{fold-append}
use Rattle.std.proofs.lemmas.Result.{err_from_is_err_and}
use Rattle.dpc_model.specs.declared.messages.Event.{Event}
use Rattle.dpc_model.specs.declared.plans.Plan.{Plan}
use Rattle.world_model.specs.Worlds.{World, Sums, new_world, happens, run, passes_limit, WouldReach, excess}
use Rattle.world_model.specs.Schedules.{Told, tell}
use Rattle.world_model.proofs.Running.{run-push}
use Rattle.world_core.specs.Runs.{RunOf, world_of}
use Rattle.world_core.specs.declared.faults.ApplyFault.{ApplyFault}
use Rattle.world_core.specs.declared.faults.ApplyFault.TheVariants as of_apply
use Rattle.lockstep.specs.Faults.{fault_of}
use Rattle.lockstep.specs.Locking.{IsAt, Follows, Exceeds}
use Rattle.lockstep.specs.declared.faults.RunFault.{RunFault}
use Rattle.lockstep.specs.declared.faults.RunFault.TheVariants.{NoMemory, TooLong}
use Rattle.lockstep.proofs.Excess.{excess-more, excess-behind}

-- the events that were told stay
abbrev pub Grows : (Told → Told) → Type 0
Grows f = (x : Told) → (more : List Event) × ((f x).events ≡ more ++ x.events)

-- ---- one event

back : (x : Told) (e : Event) (events : List Event) → reverse x.events ≡ events → reverse (e ∷ x.events) ≡ events ++ e ∷ []
back x e events h = reverse_onto x.events e [] ∙ ap (λ (es : List Event). es ++ e ∷ []) h

within-next : (plan : Plan) (events : List Event) (e : Event) → excess plan events ≡ None → passes_limit (run plan events) e ≡ false → excess plan (events ++ e ∷ []) ≡ None
unfolding run
within-next plan events e within passes = excess-behind (new_world plan) events (e ∷ []) within ∙ rw passes refl

first-past : (plan : Plan) (events : List Event) (e : Event) (envelopes items : ℕ) → excess plan events ≡ None → WouldReach (run plan events) e envelopes items →
    excess plan (events ++ e ∷ []) ≡ Some (record { envelopes = envelopes; items = items })
unfolding run
first-past plan events e envelopes items within reach = excess-behind (new_world plan) events (e ∷ []) within ∙ rw reach.passes (ap (λ (s : Sums). Some s) reach.sums)

pub follows-tell : (e : Event) (old new : RunOf) → new ≡ record old { events = old.events ++ e ∷ [] } → passes_limit (world_of old) e ≡ false → Follows (λ x. tell x e) old new
follows-tell e old new is passes =
    subst (λ (w : RunOf). Follows (λ x. tell x e) old w) (sym is)
    (record {
      plan = refl;
      spent = refl;
      after = λ x at. record {
        live = at.live;
        world = ap (λ (w : World). happens w e) at.world ∙ sym (run-push old.plan old.events e);
        events = back x e old.events at.events;
        within = within-next old.plan old.events e at.within passes;
      };
    })

pub exceeds-tell : (e : Event) (old : RunOf) (envelopes items : ℕ) → WouldReach (world_of old) e envelopes items → Exceeds (λ x. tell x e) old (TooLong envelopes items)
exceeds-tell e old envelopes items reach x at =
    ap (λ (es : List Event). excess old.plan es) (back x e old.events at.events) ∙ first-past old.plan old.events e envelopes items at.within reach

pub exceeds-fault : (e : Event) (old : RunOf) (fault : ApplyFault) →
    ((envelopes items : ℕ) → ◌≡◌ {A = Result (Unit {0}) ApplyFault} (Err fault) (Err (of_apply.TooLong envelopes items)) → WouldReach (world_of old) e envelopes items) → Exceeds (λ x. tell x e) old (fault_of fault)
exceeds-fault e old of_apply.NoMemory h = tt
exceeds-fault e old of_apply.Spent h = tt
exceeds-fault e old (of_apply.TooLong envelopes items) h = exceeds-tell e old envelopes items (h envelopes items refl)

-- ---- one step behind another

pub follows-then : (f g : Told → Told) (a b c : RunOf) → Follows f a b → Follows g b c → Follows (λ x. g (f x)) a c
follows-then f g a b c p q = record { plan = q.plan ∙ p.plan; spent = q.spent ∙ p.spent; after = λ x at. q.after (f x) (p.after x at) }

pub exceeds-then : (f g : Told → Told) (a b : RunOf) (fault : RunFault) → Follows f a b → Exceeds g b fault → Exceeds (λ x. g (f x)) a fault
exceeds-then f g a b NoMemory p h = tt
exceeds-then f g a b (TooLong envelopes items) p h =
    λ x at. ap (λ (plan : Plan). excess plan (reverse (g (f x)).events)) (sym p.plan) ∙ h (f x) (p.after x at)

pub exceeds-more : (f g : Told → Told) (a : RunOf) (fault : RunFault) → Grows g → Exceeds f a fault → Exceeds (λ x. g (f x)) a fault
exceeds-more f g a NoMemory grows h = tt
exceeds-more f g a (TooLong envelopes items) grows h =
    λ x at.
    let more = grows (f x) in
    ap (λ (es : List Event). excess a.plan (reverse es)) more.1 ∙ ap (λ (es : List Event). excess a.plan es) (reverse-append more.0 (f x).events)
    ∙ excess-more (new_world a.plan) (reverse (f x).events) (reverse more.0) (record { envelopes = envelopes; items = items }) (h x at)

-- a way that leads to the same
pub follows-same : (f g : Told → Told) (a b : RunOf) → ((x : Told) → IsAt a x → f x ≡ g x) → Follows f a b → Follows g a b
follows-same f g a b same p = record { plan = p.plan; spent = p.spent; after = λ x at. subst (λ (y : Told). IsAt b y) (same x at) (p.after x at) }

pub exceeds-same : (f g : Told → Told) (a : RunOf) (fault : RunFault) → ((x : Told) → IsAt a x → f x ≡ g x) → Exceeds f a fault → Exceeds g a fault
exceeds-same f g a NoMemory same h = tt
exceeds-same f g a (TooLong envelopes items) same h = λ x at. ap (λ (y : Told). excess a.plan (reverse y.events)) (sym (same x at)) ∙ h x at

-- ---- more and more

pub grows-nothing : Grows (λ x. x)
grows-nothing x = ([], refl)

pub grows-tell : (e : Event) → Grows (λ x. tell x e)
grows-tell e x = (e ∷ [], refl)

pub grows-then : (f g : Told → Told) → Grows f → Grows g → Grows (λ x. g (f x))
grows-then f g p q x =
    let one = p x in
    let two = q (f x) in
    (two.0 ++ one.0, two.1 ∙ ap (λ (es : List Event). two.0 ++ es) one.1 ∙ sym (append_assoc two.0 one.0 x.events))

pub grows-fold : {X : Type 0} (f : Told → X → Told) → ((d : X) → Grows (λ x. f x d)) → (ds : List X) → Grows (λ x. fold f x ds)
grows-fold f grows [] = grows-nothing
grows-fold f grows (d ∷ ds) = grows-then (λ x. f x d) (λ x. fold f x ds) (grows d) (grows-fold f grows ds)

-- ---- a step for each element of a list

-- the steps up to place i and the one there, with all behind
fold-parts : {X : Type 0} (f : Told → X → Told) (ds : List X) (i : ℕ) (d : X) → i < length ds → (x : Told) →
    fold f (f (fold f x (take i ds)) (get_or ds i d)) (drop (i + 1) ds) ≡ fold f x ds
fold-parts {X} f ds i d low x =
    ap (λ (y : Told). fold f y (drop (i + 1) ds)) (sym (fold-append f x (take i ds) (get_or ds i d ∷ [])) ∙ ap (λ (es : List X). fold f x es) (sym (take_more ds i d low)))
    ∙ sym (fold-append f x (take (i + 1) ds) (drop (i + 1) ds)) ∙ ap (λ (es : List X). fold f x es) (take-append-drop (i + 1) ds)

pub fold-exceeds : {X : Type 0} (f : Told → X → Told) (ds : List X) (i : ℕ) (d : X) (a b : RunOf) (fault : RunFault) → ((e : X) → Grows (λ x. f x e)) → i < length ds →
    Follows (λ x. fold f x (take i ds)) a b → Exceeds (λ x. f x (get_or ds i d)) b fault → Exceeds (λ x. fold f x ds) a fault
fold-exceeds {X} f ds i d a b fault grows low p h =
    exceeds-same (λ x. fold f (f (fold f x (take i ds)) (get_or ds i d)) (drop (i + 1) ds)) (λ x. fold f x ds) a fault (λ x at. fold-parts f ds i d low x)
    (exceeds-more (λ x. f (fold f x (take i ds)) (get_or ds i d)) (λ x. fold f x (drop (i + 1) ds)) a fault (grows-fold f grows (drop (i + 1) ds))
    (exceeds-then (λ x. fold f x (take i ds)) (λ x. f x (get_or ds i d)) a b fault p h))

-- ---- the exit of a `?`

pub raised : {X : Type 0} (r : Result X RunFault) (P : RunFault → Type 0) (fault : RunFault) → IsErr r × IsErrAnd r (λ e. e ≡ fault) → P fault → IfErr r P
raised r P fault is h = let p = err_from_is_err_and r is.1 in rw (p.1, p.2) h

-- ---- as far as a world, with the rest still to do

pub record Leads {Z : Type 0} (f rest : Told → Z) (old new : RunOf) : Type 0 where
  pub plan : new.plan ≡ old.plan
  pub spent : new.spent ≡ old.spent
  pub on : (x : Told) → IsAt old x → (y : Told) × (IsAt new y × (f x ≡ rest y))

pub leads-on : {Z : Type 0} (f rest later : Told → Z) (g : Told → Told) (a b c : RunOf) → Leads f rest a b → Follows g b c → ((y : Told) → IsAt b y → rest y ≡ later (g y)) → Leads f later a c
leads-on f rest later g a b c l p same =
    record {
      plan = p.plan ∙ l.plan;
      spent = p.spent ∙ l.spent;
      on = λ x at. let y = l.on x at in (g y.0, (p.after y.0 y.1.0, y.1.1 ∙ same y.0 y.1.0));
    }

pub leads-there : (f rest : Told → Told) (a b : RunOf) → Leads f rest a b → ((y : Told) → IsAt b y → rest y ≡ y) → Follows f a b
leads-there f rest a b l same =
    record {
      plan = l.plan;
      spent = l.spent;
      after = λ x at. let y = l.on x at in subst (λ (z : Told). IsAt b z) (sym (y.1.1 ∙ same y.0 y.1.0)) y.1.0;
    }

pub leads-past : (f rest : Told → Told) (a b : RunOf) (fault : RunFault) → Leads f rest a b → Exceeds rest b fault → Exceeds f a fault
leads-past f rest a b NoMemory l h = tt
leads-past f rest a b (TooLong envelopes items) l h =
    λ x at.
    let y = l.on x at in
    ap (λ (z : Told). excess a.plan (reverse z.events)) y.1.1 ∙ ap (λ (plan : Plan). excess plan (reverse (rest y.0).events)) (sym l.plan) ∙ h y.0 y.1.0

-- the second of two that it leads to
pub leads-second : {Z : Type 0} (f rest : Told → Z × Told) (a b : RunOf) → Leads f rest a b → Leads (λ x. (f x).1) (λ y. (rest y).1) a b
leads-second {Z} f rest a b l = record { plan = l.plan; spent = l.spent; on = λ x at. let y = l.on x at in (y.0, (y.1.0, ap (λ (z : Z × Told). z.1) y.1.1)) }
