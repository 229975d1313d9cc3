-- The whole run of a script.
use Rattle.std.proofs.Common.{◌≡◌, ℕ, ◌+◌, Bool, true, false, cond, List, [], map, length, refl, sym, ap, subst, ◌∙◌, arith, Option, Some, None, Result, Ok, Err, IfOk, IfErr}
use Rattle.std.specs.Prelude.{reverse, fold}
use Rattle.std.specs.Result.{IsErr, IsErrAnd}
use Rattle.std.proofs.lemmas.Result.{err_from_is_err_and}
use Rattle.dpc_model.specs.declared.messages.Event.{Event}
use Rattle.dpc_model.specs.declared.plans.Plan.{Plan}
use Rattle.dpc_model.specs.declared.scripts.Phase.{Phase as PhaseSpec}
use Rattle.dpc_model.specs.declared.scripts.Script.{Script}
use Rattle.world_model.specs.Worlds.{Sums, run, excess}
use Rattle.world_model.specs.Schedules.{Told, tell_phases, tell_quiet, tell_rest, lockstep, lockstep_journal, quiet_limit, last_clock}
use Rattle.world_core.specs.Runs.{RunOf}
use Rattle.law_schedules.proofs.Lockstep.{lock-live}
use Rattle.law_schedules.proofs.Timely.{live-ends}
use Rattle.law_settling_whole.proofs.Whole.{healed-settles}
use Rattle.lockstep.specs.Locking.{IsAt, Follows, Exceeds, untold, StandsBehind, IsWhole, SettlesWhere}
use Rattle.lockstep.specs.declared.phase.RunSoFar.{RunSoFar}
use Rattle.lockstep.specs.declared.faults.RunFault.{RunFault}
use Rattle.lockstep.specs.declared.faults.RunFault.TheVariants.{TooLong}
use Rattle.lockstep.proofs.Standing.{Grows, grows-nothing, exceeds-more}
use Rattle.lockstep.proofs.Phasing.{grows-quiet}

-- ---- the opening

abbrev pub opening : Plan → RunOf
opening plan = record { plan = plan; events = []; spent = false }

start-stands : (plan : Plan) → IsAt (opening plan) (untold plan)
unfolding run
start-stands plan = record { live = refl; world = refl; events = refl; within = refl }

-- ---- the end

pub record Ends (script : Script) (w : RunOf) : Type 0 where
  pub is : w ≡ record { plan = script.plan; events = lockstep_journal script; spent = false }
  pub within : excess script.plan (lockstep_journal script) ≡ None

-- the phases, from the first envelope and the start
abbrev phases_of : Script → Told → ℕ × Told
phases_of script x = tell_phases 1 0 script.phases x

abbrev pub phased : Script → Told → Told
phased script x = (phases_of script x).1

ends : (script : Script) (w : RunOf) → w.plan ≡ script.plan → IsAt w (tell_rest script (phases_of script (untold script.plan))) → Ends script w
unfolding lockstep lockstep_journal
ends script w same at =
    record {
      is = ap (λ (plan : Plan). record w { plan = plan }) same ∙ ap (λ (es : List Event). record { plan = script.plan; events = es; spent = w.spent }) (sym at.events)
          ∙ ap (λ (b : Bool). record { plan = script.plan; events = reverse (tell_rest script (phases_of script (untold script.plan))).events; spent = b }) at.live;
      within = ap (λ (es : List Event). excess script.plan es) at.events ∙ ap (λ (plan : Plan). excess plan w.events) (sym same) ∙ at.within;
    }

abbrev rest_of : Bool → Script → ℕ × Told → Told
rest_of b script z = cond b (tell_quiet (quiet_limit script.plan) (length script.phases + 1) z.0 (last_clock script + 1) z.1) z.1

-- what the phases of a script make of a run so far
pub record ArePhases (specs : List PhaseSpec) (old new : RunSoFar) : Type 0 where
  pub follows : Follows (λ x. (tell_phases old.phase old.first specs x).1) old.world new.world
  pub number : new.phase ≡ old.phase + length specs
  pub sent : (x : Told) → IsAt old.world x → (tell_phases old.phase old.first specs x).0 ≡ new.first
  pub clock : new.now ≡ fold (λ _ now. now) old.now (map (λ (p : PhaseSpec). p.now) specs)

abbrev pub first_lock : Plan → RunSoFar
first_lock plan = record { world = opening plan; phase = 1; first = 0; now = 0 }

-- they are those of the script, from the first one on
pub of-script : (script : Script) (specs : List PhaseSpec) (w : RunOf) (old new : RunSoFar) → w ≡ opening script.plan → old ≡ record { world = w; phase = 1; first = 0; now = 0 } → specs ≡ script.phases →
    ArePhases specs old new → ArePhases script.phases (first_lock script.plan) new
of-script script specs w old new opened begun same a =
    let whole : old ≡ first_lock script.plan = begun ∙ ap (λ (w : RunOf). record { world = w; phase = 1; first = 0; now = 0 }) opened in
    subst (λ (l : RunSoFar). ArePhases script.phases l new) whole (subst (λ (ss : List PhaseSpec). ArePhases ss old new) same a)

pub plain-ends : (script : Script) (new : RunSoFar) → script.settle ≡ false → ArePhases script.phases (first_lock script.plan) new → Ends script new.world
plain-ends script new plain a =
    ends script new.world a.follows.plan
    (subst (λ (t : Bool). IsAt new.world (rest_of t script (phases_of script (untold script.plan)))) (sym plain) (a.follows.after (untold script.plan) (start-stands script.plan)))

-- behind the phases of the script
pub stands-behind : (script : Script) (new : RunSoFar) → ArePhases script.phases (first_lock script.plan) new → StandsBehind script new
stands-behind script new a =
    record {
      plan = a.follows.plan;
      world = a.follows.after (untold script.plan) (start-stands script.plan);
      number = omega (arith, a.number);
      sent = sym (a.sent (untold script.plan) (start-stands script.plan));
      clock = a.clock;
    }

quiet-way : (script : Script) (l : RunSoFar) → StandsBehind script l →
    tell_quiet (quiet_limit l.world.plan) l.phase l.first (l.now + 1) (phased script (untold script.plan)) ≡ rest_of true script (phases_of script (untold script.plan))
quiet-way script l b =
    let x : Told = phased script (untold script.plan) in
    ap (λ (n : ℕ). tell_quiet n l.phase l.first (l.now + 1) x) (ap quiet_limit b.plan) ∙ ap (λ (n : ℕ). tell_quiet (quiet_limit script.plan) n l.first (l.now + 1) x) b.number
    ∙ ap (λ (n : ℕ). tell_quiet (quiet_limit script.plan) (length script.phases + 1) n (l.now + 1) x) b.sent
    ∙ ap (λ (n : ℕ). tell_quiet (quiet_limit script.plan) (length script.phases + 1) (phases_of script (untold script.plan)).0 (n + 1) x) b.clock

pub behind-ends : (script : Script) (l : RunSoFar) (last : RunOf) → script.settle ≡ true → StandsBehind script l →
    Follows (tell_quiet (quiet_limit l.world.plan) l.phase l.first (l.now + 1)) l.world last → Ends script last
behind-ends script l last settles b q =
    let x = phased script (untold script.plan) in
    ends script last (q.plan ∙ b.plan)
    (subst (λ (t : Bool). IsAt last (rest_of t script (phases_of script (untold script.plan)))) (sym settles) (subst (λ (y : Told). IsAt last y) (quiet-way script l b) (q.after x b.world)))

pub settled-ends : (script : Script) (new : RunSoFar) (last : RunOf) → script.settle ≡ true → ArePhases script.phases (first_lock script.plan) new →
    Follows (tell_quiet (quiet_limit new.world.plan) new.phase new.first (new.now + 1)) new.world last → Ends script last
settled-ends script new last settles a q = behind-ends script new last settles (stands-behind script new a) q

-- so the run is whole
pub ends-whole : (script : Script) (last : RunOf) → script.settle ≡ true → Ends script last → IsWhole script last
ends-whole script last settles e =
    subst (λ (w : RunOf). IsWhole script w) (sym e.is)
    (record { journal = refl; live = lock-live script; ends = (live-ends script (lockstep_journal script) (lock-live script)).1 settles })

abbrev quiet_after : RunSoFar → ℕ → Told → Told
quiet_after l most = tell_quiet most l.phase l.first (l.now + 1)

pub whole-answers : (l : RunSoFar) (most : ℕ) (r : Result RunOf RunFault) → most ≡ quiet_limit l.world.plan → IfOk r (λ w. Follows (quiet_after l most) l.world w) →
    IfOk r (λ w. (script : Script) → script.settle ≡ true → StandsBehind script l → IsWhole script w)
whole-answers l most (Err fault) is q = tt
whole-answers l most (Ok w) is q =
    λ script settles b. ends-whole script w settles (behind-ends script l w settles b (subst (λ (n : ℕ). Follows (quiet_after l n) l.world w) is q))

-- and where the script heals and recoveries end, every client is settled
pub ends-settled : (script : Script) (last : RunOf) → Ends script last → SettlesWhere script last
ends-settled script last e =
    subst (λ (w : RunOf). SettlesWhere script w) (sym e.is) (λ checked on healed calm. healed-settles script checked on healed calm)

-- ---- a fault

abbrev reached : ℕ → ℕ → Option Sums
reached envelopes items = Some (record { envelopes = envelopes; items = items })

excess-of : (script : Script) (x : Told) (envelopes items : ℕ) → x ≡ tell_rest script (phases_of script (untold script.plan)) → excess script.plan (reverse x.events) ≡ reached envelopes items →
    excess script.plan (lockstep_journal script) ≡ reached envelopes items
unfolding lockstep lockstep_journal
excess-of script x envelopes items is h = ap (λ (y : Told). excess script.plan (reverse y.events)) (sym is) ∙ h

grows-rest : (script : Script) (t : Bool) (first : ℕ) → Grows (λ x. rest_of t script (first, x))
grows-rest script true first = grows-quiet (quiet_limit script.plan) (length script.phases + 1) first (last_clock script + 1)
grows-rest script false first = grows-nothing

pub phases-excess : (script : Script) (specs : List PhaseSpec) (w : RunOf) (old : RunSoFar) (fault : RunFault) → w ≡ opening script.plan → old ≡ record { world = w; phase = 1; first = 0; now = 0 } → specs ≡ script.phases →
    Exceeds (λ x. (tell_phases old.phase old.first specs x).1) old.world fault → (envelopes items : ℕ) → fault ≡ TooLong envelopes items → excess script.plan (lockstep_journal script) ≡ reached envelopes items
phases-excess script specs w old fault opened begun same h envelopes items is =
    let whole : old ≡ first_lock script.plan = begun ∙ ap (λ (w : RunOf). record { world = w; phase = 1; first = 0; now = 0 }) opened in
    let told : Exceeds (λ x. (tell_phases old.phase old.first specs x).1) old.world (TooLong envelopes items) = subst (λ (f : RunFault). Exceeds (λ x. (tell_phases old.phase old.first specs x).1) old.world f) is h in
    let past : Exceeds (phased script) (opening script.plan) (TooLong envelopes items) =
    subst (λ (l : RunSoFar). Exceeds (λ x. (tell_phases l.phase l.first script.phases x).1) l.world (TooLong envelopes items)) whole
    (subst (λ (ss : List PhaseSpec). Exceeds (λ x. (tell_phases old.phase old.first ss x).1) old.world (TooLong envelopes items)) same told) in
    let first = (phases_of script (untold script.plan)).0 in
    excess-of script (rest_of script.settle script (first, phased script (untold script.plan))) envelopes items refl
    (exceeds-more (phased script) (λ x. rest_of script.settle script (first, x)) (opening script.plan) (TooLong envelopes items) (grows-rest script script.settle first) past (untold script.plan)
    (start-stands script.plan))

pub settle-excess : (script : Script) (new : RunSoFar) (fault : RunFault) → script.settle ≡ true → ArePhases script.phases (first_lock script.plan) new →
    Exceeds (tell_quiet (quiet_limit new.world.plan) new.phase new.first (new.now + 1)) new.world fault → (envelopes items : ℕ) → fault ≡ TooLong envelopes items → excess script.plan (lockstep_journal script) ≡ reached envelopes items
settle-excess script new fault settles a h envelopes items is =
    let limit = quiet_limit new.world.plan in
    let x = phased script (untold script.plan) in
    let told : Exceeds (tell_quiet limit new.phase new.first (new.now + 1)) new.world (TooLong envelopes items) = subst (λ (f : RunFault). Exceeds (tell_quiet limit new.phase new.first (new.now + 1)) new.world f) is h in
    let past : excess new.world.plan (reverse (tell_quiet limit new.phase new.first (new.now + 1) x).events) ≡ reached envelopes items = told x (a.follows.after (untold script.plan) (start-stands script.plan)) in
    excess-of script (tell_quiet limit new.phase new.first (new.now + 1) x) envelopes items
    (quiet-way script new (stands-behind script new a) ∙ ap (λ (t : Bool). rest_of t script (phases_of script (untold script.plan))) (sym settles))
    (ap (λ (plan : Plan). excess plan (reverse (tell_quiet limit new.phase new.first (new.now + 1) x).events)) (sym a.follows.plan) ∙ past)

-- ---- what the quiet phases answer

abbrev quiet_behind : RunSoFar → Told → Told
quiet_behind new = tell_quiet (quiet_limit new.world.plan) new.phase new.first (new.now + 1)

pub settled-answers : (script : Script) (new : RunSoFar) (r : Result RunOf RunFault) {Q : RunOf → Type 0} → script.settle ≡ true → ArePhases script.phases (first_lock script.plan) new →
    IfOk r (λ w. Follows (quiet_behind new) new.world w) → ((w : RunOf) → Ends script w → Q w) → IfOk r Q
settled-answers script new (Ok w) settles a q f = f w (settled-ends script new w settles a q)
settled-answers script new (Err fault) settles a q f = tt

pub settled-past : (script : Script) (new : RunSoFar) (r : Result RunOf RunFault) → script.settle ≡ true → ArePhases script.phases (first_lock script.plan) new →
    IfErr r (Exceeds (quiet_behind new) new.world) → (envelopes items : ℕ) → r ≡ Err (TooLong envelopes items) → excess script.plan (lockstep_journal script) ≡ reached envelopes items
settled-past script new (Ok w) settles a q envelopes items e = cc
settled-past script new (Err fault) settles a q envelopes items e = settle-excess script new fault settles a q envelopes items cc

-- the exit of a `?`
pub raised-past : {X : Type 0} (r : Result X RunFault) (fault : RunFault) (plan : Plan) (es : List Event) → IsErr r × IsErrAnd r (λ e. e ≡ fault) →
    ((envelopes items : ℕ) → fault ≡ TooLong envelopes items → excess plan es ≡ Some (record { envelopes = envelopes; items = items })) →
    (envelopes items : ℕ) → r ≡ Err (TooLong envelopes items) → excess plan es ≡ Some (record { envelopes = envelopes; items = items })
raised-past {X} r fault plan es is h envelopes items e =
    let p = err_from_is_err_and r is.1 in
    let same : ◌≡◌ {A = Result X RunFault} (Err p.0) (Err (TooLong envelopes items)) = sym p.1 ∙ e in
    h envelopes items (sym p.2 ∙ cc)
