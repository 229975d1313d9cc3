-- The one-thread journal of a script is live, and leads to the world of its one-thread run.
use Rattle.std.proofs.Common.{◌≡◌, ℕ, zero, suc, ◌+◌, ◌-◌, ◌≤◌, true, false, not, cond, ◌&&◌, nat_lt, List, [], ◌∷◌, map, length, refl, sym, ap, subst, ◌∙◌, arith, Option, Some, slice_get, unwrap_or}
use Rattle.std.specs.Prelude.{reverse}
use Rattle.std.proofs.lemmas.Option.{slice_get_past}
use Rattle.dpc_lists.specs.Lists.{nth}
use Rattle.dpc_model.specs.Actors.{nodes_of}
use Rattle.dpc_model.specs.declared.messages.Event.{Event}
use Rattle.dpc_model.specs.declared.plans.Plan.{Plan}
use Rattle.dpc_model.specs.declared.scripts.Phase.{Phase as PhaseSpec}
use Rattle.dpc_model.specs.declared.scripts.Script.{Script}
use Rattle.node_model.specs.Nodes.{Home, new_node}
use Rattle.world_model.specs.Worlds.{home_of, new_world, run_from, run, all_settled}
use Rattle.world_model.specs.Schedules.{Progress, Told, tell_phase, tell_phases, tell_quiet, lockstep, lockstep_journal, first_progress, next_progress, progress_from, progress, is_live_so_far, is_live, is_phase_complete, phase_left, phase_of, last_clock, quiet_limit}
use Rattle.dpc_lists.proofs.Truths.{both-of, lt-test, not-less, or-left, or-right, and-false}
use Rattle.law_schedules.proofs.Stages.{Reached, reached}
use Rattle.law_schedules.proofs.Nodes.{IsZeroed}
use Rattle.law_schedules.proofs.Calm.{IsZeroedAt, node_in}
use Rattle.law_schedules.proofs.Directing.{IsBetween}
use Rattle.law_schedules.proofs.Phases.{phase-told}

-- ---- the opening

new-zeroed : (home : Home) → IsZeroed (new_node home)
unfolding new_node
new-zeroed home e = refl

pub slots-zeroed : (plan : Plan) (ns : List (ℕ × ℕ)) (i : ℕ) → IsZeroedAt (node_in (map (λ (n : ℕ × ℕ). record { last_inc = 1; node = Some (new_node (home_of plan n)) }) ns) i)
slots-zeroed plan [] i = tt
slots-zeroed plan (n ∷ ns) zero = new-zeroed (home_of plan n)
slots-zeroed plan (n ∷ ns) (suc i) = slots-zeroed plan ns i

opening-between : (script : Script) → IsBetween script 1 0 (first_progress script)
unfolding new_world
opening-between script =
    record { phase = refl; complete = refl; others = []; gone = refl; grown = omega arith; waiting = refl; plan = refl; zeroed = slots-zeroed script.plan (nodes_of script.plan) }

-- ---- one more phase

phase-next : (script : Script) (p first : ℕ) (x : Told) (r : Reached script (IsBetween script p first) x) → phase_left script r.here ≡ true →
    Reached script (IsBetween script (p + 1) (length x.world.envelopes)) (tell_phase p first (phase_of script p).directives (phase_of script p).now x)
phase-next script p first x r left =
    subst (λ (z : Told). Reached script (IsBetween script (p + 1) (length z.world.envelopes)) (tell_phase p first (phase_of script p).directives (phase_of script p).now z)) (sym r.is_told)
    (phase-told script p first r.here x.events r.follows r.holds left)

-- ---- the script's phases

phase-at : (script : Script) (k p : ℕ) (spec : PhaseSpec) → p ≡ k + 1 → slice_get script.phases k ≡ Some spec → phase_of script p ≡ spec
phase-at script k p spec e h =
    let place : p - 1 ≡ k = omega (arith, e) in
    ap (λ (i : ℕ). nth (record { directives = []; now = last_clock script + (p - length script.phases) }) script.phases i) place
    ∙ ap (λ (o : Option PhaseSpec). unwrap_or o (record { directives = []; now = last_clock script + (p - length script.phases) })) h

phases-told : (script : Script) (k p first : ℕ) (specs : List PhaseSpec) (x : Told) → p ≡ k + 1 → k + length specs ≡ length script.phases → ((i : ℕ) → slice_get script.phases (k + i) ≡ slice_get specs i) →
    Reached script (IsBetween script p first) x → Reached script (IsBetween script (length script.phases + 1) (tell_phases p first specs x).0) (tell_phases p first specs x).1
phases-told script k p first [] x number many same r =
    let last : p ≡ length script.phases + 1 = omega (arith, number, many) in
    subst (λ (q : ℕ). Reached script (IsBetween script q first) x) last r
phases-told script k p first (spec ∷ specs) x number many same r =
    let none : k + 0 ≡ k = omega arith in
    let here : slice_get script.phases k ≡ Some spec = ap (λ (i : ℕ). slice_get script.phases i) (sym none) ∙ same 0 in
    let is : phase_of script p ≡ spec = phase-at script k p spec number here in
    let stands = r.holds.phase in
    let left : phase_left script r.here ≡ true = or-left (nat_lt r.here.phase (length script.phases)) _ (lt-test r.here.phase (length script.phases) (omega (arith, number, many, stands))) in
    let next : Reached script (IsBetween script (p + 1) (length x.world.envelopes)) (tell_phase p first spec.directives spec.now x) =
    subst (λ (s : PhaseSpec). Reached script (IsBetween script (p + 1) (length x.world.envelopes)) (tell_phase p first s.directives s.now x)) is (phase-next script p first x r left) in
    phases-told script (k + 1) (p + 1) (length x.world.envelopes) specs (tell_phase p first spec.directives spec.now x) (omega (arith, number)) (omega (arith, many))
    (λ i. let on : k + suc i ≡ k + 1 + i = omega arith in ap (λ (j : ℕ). slice_get script.phases j) (sym on) ∙ same (suc i)) next

-- ---- the end

record IsEnded (script : Script) (y : Progress) : Type 0 where
  complete : is_phase_complete y ≡ true
  ended : phase_left script y ≡ false

nothing-left : (script : Script) (y : Progress) → length script.phases ≤ y.phase → (script.settle && not (all_settled y.world) && nat_lt (y.phase - length script.phases) (quiet_limit script.plan)) ≡ false → phase_left script y ≡ false
nothing-left script y h e = rw (not-less y.phase (length script.phases) h) e

-- ---- the quiet phases

quiet-told : (script : Script) (most q p first now : ℕ) (x : Told) → script.settle ≡ true → p ≡ length script.phases + 1 + q → now ≡ last_clock script + (p - length script.phases) → most + q ≡ quiet_limit script.plan →
    Reached script (IsBetween script p first) x → Reached script (IsEnded script) (tell_quiet most p first now x)
quiet-told script zero q p first now x settles number clock limit r =
    let stands = r.holds.phase in
    let last : nat_lt (r.here.phase - length script.phases) (quiet_limit script.plan) ≡ false = not-less (r.here.phase - length script.phases) (quiet_limit script.plan) (omega (arith, stands, number, limit)) in
    record {
      here = r.here;
      is_told = r.is_told;
      follows = r.follows;
      holds = record { complete = r.holds.complete; ended = nothing-left script r.here (omega (arith, stands, number)) (and-false (script.settle && not (all_settled r.here.world)) _ last) };
    }
quiet-told script (suc most) q p first now x settles number clock limit r =
    (elim (all_settled x.world) as (λ b. all_settled x.world ≡ b →
    Reached script (IsEnded script) (elim b [ true ↦ x | false ↦ tell_quiet most (p + 1) (length x.world.envelopes) (now + 1) (tell_phase p first [] now x) ])) [
      | true ↦ λ e.
          let calm : all_settled r.here.world ≡ true = ap (λ (z : Told). all_settled z.world) (sym r.is_told) ∙ e in
          record {
            here = r.here;
            is_told = r.is_told;
            follows = r.follows;
            holds = record { complete = r.holds.complete; ended = nothing-left script r.here (omega (arith, stands, number)) (rw (settles, calm) refl) };
          }
      | false ↦ λ e.
          let open_yet : all_settled r.here.world ≡ false = ap (λ (z : Told). all_settled z.world) (sym r.is_told) ∙ e in
          let few : nat_lt (r.here.phase - length script.phases) (quiet_limit script.plan) ≡ true = lt-test (r.here.phase - length script.phases) (quiet_limit script.plan) (omega (arith, stands, number, limit)) in
          let left : phase_left script r.here ≡ true =
          or-right (nat_lt r.here.phase (length script.phases)) _ (both-of (script.settle && not (all_settled r.here.world)) _ (both-of script.settle _ settles (rw open_yet refl)) few) in
          let next : Reached script (IsBetween script (p + 1) (length x.world.envelopes)) (tell_phase p first [] now x) =
          subst (λ (s : PhaseSpec). Reached script (IsBetween script (p + 1) (length x.world.envelopes)) (tell_phase p first s.directives s.now x)) is (phase-next script p first x r left) in
          quiet-told script most (q + 1) (p + 1) (length x.world.envelopes) (now + 1) (tell_phase p first [] now x) settles (omega (arith, number)) (omega (arith, clock, number)) (omega (arith, limit)) next
    ]) refl
  where
    stands : r.here.phase + 1 ≡ p
    stands = r.holds.phase

    is : phase_of script p ≡ record { directives = []; now = now }
    is =
        let behind : length script.phases ≤ p - 1 = omega (arith, number) in
        rw (slice_get_past script.phases (p - 1) behind) (ap (λ (n : ℕ). record { directives = []; now = n }) (sym clock))

-- ---- the whole

lockstep-reached : (script : Script) → Reached script (IsEnded script) (lockstep script)
unfolding lockstep
lockstep-reached script =
    (elim script.settle as (λ b. script.settle ≡ b → Reached script (IsEnded script) (cond b (tell_quiet (quiet_limit script.plan) (length script.phases + 1) told.0 (last_clock script + 1) told.1) told.1)) [
      | true ↦ λ e.
          let one : last_clock script + 1 ≡ last_clock script + (length script.phases + 1 - length script.phases) = omega arith in
          quiet-told script (quiet_limit script.plan) 0 (length script.phases + 1) told.0 (last_clock script + 1) told.1 e (omega arith) one (omega arith) all
      | false ↦ λ e.
          let stands = all.holds.phase in
          record {
            here = all.here;
            is_told = all.is_told;
            follows = all.follows;
            holds = record { complete = all.holds.complete; ended = nothing-left script all.here (omega (arith, stands)) (rw e refl) };
          }
    ]) refl
  where
    told : ℕ × Told
    told = tell_phases 1 0 script.phases (record { world = new_world script.plan; events = [] })

    all : Reached script (IsBetween script (length script.phases + 1) told.0) told.1
    all =
        phases-told script 0 1 0 script.phases (record { world = new_world script.plan; events = [] }) refl (omega arith) (λ i. let none : 0 + i ≡ i = omega arith in ap (λ (j : ℕ). slice_get script.phases j) none)
        (reached script (IsBetween script 1 0) (first_progress script) [] (record { come = refl; live = refl }) (opening-between script))

pub lock-live : (script : Script) → is_live script (lockstep_journal script) ≡ true
unfolding lockstep_journal is_live is_live_so_far progress
lock-live script =
    let r = lockstep-reached script in
    let f = r.follows in
    let complete : is_phase_complete (progress_from script (first_progress script) (reverse (lockstep script).events)) ≡ true = ap (λ (y : Progress). is_phase_complete y) f.come ∙ r.holds.complete in
    let ended : phase_left script (progress_from script (first_progress script) (reverse (lockstep script).events)) ≡ false = ap (λ (y : Progress). phase_left script y) f.come ∙ r.holds.ended in
    both-of _ _ (both-of _ _ f.live complete) (rw ended refl)

pub progress-world : (script : Script) (x : Progress) (es : List Event) → (progress_from script x es).world ≡ run_from x.world es
progress-world script x [] = refl
progress-world script x (e ∷ es) = progress-world script (next_progress script x e) es

pub lock-world : (script : Script) → (lockstep script).world ≡ run script.plan (lockstep_journal script)
unfolding lockstep_journal run
lock-world script =
    let r = lockstep-reached script in
    ap (λ (z : Told). z.world) r.is_told ∙ ap (λ (y : Progress). y.world) (sym r.follows.come) ∙ progress-world script (first_progress script) (reverse (lockstep script).events)
