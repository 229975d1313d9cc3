-- What is seen at each point of a calm live run past the script's phases.
use Rattle.std.proofs.Common.{◌≡◌, ℕ, ◌+◌, ◌<◌, ◌≤◌, true, List, [], ◌∷◌, ◌++◌, length, sym, ap, subst, ◌∙◌, arith, Some, slice_get}
use Rattle.dpc_model.specs.Actors.{role_of}
use Rattle.dpc_model.specs.Ports.{Port}
use Rattle.dpc_model.specs.Replicas.{Watch}
use Rattle.dpc_model.specs.declared.actors.Role.TheVariants.{Node as IsNode}
use Rattle.dpc_model.specs.declared.messages.Event.{Event}
use Rattle.dpc_model.specs.declared.plans.Plan.{Plan}
use Rattle.dpc_model.specs.declared.scripts.Script.{Script}
use Rattle.node_model.specs.Nodes.{PlainNode}
use Rattle.world_model.specs.Worlds.{World, node_place, slot_of, happens, run_from, run, new_world}
use Rattle.world_model.specs.Schedules.{Progress, first_progress, next_progress, progress, is_live_so_far, settling_phases}
use Rattle.world_model.specs.Steady.{NoneRecovers, phase_at, OpensWell}
use Rattle.world_model.proofs.Running.{first-phase}
use Rattle.law_granting.specs.Taken.{port_of}
use Rattle.law_schedules.proofs.Journals.{prefix-live, phases-counted, progress-run}
use Rattle.law_readers.specs.Settling.{CanSettle}
use Rattle.law_readers.proofs.Known.{run-clients}
use Rattle.law_settling.proofs.Along.{every-prefix, progress-push, running-along, phase_after, next-at, phase-from}
use Rattle.law_settling.specs.Rests.{RestsPast}
use Rattle.law_settling.proofs.Steadily.{calm-at}
use Rattle.law_settling.proofs.Promises.{open-of}
use Rattle.law_settling_readers.proofs.Laws.{known-below}
use Rattle.law_settling_readers.proofs.Reading.{replica_at, replicas_in, IsReader}
use Rattle.law_lockstep.specs.Calm.{CalmFrom, IsCalm}
use Rattle.law_lockstep.proofs.Hearing.{IsSeen}

-- ---- no node recovers

calm-from : (script : Script) (p : ℕ) (w : World) (done rest : List Event) (e : Event) → CalmFrom script p w (done ++ e ∷ rest) → length script.phases + settling_phases < phase_at (phase_after p done) e → NoneRecovers (happens (run_from w done) e).nodes
calm-from script p w [] rest e h far = h.0 far
calm-from script p w (d ∷ done) rest e h far = calm-from script (phase_at p d) (happens w d) done rest e h.1 far

calm-event : (script : Script) (events done rest : List Event) (e : Event) → IsCalm script events → events ≡ done ++ e ∷ rest → length script.phases + settling_phases < (next_progress script (progress script done) e).phase → NoneRecovers (happens (run script.plan done) e).nodes
unfolding run progress
calm-event script events done rest e calm is far =
    let phase : (next_progress script (progress script done) e).phase ≡ phase_at (phase_after 0 done) e = next-at script (progress script done) e ∙ ap (λ (n : ℕ). phase_at n e) (phase-from script (first_progress script) done) in
    calm-from script 0 (new_world script.plan) done rest e (subst (λ (es : List Event). CalmFrom script 0 (new_world script.plan) es) is calm) (omega (arith, far, phase))

-- past the first quiet phases
pub calm-along : (script : Script) (events : List Event) → IsCalm script events → (done rest : List Event) → events ≡ done ++ rest → length script.phases + settling_phases < (progress script done).phase → NoneRecovers (progress script done).world.nodes
calm-along script events calm done rest is =
    every-prefix events (λ (es : List Event). length script.phases + settling_phases < (progress script es).phase → NoneRecovers (progress script es).world.nodes) (λ far. let none = first-phase script in absurd (omega (arith, far, none)))
    (λ before after e at h far.
    let push = progress-push script before e in
    let here = calm-event script events before after e calm at (subst (λ (y : Progress). length script.phases + settling_phases < y.phase) push far) in
    subst (λ (y : Progress). NoneRecovers y.world.nodes) (sym push) (subst (λ (w : World). NoneRecovers (happens w e).nodes) (sym (progress-run script before)) here)) done rest is

-- so each actor
pub calm-rests : (script : Script) (events : List Event) → is_live_so_far script events ≡ true → IsCalm script events → (a : ℕ) → RestsPast script events a (length script.phases + settling_phases)
calm-rests script events live calm a done more is far f r n role up =
    let counted = phases-counted script done (prefix-live script done more (subst (λ (es : List Event). is_live_so_far script es ≡ true) is live)) in
    let w = run script.plan done in
    calm-at w.nodes (node_place w.plan a) n (subst (λ (v : World). NoneRecovers v.nodes) (progress-run script done) (calm-along script events calm done more is (omega (arith, far, counted)))) up

-- ---- what a port knows of a replica

-- is of no later incarnation
abbrev KnowsBelow : Plan → World → ℕ → ℕ → ℕ → Type 0
KnowsBelow plan w x p f =
    (q : Port) (i r : ℕ) (v : Watch) (n : PlainNode) → port_of w x p ≡ Some q → i < replicas_in plan f → role_of plan (replica_at plan f i) ≡ IsNode f r → (slot_of w (replica_at plan f i)).node ≡ Some n → slice_get q.watches i ≡ Some v → v.inc ≤ n.grants.inc

-- ---- every state past the script's phases

pub seen-along : (script : Script) (events : List Event) (x p f k : ℕ) → CanSettle script → IsReader script.plan x p f k → is_live_so_far script events ≡ true → OpensWell script events → (done rest : List Event) → events ≡ done ++ rest → length script.phases < (progress script done).phase → IsSeen script x p f k (progress script done)
seen-along script events x p f k can line live well done rest is far =
    let plan = script.plan in
    let z = progress script done in
    let here = open-of script can z (running-along script events live well done rest is far) in
    let world = sym (progress-run script done) in
    let plans = sym here.of_plan in
    record {
      here = here;
      line = subst (λ (pl : Plan). IsReader pl x p f k) plans line;
      many = subst (λ (w : World). length w.clients ≡ length plan.clients) world (run-clients plan done) ∙ ap (λ (pl : Plan). length pl.clients) plans;
      below = subst (λ (pl : Plan). KnowsBelow pl z.world x p f) plans (subst (λ (w : World). KnowsBelow plan w x p f) world (λ q i r v n. known-below plan done x p f k i r q v n can.plan line));
    }
