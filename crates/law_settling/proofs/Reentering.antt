-- Along a live run: of the replicas with whole inputs that are UP_FAILURE one enters within so many phases.
use Rattle.std.proofs.Common.{◌≡◌, ℕ, ◌+◌, ◌*◌, ◌<◌, ◌≤◌, true, List, [], ◌∷◌, ◌++◌, length, refl, sym, ap, subst, ◌∙◌, arith, ◌⊎◌, inl, inr}
use Rattle.std.proofs.lemmas.List.{append_assoc, length-append}
use Rattle.dpc_model.specs.Actors.{role_of}
use Rattle.dpc_model.specs.NodeStates.{is_up_failure}
use Rattle.dpc_model.specs.declared.actors.Role.TheVariants.{Node as IsNode}
use Rattle.dpc_model.specs.declared.messages.Event.{Event}
use Rattle.dpc_model.specs.declared.plans.Plan.{Plan}
use Rattle.dpc_model.specs.declared.scripts.Script.{Script}
use Rattle.node_model.specs.Nodes.{PlainNode}
use Rattle.world_model.specs.Worlds.{World, home_of, slot_of, run}
use Rattle.world_model.specs.Schedules.{Progress, next_progress, progress, is_live_so_far, settling_phases}
use Rattle.world_model.specs.Steady.{OpensWell}
use Rattle.law_safety.proofs.Growing.{run-plan}
use Rattle.law_granting.specs.Asking.{AreAsksInOrder}
use Rattle.law_granting.proofs.Running.{run-order}
use Rattle.law_readers.specs.Settling.{CanSettle}
use Rattle.law_schedules.proofs.Journals.{live-far, prefix-live, phases-counted, progress-run}
use Rattle.law_settling.specs.Rests.{AllRestPast}
use Rattle.law_settling.specs.Finished.{IsFinished}
use Rattle.law_settling.specs.Entered.{IsReplicaOf, AreWhole, AreFailingOrDone, OversAreKnown, OneRestingEnters, OneEnters}
use Rattle.law_settling.proofs.Splitting.{in-quiet, quiet-goes}
use Rattle.law_settling.proofs.Journeys.{IsUnder, under-phase, under-next, under-first, end-under}
use Rattle.law_settling.proofs.Along.{every-behind, progress-push, live-may, running-along}
use Rattle.law_settling.proofs.Steadily.{rests-along, steady-all-rest}
use Rattle.law_settling.proofs.Promises.{open-of}
use Rattle.law_settling.proofs.Fellows.{many_replicas}
use Rattle.law_settling.proofs.Replicas.{number-low}
use Rattle.law_settling.proofs.Numbered.{run-numbered}
use Rattle.law_settling.proofs.Moving.{IsReplica, IsWorking}
use Rattle.law_settling.proofs.Resting.{IsSorted, IsResting, HasEntered, entered-kept, resting-next}
use Rattle.law_settling.proofs.Enters.{EntersIn, enters-journey, enters-first, at-end}

-- it was UP_FAILURE in that world
pub record WasFailing (plan : Plan) (v : World) (f a : ℕ) : Type 0 where
  pub number : ℕ
  pub node : PlainNode
  pub was : IsReplicaOf plan v f a number node
  pub failed : is_up_failure node.state ≡ true

module _ (script : Script) (events before : List Event) (f : ℕ) (can : CanSettle script) (live : is_live_so_far script events ≡ true) (well : OpensWell script events) (floor : ℕ) (past_floor : length script.phases < floor) (rests : AllRestPast script events f floor)
    (wholes : (done more : List Event) → events ≡ done ++ more → length before ≤ length done → AreWhole script.plan (run script.plan done) f) where
  pub replica-there : (done : List Event) (b q : ℕ) (n : PlainNode) → IsReplica script f (progress script done) b q n → IsReplicaOf script.plan (run script.plan done) f b q n
  replica-there done b q n at = record { role = at.role; up = ap (λ (w : World). (slot_of w b).node) (sym (progress-run script done)) ∙ at.up }

  pub replica-back : (done : List Event) (b q : ℕ) (n : PlainNode) → IsReplicaOf script.plan (run script.plan done) f b q n → IsReplica script f (progress script done) b q n
  replica-back done b q n at = record { role = at.role; up = ap (λ (w : World). (slot_of w b).node) (progress-run script done) ∙ at.up }

  -- every state behind
  pub working-along : (done rest : List Event) → events ≡ done ++ rest → length before ≤ length done → floor < (progress script done).phase → IsWorking script f (progress script done)
  working-along done rest is long far =
      let plan = run-plan script.plan done in
      let opens = open-of script can (progress script done) (running-along script events live well done rest is (omega (arith, past_floor, far))) in
      record {
        here = opens;
        calm = λ b q n at. rests-along script events b floor live (rests b q at.role) done rest is far f q n (ap (λ (pl : Plan). role_of pl b) opens.of_plan ∙ at.role) at.up;
        order = subst AreAsksInOrder (sym (progress-run script done)) (run-order script.plan done can.plan);
        whole = λ b q n at. wholes done rest is long b q n (replica-there done b q n at);
        numbered = λ b q n p at promised.
            let there = replica-there done b q n at in
            let low = run-numbered script.plan done can.plan b f q n p (ap (λ (pl : Plan). role_of pl b) plan ∙ at.role) there.up promised in
            let same = ap (λ (pl : Plan). many_replicas pl f) plan in
            omega (arith, low, same);
      }

  abbrev Was : ℕ → Type 0
  Was a = WasFailing script.plan (run script.plan before) f a

  -- it begins at rest
  rests-first : AreFailingOrDone script.plan (run script.plan before) f → OversAreKnown script.plan (run script.plan before) f → IsResting script f Was (progress script before)
  rests-first sorted known =
      record {
        sorted = λ b q n at. let there = replica-there before b q n at in by-sort b q n there (sorted b q n there);
        known = λ b q n c r m at there apart. known b q n c r m (replica-there before b q n at) (replica-there before c r m there) apart;
      }
    where
      by-sort : (b q : ℕ) (n : PlainNode) → IsReplicaOf script.plan (run script.plan before) f b q n → (is_up_failure n.state ≡ true) ⊎ IsFinished (home_of script.plan (f, q)) n → IsSorted script Was b n
      by-sort b q n at (inl failed) = inl (record { number = q; node = n; was = at; failed = failed }, failed)
      by-sort b q n at (inr done) = let cursor = done.cursor in inr (omega (arith, cursor))

  module _ (b0 q0 : ℕ) (role_0 : role_of script.plan b0 ≡ IsNode f q0) (was : Was b0) (base : ℕ) (past : floor < base) where
    low_0 : q0 < many_replicas script.plan f
    low_0 = number-low script.plan b0 f q0 q0 role_0

    abbrev top : ℕ
    top = 3 * many_replicas script.plan f + 3

    abbrev Under : Progress → Type 0
    Under z = IsUnder script (IsWorking script f) (EntersIn script f Was) top base (base + top) z

    abbrev AtFirst : Progress → Type 0
    AtFirst z = (z.phase ≡ base) × (IsResting script f Was z ⊎ HasEntered script f Was z)

    abbrev Inv : List Event → Type 0
    Inv done = (length before ≤ length done) × (AtFirst (progress script done) ⊎ Under (progress script done))

    inv-next : (done rest : List Event) (e : Event) → events ≡ done ++ e ∷ rest → Inv done → Inv (done ++ e ∷ [])
    inv-next done rest e is h =
        let z = progress script done in
        let push = progress-push script done e in
        let follows = live-may script events done rest e live is in
        let later : events ≡ (done ++ e ∷ []) ++ rest = is ∙ sym (append_assoc done (e ∷ []) rest) in
        let long = h.0 in
        let count = length-append done (e ∷ []) in
        let longer : length before ≤ length (done ++ e ∷ []) = omega (arith, long, count) in
        let next_good : floor < (next_progress script z e).phase → IsWorking script f (next_progress script z e) =
        (λ (far : floor < (next_progress script z e).phase). subst (IsWorking script f) push (working-along (done ++ e ∷ []) rest later longer (subst (λ (y : Progress). floor < y.phase) (sym push) far))) in
        let goal : AtFirst (next_progress script z e) ⊎ Under (next_progress script z e) =
        elim h.1 [
          | inl at ↦
              let exact = at.0 in
              let here = working-along done (e ∷ rest) is long (omega (arith, exact, past)) in
              elim (in-quiet script z e here.here.at follows) [
                | inl quiet ↦
                    let same = (quiet-goes script z e quiet here.here.at).1 in
                    let good = next_good (omega (arith, same, exact, past)) in
                    inl (
                      same ∙ exact,
                      elim at.1 [
                        | inl rest ↦ resting-next script f Was z e (record { quiet = quiet; may = follows; here = here; next = good }) rest
                        | inr out ↦ inr (entered-kept script f Was z e (record { quiet = quiet; may = follows; here = here; next = good }) out)
                      ],
                    )
                | inr o ↦
                    let next : (next_progress script z e).phase ≡ z.phase + 1 = ap (λ (d : Event). (next_progress script z d).phase) o.0 in
                    let good = next_good (omega (arith, next, exact, past)) in
                    let stage : EntersIn script f Was top z = elim at.1 [ inl rest ↦ enters-first script f Was b0 q0 role_0 was low_0 z rest | inr out ↦ inl out ] in
                    inr (under-first script (IsWorking script f) (EntersIn script f Was) top base (base + top) z e o here.here.at (omega (arith, exact)) (omega (arith, exact)) stage good)
              ]
          | inr u ↦
              let phase = under-phase script (IsWorking script f) (EntersIn script f Was) top base (base + top) z u in
              let low = u.past in
              let here = working-along done (e ∷ rest) is long (omega (arith, phase, low, past)) in
              let grows : z.phase ≤ (next_progress script z e).phase = elim (in-quiet script z e here.here.at follows) [
                | inl quiet ↦ let same = (quiet-goes script z e quiet here.here.at).1 in omega (arith, same)
                | inr o ↦ let next : (next_progress script z e).phase ≡ z.phase + 1 = ap (λ (d : Event). (next_progress script z d).phase) o.0 in omega (arith, next)
              ] in
              inr (under-next script (IsWorking script f) (EntersIn script f Was) top base (base + top) z e (enters-journey script f Was b0 q0 role_0 was low_0 top) u follows (next_good (omega (arith, grows, phase, low, past))))
        ] in
        (longer, subst (λ (y : Progress). AtFirst y ⊎ Under y) (sym push) goal)

    entered-late : (mid rest : List Event) → events ≡ before ++ (mid ++ rest) → (progress script before).phase ≡ base → IsResting script f Was (progress script before) → base + (3 * many_replicas script.plan f + 4) ≤ (progress script (before ++ mid)).phase → HasEntered script f Was (progress script (before ++ mid))
    entered-late mid rest is exact first far =
        elim (every-behind events before Inv (omega arith, inl (exact, inl first)) inv-next mid rest is).1 [
          | inl at ↦ let same = at.0 in absurd (omega (arith, same, far))
          | inr u ↦
              let phase = under-phase script (IsWorking script f) (EntersIn script f Was) top base (base + top) (progress script (before ++ mid)) u in
              let count = u.count in
              at-end script f Was b0 q0 role_0 was low_0 (progress script (before ++ mid)) (end-under script (IsWorking script f) (EntersIn script f Was) top base (base + top) (progress script (before ++ mid)) (enters-journey script f Was b0 q0 role_0 was low_0 top) u (omega (arith, count, phase, far)))
        ]

pub one-resting-enters : (script : Script) (events : List Event) → OneRestingEnters script events
one-resting-enters script events can live well before mid rest f floor is past_floor rests late far wholes sorted known a r n at failed =
    let whole : events ≡ (before ++ mid) ++ rest = is ∙ sym (append_assoc before mid rest) in
    let count = phases-counted script before (prefix-live script before (mid ++ rest) (subst (λ (es : List Event). is_live_so_far script es ≡ true) is live)) in
    let count_late = phases-counted script (before ++ mid) (prefix-live script (before ++ mid) rest (subst (λ (es : List Event). is_live_so_far script es ≡ true) whole live)) in
    let out = entered-late script events before f can live well floor past_floor rests wholes a r at.role (record { number = r; node = n; was = at; failed = failed }) (progress script before).phase (omega (arith, count, late)) mid rest is refl (rests-first script events before f can live well floor past_floor rests wholes sorted known) (omega (arith, count, count_late, far)) in
    let there = replica-there script events before f can live well floor past_floor rests wholes (before ++ mid) out.actor out.number out.node out.replica in
    let number : out.was.number ≡ out.number = number-of (sym out.was.was.role ∙ there.role) in
    record {
      actor = out.actor;
      number = out.number;
      old = out.was.node;
      new = out.node;
      was = subst (λ (q : ℕ). IsReplicaOf script.plan (run script.plan before) f out.actor q out.was.node) number out.was.was;
      failed = out.was.failed;
      is = there;
      fine = out.fine;
    }
  where
    number-of : {q s : ℕ} → IsNode f q ≡ IsNode f s → q ≡ s
    number-of e = cc

pub one-enters : (script : Script) (events : List Event) → OneEnters script events
one-enters script events can live well steady before mid rest f is late far wholes sorted known =
    let so_far = live-far script events live in
    one-resting-enters script events can so_far well before mid rest f (length script.phases + settling_phases) is (omega arith) (steady-all-rest script events so_far steady f) late far wholes sorted known
