-- Along a live run in which a replica does not recover: with whole inputs it finishes within a phase, for good.
use Rattle.std.proofs.Common.{◌≡◌, ℕ, ◌+◌, ◌<◌, true, false, List, [], ◌∷◌, ◌++◌, length, sym, ap, subst, ◌∙◌, arith, Some, inl, inr}
use Rattle.std.proofs.lemmas.List.{append_assoc}
use Rattle.dpc_lists.specs.Lists.{list_all}
use Rattle.dpc_model.specs.Actors.{role_of}
use Rattle.dpc_model.specs.NodeStates.{is_up_failure}
use Rattle.dpc_model.specs.declared.actors.Role.TheVariants.{Node as IsNode}
use Rattle.dpc_model.specs.declared.messages.Event.{Event}
use Rattle.dpc_model.specs.declared.messages.Event.TheVariants.{Phase}
use Rattle.dpc_model.specs.declared.plans.Plan.{Plan}
use Rattle.dpc_model.specs.declared.scripts.Script.{Script}
use Rattle.node_model.specs.Nodes.{PlainNode, buckets_of, ready}
use Rattle.world_model.specs.Worlds.{World, home_of, slot_of, run}
use Rattle.world_model.specs.Schedules.{Progress, next_progress, progress_from, progress, may_follow, follows_from, is_live_so_far, settling_phases}
use Rattle.world_model.specs.Steady.{OpensWell}
use Rattle.dpc_lists.proofs.Truths.{both}
use Rattle.dpc_model.proofs.Alike.{phase-is}
use Rattle.world_model.proofs.Running.{follows-part}
use Rattle.law_safety.proofs.Worlding.{actor-at}
use Rattle.law_safety.proofs.Happening.{node-here}
use Rattle.law_safety.proofs.Frames.{IsGood as IsGoodNode}
use Rattle.law_granting.specs.Asking.{AsksInOrder}
use Rattle.law_granting.proofs.Running.{run-order}
use Rattle.law_readers.specs.Settling.{CanSettle}
use Rattle.law_schedules.proofs.Journals.{live-far, progress-run}
use Rattle.world_model.specs.Events.{is_quiet}
use Rattle.law_safety.proofs.Growing.{run-plan}
use Rattle.law_settling.specs.Phased.{opened}
use Rattle.law_settling.specs.Rests.{RestsPast}
use Rattle.law_settling.specs.Finished.{has_whole_inputs, FinishedAt, RestingReplicaFinishes, WholeReplicasFinish}
use Rattle.law_settling.proofs.Splitting.{IsQuietAt, opens, in-quiet, quiet-goes}
use Rattle.law_settling.proofs.Rules.{GoodThrough}
use Rattle.law_settling.proofs.Journeys.{IsStep, through-phase, opened-at}
use Rattle.law_settling.proofs.Along.{every-behind, progress-push, live-may, running-along}
use Rattle.law_settling.proofs.Steadily.{rests-along, steady-rests}
use Rattle.law_settling.proofs.Promises.{open-of}
use Rattle.law_settling.proofs.Deliveries.{progress-parts, live-part}
use Rattle.law_settling.proofs.Finishing.{ready-all, finished-of}
use Rattle.law_settling.proofs.Targets.{IsCalmAt, IsPast, has_target, target-opened, target-met, past-kept}

module _ (script : Script) (events : List Event) (can : CanSettle script) (live : is_live_so_far script events ≡ true) (well : OpensWell script events) (a floor : ℕ) (past : length script.phases < floor) (rests : RestsPast script events a floor) where
  -- every state past that phase
  calm-along : (done rest : List Event) → events ≡ done ++ rest → floor < (progress script done).phase → IsCalmAt script a (progress script done)
  calm-along done rest is far =
      record { here = open-of script can (progress script done) (running-along script events live well done rest is (omega (arith, past, far))); calm = rests-along script events a floor live rests done rest is far }

  -- and those of a phase
  calm-through : (done es rest : List Event) → events ≡ done ++ (es ++ rest) → floor < (progress script done).phase → list_all is_quiet es ≡ true → GoodThrough script (IsCalmAt script a) (progress script done) es
  calm-through done [] rest is far quiet = calm-along done rest is far
  calm-through done (e ∷ es) rest is far quiet =
      let q = both (is_quiet e) (list_all is_quiet es) quiet in
      let here = calm-along done (e ∷ (es ++ rest)) is far in
      let push = progress-push script done e in
      let same = (quiet-goes script (progress script done) e q.0 here.here.at).1 in
      let phase : (progress script (done ++ e ∷ [])).phase ≡ (progress script done).phase = ap (λ (y : Progress). y.phase) push ∙ same in
      let later : events ≡ (done ++ e ∷ []) ++ (es ++ rest) = is ∙ sym (append_assoc done (e ∷ []) (es ++ rest)) in
      (here, subst (λ (y : Progress). GoodThrough script (IsCalmAt script a) y es) push (calm-through (done ++ e ∷ []) es rest later (omega (arith, far, phase)) q.1))

  -- a phase of the journal behind a complete one
  step-at : (before here rest : List Event) (p q : ℕ) → events ≡ before ++ (Phase p ∷ (here ++ Phase q ∷ rest)) → floor < p → list_all is_quiet here ≡ true →
      IsStep script (IsCalmAt script a) (progress script before) here × (progress script (before ++ Phase p ∷ []) ≡ opened script (progress script before)) × ((progress script before).phase + 1 ≡ p)
  step-at before here rest p q is far quiet =
      let x = progress script before in
      let o = opens script x p (live-may script events before (here ++ Phase q ∷ rest) (Phase p) live is) in
      let number = phase-is o.0 in
      let running = running-along script events live well before (Phase p ∷ (here ++ Phase q ∷ rest)) is (omega (arith, number, far, past)) in
      let later : events ≡ (before ++ Phase p ∷ []) ++ (here ++ Phase q ∷ rest) = is ∙ sym (append_assoc before (Phase p ∷ []) (here ++ Phase q ∷ rest)) in
      let y_is : progress script (before ++ Phase p ∷ []) ≡ opened script x = progress-push script before (Phase p) ∙ ap (λ (n : ℕ). next_progress script x (Phase n)) number in
      let phase_y : (progress script (before ++ Phase p ∷ [])).phase ≡ p = ap (λ (y : Progress). y.phase) y_is ∙ sym number in
      let follows : follows_from script (opened script x) (here ++ Phase q ∷ rest) ≡ true = subst (λ (y : Progress). follows_from script y (here ++ Phase q ∷ rest) ≡ true) y_is (live-part script (before ++ Phase p ∷ []) (here ++ Phase q ∷ rest) (subst (λ (es : List Event). is_live_so_far script es ≡ true) later live)) in
      let parts = follows-part script (opened script x) here (Phase q ∷ rest) follows in
      let z = progress_from script (opened script x) here in
      let next = both (may_follow script z (Phase q)) (follows_from script (next_progress script z (Phase q)) rest) parts.1 in
      let good = calm-through (before ++ Phase p ∷ []) here (Phase q ∷ rest) later (omega (arith, phase_y, far)) quiet in (
        record {
          at = running.standing.at;
          complete = o.1;
          phase = record {
            full = record { quiet = quiet; follows = parts.0; complete = (opens script z q next.0).1 };
            good = subst (λ (y : Progress). GoodThrough script (IsCalmAt script a) y here) y_is good;
          };
        },
        y_is,
        sym number,
      )

  module _ (f r : ℕ) (role_a : role_of script.plan a ≡ IsNode f r) where
    abbrev Inv : List Event → Type 0
    Inv done = (floor < (progress script done).phase) × IsPast a (buckets_of script.plan) (progress script done)

    inv-next : (done rest : List Event) (e : Event) → events ≡ done ++ e ∷ rest → Inv done → Inv (done ++ e ∷ [])
    inv-next done rest e is h =
        let z = progress script done in
        let far = h.0 in
        let push = progress-push script done e in
        let follows = live-may script events done rest e live is in
        let here = calm-along done (e ∷ rest) is far in
        let later : events ≡ (done ++ e ∷ []) ++ rest = is ∙ sym (append_assoc done (e ∷ []) rest) in
        subst (λ (y : Progress). (floor < y.phase) × IsPast a (buckets_of script.plan) y) (sym push) (elim (in-quiet script z e here.here.at follows) [
          | inl quiet ↦
              let same = (quiet-goes script z e quiet here.here.at).1 in
              let more : floor < (next_progress script z e).phase = omega (arith, same, far) in
              let next = subst (IsCalmAt script a) push (calm-along (done ++ e ∷ []) rest later (subst (λ (y : Progress). floor < y.phase) (sym push) more)) in
              (more, past-kept script a f r role_a (buckets_of script.plan) z e (record { quiet = quiet; may = follows; here = here; next = next }) h.1)
          | inr o ↦
              let at : (floor < (opened script z).phase) × IsPast a (buckets_of script.plan) (opened script z) = (omega (arith, far), record { node = h.1.node; up = h.1.up; past = h.1.past }) in
              subst (λ (d : Event). (floor < (next_progress script z d).phase) × IsPast a (buckets_of script.plan) (next_progress script z d)) (sym o.0) at
        ])

    -- who has whole inputs is past its last bucket at the end of the phase
    past-first : (before here rest : List Event) (p q : ℕ) → events ≡ before ++ (Phase p ∷ (here ++ Phase q ∷ rest)) → floor < p → list_all is_quiet here ≡ true →
        (n : PlainNode) → (slot_of (run script.plan before) a).node ≡ Some n → has_whole_inputs script.plan n ≡ true → is_up_failure n.state ≡ false → Inv ((before ++ Phase p ∷ []) ++ here)
    past-first before here rest p q is far quiet n up whole fine =
        let x = progress script before in
        let s = step-at before here rest p q is far quiet in
        let number = s.2 in
        let open_x = open-of script can x (running-along script events live well before (Phase p ∷ (here ++ Phase q ∷ rest)) is (omega (arith, number, far, past))) in
        let later : events ≡ (before ++ Phase p ∷ []) ++ (here ++ Phase q ∷ rest) = is ∙ sym (append_assoc before (Phase p ∷ []) (here ++ Phase q ∷ rest)) in
        let phase_y : (progress script (before ++ Phase p ∷ [])).phase ≡ p = ap (λ (y : Progress). y.phase) s.1 ∙ number in
        let calm_y = subst (IsCalmAt script a) s.1 (calm-along (before ++ Phase p ∷ []) (here ++ Phase q ∷ rest) later (omega (arith, phase_y, far))) in
        let w = x.world in
        let home = home_of w.plan (f, r) in
        let role : role_of w.plan a ≡ IsNode f r = ap (λ (pl : Plan). role_of pl a) open_x.of_plan ∙ role_a in
        let up_x : (slot_of w a).node ≡ Some n = ap (λ (v : World). (slot_of v a).node) (progress-run script before) ∙ up in
        let still = calm_y.calm f r n role up_x in
        let whole_x : has_whole_inputs w.plan n ≡ true = ap (λ (pl : Plan). has_whole_inputs pl n) open_x.of_plan ∙ whole in
        let place = (actor-at w.plan a f r open_x.fine.checked role).place in
        let goal : n.cursor + ready home n ≡ buckets_of script.plan = ready-all home open_x.most n place (node-here w open_x.most a f r n open_x.fine role up_x) still whole_x fine ∙ ap (λ (pl : Plan). buckets_of pl) open_x.of_plan in
        let target = target-opened script a f r role_a x n open_x calm_y up_x in
        let met = target-met script a f r role_a (buckets_of script.plan) x here s.0 (subst (λ (g : ℕ). has_target a g (opened script x).targets ≡ true) goal target) in
        let z_is : progress script ((before ++ Phase p ∷ []) ++ here) ≡ progress_from script (opened script x) here = progress-parts script (before ++ Phase p ∷ []) here ∙ ap (λ (y : Progress). progress_from script y here) s.1 in
        subst (λ (y : Progress). (floor < y.phase) × IsPast a (buckets_of script.plan) y) (sym z_is) (late x here s.0.at quiet (omega (arith, number, far)), met)
      where
        late : (x : Progress) (es : List Event) → IsQuietAt script x → list_all is_quiet es ≡ true → floor < x.phase + 1 → floor < (progress_from script (opened script x) es).phase
        late x es at quiet far = let same = through-phase script (opened script x) es quiet (opened-at script x at) in omega (arith, same, far)

    -- who is past its last bucket has finished
    finished-at : (done rest : List Event) → events ≡ done ++ rest → Inv done → FinishedAt script.plan (run script.plan done) a f r
    finished-at done rest is h =
        let w = run script.plan done in
        let far = h.0 in
        let good = calm-along done rest is far in
        let world : (progress script done).world ≡ w = progress-run script done in
        let plan = run-plan script.plan done in
        let n = h.1.node in
        let z = progress script done in
        let role : role_of z.world.plan a ≡ IsNode f r = ap (λ (pl : Plan). role_of pl a) good.here.of_plan ∙ role_a in
        let up : (slot_of w a).node ≡ Some n = sym (ap (λ (v : World). (slot_of v a).node) world) ∙ h.1.up in
        let role_w : role_of w.plan a ≡ IsNode f r = ap (λ (pl : Plan). role_of pl a) plan ∙ role_a in
        let order = (run-order script.plan done can.plan).nodes a f r n (record { role = role_w; up = up }) in
        let still = good.calm f r n role h.1.up in
        let past = h.1.past in
        let asks = subst (λ (pl : Plan). AsksInOrder (home_of pl (f, r)) n) plan order in
        let good_n = subst (λ (pl : Plan). IsGoodNode (home_of pl (f, r)) good.here.most n) good.here.of_plan (node-here z.world good.here.most a f r n good.here.fine role h.1.up) in
        record { node = n; up = up; finished = finished-of (home_of script.plan (f, r)) good.here.most n (actor-at script.plan a f r can.plan role_a).place good_n asks still past }

pub resting-finishes : (script : Script) (events : List Event) → RestingReplicaFinishes script events
resting-finishes script events can live well before here more rest p q floor is past far quiet a f r n rests role up whole fine =
    let start = (before ++ Phase p ∷ []) ++ here in
    let split : (mid : List Event) → start ++ mid ≡ before ++ (Phase p ∷ (here ++ mid)) = λ mid. append_assoc (before ++ Phase p ∷ []) here mid ∙ append_assoc before (Phase p ∷ []) (here ++ mid) in
    let first = past-first script events can live well a floor past rests f r role before here (more ++ rest) p q is far quiet n up whole fine in
    let behind : events ≡ start ++ ((Phase q ∷ more) ++ rest) = is ∙ sym (split (Phase q ∷ (more ++ rest))) in
    let last = every-behind events start (Inv script events can live well a floor past rests f r role) first (inv-next script events can live well a floor past rests f r role) (Phase q ∷ more) rest behind in
    let done : events ≡ (start ++ (Phase q ∷ more)) ++ rest = behind ∙ sym (append_assoc start (Phase q ∷ more) rest) in
    subst (λ (es : List Event). FinishedAt script.plan (run script.plan es) a f r) (split (Phase q ∷ more)) (finished-at script events can live well a floor past rests f r role (start ++ (Phase q ∷ more)) rest done last)

pub whole-replicas-finish : (script : Script) (events : List Event) → WholeReplicasFinish script events
whole-replicas-finish script events can live well steady before here more rest p q is far quiet a f r n role up whole fine =
    let so_far = live-far script events live in
    resting-finishes script events can so_far well before here more rest p q (length script.phases + settling_phases) is (omega arith) far quiet a f r n (steady-rests script events so_far steady a) role up whole fine
