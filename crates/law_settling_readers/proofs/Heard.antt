-- Where all replicas of a fragment have finished, each reader's port has heard so of each when three full phases are over.
use Rattle.std.proofs.Common.{◌≡◌, ℕ, zero, suc, ◌+◌, ◌<◌, ◌≤◌, true, false, List, [], ◌∷◌, ◌++◌, length, refl, sym, ap, subst, ◌∙◌, arith, Option, Some, slice_get, inl, inr}
use Rattle.std.specs.Prelude.{is_some}
use Rattle.std.proofs.lemmas.List.{append_assoc}
use Rattle.std.proofs.lemmas.Option.{slice_get_within}
use Rattle.dpc_lists.specs.Lists.{nth, has}
use Rattle.dpc_model.specs.Actors.{role_of}
use Rattle.dpc_model.specs.Ports.{Port}
use Rattle.dpc_model.specs.Replicas.{Watch}
use Rattle.dpc_model.specs.Sessions.{tally_of, no_session}
use Rattle.dpc_model.specs.declared.actors.Role.{Role}
use Rattle.dpc_model.specs.declared.actors.Role.TheVariants.{Node as IsNode}
use Rattle.dpc_model.specs.declared.messages.Event.{Event}
use Rattle.dpc_model.specs.declared.messages.Event.TheVariants.{Deliver, Tick}
use Rattle.dpc_model.specs.declared.plans.Plan.{Plan}
use Rattle.dpc_model.specs.declared.scripts.Script.{Script}
use Rattle.dpc_model.proofs.Numbers.{le-or}
use Rattle.dpc_lists.proofs.Somes.{some-same}
use Rattle.node_model.specs.Nodes.{PlainNode}
use Rattle.world_model.specs.Worlds.{World, home_of, slot_of, role_up, run, new_world, happens}
use Rattle.world_model.specs.Schedules.{Progress, first_progress, next_progress, progress_from, progress, is_live_so_far, settling_phases}
use Rattle.world_model.specs.Steady.{TickIsHeard, SteadyFrom, IsSteady, OpensWell}
use Rattle.law_granting.specs.Taken.{port_of}
use Rattle.law_readers.specs.Settling.{CanSettle}
use Rattle.law_schedules.proofs.Journals.{prefix-live, phases-counted, progress-run}
use Rattle.law_settling.specs.Rests.{RestsAt, RestsPast}
use Rattle.law_settling.specs.Phased.{opened}
use Rattle.law_settling.specs.Finished.{IsFinished}
use Rattle.law_settling.proofs.Along.{every-prefix, progress-push, live-may, phase_after, phase-from, steady-at}
use Rattle.law_settling.proofs.Travels.{arrives}
use Rattle.law_settling.proofs.Fresh.{new-waits}
use Rattle.law_settling.proofs.Journeys.{IsStep, IsJourney}
use Rattle.law_settling.proofs.Rules.{MayGo, Keeps, kept-full, due-taken, opened-due, tick-due, first-good}
use Rattle.law_settling.proofs.Splitting.{stays, in-quiet}
use Rattle.law_settling.proofs.Stages.{due-waits, role-within}
use Rattle.law_settling_readers.specs.Streams.{HearsPast}
use Rattle.law_settling_readers.proofs.Marks.{AreHeard}
use Rattle.law_settling_readers.proofs.Reading.{replica_at, replicas_in, IsReader, Stand, stand-at, port-at, quiet-at, clocked-at}
use Rattle.law_settling_readers.proofs.Serving.{tells-now}
use Rattle.law_settling_readers.proofs.Watching.{NoneThird, IsWatching, aware-next}
use Rattle.law_settling_readers.proofs.Calming.{Fresh, CalmAt, IsBeating, Told, replica-here, comes-here, fresh-kept, fresh-opened, heard-now, beating-next, told-kept, calm-kept, lead-fresh}

-- ---- phase by phase

module _ (script : Script) (x p f k : ℕ) where
  -- its tick tells the reader that it is STABLE
  told-now : (K i : ℕ) (z : Progress) (now : ℕ) → i < replicas_in script.plan f → MayGo script (IsWatching script x p f k) z (Tick (replica_at script.plan f i) now) → Fresh script f K z → Told script x p f k K i (next_progress script z (Tick (replica_at script.plan f i) now))
  told-now K i z now low may fresh =
      let st = may.here.stand in
      let a = replica_at script.plan f i in
      let it = replica-here script x p f k i z low may.here in
      let told = tells-now z.world st.most x f it.number a k st.fine it.role_now st.line.placed st.line.low st.line.back it.node it.up (st.done a it.number it.node it.role_now it.up) now (may.here.clocked a now may.may) in
      let m = told.0 in
      let n = told.3.0 in
      let few = fresh.0.few in
      let new = told.3.2 in
      inr (
        n,
        record { inc = m.grants.inc; state = m.state; recovering = m.recovering; over = m.grants.over; tally = tally_of (nth no_session it.node.subs k) },
        record {
          sent = told.3.1;
          late = omega (arith, few, new);
          waits = new-waits script z (Tick a now) n _ told.3.2 told.3.1;
          inc = λ r o role up. let one : m ≡ o = some-same m o (sym told.1 ∙ up) in sym (ap (λ (y : PlainNode). y.grants.inc) one);
        },
      )

  -- within a phase each replica ticks
  lead-told : (K i : ℕ) (z : Progress) (es : List Event) → i < replicas_in script.plan f → IsStep script (IsWatching script x p f k) z es → Fresh script f K z → Fresh script f K (progress_from script (opened script z) es) × Told script x p f k K i (progress_from script (opened script z) es)
  lead-told K i z es low step fresh =
      tick-due script (IsWatching script x p f k) (replica_at script.plan f i) (Fresh script f K) (λ y. Fresh script f K y × Told script x p f k K i y) (record {
        others = λ y e may other h. inl (fresh-kept script x p f k K y e may h);
        ticked = λ y now may h. (fresh-kept script x p f k K y (Tick (replica_at script.plan f i) now) may h, told-now K i y now low may h);
        keeps = told-kept script x p f k K i low;
        up = λ y good. let it = replica-here script x p f k i y low good in ap (λ (r : Role). role_up y.world (replica_at script.plan f i) r) it.role_now ∙ ap (λ (o : Option PlainNode). is_some o) it.up;
        there = λ y good. let it = replica-here script x p f k i y low good in role-within y.world.plan (replica_at script.plan f i) (IsNode f it.number) it.role_now (λ e. cc);
        at = λ y good. good.at;
      }) (opened script z) es step.phase (fresh-opened script x p f k K z fresh) refl

  -- within another its beat comes
  lead-calm : (K i : ℕ) (z : Progress) (es : List Event) → i < replicas_in script.plan f → IsStep script (IsWatching script x p f k) z es → Fresh script f K z → Told script x p f k K i z → Fresh script f K (progress_from script (opened script z) es) × CalmAt script x p f k i (progress_from script (opened script z) es)
  lead-calm K i z es low step fresh (inl calm) =
      kept-full script (IsWatching script x p f k) (λ y. Fresh script f K y × CalmAt script x p f k i y) (calm-kept script x p f k K i) (opened script z) es step.phase (fresh-opened script x p f k K z fresh, calm)
  lead-calm K i z es low step fresh (inr (n, b, h)) =
      let good = first-good script (IsWatching script x p f k) (opened script z) es step.phase.good in
      let due = opened-due script z n step.at step.complete (comes-here script x p f k (opened script z) n _ good h.sent) h.waits in
      let now : IsBeating script x p f k K i n b (opened script z) = record { sent = h.sent; late = h.late; waits = due-waits n (opened script z).waiting due; inc = h.inc } in
      due-taken script (IsWatching script x p f k) n (λ y. Fresh script f K y × IsBeating script x p f k K i n b y) (λ y. Fresh script f K y × CalmAt script x p f k i y) (record {
        others = λ y e may other q. inl (fresh-kept script x p f k K y e may q.0, beating-next script x p f k K i n b y e low may other q.1);
        taken = λ y may q. (fresh-kept script x p f k K y (Deliver n) may q.0, heard-now script x p f k K i n b y low may q.0 q.1);
        keeps = calm-kept script x p f k K i;
        can = λ y good_y q. comes-here script x p f k y n _ good_y q.1.sent;
        at = λ y good_y. good_y.at;
      }) (opened script z) es step.phase (fresh-opened script x p f k K z fresh, now) due

  -- how far the port is from having heard of all
  abbrev pub Stage : ℕ → Progress → Type 0
  Stage zero z = (K : ℕ) × Fresh script f K z × ((i : ℕ) → i < replicas_in script.plan f → CalmAt script x p f k i z)
  Stage (suc zero) z = (K : ℕ) × Fresh script f K z × ((i : ℕ) → i < replicas_in script.plan f → Told script x p f k K i z)
  Stage (suc (suc zero)) z = (K : ℕ) × Fresh script f K z
  Stage (suc (suc (suc n))) z = Unit {0}

  stage-kept : Keeps script (IsWatching script x p f k) (Stage 0)
  stage-kept z e may (K, fresh, calm) = (K, fresh-kept script x p f k K z e may fresh, λ i low. (calm-kept script x p f k K i z e may (fresh, calm i low)).1)

  stages-lead : IsJourney script (IsWatching script x p f k) Stage 3
  stages-lead = record { lead = leads; kept = stage-kept; opens = λ z h. (h.0, fresh-opened script x p f k h.0 z h.1, h.2) }
    where
      later : (K : ℕ) (z : Progress) (es : List Event) → IsStep script (IsWatching script x p f k) z es → Fresh script f K z → Fresh script f K (progress_from script (opened script z) es)
      later K z es step fresh = kept-full script (IsWatching script x p f k) (Fresh script f K) (fresh-kept script x p f k K) (opened script z) es step.phase (fresh-opened script x p f k K z fresh)

      leads : (i : ℕ) (z : Progress) (es : List Event) → i < 3 → IsStep script (IsWatching script x p f k) z es → Stage (suc i) z → Stage i (progress_from script (opened script z) es)
      leads zero z es few step (K, fresh, told) = (K, later K z es step fresh, λ i low. (lead-calm K i z es low step fresh (told i low)).1)
      leads (suc zero) z es few step (K, fresh) = (K, later K z es step fresh, λ i low. (lead-told K i z es low step fresh).1)
      leads (suc (suc zero)) z es few step h = lead-fresh script x p f k z es step
      leads (suc (suc (suc n))) z es few step h = absurd (omega (arith, few))

-- ---- a steady run

pub steady-hears : (script : Script) (events : List Event) → is_live_so_far script events ≡ true → IsSteady script events → (x : ℕ) → HearsPast script events x (length script.phases + settling_phases)
unfolding run progress
steady-hears script events live steady x done rest now is far =
    let counted = phases-counted script done (prefix-live script done (Tick x now ∷ rest) (subst (λ (es : List Event). is_live_so_far script es ≡ true) is live)) in
    let phase : (progress script done).phase ≡ phase_after 0 done = phase-from script (first_progress script) done in
    (steady-at script 0 (new_world script.plan) done rest (Tick x now) (subst (λ (es : List Event). SteadyFrom script 0 (new_world script.plan) es) is steady) (omega (arith, far, phase, counted))).1

none-ticked : (script : Script) (x : ℕ) → has (progress script []).ticked x ≡ true → ⊥
unfolding progress
none-ticked script x h = let clash : false ≡ true = h in cc

-- ---- along the journal

module _ (script : Script) (events : List Event) (x p f k base : ℕ) (can : CanSettle script) (line : IsReader script.plan x p f k)
    (live : is_live_so_far script events ≡ true) (well : OpensWell script events) (past : length script.phases < base) (rests : RestsPast script events x base) (hears : HearsPast script events x base)
    (finished : (done rest : List Event) → events ≡ done ++ rest → base < (progress script done).phase → (a r : ℕ) (n : PlainNode) → role_of script.plan a ≡ IsNode f r → (slot_of (run script.plan done) a).node ≡ Some n → IsFinished (home_of script.plan (f, r)) n)
    (below : (done rest : List Event) → events ≡ done ++ rest → (q : Port) (i r : ℕ) (v : Watch) (n : PlainNode) → port_of (run script.plan done) x p ≡ Some q → i < replicas_in script.plan f → role_of script.plan (replica_at script.plan f i) ≡ IsNode f r →
    (slot_of (run script.plan done) (replica_at script.plan f i)).node ≡ Some n → slice_get q.watches i ≡ Some v → v.inc ≤ n.grants.inc) where
  stands : (done rest : List Event) → events ≡ done ++ rest → base < (progress script done).phase → Stand script.plan x p f k (progress script done).world
  stands done rest is far = stand-at script events done rest x p f k can line live well base past rests is far (finished done rest is far)

  abbrev Aware : List Event → Type 0
  Aware done = base < (progress script done).phase → has (progress script done).ticked x ≡ true → NoneThird x p (progress script done).world

  aware-push : (done rest : List Event) (e : Event) → events ≡ done ++ e ∷ rest → Aware done → Aware (done ++ e ∷ [])
  aware-push done rest e is h =
      let z = progress script done in
      let push = progress-push script done e in
      let follows = live-may script events done rest e live is in
      let later : events ≡ (done ++ e ∷ []) ++ rest = is ∙ sym (append_assoc done (e ∷ []) rest) in
      subst (λ (y : Progress). base < y.phase → has y.ticked x ≡ true → NoneThird x p y.world) (sym push)
      (λ far ticked. elim (stays script z e follows) [
        | inr o ↦ let clash : false ≡ true = subst (λ (d : Event). has (next_progress script z d).ticked x ≡ true) o.0 ticked in cc
        | inl same ↦
            let here : base < z.phase = omega (arith, far, same) in
            let at = quiet-at script events done (e ∷ rest) x p f k can line live well base past rests is here (finished done (e ∷ rest) is here) in
            let next = stands (done ++ e ∷ []) rest later (subst (λ (y : Progress). base < y.phase) (sym push) far) in
            let calm : RestsAt (happens z.world e) x = subst (λ (y : Progress). RestsAt y.world x) push next.calm in
            let counted = phases-counted script done (prefix-live script done (e ∷ rest) (subst (λ (es : List Event). is_live_so_far script es ≡ true) is live)) in
            let heard : (now : ℕ) → e ≡ Tick x now → TickIsHeard (happens z.world (Tick x now)) (Tick x now) =
            (λ (now : ℕ) (event : e ≡ Tick x now). subst (λ (v : World). TickIsHeard (happens v (Tick x now)) (Tick x now)) (sym (progress-run script done)) (hears done rest now (is ∙ ap (λ (d : Event). done ++ d ∷ rest) event) (omega (arith, here, counted)))) in
            let q = port-at script events done (e ∷ rest) x p f k can line live well base past rests is here (finished done (e ∷ rest) is here) in
            elim (in-quiet script z e at follows) [
              | inl quiet ↦ aware-next script x p f k z e q.0 quiet (stands done (e ∷ rest) is here) calm q.1 heard (h here) ticked
              | inr o ↦ let clash : false ≡ true = subst (λ (d : Event). has (next_progress script z d).ticked x ≡ true) o.0 ticked in cc
            ]
      ])

  watching-at : (done rest : List Event) → events ≡ done ++ rest → base < (progress script done).phase → IsWatching script x p f k (progress script done)
  watching-at done rest is far =
      let fin = finished done rest is far in
      let q = port-at script events done rest x p f k can line live well base past rests is far fin in
      let world = progress-run script done in
      record {
        stand = stands done rest is far;
        at = quiet-at script events done rest x p f k can line live well base past rests is far fin;
        clocked = clocked-at script events done rest x p f k can line live well base past rests is far fin;
        port = q.0;
        there = q.1;
        below = subst (λ (v : World). (y : Port) (i r : ℕ) (u : Watch) (n : PlainNode) → port_of v x p ≡ Some y → i < replicas_in script.plan f → role_of script.plan (replica_at script.plan f i) ≡ IsNode f r → (slot_of v (replica_at script.plan f i)).node ≡ Some n → slice_get y.watches i ≡ Some u → u.inc ≤ n.grants.inc) (sym world)
            (below done rest is);
        aware = every-prefix events Aware (λ far_first ticked. absurd (none-ticked script x ticked)) (λ before behind e at h. aware-push before behind e at h) done rest is far;
      }

  -- from the fourth phase on each replica is heard STABLE within two ticks, or there is one alone
  pub heard-late : (done rest : List Event) → events ≡ done ++ rest → base + 4 ≤ (progress script done).phase → (q : Port) → port_of (progress script done).world x p ≡ Some q → AreHeard q.watches
  heard-late done rest is far q there =
      let all = arrives script events live well (IsWatching script x p f k) (Stage script x p f k) 3 base (stages-lead script x p f k) past (λ done rest at late. watching-at done rest at late) (λ z good. tt) done rest is (omega (arith, far)) in
      let many : length q.watches ≡ replicas_in script.plan f = ((stands done rest is (omega (arith, far))).watched q there).1 ∙ ap (λ (pl : Plan). replicas_in pl f) (stands done rest is (omega (arith, far))).of_plan in
      elim (le-or (length q.watches) 1) [
        | inl one ↦ inl one
        | inr several ↦ inr (λ i v at.
            let low = slice_get_within q.watches i v at in
            let calm = all.2 i (omega (arith, low, many)) q there v at in
            record { said = calm.0; ticks = calm.1 several })
      ]
