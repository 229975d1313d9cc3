-- Along a journal in which nothing is due when one ticks: in each phase each replica's beat comes before the reader ticks.
use Rattle.std.proofs.Common.{◌≡◌, ℕ, ◌<◌, ◌≤◌, Bool, true, false, not, ◌||◌, ◌&&◌, ◌==◌, List, [], ◌∷◌, ◌++◌, length, refl, sym, ap, subst, ◌∙◌, arith, Option, ◌⊎◌, inl, inr}
use Rattle.std.specs.Prelude.{is_some}
use Rattle.std.proofs.lemmas.List.{append_assoc}
use Rattle.std.proofs.lemmas.Option.{slice_get_within}
use Rattle.dpc_lists.specs.Lists.{has}
use Rattle.dpc_model.specs.Actors.{roles_of}
use Rattle.dpc_model.specs.declared.actors.Role.{Role}
use Rattle.dpc_model.specs.declared.actors.Role.TheVariants.{Node as IsNode}
use Rattle.dpc_model.specs.declared.messages.Event.{Event}
use Rattle.dpc_model.specs.declared.messages.Event.TheVariants.{Deliver, Tick}
use Rattle.dpc_model.specs.declared.scripts.Script.{Script}
use Rattle.node_model.specs.Nodes.{PlainNode}
use Rattle.world_model.specs.Worlds.{is_up, role_up}
use Rattle.world_model.specs.Schedules.{Progress, next_progress, progress, now_of, is_free, is_live_so_far, is_phase_complete}
use Rattle.dpc_lists.proofs.Truths.{both, eq-test, not-of, in-range}
use Rattle.dpc_model.proofs.Numbers.{le-or}
use Rattle.law_settling.specs.Rests.{RestsAt}
use Rattle.law_settling.specs.Phased.{opened}
use Rattle.law_settling.proofs.Along.{every-prefix, progress-push, live-may}
use Rattle.world_model.specs.Events.{is_tick, is_quiet, is_delivery}
use Rattle.law_settling.proofs.Rules.{same-tick, same-delivery, some-phase}
use Rattle.law_settling.proofs.Splitting.{stays, in-quiet}
use Rattle.law_settling.proofs.Stages.{role-within}
use Rattle.law_settling.proofs.Waitings.{is_due, due-on, done-of, comes}
use Rattle.law_settling_readers.proofs.Reading.{replica_at, replicas_in}
use Rattle.law_settling_readers.proofs.Watching.{ticked-on}
use Rattle.law_lockstep.proofs.Hearing.{IsSeen, Sees, IsCalmly, IsBeating, Within, replica-here, told-now, comes-here, beating-next, beating-opened, within-next, within-more, heard-now}

ticks-itself : (script : Script) (z : Progress) (a now : ℕ) → has (next_progress script z (Tick a now)).ticked a ≡ true
ticks-itself script z a now = let here = eq-test a a refl in rw here refl

-- one that is up has ticked when the phase is complete
has-ticked : (z : Progress) (a : ℕ) → (z.phase == 0) ≡ false → is_phase_complete z ≡ true → is_up z.world a ≡ true → a < length (roles_of z.world.plan) → has z.ticked a ≡ true
has-ticked z a some complete up low =
    let done = done-of z some complete in
    let here : (not (is_up z.world a) || has z.ticked a) ≡ true = in-range (λ b. not (is_up z.world b) || has z.ticked b) 0 (length (roles_of z.world.plan)) a done.ticked (omega arith) (omega (arith, low)) in
    rw up at here

-- ---- a replica and a reader

module _ (script : Script) (x p f k i : ℕ) (low : i < replicas_in script.plan f) where
  abbrev Rep : ℕ
  Rep = replica_at script.plan f i

  abbrev Seen : Progress → Type 0
  Seen z = IsSeen script x p f k z

  abbrev Beating : ℕ → Progress → Type 0
  Beating m z = IsBeating script x p f k i low m z

  -- once the replica ticked in the phase its beat waits
  abbrev Sends : Progress → Type 0
  Sends z = has z.ticked Rep ≡ true → (m : ℕ) × Beating m z

  -- until the reader ticks, the beat is due, or has come
  abbrev Hears : Progress → Type 0
  Hears z = has z.ticked x ≡ false → ((m : ℕ) × Beating m z × (is_due m z.waiting ≡ true)) ⊎ Within script x p f k i low 0 z

  sends-next : (z : Progress) (e : Event) → Sees script x p f k z e → ((j : ℕ) → e ≡ Deliver j → z.ticked ≡ []) → Sends z → Sends (next_progress script z e)
  sends-next z e goes first h ticked =
      (elim (is_tick Rep e) as (λ t. is_tick Rep e ≡ t → (m : ℕ) × Beating m (next_progress script z e)) [
        | true ↦ λ d.
            let same = same-tick Rep e goes.quiet d in
            subst (λ (c : Event). (m : ℕ) × Beating m (next_progress script z c)) (sym same.1) (told-now script x p f k i low z same.0 (subst (λ (c : Event). Sees script x p f k z c) same.1 goes))
        | false ↦ λ d. let was = sym (ticked-on script z e Rep goes.quiet d) ∙ ticked in let b = h was in (b.0, beating-next script x p f k i low z e b.0 goes (apart b.0 was (is_delivery b.0 e) refl) b.1)
      ]) refl
    where
      apart : (m : ℕ) → has z.ticked Rep ≡ true → (t : Bool) → is_delivery m e ≡ t → is_delivery m e ≡ false
      apart m was true d =
          let none = first m (same-delivery m e goes.quiet d) in
          let clash : true ≡ false = sym was ∙ ap (λ (ids : List ℕ). has ids Rep) none in cc
      apart m was false d = d

  hears-next : (z : Progress) (e : Event) → Sees script x p f k z e → IsCalmly x z (next_progress script z e) → Hears z → Hears (next_progress script z e)
  hears-next z e goes calm h ticked =
      (elim (is_tick x e) as (λ t. is_tick x e ≡ t → ((m : ℕ) × Beating m (next_progress script z e) × (is_due m (next_progress script z e).waiting ≡ true)) ⊎ Within script x p f k i low 0 (next_progress script z e)) [
        | true ↦ λ d.
            let same = same-tick x e goes.quiet d in
            let clash : true ≡ false = sym (ticks-itself script z x same.0) ∙ ap (λ (c : Event). has (next_progress script z c).ticked x) (sym same.1) ∙ ticked in cc
        | false ↦ λ d. elim (h (sym (ticked-on script z e x goes.quiet d) ∙ ticked)) [
          | inr heard ↦ inr (within-next script x p f k i low 0 z e goes calm d heard)
          | inl (m, b, due) ↦ by-delivery m b due (is_delivery m e) refl
        ]
      ]) refl
    where
      by-delivery : (m : ℕ) → Beating m z → is_due m z.waiting ≡ true → (t : Bool) → is_delivery m e ≡ t → ((m : ℕ) × Beating m (next_progress script z e) × (is_due m (next_progress script z e).waiting ≡ true)) ⊎ Within script x p f k i low 0 (next_progress script z e)
      by-delivery m b due true d =
          let same = same-delivery m e goes.quiet d in
          inr (subst (λ (c : Event). Within script x p f k i low 0 (next_progress script z c)) (sym same)
          (heard-now script x p f k i low z m (subst (λ (c : Event). Sees script x p f k z c) same goes) (subst (λ (c : Event). IsCalmly x z (next_progress script z c)) same calm) b))
      by-delivery m b due false d = inl (m, beating-next script x p f k i low z e m goes d b, due-on script z e m goes.quiet d due)

  -- a phase that opens behind one in which the replica ticked
  hears-opened : (z : Progress) → Seen z → is_phase_complete z ≡ true → Sends z → Hears (opened script z)
  hears-opened z seen complete h none =
      let it = replica-here script x p f k i low z seen in
      let up : is_up z.world Rep ≡ true = ap (λ (r : Role). role_up z.world Rep r) it.role ∙ ap (λ (o : Option PlainNode). is_some o) it.up in
      let within = role-within z.world.plan Rep (IsNode f it.number) it.role (λ e. cc) in
      let b = h (has-ticked z Rep (some-phase script z seen.here.at) complete up within) in
      let due = beating-opened script x p f k i low z b.0 seen complete b.1 in
      inl (b.0, due.0, due.1)

  -- ---- along the journal

  module _ (events : List Event) (floor : ℕ) (late : length script.phases < floor) (live : is_live_so_far script events ≡ true)
      (unticked : (done rest : List Event) (m : ℕ) → events ≡ done ++ Deliver m ∷ rest → (progress script done).ticked ≡ [])
      (undue : (done rest : List Event) (a now m : ℕ) → events ≡ done ++ Tick a now ∷ rest → ((progress script done).phase == 0) ≡ false → m < length (progress script done).world.envelopes → comes (progress script done).world m ≡ true → is_due m (progress script done).waiting ≡ true → ⊥)
      (seen : (done rest : List Event) → events ≡ done ++ rest → length script.phases < (progress script done).phase → IsSeen script x p f k (progress script done))
      (calm : (done rest : List Event) → events ≡ done ++ rest → floor < (progress script done).phase → RestsAt (progress script done).world x) where
    abbrev At : Progress → Type 0
    At z = (floor ≤ z.phase → Sends z) × (floor < z.phase → Hears z)

    at-first : At (progress script [])
    unfolding progress
    at-first = (λ far. absurd (omega (arith, far)), λ far. absurd (omega (arith, far)))

    at-next : (done rest : List Event) (e : Event) → events ≡ done ++ e ∷ rest → At (progress script done) → At (progress script (done ++ e ∷ []))
    at-next done rest e is h =
        let z = progress script done in
        let push = progress-push script done e in
        let follows = live-may script events done rest e live is in
        let later : events ≡ (done ++ e ∷ []) ++ rest = is ∙ sym (append_assoc done (e ∷ []) rest) in
        let next_seen : length script.phases < (next_progress script z e).phase → IsSeen script x p f k (next_progress script z e) =
        (λ (far : length script.phases < (next_progress script z e).phase). subst (λ (y : Progress). IsSeen script x p f k y) push (seen (done ++ e ∷ []) rest later (subst (λ (y : Progress). length script.phases < y.phase) (sym push) far))) in
        let next_calm : floor < (next_progress script z e).phase → RestsAt (next_progress script z e).world x =
        (λ (far : floor < (next_progress script z e).phase). subst (λ (y : Progress). RestsAt y.world x) push (calm (done ++ e ∷ []) rest later (subst (λ (y : Progress). floor < y.phase) (sym push) far))) in
        subst At (sym push) (elim (le-or floor z.phase) [
          | inl high ↦
              let here = seen done (e ∷ rest) is (omega (arith, high, late)) in
              elim (in-quiet script z e here.here.at follows) [
                | inr o ↦ subst (λ (c : Event). At (next_progress script z c)) (sym o.0) (λ far ticked. let clash : false ≡ true = ticked in cc, λ far. hears-opened z here o.1 (h.0 high))
                | inl quiet ↦ elim (stays script z e follows) [
                  | inr o ↦ let clash : false ≡ true = ap is_quiet (sym o.0) ∙ quiet in cc
                  | inl same ↦
                      let goes : Sees script x p f k z e = record { quiet = quiet; may = follows; here = here; next = next_seen (omega (arith, same, high, late)) } in (
                        λ far. sends-next z e goes (λ j event. unticked done rest j (is ∙ ap (λ (c : Event). done ++ c ∷ rest) event)) (h.0 high),
                        λ far. hears-next z e goes (record { here = calm done (e ∷ rest) is (omega (arith, same, far)); next = next_calm far }) (h.1 (omega (arith, same, far))),
                      )
                ]
              ]
          | inr less ↦ elim (stays script z e follows) [
            | inl same ↦ (λ far. absurd (omega (arith, same, far, less)), λ far. absurd (omega (arith, same, far, less)))
            | inr o ↦ subst (λ (c : Event). At (next_progress script z c)) (sym o.0) (λ far ticked. let clash : false ≡ true = ticked in cc, λ far. absurd (omega (arith, far, less)))
          ]
        ])

    -- at the reader's tick past the last phase in which it may recover one tick is counted since the replica's last beat
    pub within-tick : (done rest : List Event) (now : ℕ) → events ≡ done ++ Tick x now ∷ rest → floor < (progress script done).phase → Within script x p f k i low 1 (next_progress script (progress script done) (Tick x now))
    within-tick done rest now is far =
        let z = progress script done in
        let push = progress-push script done (Tick x now) in
        let follows = live-may script events done rest (Tick x now) live is in
        let later : events ≡ (done ++ Tick x now ∷ []) ++ rest = is ∙ sym (append_assoc done (Tick x now ∷ []) rest) in
        let here = seen done (Tick x now ∷ rest) is (omega (arith, far, late)) in
        let far_next : floor < (progress script (done ++ Tick x now ∷ [])).phase = subst (λ (y : Progress). floor < y.phase) (sym push) far in
        let next = subst (λ (y : Progress). IsSeen script x p f k y) push (seen (done ++ Tick x now ∷ []) rest later (omega (arith, far_next, late))) in
        let calm_next = subst (λ (y : Progress). RestsAt y.world x) push (calm (done ++ Tick x now ∷ []) rest later far_next) in
        let fresh = not-of (has z.ticked x) (both (is_free z && is_up z.world x) (not (has z.ticked x)) (both (is_free z && is_up z.world x && not (has z.ticked x)) (now == now_of script z) follows).0).1 in
        let all = every-prefix events (λ (es : List Event). At (progress script es)) at-first (λ before after e at h. at-next before after e at h) done (Tick x now ∷ rest) is in
        let none : Within script x p f k i low 0 z = heard here (all.1 far fresh) in
        within-more script x p f k i low 0 z (Tick x now) (record { quiet = refl; may = follows; here = here; next = next }) (record { here = calm done (Tick x now ∷ rest) is far; next = calm_next }) none
      where
        heard : IsSeen script x p f k (progress script done) → ((m : ℕ) × Beating m (progress script done) × (is_due m (progress script done).waiting ≡ true)) ⊎ Within script x p f k i low 0 (progress script done) → Within script x p f k i low 0 (progress script done)
        heard here (inr came) = came
        heard here (inl (m, b, due)) =
            absurd (undue done rest x now m is (some-phase script (progress script done) here.here.at) (slice_get_within (progress script done).world.envelopes m _ b.sent) (comes-here script x p f k i low (progress script done) m here b) due)
