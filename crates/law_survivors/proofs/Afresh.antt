-- In the one-thread journal a replica that recovers hears in each quiet phase, before it ticks, of one that stands whole: it never starts afresh.
use Rattle.std.proofs.Common.{◌≡◌, ℕ, zero, suc, ◌+◌, ◌<◌, ◌≤◌, Bool, true, false, not, ◌||◌, ◌&&◌, ◌==◌, List, [], ◌∷◌, ◌++◌, length, refl, sym, ap, subst, ◌∙◌, arith, Option, Some, None, slice_get, ◌⊎◌, inl, inr}
use Rattle.std.specs.Prelude.{is_some, min, nat_le}
use Rattle.std.proofs.lemmas.List.{append_assoc}
use Rattle.std.proofs.lemmas.Option.{slice_get_within}
use Rattle.dpc_lists.specs.Lists.{nth, has}
use Rattle.dpc_model.specs.Actors.{role_of, roles_of, replicas_of}
use Rattle.dpc_model.specs.Replicas.{Watch, after_tick, is_absent}
use Rattle.dpc_model.specs.declared.actors.Role.{Role}
use Rattle.dpc_model.specs.declared.actors.Role.TheVariants.{Node as IsNode}
use Rattle.dpc_model.specs.declared.messages.Event.{Event}
use Rattle.dpc_model.specs.declared.messages.Event.TheVariants.{Deliver, Tick}
use Rattle.dpc_model.specs.declared.plans.Plan.{Plan}
use Rattle.dpc_model.specs.declared.scripts.Script.{Script}
use Rattle.dpc_lists.proofs.Truths.{both, eq-test, not-of, in-range}
use Rattle.dpc_lists.proofs.Somes.{some-same}
use Rattle.dpc_model.proofs.Numbers.{le-or}
use Rattle.node_model.specs.Nodes.{PlainNode}
use Rattle.node_model.specs.NodeSteps.{tick_step}
use Rattle.world_model.specs.Worlds.{World, Slot, home_of, slot_of, node_stepped, is_up, role_up, happens, run}
use Rattle.world_model.specs.Schedules.{Progress, next_progress, progress, now_of, is_free, is_live, is_live_so_far, is_phase_complete, lockstep_journal}
use Rattle.world_model.specs.Events.{is_tick, is_quiet, is_delivery}
use Rattle.world_model.specs.Steady.{OpensWell}
use Rattle.law_safety.proofs.Numbering.{replica-at}
use Rattle.law_safety.proofs.Happening.{node-here}
use Rattle.law_safety.proofs.Emptied.{shape-of}
use Rattle.law_safety.proofs.Promises.{slot-here}
use Rattle.law_schedules.proofs.Journals.{live-far, progress-run}
use Rattle.law_schedules.proofs.Lockstep.{lock-live}
use Rattle.law_readers.specs.Settling.{CanSettle}
use Rattle.law_settling.specs.Phased.{opened}
use Rattle.law_settling.proofs.Along.{every-prefix, progress-push, live-may, running-along}
use Rattle.law_settling.proofs.Nodes.{node-ticked-now}
use Rattle.law_settling.proofs.Promises.{open-of}
use Rattle.law_settling.proofs.Replicas.{number-low}
use Rattle.law_settling.proofs.Rules.{same-tick, same-delivery, some-phase}
use Rattle.law_settling.proofs.Splitting.{stays, in-quiet}
use Rattle.law_settling.proofs.Stages.{role-within}
use Rattle.law_settling.proofs.Waitings.{is_due, due-on, done-of}
use Rattle.law_settling_readers.proofs.Watching.{ticked-on}
use Rattle.law_lockstep.proofs.Tidy.{is_tidy, lock-tidy}
use Rattle.law_lockstep.proofs.Order.{none-ticked, nothing-due}
use Rattle.law_survivors.specs.Spared.{is_spared, StandsWhole, NoneStartsAfresh}
use Rattle.law_survivors.proofs.Running.{spared-at}
use Rattle.law_survivors.proofs.Peers.{still-recovers}
use Rattle.law_survivors.proofs.Listening.{IsSeen, Sees, IsBeating, JustHeard, told-now, comes-here, beating-next, beating-opened, heard-next, heard-now}

pub ticks-itself : (script : Script) (z : Progress) (a now : ℕ) → has (next_progress script z (Tick a now)).ticked a ≡ true
ticks-itself script z a now = let here = eq-test a a refl in rw here refl

-- one that is up has ticked when the phase is complete
pub has-ticked : (z : Progress) (a : ℕ) → (z.phase == 0) ≡ false → is_phase_complete z ≡ true → is_up z.world a ≡ true → a < length (roles_of z.world.plan) → has z.ticked a ≡ true
has-ticked z a some complete up low =
    let done = done-of z some complete in
    let here : (not (is_up z.world a) || has z.ticked a) ≡ true = in-range (λ b. not (is_up z.world b) || has z.ticked b) 0 (length (roles_of z.world.plan)) a done.ticked (omega arith) (omega (arith, low)) in
    rw up at here

module _ (script : Script) (x g b a r : ℕ) (role_x : role_of script.plan x ≡ IsNode g b) (role_a : role_of script.plan a ≡ IsNode g r) (other : a ≡ x → ⊥) where
  abbrev Seen : Progress → Type 0
  Seen z = IsSeen script x a b z

  abbrev Beating : ℕ → Progress → Type 0
  Beating m z = IsBeating script x g b a r role_x role_a other m z

  abbrev Heard : Progress → Type 0
  Heard z = JustHeard script x g b a r role_x role_a other z

  -- once x ticked in the phase its beat waits
  abbrev Sends : Progress → Type 0
  Sends z = has z.ticked x ≡ true → (m : ℕ) × Beating m z

  -- until the peer ticks, the beat is due, or has come
  abbrev Hears : Progress → Type 0
  Hears z = has z.ticked a ≡ false → ((m : ℕ) × Beating m z × (is_due m z.waiting ≡ true)) ⊎ Heard z

  sends-next : (z : Progress) (e : Event) → Sees script x a b z e → ((j : ℕ) → e ≡ Deliver j → z.ticked ≡ []) → Sends z → Sends (next_progress script z e)
  sends-next z e goes first h ticked =
      (elim (is_tick x e) as (λ t. is_tick x e ≡ t → (m : ℕ) × Beating m (next_progress script z e)) [
        | true ↦ λ d.
            let same = same-tick x e goes.quiet d in
            subst (λ (c : Event). (m : ℕ) × Beating m (next_progress script z c)) (sym same.1) (told-now script x g b a r role_x role_a other z same.0 (subst (λ (c : Event). Sees script x a b z c) same.1 goes))
        | false ↦ λ d. let was = sym (ticked-on script z e x goes.quiet d) ∙ ticked in let k = h was in (k.0, beating-next script x g b a r role_x role_a other z e k.0 goes (apart k.0 was (is_delivery k.0 e) refl) k.1)
      ]) refl
    where
      apart : (m : ℕ) → has z.ticked x ≡ true → (t : Bool) → is_delivery m e ≡ t → is_delivery m e ≡ false
      apart m was true d =
          let none = first m (same-delivery m e goes.quiet d) in
          let clash : true ≡ false = sym was ∙ ap (λ (ids : List ℕ). has ids x) none in cc
      apart m was false d = d

  hears-next : (z : Progress) (e : Event) → Sees script x a b z e → Hears z → Hears (next_progress script z e)
  hears-next z e goes h ticked =
      (elim (is_tick a e) as (λ t. is_tick a e ≡ t → ((m : ℕ) × Beating m (next_progress script z e) × (is_due m (next_progress script z e).waiting ≡ true)) ⊎ Heard (next_progress script z e)) [
        | true ↦ λ d.
            let same = same-tick a e goes.quiet d in
            let clash : true ≡ false = sym (ticks-itself script z a same.0) ∙ ap (λ (c : Event). has (next_progress script z c).ticked a) (sym same.1) ∙ ticked in cc
        | false ↦ λ d. elim (h (sym (ticked-on script z e a goes.quiet d) ∙ ticked)) [
          | inr heard ↦ inr (heard-next script x g b a r role_x role_a other z e goes d heard)
          | inl (m, k, due) ↦ by-delivery m k due (is_delivery m e) refl
        ]
      ]) refl
    where
      by-delivery : (m : ℕ) → Beating m z → is_due m z.waiting ≡ true → (t : Bool) → is_delivery m e ≡ t → ((m : ℕ) × Beating m (next_progress script z e) × (is_due m (next_progress script z e).waiting ≡ true)) ⊎ Heard (next_progress script z e)
      by-delivery m k due true d =
          let same = same-delivery m e goes.quiet d in
          inr (subst (λ (c : Event). Heard (next_progress script z c)) (sym same) (heard-now script x g b a r role_x role_a other z m (subst (λ (c : Event). Sees script x a b z c) same goes) k))
      by-delivery m k due false d = inl (m, beating-next script x g b a r role_x role_a other z e m goes d k, due-on script z e m goes.quiet d due)

  -- a phase that opens behind one in which x ticked
  hears-opened : (z : Progress) → Seen z → is_phase_complete z ≡ true → Sends z → Hears (opened script z)
  hears-opened z seen complete h none =
      let role : role_of z.world.plan x ≡ IsNode g b = ap (λ (pl : Plan). role_of pl x) seen.here.of_plan ∙ role_x in
      let up : is_up z.world x ≡ true = ap (λ (o : Role). role_up z.world x o) role ∙ ap (λ (o : Option PlainNode). is_some o) seen.whole.up in
      let within = role-within z.world.plan x (IsNode g b) role (λ e. cc) in
      let k = h (has-ticked z x (some-phase script z seen.here.at) complete up within) in
      let due = beating-opened script x g b a r role_x role_a other z k.0 seen complete k.1 in
      inl (k.0, due.0, due.1)

  -- ---- along the journal

  module _ (events : List Event) (live : is_live script events ≡ true) (tidy : is_tidy false events ≡ true) (seen : (done rest : List Event) → events ≡ done ++ rest → length script.phases < (progress script done).phase → Seen (progress script done)) where
    abbrev Base : ℕ
    Base = length script.phases + 1

    abbrev At : Progress → Type 0
    At z = (Base ≤ z.phase → Sends z) × (Base < z.phase → Hears z)

    at-first : At (progress script [])
    unfolding progress
    at-first = (λ far. absurd (omega (arith, far)), λ far. absurd (omega (arith, far)))

    at-next : (done rest : List Event) (e : Event) → events ≡ done ++ e ∷ rest → At (progress script done) → At (progress script (done ++ e ∷ []))
    at-next done rest e is h =
        let z = progress script done in
        let push = progress-push script done e in
        let follows = live-may script events done rest e (live-far script events live) is in
        let later : events ≡ (done ++ e ∷ []) ++ rest = is ∙ sym (append_assoc done (e ∷ []) rest) in
        let next_seen : length script.phases < (next_progress script z e).phase → Seen (next_progress script z e) =
        (λ (far : length script.phases < (next_progress script z e).phase). subst (λ (y : Progress). Seen y) push (seen (done ++ e ∷ []) rest later (subst (λ (y : Progress). length script.phases < y.phase) (sym push) far))) in
        subst At (sym push) (elim (le-or Base z.phase) [
          | inl high ↦
              let here = seen done (e ∷ rest) is (omega (arith, high)) in
              elim (in-quiet script z e here.here.at follows) [
                | inr o ↦ subst (λ (c : Event). At (next_progress script z c)) (sym o.0) (λ far ticked. let clash : false ≡ true = ticked in cc, λ far. hears-opened z here o.1 (h.0 high))
                | inl quiet ↦ elim (stays script z e follows) [
                  | inr o ↦ let clash : false ≡ true = ap is_quiet (sym o.0) ∙ quiet in cc
                  | inl same ↦
                      let goes : Sees script x a b z e = record { quiet = quiet; may = follows; here = here; next = next_seen (omega (arith, same, high)) } in (
                        λ far. sends-next z e goes (λ j event. none-ticked script events live tidy done rest j (is ∙ ap (λ (c : Event). done ++ c ∷ rest) event)) (h.0 high),
                        λ far. hears-next z e goes (h.1 (omega (arith, same, far))),
                      )
                ]
              ]
          | inr less ↦ elim (stays script z e follows) [
            | inl same ↦ (λ far. absurd (omega (arith, same, far, less)), λ far. absurd (omega (arith, same, far, less)))
            | inr o ↦ subst (λ (c : Event). At (next_progress script z c)) (sym o.0) (λ far ticked. let clash : false ≡ true = ticked in cc, λ far. absurd (omega (arith, far, less)))
          ]
        ])

    -- when the peer is to tick it has just heard
    pub heard-at-tick : (done rest : List Event) (now : ℕ) → events ≡ done ++ Tick a now ∷ rest → Base < (progress script done).phase → Heard (progress script done)
    heard-at-tick done rest now is far =
        let z = progress script done in
        let follows = live-may script events done rest (Tick a now) (live-far script events live) is in
        let here = seen done (Tick a now ∷ rest) is (omega (arith, far)) in
        let fresh = not-of (has z.ticked a) (both (is_free z && is_up z.world a) (not (has z.ticked a)) (both (is_free z && is_up z.world a && not (has z.ticked a)) (now == now_of script z) follows).0).1 in
        let all = every-prefix events (λ (es : List Event). At (progress script es)) at-first (λ before after e at h. at-next before after e at h) done (Tick a now ∷ rest) is in
        by-due here (all.1 far fresh)
      where
        by-due : Seen (progress script done) → ((m : ℕ) × Beating m (progress script done) × (is_due m (progress script done).waiting ≡ true)) ⊎ Heard (progress script done) → Heard (progress script done)
        by-due here (inr came) = came
        by-due here (inl (m, k, due)) =
            absurd (nothing-due script events live tidy done rest a now m is (some-phase script (progress script done) here.here.at) (slice_get_within (progress script done).world.envelopes m _ k.sent) (comes-here script x g b a r role_x role_a other (progress script done) m here k) due)

-- ---- the law

-- what is seen along a live journal
seen-along : (script : Script) (events : List Event) (x g b a r : ℕ) → CanSettle script → is_live_so_far script events ≡ true → OpensWell script events → role_of script.plan x ≡ IsNode g b → is_spared script x ≡ true → role_of script.plan a ≡ IsNode g r → (done rest : List Event) → events ≡ done ++ rest →
    length script.phases < (progress script done).phase → IsSeen script x a b (progress script done)
seen-along script events x g b a r can live well role_x spared role_a done rest is far =
    let h = spared-at script events can live x g b role_x spared done rest is in
    let world = progress-run script done in
    record {
      here = open-of script can (progress script done) (running-along script events live well done rest is far);
      whole = subst (λ (w : World). StandsWhole w x) (sym world) h.stands;
      heard = λ m u up at. h.heard.heard a r m u role_a (ap (λ (w : World). (slot_of w a).node) (sym world) ∙ up) at;
    }

-- one tick since the last beat is not silence
still-heard : (u : Watch) → u.ticks ≤ 0 → u.truncated ≡ None → is_absent (after_tick u) ≡ false
still-heard u few unmarked =
    let none : u.ticks ≡ 0 = omega (arith, few) in
    ap (λ (k : ℕ). nat_le 3 (min 4 (k + 1)) || is_some u.truncated) none ∙ ap (λ (o : Option ℕ). is_some o) unmarked

pub none-afresh : (script : Script) → NoneStartsAfresh script
none-afresh script can well x g b a r now n m done rest role_x spared role_a is far up recovers after =
    let events = lockstep_journal script in
    let live = lock-live script in
    let so_far = live-far script events live in
    let seen = seen-along script events x g b a r can so_far well role_x spared role_a in
    let z = progress script done in
    let here = seen done (Tick a now ∷ rest) is (omega (arith, far)) in
    let world = progress-run script done in
    let up_z : (slot_of z.world a).node ≡ Some n = ap (λ (w : World). (slot_of w a).node) world ∙ up in
    let role_z : role_of z.world.plan a ≡ IsNode g r = ap (λ (pl : Plan). role_of pl a) here.here.of_plan ∙ role_a in
    let home = home_of z.world.plan (g, r) in
    let t = tick_step home now n in
    let may = live-may script events done rest (Tick a now) so_far is in
    let event : happens z.world (Tick a now) ≡ node_stepped a t z.world = node-ticked-now z.world here.here.most a g r here.here.fine role_z now n (here.here.clocked a now may) up_z in
    let slot : slot_of (node_stepped a t z.world) a ≡ record (slot_of z.world a) { node = Some t.after } = slot-here z.world here.here.most a g r (λ (s : Slot). record s { node = Some t.after }) here.here.fine role_z in
    let up_next : (slot_of (happens (run script.plan done) (Tick a now)) a).node ≡ Some t.after = ap (λ (w : World). (slot_of (happens w (Tick a now)) a).node) (sym world) ∙ ap (λ (v : World). (slot_of v a).node) event ∙ ap (λ (s : Slot). s.node) slot in
    let one : t.after ≡ m = some-same t.after m (sym up_next ∙ after) in
    let shape = shape-of home here.here.most n (node-here z.world here.here.most a g r n here.here.fine role_z up_z).orderly.shape in
    let low = number-low z.world.plan x g b r (ap (λ (pl : Plan). role_of pl x) here.here.of_plan ∙ role_x) in
    let many = shape.peers in
    let watch = get-there n.peers b (omega (arith, many, low)) in
    let heard = heard-at-tick script x g b a r role_x role_a apart events live (lock-tidy script) seen done rest now is far n up_z watch.0 watch.1 in
    let known = here.heard n watch.0 up_z watch.1 in
    ap (λ (y : PlainNode). y.recovering) (sym one) ∙ still-recovers home now b watch.0 n watch.1 other-number (still-heard watch.0 heard known.unmarked) known.said recovers
  where
    apart : a ≡ x → ⊥
    apart same =
        let h = spared-at script (lockstep_journal script) can (live-far script (lockstep_journal script) (lock-live script)) x g b role_x spared done (Tick a now ∷ rest) is in
        let one : h.stands.node ≡ n = some-same h.stands.node n (sym h.stands.up ∙ ap (λ (k : ℕ). (slot_of (run script.plan done) k).node) (sym same) ∙ up) in
        let clash : true ≡ false = sym recovers ∙ ap (λ (y : PlainNode). y.recovering) (sym one) ∙ h.stands.whole in cc

    other-number : b ≡ r → ⊥
    other-number same = apart (sym (replica-at script.plan a g r role_a) ∙ ap (λ (k : ℕ). nth 0 (replicas_of script.plan g) k) (sym same) ∙ replica-at script.plan x g b role_x)

    get-there : {X : Type 0} (xs : List X) (i : ℕ) → i < length xs → (y : X) × (slice_get xs i ≡ Some y)
    get-there [] i low = absurd (omega (arith, low))
    get-there (y ∷ xs) zero low = (y, refl)
    get-there (y ∷ xs) (suc i) low = get-there xs i (omega (arith, low))
