-- In the one-thread journal who goes on from a good snapshot never recovers again: nothing that could refuse it comes before its next tick.
use Rattle.std.proofs.Common.{◌≡◌, ◌==◌, ℕ, ◌+◌, ◌<◌, ◌≤◌, true, false, not, ◌&&◌, List, [], ◌∷◌, ◌++◌, length, refl, sym, ap, subst, ◌∙◌, arith, Some, slice_get, ◌⊎◌, inl, inr}
use Rattle.std.proofs.lemmas.List.{append_assoc}
use Rattle.dpc_lists.proofs.Somes.{some-same}
use Rattle.dpc_lists.proofs.Truths.{both, eq-of, eq-test, not-of, true-not-false}
use Rattle.dpc_model.specs.Actors.{role_of, are_peers}
use Rattle.dpc_model.specs.declared.actors.Role.{Role}
use Rattle.dpc_model.specs.declared.actors.Role.TheVariants.{Source as IsSource, Node as IsNode, Client as IsClient, Nobody}
use Rattle.dpc_model.specs.declared.messages.Event.{Event}
use Rattle.dpc_model.specs.declared.messages.Event.TheVariants.{Deliver, Tick}
use Rattle.dpc_model.specs.declared.plans.Plan.{Plan}
use Rattle.dpc_model.specs.declared.scripts.Script.{Script}
use Rattle.node_model.specs.Mails.{SnapFor, Snap}
use Rattle.node_model.specs.Nodes.{PlainNode}
use Rattle.world_model.specs.Worlds.{World, Envelope, home_of, slot_of, happens, run}
use Rattle.world_model.specs.Orderly.{is_fitting, packet_way, carries_fitting}
use Rattle.world_model.specs.Schedules.{progress, is_live_so_far, lockstep_journal}
use Rattle.world_model.specs.Steady.{OpensWell}
use Rattle.world_model.proofs.Running.{run-push}
use Rattle.law_safety.proofs.Numbering.{all-at}
use Rattle.law_safety.proofs.Growing.{run-plan}
use Rattle.law_safety.proofs.Happening.{IsFine}
use Rattle.law_safety.proofs.Law.{run-good}
use Rattle.law_readers.specs.Settling.{CanSettle}
use Rattle.law_schedules.proofs.Journals.{live-far}
use Rattle.law_schedules.proofs.Lockstep.{lock-live}
use Rattle.law_settling.proofs.Along.{every-behind, live-may}
use Rattle.law_settling.proofs.Splitting.{in-quiet}
use Rattle.law_survivors.specs.Spared.{NeverAgain}
use Rattle.law_survivors.proofs.Adopting.{WasAdopted, was-adopted}
use Rattle.law_survivors.proofs.Doing.{replica-does}
use Rattle.law_survivors.proofs.Good.{good-from, CameSo, came-so}
use Rattle.law_survivors.proofs.Pending.{marks, marks_by, marks-push, comes-behind}
use Rattle.law_survivors.proofs.Recovering.{node-at, later-on}
use Rattle.law_survivors.proofs.Resting.{IsResting, IsStanding, stands-on, rests-next, rests-ticks}
use Rattle.law_survivors.proofs.Stages.{IsStaged, IsFree, free-next, staged-at, marks-few, quiet-marks, below-more, refusals-more, does-all, here, none-begins}
use Rattle.law_survivors.proofs.Standing.{tick-or, goes-on}

-- who sends a snapshot is another replica of the same fragment
pub snap-peer : (w : World) (most : ℕ) → IsFine w most → (a g r k i try : ℕ) → role_of w.plan a ≡ IsNode g r → (e : Envelope) (s : Snap) → slice_get w.envelopes k ≡ Some e → e.to ≡ a → e.packet ≡ SnapFor i try s → (c : ℕ) × (role_of w.plan e.sender ≡ IsNode g c) × (e.sender ≡ a → ⊥)
snap-peer w most fine a g r k i try role e s there to packet = by-sender (role_of w.plan e.sender) refl
  where
    way : are_peers (role_of w.plan e.sender) (IsNode g r) ≡ true
    way =
        let fits = all-at (is_fitting w.plan) w.envelopes k e fine.fits there in
        let it = (both (packet_way w.plan (role_of w.plan e.sender) (role_of w.plan e.to) e.packet) (carries_fitting w.plan (role_of w.plan e.sender) e.packet) fits).0 in
        let addressee : role_of w.plan e.to ≡ IsNode g r = ap (λ (z : ℕ). role_of w.plan z) to ∙ role in
        rw (packet, addressee) at it

    by-sender : (sender : Role) → role_of w.plan e.sender ≡ sender → (c : ℕ) × (role_of w.plan e.sender ≡ IsNode g c) × (e.sender ≡ a → ⊥)
    by-sender (IsNode f c) is =
        let peers : (f == g && not (c == r)) ≡ true = rw is at way in
        let parts = both (f == g) (not (c == r)) peers in
        let one = eq-of f g parts.0 in
        (c, is ∙ ap (λ (z : ℕ). IsNode z c) one, λ same. other c (not-of (c == r) parts.1) (number f c (sym is ∙ ap (λ (z : ℕ). role_of w.plan z) same ∙ role)))
      where
        number : (f c : ℕ) → IsNode f c ≡ IsNode g r → c ≡ r
        number f c e = cc

        other : (c : ℕ) → (c == r) ≡ false → c ≡ r → ⊥
        other c e same = true-not-false (sym (eq-test c r same) ∙ e)
    by-sender (IsSource u) is = let clash : false ≡ true = rw is at way in cc
    by-sender (IsClient u) is = let clash : false ≡ true = rw is at way in cc
    by-sender Nobody is = let clash : false ≡ true = rw is at way in cc

module _ (script : Script) (can : CanSettle script) (well : OpensWell script (lockstep_journal script)) (a g r : ℕ) (role_a : role_of script.plan a ≡ IsNode g r) where
  abbrev plan : Plan
  plan = script.plan

  abbrev live : is_live_so_far script (lockstep_journal script) ≡ true
  live = live-far script (lockstep_journal script) (lock-live script)

  abbrev Free : List Event → Type 0
  Free done = IsFree script can well a g r role_a (run script.plan done) (marks script.plan done)

  abbrev Resting : ℕ → List Event → Type 0
  Resting inc done = IsResting script (lockstep_journal script) can live well a g r role_a inc done

  abbrev Standing : ℕ → List Event → Type 0
  Standing inc done = IsStanding script (lockstep_journal script) can live well a g r role_a inc done

  -- ---- the adoption

  adopted-free : (done rest : List Event) (k : ℕ) (n o : PlainNode) → lockstep_journal script ≡ done ++ Deliver k ∷ rest → length script.phases + 3 ≤ (progress script done).phase → (slot_of (run script.plan done) a).node ≡ Some n → n.recovering ≡ true → (slot_of (happens (run script.plan done) (Deliver k)) a).node ≡ Some o → o.recovering ≡ false → Free done
  adopted-free done rest k n o is far up recovers now whole = by-stage ((staged-at script can well a g r role_a done (Deliver k ∷ rest) is (omega (arith, far))).stage n up recovers)
    where
      w : World
      w = run script.plan done

      same : (run script.plan done).plan ≡ plan
      same = run-plan plan done

      role_w : role_of (run script.plan done).plan a ≡ IsNode g r
      role_w = ap (λ (z : Plan). role_of z a) same ∙ role_a

      was : WasAdopted (run script.plan done) a k n o
      was = was-adopted w (happens w (Deliver k)) (home_of w.plan (g, r)) a k n o up recovers now whole (replica-does w (1 + length done) (run-good plan done can.plan).fine a g r role_w (Deliver k))

      peer : (c : ℕ) × (role_of plan was.envelope.sender ≡ IsNode g c)
      peer =
          let p = snap-peer w (1 + length done) (run-good plan done can.plan).fine a g r k was.it.inc was.it.try role_w was.envelope was.it.snap was.there was.to was.it.packet_is in
          (p.0, ap (λ (z : Plan). role_of z was.envelope.sender) (sym same) ∙ p.1)

      present : was.envelope.packet ≡ SnapFor n.grants.inc n.tries was.it.snap
      present = was.it.packet_is ∙ ap (λ (i : ℕ). SnapFor i was.it.try was.it.snap) was.it.inc_is ∙ ap (λ (t : ℕ). SnapFor n.grants.inc t was.it.snap) was.it.try_is

      by-stage : IsStaged script can well a g r role_a (run script.plan done) (marks script.plan done) (progress script done) n → Free done
      by-stage (IsStaged.Young h) = elim h.snaps [ inl low ↦ absurd (omega (arith, low, far)) | inr none ↦ absurd (none.0 k peer.0 was.envelope was.it.snap was.there peer.1 was.to present) ]
      by-stage (IsStaged.Older h) = elim h.snaps [
        | inl low ↦ absurd (omega (arith, low, far))
        | inr from ↦ (let high = from k peer.0 was.envelope was.it.snap was.there peer.1 was.to present in let low = (comes-behind script done rest (Deliver k) is).1 in absurd (omega (arith, high, low)))
      ]
      by-stage (IsStaged.Free h) = h

  -- ---- an event that is none of its ticks

  free-on : (done rest : List Event) (d : Event) → lockstep_journal script ≡ done ++ d ∷ rest → length script.phases < (progress script done).phase → ((clock : ℕ) → d ≡ Tick a clock → ⊥) → Free done → Free (done ++ d ∷ [])
  free-on done rest d is far apart h =
      subst (λ (m : ℕ × ℕ). IsFree script can well a g r role_a (run script.plan (done ++ d ∷ [])) m) (sym (marks-push plan done d))
      (subst (λ (v : World). IsFree script can well a g r role_a v (marks_by (run script.plan done) (marks script.plan done) d)) (sym (run-push plan done d))
      (elim (in-quiet script (progress script done) d (here script can well a g r role_a done rest d is far).at (live-may script (lockstep_journal script) done rest d live is)) [
        | inl quiet ↦
            subst (λ (m : ℕ × ℕ). IsFree script can well a g r role_a (happens (run script.plan done) d) m) (sym (quiet-marks (run script.plan done) (marks script.plan done) d quiet))
            (free-next script can well a g r role_a done rest d is far (λ clock o event there. absurd (apart clock event)) h)
        | inr o ↦
            let order = (marks-few plan done).0 in
            let w = run script.plan done in
            let m = marks script.plan done in
            let opened : IsFree script can well a g r role_a w (m.1, length w.envelopes) = record { subs = below-more script can well a g r role_a w m.0 m.1 order h.subs; refusals = refusals-more script can well a g r role_a w m.0 m.1 order h.refusals } in
            subst (λ (e : Event). IsFree script can well a g r role_a (happens w e) (marks_by w m e)) (sym o.0) opened
      ]))

  -- it does not recover behind it
  none-recovers : (done rest : List Event) (d : Event) → lockstep_journal script ≡ done ++ d ∷ rest → length script.phases < (progress script done).phase → Free done → (n o : PlainNode) → (slot_of (run script.plan done) a).node ≡ Some n → n.recovering ≡ false → (slot_of (happens (run script.plan done) d) a).node ≡ Some o → o.recovering ≡ false
  none-recovers done rest d is far free n o up whole now =
      (elim o.recovering as (λ c. o.recovering ≡ c → c ≡ false) [
        | false ↦ λ e. refl
        | true ↦ λ e. absurd (began (came-so (run plan done) (happens (run plan done) d) (home_of plan (g, r)) a d n o up now e (does-all script can well a g r role_a done rest d is far a g r role_a)))
      ]) refl
    where
      began : CameSo d n o → ⊥
      began (inl k) = true-not-false (sym k.0 ∙ whole)
      began (inr (k, event, more)) = none-begins script can well a g r role_a done rest d is far free n o up now more

  -- ---- until its tick, and behind it

  abbrev GoesWell : ℕ → List Event → Type 0
  GoesWell inc done = (Resting inc done × Free done) ⊎ Standing inc done

  well-next : (inc : ℕ) (done rest : List Event) (d : Event) → lockstep_journal script ≡ done ++ d ∷ rest → GoesWell inc done → GoesWell inc (done ++ d ∷ [])
  well-next inc done rest d is (inr h) = inr (stands-on script (lockstep_journal script) can live well a g r role_a done rest d is h.late inc h.kept)
  well-next inc done rest d is (inl (h, free)) =
      elim (tick-or a d) [
        | inl (clock, event) ↦ inr (rests-ticks script (lockstep_journal script) can live well a g r role_a done rest d is h.late inc clock event h)
        | inr apart ↦
            let far = early (progress script done).phase h.late in
            let later = later-on script (lockstep_journal script) can live well a g r role_a done rest d is h.late in
            let node = node-at script (lockstep_journal script) can live well a g r role_a (done ++ d ∷ []) rest (is ∙ sym (append_assoc done (d ∷ []) rest)) later in
            let now : (slot_of (happens (run script.plan done) d) a).node ≡ Some node.0 = ap (λ (v : World). (slot_of v a).node) (sym (run-push plan done d)) ∙ node.1 in
            let whole = none-recovers done rest d is far free h.stands.node node.0 h.stands.up h.stands.whole now in
            inl (rests-next script (lockstep_journal script) can live well a g r role_a done rest d is h.late inc h node.0 now whole apart, free-on done rest d is far apart free)
      ]
    where
      early : (p : ℕ) → length script.phases + 4 ≤ p → length script.phases < p
      early p late = omega (arith, late)

  well-whole : (inc : ℕ) (done : List Event) → GoesWell inc done → (m : PlainNode) → (slot_of (run script.plan done) a).node ≡ Some m → m.recovering ≡ false
  well-whole inc done (inl (h, free)) m up = ap (λ (y : PlainNode). y.recovering) (some-same m h.stands.node (sym up ∙ h.stands.up)) ∙ h.stands.whole
  well-whole inc done (inr h) m up = ap (λ (y : PlainNode). y.recovering) (some-same m h.kept.stands.node (sym up ∙ h.kept.stands.up)) ∙ h.kept.stands.whole

-- ---- the law

pub never-again : (script : Script) → NeverAgain script
never-again script can well x g b a r k early mid rest role_x spared role_a is h some others m at up =
    let events = lockstep_journal script in
    let so_far = live-far script events (lock-live script) in
    let done = early ++ mid in
    let good = good-from script events can so_far well x g b a r role_x spared role_a early mid (Deliver k ∷ rest) h.late (is ∙ append_assoc early mid (Deliver k ∷ rest)) in
    let late = good.late in
    let rests = goes-on script events can so_far well a g r role_a x b role_x spared early mid rest k is h in
    let free = adopted-free script can well a g r role_a done rest k h.before h.after is (omega (arith, late)) h.up h.recovered h.now h.whole in
    let free_now = free-on script can well a g r role_a done rest (Deliver k) is (omega (arith, late)) (λ clock e. let clash : Deliver k ≡ Tick a clock = e in cc) free in
    let here : events ≡ (done ++ Deliver k ∷ []) ++ rest = is ∙ sym (append_assoc done (Deliver k ∷ []) rest) in
    let all = every-behind events (done ++ Deliver k ∷ []) (λ (es : List Event). GoesWell script can well a g r role_a h.before.grants.inc es) (inl (rests, free_now)) (λ before behind d e k. well-next script can well a g r role_a h.before.grants.inc before behind d e k) some others (here ∙ ap (λ (es : List Event). (done ++ Deliver k ∷ []) ++ es) at) in
    well-whole script can well a g r role_a h.before.grants.inc ((done ++ Deliver k ∷ []) ++ some) all m up
