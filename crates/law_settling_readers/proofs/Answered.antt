-- In a live journal a session is answered in one incarnation of its sender: all deliveries of an envelope are in one phase.
use Rattle.std.proofs.Common.{◌≡◌, ℕ, ◌+◌, ◌-◌, ◌<◌, true, false, ◌&&◌, ◌==◌, nat_lt, List, [], ◌∷◌, ◌++◌, length, refl, sym, ap, subst, ◌∙◌, arith, Option, Some, None, slice_get, ◌⊎◌, inl, inr}
use Rattle.std.specs.Prelude.{is_some}
use Rattle.std.proofs.lemmas.Option.{slice_get_within}
use Rattle.dpc_lists.specs.Lists.{is_nil}
use Rattle.dpc_model.specs.Inlets.{same_sess, sess_of}
use Rattle.dpc_model.specs.Actors.{role_of, sends_stream}
use Rattle.dpc_model.specs.declared.actors.Role.{Role}
use Rattle.dpc_model.specs.declared.actors.Role.TheVariants.{Source as IsSource, Node as IsNode, Client as IsClient, Nobody}
use Rattle.dpc_model.specs.declared.messages.Event.{Event}
use Rattle.dpc_model.specs.declared.messages.Event.TheVariants.{Phase, Emit, Release, Cut, Heal, Crash, Restart, Deliver, Tick, Mill}
use Rattle.dpc_model.specs.declared.messages.Sess.{Sess}
use Rattle.dpc_model.specs.declared.plans.Plan.{Plan}
use Rattle.dpc_model.specs.declared.plans.StreamRef.{StreamRef}
use Rattle.dpc_model.specs.declared.scripts.Script.{Script}
use Rattle.node_model.specs.Nodes.{PlainNode}
use Rattle.world_model.specs.Worlds.{World, Envelope, slot_of, is_up, link_up, role_up, happens, run, new_world}
use Rattle.world_model.specs.Safe.{EachStep}
use Rattle.world_model.specs.SessionLaw.{Channel}
use Rattle.world_model.specs.Schedules.{Undelivered, Progress, next_progress, progress, may_follow, may_come, may_deliver, is_free, is_live_so_far, is_first_of_its_way, delivery_made, newly_sent}
use Rattle.law_safety.specs.Plans.{IsCheckedPlan}
use Rattle.dpc_lists.proofs.Truths.{both, eq-of}
use Rattle.dpc_lists.proofs.Elements.{nil-of}
use Rattle.dpc_model.proofs.Alike.{same_sess-eq}
use Rattle.world_model.proofs.Running.{not-next}
use Rattle.law_safety.proofs.Happening.{IsFine}
use Rattle.law_safety.proofs.Law.{run-good}
use Rattle.dpc_lists.proofs.Each.{Each, each-append}
use Rattle.law_granting.specs.Taken.{subscribes, subscribes_packet, node_inc, role_inc, IsAnsweredIn}
use Rattle.law_readers.specs.Newest.{IsPortOf}
use Rattle.law_schedules.proofs.Journals.{progress-run}
use Rattle.law_session_origins.proofs.Opening.{answered-run}
use Rattle.law_session_origins.proofs.FirstSession.{new_world-past}
use Rattle.world_model.specs.Events.{is_quiet}
use Rattle.law_safety.proofs.Growing.{run-plan}
use Rattle.law_settling.proofs.Along.{every-prefix, progress-push, live-may}
use Rattle.law_settling.proofs.Fresh.{still-sent}
use Rattle.law_settling.proofs.Seen.{answered-first}
use Rattle.law_settling_readers.proofs.Once.{asks_so, only-one}
use Rattle.law_settling_readers.proofs.Comings.{IsComing, coming-of, not-gone, each-push, each-weak, run-is, inc-stays}
use Rattle.law_settling_readers.proofs.Orderly.{each-next, each-sent, each-opened, IsOrderly, orderly-next, delivered-pending}

-- ---- along a live journal

module _ (script : Script) (events : List Event) (checked : IsCheckedPlan script.plan) (live : is_live_so_far script events ≡ true) (x p a f r : ℕ) (s : StreamRef) (u : Sess) (port : IsPortOf script.plan x p s) (sends : sends_stream s (role_of script.plan a) ≡ true) (role : role_of script.plan a ≡ IsNode f r) where
  abbrev Line : Channel
  Line = record { sender = a; reader = x; sess = u }

  -- all came in this incarnation
  abbrev CameIn : ℕ → World → Event → Type 0
  CameIn i w e = subscribes Line w e ≡ true → role_inc w a (role_of w.plan a) ≡ i

  abbrev NoneCame : World → Event → Type 0
  NoneCame w e = subscribes Line w e ≡ true → ⊥

  -- in the phase of its delivery the sender stays in its incarnation
  record IsInPhase (i m : ℕ) (z : Progress) : Type 0 where
    done : z.todo ≡ []
    node : PlainNode
    up : (slot_of z.world a).node ≡ Some node
    inc : node.grants.inc ≡ i
    due : Each (λ (y : Undelivered). y.number ≡ m → y.pending ≡ true) z.waiting

  abbrev IsGone : ℕ → Progress → Type 0
  IsGone m z = Each (λ (y : Undelivered). y.number ≡ m → ⊥) z.waiting

  record HasCome (i : ℕ) (z : Progress) : Type 0 where
    number : ℕ
    envelope : Envelope
    there : slice_get z.world.envelopes number ≡ Some envelope
    asks : asks_so Line envelope ≡ true
    left : IsInPhase i number z ⊎ IsGone number z

  abbrev Inv : List Event → Type 0
  Inv done = IsOrderly (progress script done) × (EachStep NoneCame (new_world script.plan) done ⊎ ((i : ℕ) × EachStep (CameIn i) (new_world script.plan) done × HasCome i (progress script done)))

  gone-next : (m : ℕ) (z : Progress) (e : Event) → m < length z.world.envelopes → IsGone m z → IsGone m (next_progress script z e)
  gone-next m z e low gone =
      each-next script z e (λ (y : Undelivered). y.number ≡ m → ⊥) (λ (y : Undelivered). y.number ≡ m → ⊥)
      (record { left = λ y n one none. none; same = λ y none. none; due = λ ds y no none. none; new = λ k high same. omega (arith, low, high, same) }) gone

  due-next : (m : ℕ) (z : Progress) (e : Event) → is_quiet e ≡ true → m < length z.world.envelopes → Each (λ (y : Undelivered). y.number ≡ m → y.pending ≡ true) z.waiting → Each (λ (y : Undelivered). y.number ≡ m → y.pending ≡ true) (next_progress script z e).waiting
  due-next m z e quiet low due =
      each-next script z e (λ (y : Undelivered). y.number ≡ m → y.pending ≡ true) (λ (y : Undelivered). y.number ≡ m → y.pending ≡ true)
      (record { left = λ y n one h. h; same = λ y h. h; due = λ ds y no h same. refl; new = λ k high same. absurd (omega (arith, low, high, same)) }) due

  opened-gone : (m : ℕ) (z : Progress) (q : ℕ) → m < length z.world.envelopes → Each (λ (y : Undelivered). y.number ≡ m → y.pending ≡ true) z.waiting → IsGone m (next_progress script z (Phase q))
  opened-gone m z q low due =
      each-opened script z q (λ (y : Undelivered). y.number ≡ m → y.pending ≡ true) (λ (y : Undelivered). y.number ≡ m → ⊥)
      (λ ds y no h same. let yes = h same in let clash : true ≡ false = sym yes ∙ no in cc) (λ k high same. omega (arith, low, high, same)) due

  role-in : (done : List Event) → role_of (run script.plan done).plan a ≡ IsNode f r
  role-in done = ap (λ (z : Plan). role_of z a) (run-plan script.plan done) ∙ role

  -- the envelope that came, an event later
  come-next : (done : List Event) (i : ℕ) (e : Event) → may_follow script (progress script done) e ≡ true → HasCome i (progress script done) → HasCome i (next_progress script (progress script done) e)
  come-next done i e may h =
      let z = progress script done in
      let low = slice_get_within z.world.envelopes h.number h.envelope h.there in
      record {
        number = h.number;
        envelope = h.envelope;
        there = still-sent z.world e h.number h.envelope h.there;
        asks = h.asks;
        left = elim h.left [
          | inr gone ↦ inr (gone-next h.number z e low gone)
          | inl here ↦ on e may low here
        ];
      }
    where
      quiet-on : (d : Event) → is_quiet d ≡ true → h.number < length (progress script done).world.envelopes → (next_progress script (progress script done) d).todo ≡ (progress script done).todo → IsInPhase i h.number (progress script done) → IsInPhase i h.number (next_progress script (progress script done) d)
      quiet-on d quiet low todo here =
          let z = progress script done in
          let same = progress-run script done in
          let fine = subst (λ (w : World). IsFine w (1 + length done)) (sym same) (run-good script.plan done checked).fine in
          let role_z : role_of z.world.plan a ≡ IsNode f r = ap (λ (w : World). role_of w.plan a) same ∙ role-in done in
          let n = inc-stays z.world (1 + length done) a f r fine role_z d quiet here.node here.up in
          record { done = todo ∙ here.done; node = n.0; up = n.1; inc = n.2 ∙ here.inc; due = due-next h.number z d quiet low here.due }

      on : (d : Event) → may_follow script (progress script done) d ≡ true → h.number < length (progress script done).world.envelopes → IsInPhase i h.number (progress script done) → IsInPhase i h.number (next_progress script (progress script done) d) ⊎ IsGone h.number (next_progress script (progress script done) d)
      on (Deliver k) m low here = inl (quiet-on (Deliver k) refl low refl here)
      on (Tick b now) m low here = inl (quiet-on (Tick b now) refl low refl here)
      on (Mill b q) m low here = inl (quiet-on (Mill b q) refl low refl here)
      on (Phase q) m low here = inr (opened-gone h.number (progress script done) q low here.due)
      on (Emit b t) m low here = absurd (not-next (progress script done) (Emit b t) here.done m)
      on (Release b t) m low here = absurd (not-next (progress script done) (Release b t) here.done m)
      on (Cut b c) m low here = absurd (not-next (progress script done) (Cut b c) here.done m)
      on (Heal b c) m low here = absurd (not-next (progress script done) (Heal b c) here.done m)
      on (Crash b) m low here = absurd (not-next (progress script done) (Crash b) here.done m)
      on (Restart b j) m low here = absurd (not-next (progress script done) (Restart b j) here.done m)

  -- its first delivery
  first-come : (done : List Event) (e : Event) → may_follow script (progress script done) e ≡ true → IsOrderly (progress script done) → (c : IsComing Line (run script.plan done) e) → HasCome (role_inc (run script.plan done) a (role_of (run script.plan done).plan a)) (next_progress script (progress script done) e)
  first-come done e may orderly c =
      let z = progress script done in
      let w = run script.plan done in
      let same = progress-run script done in
      let there : slice_get z.world.envelopes c.number ≡ Some c.envelope = ap (λ (v : World). slice_get v.envelopes c.number) same ∙ c.there in
      subst (λ (d : Event). HasCome (role_inc w a (role_of w.plan a)) (next_progress script z d)) (sym c.event)
      (record {
        number = c.number;
        envelope = c.envelope;
        there = still-sent z.world (Deliver c.number) c.number c.envelope there;
        asks = c.asks;
        left = inl (in-phase there (subst (λ (d : Event). may_follow script z d ≡ true) c.event may));
      })
    where
      sender-up : (n : Option PlainNode) → (slot_of (run script.plan done) a).node ≡ n → is_up (run script.plan done) a ≡ true → (m : PlainNode) × ((slot_of (run script.plan done) a).node ≡ Some m)
      sender-up (Some n) up h = (n, up)
      sender-up None up h =
          let w = run script.plan done in
          let is : role_up w a (IsNode f r) ≡ true = ap (λ (o : Role). role_up w a o) (sym (role-in done)) ∙ h in
          let none : false ≡ true = sym (ap (λ (o : Option PlainNode). is_some o) up) ∙ is in cc

      todo-of : (z : Progress) → is_nil z.todo ≡ true → z.todo ≡ []
      todo-of z h = nil-of z.todo h

      in-phase : slice_get (progress script done).world.envelopes c.number ≡ Some c.envelope → may_follow script (progress script done) (Deliver c.number) ≡ true → IsInPhase (role_inc (run script.plan done) a (role_of (run script.plan done).plan a)) c.number (next_progress script (progress script done) (Deliver c.number))
      in-phase there may_it =
          let z = progress script done in
          let w = run script.plan done in
          let same = progress-run script done in
          let parts = both (is_free z) (may_deliver z c.number) may_it in
          let free = both (nat_lt 0 z.phase) (is_nil z.todo) parts.0 in
          let asked = both (c.envelope.sender == x && c.envelope.to == a) (subscribes_packet u c.envelope.packet) c.asks in
          let to = eq-of c.envelope.to a (both (c.envelope.sender == x) (c.envelope.to == a) asked.0).1 in
          let can = both (link_up w c.envelope.sender c.envelope.to) (is_up w c.envelope.to) c.can in
          let node = sender-up (slot_of w a).node refl (ap (λ (b : ℕ). is_up w b) (sym to) ∙ can.1) in
          let inc : role_inc w a (role_of w.plan a) ≡ node.0.grants.inc = ap (λ (o : Role). role_inc w a o) (role-in done) ∙ ap (λ (o : Option PlainNode). node_inc o) node.1 in
          let fine = subst (λ (v : World). IsFine v (1 + length done)) (sym same) (run-good script.plan done checked).fine in
          let role_z : role_of z.world.plan a ≡ IsNode f r = ap (λ (v : World). role_of v.plan a) same ∙ role-in done in
          let n = inc-stays z.world (1 + length done) a f r fine role_z (Deliver c.number) refl node.0 (ap (λ (v : World). (slot_of v a).node) same ∙ node.1) in
          let low = slice_get_within z.world.envelopes c.number c.envelope there in
          record {
            done = todo-of z free.1;
            node = n.0;
            up = n.1;
            inc = n.2 ∙ sym inc;
            due = each-append (λ (y : Undelivered). y.number ≡ c.number → y.pending ≡ true) (delivery_made c.number z.waiting) (newly_sent z.world (happens z.world (Deliver c.number)))
                (delivered-pending c.number 0 (length z.world.envelopes) z.waiting orderly.rising orderly.fresh)
                (each-sent (λ (y : Undelivered). y.number ≡ c.number → y.pending ≡ true) (length z.world.envelopes) (length (happens z.world (Deliver c.number)).envelopes - length z.world.envelopes) (λ k high it. absurd (omega (arith, low, high, it))));
          }

  -- the incarnation is the same at each further delivery
  again : (done : List Event) (i : ℕ) (e : Event) → may_follow script (progress script done) e ≡ true → HasCome i (progress script done) → IsComing Line (run script.plan done) e → role_inc (run script.plan done) a (role_of (run script.plan done).plan a) ≡ i
  again done i e may h c =
      let z = progress script done in
      let w = run script.plan done in
      let same = progress-run script done in
      let one : h.number ≡ c.number = only-one script.plan x p (λ b. b == a) s u checked port (λ b is. ap (λ (o : ℕ). sends_stream s (role_of script.plan o)) (eq-of b a is) ∙ sends) done h.number c.number h.envelope c.envelope (ap (λ (v : World). slice_get v.envelopes h.number) (sym same) ∙ h.there) c.there h.asks c.asks in
      elim h.left [
        | inl here ↦ ap (λ (o : Role). role_inc w a o) (role-in done) ∙ ap (λ (o : Option PlainNode). node_inc o) (ap (λ (v : World). (slot_of v a).node) (sym same) ∙ here.up) ∙ here.inc
        | inr gone ↦
            let may_it = subst (λ (d : Event). may_follow script z d ≡ true) c.event may in
            let parts = both (is_free z) (may_deliver z c.number) may_it in
            let way = both (may_come z.world (slice_get z.world.envelopes c.number)) (is_first_of_its_way z.world c.number z.waiting) parts.1 in
            absurd (not-gone z.world c.number z.waiting way.1 (subst (λ (m : ℕ). IsGone m z) one gone))
      ]

  inv-next : (done rest : List Event) (e : Event) → events ≡ done ++ e ∷ rest → Inv done → Inv (done ++ e ∷ [])
  inv-next done rest e is h =
      let z = progress script done in
      let w = run script.plan done in
      let may = live-may script events done rest e live is in
      let push = progress-push script done e in
      let run_is = run-is script.plan done in (
        subst IsOrderly (sym push) (orderly-next script z e h.0),
        elim h.1 [
          | inr come ↦
              let i = come.0 in
              inr (
                i,
                each-push (CameIn i) (new_world script.plan) done e come.1 (subst (λ (v : World). CameIn i v e) run_is (λ asks. again done i e may come.2 (coming-of Line w e asks))),
                subst (HasCome i) (sym push) (come-next done i e may come.2),
              )
          | inl none ↦
              (elim (subscribes Line w e) as (λ b. subscribes Line w e ≡ b → EachStep NoneCame (new_world script.plan) (done ++ e ∷ []) ⊎ ((i : ℕ) × EachStep (CameIn i) (new_world script.plan) (done ++ e ∷ []) × HasCome i (progress script (done ++ e ∷ [])))) [
                | false ↦ λ no. inl (each-push NoneCame (new_world script.plan) done e none (subst (λ (v : World). NoneCame v e) run_is (λ yes. let clash : true ≡ false = sym yes ∙ no in cc)))
                | true ↦ λ yes.
                    let i = role_inc w a (role_of w.plan a) in
                    inr (
                      i,
                      each-push (CameIn i) (new_world script.plan) done e (each-weak NoneCame (CameIn i) (new_world script.plan) done (λ v d no it. absurd (no it)) none) (subst (λ (v : World). CameIn i v e) run_is (λ asks. refl)),
                      subst (HasCome i) (sym push) (first-come done e may h.0 (coming-of Line w e yes)),
                    )
              ]) refl
        ],
      )

  first-inv : Inv []
  unfolding progress
  first-inv = (record { rising = omega arith; fresh = tt }, inl tt)

  pub one-answer : (done rest : List Event) → events ≡ done ++ rest → same_sess (sess_of 1 1) u ≡ false → (i : ℕ) × IsAnsweredIn script.plan done Line i
  one-answer done rest is later =
      let opening : (i : ℕ) → same_sess (sess_of 1 1) u ≡ true → i ≡ 1 = λ i yes. (let clash : true ≡ false = sym yes ∙ later in cc) in
      elim (every-prefix events Inv first-inv inv-next done rest is).1 [
        | inl none ↦ (0, record { opening = opening 0; subscribed = each-weak NoneCame (CameIn 0) (new_world script.plan) done (λ v d no it. absurd (no it)) none })
        | inr come ↦ (come.0, record { opening = opening come.0; subscribed = come.1 })
      ]

-- each session of a port was answered in one incarnation of each sender of the stream
pub answered-once : (script : Script) (events : List Event) → IsCheckedPlan script.plan → is_live_so_far script events ≡ true → (x p a : ℕ) (s : StreamRef) (u : Sess) → IsPortOf script.plan x p s → sends_stream s (role_of script.plan a) ≡ true →
    (done rest : List Event) → events ≡ done ++ rest → (i : ℕ) × IsAnsweredIn script.plan done (record { sender = a; reader = x; sess = u }) i
answered-once script events checked live x p a s u port sends done rest is =
    (elim (same_sess (sess_of 1 1) u) as (λ b. same_sess (sess_of 1 1) u ≡ b → (i : ℕ) × IsAnsweredIn script.plan done (record { sender = a; reader = x; sess = u }) i) [
      | true ↦ λ first. (1, record { opening = λ e. refl; subscribed = answered-run (record { sender = a; reader = x; sess = u }) (new_world script.plan) done (sym (same_sess-eq (sess_of 1 1) u first)) (new_world-past script.plan) })
      | false ↦ λ later. by-role (role_of script.plan a) refl later
    ]) refl
  where
    by-role : (role : Role) → role_of script.plan a ≡ role → same_sess (sess_of 1 1) u ≡ false → (i : ℕ) × IsAnsweredIn script.plan done (record { sender = a; reader = x; sess = u }) i
    by-role (IsSource v) role later = (1, answered-first script.plan done (record { sender = a; reader = x; sess = u }) v role)
    by-role (IsNode f r) role later = one-answer script events checked live x p a f r s u port sends role done rest is later
    by-role (IsClient c) role later = let no : false ≡ true = ap (λ (o : Role). sends_stream s o) (sym role) ∙ sends in cc
    by-role Nobody role later = let no : false ≡ true = ap (λ (o : Role). sends_stream s o) (sym role) ∙ sends in cc
