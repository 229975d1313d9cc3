-- Session (1, 1) is opened by the opening, and what a port took in it are the first batches sent in it.
use Rattle.std.proofs.Common.{◌≡◌, Bool, true, false, cond, ◌&&◌, ◌==◌, List, [], ◌∷◌, length, drop, refl, sym, ap, ◌∙◌, arith, Option, Some, None, slice_get, unwrap_or}
use Rattle.std.proofs.lemmas.Grind.{common_steps}
use Rattle.dpc_model.specs.Inlets.{same_sess, sess_of}
use Rattle.dpc_model.specs.Actors.{role_of}
use Rattle.dpc_model.specs.declared.messages.Event.{Event}
use Rattle.dpc_model.specs.declared.messages.Event.TheVariants.{Phase, Emit, Release, Cut, Heal, Crash, Restart, Deliver, Tick, Mill}
use Rattle.dpc_model.specs.declared.messages.Message.TheVariants as message
use Rattle.dpc_model.specs.declared.messages.Sess.{Sess}
use Rattle.dpc_model.specs.declared.messages.Subscribe.{Subscribe}
use Rattle.dpc_model.specs.declared.plans.Plan.{Plan}
use Rattle.node_model.specs.Mails.{Packet, Plain, SnapFor}
use Rattle.world_model.specs.Worlds.{World, can_come, happens, new_world}
use Rattle.world_model.specs.Safe.{EachStep}
use Rattle.world_model.specs.SessionLaw.{Channel}
use Rattle.law_safety.specs.Plans.{IsCheckedPlan}
use Rattle.law_sessions.specs.Openings.{first_subscription, packet_asks, asks_for, brings, has_first, asked_next, opened_by}
use Rattle.law_granting.specs.Taken.{subscribes_packet, envelope_subscribes, subscribes, role_inc, line_of}
use Rattle.law_granting.proofs.First.{prefix-taken}
use Rattle.law_session_origins.specs.FirstSession.{FirstIsOpening, FirstPrefixTaken}
use Rattle.law_session_origins.proofs.FirstSession.{IsPastWorld, event-past, new_world-past}

-- ---- what opened it

same-other : (a b c : Sess) → same_sess b c ≡ true → same_sess a c ≡ false → same_sess a b ≡ false
same-other a b c e f = grind (arith, common_steps)

none-asks : (l : Channel) (p : Packet) → same_sess l.sess (sess_of 1 1) ≡ true → subscribes_packet (sess_of 1 1) p ≡ false → packet_asks l p ≡ None
none-asks l (Plain (message.Subscribe asked)) first e = let other = same-other asked.sess l.sess (sess_of 1 1) first e in rw other refl
none-asks l (Plain (message.Batch s index items)) first e = refl
none-asks l (Plain (message.Truncated s base)) first e = refl
none-asks l (Plain (message.Beat b)) first e = refl
none-asks l (Plain (message.Ack i n)) first e = refl
none-asks l (Plain (message.Ask i n)) first e = refl
none-asks l (Plain (message.Grant i n)) first e = refl
none-asks l (Plain (message.SnapAsk i n)) first e = refl
none-asks l (SnapFor i try s) first e = refl

pub brings-none : (l : Channel) (w : World) (e : Event) → same_sess l.sess (sess_of 1 1) ≡ true → IsPastWorld w → brings l w e ≡ None
brings-none l w (Deliver k) first h =
    (elim (slice_get w.envelopes k) as (λ o. slice_get w.envelopes k ≡ o → elim o as (λ _. Option Subscribe) [ None ↦ None | Some e ↦ asks_for l e ] ≡ None) [
      | None ↦ λ there. refl
      | Some e ↦ λ there. elim (e.sender == l.reader && e.to == l.sender) as (λ b. cond b (packet_asks l e.packet) None ≡ None) [ true ↦ none-asks l e.packet first (h.sent k e there) | false ↦ refl ]
    ]) refl
brings-none l w (Phase p) first h = refl
brings-none l w (Emit s t) first h = refl
brings-none l w (Release s t) first h = refl
brings-none l w (Cut a b) first h = refl
brings-none l w (Heal a b) first h = refl
brings-none l w (Crash a) first h = refl
brings-none l w (Restart a i) first h = refl
brings-none l w (Tick a now) first h = refl
brings-none l w (Mill a r) first h = refl

opening-run : (l : Channel) (asked : Subscribe) (w : World) (events : List Event) → same_sess l.sess (sess_of 1 1) ≡ true → IsPastWorld w → opened_by l asked w events ≡ asked
opening-run l asked w [] first h = refl
opening-run l asked w (e ∷ events) first h = ap (λ (x : Subscribe). opened_by l x (happens w e) events) same ∙ opening-run l asked (happens w e) events first (event-past w e h)
  where
    same : asked_next l asked w e ≡ asked
    same =
        let none = brings-none l w e first h in
        elim (has_first l (drop (length w.envelopes) (happens w e).envelopes)) as (λ b. cond b (unwrap_or (brings l w e) asked) asked ≡ asked) [ true ↦ rw none refl | false ↦ refl ]

pub first-opening : (plan : Plan) (events : List Event) → FirstIsOpening plan events
first-opening plan events l first = opening-run l (first_subscription l) (new_world plan) events first (new_world-past plan)

-- ---- what was taken in it

never-subscribes : (l : Channel) (w : World) (e : Event) → l.sess ≡ sess_of 1 1 → IsPastWorld w → subscribes l w e ≡ false
never-subscribes l w (Deliver k) first h =
    (elim (slice_get w.envelopes k) as (λ o. slice_get w.envelopes k ≡ o → envelope_subscribes l w o ≡ false) [
      | None ↦ λ there. refl
      | Some e ↦ λ there.
          let none : subscribes_packet l.sess e.packet ≡ false = ap (λ (u : Sess). subscribes_packet u e.packet) first ∙ h.sent k e there in
          refused (e.sender == l.reader && e.to == l.sender) (subscribes_packet l.sess e.packet) (can_come w e) none
    ]) refl
  where
    refused : (a b c : Bool) → b ≡ false → (a && b && c) ≡ false
    refused true true c e = cc
    refused true false c e = refl
    refused false b c e = refl
never-subscribes l w (Phase p) first h = refl
never-subscribes l w (Emit s t) first h = refl
never-subscribes l w (Release s t) first h = refl
never-subscribes l w (Cut a b) first h = refl
never-subscribes l w (Heal a b) first h = refl
never-subscribes l w (Crash a) first h = refl
never-subscribes l w (Restart a i) first h = refl
never-subscribes l w (Tick a now) first h = refl
never-subscribes l w (Mill a r) first h = refl

pub answered-run : (l : Channel) (w : World) (events : List Event) → l.sess ≡ sess_of 1 1 → IsPastWorld w → EachStep (λ w e. subscribes l w e ≡ true → role_inc w l.sender (role_of w.plan l.sender) ≡ 1) w events
answered-run l w [] first h = tt
answered-run l w (e ∷ events) first h = (λ yes. let none = never-subscribes l w e first h in let clash : true ≡ false = sym yes ∙ none in cc, answered-run l (happens w e) events first (event-past w e h))

pub first-prefix : (plan : Plan) (events : List Event) → IsCheckedPlan plan → FirstPrefixTaken plan events
first-prefix plan events checked x p s q input there first =
    let l = line_of plan x s q in prefix-taken plan events checked x p 1 s q input there (record { opening = λ e. refl; subscribed = answered-run l (new_world plan) events first (new_world-past plan) })
