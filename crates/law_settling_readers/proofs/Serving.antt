-- What an event of a quiet phase makes of a reader's session at a finished replica, and what the replica sends it.
use Rattle.std.proofs.Common.{◌≡◌, ℕ, ◌+◌, ◌<◌, ◌≤◌, true, false, ◌&&◌, ◌==◌, nat_le, nat_lt, List, [], ◌∷◌, ◌++◌, map, length, refl, sym, ap, subst, ◌∙◌, arith, Some, slice_get, ◌⊎◌, inl, inr}
use Rattle.dpc_lists.specs.Lists.{nth, changed, place_of}
use Rattle.dpc_model.specs.Limits.{most_milled}
use Rattle.dpc_model.specs.Actors.{role_of, readers_of}
use Rattle.dpc_model.specs.NodeStates.{is_up_failure}
use Rattle.dpc_model.specs.Sessions.{first_batch, is_newer_than_kept, tally_of, no_session}
use Rattle.dpc_model.specs.declared.actors.Role.TheVariants.{Source as IsSource, Node as IsNode, Client as IsClient}
use Rattle.dpc_model.specs.declared.messages.Event.{Event}
use Rattle.dpc_model.specs.declared.messages.Event.TheVariants.{Deliver, Tick}
use Rattle.dpc_model.specs.declared.messages.Subscribe.{Subscribe}
use Rattle.dpc_model.specs.declared.messages.Message.TheVariants as message
use Rattle.dpc_model.specs.declared.plans.StreamRef.TheVariants.{Frag}
use Rattle.node_model.specs.Mails.{Plain, Mail, mail, Stepped}
use Rattle.node_model.specs.Nodes.{Home, PlainNode, buckets_of, ready, shown}
use Rattle.node_model.specs.NodeSteps.{with_marks_ended, packet_step, mill_step, tick_step, beat_of}
use Rattle.node_model.specs.Sources.{source_packet_step, source_tick_step}
use Rattle.node_model.specs.Clients.{client_after_packet, client_tick_step}
use Rattle.world_model.specs.Worlds.{World, Envelope, Slot, home_of, slot_of, source_at, client_at, from, node_stepped, source_stepped, client_stepped, can_come, can_mill, happens}
use Rattle.dpc_lists.proofs.Truths.{both, le-of}
use Rattle.dpc_lists.proofs.Somes.{some-same}
use Rattle.node_model.proofs.Mailed.{subscribe-is}
use Rattle.law_safety.proofs.Emptied.{shape-of}
use Rattle.law_safety.proofs.EventCases.{AreCases, by-event}
use Rattle.law_safety.proofs.Happening.{IsFine, node-here}
use Rattle.law_safety.proofs.Promises.{slot-here}
use Rattle.dpc_lists.proofs.Each.{Each}
use Rattle.law_granting.proofs.Asked.{same-or, each-unit}
use Rattle.law_granting.proofs.Slots.{slot-there, got-sent}
use Rattle.law_schedules.specs.Journals.{Ticks}
use Rattle.world_model.specs.Events.{is_quiet}
use Rattle.law_settling.specs.Finished.{IsFinished}
use Rattle.law_settling.proofs.Answering.{opened_sub}
use Rattle.law_settling.proofs.PortSteps.{sent-place}
use Rattle.law_settling.proofs.Nodes.{node-took-world, node-ticked-now}
use Rattle.law_settling_readers.proofs.Replying.{is_reply, NoReply, refused_sub, NodeDid, packet-did}
use Rattle.law_settling_readers.proofs.Telling.{ticked-tells}

-- the replica sends the reader no batch and no truncation
abbrev pub NoNewReply : World → ℕ → ℕ → World → Type 0
NoNewReply w a x next = (j : ℕ) (g : Envelope) → slice_get next.envelopes j ≡ Some g → g.sender ≡ a → g.to ≡ x → is_reply g.packet ≡ true → slice_get w.envelopes j ≡ Some g

abbrev pub answer_from : Home → ℕ → ℕ → PlainNode → Subscribe → Envelope
answer_from home a x n v = from a (mail x (message.Batch v.sess 0 (first_batch (shown home (with_marks_ended n)) v)))

abbrev pub refusal_from : ℕ → ℕ → PlainNode → Subscribe → Envelope
refusal_from a x n v = from a (mail x (message.Truncated v.sess n.base))

-- the reader's subscription to a newer session
pub record IsAskedFor (w : World) (a x k : ℕ) (n : PlainNode) (j : ℕ) (g : Envelope) (v : Subscribe) : Type 0 where
  pub there : slice_get w.envelopes j ≡ Some g
  pub sender : g.sender ≡ x
  pub to : g.to ≡ a
  pub packet : g.packet ≡ Plain (message.Subscribe v)
  pub newer : is_newer_than_kept v.sess (nth no_session n.subs k).kept ≡ true

-- the reader's session stays, or a newer one is answered, or refused
pub data ReplicaGoes (w : World) (home : Home) (x a k : ℕ) (n m : PlainNode) (next : World) : Type 0 where
  KeepsSub : nth no_session m.subs k ≡ nth no_session n.subs k → NoNewReply w a x next → ReplicaGoes w home x a k n m next
  Opens : (j : ℕ) (g : Envelope) (v : Subscribe) → IsAskedFor w a x k n j g v → nth no_session m.subs k ≡ opened_sub v → next.envelopes ≡ w.envelopes ++ answer_from home a x n v ∷ [] → ReplicaGoes w home x a k n m next
  Refuses : (j : ℕ) (g : Envelope) (v : Subscribe) → IsAskedFor w a x k n j g v → nat_lt v.n n.base ≡ true → nth no_session m.subs k ≡ refused_sub v → next.envelopes ≡ w.envelopes ++ refusal_from a x n v ∷ [] → ReplicaGoes w home x a k n m next

milled-cursor : (home : Home) (r : ℕ) (n : PlainNode) → (mill_step home r n).after.cursor ≡ n.cursor + r
unfolding mill_step
milled-cursor home r n = refl

module _ (w : World) (most x f r a k : ℕ) (fine : IsFine w most) (role : role_of w.plan a ≡ IsNode f r) (placed : place_of (λ b. x == b) (readers_of w.plan (Frag f)) ≡ Some k) (low : k < length (readers_of w.plan (Frag f))) (back : nth 0 (readers_of w.plan (Frag f)) k ≡ x) where
  abbrev Here : Home
  Here = home_of w.plan (f, r)

  abbrev Goes : PlainNode → World → Type 0
  Goes n next = ((m : PlainNode) → (slot_of next a).node ≡ Some m → IsFinished Here m) → (m : PlainNode) × ((slot_of next a).node ≡ Some m) × ReplicaGoes w Here x a k n m next

  few : (n : PlainNode) → (slot_of w a).node ≡ Some n → k < length n.subs
  few n up = let many = (shape-of Here most n (node-here w most a f r n fine role up).orderly.shape).subs in omega (arith, many, low)

  -- mails of another actor
  others-none : (b : ℕ) (ms : List Mail) (next : World) → (a ≡ b → ⊥) → next.envelopes ≡ w.envelopes ++ map (from b) ms → NoNewReply w a x next
  others-none b ms next other sends j g there sender to reply =
      elim (got-sent (λ m. Unit {0}) b w.envelopes ms j g (each-unit ms) (sym (ap (λ (es : List Envelope). slice_get es j) sends) ∙ there)) [
        | inl old ↦ old
        | inr new ↦ absurd (other (sym sender ∙ ap (λ (z : Envelope). z.sender) new.1))
      ]

  -- mails that are no replies
  quiet-none : (b : ℕ) (ms : List Mail) (next : World) → Each (NoReply x) ms → next.envelopes ≡ w.envelopes ++ map (from b) ms → NoNewReply w a x next
  quiet-none b ms next none sends j g there sender to reply =
      elim (got-sent (NoReply x) b w.envelopes ms j g none (sym (ap (λ (es : List Envelope). slice_get es j) sends) ∙ there)) [
        | inl old ↦ old
        | inr new ↦
            let no : is_reply g.packet ≡ false = ap (λ (z : Envelope). is_reply z.packet) new.1 ∙ new.2 (sym (ap (λ (z : Envelope). z.to) new.1) ∙ to) in
            let clash : true ≡ false = sym reply ∙ no in cc
      ]

  same-none : (next : World) → next.envelopes ≡ w.envelopes → NoNewReply w a x next
  same-none next sends j g there sender to reply = sym (ap (λ (es : List Envelope). slice_get es j) sends) ∙ there

  rests : (n : PlainNode) (next : World) → (slot_of next a).node ≡ Some n → NoNewReply w a x next → Goes n next
  rests n next up none done = (n, up, KeepsSub refl none)

  -- a node's step: its own, or another's
  steps : (y g q : ℕ) (c : PlainNode) (t : Stepped PlainNode) (n : PlainNode) → role_of w.plan y ≡ IsNode g q → (slot_of w y).node ≡ Some c → (slot_of w a).node ≡ Some n →
      (a ≡ y → home_of w.plan (g, q) ≡ Here → c ≡ n → IsFinished Here t.after → ReplicaGoes w Here x a k n t.after (node_stepped y t w)) → Goes n (node_stepped y t w)
  steps y g q c t n role_y up here own done =
      elim (same-or a y) [
        | inr other ↦
            rests n (node_stepped y t w) (ap (λ (z : Slot). z.node) (slot-there w y a g q f r (λ (z : Slot). record z { node = Some t.after }) role_y role other) ∙ here) (others-none y t.sends (node_stepped y t w) other refl) done
        | inl same ↦
            let slot : slot_of (node_stepped y t w) y ≡ record (slot_of w y) { node = Some t.after } = slot-here w most y g q (λ (z : Slot). record z { node = Some t.after }) fine role_y in
            let now : (slot_of (node_stepped y t w) a).node ≡ Some t.after = ap (λ (z : ℕ). (slot_of (node_stepped y t w) z).node) same ∙ ap (λ (z : Slot). z.node) slot in
            let one : c ≡ n = some-same c n (sym up ∙ ap (λ (z : ℕ). (slot_of w z).node) (sym same) ∙ here) in
            let roles : IsNode g q ≡ IsNode f r = sym role_y ∙ ap (λ (z : ℕ). role_of w.plan z) (sym same) ∙ role in
            (t.after, now, own same (same-home g q roles) one (done t.after now))
      ]
    where
      same-home : (g q : ℕ) → IsNode g q ≡ IsNode f r → home_of w.plan (g, q) ≡ home_of w.plan (f, r)
      same-home g q e = let one : g ≡ f = cc in let two : q ≡ r = cc in rw (one, two) refl

  -- what the step did, in the world
  did-goes : (j z : ℕ) (g : Envelope) (n : PlainNode) (t : Stepped PlainNode) (next : World) → slice_get w.envelopes j ≡ Some g → g.to ≡ a → next.envelopes ≡ w.envelopes ++ map (from a) t.sends → NodeDid (shown Here (with_marks_ended n)) x k g.sender g.packet (with_marks_ended n) t → ReplicaGoes w Here x a k n t.after next
  did-goes j z g n t next sent to sends (NodeDid.Left sub none not_asked) = KeepsSub sub (quiet-none a t.sends next none sends)
  did-goes j z g n t next sent to sends (NodeDid.Answers v asked sub mails) =
      Opens j g v (record { there = sent; sender = asked.from; to = to; packet = asked.packet_is; newer = asked.newer }) sub (sends ∙ ap (λ (ms : List Mail). w.envelopes ++ map (from a) ms) mails)
  did-goes j z g n t next sent to sends (NodeDid.Refuses v asked low_n sub mails) =
      Refuses j g v (record { there = sent; sender = asked.from; to = to; packet = asked.packet_is; newer = asked.newer }) low_n sub (sends ∙ ap (λ (ms : List Mail). w.envelopes ++ map (from a) ms) mails)

  took-did : (g : Envelope) (n : PlainNode) → (slot_of w a).node ≡ Some n → IsFinished Here n → IsFinished Here (packet_step Here g.sender g.packet n).after → NodeDid (shown Here (with_marks_ended n)) x k g.sender g.packet (with_marks_ended n) (packet_step Here g.sender g.packet n)
  took-did g n up done after = packet-did Here x k placed g.sender g.packet n done.recovering (ap (λ s. is_up_failure s) done.state) (few n up) after.recovering

  module _ (n : PlainNode) (here : (slot_of w a).node ≡ Some n) (done : IsFinished Here n) where
    abbrev At : Event → World → Type 0
    At e next = is_quiet e ≡ true → Goes n next

    took-own : (j y g q : ℕ) (e : Envelope) (c : PlainNode) → slice_get w.envelopes j ≡ Some e → y ≡ e.to → role_of w.plan e.to ≡ IsNode g q → (slot_of w e.to).node ≡ Some c → Goes n (node_stepped e.to (packet_step (home_of w.plan (g, q)) e.sender e.packet c) w)
    took-own j y g q e c sent at role_y up =
        steps e.to g q c (packet_step (home_of w.plan (g, q)) e.sender e.packet c) n role_y up here (λ same home one after.
        subst (λ (h : Home). IsFinished Here (packet_step h e.sender e.packet c).after → ReplicaGoes w Here x a k n (packet_step h e.sender e.packet c).after (node_stepped e.to (packet_step h e.sender e.packet c) w)) (sym home)
        (subst (λ (z : PlainNode). IsFinished Here (packet_step Here e.sender e.packet z).after → ReplicaGoes w Here x a k n (packet_step Here e.sender e.packet z).after (node_stepped e.to (packet_step Here e.sender e.packet z) w)) (sym one)
        (λ fin.
        let t = packet_step Here e.sender e.packet n in
        did-goes j e.to e n t (node_stepped e.to t w) sent (sym same) (ap (λ (z : ℕ). w.envelopes ++ map (from z) t.sends) (sym same)) (took-did e n here done fin))) after)

    goes-cases : AreCases w At
    goes-cases =
        record {
          still = λ e quiet. rests n w here (same-none w refl);
          wires = λ e cuts quiet. rests n (record w { cuts = cuts }) here (same-none (record w { cuts = cuts }) refl);
          emitted = λ b v t role_b quiet. cc;
          released = λ b v t role_b quiet. cc;
          source_took = λ j v g sent can role_b quiet. let t = source_packet_step w.plan v g.sender g.packet (source_at w v) in rests n (source_stepped g.to t w) here (others-none g.to t.sends (source_stepped g.to t w) (source-apart g.to v role_b) refl);
          source_ticks = λ b v now role_b quiet. let t = source_tick_step w.plan v now (source_at w v) in rests n (source_stepped b t w) here (others-none b t.sends (source_stepped b t w) (source-apart b v role_b) refl);
          crashed = λ y g q role_y quiet. cc;
          restarted = λ y i g q role_y quiet. cc;
          node_took = λ j g q e c sent can role_y up quiet. took-own j e.to g q e c sent refl role_y up;
          node_ticked = λ y now g q c role_y up clock quiet.
              steps y g q c (tick_step (home_of w.plan (g, q)) now c) n role_y up here (λ same home one after.
              subst (λ (h : Home). ReplicaGoes w Here x a k n (tick_step h now c).after (node_stepped y (tick_step h now c) w)) (sym home)
              (subst (λ (z : PlainNode). ReplicaGoes w Here x a k n (tick_step Here now z).after (node_stepped y (tick_step Here now z) w)) (sym one)
              (let t = tick_step Here now n in
              let tells = ticked-tells Here x k now n back low done in
              KeepsSub (ap (λ ss. nth no_session ss k) tells.subs) (quiet-none y t.sends (node_stepped y t w) tells.none refl))));
          node_milled = λ y m g q c role_y up can quiet.
              steps y g q c (mill_step (home_of w.plan (g, q)) m c) n role_y up here (λ same home one after. absurd (never-mills m c (home_of w.plan (g, q)) one can after));
          client_took = λ j d g sent can role_b quiet. rests n (record w { clients = changed d (client_after_packet w.plan d g.sender g.packet) w.clients }) here (same-none (record w { clients = changed d (client_after_packet w.plan d g.sender g.packet) w.clients }) refl);
          client_ticks = λ b d now role_b quiet. let t = client_tick_step w.plan d now (client_at w d) in rests n (client_stepped b d t w) here (others-none b t.sends (client_stepped b d t w) (client-apart b d role_b) refl);
        }
      where
        source-apart : (b v : ℕ) → role_of w.plan b ≡ IsSource v → a ≡ b → ⊥
        source-apart b v is same = let clash : IsNode f r ≡ IsSource v = sym role ∙ ap (λ (z : ℕ). role_of w.plan z) same ∙ is in cc

        client-apart : (b d : ℕ) → role_of w.plan b ≡ IsClient d → a ≡ b → ⊥
        client-apart b d is same = let clash : IsNode f r ≡ IsClient d = sym role ∙ ap (λ (z : ℕ). role_of w.plan z) same ∙ is in cc

        -- its cursor is at the end before and after
        never-mills : (m : ℕ) (c : PlainNode) (h : Home) → c ≡ n → can_mill h m c ≡ true → IsFinished Here (mill_step h m c).after → ⊥
        never-mills m c h one can after =
            let parts = both (nat_le 1 m && nat_le m most_milled) (nat_le m (ready h c)) can in
            let some = le-of 1 m (both (nat_le 1 m) (nat_le m most_milled) parts.0).0 in
            let moved = milled-cursor h m c in
            let end = after.cursor in
            let start : c.cursor ≡ buckets_of w.plan = ap (λ (z : PlainNode). z.cursor) one ∙ done.cursor in
            omega (arith, some, moved, end, start)

    pub replica-goes : (e : Event) → is_quiet e ≡ true → ((m : PlainNode) → (slot_of (happens w e) a).node ≡ Some m → IsFinished Here m) → (m : PlainNode) × ((slot_of (happens w e) a).node ≡ Some m) × ReplicaGoes w Here x a k n m (happens w e)
    replica-goes e quiet after = by-event w At goes-cases e quiet after

    -- a newer subscription that comes is answered, or refused
    pub replies-now : (j : ℕ) (g : Envelope) (v : Subscribe) → IsAskedFor w a x k n j g v → can_come w g ≡ true → ((m : PlainNode) → (slot_of (happens w (Deliver j)) a).node ≡ Some m → IsFinished Here m) →
        ((happens w (Deliver j)).envelopes ≡ w.envelopes ++ answer_from Here a x n v ∷ []) ⊎ ((nat_lt v.n n.base ≡ true) × ((happens w (Deliver j)).envelopes ≡ w.envelopes ++ refusal_from a x n v ∷ []))
    replies-now j g v asked can after =
        let t = packet_step Here g.sender g.packet n in
        let event = node-took-world w most a f r fine role j g n asked.there can asked.to here in
        let slot : slot_of (node_stepped g.to t w) g.to ≡ record (slot_of w g.to) { node = Some t.after } = slot-here w most g.to f r (λ (z : Slot). record z { node = Some t.after }) fine (ap (λ (z : ℕ). role_of w.plan z) asked.to ∙ role) in
        let now : (slot_of (happens w (Deliver j)) a).node ≡ Some t.after = ap (λ (z : World). (slot_of z a).node) event ∙ ap (λ (z : ℕ). (slot_of (node_stepped g.to t w) z).node) (sym asked.to) ∙ ap (λ (z : Slot). z.node) slot in
        let sends : (happens w (Deliver j)).envelopes ≡ w.envelopes ++ map (from a) t.sends = ap (λ (z : World). z.envelopes) event ∙ ap (λ (z : ℕ). w.envelopes ++ map (from z) t.sends) asked.to in
        by-did sends (took-did g n here done (after t.after now))
      where
        by-did : (happens w (Deliver j)).envelopes ≡ w.envelopes ++ map (from a) (packet_step Here g.sender g.packet n).sends → NodeDid (shown Here (with_marks_ended n)) x k g.sender g.packet (with_marks_ended n) (packet_step Here g.sender g.packet n) →
            ((happens w (Deliver j)).envelopes ≡ w.envelopes ++ answer_from Here a x n v ∷ []) ⊎ ((nat_lt v.n n.base ≡ true) × ((happens w (Deliver j)).envelopes ≡ w.envelopes ++ refusal_from a x n v ∷ []))
        by-did sends (NodeDid.Left sub none not_asked) = absurd (not_asked v (record { packet_is = asked.packet; from = asked.sender; newer = asked.newer }))
        by-did sends (NodeDid.Answers u it sub mails) =
            let same : u ≡ v = subscribe-is u v (sym it.packet_is ∙ asked.packet) in
            inl (sends ∙ ap (λ (ms : List Mail). w.envelopes ++ map (from a) ms) mails ∙ ap (λ (z : Subscribe). w.envelopes ++ answer_from Here a x n z ∷ []) same)
        by-did sends (NodeDid.Refuses u it low_n sub mails) =
            let same : u ≡ v = subscribe-is u v (sym it.packet_is ∙ asked.packet) in
            inr (ap (λ (z : Subscribe). nat_lt z.n n.base) (sym same) ∙ low_n, sends ∙ ap (λ (ms : List Mail). w.envelopes ++ map (from a) ms) mails ∙ ap (λ (z : Subscribe). w.envelopes ++ refusal_from a x n z ∷ []) same)

    -- a tick that is not void tells the reader its session
    pub tells-now : (now : ℕ) → Ticks w a now → (m : PlainNode) × ((slot_of (happens w (Tick a now)) a).node ≡ Some m) × (nth no_session m.subs k ≡ nth no_session n.subs k)
        × ((i : ℕ) × (slice_get (happens w (Tick a now)).envelopes i ≡ Some (from a (mail x (beat_of m (tally_of (nth no_session n.subs k)))))) × (length w.envelopes ≤ i))
    tells-now now clocked =
        let t = tick_step Here now n in
        let event = node-ticked-now w most a f r fine role now n clocked here in
        let tells = ticked-tells Here x k now n back low done in
        let slot : slot_of (node_stepped a t w) a ≡ record (slot_of w a) { node = Some t.after } = slot-here w most a f r (λ (z : Slot). record z { node = Some t.after }) fine role in
        let place = sent-place a w.envelopes (mail x (beat_of t.after (tally_of (nth no_session n.subs k)))) t.sends (tells.told (few n here)) in (
          t.after,
          ap (λ (z : World). (slot_of z a).node) event ∙ ap (λ (z : Slot). z.node) slot,
          ap (λ ss. nth no_session ss k) tells.subs,
          (place.0, ap (λ (z : World). slice_get z.envelopes place.0) event ∙ place.1, place.2),
        )
