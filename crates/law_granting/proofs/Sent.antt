-- The batches that a node sent in a session that was answered in one of its incarnations are numbered from 0 on.
use Rattle.std.proofs.Common.{◌≡◌, ℕ, ◌+◌, ◌<◌, Bool, true, false, cond, ◌&&◌, ◌==◌, nat_lt, List, [], ◌∷◌, ◌++◌, map, length, refl, sym, ap, subst, ◌∙◌, arith, Option, Some, None, slice_get, inl, inr}
use Rattle.std.proofs.lemmas.List.{append-nil}
use Rattle.dpc_lists.specs.Lists.{nth, changed, range_with_len}
use Rattle.dpc_model.specs.Actors.{role_of}
use Rattle.dpc_model.specs.declared.actors.Role.TheVariants.{Source as IsSource, Node as IsNode, Client as IsClient}
use Rattle.dpc_model.specs.Sessions.{no_session}
use Rattle.dpc_model.specs.declared.sessions.Sub.{Sub}
use Rattle.dpc_model.specs.declared.messages.Event.{Event}
use Rattle.dpc_model.specs.declared.messages.Sess.{Sess}
use Rattle.dpc_model.specs.declared.plans.Plan.{Plan}
use Rattle.node_model.specs.Mails.{Mail, Stepped}
use Rattle.node_model.specs.Nodes.{Home, PlainNode, own_readers, restarted_node}
use Rattle.node_model.specs.NodeSteps.{packet_step, mill_step, tick_step}
use Rattle.world_model.specs.Worlds.{World, Envelope, Slot, home_of, node_place, slot_of, from, node_stepped, restart_slot, can_come, happens}
use Rattle.world_model.specs.SessionLaw.{Channel}
use Rattle.dpc_lists.proofs.Truths.{both-of, eq-of, eq-test, lt-of}
use Rattle.dpc_model.proofs.Subs.{nth-none}
use Rattle.dpc_lists.proofs.Somes.{some-same}
use Rattle.law_safety.proofs.Emptied.{shape-of}
use Rattle.law_safety.proofs.Histories.{AreDistinct}
use Rattle.law_safety.proofs.Happening.{IsFine, node-here}
use Rattle.law_granting.specs.Taken.{subscribes_packet, envelope_subscribes, subscribes, role_inc}
use Rattle.law_granting.proofs.Saying.{own-delivered, own-milled, own-ticked}
use Rattle.law_safety.proofs.EventCases.{AreCases, by-event}
use Rattle.law_safety.proofs.Promises.{slot-here}
use Rattle.law_granting.proofs.Slots.{slot-there}
use Rattle.law_granting.proofs.Asked.{IsAskingWorld, same-or}
use Rattle.law_granting.proofs.Sending.{indexes, indexes-append, range-append, Counts, NotOpen, SendsOn, skip-other}
use Rattle.law_granting.proofs.Senders.{NodeSends, delivered-sends, milled-sends, ticked-sends}

-- an actor's mails are nothing in the sessions of others
pub other-indexed : (l : Channel) (y : ℕ) (ms : List Mail) → (y == l.sender) ≡ false → indexes l (map (from y) ms) ≡ []
other-indexed l y [] e = refl
other-indexed l y (m ∷ ms) e = skip-other l y m (map (from y) ms) (and-false (y == l.sender) (m.to == l.reader) e) ∙ other-indexed l y ms e
  where
    and-false : (b c : Bool) → b ≡ false → (b && c) ≡ false
    and-false true c d = cc
    and-false false c d = refl

pub apart-test : (y a : ℕ) → (a ≡ y → ⊥) → (y == a) ≡ false
apart-test y a h = by-value (y == a) refl
  where
    by-value : (b : Bool) → (y == a) ≡ b → (y == a) ≡ false
    by-value false e = e
    by-value true e = absurd (h (sym (eq-of y a e)))

-- what was sent in a session at a sub, in its incarnation or in another
abbrev pub SubHolds : Sess → ℕ → ℕ → ℕ → Sub → Type 0
SubHolds s i n inc sub = (inc ≡ i → Counts s n sub) × ((inc ≡ i → ⊥) → NotOpen s sub)

pub record SentOrder (w : World) (a x k i : ℕ) (s : Sess) : Type 0 where
  pub many : ℕ
  pub order : indexes (record { sender = a; reader = x; sess = s }) w.envelopes ≡ range_with_len 0 many
  pub early : (slot_of w a).last_inc < i → many ≡ 0
  pub there : (n : PlainNode) → (slot_of w a).node ≡ Some n → SubHolds s i many n.grants.inc (nth no_session n.subs k)

-- a session between a node and one of its readers
pub record IsNodeLine (plan : Plan) (a x f r k : ℕ) : Type 0 where
  pub role : role_of plan a ≡ IsNode f r
  pub reader : nth 0 (own_readers (home_of plan (f, r))) k ≡ x
  pub distinct : AreDistinct (own_readers (home_of plan (f, r)))
  pub low : k < length (own_readers (home_of plan (f, r)))

-- nothing is sent in the session, and the node's slot stays
order-still : (w next : World) (a x k i : ℕ) (s : Sess) → indexes (record { sender = a; reader = x; sess = s }) next.envelopes ≡ indexes (record { sender = a; reader = x; sess = s }) w.envelopes → slot_of next a ≡ slot_of w a →
    SentOrder w a x k i s → SentOrder next a x k i s
order-still w next a x k i s sent slot h =
    record {
      many = h.many;
      order = sent ∙ h.order;
      early = λ e. h.early (subst (λ (z : Slot). z.last_inc < i) slot e);
      there = λ n up. h.there n (sym (ap (λ (z : Slot). z.node) slot) ∙ up);
    }

-- mails of another actor
order-others : (w next : World) (a x k i y : ℕ) (s : Sess) (ms : List Mail) → next.envelopes ≡ w.envelopes ++ map (from y) ms → (a ≡ y → ⊥) → slot_of next a ≡ slot_of w a → SentOrder w a x k i s → SentOrder next a x k i s
order-others w next a x k i y s ms envelopes other slot h =
    let l : Channel = record { sender = a; reader = x; sess = s } in
    order-still w next a x k i s
    (ap (λ (es : List Envelope). indexes l es) envelopes ∙ indexes-append l w.envelopes (map (from y) ms) ∙ ap (λ (ns : List ℕ). indexes l w.envelopes ++ ns) (other-indexed l y ms (apart-test y a other)) ∙ append-nil (indexes l w.envelopes)) slot h

module _ (w : World) (most a x f r k i : ℕ) (s : Sess) (fine : IsFine w most) (asking : IsAskingWorld w) (line : IsNodeLine w.plan a x f r k) (h : SentOrder w a x k i s) where
  abbrev at : Channel
  at = record { sender = a; reader = x; sess = s }

  abbrev IsNextOrder : Event → World → Type 0
  IsNextOrder e next = (subscribes at w e ≡ true → role_inc w a (role_of w.plan a) ≡ i) → SentOrder next a x k i s

  inc-here : (n : PlainNode) → (slot_of w a).node ≡ Some n → role_inc w a (role_of w.plan a) ≡ n.grants.inc
  inc-here n up = rw (line.role, up) refl

  many-here : (n : PlainNode) → (slot_of w a).node ≡ Some n → length n.subs ≡ length (own_readers (home_of w.plan (f, r)))
  many-here n up = (shape-of (home_of w.plan (f, r)) most n (node-here w most a f r n fine line.role up).orderly.shape).subs

  -- the node's own step
  own-step : (n : PlainNode) (t : Stepped PlainNode) (opens : Bool) → (slot_of w a).node ≡ Some n → t.after.grants.inc ≡ n.grants.inc → NodeSends (home_of w.plan (f, r)) a k s opens n.subs t → (opens ≡ true → n.grants.inc ≡ i) → SentOrder (node_stepped a t w) a x k i s
  own-step n t opens up inc sends told =
      let sent = indexes at (map (from a) t.sends) in
      let on = subst (λ (z : ℕ). SendsOn s opens (nth no_session n.subs k) (nth no_session t.after.subs k) (indexes (record { sender = a; reader = z; sess = s }) (map (from a) t.sends))) line.reader sends.on in
      let here = slot-here w most a f r (λ (slot : Slot). record slot { node = Some t.after }) fine line.role in
      let known : n.grants.inc ≡ (slot_of w a).last_inc = (asking.nodes a f r n line.role up).inc in
      elim (same-or n.grants.inc i) [
        | inl same ↦
            let p = on.counts h.many ((h.there n up).0 same) in
            let zero_on : 0 + h.many ≡ h.many = omega arith in
            record {
              many = h.many + length sent;
              order = indexes-append at w.envelopes (map (from a) t.sends) ∙ ap (λ (ns : List ℕ). ns ++ sent) h.order ∙ ap (λ (ns : List ℕ). range_with_len 0 h.many ++ ns) (p.0 ∙ ap (λ (z : ℕ). range_with_len z (length sent)) (sym zero_on))
                  ∙ range-append 0 h.many (length sent);
              early = λ e. let low : (slot_of w a).last_inc < i = subst (λ (z : Slot). z.last_inc < i) here e in absurd (omega (arith, low, same, known));
              there = λ m now.
                  let it = some-same t.after m (sym (ap (λ (z : Slot). z.node) here) ∙ now) in
                  subst (λ (z : PlainNode). SubHolds s i (h.many + length sent) z.grants.inc (nth no_session z.subs k)) it (λ e. p.1, λ e. absurd (e (inc ∙ same)));
            }
        | inr other ↦
            let calm : opens ≡ false = not-open opens refl other in
            let q = on.quiet calm ((h.there n up).1 other) in
            record {
              many = h.many;
              order = indexes-append at w.envelopes (map (from a) t.sends) ∙ ap (λ (ns : List ℕ). indexes at w.envelopes ++ ns) q.0 ∙ append-nil (indexes at w.envelopes) ∙ h.order;
              early = λ e. h.early (subst (λ (z : Slot). z.last_inc < i) here e);
              there = λ m now.
                  let it = some-same t.after m (sym (ap (λ (z : Slot). z.node) here) ∙ now) in
                  subst (λ (z : PlainNode). SubHolds s i h.many z.grants.inc (nth no_session z.subs k)) it (λ e. absurd (other (sym inc ∙ e)), λ e. q.1);
            }
      ]
    where
      not-open : (b : Bool) → opens ≡ b → (n.grants.inc ≡ i → ⊥) → opens ≡ false
      not-open false e other = e
      not-open true e other = absurd (other (told e))

  -- a step of any node
  any-step : (y p q : ℕ) (n : PlainNode) (t : Stepped PlainNode) → role_of w.plan y ≡ IsNode p q → (a ≡ y → SentOrder (node_stepped a t w) a x k i s) → SentOrder (node_stepped y t w) a x k i s
  any-step y p q n t role own =
      elim (same-or a y) [
        | inl same ↦ subst (λ (z : ℕ). SentOrder (node_stepped z t w) a x k i s) same (own same)
        | inr other ↦ order-others w (node_stepped y t w) a x k i y s t.sends refl other (slot-there w y a p q f r (λ (slot : Slot). record slot { node = Some t.after }) role line.role other) h
      ]

  -- one slot goes down, or a node is restarted
  slot-step : (y p q : ℕ) (g : Slot → Slot) → role_of w.plan y ≡ IsNode p q → (a ≡ y → SentOrder (record w { nodes = changed (node_place w.plan a) g w.nodes }) a x k i s) → SentOrder (record w { nodes = changed (node_place w.plan y) g w.nodes }) a x k i s
  slot-step y p q g role own =
      elim (same-or a y) [
        | inl same ↦ subst (λ (z : ℕ). SentOrder (record w { nodes = changed (node_place w.plan z) g w.nodes }) a x k i s) same (own same)
        | inr other ↦ order-still w (record w { nodes = changed (node_place w.plan y) g w.nodes }) a x k i s refl (slot-there w y a p q f r g role line.role other) h
      ]

  down : SentOrder (record w { nodes = changed (node_place w.plan a) (λ (slot : Slot). record slot { node = None }) w.nodes }) a x k i s
  down =
      let here = slot-here w most a f r (λ (slot : Slot). record slot { node = None }) fine line.role in
      record {
        many = h.many;
        order = h.order;
        early = λ e. h.early (subst (λ (z : Slot). z.last_inc < i) here e);
        there = λ n up. let none : ◌≡◌ {A = Option PlainNode} None (Some n) = sym (ap (λ (z : Slot). z.node) here) ∙ up in cc;
      }

  restarted-sub : (home : Home) (j : ℕ) → nth no_session (restarted_node home j).subs k ≡ no_session
  unfolding restarted_node
  restarted-sub home j = nth-none (own_readers home) k

  restarted-inc : (home : Home) (j : ℕ) → (restarted_node home j).grants.inc ≡ j
  unfolding restarted_node
  restarted-inc home j = refl

  restarted : (home : Home) (j : ℕ) → SentOrder (record w { nodes = changed (node_place w.plan a) (restart_slot home j) w.nodes }) a x k i s
  restarted home j =
      let here = slot-here w most a f r (restart_slot home j) fine line.role in
      by-node (slot_of w a).node refl here
    where
      next : World
      next = record w { nodes = changed (node_place w.plan a) (restart_slot home j) w.nodes }

      by-node : (o : Option PlainNode) → (slot_of w a).node ≡ o → slot_of (record w { nodes = changed (node_place w.plan a) (restart_slot home j) w.nodes }) a ≡ (elim o as (λ _. Slot) [ Some n ↦ slot_of w a | None ↦ cond (nat_lt (slot_of w a).last_inc j) (record { last_inc = j; node = Some (restarted_node home j) }) (slot_of w a) ]) →
          SentOrder (record w { nodes = changed (node_place w.plan a) (restart_slot home j) w.nodes }) a x k i s
      by-node (Some n) up here = order-still w (record w { nodes = changed (node_place w.plan a) (restart_slot home j) w.nodes }) a x k i s refl here h
      by-node None up here =
          (elim (nat_lt (slot_of w a).last_inc j) as (λ b. nat_lt (slot_of w a).last_inc j ≡ b → slot_of (record w { nodes = changed (node_place w.plan a) (restart_slot home j) w.nodes }) a ≡ cond {A = Slot} b (record { last_inc = j; node = Some (restarted_node home j) }) (slot_of w a) →
          SentOrder (record w { nodes = changed (node_place w.plan a) (restart_slot home j) w.nodes }) a x k i s) [
            | false ↦ λ e now. order-still w (record w { nodes = changed (node_place w.plan a) (restart_slot home j) w.nodes }) a x k i s refl now h
            | true ↦ λ e now.
                let less = lt-of (slot_of w a).last_inc j e in
                record {
                  many = h.many;
                  order = h.order;
                  early = λ d. let low : j < i = subst (λ (z : Slot). z.last_inc < i) now d in h.early (omega (arith, less, low));
                  there = λ m d.
                      let it = some-same (restarted_node home j) m (sym (ap (λ (z : Slot). z.node) now) ∙ d) in
                      subst (λ (z : PlainNode). SubHolds s i h.many z.grants.inc (nth no_session z.subs k)) it
                      (subst (λ (z : Sub). SubHolds s i h.many (restarted_node home j).grants.inc z) (sym (restarted-sub home j))
                      (λ c. record { open_one = λ v m g u. cc; newer = λ g. let it_is = restarted-inc home j in h.early (omega (arith, less, c, it_is)) }, λ c. record { other = λ v m g. cc }));
                }
          ]) refl here

  order-cases : AreCases w IsNextOrder
  order-cases =
      record {
        still = λ e told. h;
        wires = λ e cuts told. order-still w (record w { cuts = cuts }) a x k i s refl refl h;
        emitted = λ y z t role told. order-others w _ a x k i y s _ refl (not-source y z role) refl h;
        released = λ y z t role told. order-others w _ a x k i y s _ refl (not-source y z role) refl h;
        source_took = λ j z e there can role told. order-others w _ a x k i e.to s _ refl (not-source e.to z role) refl h;
        source_ticks = λ y z now role told. order-others w _ a x k i y s _ refl (not-source y z role) refl h;
        crashed = λ y p q role told. slot-step y p q (λ (slot : Slot). record slot { node = None }) role (λ same. down);
        restarted = λ y j p q role told. slot-step y p q (restart_slot (home_of w.plan (p, q)) j) role (λ same. restarted (home_of w.plan (p, q)) j);
        node_took = λ j p q e n there can role up told. any-step e.to p q n (packet_step (home_of w.plan (p, q)) e.sender e.packet n) role (λ same. took j p q e n there can role up told same);
        node_ticked = λ y now p q n role up clock told. any-step y p q n (tick_step (home_of w.plan (p, q)) now n) role (λ same.
            let is = home-same p q y role same in
            let here = ap (λ (z : ℕ). (slot_of w z).node) same ∙ up in
            own-step n (tick_step (home_of w.plan (p, q)) now n) false here (own-ticked (home_of w.plan (p, q)) now n).grants.inc
            (subst (λ (z : Home). NodeSends (home_of w.plan (f, r)) a k s false n.subs (tick_step z now n)) is (ticked-sends (home_of w.plan (f, r)) a k s false line.distinct line.low now n (many-here n here))) (λ e. cc));
        node_milled = λ y m p q n role up can told. any-step y p q n (mill_step (home_of w.plan (p, q)) m n) role (λ same.
            let is = home-same p q y role same in
            let here = ap (λ (z : ℕ). (slot_of w z).node) same ∙ up in
            own-step n (mill_step (home_of w.plan (p, q)) m n) false here (own-milled (home_of w.plan (p, q)) m n).grants.inc
            (subst (λ (z : Home). NodeSends (home_of w.plan (f, r)) a k s false n.subs (mill_step z m n)) is (milled-sends (home_of w.plan (f, r)) a k s false line.distinct line.low m n (many-here n here))) (λ e. cc));
        client_took = λ j c e there can role told. order-still w _ a x k i s refl refl h;
        client_ticks = λ y c now role told. order-others w _ a x k i y s _ refl (not-client y c role) refl h;
      }
    where
      not-source : (y z : ℕ) → role_of w.plan y ≡ IsSource z → a ≡ y → ⊥
      not-source y z role same = let clash : IsNode f r ≡ IsSource z = sym line.role ∙ ap (λ (u : ℕ). role_of w.plan u) same ∙ role in cc

      not-client : (y c : ℕ) → role_of w.plan y ≡ IsClient c → a ≡ y → ⊥
      not-client y c role same = let clash : IsNode f r ≡ IsClient c = sym line.role ∙ ap (λ (u : ℕ). role_of w.plan u) same ∙ role in cc

      home-same : (p q y : ℕ) → role_of w.plan y ≡ IsNode p q → a ≡ y → home_of w.plan (f, r) ≡ home_of w.plan (p, q)
      home-same p q y role same =
          let whole : IsNode f r ≡ IsNode p q = sym line.role ∙ ap (λ (u : ℕ). role_of w.plan u) same ∙ role in
          let one : f ≡ p = cc in
          let two : r ≡ q = cc in ap (λ (u : ℕ). home_of w.plan (u, r)) one ∙ ap (λ (u : ℕ). home_of w.plan (p, u)) two

      took : (j p q : ℕ) (e : Envelope) (n : PlainNode) → slice_get w.envelopes j ≡ Some e → can_come w e ≡ true → role_of w.plan e.to ≡ IsNode p q → (slot_of w e.to).node ≡ Some n →
          (envelope_subscribes at w (slice_get w.envelopes j) ≡ true → role_inc w a (role_of w.plan a) ≡ i) → a ≡ e.to → SentOrder (node_stepped a (packet_step (home_of w.plan (p, q)) e.sender e.packet n) w) a x k i s
      took j p q e n there can role up told same =
          let is = home-same p q e.to role same in
          let here = ap (λ (z : ℕ). (slot_of w z).node) same ∙ up in
          let opens = envelope_subscribes at w (slice_get w.envelopes j) in
          own-step n (packet_step (home_of w.plan (p, q)) e.sender e.packet n) opens here (own-delivered (home_of w.plan (p, q)) e.sender e.packet n).grants.inc
          (subst (λ (z : Home). NodeSends (home_of w.plan (f, r)) a k s opens n.subs (packet_step z e.sender e.packet n)) is
          (delivered-sends (home_of w.plan (f, r)) a k s opens line.distinct line.low e.sender e.packet n (λ it packet. opened it packet) (many-here n here)))
          (λ o. sym (inc-here n here) ∙ told o)
        where
          opened : e.sender ≡ nth 0 (own_readers (home_of w.plan (f, r))) k → subscribes_packet s e.packet ≡ true → envelope_subscribes at w (slice_get w.envelopes j) ≡ true
          opened it packet =
              let one = eq-test e.sender x (it ∙ line.reader) in
              let two = eq-test e.to a (sym same) in
              ap (λ (o : Option Envelope). envelope_subscribes at w o) there
              ∙ both-of (e.sender == x && e.to == a && subscribes_packet s e.packet) (can_come w e) (both-of (e.sender == x && e.to == a) (subscribes_packet s e.packet) (both-of (e.sender == x) (e.to == a) one two) packet) can

  pub event-order : (e : Event) → (subscribes at w e ≡ true → role_inc w a (role_of w.plan a) ≡ i) → SentOrder (happens w e) a x k i s
  event-order e told = by-event w IsNextOrder order-cases e told
