-- A node's session, but the first one, was opened by a subscription that its reader sent to it.
use Rattle.std.proofs.Common.{◌≡◌, ℕ, ◌+◌, Bool, true, false, cond, ◌&&◌, ◌==◌, nat_lt, List, [], ◌∷◌, ◌++◌, map, length, drop, refl, sym, ap, subst, ◌∙◌, Option, Some, None, slice_get, ◌⊎◌, inl, inr}
use Rattle.std.proofs.Math.Seq.{drop-append_seam}
use Rattle.dpc_lists.specs.Lists.{nth, changed, list_any}
use Rattle.dpc_model.specs.Actors.{role_of}
use Rattle.dpc_model.specs.declared.actors.Role.TheVariants.{Node as IsNode}
use Rattle.dpc_model.specs.Sessions.{no_session}
use Rattle.dpc_model.specs.declared.sessions.Sub.{Sub}
use Rattle.dpc_model.specs.declared.messages.Event.{Event}
use Rattle.dpc_model.specs.declared.messages.Event.TheVariants.{Crash, Restart, Deliver, Tick, Mill}
use Rattle.dpc_model.specs.declared.messages.Sess.{Sess}
use Rattle.dpc_model.specs.declared.messages.Subscribe.{Subscribe}
use Rattle.dpc_model.specs.declared.plans.Plan.{Plan}
use Rattle.node_model.specs.Mails.{Mail, Stepped}
use Rattle.node_model.specs.Nodes.{Home, PlainNode, own_readers, restarted_node}
use Rattle.node_model.specs.NodeSteps.{packet_step, mill_step, tick_step}
use Rattle.world_model.specs.Worlds.{World, Envelope, Slot, home_of, node_place, slot_of, from, node_stepped, restart_slot, happens, run_from}
use Rattle.world_model.specs.SessionLaw.{Channel}
use Rattle.dpc_lists.proofs.Truths.{both, both-of, eq-test}
use Rattle.dpc_model.proofs.Subs.{nth-none}
use Rattle.dpc_lists.proofs.Somes.{some-same}
use Rattle.law_safety.proofs.Emptied.{shape-of}
use Rattle.law_safety.proofs.EventCases.{AreCases, by-event}
use Rattle.law_safety.proofs.Growing.{event-grows}
use Rattle.law_safety.proofs.Happening.{IsFine, node-here, happens-next}
use Rattle.law_safety.proofs.Promises.{slot-here}
use Rattle.law_sessions.specs.Openings.{has_first, asked_next, opened_by}
use Rattle.law_granting.specs.Taken.{subscribes_packet}
use Rattle.law_granting.proofs.Asked.{same-or}
use Rattle.law_granting.proofs.Slots.{slot-there}
use Rattle.law_granting.proofs.Sending.{indexes, is_zero, NotOpen}
use Rattle.law_granting.proofs.Senders.{NodeSends, delivered-sends, milled-sends, ticked-sends}
use Rattle.law_granting.proofs.Sent.{IsNodeLine}
use Rattle.law_session_origins.specs.Asking.{IsSentFor}
use Rattle.law_session_origins.proofs.Firsts.{first-there, Brings, delivery-brings, sent-next, sent-now}

-- an event opens a session: it brings a subscription to it, and the first batch is among what it sent
abbrev pub OpensNow : Channel → World → Event → World → Type 0
OpensNow l w e next = (has_first l (drop (length w.envelopes) next.envelopes) ≡ true) × Brings l w e

pub opens-by : (l : Channel) (w : World) (e : Event) (a : ℕ) (ms : List Mail) (next : World) → next.envelopes ≡ w.envelopes ++ map (from a) ms → list_any is_zero (indexes l (map (from a) ms)) ≡ true → Brings l w e → OpensNow l w e next
opens-by l w e a ms next same first came =
    (ap (λ (es : List Envelope). has_first l (drop (length w.envelopes) es)) same ∙ ap (λ (es : List Envelope). has_first l es) (drop-append_seam w.envelopes (map (from a) ms)) ∙ first-there l (map (from a) ms) first, came)

-- no node that is up at the sender has the session open
abbrev pub NoneOpen : World → ℕ → ℕ → Sess → Type 0
NoneOpen w a k s = (n : PlainNode) → (slot_of w a).node ≡ Some n → NotOpen s (nth no_session n.subs k)

module _ (w : World) (most a x f r k : ℕ) (s : Sess) (fine : IsFine w most) (line : IsNodeLine w.plan a x f r k) (none : NoneOpen w a k s) where
  abbrev at : Channel
  at = record { sender = a; reader = x; sess = s }

  abbrev Goes : Event → World → Type 0
  Goes e next = OpensNow at w e next ⊎ NoneOpen next a k s

  still : (e : Event) (next : World) → slot_of next a ≡ slot_of w a → Goes e next
  still e next same = inr (λ n up. none n (sym (ap (λ (z : Slot). z.node) same) ∙ up))

  many-here : (n : PlainNode) → (slot_of w a).node ≡ Some n → length n.subs ≡ length (own_readers (home_of w.plan (f, r)))
  many-here n up = (shape-of (home_of w.plan (f, r)) most n (node-here w most a f r n fine line.role up).orderly.shape).subs

  own-step : (e : Event) (n : PlainNode) (t : Stepped PlainNode) (opens : Bool) → (slot_of w a).node ≡ Some n → NodeSends (home_of w.plan (f, r)) a k s opens n.subs t → (opens ≡ true → Brings at w e) → Goes e (node_stepped a t w)
  own-step e n t opens up sends told =
      let here = slot-here w most a f r (λ (slot : Slot). record slot { node = Some t.after }) fine line.role in
      elim (sends.on.fresh (none n up)) [
        | inr closed ↦ inr (λ m now. subst (λ (z : PlainNode). NotOpen s (nth no_session z.subs k)) (some-same t.after m (sym (ap (λ (z : Slot). z.node) here) ∙ now)) closed)
        | inl first ↦ inl (opens-by at w e a t.sends (node_stepped a t w) refl (subst (λ (z : ℕ). list_any is_zero (indexes (record { sender = a; reader = z; sess = s }) (map (from a) t.sends)) ≡ true) line.reader first) (told (it-opens opens refl first)))
      ]
    where
      it-opens : (b : Bool) → opens ≡ b → list_any is_zero (indexes (record { sender = a; reader = nth 0 (own_readers (home_of w.plan (f, r))) k; sess = s }) (map (from a) t.sends)) ≡ true → opens ≡ true
      it-opens true e first = e
      it-opens false e first =
          let nothing = (sends.on.quiet e (none n up)).0 in
          let clash : false ≡ true = sym (ap (λ (zs : List ℕ). list_any is_zero zs) nothing) ∙ first in cc

  any-step : (e : Event) (y p q : ℕ) (t : Stepped PlainNode) → role_of w.plan y ≡ IsNode p q → (a ≡ y → Goes e (node_stepped a t w)) → Goes e (node_stepped y t w)
  any-step e y p q t role own =
      elim (same-or a y) [
        | inl same ↦ subst (λ (z : ℕ). Goes e (node_stepped z t w)) same (own same)
        | inr other ↦ still e (node_stepped y t w) (slot-there w y a p q f r (λ (slot : Slot). record slot { node = Some t.after }) role line.role other)
      ]

  slot-step : (e : Event) (y p q : ℕ) (g : Slot → Slot) → role_of w.plan y ≡ IsNode p q → (a ≡ y → Goes e (record w { nodes = changed (node_place w.plan a) g w.nodes })) → Goes e (record w { nodes = changed (node_place w.plan y) g w.nodes })
  slot-step e y p q g role own =
      elim (same-or a y) [
        | inl same ↦ subst (λ (z : ℕ). Goes e (record w { nodes = changed (node_place w.plan z) g w.nodes })) same (own same)
        | inr other ↦ still e (record w { nodes = changed (node_place w.plan y) g w.nodes }) (slot-there w y a p q f r g role line.role other)
      ]

  restarted-sub : (home : Home) (j : ℕ) → nth no_session (restarted_node home j).subs k ≡ no_session
  unfolding restarted_node
  restarted-sub home j = nth-none (own_readers home) k

  restarted-none : (home : Home) (j : ℕ) (m : PlainNode) → (restart_slot home j (slot_of w a)).node ≡ Some m → NotOpen s (nth no_session m.subs k)
  restarted-none home j m now = by-node (slot_of w a).node refl now
    where
      by-node : (o : Option PlainNode) → (slot_of w a).node ≡ o → (elim o as (λ _. Slot) [ Some n ↦ slot_of w a | None ↦ cond (nat_lt (slot_of w a).last_inc j) (record { last_inc = j; node = Some (restarted_node home j) }) (slot_of w a) ]).node ≡ Some m → NotOpen s (nth no_session m.subs k)
      by-node (Some n) up d = none m d
      by-node None up d = elim (nat_lt (slot_of w a).last_inc j) as (λ b. (cond {A = Slot} b (record { last_inc = j; node = Some (restarted_node home j) }) (slot_of w a)).node ≡ Some m → NotOpen s (nth no_session m.subs k)) [
        | false ↦ λ g. none m g
        | true ↦ λ g.
            let it = some-same (restarted_node home j) m g in
            subst (λ (z : PlainNode). NotOpen s (nth no_session z.subs k)) it (subst (λ (z : Sub). NotOpen s z) (sym (restarted-sub home j)) (record { other = λ v i u. cc }))
      ] d

  open-cases : AreCases w Goes
  open-cases =
      record {
        still = λ e. still e w refl;
        wires = λ e cuts. still e (record w { cuts = cuts }) refl;
        emitted = λ y z t role. inr none;
        released = λ y z t role. inr none;
        source_took = λ j z e there can role. inr none;
        source_ticks = λ y z now role. inr none;
        crashed = λ y p q role. slot-step (Crash y) y p q (λ (slot : Slot). record slot { node = None }) role (λ same.
            let here = slot-here w most a f r (λ (slot : Slot). record slot { node = None }) fine line.role in
            inr (λ n up. let gone : ◌≡◌ {A = Option PlainNode} None (Some n) = sym (ap (λ (z : Slot). z.node) here) ∙ up in cc));
        restarted = λ y j p q role. slot-step (Restart y j) y p q (restart_slot (home_of w.plan (p, q)) j) role (λ same.
            let here = slot-here w most a f r (restart_slot (home_of w.plan (p, q)) j) fine line.role in
            inr (λ n up. restarted-none (home_of w.plan (p, q)) j n (sym (ap (λ (z : Slot). z.node) here) ∙ up)));
        node_took = λ j p q e n there can role up. any-step (Deliver j) e.to p q (packet_step (home_of w.plan (p, q)) e.sender e.packet n) role (λ same. took j p q e n there role up same);
        node_ticked = λ y now p q n role up clock. any-step (Tick y now) y p q (tick_step (home_of w.plan (p, q)) now n) role (λ same.
            let is = home-same p q y role same in
            let here = ap (λ (z : ℕ). (slot_of w z).node) same ∙ up in
            own-step (Tick y now) n (tick_step (home_of w.plan (p, q)) now n) false here
            (subst (λ (z : Home). NodeSends (home_of w.plan (f, r)) a k s false n.subs (tick_step z now n)) is (ticked-sends (home_of w.plan (f, r)) a k s false line.distinct line.low now n (many-here n here))) (λ e. cc));
        node_milled = λ y m p q n role up can. any-step (Mill y m) y p q (mill_step (home_of w.plan (p, q)) m n) role (λ same.
            let is = home-same p q y role same in
            let here = ap (λ (z : ℕ). (slot_of w z).node) same ∙ up in
            own-step (Mill y m) n (mill_step (home_of w.plan (p, q)) m n) false here
            (subst (λ (z : Home). NodeSends (home_of w.plan (f, r)) a k s false n.subs (mill_step z m n)) is (milled-sends (home_of w.plan (f, r)) a k s false line.distinct line.low m n (many-here n here))) (λ e. cc));
        client_took = λ j c e there can role. inr none;
        client_ticks = λ y c now role. inr none;
      }
    where
      home-same : (p q y : ℕ) → role_of w.plan y ≡ IsNode p q → a ≡ y → home_of w.plan (f, r) ≡ home_of w.plan (p, q)
      home-same p q y role same =
          let whole : IsNode f r ≡ IsNode p q = sym line.role ∙ ap (λ (u : ℕ). role_of w.plan u) same ∙ role in
          let one : f ≡ p = cc in
          let two : r ≡ q = cc in ap (λ (u : ℕ). home_of w.plan (u, r)) one ∙ ap (λ (u : ℕ). home_of w.plan (p, u)) two

      took : (j p q : ℕ) (e : Envelope) (n : PlainNode) → slice_get w.envelopes j ≡ Some e → role_of w.plan e.to ≡ IsNode p q → (slot_of w e.to).node ≡ Some n → a ≡ e.to → Goes (Deliver j) (node_stepped a (packet_step (home_of w.plan (p, q)) e.sender e.packet n) w)
      took j p q e n there role up same =
          let is = home-same p q e.to role same in
          let here = ap (λ (z : ℕ). (slot_of w z).node) same ∙ up in
          let opens = e.sender == x && subscribes_packet s e.packet in
          own-step (Deliver j) n (packet_step (home_of w.plan (p, q)) e.sender e.packet n) opens here
          (subst (λ (z : Home). NodeSends (home_of w.plan (f, r)) a k s opens n.subs (packet_step z e.sender e.packet n)) is
          (delivered-sends (home_of w.plan (f, r)) a k s opens line.distinct line.low e.sender e.packet n (λ it packet. both-of (e.sender == x) (subscribes_packet s e.packet) (eq-test e.sender x (it ∙ line.reader)) packet) (many-here n here)))
          (λ o. let p = both (e.sender == x) (subscribes_packet s e.packet) o in delivery-brings at w j e there p.0 (eq-test e.to a (sym same)) p.1)

  pub event-goes : (e : Event) → Goes e (happens w e)
  event-goes e = by-event w Goes open-cases e

-- ---- a run

-- the session is not open, or what opened it was sent
abbrev pub IsOpenFor : World → ℕ → ℕ → ℕ → Sess → Subscribe → Type 0
IsOpenFor w a x k s asked = IsSentFor (record { sender = a; reader = x; sess = s }) w.envelopes asked ⊎ NoneOpen w a k s

pub node-opened : (w : World) (most : ℕ) (events : List Event) (a x f r k : ℕ) (s : Sess) (asked : Subscribe) → IsFine w most → IsNodeLine w.plan a x f r k → IsOpenFor w a x k s asked →
    IsOpenFor (run_from w events) a x k s (opened_by (record { sender = a; reader = x; sess = s }) asked w events)
node-opened w most [] a x f r k s asked fine line h = h
node-opened w most (e ∷ events) a x f r k s asked fine line h =
    let l : Channel = record { sender = a; reader = x; sess = s } in
    node-opened (happens w e) (most + 1) events a x f r k s (asked_next l asked w e) (happens-next w most e fine).fine (subst (λ (p : Plan). IsNodeLine p a x f r k) (sym (event-grows w e).plan) line)
    (elim h [
      | inl sent ↦ inl (sent-next l w e asked sent)
      | inr none ↦ elim (event-goes w most a x f r k s fine line none e) [
        | inl opens ↦ inl (sent-now l w e asked opens.0 opens.1)
        | inr still ↦ inr still
      ]
    ])
