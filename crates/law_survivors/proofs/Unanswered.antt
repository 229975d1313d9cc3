-- In a live journal a session that a replica refused it never answers, nor did it before.
use Rattle.std.proofs.Common.{◌≡◌, ℕ, ◌<◌, ◌≤◌, Bool, true, false, cond, ◌&&◌, ◌==◌, List, length, refl, sym, ap, subst, ◌∙◌, arith, Option, Some, None, slice_get, ◌⊎◌, inl, inr}
use Rattle.std.proofs.lemmas.List.{length-map}
use Rattle.std.proofs.lemmas.Grind.{common_steps}
use Rattle.dpc_lists.specs.Lists.{nth}
use Rattle.dpc_model.specs.Inlets.{same_sess, is_newer}
use Rattle.dpc_model.specs.Actors.{role_of}
use Rattle.dpc_model.specs.Sessions.{no_session, is_newer_than_kept}
use Rattle.dpc_model.specs.declared.actors.Role.{Role}
use Rattle.dpc_model.specs.declared.actors.Role.TheVariants.{Node as IsNode}
use Rattle.dpc_model.specs.declared.sessions.Sub.{Sub}
use Rattle.dpc_model.specs.declared.messages.Event.{Event}
use Rattle.dpc_model.specs.declared.messages.Event.TheVariants.{Deliver}
use Rattle.dpc_model.specs.declared.messages.Sess.{Sess}
use Rattle.dpc_model.specs.declared.messages.Subscribe.{Subscribe}
use Rattle.dpc_model.specs.declared.messages.Message.TheVariants as message
use Rattle.dpc_model.specs.declared.plans.Plan.{Plan}
use Rattle.node_model.specs.Mails.{Packet, Plain, SnapFor, Mail, Stepped}
use Rattle.node_model.specs.Nodes.{Home, PlainNode, own_readers, restarted_node}
use Rattle.node_model.specs.NodeSteps.{packet_step, mill_step, tick_step}
use Rattle.world_model.specs.Worlds.{World, Envelope, Slot, home_of, slot_of, can_come}
use Rattle.world_model.specs.SessionLaw.{Channel}
use Rattle.dpc_lists.proofs.Truths.{both, both-of, eq-of, eq-test, lt-of}
use Rattle.dpc_model.proofs.Alike.{same_sess-eq}
use Rattle.dpc_model.proofs.Subs.{nth-none}
use Rattle.dpc_lists.proofs.Somes.{some-same}
use Rattle.dpc_lists.proofs.Each.{Each}
use Rattle.law_safety.proofs.Histories.{AreDistinct}
use Rattle.law_safety.proofs.Happening.{IsFine, node-here}
use Rattle.law_safety.proofs.Emptied.{shape-of}
use Rattle.law_granting.specs.Taken.{index_in, index_of, subscribes, envelope_subscribes, subscribes_packet, node_inc, role_inc}
use Rattle.law_granting.proofs.Asked.{same-or}
use Rattle.law_granting.proofs.Slots.{got-sent}
use Rattle.law_granting.proofs.Saying.{own-delivered, own-milled, own-ticked}
use Rattle.law_calm.proofs.Refusing.{RefusesBy, IsRefused, RefusesTo, packet-refuses as calm-refuses, milled-refuses, ticked-refuses}
use Rattle.law_calm.proofs.Kept.{WasAnswered}
use Rattle.law_survivors.proofs.Doing.{HasStepped, SendsNone, ReplicaDoes}
use Rattle.law_survivors.proofs.Shutting.{newer-apart, IsShut, packet-shut, milled-shut, ticked-shut, NoTruncation, packet-refuses}

-- what is kept is not older than a session; nothing more than that it is not open
abbrev pub NotOlder : Sess → Option Sess → Type 0
NotOlder u o = is_newer_than_kept u o ≡ false

abbrev pub Anything : Option Sess → Type 0
Anything o = Unit {0}

pub not-older : (u s : Sess) (o : Option Sess) → is_newer_than_kept s o ≡ true → Unit {0} → NotOlder u o → NotOlder u (Some s) × (same_sess s u ≡ false)
not-older u s o e may h = newer-apart s u o e h

pub anything : (u s : Sess) (o : Option Sess) → is_newer_than_kept s o ≡ true → same_sess s u ≡ false → Anything o → Anything (Some s) × (same_sess s u ≡ false)
anything u s o e may h = (tt, may)

pub begins-so : (u s : Sess) → same_sess s u ≡ true → is_newer u s ≡ false
begins-so u s e =
    let k = both (s.inc == u.inc) (s.number == u.number) e in
    let one = eq-of s.inc u.inc k.0 in
    let two = eq-of s.number u.number k.1 in by-fields u s one two
  where
    by-fields : (u s : Sess) → s.inc ≡ u.inc → s.number ≡ u.number → is_newer u s ≡ false
    by-fields u s one two = grind (arith, common_steps)

module _ (a x f r : ℕ) (plan : Plan) (k i : ℕ) (u : Sess) (distinct : AreDistinct (own_readers (home_of plan (f, r)))) (low : k < length (own_readers (home_of plan (f, r)))) (it : nth 0 (own_readers (home_of plan (f, r))) k ≡ x) where
  abbrev pub Here : Home
  Here = home_of plan (f, r)

  -- in the incarnation in which it was refused, and in others
  abbrev pub Strict : List Sub → Type 0
  Strict subs = IsShut Here x k u distinct low it (NotOlder u) (λ s. Unit {0}) (not-older u) subs

  abbrev pub Loose : List Sub → Type 0
  Loose subs = IsShut Here x k u distinct low it Anything (λ s. same_sess s u ≡ false) (anything u) subs

  abbrev pub NoneSent : Mail → Type 0
  NoneSent m = m.to ≡ x → index_in u m.packet ≡ None

  -- no truncation of the session was sent to x
  abbrev pub NoneRefused : World → Type 0
  NoneRefused w = (j base : ℕ) (e : Envelope) (s : Sess) → slice_get w.envelopes j ≡ Some e → e.sender ≡ a → e.to ≡ x → e.packet ≡ Plain (message.Truncated s base) → same_sess s u ≡ true → ⊥

  -- it was refused, and none of its batches was sent, nor will be
  pub record IsOver (w : World) : Type 0 where
    pub none : WasAnswered w a x u → ⊥
    pub here : (n : PlainNode) → (slot_of w a).node ≡ Some n → n.grants.inc ≡ i → Strict n.subs
    pub away : (n : PlainNode) → (slot_of w a).node ≡ Some n → (n.grants.inc ≡ i → ⊥) → Loose n.subs
    pub late : i ≤ (slot_of w a).last_inc

  module _ (w next : World) (most : ℕ) (d : Event) (fine : IsFine w most) (of_plan : w.plan ≡ plan) (role : role_of w.plan a ≡ IsNode f r) (does : ReplicaDoes w Here a d next) (came : subscribes (record { sender = a; reader = x; sess = u }) w d ≡ true → role_inc w a (role_of w.plan a) ≡ i)
      (inc-last : (n : PlainNode) → (slot_of w a).node ≡ Some n → n.grants.inc ≡ (slot_of w a).last_inc) where
    -- ---- batches

    answered-by : (P : Mail → Type 0) (n : PlainNode) (t : Stepped PlainNode) → HasStepped w next a n t → ((m : Mail) → P m → NoneSent m) → Each P t.sends → (WasAnswered w a x u → ⊥) → WasAnswered next a x u → ⊥
    answered-by P n t s sends each none k =
        elim (got-sent P a w.envelopes t.sends k.place k.envelope each (sym (ap (λ (es : List Envelope). slice_get es k.place) s.sends) ∙ k.there)) [
          | inl old ↦ none (record { place = k.place; envelope = k.envelope; index = k.index; there = old; batch = k.batch })
          | inr (m, of, p) ↦
              let to : m.to ≡ x = sym (ap (λ (e : Envelope). e.to) of) ∙ to-of k.envelope k.index k.batch in
              let nothing : index_in u k.envelope.packet ≡ None = ap (λ (e : Envelope). index_in u e.packet) of ∙ sends m p to in
              clash k.envelope k.index k.batch nothing
        ]
      where
        to-of : (e : Envelope) (j : ℕ) → index_of (record { sender = a; reader = x; sess = u }) e ≡ Some j → e.to ≡ x
        to-of e j h =
            (elim (e.sender == a && e.to == x) as (λ c. (e.sender == a && e.to == x) ≡ c → (cond {A = Option ℕ} c (index_in u e.packet) None) ≡ Some j → e.to ≡ x) [
              | true ↦ λ g q. eq-of e.to x (both (e.sender == a) (e.to == x) g).1
              | false ↦ λ g q. cc
            ]) refl h

        clash : (e : Envelope) (j : ℕ) → index_of (record { sender = a; reader = x; sess = u }) e ≡ Some j → index_in u e.packet ≡ None → ⊥
        clash e j h nothing =
            (elim (e.sender == a && e.to == x) as (λ c. (cond {A = Option ℕ} c (index_in u e.packet) None) ≡ Some j → ⊥) [
              | true ↦ λ q. (let wrong : ◌≡◌ {A = Option ℕ} None (Some j) = sym nothing ∙ q in cc)
              | false ↦ λ q. cc
            ]) h

    old-answered : SendsNone w next a → (WasAnswered w a x u → ⊥) → WasAnswered next a x u → ⊥
    old-answered sends none k = none (record { place = k.place; envelope = k.envelope; index = k.index; there = sends k.place k.envelope k.there (sender-of k.envelope k.index k.batch); batch = k.batch })
      where
        sender-of : (e : Envelope) (j : ℕ) → index_of (record { sender = a; reader = x; sess = u }) e ≡ Some j → e.sender ≡ a
        sender-of e j h =
            (elim (e.sender == a && e.to == x) as (λ c. (e.sender == a && e.to == x) ≡ c → (cond {A = Option ℕ} c (index_in u e.packet) None) ≡ Some j → e.sender ≡ a) [
              | true ↦ λ g q. eq-of e.sender a (both (e.sender == a) (e.to == x) g).0
              | false ↦ λ g q. cc
            ]) refl h

    -- ---- it is over, and stays so

    -- the node did a step that keeps both
    stepped-over : (n : PlainNode) (t : Stepped PlainNode) → HasStepped w next a n t → t.after.grants.inc ≡ n.grants.inc → IsOver w → (Strict n.subs → Strict t.after.subs × Each NoneSent t.sends) → ((n.grants.inc ≡ i → ⊥) → Loose n.subs → Loose t.after.subs × Each NoneSent t.sends) → IsOver next
    stepped-over n t s inc h strict loose =
        let late = h.late in
        let last = s.last in
        record {
          none = by-inc (same-or n.grants.inc i);
          here = λ m up is. let one = some-same t.after m (sym s.now ∙ up) in subst (λ (z : PlainNode). Strict z.subs) one (strict (h.here n s.up (sym inc ∙ ap (λ (z : PlainNode). z.grants.inc) one ∙ is))).0;
          away = λ m up other. let one = some-same t.after m (sym s.now ∙ up) in let apart = (λ (e : n.grants.inc ≡ i). other (ap (λ (z : PlainNode). z.grants.inc) (sym one) ∙ inc ∙ e)) in subst (λ (z : PlainNode). Loose z.subs) one (loose apart (h.away n s.up apart)).0;
          late = omega (arith, late, last);
        }
      where
        by-inc : (n.grants.inc ≡ i) ⊎ (n.grants.inc ≡ i → ⊥) → WasAnswered next a x u → ⊥
        by-inc (inl is) = answered-by NoneSent n t s (λ m p. p) (strict (h.here n s.up is)).1 h.none
        by-inc (inr other) = answered-by NoneSent n t s (λ m p. p) (loose other (h.away n s.up other)).1 h.none

    -- a subscription to the session comes in that incarnation alone
    allowed : (j : ℕ) (e : Envelope) (n : PlainNode) → d ≡ Deliver j → slice_get w.envelopes j ≡ Some e → can_come w e ≡ true → e.to ≡ a → (slot_of w a).node ≡ Some n → (n.grants.inc ≡ i → ⊥) → (asked : Subscribe) → e.packet ≡ Plain (message.Subscribe asked) → e.sender ≡ x → same_sess asked.sess u ≡ false
    allowed j e n event there can to up other asked packet mine = by-value (same_sess asked.sess u) refl
      where
        by-value : (b : Bool) → same_sess asked.sess u ≡ b → same_sess asked.sess u ≡ false
        by-value false h = h
        by-value true h =
            let l : Channel = record { sender = a; reader = x; sess = u } in
            let named : subscribes_packet u e.packet ≡ true = ap (λ (z : Packet). subscribes_packet u z) packet ∙ h in
            let asks : subscribes l w d ≡ true =
            ap (λ (z : Event). subscribes l w z) event ∙ ap (λ (o : Option Envelope). envelope_subscribes l w o) there
            ∙ both-of (e.sender == x && e.to == a && subscribes_packet u e.packet) (can_come w e) (both-of (e.sender == x && e.to == a) (subscribes_packet u e.packet) (both-of (e.sender == x) (e.to == a) (eq-test e.sender x mine) (eq-test e.to a to)) named) can in
            let is : n.grants.inc ≡ i = sym (ap (λ (o : Role). role_inc w a o) role ∙ ap (λ (o : Option PlainNode). node_inc o) up) ∙ came asks in absurd (other is)

    restarted-loose : (j : ℕ) → Loose (restarted_node Here j).subs
    unfolding restarted_node
    restarted-loose j = record { many = length-map (own_readers Here) (λ (_ : ℕ). no_session); kept = tt; closed = λ v e same. let none = nth-none (own_readers Here) k in let clash : ◌≡◌ {A = Option Sess} None (Some v) = sym (ap (λ (z : Sub). z.kept) none) ∙ e in cc }

    restarted-inc : (home : Home) (j : ℕ) → (restarted_node home j).grants.inc ≡ j
    unfolding restarted_node
    restarted-inc home j = refl

    still-over : ReplicaDoes w Here a d next → IsOver w → IsOver next
    still-over (ReplicaDoes.Rests slot sends) h =
        let late = h.late in
        let last = ap (λ (z : Slot). z.last_inc) slot in
        record { none = old-answered sends h.none; here = λ n up is. h.here n (sym (ap (λ (z : Slot). z.node) slot) ∙ up) is; away = λ n up other. h.away n (sym (ap (λ (z : Slot). z.node) slot) ∙ up) other; late = omega (arith, late, last) }
    still-over (ReplicaDoes.Falls crash down last sends) h =
        let late = h.late in
        record { none = old-answered sends h.none; here = λ n up is. absurd (gone n down up); away = λ n up other. absurd (gone n down up); late = omega (arith, late, last) }
      where
        gone : (n : PlainNode) → (slot_of next a).node ≡ None → (slot_of next a).node ≡ Some n → ⊥
        gone n down up = let clash : ◌≡◌ {A = Option PlainNode} None (Some n) = sym down ∙ up in cc
    still-over (ReplicaDoes.Starts j newer down now last sends) h =
        let late = h.late in
        let less = lt-of (slot_of w a).last_inc j newer in
        record {
          none = old-answered sends h.none;
          here = λ n up is.
              let one = some-same (restarted_node Here j) n (sym now ∙ up) in
              let inc : j ≡ i = sym (restarted-inc Here j) ∙ ap (λ (z : PlainNode). z.grants.inc) one ∙ is in absurd (omega (arith, inc, late, less));
          away = λ n up other. subst (λ (z : PlainNode). Loose z.subs) (some-same (restarted_node Here j) n (sym now ∙ up)) (restarted-loose j);
          late = omega (arith, late, less, last);
        }
    still-over (ReplicaDoes.Takes j e n event there can to s) h =
        stepped-over n (packet_step Here e.sender e.packet n) s (own-delivered Here e.sender e.packet n).grants.inc h
        (λ shut. let k = packet-shut Here x k u distinct low it (NotOlder u) (λ s. Unit {0}) (not-older u) e.sender e.packet n (λ asked same mine. tt) shut in (k.after, k.sends))
        (λ other shut. let k = packet-shut Here x k u distinct low it Anything (λ s. same_sess s u ≡ false) (anything u) e.sender e.packet n (λ asked same mine. allowed j e n event there can to s.up other asked same mine) shut in (k.after, k.sends))
    still-over (ReplicaDoes.Ticks now n event s) h =
        stepped-over n (tick_step Here now n) s (own-ticked Here now n).grants.inc h (λ shut. let k = ticked-shut Here x k u distinct low it (NotOlder u) (λ s. Unit {0}) (not-older u) now n shut in (k.after, k.sends))
        (λ other shut. let k = ticked-shut Here x k u distinct low it Anything (λ s. same_sess s u ≡ false) (anything u) now n shut in (k.after, k.sends))
    still-over (ReplicaDoes.Mills m n s) h =
        stepped-over n (mill_step Here m n) s (own-milled Here m n).grants.inc h (λ shut. let k = milled-shut Here x k u distinct low it (NotOlder u) (λ s. Unit {0}) (not-older u) m n shut in (k.after, k.sends))
        (λ other shut. let k = milled-shut Here x k u distinct low it Anything (λ s. same_sess s u ≡ false) (anything u) m n shut in (k.after, k.sends))

    -- ---- it is refused now

    none-by : (P : Mail → Type 0) (n : PlainNode) (t : Stepped PlainNode) → HasStepped w next a n t → ((m : Mail) → P m → NoTruncation Here x k u distinct low it (NotOlder u) (λ s. Unit {0}) (not-older u) m) → Each P t.sends → NoneRefused w → NoneRefused next
    none-by P n t s sends each none j base e v there mine to packet same =
        elim (got-sent P a w.envelopes t.sends j e each (sym (ap (λ (es : List Envelope). slice_get es j) s.sends) ∙ there)) [
          | inl old ↦ none j base e v old mine to packet same
          | inr (m, of, p) ↦ sends m p (sym (ap (λ (z : Envelope). z.to) of) ∙ to) v base (sym (ap (λ (z : Envelope). z.packet) of) ∙ packet) same
        ]

    never-so : (m : Mail) → RefusesTo x (λ asked. ⊥) m → m.to ≡ x → (v : Sess) (base : ℕ) → m.packet ≡ Plain (message.Truncated v base) → same_sess v u ≡ true → ⊥
    never-so m h to v base packet same = (subst (λ (z : Packet). RefusesBy (λ asked. ⊥) z) packet (h to)).1

    old-refused : SendsNone w next a → NoneRefused w → NoneRefused next
    old-refused sends none j base e v there mine to packet same = none j base e v (sends j e there mine) mine to packet same

    many-here : (n : PlainNode) → (slot_of w a).node ≡ Some n → length n.subs ≡ length (own_readers Here)
    many-here n up = subst (λ (pl : Plan). length n.subs ≡ length (own_readers (home_of pl (f, r)))) of_plan (shape-of (home_of w.plan (f, r)) most n (node-here w most a f r n fine role up).orderly.shape).subs

    -- a subscription that is refused begins it
    refused-now : (j : ℕ) (e : Envelope) (n : PlainNode) (asked : Subscribe) → d ≡ Deliver j → slice_get w.envelopes j ≡ Some e → can_come w e ≡ true → e.to ≡ a → e.packet ≡ Plain (message.Subscribe asked) → HasStepped w next a n (packet_step Here e.sender (Plain (message.Subscribe asked)) n) →
        (is_newer_than_kept u (nth no_session n.subs k).kept ≡ true → subscribes (record { sender = a; reader = x; sess = u }) w d ≡ true → WasAnswered w a x u → ⊥) → NoneRefused w → NoneRefused next ⊎ IsOver next
    refused-now j e n asked event there can to packet s fresh none =
        elim (packet-refuses Here x k u distinct low it (NotOlder u) (λ s. Unit {0}) (not-older u) e.sender asked n (many-here n s.up) (λ v same. begins-so u v same)) [
          | inl quiet ↦ inl (none-by (NoTruncation Here x k u distinct low it (NotOlder u) (λ s. Unit {0}) (not-older u)) n (packet_step Here e.sender (Plain (message.Subscribe asked)) n) s (λ m p. p) quiet none)
          | inr refusal ↦
              let t = packet_step Here e.sender (Plain (message.Subscribe asked)) n in
              let one : asked.sess ≡ u = same_sess-eq asked.sess u refusal.session in
              let asks = asks-so e asked event there can to packet refusal.reader refusal.session in
              let is : n.grants.inc ≡ i = sym (ap (λ (o : Role). role_inc w a o) role ∙ ap (λ (o : Option PlainNode). node_inc o) s.up) ∙ came asks in
              let inc = (own-delivered Here e.sender (Plain (message.Subscribe asked)) n).grants.inc in
              let known = inc-last n s.up in
              let last = s.last in
              inr (record {
                none = answered-by NoneSent n t s (λ m p. p) refusal.passed.sends (fresh (ap (λ (v : Sess). is_newer_than_kept v (nth no_session n.subs k).kept) (sym one) ∙ refusal.newer) asks);
                here = λ m up same. subst (λ (z : PlainNode). Strict z.subs) (some-same t.after m (sym s.now ∙ up)) refusal.passed.after;
                away = λ m up other. absurd (other (ap (λ (z : PlainNode). z.grants.inc) (some-same m t.after (sym up ∙ s.now)) ∙ inc ∙ is));
                late = omega (arith, is, known, last);
              })
        ]
      where
        asks-so : (e : Envelope) (asked : Subscribe) → d ≡ Deliver j → slice_get w.envelopes j ≡ Some e → can_come w e ≡ true → e.to ≡ a → e.packet ≡ Plain (message.Subscribe asked) → e.sender ≡ x → same_sess asked.sess u ≡ true → subscribes (record { sender = a; reader = x; sess = u }) w d ≡ true
        asks-so e asked event there can to packet mine same =
            let l : Channel = record { sender = a; reader = x; sess = u } in
            let named : subscribes_packet u e.packet ≡ true = ap (λ (z : Packet). subscribes_packet u z) packet ∙ same in
            ap (λ (z : Event). subscribes l w z) event ∙ ap (λ (o : Option Envelope). envelope_subscribes l w o) there
            ∙ both-of (e.sender == x && e.to == a && subscribes_packet u e.packet) (can_come w e) (both-of (e.sender == x && e.to == a) (subscribes_packet u e.packet) (both-of (e.sender == x) (e.to == a) (eq-test e.sender x mine) (eq-test e.to a to)) named) can

    -- no other packet is refused
    other-packet : (sender : ℕ) (p : Packet) (n : PlainNode) → HasStepped w next a n (packet_step Here sender p n) → ((asked : Subscribe) → p ≡ Plain (message.Subscribe asked) → ⊥) → NoneRefused w → NoneRefused next
    other-packet sender p n s other none =
        none-by (RefusesTo x (IsRefused x k sender p n)) n (packet_step Here sender p n) s (λ m h to v base packet same. let r = subst (λ (z : Packet). RefusesBy (IsRefused x k sender p n) z) packet (h to) in other r.0 r.1.packet_is)
        (calm-refuses Here x k distinct low it sender p n) none

    took : (j : ℕ) (e : Envelope) (n : PlainNode) (p : Packet) → e.packet ≡ p → d ≡ Deliver j → slice_get w.envelopes j ≡ Some e → can_come w e ≡ true → e.to ≡ a → HasStepped w next a n (packet_step Here e.sender p n) →
        (is_newer_than_kept u (nth no_session n.subs k).kept ≡ true → subscribes (record { sender = a; reader = x; sess = u }) w d ≡ true → WasAnswered w a x u → ⊥) → NoneRefused w → NoneRefused next ⊎ IsOver next
    took j e n (Plain (message.Subscribe asked)) same event there can to s fresh none = refused-now j e n asked event there can to same s fresh none
    took j e n (Plain (message.Batch v index items)) same event there can to s fresh none = inl (other-packet e.sender (Plain (message.Batch v index items)) n s (λ asked is. cc) none)
    took j e n (Plain (message.Truncated v base)) same event there can to s fresh none = inl (other-packet e.sender (Plain (message.Truncated v base)) n s (λ asked is. cc) none)
    took j e n (Plain (message.Beat b)) same event there can to s fresh none = inl (other-packet e.sender (Plain (message.Beat b)) n s (λ asked is. cc) none)
    took j e n (Plain (message.Ack c count)) same event there can to s fresh none = inl (other-packet e.sender (Plain (message.Ack c count)) n s (λ asked is. cc) none)
    took j e n (Plain (message.Ask c ask)) same event there can to s fresh none = inl (other-packet e.sender (Plain (message.Ask c ask)) n s (λ asked is. cc) none)
    took j e n (Plain (message.Grant c ask)) same event there can to s fresh none = inl (other-packet e.sender (Plain (message.Grant c ask)) n s (λ asked is. cc) none)
    took j e n (Plain (message.SnapAsk c try)) same event there can to s fresh none = inl (other-packet e.sender (Plain (message.SnapAsk c try)) n s (λ asked is. cc) none)
    took j e n (SnapFor c try snap) same event there can to s fresh none = inl (other-packet e.sender (SnapFor c try snap) n s (λ asked is. cc) none)

    pub over-next : ((n : PlainNode) → (slot_of w a).node ≡ Some n → is_newer_than_kept u (nth no_session n.subs k).kept ≡ true → subscribes (record { sender = a; reader = x; sess = u }) w d ≡ true → WasAnswered w a x u → ⊥) → NoneRefused w ⊎ IsOver w → NoneRefused next ⊎ IsOver next
    over-next fresh (inr over) = inr (still-over does over)
    over-next fresh (inl none) = by-does does
      where
        by-does : ReplicaDoes w Here a d next → NoneRefused next ⊎ IsOver next
        by-does (ReplicaDoes.Rests slot sends) = inl (old-refused sends none)
        by-does (ReplicaDoes.Falls crash down last sends) = inl (old-refused sends none)
        by-does (ReplicaDoes.Starts j newer down now last sends) = inl (old-refused sends none)
        by-does (ReplicaDoes.Takes j e n event there can to s) = took j e n e.packet refl event there can to s (λ newer asks answered. fresh n s.up newer asks answered) none
        by-does (ReplicaDoes.Ticks now n event s) = inl (none-by (RefusesTo x (λ asked. ⊥)) n (tick_step Here now n) s never-so (ticked-refuses Here x (λ asked. ⊥) now n) none)
        by-does (ReplicaDoes.Mills m n s) = inl (none-by (RefusesTo x (λ asked. ⊥)) n (mill_step Here m n) s never-so (milled-refuses Here x (λ asked. ⊥) m n) none)
