-- Every event keeps the order of asking in a world: who asks, who promised, and what is known of each other.
use Rattle.std.proofs.Common.{◌≡◌, ℕ, zero, suc, true, false, cond, ◌==◌, nat_lt, List, [], ◌∷◌, ◌++◌, map, refl, sym, ap, subst, ◌∙◌, arith, Option, Some, None, slice_get, ◌⊎◌, inl, inr}
use Rattle.std.specs.Prelude.{replicate}
use Rattle.dpc_lists.specs.Lists.{nth, changed}
use Rattle.dpc_model.specs.Granting.{Key}
use Rattle.dpc_model.specs.Actors.{role_of, replicas_of}
use Rattle.dpc_model.specs.declared.actors.Role.TheVariants.{Source as IsSource, Node as IsNode, Client as IsClient}
use Rattle.dpc_model.specs.declared.messages.Event.{Event}
use Rattle.dpc_model.specs.declared.messages.Message.TheVariants as message
use Rattle.dpc_model.specs.declared.plans.Plan.{Plan}
use Rattle.node_model.specs.Mails.{Packet, Plain, SnapFor, Mail, Stepped}
use Rattle.node_model.specs.Nodes.{Home, PlainNode, spec_of, restarted_node}
use Rattle.node_model.specs.NodeSteps.{replica_number, packet_step, mill_step, tick_step}
use Rattle.world_model.specs.Worlds.{World, Envelope, Slot, home_of, node_place, slot_of, from, node_stepped, restart_slot, happens}
use Rattle.world_model.specs.Orderly.{is_fitting, packet_way, carries_fitting}
use Rattle.dpc_lists.proofs.Truths.{both, eq-of, eq-test}
use Rattle.dpc_lists.proofs.Places.{place-nth}
use Rattle.dpc_lists.proofs.Somes.{some-same}
use Rattle.law_safety.proofs.Numbering.{replica-at, all-at}
use Rattle.law_safety.proofs.Worlding.{actor-at}
use Rattle.law_safety.proofs.Happening.{IsFine, node-here, may-mill}
use Rattle.law_granting.specs.Asking.{IsOver, WasAsked, TellsSo}
use Rattle.law_granting.proofs.Saying.{PacketSays, Says, told_key, asked_key, Hears, Asks, Ends, Never, FoundAbsent, IsOwnStep, own-delivered, own-milled, own-ticked}
use Rattle.law_granting.proofs.AtWork.{IsAsking, idle, delivered-asking, ticked-asking, milled-asking}
use Rattle.law_safety.proofs.EventCases.{AreCases, by-event}
use Rattle.law_safety.proofs.Promises.{slot-here}
use Rattle.dpc_lists.proofs.Each.{Each}
use Rattle.law_granting.proofs.Slots.{slot-there, Advances, advances-same, advances-down, advances-restart, advances-step, got-sent}

-- a node of a world whose last incarnation this is
pub record IsInOrder (w : World) (f r last : ℕ) (n : PlainNode) : Type 0 where
  pub asking : IsAsking (home_of w.plan (f, r)) n
  pub inc : n.grants.inc ≡ last
  pub promises : (c q : ℕ) (key : Key) → role_of w.plan c ≡ IsNode f q → n.grants.promise ≡ Some (q, key) → WasAsked (slot_of w c) key
  pub heard : (c q : ℕ) (key : Key) → role_of w.plan c ≡ IsNode f q → nth None n.grants.heard q ≡ Some key → IsOver (slot_of w c) key

pub record IsAskingWorld (w : World) : Type 0 where
  pub nodes : (a f r : ℕ) (n : PlainNode) → role_of w.plan a ≡ IsNode f r → (slot_of w a).node ≡ Some n → IsInOrder w f r (slot_of w a).last_inc n
  pub sent : (k f r : ℕ) (e : Envelope) → slice_get w.envelopes k ≡ Some e → role_of w.plan e.sender ≡ IsNode f r → TellsSo (slot_of w e.sender) e.packet

-- ---- what was told stays so

tells-later : (x y : Slot) (p : Packet) → Advances x y → TellsSo x p → TellsSo y p
tells-later x y (Plain (message.Beat b)) h t = h.over (b.inc, b.over) t
tells-later x y (Plain (message.Ask i ask)) h t = h.asked (i, ask) t
tells-later x y (Plain (message.Grant i ask)) h t = tt
tells-later x y (Plain (message.Batch u index items)) h t = tt
tells-later x y (Plain (message.Subscribe asked)) h t = tt
tells-later x y (Plain (message.Truncated u base)) h t = tt
tells-later x y (Plain (message.Ack i n)) h t = tt
tells-later x y (Plain (message.SnapAsk i n)) h t = tt
tells-later x y (SnapFor i try s) h t = tt

pub told-so : (x : Slot) (p : Packet) (key : Key) → told_key p ≡ Some key → TellsSo x p → IsOver x key
told-so x (Plain (message.Beat b)) key e t = subst (λ (k : Key). IsOver x k) (some-same (b.inc, b.over) key e) t
told-so x (Plain (message.Ask i ask)) key e t = cc
told-so x (Plain (message.Grant i ask)) key e t = cc
told-so x (Plain (message.Batch u index items)) key e t = cc
told-so x (Plain (message.Subscribe asked)) key e t = cc
told-so x (Plain (message.Truncated u base)) key e t = cc
told-so x (Plain (message.Ack i n)) key e t = cc
told-so x (Plain (message.SnapAsk i n)) key e t = cc
told-so x (SnapFor i try s) key e t = cc

asked-so : (x : Slot) (p : Packet) (key : Key) → asked_key p ≡ Some key → TellsSo x p → WasAsked x key
asked-so x (Plain (message.Ask i ask)) key e t = subst (λ (k : Key). WasAsked x k) (some-same (i, ask) key e) t
asked-so x (Plain (message.Beat b)) key e t = cc
asked-so x (Plain (message.Grant i ask)) key e t = cc
asked-so x (Plain (message.Batch u index items)) key e t = cc
asked-so x (Plain (message.Subscribe asked)) key e t = cc
asked-so x (Plain (message.Truncated u base)) key e t = cc
asked-so x (Plain (message.Ack i n)) key e t = cc
asked-so x (Plain (message.SnapAsk i n)) key e t = cc
asked-so x (SnapFor i try s) key e t = cc

-- what a node says of its own asks is so
said-so : (x : Slot) (home : Home) (m : PlainNode) (to : ℕ) (p : Packet) → m.grants.inc ≡ x.last_inc → PacketSays home m.grants to p → TellsSo (record x { node = Some m }) p
said-so x home m to (Plain (message.Beat b)) inc h = let one = h.0 in let two = h.1 in record { came = omega (arith, one, inc); over = λ same. omega (arith, two) }
said-so x home m to (Plain (message.Ask i ask)) inc h = let one = h.inc in record { came = omega (arith, one, inc); asked = λ same. inr (h.next, h.runs) }
said-so x home m to (Plain (message.Grant i ask)) inc h = tt
said-so x home m to (Plain (message.Batch u index items)) inc h = tt
said-so x home m to (Plain (message.Subscribe asked)) inc h = tt
said-so x home m to (Plain (message.Truncated u base)) inc h = tt
said-so x home m to (Plain (message.Ack i n)) inc h = tt
said-so x home m to (Plain (message.SnapAsk i n)) inc h = tt
said-so x home m to (SnapFor i try s) inc h = tt

-- ---- a world after an event

-- each slot advances, each node is in order, and what is new among the envelopes is so
next-asking : (w next : World) → next.plan ≡ w.plan → ((b f q : ℕ) → role_of w.plan b ≡ IsNode f q → Advances (slot_of w b) (slot_of next b)) →
    ((b f q : ℕ) (n : PlainNode) → role_of w.plan b ≡ IsNode f q → (slot_of next b).node ≡ Some n → IsInOrder w f q (slot_of next b).last_inc n) →
    ((k f q : ℕ) (e : Envelope) → slice_get next.envelopes k ≡ Some e → role_of w.plan e.sender ≡ IsNode f q → (slice_get w.envelopes k ≡ Some e) ⊎ TellsSo (slot_of next e.sender) e.packet) →
    IsAskingWorld w → IsAskingWorld next
next-asking w next plan advances nodes envelopes h =
    record {
      nodes = λ a f r n role up.
          let k = nodes a f r n (rw plan at role) up in
          record {
            asking = subst (λ (p : Plan). IsAsking (home_of p (f, r)) n) (sym plan) k.asking;
            inc = k.inc;
            promises = λ c q key there e. let old = rw plan at there in (advances c f q old).asked key (k.promises c q key old e);
            heard = λ c q key there e. let old = rw plan at there in (advances c f q old).over key (k.heard c q key old e);
          };
      sent = λ k f r e there role.
          let old = rw plan at role in
          elim (envelopes k f r e there old) [
            | inl before ↦ tells-later (slot_of w e.sender) (slot_of next e.sender) e.packet (advances e.sender f r old) (h.sent k f r e before old)
            | inr new ↦ new
          ];
    }

-- where the nodes stay, and nothing new comes of a node
quiet-asking : (w next : World) → next.plan ≡ w.plan → next.nodes ≡ w.nodes →
    ((k f q : ℕ) (e : Envelope) → slice_get next.envelopes k ≡ Some e → role_of w.plan e.sender ≡ IsNode f q → (slice_get w.envelopes k ≡ Some e) ⊎ TellsSo (slot_of next e.sender) e.packet) →
    IsAskingWorld w → IsAskingWorld next
quiet-asking w next plan nodes envelopes h =
    let same : (b : ℕ) → slot_of next b ≡ slot_of w b = λ b. rw (plan, nodes) refl in
    next-asking w next plan (λ b f q role. advances-same (slot_of w b) (slot_of next b) (same b))
    (λ b f q n role up. subst (λ (x : Slot). IsInOrder w f q x.last_inc n) (sym (same b)) (h.nodes b f q n role (sym (ap (λ (x : Slot). x.node) (same b)) ∙ up))) envelopes h

pub each-unit : (ms : List Mail) → Each (λ m. Unit {0}) ms
each-unit [] = tt
each-unit (m ∷ ms) = (tt, each-unit ms)

-- mails of an actor that is no node
other-sent : (w : World) (a k f q : ℕ) (ms : List Mail) (e : Envelope) → ((f q : ℕ) → role_of w.plan a ≡ IsNode f q → ⊥) → slice_get (w.envelopes ++ map (from a) ms) k ≡ Some e → role_of w.plan e.sender ≡ IsNode f q →
    slice_get w.envelopes k ≡ Some e
other-sent w a k f q ms e other there role =
    elim (got-sent (λ m. Unit {0}) a w.envelopes ms k e (each-unit ms) there) [
      | inl old ↦ old
      | inr new ↦ absurd (other f q (sym (ap (λ (x : Envelope). role_of w.plan x.sender) new.1) ∙ role))
    ]

source-sent : (w next : World) (a s : ℕ) (ms : List Mail) → role_of w.plan a ≡ IsSource s → next.plan ≡ w.plan → next.nodes ≡ w.nodes → next.envelopes ≡ w.envelopes ++ map (from a) ms → IsAskingWorld w → IsAskingWorld next
source-sent w next a s ms role plan nodes envelopes h =
    quiet-asking w next plan nodes (λ k f q e there sender. inl (other-sent w a k f q ms e (λ g p d. let clash : IsSource s ≡ IsNode g p = sym role ∙ d in cc) (rw envelopes at there) sender)) h

client-sent : (w next : World) (a c : ℕ) (ms : List Mail) → role_of w.plan a ≡ IsClient c → next.plan ≡ w.plan → next.nodes ≡ w.nodes → next.envelopes ≡ w.envelopes ++ map (from a) ms → IsAskingWorld w → IsAskingWorld next
client-sent w next a c ms role plan nodes envelopes h =
    quiet-asking w next plan nodes (λ k f q e there sender. inl (other-sent w a k f q ms e (λ g p d. let clash : IsClient c ≡ IsNode g p = sym role ∙ d in cc) (rw envelopes at there) sender)) h

-- whether two numbers are one
pub same-or : (a b : ℕ) → (a ≡ b) ⊎ (a ≡ b → ⊥)
same-or a b = (elim (a == b) as (λ c. (a == b) ≡ c → (a ≡ b) ⊎ (a ≡ b → ⊥)) [ true ↦ λ e. inl (eq-of a b e) | false ↦ λ e. inr (λ f. let yes = eq-test a b f in cc) ]) refl

-- one slot is changed
slot-asking : (w : World) (most a f r : ℕ) (g : Slot → Slot) (es : List Envelope) → IsFine w most → role_of w.plan a ≡ IsNode f r → Advances (slot_of w a) (g (slot_of w a)) →
    ((n : PlainNode) → (g (slot_of w a)).node ≡ Some n → IsInOrder w f r (g (slot_of w a)).last_inc n) →
    ((k p q : ℕ) (e : Envelope) → slice_get es k ≡ Some e → role_of w.plan e.sender ≡ IsNode p q → (slice_get w.envelopes k ≡ Some e) ⊎ ((e.sender ≡ a) × TellsSo (g (slot_of w a)) e.packet)) →
    IsAskingWorld w → IsAskingWorld (record w { nodes = changed (node_place w.plan a) g w.nodes; envelopes = es })
slot-asking w most a f r g es fine role advances node envelopes h =
    let next = record w { nodes = changed (node_place w.plan a) g w.nodes; envelopes = es } in
    let here : slot_of next a ≡ g (slot_of w a) = slot-here w most a f r g fine role in
    next-asking w next refl
    (λ b p q there. elim (same-or b a) [
      | inl same ↦ subst (λ (x : ℕ). Advances (slot_of w x) (slot_of next x)) (sym same) (subst (λ (x : Slot). Advances (slot_of w a) x) (sym here) advances)
      | inr other ↦ advances-same (slot_of w b) (slot_of next b) (slot-there w a b f r p q g role there other)
    ])
    (λ b p q n there up. elim (same-or b a) [
      | inl same ↦ at-it b p q n there up same here
      | inr other ↦
          let still = slot-there w a b f r p q g role there other in
          subst (λ (x : Slot). IsInOrder w p q x.last_inc n) (sym still) (h.nodes b p q n there (sym (ap (λ (x : Slot). x.node) still) ∙ up))
    ])
    (λ k p q e there sender. elim (envelopes k p q e there sender) [
      | inl old ↦ inl old
      | inr new ↦ inr (subst (λ (x : Slot). TellsSo x e.packet) (sym (ap (λ (x : ℕ). slot_of next x) new.0 ∙ here)) new.1)
    ]) h
  where
    at-it : (b p q : ℕ) (n : PlainNode) → role_of w.plan b ≡ IsNode p q → (slot_of (record w { nodes = changed (node_place w.plan a) g w.nodes; envelopes = es }) b).node ≡ Some n → b ≡ a →
        slot_of (record w { nodes = changed (node_place w.plan a) g w.nodes; envelopes = es }) a ≡ g (slot_of w a) → IsInOrder w p q (slot_of (record w { nodes = changed (node_place w.plan a) g w.nodes; envelopes = es }) b).last_inc n
    at-it b p q n there up same here =
        let now = ap (λ (x : ℕ). slot_of (record w { nodes = changed (node_place w.plan a) g w.nodes; envelopes = es }) x) same ∙ here in
        let whole : IsNode f r ≡ IsNode p q = sym role ∙ ap (λ (x : ℕ). role_of w.plan x) (sym same) ∙ there in
        let one : f ≡ p = cc in
        let two : r ≡ q = cc in
        subst (λ (x : Slot). IsInOrder w p q x.last_inc n) (sym now)
        (subst (λ (x : ℕ). IsInOrder w x q (g (slot_of w a)).last_inc n) one (subst (λ (x : ℕ). IsInOrder w f x (g (slot_of w a)).last_inc n) two (node n (sym (ap (λ (x : Slot). x.node) now) ∙ up))))

-- a node's own step
step-asking-world : (H A E : ℕ → Key → Type 0) (w : World) (most a f r : ℕ) (n : PlainNode) (s : Stepped PlainNode) → IsFine w most → role_of w.plan a ≡ IsNode f r → (slot_of w a).node ≡ Some n →
    IsOwnStep H A E (home_of w.plan (f, r)) n s → IsAsking (home_of w.plan (f, r)) s.after →
    ((c q : ℕ) (key : Key) → role_of w.plan c ≡ IsNode f q → H q key → IsOver (slot_of w c) key) →
    ((c q : ℕ) (key : Key) → role_of w.plan c ≡ IsNode f q → A q key → WasAsked (slot_of w c) key) → IsAskingWorld w → IsAskingWorld (node_stepped a s w)
step-asking-world H A E w most a f r n s fine role up own asking hears asks h =
    let old = h.nodes a f r n role up in
    let inc : s.after.grants.inc ≡ (slot_of w a).last_inc = own.grants.inc ∙ old.inc in
    slot-asking w most a f r (λ (slot : Slot). record slot { node = Some s.after }) (w.envelopes ++ map (from a) s.sends) fine role (advances-step H A E (slot_of w a) n s.after up own.grants)
    (λ m e. subst (λ (x : PlainNode). IsInOrder w f r (slot_of w a).last_inc x) (some-same s.after m e)
    (record {
      asking = asking;
      inc = inc;
      promises = λ c q key there e. elim (own.grants.promise q key e) [ inl before ↦ old.promises c q key there before | inr new ↦ asks c q key there new ];
      heard = λ c q key there e. elim (own.grants.heard q key e) [ inl before ↦ old.heard c q key there before | inr new ↦ hears c q key there new ];
    }))
    (λ k p q e there sender. elim (got-sent (Says (home_of w.plan (f, r)) s.after.grants) a w.envelopes s.sends k e own.mails there) [
      | inl before ↦ inl before
      | inr new ↦ inr (
        ap (λ (x : Envelope). x.sender) new.1,
        subst (λ (x : Envelope). TellsSo (record (slot_of w a) { node = Some s.after }) x.packet) (sym new.1)
            (said-so (slot_of w a) (home_of w.plan (f, r)) s.after new.0.to new.0.packet inc new.2),
      )
    ]) h

-- ---- nothing heard yet

pub heard-none : (k q : ℕ) (key : Key) → ◌≡◌ {A = Option Key} (nth None (replicate k None) q) (Some key) → ⊥
heard-none zero q key e = cc
heard-none (suc k) zero key e = cc
heard-none (suc k) (suc q) key e = heard-none k q key e

-- ---- each event

-- an envelope came of the replica whose number its sender has
sender-is : (plan : Plan) (f r a c q : ℕ) → replica_number (home_of plan (f, r)) a ≡ Some q → role_of plan c ≡ IsNode f q → c ≡ a
sender-is plan f r a c q e there = sym (replica-at plan c f q there) ∙ place-nth a (replicas_of plan f) q e

asking-cases : (w : World) (most : ℕ) → IsFine w most → IsAskingWorld w → AreCases w (λ e next. IsAskingWorld next)
unfolding restarted_node
asking-cases w most fine h =
    record {
      still = λ e. h;
      wires = λ e cuts. quiet-asking w (record w { cuts = cuts }) refl refl (λ k f q e there role. inl there) h;
      emitted = λ a s t role. source-sent w _ a s _ role refl refl refl h;
      released = λ a s t role. source-sent w _ a s _ role refl refl refl h;
      source_took = λ k s e there can role. source-sent w _ e.to s _ role refl refl refl h;
      source_ticks = λ a s now role. source-sent w _ a s _ role refl refl refl h;
      crashed = λ a f r role. slot-asking w most a f r (λ (slot : Slot). record slot { node = None }) w.envelopes fine role (advances-down (slot_of w a)) (λ n e. cc) (λ k p q e there sender. inl there) h;
      restarted = λ a i f r role. slot-asking w most a f r (restart_slot (home_of w.plan (f, r)) i) w.envelopes fine role (advances-restart (home_of w.plan (f, r)) i (slot_of w a)) (λ n e. restarted-order a i f r n role e)
          (λ k p q e there sender. inl there) h;
      node_took = λ k f r e n there can role up.
          let home = home_of w.plan (f, r) in
          let fits = all-at (is_fitting w.plan) w.envelopes k e fine.fits there in
          let way = (both (packet_way w.plan (role_of w.plan e.sender) (role_of w.plan e.to) e.packet) (carries_fitting w.plan (role_of w.plan e.sender) e.packet) fits).0 in
          step-asking-world (Hears home e.sender e.packet) (Asks home e.sender e.packet) (Ends home e.sender e.packet) w most e.to f r n (packet_step home e.sender e.packet n) fine role up (own-delivered home e.sender e.packet n)
          (delivered-asking home e.to most e.sender e.packet n (actor-at w.plan e.to f r fine.checked role) (rw role at way) (node-here w most e.to f r n fine role up) (h.nodes e.to f r n role up).asking)
          (λ c q key here told. let same = sender-is w.plan f r e.sender c q told.0 here in
          subst (λ (x : ℕ). IsOver (slot_of w x) key) (sym same) (told-so (slot_of w e.sender) e.packet key told.1 (h.sent k f q e there (subst (λ (x : ℕ). role_of w.plan x ≡ IsNode f q) same here))))
          (λ c q key here asked. let same = sender-is w.plan f r e.sender c q asked.0 here in
          subst (λ (x : ℕ). WasAsked (slot_of w x) key) (sym same) (asked-so (slot_of w e.sender) e.packet key asked.1 (h.sent k f q e there (subst (λ (x : ℕ). role_of w.plan x ≡ IsNode f q) same here)))) h;
      node_ticked = λ a now f r n role up clock.
          let home = home_of w.plan (f, r) in
          step-asking-world Never Never (FoundAbsent now n) w most a f r n (tick_step home now n) fine role up (own-ticked home now n)
          (ticked-asking home a most now n (actor-at w.plan a f r fine.checked role) (node-here w most a f r n fine role up) (h.nodes a f r n role up).asking) (λ c q key here x. absurd x) (λ c q key here x. absurd x) h;
      node_milled = λ a r f q n role up can.
          let home = home_of w.plan (f, q) in
          step-asking-world Never Never Never w most a f q n (mill_step home r n) fine role up (own-milled home r n)
          (milled-asking home most r n (actor-at w.plan a f q fine.checked role).place (may-mill home r n can) (node-here w most a f q n fine role up) (h.nodes a f q n role up).asking) (λ c p key here x. absurd x) (λ c p key here x. absurd x) h;
      client_took = λ k c e there can role. quiet-asking w _ refl refl (λ k f q e there role. inl there) h;
      client_ticks = λ a c now role. client-sent w _ a c _ role refl refl refl h;
    }
  where
    restarted-order : (a i f r : ℕ) (n : PlainNode) → role_of w.plan a ≡ IsNode f r → (restart_slot (home_of w.plan (f, r)) i (slot_of w a)).node ≡ Some n →
        IsInOrder w f r (restart_slot (home_of w.plan (f, r)) i (slot_of w a)).last_inc n
    restarted-order a i f r n role e = by-node (slot_of w a).node refl e
      where
        by-node : (o : Option PlainNode) → (slot_of w a).node ≡ o →
            (elim o as (λ _. Slot) [ Some x ↦ slot_of w a | None ↦ cond {A = Slot} (nat_lt (slot_of w a).last_inc i) (record { last_inc = i; node = Some (restarted_node (home_of w.plan (f, r)) i) }) (slot_of w a) ]).node ≡ Some n →
            IsInOrder w f r (elim o as (λ _. Slot) [ Some x ↦ slot_of w a | None ↦ cond {A = Slot} (nat_lt (slot_of w a).last_inc i) (record { last_inc = i; node = Some (restarted_node (home_of w.plan (f, r)) i) }) (slot_of w a) ]).last_inc n
        by-node (Some x) up d = h.nodes a f r n role d
        by-node None up d = elim (nat_lt (slot_of w a).last_inc i) as (λ b. (cond {A = Slot} b (record { last_inc = i; node = Some (restarted_node (home_of w.plan (f, r)) i) }) (slot_of w a)).node ≡ Some n →
            IsInOrder w f r (cond {A = Slot} b (record { last_inc = i; node = Some (restarted_node (home_of w.plan (f, r)) i) }) (slot_of w a)).last_inc n) [
              | true ↦ λ g.
                  let same : restarted_node (home_of w.plan (f, r)) i ≡ n = some-same (restarted_node (home_of w.plan (f, r)) i) n g in
                  subst (λ (x : PlainNode). IsInOrder w f r i x) same
                  (record {
                    asking = idle (home_of w.plan (f, r)) (restarted_node (home_of w.plan (f, r)) i) refl (λ u v. cc) (λ p v. cc);
                    inc = refl;
                    promises = λ c q key there v. cc;
                    heard = λ c q key there v. absurd (heard-none (spec_of (home_of w.plan (f, r))).replicas q key v);
                  })
              | false ↦ λ g. h.nodes a f r n role g
            ] d

pub event-asking : (w : World) (most : ℕ) (e : Event) → IsFine w most → IsAskingWorld w → IsAskingWorld (happens w e)
event-asking w most e fine h = by-event w (λ e next. IsAskingWorld next) (asking-cases w most fine h) e
