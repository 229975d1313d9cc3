-- Worlds in which every node is up in its first incarnation and does not recover; and what an event that crashes nobody makes of one node there.
use Rattle.std.proofs.Common.{◌≡◌, ℕ, suc, true, false, cond, nat_lt, List, [], ◌∷◌, ◌++◌, map, refl, sym, ap, subst, ◌∙◌, Option, Some, None, slice_get, unwrap_or, ◌⊎◌, inl, inr}
use Rattle.std.specs.Prelude.{IfSome}
use Rattle.dpc_lists.specs.Lists.{changed}
use Rattle.dpc_model.specs.Actors.{role_of, nodes_of}
use Rattle.dpc_model.specs.declared.actors.Role.TheVariants.{Source as IsSource, Node as IsNode, Client as IsClient}
use Rattle.dpc_model.specs.declared.messages.Event.{Event}
use Rattle.dpc_lists.proofs.Somes.{some-same}
use Rattle.node_model.specs.Mails.{Mail, Stepped}
use Rattle.node_model.specs.Nodes.{Home, PlainNode, restarted_node}
use Rattle.node_model.specs.NodeSteps.{packet_step, mill_step, tick_step}
use Rattle.node_model.specs.Sources.{source_emits, source_releases, source_packet_step, source_tick_step}
use Rattle.node_model.specs.Clients.{client_tick_step}
use Rattle.world_model.specs.Worlds.{World, Envelope, Slot, home_of, node_place, slot_of, source_at, client_at, from, node_stepped, restart_slot, happens}
use Rattle.world_model.specs.Steady.{NoneRecovers}
use Rattle.law_safety.proofs.Numbering.{node-at}
use Rattle.law_safety.proofs.EventCases.{AreCases, by-event}
use Rattle.law_safety.proofs.Worlding.{slots-at}
use Rattle.law_safety.proofs.Happening.{IsFine}
use Rattle.law_safety.proofs.Promises.{slot-here}
use Rattle.law_granting.proofs.Moves.{get-was}
use Rattle.law_granting.proofs.Slots.{slot-there, got-sent}
use Rattle.law_granting.proofs.Asked.{same-or, each-unit}
use Rattle.law_calm.specs.Crashes.{crashes_none}
use Rattle.law_calm.proofs.Whole.{IsHarmless, packet-whole, milled-whole, ticked-whole}

-- ---- calm slots

pub record IsCalmSlot (slot : Slot) : Type 0 where
  pub first : slot.last_inc ≡ 1
  pub node : PlainNode
  pub up : slot.node ≡ Some node
  pub whole : node.recovering ≡ false

abbrev pub AreCalmSlots : List Slot → Type 0
AreCalmSlots slots = (i : ℕ) (slot : Slot) → slice_get slots i ≡ Some slot → IsCalmSlot slot

pub calm-recovers : (slots : List Slot) → AreCalmSlots slots → NoneRecovers slots
calm-recovers [] h = tt
calm-recovers (slot ∷ slots) h =
    let c = h 0 slot refl in
    (subst (λ (o : Option PlainNode). IfSome o (λ (n : PlainNode). n.recovering ≡ false)) (sym c.up) c.whole, calm-recovers slots (λ i s e. h (suc i) s e))

changed-calm : (i : ℕ) (f : Slot → Slot) (slots : List Slot) → AreCalmSlots slots → ((slot : Slot) → IsCalmSlot slot → slice_get slots i ≡ Some slot → IsCalmSlot (f slot)) → AreCalmSlots (changed i f slots)
changed-calm i f slots h own j slot e =
    let k = get-was i f slots j slot e in
    elim k.2 [
      | inl same ↦ subst IsCalmSlot same (h j k.0 k.1)
      | inr here ↦ subst IsCalmSlot here.1 (own k.0 (h j k.0 k.1) (subst (λ (m : ℕ). slice_get slots m ≡ Some k.0) here.0 k.1))
    ]

-- a calm slot is not changed by a restart
restart-calm : (home : Home) (i : ℕ) (slot : Slot) → IsCalmSlot slot → restart_slot home i slot ≡ slot
restart-calm home i slot c = ap (λ (o : Option PlainNode). elim o as (λ _. Slot) [ Some n ↦ slot | None ↦ cond (nat_lt slot.last_inc i) (record { last_inc = i; node = Some (restarted_node home i) }) slot ]) c.up

pub slot-calm : (w : World) (most a f r : ℕ) → IsFine w most → AreCalmSlots w.nodes → role_of w.plan a ≡ IsNode f r → IsCalmSlot (slot_of w a)
slot-calm w most a f r fine calm role =
    let found = slots-at w.plan most (node_place w.plan a) (f, r) (nodes_of w.plan) w.nodes (node-at w.plan a f r role) fine.nodes_up in
    let here : slot_of w a ≡ found.0 = ap (λ (o : Option Slot). unwrap_or o (record { last_inc = 0; node = None })) found.1 in
    subst IsCalmSlot (sym here) (calm (node_place w.plan a) found.0 found.1)

pub up-calm : (w : World) (most a f r : ℕ) (n : PlainNode) → IsFine w most → AreCalmSlots w.nodes → role_of w.plan a ≡ IsNode f r → (slot_of w a).node ≡ Some n → n.recovering ≡ false
up-calm w most a f r n fine calm role up =
    let c = slot-calm w most a f r fine calm role in
    subst (λ (z : PlainNode). z.recovering ≡ false) (some-same c.node n (sym c.up ∙ up)) c.whole

-- ---- the slots after an event

-- no envelope truncates a present session of a node
abbrev pub NoneHarms : World → Type 0
NoneHarms w =
    (k g b : ℕ) (e : Envelope) (n : PlainNode) → slice_get w.envelopes k ≡ Some e → role_of w.plan e.to ≡ IsNode g b → (slot_of w e.to).node ≡ Some n → IsHarmless (home_of w.plan (g, b)) e.sender e.packet n

module _ (w : World) (most : ℕ) (fine : IsFine w most) (calm : AreCalmSlots w.nodes) where
  stepped-calm : (y : ℕ) (t : Stepped PlainNode) → t.after.recovering ≡ false → AreCalmSlots (node_stepped y t w).nodes
  stepped-calm y t whole = changed-calm (node_place w.plan y) (λ (slot : Slot). record slot { node = Some t.after }) w.nodes calm (λ slot c there. record { first = c.first; node = t.after; up = refl; whole = whole })

  calm-cases : NoneHarms w → AreCases w (λ e next. crashes_none e ≡ true → AreCalmSlots next.nodes)
  calm-cases harmless =
      record {
        still = λ e none. calm;
        wires = λ e cuts none. calm;
        emitted = λ a s t role none. calm;
        released = λ a s t role none. calm;
        source_took = λ k s e there can role none. calm;
        source_ticks = λ a s now role none. calm;
        crashed = λ a g b role none. cc;
        restarted = λ a i g b role none. changed-calm (node_place w.plan a) (restart_slot (home_of w.plan (g, b)) i) w.nodes calm (λ slot c there. subst IsCalmSlot (sym (restart-calm (home_of w.plan (g, b)) i slot c)) c);
        node_took = λ k g b e n there can role up none.
            stepped-calm e.to (packet_step (home_of w.plan (g, b)) e.sender e.packet n) (packet-whole (home_of w.plan (g, b)) e.sender e.packet n (up-calm w most e.to g b n fine calm role up) (harmless k g b e n there role up));
        node_ticked = λ a now g b n role up clock none. stepped-calm a (tick_step (home_of w.plan (g, b)) now n) (ticked-whole (home_of w.plan (g, b)) a now n (up-calm w most a g b n fine calm role up));
        node_milled = λ a m g b n role up can none. stepped-calm a (mill_step (home_of w.plan (g, b)) m n) (milled-whole (home_of w.plan (g, b)) a m n ∙ up-calm w most a g b n fine calm role up);
        client_took = λ k c e there can role none. calm;
        client_ticks = λ a c now role none. calm;
      }

  pub calm-next : NoneHarms w → (e : Event) → crashes_none e ≡ true → AreCalmSlots (happens w e).nodes
  calm-next harmless e none = by-event w (λ e next. crashes_none e ≡ true → AreCalmSlots next.nodes) (calm-cases harmless) e none

-- ---- one node

-- the node of an actor did this step
pub record HasStepped (w next : World) (x : ℕ) (n : PlainNode) (t : Stepped PlainNode) : Type 0 where
  pub up : (slot_of w x).node ≡ Some n
  pub now : (slot_of next x).node ≡ Some t.after
  pub sends : next.envelopes ≡ w.envelopes ++ map (from x) t.sends

pub data NodeDoes (w : World) (home : Home) (x : ℕ) (next : World) : Type 0 where
  Rests : slot_of next x ≡ slot_of w x → ((k : ℕ) (e : Envelope) → slice_get next.envelopes k ≡ Some e → e.sender ≡ x → slice_get w.envelopes k ≡ Some e) → NodeDoes w home x next
  Takes : (k : ℕ) (e : Envelope) (n : PlainNode) → slice_get w.envelopes k ≡ Some e → e.to ≡ x → HasStepped w next x n (packet_step home e.sender e.packet n) → NodeDoes w home x next
  Ticks : (now : ℕ) (n : PlainNode) → HasStepped w next x n (tick_step home now n) → NodeDoes w home x next
  Mills : (m : ℕ) (n : PlainNode) → HasStepped w next x n (mill_step home m n) → NodeDoes w home x next

module _ (w : World) (most : ℕ) (fine : IsFine w most) (calm : AreCalmSlots w.nodes) (x g b : ℕ) (role : role_of w.plan x ≡ IsNode g b) where
  abbrev Does : World → Type 0
  Does next = NodeDoes w (home_of w.plan (g, b)) x next

  same-rests : (next : World) → slot_of next x ≡ slot_of w x → next.envelopes ≡ w.envelopes → Does next
  same-rests next slot same = Rests slot (λ k e there mine. sym (ap (λ (es : List Envelope). slice_get es k) same) ∙ there)

  -- another actor's mails
  other-rests : (next : World) (y : ℕ) (ms : List Mail) → slot_of next x ≡ slot_of w x → next.envelopes ≡ w.envelopes ++ map (from y) ms → (x ≡ y → ⊥) → Does next
  other-rests next y ms slot sends other = Rests slot (λ k e there mine. old k e mine (got-sent (λ m. Unit {0}) y w.envelopes ms k e (each-unit ms) (sym (ap (λ (es : List Envelope). slice_get es k) sends) ∙ there)))
    where
      old : (k : ℕ) (e : Envelope) → e.sender ≡ x → (slice_get w.envelopes k ≡ Some e) ⊎ ((m : Mail) × (e ≡ from y m) × Unit {0}) → slice_get w.envelopes k ≡ Some e
      old k e mine (inl there) = there
      old k e mine (inr (m, of, u)) = absurd (other (sym mine ∙ ap (λ (z : Envelope). z.sender) of))

  source-apart : (y s : ℕ) → role_of w.plan y ≡ IsSource s → x ≡ y → ⊥
  source-apart y s is same = let clash : IsNode g b ≡ IsSource s = sym role ∙ ap (λ (z : ℕ). role_of w.plan z) same ∙ is in cc

  client-apart : (y c : ℕ) → role_of w.plan y ≡ IsClient c → x ≡ y → ⊥
  client-apart y c is same = let clash : IsNode g b ≡ IsClient c = sym role ∙ ap (λ (z : ℕ). role_of w.plan z) same ∙ is in cc

  -- a node's step
  node-does : (y f q : ℕ) (n : PlainNode) (step : Home → Stepped PlainNode) → role_of w.plan y ≡ IsNode f q → (slot_of w y).node ≡ Some n →
      (x ≡ y → HasStepped w (node_stepped y (step (home_of w.plan (f, q))) w) x n (step (home_of w.plan (g, b))) → Does (node_stepped y (step (home_of w.plan (f, q))) w)) → Does (node_stepped y (step (home_of w.plan (f, q))) w)
  node-does y f q n step is up own =
      let t = step (home_of w.plan (f, q)) in
      let change : Slot → Slot = λ (slot : Slot). record slot { node = Some t.after } in
      elim (same-or x y) [
        | inr other ↦ other-rests (node_stepped y t w) y t.sends (slot-there w y x f q g b change is role other) refl other
        | inl same ↦ own same (mine same)
      ]
    where
      mine : x ≡ y → HasStepped w (node_stepped y (step (home_of w.plan (f, q))) w) x n (step (home_of w.plan (g, b)))
      mine same =
          let t = step (home_of w.plan (f, q)) in
          let roles : IsNode f q ≡ IsNode g b = sym is ∙ ap (λ (z : ℕ). role_of w.plan z) (sym same) ∙ role in
          let one : f ≡ g = cc in
          let two : q ≡ b = cc in
          let home : home_of w.plan (f, q) ≡ home_of w.plan (g, b) = ap (λ (z : ℕ). home_of w.plan (z, q)) one ∙ ap (λ (z : ℕ). home_of w.plan (g, z)) two in
          let slot = slot-here w most y f q (λ (z : Slot). record z { node = Some t.after }) fine is in
          let node : (slot_of (node_stepped y t w) y).node ≡ Some t.after = ap (λ (z : Slot). z.node) slot in
          let all : HasStepped w (node_stepped y t w) x n t = record {
            up = ap (λ (z : ℕ). (slot_of w z).node) same ∙ up;
            now = ap (λ (z : ℕ). (slot_of (node_stepped y t w) z).node) same ∙ node;
            sends = ap (λ (z : ℕ). w.envelopes ++ map (from z) t.sends) (sym same);
          } in
          subst (λ (h : Home). HasStepped w (node_stepped y t w) x n (step h)) home all

  does-cases : AreCases w (λ e next. crashes_none e ≡ true → Does next)
  does-cases =
      record {
        still = λ e none. same-rests w refl refl;
        wires = λ e cuts none. same-rests (record w { cuts = cuts }) refl refl;
        emitted = λ a s t is none. other-rests _ a (source_emits w.plan s t (source_at w s)).sends refl refl (source-apart a s is);
        released = λ a s t is none. other-rests _ a (source_releases w.plan s t (source_at w s)).sends refl refl (source-apart a s is);
        source_took = λ k s e there can is none. other-rests _ e.to (source_packet_step w.plan s e.sender e.packet (source_at w s)).sends refl refl (source-apart e.to s is);
        source_ticks = λ a s now is none. other-rests _ a (source_tick_step w.plan s now (source_at w s)).sends refl refl (source-apart a s is);
        crashed = λ a f q is none. cc;
        restarted = λ a i f q is none. same-rests (record w { nodes = changed (node_place w.plan a) (restart_slot (home_of w.plan (f, q)) i) w.nodes }) (restarted a i f q is (same-or x a)) refl;
        node_took = λ k f q e n there can is up none. node-does e.to f q n (λ h. packet_step h e.sender e.packet n) is up (λ same stepped. Takes k e n there (sym same) stepped);
        node_ticked = λ a now f q n is up clock none. node-does a f q n (λ h. tick_step h now n) is up (λ same stepped. Ticks now n stepped);
        node_milled = λ a m f q n is up can none. node-does a f q n (λ h. mill_step h m n) is up (λ same stepped. Mills m n stepped);
        client_took = λ k c e there can is none. same-rests _ refl refl;
        client_ticks = λ a c now is none. other-rests _ a (client_tick_step w.plan c now (client_at w c)).sends refl refl (client-apart a c is);
      }
    where
      restarted : (a i f q : ℕ) → role_of w.plan a ≡ IsNode f q → (x ≡ a) ⊎ (x ≡ a → ⊥) → slot_of (record w { nodes = changed (node_place w.plan a) (restart_slot (home_of w.plan (f, q)) i) w.nodes }) x ≡ slot_of w x
      restarted a i f q is (inr other) = slot-there w a x f q g b (restart_slot (home_of w.plan (f, q)) i) is role other
      restarted a i f q is (inl same) =
          let here = slot-here w most a f q (restart_slot (home_of w.plan (f, q)) i) fine is in
          let c = slot-calm w most a f q fine calm is in
          ap (λ (z : ℕ). slot_of (record w { nodes = changed (node_place w.plan a) (restart_slot (home_of w.plan (f, q)) i) w.nodes }) z) same ∙ here ∙ restart-calm (home_of w.plan (f, q)) i (slot_of w a) c ∙ ap (λ (z : ℕ). slot_of w z) (sym same)

  pub node-does-so : (e : Event) → crashes_none e ≡ true → Does (happens w e)
  node-does-so e none = by-event w (λ e next. crashes_none e ≡ true → Does next) does-cases e none
