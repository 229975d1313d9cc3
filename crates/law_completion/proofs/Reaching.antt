-- A target that a node could reach it still can after a delivery or a tick, unless it recovers.
use Rattle.std.proofs.Common.{◌≡◌, ℕ, ◌+◌, ◌≤◌, true, false, cond, ◌==◌, refl, sym, ap, subst, ◌∙◌, arith, Option, Some, None, slice_get}
use Rattle.dpc_model.specs.Actors.{role_of}
use Rattle.dpc_model.specs.declared.actors.Role.{Role}
use Rattle.dpc_model.specs.declared.actors.Role.TheVariants.{Source as IsSource, Node as IsNode, Client as IsClient, Nobody}
use Rattle.dpc_model.specs.declared.messages.Event.TheVariants.{Deliver, Tick}
use Rattle.node_model.specs.Mails.{Stepped}
use Rattle.node_model.specs.Nodes.{Home, PlainNode, ready}
use Rattle.node_model.specs.NodeSteps.{packet_step, tick_step}
use Rattle.node_model.specs.Sources.{source_tick_step}
use Rattle.node_model.specs.Clients.{client_tick_step}
use Rattle.world_model.specs.Worlds.{World, Envelope, Slot, home_of, node_place, slot_of, node_role, node_at, node_stepped, source_stepped, client_stepped, source_at, client_at, can_come, comes, taken_by, node_takes, is_clock, node_ticks, ticks, ready_in, ready_role, ready_at, happens}
use Rattle.world_model.specs.Schedules.{is_recovering}
use Rattle.dpc_lists.proofs.Truths.{eq-of, eq-test, true-not-false}
use Rattle.law_safety.proofs.Numbering.{same-actor}
use Rattle.law_schedules.proofs.Nodes.{IsZeroed}
use Rattle.law_schedules.proofs.Calm.{IsZeroedAt, AreZeroed, node_in}
use Rattle.law_schedules.proofs.Targets.{Meets, stepped-here, stepped-apart}
use Rattle.law_completion.proofs.Rising.{GoesOn, delivered-on, ticked-on}

-- what each node could reach with what is ready it still can, unless it recovers
abbrev pub KeepsReach : World → World → Type 0
KeepsReach w v = (b goal : ℕ) → is_recovering v b ≡ false → Meets (node_at w b) goal (ready_at w b) → Meets (node_at v b) goal (ready_at v b)

same-keeps : (w : World) → KeepsReach w w
same-keeps w b goal e h = h

node-keeps : (w : World) (a f q : ℕ) (n : PlainNode) (s : Stepped PlainNode) → role_of w.plan a ≡ IsNode f q → (slot_of w a).node ≡ Some n →
    GoesOn (home_of w.plan (f, q)) n s.after → KeepsReach w (node_stepped a s w)
node-keeps w a f q n s role up on b goal = by-role (role_of w.plan b) refl
  where
    v : World
    v = node_stepped a s w

    by-role : (x : Role) → role_of w.plan b ≡ x → (elim (node_role v b x) [ None ↦ true | Some n ↦ n.recovering ]) ≡ false → Meets (node_role w b x) goal (ready_role w b x) → Meets (node_role v b x) goal (ready_role v b x)
    by-role (IsSource i) e k h = tt
    by-role (IsClient c) e k h = tt
    by-role Nobody e k h = tt
    by-role (IsNode g p) e k h =
        (elim (node_place w.plan a == node_place w.plan b) as (λ t. (node_place w.plan a == node_place w.plan b) ≡ t → Meets (slot_of v b).node goal (ready_in other (slot_of v b).node)) [
          | false ↦ λ d. subst (λ (slot : Slot). Meets slot.node goal (ready_in other slot.node)) (sym (stepped-apart w a b s (λ same. true-not-false (sym (eq-test _ _ same) ∙ d)))) h
          | true ↦ λ d. same-place (eq-of (node_place w.plan a) (node_place w.plan b) d)
        ]) refl
      where
        other : Home
        other = home_of w.plan (g, p)

        same-place : node_place w.plan a ≡ node_place w.plan b → Meets (slot_of v b).node goal (ready_in other (slot_of v b).node)
        same-place same =
            let one = same-actor w.plan a b f q g p role e same in
            let homes : home_of w.plan (f, q) ≡ other = same-home (sym role ∙ ap (λ (i : ℕ). role_of w.plan i) one ∙ e) in
            let before : (slot_of w b).node ≡ Some n = ap (λ (i : ℕ). node_in w.nodes i) (sym same) ∙ up in
            let behind : (slot_of v b).node ≡ Some s.after = ap (λ (i : ℕ). node_in v.nodes i) (sym same) ∙ stepped-here w a n s up in
            let old : goal ≤ n.cursor + ready other n = subst (λ (o : Option PlainNode). Meets o goal (ready_in other o)) before h in
            let calm : s.after.recovering ≡ false = subst (λ (o : Option PlainNode). (elim o [ None ↦ true | Some n ↦ n.recovering ]) ≡ false) behind k in
            let more : n.cursor + ready other n ≤ s.after.cursor + ready other s.after = subst (λ (home : Home). GoesOn home n s.after) homes on calm in
            let new : goal ≤ s.after.cursor + ready other s.after = omega (arith, old, more) in
            subst (λ (o : Option PlainNode). Meets o goal (ready_in other o)) (sym behind) new
          where
            same-home : IsNode f q ≡ IsNode g p → home_of w.plan (f, q) ≡ home_of w.plan (g, p)
            same-home e = let frag : f ≡ g = cc in let replica : q ≡ p = cc in rw (frag, replica) refl

zeroed-here : (w : World) (a : ℕ) (n : PlainNode) → AreZeroed w.nodes → (slot_of w a).node ≡ Some n → IsZeroed n
zeroed-here w a n z up = subst (λ (o : Option PlainNode). IsZeroedAt o) up (z (node_place w.plan a))

-- ---- a delivery

taken-keeps : (w : World) (e : Envelope) (role : Role) → AreZeroed w.nodes → role_of w.plan e.to ≡ role → KeepsReach w (taken_by w e role)
taken-keeps w e (IsSource s) z is = λ b goal k h. h
taken-keeps w e (IsNode f r) z is = by-node (slot_of w e.to).node refl
  where
    by-node : (o : Option PlainNode) → (slot_of w e.to).node ≡ o → KeepsReach w (node_takes w e (home_of w.plan (f, r)) o)
    by-node None up = same-keeps w
    by-node (Some n) up =
        node-keeps w e.to f r n (packet_step (home_of w.plan (f, r)) e.sender e.packet n) is up (delivered-on (home_of w.plan (f, r)) e.sender e.packet n (zeroed-here w e.to n z up))
taken-keeps w e (IsClient c) z is = λ b goal k h. h
taken-keeps w e Nobody z is = same-keeps w

comes-keeps : (w : World) (o : Option Envelope) → AreZeroed w.nodes → KeepsReach w (comes w o)
comes-keeps w None z = same-keeps w
comes-keeps w (Some e) z = elim (can_come w e) as (λ b. KeepsReach w (cond b (taken_by w e (role_of w.plan e.to)) w)) [
  | true ↦ taken-keeps w e (role_of w.plan e.to) z refl
  | false ↦ same-keeps w
]

pub deliver-keeps : (w : World) (k : ℕ) → AreZeroed w.nodes → KeepsReach w (happens w (Deliver k))
deliver-keeps w k z = comes-keeps w (slice_get w.envelopes k) z

-- ---- a tick

ticks-keeps : (w : World) (a now : ℕ) (role : Role) → AreZeroed w.nodes → role_of w.plan a ≡ role → KeepsReach w (ticks w a now role)
ticks-keeps w a now (IsSource s) z is =
    elim (is_clock (source_at w s).clock now) as (λ b. KeepsReach w (cond b (source_stepped a (source_tick_step w.plan s now (source_at w s)) w) w)) [
      | true ↦ λ b goal k h. h
      | false ↦ same-keeps w
    ]
ticks-keeps w a now (IsNode f r) z is = by-node (slot_of w a).node refl
  where
    by-node : (o : Option PlainNode) → (slot_of w a).node ≡ o → KeepsReach w (node_ticks w a now (home_of w.plan (f, r)) o)
    by-node None up = same-keeps w
    by-node (Some n) up =
        elim (is_clock n.clock now) as (λ b. KeepsReach w (cond b (node_stepped a (tick_step (home_of w.plan (f, r)) now n) w) w)) [
          | true ↦ node-keeps w a f r n (tick_step (home_of w.plan (f, r)) now n) is up (ticked-on (home_of w.plan (f, r)) now n (zeroed-here w a n z up))
          | false ↦ same-keeps w
        ]
ticks-keeps w a now (IsClient c) z is =
    elim (is_clock (client_at w c).clock now) as (λ b. KeepsReach w (cond b (client_stepped a c (client_tick_step w.plan c now (client_at w c)) w) w)) [
      | true ↦ λ b goal k h. h
      | false ↦ same-keeps w
    ]
ticks-keeps w a now Nobody z is = same-keeps w

pub tick-keeps : (w : World) (a now : ℕ) → AreZeroed w.nodes → KeepsReach w (happens w (Tick a now))
tick-keeps w a now z = ticks-keeps w a now (role_of w.plan a) z refl
