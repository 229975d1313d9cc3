-- What an event makes of a world, by cases: it is void, or it cuts or heals a link, or an actor does its step.
use Rattle.std.proofs.Common.{◌≡◌, ℕ, true, false, cond, List, refl, Option, Some, None, slice_get}
use Rattle.dpc_lists.specs.Lists.{changed}
use Rattle.dpc_model.specs.Actors.{role_of}
use Rattle.dpc_model.specs.declared.actors.Role.{Role}
use Rattle.dpc_model.specs.declared.actors.Role.TheVariants.{Source as IsSource, Node as IsNode, Client as IsClient, Nobody}
use Rattle.dpc_model.specs.declared.messages.Event.{Event}
use Rattle.dpc_model.specs.declared.messages.Event.TheVariants.{Phase, Emit, Release, Cut, Heal, Crash, Restart, Deliver, Tick, Mill}
use Rattle.dpc_lists.specs.Lists.{push}
use Rattle.node_model.specs.Nodes.{PlainNode}
use Rattle.node_model.specs.NodeSteps.{packet_step, mill_step, tick_step}
use Rattle.node_model.specs.Sources.{source_emits, source_releases, source_packet_step, source_tick_step}
use Rattle.node_model.specs.Clients.{client_after_packet, client_tick_step}
use Rattle.world_model.specs.Worlds.{World, Envelope, Slot, home_of, node_place, slot_of, source_at, client_at, node_stepped, source_stepped, client_stepped, is_release_time, is_clock, emits, releases, link_up, cuts_link, crashes, restart_slot, restarts, node_takes, taken_by, can_come, comes, node_ticks, ticks, can_mill, node_mills, mills, happens}

pub record AreCases (w : World) (P : Event → World → Type 0) : Type 0 where
  pub still : (e : Event) → P e w
  pub wires : (e : Event) (cuts : List (ℕ × ℕ)) → P e (record w { cuts = cuts })
  pub emitted : (a s t : ℕ) → role_of w.plan a ≡ IsSource s → P (Emit a t) (source_stepped a (source_emits w.plan s t (source_at w s)) w)
  pub released : (a s t : ℕ) → role_of w.plan a ≡ IsSource s → P (Release a t) (source_stepped a (source_releases w.plan s t (source_at w s)) w)
  pub source_took : (k s : ℕ) (e : Envelope) → slice_get w.envelopes k ≡ Some e → can_come w e ≡ true → role_of w.plan e.to ≡ IsSource s →
      P (Deliver k) (source_stepped e.to (source_packet_step w.plan s e.sender e.packet (source_at w s)) w)
  pub source_ticks : (a s now : ℕ) → role_of w.plan a ≡ IsSource s → P (Tick a now) (source_stepped a (source_tick_step w.plan s now (source_at w s)) w)
  pub crashed : (a f r : ℕ) → role_of w.plan a ≡ IsNode f r → P (Crash a) (record w { nodes = changed (node_place w.plan a) (λ (slot : Slot). record slot { node = None }) w.nodes })
  pub restarted : (a i f r : ℕ) → role_of w.plan a ≡ IsNode f r → P (Restart a i) (record w { nodes = changed (node_place w.plan a) (restart_slot (home_of w.plan (f, r)) i) w.nodes })
  pub node_took : (k f r : ℕ) (e : Envelope) (n : PlainNode) → slice_get w.envelopes k ≡ Some e → can_come w e ≡ true → role_of w.plan e.to ≡ IsNode f r → (slot_of w e.to).node ≡ Some n →
      P (Deliver k) (node_stepped e.to (packet_step (home_of w.plan (f, r)) e.sender e.packet n) w)
  pub node_ticked : (a now f r : ℕ) (n : PlainNode) → role_of w.plan a ≡ IsNode f r → (slot_of w a).node ≡ Some n → is_clock n.clock now ≡ true → P (Tick a now) (node_stepped a (tick_step (home_of w.plan (f, r)) now n) w)
  pub node_milled : (a r f q : ℕ) (n : PlainNode) → role_of w.plan a ≡ IsNode f q → (slot_of w a).node ≡ Some n → can_mill (home_of w.plan (f, q)) r n ≡ true → P (Mill a r) (node_stepped a (mill_step (home_of w.plan (f, q)) r n) w)
  pub client_took : (k c : ℕ) (e : Envelope) → slice_get w.envelopes k ≡ Some e → can_come w e ≡ true → role_of w.plan e.to ≡ IsClient c →
      P (Deliver k) (record w { clients = changed c (client_after_packet w.plan c e.sender e.packet) w.clients })
  pub client_ticks : (a c now : ℕ) → role_of w.plan a ≡ IsClient c → P (Tick a now) (client_stepped a c (client_tick_step w.plan c now (client_at w c)) w)

module _ (w : World) (P : Event → World → Type 0) (c : AreCases w P) where
  by-emit : (a t : ℕ) (role : Role) → role_of w.plan a ≡ role → P (Emit a t) (emits w a t role)
  by-emit a t (IsSource s) e = elim (is_release_time w.plan t) as (λ b. P (Emit a t) (cond b (source_stepped a (source_emits w.plan s t (source_at w s)) w) w)) [ true ↦ c.emitted a s t e | false ↦ c.still (Emit a t) ]
  by-emit a t (IsNode f r) e = c.still (Emit a t)
  by-emit a t (IsClient x) e = c.still (Emit a t)
  by-emit a t Nobody e = c.still (Emit a t)

  by-release : (a t : ℕ) (role : Role) → role_of w.plan a ≡ role → P (Release a t) (releases w a t role)
  by-release a t (IsSource s) e = elim (is_release_time w.plan t) as (λ b. P (Release a t) (cond b (source_stepped a (source_releases w.plan s t (source_at w s)) w) w)) [ true ↦ c.released a s t e | false ↦ c.still (Release a t) ]
  by-release a t (IsNode f r) e = c.still (Release a t)
  by-release a t (IsClient x) e = c.still (Release a t)
  by-release a t Nobody e = c.still (Release a t)

  by-cut : (a b : ℕ) → P (Cut a b) (cuts_link w a b)
  by-cut a b = elim (link_up w a b) as (λ x. P (Cut a b) (cond x (record w { cuts = push w.cuts (a, b) }) w)) [ true ↦ c.wires (Cut a b) (push w.cuts (a, b)) | false ↦ c.still (Cut a b) ]

  by-crash : (a : ℕ) (role : Role) → role_of w.plan a ≡ role → P (Crash a) (crashes w a role)
  by-crash a (IsNode f r) e = c.crashed a f r e
  by-crash a (IsSource s) e = c.still (Crash a)
  by-crash a (IsClient x) e = c.still (Crash a)
  by-crash a Nobody e = c.still (Crash a)

  by-restart : (a i : ℕ) (role : Role) → role_of w.plan a ≡ role → P (Restart a i) (restarts w a i role)
  by-restart a i (IsNode f r) e = c.restarted a i f r e
  by-restart a i (IsSource s) e = c.still (Restart a i)
  by-restart a i (IsClient x) e = c.still (Restart a i)
  by-restart a i Nobody e = c.still (Restart a i)

  by-taken : (k : ℕ) (e : Envelope) (role : Role) → slice_get w.envelopes k ≡ Some e → can_come w e ≡ true → role_of w.plan e.to ≡ role → P (Deliver k) (taken_by w e role)
  by-taken k e (IsSource s) there can role = c.source_took k s e there can role
  by-taken k e (IsNode f r) there can role = by-node (slot_of w e.to).node refl
    where
      by-node : (o : Option PlainNode) → (slot_of w e.to).node ≡ o → P (Deliver k) (node_takes w e (home_of w.plan (f, r)) o)
      by-node None up = c.still (Deliver k)
      by-node (Some n) up = c.node_took k f r e n there can role up
  by-taken k e (IsClient x) there can role = c.client_took k x e there can role
  by-taken k e Nobody there can role = c.still (Deliver k)

  by-deliver : (k : ℕ) → P (Deliver k) (comes w (slice_get w.envelopes k))
  by-deliver k =
      (elim (slice_get w.envelopes k) as (λ o. slice_get w.envelopes k ≡ o → P (Deliver k) (comes w o)) [
        | None ↦ λ there. c.still (Deliver k)
        | Some e ↦ λ there. (elim (can_come w e) as (λ b. can_come w e ≡ b → P (Deliver k) (cond b (taken_by w e (role_of w.plan e.to)) w)) [
          | true ↦ λ can. by-taken k e (role_of w.plan e.to) there can refl
          | false ↦ λ can. c.still (Deliver k)
        ]) refl
      ]) refl

  by-tick : (a now : ℕ) (role : Role) → role_of w.plan a ≡ role → P (Tick a now) (ticks w a now role)
  by-tick a now (IsSource s) e = elim (is_clock (source_at w s).clock now) as (λ b. P (Tick a now) (cond b (source_stepped a (source_tick_step w.plan s now (source_at w s)) w) w)) [ true ↦ c.source_ticks a s now e | false ↦ c.still (Tick a now) ]
  by-tick a now (IsNode f r) e = by-node (slot_of w a).node refl
    where
      by-node : (o : Option PlainNode) → (slot_of w a).node ≡ o → P (Tick a now) (node_ticks w a now (home_of w.plan (f, r)) o)
      by-node None up = c.still (Tick a now)
      by-node (Some n) up =
          (elim (is_clock n.clock now) as (λ b. is_clock n.clock now ≡ b → P (Tick a now) (cond b (node_stepped a (tick_step (home_of w.plan (f, r)) now n) w) w)) [
            | true ↦ λ clock. c.node_ticked a now f r n e up clock
            | false ↦ λ clock. c.still (Tick a now)
          ]) refl
  by-tick a now (IsClient x) e = elim (is_clock (client_at w x).clock now) as (λ b. P (Tick a now) (cond b (client_stepped a x (client_tick_step w.plan x now (client_at w x)) w) w)) [ true ↦ c.client_ticks a x now e | false ↦ c.still (Tick a now) ]
  by-tick a now Nobody e = c.still (Tick a now)

  by-mill : (a r : ℕ) (role : Role) → role_of w.plan a ≡ role → P (Mill a r) (mills w a r role)
  by-mill a r (IsNode f q) e = by-node (slot_of w a).node refl
    where
      by-node : (o : Option PlainNode) → (slot_of w a).node ≡ o → P (Mill a r) (node_mills w a r (home_of w.plan (f, q)) o)
      by-node None up = c.still (Mill a r)
      by-node (Some n) up =
          (elim (can_mill (home_of w.plan (f, q)) r n) as (λ b. can_mill (home_of w.plan (f, q)) r n ≡ b → P (Mill a r) (cond b (node_stepped a (mill_step (home_of w.plan (f, q)) r n) w) w)) [
            | true ↦ λ can. c.node_milled a r f q n e up can
            | false ↦ λ can. c.still (Mill a r)
          ]) refl
  by-mill a r (IsSource s) e = c.still (Mill a r)
  by-mill a r (IsClient x) e = c.still (Mill a r)
  by-mill a r Nobody e = c.still (Mill a r)

  pub by-event : (e : Event) → P e (happens w e)
  by-event (Phase p) = c.still (Phase p)
  by-event (Emit a t) = by-emit a t (role_of w.plan a) refl
  by-event (Release a t) = by-release a t (role_of w.plan a) refl
  by-event (Cut a b) = by-cut a b
  by-event (Heal a b) = c.wires (Heal a b) _
  by-event (Crash a) = by-crash a (role_of w.plan a) refl
  by-event (Restart a i) = by-restart a i (role_of w.plan a) refl
  by-event (Deliver k) = by-deliver k
  by-event (Tick a now) = by-tick a now (role_of w.plan a) refl
  by-event (Mill a r) = by-mill a r (role_of w.plan a) refl
