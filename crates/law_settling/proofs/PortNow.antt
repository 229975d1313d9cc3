-- A packet of a sender of its stream that comes to a port is taken, and a tick that is not void ticks it.
use Rattle.std.proofs.Common.{◌≡◌, ℕ, Bool, true, cond, map, length, ◌++◌, refl, sym, ap, subst, ◌∙◌, Option, Some, None, slice_get, inl, inr}
use Rattle.dpc_lists.specs.Lists.{changed}
use Rattle.dpc_model.specs.Actors.{role_of, inputs_of}
use Rattle.dpc_model.specs.Ports.{Port, sender_at, without_ended_marks}
use Rattle.dpc_model.specs.declared.actors.Role.{Role}
use Rattle.dpc_model.specs.declared.actors.Role.TheVariants.{Source as IsSource, Node as IsNode, Client as IsClient, Nobody}
use Rattle.dpc_model.specs.declared.messages.Event.TheVariants.{Deliver, Tick}
use Rattle.node_model.specs.Nodes.{PlainNode}
use Rattle.node_model.specs.NodeSteps.{packet_step, tick_step}
use Rattle.node_model.specs.Clients.{ClientState, client_after_packet, client_tick_step}
use Rattle.world_model.specs.Worlds.{World, Envelope, home_of, slot_of, client_at, from, node_stepped, client_stepped, taken_by, node_takes, can_come, comes, is_clock, ticks, node_ticks, happens}
use Rattle.law_safety.proofs.Happening.{IsFine}
use Rattle.law_granting.specs.Taken.{node_port, role_port, port_of}
use Rattle.law_schedules.specs.Journals.{node_clock, clock_by, Ticks}
use Rattle.dpc_model.specs.declared.plans.StreamRef.{StreamRef}
use Rattle.dpc_lists.proofs.Somes.{some-same}
use Rattle.law_readers.specs.Newest.{IsPortOf}
use Rattle.law_settling.specs.Rests.{RestsAt}
use Rattle.law_settling.proofs.PortExact.{port_after, NotLost}
use Rattle.law_settling.proofs.PortSteps.{To, node-own, client-own, client-low}
use Rattle.law_settling.proofs.PortGoing.{HasTicked, Took, node-packet, node-tick, client-packet, client-tick}

module _ (w : World) (most x p : ℕ) (s : StreamRef) (fine : IsFine w most) (many : length w.clients ≡ length w.plan.clients) (port : IsPortOf w.plan x p s) (calm : RestsAt w x) where
  -- the packet of the replica of this number was taken
  abbrev Taken : ℕ → Envelope → Port → Port → Type 0
  Taken i f q r = (r ≡ port_after i f.packet (without_ended_marks q)) × ((g b : ℕ) → role_of w.plan x ≡ IsNode g b → NotLost f.packet (without_ended_marks q) r)

  -- a reader with a port is a node that is up, or a client
  by-reader : (P : Type 0) (q : Port) → port_of w x p ≡ Some q → ((g b : ℕ) (n : PlainNode) → role_of w.plan x ≡ IsNode g b → (slot_of w x).node ≡ Some n → P) → ((d : ℕ) → role_of w.plan x ≡ IsClient d → P) → P
  by-reader P q there node client = by-role (role_of w.plan x) refl there
    where
      by-node : (g b : ℕ) → role_of w.plan x ≡ IsNode g b → (o : Option PlainNode) → (slot_of w x).node ≡ o → node_port p o ≡ Some q → P
      by-node g b is None up e = cc
      by-node g b is (Some n) up e = node g b n is up

      by-role : (role : Role) → role_of w.plan x ≡ role → role_port w x p role ≡ Some q → P
      by-role (IsSource u) is e = cc
      by-role Nobody is e = cc
      by-role (IsNode g b) is e = by-node g b is (slot_of w x).node refl e
      by-role (IsClient d) is e = client d is

  -- a client's world with the same envelopes
  pub took-now : (j i : ℕ) (f : Envelope) → slice_get w.envelopes j ≡ Some f → can_come w f ≡ true → f.to ≡ x → sender_at w.plan (inputs_of w.plan (role_of w.plan x)) f.sender ≡ Some (p, i) → RestsAt (happens w (Deliver j)) x → (q : Port) → port_of w x p ≡ Some q → To x p (happens w (Deliver j)) (Taken i f) q
  took-now j i f sent can to sender calm_next q there = by-reader (To x p (happens w (Deliver j)) (Taken i f) q) q there at-node at-client
    where
      taken : (y r : Port) → Took w most x p s fine many port calm f y r → Taken i f y r
      taken y r (inl mine) = let same : mine.0 ≡ i = second mine.0 i (sym mine.1 ∙ sender) in (mine.2 ∙ ap (λ (c : ℕ). port_after c f.packet (without_ended_marks y)) same, mine.3)
        where
          second : (c d : ℕ) → ◌≡◌ {A = Option (ℕ × ℕ)} (Some (p, c)) (Some (p, d)) → c ≡ d
          second c d e = let same : ◌≡◌ {A = ℕ × ℕ} (p, c) (p, d) = cc in ap (λ (z : ℕ × ℕ). z.1) same
      taken y r (inr other) = absurd (other.0 i sender)

      comes-so : (role : Role) → role_of w.plan x ≡ role → happens w (Deliver j) ≡ taken_by w f role
      comes-so role is =
          ap (λ (o : Option Envelope). comes w o) sent ∙ ap (λ (b : Bool). cond b (taken_by w f (role_of w.plan f.to)) w) can ∙ ap (λ (r : Role). taken_by w f r) (ap (λ (z : ℕ). role_of w.plan z) to ∙ is)

      at-node : (g b : ℕ) (n : PlainNode) → role_of w.plan x ≡ IsNode g b → (slot_of w x).node ≡ Some n → To x p (happens w (Deliver j)) (Taken i f) q
      at-node g b n is found =
          let home = home_of w.plan (g, b) in
          let t = packet_step home f.sender f.packet n in
          let up : (slot_of w f.to).node ≡ Some n = ap (λ (z : ℕ). (slot_of w z).node) to ∙ found in
          let role : role_of w.plan f.to ≡ IsNode g b = ap (λ (z : ℕ). role_of w.plan z) to ∙ is in
          let event : happens w (Deliver j) ≡ node_stepped f.to t w = comes-so (IsNode g b) is ∙ ap (λ (o : Option PlainNode). node_takes w f home o) up in
          subst (λ (v : World). To x p v (Taken i f) q) (sym event)
          (node-own w most x p s fine many port calm (λ (y r : Port). Taken i f y r) f.to g b n t role up (sym to) (subst (λ (v : World). RestsAt v x) event calm_next)
          (λ y its at whole calm_y.
          let k = node-packet w most x p s fine many port calm f.to g b f n role (sym to) y at whole calm_y in (k.0, k.1, taken y k.0 k.2)) q there)

      at-client : (d : ℕ) → role_of w.plan x ≡ IsClient d → To x p (happens w (Deliver j)) (Taken i f) q
      at-client d is =
          let event : happens w (Deliver j) ≡ record w { clients = changed d (client_after_packet w.plan d f.sender f.packet) w.clients; envelopes = w.envelopes } = comes-so (IsClient d) is in
          subst (λ (v : World). To x p v (Taken i f) q) (sym event)
          (client-own w most x p s fine many port calm (λ (y r : Port). Taken i f y r) d (client_after_packet w.plan d f.sender f.packet) w.envelopes is (client-low w most x p s fine many port calm x d is)
          (λ z same was. taken z.port (client_after_packet w.plan d f.sender f.packet z).port (client-packet w most x p s fine many port calm f d z is z.port refl)) q there)

  pub tick-now : (now : ℕ) → Ticks w x now → RestsAt (happens w (Tick x now)) x → (q : Port) → port_of w x p ≡ Some q → To x p (happens w (Tick x now)) (HasTicked w x s (happens w (Tick x now))) q
  tick-now now clocked calm_next q there = by-reader (To x p (happens w (Tick x now)) (HasTicked w x s (happens w (Tick x now))) q) q there at-node at-client
    where
      at-node : (g b : ℕ) (n : PlainNode) → role_of w.plan x ≡ IsNode g b → (slot_of w x).node ≡ Some n → To x p (happens w (Tick x now)) (HasTicked w x s (happens w (Tick x now))) q
      at-node g b n is found =
          let home = home_of w.plan (g, b) in
          let t = tick_step home now n in
          let clock : n.clock ≡ clocked.old = some-same n.clock clocked.old (sym (ap (λ (r : Role). clock_by w x r) is ∙ ap (λ (o : Option PlainNode). node_clock o) found) ∙ clocked.is_up) in
          let may : is_clock n.clock now ≡ true = ap (λ (c : ℕ). is_clock c now) clock ∙ clocked.may in
          let event : happens w (Tick x now) ≡ node_stepped x t w =
          ap (λ (r : Role). ticks w x now r) is ∙ ap (λ (o : Option PlainNode). node_ticks w x now home o) found ∙ ap (λ (c : Bool). cond c (node_stepped x t w) w) may in
          subst (λ (v : World). To x p v (HasTicked w x s v) q) (sym event)
          (node-own w most x p s fine many port calm (HasTicked w x s (node_stepped x t w)) x g b n t is found refl (subst (λ (v : World). RestsAt v x) event calm_next)
          (λ y its at whole calm_y. node-tick w most x p s fine many port calm x g b now n is refl y at whole) q there)

      at-client : (d : ℕ) → role_of w.plan x ≡ IsClient d → To x p (happens w (Tick x now)) (HasTicked w x s (happens w (Tick x now))) q
      at-client d is =
          let z = client_at w d in
          let t = client_tick_step w.plan d now z in
          let clock : z.clock ≡ clocked.old = some-same z.clock clocked.old (sym (ap (λ (r : Role). clock_by w x r) is) ∙ clocked.is_up) in
          let may : is_clock z.clock now ≡ true = ap (λ (c : ℕ). is_clock c now) clock ∙ clocked.may in
          let next : World = record w { clients = changed d (λ _. t.after) w.clients; envelopes = w.envelopes ++ map (from x) t.sends } in
          let event : happens w (Tick x now) ≡ next = ap (λ (r : Role). ticks w x now r) is ∙ ap (λ (c : Bool). cond c (client_stepped x d t w) w) may in
          subst (λ (v : World). To x p v (HasTicked w x s v) q) (sym event)
          (client-own w most x p s fine many port calm (HasTicked w x s next) d (λ _. t.after) (w.envelopes ++ map (from x) t.sends) is (client-low w most x p s fine many port calm x d is)
          (λ y same was. subst (λ (c : ClientState). HasTicked w x s (client_stepped x d (client_tick_step w.plan d now (client_at w d)) w) c.port (client_tick_step w.plan d now (client_at w d)).after.port) (sym same)
          (client-tick w most x p s fine many port calm x d now (client_at w d) is refl)) q there)
