-- What a step of a node or a client makes of its port, for any relation of the port before and after.
use Rattle.std.proofs.Common.{◌≡◌, ℕ, zero, suc, ◌<◌, ◌≤◌, Bool, true, false, cond, ◌==◌, List, [], ◌∷◌, ◌++◌, map, length, refl, sym, ap, subst, ◌∙◌, arith, Option, Some, None, slice_get, inl, inr}
use Rattle.dpc_lists.specs.Lists.{nth, changed}
use Rattle.dpc_model.specs.Actors.{role_of, inputs_of}
use Rattle.dpc_model.specs.Ports.{Port}
use Rattle.dpc_model.specs.declared.actors.Role.{Role}
use Rattle.dpc_model.specs.declared.actors.Role.TheVariants.{Source as IsSource, Node as IsNode, Client as IsClient, Nobody}
use Rattle.dpc_model.specs.declared.plans.ClientSpec.{ClientSpec}
use Rattle.dpc_model.specs.declared.plans.Plan.{Plan}
use Rattle.dpc_model.specs.declared.plans.StreamRef.{StreamRef}
use Rattle.dpc_lists.proofs.Elements.{nth-here}
use Rattle.dpc_lists.proofs.Somes.{some-same}
use Rattle.node_model.specs.Mails.{Mail, Stepped}
use Rattle.node_model.specs.Nodes.{PlainNode}
use Rattle.node_model.specs.Clients.{ClientState, new_client}
use Rattle.world_model.specs.Worlds.{World, Envelope, Slot, slot_of, client_at, from, node_stepped}
use Rattle.law_safety.proofs.Happening.{IsFine}
use Rattle.law_safety.proofs.Worlding.{client-below}
use Rattle.law_safety.proofs.Promises.{slot-here}
use Rattle.law_granting.specs.Taken.{node_port, role_port, port_of}
use Rattle.law_granting.proofs.Keys.{nth-changed}
use Rattle.law_granting.proofs.Slots.{slot-there}
use Rattle.law_settling.proofs.Exact.{IsIn, same-or}
use Rattle.law_readers.specs.Newest.{IsPortOf}
use Rattle.law_settling.specs.Rests.{RestsAt}

-- ---- places

-- where a mail of an actor is put
pub sent-place : (a : ℕ) (es : List Envelope) (m : Mail) (ms : List Mail) → IsIn m ms → (k : ℕ) × (slice_get (es ++ map (from a) ms) k ≡ Some (from a m)) × (length es ≤ k)
sent-place a [] m [] h = absurd h
sent-place a [] m (n ∷ ms) (inl e) = (0, ap {B = Option Envelope} (λ (z : Mail). Some (from a z)) e, omega arith)
sent-place a [] m (n ∷ ms) (inr h) = let k = sent-place a [] m ms h in (suc k.0, k.1, omega arith)
sent-place a (y ∷ es) m ms h = let k = sent-place a es m ms h in let low = k.2 in (suc k.0, k.1, omega (arith, low))

-- a client reads one stream
pub client-inputs : (cs : List ClientSpec) (i p : ℕ) (u : StreamRef) → slice_get (nth [] (map (λ (client : ClientSpec). client.input ∷ []) cs) i) p ≡ Some u → (p ≡ 0) × (nth [] (map (λ (client : ClientSpec). client.input ∷ []) cs) i ≡ u ∷ [])
client-inputs [] i p u e = cc
client-inputs (c ∷ cs) zero zero u e = (refl, ap (λ (z : StreamRef). z ∷ []) (some-same c.input u e))
client-inputs (c ∷ cs) zero (suc p) u e = cc
client-inputs (c ∷ cs) (suc i) p u e = client-inputs cs i p u e

-- in the next world the reader has a port of this relation
abbrev pub To : ℕ → ℕ → World → (Port → Port → Type 0) → Port → Type 0
To x p next R q = (r : Port) × (port_of next x p ≡ Some r) × R q r

module _ (w : World) (most x p : ℕ) (s : StreamRef) (fine : IsFine w most) (many : length w.clients ≡ length w.plan.clients) (port : IsPortOf w.plan x p s) (calm : RestsAt w x) where
  -- ---- a world in which the reader is as before

  pub port-same : (next : World) → next.plan ≡ w.plan → ((f b : ℕ) → role_of w.plan x ≡ IsNode f b → (slot_of next x).node ≡ (slot_of w x).node) → ((c : ℕ) → role_of w.plan x ≡ IsClient c → (client_at next c).port ≡ (client_at w c).port) → port_of next x p ≡ port_of w x p
  port-same next plan slots clients = ap (λ (z : Plan). role_port next x p (role_of z x)) plan ∙ by-role (role_of w.plan x) refl
    where
      by-role : (role : Role) → role_of w.plan x ≡ role → role_port next x p role ≡ role_port w x p role
      by-role (IsNode f b) is = ap (λ (o : Option PlainNode). node_port p o) (slots f b is)
      by-role (IsClient c) is = ap (λ (z : Port). cond {A = Option Port} (p == 0) (Some z) None) (clients c is)
      by-role (IsSource u) is = refl
      by-role Nobody is = refl

  -- ---- nodes

  -- the reader is this node
  pub node-own : (R : Port → Port → Type 0) (y g b : ℕ) (n : PlainNode) (t : Stepped PlainNode) → role_of w.plan y ≡ IsNode g b → (slot_of w y).node ≡ Some n → x ≡ y → RestsAt (node_stepped y t w) x →
      ((q : Port) → port_of w x p ≡ Some q → slice_get n.ports p ≡ Some q → n.recovering ≡ false → t.after.recovering ≡ false → (r : Port) × (slice_get t.after.ports p ≡ Some r) × R q r) → (q : Port) → port_of w x p ≡ Some q → To x p (node_stepped y t w) R q
  node-own R y g b n t role up same calm_next own q there =
      let next = node_stepped y t w in
      let role_x : role_of w.plan x ≡ IsNode g b = ap (λ (z : ℕ). role_of w.plan z) same ∙ role in
      let was : port_of w x p ≡ slice_get n.ports p = ap (λ (z : Role). role_port w x p z) role_x ∙ ap (λ (z : ℕ). node_port p (slot_of w z).node) same ∙ ap (λ (o : Option PlainNode). node_port p o) up in
      let slot : slot_of (node_stepped y t w) y ≡ record (slot_of w y) { node = Some t.after } = slot-here w most y g b (λ (z : Slot). record z { node = Some t.after }) fine role in
      let node : (slot_of (node_stepped y t w) y).node ≡ Some t.after = ap (λ (z : Slot). z.node) slot in
      let now : port_of (node_stepped y t w) x p ≡ slice_get t.after.ports p = ap (λ (z : Role). role_port next x p z) role_x ∙ ap (λ (z : ℕ). node_port p (slot_of next z).node) same ∙ ap (λ (o : Option PlainNode). node_port p o) node in
      let up_x : (slot_of w x).node ≡ Some n = ap (λ (z : ℕ). (slot_of w z).node) same ∙ up in
      let node_x : (slot_of next x).node ≡ Some t.after = ap (λ (z : ℕ). (slot_of next z).node) same ∙ node in
      let k = own q there (sym was ∙ there) (calm g b n role_x up_x) (calm_next g b t.after role_x node_x) in
      (k.0, now ∙ k.1, k.2)

  -- the reader is this node, or its port is as before
  pub node-step : (R : Port → Port → Type 0) → ((q : Port) → R q q) → (y g b : ℕ) (n : PlainNode) (t : Stepped PlainNode) → role_of w.plan y ≡ IsNode g b → (slot_of w y).node ≡ Some n → RestsAt (node_stepped y t w) x →
      (x ≡ y → (q : Port) → port_of w x p ≡ Some q → slice_get n.ports p ≡ Some q → n.recovering ≡ false → t.after.recovering ≡ false → (r : Port) × (slice_get t.after.ports p ≡ Some r) × R q r) → (q : Port) → port_of w x p ≡ Some q → To x p (node_stepped y t w) R q
  node-step R stays y g b n t role up calm_next own q there =
      elim (same-or x y) [
        | inl same ↦ node-own R y g b n t role up same calm_next (own same) q there
        | inr other ↦ (q, port-same (node_stepped y t w) refl (λ f c is. ap (λ (z : Slot). z.node) (slot-there w y x g b f c (λ (z : Slot). record z { node = Some t.after }) role is other)) (λ c is. refl) ∙ there, stays q)
      ]

  -- ---- clients

  pub client-own : (R : Port → Port → Type 0) (d : ℕ) (change : ClientState → ClientState) (es : List Envelope) → role_of w.plan x ≡ IsClient d → d < length w.clients →
      ((z : ClientState) → z ≡ client_at w d → port_of w x p ≡ Some z.port → R z.port (change z).port) → (q : Port) → port_of w x p ≡ Some q → To x p (record w { clients = changed d change w.clients; envelopes = es }) R q
  client-own R d change es role low own q there =
      let next : World = record w { clients = changed d change w.clients; envelopes = es } in
      let z = client_at w d in
      let first = (client-inputs w.plan.clients d p s (subst (λ (r : Role). slice_get (inputs_of w.plan r) p ≡ Some s) role port.there)).0 in
      let test : (p == 0) ≡ true = rw first refl in
      let was : port_of w x p ≡ Some z.port = ap (λ (r : Role). role_port w x p r) role ∙ ap (λ (b : Bool). cond {A = Option Port} b (Some z.port) None) test in
      let it : z.port ≡ q = some-same z.port q (sym was ∙ there) in
      let here : client_at next d ≡ change z = nth-here (new_client w.plan d) d change w.clients low in
      let now : port_of next x p ≡ Some (change z).port = ap (λ (r : Role). role_port next x p r) role ∙ ap (λ (b : Bool). cond {A = Option Port} b (Some (client_at next d).port) None) test ∙ ap {B = Option Port} (λ (y : ClientState). Some y.port) here in
      ((change z).port, now, subst (λ (y : Port). R y (change z).port) it (own z refl was))

  pub client-step : (R : Port → Port → Type 0) → ((q : Port) → R q q) → (d : ℕ) (change : ClientState → ClientState) (es : List Envelope) → d < length w.clients →
      (role_of w.plan x ≡ IsClient d → (z : ClientState) → z ≡ client_at w d → port_of w x p ≡ Some z.port → R z.port (change z).port) → (q : Port) → port_of w x p ≡ Some q → To x p (record w { clients = changed d change w.clients; envelopes = es }) R q
  client-step R stays d change es low own q there = by-role (role_of w.plan x) refl
    where
      next : World
      next = record w { clients = changed d change w.clients; envelopes = es }

      clash-source : (u c : ℕ) → IsSource u ≡ IsClient c → ⊥
      clash-source u c e = cc

      clash-node : (g b c : ℕ) → IsNode g b ≡ IsClient c → ⊥
      clash-node g b c e = cc

      clash-nobody : (c : ℕ) → Nobody ≡ IsClient c → ⊥
      clash-nobody c e = cc

      by-role : (role : Role) → role_of w.plan x ≡ role → To x p (record w { clients = changed d change w.clients; envelopes = es }) R q
      by-role (IsSource u) is = (q, port-same next refl (λ f b at. refl) (λ c at. absurd (clash-source u c (sym is ∙ at))) ∙ there, stays q)
      by-role (IsNode g b) is = (q, port-same next refl (λ f b at. refl) (λ c at. absurd (clash-node g b c (sym is ∙ at))) ∙ there, stays q)
      by-role Nobody is = (q, port-same next refl (λ f b at. refl) (λ c at. absurd (clash-nobody c (sym is ∙ at))) ∙ there, stays q)
      by-role (IsClient c) is =
          elim (same-or c d) [
            | inl same ↦ let role : role_of w.plan x ≡ IsClient d = is ∙ ap IsClient same in client-own R d change es role low (own role) q there
            | inr other ↦ (q, port-same next refl (λ f b at. refl) (λ j at. ap (λ (z : ClientState). z.port) (apart c j (client-number c j (sym is ∙ at)) other)) ∙ there, stays q)
          ]
        where
          client-number : (c j : ℕ) → IsClient c ≡ IsClient j → c ≡ j
          client-number c j e = cc

          apart : (c j : ℕ) → c ≡ j → (c ≡ d → ⊥) → nth (new_client w.plan j) (changed d change w.clients) j ≡ nth (new_client w.plan j) w.clients j
          apart c j same other =
              elim (nth-changed (new_client w.plan j) d change w.clients j) [
                | inl one ↦ one
                | inr here ↦ absurd (other (same ∙ here.0))
              ]

  pub client-low : (a d : ℕ) → role_of w.plan a ≡ IsClient d → d < length w.clients
  client-low a d role = let low = client-below w.plan a d role in omega (arith, low, many)
