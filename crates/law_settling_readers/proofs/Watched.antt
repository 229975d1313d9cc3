-- A port knows of each replica of its stream.
use Rattle.std.proofs.Common.{◌≡◌, ℕ, ◌+◌, ◌<◌, true, false, cond, ◌==◌, List, length, refl, sym, ap, subst, ◌∙◌, arith, Option, Some, None, slice_get, unwrap_or}
use Rattle.dpc_model.specs.Actors.{role_of, inputs_of, senders_of}
use Rattle.dpc_model.specs.declared.actors.Role.{Role}
use Rattle.dpc_model.specs.declared.actors.Role.TheVariants.{Source as IsSource, Node as IsNode, Client as IsClient, Nobody}
use Rattle.dpc_model.specs.Ports.{Port}
use Rattle.dpc_model.specs.declared.plans.StreamRef.{StreamRef}
use Rattle.dpc_model.specs.declared.plans.StreamRef.TheVariants.{Source}
use Rattle.node_model.specs.Nodes.{PlainNode, streams_of}
use Rattle.node_model.specs.Clients.{client_stream, new_client}
use Rattle.world_model.specs.Worlds.{World, home_of, slot_of, client_at}
use Rattle.dpc_lists.proofs.Truths.{eq-of}
use Rattle.dpc_lists.proofs.Somes.{some-same}
use Rattle.law_safety.proofs.Pointwise.{port-at as sound-port}
use Rattle.law_safety.proofs.SoundPorts.{port-of}
use Rattle.world_model.specs.Orderly.{is_port_sound}
use Rattle.law_safety.proofs.Numbering.{home-inputs}
use Rattle.law_safety.proofs.Worlding.{client-below, clients-at, reading-at}
use Rattle.law_safety.proofs.Clienting.{IsGoodClient, new_client-good}
use Rattle.law_safety.proofs.Happening.{IsFine, node-here}
use Rattle.law_granting.specs.Taken.{node_port, role_port, port_of}
use Rattle.law_readers.specs.Newest.{IsPortOf}

module _ (w : World) (most x p : ℕ) (s : StreamRef) (fine : IsFine w most) (many : length w.clients ≡ length w.plan.clients) (port : IsPortOf w.plan x p s) where
  -- the stream of a client's only port
  client-stream-is : (d : ℕ) → role_of w.plan x ≡ IsClient d → p ≡ 0 → client_stream w.plan d ≡ s
  client-stream-is d is first =
      let there : slice_get (inputs_of w.plan (IsClient d)) 0 ≡ Some s = subst (λ (z : ℕ). slice_get (inputs_of w.plan (IsClient d)) z ≡ Some s) first (subst (λ (z : Role). slice_get (inputs_of w.plan z) p ≡ Some s) is port.there) in
      ap (λ (o : Option StreamRef). unwrap_or o (Source 0)) there

  good-client : (c : ℕ) → c < length w.plan.clients → IsGoodClient w.plan c most (client_at w c)
  good-client c low =
      let zero_on : 0 + c ≡ c = omega arith in
      subst (λ (z : ℕ). IsGoodClient w.plan z most (client_at w c)) zero_on
      (clients-at w.plan most 0 c w.clients (new_client w.plan c) fine.clients (subst (λ (z : ℕ). IsGoodClient w.plan z most (new_client w.plan c)) (sym zero_on) (new_client-good w.plan c most fine.checked.checked (reading-at w.plan c fine.checked low) fine.some)))

  -- it knows of each replica, and reads one of them
  abbrev pub KnowsAll : Port → Type 0
  KnowsAll q = (q.chosen < length q.watches) × (length q.watches ≡ length (senders_of w.plan s))

  sound-low : (u : StreamRef) (inc : ℕ) (q : Port) → u ≡ s → is_port_sound w.plan u inc most q ≡ true → KnowsAll q
  sound-low u inc q same sound = let k = port-of w.plan u inc most q sound in (k.chosen, k.watches ∙ ap (λ (v : StreamRef). length (senders_of w.plan v)) same)

  pub port-watched : (q : Port) → port_of w x p ≡ Some q → KnowsAll q
  port-watched q there = by-role (role_of w.plan x) refl there
    where
      by-role : (is : Role) → role_of w.plan x ≡ is → role_port w x p is ≡ Some q → KnowsAll q
      by-role (IsSource v) is e = cc
      by-role Nobody is e = cc
      by-role (IsNode g r) is e = by-node (slot_of w x).node refl e
        where
          by-node : (o : Option PlainNode) → (slot_of w x).node ≡ o → node_port p o ≡ Some q → KnowsAll q
          by-node None up f = cc
          by-node (Some n) up f =
              let good = node-here w most x g r n fine is up in
              let stream : slice_get (streams_of (home_of w.plan (g, r))) p ≡ Some s = ap (λ (ss : List StreamRef). slice_get ss p) (sym (home-inputs (home_of w.plan (g, r)) r)) ∙ ap (λ (z : Role). slice_get (inputs_of w.plan z) p) (sym is) ∙ port.there in
              let found = sound-port w.plan n.grants.inc most p s (streams_of (home_of w.plan (g, r))) n.ports good.orderly.ports stream in
              let it : found.0 ≡ q = some-same found.0 q (sym found.1 ∙ f) in
              sound-low s n.grants.inc q refl (subst (λ (z : Port). is_port_sound w.plan s n.grants.inc most z ≡ true) it found.2)
      by-role (IsClient c) is e =
          (elim (p == 0) as (λ b. (p == 0) ≡ b → cond {A = Option Port} b (Some (client_at w c).port) None ≡ Some q → KnowsAll q) [
            | false ↦ λ f g. cc
            | true ↦ λ f g.
                let stream = client-stream-is c is (eq-of p 0 f) in
                let good = good-client c (client-below w.plan x c is) in
                let it : (client_at w c).port ≡ q = some-same (client_at w c).port q g in
                sound-low (client_stream w.plan c) 1 q stream (subst (λ (z : Port). is_port_sound w.plan (client_stream w.plan c) 1 most z ≡ true) it good.sound)
          ]) refl e
