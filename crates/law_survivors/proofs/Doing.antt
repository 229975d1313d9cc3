-- What an event makes of one node, whoever is crashed: it rests, goes down, begins anew, or does a step.
use Rattle.std.proofs.Common.{◌≡◌, ℕ, true, false, cond, not, ◌==◌, nat_lt, List, ◌++◌, map, refl, sym, ap, subst, ◌∙◌, Option, Some, None, slice_get, ◌⊎◌, inl, inr}
use Rattle.dpc_lists.specs.Lists.{changed}
use Rattle.dpc_model.specs.Actors.{role_of}
use Rattle.dpc_model.specs.declared.actors.Role.TheVariants.{Source as IsSource, Node as IsNode, Client as IsClient}
use Rattle.dpc_model.specs.declared.messages.Event.{Event}
use Rattle.dpc_model.specs.declared.messages.Event.TheVariants.{Emit, Release, Crash, Restart, Deliver, Tick, Mill}
use Rattle.dpc_lists.proofs.Somes.{some-same}
use Rattle.dpc_lists.proofs.Truths.{eq-test}
use Rattle.node_model.specs.Mails.{Mail, Stepped}
use Rattle.node_model.specs.Nodes.{Home, PlainNode, restarted_node}
use Rattle.node_model.specs.NodeSteps.{packet_step, mill_step, tick_step}
use Rattle.node_model.specs.Sources.{source_emits, source_releases, source_packet_step, source_tick_step}
use Rattle.node_model.specs.Clients.{client_tick_step}
use Rattle.world_model.specs.Worlds.{World, Envelope, Slot, home_of, node_place, slot_of, source_at, client_at, from, node_stepped, restart_slot, can_come, happens}
use Rattle.law_safety.proofs.EventCases.{AreCases, by-event}
use Rattle.law_safety.proofs.Happening.{IsFine}
use Rattle.law_safety.proofs.Promises.{slot-here}
use Rattle.law_granting.proofs.Slots.{slot-there, got-sent}
use Rattle.law_granting.proofs.Asked.{same-or, each-unit}
use Rattle.law_granting.proofs.Saying.{own-delivered, own-milled, own-ticked}
use Rattle.law_calm.proofs.Whole.{IsHarmless, packet-whole, milled-whole, ticked-whole}
use Rattle.law_survivors.specs.Spared.{spares_at, StandsIn}

-- the node of an actor did this step
pub record HasStepped (w next : World) (x : ℕ) (n : PlainNode) (t : Stepped PlainNode) : Type 0 where
  pub up : (slot_of w x).node ≡ Some n
  pub now : (slot_of next x).node ≡ Some t.after
  pub last : (slot_of next x).last_inc ≡ (slot_of w x).last_inc
  pub sends : next.envelopes ≡ w.envelopes ++ map (from x) t.sends

-- x sends nothing
abbrev pub SendsNone : World → World → ℕ → Type 0
SendsNone w next x = (k : ℕ) (e : Envelope) → slice_get next.envelopes k ≡ Some e → e.sender ≡ x → slice_get w.envelopes k ≡ Some e

-- what the event d makes of the node x
pub data ReplicaDoes (w : World) (home : Home) (x : ℕ) (d : Event) (next : World) : Type 0 where
  Rests : slot_of next x ≡ slot_of w x → SendsNone w next x → ReplicaDoes w home x d next
  Falls : d ≡ Crash x → (slot_of next x).node ≡ None → (slot_of next x).last_inc ≡ (slot_of w x).last_inc → SendsNone w next x → ReplicaDoes w home x d next
  Starts : (i : ℕ) → nat_lt (slot_of w x).last_inc i ≡ true → (slot_of w x).node ≡ None → (slot_of next x).node ≡ Some (restarted_node home i) → (slot_of next x).last_inc ≡ i → SendsNone w next x → ReplicaDoes w home x d next
  Takes : (k : ℕ) (e : Envelope) (n : PlainNode) → d ≡ Deliver k → slice_get w.envelopes k ≡ Some e → can_come w e ≡ true → e.to ≡ x → HasStepped w next x n (packet_step home e.sender e.packet n) → ReplicaDoes w home x d next
  Ticks : (now : ℕ) (n : PlainNode) → d ≡ Tick x now → HasStepped w next x n (tick_step home now n) → ReplicaDoes w home x d next
  Mills : (m : ℕ) (n : PlainNode) → HasStepped w next x n (mill_step home m n) → ReplicaDoes w home x d next

module _ (w : World) (most : ℕ) (fine : IsFine w most) (x g b : ℕ) (role : role_of w.plan x ≡ IsNode g b) where
  abbrev Does : Event → World → Type 0
  Does d next = ReplicaDoes w (home_of w.plan (g, b)) x d next

  none-sent : (next : World) → next.envelopes ≡ w.envelopes → SendsNone w next x
  none-sent next same k e there mine = sym (ap (λ (es : List Envelope). slice_get es k) same) ∙ there

  same-rests : (d : Event) (next : World) → slot_of next x ≡ slot_of w x → next.envelopes ≡ w.envelopes → Does d next
  same-rests d next slot same = Rests slot (none-sent next same)

  -- another actor's mails
  other-rests : (d : Event) (next : World) (y : ℕ) (ms : List Mail) → slot_of next x ≡ slot_of w x → next.envelopes ≡ w.envelopes ++ map (from y) ms → (x ≡ y → ⊥) → Does d next
  other-rests d next y ms slot sends other = Rests slot (λ k e there mine. old k e mine (got-sent (λ m. Unit {0}) y w.envelopes ms k e (each-unit ms) (sym (ap (λ (es : List Envelope). slice_get es k) sends) ∙ there)))
    where
      old : (k : ℕ) (e : Envelope) → e.sender ≡ x → (slice_get w.envelopes k ≡ Some e) ⊎ ((m : Mail) × (e ≡ from y m) × Unit {0}) → slice_get w.envelopes k ≡ Some e
      old k e mine (inl there) = there
      old k e mine (inr (m, of, u)) = absurd (other (sym mine ∙ ap (λ (z : Envelope). z.sender) of))

  source-apart : (y s : ℕ) → role_of w.plan y ≡ IsSource s → x ≡ y → ⊥
  source-apart y s is same = let clash : IsNode g b ≡ IsSource s = sym role ∙ ap (λ (z : ℕ). role_of w.plan z) same ∙ is in cc

  client-apart : (y c : ℕ) → role_of w.plan y ≡ IsClient c → x ≡ y → ⊥
  client-apart y c is same = let clash : IsNode g b ≡ IsClient c = sym role ∙ ap (λ (z : ℕ). role_of w.plan z) same ∙ is in cc

  -- the same node has one home
  one-home : (y f q : ℕ) → role_of w.plan y ≡ IsNode f q → x ≡ y → home_of w.plan (f, q) ≡ home_of w.plan (g, b)
  one-home y f q is same =
      let roles : IsNode f q ≡ IsNode g b = sym is ∙ ap (λ (z : ℕ). role_of w.plan z) (sym same) ∙ role in
      let one : f ≡ g = cc in
      let two : q ≡ b = cc in ap (λ (z : ℕ). home_of w.plan (z, q)) one ∙ ap (λ (z : ℕ). home_of w.plan (g, z)) two

  -- a node's step
  node-does : (d : Event) (y f q : ℕ) (n : PlainNode) (step : Home → Stepped PlainNode) → role_of w.plan y ≡ IsNode f q → (slot_of w y).node ≡ Some n →
      (x ≡ y → HasStepped w (node_stepped y (step (home_of w.plan (f, q))) w) x n (step (home_of w.plan (g, b))) → Does d (node_stepped y (step (home_of w.plan (f, q))) w)) → Does d (node_stepped y (step (home_of w.plan (f, q))) w)
  node-does d y f q n step is up own =
      let t = step (home_of w.plan (f, q)) in
      let change : Slot → Slot = λ (slot : Slot). record slot { node = Some t.after } in
      elim (same-or x y) [
        | inr other ↦ other-rests d (node_stepped y t w) y t.sends (slot-there w y x f q g b change is role other) refl other
        | inl same ↦ own same (mine same)
      ]
    where
      mine : x ≡ y → HasStepped w (node_stepped y (step (home_of w.plan (f, q))) w) x n (step (home_of w.plan (g, b)))
      mine same =
          let t = step (home_of w.plan (f, q)) in
          let slot = slot-here w most y f q (λ (z : Slot). record z { node = Some t.after }) fine is in
          let node : (slot_of (node_stepped y t w) y).node ≡ Some t.after = ap (λ (z : Slot). z.node) slot in
          let all : HasStepped w (node_stepped y t w) x n t = record {
            up = ap (λ (z : ℕ). (slot_of w z).node) same ∙ up;
            now = ap (λ (z : ℕ). (slot_of (node_stepped y t w) z).node) same ∙ node;
            last = ap (λ (z : ℕ). (slot_of (node_stepped y t w) z).last_inc) same ∙ ap (λ (z : Slot). z.last_inc) slot ∙ ap (λ (z : ℕ). (slot_of w z).last_inc) (sym same);
            sends = ap (λ (z : ℕ). w.envelopes ++ map (from z) t.sends) (sym same);
          } in
          subst (λ (h : Home). HasStepped w (node_stepped y t w) x n (step h)) (one-home y f q is same) all

  -- a node goes down
  abbrev Crashed : ℕ → World
  Crashed a = record w { nodes = changed (node_place w.plan a) (λ (slot : Slot). record slot { node = None }) w.nodes }

  crash-does : (a f q : ℕ) → role_of w.plan a ≡ IsNode f q → (x ≡ a) ⊎ (x ≡ a → ⊥) → Does (Crash a) (Crashed a)
  crash-does a f q is (inr other) = same-rests (Crash a) (Crashed a) (slot-there w a x f q g b (λ (slot : Slot). record slot { node = None }) is role other) refl
  crash-does a f q is (inl same) =
      let here = slot-here w most a f q (λ (slot : Slot). record slot { node = None }) fine is in
      Falls (ap Crash (sym same)) (ap (λ (z : ℕ). (slot_of (Crashed a) z).node) same ∙ ap (λ (z : Slot). z.node) here) (ap (λ (z : ℕ). (slot_of (Crashed a) z).last_inc) same ∙ ap (λ (z : Slot). z.last_inc) here ∙ ap (λ (z : ℕ). (slot_of w z).last_inc) (sym same)) (none-sent (Crashed a) refl)

  -- a node is restarted, where it is down and the incarnation is new
  abbrev Restarted : ℕ → ℕ → ℕ → ℕ → World
  Restarted a i f q = record w { nodes = changed (node_place w.plan a) (restart_slot (home_of w.plan (f, q)) i) w.nodes }

  restart-does : (a i f q : ℕ) → role_of w.plan a ≡ IsNode f q → (x ≡ a) ⊎ (x ≡ a → ⊥) → Does (Restart a i) (Restarted a i f q)
  restart-does a i f q is (inr other) = same-rests (Restart a i) _ (slot-there w a x f q g b (restart_slot (home_of w.plan (f, q)) i) is role other) refl
  restart-does a i f q is (inl same) = by-node (slot_of w a).node refl here
    where
      here : slot_of (Restarted a i f q) x ≡ restart_slot (home_of w.plan (f, q)) i (slot_of w a)
      here = ap (λ (z : ℕ). slot_of (Restarted a i f q) z) same ∙ slot-here w most a f q (restart_slot (home_of w.plan (f, q)) i) fine is

      was : slot_of w x ≡ slot_of w a
      was = ap (λ (z : ℕ). slot_of w z) same

      by-node : (o : Option PlainNode) → (slot_of w a).node ≡ o →
          slot_of (Restarted a i f q) x ≡ (elim o as (λ _. Slot) [ Some n ↦ slot_of w a | None ↦ cond (nat_lt (slot_of w a).last_inc i) (record { last_inc = i; node = Some (restarted_node (home_of w.plan (f, q)) i) }) (slot_of w a) ]) → Does (Restart a i) (Restarted a i f q)
      by-node (Some n) up now = same-rests (Restart a i) (Restarted a i f q) (now ∙ sym was) refl
      by-node None up now =
          (elim (nat_lt (slot_of w a).last_inc i) as (λ c. nat_lt (slot_of w a).last_inc i ≡ c → slot_of (Restarted a i f q) x ≡ cond {A = Slot} c (record { last_inc = i; node = Some (restarted_node (home_of w.plan (f, q)) i) }) (slot_of w a) → Does (Restart a i) (Restarted a i f q)) [
            | false ↦ λ less e. same-rests (Restart a i) (Restarted a i f q) (e ∙ sym was) refl
            | true ↦ λ less e.
                Starts i (ap (λ (z : Slot). nat_lt z.last_inc i) was ∙ less) (ap (λ (z : Slot). z.node) was ∙ up) (ap (λ (z : Slot). z.node) e ∙ ap (λ (h : Home). Some (restarted_node h i)) (one-home a f q is same)) (ap (λ (z : Slot). z.last_inc) e) (none-sent (Restarted a i f q) refl)
          ]) refl now

  does-cases : AreCases w (λ d next. Does d next)
  does-cases =
      record {
        still = λ d. same-rests d w refl refl;
        wires = λ d cuts. same-rests d (record w { cuts = cuts }) refl refl;
        emitted = λ a s t is. other-rests (Emit a t) _ a (source_emits w.plan s t (source_at w s)).sends refl refl (source-apart a s is);
        released = λ a s t is. other-rests (Release a t) _ a (source_releases w.plan s t (source_at w s)).sends refl refl (source-apart a s is);
        source_took = λ k s e there can is. other-rests (Deliver k) _ e.to (source_packet_step w.plan s e.sender e.packet (source_at w s)).sends refl refl (source-apart e.to s is);
        source_ticks = λ a s now is. other-rests (Tick a now) _ a (source_tick_step w.plan s now (source_at w s)).sends refl refl (source-apart a s is);
        crashed = λ a f q is. crash-does a f q is (same-or x a);
        restarted = λ a i f q is. restart-does a i f q is (same-or x a);
        node_took = λ k f q e n there can is up. node-does (Deliver k) e.to f q n (λ h. packet_step h e.sender e.packet n) is up (λ same stepped. Takes k e n refl there can (sym same) stepped);
        node_ticked = λ a now f q n is up clock. node-does (Tick a now) a f q n (λ h. tick_step h now n) is up (λ same stepped. Ticks now n (ap (λ (y : ℕ). Tick y now) (sym same)) stepped);
        node_milled = λ a m f q n is up can. node-does (Mill a m) a f q n (λ h. mill_step h m n) is up (λ same stepped. Mills m n stepped);
        client_took = λ k c e there can is. same-rests (Deliver k) _ refl refl;
        client_ticks = λ a c now is. other-rests (Tick a now) _ a (client_tick_step w.plan c now (client_at w c)).sends refl refl (client-apart a c is);
      }

  pub replica-does : (d : Event) → ReplicaDoes w (home_of w.plan (g, b)) x d (happens w d)
  replica-does d = by-event w (λ d next. Does d next) does-cases d

-- ---- who is not crashed stays whole

-- no envelope truncates a present session of x
abbrev pub NoneHarms : World → Home → ℕ → Type 0
NoneHarms w home x = (k : ℕ) (e : Envelope) (n : PlainNode) → slice_get w.envelopes k ≡ Some e → e.to ≡ x → (slot_of w x).node ≡ Some n → IsHarmless home e.sender e.packet n

not-spared : (x : ℕ) (d : Event) → d ≡ Crash x → spares_at x d ≡ true → ⊥
not-spared x d same spared =
    let it : not (x == x) ≡ true = subst (λ (z : Event). spares_at x z ≡ true) same spared in
    let mine : (x == x) ≡ true = eq-test x x refl in
    let clash : false ≡ true = rw mine at it in cc

module _ {incarnation : ℕ} (w next : World) (home : Home) (x : ℕ) (d : Event) (spared : spares_at x d ≡ true) (h : StandsIn incarnation w x) where
  up-whole : (n : PlainNode) → (slot_of w x).node ≡ Some n → n.recovering ≡ false
  up-whole n up = subst (λ (z : PlainNode). z.recovering ≡ false) (some-same h.node n (sym h.up ∙ up)) h.whole

  up-inc : (n : PlainNode) → (slot_of w x).node ≡ Some n → n.grants.inc ≡ incarnation
  up-inc n up = subst (λ (z : PlainNode). z.grants.inc ≡ incarnation) (some-same h.node n (sym h.up ∙ up)) h.inc

  pub stands-next : NoneHarms w home x → ReplicaDoes w home x d next → StandsIn incarnation next x
  stands-next harmless (ReplicaDoes.Rests slot sends) = record { node = h.node; up = ap (λ (z : Slot). z.node) slot ∙ h.up; inc = h.inc; whole = h.whole }
  stands-next harmless (ReplicaDoes.Falls crash down last sends) = absurd (not-spared x d crash spared)
  stands-next harmless (ReplicaDoes.Starts i newer down now last sends) = let clash : ◌≡◌ {A = Option PlainNode} None (Some h.node) = sym down ∙ h.up in cc
  stands-next harmless (ReplicaDoes.Takes k e n event there can to s) =
      record { node = (packet_step home e.sender e.packet n).after; up = s.now; inc = (own-delivered home e.sender e.packet n).grants.inc ∙ up-inc n s.up; whole = packet-whole home e.sender e.packet n (up-whole n s.up) (harmless k e n there to s.up) }
  stands-next harmless (ReplicaDoes.Ticks now n event s) = record { node = (tick_step home now n).after; up = s.now; inc = (own-ticked home now n).grants.inc ∙ up-inc n s.up; whole = ticked-whole home x now n (up-whole n s.up) }
  stands-next harmless (ReplicaDoes.Mills m n s) = record { node = (mill_step home m n).after; up = s.now; inc = (own-milled home m n).grants.inc ∙ up-inc n s.up; whole = milled-whole home x m n ∙ up-whole n s.up }
