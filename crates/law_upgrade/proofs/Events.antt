-- An event makes the same of a world, and so do many.
use Rattle.std.proofs.Common.{◌≡◌, ℕ, Bool, true, false, cond, List, [], ◌∷◌, refl, ap, ◌∙◌, Option, Some, None, slice_get}
use Rattle.dpc_lists.specs.Lists.{changed}
use Rattle.dpc_model.specs.Actors.{role_of}
use Rattle.dpc_model.specs.declared.actors.Role.{Role}
use Rattle.dpc_model.specs.declared.actors.Role.TheVariants.{Source as IsSource, Node as IsNode, Client as IsClient, Nobody}
use Rattle.dpc_model.specs.declared.messages.Event.{Event}
use Rattle.dpc_model.specs.declared.messages.Event.TheVariants.{Phase, Emit, Release, Cut, Heal, Crash, Restart, Deliver, Tick, Mill}
use Rattle.dpc_model.specs.declared.plans.Plan.{Plan}
use Rattle.node_model.specs.Mails.{Stepped}
use Rattle.node_model.specs.Nodes.{Home, PlainNode, new_node, restarted_node, ready}
use Rattle.node_model.specs.Sources.{new_source, source_emits, source_releases, source_packet_step, source_tick_step}
use Rattle.node_model.specs.Clients.{ClientState, new_client, client_after_packet, client_tick_step}
use Rattle.world_model.specs.Worlds.{World, Envelope, home_of, new_world, link_up, slot_of, source_at, client_at, is_release_time, is_clock, node_stepped, source_stepped, client_stepped, emits, releases, cuts_link, crashes, restarts, node_takes, taken_by, can_come, comes, node_ticks, ticks, can_mill, node_mills, mills, happens, run_from, run}
use Rattle.law_upgrade.specs.Upgrading.{upgraded_plan, upgraded_home, upgraded_world}
use Rattle.law_upgrade.proofs.Steps.{packet-same, mill-same, tick-same, client-takes-same}

-- one of two worlds
one-of : (b : Bool) (v w : World) → cond b (upgraded_world v) (upgraded_world w) ≡ upgraded_world (cond b v w)
one-of true v w = refl
one-of false v w = refl

stepped-same : (b : Bool) (w : World) (a : ℕ) (s t : Stepped PlainNode) → s ≡ t → cond b (node_stepped a s (upgraded_world w)) (upgraded_world w) ≡ upgraded_world (cond b (node_stepped a t w) w)
stepped-same b w a s t e = ap (λ (x : Stepped PlainNode). cond b (node_stepped a x (upgraded_world w)) (upgraded_world w)) e ∙ one-of b (node_stepped a t w) w

-- ---- sources and links

emits-same : (w : World) (a t : ℕ) (r : Role) → emits (upgraded_world w) a t r ≡ upgraded_world (emits w a t r)
unfolding source_emits
emits-same w a t (IsSource s) = one-of (is_release_time w.plan t) (source_stepped a (source_emits w.plan s t (source_at w s)) w) w
emits-same w a t (IsNode f r) = refl
emits-same w a t (IsClient c) = refl
emits-same w a t Nobody = refl

releases-same : (w : World) (a t : ℕ) (r : Role) → releases (upgraded_world w) a t r ≡ upgraded_world (releases w a t r)
unfolding source_releases
releases-same w a t (IsSource s) = one-of (is_release_time w.plan t) (source_stepped a (source_releases w.plan s t (source_at w s)) w) w
releases-same w a t (IsNode f r) = refl
releases-same w a t (IsClient c) = refl
releases-same w a t Nobody = refl

cuts-same : (w : World) (a b : ℕ) → cuts_link (upgraded_world w) a b ≡ upgraded_world (cuts_link w a b)
cuts-same w a b = one-of (link_up w a b) (record w { cuts = _ }) w

-- ---- nodes that stop and start

crashes-same : (w : World) (a : ℕ) (r : Role) → crashes (upgraded_world w) a r ≡ upgraded_world (crashes w a r)
crashes-same w a (IsSource s) = refl
crashes-same w a (IsNode f r) = refl
crashes-same w a (IsClient c) = refl
crashes-same w a Nobody = refl

restarts-same : (w : World) (a i : ℕ) (r : Role) → restarts (upgraded_world w) a i r ≡ upgraded_world (restarts w a i r)
unfolding restarted_node
restarts-same w a i (IsSource s) = refl
restarts-same w a i (IsNode f r) = refl
restarts-same w a i (IsClient c) = refl
restarts-same w a i Nobody = refl

-- ---- an envelope comes

node-takes-same : (w : World) (e : Envelope) (home : Home) (o : Option PlainNode) → node_takes (upgraded_world w) e (upgraded_home home) o ≡ upgraded_world (node_takes w e home o)
node-takes-same w e home None = refl
node-takes-same w e home (Some n) = ap (λ (s : Stepped PlainNode). node_stepped e.to s (upgraded_world w)) (packet-same home e.sender e.packet n)

taken-same : (w : World) (e : Envelope) (r : Role) → taken_by (upgraded_world w) e r ≡ upgraded_world (taken_by w e r)
unfolding source_packet_step
taken-same w e (IsSource s) = refl
taken-same w e (IsNode f r) = node-takes-same w e (home_of w.plan (f, r)) (slot_of w e.to).node
taken-same w e (IsClient c) = ap (λ (f : ClientState → ClientState). record w { plan = upgraded_plan w.plan; clients = changed c f w.clients }) takes
  where
    takes : client_after_packet (upgraded_plan w.plan) c e.sender e.packet ≡ client_after_packet w.plan c e.sender e.packet
    takes = λ i x. client-takes-same w.plan c e.sender e.packet x i
taken-same w e Nobody = refl

comes-same : (w : World) (o : Option Envelope) → comes (upgraded_world w) o ≡ upgraded_world (comes w o)
comes-same w None = refl
comes-same w (Some e) =
    ap (λ (v : World). cond (can_come w e) v (upgraded_world w)) (taken-same w e (role_of w.plan e.to)) ∙ one-of (can_come w e) (taken_by w e (role_of w.plan e.to)) w

-- ---- ticks and milling

node-ticks-same : (w : World) (a now : ℕ) (home : Home) (o : Option PlainNode) → node_ticks (upgraded_world w) a now (upgraded_home home) o ≡ upgraded_world (node_ticks w a now home o)
node-ticks-same w a now home None = refl
node-ticks-same w a now home (Some n) = stepped-same (is_clock n.clock now) w a _ _ (tick-same home now n)

ticks-same : (w : World) (a now : ℕ) (r : Role) → ticks (upgraded_world w) a now r ≡ upgraded_world (ticks w a now r)
unfolding source_tick_step client_tick_step new_client
ticks-same w a now (IsSource s) = one-of (is_clock (source_at w s).clock now) (source_stepped a (source_tick_step w.plan s now (source_at w s)) w) w
ticks-same w a now (IsNode f r) = node-ticks-same w a now (home_of w.plan (f, r)) (slot_of w a).node
ticks-same w a now (IsClient c) = one-of (is_clock (client_at w c).clock now) (client_stepped a c (client_tick_step w.plan c now (client_at w c)) w) w
ticks-same w a now Nobody = refl

node-mills-same : (w : World) (a r : ℕ) (home : Home) (o : Option PlainNode) → node_mills (upgraded_world w) a r (upgraded_home home) o ≡ upgraded_world (node_mills w a r home o)
unfolding ready
node-mills-same w a r home None = refl
node-mills-same w a r home (Some n) = stepped-same (can_mill home r n) w a _ _ (mill-same home r n)

mills-same : (w : World) (a r : ℕ) (x : Role) → mills (upgraded_world w) a r x ≡ upgraded_world (mills w a r x)
mills-same w a r (IsSource s) = refl
mills-same w a r (IsNode f q) = node-mills-same w a r (home_of w.plan (f, q)) (slot_of w a).node
mills-same w a r (IsClient c) = refl
mills-same w a r Nobody = refl

-- ---- events

pub happens-same : (w : World) (e : Event) → happens (upgraded_world w) e ≡ upgraded_world (happens w e)
happens-same w (Phase p) = refl
happens-same w (Emit a t) = emits-same w a t (role_of w.plan a)
happens-same w (Release a t) = releases-same w a t (role_of w.plan a)
happens-same w (Cut a b) = cuts-same w a b
happens-same w (Heal a b) = refl
happens-same w (Crash a) = crashes-same w a (role_of w.plan a)
happens-same w (Restart a i) = restarts-same w a i (role_of w.plan a)
happens-same w (Deliver k) = comes-same w (slice_get w.envelopes k)
happens-same w (Tick a now) = ticks-same w a now (role_of w.plan a)
happens-same w (Mill a r) = mills-same w a r (role_of w.plan a)

pub opening-same : (plan : Plan) → new_world (upgraded_plan plan) ≡ upgraded_world (new_world plan)
unfolding new_world new_node new_source new_client
opening-same plan = refl

run-from-same : (w : World) (es : List Event) → run_from (upgraded_world w) es ≡ upgraded_world (run_from w es)
run-from-same w [] = refl
run-from-same w (e ∷ es) = ap (λ (v : World). run_from v es) (happens-same w e) ∙ run-from-same (happens w e) es

pub run-same : (plan : Plan) (es : List Event) → run (upgraded_plan plan) es ≡ upgraded_world (run plan es)
unfolding run
run-same plan es = ap (λ (v : World). run_from v es) (opening-same plan) ∙ run-from-same (new_world plan) es
