-- Where every link and every node is up it stays so in quiet phases, and every envelope may come.
use Rattle.std.proofs.Common.{◌≡◌, ℕ, zero, suc, ◌<◌, Bool, true, false, cond, not, ◌&&◌, ◌||◌, ◌==◌, List, [], ◌∷◌, length, refl, ap, ◌∙◌, arith, Option, Some, None, slice_get}
use Rattle.std.specs.Prelude.{is_some, unwrap_or}
use Rattle.dpc_lists.specs.Lists.{changed, list_all, list_any}
use Rattle.dpc_model.specs.declared.actors.Role.TheVariants.{Source as IsSource, Node as IsNode, Client as IsClient, Nobody}
use Rattle.dpc_model.specs.declared.actors.Role.{Role}
use Rattle.dpc_model.specs.Actors.{role_of, nodes_of, reads_from, are_peers, are_linked, inputs_of}
use Rattle.dpc_model.specs.declared.messages.Event.{Event}
use Rattle.dpc_model.specs.declared.messages.Event.TheVariants.{Phase, Emit, Release, Cut, Heal, Crash, Restart, Deliver, Tick, Mill}
use Rattle.dpc_model.specs.declared.messages.Message.{Message}
use Rattle.dpc_model.specs.declared.messages.Message.TheVariants as message
use Rattle.dpc_model.specs.declared.plans.Plan.{Plan}
use Rattle.node_model.specs.Mails.{Packet, Plain, SnapFor}
use Rattle.node_model.specs.Nodes.{Home, PlainNode}
use Rattle.node_model.specs.Sources.{source_tick_step}
use Rattle.node_model.specs.Clients.{client_tick_step}
use Rattle.node_model.specs.NodeSteps.{packet_step, mill_step, tick_step}
use Rattle.world_model.specs.Worlds.{World, Envelope, Slot, home_of, node_place, slot_of, is_cut, link_up, role_up, is_up, can_come, taken_by, node_takes, node_stepped, ticks, node_ticks, mills, node_mills, can_mill, is_clock, source_stepped, client_stepped, source_at, client_at, happens, comes}
use Rattle.world_model.specs.Schedules.{may_come}
use Rattle.world_model.specs.Orderly.{message_way, packet_way, carries_fitting, is_fitting}
use Rattle.dpc_lists.proofs.Truths.{both, both-of}
use Rattle.dpc_model.proofs.Roles.{nothing_sent, no_peer, are_joined}
use Rattle.law_safety.proofs.Numbering.{node-at, all-at}
use Rattle.law_safety.proofs.Worlding.{slots-at}
use Rattle.law_safety.proofs.Happening.{IsFine}
use Rattle.world_model.specs.Events.{is_quiet}
use Rattle.law_settling.proofs.Waitings as waiting

abbrev pub has_node : Slot → Bool
has_node slot = is_some slot.node

-- every link and every node is up
pub record IsAllUp (w : World) : Type 0 where
  pub cuts : w.cuts ≡ []
  pub up : list_all has_node w.nodes ≡ true

-- ---- it stays so

all-changed : {X : Type 0} (q : X → Bool) (i : ℕ) (f : X → X) (xs : List X) → ((x : X) → q (f x) ≡ true) → list_all q xs ≡ true → list_all q (changed i f xs) ≡ true
all-changed q i f [] good h = refl
all-changed q zero f (x ∷ xs) good h = both-of (q (f x)) (list_all q xs) (good x) (both (q x) (list_all q xs) h).1
all-changed q (suc i) f (x ∷ xs) good h = let p = both (q x) (list_all q xs) h in both-of (q x) (list_all q (changed i f xs)) p.0 (all-changed q i f xs good p.1)

stepped-up : (w : World) (a : ℕ) (n : PlainNode) → IsAllUp w → list_all has_node (changed (node_place w.plan a) (λ (slot : Slot). record slot { node = Some n }) w.nodes) ≡ true
stepped-up w a n h = all-changed has_node (node_place w.plan a) (λ (slot : Slot). record slot { node = Some n }) w.nodes (λ slot. refl) h.up

takes-up : (w : World) (e : Envelope) (home : Home) (o : Option PlainNode) → IsAllUp w → IsAllUp (node_takes w e home o)
takes-up w e home None h = h
takes-up w e home (Some n) h = record { cuts = h.cuts; up = stepped-up w e.to (packet_step home e.sender e.packet n).after h }

taken-up : (w : World) (e : Envelope) (role : Role) → IsAllUp w → IsAllUp (taken_by w e role)
taken-up w e (IsSource s) h = record { cuts = h.cuts; up = h.up }
taken-up w e (IsNode f r) h = takes-up w e (home_of w.plan (f, r)) (slot_of w e.to).node h
taken-up w e (IsClient c) h = record { cuts = h.cuts; up = h.up }
taken-up w e Nobody h = h

comes-up : (w : World) (o : Option Envelope) → IsAllUp w → IsAllUp (comes w o)
comes-up w None h = h
comes-up w (Some e) h = elim (can_come w e) as (λ b. IsAllUp (cond b (taken_by w e (role_of w.plan e.to)) w)) [ true ↦ taken-up w e (role_of w.plan e.to) h | false ↦ h ]

node-ticks-up : (w : World) (a now : ℕ) (home : Home) (o : Option PlainNode) → IsAllUp w → IsAllUp (node_ticks w a now home o)
node-ticks-up w a now home None h = h
node-ticks-up w a now home (Some n) h = elim (is_clock n.clock now) as (λ b. IsAllUp (cond b (node_stepped a (tick_step home now n) w) w)) [
  | true ↦ record { cuts = h.cuts; up = stepped-up w a (tick_step home now n).after h }
  | false ↦ h
]

ticks-up : (w : World) (a now : ℕ) (role : Role) → IsAllUp w → IsAllUp (ticks w a now role)
ticks-up w a now (IsSource s) h = elim (is_clock (source_at w s).clock now) as (λ b. IsAllUp (cond b (source_stepped a (source_tick_step w.plan s now (source_at w s)) w) w)) [ true ↦ record { cuts = h.cuts; up = h.up } | false ↦ h ]
ticks-up w a now (IsNode f r) h = node-ticks-up w a now (home_of w.plan (f, r)) (slot_of w a).node h
ticks-up w a now (IsClient c) h = elim (is_clock (client_at w c).clock now) as (λ b. IsAllUp (cond b (client_stepped a c (client_tick_step w.plan c now (client_at w c)) w) w)) [ true ↦ record { cuts = h.cuts; up = h.up } | false ↦ h ]
ticks-up w a now Nobody h = h

node-mills-up : (w : World) (a r : ℕ) (home : Home) (o : Option PlainNode) → IsAllUp w → IsAllUp (node_mills w a r home o)
node-mills-up w a r home None h = h
node-mills-up w a r home (Some n) h = elim (can_mill home r n) as (λ b. IsAllUp (cond b (node_stepped a (mill_step home r n) w) w)) [
  | true ↦ record { cuts = h.cuts; up = stepped-up w a (mill_step home r n).after h }
  | false ↦ h
]

mills-up : (w : World) (a r : ℕ) (role : Role) → IsAllUp w → IsAllUp (mills w a r role)
mills-up w a r (IsNode f q) h = node-mills-up w a r (home_of w.plan (f, q)) (slot_of w a).node h
mills-up w a r (IsSource s) h = h
mills-up w a r (IsClient c) h = h
mills-up w a r Nobody h = h

pub quiet-up : (w : World) (e : Event) → is_quiet e ≡ true → IsAllUp w → IsAllUp (happens w e)
quiet-up w (Phase p) q h = cc
quiet-up w (Emit s t) q h = cc
quiet-up w (Release s t) q h = cc
quiet-up w (Cut a b) q h = cc
quiet-up w (Heal a b) q h = cc
quiet-up w (Crash a) q h = cc
quiet-up w (Restart a i) q h = cc
quiet-up w (Deliver k) q h = comes-up w (slice_get w.envelopes k) h
quiet-up w (Tick a now) q h = ticks-up w a now (role_of w.plan a) h
quiet-up w (Mill a r) q h = mills-up w a r (role_of w.plan a) h

-- ---- every envelope may come

or-first : (a b c : Bool) → a ≡ true → (a || b || c) ≡ true
or-first a b c e = rw e refl

or-second : (a b c : Bool) → b ≡ true → (a || b || c) ≡ true
or-second true b c e = refl
or-second false b c e = rw e refl

or-third : (a b c : Bool) → c ≡ true → (a || b || c) ≡ true
or-third true b c e = refl
or-third false true c e = refl
or-third false false c e = e

or-beat : (a b c : Bool) → (b || c) ≡ true → (a || b || c) ≡ true
or-beat true b c e = refl
or-beat false b c e = e

message-linked : (plan : Plan) (x y : Role) (m : Message) → message_way plan x y m ≡ true → are_joined plan x y ≡ true
message-linked plan x y (message.Batch s index items) h = or-second (reads_from plan x y) (reads_from plan y x) (are_peers x y) h
message-linked plan x y (message.Truncated s base) h = or-second (reads_from plan x y) (reads_from plan y x) (are_peers x y) h
message-linked plan x y (message.Subscribe asked) h = or-first (reads_from plan x y) (reads_from plan y x) (are_peers x y) h
message-linked plan x y (message.Ack i n) h = or-first (reads_from plan x y) (reads_from plan y x) (are_peers x y) h
message-linked plan x y (message.Beat b) h = or-beat (reads_from plan x y) (reads_from plan y x) (are_peers x y) h
message-linked plan x y (message.Ask i n) h = or-third (reads_from plan x y) (reads_from plan y x) (are_peers x y) h
message-linked plan x y (message.Grant i n) h = or-third (reads_from plan x y) (reads_from plan y x) (are_peers x y) h
message-linked plan x y (message.SnapAsk i n) h = or-third (reads_from plan x y) (reads_from plan y x) (are_peers x y) h

packet-linked : (plan : Plan) (x y : Role) (p : Packet) → packet_way plan x y p ≡ true → are_joined plan x y ≡ true
packet-linked plan x y (Plain m) h = message-linked plan x y m h
packet-linked plan x y (SnapFor i try s) h = or-third (reads_from plan x y) (reads_from plan y x) (are_peers x y) h

-- an actor that is linked is up
role-is-up : (w : World) (most a : ℕ) (x role : Role) → IsFine w most → IsAllUp w → role_of w.plan a ≡ role → are_joined w.plan x role ≡ true → role_up w a role ≡ true
role-is-up w most a x (IsSource s) h up e l = refl
role-is-up w most a x (IsClient c) h up e l = refl
role-is-up w most a x Nobody h up e l =
    let none = nothing_sent (inputs_of w.plan x) in
    let apart = no_peer x in
    let no : false ≡ true = rw (none, apart) at l in cc
role-is-up w most a x (IsNode f r) h up e l =
    let found = slots-at w.plan most (node_place w.plan a) (f, r) (nodes_of w.plan) w.nodes (node-at w.plan a f r e) h.nodes_up in
    let here : slot_of w a ≡ found.0 = ap (λ (o : Option Slot). unwrap_or o (record { last_inc = 0; node = None })) found.1 in
    ap has_node here ∙ all-at has_node w.nodes (node_place w.plan a) found.0 up.up found.1

pub can-come : (w : World) (most : ℕ) (e : Envelope) → IsFine w most → IsAllUp w → is_fitting w.plan e ≡ true → can_come w e ≡ true
can-come w most e h up fits =
    let way = (both (packet_way w.plan (role_of w.plan e.sender) (role_of w.plan e.to) e.packet) (carries_fitting w.plan (role_of w.plan e.sender) e.packet) fits).0 in
    let l = packet-linked w.plan (role_of w.plan e.sender) (role_of w.plan e.to) e.packet way in
    let none : is_cut w e.sender e.to ≡ false = ap (λ (cuts : List (ℕ × ℕ)). list_any (λ (p : ℕ × ℕ). (p.0 == e.sender && p.1 == e.to) || (p.0 == e.to && p.1 == e.sender)) cuts) up.cuts in
    let open_link : link_up w e.sender e.to ≡ true = both-of (are_linked w.plan e.sender e.to) (not (is_cut w e.sender e.to)) l (ap not none) in
    both-of (link_up w e.sender e.to) (is_up w e.to) open_link (role-is-up w most e.to (role_of w.plan e.sender) (role_of w.plan e.to) h up refl l)

none-there : (xs : List Envelope) (i : ℕ) → i < length xs → slice_get xs i ≡ None → ⊥
none-there [] i l e = omega (arith, l)
none-there (x ∷ xs) zero l e = cc
none-there (x ∷ xs) (suc i) l e = none-there xs i (omega (arith, l)) e

pub all-come : (w : World) (most k : ℕ) → IsFine w most → IsAllUp w → k < length w.envelopes → waiting.comes w k ≡ true
all-come w most k h up few =
    by-place (slice_get w.envelopes k) refl
  where
    by-place : (o : Option Envelope) → slice_get w.envelopes k ≡ o → may_come w o ≡ true
    by-place None e = absurd (none-there w.envelopes k few e)
    by-place (Some e) f = can-come w most e h up (all-at (is_fitting w.plan) w.envelopes k e h.fits f)
