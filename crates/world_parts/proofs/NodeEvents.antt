-- What an event makes of a world whose node it reaches.
use Rattle.std.proofs.Common.{◌≡◌, ℕ, zero, suc, Bool, true, false, cond, ◌&&◌, List, [], ◌∷◌, refl, sym, ap, ◌∙◌, append-nil, Option, Some, None, slice_get}
use Rattle.std.specs.Prelude.{is_some}
use Rattle.dpc_lists.specs.Lists.{changed}
use Rattle.dpc_model.specs.Actors.{role_of}
use Rattle.dpc_model.specs.declared.actors.Role.{Role}
use Rattle.dpc_model.specs.declared.actors.Role.TheVariants.{Source as IsSource, Node as IsNode, Client as IsClient, Nobody}
use Rattle.dpc_model.specs.declared.messages.Event.TheVariants.{Crash, Restart, Deliver, Tick, Mill}
use Rattle.node_model.specs.Mails.{Stepped}
use Rattle.node_model.specs.Nodes.{PlainNode}
use Rattle.node_model.specs.NodeSteps.{packet_step, mill_step, tick_step}
use Rattle.world_model.specs.Worlds.{World, Envelope, Slot, home_of, node_place, sent, slot_of, is_clock, link_up, role_up, crashes, restart_slot, restarts, node_stepped, node_takes, taken_by, comes, node_ticks, ticks, can_mill, node_mills, mills, happens}
use Rattle.law_safety.proofs.Pointwise.{changed-same}
use Rattle.world_parts.specs.Slots.{still, up_stepped, slot_mills, slot_takes, slot_ticks}
use Rattle.world_parts.proofs.NodePlaces.{slot-here}

-- ---- a node's step in its world

-- the world with a step made at a node's place
abbrev pub place_stepped : World → ℕ → Stepped Slot → World
place_stepped x a step = sent a step.sends (record x { nodes = changed (node_place x.plan a) (λ _. step.after) x.nodes })

still-stepped : (x : World) (a : ℕ) (s : Slot) → slice_get x.nodes (node_place x.plan a) ≡ Some s → x ≡ place_stepped x a (still s)
still-stepped x a s e =
    ap (λ (nodes : List Slot). record x { nodes = nodes }) (sym (changed-same (node_place x.plan a) (λ _. s) x.nodes (λ t f. cc)))
    ∙ ap (λ (es : List Envelope). record x { nodes = changed (node_place x.plan a) (λ _. s) x.nodes; envelopes = es }) (sym (append-nil x.envelopes))

-- a change of the element that is there
changed-as : {X : Type 0} (i : ℕ) (f g : X → X) (xs : List X) (x : X) → slice_get xs i ≡ Some x → f x ≡ g x → changed i f xs ≡ changed i g xs
changed-as i f g [] x e same = refl
changed-as zero f g (y ∷ ys) x e same = let here : y ≡ x = cc in ap (λ z. z ∷ ys) (ap f here ∙ same ∙ ap g (sym here))
changed-as (suc i) f g (y ∷ ys) x e same = ap (λ zs. y ∷ zs) (changed-as i f g ys x e same)

up-stepped : (x : World) (a : ℕ) (s : Slot) (step : Stepped PlainNode) → slice_get x.nodes (node_place x.plan a) ≡ Some s → node_stepped a step x ≡ place_stepped x a (up_stepped s step)
up-stepped x a s step e =
    ap (λ (nodes : List Slot). sent a step.sends (record x { nodes = nodes }))
    (changed-as (node_place x.plan a) (λ (slot : Slot). record slot { node = Some step.after }) (λ _. record s { node = Some step.after }) x.nodes s e refl)

-- the node at a place
node-here : (x : World) (a : ℕ) (s : Slot) → slice_get x.nodes (node_place x.plan a) ≡ Some s → (slot_of x a).node ≡ s.node
node-here x a s e = ap (λ (t : Slot). t.node) (slot-here x a s e)

pub mill-event : (x : World) (a f r count : ℕ) (s : Slot) → role_of x.plan a ≡ IsNode f r → slice_get x.nodes (node_place x.plan a) ≡ Some s →
    happens x (Mill a count) ≡ place_stepped x a (slot_mills (home_of x.plan (f, r)) count s)
mill-event x a f r count s role e =
    ap (λ (z : Role). mills x a count z) role ∙ ap (λ (o : Option PlainNode). node_mills x a count (home_of x.plan (f, r)) o) (node-here x a s e) ∙ by-node s.node
  where
    by-node : (o : Option PlainNode) → node_mills x a count (home_of x.plan (f, r)) o
        ≡ place_stepped x a (elim o [ None ↦ still s | Some p ↦ cond (can_mill (home_of x.plan (f, r)) count p) (up_stepped s (mill_step (home_of x.plan (f, r)) count p)) (still s) ])
    by-node None = still-stepped x a s e
    by-node (Some p) =
        let home = home_of x.plan (f, r) in
        elim (can_mill home count p) as (λ b. cond b (node_stepped a (mill_step home count p) x) x ≡ place_stepped x a (cond b (up_stepped s (mill_step home count p)) (still s))) [
          | true ↦ up-stepped x a s (mill_step home count p) e
          | false ↦ still-stepped x a s e
        ]

pub tick-event : (x : World) (a f r now : ℕ) (s : Slot) → role_of x.plan a ≡ IsNode f r → slice_get x.nodes (node_place x.plan a) ≡ Some s →
    happens x (Tick a now) ≡ place_stepped x a (slot_ticks (home_of x.plan (f, r)) now s)
tick-event x a f r now s role e =
    ap (λ (z : Role). ticks x a now z) role ∙ ap (λ (o : Option PlainNode). node_ticks x a now (home_of x.plan (f, r)) o) (node-here x a s e) ∙ by-node s.node
  where
    by-node : (o : Option PlainNode) → node_ticks x a now (home_of x.plan (f, r)) o
        ≡ place_stepped x a (elim o [ None ↦ still s | Some p ↦ cond (is_clock p.clock now) (up_stepped s (tick_step (home_of x.plan (f, r)) now p)) (still s) ])
    by-node None = still-stepped x a s e
    by-node (Some p) =
        let home = home_of x.plan (f, r) in
        elim (is_clock p.clock now) as (λ b. cond b (node_stepped a (tick_step home now p) x) x ≡ place_stepped x a (cond b (up_stepped s (tick_step home now p)) (still s))) [
          | true ↦ up-stepped x a s (tick_step home now p) e
          | false ↦ still-stepped x a s e
        ]

pub deliver-event : (x : World) (k f r : ℕ) (y : Envelope) (s : Slot) → slice_get x.envelopes k ≡ Some y → role_of x.plan y.to ≡ IsNode f r → link_up x y.sender y.to ≡ true →
    slice_get x.nodes (node_place x.plan y.to) ≡ Some s → happens x (Deliver k) ≡ place_stepped x y.to (slot_takes (home_of x.plan (f, r)) y.sender y.packet s)
deliver-event x k f r y s there role linked e =
    ap (λ (o : Option Envelope). comes x o) there ∙ ap (λ (b : Bool). cond (b && role_up x y.to (role_of x.plan y.to)) (taken_by x y (role_of x.plan y.to)) x) linked
    ∙ ap (λ (z : Role). cond (role_up x y.to z) (taken_by x y z) x) role
    ∙ ap (λ (o : Option PlainNode). cond (is_some o) (node_takes x y (home_of x.plan (f, r)) o) x) (node-here x y.to s e) ∙ by-node s.node
  where
    by-node : (o : Option PlainNode) → cond (is_some o) (node_takes x y (home_of x.plan (f, r)) o) x
        ≡ place_stepped x y.to (elim o [ None ↦ still s | Some p ↦ up_stepped s (packet_step (home_of x.plan (f, r)) y.sender y.packet p) ])
    by-node None = still-stepped x y.to s e
    by-node (Some p) = up-stepped x y.to s (packet_step (home_of x.plan (f, r)) y.sender y.packet p) e

-- ---- a crash and a restart

pub crash-event : (x : World) (a f r : ℕ) → role_of x.plan a ≡ IsNode f r → happens x (Crash a) ≡ record x { nodes = changed (node_place x.plan a) (λ (slot : Slot). record slot { node = None }) x.nodes }
crash-event x a f r role = ap (λ (z : Role). crashes x a z) role

pub restart-event : (x : World) (a f r inc : ℕ) → role_of x.plan a ≡ IsNode f r →
    happens x (Restart a inc) ≡ record x { nodes = changed (node_place x.plan a) (restart_slot (home_of x.plan (f, r)) inc) x.nodes }
restart-event x a f r inc role = ap (λ (z : Role). restarts x a inc z) role

-- ---- an actor that is no node

-- it is none of any fragment
abbrev pub IsNoNode : Role → Type 0
IsNoNode role = (f r : ℕ) → role ≡ IsNode f r → ⊥

no-crash : (x : World) (a : ℕ) (role : Role) → IsNoNode role → crashes x a role ≡ x
no-crash x a (IsSource s) other = refl
no-crash x a (IsNode f r) other = absurd (other f r refl)
no-crash x a (IsClient c) other = refl
no-crash x a Nobody other = refl

no-restart : (x : World) (a inc : ℕ) (role : Role) → IsNoNode role → restarts x a inc role ≡ x
no-restart x a inc (IsSource s) other = refl
no-restart x a inc (IsNode f r) other = absurd (other f r refl)
no-restart x a inc (IsClient c) other = refl
no-restart x a inc Nobody other = refl

no-mill : (x : World) (a count : ℕ) (role : Role) → IsNoNode role → mills x a count role ≡ x
no-mill x a count (IsSource s) other = refl
no-mill x a count (IsNode f r) other = absurd (other f r refl)
no-mill x a count (IsClient c) other = refl
no-mill x a count Nobody other = refl

pub crash-void : (x : World) (a : ℕ) → IsNoNode (role_of x.plan a) → happens x (Crash a) ≡ x
crash-void x a other = no-crash x a (role_of x.plan a) other

pub restart-void : (x : World) (a inc : ℕ) → IsNoNode (role_of x.plan a) → happens x (Restart a inc) ≡ x
restart-void x a inc other = no-restart x a inc (role_of x.plan a) other

pub mill-void : (x : World) (a count : ℕ) → IsNoNode (role_of x.plan a) → happens x (Mill a count) ≡ x
mill-void x a count other = no-mill x a count (role_of x.plan a) other
