-- The node that an actor is, where it is one and is up, in a world that is stood for.
use Rattle.std.proofs.Common.{◌≡◌, ℕ, refl, sym, ap, subst, ◌∙◌, Option, Some, None}
use Rattle.dpc_model.specs.Actors.{role_of}
use Rattle.dpc_model.specs.declared.actors.Role.{Role}
use Rattle.dpc_model.specs.declared.actors.Role.TheVariants.{Source as IsSource, Node as IsNode, Client as IsClient, Nobody}
use Rattle.dpc_model.specs.declared.plans.Plan.{Plan}
use Rattle.node_model.specs.Nodes.{Home, PlainNode, ready}
use Rattle.node_model.specs.Fitting.{IsFit}
use Rattle.node_core.specs.Standing.{NodeValue, StandsForNode}
use Rattle.world_model.specs.Worlds.{World, home_of, node_place, slot_of, node_role, node_at, ready_in, ready_role, ready_at}
use Rattle.law_fit.specs.Fits.{CanRun}
use Rattle.law_fit.proofs.FitWorlds.{world-nodes}
use Rattle.world_parts.specs.Parts.{WorldPartsValue, StandsForUp, StandsForWorld}
use Rattle.world_parts.specs.Telling.{StandsForRole}
use Rattle.world_parts.specs.Events.{IsWorldOf}
use Rattle.world_parts.specs.Handing.{up_role, up_node}
use Rattle.world_parts.proofs.SlotPlaces.{node-there, node_stands}
use Rattle.world_parts.proofs.NodeWork.{up-place}

-- ---- a node's place

pub own-node : (plan : Plan) (x : World) (a f r : ℕ) → x.plan ≡ plan → role_of plan a ≡ IsNode f r → node_at x a ≡ (slot_of x a).node
own-node plan x a f r same role = ap (λ (k : Role). node_role x a k) (ap (λ (p : Plan). role_of p a) same ∙ role)

-- the code's node stands for the plain one
pub up-stands : (plan : Plan) (v : WorldPartsValue) (x : World) (a f r : ℕ) → StandsForWorld plan v x → role_of plan a ≡ IsNode f r → StandsForUp (home_of plan (f, r)) (up_node plan v a) (node_at x a)
up-stands plan v x a f r h role =
    let t = node-there plan v x a f r h role in
    subst (λ (k : Role). StandsForRole plan k (up_node plan v a) (node_at x a)) role (node_stands plan v x a f r t.code (up_node plan v a) h role t.code_at (sym (up-place plan v a f r t.code role t.code_at)))

pub fit-there : (plan : Plan) (v : WorldPartsValue) (x : World) (most a f r : ℕ) (p : PlainNode) → CanRun plan → IsWorldOf plan v x most → role_of plan a ≡ IsNode f r → node_at x a ≡ Some p → IsFit (home_of plan (f, r)) p
fit-there plan v x most a f r p can w role up =
    let here : (slot_of x a).node ≡ Some p = sym (own-node plan x a f r w.stands.plan_is role) ∙ up in
    subst (λ (q : Plan). CanRun q → role_of q a ≡ IsNode f r → IsFit (home_of q (f, r)) p) w.stands.plan_is (λ can role. world-nodes x most can.checked can.end w.fine a f r p role here) can role

-- ---- the node where it is up

pub record IsUpIn (plan : Plan) (x : World) (a : ℕ) (n : NodeValue) : Type 0 where
  pub frag : ℕ
  pub replica : ℕ
  pub plain : PlainNode
  pub role : role_of plan a ≡ IsNode frag replica
  pub up : node_at x a ≡ Some plain
  pub stands : StandsForNode (home_of plan (frag, replica)) n plain
  pub fit : IsFit (home_of plan (frag, replica)) plain
  pub ready : ready_at x a ≡ ready (home_of plan (frag, replica)) plain

role-of-up : (v : WorldPartsValue) (place : ℕ) (role : Role) (n : NodeValue) → up_role v place role ≡ Some n → (f : ℕ) × (r : ℕ) × (role ≡ IsNode f r)
role-of-up v place (IsSource s) n e = cc
role-of-up v place (IsNode f r) n e = (f, r, refl)
role-of-up v place (IsClient c) n e = cc
role-of-up v place Nobody n e = cc

plain-of-up : (home : Home) (n : NodeValue) (o : Option PlainNode) → StandsForUp home (Some n) o → (p : PlainNode) × (o ≡ Some p) × StandsForNode home n p
plain-of-up home n None h = absurd h
plain-of-up home n (Some p) h = (p, refl, h.0)

ready-here : (plan : Plan) (x : World) (a f r : ℕ) (p : PlainNode) → x.plan ≡ plan → role_of plan a ≡ IsNode f r → node_at x a ≡ Some p → ready_at x a ≡ ready (home_of plan (f, r)) p
ready-here plan x a f r p same role up =
    let here : (slot_of x a).node ≡ Some p = sym (own-node plan x a f r same role) ∙ up in
    ap (λ (k : Role). ready_role x a k) (ap (λ (q : Plan). role_of q a) same ∙ role) ∙ ap (λ (o : Option PlainNode). ready_in (home_of x.plan (f, r)) o) here ∙ ap (λ (q : Plan). ready (home_of q (f, r)) p) same

pub up-in : (plan : Plan) (v : WorldPartsValue) (x : World) (most a : ℕ) (n : NodeValue) → CanRun plan → IsWorldOf plan v x most → up_node plan v a ≡ Some n → IsUpIn plan x a n
up-in plan v x most a n can w is =
    let role = role-of-up v (node_place plan a) (role_of plan a) n is in
    let home = home_of plan (role.0, role.1) in
    let p = plain-of-up home n (node_at x a) (subst (λ (o : Option NodeValue). StandsForUp home o (node_at x a)) is (up-stands plan v x a role.0 role.1 w.stands role.2)) in
    record {
      frag = role.0;
      replica = role.1;
      plain = p.0;
      role = role.2;
      up = p.1;
      stands = p.2;
      fit = fit-there plan v x most a role.0 role.1 p.0 can w role.2 p.1;
      ready = ready-here plan x a role.0 role.1 p.0 w.stands.plan_is role.2 p.1;
    }

-- the plain one is a given one
pub record IsOneIn (home : Home) (o : Option NodeValue) (p : PlainNode) : Type 0 where
  pub node : NodeValue
  pub is : o ≡ Some node
  pub stands : StandsForNode home node p
  pub fit : IsFit home p

one-of : (home : Home) (o : Option NodeValue) (q : Option PlainNode) (p : PlainNode) → StandsForUp home o q → q ≡ Some p → IsFit home p → IsOneIn home o p
one-of home None None p h e fit = cc
one-of home (Some n) None p h e fit = cc
one-of home None (Some q) p h e fit = absurd h
one-of home (Some n) (Some q) p h e fit = let same : q ≡ p = cc in record { node = n; is = refl; stands = subst (λ (z : PlainNode). StandsForNode home n z) same h.0; fit = fit }

pub one-in : (plan : Plan) (v : WorldPartsValue) (x : World) (most a f r : ℕ) (p : PlainNode) → CanRun plan → IsWorldOf plan v x most → role_of plan a ≡ IsNode f r → node_at x a ≡ Some p → IsOneIn (home_of plan (f, r)) (up_node plan v a) p
one-in plan v x most a f r p can w role up = one-of (home_of plan (f, r)) (up_node plan v a) (node_at x a) p (up-stands plan v x a f r w.stands role) up (fit-there plan v x most a f r p can w role up)
