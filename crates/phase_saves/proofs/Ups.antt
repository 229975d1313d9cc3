-- What is known of a node that a world lends.
use Rattle.std.proofs.Common.{◌≡◌, ℕ, true, false, Option, Some, None, refl, sym, ap, subst, ◌∙◌}
use Rattle.dpc_model.specs.Actors.{role_of}
use Rattle.dpc_model.specs.declared.actors.Role.{Role}
use Rattle.dpc_model.specs.declared.actors.Role.TheVariants.{Source as IsSource, Node as IsNode, Client as IsClient, Nobody}
use Rattle.dpc_model.specs.declared.plans.Plan.{Plan}
use Rattle.law_fit.specs.Fits.{CanRun}
use Rattle.law_fit.proofs.FitWorlds.{run-nodes}
use Rattle.law_safety.proofs.Growing.{run-plan}
use Rattle.law_saves.specs.Saves.{snap_in, snap_at, role_snap}
use Rattle.node_core.specs.Standing.{NodeValue, StandsForNode}
use Rattle.node_core.specs.Stepping.{IsSound}
use Rattle.node_model.specs.Fitting.{IsFit}
use Rattle.node_model.specs.Nodes.{Home, PlainNode}
use Rattle.node_model.specs.NodeSteps.{snapshot}
use Rattle.world_core.specs.Runs.{RunOf, world_of}
use Rattle.world_model.specs.Worlds.{home_of, slot_of, node_at, node_role}
use Rattle.world_parts.specs.Parts.{StandsForUp}
use Rattle.world_parts.specs.Telling.{StandsForRole}

-- ---- where nodes are in a world

-- the node that an actor of this role is
pub up-here : (run : RunOf) (a f r : ℕ) → role_of run.plan a ≡ IsNode f r → node_at (world_of run) a ≡ (slot_of (world_of run) a).node
up-here run a f r role = ap (node_role (world_of run) a) (ap (λ (q : Plan). role_of q a) (run-plan run.plan run.events) ∙ role)

-- what it could save
pub snap-here : (run : RunOf) (a f r : ℕ) (o : Option PlainNode) → role_of run.plan a ≡ IsNode f r → node_at (world_of run) a ≡ o → snap_at (world_of run) a ≡ snap_in (home_of run.plan (f, r)) o
snap-here run a f r o role up =
    let w = world_of run in
    let same = run-plan run.plan run.events in
    ap (role_snap w a) (ap (λ (q : Plan). role_of q a) same ∙ role)
    ∙ ap (λ (q : Plan). snap_in (home_of q (f, r)) (slot_of w a).node) same
    ∙ ap (snap_in (home_of run.plan (f, r))) (sym (up-here run a f r role) ∙ up)

-- ---- no node, or one that recovers

down : (home : Home) (o : Option PlainNode) → StandsForUp home None o → o ≡ None
down home None h = refl
down home (Some p) h = absurd h

pub down-snap : (run : RunOf) (a f r : ℕ) → role_of run.plan a ≡ IsNode f r → StandsForRole run.plan (role_of run.plan a) None (node_at (world_of run) a) → snap_at (world_of run) a ≡ None
down-snap run a f r role stands =
    let here : StandsForRole run.plan (IsNode f r) None (node_at (world_of run) a) = subst (λ (x : Role). StandsForRole run.plan x None (node_at (world_of run) a)) role stands in
    snap-here run a f r None role (down (home_of run.plan (f, r)) (node_at (world_of run) a) here)

recovering : (home : Home) (v : NodeValue) (o : Option PlainNode) → StandsForUp home (Some v) o → v.recovering ≡ true → snap_in home o ≡ None
recovering home v None h lost = absurd h
recovering home v (Some p) h lost = rw (sym (h.0.recovering) ∙ lost) refl

pub recovering-snap : (run : RunOf) (a f r : ℕ) (v : NodeValue) → role_of run.plan a ≡ IsNode f r → StandsForRole run.plan (role_of run.plan a) (Some v) (node_at (world_of run) a) → v.recovering ≡ true
    → snap_at (world_of run) a ≡ None
recovering-snap run a f r v role stands lost =
    let here : StandsForRole run.plan (IsNode f r) (Some v) (node_at (world_of run) a) = subst (λ (x : Role). StandsForRole run.plan x (Some v) (node_at (world_of run) a)) role stands in
    snap-here run a f r (node_at (world_of run) a) role refl ∙ recovering (home_of run.plan (f, r)) v (node_at (world_of run) a) here lost

-- ---- one that is up

pub snap-up : (home : Home) (p : PlainNode) → p.recovering ≡ false → snap_in home (Some p) ≡ Some (snapshot home p)
snap-up home p well = rw well refl

pub record IsUp (run : RunOf) (a f r : ℕ) (v : NodeValue) : Type 0 where
  pub plain : PlainNode
  pub up : node_at (world_of run) a ≡ Some plain
  pub stands : StandsForNode (home_of run.plan (f, r)) v plain
  pub fresh : v.spent ≡ false
  pub fit : IsFit (home_of run.plan (f, r)) plain

pub up-at : (run : RunOf) (a f r : ℕ) (v : NodeValue) → CanRun run.plan → role_of run.plan a ≡ IsNode f r → StandsForRole run.plan (role_of run.plan a) (Some v) (node_at (world_of run) a) → IsUp run a f r v
up-at run a f r v can role stands =
    by-node (node_at (world_of run) a) refl (subst (λ (x : Role). StandsForRole run.plan x (Some v) (node_at (world_of run) a)) role stands)
  where
    by-node : (o : Option PlainNode) → node_at (world_of run) a ≡ o → StandsForUp (home_of run.plan (f, r)) (Some v) o → IsUp run a f r v
    by-node None is h = absurd h
    by-node (Some p) is h =
        let same = run-plan run.plan run.events in
        let all = run-nodes run.plan run.events can.checked can.end a f r p (ap (λ (q : Plan). role_of q a) same ∙ role) (sym (up-here run a f r role) ∙ is) in
        record {
          plain = p;
          up = is;
          stands = h.0;
          fresh = h.1;
          fit = subst (λ (q : Plan). IsFit (home_of q (f, r)) p) same all;
        }

pub sound-at : (run : RunOf) (a : ℕ) (v : NodeValue) → CanRun run.plan → StandsForRole run.plan (role_of run.plan a) (Some v) (node_at (world_of run) a) → IsSound v × (v.spent ≡ false)
sound-at run a v can stands = by-role (role_of run.plan a) refl stands
  where
    by-role : (x : Role) → role_of run.plan a ≡ x → StandsForRole run.plan x (Some v) (node_at (world_of run) a) → IsSound v × (v.spent ≡ false)
    by-role (IsNode f r) role h =
        let u = up-at run a f r v can role stands in ((home_of run.plan (f, r), u.plain, u.stands, u.fit), u.fresh)
    by-role (IsSource s) role h = absurd (cc (h.code))
    by-role (IsClient c) role h = absurd (cc (h.code))
    by-role Nobody role h = absurd (cc (h.code))
