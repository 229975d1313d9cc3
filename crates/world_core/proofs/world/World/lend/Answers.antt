use Rattle.std.proofs.Common.{◌+◌, length, subst}
use Rattle.std.specs.Prelude.{◌↔◌, IsNone, ◌≡◌}
use Rattle.world_model.specs.Worlds.{run, ready_at}
use Rattle.world_core.specs.Runs.{RunOf, world_of}
use Rattle.world_core.proofs.Running.{run-stands, some-stands}
use Rattle.world_core.proofs.Work.{work-told}
use Rattle.world_core.proofs.Lent.{lent-true}
use Rattle.world_core.proofs.world.World.lend.Goals as goal

pub lend-requires-clause-some : goal.lend-requires-clause-some
lend-requires-clause-some c = some-stands c.self.inside.roster c.self.inside.parts c.self.inside.events.items c.self.invariant.0 (c.self.invariant.1 c.if-self.false)

pub returns-clause-none : goal.returns-clause-none
returns-clause-none c =
    let here = run-stands c.self.inside.roster c.self.inside.parts c.self.inside.events.items c.self.invariant.0 (c.self.invariant.1 c.if-self.false) in
    subst (λ (r : RunOf). IsNone c.in_ok-order.order ↔ (ready_at (world_of r) c.args.actor ≡ 0)) c.self.view_is
    ((c.in_ok-order.ensures {u = tt}).none (run c.self.inside.roster c.self.inside.events.items) (1 + length c.self.inside.events.items) here)

pub returns-clause-some : goal.returns-clause-some
returns-clause-some c =
    work-told _ c.args.self.now c.self.inside.parts c.args.actor c.in_ok-order.order c.self.view_is c.self.invariant.0 (c.self.invariant.1 c.if-self.false) (c.in_ok-order.ensures {u = tt}).some

pub returns-clause-work : goal.returns-clause-work
returns-clause-work c =
    lent-true _ c.args.self.now c.self.inside.parts c.args.actor c.in_ok-order.order c.self.view_is c.self.invariant.0 (c.self.invariant.1 c.if-self.false) (c.in_ok-order.ensures {u = tt}).some
