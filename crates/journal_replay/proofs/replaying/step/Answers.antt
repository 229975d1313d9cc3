use Rattle.std.proofs.Common.{◌≡◌, false, sym, ap, subst, ◌∙◌, rules}
use Rattle.live_run.specs.Lives.{LiveRunOf, world_in, with_event}
use Rattle.world_core.specs.Runs.{RunOf}
use Rattle.journal_replay.proofs.Entries.{led-on}
use Rattle.journal_replay.proofs.replaying.step.Goals as goal

-- it has seen this world, which is that of the run behind the event
pub returns-in_ok-see-in-Ok-true-clause-saw : goal.returns-in_ok-see-in-Ok-true-clause-saw
returns-in_ok-see-in-Ok-true-clause-saw g c =
    let old = c.args.run.now in
    let is : c.apply.new.self ≡ with_event old c.args.event = search rules in
    let live : c.apply.new.self.spent ≡ false = ap (λ (l : LiveRunOf). l.spent) is ∙ c.requires in
    let here = led-on old c.apply.new.self c.world.result.now c.args.event c.requires is c.world.ensures.plan c.world.ensures.events (c.world.ensures.spent live) in
    λ start h. subst (λ (w : RunOf). g.W.Watcher.saw start w c.see.new.self) (here ∙ sym (ap world_in is)) (c.in_ok-see-in-Ok-true.ensures.saw start (world_in old) here h)
