use Rattle.std.proofs.Common.{◌≡◌, ◌==◌, true, false, length, rules}
use Rattle.phase_saves.proofs.Seeing.{stays-then, ends-failed, ends-bare, ends-saved, then-ok}
use Rattle.phase_saves.specs.Runs.{HasDone, HaveSaved}
use Rattle.phase_saves.proofs.watch.PhaseSaves.end.Goals as goal

pub returns-then-self-clause-stayed : goal.returns-then-self-clause-stayed
returns-then-self-clause-stayed g c = λ start before. before

pub returns-then-self-clause-done : goal.returns-then-self-clause-done
returns-then-self-clause-done g c = λ start seen. ends-failed start c.args.self.now c.args.world.now c.if-self.true

pub returns-then-is_empty-clause-stayed : goal.returns-then-is_empty-clause-stayed
returns-then-is_empty-clause-stayed g c = λ start before. before

pub returns-then-is_empty-clause-done : goal.returns-then-is_empty-clause-done
returns-then-is_empty-clause-done g c = λ start seen.
    let none : (length c.args.world.now.events == 0) ≡ true = search rules in
    ends-bare start c.args.self.now c.args.world.now none seen

pub returns-clause-done : goal.returns-clause-done
returns-clause-done g c = λ start seen.
    let some : (length c.args.world.now.events == 0) ≡ false = search rules in
    then-ok (HaveSaved c.args.world.now c.args.self.now c.save_all.new.self) (HasDone start c.args.world.now c.save_all.new.self) c.save_all.result
    (λ saved. ends-saved start c.args.self.now c.save_all.new.self c.args.world.now some c.if-self.false seen c.save_all.ensures.stayed saved) c.save_all.ensures.saved

pub returns-clause-stayed : goal.returns-clause-stayed
returns-clause-stayed g c = λ start before. stays-then start c.args.self.now c.save_all.new.self before c.save_all.ensures.stayed
