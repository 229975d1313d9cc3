use Rattle.std.proofs.Common.{◌≡◌, true, false, rules}
use Rattle.law_saves.specs.Saves.{ends_phase}
use Rattle.phase_saves.proofs.Seeing.{failed-on, rested, saved, stays-then}
use Rattle.phase_saves.proofs.watch.PhaseSavesWatcher.see.Goals as goal

pub returns-then-self-clause-saw : goal.returns-then-self-clause-saw
returns-then-self-clause-saw g c = λ start before is seen. failed-on start c.args.self.now c.args.world.now c.if-self.true

pub returns-then-not-ends_phase-clause-saw : goal.returns-then-not-ends_phase-clause-saw
returns-then-not-ends_phase-clause-saw g c = λ start before is seen.
    let goes : ends_phase c.args.event ≡ false = search rules in
    rested start c.args.self.now before c.args.world.now c.args.event is goes seen

pub save_all-requires-clause-well : goal.save_all-requires-clause-well
save_all-requires-clause-well g c = c.if-self.false

pub returns-in_err-save_all-clause-stays : goal.returns-in_err-save_all-clause-stays
returns-in_err-save_all-clause-stays g c = λ start before. stays-then start c.args.self.now c.save_all.new.self before c.save_all.ensures.stayed

pub returns-clause-saw : goal.returns-clause-saw
returns-clause-saw g c = λ start before is seen.
    let ends : ends_phase c.args.event ≡ true = search rules in
    saved start c.args.self.now c.save_all.new.self before c.args.world.now c.args.event is ends c.if-self.false seen c.save_all.ensures.stayed (c.in_ok-save_all.ensures {u = tt}).saved

pub returns-clause-stays : goal.returns-clause-stays
returns-clause-stays g c = λ start before. stays-then start c.args.self.now c.save_all.new.self before c.save_all.ensures.stayed
