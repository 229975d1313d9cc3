use Rattle.std.proofs.Common.{sym, ◌∙◌}
use Rattle.phase_saves.proofs.Ups.{down-snap, recovering-snap, sound-at, up-at}
use Rattle.phase_saves.proofs.Nodes.{same-still, idle, saved-it}
use Rattle.phase_saves.proofs.node.SavingNode.save.Goals as goal

pub node-requires : goal.node-requires
node-requires g c = c.requires

pub returns-in_default-clause-same : goal.returns-in_default-clause-same
returns-in_default-clause-same g c = same-still c.args.self.now

pub returns-in_default-clause-saves : goal.returns-in_default-clause-saves
returns-in_default-clause-saves g c = idle c.args.world.now c.args.self.now (λ f r role. down-snap c.args.world.now c.args.self.now.actor f r role c.in_default.ensures.stands)

pub returns-then-recovering-clause-same : goal.returns-then-recovering-clause-same
returns-then-recovering-clause-same g c = same-still c.args.self.now

pub returns-then-recovering-clause-saves : goal.returns-then-recovering-clause-saves
returns-then-recovering-clause-saves g c =
    idle c.args.world.now c.args.self.now
    (λ f r role. recovering-snap c.args.world.now c.args.self.now.actor f r c.in-Some.node.now role c.in-Some.ensures.stands (sym c.recovering.ensures ∙ c.if-recovering.true))

pub snapshot_of-requires-clause-sound : goal.snapshot_of-requires-clause-sound
snapshot_of-requires-clause-sound g c = (sound-at c.args.world.now c.args.self.now.actor c.in-Some.node.now c.in-Some.ensures.can_run c.in-Some.ensures.stands).0

pub snapshot_of-requires-clause-fresh : goal.snapshot_of-requires-clause-fresh
snapshot_of-requires-clause-fresh g c = (sound-at c.args.world.now c.args.self.now.actor c.in-Some.node.now c.in-Some.ensures.can_run c.in-Some.ensures.stands).1

pub returns-in_err-snapshot-clause-same : goal.returns-in_err-snapshot-clause-same
returns-in_err-snapshot-clause-same g c = same-still c.args.self.now

pub returns-in_err-put-clause-same : goal.returns-in_err-put-clause-same
returns-in_err-put-clause-same g c = c.put.ensures.same

pub returns-clause-same : goal.returns-clause-same
returns-clause-same g c = c.put.ensures.same

pub returns-clause-saves : goal.returns-clause-saves
returns-clause-saves g c =
    let run = c.args.world.now in
    let s = c.in_ok-snapshot.ensures {u = tt} in
    let p = c.in_ok-put.ensures {u = tt} in
    saved-it run c.args.self.now c.put.new.self c.in_ok-snapshot.snapshot
    (λ f r role.
    let u = up-at run c.args.self.now.actor f r c.in-Some.node.now c.in-Some.ensures.can_run role c.in-Some.ensures.stands in
    (u.plain, u.up, sym u.stands.recovering ∙ sym c.recovering.ensures ∙ c.if-recovering.false, s.stands _ u.plain u.stands u.fit))
    s.typed c.put.ensures.same (λ h. p.rests h) (λ plan h savable. p.went plan h savable)
