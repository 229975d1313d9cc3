use Rattle.live_view.proofs.Keeping.{admits, forks, merges}
use Rattle.live_view.proofs.live.informed.Goals as goal

pub reader-requires : goal.reader-requires
reader-requires g c = admits g.N.ViewName.plan

pub tell-requires : goal.tell-requires
tell-requires g c = forks g.N.ViewName.plan _ _

pub learn-requires-clause-rule : goal.learn-requires-clause-rule
learn-requires-clause-rule g c = merges g.N.ViewName.plan _ _ _ _
