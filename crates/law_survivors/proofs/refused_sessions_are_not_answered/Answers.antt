use Rattle.law_survivors.proofs.Laws.{never-answered}
use Rattle.law_survivors.proofs.refused_sessions_are_not_answered.Goals as goal

pub returns : goal.returns
returns c = never-answered
