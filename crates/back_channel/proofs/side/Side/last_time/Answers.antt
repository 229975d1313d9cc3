use Rattle.std.proofs.Common.{ap, ◌∙◌}
use Rattle.back_channel.specs.Merging.{last_time}
use Rattle.back_channel.proofs.Holding.{all-kept}
use Rattle.back_channel.proofs.side.Side.last_time.Goals as goal

pub returns-then-self-bound-clause-last : goal.returns-then-self-bound-clause-last
returns-then-self-bound-clause-last c = λ x h. c.last_time.ensures ∙ ap last_time (c.as_slice.ensures.value ∙ all-kept c.args.bound c.args.self.now x h c.if-self-bound.true)
