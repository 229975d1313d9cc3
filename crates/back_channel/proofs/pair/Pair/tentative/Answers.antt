use Rattle.std.proofs.Common.{◌∙◌}
use Rattle.back_channel.proofs.Stepping.{shows-tentative}
use Rattle.back_channel.proofs.pair.Pair.tentative.Goals as goal

pub returns : goal.returns
returns c = λ x y h. c.shown.ensures ∙ shows-tentative c.args.self.now x y h.shows
