use Rattle.std.proofs.Common.{ap, ◌∙◌}
use Rattle.script_words.specs.Cursors.{words_left}
use Rattle.script_words.specs.Scans.{fault_of_places}
use Rattle.script_words.proofs.Limiting.{same_places}
use Rattle.script_words.proofs.places.fault_of_words.Goals as goal

pub returns : goal.returns
unfolding fault_of_places
returns c = λ d h. c.fault_by.ensures ∙ ap (λ ps. fault_of_places ps (words_left c.args.words)) (same_places d c.args.limits.now c.args.keyword h)
