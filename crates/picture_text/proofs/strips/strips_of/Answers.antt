use Rattle.std.proofs.Common.{ap, ◌∙◌}
use Rattle.picture_text.specs.Strips.{folded, strips_of}
use Rattle.picture_text.proofs.strips.strips_of.Goals as goal

pub returns : goal.returns
unfolding strips_of
returns c = c.in_ok-strips.ensures ∙ ap folded (c.as_slice.ensures.value ∙ c.in_ok-all.ensures)
