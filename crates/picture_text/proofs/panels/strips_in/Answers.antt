use Rattle.std.proofs.Common.{ap, ◌∙◌, take}
use Rattle.std.proofs.lemmas.List.{take_min}
use Rattle.picture_text.proofs.panels.strips_in.Goals as goal

pub returns : goal.returns
returns c =
    let behind = c.split_at.result.1.now in
    c.split_at-2.ensures.front ∙ ap (λ n. take n behind) c.min.ensures ∙ take_min 80 behind ∙ ap (λ xs. take 80 xs) c.split_at.ensures.back
