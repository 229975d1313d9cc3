use Rattle.std.proofs.Common.{ap, ◌∙◌, ◌+◌, ◌++◌, List, ℕ, codes}
use Rattle.std.specs.Prelude.{flat_map}
use Rattle.std.proofs.lemmas.List.{take_all}
use Rattle.picture_svg.specs.Lanes.{state_bars, new_letters, states_shown}
use Rattle.picture_svg.proofs.Parts.{two_parts}
use Rattle.picture_svg.proofs.lanes.put_states.Goals as goal

pub returns : goal.returns
unfolding states_shown
returns c =
    let old = c.args.text.now.items in
    let letters = c.args.letters.now in
    let bars = state_bars c.args.step c.args.y letters in
    let news = new_letters c.args.step (c.args.y + 16) letters in
    c.in_ok-put_new_letters.ensures ∙ ap (λ (t : List ℕ). t ++ news) (c.loop-letter.invariant ∙ ap (λ ls. old ++ flat_map bars ls) (take_all c.loop-letter.letter-index (codes "SUCRx") c.loop-letter-test.false))
    ∙ two_parts old (flat_map bars (codes "SUCRx")) news
