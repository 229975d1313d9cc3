-- The text of the one stream of two clients, from its parts.
use Rattle.std.proofs.Common.{◌≡◌, ◌∙◌, ℕ, List, [], ◌∷◌, ◌++◌, map, ap}
use Rattle.std.specs.Prelude.{codes}
use Rattle.dpc_model.specs.Words.{Word, line_of, text_of}
use Rattle.dpc_model.specs.declared.messages.Event.{Event}
use Rattle.dpc_model.specs.declared.plans.Plan.{Plan}
use Rattle.dpc_model.specs.declared.tuples.Item.{Item}
use Rattle.line_writer.proofs.Lines.{all_lines}
use Rattle.report.specs.Text.{item_words, summary_words}
use Rattle.report.specs.declared.text.Summary.{Summary}
use Rattle.law_pairs.specs.Pairs.{pair_items}
use Rattle.pair_commands.specs.Pairs.{pair_lines, pair_summary, pair_text}

pub text-is : (first second : Word) (plan : Plan) (events : List Event) (x y : ℕ) (start names items whole : List ℕ) (taken : List Item) (s : Summary) → start ≡ [] →
    names ≡ start ++ line_of (codes "pair" ∷ first ∷ second ∷ []) → items ≡ names ++ text_of (map item_words taken) → whole ≡ items ++ line_of (summary_words (codes "pair") s) →
    taken ≡ pair_items plan events x y → s ≡ pair_summary plan events x y → whole ≡ pair_text first second plan events x y
unfolding pair_text
text-is first second plan events x y start names items whole taken s none named told summed same is =
    let last = line_of (summary_words (codes "pair") s) in
    summed ∙ ap (λ (t : List ℕ). t ++ last) told ∙ ap (λ (t : List ℕ). (t ++ text_of (map item_words taken)) ++ last) named
    ∙ ap (λ (t : List ℕ). ((t ++ line_of (codes "pair" ∷ first ∷ second ∷ [])) ++ text_of (map item_words taken)) ++ last) none
    ∙ all_lines [] (codes "pair" ∷ first ∷ second ∷ []) (map item_words taken) (summary_words (codes "pair") s)
    ∙ ap (λ (is : List Item). text_of (pair_lines first second is s)) same ∙ ap (λ (z : Summary). text_of (pair_lines first second (pair_items plan events x y) z)) is
