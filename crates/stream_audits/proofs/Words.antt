-- A line that is put together in six parts.
use Rattle.std.proofs.Common.{◌≡◌, ℕ, List, [], ◌∷◌, ◌++◌, ap, ◌∙◌}
use Rattle.dpc_model.specs.Words.{Word, line_of}
use Rattle.line_writer.specs.Spaces.{behind_spaces}
use Rattle.line_writer.proofs.Lines.{behind_both, line_in_parts}

pub line_in_six : (old w : List ℕ) (a b c d e : List Word) →
    ((((((old ++ w) ++ behind_spaces a) ++ behind_spaces b) ++ behind_spaces c) ++ behind_spaces d) ++ behind_spaces e) ++ 10 ∷ []
    ≡ old ++ line_of (w ∷ ((a ++ b) ++ (c ++ (d ++ e))))
line_in_six old w a b c d e =
    ap (λ (t : List ℕ). (((t ++ behind_spaces c) ++ behind_spaces d) ++ behind_spaces e) ++ 10 ∷ []) (behind_both (old ++ w) a b)
    ∙ ap (λ (t : List ℕ). t ++ 10 ∷ []) (behind_both (((old ++ w) ++ behind_spaces (a ++ b)) ++ behind_spaces c) d e)
    ∙ line_in_parts old w (a ++ b) c (d ++ e)
