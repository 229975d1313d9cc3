-- The line of a verdict.
use Rattle.std.specs.Prelude.{ℕ, List, [], ◌∷◌, ◌++◌, Option, None, Some, codes, decimal}
use Rattle.dpc_model.specs.Words.{Word, line_of}
use Rattle.dpc_model.specs.declared.tuples.Tuple.{Tuple}
use Rattle.report.specs.Text.{tuple_words}
use Rattle.audit_core.specs.declared.verdict.Verdict.{Verdict}
use Rattle.audit_core.specs.declared.verdict.Verdict.TheVariants.{Whole, Prefix, Difference}

-- a tuple's time and values, or that there is none
abbrev pub found_words : Option Tuple → List Word
found_words None = codes "none" ∷ []
found_words (Some t) = tuple_words t

abbrev pub whole_words : List Word
whole_words = codes "whole" ∷ []

abbrev pub prefix_words : ℕ → ℕ → List Word
prefix_words n b = codes "prefix" ∷ decimal n ∷ decimal b ∷ []

abbrev pub difference_words : ℕ → Option Tuple → Option Tuple → List Word
difference_words n had t = codes "difference" ∷ decimal n ∷ codes "had" ∷ found_words had ++ codes "ideal" ∷ found_words t

abbrev pub verdict_words : Verdict → List Word
verdict_words Whole = whole_words
verdict_words (Prefix n b) = prefix_words n b
verdict_words (Difference n had t) = difference_words n had t

abbrev pub verdict_line : Verdict → List ℕ
verdict_line v = line_of (verdict_words v)
