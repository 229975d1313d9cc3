-- A line that is cut at its first space.
use Rattle.std.proofs.Common.{◌≡◌, ◌≢◌, ℕ, List, [], ◌∷◌, ◌++◌, All, Option, Some, None, true, false, refl, Bor, MatchOption, ap, subst, ◌∙◌}
use Rattle.std.specs.Prelude.{is_some}
use Rattle.std.proofs.lemmas.List.Elements.{recursion_from_All}
use Rattle.script_rules.specs.Lines.{pieces}
use Rattle.script_words.proofs.Splitting.{pieces-append, pieces-one, pieces-cons}
use Rattle.journal_text.specs.Entries.{is_of_other_length}

-- a line without a space
pub one_piece : (line front : List ℕ) → All (λ b. b ≢ 32) front → line ≡ front → pieces 32 line ≡ front ∷ []
one_piece line front h is = ap (pieces 32) is ∙ pieces-one 32 front (recursion_from_All (λ b. b ≢ 32) front h)

-- a first piece, and more
pub more_pieces : (line front behind : List ℕ) → All (λ b. b ≢ 32) front → line ≡ front ++ 32 ∷ behind → pieces 32 line ≡ front ∷ pieces 32 behind
more_pieces line front behind h is =
    ap (pieces 32) is ∙ pieces-append 32 front behind ∙ ap (λ ps. ps ++ pieces 32 behind) (pieces-one 32 front (recursion_from_All (λ b. b ≢ 32) front h))

-- the same of what a cut answers
pub at_last : (line front : List ℕ) (r : Option (Bor (List ℕ))) → All (λ b. b ≢ 32) front → r ≡ None →
    MatchOption r (line ≡ front) (λ behind. line ≡ front ++ 32 ∷ behind.now) → pieces 32 line ≡ front ∷ []
at_last line front r h e parts = one_piece line front h (subst (λ (o : Option (Bor (List ℕ))). MatchOption o (line ≡ front) (λ behind. line ≡ front ++ 32 ∷ behind.now)) e parts)

pub at_some : (line front : List ℕ) (r : Option (Bor (List ℕ))) (behind : Bor (List ℕ)) → All (λ b. b ≢ 32) front → r ≡ Some behind →
    MatchOption r (line ≡ front) (λ behind. line ≡ front ++ 32 ∷ behind.now) → pieces 32 line ≡ front ∷ pieces 32 behind.now
at_some line front r behind h e parts =
    more_pieces line front behind.now h (subst (λ (o : Option (Bor (List ℕ))). MatchOption o (line ≡ front) (λ behind. line ≡ front ++ 32 ∷ behind.now)) e parts)

-- four pieces or more
pub too_many : (a b c : List ℕ) (rest : List ℕ) → is_of_other_length (a ∷ b ∷ c ∷ pieces 32 rest) ≡ true
too_many a b c rest = let p = pieces-cons 32 rest in ap (λ ps. is_of_other_length (a ∷ b ∷ c ∷ ps)) p.2

pub nothing : {X : Type 0} (r : Option X) → is_some r ≡ false → r ≡ None
nothing None e = refl
nothing (Some x) e = absurd cc

pub at_more : (line front : List ℕ) (r : Option (Bor (List ℕ))) → All (λ b. b ≢ 32) front → is_some r ≡ true →
    MatchOption r (line ≡ front) (λ behind. line ≡ front ++ 32 ∷ behind.now) → (behind : List ℕ) × (pieces 32 line ≡ front ∷ pieces 32 behind)
at_more line front None h e parts = absurd cc
at_more line front (Some behind) h e parts = (behind.now, more_pieces line front behind.now h parts)
