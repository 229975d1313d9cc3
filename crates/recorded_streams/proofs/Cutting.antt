-- A line that is cut at its first space.
use Rattle.std.proofs.Common.{◌≡◌, ◌≢◌, ℕ, List, [], ◌∷◌, ◌++◌, All, Option, Some, None, refl, Bor, MatchOption, ap, sym, ◌∙◌}
use Rattle.std.specs.Prelude.{Bool, true, false, not, is_some}
use Rattle.std.proofs.lemmas.List.Elements.{recursion_from_All}
use Rattle.dpc_model.specs.Words.{Word}
use Rattle.script_rules.specs.Lines.{pieces}
use Rattle.script_words.proofs.Splitting.{pieces-append, pieces-one, pieces-cons}

-- the pieces of what is left
abbrev pub left : Option (Bor (List ℕ)) → List Word
left o = elim o [ None ↦ [] | Some rest ↦ pieces 32 rest.now ]

-- a first piece, and those of what stands behind it
pub cut_pieces : (line front : List ℕ) (r : Option (Bor (List ℕ))) → All (λ b. b ≢ 32) front →
    MatchOption r (line ≡ front) (λ behind. line ≡ front ++ 32 ∷ behind.now) → pieces 32 line ≡ front ∷ left r
cut_pieces line front None h is = ap (pieces 32) is ∙ pieces-one 32 front (recursion_from_All (λ b. b ≢ 32) front h)
cut_pieces line front (Some behind) h is =
    ap (pieces 32) is ∙ pieces-append 32 front behind.now ∙ ap (λ ps. ps ++ pieces 32 behind.now) (pieces-one 32 front (recursion_from_All (λ b. b ≢ 32) front h))

pub next_piece : (old : Option (Bor (List ℕ))) (line : Bor (List ℕ)) (front : List ℕ) (r : Option (Bor (List ℕ))) → old ≡ Some line → All (λ b. b ≢ 32) front →
    MatchOption r (line.now ≡ front) (λ behind. line.now ≡ front ++ 32 ∷ behind.now) → left old ≡ front ∷ left r
next_piece old line front r is h parts = ap left is ∙ cut_pieces line.now front r h parts

cons_some : (w : Word) (ws : List Word) → w ∷ ws ≡ [] → ⊥
cons_some w ws h = absurd cc

-- there is none where nothing is left
pub none_left : (o : Option (Bor (List ℕ))) (none : Bool) → is_some o ≡ not none → none ≡ true → left o ≡ []
none_left None none is h = refl
none_left (Some line) true is h = absurd cc
none_left (Some line) false is h = absurd cc

pub nothing_left : (o : Option (Bor (List ℕ))) (none : Bool) → is_some o ≡ not none → left o ≡ [] → none ≡ true
nothing_left None true is h = refl
nothing_left None false is h = absurd cc
nothing_left (Some line) none is h = let first = pieces-cons 32 line.now in absurd (cons_some first.0 first.1 (sym first.2 ∙ h))
