-- Lines that are put together word by word.
use Rattle.std.proofs.Common.{◌≡◌, ℕ, List, [], ◌∷◌, ◌++◌, sym, ◌∙◌, ap, append_assoc}
use Rattle.std.proofs.lemmas.List.{append-nil}
use Rattle.std.proofs.lemmas.Grind.{flat_map-append}
use Rattle.dpc_model.specs.Words.{Word, spaced, line_of, text_of}
use Rattle.line_writer.specs.Spaces.{behind_spaces}

-- a line's words are the first one, and the others each behind a space
spaced-cons : (w : Word) (words : List Word) → spaced (w ∷ words) ≡ w ++ behind_spaces words
spaced-cons w [] = sym (append-nil w)
spaced-cons w (v ∷ words) = ap (λ (t : List ℕ). w ++ (32 ∷ t)) (spaced-cons v words)

-- words behind a text, and more words behind them
pub behind_both : (old : List ℕ) (a b : List Word) → (old ++ behind_spaces a) ++ behind_spaces b ≡ old ++ behind_spaces (a ++ b)
behind_both old a b =
    append_assoc old (behind_spaces a) (behind_spaces b) ∙ ap (λ (t : List ℕ). old ++ t) (sym (flat_map-append (λ (w : Word). 32 ∷ w) a b))

-- a first word, and words behind it
pub more_words : (old w : List ℕ) (words : List Word) → (old ++ w) ++ behind_spaces words ≡ old ++ spaced (w ∷ words)
more_words old w words = append_assoc old w (behind_spaces words) ∙ ap (λ (t : List ℕ). old ++ t) (sym (spaced-cons w words))

-- a first word, a second one, and words behind it
pub two_words : (old w v : List ℕ) (words : List Word) → ((old ++ w) ++ behind_spaces (v ∷ [])) ++ behind_spaces words ≡ old ++ spaced (w ∷ v ∷ words)
two_words old w v words = behind_both (old ++ w) (v ∷ []) words ∙ more_words old w (v ∷ words)

-- the summary's words, put behind a text one after another
pub nine_words : (old w name a x b y c z d : List ℕ) →
    ((((((old ++ w) ++ behind_spaces (name ∷ [])) ++ behind_spaces (a ∷ x ∷ [])) ++ behind_spaces (b ∷ y ∷ [])) ++ behind_spaces (c ∷ z ∷ [])) ++ behind_spaces (d ∷ []))
    ++ 10 ∷ [] ≡ old ++ line_of (w ∷ name ∷ a ∷ x ∷ b ∷ y ∷ c ∷ z ∷ d ∷ [])
nine_words old w name a x b y c z d =
    let p = old ++ w in
    ap (λ (t : List ℕ). (((t ++ behind_spaces (b ∷ y ∷ [])) ++ behind_spaces (c ∷ z ∷ [])) ++ behind_spaces (d ∷ [])) ++ 10 ∷ []) (behind_both p (name ∷ []) (a ∷ x ∷ []))
    ∙ ap (λ (t : List ℕ). ((t ++ behind_spaces (c ∷ z ∷ [])) ++ behind_spaces (d ∷ [])) ++ 10 ∷ []) (behind_both p (name ∷ a ∷ x ∷ []) (b ∷ y ∷ []))
    ∙ ap (λ (t : List ℕ). (t ++ behind_spaces (d ∷ [])) ++ 10 ∷ []) (behind_both p (name ∷ a ∷ x ∷ b ∷ y ∷ []) (c ∷ z ∷ []))
    ∙ ap (λ (t : List ℕ). t ++ 10 ∷ []) (behind_both p (name ∷ a ∷ x ∷ b ∷ y ∷ c ∷ z ∷ []) (d ∷ []))
    ∙ ap (λ (t : List ℕ). t ++ 10 ∷ []) (more_words old w (name ∷ a ∷ x ∷ b ∷ y ∷ c ∷ z ∷ d ∷ []))
    ∙ append_assoc old (spaced (w ∷ name ∷ a ∷ x ∷ b ∷ y ∷ c ∷ z ∷ d ∷ [])) (10 ∷ [])

-- a first line, lines and a last line behind a text
pub all_lines : (old : List ℕ) (first : List Word) (lines : List (List Word)) (last : List Word) →
    ((old ++ line_of first) ++ text_of lines) ++ line_of last ≡ old ++ text_of ((first ∷ lines) ++ last ∷ [])
all_lines old first lines last =
    append_assoc (old ++ line_of first) (text_of lines) (line_of last) ∙ append_assoc old (line_of first) (text_of lines ++ line_of last)
    ∙ ap (λ (t : List ℕ). old ++ (line_of first ++ (text_of lines ++ t))) (sym (append-nil (line_of last)))
    ∙ ap (λ (t : List ℕ). old ++ (line_of first ++ t)) (sym (flat_map-append line_of lines (last ∷ [])))

-- a first word, and words behind it in three parts, as a line
pub line_in_parts : (old w : List ℕ) (a b c : List Word) →
    ((((old ++ w) ++ behind_spaces a) ++ behind_spaces b) ++ behind_spaces c) ++ 10 ∷ [] ≡ old ++ line_of (w ∷ (a ++ (b ++ c)))
line_in_parts old w a b c =
    ap (λ (t : List ℕ). (t ++ behind_spaces c) ++ 10 ∷ []) (behind_both (old ++ w) a b)
    ∙ ap (λ (t : List ℕ). t ++ 10 ∷ []) (behind_both (old ++ w) (a ++ b) c)
    ∙ ap (λ (words : List Word). ((old ++ w) ++ behind_spaces words) ++ 10 ∷ []) (append_assoc a b c)
    ∙ ap (λ (t : List ℕ). t ++ 10 ∷ []) (more_words old w (a ++ (b ++ c)))
    ∙ append_assoc old (spaced (w ∷ (a ++ (b ++ c)))) (10 ∷ [])

-- lines behind a text, in two parts
pub text_in_parts : (old : List ℕ) (a b : List (List Word)) → (old ++ text_of a) ++ text_of b ≡ old ++ text_of (a ++ b)
text_in_parts old a b = append_assoc old (text_of a) (text_of b) ∙ ap (λ (t : List ℕ). old ++ t) (sym (flat_map-append line_of a b))

-- a line and lines behind a text, in parts
pub block_in_parts : (old : List ℕ) (first : List Word) (a b : List (List Word)) →
    ((old ++ line_of first) ++ text_of a) ++ text_of b ≡ old ++ text_of ((first ∷ a) ++ b)
block_in_parts old first a b =
    ap (λ (t : List ℕ). t ++ text_of b) (append_assoc old (line_of first) (text_of a)) ∙ text_in_parts old (first ∷ a) b

-- one more line behind others
pub one_more_line : (old : List ℕ) (lines : List (List Word)) (line : List Word) →
    ((old ++ text_of lines) ++ spaced line) ++ 10 ∷ [] ≡ old ++ text_of (lines ++ line ∷ [])
one_more_line old lines line =
    append_assoc (old ++ text_of lines) (spaced line) (10 ∷ [])
    ∙ ap (λ (t : List ℕ). (old ++ text_of lines) ++ t) (sym (append-nil (line_of line))) ∙ text_in_parts old lines (line ∷ [])
