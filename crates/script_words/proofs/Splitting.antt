-- How a text falls apart into lines, and a line into words.
use Rattle.std.proofs.Common.{◌≡◌, ◌≢◌, ℕ, suc, ◌≤◌, true, false, cond, List, [], ◌∷◌, ◌++◌, length, filter, refl, ap, ◌∙◌, arith, not}
use Rattle.std.specs.Prelude.{◌==◌}
use Rattle.std.specs.List.{AllByRecursion}
use Rattle.std.proofs.lemmas.Bool.{ne_eqb, eqb-false}
use Rattle.std.proofs.lemmas.List.Elements.{filter-append}
use Rattle.dpc_lists.specs.Lists.{is_nil}
use Rattle.dpc_model.specs.Words.{Word}
use Rattle.script_rules.specs.Lines.{in_front, pieces, lines_of, words_of}

-- ---- pieces

in_front-cons : (b : ℕ) (ps : List (List ℕ)) → (w : Word) × (ws : List Word) × (in_front b ps ≡ w ∷ ws)
in_front-cons b [] = (b ∷ [], [], refl)
in_front-cons b (p ∷ ps) = (b ∷ p, ps, refl)

-- there is a first piece
pub pieces-cons : (s : ℕ) (bs : List ℕ) → (w : Word) × (ws : List Word) × (pieces s bs ≡ w ∷ ws)
pieces-cons s [] = ([], [], refl)
pieces-cons s (b ∷ bs) = elim (b == s) as (λ t. (w : Word) × (ws : List Word) × (cond t ([] ∷ pieces s bs) (in_front b (pieces s bs)) ≡ w ∷ ws)) [ true ↦ ([], pieces s bs, refl) | false ↦ in_front-cons b (pieces s bs) ]

-- a byte in front of pieces that others follow
in_front-append : (b s : ℕ) (bs : List ℕ) (more : List Word) → in_front b (pieces s bs ++ more) ≡ in_front b (pieces s bs) ++ more
in_front-append b s bs more = let c = pieces-cons s bs in rw c.2 refl

-- what stands on the two sides of a separator
pub pieces-append : (s : ℕ) (xs ys : List ℕ) → pieces s (xs ++ s ∷ ys) ≡ pieces s xs ++ pieces s ys
pieces-append s [] ys = (elim (s == s) as (λ t. (s == s) ≡ t → cond t ([] ∷ pieces s ys) (in_front s (pieces s ys)) ≡ [] ∷ pieces s ys) [ true ↦ λ e. refl | false ↦ λ e. absurd (omega (arith, eqb-false s s e)) ]) refl
pieces-append s (x ∷ xs) ys =
    elim (x == s) as (λ t. cond t ([] ∷ pieces s (xs ++ s ∷ ys)) (in_front x (pieces s (xs ++ s ∷ ys))) ≡ cond t ([] ∷ pieces s xs) (in_front x (pieces s xs)) ++ pieces s ys) [
      | true ↦ ap (λ ps. [] ∷ ps) (pieces-append s xs ys)
      | false ↦ ap (in_front x) (pieces-append s xs ys) ∙ in_front-append x s xs (pieces s ys)
    ]

-- bytes that are no separator are one piece
pub pieces-one : (s : ℕ) (w : Word) → AllByRecursion (λ b. b ≢ s) w → pieces s w ≡ w ∷ []
pieces-one s [] h = refl
pieces-one s (b ∷ w) h = rw (ne_eqb b s h.0, pieces-one s w h.1) refl

-- ---- words

-- the words on the two sides of a space
pub words_of-append : (xs ys : List ℕ) → words_of (xs ++ 32 ∷ ys) ≡ words_of xs ++ words_of ys
words_of-append xs ys = ap (filter (λ w. not (is_nil w))) (pieces-append 32 xs ys) ∙ filter-append (λ w. not (is_nil w)) (pieces 32 xs) (pieces 32 ys)

-- bytes without a space are a word
pub words_of-one : (b : ℕ) (w : Word) → AllByRecursion (λ b. b ≢ 32) (b ∷ w) → words_of (b ∷ w) ≡ (b ∷ w) ∷ []
words_of-one b w h = ap (filter (λ w. not (is_nil w))) (pieces-one 32 (b ∷ w) h)

-- spaces in front of words
pub words_of-spaces : (spaces rest : List ℕ) → AllByRecursion (λ b. b ≡ 32) spaces → words_of (spaces ++ rest) ≡ words_of rest
words_of-spaces [] rest h = refl
words_of-spaces (b ∷ spaces) rest h = rw h.0 (words_of-spaces spaces rest h.1)

-- a line has no more words than bytes
in_front-length : (b : ℕ) (ps : List Word) → length (filter (λ w. not (is_nil w)) (in_front b ps)) ≤ suc (length (filter (λ w. not (is_nil w)) ps))
in_front-length b [] = omega arith
in_front-length b ([] ∷ ps) = omega arith
in_front-length b ((c ∷ p) ∷ ps) = omega arith

pub length-words_of : (bs : List ℕ) → length (words_of bs) ≤ length bs
length-words_of [] = omega arith
length-words_of (b ∷ bs) =
    let rest : length (words_of bs) ≤ length bs = length-words_of bs in
    elim (b == 32) as (λ t. length (filter (λ w. not (is_nil w)) (cond t ([] ∷ pieces 32 bs) (in_front b (pieces 32 bs)))) ≤ suc (length bs)) [
      | true ↦ omega arith
      | false ↦ omega (arith, in_front-length b (pieces 32 bs))
    ]

-- ---- lines

-- a line ends at the first LF
pub lines_of-first : (line rest : List ℕ) → AllByRecursion (λ b. b ≢ 10) line → lines_of (line ++ 10 ∷ rest) ≡ line ∷ lines_of rest
lines_of-first [] rest h = refl
lines_of-first (b ∷ line) rest h = rw (ne_eqb b 10 h.0, lines_of-first line rest h.1) refl

-- the last line may lack it
pub lines_of-last : (b : ℕ) (line : List ℕ) → AllByRecursion (λ b. b ≢ 10) (b ∷ line) → lines_of (b ∷ line) ≡ (b ∷ line) ∷ []
lines_of-last b [] h = rw (ne_eqb b 10 h.0) refl
lines_of-last b (c ∷ line) h = rw (ne_eqb b 10 h.0, lines_of-last c line h.1) refl
