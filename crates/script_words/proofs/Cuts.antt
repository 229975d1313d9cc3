-- Where code cuts a text and a line.
use Rattle.std.proofs.Common.{◌≡◌, ◌≢◌, ℕ, zero, suc, ◌+◌, ◌-◌, ◌≤◌, ◌<◌, List, [], ◌∷◌, ◌++◌, length, get_or, take, drop, All, Some, None, refl, sym, ap, ◌∙◌, add-one, arith, subst}
use Rattle.std.specs.List.{AllByRecursion}
use Rattle.std.proofs.Math.Seq.{drop-cons}
use Rattle.std.proofs.lemmas.Bool.{eq-eqb, eqb-true}
use Rattle.std.proofs.lemmas.List.{append-nil, get_or-take, get_or-drop, take-append-drop, take_rest, take_more, length-take, length-drop}
use Rattle.std.proofs.lemmas.List.Elements.{recursion_from_All, All-from_get_or}
use Rattle.memchr.specs.Find.{IsFirstByte, IsLastByte, is_byte}
use Rattle.script_rules.specs.Lines.{lines_of, words_of}
use Rattle.script_words.specs.Ends.{BeginsWord, EndsInWord}
use Rattle.script_words.proofs.Splitting.{words_of-append, words_of-one, words_of-spaces, lines_of-first, lines_of-last}

-- ---- lines

-- no LF stands before the first one
before : (text : List ℕ) (k : ℕ) → IsFirstByte (is_byte 10) text (Some k) → AllByRecursion (λ b. b ≢ 10) (take k text)
before text k h =
    recursion_from_All (λ b. b ≢ 10) (take k text) (All-from_get_or (λ b. b ≢ 10) (take k text) 0 (λ i lt e.
    let low : i < k = omega (arith, length-take k text) in
    h.0.before i (omega arith) low (eq-eqb (get_or text i 0) 10 (sym (get_or-take k text i 0 low) ∙ e))))

-- a text that has a LF
pub line_before : (text : List ℕ) (k : ℕ) → IsFirstByte (is_byte 10) text (Some k) → lines_of text ≡ take k text ∷ lines_of (take (length text - (k + 1)) (drop (k + 1) text))
line_before text k h =
    let is : get_or text k 0 ≡ 10 = eqb-true (get_or text k 0) 10 h.1 in
    let more : text ≡ take k text ++ 10 ∷ drop (suc k) text = sym (take-append-drop k text) ∙ ap (λ l. take k text ++ l) (drop-cons text k 0 h.0.high ∙ ap (λ b. b ∷ drop (suc k) text) is) in
    let rest : take (length text - (k + 1)) (drop (k + 1) text) ≡ drop (suc k) text = take_rest text (k + 1) ∙ ap (λ n. drop n text) (add-one k) in
    ap lines_of more ∙ lines_of-first (take k text) (drop (suc k) text) (before text k h) ∙ ap (λ l. take k text ∷ lines_of l) (sym rest)

-- a text that has none
pub line_alone : (text : List ℕ) → text ≢ [] → IsFirstByte (is_byte 10) text None → lines_of text ≡ text ∷ []
line_alone [] some h = absurd (some refl)
line_alone (b ∷ text) some h =
    lines_of-last b text (recursion_from_All (λ b. b ≢ 10) (b ∷ text) (All-from_get_or (λ b. b ≢ 10) (b ∷ text) 0 (λ i lt e. h i (omega arith) lt (eq-eqb (get_or (b ∷ text) i 0) 10 e))))

-- ---- words

-- what stands behind a word: nothing, or a space and more
abbrev EndsWord : List ℕ → Type 0
EndsWord [] = Unit {0}
EndsWord (b ∷ bs) = b ≡ 32

ends_word : (line : List ℕ) (n : ℕ) → (n < length line → get_or line n 0 ≡ 32) → EndsWord (drop n line)
ends_word [] zero h = tt
ends_word [] (suc n) h = tt
ends_word (b ∷ line) zero h = h (omega arith)
ends_word (b ∷ line) (suc n) h = ends_word line n (λ lt. h (omega arith))

-- a word, and what stands behind it
word_then : (front rest : List ℕ) → AllByRecursion (λ b. b ≢ 32) front → EndsWord rest → BeginsWord (front ++ rest) → words_of (front ++ rest) ≡ front ∷ words_of rest
word_then [] [] h e w = absurd w
word_then [] (c ∷ rest) h e w = absurd (w e)
word_then (b ∷ front) [] h e w = ap words_of (append-nil (b ∷ front)) ∙ words_of-one b front h
word_then (b ∷ front) (c ∷ rest) h e w = rw e (words_of-append (b ∷ front) rest ∙ ap (λ ws. ws ++ words_of rest) (words_of-one b front h))

-- a line that begins with a word, cut at its first space
pub word_first : (line : List ℕ) (n : ℕ) → All (λ b. b ≢ 32) (take n line) → (n < length line → get_or line n 0 ≡ 32) → BeginsWord line → words_of line ≡ take n line ∷ words_of (drop n line)
word_first line n h there w =
    let whole = take-append-drop n line in
    ap words_of (sym whole)
    ∙ word_then (take n line) (drop n line) (recursion_from_All (λ b. b ≢ 32) (take n line) h) (ends_word line n there) (subst BeginsWord (sym whole) w)

-- a line without its first spaces
pub spaces_first : (line : List ℕ) (n : ℕ) → All (λ b. b ≡ 32) (take n line) → words_of (drop n line) ≡ words_of line
spaces_first line n h =
    sym (words_of-spaces (take n line) (drop n line) (recursion_from_All (λ b. b ≡ 32) (take n line) h)) ∙ ap words_of (take-append-drop n line)

-- a line without a last space
pub space_last : (line : List ℕ) (n : ℕ) → n < length line → get_or line n 0 ≡ 32 → words_of (take n line) ≡ words_of (take (n + 1) line)
space_last line n lt is =
    sym (ap words_of (take_more line n 0 lt ∙ ap (λ b. take n line ++ b ∷ []) is) ∙ words_of-append (take n line) [] ∙ append-nil (words_of (take n line)))

ends-snoc : (xs : List ℕ) (b : ℕ) → b ≢ 32 → EndsInWord (xs ++ b ∷ [])
ends-snoc [] b h = h
ends-snoc (x ∷ []) b h = h
ends-snoc (x ∷ y ∷ xs) b h = ends-snoc (y ∷ xs) b h

no_space_ends : (xs : List ℕ) → EndsInWord (xs ++ 32 ∷ []) → ⊥
no_space_ends [] h = h refl
no_space_ends (x ∷ []) h = h refl
no_space_ends (x ∷ y ∷ xs) h = no_space_ends (y ∷ xs) h

-- a line that ends in another byte
pub word_ends : (line : List ℕ) (n : ℕ) → n < length line → get_or line n 0 ≢ 32 → EndsInWord (take (n + 1) line)
word_ends line n lt other = rw (take_more line n 0 lt) (ends-snoc (take n line) (get_or line n 0) other)

-- a line cut behind its last byte that is no space, or behind none
pub ends_there : (line : List ℕ) (end : ℕ) → end ≤ length line → 0 < end → get_or line (end - 1) 0 ≢ 32 → EndsInWord (take end line)
ends_there line end le some other = let one : (end - 1) + 1 ≡ end = omega arith in subst (λ n. EndsInWord (take n line)) one (word_ends line (end - 1) (omega arith) other)

pub ends_nowhere : (line : List ℕ) (end : ℕ) → end ≤ 0 → take end line ≢ [] → EndsInWord (take end line)
ends_nowhere line zero le some = absurd (some refl)
ends_nowhere line (suc end) le some = absurd (omega arith)

-- one word behind a space
word_behind : (before word : List ℕ) → EndsInWord (before ++ 32 ∷ word) → AllByRecursion (λ b. b ≢ 32) word → words_of (before ++ 32 ∷ word) ≡ words_of before ++ word ∷ []
word_behind before [] ends h = absurd (no_space_ends before ends)
word_behind before (b ∷ word) ends h = words_of-append before (b ∷ word) ∙ ap (λ ws. words_of before ++ ws) (words_of-one b word h)

-- a line that ends in a word, cut at its last space
pub word_last : (line : List ℕ) (k : ℕ) → IsLastByte (is_byte 32) line (Some k) → EndsInWord line → words_of line ≡ words_of (take k line) ++ take (length line - (k + 1)) (drop (k + 1) line) ∷ []
word_last line k h ends =
    let is : get_or line k 0 ≡ 32 = eqb-true (get_or line k 0) 32 h.1 in
    let rest : take (length line - (k + 1)) (drop (k + 1) line) ≡ drop (suc k) line = take_rest line (k + 1) ∙ ap (λ n. drop n line) (add-one k) in
    let more : line ≡ take k line ++ 32 ∷ drop (suc k) line = sym (take-append-drop k line) ∙ ap (λ l. take k line ++ l) (drop-cons line k 0 h.0.high ∙ ap (λ b. b ∷ drop (suc k) line) is) in
    ap words_of more ∙ word_behind (take k line) (drop (suc k) line) (subst EndsInWord more ends)
    (recursion_from_All (λ b. b ≢ 32) (drop (suc k) line) (All-from_get_or (λ b. b ≢ 32) (drop (suc k) line) 0 (λ i lt e.
    let in_line : suc k + i < length line = omega (arith, length-drop (suc k) line) in
    h.0.after (suc k + i) (omega arith) in_line (eq-eqb (get_or line (suc k + i) 0) 32 (sym (get_or-drop (suc k) line i 0) ∙ e)))))
    ∙ ap (λ w. words_of (take k line) ++ w ∷ []) (sym rest)

-- a line that is one word
pub word_alone : (line : List ℕ) → IsLastByte (is_byte 32) line None → EndsInWord line → words_of line ≡ line ∷ []
word_alone [] h ends = absurd ends
word_alone (b ∷ line) h ends =
    words_of-one b line (recursion_from_All (λ b. b ≢ 32) (b ∷ line) (All-from_get_or (λ b. b ≢ 32) (b ∷ line) 0 (λ i lt e. h i (omega arith) lt (eq-eqb (get_or (b ∷ line) i 0) 32 e))))
