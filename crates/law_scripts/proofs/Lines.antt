-- Lines of plain words, and texts of such lines, are taken apart as they were put together.
use Rattle.std.proofs.Common.{◌≡◌, ℕ, ◌≤◌, Bool, true, false, List, [], ◌∷◌, ◌++◌, map, refl, ap, ◌∙◌, arith}
use Rattle.std.specs.Prelude.{not, ◌&&◌, ◌==◌, nat_le, filter}
use Rattle.std.proofs.lemmas.Bool.{and_parts, not-true, ne_eqb, leb-true, le-leb, eq-eqb}
use Rattle.std.proofs.lemmas.List.{append_assoc}
use Rattle.dpc_lists.specs.Lists.{list_all, list_any, is_nil}
use Rattle.dpc_model.specs.Words.{Word, spaced, text_of}
use Rattle.script_rules.specs.Lines.{pieces, lines_of, words_of, is_foreign_byte, begins_with_hash, is_skipped}

-- ---- plain words

-- neither a space nor LF
abbrev pub is_plain_byte : ℕ → Bool
is_plain_byte b = nat_le 33 b && nat_le b 126

-- not empty, and of plain bytes
abbrev pub is_plain : Word → Bool
is_plain w = not (is_nil w) && list_all is_plain_byte w

-- a byte of a line
abbrev pub is_line_byte : ℕ → Bool
is_line_byte b = nat_le 32 b && nat_le b 126

-- ---- words of a line

-- bytes none of which is a separator
abbrev pub NoneIs : ℕ → (ℕ → Bool) → Type 0
NoneIs n p = (b : ℕ) → p b ≡ true → (b == n) ≡ false

pub pieces-first : (n : ℕ) (p : ℕ → Bool) (w rest : List ℕ) → NoneIs n p → list_all p w ≡ true → pieces n (w ++ n ∷ rest) ≡ w ∷ pieces n rest
pieces-first n p [] rest other h = rw (eq-eqb n n refl) refl
pieces-first n p (b ∷ w) rest other h =
    let q = and_parts (p b) (list_all p w) h in
    rw (other b q.0, pieces-first n p w rest other q.1) refl

pub pieces-last : (n : ℕ) (p : ℕ → Bool) (w : List ℕ) → NoneIs n p → list_all p w ≡ true → pieces n w ≡ w ∷ []
pieces-last n p [] other h = refl
pieces-last n p (b ∷ w) other h =
    let q = and_parts (p b) (list_all p w) h in
    rw (other b q.0, pieces-last n p w other q.1) refl

no_space : NoneIs 32 is_plain_byte
no_space b h =
    let p = and_parts (nat_le 33 b) (nat_le b 126) h in
    let least : 33 ≤ b = leb-true 33 b p.0 in
    ne_eqb b 32 (λ e. omega (arith, least, e))

bytes_of : (w : Word) → is_plain w ≡ true → list_all is_plain_byte w ≡ true
bytes_of w h = (and_parts (not (is_nil w)) (list_all is_plain_byte w) h).1

pub spaced_pieces : (w : Word) (words : List Word) → list_all is_plain (w ∷ words) ≡ true → pieces 32 (spaced (w ∷ words)) ≡ w ∷ words
spaced_pieces w [] h = pieces-last 32 is_plain_byte w no_space (bytes_of w (and_parts (is_plain w) true h).0)
spaced_pieces w (v ∷ words) h =
    let p = and_parts (is_plain w) (list_all is_plain (v ∷ words)) h in
    pieces-first 32 is_plain_byte w (spaced (v ∷ words)) no_space (bytes_of w p.0) ∙ ap (λ l. w ∷ l) (spaced_pieces v words p.1)

none_empty : (words : List Word) → list_all is_plain words ≡ true → filter (λ w. not (is_nil w)) words ≡ words
none_empty [] h = refl
none_empty (w ∷ words) h =
    let p = and_parts (is_plain w) (list_all is_plain words) h in
    let some : not (is_nil w) ≡ true = (and_parts (not (is_nil w)) (list_all is_plain_byte w) p.0).0 in
    rw (some, none_empty words p.1) refl

pub words_of-spaced : (words : List Word) → list_all is_plain words ≡ true → words_of (spaced words) ≡ words
words_of-spaced [] h = refl
words_of-spaced (w ∷ words) h = ap (filter (λ w. not (is_nil w))) (spaced_pieces w words h) ∙ none_empty (w ∷ words) h

-- ---- bytes of a line

wider : (w : List ℕ) → list_all is_plain_byte w ≡ true → list_all is_line_byte w ≡ true
wider [] h = refl
wider (b ∷ w) h =
    let p = and_parts (is_plain_byte b) (list_all is_plain_byte w) h in
    let q = and_parts (nat_le 33 b) (nat_le b 126) p.0 in
    let least : 33 ≤ b = leb-true 33 b q.0 in
    rw (le-leb 32 b (omega (arith, least)), q.1, wider w p.1) refl

all_line_bytes : (w rest : List ℕ) → list_all is_line_byte w ≡ true → list_all is_line_byte rest ≡ true → list_all is_line_byte (w ++ rest) ≡ true
all_line_bytes [] rest h k = k
all_line_bytes (b ∷ w) rest h k =
    let p = and_parts (is_line_byte b) (list_all is_line_byte w) h in
    rw (p.0, all_line_bytes w rest p.1 k) refl

spaced_bytes : (words : List Word) → list_all is_plain words ≡ true → list_all is_line_byte (spaced words) ≡ true
spaced_bytes [] h = refl
spaced_bytes (w ∷ []) h = wider w (bytes_of w (and_parts (is_plain w) true h).0)
spaced_bytes (w ∷ v ∷ words) h =
    let p = and_parts (is_plain w) (list_all is_plain (v ∷ words)) h in
    all_line_bytes w (32 ∷ spaced (v ∷ words)) (wider w (bytes_of w p.0)) (spaced_bytes (v ∷ words) p.1)

none_foreign : (line : List ℕ) → list_all is_line_byte line ≡ true → list_any is_foreign_byte line ≡ false
none_foreign [] h = refl
none_foreign (b ∷ line) h =
    let p = and_parts (is_line_byte b) (list_all is_line_byte line) h in
    rw (p.0, none_foreign line p.1) refl

pub no_foreign_byte : (words : List Word) → list_all is_plain words ≡ true → list_any is_foreign_byte (spaced words) ≡ false
no_foreign_byte words h = none_foreign (spaced words) (spaced_bytes words h)

-- ---- lines of a text

lines-first : (line rest : List ℕ) → list_all is_line_byte line ≡ true → lines_of (line ++ 10 ∷ rest) ≡ line ∷ lines_of rest
lines-first [] rest h = refl
lines-first (b ∷ line) rest h =
    let p = and_parts (is_line_byte b) (list_all is_line_byte line) h in
    let q = and_parts (nat_le 32 b) (nat_le b 126) p.0 in
    let least : 32 ≤ b = leb-true 32 b q.0 in
    let other : (b == 10) ≡ false = ne_eqb b 10 (λ e. omega (arith, least, e)) in
    rw (other, lines-first line rest p.1) refl

pub lines_of-text : (lines : List (List Word)) → list_all (list_all is_plain) lines ≡ true → lines_of (text_of lines) ≡ map spaced lines
lines_of-text [] h = refl
lines_of-text (words ∷ lines) h =
    let p = and_parts (list_all is_plain words) (list_all (list_all is_plain) lines) h in
    ap lines_of (append_assoc (spaced words) (10 ∷ []) (text_of lines)) ∙ lines-first (spaced words) (text_of lines) (spaced_bytes words p.0)
    ∙ ap (λ l. spaced words ∷ l) (lines_of-text lines p.1)

pub words_of-lines : (lines : List (List Word)) → list_all (list_all is_plain) lines ≡ true → map words_of (map spaced lines) ≡ lines
words_of-lines [] h = refl
words_of-lines (words ∷ lines) h =
    let p = and_parts (list_all is_plain words) (list_all (list_all is_plain) lines) h in
    rw (words_of-spaced words p.0, words_of-lines lines p.1) refl

-- ---- no line is skipped

-- a plain word that makes no comment
abbrev pub is_first : Word → Bool
is_first w = is_plain w && not (begins_with_hash w)

hash_of_first : (w : Word) (words : List Word) → is_first w ≡ true → begins_with_hash (spaced (w ∷ words)) ≡ false
hash_of_first [] words h = absurd cc
hash_of_first (b ∷ w) [] h = not-true (b == 35) (and_parts (is_plain (b ∷ w)) (not (b == 35)) h).1
hash_of_first (b ∷ w) (v ∷ words) h = not-true (b == 35) (and_parts (is_plain (b ∷ w)) (not (b == 35)) h).1

pub not_skipped : (w : Word) (words : List Word) → is_first w ≡ true → list_all is_plain words ≡ true → is_skipped (spaced (w ∷ words)) ≡ false
not_skipped w words h k =
    let plain : is_plain w ≡ true = (and_parts (is_plain w) (not (begins_with_hash w)) h).0 in
    let all : list_all is_plain (w ∷ words) ≡ true = rw (plain, k) refl in
    rw (hash_of_first w words h, words_of-spaced (w ∷ words) all) refl
