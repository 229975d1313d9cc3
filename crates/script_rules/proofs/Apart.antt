-- Lists of words in which none stands twice.
use Rattle.std.proofs.Common.{◌≡◌, true, false, List, [], ◌∷◌, ◌++◌, refl, sym, ap, subst, ◌∙◌}
use Rattle.std.specs.Prelude.{bytes_eq}
use Rattle.std.proofs.lemmas.Bool.{or_parts}
use Rattle.std.proofs.lemmas.List.{append_assoc, append-nil}
use Rattle.std.proofs.lemmas.List.Folds.{list_any-append}
use Rattle.std.proofs.lemmas.Slice.Eq.{bytes_eq-Decides}
use Rattle.dpc_model.specs.Words.{Word}
use Rattle.script_rules.specs.Reasons.{is_among, has_twice}

pub same_word : (v w : Word) → bytes_eq v w ≡ true → v ≡ w
same_word v w e = (bytes_eq-Decides v w).0 e

pub word_is_itself : (w : Word) → bytes_eq w w ≡ true
word_is_itself w = (bytes_eq-Decides w w).1 refl

-- words that differ do so both ways
pub other_word : (v w : Word) → bytes_eq v w ≡ false → bytes_eq w v ≡ false
other_word v w e =
    (elim (bytes_eq w v) as (λ t. bytes_eq w v ≡ t → t ≡ false) [
      | true ↦ λ h. let same : w ≡ v = same_word w v h in let all : bytes_eq v w ≡ true = subst (λ x. bytes_eq v x ≡ true) (sym same) (word_is_itself v) in absurd cc
      | false ↦ λ h. refl
    ]) refl

-- what is among none of two lists, and the other way round
pub among_neither : (w : Word) (a b : List Word) → is_among w (a ++ b) ≡ false → (is_among w a ≡ false) × (is_among w b ≡ false)
among_neither w a b h = or_parts (is_among w a) (is_among w b) (sym (list_any-append (bytes_eq w) a b) ∙ h)

pub among_no : (w : Word) (a b : List Word) → is_among w a ≡ false → is_among w b ≡ false → is_among w (a ++ b) ≡ false
among_no w a b h k = list_any-append (bytes_eq w) a b ∙ rw (h, k) refl

-- a further word that is not among them
pub twice-insert : (w : Word) (a b : List Word) → is_among w (a ++ b) ≡ false → has_twice (a ++ b) ≡ false → has_twice (a ++ w ∷ b) ≡ false
twice-insert w [] b h k = rw (h, k) refl
twice-insert w (x ∷ a) b h k =
    let p = or_parts (is_among x (a ++ b)) (has_twice (a ++ b)) k in
    let q = or_parts (bytes_eq w x) (is_among w (a ++ b)) h in
    let n = among_neither x a b p.0 in
    let behind : is_among x (w ∷ b) ≡ false = rw (other_word w x q.0, n.1) refl in
    let rest : has_twice (a ++ w ∷ b) ≡ false = twice-insert w a b q.1 p.1 in
    rw (among_no x a (w ∷ b) n.0 behind, rest) refl

-- one less
pub twice-remove : (w : Word) (a b : List Word) → has_twice (a ++ w ∷ b) ≡ false → (is_among w (a ++ b) ≡ false) × (has_twice (a ++ b) ≡ false)
twice-remove w [] b h = or_parts (is_among w b) (has_twice b) h
twice-remove w (x ∷ a) b h =
    let p = or_parts (is_among x (a ++ w ∷ b)) (has_twice (a ++ w ∷ b)) h in
    let n = among_neither x a (w ∷ b) p.0 in
    let m = or_parts (bytes_eq x w) (is_among x b) n.1 in
    let r = twice-remove w a b p.1 in
    (rw (other_word x w m.0, r.0) refl, rw (among_no x a b n.0 m.1, r.1) refl)

-- the beginning and the end of such a list
pub twice-first : (a b : List Word) → has_twice (a ++ b) ≡ false → has_twice a ≡ false
twice-first [] b h = refl
twice-first (x ∷ a) b h =
    let p = or_parts (is_among x (a ++ b)) (has_twice (a ++ b)) h in
    rw ((among_neither x a b p.0).0, twice-first a b p.1) refl

pub twice-last : (a b : List Word) → has_twice (a ++ b) ≡ false → has_twice b ≡ false
twice-last [] b h = h
twice-last (x ∷ a) b h = twice-last a b (or_parts (is_among x (a ++ b)) (has_twice (a ++ b)) h).1

-- a word at the end of one of four lists
abbrev pub four : List Word → List Word → List Word → List Word → List Word
four a b c e = a ++ b ++ c ++ e

pub twice-push_1 : (w : Word) (a b c e : List Word) → is_among w (four a b c e) ≡ false → has_twice (four a b c e) ≡ false → has_twice (four (a ++ w ∷ []) b c e) ≡ false
twice-push_1 w a b c e h k =
    let before : four a b c e ≡ a ++ ((b ++ c) ++ e) = ap (λ l. l ++ e) (append_assoc a b c) ∙ append_assoc a (b ++ c) e in
    let after : four (a ++ w ∷ []) b c e ≡ a ++ w ∷ ((b ++ c) ++ e) =
    ap (λ l. (l ++ c) ++ e) (append_assoc a (w ∷ []) b) ∙ ap (λ l. l ++ e) (append_assoc a (w ∷ b) c) ∙ append_assoc a (w ∷ (b ++ c)) e in
    ap has_twice after ∙ twice-insert w a ((b ++ c) ++ e) (ap (is_among w) (sym before) ∙ h) (ap has_twice (sym before) ∙ k)

push_inside : (a b c : List Word) (w : Word) → (a ++ (b ++ w ∷ [])) ++ c ≡ (a ++ b) ++ w ∷ c
push_inside a b c w = ap (λ l. l ++ c) (sym (append_assoc a b (w ∷ []))) ∙ append_assoc (a ++ b) (w ∷ []) c

pub twice-push_2 : (w : Word) (a b c e : List Word) → is_among w (four a b c e) ≡ false → has_twice (four a b c e) ≡ false → has_twice (four a (b ++ w ∷ []) c e) ≡ false
twice-push_2 w a b c e h k =
    let before : four a b c e ≡ (a ++ b) ++ (c ++ e) = append_assoc (a ++ b) c e in
    let after : four a (b ++ w ∷ []) c e ≡ (a ++ b) ++ w ∷ (c ++ e) = ap (λ l. l ++ e) (push_inside a b c w) ∙ append_assoc (a ++ b) (w ∷ c) e in
    ap has_twice after ∙ twice-insert w (a ++ b) (c ++ e) (ap (is_among w) (sym before) ∙ h) (ap has_twice (sym before) ∙ k)

pub twice-push_3 : (w : Word) (a b c e : List Word) → is_among w (four a b c e) ≡ false → has_twice (four a b c e) ≡ false → has_twice (four a b (c ++ w ∷ []) e) ≡ false
twice-push_3 w a b c e h k = ap has_twice (push_inside (a ++ b) c e w) ∙ twice-insert w ((a ++ b) ++ c) e h k

pub twice-push_4 : (w : Word) (a b c e : List Word) → is_among w (four a b c e) ≡ false → has_twice (four a b c e) ≡ false → has_twice (four a b c (e ++ w ∷ [])) ≡ false
twice-push_4 w a b c e h k =
    let whole : four a b c e ++ [] ≡ four a b c e = append-nil (four a b c e) in
    ap has_twice (sym (append_assoc ((a ++ b) ++ c) e (w ∷ [])))
    ∙ twice-insert w (four a b c e) [] (ap (is_among w) whole ∙ h) (ap has_twice whole ∙ k)
