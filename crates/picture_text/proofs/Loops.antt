-- Lists that grow by a range of numbers.
use Rattle.std.proofs.Common.{◌≡◌, ℕ, ◌+◌, ◌<◌, List, [], ◌∷◌, ◌++◌, map, length, get_or, refl, sym, ap, ◌∙◌, arith, append_assoc, unwrap_or}
use Rattle.std.specs.Prelude.{flat_map}
use Rattle.std.proofs.lemmas.List.{map-id, flat_map_more, append-nil}
use Rattle.std.proofs.lemmas.Option.{slice_get_read}
use Rattle.std.proofs.lemmas.List.FromFn.{map-range_with_len_more}
use Rattle.dpc_lists.specs.Lists.{nth, range_with_len}
use Rattle.dpc_model.specs.Words.{Word, spaced, line_of, text_of}
use Rattle.line_writer.proofs.Lines.{one_more_line}

pub range-more : (i : ℕ) → range_with_len 0 (i + 1) ≡ range_with_len 0 i ++ i ∷ []
range-more i =
    let same : 0 + i ≡ i = omega arith in
    sym (map-id (range_with_len 0 (i + 1))) ∙ map-range_with_len_more (λ (k : ℕ). k) 0 i i same ∙ ap (λ (is : List ℕ). is ++ i ∷ []) (map-id (range_with_len 0 i))

-- one element more
pub map_grows : {X : Type 0} (f : ℕ → X) (i : ℕ) (start old new : List X) → old ≡ start ++ map f (range_with_len 0 i) → new ≡ old ++ f i ∷ [] → new ≡ start ++ map f (range_with_len 0 (i + 1))
map_grows {X} f i start old new was is =
    let same : 0 + i ≡ i = omega arith in
    is ∙ ap (λ (xs : List X). xs ++ f i ∷ []) was ∙ append_assoc start (map f (range_with_len 0 i)) (f i ∷ []) ∙ ap (λ (xs : List X). start ++ xs) (sym (map-range_with_len_more f 0 i i same))

-- a list more
pub flat_grows : {X : Type 0} (f : ℕ → List X) (i : ℕ) (start old new : List X) → old ≡ start ++ flat_map f (range_with_len 0 i) → new ≡ old ++ f i → new ≡ start ++ flat_map f (range_with_len 0 (i + 1))
flat_grows {X} f i start old new was is =
    is ∙ ap (λ (xs : List X). xs ++ f i) was ∙ flat_map_more f start (range_with_len 0 i) i ∙ ap (λ (is : List ℕ). start ++ flat_map f is) (sym (range-more i))

-- a line more
pub lines_grow : (f : ℕ → List Word) (i : ℕ) (start old new : List ℕ) → old ≡ start ++ text_of (map f (range_with_len 0 i)) → new ≡ old ++ line_of (f i) → new ≡ start ++ text_of (map f (range_with_len 0 (i + 1)))
lines_grow f i start old new was is =
    let same : 0 + i ≡ i = omega arith in
    let lines = map f (range_with_len 0 i) in
    is ∙ ap (λ (t : List ℕ). t ++ line_of (f i)) was ∙ sym (append_assoc (start ++ text_of lines) (spaced (f i)) (10 ∷ [])) ∙ one_more_line start lines (f i)
    ∙ ap (λ (ls : List (List Word)). start ++ text_of ls) (sym (map-range_with_len_more f 0 i i same))

-- ---- parts of a text

pub three_parts : (old a b : List ℕ) → ((old ++ a) ++ b) ++ 10 ∷ [] ≡ old ++ ((a ++ b) ++ 10 ∷ [])
three_parts old a b = ap (λ (t : List ℕ). t ++ 10 ∷ []) (append_assoc old a b) ∙ append_assoc old (a ++ b) (10 ∷ [])

pub five_parts : (old a b c d e : List ℕ) → ((((old ++ a) ++ b) ++ c) ++ d) ++ e ≡ old ++ (a ++ (b ++ (c ++ (d ++ (e ++ [])))))
five_parts old a b c d e = simp (append_assoc, append-nil)

-- ---- an element at its place

pub nth_read : {X : Type 0} (d x : X) (xs : List X) (i : ℕ) → i < length xs → x ≡ get_or xs i x → nth d xs i ≡ x
nth_read d x xs i low is = ap (λ o. unwrap_or o d) (slice_get_read xs (length xs) i x refl low is)

-- the whole text, put together part by part
pub six_parts : (title panels marks sums legend a b c d e f : List ℕ) → a ≡ title → b ≡ a ++ panels → c ≡ b ++ 10 ∷ [] → d ≡ c ++ marks → e ≡ d ++ sums → f ≡ e ++ legend →
    f ≡ ((((title ++ panels) ++ 10 ∷ []) ++ marks) ++ sums) ++ legend
six_parts title panels marks sums legend a b c d e f p q r s t u =
    u ∙ ap (λ (x : List ℕ). x ++ legend) (t ∙ ap (λ (x : List ℕ). x ++ sums) (s ∙ ap (λ (x : List ℕ). x ++ marks) (r ∙ ap (λ (x : List ℕ). x ++ 10 ∷ []) (q ∙ ap (λ (x : List ℕ). x ++ panels) p))))
