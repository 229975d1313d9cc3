-- Words that are taken from a list of words one by one.
use Rattle.std.proofs.Common.{◌≡◌, ℕ, zero, suc, ◌+◌, ◌<◌, false, List, [], ◌∷◌, drop, MatchOption, Option, Some, None, Bor, refl, sym, ap, ◌∙◌, arith}
use Rattle.std.specs.Option.{unwrap_or, is_some}
use Rattle.std.proofs.lemmas.List.{drop_all}
use Rattle.dpc_lists.specs.Lists.{nth}
use Rattle.dpc_model.specs.Words.{Word}

-- what holds where a step gave nothing
pub if_none : {A : Type 0} (o : Option A) (P : Type 0) (Q : A → Type 0) → is_some o ≡ false → MatchOption o P Q → P
if_none None P Q e h = h
if_none (Some x) P Q e h = absurd cc

pub drop-one-more : {X : Type 0} (xs : List X) (i : ℕ) → drop 1 (drop i xs) ≡ drop (i + 1) xs
drop-one-more [] zero = refl
drop-one-more [] (suc i) = sym (drop_all (suc i + 1) [] (omega arith))
drop-one-more (x ∷ xs) zero = refl
drop-one-more (x ∷ xs) (suc i) = let same : suc (i + 1) ≡ suc i + 1 = omega arith in drop-one-more xs i ∙ ap (λ n. drop n (x ∷ xs)) same

nil_past : {X : Type 0} (xs : List X) (i n : ℕ) → i < n → drop i xs ≡ [] → drop n xs ≡ []
nil_past [] i n lt e = drop_all n [] (omega arith)
nil_past (x ∷ xs) zero n lt e = absurd cc
nil_past (x ∷ xs) (suc i) zero lt e = absurd (omega arith)
nil_past (x ∷ xs) (suc i) (suc n) lt e = nil_past xs i n (omega arith) e

-- nothing is left behind the last one
pub all_dropped : {X : Type 0} (xs old new : List X) (i n : ℕ) → i < n → old ≡ drop i xs → old ≡ [] → new ≡ drop 1 old → new ≡ drop n xs
all_dropped xs old new i n lt at none more = more ∙ ap (drop 1) none ∙ sym (nil_past xs i n lt (sym at ∙ none))

pub nth-drop : {X : Type 0} (d : X) (xs : List X) (i : ℕ) → nth d (drop i xs) 0 ≡ nth d xs i
nth-drop d [] zero = refl
nth-drop d [] (suc i) = refl
nth-drop d (x ∷ xs) zero = refl
nth-drop d (x ∷ xs) (suc i) = nth-drop d xs i

-- the word at a place
pub word_is : (ws left new : List Word) (i : ℕ) (o : Option (Bor Word)) (none : Bor Word) → left ≡ drop i ws → MatchOption o (left ≡ []) (λ w. left ≡ w.now ∷ new) → none.now ≡ [] → (unwrap_or o none).now ≡ nth [] ws i
word_is ws left new i None none at h e = e ∙ sym (ap (λ l. nth [] l 0) (sym at ∙ h)) ∙ nth-drop [] ws i
word_is ws left new i (Some w) none at h e = sym (ap (λ l. nth [] l 0) (sym at ∙ h)) ∙ nth-drop [] ws i
