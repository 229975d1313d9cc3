-- Elements at their places: the last one, those of a first part, and none past the end.
use Rattle.std.proofs.Common.{◌≡◌, ℕ, zero, suc, ◌<◌, false, List, [], ◌∷◌, ◌++◌, length, Some, refl, ap, arith}
use Rattle.std.specs.Prelude.{bytes_eq}
use Rattle.std.proofs.lemmas.Bool.{or_parts}
use Rattle.dpc_lists.specs.Lists.{nth, changed}
use Rattle.dpc_model.specs.Words.{Word}
use Rattle.script_rules.specs.Drafts.{place_of_name}
use Rattle.script_rules.specs.Reasons.{is_among}
use Rattle.script_rules.proofs.Apart.{word_is_itself}

-- a word behind others that differ is found at its place
pub place-last : (w : Word) (ws : List Word) → is_among w ws ≡ false → place_of_name w (ws ++ w ∷ []) ≡ Some (length ws)
place-last w [] h = rw (word_is_itself w) refl
place-last w (x ∷ ws) h =
    let p = or_parts (bytes_eq w x) (is_among w ws) h in
    rw (p.0, place-last w ws p.1) refl

pub changed-last : {X : Type 0} (f : X → X) (xs : List X) (x : X) → changed (length xs) f (xs ++ x ∷ []) ≡ xs ++ f x ∷ []
changed-last f [] x = refl
changed-last f (y ∷ xs) x = ap (λ l. y ∷ l) (changed-last f xs x)

pub nth-last : {X : Type 0} (d : X) (xs : List X) (x : X) → nth d (xs ++ x ∷ []) (length xs) ≡ x
nth-last d [] x = refl
nth-last d (y ∷ xs) x = nth-last d xs x

pub nth-first : {X : Type 0} (d : X) (xs ys : List X) (i : ℕ) → i < length xs → nth d (xs ++ ys) i ≡ nth d xs i
nth-first d [] ys i low = absurd (omega (arith, low))
nth-first d (x ∷ xs) ys zero low = refl
nth-first d (x ∷ xs) ys (suc i) low = nth-first d xs ys i (omega (arith, low))
