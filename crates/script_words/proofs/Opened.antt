-- The places that a word opens, and the words at open places.
use Rattle.std.proofs.Common.{◌≡◌, ℕ, zero, suc, ◌+◌, ◌<◌, Bool, false, ◌||◌, ◌⊎◌, inl, inr, drop, List, [], ◌∷◌, ◌++◌, length, map, refl, sym, ap, ◌∙◌, arith}
use Rattle.std.specs.Prelude.{replicate}
use Rattle.std.proofs.lemmas.List.{append_assoc, replicate-append-replicate}
use Rattle.dpc_lists.specs.Lists.{list_any}
use Rattle.dpc_model.specs.Words.{Word}
use Rattle.script_rules.specs.Spelling.{is_numeral}
use Rattle.script_rules.specs.Places.{may, opened}
use Rattle.script_rules.specs.declared.places.Place.{Place}
use Rattle.script_rules.specs.declared.places.Sort.TheVariants as sort
use Rattle.script_words.specs.Scans.{repeated_place, open_places}
use Rattle.script_words.specs.declared.seen.Repeated.{Repeated}
use Rattle.script_words.specs.declared.scans.Open.{Open}

replicate-length : {X Y : Type 0} (x : X) (ys : List Y) → replicate (length ys) x ≡ map (λ _. x) ys
replicate-length x [] = refl
replicate-length x (y ∷ ys) = ap (λ xs. x ∷ xs) (replicate-length x ys)

-- behind a word at COUNT that is no number each word has a place, whatever it is
pub opens_anything : (w : Word) (behind : List Word) (n : ℕ) → is_numeral w ≡ false → n ≡ length behind → replicate n (may sort.Anything) ≡ opened sort.Count w behind
opens_anything w behind n other is = ap (λ n. replicate n (may sort.Anything)) is ∙ replicate-length (may sort.Anything) behind ∙ rw other refl

-- ---- places that are open

abbrev needs : Place → Bool
needs p = p.needed

-- places before those that are open already
pub opens_more : (old count : ℕ) (r q : Repeated) (places : List Place) → 0 < count → (old ≡ 0) ⊎ ((count ≡ 0) ⊎ (r ≡ q)) → replicate (old + count) (repeated_place r) ++ places ≡ replicate count (repeated_place r) ++ (replicate old (repeated_place q) ++ places)
opens_more old count r q places some (inl none) = let sum : old + count ≡ count = omega arith in rw (sum, none) refl
opens_more old count r q places some (inr (inl none)) = absurd (omega arith)
opens_more old count r q places some (inr (inr same)) =
    let sum : old + count ≡ count + old = omega arith in
    ap (λ n. replicate n (repeated_place r) ++ places) sum
    ∙ ap (λ ps. ps ++ places) (sym (replicate-append-replicate count old (repeated_place r)))
    ∙ append_assoc (replicate count (repeated_place r)) (replicate old (repeated_place r)) places
    ∙ ap (λ x. replicate count (repeated_place r) ++ (replicate old (repeated_place x) ++ places)) same

none_needed : (n : ℕ) (p : Place) (places : List Place) → p.needed ≡ false → list_any needs places ≡ list_any needs (replicate n p ++ places)
none_needed zero p places h = refl
none_needed (suc n) p places h = none_needed n p places h ∙ ap (λ t. t || list_any needs (replicate n p ++ places)) (sym h)

-- no word must stand at the places that words opened
pub needs_none : (places : List Place) (o : Open) → (o.count ≡ 0) ⊎ ((repeated_place o.repeated).needed ≡ false) → list_any needs (drop o.next places) ≡ list_any needs (open_places places o)
needs_none places o (inl none) = rw none refl
needs_none places o (inr h) = none_needed o.count (repeated_place o.repeated) (drop o.next places) h
