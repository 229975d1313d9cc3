-- Words that can stand at their places, and leave none of these over.
use Rattle.std.proofs.Common.{◌≡◌, Bool, true, false, List, [], ◌∷◌, ◌++◌, refl}
use Rattle.dpc_lists.specs.Lists.{list_all, list_any}
use Rattle.dpc_model.specs.Words.{Word}
use Rattle.script_rules.specs.declared.places.Sort.{Sort}
use Rattle.script_rules.specs.declared.places.Place.{Place}
use Rattle.script_rules.specs.Places.{opened, placed, leaves_over, is_foreign, is_no_number, is_out_of_range}
use Rattle.law_scripts.proofs.Lines.{is_plain}

-- a plain word that may stand at its place, with a number in its range where one must stand
pub record Stands (sort : Sort) (w : Word) : Type 0 where
  pub plain : is_plain w ≡ true
  pub sorted : is_foreign sort w ≡ false
  pub number : is_no_number sort w ≡ false
  pub range : is_out_of_range sort w ≡ false

-- each word stands at its place, and neither a word nor a place is left over
abbrev pub Fits : List Place → List Word → Type 0
Fits places [] = list_any (λ (p : Place). p.needed) places ≡ false
Fits [] (w ∷ ws) = ⊥
Fits (p ∷ places) (w ∷ ws) = Stands p.sort w × Fits (opened p.sort w ws ++ places) ws

pub nothing_over : (places : List Place) (ws : List Word) → Fits places ws → leaves_over places ws ≡ false
nothing_over places [] h = h
nothing_over [] (w ∷ ws) h = absurd h
nothing_over (p ∷ places) (w ∷ ws) h = nothing_over (opened p.sort w ws ++ places) ws h.1

-- a rule that each word keeps at its place
pub none_breaks : (breaks : Sort → Word → Bool) → ((sort : Sort) (w : Word) → Stands sort w → breaks sort w ≡ false) → (places : List Place) (ws : List Word) → Fits places ws →
    list_any (λ (x : Sort × Word). breaks x.0 x.1) (placed places ws) ≡ false
none_breaks breaks rule places [] h = refl
none_breaks breaks rule [] (w ∷ ws) h = absurd h
none_breaks breaks rule (p ∷ places) (w ∷ ws) h = rw (rule p.sort w h.0, none_breaks breaks rule (opened p.sort w ws ++ places) ws h.1) refl

pub all_plain : (places : List Place) (ws : List Word) → Fits places ws → list_all is_plain ws ≡ true
all_plain places [] h = refl
all_plain [] (w ∷ ws) h = absurd h
all_plain (p ∷ places) (w ∷ ws) h = rw (h.0.plain, all_plain (opened p.sort w ws ++ places) ws h.1) refl
