-- What the tests of a line's words say of each word at its place.
use Rattle.std.proofs.Common.{◌≡◌, ℕ, ◌^◌, ◌<◌, Bool, false, List, [], ◌∷◌, ◌++◌, arith}
use Rattle.std.specs.Prelude.{not}
use Rattle.std.specs.Fmt.{decimal}
use Rattle.std.proofs.lemmas.Bool.{or_parts, not-false}
use Rattle.dpc_lists.specs.Lists.{list_any}
use Rattle.dpc_model.specs.Words.{Word}
use Rattle.script_rules.specs.declared.places.Sort.{Sort}
use Rattle.script_rules.specs.declared.places.Sort.TheVariants.{Range}
use Rattle.script_rules.specs.declared.places.Place.{Place}
use Rattle.script_rules.specs.Spelling.{is_numeral, number}
use Rattle.script_rules.specs.Places.{opened, placed, leaves_over, is_foreign, is_no_number, is_out_of_range, is_between}
use Rattle.script_rules.proofs.Numerals.{numeral_is}
use Rattle.script_rules.proofs.Ranges.{between}

-- a word may stand at its place, with a number in its range where one must stand
pub record Keeps (sort : Sort) (w : Word) : Type 0 where
  pub sorted : is_foreign sort w ≡ false
  pub number : is_no_number sort w ≡ false
  pub range : is_out_of_range sort w ≡ false

-- each word keeps its place, and neither a word nor a place is left over
abbrev pub Fills : List Place → List Word → Type 0
Fills places [] = list_any (λ (p : Place). p.needed) places ≡ false
Fills [] (w ∷ ws) = ⊥
Fills (p ∷ places) (w ∷ ws) = Keeps p.sort w × Fills (opened p.sort w ws ++ places) ws

-- some word breaks a rule of places
abbrev pub breaks_rule : (Sort → Word → Bool) → List Place → List Word → Bool
breaks_rule breaks places ws = list_any (λ (x : Sort × Word). breaks x.0 x.1) (placed places ws)

pub fills : (places : List Place) (ws : List Word) → leaves_over places ws ≡ false → breaks_rule is_foreign places ws ≡ false → breaks_rule is_no_number places ws ≡ false → breaks_rule is_out_of_range places ws ≡ false →
    Fills places ws
fills places [] fill known number range = fill
fills [] (w ∷ ws) fill known number range = absurd cc
fills (p ∷ places) (w ∷ ws) fill known number range =
    let rest = opened p.sort w ws ++ places in
    let a = or_parts (is_foreign p.sort w) (breaks_rule is_foreign rest ws) known in
    let b = or_parts (is_no_number p.sort w) (breaks_rule is_no_number rest ws) number in
    let c = or_parts (is_out_of_range p.sort w) (breaks_rule is_out_of_range rest ws) range in
    (record { sorted = a.0; number = b.0; range = c.0 }, fills rest ws fill a.1 b.1 c.1)

-- ---- numbers and values are written as they are read

pub numeral_back : (w : Word) → not (is_numeral w) ≡ false → number w < 2 ^ 64 → w ≡ decimal (number w)
numeral_back w h low = numeral_is w (not-false (is_numeral w) h) low

pub range_back : (low high : ℕ) (w : Word) → high < 2 ^ 64 → Keeps (Range low high) w → w ≡ decimal (number w)
range_back low high w few k =
    let most = (between low high (number w) (not-false (is_between low high (number w)) k.range)).1 in
    numeral_back w k.number (omega (arith, most, few))
