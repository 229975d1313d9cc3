-- Words at places, seen one after another.
use Rattle.std.specs.Prelude.{◌≡◌, Bool, ◌||◌, List, [], ◌∷◌, ◌++◌, drop, replicate, Option}
use Rattle.dpc_lists.specs.Lists.{list_any}
use Rattle.dpc_model.specs.Words.{Word}
use Rattle.script_rules.specs.declared.reasons.Reason.{Reason}
use Rattle.script_rules.specs.declared.reasons.Reason.TheVariants.{ForeignWord, WrongCount, NoNumber, OutOfRange}
use Rattle.script_rules.specs.Places.{must, may, opened, placed, leaves_over, is_foreign, is_no_number, is_out_of_range}
use Rattle.script_rules.specs.Reasons.{first_of_tests}
use Rattle.script_rules.specs.declared.places.Place.{Place}
use Rattle.script_rules.specs.declared.places.Sort.{Sort}
use Rattle.script_rules.specs.declared.places.Sort.TheVariants as sort
use Rattle.script_words.specs.declared.seen.Repeated.{Repeated}
use Rattle.script_words.specs.declared.seen.Repeated.TheVariants.{Expression, Column, Natural, Anything}
use Rattle.script_words.specs.declared.seen.Seen.{Seen}
use Rattle.script_words.specs.declared.scans.Open.{Open}

abbrev pub repeated_place : Repeated → Place
repeated_place Expression = must sort.Expression
repeated_place Column = must sort.Column
repeated_place Natural = must sort.Natural
repeated_place Anything = may sort.Anything

-- the places of a line that are still open
abbrev pub open_places : List Place → Open → List Place
open_places places o = replicate o.count (repeated_place o.repeated) ++ drop o.next places

-- no number, or one out of range
abbrev pub is_bad : Sort → Word → Bool
is_bad sort w = is_no_number sort w || is_out_of_range sort w

-- some word with a place breaks a rule of places
abbrev pub some_breaks : (Sort → Word → Bool) → List Place → List Word → Bool
some_breaks breaks places ws = list_any (λ (x : Sort × Word). breaks x.0 x.1) (placed places ws)

-- the least reason against words at their places
unfoldable pub fault_of_places : List Place → List Word → Option Reason
fault_of_places places ws =
    first_of_tests
    ((some_breaks is_foreign places ws, ForeignWord) ∷ (leaves_over places ws, WrongCount) ∷ (some_breaks is_no_number places ws, NoNumber) ∷ (some_breaks is_out_of_range places ws, OutOfRange)
    ∷ [])

-- what code saw of a word at its place
pub record IsSeen (sort : Sort) (w : Word) (behind : List Word) (seen : Seen) : Type 0 where
  pub foreign : seen.foreign ≡ is_foreign sort w
  pub no_number : seen.no_number ≡ is_no_number sort w
  pub bad : seen.bad ≡ is_bad sort w
  pub opens : replicate seen.count (repeated_place seen.repeated) ≡ opened sort w behind
