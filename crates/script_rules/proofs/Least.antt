-- The fault of a line is the least reason that applies.
use Rattle.std.proofs.Common.{◌≡◌, ℕ, ◌≤◌, Bool, true, false, List, [], ◌∷◌, Option, Some, None, refl, arith}
use Rattle.std.proofs.lemmas.Grind.{common_steps}
use Rattle.dpc_model.specs.Words.{Word}
use Rattle.dpc_model.specs.Streams.{NoneBelow, IsOrdered}
use Rattle.script_rules.specs.declared.reasons.Reason.{Reason}
use Rattle.script_rules.specs.declared.reasons.Reason.TheVariants.{ForeignByte}
use Rattle.script_rules.specs.ReasonTable.{number_of}
use Rattle.script_rules.specs.Lines.{words_of, is_skipped}
use Rattle.script_rules.specs.declared.keywords.Keyword.{Keyword}
use Rattle.script_rules.specs.Drafts.{Draft}
use Rattle.script_rules.specs.Reasons.{has_foreign_byte, first_of_tests, holds_among, tests_of, tests_of_words, tests_unless_skipped, keyword_in}
use Rattle.script_rules.specs.Reading.{fault_of}
use Rattle.script_rules.specs.Laws.{NamesLeast, RefusesOnlyFaults}

abbrev Tests : Type 0
Tests = List (Bool × Reason)

-- the number of a test's reason
abbrev place_of : Bool × Reason → ℕ
place_of x = number_of x.1

-- what is found holds
found_holds : (tests : Tests) (r : Reason) → first_of_tests tests ≡ Some r → holds_among tests r ≡ true
found_holds [] r e = absurd cc
found_holds ((true, n) ∷ tests) r e = grind (arith, common_steps)
found_holds ((false, n) ∷ tests) r e = found_holds tests r e

-- a number that holds is none below those that are there
at_least : (n : ℕ) (tests : Tests) (q : Reason) → NoneBelow place_of n tests → holds_among tests q ≡ true → n ≤ number_of q
at_least n [] q none e = absurd cc
at_least n (x ∷ tests) q none e = grind (arith, common_steps, at_least n tests q none.1)

-- nothing that holds is less than what is found
found_least : (tests : Tests) (r q : Reason) → IsOrdered place_of tests → first_of_tests tests ≡ Some r → holds_among tests q ≡ true → number_of r ≤ number_of q
found_least [] r q ordered e h = absurd cc
found_least ((true, n) ∷ tests) r q ordered e h = grind (arith, common_steps, at_least (number_of n) tests q ordered.0)
found_least ((false, n) ∷ tests) r q ordered e h = found_least tests r q ordered.1 e h

none_holds : (tests : Tests) (q : Reason) → first_of_tests tests ≡ None → holds_among tests q ≡ false
none_holds [] q e = refl
none_holds ((true, n) ∷ tests) q e = absurd cc
none_holds ((false, n) ∷ tests) q e = none_holds tests q e

-- the reasons stand in order
ordered_words : (b : Bool) (d : Draft) (k : Option Keyword) (words : List Word) → IsOrdered place_of ((b, ForeignByte) ∷ tests_of_words d k words)
ordered_words b d None words = omega arith
ordered_words b d (Some k) words = omega arith

ordered_unless : (b skipped : Bool) (d : Draft) (words : List Word) → IsOrdered place_of ((b, ForeignByte) ∷ tests_unless_skipped skipped d words)
ordered_unless b true d words = (tt, tt)
ordered_unless b false d words = ordered_words b d (keyword_in d words) _

ordered : (d : Draft) (line : List ℕ) → IsOrdered place_of (tests_of d line)
ordered d line = ordered_unless (has_foreign_byte line) (is_skipped line) d (words_of line)

pub names_least : NamesLeast
unfolding fault_of
names_least d line r e = (found_holds (tests_of d line) r e, λ q h. found_least (tests_of d line) r q (ordered d line) e h)

pub refuses_only_faults : RefusesOnlyFaults
unfolding fault_of
refuses_only_faults d line e q = none_holds (tests_of d line) q e
