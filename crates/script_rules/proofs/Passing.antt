-- Where check finds no fault, each statement passes every test, behind those before it.
use Rattle.std.proofs.Common.{◌≡◌, ℕ, ◌+◌, Bool, true, false, List, [], ◌∷◌, ◌++◌, Option, Some, None, refl, ◌^◌, ◌<◌, ◌-◌, arith}
use Rattle.std.specs.Prelude.{⊤, fold, if◌then◌else◌}
use Rattle.dpc_model.specs.declared.scripts.Script.{Script}
use Rattle.script_rules.specs.declared.reasons.Reason.{Reason}
use Rattle.script_rules.specs.declared.reasons.PlanFault.{PlanFault}
use Rattle.script_rules.specs.Statements.{Statement}
use Rattle.script_rules.specs.Drafts.{Draft, nothing_yet, and_then, greatest_end, is_wide}
use Rattle.script_rules.specs.Reasons.{takes_name, is_unknown, is_out_of_time, misses_column, reads_ahead, lacks_part, is_against_state, passes_limit, first_of_tests, tests_said}
use Rattle.script_rules.specs.Checking.{check, check_from, statements_of, IsChecked}

-- no reason stands against what is said
pub record IsFine (d : Draft) (s : Statement) : Type 0 where
  pub name : takes_name d s ≡ false
  pub known : is_unknown d s ≡ false
  pub time : is_out_of_time d s ≡ false
  pub columns : misses_column d s ≡ false
  pub stream : reads_ahead d s ≡ false
  pub parts : lacks_part d s ≡ false
  pub state : is_against_state d s ≡ false
  pub limit : passes_limit d s ≡ false

-- nor against any of these, each behind those before it
abbrev pub Passes : Draft → List Statement → Type 0
Passes d [] = ⊤
Passes d (s ∷ ss) = IsFine d s × Passes (and_then d s) ss

-- all that is said, behind those that said d
abbrev pub all_said : Draft → List Statement → Draft
all_said d ss = fold and_then d ss

-- no test holds
abbrev pub NoneHolds : List (Bool × Reason) → Type 0
NoneHolds [] = ⊤
NoneHolds (x ∷ tests) = (x.0 ≡ false) × NoneHolds tests

pub none_holds : (tests : List (Bool × Reason)) → first_of_tests tests ≡ None → NoneHolds tests
none_holds [] e = tt
none_holds ((true, n) ∷ tests) e = absurd cc
none_holds ((false, n) ∷ tests) e = (refl, none_holds tests e)

-- that is what no test against it says
pub is_fine : (d : Draft) (s : Statement) → first_of_tests (tests_said d s) ≡ None → IsFine d s
is_fine d s e =
    let test_7 = none_holds (tests_said d s) e in
    let test_8 = test_7.1 in
    let test_9 = test_8.1 in
    let test_10 = test_9.1 in
    let test_11 = test_10.1 in
    let test_12 = test_11.1 in
    let test_13 = test_12.1 in
    let test_14 = test_13.1 in
    record { name = test_7.0; known = test_8.0; time = test_9.0; columns = test_10.0; stream = test_11.0; parts = test_12.0; state = test_13.0; limit = test_14.0 }

pub passes : (n : ℕ) (d : Draft) (ss : List Statement) → check_from n d ss ≡ None → Passes d ss
passes n d [] e = tt
passes n d (s ∷ ss) e =
    (elim (first_of_tests (tests_said d s)) as (λ o. first_of_tests (tests_said d s) ≡ o → (elim o as (λ o. Option PlanFault) [ None ↦ check_from (n + 1) (and_then d s) ss | Some r ↦ Some (record { line = n; reason = r }) ]) ≡ None → Passes d (s ∷ ss)) [
      | None ↦ λ is e. (is_fine d s is, passes (n + 1) (and_then d s) ss e)
      | Some r ↦ λ is e. absurd cc
    ]) refl e

pub passes_first : (d : Draft) (a b : List Statement) → Passes d (a ++ b) → Passes d a
passes_first d [] b p = tt
passes_first d (s ∷ a) b p = (p.0, passes_first (and_then d s) a b p.1)

pub passes_then : (d : Draft) (a b : List Statement) → Passes d (a ++ b) → Passes (all_said d a) b
passes_then d [] b p = p
passes_then d (s ∷ a) b p = passes_then (and_then d s) a b p.1

pub said-append : (d : Draft) (a b : List Statement) → all_said d (a ++ b) ≡ all_said (all_said d a) b
said-append d [] b = refl
said-append d (s ∷ a) b = said-append (and_then d s) a b

-- a checked script says what passes
pub checked_passes : (s : Script) → IsChecked s → Passes nothing_yet (statements_of s)
unfolding check
checked_passes s c = passes 1 nothing_yet (statements_of s) c.faultless

pub fine_tests : (d : Draft) (s : Statement) → IsFine d s → first_of_tests (tests_said d s) ≡ None
fine_tests d s f = rw (f.name, f.known, f.time, f.columns, f.stream, f.parts, f.state, f.limit) refl

pub greatest_end-fits : (d : Draft) → greatest_end d < 2 ^ 64
greatest_end-fits d = elim (is_wide d) as (λ t. (if t then 2 ^ 62 - 1 else 2 ^ 40 - 1) < 2 ^ 64) [ true ↦ omega arith | false ↦ omega arith ]
