-- What stands against a line, test by test.
use Rattle.std.proofs.Common.{◌≡◌, ℕ, Bool, true, false, List, length, Some, None, refl, arith, ap, ◌∙◌}
use Rattle.std.specs.Prelude.{ℤ, is_none, not, ◌||◌, ◌==◌, nat_lt, if◌then◌else◌}
use Rattle.std.proofs.lemmas.Bool.Decides.{nat_tests}
use Rattle.dpc_lists.specs.Lists.{list_any}
use Rattle.dpc_model.specs.Words.{Word}
use Rattle.dpc_model.specs.declared.operators.OpKind.{OpKind}
use Rattle.dpc_model.specs.declared.plans.SourceSpec.{SourceSpec}
use Rattle.script_rules.specs.declared.reasons.Reason.TheVariants.{NameTaken, Unknown, OutOfTime, NoSuchColumn, PastLimit}
use Rattle.script_rules.specs.Statements.{LogLine, OperatorLine}
use Rattle.script_rules.specs.Drafts.{Draft, names, source_named, wire_named, last_frag, end_of}
use Rattle.script_rules.specs.Reasons.{first_of_tests, tests_said, last_time, log_entries, source_at, is_among, misses_column, is_full, is_too_large}

-- a log line of a source that is there, with the answers of the tests
pub log-tests : (d : Draft) (source : Word) (s t : ℕ) (vals : List ℤ) (spec : SourceSpec) (late wrong full : Bool) → source_named d source ≡ Some s → source_at d source ≡ spec →
    (nat_lt t (last_time spec.log) || not (nat_lt t (end_of d))) ≡ late → not (length vals == spec.columns) ≡ wrong → not (nat_lt (log_entries d) 200000) ≡ full →
    first_of_tests (tests_said d (LogLine source t vals)) ≡ (if late then Some OutOfTime else (if wrong then Some NoSuchColumn else (if full then Some PastLimit else None)))
log-tests d source s t vals spec late wrong full named at l w f =
    let late_is : (nat_lt t (last_time (source_at d source).log) || not (nat_lt t (end_of d))) ≡ late = ap (λ (x : SourceSpec). nat_lt t (last_time x.log) || not (nat_lt t (end_of d))) at ∙ l in
    let wrong_is : not (length vals == (source_at d source).columns) ≡ wrong = ap (λ (x : SourceSpec). not (length vals == x.columns)) at ∙ w in
    rw (late_is, wrong_is, f, named) refl

-- two counts that are equal, or are not
pub other-count : (n count columns : ℕ) → n ≡ count → (count ≡ columns → ⊥) → not (n == columns) ≡ true
other-count n count columns e other = grind (arith, nat_tests)

pub same-count : (n count columns : ℕ) → n ≡ count → count ≡ columns → not (n == columns) ≡ false
same-count n count columns e same = grind (arith, nat_tests)

-- the line of an operator, with the answers of the tests
pub operator-tests : (d : Draft) (name : Word) (inputs : List Word) (k : OpKind) (taken unknown missing large : Bool) → is_among name (names d) ≡ taken → list_any (λ w. is_none (wire_named d w)) inputs ≡ unknown →
    misses_column d (OperatorLine name inputs k) ≡ missing → (is_full 16 (last_frag d).ops || is_too_large k) ≡ large →
    first_of_tests (tests_said d (OperatorLine name inputs k)) ≡ (if taken then Some NameTaken else (if unknown then Some Unknown else (if missing then Some NoSuchColumn else (if large then Some PastLimit else None))))
operator-tests d name inputs k taken unknown missing large t u m l = rw (t, u, m, l) refl
