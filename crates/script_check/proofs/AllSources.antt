-- Sources are judged one behind another.
use Rattle.std.proofs.Common.{◌≡◌, ℕ, ◌+◌, ◌-◌, ◌<◌, ◌≤◌, false, List, [], ◌∷◌, ◌++◌, map, take, drop, length, Some, None, refl, sym, ap, subst, ◌∙◌, arith, get_or}
use Rattle.std.specs.Prelude.{Result, Ok, Err, flat_map, sum_by}
use Rattle.std.proofs.lemmas.List.{append-nil, append_assoc, take_more, take_all}
use Rattle.std.proofs.lemmas.List.Sums.{sum_by-append}
use Rattle.dpc_model.specs.declared.tuples.Tuple.{Tuple}
use Rattle.dpc_model.specs.declared.plans.SourceSpec.{SourceSpec}
use Rattle.dpc_model.specs.declared.plans.Plan.{Plan}
use Rattle.script_rules.specs.declared.reasons.Reason.{Reason}
use Rattle.script_rules.specs.declared.reasons.Reason.TheVariants.{NameTaken, PastLimit}
use Rattle.script_rules.specs.declared.reasons.PlanFault.{PlanFault}
use Rattle.script_rules.specs.Statements.{SourceLine}
use Rattle.script_rules.specs.Drafts.{Draft}
use Rattle.script_rules.specs.Reasons.{first_of_tests, tests_said, is_among, is_full}
use Rattle.script_rules.specs.Checking.{check_from, source_statements}
use Rattle.script_rules.proofs.Passing.{none_holds, passes, all_said}
use Rattle.script_rules.proofs.AllSources.{sources_fit}
use Rattle.script_check.specs.Judging.{told, Judges, declaring, header_numbers}
use Rattle.script_check.specs.Locals.{named_sources, against_source}
use Rattle.script_check.specs.Rooms.{room_behind, with_source, entry_of, BeginsLog}
use Rattle.script_check.proofs.Judging.{judges_none, judges_then, judges_stop, judges_one, judges_fault, told_next, flat-more, flat-parted}

pub source_tested : (plan : Plan) (before : List SourceSpec) (s : SourceSpec) → first_of_tests (tests_said (declaring plan before [] []) (SourceLine s.name s.columns)) ≡ first_of_tests (against_source before s)
source_tested plan before s =
    let names = named_sources before in
    ap (λ ws. first_of_tests ((is_among s.name ws, NameTaken) ∷ (is_full 16 before, PastLimit) ∷ [])) (append-nil ((names ++ []) ++ []) ∙ append-nil (names ++ []) ∙ append-nil names)

pub source_fails : (plan : Plan) (before : List SourceSpec) (s : SourceSpec) (line : ℕ) (r : Reason) (n : ℕ) → first_of_tests (against_source before s) ≡ Some r → line ≡ told n →
    Judges (Err (record { line = line; reason = r })) n (declaring plan before [] []) (source_statements s)
source_fails plan before s line r n some at =
    judges_fault line r n (declaring plan before [] []) (SourceLine s.name s.columns) (map (entry_of s) s.log) at (source_tested plan before s ∙ some)

pub source_judged : (plan : Plan) (before : List SourceSpec) (s : SourceSpec) (r : Result ℕ PlanFault) (log : List Tuple) (line next room : ℕ) → first_of_tests (against_source before s) ≡ None → log ≡ s.log →
    next ≡ told (line + 1) →
    ((p : Plan) (b : List SourceSpec) (source : SourceSpec) (n : ℕ) → BeginsLog p b source plan.end s.columns room next n → Judges r n (declaring p (with_source b source []) [] []) (map (entry_of source) log)) →
    (n : ℕ) → line ≡ told n → room ≡ room_behind before → Judges r n (declaring plan before [] []) (source_statements s)
source_judged plan before s r log line next room none same more judged n at left =
    let d : Draft = declaring plan before [] [] in
    let fresh : is_among s.name (named_sources before) ≡ false = (none_holds (against_source before s) none).0 in
    let first : Judges (Ok next) n d (SourceLine s.name s.columns ∷ []) = judges_one line next n d (SourceLine s.name s.columns) at more (source_tested plan before s ∙ none) in
    let begins : BeginsLog plan before s plan.end s.columns room next (n + 1) = record { ends = refl; counts = refl; left = left; at = told_next line next n at more; fresh = fresh } in
    judges_then r next n d (SourceLine s.name s.columns ∷ []) (map (entry_of s) s.log) first
    (subst (λ l. Judges r (n + 1) (declaring plan (with_source before s []) [] []) (map (entry_of s) l)) same (judged plan before s (n + 1) begins))

-- ---- all of them

pub record AreJudgedTo (plan : Plan) (line : ℕ) (sources : List SourceSpec) (i room next : ℕ) : Type 0 where
  pub left : room ≡ room_behind (take i sources)
  pub judged : (n : ℕ) → line ≡ told n → Judges (Ok next) n (declaring plan [] [] []) (flat_map source_statements (take i sources))

pub sources_said : (plan : Plan) (n : ℕ) (sources : List SourceSpec) → check_from n (declaring plan [] [] []) (flat_map source_statements sources) ≡ None →
    all_said (declaring plan [] [] []) (flat_map source_statements sources) ≡ declaring plan sources [] []
sources_said plan n sources none = (sources_fit (header_numbers plan) [] sources (passes n (declaring plan [] [] []) (flat_map source_statements sources) none) (omega arith)).said

pub sources_begin : (plan : Plan) (line : ℕ) (sources : List SourceSpec) → AreJudgedTo plan line sources 0 200000 line
sources_begin plan line sources = record { left = refl; judged = λ n at. judges_none line n (declaring plan [] [] []) at }

less_room : (sources : List SourceSpec) (i : ℕ) (s : SourceSpec) (room : ℕ) → i < length sources → s ≡ get_or sources i s → room ≡ room_behind (take i sources) → room - length s.log ≡ room_behind (take (i + 1) sources)
less_room sources i s room low is left =
    let sum : sum_by (λ (x : SourceSpec). length x.log) (take i sources ++ s ∷ []) ≡ sum_by (λ (x : SourceSpec). length x.log) (take i sources) + (0 + length s.log) = sum_by-append (λ (x : SourceSpec). length x.log) (take i sources) (s ∷ []) in
    let same : take (i + 1) sources ≡ take i sources ++ s ∷ [] = take_more sources i s low ∙ ap (λ x. take i sources ++ x ∷ []) (sym is) in
    let count : sum_by (λ (x : SourceSpec). length x.log) (take (i + 1) sources) ≡ sum_by (λ (x : SourceSpec). length x.log) (take i sources) + length s.log =
    ap (λ (l : List SourceSpec). sum_by (λ (x : SourceSpec). length x.log) l) same ∙ (let e : sum_by (λ (x : SourceSpec). length x.log) (take i sources ++ s ∷ []) ≡ sum_by (λ (x : SourceSpec). length x.log) (take i sources) + length s.log = omega (arith, sum) in e) in
    omega (arith, left, count)

-- a source is judged wherever it stands
abbrev pub SourceJudges : Plan → List SourceSpec → SourceSpec → ℕ → ℕ → Result ℕ PlanFault → Type 0
SourceJudges plan before s room line r = (n : ℕ) → line ≡ told n → room ≡ room_behind before → Judges r n (declaring plan before [] []) (source_statements s)

pub one_more : (plan : Plan) (line : ℕ) (sources before : List SourceSpec) (i room next : ℕ) (s : SourceSpec) (r : Result ℕ PlanFault) → i < length sources → s ≡ get_or sources i s → before ≡ take i sources →
    AreJudgedTo plan line sources i room next → SourceJudges plan before s room next r → (n : ℕ) → line ≡ told n → Judges r n (declaring plan [] [] []) (flat_map source_statements (take i sources) ++ source_statements s)
one_more plan line sources before i room next s r low is same h judges n at =
    let done = flat_map source_statements (take i sources) in
    let so_far = h.judged n at in
    let here : Judges r (n + length done) (declaring plan (take i sources) [] []) (source_statements s) =
    subst (λ l. Judges r (n + length done) (declaring plan l [] []) (source_statements s)) same (judges (n + length done) so_far.0 (h.left ∙ ap room_behind (sym same))) in
    judges_then r next n (declaring plan [] [] []) done (source_statements s) so_far
    (subst (λ d. Judges r (n + length done) d (source_statements s)) (sym (sources_said plan n (take i sources) so_far.1)) here)

pub sources_go_on : (plan : Plan) (line : ℕ) (sources before : List SourceSpec) (i room next behind left : ℕ) (s : SourceSpec) → i < length sources → s ≡ get_or sources i s → before ≡ take i sources →
    left ≡ room - length s.log → AreJudgedTo plan line sources i room next → SourceJudges plan before s room next (Ok behind) → AreJudgedTo plan line sources (i + 1) left behind
sources_go_on plan line sources before i room next behind left s low is same less h judges =
    record {
      left = less ∙ less_room sources i s room low is h.left;
      judged = λ n at.
          subst (Judges (Ok behind) n (declaring plan [] [] [])) (sym (flat-more source_statements i s sources low is)) (one_more plan line sources before i room next s (Ok behind) low is same h judges n at);
    }

pub sources_fail : (plan : Plan) (line : ℕ) (sources before : List SourceSpec) (i room next : ℕ) (s : SourceSpec) (f : PlanFault) → i < length sources → s ≡ get_or sources i s → before ≡ take i sources →
    AreJudgedTo plan line sources i room next → SourceJudges plan before s room next (Err f) → (n : ℕ) → line ≡ told n → Judges (Err f) n (declaring plan [] [] []) (flat_map source_statements sources)
sources_fail plan line sources before i room next s f low is same h judges n at =
    let d = declaring plan [] [] [] in
    let done = flat_map source_statements (take i sources) in
    let rest = flat_map source_statements (drop (i + 1) sources) in
    let here : Judges (Err f) n d ((done ++ source_statements s) ++ rest) = judges_stop f n d (done ++ source_statements s) rest (one_more plan line sources before i room next s (Err f) low is same h judges n at) in
    subst (Judges (Err f) n d) (append_assoc done (source_statements s) rest ∙ sym (flat-parted source_statements i s sources low is)) here

pub sources_end : (plan : Plan) (line : ℕ) (sources : List SourceSpec) (i room next : ℕ) → length sources ≤ i → AreJudgedTo plan line sources i room next → (n : ℕ) → line ≡ told n →
    Judges (Ok next) n (declaring plan [] [] []) (flat_map source_statements sources)
sources_end plan line sources i room next far h n at = subst (λ l. Judges (Ok next) n (declaring plan [] [] []) (flat_map source_statements l)) (take_all i sources far) (h.judged n at)
