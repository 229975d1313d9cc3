-- The entries of a log are judged by what stands before them.
use Rattle.std.proofs.Common.{◌≡◌, ℕ, ◌+◌, ◌-◌, ◌<◌, ◌≤◌, true, false, List, [], ◌∷◌, ◌++◌, map, take, drop, length, Option, Some, None, refl, sym, ap, subst, ◌∙◌, arith, get_or}
use Rattle.std.specs.Prelude.{Ok, Err, not, ◌||◌, ◌==◌, nat_lt, nat_le, is_none, unwrap_or, sum_by}
use Rattle.std.proofs.lemmas.Bool.{ltb-true, ltb-false, le-leb, leb-true}
use Rattle.std.proofs.lemmas.List.{map_push, length-map, length-take-le, take_more, take_all}
use Rattle.std.proofs.lemmas.List.Sums.{sum_by-append}
use Rattle.dpc_lists.specs.Lists.{nth, last_or}
use Rattle.dpc_model.specs.declared.tuples.Tuple.{Tuple}
use Rattle.dpc_model.specs.declared.plans.SourceSpec.{SourceSpec}
use Rattle.dpc_model.specs.declared.plans.Plan.{Plan}
use Rattle.script_rules.specs.declared.reasons.Reason.{Reason}
use Rattle.script_rules.specs.declared.reasons.Reason.TheVariants.{Unknown, OutOfTime, NoSuchColumn, PastLimit}
use Rattle.script_rules.specs.Statements.{Statement}
use Rattle.script_rules.specs.Drafts.{Draft, source_named, place_of_name}
use Rattle.script_rules.specs.Reasons.{first_of_tests, tests_said, is_among, source_at, last_time, log_entries}
use Rattle.script_rules.proofs.Lasts.{place-last, nth-last}
use Rattle.script_rules.proofs.Passing.{all_said}
use Rattle.script_rules.proofs.Sources.{logs_said}
use Rattle.script_check.specs.Judging.{told, Judges, declaring, header_numbers}
use Rattle.script_check.specs.Locals.{named_sources, against_entry}
use Rattle.script_check.specs.Rooms.{room_behind, with_source, entry_of, BeginsLog}
use Rattle.script_check.proofs.Judging.{judges_none, judges_then, judges_one, judges_fault, map-more, map-parted}

found : (plan : Plan) (before : List SourceSpec) (source : SourceSpec) (log : List Tuple) → is_among source.name (named_sources before) ≡ false →
    source_named (declaring plan (with_source before source log) [] []) source.name ≡ Some (length before)
found plan before source log fresh =
    ap (place_of_name source.name) (map_push (λ (s : SourceSpec). s.name) before (record source { log = log })) ∙ place-last source.name (named_sources before) fresh
    ∙ ap Some (length-map before (λ (s : SourceSpec). s.name))

at_last : (plan : Plan) (before : List SourceSpec) (source : SourceSpec) (log : List Tuple) → is_among source.name (named_sources before) ≡ false →
    source_at (declaring plan (with_source before source log) [] []) source.name ≡ record source { log = log }
at_last plan before source log fresh =
    ap (λ o. nth (record { name = []; columns = 0; log = [] }) (with_source before source log) (unwrap_or o 0)) (found plan before source log fresh)
    ∙ nth-last (record { name = []; columns = 0; log = [] }) before (record source { log = log })

no_room : (a i : ℕ) → not (nat_lt (a + i) 200000) ≡ nat_le (200000 - a) i
no_room a i =
    (elim (nat_lt (a + i) 200000) as (λ b. nat_lt (a + i) 200000 ≡ b → not b ≡ nat_le (200000 - a) i) [
      | true ↦ λ e. let low = ltb-true (a + i) 200000 e in sym (ltb-swap (200000 - a) i (omega (arith, low)))
      | false ↦ λ e. let high = ltb-false (a + i) 200000 e in sym (le-leb (200000 - a) i (omega (arith, high)))
    ]) refl
  where
    ltb-swap : (n m : ℕ) → m < n → nat_le n m ≡ false
    ltb-swap n m low =
        (elim (nat_le n m) as (λ b. nat_le n m ≡ b → b ≡ false) [
          | true ↦ λ e. let wrong = leb-true n m e in absurd (omega (arith, low, wrong))
          | false ↦ λ e. refl
        ]) refl

entries : (before : List SourceSpec) (source : SourceSpec) (log : List Tuple) → sum_by (λ (s : SourceSpec). length s.log) (with_source before source log) ≡ sum_by (λ (s : SourceSpec). length s.log) before + length log
entries before source log =
    let sum : sum_by (λ (s : SourceSpec). length s.log) (with_source before source log) ≡ sum_by (λ (s : SourceSpec). length s.log) before + (0 + length log) = sum_by-append (λ (s : SourceSpec). length s.log) before (record source { log = log } ∷ []) in
    omega (arith, sum)

-- the reasons against an entry
entry_judged : (plan : Plan) (before : List SourceSpec) (source : SourceSpec) (log : List Tuple) (t : Tuple) → is_among source.name (named_sources before) ≡ false →
    first_of_tests (tests_said (declaring plan (with_source before source log) [] []) (entry_of source t)) ≡ first_of_tests (against_entry plan.end source.columns (room_behind before) (last_time log) (length log) t)
entry_judged plan before source log t fresh =
    let d : Draft = declaring plan (with_source before source log) [] [] in
    let count : ℕ = sum_by (λ (s : SourceSpec). length s.log) before in
    let full : not (nat_lt (log_entries d) 200000) ≡ nat_le (room_behind before) (length log) =
    ap (λ n. not (nat_lt n 200000)) (entries before source log) ∙ no_room count (length log) in
    ap (λ o. first_of_tests ((is_none o, Unknown) ∷ (nat_lt t.stime (last_time (source_at d source.name).log) || not (nat_lt t.stime plan.end), OutOfTime) ∷ (not (length t.vals == (source_at d source.name).columns), NoSuchColumn) ∷ (not (nat_lt (log_entries d) 200000), PastLimit) ∷ [])) (found plan before source log fresh)
    ∙ ap (λ (s : SourceSpec). first_of_tests ((nat_lt t.stime (last_time s.log) || not (nat_lt t.stime plan.end), OutOfTime) ∷ (not (length t.vals == s.columns), NoSuchColumn) ∷ (not (nat_lt (log_entries d) 200000), PastLimit) ∷ [])) (at_last plan before source log fresh)
    ∙ ap (λ b. first_of_tests ((nat_lt t.stime (last_time log) || not (nat_lt t.stime plan.end), OutOfTime) ∷ (not (length t.vals == source.columns), NoSuchColumn) ∷ (b, PastLimit) ∷ [])) full

-- a log that is judged up to its entry number i
pub record IsJudgedTo (end columns room line : ℕ) (log : List Tuple) (i last next : ℕ) : Type 0 where
  pub last_is : last ≡ last_time (take i log)
  pub judged : (plan : Plan) (before : List SourceSpec) (source : SourceSpec) (n : ℕ) → BeginsLog plan before source end columns room line n →
      Judges (Ok next) n (declaring plan (with_source before source []) [] []) (map (entry_of source) (take i log))

pub log_begins : (end columns room line : ℕ) (log : List Tuple) → IsJudgedTo end columns room line log 0 0 line
log_begins end columns room line log = record { last_is = refl; judged = λ plan before source n b. judges_none line n (declaring plan (with_source before source []) [] []) b.at }

said_to : (plan : Plan) (before : List SourceSpec) (source : SourceSpec) (log : List Tuple) → is_among source.name (named_sources before) ≡ false →
    all_said (declaring plan (with_source before source []) [] []) (map (entry_of source) log) ≡ declaring plan (with_source before source log) [] []
said_to plan before source log fresh = logs_said (header_numbers plan) before (record source { log = [] }) log fresh

-- the entry number i, by what is given to the test
entry_tested : (plan : Plan) (before : List SourceSpec) (source : SourceSpec) (end columns room line n : ℕ) (log : List Tuple) (i last : ℕ) (t : Tuple) → i < length log → last ≡ last_time (take i log) →
    BeginsLog plan before source end columns room line n →
    first_of_tests (tests_said (all_said (declaring plan (with_source before source []) [] []) (map (entry_of source) (take i log))) (entry_of source t)) ≡ first_of_tests (against_entry end columns room last i t)
entry_tested plan before source end columns room line n log i last t low is b =
    let count : length (take i log) ≡ i = length-take-le i log (omega (arith, low)) in
    ap (λ d. first_of_tests (tests_said d (entry_of source t))) (said_to plan before source (take i log) b.fresh)
    ∙ entry_judged plan before source (take i log) t b.fresh
    ∙ ap (λ k. first_of_tests (against_entry plan.end source.columns (room_behind before) (last_time (take i log)) k t)) count
    ∙ ap (λ k. first_of_tests (against_entry plan.end source.columns (room_behind before) k i t)) (sym is)
    ∙ ap (λ k. first_of_tests (against_entry k source.columns (room_behind before) last i t)) (sym b.ends)
    ∙ ap (λ k. first_of_tests (against_entry end k (room_behind before) last i t)) (sym b.counts)
    ∙ ap (λ k. first_of_tests (against_entry end columns k last i t)) (sym b.left)

last_entry : (log : List Tuple) (t : Tuple) → last_time (log ++ t ∷ []) ≡ t.stime
last_entry log t = ap (λ ns. unwrap_or (last_or None ns) 0) (map_push (λ (x : Tuple). x.stime) log t) ∙ ap (λ o. unwrap_or o 0) (behind None (map (λ (x : Tuple). x.stime) log) t.stime)
  where
    behind : (o : Option ℕ) (ns : List ℕ) (m : ℕ) → last_or o (ns ++ m ∷ []) ≡ Some m
    behind o [] m = refl
    behind o (n ∷ ns) m = behind (Some n) ns m

pub log_goes_on : (end columns room line : ℕ) (log : List Tuple) (i last next behind : ℕ) (t : Tuple) → i < length log → t ≡ get_or log i t → first_of_tests (against_entry end columns room last i t) ≡ None →
    behind ≡ told (next + 1) → IsJudgedTo end columns room line log i last next → IsJudgedTo end columns room line log (i + 1) t.stime behind
log_goes_on end columns room line log i last next behind t low is none more h =
    record {
      last_is = sym (ap last_time (take_more log i t low) ∙ ap (λ x. last_time (take i log ++ x ∷ [])) (sym is) ∙ last_entry (take i log) t);
      judged = λ plan before source n b.
          let d : Draft = declaring plan (with_source before source []) [] [] in
          let done : List Statement = map (entry_of source) (take i log) in
          let so_far = h.judged plan before source n b in
          let one = judges_one next behind (n + length done) (all_said d done) (entry_of source t) so_far.0 more (entry_tested plan before source end columns room line n log i last t low h.last_is b ∙ none) in
          subst (Judges (Ok behind) n d) (sym (map-more (entry_of source) i t log low is)) (judges_then (Ok behind) next n d done (entry_of source t ∷ []) so_far one);
    }

pub log_fails : (end columns room line : ℕ) (log : List Tuple) (i last next : ℕ) (r : Reason) (t : Tuple) → i < length log → t ≡ get_or log i t → first_of_tests (against_entry end columns room last i t) ≡ Some r →
    IsJudgedTo end columns room line log i last next → (plan : Plan) (before : List SourceSpec) (source : SourceSpec) (n : ℕ) → BeginsLog plan before source end columns room line n →
    Judges (Err (record { line = next; reason = r })) n (declaring plan (with_source before source []) [] []) (map (entry_of source) log)
log_fails end columns room line log i last next r t low is some h plan before source n b =
    let d : Draft = declaring plan (with_source before source []) [] [] in
    let done : List Statement = map (entry_of source) (take i log) in
    let rest : List Statement = map (entry_of source) (drop (i + 1) log) in
    let so_far = h.judged plan before source n b in
    let one = judges_fault next r (n + length done) (all_said d done) (entry_of source t) rest so_far.0 (entry_tested plan before source end columns room line n log i last t low h.last_is b ∙ some) in
    subst (Judges (Err (record { line = next; reason = r })) n d) (sym (map-parted (entry_of source) i t log low is)) (judges_then (Err (record { line = next; reason = r })) next n d done (entry_of source t ∷ rest) so_far one)

pub log_ends : (end columns room line : ℕ) (log : List Tuple) (i last next : ℕ) → length log ≤ i → IsJudgedTo end columns room line log i last next →
    (plan : Plan) (before : List SourceSpec) (source : SourceSpec) (n : ℕ) → BeginsLog plan before source end columns room line n → Judges (Ok next) n (declaring plan (with_source before source []) [] []) (map (entry_of source) log)
log_ends end columns room line log i last next far h plan before source n b =
    subst (λ l. Judges (Ok next) n (declaring plan (with_source before source []) [] []) (map (entry_of source) l)) (take_all i log far) (h.judged plan before source n b)
