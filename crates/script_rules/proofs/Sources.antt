-- The sources of a checked script: what is said of them is what they are, and their logs fit.
use Rattle.std.proofs.Common.{◌≡◌, ℕ, ◌+◌, ◌<◌, ◌≤◌, Bool, true, false, List, [], ◌∷◌, ◌++◌, map, length, Some, refl, sym, ap, subst, ◌∙◌, arith}
use Rattle.std.specs.Prelude.{not, ◌&&◌, ◌==◌, nat_lt, unwrap_or, sum_by}
use Rattle.std.proofs.lemmas.Bool.{or_parts, not-false, ltb-false, ltb-true}
use Rattle.std.proofs.lemmas.List.{append-nil, append_assoc, map_push, length-append, length-map}
use Rattle.std.proofs.lemmas.List.Sums.{sum_by-append}
use Rattle.dpc_lists.specs.Lists.{nth, changed, list_all}
use Rattle.dpc_model.specs.Words.{Word}
use Rattle.dpc_model.specs.Streams.{IsOrdered}
use Rattle.dpc_model.specs.declared.tuples.Tuple.{Tuple}
use Rattle.dpc_model.specs.declared.plans.SourceSpec.{SourceSpec}
use Rattle.script_rules.specs.Statements.{Statement, LogLine}
use Rattle.script_rules.specs.Drafts.{Draft, and_then, source_named, place_of_name, with_log, end_of}
use Rattle.script_rules.specs.Reasons.{is_among, source_at, last_time}
use Rattle.script_rules.proofs.Lasts.{place-last, changed-last, nth-last}
use Rattle.script_rules.proofs.Ordered.{itself, last_number, ordered-push}
use Rattle.script_rules.proofs.Passing.{IsFine, Passes, all_said}
use Rattle.script_rules.proofs.Headers.{declared}

abbrev name_of : SourceSpec → Word
name_of s = s.name

abbrev pub names_in : List SourceSpec → List Word
names_in sources = map name_of sources

abbrev pub log_statement : Word → Tuple → Statement
log_statement name t = LogLine name t.stime t.vals

-- sources alone, the last one under way
abbrev pub ends_in : List ℕ → List SourceSpec → SourceSpec → Draft
ends_in h done s = declared h (done ++ s ∷ []) [] []

-- ---- the last source is the one that a log line names

pub last_named : (h : List ℕ) (done : List SourceSpec) (s : SourceSpec) → is_among s.name (names_in done) ≡ false → source_named (ends_in h done s) s.name ≡ Some (length done)
last_named h done s fresh = ap (place_of_name s.name) (map_push name_of done s) ∙ place-last s.name (names_in done) fresh ∙ ap Some (length-map done name_of)

abbrev pub no_source : SourceSpec
no_source = record { name = []; columns = 0; log = [] }

pub last_at : (h : List ℕ) (done : List SourceSpec) (s : SourceSpec) → is_among s.name (names_in done) ≡ false → source_at (ends_in h done s) s.name ≡ s
last_at h done s fresh = ap (λ o. nth no_source (done ++ s ∷ []) (unwrap_or o 0)) (last_named h done s fresh) ∙ nth-last no_source done s

pub one_log : (h : List ℕ) (done : List SourceSpec) (s : SourceSpec) (t : Tuple) → is_among s.name (names_in done) ≡ false → and_then (ends_in h done s) (log_statement s.name t) ≡ ends_in h done (with_log t s)
one_log h done s t fresh =
    ap (λ o. declared h (changed (unwrap_or o 0) (with_log t) (done ++ s ∷ [])) [] []) (last_named h done s fresh)
    ∙ ap (λ l. declared h l [] []) (changed-last (with_log t) done s)

abbrev pub with_logs : SourceSpec → List Tuple → SourceSpec
with_logs s log = record s { log = log }

-- its log lines are its log
pub logs_said : (h : List ℕ) (done : List SourceSpec) (s : SourceSpec) (rest : List Tuple) → is_among s.name (names_in done) ≡ false →
    all_said (ends_in h done s) (map (log_statement s.name) rest) ≡ ends_in h done (with_logs s (s.log ++ rest))
logs_said h done s [] fresh = ap (λ log. ends_in h done (with_logs s log)) (sym (append-nil s.log))
logs_said h done s (t ∷ rest) fresh =
    ap (λ d. all_said d (map (log_statement s.name) rest)) (one_log h done s t fresh) ∙ logs_said h done (with_log t s) rest fresh
    ∙ ap (λ log. ends_in h done (with_logs s log)) (append_assoc s.log (t ∷ []) rest)

-- ---- logs fit

abbrev pub times_of : List Tuple → List ℕ
times_of log = map (λ (t : Tuple). t.stime) log

abbrev pub entries_of : List SourceSpec → ℕ
entries_of sources = sum_by (λ (s : SourceSpec). length s.log) sources

abbrev pub fits : ℕ → ℕ → Tuple → Bool
fits end columns t = nat_lt t.stime end && length t.vals == columns

-- the end that the header names
abbrev pub end_in : List ℕ → ℕ
end_in h = end_of (declared h [] [] [])

one_entry_more : (done : List SourceSpec) (s : SourceSpec) (t : Tuple) → entries_of (done ++ s ∷ []) < 200000 → entries_of (done ++ with_log t s ∷ []) ≤ 200000
one_entry_more done s t room =
    let before : entries_of (done ++ s ∷ []) ≡ entries_of done + (0 + length s.log) = sum_by-append (λ (x : SourceSpec). length x.log) done (s ∷ []) in
    let after : entries_of (done ++ with_log t s ∷ []) ≡ entries_of done + (0 + length (s.log ++ t ∷ [])) = sum_by-append (λ (x : SourceSpec). length x.log) done (with_log t s ∷ []) in
    let more : length (s.log ++ t ∷ []) ≡ length s.log + 1 = length-append s.log (t ∷ []) in
    omega (arith, room, before, after, more)

-- further entries of the last source are below end, with its columns; its times are in order, and there are few entries
pub record LogsFit (h : List ℕ) (done : List SourceSpec) (s : SourceSpec) (rest : List Tuple) : Type 0 where
  pub fit : list_all (fits (end_in h) s.columns) rest ≡ true
  pub ordered : IsOrdered itself (times_of (s.log ++ rest))
  pub few : entries_of (done ++ with_logs s (s.log ++ rest) ∷ []) ≤ 200000

pub logs_fit : (h : List ℕ) (done : List SourceSpec) (s : SourceSpec) (rest : List Tuple) → is_among s.name (names_in done) ≡ false →
    Passes (ends_in h done s) (map (log_statement s.name) rest) → IsOrdered itself (times_of s.log) → entries_of (done ++ s ∷ []) ≤ 200000 → LogsFit h done s rest
logs_fit h done s [] fresh p ordered few =
    let same : s.log ≡ s.log ++ [] = sym (append-nil s.log) in
    record { fit = refl; ordered = subst (λ log. IsOrdered itself (times_of log)) same ordered; few = subst (λ log. entries_of (done ++ with_logs s log ∷ []) ≤ 200000) same few }
logs_fit h done s (t ∷ rest) fresh p ordered few =
    let fine : IsFine (ends_in h done s) (log_statement s.name t) = p.0 in
    let at : source_at (ends_in h done s) s.name ≡ s = last_at h done s fresh in
    let tests = or_parts (nat_lt t.stime (last_time (source_at (ends_in h done s) s.name).log)) (not (nat_lt t.stime (end_in h))) fine.time in
    let low : last_number (times_of s.log) ≤ t.stime = ltb-false t.stime (last_number (times_of s.log)) (ap (λ (x : SourceSpec). nat_lt t.stime (last_time x.log)) (sym at) ∙ tests.0) in
    let below : nat_lt t.stime (end_in h) ≡ true = not-false (nat_lt t.stime (end_in h)) tests.1 in
    let counted : (length t.vals == s.columns) ≡ true = not-false (length t.vals == s.columns) (ap (λ (x : SourceSpec). not (length t.vals == x.columns)) (sym at) ∙ fine.columns) in
    let room : entries_of (done ++ s ∷ []) < 200000 = ltb-true (entries_of (done ++ s ∷ [])) 200000 (not-false (nat_lt (entries_of (done ++ s ∷ [])) 200000) fine.limit) in
    let ordered_more : IsOrdered itself (times_of (s.log ++ t ∷ [])) = subst (IsOrdered itself) (sym (map_push (λ (x : Tuple). x.stime) s.log t)) (ordered-push (times_of s.log) t.stime ordered low) in
    let next : Passes (ends_in h done (with_log t s)) (map (log_statement s.name) rest) = subst (λ d. Passes d (map (log_statement s.name) rest)) (one_log h done s t fresh) p.1 in
    let more = logs_fit h done (with_log t s) rest fresh next ordered_more (one_entry_more done s t room) in
    let same : (s.log ++ t ∷ []) ++ rest ≡ s.log ++ t ∷ rest = append_assoc s.log (t ∷ []) rest in
    record {
      fit = rw (below, counted) more.fit;
      ordered = subst (λ log. IsOrdered itself (times_of log)) same more.ordered;
      few = subst (λ log. entries_of (done ++ with_logs s log ∷ []) ≤ 200000) same more.few;
    }
