-- Sources whose logs fit pass every test, each one followed by its log.
use Rattle.std.proofs.Common.{◌≡◌, ℕ, ◌+◌, ◌≤◌, true, false, List, [], ◌∷◌, ◌++◌, map, length, Some, refl, sym, ap, subst, ◌∙◌, arith, Bool}
use Rattle.std.specs.Prelude.{not, ◌==◌, nat_lt, is_none, unwrap_or, flat_map, ◌&&◌}
use Rattle.std.proofs.lemmas.Bool.{and_parts, or_from, not_from_true, lt-ltb, le-ltb}
use Rattle.std.proofs.lemmas.List.{append-nil, append_assoc, map-append, length-append}
use Rattle.std.proofs.lemmas.List.Sums.{sum_by-append}
use Rattle.dpc_lists.specs.Lists.{list_all}
use Rattle.dpc_model.specs.Streams.{NoneBelow, IsOrdered}
use Rattle.dpc_model.specs.declared.tuples.Tuple.{Tuple}
use Rattle.dpc_model.specs.declared.plans.SourceSpec.{SourceSpec}
use Rattle.script_rules.specs.Statements.{Statement, SourceLine}
use Rattle.script_rules.specs.Drafts.{Draft, source_named, with_log, and_then}
use Rattle.script_rules.specs.Reasons.{is_among, has_twice, source_at, last_time}
use Rattle.script_rules.specs.Checking.{source_statements}
use Rattle.script_rules.specs.Facts.{log_fits}
use Rattle.script_rules.proofs.Apart.{twice-first, twice-remove}
use Rattle.script_rules.proofs.Ordered.{itself, last_number}
use Rattle.script_rules.proofs.Passing.{IsFine, Passes, all_said, said-append}
use Rattle.script_rules.proofs.Headers.{declared}
use Rattle.script_rules.proofs.Growing.{AreInTime}
use Rattle.script_rules.proofs.Sources.{names_in, log_statement, ends_in, last_named, last_at, with_logs, times_of, entries_of, end_in, LogsFit, logs_said, one_log, fits}
use Rattle.script_rules.proofs.AllSources.{emptied}

-- ---- two parts

pub passes_both : (d : Draft) (a b : List Statement) → Passes d a → Passes (all_said d a) b → Passes d (a ++ b)
passes_both d [] b h k = k
passes_both d (s ∷ a) b h k = (h.0, passes_both (and_then d s) a b h.1 k)

-- ---- a log line of the last source

-- ---- times

below_all : (n m : ℕ) (ns rest : List ℕ) → NoneBelow itself n (ns ++ m ∷ rest) → n ≤ m
below_all n m [] rest h = h.0
below_all n m (x ∷ ns) rest h = below_all n m ns rest h.1

-- the last of some numbers in order is at most the next one
last_low : (ns : List ℕ) (n : ℕ) (rest : List ℕ) → IsOrdered itself (ns ++ n ∷ rest) → last_number ns ≤ n
last_low [] n rest h = omega arith
last_low (m ∷ []) n rest h = h.0.0
last_low (m ∷ k ∷ ns) n rest h = last_low (k ∷ ns) n rest h.1

-- ---- a source's log

-- how many entries there are behind one more
entries_then : (done : List SourceSpec) (s : SourceSpec) (log : List Tuple) → entries_of (done ++ with_logs s log ∷ []) ≡ entries_of done + length log
entries_then done s log =
    let whole : entries_of (done ++ with_logs s log ∷ []) ≡ entries_of done + (0 + length log) = sum_by-append (λ (x : SourceSpec). length x.log) done (with_logs s log ∷ []) in
    omega (arith, whole)

pub logs_pass : (h : List ℕ) (done : List SourceSpec) (s : SourceSpec) (rest : List Tuple) → is_among s.name (names_in done) ≡ false → LogsFit h done s rest → Passes (ends_in h done s) (map (log_statement s.name) rest)
logs_pass h done s [] fresh k = tt
logs_pass h done s (t ∷ rest) fresh k =
    let d : Draft = ends_in h done s in
    let named : is_none (source_named d s.name) ≡ false = ap is_none (last_named h done s fresh) in
    let at : source_at d s.name ≡ s = last_at h done s fresh in
    let p = and_parts (fits (end_in h) s.columns t) (list_all (fits (end_in h) s.columns) rest) k.fit in
    let q = and_parts (nat_lt t.stime (end_in h)) (length t.vals == s.columns) p.0 in
    let times : times_of (s.log ++ t ∷ rest) ≡ times_of s.log ++ t.stime ∷ times_of rest = map-append (λ (x : Tuple). x.stime) s.log (t ∷ rest) in
    let low : last_number (times_of s.log) ≤ t.stime = last_low (times_of s.log) t.stime (times_of rest) (subst (IsOrdered itself) times k.ordered) in
    let in_time : nat_lt t.stime (last_time (source_at d s.name).log) ≡ false = ap (λ (x : SourceSpec). nat_lt t.stime (last_time x.log)) at ∙ le-ltb t.stime (last_number (times_of s.log)) low in
    let counted : (length t.vals == (source_at d s.name).columns) ≡ true = ap (λ (x : SourceSpec). length t.vals == x.columns) at ∙ q.1 in
    let here : entries_of (done ++ s ∷ []) ≡ entries_of done + length s.log = entries_then done s s.log in
    let all : entries_of (done ++ with_logs s (s.log ++ t ∷ rest) ∷ []) ≡ entries_of done + length (s.log ++ t ∷ rest) = entries_then done s (s.log ++ t ∷ rest) in
    let parts : length (s.log ++ t ∷ rest) ≡ length s.log + length (t ∷ rest) = length-append s.log (t ∷ rest) in
    let few = k.few in
    let room : nat_lt (entries_of (done ++ s ∷ [])) 200000 ≡ true = lt-ltb (entries_of (done ++ s ∷ [])) 200000 (omega (arith, here, all, parts, few)) in
    let fine : IsFine d (log_statement s.name t) = record {
      name = refl;
      known = named;
      time = or_from (nat_lt t.stime (last_time (source_at d s.name).log)) (not (nat_lt t.stime (end_in h))) in_time (not_from_true (nat_lt t.stime (end_in h)) q.0);
      columns = not_from_true (length t.vals == (source_at d s.name).columns) counted;
      stream = refl;
      parts = refl;
      state = refl;
      limit = not_from_true (nat_lt (entries_of (done ++ s ∷ [])) 200000) room;
    } in
    let same : (s.log ++ t ∷ []) ++ rest ≡ s.log ++ t ∷ rest = append_assoc s.log (t ∷ []) rest in
    let next : LogsFit h done (with_log t s) rest = record {
      fit = p.1;
      ordered = subst (λ log. IsOrdered itself (times_of log)) (sym same) k.ordered;
      few = subst (λ log. entries_of (done ++ with_logs s log ∷ []) ≤ 200000) (sym same) k.few;
    } in
    (fine, subst (λ e. Passes e (map (log_statement s.name) rest)) (sym (one_log h done s t fresh)) (logs_pass h done (with_log t s) rest fresh next))

-- ---- all sources

-- behind these sources, others with names of their own, whose logs fit
pub record MayFollow (h : List ℕ) (done rest : List SourceSpec) : Type 0 where
  pub names : has_twice (names_in (done ++ rest)) ≡ false
  pub fit : list_all (log_fits (end_in h)) rest ≡ true
  pub ordered : AreInTime rest
  pub few : entries_of (done ++ rest) ≤ 200000
  pub room : length (done ++ rest) ≤ 16

-- what is said by them, without a reason against it
pub record AreHeard (h : List ℕ) (done rest : List SourceSpec) : Type 0 where
  pub passes : Passes (declared h done [] []) (flat_map source_statements rest)
  pub said : all_said (declared h done [] []) (flat_map source_statements rest) ≡ declared h (done ++ rest) [] []

-- a source's own name is that of none before it
fresh_name : (done : List SourceSpec) (s : SourceSpec) (rest : List SourceSpec) → has_twice (names_in (done ++ s ∷ rest)) ≡ false → is_among s.name (names_in done) ≡ false
fresh_name done s rest h =
    let same : names_in (done ++ s ∷ rest) ≡ (names_in done ++ s.name ∷ []) ++ names_in rest =
    map-append (λ (x : SourceSpec). x.name) done (s ∷ rest) ∙ sym (append_assoc (names_in done) (s.name ∷ []) (names_in rest)) in
    let first : has_twice (names_in done ++ s.name ∷ []) ≡ false = twice-first (names_in done ++ s.name ∷ []) (names_in rest) (ap has_twice (sym same) ∙ h) in
    ap (is_among s.name) (sym (append-nil (names_in done))) ∙ (twice-remove s.name (names_in done) [] first).0

pub sources_pass : (h : List ℕ) (done rest : List SourceSpec) → MayFollow h done rest → AreHeard h done rest
sources_pass h done [] k = record { passes = tt; said = ap (λ l. declared h l [] []) (sym (append-nil done)) }
sources_pass h done (s ∷ rest) k =
    let d : Draft = declared h done [] [] in
    let behind : List Statement = flat_map source_statements rest in
    let fresh : is_among s.name (names_in done) ≡ false = fresh_name done s rest k.names in
    let none : ((names_in done ++ []) ++ []) ++ [] ≡ names_in done = append-nil ((names_in done ++ []) ++ []) ∙ append-nil (names_in done ++ []) ∙ append-nil (names_in done) in
    let p = and_parts (log_fits (end_in h) s) (list_all (log_fits (end_in h)) rest) k.fit in
    let parts : length (done ++ s ∷ rest) ≡ length done + length (s ∷ rest) = length-append done (s ∷ rest) in
    let room = k.room in
    let low : nat_lt (length done) 16 ≡ true = lt-ltb (length done) 16 (omega (arith, parts, room)) in
    let line : IsFine d (SourceLine s.name s.columns) = record {
      name = ap (is_among s.name) none ∙ fresh;
      known = refl;
      time = refl;
      columns = refl;
      stream = refl;
      parts = refl;
      state = refl;
      limit = not_from_true (nat_lt (length done) 16) low;
    } in
    let same : (done ++ s ∷ []) ++ rest ≡ done ++ s ∷ rest = append_assoc done (s ∷ []) rest in
    let entries : entries_of ((done ++ s ∷ []) ++ rest) ≡ entries_of (done ++ s ∷ []) + entries_of rest = sum_by-append (λ (x : SourceSpec). length x.log) (done ++ s ∷ []) rest in
    let all : entries_of ((done ++ s ∷ []) ++ rest) ≡ entries_of (done ++ s ∷ rest) = ap entries_of same in
    let few = k.few in
    let log : LogsFit h done (emptied s) s.log = record { fit = p.0; ordered = k.ordered.0; few = omega (arith, entries, all, few) } in
    let logs : Passes (ends_in h done (emptied s)) (map (log_statement s.name) s.log) = logs_pass h done (emptied s) s.log fresh log in
    let whole : all_said d (source_statements s) ≡ declared h (done ++ s ∷ []) [] [] = logs_said h done (emptied s) s.log fresh in
    let next : MayFollow h (done ++ s ∷ []) rest = record {
      names = ap (λ l. has_twice (names_in l)) same ∙ k.names;
      fit = p.1;
      ordered = k.ordered.1;
      few = subst (λ l. entries_of l ≤ 200000) (sym same) k.few;
      room = subst (λ l. length l ≤ 16) (sym same) k.room;
    } in
    let more = sources_pass h (done ++ s ∷ []) rest next in
    record {
      passes = passes_both d (source_statements s) behind (line, logs) (subst (λ e. Passes e behind) (sym whole) more.passes);
      said = said-append d (source_statements s) behind ∙ ap (λ e. all_said e behind) whole ∙ more.said ∙ ap (λ l. declared h l [] []) same;
    }
