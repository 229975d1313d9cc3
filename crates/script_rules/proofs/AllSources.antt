-- All sources of a checked script, one behind another.
use Rattle.std.proofs.Common.{◌≡◌, ℕ, zero, suc, ◌+◌, ◌≤◌, true, false, List, [], ◌∷◌, ◌++◌, map, length, refl, sym, ap, subst, ◌∙◌, arith}
use Rattle.std.specs.Prelude.{⊤, flat_map}
use Rattle.std.proofs.lemmas.List.{append-nil, append_assoc}
use Rattle.std.proofs.lemmas.List.Sums.{sum_by-append}
use Rattle.dpc_lists.specs.Lists.{nth, list_all}
use Rattle.dpc_model.specs.Streams.{InOrder}
use Rattle.dpc_model.specs.Fragments.{LogsInOrder}
use Rattle.dpc_model.specs.declared.tuples.Tuple.{Tuple}
use Rattle.dpc_model.specs.declared.plans.SourceSpec.{SourceSpec}
use Rattle.dpc_model.specs.declared.plans.Plan.{Plan}
use Rattle.script_rules.specs.Reasons.{is_among}
use Rattle.script_rules.specs.Checking.{source_statements}
use Rattle.script_rules.specs.Facts.{log_fits}
use Rattle.script_rules.proofs.Apart.{among_neither}
use Rattle.script_rules.proofs.Ordered.{ordered-map}
use Rattle.script_rules.proofs.Passing.{Passes, passes_first, passes_then, all_said, said-append}
use Rattle.script_rules.proofs.Headers.{declared}
use Rattle.script_rules.proofs.Sources.{names_in, entries_of, with_logs, log_statement, ends_in, end_in, LogsFit, logs_said, logs_fit}

-- each log is in order of time
abbrev pub AreOrdered : List SourceSpec → Type 0
AreOrdered [] = ⊤
AreOrdered (s ∷ rest) = InOrder s.log × AreOrdered rest

-- what these sources, behind others, are found to be
pub record SourcesFit (h : List ℕ) (done rest : List SourceSpec) : Type 0 where
  pub said : all_said (declared h done [] []) (flat_map source_statements rest) ≡ declared h (done ++ rest) [] []
  pub fit : list_all (log_fits (end_in h)) rest ≡ true
  pub ordered : AreOrdered rest
  pub few : entries_of (done ++ rest) ≤ 200000

abbrev pub emptied : SourceSpec → SourceSpec
emptied s = with_logs s []

-- a name that is not taken is no source's
fresh_among : (h : List ℕ) (done : List SourceSpec) (s : SourceSpec) → is_among s.name (((names_in done ++ []) ++ []) ++ []) ≡ false → is_among s.name (names_in done) ≡ false
fresh_among h done s e = (among_neither s.name (names_in done) [] (among_neither s.name (names_in done ++ []) [] (among_neither s.name ((names_in done ++ []) ++ []) [] e).0).0).0

one_source_more : (done : List SourceSpec) (s : SourceSpec) → entries_of done ≤ 200000 → entries_of (done ++ emptied s ∷ []) ≤ 200000
one_source_more done s few =
    let parts : entries_of (done ++ emptied s ∷ []) ≡ entries_of done + (0 + 0) = sum_by-append (λ (x : SourceSpec). length x.log) done (emptied s ∷ []) in
    omega (arith, few, parts)

pub sources_fit : (h : List ℕ) (done rest : List SourceSpec) → Passes (declared h done [] []) (flat_map source_statements rest) → entries_of done ≤ 200000 → SourcesFit h done rest
sources_fit h done [] p few =
    let same : done ≡ done ++ [] = sym (append-nil done) in
    record { said = ap (λ l. declared h l [] []) same; fit = refl; ordered = tt; few = subst (λ l. entries_of l ≤ 200000) same few }
sources_fit h done (s ∷ rest) p few =
    let d = declared h done [] [] in
    let fresh : is_among s.name (names_in done) ≡ false = fresh_among h done s p.0.name in
    let logs : Passes (ends_in h done (emptied s)) (map (log_statement s.name) s.log) = passes_first (ends_in h done (emptied s)) (map (log_statement s.name) s.log) (flat_map source_statements rest) p.1 in
    let whole : all_said d (source_statements s) ≡ declared h (done ++ s ∷ []) [] [] = logs_said h done (emptied s) s.log fresh in
    let found : LogsFit h done (emptied s) s.log = logs_fit h done (emptied s) s.log fresh logs tt (one_source_more done s few) in
    let next : Passes (declared h (done ++ s ∷ []) [] []) (flat_map source_statements rest) = subst (λ e. Passes e (flat_map source_statements rest)) whole (passes_then d (source_statements s) (flat_map source_statements rest) p) in
    let more = sources_fit h (done ++ s ∷ []) rest next found.few in
    let same : (done ++ s ∷ []) ++ rest ≡ done ++ s ∷ rest = append_assoc done (s ∷ []) rest in
    record {
      said =
          said-append d (source_statements s) (flat_map source_statements rest) ∙ ap (λ e. all_said e (flat_map source_statements rest)) whole ∙ more.said
          ∙ ap (λ l. declared h l [] []) same;
      fit = rw (found.fit, more.fit) refl;
      ordered = (ordered-map (λ (t : Tuple). t.stime) s.log found.ordered, more.ordered);
      few = subst (λ l. entries_of l ≤ 200000) same more.few;
    }

log_ordered : (sources : List SourceSpec) (i : ℕ) → AreOrdered sources → InOrder (nth [] (map (λ (s : SourceSpec). s.log) sources) i)
log_ordered [] i h = tt
log_ordered (s ∷ rest) zero h = h.0
log_ordered (s ∷ rest) (suc i) h = log_ordered rest i h.1

pub logs_in_order : (plan : Plan) → AreOrdered plan.sources → LogsInOrder plan
logs_in_order plan h i = log_ordered plan.sources i h
