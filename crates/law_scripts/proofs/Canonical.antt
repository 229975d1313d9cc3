-- What is printed of a script is canonical.
use Rattle.std.proofs.Common.{◌≡◌, ℕ, Bool, true, false, List, [], ◌∷◌, ◌++◌, map, Option, Some, None, refl, sym, ap, ◌∙◌}
use Rattle.std.specs.Prelude.{not, ◌&&◌, ◌==◌, flat_map, codes, bytes_eq, if◌then◌else◌}
use Rattle.std.proofs.lemmas.Bool.{and_parts, not-true}
use Rattle.std.proofs.lemmas.List.{append_assoc}
use Rattle.std.proofs.lemmas.List.Folds.{list_all-append}
use Rattle.dpc_lists.specs.Lists.{list_all, list_any}
use Rattle.dpc_model.specs.Words.{Word, spaced, text_of}
use Rattle.dpc_model.specs.ScriptText.{script_text, header_lines, log_line, source_lines, patience_lines, operator_line, frag_lines, client_line, directive_line, phase_lines, settle_lines, script_lines, number_line}
use Rattle.dpc_model.specs.declared.tuples.Tuple.{Tuple}
use Rattle.dpc_model.specs.declared.operators.OpKind.{OpKind}
use Rattle.dpc_model.specs.declared.operators.OpKind.TheVariants as kind
use Rattle.dpc_model.specs.declared.operators.OpSpec.{OpSpec}
use Rattle.dpc_model.specs.declared.plans.SourceSpec.{SourceSpec}
use Rattle.dpc_model.specs.declared.plans.FragSpec.{FragSpec}
use Rattle.dpc_model.specs.declared.plans.Plan.{Plan}
use Rattle.dpc_model.specs.declared.scripts.Directive.{Directive}
use Rattle.dpc_model.specs.declared.scripts.Directive.TheVariants.{Emit, Release, Cut, Heal, Lose, Repeat, Crash, Restart}
use Rattle.dpc_model.specs.declared.scripts.Phase.{Phase}
use Rattle.dpc_model.specs.declared.scripts.Script.{Script}
use Rattle.script_rules.specs.Lines.{lines_of, words_of, is_skipped}
use Rattle.script_rules.specs.Statements.{Statement, word}
use Rattle.script_rules.specs.Places.{places_of}
use Rattle.script_rules.specs.Drafts.{Draft, nothing_yet, and_then}
use Rattle.script_rules.specs.Checking.{is_in_range, statements_of}
use Rattle.script_rules.specs.Canonical.{IsCanonical, logs_follow}
use Rattle.script_rules.specs.Laws.{refers_to_names, PrintsCanonical}
use Rattle.script_rules.proofs.Apart.{word_is_itself}
use Rattle.law_scripts.proofs.Lines.{not_skipped}
use Rattle.law_scripts.proofs.Fits.{all_plain}
use Rattle.law_scripts.proofs.Says.{Says}
use Rattle.law_scripts.proofs.Scripts.{lines_from_begin, line_parts, script_says}
use Rattle.law_scripts.proofs.Checked.{checked_refers}
use Rattle.law_scripts.proofs.Printing.{printed_lines, printed_words}

-- ---- no line is skipped

none_skipped : (d : Draft) (lines : List (List Word)) (ss : List Statement) → Says d lines ss → list_any is_skipped (map spaced lines) ≡ false
none_skipped d [] [] h = refl
none_skipped d [] (s ∷ ss) h = absurd h
none_skipped d ([] ∷ lines) ss h = absurd h
none_skipped d ((w ∷ ws) ∷ lines) [] h = absurd h
none_skipped d ((w ∷ ws) ∷ lines) (s ∷ ss) h =
    let here = not_skipped w ws h.0.first (all_plain (places_of d h.0.keyword) ws h.0.fits) in
    rw (here, none_skipped (and_then d s) lines ss h.1) refl

-- ---- logs stand behind their source

-- neither a source nor an entry of a log
abbrev is_quiet : List Word → Bool
is_quiet line = not (bytes_eq (word line 0) (codes "source")) && not (bytes_eq (word line 0) (codes "log"))

abbrev are_quiet : List (List Word) → Bool
are_quiet lines = list_all is_quiet lines

both_quiet : (a b : List (List Word)) → are_quiet a ≡ true → are_quiet b ≡ true → are_quiet (a ++ b) ≡ true
both_quiet a b h k = list_all-append is_quiet a b ∙ rw (h, k) refl

all_quiet : {X : Type 0} (f : X → List (List Word)) (xs : List X) → ((x : X) → are_quiet (f x) ≡ true) → are_quiet (flat_map f xs) ≡ true
all_quiet f [] h = refl
all_quiet f (x ∷ xs) h = both_quiet (f x) (flat_map f xs) (h x) (all_quiet f xs h)

each_quiet : {X : Type 0} (f : X → List Word) (xs : List X) → ((x : X) → is_quiet (f x) ≡ true) → are_quiet (map f xs) ≡ true
each_quiet f [] h = refl
each_quiet f (x ∷ xs) h = rw (h x, each_quiet f xs h) refl

quiet_follow : (last : Word) (lines : List (List Word)) → are_quiet lines ≡ true → logs_follow last lines ≡ true
quiet_follow last [] h = refl
quiet_follow last (line ∷ lines) h =
    let p = and_parts (is_quiet line) (are_quiet lines) h in
    let q = and_parts (not (bytes_eq (word line 0) (codes "source"))) (not (bytes_eq (word line 0) (codes "log"))) p.0 in
    rw (not-true _ q.0, not-true _ q.1, quiet_follow last lines p.1) refl

-- whatever the source before is
abbrev Follow : List (List Word) → Type 0
Follow lines = (last : Word) → logs_follow last lines ≡ true

header_follows : (plan : Plan) (lines : List (List Word)) → Follow lines → Follow (header_lines plan ++ lines)
header_follows plan lines rest last =
    elim (plan.version == 3) as (λ t. logs_follow last ((if t then (number_line (codes "passing") (if plan.passing then 1 else 0) ∷ []) else []) ++ lines) ≡ true) [
      | true ↦ rest last
      | false ↦ rest last
    ]

logs_here : (name : Word) (log : List Tuple) (lines : List (List Word)) → Follow lines → logs_follow name (map (log_line name) log ++ lines) ≡ true
logs_here name [] lines rest = rest name
logs_here name (t ∷ log) lines rest = rw (word_is_itself name, logs_here name log lines rest) refl

sources_follow : (sources : List SourceSpec) (lines : List (List Word)) → Follow lines → Follow (flat_map source_lines sources ++ lines)
sources_follow [] lines rest last = rest last
sources_follow (s ∷ sources) lines rest last =
    ap (logs_follow last) (append_assoc (source_lines s) (flat_map source_lines sources) lines) ∙ logs_here s.name s.log (flat_map source_lines sources ++ lines) (sources_follow sources lines rest)

-- ---- the lines without logs

quiet_patience : (o : Option ℕ) → are_quiet (patience_lines o) ≡ true
quiet_patience None = refl
quiet_patience (Some n) = refl

quiet_operator : (plan : Plan) (f : FragSpec) (op : OpSpec) → is_quiet (operator_line plan f op) ≡ true
quiet_operator plan f op = of_kind op.kind
  where
    of_kind : (k : OpKind) → is_quiet (operator_line plan f (record op { kind = k })) ≡ true
    of_kind (kind.Filter e) = refl
    of_kind (kind.Map es) = refl
    of_kind kind.Union = refl
    of_kind (kind.Join within keys) = refl
    of_kind (kind.Aggregate size step group aggs) = refl

quiet_frag : (plan : Plan) (f : FragSpec) → are_quiet (frag_lines plan f) ≡ true
quiet_frag plan f = both_quiet (patience_lines f.delay) (map (operator_line plan f) f.ops) (quiet_patience f.delay) (each_quiet (operator_line plan f) f.ops (quiet_operator plan f))

quiet_directive : (plan : Plan) (x : Directive) → is_quiet (directive_line plan x) ≡ true
quiet_directive plan (Emit s t) = refl
quiet_directive plan (Release s t) = refl
quiet_directive plan (Cut a b) = refl
quiet_directive plan (Heal a b) = refl
quiet_directive plan (Lose a b) = refl
quiet_directive plan (Repeat a b) = refl
quiet_directive plan (Crash a) = refl
quiet_directive plan (Restart a) = refl

quiet_phase : (plan : Plan) (p : Phase) → are_quiet (phase_lines plan p) ≡ true
quiet_phase plan p = both_quiet (map (directive_line plan) p.directives) (number_line (codes "tick") p.now ∷ []) (each_quiet (directive_line plan) p.directives (quiet_directive plan)) refl

quiet_settle : (settle : Bool) → are_quiet (settle_lines settle) ≡ true
quiet_settle true = refl
quiet_settle false = refl

quiet_rest : (s : Script) → are_quiet (flat_map (frag_lines s.plan) s.plan.frags ++ (map (client_line s.plan) s.plan.clients ++ lines_from_begin s)) ≡ true
quiet_rest s =
    let run : are_quiet (lines_from_begin s) ≡ true = both_quiet (flat_map (phase_lines s.plan) s.phases) (settle_lines s.settle) (all_quiet (phase_lines s.plan) s.phases (quiet_phase s.plan)) (quiet_settle s.settle) in
    both_quiet (flat_map (frag_lines s.plan) s.plan.frags) (map (client_line s.plan) s.plan.clients ++ lines_from_begin s) (all_quiet (frag_lines s.plan) s.plan.frags (quiet_frag s.plan))
    (both_quiet (map (client_line s.plan) s.plan.clients) (lines_from_begin s) (each_quiet (client_line s.plan) s.plan.clients (λ c. refl)) run)

logs_in_order : (s : Script) → logs_follow [] (script_lines s) ≡ true
logs_in_order s =
    let rest : List (List Word) = flat_map (frag_lines s.plan) s.plan.frags ++ (map (client_line s.plan) s.plan.clients ++ lines_from_begin s) in
    ap (logs_follow []) (line_parts s) ∙ header_follows s.plan (flat_map source_lines s.plan.sources ++ rest) (sources_follow s.plan.sources rest (λ last. quiet_follow last rest (quiet_rest s))) []

-- ---- the law

pub is_text : (s : Script) → script_text s ≡ text_of (script_lines s)
unfolding script_text
is_text s = refl

printed_canonical : (s : Script) → is_in_range s ≡ true → refers_to_names s ≡ true → IsCanonical (script_text s)
printed_canonical s in_range named =
    record {
      spaced = is_spaced;
      nothing_skipped = ap (list_any is_skipped) (printed_lines s in_range named) ∙ none_skipped nothing_yet (script_lines s) (statements_of s) (script_says s in_range named);
      logs = ap (logs_follow []) (printed_words s in_range named) ∙ logs_in_order s;
    }
  where
    is_spaced : script_text s ≡ text_of (map words_of (lines_of (script_text s)))
    is_spaced = is_text s ∙ ap text_of (sym (printed_words s in_range named))

pub prints_canonical : PrintsCanonical
prints_canonical s c = printed_canonical s c.in_range (checked_refers s c)
