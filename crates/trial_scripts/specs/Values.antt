-- Trials of a script's value beside its text.
use Rattle.std.specs.Prelude.{ℕ, Bool, true, false, not, ◌&&◌, ◌==◌, List, [], Option, Some, None, is_none, fold, flat_map, option_map, unwrap_or, bytes_eq, map}
use Rattle.dpc_lists.specs.Lists.{list_all, list_any}
use Rattle.dpc_model.specs.Words.{text_of}
use Rattle.dpc_model.specs.ScriptText.{script_text}
use Rattle.dpc_model.specs.declared.plans.ClientSpec.{ClientSpec}
use Rattle.dpc_model.specs.declared.scripts.Phase.{Phase}
use Rattle.dpc_model.specs.declared.scripts.Script.{Script}
use Rattle.script_rules.specs.declared.reasons.PlanFault.{PlanFault}
use Rattle.script_rules.specs.ReasonTable.{number_of}
use Rattle.script_rules.specs.Lines.{lines_of, words_of, is_skipped}
use Rattle.script_rules.specs.Drafts.{nothing_yet, script_of}
use Rattle.script_rules.specs.Reasons.{has_twice}
use Rattle.script_rules.specs.Reading.{with_line, read, refusal}
use Rattle.script_rules.specs.Checking.{check, is_in_range}
use Rattle.script_rules.specs.Canonical.{logs_follow}
use Rattle.script_rules.specs.Facts.{log_fits, frag_fits, is_there, names_of, directive_fits}
use Rattle.script_rules.specs.Laws.{refers_to_names}

-- the script that the lines of a text say, also where a reason stands against them
abbrev pub script_said : List ℕ → Script
script_said text = script_of (fold with_line nothing_yet (lines_of text))

abbrev pub same_fault : Option PlanFault → Option PlanFault → Bool
same_fault None None = true
same_fault (Some f) (Some g) = f.line == g.line && number_of f.reason == number_of g.reason
same_fault None (Some g) = false
same_fault (Some f) None = false

-- a faulty value in range, each of whose lines can be written, is refused as its text is
abbrev pub is_refused_alike : Script → Bool
is_refused_alike s = is_in_range s && refers_to_names s && not (is_none (check s)) && same_fault (check s) (refusal (script_text s))

-- what may be relied on in a checked script
abbrev pub has_facts : Script → Bool
has_facts s =
    list_all (log_fits s.plan.end) s.plan.sources && list_all (frag_fits s.plan) s.plan.frags
    && list_all (λ (c : ClientSpec). is_there s.plan c.input) s.plan.clients && not (has_twice (names_of s.plan))
    && list_all (directive_fits s.plan) (flat_map (λ (p : Phase). p.directives) s.phases)

abbrev pub is_canonical : List ℕ → Bool
is_canonical text =
    bytes_eq text (text_of (map words_of (lines_of text))) && not (list_any is_skipped (lines_of text)) && logs_follow [] (map words_of (lines_of text))

-- a script that is checked, with its facts, and whose text is canonical
abbrev pub is_good : Script → Bool
is_good s = is_none (check s) && is_in_range s && has_facts s && refers_to_names s && is_canonical (script_text s)

abbrev pub reads_good : List ℕ → Bool
reads_good text = unwrap_or (option_map is_good (read text)) false
