-- What is printed of a script is canonical, and is read or refused as that script.
use Rattle.std.proofs.Common.{◌≡◌, ◌^◌, ◌≤◌, true, map, length, Some, None, ap, ◌∙◌}
use Rattle.std.specs.Prelude.{Err, if◌then◌else◌}
use Rattle.std.proofs.lemmas.Bool.{le-ltb}
use Rattle.dpc_lists.specs.Lists.{list_all}
use Rattle.dpc_model.specs.Words.{spaced}
use Rattle.dpc_model.specs.ScriptText.{script_text, script_lines}
use Rattle.dpc_model.specs.declared.scripts.Script.{Script}
use Rattle.script_rules.specs.declared.reasons.Reason.TheVariants.{PastLimit}
use Rattle.script_rules.specs.Lines.{lines_of, words_of}
use Rattle.script_rules.specs.Drafts.{nothing_yet}
use Rattle.script_rules.specs.Reading.{read_from, concluded, reading, fault_in, script_in}
use Rattle.script_rules.specs.Checking.{IsChecked, is_in_range, statements_of, check_from, check}
use Rattle.script_rules.specs.Laws.{refers_to_names, ReadsBack, RefusesAsChecked}
use Rattle.script_rules.proofs.SaysItself.{says_itself}
use Rattle.law_scripts.proofs.Lines.{is_plain, lines_of-text, words_of-lines}
use Rattle.law_scripts.proofs.Says.{lines_plain, judged, reads_as_judged, judged_refuses, judged_reads}
use Rattle.law_scripts.proofs.Scripts.{script_says}
use Rattle.law_scripts.proofs.Checked.{checked_refers}

-- the lines of what is printed
module _ (s : Script) (in_range : is_in_range s ≡ true) (named : refers_to_names s ≡ true) where
  plain : list_all (list_all is_plain) (script_lines s) ≡ true
  plain = lines_plain nothing_yet (script_lines s) (statements_of s) (script_says s in_range named)

  pub printed_lines : lines_of (script_text s) ≡ map spaced (script_lines s)
  unfolding script_text
  printed_lines = lines_of-text (script_lines s) plain

  pub printed_words : map words_of (lines_of (script_text s)) ≡ script_lines s
  printed_words = ap (map words_of) printed_lines ∙ words_of-lines (script_lines s) plain

  printed_is_read : length (script_text s) ≤ 2 ^ 26 → reading (script_text s) ≡ concluded (judged 1 nothing_yet (statements_of s))
  unfolding reading
  printed_is_read short =
      ap (λ t. if t then Err (record { line = 0; reason = PastLimit }) else concluded (read_from 1 nothing_yet (lines_of (script_text s)))) (le-ltb (2 ^ 26) (length (script_text s)) short)
      ∙ ap (λ lines. concluded (read_from 1 nothing_yet lines)) printed_lines
      ∙ ap concluded (reads_as_judged 1 nothing_yet (script_lines s) (statements_of s) (script_says s in_range named))

pub refuses_as_checked : RefusesAsChecked
unfolding check
refuses_as_checked s in_range named short = ap fault_in (printed_is_read s in_range named short) ∙ judged_refuses 1 nothing_yet (statements_of s)

no_fault : (s : Script) → IsChecked s → check_from 1 nothing_yet (statements_of s) ≡ None
unfolding check
no_fault s c = c.faultless

pub reads_back : ReadsBack
reads_back s c short =
    ap script_in (printed_is_read s c.in_range (checked_refers s c) short) ∙ ap (λ r. script_in (concluded r)) (judged_reads 1 nothing_yet (statements_of s) (no_fault s c))
    ∙ ap Some (says_itself s c)
