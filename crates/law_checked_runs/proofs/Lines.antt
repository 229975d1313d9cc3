-- What each line keeps holds of all that is read.
use Rattle.std.proofs.Common.{◌≡◌, ℕ, ◌+◌, true, false, List, [], ◌∷◌, Option, Some, None, refl, subst}
use Rattle.std.specs.Prelude.{Result, Ok, Err, if◌then◌else◌, drop}
use Rattle.dpc_model.specs.Words.{Word}
use Rattle.dpc_model.specs.declared.scripts.Script.{Script}
use Rattle.script_rules.specs.declared.reasons.Reason.TheVariants.{ForeignByte, PastLimit}
use Rattle.script_rules.specs.declared.reasons.PlanFault.{PlanFault}
use Rattle.script_rules.specs.declared.keywords.Keyword.{Keyword}
use Rattle.script_rules.specs.Lines.{lines_of, words_of, is_skipped}
use Rattle.script_rules.specs.Statements.{statement_of}
use Rattle.script_rules.specs.Drafts.{Draft, nothing_yet, and_then, script_of}
use Rattle.script_rules.specs.Reasons.{has_foreign_byte, first_of_tests, tests_of_words, tests_unless_skipped, keyword_in}
use Rattle.script_rules.specs.Reading.{fault_of, fault_of_end, with_words, with_line, read_from, is_too_large_text, concluded, reading, read, script_in}
use Rattle.script_rules.proofs.ReadForms.{further_tests}

-- a line against which there is no reason keeps it
abbrev pub IsKept : (Draft → Type 0) → Type 0
IsKept P = (d : Draft) (k : Keyword) (words : List Word) → first_of_tests (tests_of_words d (Some k) words) ≡ None → P d → P (and_then d (statement_of k words))

module _ (P : Draft → Type 0) (keeps : IsKept P) where
  words_keep : (d : Draft) (o : Option Keyword) (words : List Word) → first_of_tests (tests_of_words d o words) ≡ None → P d → P (with_words d o words)
  words_keep d None words none h = absurd cc
  words_keep d (Some k) words none h = keeps d k words none h

  line_keeps : (d : Draft) (line : List ℕ) → fault_of d line ≡ None → P d → P (with_line d line)
  unfolding fault_of with_line
  line_keeps d line none h =
      (elim (is_skipped line) as (λ b. first_of_tests (tests_unless_skipped b d (words_of line)) ≡ None → P (if b then d else with_words d (keyword_in d (words_of line)) (drop 1 (words_of line)))) [
        | true ↦ λ e. h
        | false ↦ λ e. words_keep d (keyword_in d (words_of line)) (drop 1 (words_of line)) e h
      ]) (further_tests (has_foreign_byte line) ForeignByte (tests_unless_skipped (is_skipped line) d (words_of line)) none)

  lines_keep : (n : ℕ) (d e : Draft) (lines : List (List ℕ)) → read_from n d lines ≡ Ok e → P d → P e
  lines_keep n d e [] read h =
      (elim (fault_of_end d) as (λ o. (elim o as (λ o. Result Draft PlanFault) [ None ↦ Ok d | Some r ↦ Err (record { line = n; reason = r }) ]) ≡ Ok e → P e) [
        | None ↦ λ read. let same : d ≡ e = cc in subst P same h
        | Some r ↦ λ read. absurd cc
      ]) read
  lines_keep n d e (line ∷ lines) read h =
      (elim (fault_of d line) as (λ o. fault_of d line ≡ o → (elim o as (λ o. Result Draft PlanFault) [ None ↦ read_from (n + 1) (with_line d line) lines | Some r ↦ Err (record { line = n; reason = r }) ]) ≡ Ok e → P e) [
        | None ↦ λ is read. lines_keep (n + 1) (with_line d line) e lines read (line_keeps d line is h)
        | Some r ↦ λ is read. absurd cc
      ]) refl read

  concluded_keeps : (r : Result Draft PlanFault) (s : Script) → ((d : Draft) → r ≡ Ok d → P d) → script_in (concluded r) ≡ Some s → (d : Draft) × (script_of d ≡ s) × P d
  concluded_keeps (Ok d) s all e = (d, cc, all d refl)
  concluded_keeps (Err fault) s all e = absurd cc

  -- what is read was said by a draft that has it
  pub read_keeps : P nothing_yet → (text : List ℕ) (s : Script) → read text ≡ Some s → (d : Draft) × (script_of d ≡ s) × P d
  unfolding reading
  read_keeps h text s =
      elim (is_too_large_text text) as (λ b. script_in (if b then Err (record { line = 0; reason = PastLimit }) else concluded (read_from 1 nothing_yet (lines_of text))) ≡ Some s → (d : Draft) × (script_of d ≡ s) × P d) [
        | true ↦ λ e. absurd cc
        | false ↦ λ e. concluded_keeps (read_from 1 nothing_yet (lines_of text)) s (λ d is. lines_keep 1 nothing_yet d (lines_of text) is h) e
      ]
