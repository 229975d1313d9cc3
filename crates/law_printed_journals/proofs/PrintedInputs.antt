-- The text of a live journal, behind its script's text, is an input of both.
use Rattle.std.proofs.Common.{◌≡◌, ℕ, ◌^◌, ◌<◌, Bool, true, false, List, [], ◌∷◌, ◌++◌, map, length, Some, None, refl, sym, ap, ◌∙◌, arith}
use Rattle.std.specs.Prelude.{Result, Ok, Err, ◌==◌, codes, bytes_eq, decimal, if◌then◌else◌}
use Rattle.std.proofs.lemmas.List.{append-nil, append_assoc}
use Rattle.dpc_lists.specs.Lists.{list_all}
use Rattle.dpc_model.specs.Words.{Word, spaced, line_of, text_of}
use Rattle.dpc_model.specs.declared.messages.Event.{Event}
use Rattle.dpc_model.specs.declared.plans.Plan.{Plan}
use Rattle.dpc_model.specs.declared.scripts.Script.{Script}
use Rattle.script_rules.specs.declared.reasons.PlanFault.{PlanFault}
use Rattle.script_rules.specs.Checking.{IsChecked}
use Rattle.script_rules.specs.Lines.{lines_of}
use Rattle.script_rules.specs.Statements.{word}
use Rattle.script_rules.specs.Reading.{reading, read}
use Rattle.script_rules.specs.Reading as whole
use Rattle.law_scripts.proofs.Lines.{is_plain, words_of-spaced, lines_of-text}
use Rattle.law_scripts.proofs.Plain.{plain_decimal}
use Rattle.law_scripts.proofs.ReadChecked.{reads_checked}
use Rattle.world_model.specs.Worlds.{excess}
use Rattle.world_model.specs.Schedules.{is_live_so_far, is_live}
use Rattle.world_model.specs.Replays.{Whole, replay_end}
use Rattle.law_journals.proofs.Replayed.{whole-where}
use Rattle.journal_text.specs.Entries.{entry_words, is_named, has_small_numbers}
use Rattle.journal_text.specs.Journals.{first_words, last_lines, journal_text}
use Rattle.journal_text.proofs.Named.{clear_names}
use Rattle.journal_text.proofs.Printed.{read_back, without_end}
use Rattle.journal_inputs.specs.Parts.{begins_journal}
use Rattle.journal_inputs.specs.Inputs.{script_or_refusal, journal_or_refusal, with_journal, input_of}
use Rattle.journal_inputs.specs.declared.faults.Refusal.TheVariants as refused
use Rattle.journal_inputs.specs.declared.faults.InputFault.TheVariants.{Refused}
use Rattle.input_parts.proofs.Beside.{script_has_none, lines_behind, are_parts}
use Rattle.input_parts.proofs.Keys.{journal_apart}
use Rattle.journal_inputs.proofs.Refused.{input_with_journal}
use Rattle.journal_inputs.proofs.ReadBack.{both_read}
use Rattle.law_printed_journals.proofs.Printable.{entries-named, entries-small}

-- ---- the first line

first-plain : (plan : Plan) (n : ℕ) → n < 2 ^ 64 → list_all is_plain (first_words plan n) ≡ true
first-plain plan n low =
    elim (plan.version == 3) as (λ t. list_all is_plain (if t then codes "journal" ∷ codes "3" ∷ decimal n ∷ [] else codes "journal" ∷ []) ≡ true) [
      | true ↦ rw (plain_decimal n low) refl
      | false ↦ refl
    ]

first-word : (plan : Plan) (n : ℕ) → word (first_words plan n) 0 ≡ codes "journal"
first-word plan n =
    elim (plan.version == 3) as (λ t. word (if t then codes "journal" ∷ codes "3" ∷ decimal n ∷ [] else codes "journal" ∷ []) 0 ≡ codes "journal") [
      | true ↦ refl
      | false ↦ refl
    ]

-- it begins a journal
begins-so : (plan : Plan) (n : ℕ) → n < 2 ^ 64 → begins_journal (spaced (first_words plan n)) ≡ true
begins-so plan n low =
    ap (λ (words : List Word). bytes_eq (word words 0) (codes "journal")) (words_of-spaced (first_words plan n) (first-plain plan n low))
    ∙ ap (λ (w : Word). bytes_eq w (codes "journal")) (first-word plan n)

-- and stands before all others
first-line : (plan : Plan) (events : List Event) (ended : Bool) → length events < 2 ^ 64 →
    (rest : List (List ℕ)) × (lines_of (journal_text plan events ended) ≡ spaced (first_words plan (length events)) ∷ rest)
unfolding journal_text
first-line plan events ended low =
    let words = first_words plan (length events) in
    let rest = text_of (map (entry_words plan) events ++ last_lines ended) in
    let plain : list_all (list_all is_plain) (words ∷ []) ≡ true = rw (first-plain plan (length events) low) refl in
    let alone : lines_of (line_of words) ≡ spaced words ∷ [] = ap lines_of (sym (append-nil (line_of words))) ∙ lines_of-text (words ∷ []) plain in
    let behind = ap lines_of (append_assoc (spaced words) (10 ∷ []) rest) ∙ lines_behind (spaced words) rest in
    (lines_of rest, behind ∙ ap (λ (l : List (List ℕ)). l ++ lines_of rest) alone)

-- ---- the text behind its script's

script-at-hand : (r : Result Script PlanFault) (s : Script) → whole.script_in r ≡ Some s → script_or_refusal r ≡ Ok s
script-at-hand (Ok q) s h = let same : q ≡ s = cc in ap (λ x. Ok x) same
script-at-hand (Err fault) s h = absurd cc

module _ (front text : List ℕ) (script : Script) (events : List Event) (ends : text ≡ front ++ 10 ∷ []) (is : read text ≡ Some script)
    (live : is_live_so_far script events ≡ true) (within : excess script.plan events ≡ None) (short : length events < 2 ^ 62) where
  checked : IsChecked script
  checked = reads_checked text script is

  named : list_all (is_named script.plan) events ≡ true
  named = entries-named script events checked live

  small : list_all has_small_numbers events ≡ true
  small = entries-small script events checked live within short

  low : length events < 2 ^ 64
  low = omega (arith, short)

  -- with its end it is read back
  pub printed-input : input_of (text ++ journal_text script.plan events true) ≡ Ok (script, events)
  printed-input =
      both_read front text (journal_text script.plan events true) script events ends is
      (read_back script.plan (clear_names script checked) events named small low)

  -- without it it is refused
  pub unfinished-input : input_of (text ++ journal_text script.plan events false) ≡ Err (refused.Journal (length events) 3)
  unfinished-input =
      let journal = journal_text script.plan events false in
      let fault = without_end script.plan (clear_names script checked) events named small low in
      let line = spaced (first_words script.plan (length events)) in
      let first = first-line script.plan events false low in
      let begins = begins-so script.plan (length events) low in
      let parts = are_parts (codes "journal") front text journal line first.0 ends (script_has_none (codes "journal") journal_apart text script is) first.1 begins in
      input_with_journal (text ++ journal) text journal script (Err (Refused (refused.Journal (length events) 3))) (sym parts.script_is)
      (script-at-hand (reading text) script is) parts.journal_is (ap (λ r. with_journal script (journal_or_refusal r)) fault)

-- ---- its replay

pub replay-whole : (script : Script) (events : List Event) → is_live script events ≡ true → excess script.plan events ≡ None → replay_end script events ≡ Whole
replay-whole script events live within = (whole-where script events).1 (record { live = live; within = within })
