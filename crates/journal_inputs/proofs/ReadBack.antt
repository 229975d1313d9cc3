-- What is printed, and what is upgraded, is read back.
use Rattle.std.proofs.Common.{◌≡◌, ℕ, ◌^◌, ◌<◌, ◌≤◌, Bool, true, false, List, [], ◌∷◌, ◌++◌, length, Option, Some, None, refl, sym, ap, ◌∙◌, subst}
use Rattle.std.specs.Prelude.{◌&&◌, not, filter, if◌then◌else◌, unwrap_or, option_map, codes, bytes_eq, Result, Ok, Err, ◌==◌}
use Rattle.std.proofs.lemmas.Bool.{and_parts}
use Rattle.std.proofs.lemmas.List.{append-nil, append_assoc}
use Rattle.dpc_lists.specs.Lists.{is_nil, list_all}
use Rattle.dpc_model.specs.Words.{Word, spaced, line_of, text_of}
use Rattle.dpc_model.specs.ScriptText.{script_text, script_lines, upgraded}
use Rattle.dpc_model.specs.declared.messages.Event.{Event}
use Rattle.dpc_model.specs.declared.plans.Plan.{Plan}
use Rattle.dpc_model.specs.declared.scripts.Script.{Script}
use Rattle.script_rules.specs.declared.reasons.PlanFault.{PlanFault}
use Rattle.script_rules.specs.Lines.{pieces, lines_of}
use Rattle.script_rules.specs.Statements.{word}
use Rattle.script_rules.specs.Reading.{reading, read}
use Rattle.script_rules.specs.Reading as whole
use Rattle.script_rules.specs.Checking.{IsChecked}
use Rattle.script_rules.proofs.Apart.{same_word}
use Rattle.law_scripts.proofs.Printing.{reads_back}
use Rattle.law_scripts.proofs.ReadChecked.{reads_checked}
use Rattle.law_scripts.proofs.UpgradedRanges.{upgraded-checked}
use Rattle.script_words.specs.Numbers.{u64_of}
use Rattle.journal_text.specs.Entries.{is_named, has_small_numbers}
use Rattle.journal_text.specs.Journals.{counted, opened, journal_text, entries_of, journal_of_lines, journal_of}
use Rattle.journal_text.proofs.ByLines.{by_lines}
use Rattle.journal_text.proofs.Named.{clear_names}
use Rattle.journal_text.proofs.Printed.{read_back}
use Rattle.journal_text.proofs.Reprinted.{is_printed}
use Rattle.journal_inputs.specs.Parts.{begins_journal, script_part, journal_part}
use Rattle.journal_inputs.specs.Inputs.{script_or_refusal, journal_or_refusal, script_in, journal_in, with_journal, and_then, input_of, upgraded_text, upgraded_with}
use Rattle.journal_inputs.specs.Upgrades.{IsUpgradeOf}
use Rattle.input_parts.proofs.Beside.{script_has_none, are_parts}
use Rattle.input_parts.proofs.Keys.{journal_apart}
use Rattle.journal_inputs.proofs.ByParts.{is_upgrade}

-- ---- a text that is a journal begins one

counted_begins : (line : List ℕ) (ps : List Word) (n : ℕ) → pieces 32 line ≡ ps → counted ps ≡ Some n → begins_journal line ≡ true
counted_begins line [] n e h = absurd cc
counted_begins line (w ∷ []) n e h = absurd cc
counted_begins line (w ∷ v ∷ []) n e h = absurd cc
counted_begins line (w ∷ v ∷ x ∷ []) n e h =
    (elim (bytes_eq w (codes "journal") && bytes_eq v (codes "3")) as (λ t. (bytes_eq w (codes "journal") && bytes_eq v (codes "3")) ≡ t → (if t then u64_of x else None) ≡ Some n → begins_journal line ≡ true) [
      | true ↦ λ is h.
          let first : w ≡ codes "journal" = same_word w (codes "journal") (and_parts (bytes_eq w (codes "journal")) (bytes_eq v (codes "3")) is).0 in
          let all : pieces 32 line ≡ codes "journal" ∷ v ∷ x ∷ [] = e ∙ ap (λ y. y ∷ v ∷ x ∷ []) first in
          ap (λ q. bytes_eq (word (filter (λ w. not (is_nil w)) q) 0) (codes "journal")) all
      | false ↦ λ is h. absurd cc
    ]) refl h
counted_begins line (w ∷ v ∷ x ∷ y ∷ ps) n e h = absurd cc

opened_begins : (plan : Plan) (line : List ℕ) (count : Option ℕ) → opened plan line ≡ Some count → begins_journal line ≡ true
opened_begins plan line count = by_version (plan.version == 3)
  where
    wide : (o : Option ℕ) → counted (pieces 32 line) ≡ o → option_map Some o ≡ Some count → begins_journal line ≡ true
    wide None e h = absurd cc
    wide (Some n) e h = counted_begins line (pieces 32 line) n refl e

    by_version : (t : Bool) → (if t then option_map Some (counted (pieces 32 line)) else if bytes_eq line (codes "journal") then Some None else None) ≡ Some count → begins_journal line ≡ true
    by_version true h = wide (counted (pieces 32 line)) refl h
    by_version false h =
        (elim (bytes_eq line (codes "journal")) as (λ t. bytes_eq line (codes "journal") ≡ t → (if t then Some None else None) ≡ Some count → begins_journal line ≡ true) [
          | true ↦ λ is h. ap begins_journal (same_word line (codes "journal") is)
          | false ↦ λ is h. absurd cc
        ]) refl h

record Begins (text : List ℕ) : Type 0 where
  line : List ℕ
  rest : List (List ℕ)
  are : lines_of text ≡ line ∷ rest
  is : begins_journal line ≡ true

journal_begins : (plan : Plan) (text : List ℕ) (events : List Event) → journal_of plan text ≡ Ok events → Begins text
journal_begins plan text events h = by_first (lines_of text) refl (sym (by_lines plan text (lines_of text) refl) ∙ h)
  where
    by_count : (line : List ℕ) (rest : List (List ℕ)) (o : Option (Option ℕ)) → lines_of text ≡ line ∷ rest → opened plan line ≡ o →
        ◌≡◌ {A = Result (List Event) (ℕ × ℕ)} (elim o [ None ↦ Err (0, 1) | Some count ↦ entries_of plan count [] rest ]) (Ok events) → Begins text
    by_count line rest None e o h = absurd cc
    by_count line rest (Some count) e o h = record { line = line; rest = rest; are = e; is = opened_begins plan line count o }

    by_first : (lines : List (List ℕ)) → lines_of text ≡ lines → journal_of_lines plan lines ≡ Ok events → Begins text
    by_first [] e h = absurd cc
    by_first (line ∷ rest) e h = by_count line rest (opened plan line) e refl h

-- ---- both, one behind the other

pub script_at_hand : (r : Result Script PlanFault) (s : Script) → whole.script_in r ≡ Some s → script_or_refusal r ≡ Ok s
script_at_hand (Ok q) s h = let same : q ≡ s = cc in ap (λ x. Ok x) same
script_at_hand (Err fault) s h = absurd cc

pub both_read : (front script journal : List ℕ) (s : Script) (events : List Event) → script ≡ front ++ 10 ∷ [] → read script ≡ Some s → journal_of s.plan journal ≡ Ok events → input_of (script ++ journal) ≡ Ok (s, events)
unfolding input_of
both_read front script journal s events e is journal_is =
    let begins = journal_begins s.plan journal events journal_is in
    let parts = are_parts (codes "journal") front script journal begins.line begins.rest e (script_has_none (codes "journal") journal_apart script s is) begins.are begins.is in
    let first : script_in (script_part (script ++ journal)) ≡ Ok s = ap script_in parts.script_is ∙ script_at_hand (reading script) s is in
    ap (λ r. and_then r (λ s. with_journal s (journal_in s.plan (unwrap_or (journal_part (script ++ journal)) [])))) first
    ∙ ap (λ o. with_journal s (journal_in s.plan (unwrap_or o []))) parts.journal_is
    ∙ ap (λ r. with_journal s (journal_or_refusal r)) journal_is

-- ---- what is printed

text_ends : (lines : List (List Word)) → is_nil lines ≡ false → (front : List ℕ) × (text_of lines ≡ front ++ 10 ∷ [])
text_ends [] some = absurd cc
text_ends (line ∷ []) some = (spaced line, append-nil (line_of line))
text_ends (line ∷ next ∷ lines) some =
    let rest = text_ends (next ∷ lines) refl in
    (line_of line ++ rest.0, ap (λ x. line_of line ++ x) rest.1 ∙ sym (append_assoc (line_of line) rest.0 (10 ∷ [])))

script_ends : (s : Script) → (front : List ℕ) × (script_text s ≡ front ++ 10 ∷ [])
unfolding script_text
script_ends s = text_ends (script_lines s) refl

pub printed_is_read : (s : Script) (events : List Event) → IsChecked s → list_all (is_named s.plan) events ≡ true → list_all has_small_numbers events ≡ true → length events < 2 ^ 64 →
    length (script_text s) ≤ 2 ^ 26 → input_of (script_text s ++ journal_text s.plan events true) ≡ Ok (s, events)
printed_is_read s events checked named small few short =
    let ends = script_ends s in
    both_read ends.0 (script_text s) (journal_text s.plan events true) s events ends.1 (reads_back s checked short) (read_back s.plan (clear_names s checked) events named small few)

-- ---- what is upgraded

same_script : (text : List ℕ) (s q : Script) → read text ≡ Some s → read text ≡ Some q → s ≡ q
same_script text s q is other = let same : Some s ≡ Some q = sym is ∙ other in cc

is_alone : (s : Script) (o : Option (List ℕ)) (new : List ℕ) → o ≡ None → IsUpgradeOf s o new → new ≡ script_text (upgraded s)
is_alone s o new e h = subst (λ x. IsUpgradeOf s x new) e h

pub upgraded_script_is_read : (text new : List ℕ) (s : Script) → upgraded_text text ≡ Ok new → read (script_part text) ≡ Some s → journal_part text ≡ None → length (script_text (upgraded s)) ≤ 2 ^ 26 →
    read new ≡ Some (upgraded s)
upgraded_script_is_read text new s h is alone short =
    let u = is_upgrade text new h in
    let same : u.script ≡ s = same_script (script_part text) u.script s u.old.is is in
    let text_is : new ≡ script_text (upgraded s) = is_alone u.script (journal_part text) new alone u.new_parts ∙ ap (λ x. script_text (upgraded x)) same in
    ap read text_is ∙ reads_back (upgraded s) (upgraded-checked s (reads_checked (script_part text) s is)) short

is_with_journal : (s : Script) (o : Option (List ℕ)) (new journal : List ℕ) (events : List Event) → o ≡ Some journal → journal_of s.plan journal ≡ Ok events → IsUpgradeOf s o new → new ≡ upgraded_with s events
is_with_journal s o new journal events e is h =
    let u = subst (λ x. IsUpgradeOf s x new) e h in
    let both : Ok u.0 ≡ Ok events = sym u.1 ∙ is in
    let same : u.0 ≡ events = cc in
    u.2 ∙ ap (upgraded_with s) same

pub upgraded_input_is_read : (text new journal : List ℕ) (s : Script) (events : List Event) → upgraded_text text ≡ Ok new → read (script_part text) ≡ Some s → journal_part text ≡ Some journal →
    journal_of s.plan journal ≡ Ok events → length events < 2 ^ 64 → length (script_text (upgraded s)) ≤ 2 ^ 26 → input_of new ≡ Ok (upgraded s, events)
upgraded_input_is_read text new journal s events h is there journal_is few short =
    let u = is_upgrade text new h in
    let same : u.script ≡ s = same_script (script_part text) u.script s u.old.is is in
    let printed = is_printed s.plan journal events journal_is in
    let text_is : new ≡ upgraded_with s events =
    is_with_journal s (journal_part text) new journal events there journal_is (subst (λ x. IsUpgradeOf x (journal_part text) new) same u.new_parts) in
    ap input_of text_is
    ∙ printed_is_read (upgraded s) events (upgraded-checked s (reads_checked (script_part text) s is)) (still_named s.plan events printed.named) printed.small few short
  where
    named_same : (plan : Plan) (e : Event) → is_named (record plan { version = 3 }) e ≡ is_named plan e
    named_same plan e = refl

    still_named : (plan : Plan) (es : List Event) → list_all (is_named plan) es ≡ true → list_all (is_named (record plan { version = 3 })) es ≡ true
    still_named plan es h = h
