-- A journal is read line by line.
use Rattle.std.proofs.Common.{◌≡◌, ℕ, true, false, List, [], ◌∷◌, ◌++◌, length, Option, Some, None, sym, ap, ◌∙◌}
use Rattle.std.specs.Prelude.{Result, Err, codes, bytes_eq, if◌then◌else◌}
use Rattle.dpc_model.specs.declared.messages.Event.{Event}
use Rattle.dpc_model.specs.declared.plans.Plan.{Plan}
use Rattle.script_rules.specs.Lines.{lines_of}
use Rattle.journal_text.specs.Entries.{entry_of}
use Rattle.journal_text.specs.Journals.{opened, concluded, entries_of, journal_of_lines, journal_of}

abbrev Answer : Type 0
Answer = Result (List Event) (ℕ × ℕ)

-- the journal by its lines
pub by_lines : (plan : Plan) (text : List ℕ) (lines : List (List ℕ)) → lines_of text ≡ lines → journal_of plan text ≡ journal_of_lines plan lines
unfolding journal_of
by_lines plan text lines e = ap (journal_of_lines plan) e

abbrev behind_opening : Plan → List (List ℕ) → Option (Option ℕ) → Answer
behind_opening plan lines o = elim o [ None ↦ Err (0, 1) | Some count ↦ entries_of plan count [] lines ]

pub no_opening : (plan : Plan) (text line : List ℕ) (lines : List (List ℕ)) → lines_of text ≡ line ∷ lines → None ≡ opened plan line → journal_of plan text ≡ Err (0, 1)
no_opening plan text line lines e none = by_lines plan text (line ∷ lines) e ∙ ap (behind_opening plan lines) (sym none)

pub opening : (plan : Plan) (text line : List ℕ) (lines : List (List ℕ)) (count : Option ℕ) → lines_of text ≡ line ∷ lines → Some count ≡ opened plan line → entries_of plan count [] lines ≡ journal_of plan text
opening plan text line lines count e some = sym (by_lines plan text (line ∷ lines) e ∙ ap (behind_opening plan lines) (sym some))

module _ (plan : Plan) (count : Option ℕ) (events : List Event) where
  abbrev behind_entry : List (List ℕ) → Option Event → Answer
  behind_entry rest o = elim o [ None ↦ Err (length events, 1) | Some e ↦ entries_of plan count (events ++ e ∷ []) rest ]

  pub no_more : (lines : List (List ℕ)) → lines ≡ [] → entries_of plan count events lines ≡ Err (length events, 3)
  no_more lines e = ap (entries_of plan count events) e

  pub at_end : (line : List ℕ) (lines rest : List (List ℕ)) → lines ≡ line ∷ rest → true ≡ bytes_eq line (codes "journal end") → entries_of plan count events lines ≡ concluded count events rest
  at_end line lines rest e last = ap (entries_of plan count events) e ∙ ap (λ t. if t then concluded count events rest else behind_entry rest (entry_of plan line)) (sym last)

  at_line : (line : List ℕ) (lines rest : List (List ℕ)) (o : Option Event) → lines ≡ line ∷ rest → false ≡ bytes_eq line (codes "journal end") → o ≡ entry_of plan line → entries_of plan count events lines ≡ behind_entry rest o
  at_line line lines rest o e other is =
      ap (entries_of plan count events) e ∙ ap (λ t. if t then concluded count events rest else behind_entry rest (entry_of plan line)) (sym other) ∙ ap (behind_entry rest) (sym is)

  pub no_entry : (line : List ℕ) (lines rest : List (List ℕ)) → lines ≡ line ∷ rest → false ≡ bytes_eq line (codes "journal end") → None ≡ entry_of plan line → entries_of plan count events lines ≡ Err (length events, 1)
  no_entry line lines rest e other none = at_line line lines rest None e other none

  pub one_entry : (line : List ℕ) (lines rest : List (List ℕ)) (event : Event) → lines ≡ line ∷ rest → false ≡ bytes_eq line (codes "journal end") → Some event ≡ entry_of plan line →
      entries_of plan count events lines ≡ entries_of plan count (events ++ event ∷ []) rest
  one_entry line lines rest event e other some = at_line line lines rest (Some event) e other some
