-- What an upgraded text is, by the script and the journal that it was made of.
use Rattle.std.specs.Prelude.{◌≡◌, ◌⊎◌, ℕ, true, List, ◌++◌, Option, None, Some, Ok}
use Rattle.dpc_model.specs.ScriptText.{script_text, upgraded}
use Rattle.dpc_model.specs.declared.messages.Event.{Event}
use Rattle.dpc_model.specs.declared.scripts.Script.{Script}
use Rattle.script_rules.specs.Reading.{read}
use Rattle.journal_text.specs.Journals.{journal_text, journal_of}
use Rattle.journal_inputs.specs.Parts.{script_part, journal_part}

-- a script that can be upgraded
pub record IsOldScript (text : List ℕ) (s : Script) : Type 0 where
  pub is : read (script_part text) ≡ Some s
  pub version : (s.plan.version ≡ 1) ⊎ (s.plan.version ≡ 2)

-- the script of version 3, and behind it the journal in the form of version 3, where there was one
abbrev pub IsUpgradeOf : Script → Option (List ℕ) → List ℕ → Type 0
IsUpgradeOf s None new = new ≡ script_text (upgraded s)
IsUpgradeOf s (Some journal) new =
    (events : List Event) × (journal_of s.plan journal ≡ Ok events) × (new ≡ script_text (upgraded s) ++ journal_text (upgraded s).plan events true)

pub record IsUpgrade (text new : List ℕ) : Type 0 where
  pub script : Script
  pub old : IsOldScript text script
  pub new_parts : IsUpgradeOf script (journal_part text) new
