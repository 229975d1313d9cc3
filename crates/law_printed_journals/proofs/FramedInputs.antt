-- The frames of a live journal, behind its script's text, are an input of both.
use Rattle.std.proofs.Common.{◌≡◌, ℕ, ◌^◌, ◌<◌, true, List, [], ◌∷◌, ◌++◌, length, Some, None}
use Rattle.std.specs.Prelude.{Ok}
use Rattle.dpc_model.specs.declared.messages.Event.{Event}
use Rattle.dpc_model.specs.declared.scripts.Script.{Script}
use Rattle.script_rules.specs.Reading.{read}
use Rattle.law_scripts.proofs.ReadChecked.{reads_checked}
use Rattle.world_model.specs.Worlds.{excess}
use Rattle.world_model.specs.Schedules.{is_live_so_far}
use Rattle.journal_inputs.specs.Framed.{framed_input_of, framed_text}
use Rattle.journal_inputs.proofs.FramedBack.{framed_back}
use Rattle.law_printed_journals.proofs.Ranged.{entries-ranged}

pub framed-input : (front text : List ℕ) (script : Script) (events : List Event) → text ≡ front ++ 10 ∷ [] → read text ≡ Some script →
    is_live_so_far script events ≡ true → excess script.plan events ≡ None → length events < 2 ^ 62 → framed_input_of (text ++ framed_text events) ≡ Ok (script, events)
framed-input front text script events ends is live within short =
    framed_back front text script events ends is (entries-ranged script events (reads_checked text script is) live within short)
