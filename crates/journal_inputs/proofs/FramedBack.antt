-- A script and the frames of a journal behind it are read back.
use Rattle.std.proofs.Common.{◌≡◌, ℕ, true, List, [], ◌∷◌, ◌++◌, Some, refl, ap, ◌∙◌}
use Rattle.std.specs.Prelude.{Ok, codes}
use Rattle.dpc_lists.specs.Lists.{list_all}
use Rattle.dpc_model.specs.declared.messages.Event.{Event}
use Rattle.dpc_model.specs.declared.scripts.Script.{Script}
use Rattle.script_rules.specs.Lines.{lines_of}
use Rattle.script_rules.specs.Reading.{reading, read}
use Rattle.stream_codec.specs.Frames.{is_in_range}
use Rattle.stream_codec.specs.declared.frames.Frame.TheVariants as frame
use Rattle.frame_lists.specs.Lists.{entry_frames}
use Rattle.frame_lists.proofs.ReadBack.{entries-back}
use Rattle.input_parts.specs.Parts.{part_before, part_from}
use Rattle.input_parts.proofs.Beside.{script_has_none, are_parts}
use Rattle.input_parts.proofs.Keys.{frames_apart}
use Rattle.journal_inputs.specs.Inputs.{and_then, script_in, journal_or_refusal, with_journal}
use Rattle.journal_inputs.specs.Framed.{framed_journal, or_reason_one, framed_input_of, framed_text}
use Rattle.journal_inputs.proofs.ReadBack.{script_at_hand}

pub framed_back : (front script : List ℕ) (s : Script) (events : List Event) → script ≡ front ++ 10 ∷ [] → read script ≡ Some s →
    list_all (λ e. is_in_range (frame.Entry e)) events ≡ true → framed_input_of (script ++ framed_text events) ≡ Ok (s, events)
unfolding framed_input_of
framed_back front script s events e is range =
    let parts = are_parts (codes "frames") front script (framed_text events) (codes "frames") (lines_of (entry_frames events)) e
    (script_has_none (codes "frames") frames_apart script s is) refl refl in
    let first : script_in (part_before (codes "frames") (script ++ framed_text events)) ≡ Ok s = ap script_in parts.script_is ∙ script_at_hand (reading script) s is in
    let journal : framed_journal (Some (framed_text events)) ≡ Ok events = ap or_reason_one (entries-back events range) in
    ap (λ r. and_then r (λ s. with_journal s (journal_or_refusal (framed_journal (part_from (codes "frames") (script ++ framed_text events)))))) first
    ∙ ap (λ o. with_journal s (journal_or_refusal (framed_journal o))) parts.journal_is
    ∙ ap (λ r. with_journal s (journal_or_refusal r)) journal
