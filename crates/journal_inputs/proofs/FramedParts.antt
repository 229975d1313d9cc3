-- What an input of a script and a journal in frames is, by its parts.
use Rattle.std.proofs.Common.{◌≡◌, ℕ, List, Option, Some, None, ap, sym, ◌∙◌, subst}
use Rattle.std.specs.Prelude.{Result, Ok, Err, codes, Vec}
use Rattle.std.specs.declared.alloc.Global.{Global}
use Rattle.dpc_model.specs.declared.messages.Event.{Event}
use Rattle.dpc_model.specs.declared.scripts.Script.{Script}
use Rattle.script_rules.specs.Reading.{reading, read}
use Rattle.input_parts.specs.Parts.{part_before, part_from}
use Rattle.journal_inputs.specs.Inputs.{and_then, script_in, journal_or_refusal, with_journal, IsScript, IsJournal, IsInput}
use Rattle.journal_inputs.specs.Framed.{framed_journal, journal_in_frames, framed_input_of}
use Rattle.journal_inputs.specs.declared.faults.Refusal.{Refusal}
use Rattle.journal_inputs.specs.declared.faults.Refusal.TheVariants.{Journal as InJournal}
use Rattle.journal_inputs.specs.declared.faults.InputFault.{InputFault}
use Rattle.journal_inputs.proofs.ByParts.{ok_is, taken, script_is, journal_is}
use Rattle.journal_inputs.proofs.Refused.{handed_on, script_view, journal_view, input_view}

abbrev journal_behind : List ℕ → Result (List Event) Refusal
journal_behind bytes = journal_or_refusal (framed_journal (part_from (codes "frames") bytes))

abbrev behind : List ℕ → Script → Result (Script × List Event) Refusal
behind bytes s = with_journal s (journal_behind bytes)

-- ---- an input that is taken

pub record IsFramedBoth (bytes : List ℕ) (s : Script) (events : List Event) : Type 0 where
  pub script : read (part_before (codes "frames") bytes) ≡ Some s
  pub journal : framed_journal (part_from (codes "frames") bytes) ≡ Ok events

pub is_framed_both : (bytes : List ℕ) (s : Script) (events : List Event) → framed_input_of bytes ≡ Ok (s, events) → IsFramedBoth bytes s events
unfolding framed_input_of
is_framed_both bytes s events h =
    let first = taken (script_in (part_before (codes "frames") bytes)) (behind bytes) (s, events) h in
    let q = first.0 in
    let second = taken (journal_behind bytes) (λ es. Ok (q, es)) (s, events) first.2 in
    let both = ok_is (q, second.0) (s, events) second.2 in
    let script : q ≡ s = ap (λ (x : Script × List Event). x.0) both in
    let own : second.0 ≡ events = ap (λ (x : Script × List Event). x.1) both in
    record {
      script = script_is (reading (part_before (codes "frames") bytes)) q first.1 ∙ ap Some script;
      journal = journal_is (framed_journal (part_from (codes "frames") bytes)) second.0 second.1 ∙ ap (λ l. Ok l) own;
    }

-- ---- what code answers of the parts, it answers of the whole

pub framed_refused : (bytes part : List ℕ) (fault : InputFault) → part ≡ part_before (codes "frames") bytes → IsScript (script_in part) (Err fault) →
    IsInput (framed_input_of bytes) (Err fault)
unfolding framed_input_of
framed_refused bytes part fault e h =
    handed_on script_view input_view (script_in (part_before (codes "frames") bytes)) (behind bytes) fault (subst (λ p. IsScript (script_in p) (Err fault)) e h)

framed_read : (bytes part : List ℕ) (s : Script) (o : Option (List ℕ)) (r : Result (Script × Vec Event Global) InputFault) → part ≡ part_before (codes "frames") bytes → script_in part ≡ Ok s →
    part_from (codes "frames") bytes ≡ o → IsInput (with_journal s (journal_or_refusal (framed_journal o))) r → IsInput (framed_input_of bytes) r
unfolding framed_input_of
framed_read bytes part s o r e is there h =
    let same : and_then (script_in (part_before (codes "frames") bytes)) (behind bytes) ≡ with_journal s (journal_or_refusal (framed_journal o)) =
    ap (λ p. and_then (script_in p) (behind bytes)) (sym e) ∙ ap (λ x. and_then x (behind bytes)) is ∙ ap (λ j. with_journal s (journal_or_refusal (framed_journal j))) there in
    subst (λ x. IsInput x r) (sym same) h

pub framed_with_journal : (bytes part journal : List ℕ) (s : Script) (r : Result (Script × Vec Event Global) InputFault) → part ≡ part_before (codes "frames") bytes → script_in part ≡ Ok s →
    part_from (codes "frames") bytes ≡ Some journal → IsInput (with_journal s (journal_or_refusal (journal_in_frames journal))) r → IsInput (framed_input_of bytes) r
framed_with_journal bytes part journal s r e is there h = framed_read bytes part s (Some journal) r e is there h

pub framed_without_journal : (bytes part : List ℕ) (s : Script) → part ≡ part_before (codes "frames") bytes → script_in part ≡ Ok s → part_from (codes "frames") bytes ≡ None →
    framed_input_of bytes ≡ Err (InJournal 0 3)
unfolding framed_input_of
framed_without_journal bytes part s e is there =
    ap (λ p. and_then (script_in p) (behind bytes)) (sym e) ∙ ap (λ x. and_then x (behind bytes)) is ∙ ap (λ j. with_journal s (journal_or_refusal (framed_journal j))) there

pub behind_refused_by : (s : Script) (bytes : List ℕ) (fault : InputFault) → IsJournal (journal_or_refusal (journal_in_frames bytes)) (Err fault) →
    IsInput (with_journal s (journal_or_refusal (journal_in_frames bytes))) (Err fault)
behind_refused_by s bytes fault h = handed_on journal_view input_view (journal_or_refusal (journal_in_frames bytes)) (λ events. Ok (s, events)) fault h

pub behind_read_as : (s : Script) (bytes : List ℕ) (events : List Event) → journal_or_refusal (journal_in_frames bytes) ≡ Ok events →
    with_journal s (journal_or_refusal (journal_in_frames bytes)) ≡ Ok (s, events)
behind_read_as s bytes events e = ap (with_journal s) e
