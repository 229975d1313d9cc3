-- What an input is, by what its parts are.
use Rattle.std.proofs.Common.{◌≡◌, ℕ, true, false, List, [], Option, Some, None, ap, ◌∙◌, subst, sym}
use Rattle.std.specs.Prelude.{Result, Ok, Err, ◌==◌, if◌then◌else◌, unwrap_or, Vec}
use Rattle.std.specs.declared.alloc.Global.{Global}
use Rattle.dpc_model.specs.declared.messages.Event.{Event}
use Rattle.dpc_model.specs.declared.scripts.Script.{Script}
use Rattle.journal_inputs.specs.declared.faults.Refusal.{Refusal}
use Rattle.journal_inputs.specs.declared.faults.Refusal.TheVariants.{Script as InScript}
use Rattle.journal_inputs.specs.declared.faults.InputFault.{InputFault}
use Rattle.journal_inputs.specs.declared.faults.InputFault.TheVariants.{NoMemory, Refused}
use Rattle.journal_inputs.specs.Parts.{script_part, journal_part}
use Rattle.journal_inputs.specs.Inputs.{and_then, Answers, IsScript, IsJournal, IsInput, IsText, script_in, journal_in, with_journal, input_of, newest_fault, older, upgraded_with, upgraded_behind, upgraded_parts, upgraded_text}

pub handed_on : {X Y U V : Type 0} (view : Y → X) (seen : V → U) (is : Result X Refusal) (f : X → Result U Refusal) (fault : InputFault) →
    Answers view is (Err fault) → Answers seen (and_then is f) (Err fault)
handed_on view seen is f NoMemory h = h
handed_on view seen is f (Refused why) h = ap (λ r. and_then r f) h

abbrev pub script_view : Script → Script
script_view s = s

abbrev pub journal_view : Vec Event Global → List Event
journal_view v = v.items

abbrev pub input_view : Script × Vec Event Global → Script × List Event
input_view x = (x.0, x.1.items)

abbrev text_view : Vec ℕ Global → List ℕ
text_view v = v.items

-- ---- a script and its journal

pub journal_refused : (s : Script) (text : List ℕ) (fault : InputFault) → IsJournal (journal_in s.plan text) (Err fault) → IsInput (with_journal s (journal_in s.plan text)) (Err fault)
journal_refused s text fault h = handed_on journal_view input_view (journal_in s.plan text) (λ events. Ok (s, events)) fault h

pub journal_read : (s : Script) (text : List ℕ) (events : List Event) → journal_in s.plan text ≡ Ok events → with_journal s (journal_in s.plan text) ≡ Ok (s, events)
journal_read s text events e = ap (with_journal s) e

abbrev behind : Option (List ℕ) → Script → Result (Script × List Event) Refusal
behind journal s = with_journal s (journal_in s.plan (unwrap_or journal []))

pub input_refused : (text part : List ℕ) (fault : InputFault) → part ≡ script_part text → IsScript (script_in part) (Err fault) → IsInput (input_of text) (Err fault)
unfolding input_of
input_refused text part fault e h =
    handed_on script_view input_view (script_in (script_part text)) (behind (journal_part text)) fault (subst (λ p. IsScript (script_in p) (Err fault)) e h)

input_read : (text part : List ℕ) (o : Option (List ℕ)) (s : Script) (r : Result (Script × Vec Event Global) InputFault) → part ≡ script_part text → script_in part ≡ Ok s →
    journal_part text ≡ o → IsInput (behind o s) r → IsInput (input_of text) r
unfolding input_of
input_read text part o s r e is there h =
    let same : and_then (script_in (script_part text)) (behind (journal_part text)) ≡ behind o s =
    ap (λ p. and_then (script_in p) (behind (journal_part text))) (sym e) ∙ ap (λ x. and_then x (behind (journal_part text))) is ∙ ap (λ j. behind j s) there in
    subst (λ x. IsInput x r) (sym same) h

pub input_with_journal : (text part journal : List ℕ) (s : Script) (r : Result (Script × Vec Event Global) InputFault) → part ≡ script_part text → script_in part ≡ Ok s →
    journal_part text ≡ Some journal → IsInput (with_journal s (journal_in s.plan journal)) r → IsInput (input_of text) r
input_with_journal text part journal s r e is there h = input_read text part (Some journal) s r e is there h

pub input_without_journal : (text part : List ℕ) (s : Script) (r : Result (Script × Vec Event Global) InputFault) → part ≡ script_part text → script_in part ≡ Ok s →
    journal_part text ≡ None → IsInput (with_journal s (journal_in s.plan [])) r → IsInput (input_of text) r
input_without_journal text part s r e is there h = input_read text part None s r e is there h

-- ---- what is upgraded

pub older_refused : (text : List ℕ) (fault : InputFault) → IsScript (script_in text) (Err fault) → IsScript (and_then (script_in text) older) (Err fault)
older_refused text fault h = handed_on script_view script_view (script_in text) older fault h

pub newest_refused : (text : List ℕ) (s : Script) → script_in text ≡ Ok s → (s.plan.version == 3) ≡ true →
    and_then (script_in text) older ≡ Err (InScript newest_fault)
newest_refused text s is newest = ap (λ r. and_then r older) is ∙ ap (λ t. if t then Err (InScript newest_fault) else Ok s) newest

pub older_read : (text : List ℕ) (s : Script) → script_in text ≡ Ok s → (s.plan.version == 3) ≡ false → and_then (script_in text) older ≡ Ok s
older_read text s is other = ap (λ r. and_then r older) is ∙ ap (λ t. if t then Err (InScript newest_fault) else Ok s) other

pub behind_refused : (s : Script) (journal : List ℕ) (fault : InputFault) → IsJournal (journal_in s.plan journal) (Err fault) → IsText (upgraded_behind s journal) (Err fault)
behind_refused s journal fault h = handed_on journal_view text_view (journal_in s.plan journal) (λ events. Ok (upgraded_with s events)) fault h

pub behind_read : (s : Script) (journal text : List ℕ) (events : List Event) → journal_in s.plan journal ≡ Ok events → text ≡ upgraded_with s events → upgraded_behind s journal ≡ Ok text
behind_read s journal text events is e = ap (λ r. and_then r (λ es. Ok (upgraded_with s es))) is ∙ ap (λ l. Ok l) (sym e)

pub upgrade_refused : (text part : List ℕ) (fault : InputFault) → part ≡ script_part text → IsScript (and_then (script_in part) older) (Err fault) → IsText (upgraded_text text) (Err fault)
unfolding upgraded_text
upgrade_refused text part fault e h =
    handed_on script_view text_view (and_then (script_in (script_part text)) older) (upgraded_parts (journal_part text)) fault
    (subst (λ p. IsScript (and_then (script_in p) older) (Err fault)) e h)

upgrade_read : (text part : List ℕ) (o : Option (List ℕ)) (s : Script) → part ≡ script_part text → and_then (script_in part) older ≡ Ok s → journal_part text ≡ o →
    upgraded_text text ≡ upgraded_parts o s
unfolding upgraded_text
upgrade_read text part o s e is there =
    ap (λ p. and_then (and_then (script_in p) older) (upgraded_parts (journal_part text))) (sym e) ∙ ap (λ x. and_then x (upgraded_parts (journal_part text))) is
    ∙ ap (λ j. upgraded_parts j s) there

pub upgrade_with_journal : (text part journal : List ℕ) (s : Script) (r : Result (Vec ℕ Global) InputFault) → part ≡ script_part text → and_then (script_in part) older ≡ Ok s →
    journal_part text ≡ Some journal → IsText (upgraded_behind s journal) r → IsText (upgraded_text text) r
upgrade_with_journal text part journal s r e is there h = subst (λ x. IsText x r) (sym (upgrade_read text part (Some journal) s e is there)) h

pub upgrade_without_journal : (text part : List ℕ) (s : Script) (r : Result (Vec ℕ Global) InputFault) → part ≡ script_part text → and_then (script_in part) older ≡ Ok s → journal_part text ≡ None →
    IsText (upgraded_parts None s) r → IsText (upgraded_text text) r
upgrade_without_journal text part s r e is there h = subst (λ x. IsText x r) (sym (upgrade_read text part None s e is there)) h
