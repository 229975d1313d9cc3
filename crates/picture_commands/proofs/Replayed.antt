-- What an input of a script and a journal comes to, where its run is drawn.
use Rattle.std.proofs.Common.{◌≡◌, ℕ, ◌<◌, ◌≤◌, List, length, Result, Ok, Err, IfOk, true, false, refl, sym, ap, subst, cond, nat_lt, arith}
use Rattle.std.specs.Prelude.{not, ◌&&◌}
use Rattle.std.proofs.lemmas.Bool.{lt-ltb, ltb-true}
use Rattle.dpc_model.specs.declared.messages.Event.{Event}
use Rattle.dpc_model.specs.declared.scripts.Script.{Script}
use Rattle.journal_commands.specs.Endings.{Ending, RefusedBy, IsEnding, told_or_open, most_journal_input}
use Rattle.journal_commands.specs.declared.outcome.Outcome.{Outcome}
use Rattle.journal_replay.specs.Stopping.{StopsSo}
use Rattle.journal_replay.specs.declared.faults.ReplayFault.{ReplayFault}
use Rattle.journal_replay.specs.declared.faults.ReplayFault.TheVariants.{NoMemory, TooLong, Refused, Unfinished}
use Rattle.journal_inputs.specs.Inputs.{input_of}
use Rattle.journal_inputs.specs.declared.faults.Refusal.{Refusal}
use Rattle.script_rules.specs.declared.reasons.Reason.TheVariants.{PastLimit}
use Rattle.status_lines.specs.Lines.{fault_line, entry_line}
use Rattle.world_core.specs.Runs.{RunOf, world_of}
use Rattle.world_model.specs.Replays.{ReplayEnd, replay_end}
use Rattle.world_model.specs.Replays as replay
use Rattle.world_model.specs.Worlds.{run, all_settled}
use Rattle.picture_model.specs.Marking.{losses_of}
use Rattle.picture_model.specs.declared.columns.Mark.{Mark}
use Rattle.picture_commands.specs.declared.form.PictureForm.{PictureForm}
use Rattle.picture_commands.specs.Endings.{drawn_run}
use Rattle.picture_commands.proofs.Ends.{whole-drawn}
use Rattle.picture_commands.specs.Replays.{IsHalted, replay_ending, replayed, replay_picture_ending}

-- one that is longer than the longest is refused
pub long-ending : (form : PictureForm) (text : List ℕ) → most_journal_input < length text →
    replay_picture_ending form text ≡ RefusedBy (fault_line (record { line = 0; reason = PastLimit }))
long-ending form text long =
    ap (λ b. cond {A = Ending} b (RefusedBy (fault_line (record { line = 0; reason = PastLimit }))) (replayed form (input_of text)))
    (lt-ltb most_journal_input (length text) long)

-- one that is not longer comes to what is defined
short-ending : (form : PictureForm) (text : List ℕ) → length text ≤ most_journal_input → replay_picture_ending form text ≡ replayed form (input_of text)
short-ending form text short =
    (elim (nat_lt most_journal_input (length text)) as (λ b. nat_lt most_journal_input (length text) ≡ b → replay_picture_ending form text ≡ replayed form (input_of text)) [
      | true ↦ λ e. let long = ltb-true most_journal_input (length text) e in absurd (omega (arith, long, short))
      | false ↦ λ e. ap (λ b. cond {A = Ending} b (RefusedBy (fault_line (record { line = 0; reason = PastLimit }))) (replayed form (input_of text))) e
    ]) refl

pub short-is : (form : PictureForm) (text : List ℕ) (outcome : Outcome) → length text ≤ most_journal_input → IsEnding (replayed form (input_of text)) outcome →
    IsEnding (replay_picture_ending form text) outcome
short-is form text outcome short h = subst (λ (e : Ending). IsEnding e outcome) (sym (short-ending form text short)) h

-- the world of a whole journal is drawn
pub whole-is : (form : PictureForm) (s : Script) (losses : List (List Mark)) (events : List Event) (w : RunOf) (outcome : Outcome) → losses ≡ losses_of s → w ≡ record { plan = s.plan; events = events; spent = false } →
    replay_end s events ≡ replay.Whole → IsEnding (told_or_open (s.settle && not (all_settled (world_of w))) (drawn_run form losses w.plan w.events)) outcome →
    IsEnding (replay_ending form s events (replay_end s events)) outcome
whole-is form s losses events w outcome told same is h =
    let settled = s.settle && not (all_settled (run s.plan events)) in
    let lost : IsEnding (told_or_open settled (drawn_run form (losses_of s) s.plan events)) outcome =
    subst (λ ls. IsEnding (told_or_open settled (drawn_run form ls s.plan events)) outcome) told
    (subst (λ (v : RunOf). IsEnding (told_or_open (s.settle && not (all_settled (world_of v))) (drawn_run form losses v.plan v.events)) outcome) same h) in
    let here : IsEnding (replay_ending form s events replay.Whole) outcome = subst (λ text. IsEnding (told_or_open settled text) outcome) (whole-drawn form s events) lost in
    subst (λ (end : ReplayEnd). IsEnding (replay_ending form s events end) outcome) (sym is) here

-- so is the line on what is wrong
pub fault-is : (form : PictureForm) (s : Script) (events : List Event) (e : ReplayEnd) (outcome : Outcome) → replay_end s events ≡ e → IsEnding (replay_ending form s events e) outcome →
    IsEnding (replay_ending form s events (replay_end s events)) outcome
fault-is form s events e outcome is h = subst (λ (end : ReplayEnd). IsEnding (replay_ending form s events end) outcome) (sym is) h

pub read-is : (form : PictureForm) (is : Result (Script × List Event) Refusal) (s : Script) (events : List Event) (outcome : Outcome) → is ≡ Ok (s, events) →
    IsEnding (replay_ending form s events (replay_end s events)) outcome → IsEnding (replayed form is) outcome
read-is form is s events outcome e h = subst (λ (i : Result (Script × List Event) Refusal). IsEnding (replayed form i) outcome) (sym e) h

-- what is told of a replay that stopped is what its journal comes to
pub halted-so : {E : Type 0} (form : PictureForm) (s : Script) (events : List Event) (entries : ℕ) (fault : ReplayFault) (r : Result Outcome E) → entries ≡ length events → StopsSo s events fault →
    IfOk r (IsHalted entries fault) → IfOk r (IsEnding (replay_ending form s events (replay_end s events)))
halted-so form s events entries fault (Err e) many stop h = tt
halted-so form s events entries NoMemory (Ok outcome) many stop h = absurd h
halted-so form s events entries (TooLong envelopes items) (Ok outcome) many stop h = fault-is form s events (replay.Passes stop.0 (record { envelopes = envelopes; items = items })) outcome stop.1 h
halted-so form s events entries (Refused k) (Ok outcome) many stop h = fault-is form s events (replay.Refused k) outcome stop h
halted-so form s events entries Unfinished (Ok outcome) many stop h =
    fault-is form s events replay.Unfinished outcome stop (subst (λ n. IsEnding (RefusedBy (entry_line n 3)) outcome) many h)
