-- What an input of a script and a journal comes to.
use Rattle.std.proofs.Common.{◌≡◌, ℕ, ◌<◌, ◌≤◌, List, length, Result, Ok, Err, IfOk, true, false, refl, sym, ap, subst, cond, nat_lt, arith}
use Rattle.std.specs.Prelude.{not, ◌&&◌}
use Rattle.std.proofs.lemmas.Bool.{lt-ltb, ltb-true}
use Rattle.dpc_model.specs.declared.messages.Event.{Event}
use Rattle.dpc_model.specs.declared.scripts.Script.{Script}
use Rattle.script_rules.specs.declared.reasons.Reason.TheVariants.{PastLimit}
use Rattle.status_lines.specs.Lines.{fault_line, too_long_line}
use Rattle.law_fit.specs.Fits.{CanRun}
use Rattle.law_safety.proofs.Law.{run-good}
use Rattle.dpc_model.specs.declared.plans.Plan.{Plan}
use Rattle.world_model.specs.Worlds.{Sums, run, all_settled}
use Rattle.world_model.specs.Replays.{ReplayEnd, replay_end}
use Rattle.world_model.specs.Replays as replay
use Rattle.world_core.specs.Runs.{RunOf, world_of}
use Rattle.report.specs.Text.{report_text}
use Rattle.journal_inputs.specs.declared.faults.Refusal.{Refusal}
use Rattle.journal_commands.specs.declared.outcome.JournalCommand.{JournalCommand}
use Rattle.journal_commands.specs.declared.outcome.Outcome.{Outcome}
use Rattle.journal_commands.specs.Endings.{Ending, PastLimits, RefusedBy, most_journal_input, ending_of, ending_in, IsEnding, told_or_open, replay_ending, replayed}

-- one that is longer than the longest is refused
pub long-ending : (what : JournalCommand) (text : List ℕ) → most_journal_input < length text →
    ending_of what text ≡ RefusedBy (fault_line (record { line = 0; reason = PastLimit }))
long-ending what text long =
    ap (λ b. cond {A = Ending} b (RefusedBy (fault_line (record { line = 0; reason = PastLimit }))) (ending_in what text)) (lt-ltb most_journal_input (length text) long)

-- one that is not longer comes to what is defined
pub short-ending : (what : JournalCommand) (text : List ℕ) → length text ≤ most_journal_input → ending_of what text ≡ ending_in what text
short-ending what text short =
    (elim (nat_lt most_journal_input (length text)) as (λ b. nat_lt most_journal_input (length text) ≡ b → ending_of what text ≡ ending_in what text) [
      | true ↦ λ e. let long = ltb-true most_journal_input (length text) e in absurd (omega (arith, long, short))
      | false ↦ λ e. ap (λ b. cond {A = Ending} b (RefusedBy (fault_line (record { line = 0; reason = PastLimit }))) (ending_in what text)) e
    ]) refl

pub short-is : (what : JournalCommand) (text : List ℕ) (outcome : Outcome) → length text ≤ most_journal_input → IsEnding (ending_in what text) outcome →
    IsEnding (ending_of what text) outcome
short-is what text outcome short h = subst (λ (e : Ending). IsEnding e outcome) (sym (short-ending what text short)) h

-- ---- a replay

-- the world of a whole journal is told of
pub whole-is : (s : Script) (events : List Event) (w : RunOf) (outcome : Outcome) → w ≡ record { plan = s.plan; events = events; spent = false } → replay_end s events ≡ replay.Whole →
    IsEnding (told_or_open (s.settle && not (all_settled (world_of w))) (report_text (world_of w))) outcome → IsEnding (replay_ending s events (replay_end s events)) outcome
whole-is s events w outcome same is h =
    let here : IsEnding (replay_ending s events replay.Whole) outcome =
    subst (λ (v : RunOf). IsEnding (told_or_open (s.settle && not (all_settled (world_of v))) (report_text (world_of v))) outcome) same h in
    subst (λ (end : ReplayEnd). IsEnding (replay_ending s events end) outcome) (sym is) here

-- so is the line on what is wrong
pub stopped-is : (s : Script) (events : List Event) (end : ReplayEnd) (outcome : Outcome) → replay_end s events ≡ end → IsEnding (replay_ending s events end) outcome →
    IsEnding (replay_ending s events (replay_end s events)) outcome
stopped-is s events end outcome is h = subst (λ (e : ReplayEnd). IsEnding (replay_ending s events e) outcome) (sym is) h

pub read-is : (is : Result (Script × List Event) Refusal) (s : Script) (events : List Event) (outcome : Outcome) → is ≡ Ok (s, events) →
    IsEnding (replay_ending s events (replay_end s events)) outcome → IsEnding (replayed is) outcome
read-is is s events outcome e h = subst (λ (i : Result (Script × List Event) Refusal). IsEnding (replayed i) outcome) (sym e) h

pub long-is : (s : Script) (events : List Event) (k : ℕ) (reached : Sums) (line : List ℕ) → replay_end s events ≡ replay.Passes k reached → line ≡ too_long_line reached →
    (x : Sums) × (replay_ending s events (replay_end s events) ≡ PastLimits x) × (line ≡ too_long_line x)
long-is s events k reached line is told = (reached, ap (replay_ending s events) is, told)

-- ---- a report

-- the world of a run is one of its plan
pub run-plan : (plan : Plan) (events : List Event) → CanRun plan → (run plan events).plan ≡ plan
run-plan plan events can = (run-good plan events can.checked).of_plan

-- what holds of a value, if there is one, gives what follows from it; what holds stands before what follows, which it tells the type of
pub then-IfOk : {A E : Type 0} {P : A → Type 0} (r : Result A E) → IfOk r P → (Q : A → Type 0) → ((x : A) → P x → Q x) → IfOk r Q
then-IfOk (Ok x) p Q f = f x p
then-IfOk (Err e) p Q f = tt
