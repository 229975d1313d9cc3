-- What is promised of a journal that is replayed, of a script that is upgraded, and of a recorded stream holds.
use Rattle.std.proofs.Common.{◌≡◌, ◌⊎◌, inl, inr, ℕ, ◌+◌, List, length, Ok, Some, Bool, true, false, refl, sym, ap, subst, ◌∙◌}
use Rattle.std.specs.Prelude.{not, ◌&&◌, IsTrue, codes}
use Rattle.std.proofs.lemmas.Bool.{and_parts}
use Rattle.dpc_model.specs.declared.messages.Event.{Event}
use Rattle.dpc_model.specs.ScriptText.{upgraded}
use Rattle.dpc_model.specs.declared.scripts.Script.{Script}
use Rattle.script_rules.specs.Reading.{read}
use Rattle.script_rules.specs.Checking.{IsChecked}
use Rattle.script_rules.proofs.ReadForms.{reads_have_facts}
use Rattle.law_scripts.proofs.ReadChecked.{reads_checked}
use Rattle.law_settling_whole.proofs.Whole.{checked-settles, healed-settles, heard-settles}
use Rattle.law_survivors.proofs.Settling.{settles-with-crashes}
use Rattle.law_healing.proofs.Opening.{opens-well}
use Rattle.law_lockstep.specs.Calm.{IsCalm}
use Rattle.law_fit.specs.Fits.{CanRun}
use Rattle.law_checked_runs.proofs.Plans.{can_run}
use Rattle.law_safety.proofs.Law.{run-safe}
use Rattle.law_journals.proofs.Replayed.{whole-where}
use Rattle.law_upgrade.proofs.Events.{run-same}
use Rattle.law_upgrade.proofs.Journals.{live-same}
use Rattle.law_upgrade.proofs.Replayed.{replays-same}
use Rattle.law_upgrade.proofs.Telling.{lock-same}
use Rattle.law_upgrade.proofs.Runs.{report-same}
use Rattle.world_model.specs.Worlds.{World, run, all_settled}
use Rattle.world_model.specs.Schedules.{quiet_limit}
use Rattle.world_model.specs.Replays.{ReplayEnd, Whole, replay_end}
use Rattle.world_model.specs.Replays as replay
use Rattle.law_schedules.specs.Journals.{phases_in}
use Rattle.law_schedules.proofs.Timely.{live-ends}
use Rattle.report.specs.Text.{report_text}
use Rattle.input_parts.specs.Parts.{part_before}
use Rattle.journal_inputs.specs.Parts.{script_part}
use Rattle.input_parts.specs.declared.notation.Notation.{Notation}
use Rattle.input_parts.specs.declared.notation.Notation.TheVariants.{Lines, Frames}
use Rattle.journal_inputs.proofs.ByParts.{is_both}
use Rattle.journal_inputs.proofs.FramedParts.{is_framed_both}
use Rattle.stream_audits.proofs.Judged.{is_judged}
use Rattle.journal_commands.specs.declared.outcome.JournalCommand.{JournalCommand}
use Rattle.journal_commands.specs.declared.outcome.JournalCommand.TheVariants.{Replay, Upgrade, Audit}
use Rattle.journal_commands.specs.Endings.{input_in, told_or_open, replay_ending}
use Rattle.journal_commands.specs.Promises.{IsGoodRun, IsSameRun, Holds}

-- a client is left open behind settle only where all quiet phases went by
pub quiet-so : (b : Bool) (p q : ℕ) → (b ≡ true) ⊎ (p ≡ q) → not b ≡ true → p ≡ q
quiet-so b p q (inl settled) open_still = absurd (cc)
quiet-so b p q (inr all) open_still = all

-- nobody is left open where, behind settle, all are settled
pub none-open : (settle all : Bool) → (IsTrue settle → IsTrue all) → (settle && not all) ≡ false
none-open false all h = refl
none-open true true h = refl
none-open true false h = let clash : false ≡ true = h refl in cc

pub good-run : (s : Script) (events : List Event) → CanRun s.plan → IsChecked s → replay_end s events ≡ Whole → IsGoodRun s events
good-run s events can checked is =
    let end = (whole-where s events).0 is in
    record {
      safe = run-safe s.plan events can.checked;
      live = end.live;
      within = end.within;
      quiet = λ e.
          let both = and_parts s.settle (not (all_settled (run s.plan events))) e in
          quiet-so (all_settled (run s.plan events)) (phases_in events) (length s.phases + quiet_limit s.plan) ((live-ends s events end.live).1 both.0) both.1;
      steady = λ well steady. none-open s.settle (all_settled (run s.plan events)) (λ on. checked-settles s events checked on end.live well steady);
      heals = λ healed steady.
          none-open s.settle (all_settled (run s.plan events)) (λ on. checked-settles s events checked on end.live (opens-well s events healed end.live) steady);
      heard = λ healed none heard.
          none-open s.settle (all_settled (run s.plan events)) (λ on. heard-settles s events checked on healed none end.live heard);
      lockstep = λ same healed calm.
          none-open s.settle (all_settled (run s.plan events)) (λ on.
          subst (λ (z : List Event). IsTrue (all_settled (run s.plan z))) (sym same)
          (healed-settles s checked on healed (subst (λ (z : List Event). IsCalm s z) same calm)));
      survives = λ same healed keeps.
          none-open s.settle (all_settled (run s.plan events))
          (λ on. subst (λ (z : List Event). IsTrue (all_settled (run s.plan z))) (sym same) (settles-with-crashes s checked on healed keeps));
    }

-- a replay that stops at the same place comes to the same
ending-same : (s : Script) (events : List Event) (end : ReplayEnd) → replay_ending (upgraded s) events end ≡ replay_ending s events end
ending-same s events (replay.Refused k) = refl
ending-same s events (replay.Passes k reached) = refl
ending-same s events replay.Unfinished = refl
ending-same s events replay.Whole =
    ap (λ (w : World). told_or_open (s.settle && not (all_settled w)) (report_text (run (upgraded s).plan events))) (run-same s.plan events)
    ∙ ap (λ text. told_or_open (s.settle && not (all_settled (run s.plan events))) text) (report-same s.plan events)

same-run : (s : Script) → IsSameRun s
same-run s =
    record {
      live = live-same s;
      lock = lock-same s;
      report = report-same s.plan;
      replays = λ events. ap (replay_ending (upgraded s) events) (replays-same s events) ∙ ending-same s events (replay_end s events);
    }

-- what is read can be run
pub read-can-run : (text : List ℕ) (s : Script) → read text ≡ Some s → CanRun s.plan
read-can-run text s is = can_run s (reads_have_facts text s is)

-- the script of an input was read
record WasRead (s : Script) : Type 0 where
  text : List ℕ
  is : read text ≡ Some s

was-read : (notation : Notation) (input : List ℕ) (s : Script) (events : List Event) → input_in notation input ≡ Ok (s, events) → WasRead s
was-read Lines input s events is = record { text = script_part input; is = (is_both input s events is).script }
was-read Frames input s events is = record { text = part_before (codes "frames") input; is = (is_framed_both input s events is).script }

pub input-can-run : (notation : Notation) (input : List ℕ) (s : Script) (events : List Event) → input_in notation input ≡ Ok (s, events) → CanRun s.plan
input-can-run notation input s events is = let read = was-read notation input s events is in read-can-run read.text s read.is

pub input-holds : (what : JournalCommand) (input : List ℕ) → Holds what input
input-holds (Replay notation) input = λ s events is whole.
    let script = was-read notation input s events is in
    good-run s events (read-can-run script.text s script.is) (reads_checked script.text s script.is) whole
input-holds Upgrade input = λ s is. same-run s
input-holds (Audit notation) input = λ v is. is_judged notation input v is
