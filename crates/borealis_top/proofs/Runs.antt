-- What holds of the run of a script that was read.
use Rattle.std.proofs.Common.{◌≡◌, ℕ, ◌+◌, List, length, Ok, ap}
use Rattle.std.specs.Prelude.{not}
use Rattle.std.proofs.lemmas.Bool.{and_parts}
use Rattle.dpc_model.specs.declared.scripts.Script.{Script}
use Rattle.script_rules.specs.Reading.{reading, script_in}
use Rattle.script_rules.specs.Checking.{IsChecked}
use Rattle.script_rules.proofs.ReadForms.{reads_have_facts}
use Rattle.law_scripts.proofs.ReadChecked.{reads_checked}
use Rattle.law_settling_whole.proofs.Whole.{checked-settles, healed-settles, crashless-settles}
use Rattle.law_survivors.proofs.Settling.{settles-with-crashes}
use Rattle.law_fit.specs.Fits.{CanRun}
use Rattle.law_checked_runs.proofs.Plans.{can_run}
use Rattle.journal_commands.proofs.Promised.{quiet-so, none-open}
use Rattle.law_safety.proofs.Law.{run-safe}
use Rattle.world_model.specs.Worlds.{all_settled}
use Rattle.world_model.specs.Schedules.{lockstep_journal, quiet_limit}
use Rattle.law_schedules.specs.Journals.{phases_in}
use Rattle.law_schedules.proofs.Lockstep.{lock-live}
use Rattle.law_schedules.proofs.Timely.{live-ends}
use Rattle.borealis_top.specs.declared.command.Reading.{Reading}
use Rattle.borealis_top.specs.declared.command.Reading.TheVariants.{Run, Check, Print, Ideal}
use Rattle.borealis_top.specs.Ends.{run_of, IsGoodRun, Holds}

-- so its plan can be run
pub read_can_run : (text : List ℕ) (s : Script) → reading text ≡ Ok s → CanRun s.plan
read_can_run text s e = can_run s (reads_have_facts text s (ap script_in e))

pub good-run : (s : Script) → CanRun s.plan → IsChecked s → IsGoodRun s
good-run s can checked =
    record {
      safe = run-safe s.plan (lockstep_journal s) can.checked;
      live = lock-live s;
      quiet = λ e.
          let both = and_parts s.settle (not (all_settled (run_of s))) e in
          quiet-so (all_settled (run_of s)) (phases_in (lockstep_journal s)) (length s.phases + quiet_limit s.plan) ((live-ends s (lockstep_journal s) (lock-live s)).1 both.0) both.1;
      settles = λ healed none. none-open s.settle (all_settled (run_of s)) (λ on. crashless-settles s checked on healed none);
      steady = λ well steady. none-open s.settle (all_settled (run_of s)) (λ on. checked-settles s (lockstep_journal s) checked on (lock-live s) well steady);
      recovers = λ healed calm. none-open s.settle (all_settled (run_of s)) (λ on. healed-settles s checked on healed calm);
      survives = λ healed keeps. none-open s.settle (all_settled (run_of s)) (λ on. settles-with-crashes s checked on healed keeps);
    }

pub read-Holds : (what : Reading) (text : List ℕ) (s : Script) → reading text ≡ Ok s → Holds what s
read-Holds (Run form) text s e = good-run s (read_can_run text s e) (reads_checked text s (ap script_in e))
read-Holds Check text s e = tt
read-Holds Print text s e = tt
read-Holds Ideal text s e = tt
