-- What is promised of a journal that is replayed, of a script that is upgraded, and of a recorded stream that is judged.
use Rattle.std.specs.Prelude.{◌≡◌, ℕ, ◌+◌, true, false, not, ◌&&◌, List, length, None, Some, Ok}
use Rattle.dpc_model.specs.ScriptText.{upgraded}
use Rattle.dpc_model.specs.declared.messages.Event.{Event}
use Rattle.dpc_model.specs.declared.scripts.Script.{Script}
use Rattle.script_rules.specs.Reading.{read}
use Rattle.world_model.specs.Worlds.{run, all_settled, excess}
use Rattle.world_model.specs.Safe.{IsSafe}
use Rattle.world_model.specs.Schedules.{is_live, quiet_limit, lockstep_journal}
use Rattle.world_model.specs.Steady.{OpensWell, IsSteady}
use Rattle.world_model.specs.Replays.{Whole, replay_end}
use Rattle.law_schedules.specs.Journals.{phases_in}
use Rattle.law_healing.specs.Healing.{heals}
use Rattle.law_lockstep.specs.Calm.{IsCalm}
use Rattle.law_calm.specs.Crashes.{has_no_crash}
use Rattle.law_settling_whole.specs.Heard.{IsHeard}
use Rattle.law_survivors.specs.Spared.{keeps_all_but_one}
use Rattle.report.specs.Text.{report_text}
use Rattle.journal_inputs.specs.Parts.{script_part}
use Rattle.audit_core.specs.declared.verdict.Verdict.{Verdict}
use Rattle.stream_audits.specs.Judging.{IsJudged, judged_input}
use Rattle.journal_commands.specs.Endings.{input_in, replay_ending}
use Rattle.journal_commands.specs.declared.outcome.JournalCommand.{JournalCommand}
use Rattle.journal_commands.specs.declared.outcome.JournalCommand.TheVariants.{Replay, Upgrade, Audit}

-- the run is safe in all its parts, and passes no limit; its journal is live to its end; behind settle a client that is not settled had
-- all quiet phases, and there is none where the run is steady and its quiet phases open well, as they do where the script heals; nor is
-- there one where the script heals and crashes nobody and readers hear those that they read, or heals, and the journal is that of one
-- thread, and recoveries end or at most one replica of each fragment is crashed
pub record IsGoodRun (s : Script) (events : List Event) : Type 0 where
  pub safe : IsSafe s.plan events
  pub live : is_live s events ≡ true
  pub within : excess s.plan events ≡ None
  pub quiet : (s.settle && not (all_settled (run s.plan events))) ≡ true → phases_in events ≡ length s.phases + quiet_limit s.plan
  pub steady : OpensWell s events → IsSteady s events → (s.settle && not (all_settled (run s.plan events))) ≡ false
  pub heard : heals s ≡ true → has_no_crash s ≡ true → IsHeard s events → (s.settle && not (all_settled (run s.plan events))) ≡ false
  pub lockstep : events ≡ lockstep_journal s → heals s ≡ true → IsCalm s events → (s.settle && not (all_settled (run s.plan events))) ≡ false
  pub survives : events ≡ lockstep_journal s → heals s ≡ true → keeps_all_but_one s ≡ true → (s.settle && not (all_settled (run s.plan events))) ≡ false
  pub heals : heals s ≡ true → IsSteady s events → (s.settle && not (all_settled (run s.plan events))) ≡ false

-- the upgraded script has the same live journals and the same one-thread journal; each journal's replay comes to the same, and so does its
-- report
pub record IsSameRun (s : Script) : Type 0 where
  pub live : (events : List Event) → is_live (upgraded s) events ≡ is_live s events
  pub lock : lockstep_journal (upgraded s) ≡ lockstep_journal s
  pub report : (events : List Event) → report_text (run (upgraded s).plan events) ≡ report_text (run s.plan events)
  pub replays : (events : List Event) → replay_ending (upgraded s) events (replay_end (upgraded s) events) ≡ replay_ending s events (replay_end s events)

-- what holds of an input that was answered
abbrev pub Holds : JournalCommand → List ℕ → Type 0
Holds (Replay notation) input = (s : Script) (events : List Event) → input_in notation input ≡ Ok (s, events) → replay_end s events ≡ Whole → IsGoodRun s events
Holds Upgrade input = (s : Script) → read (script_part input) ≡ Some s → IsSameRun s
Holds (Audit notation) input = (v : Verdict) → judged_input notation input ≡ Ok v → IsJudged notation input v
