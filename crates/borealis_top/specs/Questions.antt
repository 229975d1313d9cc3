-- What the commands on a whole input ask of it.
use Rattle.std.specs.Prelude.{◌≡◌, ℕ, List, Some}
use Rattle.dpc_model.specs.Limits.{most_input}
use Rattle.dpc_model.specs.declared.scripts.Script.{Script}
use Rattle.script_rules.specs.Reading.{read}
use Rattle.world_model.specs.Schedules.{lockstep_journal}
use Rattle.input_parts.specs.declared.notation.Notation.TheVariants.{Lines}
use Rattle.journal_commands.specs.declared.outcome.JournalCommand.{JournalCommand}
use Rattle.journal_commands.specs.declared.outcome.JournalCommand.TheVariants.{Replay}
use Rattle.journal_commands.specs.Endings.{most_journal_input, ending_of}
use Rattle.journal_commands.specs.Promises.{Holds}
use Rattle.law_pairs.specs.Pairs.{AreReaders, IsOneStream}
use Rattle.pair_commands.specs.Named.{pair_named}
use Rattle.pair_commands.specs.Pairs.{pair_ending}
use Rattle.saves_commands.specs.Endings.{EndsSaves}
use Rattle.picture_commands.specs.declared.form.PictureForm.{PictureForm}
use Rattle.picture_commands.specs.Endings.{picture_ending}
use Rattle.picture_commands.specs.Replays.{replay_picture_ending}
use Rattle.borealis_top.specs.Ends.{IsGoodRun}
use Rattle.borealis_top.specs.InputEnds.{Question}

-- of a script and the journal or stream behind it
abbrev pub journal_question : JournalCommand → Question
journal_question what = record { most = most_journal_input; comes = λ input ending. ending_of what input ≡ ending; holds = Holds what }

-- what holds of the run of a script and of the one stream of two of its clients
pub record IsGoodPair (s : Script) (x y : ℕ) : Type 0 where
  pub run : IsGoodRun s
  pub readers : AreReaders s.plan x y
  pub stream : IsOneStream s.plan (lockstep_journal s) x y

-- so it is of every script with such clients
abbrev pub PairHolds : List ℕ → List ℕ → List ℕ → Type 0
PairHolds first second input = (s : Script) (x y : ℕ) → read input ≡ Some s → pair_named s.plan first second ≡ Some (x, y) → IsGoodPair s x y

-- of a script with clients under these names
abbrev pub pair_question : List ℕ → List ℕ → Question
pair_question first second = record { most = most_input; comes = λ input ending. pair_ending first second input ≡ ending; holds = PairHolds first second }

-- of a script whose nodes save
abbrev pub saves_question : Question
saves_question = record { most = most_input; comes = EndsSaves; holds = λ input. (s : Script) → read input ≡ Some s → IsGoodRun s }

-- of a script whose run is drawn
abbrev pub picture_question : PictureForm → Question
picture_question form = record { most = most_input; comes = λ input ending. picture_ending form input ≡ ending; holds = λ input. (s : Script) → read input ≡ Some s → IsGoodRun s }

-- of a script and the journal behind it whose run is drawn
abbrev pub replay_picture_question : PictureForm → Question
replay_picture_question form = record { most = most_journal_input; comes = λ input ending. replay_picture_ending form input ≡ ending; holds = Holds (Replay Lines) }
