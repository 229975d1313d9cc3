-- How the program ends: each side by the words, and the exit status.
use Rattle.std.specs.Prelude.{◌≡◌, ℕ, ◌⊎◌, List, Option, None, Some}
use Rattle.dpc_edge.specs.Edges.{Edge}
use Rattle.script_rules.specs.ReasonTable.{reasons_text}
use Rattle.borealis_top.specs.declared.command.Command.{Command}
use Rattle.borealis_top.specs.declared.command.Command.TheVariants.{Read, Journal, Saves, Picture, PictureReplay, Gen, Help, Reasons, Version}
use Rattle.borealis_top.specs.declared.command.LiveCommand.{LiveCommand}
use Rattle.borealis_top.specs.declared.status.Status.{Status}
use Rattle.borealis_top.specs.declared.status.Status.TheVariants.{Done, Words, NoMemory}
use Rattle.borealis_top.specs.Codes.{code_of}
use Rattle.borealis_top.specs.Commands.{command_of, live_of, pair_of}
use Rattle.borealis_top.specs.Texts.{help_text, version_text, unknown_words_line}
use Rattle.borealis_top.specs.Ends.{IsTold, ReadEnds, ReadIsWhole, GenEnds}
use Rattle.borealis_top.specs.InputEnds.{EndsBy, IsWholeFor}
use Rattle.borealis_top.specs.Questions.{journal_question, pair_question, saves_question, picture_question, replay_picture_question}
use Rattle.borealis_top.specs.LiveEnds.{LiveEnds, LiveIsWhole}

-- how a command ends, or words that are none
abbrev pub CommandEnds : Option Command → Edge → Edge → Edge → Edge → Edge → Edge → Status → Type 0
CommandEnds None input input_new out out_new err err_new result =
    IsTold err err_new unknown_words_line Words result × (out_new ≡ out) × (input_new ≡ input)
CommandEnds (Some Help) input input_new out out_new err err_new result =
    IsTold out out_new help_text Done result × (err_new ≡ err) × (input_new ≡ input)
CommandEnds (Some Reasons) input input_new out out_new err err_new result =
    IsTold out out_new reasons_text Done result × (err_new ≡ err) × (input_new ≡ input)
CommandEnds (Some Version) input input_new out out_new err err_new result =
    IsTold out out_new version_text Done result × (err_new ≡ err) × (input_new ≡ input)
CommandEnds (Some (Read reading)) input input_new out out_new err err_new result =
    ReadEnds reading input input_new out out_new err err_new result × ReadIsWhole reading input input_new out out_new err err_new result
CommandEnds (Some (Journal what)) input input_new out out_new err err_new result =
    EndsBy (journal_question what) input input_new out out_new err err_new result × IsWholeFor (journal_question what) input input_new out out_new err err_new result
CommandEnds (Some Saves) input input_new out out_new err err_new result =
    EndsBy saves_question input input_new out out_new err err_new result × IsWholeFor saves_question input input_new out out_new err err_new result
CommandEnds (Some (Picture form)) input input_new out out_new err err_new result =
    EndsBy (picture_question form) input input_new out out_new err err_new result × IsWholeFor (picture_question form) input input_new out out_new err err_new result
CommandEnds (Some (PictureReplay form)) input input_new out out_new err err_new result =
    EndsBy (replay_picture_question form) input input_new out out_new err err_new result
    × IsWholeFor (replay_picture_question form) input input_new out out_new err err_new result
CommandEnds (Some (Gen seed)) input input_new out out_new err err_new result =
    GenEnds seed out out_new result × (err_new ≡ err) × (input_new ≡ input)

-- how a command on two clients ends, or one without names
abbrev pub PlainEnds : Option (List ℕ × List ℕ) → Option Command → Edge → Edge → Edge → Edge → Edge → Edge → Status → Type 0
PlainEnds (Some names) command input input_new out out_new err err_new result =
    EndsBy (pair_question names.0 names.1) input input_new out out_new err err_new result
    × IsWholeFor (pair_question names.0 names.1) input input_new out out_new err err_new result
PlainEnds None command input input_new out out_new err err_new result = CommandEnds command input input_new out out_new err err_new result

-- how what the words say ends: a run by so many threads, or a command that waits for nobody
abbrev pub WordsEnd : Option LiveCommand → Option (List ℕ × List ℕ) → Option Command → Edge → Edge → Edge → Edge → Edge → Edge → Status → Type 0
WordsEnd (Some live) names command input input_new out out_new err err_new result =
    LiveEnds live input input_new out out_new err err_new result × LiveIsWhole live input input_new out out_new err err_new result
WordsEnd None names command input input_new out out_new err err_new result = PlainEnds names command input input_new out out_new err err_new result

-- nothing was touched, for want of memory
abbrev pub IsUntouched : Edge → Edge → Edge → Edge → Edge → Edge → Status → Type 0
IsUntouched input input_new out out_new err err_new result = (result ≡ NoMemory) × (input_new ≡ input) × (out_new ≡ out) × (err_new ≡ err)

-- the program does what some words say, or lacks the memory for them, and its exit status tells how that ended
pub record ProgramEnds (input input_new out out_new err err_new : Edge) (exit : ℕ) : Type 0 where
  pub words : List (List ℕ)
  pub status : Status
  pub code : exit ≡ code_of status
  pub ends : WordsEnd (live_of words) (pair_of words) (command_of words) input input_new out out_new err err_new status
      ⊎ IsUntouched input input_new out out_new err err_new status

-- a standard stream: it tells no bytes, and so many of its calls failed
abbrev pub stream : ℕ → Edge
stream faults = record { bytes = None; faults = faults }

-- the program ends so over standard streams, which had no fault before
pub record StreamsEnd (exit : ℕ) : Type 0 where
  pub input : ℕ
  pub out : ℕ
  pub err : ℕ
  pub ends : ProgramEnds (stream 0) (stream input) (stream 0) (stream out) (stream 0) (stream err) exit
