-- Which words are a command.
use Rattle.std.specs.Prelude.{ℕ, ◌&&◌, nat_le, if◌then◌else◌, List, [], ◌∷◌, Option, Some, None, option_map, codes, bytes_eq}
use Rattle.script_rules.specs.Spelling.{is_numeral, number}
use Rattle.borealis_top.specs.declared.command.Form.{Form}
use Rattle.borealis_top.specs.declared.command.Form.TheVariants.{Text, Short, Json, Frames}
use Rattle.borealis_top.specs.declared.command.Reading.{Reading}
use Rattle.borealis_top.specs.declared.command.Reading.TheVariants.{Run, Check, Print, Ideal}
use Rattle.borealis_top.specs.declared.command.Command.{Command}
use Rattle.borealis_top.specs.declared.command.Command.TheVariants.{Read, Journal, Saves, Picture, PictureReplay, Gen, Help, Reasons, Version}
use Rattle.borealis_top.specs.declared.command.LiveCommand.{LiveCommand}
use Rattle.input_parts.specs.declared.notation.Notation.{Notation}
use Rattle.input_parts.specs.declared.notation.Notation.TheVariants as notation
use Rattle.journal_commands.specs.declared.outcome.JournalCommand.{JournalCommand}
use Rattle.live_commands.specs.declared.beside.Beside.{Beside}
use Rattle.live_commands.specs.declared.beside.Beside.TheVariants.{Nobody, Millers, Readers}
use Rattle.journal_commands.specs.declared.outcome.JournalCommand.TheVariants.{Replay, Upgrade, Audit}
use Rattle.picture_commands.specs.declared.form.PictureForm.{PictureForm}
use Rattle.picture_commands.specs.declared.form.PictureForm.TheVariants as drawn

-- what is done with a script that is read
abbrev pub reading_word : List ℕ → Option Reading
reading_word w =
    if bytes_eq w (codes "run") then Some (Run Text)
    else (if bytes_eq w (codes "check") then Some Check
    else (if bytes_eq w (codes "print") then Some Print
    else (if bytes_eq w (codes "ideal") then Some Ideal
    else None)))

-- what is done with a script and a journal or stream behind it that is told in this way
abbrev pub told_word : Notation → List ℕ → Option JournalCommand
told_word told w =
    if bytes_eq w (codes "replay") then Some (Replay told)
    else (if bytes_eq w (codes "audit") then Some (Audit told)
    else None)

-- what is done with a script and what stands behind it
abbrev pub journal_word : List ℕ → Option JournalCommand
journal_word w = if bytes_eq w (codes "upgrade") then Some Upgrade else told_word notation.Lines w

-- what is done with an input
abbrev pub input_word : List ℕ → Option Command
input_word w = elim (reading_word w) [ Some reading ↦ Some (Read reading) | None ↦ option_map Journal (journal_word w) ]

-- the command that one word is
abbrev pub command_word : List ℕ → Option Command
command_word w =
    if bytes_eq w (codes "--help") then Some Help
    else (if bytes_eq w (codes "--version") then Some Version
    else (if bytes_eq w (codes "reasons") then Some Reasons
    else (if bytes_eq w (codes "saves") then Some Saves
    else (if bytes_eq w (codes "picture") then Some (Picture drawn.Svg)
    else input_word w))))

-- the number of a generated script: 1 to 1000
abbrev pub seed_of : List ℕ → Option ℕ
seed_of w = if is_numeral w && nat_le 1 (number w) && nat_le (number w) 1000 then Some (number w) else None

-- the form of a report other than the text
abbrev pub form_word : List ℕ → Option Form
form_word w =
    if bytes_eq w (codes "short") then Some Short
    else (if bytes_eq w (codes "json") then Some Json
    else (if bytes_eq w (codes "frames") then Some Frames
    else None))

-- the form of a picture other than SVG
abbrev pub picture_word : List ℕ → Option PictureForm
picture_word w = if bytes_eq w (codes "text") then Some drawn.Text else None

-- what is drawn of an input by a word behind `picture`: a journal's run as SVG, or a script's in another form
abbrev pub drawn_word : List ℕ → Option Command
drawn_word w = if bytes_eq w (codes "replay") then Some (PictureReplay drawn.Svg) else option_map Picture (picture_word w)

-- the command that two words are
abbrev pub two_words : List ℕ → List ℕ → Option Command
two_words w v =
    if bytes_eq w (codes "gen") then option_map Gen (seed_of v)
    else (if bytes_eq w (codes "run") then option_map (λ form. Read (Run form)) (form_word v)
    else (if bytes_eq w (codes "picture") then drawn_word v
    else (if bytes_eq v (codes "frames") then option_map Journal (told_word notation.Frames w)
    else None)))

-- the command that three words are: a journal's run, drawn in another form
abbrev pub three_words : List ℕ → List ℕ → List ℕ → Option Command
three_words w v u = if bytes_eq w (codes "picture") && bytes_eq v (codes "replay") then option_map PictureReplay (picture_word u) else None

-- how many threads of a kind run a script: 1 to 16
abbrev pub threads_of : List ℕ → Option ℕ
threads_of w = if is_numeral w && nat_le 1 (number w) && nat_le (number w) 16 then Some (number w) else None

-- how many readers watch a run: 1 to 8
abbrev pub readers_of : List ℕ → Option ℕ
readers_of w = if is_numeral w && nat_le 1 (number w) && nat_le (number w) 8 then Some (number w) else None

-- the run by several threads that two words ask for, with these beside them, and how it is told
abbrev pub live_by : Notation → Beside → List ℕ → List ℕ → Option LiveCommand
live_by told beside w v =
    if bytes_eq w (codes "live") then option_map (λ n. record { workers = n; beside = beside; notation = told }) (threads_of v) else None

-- the run through a pool that four words ask for, and how it is told
abbrev pub pool_by : Notation → List ℕ → List ℕ → List ℕ → List ℕ → Option LiveCommand
pool_by told w v u t =
    if bytes_eq u (codes "pool") then (elim (threads_of t) [ Some m ↦ live_by told (Millers m) w v | None ↦ None ]) else None

-- the run that is watched, or through a pool, that four words ask for
abbrev pub watch_by : List ℕ → List ℕ → List ℕ → List ℕ → Option LiveCommand
watch_by w v u t =
    if bytes_eq u (codes "watch") then (elim (readers_of t) [ Some r ↦ live_by notation.Lines (Readers r) w v | None ↦ None ])
    else pool_by notation.Lines w v u t

-- the run by several threads that the words ask for
abbrev pub live_of : List (List ℕ) → Option LiveCommand
live_of [] = None
live_of (w ∷ []) = None
live_of (w ∷ v ∷ []) = live_by notation.Lines Nobody w v
live_of (w ∷ v ∷ u ∷ []) = if bytes_eq u (codes "frames") then live_by notation.Frames Nobody w v else None
live_of (w ∷ v ∷ u ∷ t ∷ []) = watch_by w v u t
live_of (w ∷ v ∷ u ∷ t ∷ s ∷ []) = if bytes_eq s (codes "frames") then pool_by notation.Frames w v u t else None
live_of (w ∷ v ∷ u ∷ t ∷ s ∷ r ∷ words) = None

-- the names of the two clients whose one stream the words ask for
abbrev pub pair_of : List (List ℕ) → Option (List ℕ × List ℕ)
pair_of [] = None
pair_of (w ∷ []) = None
pair_of (w ∷ v ∷ []) = None
pair_of (w ∷ v ∷ u ∷ []) = if bytes_eq w (codes "pair") then Some (v, u) else None
pair_of (w ∷ v ∷ u ∷ t ∷ words) = None

-- the command that the words are, of those that wait for nobody and have no names in them
abbrev pub command_of : List (List ℕ) → Option Command
command_of [] = None
command_of (w ∷ []) = command_word w
command_of (w ∷ v ∷ []) = two_words w v
command_of (w ∷ v ∷ u ∷ []) = three_words w v u
command_of (w ∷ v ∷ u ∷ t ∷ words) = None
