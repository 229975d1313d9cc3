-- What holds of the run of a script, of the one stream of two of its clients, where its nodes save, and where it or a journal is drawn.
use Rattle.std.proofs.Common.{◌≡◌, ℕ, ◌^◌, ◌<◌, List, length, Result, Err, ap, refl, sym, subst, ◌∙◌}
use Rattle.std.proofs.lemmas.Bool.{lt-ltb}
use Rattle.dpc_model.specs.Limits.{most_input}
use Rattle.dpc_model.specs.declared.scripts.Script.{Script}
use Rattle.script_rules.specs.Reading.{reading}
use Rattle.script_rules.specs.declared.reasons.PlanFault.{PlanFault}
use Rattle.script_rules.specs.declared.reasons.Reason.TheVariants.{PastLimit}
use Rattle.law_scripts.proofs.ReadChecked.{reads_checked}
use Rattle.law_pairs.proofs.Whole.{one-stream}
use Rattle.world_model.specs.Schedules.{lockstep_journal}
use Rattle.input_parts.specs.declared.notation.Notation.TheVariants.{Lines}
use Rattle.journal_commands.specs.declared.outcome.JournalCommand.TheVariants.{Replay}
use Rattle.journal_commands.proofs.Promised.{read-can-run, input-holds}
use Rattle.pair_commands.specs.Pairs.{read_ending}
use Rattle.pair_commands.proofs.Readers.{named-readers}
use Rattle.borealis_top.specs.InputEnds.{IsSound}
use Rattle.saves_commands.specs.Endings.{EndsRead}
use Rattle.picture_commands.specs.Endings.{read_ending as drawn_ending}
use Rattle.picture_commands.specs.declared.form.PictureForm.{PictureForm}
use Rattle.picture_commands.proofs.Replayed.{long-ending}
use Rattle.borealis_top.specs.Questions.{pair_question, saves_question, picture_question, replay_picture_question}
use Rattle.borealis_top.proofs.Runs.{good-run}

long-reading : (text : List ℕ) → most_input < length text → reading text ≡ Err (record { line = 0; reason = PastLimit })
unfolding reading
long-reading text long = rw (lt-ltb (2 ^ 26) (length text) long) refl

pub pair-sound : (first second : List ℕ) → IsSound (pair_question first second)
pair-sound first second =
    record {
      long = λ text ending long. let is = ap (read_ending first second) (long-reading text long) in (λ e. sym e ∙ is, λ e. is ∙ sym e);
      all = λ text s x y is named.
          let can = read-can-run text s is in
          let readers = named-readers s.plan first second x y named in
          record { run = good-run s can (reads_checked text s is); readers = readers; stream = one-stream s.plan (lockstep_journal s) x y can.checked readers };
    }

pub saves-sound : IsSound saves_question
saves-sound =
    record {
      long = λ text ending long.
          let is = long-reading text long in
          (λ e. subst (λ (r : Result Script PlanFault). EndsRead r ending) is e, λ e. subst (λ (r : Result Script PlanFault). EndsRead r ending) (sym is) e);
      all = λ text s is. good-run s (read-can-run text s is) (reads_checked text s is);
    }

pub picture-sound : (form : PictureForm) → IsSound (picture_question form)
picture-sound form =
    record {
      long = λ text ending long. let is = ap (drawn_ending form) (long-reading text long) in (λ e. sym e ∙ is, λ e. is ∙ sym e);
      all = λ text s is. good-run s (read-can-run text s is) (reads_checked text s is);
    }

pub replay-picture-sound : (form : PictureForm) → IsSound (replay_picture_question form)
replay-picture-sound form =
    record { long = λ text ending long. let is = long-ending form text long in (λ e. sym e ∙ is, λ e. is ∙ sym e); all = λ text. input-holds (Replay Lines) text }
