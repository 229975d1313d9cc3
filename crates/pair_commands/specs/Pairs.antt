-- What `pair` comes to.
use Rattle.std.specs.Prelude.{ℕ, not, ◌&&◌, List, [], ◌∷◌, ◌++◌, map, Option, Some, None, Result, Ok, Err, codes}
use Rattle.dpc_model.specs.Words.{Word, text_of}
use Rattle.dpc_model.specs.declared.messages.Event.{Event}
use Rattle.dpc_model.specs.declared.plans.Plan.{Plan}
use Rattle.dpc_model.specs.declared.scripts.Script.{Script}
use Rattle.dpc_model.specs.declared.tuples.Item.{Item}
use Rattle.script_rules.specs.Reading.{reading}
use Rattle.script_rules.specs.declared.reasons.PlanFault.{PlanFault}
use Rattle.script_rules.specs.declared.reasons.Reason.TheVariants.{Unknown}
use Rattle.report.specs.Text.{item_words, summary_of, summary_words}
use Rattle.report.specs.declared.text.Summary.{Summary}
use Rattle.status_lines.specs.Lines.{fault_line}
use Rattle.world_model.specs.Worlds.{Sums, run, all_settled, excess}
use Rattle.world_model.specs.Schedules.{lockstep_journal}
use Rattle.journal_commands.specs.Endings.{Ending, PastLimits, RefusedBy, told_or_open}
use Rattle.back_channel.specs.Told.{reader_of}
use Rattle.law_pairs.specs.Pairs.{merge_at, pair_items}
use Rattle.pair_commands.specs.Named.{pair_named}

-- ---- what is written

-- the two names, a line for each item, and a summary
abbrev pub pair_lines : Word → Word → List Item → Summary → List (List Word)
pair_lines first second items s = (codes "pair" ∷ first ∷ second ∷ []) ∷ map item_words items ++ summary_words (codes "pair") s ∷ []

-- what a reader of the merge of two clients would tell of it
abbrev pub pair_summary : Plan → List Event → ℕ → ℕ → Summary
pair_summary plan events x y = summary_of plan.end (reader_of (merge_at (run plan events) x y))

-- the one stream of two clients in a run
unfoldable pub pair_text : Word → Word → Plan → List Event → ℕ → ℕ → List ℕ
pair_text first second plan events x y = text_of (pair_lines first second (pair_items plan events x y) (pair_summary plan events x y))

-- ---- what it comes to

-- the names are not those of two clients of one stream
abbrev pub no_readers : PlanFault
no_readers = record { line = 0; reason = Unknown }

abbrev pub run_ending : List ℕ → List ℕ → Script → ℕ → ℕ → Option Sums → Ending
run_ending first second s x y (Some sums) = PastLimits sums
run_ending first second s x y None =
    let events = lockstep_journal s in
    told_or_open (s.settle && not (all_settled (run s.plan events))) (pair_text first second s.plan events x y)

abbrev pub named_ending : List ℕ → List ℕ → Script → Option (ℕ × ℕ) → Ending
named_ending first second s None = RefusedBy (fault_line no_readers)
named_ending first second s (Some p) = run_ending first second s p.0 p.1 (excess s.plan (lockstep_journal s))

abbrev pub read_ending : List ℕ → List ℕ → Result Script PlanFault → Ending
read_ending first second (Ok s) = named_ending first second s (pair_named s.plan first second)
read_ending first second (Err fault) = RefusedBy (fault_line fault)

-- of the one-thread run of the script in an input
abbrev pub pair_ending : List ℕ → List ℕ → List ℕ → Ending
pair_ending first second input = read_ending first second (reading input)
