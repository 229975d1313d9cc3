-- The names are those of two clients of one stream.
use Rattle.std.proofs.Common.{◌∙◌, sym, ap, subst, ℕ, IfOk}
use Rattle.world_model.specs.Worlds.{excess}
use Rattle.world_model.specs.Schedules.{lockstep_journal}
use Rattle.journal_commands.specs.Endings.{Ending, IsEnding}
use Rattle.law_pairs.specs.Pairs.{AreReaders}
use Rattle.pair_commands.specs.Pairs.{named_ending, run_ending}
use Rattle.pair_commands.proofs.Readers.{named-readers}
use Rattle.pair_commands.proofs.answering.script_answer.Goals as goal

pub run_answer-requires-clause-readers : goal.run_answer-requires-clause-readers
run_answer-requires-clause-readers c =
    let plan = c.args.script.plan in
    let named = sym c.pair_named.ensures ∙ c.in-Some.is in
    subst (λ (x : ℕ). AreReaders plan x c.new.result.second) (sym c.new.ensures.first)
    (subst (λ (y : ℕ). AreReaders plan c.in-Some.one y) (sym c.new.ensures.second) (named-readers plan c.args.first.now c.args.second.now c.in-Some.one c.in-Some.other named))

pub returns-in-Some : goal.returns-in-Some
returns-in-Some c =
    let s = c.args.script in
    let first = c.args.first.now in
    let second = c.args.second.now in
    let named = sym c.pair_named.ensures ∙ c.in-Some.is in
    let sums = excess s.plan (lockstep_journal s) in
    subst (λ (ending : Ending). IfOk c.run_answer.result (IsEnding ending)) (sym (ap (named_ending first second s) named))
    (subst (λ (x : ℕ). IfOk c.run_answer.result (IsEnding (run_ending first second s x c.in-Some.other sums))) c.new.ensures.first
    (subst (λ (y : ℕ). IfOk c.run_answer.result (IsEnding (run_ending first second s c.new.result.first y sums))) c.new.ensures.second c.run_answer.ensures))
