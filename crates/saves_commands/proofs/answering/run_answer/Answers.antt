use Rattle.std.proofs.Common.{◌≡◌, false, inl, inr, Err, Option, refl, sym, ap, subst, ◌∙◌, rules}
use Rattle.dpc_model.specs.Actors.{nodes_of}
use Rattle.dpc_model.specs.declared.plans.Plan.{Plan}
use Rattle.journal_commands.specs.Endings.{PastLimits}
use Rattle.saved_runs.proofs.Told.{said-of}
use Rattle.world_core.specs.Runs.{world_of}
use Rattle.world_model.specs.Schedules.{lockstep_journal}
use Rattle.world_model.specs.Worlds.{Sums, all_settled}
use Rattle.saves_commands.specs.Endings.{EndsRun, slot_room}
use Rattle.saves_commands.specs.Lines.{saves_text}
use Rattle.saves_commands.proofs.Texts.{IsTold, ends-open, ends-told}
use Rattle.saves_commands.proofs.answering.run_answer.Goals as goal
use Rattle.saves_commands.proofs.answering.run_answer.Goals.{In_ok-text, else-settle-via-then-settle+else-not-settled, else-settle-via-else-settle}

pub returns-in-Err-TooLong : goal.returns-in-Err-TooLong
returns-in-Err-TooLong c =
    let sums : Sums = record { envelopes = c.in-Err-TooLong.envelopes; items = c.in-Err-TooLong.items } in
    let long = c.in-Err-TooLong.ensures.long c.in-Err-TooLong.envelopes c.in-Err-TooLong.items (ap Err c.in-Err-TooLong.field-0-is) in
    (PastLimits sums, subst (λ (o : Option Sums). EndsRun c.args.script o (PastLimits sums)) (sym long) refl, (sums, refl, c.in_ok-too_long_line-in-Err-TooLong.ensures {u = tt}))

-- what is told
told : (c : In_ok-text) → IsTold c.args.script c.in-Ok.made.0 c.in-Ok.made.1.items c.in_ok-text.text.items
told c =
    let s = c.args.script in
    record {
      is = c.in-Ok.ensures.is;
      within = c.in-Ok.ensures.within;
      said = said-of s.plan slot_room (lockstep_journal s) _ (nodes_of s.plan) _ c.in-Ok.made.1.items (c.in-Ok.ensures.saved c.requires.checked (λ k d l. tt));
      whole = (c.in_ok-text.ensures {u = tt}) ∙ ap (λ (p : Plan). saves_text p c.as_slice.result.now) c.plan.ensures ∙ ap (saves_text c.in-Ok.made.0.plan) c.as_slice.ensures.value;
    }

pub returns-then-not-settled : goal.returns-then-not-settled
returns-then-not-settled c =
    let left : all_settled (world_of c.in-Ok.made.0) ≡ false = search rules in
    ends-open c.args.script c.in-Ok.made.0 c.in-Ok.made.1.items c.in_ok-text.text.items (told (goal.at.returns-then-not-settled c).In_ok-text) c.if-settle.true left

pub returns : goal.returns
returns c =
    ends-told c.args.script c.in-Ok.made.0 c.in-Ok.made.1.items c.in_ok-text.text.items (told (goal.at.returns c).In_ok-text)
    (elim c.else-settle.branch [
      | else-settle-via-then-settle+else-not-settled w ↦ inr (sym w.settled.ensures ∙ w.if-not-settled.false)
      | else-settle-via-else-settle w ↦ inl w.if-settle.false
    ])
