-- What a run comes to.
use Rattle.std.proofs.Common.{◌≡◌, ◌⊎◌, ℕ, Bool, true, false, List, Option, None, Some, Result, Ok, Err, IfOk, refl, sym, ap, subst, ◌∙◌}
use Rattle.std.specs.Prelude.{not, ◌&&◌}
use Rattle.dpc_model.specs.declared.messages.Event.{Event}
use Rattle.dpc_model.specs.declared.scripts.Script.{Script}
use Rattle.journal_commands.proofs.Flags.{open-so, told-so}
use Rattle.journal_commands.specs.Endings.{Told, LeftOpen, IsEnding, told_or_open}
use Rattle.journal_commands.specs.declared.outcome.Outcome.{Outcome}
use Rattle.lockstep.specs.declared.faults.RunFault.{RunFault}
use Rattle.lockstep.specs.declared.faults.RunFault.TheVariants.{NoMemory, TooLong}
use Rattle.world_core.specs.Runs.{RunOf, world_of}
use Rattle.world_model.specs.Schedules.{lockstep_journal}
use Rattle.world_model.specs.Worlds.{Sums, run, all_settled, excess}
use Rattle.picture_model.specs.Drawing.{whole_picture}
use Rattle.picture_model.specs.Marking.{losses_of}
use Rattle.picture_model.specs.declared.columns.Mark.{Mark}
use Rattle.picture_commands.specs.declared.form.PictureForm.{PictureForm}
use Rattle.picture_commands.specs.Endings.{drawn_run, drawn_of, IsStopped, run_ending}

-- a picture with what the script loses
pub whole-drawn : (form : PictureForm) (s : Script) (events : List Event) → drawn_run form (losses_of s) s.plan events ≡ drawn_of form s events
unfolding whole_picture
whole-drawn form s events = refl

module _ (form : PictureForm) (s : Script) (losses : List (List Mark)) (w : RunOf) (text : List ℕ) (is : w ≡ record { plan = s.plan; events = lockstep_journal s; spent = false }) (within : excess s.plan (lockstep_journal s) ≡ None)
    (told : losses ≡ losses_of s) (drawn : text ≡ drawn_run form losses w.plan w.events)
  where
    ends : (b : Bool) → (s.settle && not (all_settled (world_of w))) ≡ b → run_ending form s (excess s.plan (lockstep_journal s)) ≡ told_or_open b text
    ends b shut =
        let flag : (s.settle && not (all_settled (run s.plan (lockstep_journal s)))) ≡ b = subst (λ (v : RunOf). (s.settle && not (all_settled (world_of v))) ≡ b) is shut in
        let whole : text ≡ drawn_of form s (lockstep_journal s) =
        subst (λ (v : RunOf). text ≡ drawn_run form losses v.plan v.events) is drawn ∙ ap (λ ls. drawn_run form ls s.plan (lockstep_journal s)) told ∙ whole-drawn form s (lockstep_journal s) in
        ap (run_ending form s) within ∙ ap (λ (c : Bool). told_or_open c (drawn_of form s (lockstep_journal s))) flag ∙ ap (told_or_open b) (sym whole)

    pub ends-open : s.settle ≡ true → all_settled (world_of w) ≡ false → run_ending form s (excess s.plan (lockstep_journal s)) ≡ LeftOpen text
    ends-open on left = ends true (open-so s.settle (all_settled (world_of w)) on left)

    pub ends-told : (s.settle ≡ false) ⊎ (all_settled (world_of w) ≡ true) → run_ending form s (excess s.plan (lockstep_journal s)) ≡ Told text
    ends-told either = ends false (told-so s.settle (all_settled (world_of w)) either)

-- ---- a run that stops

pub stopped-so : {E : Type 0} (form : PictureForm) (s : Script) (fault : RunFault) (r : Result Outcome E)
    → ((envelopes items : ℕ) → fault ≡ TooLong envelopes items → excess s.plan (lockstep_journal s) ≡ Some (record { envelopes = envelopes; items = items }))
    → IfOk r (λ outcome. IsStopped fault outcome) → IfOk r (IsEnding (run_ending form s (excess s.plan (lockstep_journal s))))
stopped-so form s fault (Err e) long h = tt
stopped-so form s NoMemory (Ok outcome) long h = absurd h
stopped-so form s (TooLong envelopes items) (Ok outcome) long h =
    subst (λ (o : Option Sums). IsEnding (run_ending form s o) outcome) (sym (long envelopes items refl)) h
