-- The text of all nodes.
use Rattle.std.proofs.Common.{◌≡◌, ◌⊎◌, inl, inr, ℕ, zero, suc, ◌≤◌, Bool, true, false, List, [], ◌∷◌, ◌++◌, length, drop, Option, None, refl, sym, ap, subst, ◌∙◌, arith, append-nil}
use Rattle.std.specs.Prelude.{not, ◌&&◌}
use Rattle.dpc_model.specs.Words.{text_of}
use Rattle.dpc_model.specs.declared.plans.Plan.{Plan}
use Rattle.dpc_model.specs.declared.scripts.Script.{Script}
use Rattle.journal_commands.proofs.Flags.{open-so, told-so}
use Rattle.journal_commands.specs.Endings.{Ending, Told, LeftOpen, told_or_open}
use Rattle.saved_runs.specs.Told.{AreSaid}
use Rattle.saved_runs.specs.declared.saved.Saved.{Saved}
use Rattle.world_core.specs.Runs.{RunOf, world_of}
use Rattle.world_model.specs.Schedules.{lockstep_journal}
use Rattle.world_model.specs.Worlds.{Sums, run, all_settled, excess}
use Rattle.saves_commands.specs.Endings.{EndsRun, slot_room}
use Rattle.saves_commands.specs.Lines.{lines_from, saves_text}

drop-past : {X : Type 0} (xs : List X) (k : ℕ) → length xs ≤ k → drop k xs ≡ []
drop-past [] zero l = refl
drop-past [] (suc k) l = refl
drop-past (x ∷ xs) zero l = absurd (omega (arith, l))
drop-past (x ∷ xs) (suc k) l = drop-past xs k (omega (arith, l))

-- no node is left
pub whole-text : (plan : Plan) (told : List Saved) (text : List ℕ) (a k : ℕ) → length told ≤ k → text ++ text_of (lines_from plan a (drop k told)) ≡ text_of (lines_from plan (length plan.sources) told) → text ≡ saves_text plan told
unfolding saves_text
whole-text plan told text a k l h = sym (append-nil text) ∙ ap (λ (left : List Saved). text ++ text_of (lines_from plan a left)) (sym (drop-past told k l)) ∙ h

-- ---- what a run comes to

-- what is told of a run that passes no limit
pub record IsTold (s : Script) (w : RunOf) (told : List Saved) (text : List ℕ) : Type 0 where
  pub is : w ≡ record { plan = s.plan; events = lockstep_journal s; spent = false }
  pub within : excess s.plan (lockstep_journal s) ≡ None
  pub said : AreSaid s.plan slot_room (lockstep_journal s) told
  pub whole : text ≡ saves_text w.plan told

ends : (s : Script) (w : RunOf) (told : List Saved) (text : List ℕ) (b : Bool) → IsTold s w told text → (s.settle && not (all_settled (world_of w))) ≡ b
    → EndsRun s (excess s.plan (lockstep_journal s)) (told_or_open b text)
ends s w told text b h is =
    let flag : (s.settle && not (all_settled (run s.plan (lockstep_journal s)))) ≡ b = subst (λ (v : RunOf). (s.settle && not (all_settled (world_of v))) ≡ b) h.is is in
    let whole : text ≡ saves_text s.plan told = subst (λ (v : RunOf). text ≡ saves_text v.plan told) h.is h.whole in
    subst (λ (o : Option Sums). EndsRun s o (told_or_open b text)) (sym h.within)
    (told, h.said, ap (told_or_open b) whole ∙ ap (λ (c : Bool). told_or_open c (saves_text s.plan told)) (sym flag))

pub ends-open : (s : Script) (w : RunOf) (told : List Saved) (text : List ℕ) → IsTold s w told text → s.settle ≡ true → all_settled (world_of w) ≡ false
    → (e : Ending) × EndsRun s (excess s.plan (lockstep_journal s)) e × (e ≡ LeftOpen text)
ends-open s w told text h on left = (LeftOpen text, ends s w told text true h (open-so s.settle (all_settled (world_of w)) on left), refl)

pub ends-told : (s : Script) (w : RunOf) (told : List Saved) (text : List ℕ) → IsTold s w told text → (s.settle ≡ false) ⊎ (all_settled (world_of w) ≡ true)
    → (e : Ending) × EndsRun s (excess s.plan (lockstep_journal s)) e × (e ≡ Told text)
ends-told s w told text h either = (Told text, ends s w told text false h (told-so s.settle (all_settled (world_of w)) either), refl)
