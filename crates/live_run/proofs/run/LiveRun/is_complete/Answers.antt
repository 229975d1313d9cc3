use Rattle.std.proofs.Common.{◌≡◌, ◌∙◌, ◌&&◌, Bool, true, false, not, refl, sym, ap}
use Rattle.dpc_model.specs.declared.scripts.Script.{Script}
use Rattle.world_model.specs.Schedules.{progress, is_phase_complete, phase_left, is_live}
use Rattle.law_schedules.proofs.Journals.{progress-run}
use Rattle.live_run.specs.Lives.{LiveRunOf, script_of}
use Rattle.live_run.proofs.Lives.{live_told}
use Rattle.live_run.proofs.run.LiveRun.is_complete.Goals as goal

and-true : (b : Bool) → b ≡ (b && true)
and-true true = refl
and-true false = refl

and-false : (b : Bool) → false ≡ (b && false)
and-false true = refl
and-false false = refl

pub returns-then-not-has_next : goal.returns-then-not-has_next
returns-then-not-has_next c =
    let script : Script = script_of c.self.inside.world.plan c.self.inside.timetable in
    let events = c.self.inside.world.events in
    let live = ap (λ (r : LiveRunOf). r.spent) c.self.view_is ∙ c.requires in
    let stands = (c.self.invariant.2 live).1 in
    let complete : c.is_complete.result ≡ is_phase_complete (progress script events) = c.is_complete.ensures (progress script events) (progress-run script events) stands in
    let left : c.has_next.result ≡ phase_left script (progress script events) = c.has_next.ensures script (progress script events) c.self.invariant.1 (progress-run script events) stands in
    complete ∙ and-true (is_phase_complete (progress script events))
    ∙ ap (λ (b : Bool). is_phase_complete (progress script events) && not b) (sym c.if-not-has_next.true ∙ left)
    ∙ live_told script events c.self.invariant.0 ∙ ap (λ (r : LiveRunOf). is_live r.script r.events) c.self.view_is

pub returns-else-not-has_next : goal.returns-else-not-has_next
returns-else-not-has_next c =
    let script : Script = script_of c.self.inside.world.plan c.self.inside.timetable in
    let events = c.self.inside.world.events in
    let live = ap (λ (r : LiveRunOf). r.spent) c.self.view_is ∙ c.requires in
    let stands = (c.self.invariant.2 live).1 in
    let left : c.has_next.result ≡ phase_left script (progress script events) = c.has_next.ensures script (progress script events) c.self.invariant.1 (progress-run script events) stands in
    ap not c.if-not-has_next.false ∙ and-false (is_phase_complete (progress script events))
    ∙ ap (λ (b : Bool). is_phase_complete (progress script events) && not b) (sym c.if-not-has_next.false ∙ left)
    ∙ live_told script events c.self.invariant.0 ∙ ap (λ (r : LiveRunOf). is_live r.script r.events) c.self.view_is
