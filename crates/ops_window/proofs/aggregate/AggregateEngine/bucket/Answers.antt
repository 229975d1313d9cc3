use Rattle.std.proofs.Common.{◌≡◌, ◌*◌, true, ◌∙◌, refl, sym, subst}
use Rattle.dpc_model.specs.Engines.{IsBucket, added_output}
use Rattle.ops_window.specs.Windows.{AggregateState, AggregateAfter, aggregate_value}
use Rattle.ops_window.specs.Saving.{can_all_wait, all_saved}
use Rattle.ops_window.proofs.Orderly.{wait-next, ended-lie}
use Rattle.ops_window.proofs.Step.{step-answer, step-cells, step-below}
use Rattle.ops_window.proofs.aggregate.AggregateEngine.bucket.Goals as goal

pub returns-in-Ok-clause-answer : goal.returns-in-Ok-clause-answer
returns-in-Ok-clause-answer c = λ before held.
    let after = subst (λ (a : AggregateState). AggregateAfter a before c.args.k) (sym c.self.view_is) held in
    let fits = subst (λ (a : AggregateState). IsBucket a.width c.args.k c.args.inputs.now) (sym c.self.view_is) c.requires.accepts.bucket in
    subst (λ (a : AggregateState). c.in-Ok.rows ≡ added_output (aggregate_value a.size a.step a.group a.aggs) a.width before c.args.inputs.now c.args.k) c.self.view_is
    (c.in-Ok.ensures.rows ∙ step-answer _ c.args.k before c.args.inputs.now c.self.inside.sized c.self.inside.stepped after fits)

pub invariant_of-self : goal.invariant_of-self
invariant_of-self c = λ idle.
    let a = c.self.inside in
    let k = c.args.k in
    let next = rw (← c.self.view_is) at c.requires.next in
    let fits = subst (λ (s : AggregateState). IsBucket s.width k c.args.inputs.now) (sym c.self.view_is) c.requires.accepts.bucket in
    let wait : can_all_wait a.shape.size a.shape.step a.shape.group a.shape.aggs (k * a.width) (all_saved a.cells) ≡ true = rw next (c.self.invariant c.if-self.false) in
    rw c.in-Ok.ensures.cells (wait-next a.shape.size a.shape.step a.shape.group a.shape.aggs a.sized a.stepped a.width k a.cells c.args.inputs.now wait fits)

pub returns-in-Ok-clause-inside : goal.returns-in-Ok-clause-inside
returns-in-Ok-clause-inside c =
    let a = c.self.inside in
    let k = c.args.k in
    let next = rw (← c.self.view_is) at c.requires.next in
    let fits = subst (λ (s : AggregateState). IsBucket s.width k c.args.inputs.now) (sym c.self.view_is) c.requires.accepts.bucket in
    let wait : can_all_wait a.shape.size a.shape.step a.shape.group a.shape.aggs (k * a.width) (all_saved a.cells) ≡ true = rw next (c.self.invariant c.if-self.false) in
    rw (← c.self.view_is, c.in-Ok.ensures.rows) (ended-lie a.shape.size a.shape.step a.shape.group a.shape.aggs a.sized a.stepped a.width k a.cells c.args.inputs.now wait fits)

pub returns-in-Ok-clause-after : goal.returns-in-Ok-clause-after
returns-in-Ok-clause-after c = λ before held.
    let after = subst (λ (a : AggregateState). AggregateAfter a before c.args.k) (sym c.self.view_is) held in
    let fits = subst (λ (a : AggregateState). IsBucket a.width c.args.k c.args.inputs.now) (sym c.self.view_is) c.requires.accepts.bucket in
    record {
      next = refl;
      below = step-below _ c.args.k before c.args.inputs.now c.self.inside.sized c.self.inside.stepped after fits;
      cells = c.in-Ok.ensures.cells ∙ step-cells _ c.args.k before c.args.inputs.now c.self.inside.sized c.self.inside.stepped after fits;
    }
