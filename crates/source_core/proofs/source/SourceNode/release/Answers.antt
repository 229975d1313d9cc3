use Rattle.std.proofs.Common.{◌≡◌, ◌∙◌, ap, subst, ℕ, max, nat_lt, Option, None}
use Rattle.std.specs.Prelude.{if◌then◌else◌}
use Rattle.node_model.specs.Sources.{bound_at, source_gives, source_releases}
use Rattle.source_core.specs.Emitting.{SourceValue, after_step}
use Rattle.source_core.specs.contracts.source.SourceNode.{the_view}
use Rattle.source_core.proofs.source.SourceNode.release.Goals as goal

pub returns-clause-sends : goal.returns-clause-sends
unfolding source_releases
returns-clause-sends c =
    let plan = c.args.plan.now in
    let v = c.args.self.now in
    let time = c.args.time in
    let bound : c.bound_past-boundary.result ≡ (if nat_lt v.state.bound time then bound_at plan v.number time else None) =
    subst (λ (w : SourceValue). c.bound_past-boundary.result ≡ (if nat_lt w.state.bound time then bound_at plan w.number time else None)) c.self.view_is c.bound_past-boundary.ensures in
    (c.in_ok-outs.ensures {u = tt}).sends ∙ ap (λ (b : Option (ℕ × ℕ)). (source_gives plan v.number time b v.state).sends) bound

pub returns-clause-after : goal.returns-clause-after
unfolding source_releases
returns-clause-after c =
    let plan = c.args.plan.now in
    let v = c.args.self.now in
    let time = c.args.time in
    let bound : c.bound_past-boundary.result ≡ (if nat_lt v.state.bound time then bound_at plan v.number time else None) =
    subst (λ (w : SourceValue). c.bound_past-boundary.result ≡ (if nat_lt w.state.bound time then bound_at plan w.number time else None)) c.self.view_is c.bound_past-boundary.ensures in
    let raised : ℕ → SourceValue → SourceValue = λ b w. record w { state = record w.state { bound = b } } in
    ap (λ b. raised b (the_view c.self-2.inside)) c.max-self-inside.ensures
    ∙ ap (λ (w : SourceValue). raised (max w.state.bound time) w)
    (c.self-2.view_is ∙ (c.in_ok-outs.ensures {u = tt}).after ∙ ap (λ (b : Option (ℕ × ℕ)). after_step v (source_gives plan v.number time b v.state)) bound)
