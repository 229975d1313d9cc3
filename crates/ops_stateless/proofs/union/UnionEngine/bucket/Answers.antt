use Rattle.std.proofs.Common.{◌≡◌, ℕ, ◌∙◌, ap}
use Rattle.ops_stateless.specs.Unions.{UnionState}
use Rattle.ops_stateless.proofs.UnionBuckets.{standing, union-added}
use Rattle.ops_stateless.proofs.union.UnionEngine.bucket.Goals as goal

-- what stands is what the bucket adds
pub returns-in-Ok-clause-answer : goal.returns-in-Ok-clause-answer
returns-in-Ok-clause-answer c =
    let ports : c.self.inside.ports ≡ c.args.self.now.ports = ap (λ (u : UnionState). u.ports) c.self.view_is in
    λ before h.
    c.in-Ok.ensures ∙ ap (λ (n : ℕ). standing n c.args.inputs.now) ports
    ∙ union-added c.args.self.now.ports c.args.self.now.width c.args.k before c.args.inputs.now h.below c.requires.accepts.bucket
