use Rattle.std.proofs.Common.{rules, sym, ◌∙◌}
use Rattle.world_parts.specs.Counting.{IsWithinLimits}
use Rattle.world_parts.proofs.CutLinks.{is_cut, stays_cut}
use Rattle.world_parts.proofs.parts.WorldParts.cut.Goals as goal

pub returns-in_ok-push : goal.returns-in_ok-push
returns-in_ok-push c =
    let within : IsWithinLimits c.args.self.now = search rules in
    is_cut c.args.roster.now c.args.self.now _ c.args.a c.args.b within (search rules) (λ x h. sym c.if-link_up.true ∙ c.link_up.ensures x h)

pub returns-else-link_up : goal.returns-else-link_up
returns-else-link_up c =
    let within : IsWithinLimits c.args.self.now = search rules in
    stays_cut c.args.roster.now c.args.self.now c.args.a c.args.b within (λ x h. sym c.if-link_up.false ∙ c.link_up.ensures x h)
