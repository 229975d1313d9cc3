use Rattle.std.proofs.Common.{rules, refl, ◌∙◌, w64, FitsSigned}
use Rattle.std.proofs.lemmas.Int.{to_z-of_z}
use Rattle.load_gen.proofs.Drawing.{two-more, entry-is}
use Rattle.load_gen.proofs.plan.entry_of.Goals as goal

pub returns-clause-state : goal.returns-clause-state
returns-clause-state c seed done e = rw (c.draw-2.ensures.state, c.draw.ensures.state) (two-more seed done c.args.generator.now.state e)

pub returns-clause-entry : goal.returns-clause-entry
returns-clause-entry c seed first e =
    let fits : FitsSigned w64 c.from-value.result = search rules in
    let value = rw (to_z-of_z w64 c.from-value.result fits) at c.in_ok-vals.ensures in
    entry-is seed first c.args.i c.args.generator.now.state c.from.result c.in_ok-vals.vals e (rw (c.from.ensures, c.draw.ensures.drawn) refl)
    (value ∙ rw (c.from-value.ensures, c.draw-2.ensures.drawn, c.draw.ensures.state) refl)
