use Rattle.std.proofs.Common.{◌-◌, take, refl, ap, ◌∙◌, arith}
use Rattle.std.specs.Prelude.{fold, unwrap_or}
use Rattle.script_rules.specs.Reasons.{down_after}
use Rattle.script_check.proofs.Looking.{last_changed}
use Rattle.script_check.proofs.directives.last_change.Goals as goal

pub returns-in-Some : goal.returns-in-Some
returns-in-Some c down =
    let ds = c.args.directives.now in
    let left = c.loop-left.left in
    c.loop-left.invariant.kept down ∙ last_changed c.args.node ds left _ _ c.change_of.result (omega arith) c.loop-left.invariant.within refl c.change_of.ensures down
    ∙ ap (λ o. unwrap_or o (fold (down_after c.args.node) down (take (left - 1) ds))) c.in-Some.is

pub loop-left-preserved : goal.loop-left-preserved
loop-left-preserved c =
    let ds = c.args.directives.now in
    let left = c.loop-left.left in
    let low = c.loop-left.invariant.within in
    record {
      within = omega (arith, low);
      kept = λ down.
          c.loop-left.invariant.kept down ∙ last_changed c.args.node ds left _ _ c.change_of.result (omega arith) low refl c.change_of.ensures down
          ∙ ap (λ o. unwrap_or o (fold (down_after c.args.node) down (take (left - 1) ds))) c.in_default.is;
    }
