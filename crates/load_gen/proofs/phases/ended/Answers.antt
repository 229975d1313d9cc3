use Rattle.std.proofs.Common.{arith, ◌∙◌}
use Rattle.load_gen.proofs.Drawing.{failures-is, ended-is}
use Rattle.load_gen.proofs.phases.ended.Goals as goal

pub bounds-draws-j : goal.bounds-draws-j
bounds-draws-j c =
    let many = c.requires.draws in
    let low = c.requires.range.0 in
    let high = c.requires.range.1 in
    let second = c.if-p-ne2.false in
    let late = c.if-p-le2.false in
    let is = failures-is in
    omega (arith, many, low, high, second, late, is)

pub returns : goal.returns
returns c seed e = c.ending.ensures ∙ rw e (ended-is seed c.args.p _ c.if-p-ne2.false c.if-p-le2.false c.requires.range.1)
