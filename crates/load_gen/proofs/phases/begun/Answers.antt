use Rattle.std.proofs.Common.{arith, ◌∙◌, ap, Some}
use Rattle.load_gen.proofs.Drawing.{failures-is, begun-is}
use Rattle.load_gen.proofs.phases.begun.Goals as goal

pub bounds-draws-j : goal.bounds-draws-j
bounds-draws-j c =
    let many = c.requires.draws in
    let low = c.requires.range.0 in
    let high = c.requires.range.1 in
    let fifth = c.if-p-ne0.false in
    let is = failures-is in
    omega (arith, many, low, high, fifth, is)

pub returns : goal.returns
returns c seed e = ap Some c.failure.ensures ∙ rw e (begun-is seed c.args.p _ c.if-p-ne0.false c.requires.range.0 c.requires.range.1)
