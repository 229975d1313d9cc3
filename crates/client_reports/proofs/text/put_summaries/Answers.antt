use Rattle.std.proofs.Common.{◌++◌, ap, ◌∙◌, arith}
use Rattle.std.specs.Prelude.{flat_map}
use Rattle.client_reports.specs.Telling.{short_by}
use Rattle.client_reports.proofs.Reports.{named-grows, named-whole}
use Rattle.client_reports.proofs.text.put_summaries.Goals as goal

pub loop-i-preserved : goal.loop-i-preserved
loop-i-preserved c =
    rw (c.in_ok-put_summary.ensures.put, c.summary.ensures, c.loop-i.invariant)
    (named-grows c.args.specs.now c.args.clients.now c.loop-i.i c.index-specs-i.result c.index-clients-i.result c.as_slice.result.now
    (omega (arith, c.min-i-end.ensures, c.loop-i-test.true)) c.index-specs-i.is c.index-clients-i.is c.as_slice.ensures short_by c.args.text.now.items)

pub returns : goal.returns
returns c = c.loop-i.invariant ∙ ap (λ cs. c.args.text.now.items ++ flat_map short_by cs) (named-whole c.args.specs.now c.args.clients.now c.loop-i.i (omega (arith, c.min-i-end.ensures, c.loop-i-test.false)))
