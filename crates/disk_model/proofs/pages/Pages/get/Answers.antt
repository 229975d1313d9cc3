use Rattle.std.proofs.Common.{arith}
use Rattle.disk_model.specs.Paging.{image_of}
use Rattle.disk_model.proofs.Parts.{part_is, filled_more}
use Rattle.disk_model.proofs.pages.Pages.get.Goals as goal

pub loop-done-preserved : goal.loop-done-preserved
loop-done-preserved c = record {
  within = omega (arith, c.get_part-done.ensures.within);
  filled = filled_more (image_of c.args.self.now.map) c.args.at c.loop-done.done c.get_part-done.result _ _ (omega (arith, c.get_part-done.ensures.more)) c.loop-done.invariant.filled c.get_part-done.ensures.part;
}

pub returns : goal.returns
returns c = part_is _ _ _ _ c.loop-done.auto.buf (λ k low. c.loop-done.invariant.filled k (omega arith))
