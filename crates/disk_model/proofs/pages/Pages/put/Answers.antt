use Rattle.std.proofs.Common.{◌+◌, List, ℕ, take, subst, ap, arith}
use Rattle.disk_model.specs.Disk.{Holds}
use Rattle.disk_model.specs.Paging.{image_of}
use Rattle.disk_model.proofs.Parts.{put_on}
use Rattle.disk_model.proofs.pages.Pages.put.Goals as goal

pub loop-done-preserved : goal.loop-done-preserved
loop-done-preserved c =
    let done = c.loop-done.done in
    let more = c.put_part-done.result in
    let behind = subst (λ (xs : List ℕ). Holds (image_of c.loop-done.self.map) (c.args.at + done) xs (image_of c.put_part-done.new.self.map)) (ap (take more) c.split_at.ensures.back) c.put_part-done.ensures.image in
    record {
      within = omega (arith, c.put_part-done.ensures.within, c.split_at.ensures.back_len);
      written = put_on _ _ _ c.args.at done more c.args.bytes.now c.loop-done.invariant.within c.loop-done.invariant.written behind;
      there = λ i low high. c.put_part-done.ensures.keeps _ (c.loop-done.invariant.there i low high);
    }
