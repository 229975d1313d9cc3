use Rattle.std.proofs.Common.{ap, ◌∙◌}
use Rattle.disk_model.specs.Disk.{Image}
use Rattle.disk_model.proofs.mem_disk.MemDiskDisk.write.Goals as goal

-- room was made, and nothing reads otherwise
pub invariant_of-self : goal.invariant_of-self
invariant_of-self c = record { marked = c.args.self.now.marked; kept = λ i out. ap (λ (image : Image). image i) c.prepare.ensures.image ∙ c.args.self.now.kept i out }
