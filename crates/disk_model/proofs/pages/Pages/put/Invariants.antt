use Rattle.std.proofs.Common.{◌≤◌, ◌-◌, length, take}
use Rattle.disk_model.specs.Disk.{Holds}
use Rattle.disk_model.specs.Paging.{HasPages, image_of}
use Rattle.disk_model.proofs.pages.Pages.put.Given as goal

abbrev pub invariant-loop-done : goal.invariant-loop-done
invariant-loop-done l = record {
  within : l.done ≤ length l.bytes;
  written : Holds (image_of l.fn.self.map) l.at (take l.done l.bytes) (image_of l.self.map);
  there : HasPages l.self.map l.at (length l.bytes);
}

abbrev pub decreases-loop-done : goal.decreases-loop-done
decreases-loop-done l = length l.bytes - l.done
