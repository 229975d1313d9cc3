use Rattle.std.proofs.Common.{◌≡◌, ◌≤◌, ◌+◌, length, take}
use Rattle.std.specs.List.{concat}
use Rattle.disk_model.specs.Disk.{Holds}
use Rattle.disk_model.specs.Synced.{WritesAt}
use Rattle.saved_slots.proofs.writes.write_pieces.Given as goal

-- the pieces so far are written
abbrev pub invariant-loop-number : goal.invariant-loop-number
invariant-loop-number g l =
    let before = concat (take l.number (g.P.Payload.pieces l.payload)) in
    let old = l.fn.disk in
    record {
      place : l.place ≡ l.at + length before;
      extent : g.D.Disk.extent l.disk ≡ g.D.Disk.extent old;
      faults : g.D.Disk.faults old ≤ g.D.Disk.faults l.disk;
      honest : g.D.Disk.is_honest old → g.D.Disk.is_honest l.disk;
      writes : g.D.Disk.is_honest old → WritesAt l.at (length before) (g.D.Disk.history old) (g.D.Disk.history l.disk);
      written : g.D.Disk.is_honest old → Holds (g.D.Disk.seen old) l.at before (g.D.Disk.seen l.disk);
    }
