use Rattle.std.proofs.Common.{rules}
use Rattle.disk_model.specs.Disk.{LeavesOnly}
use Rattle.saved_slots.specs.Slots.{read_of}
use Rattle.saved_slots.specs.Standing.{IsOldOrNew}
use Rattle.disk_model.proofs.Moments.{in_the_end}
use Rattle.saved_slots.proofs.Saves.{nothing_yet}
use Rattle.saved_slots.proofs.slots.SavedSlots.save.Goals as goal

pub returns-in-Some-clause-any_moment : goal.returns-in-Some-clause-any_moment
returns-in-Some-clause-any_moment g c rests = nothing_yet _ _ _ _ rests.synced

pub returns-in_err-put_slot-clause-whatever : goal.returns-in_err-put_slot-clause-whatever
returns-in_err-put_slot-clause-whatever g c rests =
    let P = IsOldOrNew c.args.self.now.room (read_of c.args.self.now.room (g.D.Disk.seen c.args.self.now.disk)) (g.P.Payload.bytes c.args.payload.now) in
    let run : LeavesOnly (g.D.Disk.history c.args.self.now.disk) (g.D.Disk.history c.put_slot.new.disk) P = search rules in
    in_the_end _ _ P run _ (g.met.D.Disk.stays c.put_slot.new.disk (c.put_slot.ensures.honest rests.honest))
