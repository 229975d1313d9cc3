use Rattle.std.proofs.Common.{◌+◌, length}
use Rattle.disk_model.specs.Synced.{DiffersWithin}
use Rattle.saved_slots.specs.Slots.{read_of}
use Rattle.saved_slots.specs.Standing.{IsOldOrNew}
use Rattle.saved_slots.specs.Saving.{MayBeShut}
use Rattle.disk_model.proofs.Moments.{weaker, joined, in_the_end}
use Rattle.saved_slots.proofs.Saves.{old_or_new, stands_shut, stands_filled, last_leaves, last_has}
use Rattle.saved_slots.proofs.writes.put_slot.Goals as goal

pub returns-in_err-shut_gate-clause-any_moment : goal.returns-in_err-shut_gate-clause-any_moment
returns-in_err-shut_gate-clause-any_moment g c honest room second is ready =
    let base = g.D.Disk.seen c.args.disk.now in
    let h = g.D.Disk.history c.args.disk.now in
    let at = c.args.at in
    let n = c.args.number in
    let payload = g.P.Payload.bytes c.args.payload.now in
    let P = IsOldOrNew room (read_of room base) payload in
    let shut_run = c.shut_gate.ensures.any_moment honest ready.synced in
    let first = weaker h (g.D.Disk.history c.shut_gate.new.disk) (MayBeShut at base) P (λ image may. old_or_new room second at n payload h base is ready image (stands_shut room second at n payload h base is ready image may)) shut_run in
    first

pub returns-in_err-fill_slot-clause-any_moment : goal.returns-in_err-fill_slot-clause-any_moment
returns-in_err-fill_slot-clause-any_moment g c honest room second is ready =
    let base = g.D.Disk.seen c.args.disk.now in
    let h = g.D.Disk.history c.args.disk.now in
    let at = c.args.at in
    let n = c.args.number in
    let payload = g.P.Payload.bytes c.args.payload.now in
    let P = IsOldOrNew room (read_of room base) payload in
    let shut_run = c.shut_gate.ensures.any_moment honest ready.synced in
    let first = weaker h (g.D.Disk.history c.shut_gate.new.disk) (MayBeShut at base) P (λ image may. old_or_new room second at n payload h base is ready image (stands_shut room second at n payload h base is ready image may)) shut_run in
    let still = c.shut_gate.ensures.honest honest in
    let shut_base = g.D.Disk.seen c.shut_gate.new.disk in
    let stands = stands_shut room second at n payload h base is ready shut_base (in_the_end h (g.D.Disk.history c.shut_gate.new.disk) (MayBeShut at base) shut_run shut_base (g.met.D.Disk.stays c.shut_gate.new.disk still)) in
    let shut = c.in_ok-shut_gate.ensures.shut honest in
    let shut_synced = c.in_ok-shut_gate.ensures.synced honest ready.synced in
    let fill_run = c.fill_slot.ensures.any_moment still shut_synced in
    let filling = weaker _ (g.D.Disk.history c.fill_slot.new.disk) (DiffersWithin (at + 16) (16 + length payload) shut_base) P (λ image differs. old_or_new room second at n payload h base is ready image (stands_filled room second at n payload h base is ready shut_base stands shut image differs)) fill_run in
    let both = joined h _ (g.D.Disk.history c.fill_slot.new.disk) P first filling in
    both

pub returns-in_err-write_synced-clause-any_moment : goal.returns-in_err-write_synced-clause-any_moment
returns-in_err-write_synced-clause-any_moment g c honest room second is ready =
    let base = g.D.Disk.seen c.args.disk.now in
    let h = g.D.Disk.history c.args.disk.now in
    let at = c.args.at in
    let n = c.args.number in
    let payload = g.P.Payload.bytes c.args.payload.now in
    let P = IsOldOrNew room (read_of room base) payload in
    let shut_run = c.shut_gate.ensures.any_moment honest ready.synced in
    let first = weaker h (g.D.Disk.history c.shut_gate.new.disk) (MayBeShut at base) P (λ image may. old_or_new room second at n payload h base is ready image (stands_shut room second at n payload h base is ready image may)) shut_run in
    let still = c.shut_gate.ensures.honest honest in
    let shut_base = g.D.Disk.seen c.shut_gate.new.disk in
    let stands = stands_shut room second at n payload h base is ready shut_base (in_the_end h (g.D.Disk.history c.shut_gate.new.disk) (MayBeShut at base) shut_run shut_base (g.met.D.Disk.stays c.shut_gate.new.disk still)) in
    let shut = c.in_ok-shut_gate.ensures.shut honest in
    let shut_synced = c.in_ok-shut_gate.ensures.synced honest ready.synced in
    let fill_run = c.fill_slot.ensures.any_moment still shut_synced in
    let filling = weaker _ (g.D.Disk.history c.fill_slot.new.disk) (DiffersWithin (at + 16) (16 + length payload) shut_base) P (λ image differs. old_or_new room second at n payload h base is ready image (stands_filled room second at n payload h base is ready shut_base stands shut image differs)) fill_run in
    let both = joined h _ (g.D.Disk.history c.fill_slot.new.disk) P first filling in
    let again = c.fill_slot.ensures.honest still in
    let filled = g.D.Disk.seen c.fill_slot.new.disk in
    let holds = c.in_ok-fill_slot.ensures.written still in
    let opening = weaker _ (g.D.Disk.history c.write_synced.new.disk) (DiffersWithin at 1 filled) P (last_leaves room second at n payload h base is ready shut_base stands shut filled holds) (c.write_synced.ensures.any_moment again (c.in_ok-fill_slot.ensures.synced still)) in
    joined h _ (g.D.Disk.history c.write_synced.new.disk) P both opening

pub returns-clause-any_moment : goal.returns-clause-any_moment
returns-clause-any_moment g c honest room second is ready =
    let base = g.D.Disk.seen c.args.disk.now in
    let h = g.D.Disk.history c.args.disk.now in
    let at = c.args.at in
    let n = c.args.number in
    let payload = g.P.Payload.bytes c.args.payload.now in
    let P = IsOldOrNew room (read_of room base) payload in
    let shut_run = c.shut_gate.ensures.any_moment honest ready.synced in
    let first = weaker h (g.D.Disk.history c.shut_gate.new.disk) (MayBeShut at base) P (λ image may. old_or_new room second at n payload h base is ready image (stands_shut room second at n payload h base is ready image may)) shut_run in
    let still = c.shut_gate.ensures.honest honest in
    let shut_base = g.D.Disk.seen c.shut_gate.new.disk in
    let stands = stands_shut room second at n payload h base is ready shut_base (in_the_end h (g.D.Disk.history c.shut_gate.new.disk) (MayBeShut at base) shut_run shut_base (g.met.D.Disk.stays c.shut_gate.new.disk still)) in
    let shut = c.in_ok-shut_gate.ensures.shut honest in
    let shut_synced = c.in_ok-shut_gate.ensures.synced honest ready.synced in
    let fill_run = c.fill_slot.ensures.any_moment still shut_synced in
    let filling = weaker _ (g.D.Disk.history c.fill_slot.new.disk) (DiffersWithin (at + 16) (16 + length payload) shut_base) P (λ image differs. old_or_new room second at n payload h base is ready image (stands_filled room second at n payload h base is ready shut_base stands shut image differs)) fill_run in
    let both = joined h _ (g.D.Disk.history c.fill_slot.new.disk) P first filling in
    let again = c.fill_slot.ensures.honest still in
    let filled = g.D.Disk.seen c.fill_slot.new.disk in
    let holds = c.in_ok-fill_slot.ensures.written still in
    let opening = weaker _ (g.D.Disk.history c.write_synced.new.disk) (DiffersWithin at 1 filled) P (last_leaves room second at n payload h base is ready shut_base stands shut filled holds) (c.write_synced.ensures.any_moment again (c.in_ok-fill_slot.ensures.synced still)) in
    joined h _ (g.D.Disk.history c.write_synced.new.disk) P both opening

pub returns-clause-done : goal.returns-clause-done
returns-clause-done g c honest room second is ready =
    let base = g.D.Disk.seen c.args.disk.now in
    let h = g.D.Disk.history c.args.disk.now in
    let at = c.args.at in
    let n = c.args.number in
    let payload = g.P.Payload.bytes c.args.payload.now in
    let P = IsOldOrNew room (read_of room base) payload in
    let shut_run = c.shut_gate.ensures.any_moment honest ready.synced in
    let first = weaker h (g.D.Disk.history c.shut_gate.new.disk) (MayBeShut at base) P (λ image may. old_or_new room second at n payload h base is ready image (stands_shut room second at n payload h base is ready image may)) shut_run in
    let still = c.shut_gate.ensures.honest honest in
    let shut_base = g.D.Disk.seen c.shut_gate.new.disk in
    let stands = stands_shut room second at n payload h base is ready shut_base (in_the_end h (g.D.Disk.history c.shut_gate.new.disk) (MayBeShut at base) shut_run shut_base (g.met.D.Disk.stays c.shut_gate.new.disk still)) in
    let shut = c.in_ok-shut_gate.ensures.shut honest in
    let shut_synced = c.in_ok-shut_gate.ensures.synced honest ready.synced in
    let fill_run = c.fill_slot.ensures.any_moment still shut_synced in
    let filling = weaker _ (g.D.Disk.history c.fill_slot.new.disk) (DiffersWithin (at + 16) (16 + length payload) shut_base) P (λ image differs. old_or_new room second at n payload h base is ready image (stands_filled room second at n payload h base is ready shut_base stands shut image differs)) fill_run in
    let both = joined h _ (g.D.Disk.history c.fill_slot.new.disk) P first filling in
    let again = c.fill_slot.ensures.honest still in
    let filled = g.D.Disk.seen c.fill_slot.new.disk in
    let holds = c.in_ok-fill_slot.ensures.written still in (
      c.in_ok-write_synced.ensures.synced again,
      last_has room second at n payload h base is ready shut_base stands shut filled holds (g.D.Disk.seen c.write_synced.new.disk) (c.in_ok-write_synced.ensures.written again),
    )
