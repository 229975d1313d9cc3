use Rattle.std.proofs.Common.{length, arith}
use Rattle.disk_model.proofs.Runs.{writes_begin, wrote_within, not_synced, synced_within}
use Rattle.saved_slots.proofs.writes.write_synced.Goals as goal

pub returns-in_err-write-clause-any_moment : goal.returns-in_err-write-clause-any_moment
returns-in_err-write-clause-any_moment g c honest synced =
    let at = c.args.at in
    let n = length c.args.bytes.now in
    let base = g.D.Disk.seen c.args.disk.now in
    let begun = g.D.Disk.history c.args.disk.now in
    (wrote_within at n base begun begun (g.D.Disk.history c.write.new.self) (writes_begin at n base begun synced) at n (omega arith) (omega arith) (c.write.ensures.crash honest)).run

pub returns-in_err-sync-clause-any_moment : goal.returns-in_err-sync-clause-any_moment
returns-in_err-sync-clause-any_moment g c honest synced =
    let at = c.args.at in
    let n = length c.args.bytes.now in
    let base = g.D.Disk.seen c.args.disk.now in
    let begun = g.D.Disk.history c.args.disk.now in
    let mid = g.D.Disk.history c.write.new.self in
    let written = wrote_within at n base begun begun mid (writes_begin at n base begun synced) at n (omega arith) (omega arith) (c.write.ensures.crash honest) in
    not_synced at n base begun mid (g.D.Disk.history c.sync.new.self) written (c.in_err-sync.ensures.crash (c.write.ensures.honest honest))

pub returns-clause-any_moment : goal.returns-clause-any_moment
returns-clause-any_moment g c honest synced =
    let at = c.args.at in
    let n = length c.args.bytes.now in
    let base = g.D.Disk.seen c.args.disk.now in
    let begun = g.D.Disk.history c.args.disk.now in
    let mid = g.D.Disk.history c.write.new.self in
    let still = c.write.ensures.honest honest in
    let written = wrote_within at n base begun begun mid (writes_begin at n base begun synced) at n (omega arith) (omega arith) (c.write.ensures.crash honest) in
    synced_within at n base begun mid (g.D.Disk.history c.sync.new.self) written (g.D.Disk.seen c.write.new.self) (g.met.D.Disk.stays c.write.new.self still) (c.in_ok-sync.ensures.synced still)
