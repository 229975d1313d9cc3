use Rattle.std.proofs.Common.{◌≡◌, rules}
use Rattle.disk_model.proofs.Runs.{still_synced}
use Rattle.saved_slots.proofs.Shutting.{after_read, after_shutting}
use Rattle.saved_slots.proofs.writes.shut_gate.Goals as goal

pub returns-in_err-read-clause-any_moment : goal.returns-in_err-read-clause-any_moment
returns-in_err-read-clause-any_moment g c honest synced = after_read _ _ synced c.args.at _ (c.read.ensures.crash honest)

pub returns-in_err-write_synced-clause-any_moment : goal.returns-in_err-write_synced-clause-any_moment
returns-in_err-write_synced-clause-any_moment g c honest synced =
    let still = c.read.ensures.honest honest in
    let alike = c.read.ensures.seen honest in
    let now_synced = still_synced _ _ synced _ _ (c.read.ensures.crash honest) alike in
    let gate : (g.D.Disk.seen c.args.disk.now) c.args.at ≡ 1 = search rules in
    after_shutting _ _ synced c.args.at _ _ _ (c.read.ensures.crash honest) alike gate (c.write_synced.ensures.any_moment still now_synced)

pub returns-in_ok-write_synced-clause-any_moment : goal.returns-in_ok-write_synced-clause-any_moment
returns-in_ok-write_synced-clause-any_moment g c honest synced =
    let still = c.read.ensures.honest honest in
    let alike = c.read.ensures.seen honest in
    let now_synced = still_synced _ _ synced _ _ (c.read.ensures.crash honest) alike in
    let gate : (g.D.Disk.seen c.args.disk.now) c.args.at ≡ 1 = search rules in
    after_shutting _ _ synced c.args.at _ _ _ (c.read.ensures.crash honest) alike gate (c.write_synced.ensures.any_moment still now_synced)

pub returns-else-gate-eq1-clause-any_moment : goal.returns-else-gate-eq1-clause-any_moment
returns-else-gate-eq1-clause-any_moment g c honest synced = after_read _ _ synced c.args.at _ (c.read.ensures.crash honest)
