use Rattle.mill_pool.proofs.Gathering.{closed}
use Rattle.mill_pool.proofs.pool.Pool.close.Goals as goal

pub returns-clause-account : goal.returns-clause-account
returns-clause-account g c =
    let account = c.in-Ok.ensures {u = tt} in
    let left = c.gather_all.ensures in
    closed c.args.seats.items c.as_slice.result.now left.0 c.in-Ok.account c.as_slice.ensures.value left.1 account.put account.taken account.left
