use Rattle.client_fold.specs.Folding.{all_taken}
use Rattle.std.proofs.Common.{drop}
use Rattle.picture_watch.proofs.Tallying.{renewed-is}
use Rattle.picture_watch.proofs.tallies.renewed.Goals as goal

pub returns : goal.returns
returns c = λ h.
    renewed-is c.args.tally c.in_ok-counted.counted c.args.client.now.taken (drop c.taken_behind-known.result.1 (all_taken c.taken_behind-known.result.0.now)) c.total-total.result h
    c.taken_behind-known.ensures (c.in_ok-counted.ensures {u = tt}) c.total-total.ensures
