use Rattle.picture_model.specs.Marking.{grant_at}
use Rattle.picture_watch.proofs.Replicas.{told_more}
use Rattle.picture_watch.proofs.grants.put_grants.Goals as goal

pub loop-i-preserved : goal.loop-i-preserved
loop-i-preserved c =
    told_more (grant_at c.args.plan.now c.args.before.now c.args.now.now) c.loop-i.i c.args.marks.now.items c.loop-i.marks.items _ c.loop-i.invariant c.in_ok-put_grant_at.ensures
