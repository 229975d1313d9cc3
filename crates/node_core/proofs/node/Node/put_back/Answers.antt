use Rattle.std.proofs.Common.{ap, Vec, Global, Err}
use Rattle.node_core.specs.declared.faults.CommitFault.TheVariants.{Stale}
use Rattle.node_core.specs.declared.packets.Mail.{Mail}
use Rattle.node_core.proofs.Committed.{put-there, put-back, not-spent, same-fault}
use Rattle.node_core.proofs.node.Node.put_back.Goals as goal

pub put-requires : goal.put-requires
put-requires c =
    let v = c.args.self.now in
    let known = c.requires (not-spent tt v.spent c.in_default.ensures.spent.1) in
    let work = c.in_default.ensures.ok known.0 known.1 known.2 known.3 known.4 in
    (known.0, known.1, put-there known.0 v known.1 c.args.done.order c.into_parts-after.result.0 c.into_parts-after.result.1 c.count-count.result c.count-count.ensures.many c.into_parts-after.ensures.milled known.2 known.3 work.fits)

pub returns-clause-ok : goal.returns-clause-ok
returns-clause-ok c =
    put-back c.args.self.now c.put.new.self c.args.done.order c.into_parts-after.result.0 c.into_parts-after.result.1 c.count-count.result c.in-Ok.mails.items c.count-count.ensures.many c.into_parts-after.ensures.milled
    c.in_default.ensures.ok c.in-Ok.ensures.after

pub returns-in-Err-clause-stale : goal.returns-in-Err-clause-stale
returns-in-Err-clause-stale c = λ had needed e. c.in-Err.ensures.stale had needed (ap Err (same-fault {X = Vec Mail Global} c.in-Err.fault (Stale had needed) e))
