use Rattle.std.proofs.Common.{◌∙◌, sym}
use Rattle.node_links.proofs.Looping.{sender-here, sender-later}
use Rattle.node_links.proofs.senders.sender.Goals as goal

pub returns-in-Some : goal.returns-in-Some
returns-in-Some c =
    sym (sender-here c.loop-port.port c.args.actor c.in-Some.r c.args.upstreams.now c.index-upstreams-port.result c.loop-port-test.true c.index-upstreams-port.is (sym c.replica.ensures ∙ c.in-Some.is) c.loop-port.invariant)

pub loop-port-preserved : goal.loop-port-preserved
loop-port-preserved c =
    sender-later c.loop-port.port c.args.actor c.args.upstreams.now c.index-upstreams-port.result c.loop-port-test.true c.index-upstreams-port.is (sym c.replica.ensures ∙ c.in_default.is) c.loop-port.invariant
