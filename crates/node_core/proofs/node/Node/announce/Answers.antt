use Rattle.std.proofs.Common.{List, sym, subst}
use Rattle.node_model.specs.NodeSteps.{announcing_step}
use Rattle.node_core.specs.declared.packets.Mail.{Mail}
use Rattle.node_core.specs.Stepping.{Steps}
use Rattle.node_core.proofs.Announcing.{announced}
use Rattle.node_core.proofs.node.Node.announce.Goals as goal

pub returns : goal.returns
returns c =
    subst (λ (ms : List Mail). Steps announcing_step c.args.self.now c.args.self.now ms) (sym c.in_ok-append.ensures.items)
    (announced c.args.self.now c.in_ok-mails.mails.items c.in_ok-beats.field-0.items (c.in_ok-mails.ensures {u = tt}) (c.in_ok-beats.ensures {u = tt}))
