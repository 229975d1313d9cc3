use Rattle.std.proofs.Common.{◌∙◌, ◌++◌, ◌∷◌, [], sym, subst, ap, List}
use Rattle.node_model.specs.Stands.{SnapValue}
use Rattle.fragment_mill.specs.Mills.{MillState}
use Rattle.pipeline.specs.Recovery.{StandsForSnapshot, snap_of}
use Rattle.node_model.specs.Nodes.{spec_of}
use Rattle.node_model.specs.NodeParts.{inputs_of, outputs_of}
use Rattle.node_core.specs.declared.packets.Mail.{Mail}
use Rattle.node_core.specs.declared.packets.Packet.TheVariants as packet
use Rattle.node_core.specs.Standing.{NodeValue, StandsForNode}
use Rattle.node_model.specs.NodeSteps.{on_snap_ask}
use Rattle.node_core.specs.Stepping.{IsTakenAs, unless_recovering}
use Rattle.node_core.proofs.Answering.{steps-by, snapshot-sent}
use Rattle.node_core.proofs.node.Node.on_snap_ask.Goals as goal

pub returns-clause-after : goal.returns-clause-after
returns-clause-after c =
    let one : Mail = record { to = c.args.sender; packet = packet.SnapFor c.args.inc c.args.number c.in_ok-new.field-0 } in
    steps-by _ _ _ _ (λ home p stands fit.
    let h = subst (λ (v : NodeValue). StandsForNode home v p) (sym c.self.view_is) stands in
    let made = c.in_ok-snapshot.ensures (spec_of home).ops (inputs_of p) (outputs_of p) h.path fit.inputs.ordered in
    let taken = subst (λ (s : SnapValue MillState). StandsForSnapshot (spec_of home).ops c.self.inside.path.union.width s (snap_of c.self.inside.path.union.width (inputs_of p) (outputs_of p))) (sym (c.in_ok-new.ensures {u = tt}).ok) made in
    subst (λ (v : NodeValue). IsTakenAs v c.push.new.self.items home (unless_recovering (λ home p. on_snap_ask home c.args.sender c.args.inc c.args.number p) home p)) c.self.view_is
    (snapshot-sent home _ p c.args.sender c.args.inc c.args.number c.in_ok-new.field-0 _ h c.if-self.false taken
    (c.in_ok-push.ensures.items ∙ ap (λ (ms : List Mail). ms ++ one ∷ []) c.new-mails.ensures.items)))
