use Rattle.std.proofs.Common.{◌≡◌, ◌∙◌, ℕ, List, map, sym, ap, subst}
use Rattle.dpc_lists.specs.Lists.{nth}
use Rattle.dpc_model.specs.declared.messages.Message.{Message}
use Rattle.node_model.specs.Nodes.{spec_of}
use Rattle.node_model.specs.NodeParts.{inputs_of, outputs_of}
use Rattle.node_core.specs.declared.packets.Mail.{Mail}
use Rattle.node_core.specs.Standing.{NodeValue, StandsForNode, AreMails}
use Rattle.node_core.specs.Stepping.{taken_back, plain_mail}
use Rattle.node_core.specs.contracts.node.Node.{the_view}
use Rattle.node_core.proofs.Recovering.{taken-back-stands, taken-back-sends}
use Rattle.node_core.proofs.node.Node.enter.Goals as goal

pub returns-clause-after : goal.returns-clause-after
returns-clause-after c =
    let v = the_view c.self.inside in
    let ms = c.in_ok-sends.sends.items in
    let sent : c.in_ok-mails.mails.items ≡ map (λ (m : ℕ × Message). plain_mail (nth 0 v.readers m.0) m.1) ms =
    c.in_ok-mails.ensures {u = tt} ∙ ap (λ (rs : List ℕ). map (λ (m : ℕ × Message). plain_mail (nth 0 rs m.0) m.1) ms) c.as_slice.ensures.value in
    record {
      after = λ home p h fit.
          let stands : StandsForNode home v p = subst (λ (w : NodeValue). StandsForNode home w p) (sym c.self.view_is) h in
          taken-back-stands home v p c.undo.new.self ms stands c.in_ok-sends.ensures.fixed
          (c.in_ok-sends.ensures.undone (spec_of home).ops (inputs_of p) (outputs_of p) stands.path);
      sends = λ home p h fit.
          let stands : StandsForNode home v p = subst (λ (w : NodeValue). StandsForNode home w p) (sym c.self.view_is) h in
          subst (λ (mails : List Mail). AreMails home mails (taken_back home p).sends) (sym sent)
          (taken-back-sends home v p c.undo.new.self ms stands (c.in_ok-sends.ensures.undone (spec_of home).ops (inputs_of p) (outputs_of p) stands.path));
    }
