use Rattle.std.proofs.Common.{Vec, Global, ◌≡◌, ◌∙◌, sym, ap, ℕ, List, ◌++◌, Option, option_to_list}
use Rattle.dpc_model.specs.declared.messages.Out.{Out}
use Rattle.client_fold.specs.Folding.{ClientValue, acks_of}
use Rattle.client_fold.proofs.Ticking.{sends}
use Rattle.client_fold.proofs.client.Client.tick.Goals as goal
use Rattle.client_fold.proofs.client.Client.tick.Goals.{in-Some+in-Ok, in_default}

pub returns-clause-sends : goal.returns-clause-sends
returns-clause-sends c =
    let acks : c.in_ok-outs.outs.items ≡ acks_of c.args.self.now.inlet.count c.args.self.now.upstream.senders =
    c.in_ok-outs.ensures.acks ∙ ap (λ (n : ℕ). acks_of n c.senders.result.now) (c.count.ensures ∙ ap (λ (v : ClientValue). v.inlet.count) c.self.view_is)
    ∙ ap (acks_of c.args.self.now.inlet.count) (c.senders.ensures ∙ ap (λ (v : ClientValue). v.upstream.senders) c.self.view_is) in
    let first : Option Out → List Out = λ out. option_to_list out ++ c.in_ok-outs.outs.items in
    let both : c.match-advance.outs.items ≡ option_to_list c.advance.result ++ c.in_ok-outs.outs.items =
    elim c.match-advance.branch [
      | in-Some+in-Ok w ↦ ap (λ (v : Vec Out Global). v.items) w.outs-is ∙ w.in-Ok.ensures.items ∙ ap first (sym w.in-Some.is)
      | in_default w ↦ ap (λ (v : Vec Out Global). v.items) w.outs-is ∙ ap first (sym w.in_default.is)
    ] in
    sends c.args.now c.args.self.now c.match-advance.outs.items (option_to_list c.advance.result) c.in_ok-outs.outs.items both acks c.advance.ensures.asked
