use Rattle.std.proofs.Common.{◌<◌, ◌∙◌, length, sym, ap, subst, [], ◌∷◌}
use Rattle.node_core.specs.declared.packets.Mail.{Mail}
use Rattle.node_core.specs.Standing.{NodeValue}
use Rattle.node_core.specs.Stepping.{IsSound, Steps, choice_at_port}
use Rattle.node_core.specs.contracts.node.Node.{the_view}
use Rattle.node_core.proofs.Choosing.{port-inlet, kept-choice, new-choice, chosen-many}
use Rattle.node_core.proofs.node.Node.choose_at.Goals as goal

pub is_broken-broken-requires : goal.is_broken-broken-requires
is_broken-broken-requires c =
    record { inside = port-inlet (the_view c.self.inside) c.args.port (subst IsSound (sym c.self.view_is) c.requires.sound) (subst (λ (w : NodeValue). c.args.port < length w.links.known.upstreams) (sym c.self.view_is) c.requires.port) }

pub is_answered-answered-requires : goal.is_answered-answered-requires
is_answered-answered-requires c =
    record { inside = port-inlet (the_view c.self.inside) c.args.port (subst IsSound (sym c.self.view_is) c.requires.sound) (subst (λ (w : NodeValue). c.args.port < length w.links.known.upstreams) (sym c.self.view_is) c.requires.port) }

pub reopen-requires : goal.reopen-requires
reopen-requires c =
    record { inside = port-inlet (the_view c.self.inside) c.args.port (subst IsSound (sym c.self.view_is) c.requires.sound) (subst (λ (w : NodeValue). c.args.port < length w.links.known.upstreams) (sym c.self.view_is) c.requires.port) }

pub returns-in_default-clause-ports : goal.returns-in_default-clause-ports
returns-in_default-clause-ports c =
    chosen-many c.args.port _ c.self.inside.links c.choose.new.self c.choose.ensures.after ∙ ap (λ (w : NodeValue). length w.links.known.upstreams) c.self.view_is

pub returns-clause-ports : goal.returns-clause-ports
returns-clause-ports c =
    chosen-many c.args.port _ c.self.inside.links c.choose.new.self c.choose.ensures.after ∙ ap (λ (w : NodeValue). length w.links.known.upstreams) c.self.view_is

pub returns-in_default-clause-after : goal.returns-in_default-clause-after
returns-in_default-clause-after c =
    let v = the_view c.self.inside in
    let inside = subst (λ (w : NodeValue). c.args.port < length w.links.known.upstreams) (sym c.self.view_is) c.requires.port in
    subst (λ (w : NodeValue). Steps (choice_at_port c.args.port) w (record v { links = c.choose.new.self }) []) c.self.view_is
    (kept-choice c.args.port v c.choose.new.self c.is_broken-broken.result c.is_answered-answered.result c.choose.result
    (record { inside = inside; broken = c.is_broken-broken.ensures; answered = c.is_answered-answered.ensures }) c.choose.ensures.after c.choose.ensures.asked c.in_default.is)

pub returns-clause-after : goal.returns-clause-after
returns-clause-after c =
    let v = the_view c.self.inside in
    let inside = subst (λ (w : NodeValue). c.args.port < length w.links.known.upstreams) (sym c.self.view_is) c.requires.port in
    let new : NodeValue = record v { path = c.reopen.new.self; links = c.choose.new.self } in
    subst (λ (w : NodeValue). Steps (choice_at_port c.args.port) w new (c.mail.result ∷ [])) c.self.view_is
    (subst (λ (m : Mail). Steps (choice_at_port c.args.port) v new (m ∷ [])) (sym c.mail.ensures)
    (new-choice c.args.port v c.reopen.new.self c.choose.new.self c.is_broken-broken.result c.is_answered-answered.result c.choose.result c.in-Some.to c.in_ok-asked.asked
    (record { inside = inside; broken = c.is_broken-broken.ensures; answered = c.is_answered-answered.ensures }) c.choose.ensures.after c.choose.ensures.asked c.in-Some.is
    c.in_ok-asked.ensures.fixed c.in_ok-asked.ensures.reopened))
