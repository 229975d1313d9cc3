use Rattle.std.proofs.Common.{◌≡◌, ◌<◌, ◌∙◌, ap, sym, subst, length, List}
use Rattle.dpc_lists.specs.Lists.{nth, changed}
use Rattle.dpc_lists.proofs.Elements.{nth-is}
use Rattle.upstream.specs.Upstreams.{UpstreamValue, with_choice, asked_actor}
use Rattle.node_links.specs.Linking.{seen_otherwise, no_value}
use Rattle.node_links.proofs.Kept.{port-set, kept-at}
use Rattle.node_links.proofs.ports.Ports.choose.Goals as goal

pub invariant_of-self : goal.invariant_of-self
invariant_of-self c =
    let p = c.self.inside in
    let f = with_choice c.args.broken c.args.answered in
    kept-at p.table.items p.marked p.upstreams.items _ c.args.port f (λ u h. h)
    (port-set p.upstreams.items c.args.self.now c.args.port f c.index_mut.result.now c.choose.new.self c.self.view_is c.requires c.index_mut.ensures.value c.choose.ensures.after) c.self.invariant

pub returns-clause-after : goal.returns-clause-after
returns-clause-after c =
    let f = with_choice c.args.broken c.args.answered in
    port-set c.self.inside.upstreams.items c.args.self.now c.args.port f c.index_mut.result.now c.choose.new.self c.self.view_is c.requires c.index_mut.ensures.value c.choose.ensures.after
    ∙ ap (changed c.args.port (seen_otherwise f)) c.self.view_is

pub returns-clause-asked : goal.returns-clause-asked
returns-clause-asked c =
    let us = c.self.inside.upstreams.items in
    let u : UpstreamValue = c.index_mut.result.now in
    let low = subst (λ (xs : List UpstreamValue). c.args.port < length xs) (sym c.self.view_is) c.requires in
    let here : u ≡ nth no_value c.args.self.now c.args.port =
    sym (nth-is no_value u c.args.port us low c.index_mut.ensures.value) ∙ ap (λ (xs : List UpstreamValue). nth no_value xs c.args.port) c.self.view_is in
    c.choose.ensures.asked ∙ ap (asked_actor c.args.broken c.args.answered) here
