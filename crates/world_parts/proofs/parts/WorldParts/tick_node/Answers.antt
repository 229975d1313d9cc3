use Rattle.std.proofs.Common.{rules, ◌<◌, length}
use Rattle.dpc_model.specs.declared.messages.Event.TheVariants as event
use Rattle.world_parts.proofs.NodeCalls.{read-low, read-step, ticked-leads, posted-happened, posted-passes}
use Rattle.world_parts.proofs.parts.WorldParts.tick_node.Goals as goal

pub index_mut-requires : goal.index_mut-requires
index_mut-requires c =
    let low : c.node_place-place.result < length c.self.inside.nodes.items =
    read-low c.args.roster.now _ _ c.args.actor c.args.frag c.args.replica c.node_place-place.result c.self.view_is c.requires.some c.requires.role c.node_place-place.ensures in
    search (rules, low)

pub tick-requires : goal.tick-requires
tick-requires c =
    read-step c.args.roster.now _ _ c.args.actor c.args.frag c.args.replica c.node_place-place.result c.index_mut.result.now c.requires.plan
    (record { same = c.self.view_is; some = c.requires.some; role = c.requires.role; place = c.node_place-place.ensures; value = c.index_mut.ensures.value })

pub returns-in_err-post-clause-long : goal.returns-in_err-post-clause-long
returns-in_err-post-clause-long c =
    posted-passes c.args.roster.now _ _ (event.Tick c.args.actor c.args.now) c.from_residual-in_err-post.result c.in_err-post.field-0.0 c.from_residual-in_err-post.ensures.1 c.in_err-post.ensures.long
    (ticked-leads c.args.roster.now _ _ c.args.actor c.args.frag c.args.replica c.args.now c.node_place-place.result c.index_mut.result.now c.tick.new.self c.in_ok-mails.mails.items c.requires.plan
    (record { same = c.self.view_is; some = c.requires.some; role = c.requires.role; place = c.node_place-place.ensures; value = c.index_mut.ensures.value }) c.in_ok-mails.ensures)

pub returns-clause-ok : goal.returns-clause-ok
returns-clause-ok c =
    posted-happened c.args.roster.now _ _ _ (event.Tick c.args.actor c.args.now) c.in_ok-post.ensures.ok c.in_ok-post.ensures.within
    (ticked-leads c.args.roster.now _ _ c.args.actor c.args.frag c.args.replica c.args.now c.node_place-place.result c.index_mut.result.now c.tick.new.self c.in_ok-mails.mails.items c.requires.plan
    (record { same = c.self.view_is; some = c.requires.some; role = c.requires.role; place = c.node_place-place.ensures; value = c.index_mut.ensures.value }) c.in_ok-mails.ensures)
