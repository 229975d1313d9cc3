use Rattle.std.proofs.Common.{sym, ◌∙◌}
use Rattle.node_links.proofs.Kept.{table-tells}
use Rattle.node_links.proofs.ports.Ports.sender.Goals as goal

pub returns-in_err-port : goal.returns-in_err-port
returns-in_err-port c =
    let p = c.self.inside in
    c.from_residual.ensures ∙ sym (c.in_err-port.was)
    ∙ table-tells p.upstreams.items c.args.self.now p.table.items c.deref.result.now c.args.actor c.in-Some.entry.now c.self.invariant.0 c.self.view_is c.deref.ensures.value c.in-Some.ensures.lookup.3.0
    c.in-Some.ensures.lookup.1

pub returns : goal.returns
returns c =
    let p = c.self.inside in
    sym (c.in_ok-port.was)
    ∙ table-tells p.upstreams.items c.args.self.now p.table.items c.deref.result.now c.args.actor c.in-Some.entry.now c.self.invariant.0 c.self.view_is c.deref.ensures.value c.in-Some.ensures.lookup.3.0
    c.in-Some.ensures.lookup.1
