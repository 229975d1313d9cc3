use Rattle.std.proofs.Common.{◌∙◌, ◌++◌, ◌-◌, List, sym, ap, drop, take}
use Rattle.dpc_model.specs.Sessions.{stable_items, boundary_item}
use Rattle.dpc_model.specs.declared.tuples.Tuple.{Tuple}
use Rattle.dpc_model.specs.declared.tuples.Item.{Item}
use Rattle.source_core.proofs.Logs.{part}
use Rattle.source_core.proofs.Sends.{given-is}
use Rattle.source_core.proofs.giving.items_upto.Goals as goal

pub returns : goal.returns
returns c =
    c.in_ok-push_boundary.ensures
    ∙ ap (λ (items : List Item). items ++ boundary_item c.args.boundary)
    (c.in_ok-push_stable.ensures ∙ ap (λ (items : List Item). items ++ stable_items c.args.first (take (c.args.upto - c.args.first) (drop c.args.first c.args.log.now))) c.in_ok-items.ensures.items
    ∙ ap (λ (ts : List Tuple). stable_items c.args.first ts) (part c.args.first c.args.upto c.args.log.now c.requires.up))
    ∙ sym (given-is c.args.first c.args.upto c.args.boundary c.args.log.now)
