use Rattle.std.proofs.Common.{◌≡◌, ◌∙◌, nat_le, length, sym, ap, rules}
use Rattle.dpc_lists.specs.Lists.{is_nil}
use Rattle.live_parts.proofs.Dropping.{none-left}
use Rattle.live_parts.proofs.moment.Moment.is_directed.Goals as goal

pub returns : goal.returns
returns c = λ p h.
    let m = c.args.self.now in
    let left = ap is_nil h.todo ∙ none-left m.done m.todo.items in
    let many : c.len.result ≡ length m.todo.items = search rules in
    ap (λ n. nat_le n m.done) many ∙ sym left
