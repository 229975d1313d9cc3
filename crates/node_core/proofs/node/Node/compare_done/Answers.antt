use Rattle.std.proofs.Common.{sym, subst}
use Rattle.node_core.specs.declared.faults.Point.{Point}
use Rattle.node_core.specs.Lending.{WasStaleInNumbers}
use Rattle.node_core.proofs.Committed.{stands-there, was-stale-in-numbers, same-stale}
use Rattle.node_core.proofs.node.Node.compare_done.Goals as goal

pub returns-then-is_stale-clause-stale : goal.returns-then-is_stale-clause-stale
returns-then-is_stale-clause-stale c =
    λ had needed e.
    let v = c.args.self.now in
    let o = c.args.done.now.order in
    let at : Point = c.point_in_numbers-had.result in
    let here : Point = c.needed_when_done-needed.result in
    let same = same-stale at here had needed e in
    subst (λ (n : Point). WasStaleInNumbers o v v had n) same.1
    (subst (λ (h : Point). WasStaleInNumbers o v v h here) same.0 (was-stale-in-numbers v o at here c.needed_when_done-needed.ensures.needed (sym (c.if-is_stale.ensures {u = tt})) c.point_in_numbers-had.ensures))

pub returns-clause-ok : goal.returns-clause-ok
returns-clause-ok c =
    λ home p h fit known.
    stands-there home p c.args.done.now.order c.point_in_numbers-had.result c.needed_when_done-needed.result c.needed_when_done-needed.ensures.needed (sym (c.if-is_stale.ensures {u = tt})) (c.point_in_numbers-had.ensures home p h known)
