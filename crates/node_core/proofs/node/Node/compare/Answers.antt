use Rattle.std.proofs.Common.{◌≡◌, ◌∙◌, true, sym, ap, subst}
use Rattle.fragment_mill.specs.Mills.{MillState}
use Rattle.mill_work.specs.Milling.{OrderValue}
use Rattle.node_model.specs.Nodes.{Home, PlainNode}
use Rattle.node_model.specs.Fitting.{IsFit}
use Rattle.node_core.specs.declared.faults.Point.{Point}
use Rattle.node_core.specs.Milling.{IsBeside, needed_by, is_stale, WasStale}
use Rattle.node_core.specs.Standing.{StandsForNode}
use Rattle.node_core.proofs.Committed.{stands-there, was-stale, same-stale}
use Rattle.node_core.proofs.node.Node.compare.Goals as goal

pub returns-then-is_stale-clause-stale : goal.returns-then-is_stale-clause-stale
returns-then-is_stale-clause-stale c =
    λ had needed e.
    let v = c.args.self.now in
    let o = c.args.milled.now.order in
    let here : Point = c.needed_by-needed.result in
    let asked : here ≡ needed_by o = c.needed_by-needed.ensures ∙ ap (λ (q : OrderValue MillState). needed_by q) c.order-2.ensures in
    let stale : is_stale c.in-Ok.had here ≡ true = sym (c.if-is_stale.ensures {u = tt}) in
    let beside : (home : Home) (p : PlainNode) → StandsForNode home v p → IsFit home p → IsBeside home p o c.in-Ok.had =
    λ home p h fit. subst (λ (q : OrderValue MillState). IsBeside home p q c.in-Ok.had) c.order.ensures ((c.in-Ok.ensures {u = tt}) home p h fit) in
    let same = same-stale c.in-Ok.had here had needed e in
    subst (λ (n : Point). WasStale o v v had n) same.1 (subst (λ (h : Point). WasStale o v v h here) same.0 (was-stale v o c.in-Ok.had here asked stale beside))

pub returns-clause-ok : goal.returns-clause-ok
returns-clause-ok c =
    λ home p h fit.
    let o = c.args.milled.now.order in
    let asked : c.needed_by-needed.result ≡ needed_by o = c.needed_by-needed.ensures ∙ ap (λ (q : OrderValue MillState). needed_by q) c.order-2.ensures in
    stands-there home p o c.in-Ok.had c.needed_by-needed.result asked (sym (c.if-is_stale.ensures {u = tt}))
    (subst (λ (q : OrderValue MillState). IsBeside home p q c.in-Ok.had) c.order.ensures ((c.in-Ok.ensures {u = tt}) home p h fit))
