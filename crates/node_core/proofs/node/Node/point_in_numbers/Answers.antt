use Rattle.std.proofs.Common.{◌∙◌, ◌==◌, ◌≤◌, ℕ, nat_le, true, refl, sym, ap, subst}
use Rattle.dpc_lists.proofs.Truths.{le-of, le-test, eq-of}
use Rattle.node_core.specs.declared.faults.Point.{Point}
use Rattle.node_core.specs.Standing.{NodeValue}
use Rattle.node_core.proofs.Committed.{beside-in-numbers}
use Rattle.node_core.proofs.node.Node.point_in_numbers.Goals as goal

pub returns-then-cursor : goal.returns-then-cursor
returns-then-cursor c = λ home p h known.
    let count = c.count.result in
    let cursor = c.cursor-cursor.result in
    let ready = c.ready-ready.result in
    let had : Point = record { up = true; inc = c.inc.result; cursor = cursor; ready = ready; fits = nat_le count ready } in
    beside-in-numbers home c.args.self.now p c.args.done.now.order had h known refl (c.inc.ensures ∙ ap (λ (v : NodeValue). v.links.known.grants.inc) c.self.view_is) c.cursor-cursor.ensures (c.ready-ready.ensures home p h) (
      λ e. (sym c.cursor.ensures ∙ c.if-cursor.true, subst (λ (k : ℕ). k ≤ ready) c.count.ensures.many (le-of count ready e)),
      λ there. le-test count ready (subst (λ (k : ℕ). k ≤ ready) (sym c.count.ensures.many) there.1),
    )

pub returns-else-cursor : goal.returns-else-cursor
returns-else-cursor c = λ home p h known.
    let cursor = c.cursor-cursor.result in
    let ready = c.ready-ready.result in
    let had : Point = record { up = true; inc = c.inc.result; cursor = cursor; ready = ready; fits = c.cursor.result == cursor } in
    beside-in-numbers home c.args.self.now p c.args.done.now.order had h known refl (c.inc.ensures ∙ ap (λ (v : NodeValue). v.links.known.grants.inc) c.self.view_is) c.cursor-cursor.ensures (c.ready-ready.ensures home p h) (
      λ e. absurd (c.if-cursor.false (eq-of c.cursor.result cursor e)),
      λ there. absurd (c.if-cursor.false (c.cursor.ensures ∙ there.0)),
    )
