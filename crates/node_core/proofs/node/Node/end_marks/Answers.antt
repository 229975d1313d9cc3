use Rattle.std.proofs.Common.{◌≡◌, ◌∙◌, false, ap, subst, length, arith}
use Rattle.std.proofs.lemmas.Grind.{common_steps}
use Rattle.node_links.specs.Linking.{HaveNoMarks}
use Rattle.node_core.specs.Standing.{NodeValue}
use Rattle.node_core.proofs.Frames.{inlets-many, upstreams-many}
use Rattle.node_core.proofs.Truncating.{ended-many, ended-more, marks-ended, no-marks}
use Rattle.node_core.proofs.node.Node.end_marks.Goals as goal

pub returns-then-not-has_marks-clause-after : goal.returns-then-not-has_marks-clause-after
returns-then-not-has_marks-clause-after c = λ home p stands fit.
    let none : c.has_marks.result ≡ false = grind (arith, common_steps) in
    no-marks home c.args.self.now p stands (subst (λ (v : NodeValue). HaveNoMarks v.links.known.upstreams) c.self.view_is (c.has_marks.ensures none))

pub loop-port-init : goal.loop-port-init
loop-port-init c = c.self.view_is

pub count-count-requires : goal.count-count-requires
count-count-requires c =
    let old = c.args.self.now in
    let inlets = inlets-many c.requires.0 old c.requires.1 c.requires.2 in
    let upstreams = upstreams-many c.requires.0 old c.requires.1 c.requires.2 in
    let ports = c.ports-port-end.ensures in
    let seen = ap (λ (v : NodeValue). length v.links.known.upstreams) c.self.view_is in
    let same = ap (λ (v : NodeValue). length v.path.union.union.inlets) c.loop-port.invariant in
    let low = c.loop-port-test.true in
    record { inside = omega (arith, inlets, upstreams, ports, seen, same, low) }

pub end_marks-requires : goal.end_marks-requires
end_marks-requires c =
    let old = c.args.self.now in
    let ports = c.ports-port-end.ensures in
    let seen = ap (λ (v : NodeValue). length v.links.known.upstreams) c.self.view_is in
    let same = ap (λ (v : NodeValue). length v.links.known.upstreams) c.loop-port.invariant ∙ ended-many c.loop-port.port old.path.union.union.inlets old.links.known.upstreams in
    let low = c.loop-port-test.true in omega (arith, ports, seen, same, low)

pub loop-port-preserved : goal.loop-port-preserved
loop-port-preserved c =
    let old = c.args.self.now in
    let inlets = inlets-many c.requires.0 old c.requires.1 c.requires.2 in
    let upstreams = upstreams-many c.requires.0 old c.requires.1 c.requires.2 in
    let ports = c.ports-port-end.ensures in
    let seen = ap (λ (v : NodeValue). length v.links.known.upstreams) c.self.view_is in
    let low = c.loop-port-test.true in
    ended-more c.loop-port.port c.count-count.result old _ c.end_marks.new.self c.loop-port.invariant c.count-count.ensures c.end_marks.ensures
    (omega (arith, inlets, upstreams, ports, seen, low)) (omega (arith, ports, seen, low))

pub returns-clause-spent : goal.returns-clause-spent
returns-clause-spent c = ap (λ (v : NodeValue). v.spent) c.loop-port.invariant

pub returns-clause-after : goal.returns-clause-after
returns-clause-after c = λ home p stands fit.
    let ports = c.ports-port-end.ensures in
    let seen = ap (λ (v : NodeValue). length v.links.known.upstreams) c.self.view_is in
    let high = c.loop-port-test.false in
    let within = c.loop-port.auto.port-end in
    marks-ended home c.args.self.now _ p c.loop-port.port stands (omega (arith, ports, seen, high, within)) c.loop-port.invariant
