use Rattle.std.proofs.Common.{rules, ◌≡◌, ◌+◌, ◌*◌, sym, subst, map, length, List, ℕ, Option}
use Rattle.dpc_model.specs.PartStands.{InletValue, StandsForPorts}
use Rattle.sunion.specs.Clocks.{stamps_from}
use Rattle.sunion.specs.Ports.{forgetting}
use Rattle.sunion.specs.Values.{SUnionValue}
use Rattle.sunion.specs.Unions.{StandsForInputs, after_advancing, ForgetsBelow}
use Rattle.dpc_lists.proofs.Mapped.{written-back}
use Rattle.sunion.proofs.Standing.{advance-stands, forgetting-forgets}
use Rattle.sunion.proofs.sunion.SUnion.advance.Goals as goal

pub returns-clause-after : goal.returns-clause-after
returns-clause-after c = λ x h.
    let u = c.self.inside in
    let time = (u.cursor + c.args.count) * u.width in
    let old = subst (λ (w : SUnionValue). StandsForInputs w x) (sym c.self.view_is) h in
    let long : u.ports.len ≡ length u.ports.items = search rules in
    let all : c.drop_below.new.ports ≡ map (forgetting time) u.ports.items = search rules in
    let ports = written-back u.ports.len (forgetting time) u.ports.items c.drop_below.new.ports long all in
    subst (λ (is : List InletValue). StandsForPorts u.width (record { inlets = is; stamps = stamps_from (u.cursor + c.args.count) c.drop_places.new.clocks.items; cursor = u.cursor + c.args.count; closed = u.closed }) (after_advancing c.args.count x)) (sym ports)
    (subst (λ (cs : List (Option ℕ)). StandsForPorts u.width (record { inlets = map (forgetting time) u.ports.items; stamps = stamps_from (u.cursor + c.args.count) cs; cursor = u.cursor + c.args.count; closed = u.closed }) (after_advancing c.args.count x)) (sym c.drop_places.ensures)
    (advance-stands u.width u.cursor c.args.count u.closed u.clocks.items u.ports.items x old))

pub returns-clause-forgets : goal.returns-clause-forgets
returns-clause-forgets c = λ x h o.
    let u = c.self.inside in
    let time = (u.cursor + c.args.count) * u.width in
    let old = subst (λ (w : SUnionValue). StandsForInputs w x) (sym c.self.view_is) h in
    let long : u.ports.len ≡ length u.ports.items = search rules in
    let all : c.drop_below.new.ports ≡ map (forgetting time) u.ports.items = search rules in
    let ports = written-back u.ports.len (forgetting time) u.ports.items c.drop_below.new.ports long all in
    subst (λ (is : List InletValue). ForgetsBelow ((c.args.self.now.union.cursor + c.args.count) * c.args.self.now.width) is) (sym ports)
    (subst (λ (w : SUnionValue). ForgetsBelow ((w.union.cursor + c.args.count) * w.width) (map (forgetting time) u.ports.items)) c.self.view_is
    (forgetting-forgets (x.cursor * u.width) time u.ports.items x.inlets old.inlets o))
