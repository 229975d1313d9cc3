use Rattle.std.proofs.Common.{◌≡◌, ◌+◌, ◌∷◌, ◌++◌, [], length, ap, arith, rules, List}
use Rattle.dpc_model.specs.declared.tuples.Tuple.{Tuple}
use Rattle.ops_join.proofs.Steps.{IsIndexOf-push}
use Rattle.ops_join.proofs.side.Side.push.Goals as goal

pub returns-clause-indexed : goal.returns-clause-indexed
returns-clause-indexed c = λ i.
    let self = c.args.self.now in
    let wide = c.widen.new.self in
    let many : c.len.result ≡ length self.tuples.items = search rules in
    let same : length wide.tuples.items ≡ length self.tuples.items = ap (λ (ts : List Tuple). length ts) c.in_ok-widen.ensures.tuples in
    let first : wide.first ≡ self.first = c.in_ok-widen.ensures.first in
    let pushed : c.push_back_reserved.new.self.items ≡ wide.tuples.items ++ c.args.tuple.now ∷ [] = rw (c.reserve.ensures.items, c.in_ok-copy.ensures) at c.push_back_reserved.ensures.items in
    IsIndexOf-push c.args.end c.args.keys.now wide.first (self.first + c.len.result + 1) c.code_of.result wide.tuples.items c.push_back_reserved.new.self.items c.args.tuple.now wide.chains.heads.items c.push.new.self.heads.items
    wide.chains.before.items c.push.new.self.before.items c.in_ok-widen.ensures.slots c.code_of.ensures (omega (arith, many, same, first)) pushed c.in_ok-push.ensures.heads c.in_ok-push.ensures.before (c.in_ok-widen.ensures.indexed i)
