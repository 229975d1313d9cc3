use Rattle.std.proofs.Common.{◌≡◌, ◌+◌, ◌-◌, ◌∙◌, ap, nat_lt, length, arith}
use Rattle.dpc_model.specs.declared.tuples.Tuple.{Tuple}
use Rattle.held_tuples.proofs.Joined.{ends-at}
use Rattle.held_tuples.proofs.run.Run.ends_below.Goals as goal

pub returns-then-len-gt0 : goal.returns-then-len-gt0
returns-then-len-gt0 c =
    let long = c.len.ensures in
    let again = c.len-then-len-gt0.ensures in
    let true_at = c.if-len-gt0.true in
    let last : c.len-then-len-gt0.result - 1 + 1 ≡ length c.args.self.now = omega (arith, long, again, true_at) in
    ap (λ (t : Tuple). nat_lt t.stime c.args.time) (c.tuple.ensures c.tuple.result.now) ∙ ends-at c.args.time c.args.self.now c.tuple.result.now (c.len-then-len-gt0.result - 1) last
