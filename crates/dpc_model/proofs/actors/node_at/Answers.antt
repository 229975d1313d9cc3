use Rattle.std.proofs.Common.{arith, ◌∙◌}
use Rattle.dpc_model.proofs.Numbers.{node-at, nodes-behind}
use Rattle.dpc_model.proofs.actors.node_at.Goals as goal

pub returns-then-left-frag-clause-found : goal.returns-then-left-frag-clause-found
returns-then-left-frag-clause-found c =
    c.loop-f.invariant.0 ∙ node-at c.args.frags.now c.loop-f.f c.loop-f.left c.index-frags-f.result c.loop-f-test.true c.index-frags-f.is c.if-left-frag.true

pub loop-f-preserved : goal.loop-f-preserved
loop-f-preserved c =
    let behind = nodes-behind c.args.frags.now c.loop-f.f c.loop-f.left c.index-frags-f.result c.loop-f-test.true c.index-frags-f.is c.if-left-frag.false in
    let kept = c.loop-f.invariant.1 in
    let fits = c.if-left-frag.false in
    let more = behind.1 in
    (c.loop-f.invariant.0 ∙ behind.0, omega (arith, kept, more, fits))
