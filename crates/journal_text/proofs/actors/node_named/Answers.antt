use Rattle.std.proofs.Common.{rules, ◌<◌, ◌^◌, ap, sym, ◌∙◌, Some}
use Rattle.journal_text.proofs.Found.{node_here, node_next}
use Rattle.journal_text.proofs.actors.node_named.Goals as goal

pub returns-in-Some : goal.returns-in-Some
returns-in-Some c =
    let few : c.frag-item.result.replicas < 2 ^ 64 = search rules in
    ap Some c.in_ok-add.ensures
    ∙ sym (node_here c.args.word.now c.args.frags.now c.loop-frag.frag-index c.loop-frag.before c.frag-item.result c.in-Some.replica c.loop-frag-test.true c.frag-item.is few c.in-Some.ensures c.loop-frag.invariant)

pub loop-frag-preserved : goal.loop-frag-preserved
loop-frag-preserved c =
    let few : c.frag-item.result.replicas < 2 ^ 64 = search rules in
    node_next c.args.word.now c.args.frags.now c.loop-frag.frag-index c.loop-frag.before c.in_ok-before.before c.frag-item.result c.loop-frag-test.true c.frag-item.is few c.in_default.ensures c.in_ok-before.ensures c.loop-frag.invariant
