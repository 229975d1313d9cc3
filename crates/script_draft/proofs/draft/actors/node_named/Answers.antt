use Rattle.std.proofs.Common.{◌≡◌, ◌+◌, ◌<◌, ◌∙◌, Some, sym, ap, arith, get_or}
use Rattle.std.proofs.lemmas.List.{take_all}
use Rattle.std.proofs.lemmas.List.Sums.{sum_by_more, sum_by_more_le}
use Rattle.std.proofs.lemmas.List.FromFn.{length-range_with_len}
use Rattle.dpc_lists.specs.Lists.{range_with_len}
use Rattle.script_rules.specs.Drafts.{place_of_name}
use Rattle.script_draft.specs.Nodes.{node_name, names_of_replicas}
use Rattle.script_draft.proofs.Names.{named-within}
use Rattle.script_draft.proofs.Nodes.{replicas, node-here, no-node-next, node-at, few-nodes}
use Rattle.script_draft.proofs.draft.actors.node_named.Goals as goal

pub overflow_add-result : goal.overflow_add-result
overflow_add-result c =
    let frag = c.index-frags-i.result in
    let low = named-within (node_name frag.name) c.args.name.now (range_with_len 0 frag.replicas) c.in-Some.replica (sym c.in-Some.ensures) in
    let many = length-range_with_len 0 frag.replicas in
    let one : replicas (get_or c.args.frags.now c.loop-i.i frag) ≡ frag.replicas = ap replicas (sym c.index-frags-i.is) in
    let more = sum_by_more_le replicas c.args.frags.now c.loop-i.i frag c.loop-i-test.true in
    let few = few-nodes c.args.frags.now c.requires in
    let before = c.loop-i.invariant.before in omega (arith, low, many, one, more, few, before)

pub returns-in-Some : goal.returns-in-Some
returns-in-Some c =
    let frag = c.index-frags-i.result in
    let placed : place_of_name c.args.name.now (names_of_replicas frag) ≡ Some c.in-Some.replica = sym c.in-Some.ensures in
    let low : c.in-Some.replica < frag.replicas =
    let within = named-within (node_name frag.name) c.args.name.now (range_with_len 0 frag.replicas) c.in-Some.replica placed in let many = length-range_with_len 0 frag.replicas in omega (arith, within, many) in
    let same : 0 + c.loop-i.i ≡ c.loop-i.i = omega arith in
    rw c.loop-i.invariant.before (
      node-here c.args.name.now c.loop-i.i frag c.args.frags.now c.in-Some.replica c.loop-i-test.true c.index-frags-i.is c.loop-i.invariant.none placed,
      node-at 0 c.loop-i.i frag c.args.frags.now c.in-Some.replica c.loop-i-test.true c.index-frags-i.is low ∙ ap (λ j. Some (j, c.in-Some.replica)) same,
    )

pub overflow_add-before : goal.overflow_add-before
overflow_add-before c =
    let frag = c.index-frags-i.result in
    let one : replicas (get_or c.args.frags.now c.loop-i.i frag) ≡ frag.replicas = ap replicas (sym c.index-frags-i.is) in
    let more = sum_by_more_le replicas c.args.frags.now c.loop-i.i frag c.loop-i-test.true in
    let few = few-nodes c.args.frags.now c.requires in
    let before = c.loop-i.invariant.before in omega (arith, one, more, few, before)

pub loop-i-preserved : goal.loop-i-preserved
loop-i-preserved c =
    let frag = c.index-frags-i.result in
    let one : replicas (get_or c.args.frags.now c.loop-i.i frag) ≡ frag.replicas = ap replicas (sym c.index-frags-i.is) in
    let more = sum_by_more replicas c.args.frags.now c.loop-i.i frag c.loop-i-test.true in
    let before = c.loop-i.invariant.before in
    record {
      none = no-node-next c.args.name.now c.loop-i.i frag c.args.frags.now c.loop-i-test.true c.index-frags-i.is c.loop-i.invariant.none (sym c.in_default.ensures);
      before = omega (arith, one, more, before);
    }

pub returns : goal.returns
returns c =
    let all = take_all c.loop-i.i c.args.frags.now c.loop-i-test.false in
    rw all at c.loop-i.invariant.none
