use Rattle.std.proofs.Common.{◌≡◌, ◌<◌, ◌∙◌, true, false, sym, length, arith}
use Rattle.std.specs.Prelude.{bytes_eq}
use Rattle.std.proofs.lemmas.List.{take_all}
use Rattle.std.proofs.lemmas.List.FromFn.{length-range_with_len}
use Rattle.dpc_lists.specs.Lists.{range_with_len}
use Rattle.script_rules.proofs.Streams.{no_place}
use Rattle.script_draft.specs.Nodes.{node_name}
use Rattle.script_draft.proofs.Names.{place-here, none-next}
use Rattle.script_draft.proofs.Nodes.{range-at}
use Rattle.script_draft.proofs.draft.actors.replica_named.Goals as goal

pub returns-then-is_node_name : goal.returns-then-is_node_name
returns-then-is_node_name c =
    let same : bytes_eq c.args.name.now (node_name c.args.frag.now.name c.loop-replica.replica) ≡ true = rw c.as_slice.ensures at (sym c.is_node_name.ensures ∙ c.if-is_node_name.true) in
    let n = c.args.frag.now.replicas in
    let low : c.loop-replica.replica < length (range_with_len 0 n) = let many = length-range_with_len 0 n in omega (arith, many) in
    sym (place-here (node_name c.args.frag.now.name) c.args.name.now c.loop-replica.replica c.loop-replica.replica 0 (range_with_len 0 n) low (range-at n c.loop-replica.replica c.loop-replica-test.true) c.loop-replica.invariant same)

pub loop-replica-preserved : goal.loop-replica-preserved
loop-replica-preserved c =
    let other : bytes_eq c.args.name.now (node_name c.args.frag.now.name c.loop-replica.replica) ≡ false = rw c.as_slice.ensures at (sym c.is_node_name.ensures ∙ c.if-is_node_name.false) in
    let n = c.args.frag.now.replicas in
    let low : c.loop-replica.replica < length (range_with_len 0 n) = let many = length-range_with_len 0 n in omega (arith, many) in
    none-next (node_name c.args.frag.now.name) c.args.name.now c.loop-replica.replica c.loop-replica.replica 0 (range_with_len 0 n) low (range-at n c.loop-replica.replica c.loop-replica-test.true) c.loop-replica.invariant other

pub returns : goal.returns
returns c =
    let n = c.args.frag.now.replicas in
    let all = take_all c.loop-replica.replica (range_with_len 0 n) (let many = length-range_with_len 0 n in omega (arith, many)) in
    sym (no_place c.args.name.now _ (rw all at c.loop-replica.invariant))
