use Rattle.std.proofs.Common.{rules, ◌≡◌, ◌∙◌, ◌++◌, ◌+◌, ◌*◌, ap, sym, subst, map, List}
use Rattle.std.proofs.lemmas.List.{take_all}
use Rattle.std.proofs.lemmas.List.Sorted.{IsNonDecreasingBy-from_sort_by_key, answers_always}
use Rattle.dpc_lists.specs.Lists.{sort_by}
use Rattle.dpc_model.specs.Streams.{InOrder}
use Rattle.dpc_model.specs.Operators.{between}
use Rattle.dpc_model.specs.Fragments.{tag, tagged_from}
use Rattle.dpc_model.specs.PartStands.{InletValue}
use Rattle.dpc_model.specs.declared.tuples.Tuple.{Tuple}
use Rattle.dpc_model.specs.declared.tuples.Tagged.{Tagged}
use Rattle.dpc_model.proofs.Sorting.{sorted-is}
use Rattle.sunion.specs.Ports.{bucket_of}
use Rattle.sunion.proofs.Gathered.{kept-at, bucket-more}
use Rattle.sunion.proofs.buckets.bucket.Goals as goal

pub loop-port-preserved : goal.loop-port-preserved
loop-port-preserved c = λ o.
    let i = c.loop-port.port in
    let ports = c.args.ports.now in
    let port = c.index-ports-port.result in
    let from = c.args.k * c.args.width in
    let upto = (c.args.k + 1) * c.args.width in
    let ordered = kept-at ports i port o c.loop-port-test.true c.index-ports-port.is in
    let stable : c.push_between.new.tagged.items ≡ c.loop-port.tagged.items ++ map (tag i) (between from upto port.state.held.stable) =
    c.in_ok-push_between.ensures (subst InOrder (sym c.kept-kept.ensures) ordered) ∙ ap (λ (ts : List Tuple). c.loop-port.tagged.items ++ map (tag i) (between from upto ts)) c.kept-kept.ensures in
    let tentative : c.push_tentative.new.tagged.items ≡ c.push_between.new.tagged.items ++ map (tag i) (between from upto port.state.held.tentative) = search rules in
    tentative
    ∙ ap (λ (xs : List Tagged). xs ++ map (tag i) (between from upto port.state.held.tentative))
    (stable ∙ ap (λ (xs : List Tagged). xs ++ map (tag i) (between from upto port.state.held.stable)) (c.loop-port.invariant o))
    ∙ bucket-more c.args.width c.args.k i ports port c.loop-port-test.true c.index-ports-port.is

pub returns : goal.returns
returns c = λ o.
    let done = c.in_ok-sort_by_key.ensures in
    let whole = take_all c.loop-port.port c.args.ports.now c.loop-port-test.false in
    sorted-is (λ (x : Tagged). x.tuple.stime) c.loop-port.tagged.items _ (IsNonDecreasingBy-from_sort_by_key (λ (x : Tagged). x.tuple.stime) _ done.sorted (λ a r q k. search rules))
    (done.stable (λ (x : Tagged). x.tuple.stime) (answers_always _ _ _ (λ f a r g h. search rules)))
    ∙ ap (λ (xs : List Tagged). sort_by (λ (x : Tagged). x.tuple.stime) xs) (c.loop-port.invariant o ∙ ap (λ (ps : List InletValue). tagged_from 0 (bucket_of c.args.width c.args.k ps)) whole)
