use Rattle.std.proofs.Common.{◌≡◌, ◌∙◌, ◌-◌, length, List, ap, sym, subst, take, drop}
use Rattle.dpc_model.specs.Streams.{InOrder, count_below}
use Rattle.dpc_model.specs.Operators.{between}
use Rattle.dpc_model.specs.declared.tuples.Tuple.{Tuple}
use Rattle.sunion.proofs.Searching.{slice-from, rest-ordered, part-between}
use Rattle.sunion.proofs.buckets.part.Goals as goal

pub count_below-requires-2 : goal.count_below-requires-2
count_below-requires-2 c = subst InOrder (sym (slice-from c.count_below.result c.args.tuples.now)) (rest-ordered c.args.tuples.now c.count_below.result c.requires)

pub returns : goal.returns
returns c =
    let ts = c.args.tuples.now in
    let rest = slice-from c.count_below.result ts in
    let first : drop c.count_below.result ts ≡ drop (count_below ts c.args.from) ts = ap (λ n. drop n ts) c.count_below.ensures.count in
    let second = c.count_below-2.ensures.count in
    let upto = c.args.upto in
    ap (λ n. between c.args.from upto (take n (take (length ts - c.count_below.result) (drop c.count_below.result ts)))) second
    ∙ ap (λ (us : List Tuple). between c.args.from upto (take (count_below us upto) us)) (rest ∙ first)
    ∙ part-between c.args.from upto ts c.requires
