use Rattle.std.proofs.Common.{◌∙◌, sym, ap}
use Rattle.ops_join.specs.Joins.{kept_from}
use Rattle.ops_join.proofs.Kept.{kept-ordered, kept-dropped, order-dropped}
use Rattle.ops_join.proofs.side.Side.forget.Goals as goal

pub loop-self-preserved : goal.loop-self-preserved
loop-self-preserved c =
    let old = c.loop-self.self in
    let within = c.args.within in
    let begin = c.args.begin in
    record {
      tuples =
          ap (kept_from within begin) c.drop_first.ensures.tuples
          ∙ kept-dropped within begin old.tuples.items (sym c.is_over.ensures ∙ c.loop-self-test.true)
          ∙ c.loop-self.invariant.tuples;
      order = rw c.drop_first.ensures.tuples (order-dropped old.tuples.items c.loop-self.invariant.order);
      indexed = λ end keys i. c.drop_first.ensures.indexed end keys (c.loop-self.invariant.indexed end keys i);
    }

pub returns-clause-tuples : goal.returns-clause-tuples
returns-clause-tuples c =
    sym (kept-ordered c.args.within c.args.begin c.loop-self.self.tuples.items c.loop-self.invariant.order (sym c.loop-self-test.ensures))
    ∙ c.loop-self.invariant.tuples
