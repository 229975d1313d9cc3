use Rattle.std.proofs.Common.{sym, subst, arith, List}
use Rattle.fragment_mill.specs.Mills.{MillState}
use Rattle.ideal_run.specs.Buckets.{AreMills, IsMillOf}
use Rattle.ideal_run.proofs.Steps.{mill-none}
use Rattle.ideal_run.proofs.Mills.{mills-push}
use Rattle.ideal_run.proofs.milling.new_mills.Goals as goal

pub loop-frag-preserved : goal.loop-frag-preserved
loop-frag-preserved c =
    let plan = c.args.plan.now in
    let m = c.in_ok-new.field-0 in
    let new : IsMillOf plan 0 c.loop-frag.frag m = (λ f at. mill-none plan f m c.in_ok-new.ensures.width (c.in_ok-new.ensures.operators f at) c.in_ok-new.ensures.after) in
    record {
      mills = subst (λ (ms : List MillState). AreMills plan 0 ms) (sym c.in_ok-push.ensures.items)
          (mills-push plan c.loop-frag.mills.items m c.loop-frag.invariant.mills (subst (λ n. IsMillOf plan 0 n m) (sym c.loop-frag.invariant.long) new));
      long = omega (arith, c.loop-frag.invariant.long, c.in_ok-push.ensures.len);
    }
