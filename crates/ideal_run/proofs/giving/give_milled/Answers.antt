use Rattle.std.proofs.Common.{◌≡◌, ◌+◌, ◌*◌, ◌/◌, ◌∙◌, length, ap, sym, subst, arith}
use Rattle.dpc_model.proofs.Numbers.{buckets-whole}
use Rattle.dpc_model.specs.declared.plans.StreamRef.TheVariants.{Frag}
use Rattle.ops_join.proofs.Givings.{on-err}
use Rattle.ideal_run.specs.Buckets.{buckets_before, bucket_of, IsMillOf}
use Rattle.ideal_run.proofs.Mills.{length-buckets}
use Rattle.ideal_run.proofs.Steps.{mill-none}
use Rattle.ideal_run.proofs.Givings.{given-none, given-next, given-upto, given-in, given-all}
use Rattle.ideal_run.proofs.giving.give_milled.Goals as goal

pub returns-in_err-mills-clause-first : goal.returns-in_err-mills-clause-first
returns-in_err-mills-clause-first g c = on-err _ (given-upto c.args.plan.now (Frag c.args.frag) c.requires.plan (g.R.RowSink.took c.args.sink.now c.args.out.now) (g.R.RowSink.took c.args.sink.now c.args.out.now) 0 (given-none c.args.plan.now (Frag c.args.frag) c.requires.plan (g.R.RowSink.took c.args.sink.now c.args.out.now)))

pub returns-in_err-own-clause-first : goal.returns-in_err-own-clause-first
returns-in_err-own-clause-first g c = on-err _ (given-upto c.args.plan.now (Frag c.args.frag) c.requires.plan (g.R.RowSink.took c.args.sink.now c.args.out.now) (g.R.RowSink.took c.args.sink.now c.args.out.now) 0 (given-none c.args.plan.now (Frag c.args.frag) c.requires.plan (g.R.RowSink.took c.args.sink.now c.args.out.now)))

pub loop-k-init : goal.loop-k-init
loop-k-init g c =
    let plan = c.args.plan.now in
    record {
      mills = c.in_ok-mills.ensures.mills;
      long = c.in_ok-mills.ensures.long;
      own = λ f at. mill-none plan f c.in_ok-own.own c.in_ok-own.ensures.width (c.in_ok-own.ensures.operators f at) c.in_ok-own.ensures.after;
      rows = given-none c.args.plan.now (Frag c.args.frag) c.requires.plan (g.R.RowSink.took c.args.sink.now c.args.out.now);
    }

pub returns-in_err-outputs-clause-first : goal.returns-in_err-outputs-clause-first
returns-in_err-outputs-clause-first g c = on-err _ (given-upto c.args.plan.now (Frag c.args.frag) c.requires.plan (g.R.RowSink.took c.args.sink.now c.args.out.now) (g.R.RowSink.took c.loop-k.sink c.loop-k.out) c.loop-k.k c.loop-k.invariant.rows)

pub give_bucket-requires-clause-frag : goal.give_bucket-requires-clause-frag
give_bucket-requires-clause-frag g c =
    let given : c.as_slice.result.now ≡ buckets_before c.args.plan.now c.loop-k.k c.args.frag =
    c.as_slice.ensures.value ∙ c.in_ok-outputs.ensures.outputs ∙ ap (λ n. buckets_before c.args.plan.now c.loop-k.k n) c.loop-k.invariant.long in
    let many : length c.as_slice.result.now ≡ c.args.frag = ap length given ∙ length-buckets c.args.plan.now c.loop-k.k c.args.frag in
    omega (arith, many, c.requires.frag)

pub give_bucket-requires-clause-outputs : goal.give_bucket-requires-clause-outputs
give_bucket-requires-clause-outputs g c =
    let given : c.as_slice.result.now ≡ buckets_before c.args.plan.now c.loop-k.k c.args.frag =
    c.as_slice.ensures.value ∙ c.in_ok-outputs.ensures.outputs ∙ ap (λ n. buckets_before c.args.plan.now c.loop-k.k n) c.loop-k.invariant.long in
    let many : length c.as_slice.result.now ≡ c.args.frag = ap length given ∙ length-buckets c.args.plan.now c.loop-k.k c.args.frag in
    given ∙ ap (λ n. buckets_before c.args.plan.now c.loop-k.k n) (sym many)

pub give_bucket-requires-clause-mill : goal.give_bucket-requires-clause-mill
give_bucket-requires-clause-mill g c =
    let given : c.as_slice.result.now ≡ buckets_before c.args.plan.now c.loop-k.k c.args.frag =
    c.as_slice.ensures.value ∙ c.in_ok-outputs.ensures.outputs ∙ ap (λ n. buckets_before c.args.plan.now c.loop-k.k n) c.loop-k.invariant.long in
    let many : length c.as_slice.result.now ≡ c.args.frag = ap length given ∙ length-buckets c.args.plan.now c.loop-k.k c.args.frag in
    subst (λ n. IsMillOf c.args.plan.now c.loop-k.k n c.loop-k.own) (sym many) c.loop-k.invariant.own

pub returns-in_err-give_bucket-clause-first : goal.returns-in_err-give_bucket-clause-first
returns-in_err-give_bucket-clause-first g c =
    let given : c.as_slice.result.now ≡ buckets_before c.args.plan.now c.loop-k.k c.args.frag =
    c.as_slice.ensures.value ∙ c.in_ok-outputs.ensures.outputs ∙ ap (λ n. buckets_before c.args.plan.now c.loop-k.k n) c.loop-k.invariant.long in
    let many : length c.as_slice.result.now ≡ c.args.frag = ap length given ∙ length-buckets c.args.plan.now c.loop-k.k c.args.frag in
    on-err _ (given-in c.args.plan.now (Frag c.args.frag) c.requires.plan (g.R.RowSink.took c.args.sink.now c.args.out.now) (g.R.RowSink.took c.loop-k.sink c.loop-k.out) (g.R.RowSink.took c.give_bucket.new.sink c.give_bucket.new.out) c.loop-k.k _ (ap (λ n. bucket_of c.args.plan.now c.loop-k.k (Frag n)) many) c.loop-k.invariant.rows c.in_err-give_bucket.ensures.first)

pub loop-k-preserved : goal.loop-k-preserved
loop-k-preserved g c =
    let given : c.as_slice.result.now ≡ buckets_before c.args.plan.now c.loop-k.k c.args.frag =
    c.as_slice.ensures.value ∙ c.in_ok-outputs.ensures.outputs ∙ ap (λ n. buckets_before c.args.plan.now c.loop-k.k n) c.loop-k.invariant.long in
    let many : length c.as_slice.result.now ≡ c.args.frag = ap length given ∙ length-buckets c.args.plan.now c.loop-k.k c.args.frag in
    record {
      mills = c.in_ok-outputs.ensures.after;
      long = c.in_ok-outputs.ensures.long ∙ c.loop-k.invariant.long;
      own = subst (λ n. IsMillOf c.args.plan.now (c.loop-k.k + 1) n c.give_bucket.new.mill) many c.in_ok-give_bucket.ensures.after;
      rows = given-next c.args.plan.now (Frag c.args.frag) c.requires.plan (g.R.RowSink.took c.args.sink.now c.args.out.now) (g.R.RowSink.took c.loop-k.sink c.loop-k.out) (g.R.RowSink.took c.give_bucket.new.sink c.give_bucket.new.out) c.loop-k.k _ (ap (λ n. bucket_of c.args.plan.now c.loop-k.k (Frag n)) many) c.loop-k.invariant.rows c.in_ok-give_bucket.ensures.rows;
    }

pub returns-clause-rows : goal.returns-clause-rows
returns-clause-rows g c =
    let last : c.loop-k.k ≡ c.args.plan.now.end / c.args.plan.now.width = omega (arith, c.loop-k.auto.k-end, c.loop-k-test.false) in
    let whole : c.loop-k.k * c.args.plan.now.width ≡ c.args.plan.now.end = rw last (buckets-whole c.args.plan.now.width c.args.plan.now.end c.requires.plan.whole) in
    given-all c.args.plan.now (Frag c.args.frag) c.requires.plan (g.R.RowSink.took c.args.sink.now c.args.out.now) (g.R.RowSink.took c.loop-k.sink c.loop-k.out) c.loop-k.k whole c.loop-k.invariant.rows
