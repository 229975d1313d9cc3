use Rattle.std.proofs.Common.{◌≡◌, ◌*◌, ◌/◌, inr, arith}
use Rattle.dpc_model.proofs.Numbers.{buckets-whole}
use Rattle.ops_join.proofs.Givings.{on-err}
use Rattle.ideal_run.proofs.Givings.{given-none, given-next, given-in, given-all}
use Rattle.ideal_run.proofs.giving.give_read.Goals as goal

pub loop-k-init : goal.loop-k-init
loop-k-init g c = record { rows = given-none c.args.plan.now c.args.stream c.requires.plan (g.R.RowSink.took c.args.sink.now c.args.out.now) }

pub bucket_of-rows-requires-clause-there : goal.bucket_of-rows-requires-clause-there
bucket_of-rows-requires-clause-there g c = λ f is. inr (c.requires.there f is)

pub returns-in_err-give_all-clause-first : goal.returns-in_err-give_all-clause-first
returns-in_err-give_all-clause-first g c =
    on-err _ (given-in c.args.plan.now c.args.stream c.requires.plan (g.R.RowSink.took c.args.sink.now c.args.out.now) (g.R.RowSink.took c.loop-k.sink c.loop-k.out) (g.R.RowSink.took c.give_all.new.sink c.give_all.new.out) c.loop-k.k c.bucket_of-rows.result.now c.bucket_of-rows.ensures c.loop-k.invariant.rows c.in_err-give_all.ensures.first)

pub loop-k-preserved : goal.loop-k-preserved
loop-k-preserved g c =
    record { rows = given-next c.args.plan.now c.args.stream c.requires.plan (g.R.RowSink.took c.args.sink.now c.args.out.now) (g.R.RowSink.took c.loop-k.sink c.loop-k.out) (g.R.RowSink.took c.give_all.new.sink c.give_all.new.out) c.loop-k.k c.bucket_of-rows.result.now c.bucket_of-rows.ensures c.loop-k.invariant.rows c.in_ok-give_all.ensures.rows }

pub returns-clause-rows : goal.returns-clause-rows
returns-clause-rows g c =
    let last : c.loop-k.k ≡ c.args.plan.now.end / c.args.plan.now.width = omega (arith, c.loop-k.auto.k-end, c.loop-k-test.false) in
    let whole : c.loop-k.k * c.args.plan.now.width ≡ c.args.plan.now.end = rw last (buckets-whole c.args.plan.now.width c.args.plan.now.end c.requires.plan.whole) in
    given-all c.args.plan.now c.args.stream c.requires.plan (g.R.RowSink.took c.args.sink.now c.args.out.now) (g.R.RowSink.took c.loop-k.sink c.loop-k.out) c.loop-k.k whole c.loop-k.invariant.rows
