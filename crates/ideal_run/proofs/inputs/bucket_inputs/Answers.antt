use Rattle.std.proofs.Common.{◌≡◌, take, rules}
use Rattle.std.proofs.lemmas.List.{take_all}
use Rattle.dpc_model.specs.declared.plans.StreamRef.TheVariants.{Source}
use Rattle.dpc_model.specs.declared.tuples.Tagged.{Tagged}
use Rattle.fragment_mill.proofs.Gathering.{gathered-more, sorted-by_closure}
use Rattle.ideal_run.specs.Buckets.{bucket_of}
use Rattle.ideal_run.proofs.Mills.{reads-there}
use Rattle.ideal_run.proofs.inputs.bucket_inputs.Goals as goal

pub bucket_of-tuples-requires-clause-there : goal.bucket_of-tuples-requires-clause-there
bucket_of-tuples-requires-clause-there c = λ f e. reads-there c.args.plan.now _ c.args.reads.now c.loop-port.port (Source 0) f c.requires.reads c.loop-port-test.true e

pub loop-port-preserved : goal.loop-port-preserved
loop-port-preserved c =
    let more = gathered-more (bucket_of c.args.plan.now c.args.k) c.args.reads.now c.loop-port.port (Source 0) c.loop-port-test.true in
    let pushed = c.in_ok-append_port.ensures in
    let stream = c.bucket_of-tuples.ensures in
    let before = c.loop-port.invariant in
    rw (pushed, before, stream) more

pub returns : goal.returns
returns c =
    let whole : take c.loop-port.port c.args.reads.now ≡ c.args.reads.now = take_all c.loop-port.port c.args.reads.now c.loop-port-test.false in
    let gathered = rw whole at c.loop-port.invariant in
    rw (← gathered) (sorted-by_closure (λ (x : Tagged). x.tuple.stime) _ _ c.in_ok-sort_by_key.ensures.sorted c.in_ok-sort_by_key.ensures.stable (λ a r q k. search rules))
