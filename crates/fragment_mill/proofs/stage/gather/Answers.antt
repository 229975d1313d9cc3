use Rattle.std.proofs.Common.{◌≡◌, take, rules}
use Rattle.std.proofs.lemmas.List.{take_all}
use Rattle.dpc_model.specs.Fragments.{read_wire}
use Rattle.dpc_model.specs.declared.operators.Wire.TheVariants.{Port}
use Rattle.dpc_model.specs.declared.tuples.Tagged.{Tagged}
use Rattle.fragment_mill.proofs.stage.gather.Goals as goal
use Rattle.fragment_mill.proofs.Gathering.{gathered-more, sorted-by_closure}

pub loop-port-preserved : goal.loop-port-preserved
loop-port-preserved c =
    let more = gathered-more (read_wire c.args.inputs.now c.args.outputs.now) c.args.reads.now c.loop-port.port (Port 0) c.loop-port-test.true in
    let pushed = c.in_ok-append_wire.ensures in
    let before = c.loop-port.invariant in
    rw (pushed, before) more

pub returns : goal.returns
returns c =
    let whole : take c.loop-port.port c.args.reads.now ≡ c.args.reads.now = take_all c.loop-port.port c.args.reads.now c.loop-port-test.false in
    let gathered = rw whole at c.loop-port.invariant in
    rw (← gathered) (sorted-by_closure (λ (x : Tagged). x.tuple.stime) _ _ c.in_ok-sort_by_key.ensures.sorted c.in_ok-sort_by_key.ensures.stable (λ a r q k. search rules))
