use Rattle.std.proofs.Common.{◌≡◌, ◌∙◌, List, ap, slice_set, slice_index_or}
use Rattle.dpc_model.specs.PartStands.{InletValue}
use Rattle.sunion.specs.Ports.{forgetting}
use Rattle.sunion.proofs.Counting.{forgetting_to, forgetting-more, forgetting-all}
use Rattle.sunion.proofs.ports.drop_below.Goals as goal

pub loop-port-preserved : goal.loop-port-preserved
loop-port-preserved c =
    let i = c.loop-port.port-index in
    let port = c.port-item.result in
    let ports = c.args.ports.now in
    let done = forgetting_to c.args.time i ports in
    let same : slice_index_or c.loop-port.ports i port ≡ slice_index_or done i port = ap (λ (ps : List InletValue). slice_index_or ps i port) c.loop-port.invariant in
    ap (λ (ps : List InletValue). slice_set ps i c.drop_below.new.self) c.loop-port.invariant
    ∙ forgetting-more c.args.time i ports c.drop_below.new.self port c.loop-port-test.true (c.drop_below.ensures.after ∙ ap (forgetting c.args.time) same)

pub returns : goal.returns
returns c = c.loop-port.invariant ∙ forgetting-all c.args.time c.loop-port.port-index c.args.ports.now c.loop-port-test.false
