use Rattle.std.proofs.Common.{rules, ◌≡◌, ◌<◌, ◌≤◌, ◌++◌, ◌∷◌, [], ◌∙◌, length, refl}
use Rattle.pipeline.proofs.Counted.{counted-next, all-counted}
use Rattle.pipeline.proofs.counting.done_counts.Goals as goal

pub loop-port-preserved : goal.loop-port-preserved
loop-port-preserved c = λ x h o.
    let v = c.args.inputs.now in
    let port = c.loop-port.port in
    let low : port < length v.union.inlets = search rules in
    let pushed : c.push.new.self.items ≡ c.loop-port.counts.items ++ c.count_done.result ∷ [] = search rules in
    pushed ∙ counted-next v x port c.cursor_time-time.result c.count_done.result c.inlet.result.now c.loop-port.counts.items h o low c.cursor_time-time.ensures c.inlet.ensures (λ i h o. c.count_done.ensures i o h) (c.loop-port.invariant x h o)

pub returns : goal.returns
returns c = λ x h o.
    let v = c.args.inputs.now in
    let port = c.loop-port.port in
    let past : length v.union.inlets ≤ port = search rules in
    all-counted v x port (length v.union.inlets) c.loop-port.counts.items h refl past (c.loop-port.invariant x h o)
