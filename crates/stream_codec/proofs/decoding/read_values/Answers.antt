use Rattle.std.proofs.Common.{◌*◌, [], ◌∷◌, ◌++◌, ap, ◌∙◌}
use Rattle.stream_codec.proofs.Turns.{pushed, values-step, value-read}
use Rattle.stream_codec.proofs.decoding.read_values.Goals as goal

pub loop-i-preserved : goal.loop-i-preserved
loop-i-preserved c =
    pushed _ _ _ _ _ _
    (c.in_ok-push.ensures ∙ ap (λ z. c.loop-i.values ++ z ∷ [])
    (value-read c.args.bytes.now c.behind.result.now (8 * c.loop-i.i) c.read_i64.result (λ k. (c.type_inv.bytes k).fits) c.behind.ensures c.read_i64.ensures))
    (values-step c.args.count c.loop-i.i c.args.bytes.now c.loop-i-test.true)
    c.loop-i.invariant
