use Rattle.std.proofs.Common.{◌∙◌, ap, drop}
use Rattle.dpc_model.specs.Streams.{time_of}
use Rattle.dpc_model.proofs.Cuts.{from-drop}
use Rattle.ideal_run.proofs.Streams.{rest-whole}
use Rattle.ideal_run.proofs.inputs.from.Goals as goal

pub returns : goal.returns
returns c =
    rest-whole c.count_below.result c.args.tuples.now ∙ ap (λ n. drop n c.args.tuples.now) c.count_below.ensures.count ∙ from-drop time_of c.args.time c.args.tuples.now c.requires
