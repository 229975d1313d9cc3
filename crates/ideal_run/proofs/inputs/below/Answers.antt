use Rattle.std.proofs.Common.{◌∙◌, ap, take}
use Rattle.dpc_model.specs.Streams.{time_of}
use Rattle.dpc_model.proofs.Cuts.{below-take}
use Rattle.ideal_run.proofs.inputs.below.Goals as goal

pub returns : goal.returns
returns c = ap (λ n. take n c.args.tuples.now) c.count_below.ensures.count ∙ below-take time_of c.args.time c.args.tuples.now c.requires
