use Rattle.dpc_lists.proofs.Elements.{length-changed}
use Rattle.dpc_model.specs.Replicas.{after_beat}
use Rattle.upstream.proofs.upstream.Upstream.note_beat.Goals as goal

pub invariant_of-self : goal.invariant_of-self
invariant_of-self c =
    let long = length-changed c.args.r (after_beat c.args.beat.inc c.args.beat.state c.args.beat.recovering) c.self.inside.monitor in
    (rw (c.note_beat.ensures, long) c.self.invariant.0, c.self.invariant.1, c.self.invariant.2)
