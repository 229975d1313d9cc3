use Rattle.dpc_lists.proofs.Elements.{length-changed}
use Rattle.dpc_model.specs.Replicas.{with_mark}
use Rattle.upstream.proofs.upstream.Upstream.mark_truncated.Goals as goal

pub invariant_of-self : goal.invariant_of-self
invariant_of-self c =
    let long = length-changed c.args.r (with_mark c.args.base) c.self.inside.monitor in
    (rw (c.mark_truncated.ensures, long) c.self.invariant.0, c.self.invariant.1, c.self.invariant.2)
