use Rattle.std.proofs.Common.{◌≡◌, ◌∙◌, arith}
use Rattle.trial_engines.proofs.mills.a_port_is_read_twice.Goals as goal

pub bucket-requires-2-clause-accepts : goal.bucket-requires-2-clause-accepts
bucket-requires-2-clause-accepts g c =
    let same : c.bucket.new.self.width ≡ c.in-Ok.mill.width = cc (c.bucket.ensures.width) in
    rw (same ∙ c.in-Ok.ensures.width, c.as_slice-2.ensures.value) (record { bucket = c.in_ok-inputs-2.ensures 1 (omega arith) (omega arith); end = omega arith })
