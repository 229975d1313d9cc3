use Rattle.std.proofs.Common.{◌≡◌}
use Rattle.dpc_model.specs.Parts.{Inputs}
use Rattle.sunion.specs.Unions.{StandsForInputs}
use Rattle.law_buckets.specs.Series.{buckets_from, AreReady}
use Rattle.pipeline.proofs.milling.next_buckets.Given as goal

-- the first i buckets are listed
abbrev pub invariant-loop-i : goal.invariant-loop-i
invariant-loop-i l = (x : Inputs) → StandsForInputs l.inputs x → AreReady l.inputs.width x l.count → l.buckets.items ≡ buckets_from l.inputs.width x x.cursor l.i
