-- What buckets add to the output of a fragment.
use Rattle.std.specs.Prelude.{◌≡◌, ℕ, ◌+◌, ◌*◌, List, ◌++◌, length, Some, All}
use Rattle.dpc_model.specs.Streams.{IsOrdered}
use Rattle.dpc_model.specs.Operators.{all_of}
use Rattle.dpc_model.specs.Engines.{LiesBelow, engine_value, AcceptsAll}
use Rattle.dpc_model.specs.Fragments.{AreSoundOps}
use Rattle.dpc_model.specs.declared.tuples.Tagged.{Tagged}
use Rattle.dpc_model.specs.declared.operators.OpSpec.{OpSpec}
use Rattle.checkpoint_redo.specs.Keeping.{added_by}

-- behind inputs in order of time, all below bucket k, the output with buckets from k on is the output before them and what they add
abbrev pub BucketsAdd : Type 0
BucketsAdd =
    (ops : List OpSpec) (width k : ℕ) (before : List Tagged) (buckets : List (List Tagged)) → AreSoundOps ops →
    IsOrdered (λ (x : Tagged). x.tuple.stime) before → All (LiesBelow (k * width)) before → AcceptsAll (Some width) k buckets →
    engine_value ops (before ++ all_of buckets) ((k + length buckets) * width)
    ≡ engine_value ops before (k * width) ++ added_by (engine_value ops) width before buckets k
