-- Buckets one after another, and what contracts see of a keeper.
use Rattle.std.specs.Prelude.{◌≡◌, ℕ, ◌+◌, Bool, List, [], ◌∷◌, ◌++◌, Option, Some, None}
use Rattle.std.specs.declared.snapshot.Snapshot.{Snapshot}
use Rattle.dpc_model.specs.Engines.{Value, added_output}
use Rattle.dpc_model.specs.PartStands.{KeeperValue}
use Rattle.dpc_model.specs.declared.operators.OpSpec.{OpSpec}
use Rattle.dpc_model.specs.declared.tuples.Tuple.{Tuple}
use Rattle.dpc_model.specs.declared.tuples.Tagged.{Tagged}

-- the engine's state and its copy, and whether a call wanted memory
pub record KeptValue (M : Type 0) : Type 0 where
  pub keeper : KeeperValue M
  pub spent : Bool

-- the engine: the one that is lent, as it was, or the one that is there
abbrev pub standing : {M : Type 0} → Option (Snapshot M) → M → M
standing None there = there
standing (Some lent) there = lent.value

-- while an engine is lent no copy is held, and a spare one of the same operators is there
pub record IsLent {M : Type 0} (width : M → Option ℕ) (operators : M → List OpSpec) (lent spare : M) (held : Option M) : Type 0 where
  pub none_held : held ≡ None
  pub made_of : operators spare ≡ operators lent
  pub wide : width spare ≡ width lent

-- what buckets from number k on add to the output, where the inputs before them are known
abbrev pub added_by : Value → ℕ → List Tagged → List (List Tagged) → ℕ → List Tuple
added_by v width before [] k = []
added_by v width before (b ∷ bs) k = added_output v width before b k ++ added_by v width (before ++ b) bs (k + 1)
