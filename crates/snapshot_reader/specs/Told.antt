-- What a reader answers.
use Rattle.std.specs.Prelude.{⊤, ◌≡◌, ℕ, List, Option, Some, None, Result, Ok, Err}
use Rattle.snapshot_reader.specs.declared.faults.ReadFault.{ReadFault}
use Rattle.snapshot_reader.specs.declared.faults.ReadFault.TheVariants.{NoMemory, NoReading}

-- what stands in front of the bytes, and the bytes behind it; or that there is no such thing; or memory was wanting
abbrev pub IsRead : {T : Type 0} → Option (T × List ℕ) → Result T ReadFault → List ℕ → Type 0
IsRead told (Ok x) rest = told ≡ Some (x, rest)
IsRead told (Err NoMemory) rest = ⊤
IsRead told (Err NoReading) rest = told ≡ None

-- what the bytes are; or that they are no such thing; or memory was wanting
abbrev pub IsTold : {T : Type 0} → Option T → Result T ReadFault → Type 0
IsTold told (Ok x) = told ≡ Some x
IsTold told (Err NoMemory) = ⊤
IsTold told (Err NoReading) = told ≡ None
