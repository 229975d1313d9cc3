-- What contracts see of a source or of a sink, and what a call makes of it.
use Rattle.std.specs.Prelude.{◌≡◌, ℕ, ◌<◌, ◌≤◌, List, length, take, Option}
use Rattle.std.specs.Io.KnownBytes.{Consumes, Appends, Keeps}
use Rattle.dpc_edge.specs.Faults.{Rises}

-- the bytes that a source has left or a sink took, where it tells them, and how many calls failed; that never falls, and stays once it is
-- the greatest u64
pub record Edge : Type 0 where
  pub bytes : Option (List ℕ)
  pub faults : ℕ

-- nothing was moved, and nothing failed
pub record Stays (old new : Edge) : Type 0 where
  pub bytes : Keeps old.bytes new.bytes
  pub faults : new.faults ≡ old.faults

-- a source gave these bytes, and nothing failed
pub record Gave (old new : Edge) (given : List ℕ) : Type 0 where
  pub bytes : Consumes old.bytes new.bytes given
  pub faults : new.faults ≡ old.faults

-- a sink took these bytes, and nothing failed
pub record Took (old new : Edge) (taken : List ℕ) : Type 0 where
  pub bytes : Appends old.bytes new.bytes taken
  pub faults : new.faults ≡ old.faults

-- a call failed, and moved nothing
pub record Fails (old new : Edge) : Type 0 where
  pub bytes : Keeps old.bytes new.bytes
  pub faults : Rises old.faults new.faults

-- a sink failed, and took a proper beginning of a text
pub record TookPart (old new : Edge) (text : List ℕ) : Type 0 where
  pub count : ℕ
  pub proper : count < length text
  pub bytes : Appends old.bytes new.bytes (take count text)
  pub faults : Rises old.faults new.faults

-- it took a beginning of a text, and nothing failed
pub record TookSome (old new : Edge) (text : List ℕ) : Type 0 where
  pub count : ℕ
  pub within : count ≤ length text
  pub bytes : Appends old.bytes new.bytes (take count text)
  pub faults : new.faults ≡ old.faults
