-- What calls leave of a disk that change nothing of it.
use Rattle.std.specs.Prelude.{◌≡◌}
use Rattle.disk_model.specs.Disk.{MayLeave, History, LeavesOnly}

-- A crash leaves nothing that it could not have left before.
abbrev pub LeavesNoMore : History → History → Type 0
LeavesNoMore old new = LeavesOnly old new (MayLeave old.now)

-- the same at each moment, and in the end
pub record Looks (old new : History) : Type 0 where
  pub now : new.now ≡ old.now
  pub run : LeavesNoMore old new
