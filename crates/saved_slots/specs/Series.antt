-- Saves one after another: what is acknowledged gives way only to what is saved later.
use Rattle.std.specs.Prelude.{◌≡◌, ◌⊎◌, ℕ, ◌+◌, nat_lt, if◌then◌else◌, List, [], ◌∷◌, length, Option, Some, None}
use Rattle.disk_model.specs.Disk.{Image, MayLeave, History, LeavesOnly}
use Rattle.saved_slots.specs.Slots.{Reading, Holding, read_of}
use Rattle.saved_slots.specs.Standing.{IsOldOrNew}

-- what is kept once these are saved
abbrev pub last_kept : Reading → List (List ℕ) → Reading
last_kept kept [] = kept
last_kept kept (payload ∷ payloads) = last_kept (Holding payload) payloads

-- While a payload is saved a crash leaves what was kept before it, or the payload; from its acknowledgement on, nothing before it.
abbrev pub GivesWay : ℕ → Reading → List (List ℕ) → History → History → Type 0
GivesWay room kept [] old new = LeavesOnly old new (λ image. read_of room image ≡ kept)
GivesWay room kept (payload ∷ payloads) old new =
    (mid : History)
    × LeavesOnly old mid (IsOldOrNew room kept payload)
    × ((image : Image) → MayLeave mid.now image → read_of room image ≡ Holding payload)
    × GivesWay room (Holding payload) payloads mid new

-- The same up to one that isn't acknowledged, from which on a crash leaves what was kept before it, or it.
abbrev pub IsCutShort : ℕ → Reading → List (List ℕ) → History → History → Type 0
IsCutShort room kept [] old new = ⊥
IsCutShort room kept (payload ∷ payloads) old new =
    LeavesOnly old new (IsOldOrNew room kept payload)
    ⊎ ((mid : History)
    × LeavesOnly old mid (IsOldOrNew room kept payload)
    × ((image : Image) → MayLeave mid.now image → read_of room image ≡ Holding payload)
    × IsCutShort room (Holding payload) payloads mid new)

-- how many bytes of a slot the first payload needs that is too long for one
abbrev pub first_too_long : ℕ → List (List ℕ) → Option ℕ
first_too_long room [] = None
first_too_long room (payload ∷ payloads) = if nat_lt room (length payload + 32) then Some (length payload + 32) else first_too_long room payloads
