-- One save more.
use Rattle.std.proofs.Common.{◌≡◌, inl, inr, ⊎_elim, ℕ, List, [], ◌∷◌, ◌++◌, refl, ◌∙◌, ap}
use Rattle.disk_model.specs.Disk.{Image, MayLeave, History, LeavesOnly}
use Rattle.saved_slots.specs.Slots.{Reading, Holding, read_of}
use Rattle.saved_slots.specs.Standing.{IsOldOrNew}
use Rattle.disk_model.specs.Synced.{IsSynced}
use Rattle.saved_slots.specs.Series.{last_kept, GivesWay, IsCutShort}
use Rattle.disk_model.proofs.Moments.{started, weaker, joined}
use Rattle.disk_model.proofs.Runs.{only_seen}

pub last_push : (kept : Reading) (payloads : List (List ℕ)) (payload : List ℕ) → last_kept kept (payloads ++ payload ∷ []) ≡ Holding payload
last_push kept [] payload = refl
last_push kept (first ∷ payloads) payload = last_push (Holding first) payloads payload

module _ (room : ℕ) where
  -- of a disk that is synced a crash leaves what is read
  pub only_reads : (h : History) (seen : Image) → IsSynced h seen → (image : Image) → MayLeave h.now image → read_of room image ≡ read_of room seen
  only_reads h seen synced image may = let same : image ≡ seen = λ j i. only_seen h seen synced image may i j in ap (read_of room) same

  pub none_yet : (h : History) (seen : Image) → IsSynced h seen → GivesWay room (read_of room seen) [] h h
  none_yet h seen synced = started h (λ image. read_of room image ≡ read_of room seen) (only_reads h seen synced)

  pub way_push : (kept : Reading) (payloads : List (List ℕ)) (payload : List ℕ) (old mid new : History) → GivesWay room kept payloads old mid
      → LeavesOnly mid new (IsOldOrNew room (last_kept kept payloads) payload)
      → ((image : Image) → MayLeave new.now image → read_of room image ≡ Holding payload) → GivesWay room kept (payloads ++ payload ∷ []) old new
  way_push kept [] payload old mid new so_far run ends = (
    new,
    joined old mid new (IsOldOrNew room kept payload)
        (weaker old mid (λ image. read_of room image ≡ kept) (IsOldOrNew room kept payload) (λ image is. inl is) so_far) run,
    ends,
    started new (λ image. read_of room image ≡ Holding payload) ends,
  )
  way_push kept (first ∷ payloads) payload old mid new so_far run ends =
      (so_far.0, so_far.1, so_far.2, way_push (Holding first) payloads payload so_far.0 mid new so_far.3 run ends)

  pub way_saved : (kept : Reading) (payloads : List (List ℕ)) (payload : List ℕ) (old mid new : History) (seen then_seen : Image) → GivesWay room kept payloads old mid
      → read_of room seen ≡ last_kept kept payloads → LeavesOnly mid new (IsOldOrNew room (read_of room seen) payload) → IsSynced new then_seen → read_of room then_seen ≡ Holding payload
      → GivesWay room kept (payloads ++ payload ∷ []) old new
  way_saved kept payloads payload old mid new seen then_seen so_far is run synced reads =
      way_push kept payloads payload old mid new so_far
      (weaker mid new (IsOldOrNew room (read_of room seen) payload) (IsOldOrNew room (last_kept kept payloads) payload)
      (λ image. ⊎_elim (λ old_one. inl (old_one ∙ is)) (λ new_one. inr new_one)) run)
      (λ image may. only_reads new then_seen synced image may ∙ reads)

  -- one that isn't acknowledged
  pub cut_push : (kept : Reading) (payloads : List (List ℕ)) (payload : List ℕ) (rest : List (List ℕ)) (old mid new : History) → GivesWay room kept payloads old mid
      → LeavesOnly mid new (IsOldOrNew room (last_kept kept payloads) payload) → IsCutShort room kept (payloads ++ payload ∷ rest) old new
  cut_push kept [] payload rest old mid new so_far run =
      inl (joined old mid new (IsOldOrNew room kept payload) (weaker old mid (λ image. read_of room image ≡ kept) (IsOldOrNew room kept payload) (λ image is. inl is) so_far) run)
  cut_push kept (first ∷ payloads) payload rest old mid new so_far run =
      inr (so_far.0, so_far.1, so_far.2, cut_push (Holding first) payloads payload rest so_far.0 mid new so_far.3 run)

  pub way_cut : (kept : Reading) (payloads : List (List ℕ)) (payload : List ℕ) (rest : List (List ℕ)) (old mid new : History) (seen : Image) → GivesWay room kept payloads old mid
      → read_of room seen ≡ last_kept kept payloads → LeavesOnly mid new (IsOldOrNew room (read_of room seen) payload) → IsCutShort room kept (payloads ++ payload ∷ rest) old new
  way_cut kept payloads payload rest old mid new seen so_far is run =
      cut_push kept payloads payload rest old mid new so_far
      (weaker mid new (IsOldOrNew room (read_of room seen) payload) (IsOldOrNew room (last_kept kept payloads) payload)
      (λ image. ⊎_elim (λ old_one. inl (old_one ∙ is)) (λ new_one. inr new_one)) run)
