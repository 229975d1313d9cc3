-- A gate that is shut, at each moment.
use Rattle.std.proofs.Common.{◌≡◌, inl, inr, ℕ, subst}
use Rattle.disk_model.specs.Disk.{Image, MayLeave, History, GoesOn, LeavesOnly}
use Rattle.disk_model.specs.Synced.{IsSynced, DiffersWithin}
use Rattle.disk_model.proofs.Moments.{started, goes_on_to, weaker, joined}
use Rattle.disk_model.proofs.Runs.{only_seen}
use Rattle.saved_slots.specs.Saving.{MayBeShut}

module _ (h : History) (seen : Image) (synced : IsSynced h seen) (at : ℕ) where
  same : (image : Image) → MayLeave h.now image → MayBeShut at seen image
  same image may = inl (only_seen h seen synced image may)

  pub after_read : (new : History) → GoesOn h h.now new → LeavesOnly h new (MayBeShut at seen)
  after_read new goes = goes_on_to h h new h.now (MayBeShut at seen) (started h (MayBeShut at seen) same) goes same

  pub after_shutting : (mid new : History) (mid_seen : Image) → GoesOn h h.now mid → mid_seen ≡ seen → seen at ≡ 1 → LeavesOnly mid new (DiffersWithin at 1 mid_seen) → LeavesOnly h new (MayBeShut at seen)
  after_shutting mid new mid_seen goes alike was run =
      joined h mid new (MayBeShut at seen) (after_read mid goes)
      (weaker mid new (DiffersWithin at 1 mid_seen) (MayBeShut at seen) (λ image differs. inr (was, subst (λ (s : Image). DiffersWithin at 1 s image) alike differs)) run)
