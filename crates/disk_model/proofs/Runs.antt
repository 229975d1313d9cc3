-- Writes and their sync, at each moment.
use Rattle.std.proofs.Common.{◌≡◌, inl, inr, ⊎_elim, ℕ, ◌+◌, ◌≤◌, sym, ◌∙◌, ap, subst, arith}
use Rattle.disk_model.specs.Disk.{Image, Moment, MayLeave, settled, loosened, IsOutside, History, after, GoesOn, LeavesOnly}
use Rattle.disk_model.specs.Synced.{IsSynced, DiffersWithin, IsLoose, WritesWithin, WritesAt}
use Rattle.disk_model.proofs.Moments.{started, goes_on_to}

-- of a disk that is synced a crash leaves what is seen
pub only_seen : (h : History) (seen : Image) → IsSynced h seen → (image : Image) → MayLeave h.now image → (i : ℕ) → image i ≡ seen i
only_seen h seen synced image may i = (subst (λ (m : Moment). MayLeave m image) synced may) i tt

pub still_synced : (h : History) (seen : Image) → IsSynced h seen → (new : History) (then_seen : Image) → GoesOn h h.now new → then_seen ≡ seen → IsSynced new then_seen
still_synced h seen synced new then_seen (inl none) alike = ap (λ (k : History). k.now) none ∙ synced ∙ ap settled (sym alike)
still_synced h seen synced new then_seen (inr more) alike = ap (λ (k : History). k.now) more ∙ synced ∙ ap settled (sym alike)

pub differs_if_loose : (at n : ℕ) (base : Image) (m : Moment) → IsLoose at n base m → (image : Image) → MayLeave m image → DiffersWithin at n base image
differs_if_loose at n base m loose image may = record { outside = λ i out. may i (loose.outside i out) ∙ ap (λ (s : Image). s i) loose.synced }

loose_more : (at n from count : ℕ) (base : Image) (m : Moment) → at ≤ from → from + count ≤ at + n → IsLoose at n base m → IsLoose at n base (loosened from count m)
loose_more at n from count base m low high loose = record {
  synced = loose.synced;
  outside = λ i out. (⊎_elim (λ below. inl (omega arith)) (λ above. inr (omega arith)) out, loose.outside i out);
}

module _ (at n : ℕ) (base : Image) (begun : History) where
  pub writes_begin : IsSynced begun base → WritesWithin at n base begun begun
  writes_begin synced =
      let loose : IsLoose at n base begun.now = record { synced = ap (λ (m : Moment). m.synced) synced; outside = λ i out. subst (λ (m : Moment). IsOutside m.loose i) (sym synced) tt } in
      record { run = started begun (DiffersWithin at n base) (differs_if_loose at n base begun.now loose); loose = loose }

  module _ (old new : History) (so_far : WritesWithin at n base begun old) where
    -- a call that led to a moment of which the same is true
    goes_to : (m : Moment) → IsLoose at n base m → GoesOn old m new → WritesWithin at n base begun new
    goes_to m loose goes = record {
      run = goes_on_to begun old new m (DiffersWithin at n base) so_far.run goes (differs_if_loose at n base m loose);
      loose = ⊎_elim
          (λ (none : new ≡ old). subst (λ (k : History). IsLoose at n base k.now) (sym none) so_far.loose)
          (λ (more : new ≡ after m old). subst (λ (k : History). IsLoose at n base k.now) (sym more) loose) goes;
    }

    pub wrote_within : (from count : ℕ) → at ≤ from → from + count ≤ at + n → GoesOn old (loosened from count old.now) new → WritesWithin at n base begun new
    wrote_within from count low high goes = goes_to (loosened from count old.now) (loose_more at n from count base old.now low high so_far.loose) goes

    pub not_synced : GoesOn old old.now new → LeavesOnly begun new (DiffersWithin at n base)
    not_synced goes = (goes_to old.now so_far.loose goes).run

    pub synced_within : (seen : Image) → MayLeave old.now seen → new ≡ after (settled seen) old → LeavesOnly begun new (DiffersWithin at n base)
    synced_within seen may is =
        let differs = differs_if_loose at n base old.now so_far.loose seen may in
        goes_on_to begun old new (settled seen) (DiffersWithin at n base) so_far.run (inr is) (λ image left. record { outside = λ i out. left i tt ∙ differs.outside i out })

-- one write
pub wrote : (at n : ℕ) (old new : History) → GoesOn old (loosened at n old.now) new → WritesAt at n old new
wrote at n old new goes = λ begun base from count low high so_far. wrote_within from count base begun old new so_far at n low high goes

-- writes one after another, each within what the whole lies in
pub wrote_both : (at n : ℕ) (old mid new : History) (from count then_from then_count : ℕ) → at ≤ from → from + count ≤ at + n → at ≤ then_from → then_from + then_count ≤ at + n
    → WritesAt from count old mid → WritesAt then_from then_count mid new → WritesAt at n old new
wrote_both at n old mid new from count then_from then_count low high then_low then_high first second =
    λ begun base around room under over so_far. second begun base around room (omega arith) (omega arith) (first begun base around room (omega arith) (omega arith) so_far)

pub wrote_none : (at n : ℕ) (h : History) → WritesAt at n h h
wrote_none at n h = λ begun base from count low high so_far. so_far

pub wrote_less : (at n count : ℕ) (old new : History) → count ≤ n → WritesAt at count old new → WritesAt at n old new
wrote_less at n count old new less writes = λ begun base from room low high so_far. writes begun base from room low (omega arith) so_far
