-- Reading on and on leaves the moment as it is.
use Rattle.std.proofs.Common.{◌≡◌, inl, inr, refl, ◌∙◌, ap, subst}
use Rattle.disk_model.specs.Disk.{Image, Moment, MayLeave, settled, History, after, GoesOn}
use Rattle.disk_model.specs.Looking.{Looks, LeavesNoMore}
use Rattle.disk_model.proofs.Moments.{started, goes_on_to, joined, weaker}

pub no_look : (h : History) → Looks h h
no_look h = record { now = refl; run = started h (MayLeave h.now) (λ image may. may) }

pub one_look : (old new : History) → GoesOn old old.now new → Looks old new
one_look old new goes = record {
  now = still goes;
  run = goes_on_to old old new old.now (MayLeave old.now) (started old (MayLeave old.now) (λ image may. may)) goes (λ image may. may);
}
  where
    still : GoesOn old old.now new → new.now ≡ old.now
    still (inl none) = ap (λ (h : History). h.now) none
    still (inr more) = ap (λ (h : History). h.now) more

pub looks_on : (old mid new : History) → Looks old mid → Looks mid new → Looks old new
looks_on old mid new front back = record {
  now = back.now ∙ front.now;
  run = joined old mid new (MayLeave old.now) front.run (weaker mid new (MayLeave mid.now) (MayLeave old.now) (λ image may. subst (λ (m : Moment). MayLeave m image) front.now may) back.run);
}

-- after a sync
pub sync_looks : (old mid new : History) (seen : Image) → MayLeave old.now seen → mid ≡ after (settled seen) old → Looks mid new → LeavesNoMore old new
sync_looks old mid new seen stays is looks =
    let before : (image : Image) → MayLeave mid.now image → MayLeave old.now image =
    λ image may i out. (subst (λ (h : History). MayLeave h.now image) is may) i tt ∙ stays i out in
    let run = goes_on_to old old mid (settled seen) (MayLeave old.now) (started old (MayLeave old.now) (λ image may. may)) (inr is) (λ image may i out. may i tt ∙ stays i out) in
    joined old mid new (MayLeave old.now) run (weaker mid new (MayLeave mid.now) (MayLeave old.now) before looks.run)
