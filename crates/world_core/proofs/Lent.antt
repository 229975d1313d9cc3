-- Work on a node's own engine that a run lends, and that comes back, from what its parts say.
use Rattle.std.proofs.Common.{◌≡◌, ℕ, ◌+◌, length, subst, Option, Some, None}
use Rattle.std.specs.Prelude.{IfSome}
use Rattle.fragment_mill.specs.Mills.{MillState}
use Rattle.mill_work.specs.Milling.{OrderValue}
use Rattle.node_core.specs.declared.faults.Point.{Point}
use Rattle.world_model.specs.Worlds.{World}
use Rattle.law_fit.specs.Fits.{CanRun}
use Rattle.law_work.specs.TrueWork.{IsTrueWork}
use Rattle.law_work.proofs.Worlds.{run-work-true}
use Rattle.world_parts.specs.Events.{IsWorldOf}
use Rattle.world_parts.specs.Handing.{IsHandedOut}
use Rattle.world_parts.specs.Lending.{IsTimelyIn, IsLateIn}
use Rattle.world_parts.specs.Parts.{WorldPartsValue, StandsForWorld}
use Rattle.world_core.specs.Handing.{Fits, IsWorkOf, IsStaleAt}
use Rattle.world_core.specs.Runs.{RunOf, world_of}
use Rattle.world_core.proofs.Running.{run-stands}
use Rattle.world_core.proofs.Work.{work-of}

-- work of a run is true
pub run-true : (w : RunOf) (actor : ℕ) (o : OrderValue MillState) → CanRun w.plan → IsWorkOf w actor o → IsTrueWork w.plan o
run-true w actor o can h = run-work-true w.plan w.events can.checked h.fits.frag h.fits.replica h.fits.plain o h.fits.role h.fits.up h.can.some h.fits.work

-- so is what is lent
pub lent-true : (w old : RunOf) (v : WorldPartsValue) (actor : ℕ) (told : Option (OrderValue MillState)) → w ≡ old → CanRun w.plan → StandsForWorld w.plan v (world_of w) → IfSome told (IsHandedOut w.plan v actor) →
    IfSome told (IsTrueWork old.plan)
lent-true w old v actor None same can stands h = tt
lent-true w old v actor (Some o) same can stands h = subst (λ (r : RunOf). IsTrueWork r.plan o) same (run-true w actor o can (work-of w v actor o can stands h))

-- work that is timely fits
pub fits-still : (w : RunOf) (v : WorldPartsValue) (o : OrderValue MillState) → CanRun w.plan → StandsForWorld w.plan v (world_of w) → ((x : World) (most : ℕ) → IsWorldOf w.plan v x most → IsTimelyIn w.plan x o) → Fits w o
fits-still w v o can stands h =
    let at = h (world_of w) (1 + length w.events) (run-stands w.plan v w.events can stands) in
    record { frag = at.frag; replica = at.replica; plain = at.plain; role = at.role; up = at.up; work = at.work }

-- and work that is late is stale
pub stale-still : (w : RunOf) (v : WorldPartsValue) (o : OrderValue MillState) (had needed : Point) → CanRun w.plan → StandsForWorld w.plan v (world_of w) →
    ((x : World) (most : ℕ) → IsWorldOf w.plan v x most → IsLateIn w.plan x o had needed) → IsStaleAt w o had needed
stale-still w v o had needed can stands h =
    let at = h (world_of w) (1 + length w.events) (run-stands w.plan v w.events can stands) in
    record { asked = at.asked; stale = at.stale; down = at.down; up = at.up }
