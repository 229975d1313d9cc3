-- What work that is put back leaves of the world where it fails, and which world that is.
use Rattle.std.proofs.Common.{◌≡◌, ◌∙◌, ap, sym, refl, Bool, true, false, Result, Err}
use Rattle.node_core.specs.declared.faults.Point.{Point}
use Rattle.world_core.specs.Handing.{is_loss}
use Rattle.world_core.specs.Runs.{RunOf}
use Rattle.world_core.specs.declared.faults.CommitFault.{CommitFault}
use Rattle.world_core.specs.declared.faults.CommitFault.TheVariants as fault
use Rattle.live_run.specs.declared.timetable.Timetable.{Timetable}
use Rattle.live_run.specs.Lives.{LiveRunOf, script_of, world_in}

pub left_by : (why : CommitFault) (w v : RunOf) → w.spent ≡ false → (is_loss why ≡ true → v ≡ record w { spent = true }) → ((had needed : Point) → why ≡ fault.Stale had needed → v ≡ w) → v ≡ record w { spent = is_loss why }
left_by fault.NoMemory w v live lost stale = lost refl
left_by fault.Spent w v live lost stale = lost refl
left_by (fault.TooLong envelopes items) w v live lost stale = lost refl
left_by (fault.Stale had needed) w v live lost stale = stale had needed refl ∙ with-spent live
  where
    with-spent : w.spent ≡ false → w ≡ record w { spent = false }
    with-spent e = let f : Bool → RunOf = λ b. record w { spent = b } in ap f e

pub same_fault : {X : Type 0} (x y : CommitFault) → ◌≡◌ {A = Result X CommitFault} (Err x) (Err y) → x ≡ y
same_fault x y h = cc

-- what contracts see of it
abbrev pub run_seen : Timetable → RunOf → Bool → LiveRunOf
run_seen t w spent = record { script = script_of w.plan t; events = w.events; spent = spent }

-- the world is the one that they see
pub world_seen : (t : Timetable) (w : RunOf) (spent : Bool) (old : LiveRunOf) → w.spent ≡ false → spent ≡ false → run_seen t w spent ≡ old → w ≡ world_in old
world_seen t w spent old live fresh is = let with_spent : Bool → RunOf = λ b. record w { spent = b } in ap with_spent (live ∙ sym fresh) ∙ ap world_in is

-- what is stale leaves the run as it was
pub still_seen : (t : Timetable) (w : RunOf) (why : CommitFault) (had needed : Point) (lost spent : Bool) (old : LiveRunOf) → lost ≡ is_loss why → why ≡ fault.Stale had needed → spent ≡ false → run_seen t w spent ≡ old → run_seen t w lost ≡ old
still_seen t w why had needed lost spent old told stale fresh is = ap (λ (b : Bool). run_seen t w b) (told ∙ ap is_loss stale ∙ sym fresh) ∙ is
