use Rattle.std.proofs.Common.{◌≡◌, ◌++◌, take, drop, length, refl, arith}
use Rattle.std.proofs.lemmas.List.{take_at}
use Rattle.fragment_mill.proofs.Running.{specs-length}
use Rattle.fragment_mill.proofs.Starts.{IsReady-none, MillAfter-none}
use Rattle.fragment_mill.proofs.mill.FragMillEngine.reset.Goals as goal

pub invariant_of-self : goal.invariant_of-self
invariant_of-self c =
    let specs = rw c.as_mut_slice.ensures.value at c.reset_all.ensures.specs in
    let fits = rw c.as_mut_slice.ensures.value at c.reset_all.ensures.fits in
    let whole : take c.self.inside.stages.len (c.reset_all.new.stages ++ drop (length c.reset_all.new.stages) c.self.inside.stages.items) ≡ c.reset_all.new.stages =
    take_at c.reset_all.new.stages _ c.self.inside.stages.len (omega (arith, specs-length _ _ specs, c.self.inside.stages.ok)) in
    rw whole (IsReady-none _ c.reset_all.new.stages (fits _ c.self.invariant.fits) c.reset_all.ensures.idle c.reset_all.ensures.after)

pub returns-clause-after : goal.returns-clause-after
returns-clause-after c =
    let specs = rw c.as_mut_slice.ensures.value at c.reset_all.ensures.specs in
    let fits = rw c.as_mut_slice.ensures.value at c.reset_all.ensures.fits in
    let whole : take c.self.inside.stages.len (c.reset_all.new.stages ++ drop (length c.reset_all.new.stages) c.self.inside.stages.items) ≡ c.reset_all.new.stages =
    take_at c.reset_all.new.stages _ c.self.inside.stages.len (omega (arith, specs-length _ _ specs, c.self.inside.stages.ok)) in
    rw whole (MillAfter-none _ (fits _ c.self.invariant.fits) c.reset_all.ensures.after refl)
