use Rattle.trial_ideal.proofs.SoundPlans.{sound-tests}
use Rattle.trial_ideal.proofs.sound.is_sound.Goals as goal

pub returns : goal.returns
returns c =
    rw c.are_all.ensures
    (sound-tests c.args.plan.now _ _ _ (rw c.as_slice.ensures at c.logs_are_in_order-logs.ensures) (rw c.as_slice-2.ensures at c.fragments_are_sound-kinds.ensures)
    (rw c.as_slice-3.ensures at c.fragments_read_before-reads.ensures))
