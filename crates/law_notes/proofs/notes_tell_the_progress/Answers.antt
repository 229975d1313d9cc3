use Rattle.law_notes.proofs.Noting.{progress-told, may-told, live-told}
use Rattle.law_notes.proofs.notes_tell_the_progress.Goals as goal

pub returns : goal.returns
returns c = record { progress = progress-told; may = may-told; live = live-told }
