use Rattle.std.proofs.Common.{◌≡◌}
use Rattle.dpc_lists.proofs.Mapped.{mapped_to}
use Rattle.picture_model.specs.Drawing.{with_losses}
use Rattle.picture_watch.proofs.losses.put_all_losses.Given as goal

-- so many columns
abbrev pub invariant-loop-column : goal.invariant-loop-column
invariant-loop-column l = l.columns ≡ mapped_to (with_losses l.losses) l.column-index l.fn.columns
