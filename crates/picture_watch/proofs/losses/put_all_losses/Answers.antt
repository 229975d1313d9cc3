use Rattle.std.proofs.Common.{◌∙◌, ap, List, slice_set, slice_index_or}
use Rattle.dpc_lists.proofs.Mapped.{mapped-more}
use Rattle.picture_model.specs.Drawing.{with_losses}
use Rattle.picture_model.specs.declared.columns.Column.{Column}
use Rattle.picture_watch.proofs.losses.put_all_losses.Goals as goal

pub loop-column-preserved : goal.loop-column-preserved
loop-column-preserved c =
    let i = c.loop-column.column-index in
    let after = c.put_losses.new.column in
    let d = c.column-item.result in
    let f = with_losses c.args.losses.now in
    ap (λ (cs : List Column). slice_set cs i after) c.loop-column.invariant
    ∙ mapped-more f i c.args.columns.now after d c.loop-column-test.true (c.in_ok-put_losses.ensures ∙ ap (λ (cs : List Column). f (slice_index_or cs i d)) c.loop-column.invariant)
