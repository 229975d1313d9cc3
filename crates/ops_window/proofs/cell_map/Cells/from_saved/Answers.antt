use Rattle.ops_window.proofs.Resumes.{put-more}
use Rattle.ops_window.proofs.cell_map.Cells.from_saved.Goals as goal

pub loop-cell-preserved : goal.loop-cell-preserved
loop-cell-preserved c =
    put-more c.args.aggs.now c.loop-cell.cell-index c.args.saved.now c.cell-item.result c.loop-cell.cells c.put.new.self c.loop-cell-test.true c.cell-item.is c.requires c.in_ok-put.ensures c.loop-cell.invariant
