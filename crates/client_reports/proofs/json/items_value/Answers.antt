use Rattle.std.proofs.Common.{◌≡◌, ◌+◌, suc, length, refl, arith}
use Rattle.std.proofs.lemmas.Option.{slice_get_read}
use Rattle.client_reports.specs.Json.{item_data}
use Rattle.client_reports.proofs.Reports.{mapped-more}
use Rattle.client_reports.proofs.json.items_value.Goals as goal

pub loop-items-preserved : goal.loop-items-preserved
loop-items-preserved c =
    let i = c.loop-items.items-index in
    let xs = c.args.taken.now in
    let next : i + 1 ≡ suc i = omega arith in
    let at = slice_get_read xs (length xs) i c.items-item.result refl c.loop-items-test.true c.items-item.is in
    rw (c.in_ok-push_items.ensures, c.as_slice.ensures, c.loop-items.invariant, next) (mapped-more item_data xs i c.items-item.result at)
