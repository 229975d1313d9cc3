use Rattle.std.proofs.Common.{◌≤◌, ◌<◌, length, sym, ap, arith}
use Rattle.dpc_lists.proofs.Elements.{set-changed}
use Rattle.picture_model.specs.Points.{emitted_to}
use Rattle.picture_watch.proofs.Tallying.{changed-none}
use Rattle.picture_watch.proofs.sources.emit_to.Goals as goal

pub returns-then-source-len : goal.returns-then-source-len
returns-then-source-len c =
    let xs = c.args.sources.now.items in
    let past : length xs ≤ c.args.source = omega arith in sym (changed-none xs c.args.source (emitted_to c.args.time) past)

pub returns : goal.returns
returns c =
    let xs = c.args.sources.now.items in
    let p = c.index-point.result.now in
    let low : c.args.source < length xs = omega arith in
    set-changed xs c.args.source (emitted_to c.args.time) p (record { sent = c.max.result; bound = p.bound }) low c.index-point.ensures (ap (λ n. record p { sent = n }) c.max.ensures)
