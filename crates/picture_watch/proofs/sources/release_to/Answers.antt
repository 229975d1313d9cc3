use Rattle.std.proofs.Common.{◌≤◌, ◌<◌, length, sym, ap, ◌∙◌, arith, max}
use Rattle.dpc_lists.proofs.Elements.{set-changed}
use Rattle.picture_model.specs.Points.{released_to}
use Rattle.picture_watch.proofs.Tallying.{changed-none}
use Rattle.picture_watch.proofs.sources.release_to.Goals as goal

pub returns-then-source-len : goal.returns-then-source-len
returns-then-source-len c =
    let xs = c.args.sources.now.items in
    let past : length xs ≤ c.args.source = omega arith in sym (changed-none xs c.args.source (released_to c.args.time) past)

pub returns : goal.returns
returns c =
    let xs = c.args.sources.now.items in
    let p = c.index-point.result.now in
    let low : c.args.source < length xs = omega arith in
    set-changed xs c.args.source (released_to c.args.time) p (record { sent = c.max.result; bound = c.max-2.result }) low c.index-point.ensures
    (ap (λ n. record p { sent = n; bound = c.max-2.result }) c.max.ensures ∙ ap (λ n. record p { sent = max p.sent c.args.time; bound = n }) c.max-2.ensures)
