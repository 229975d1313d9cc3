use Rattle.std.proofs.Common.{◌≡◌, ◌∙◌, map, length, ap, rules}
use Rattle.dpc_lists.proofs.Mapped.{written-back}
use Rattle.picture_model.specs.Drawing.{with_losses}
use Rattle.picture_watch.specs.Seen.{IsClosed}
use Rattle.picture_watch.proofs.Seeing.{finished}
use Rattle.picture_watch.proofs.watch.Picturing.finish.Goals as goal

pub returns : goal.returns
returns c =
    let mid = c.close.new.self in
    let closed : IsClosed c.args.world.now c.args.self mid = c.in_ok-close.ensures {u = tt} in
    let f = with_losses c.args.self.losses.items in
    let long : mid.columns.len ≡ length mid.columns.items = search rules in
    let made : c.put_all_losses.new.columns ≡ map f mid.columns.items = search rules in
    written-back mid.columns.len f mid.columns.items c.put_all_losses.new.columns long made
    ∙ ap (map f) (finished c.args.world.now c.args.self mid c.requires.seen closed)
