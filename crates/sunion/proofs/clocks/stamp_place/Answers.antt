use Rattle.std.proofs.Common.{rules, ◌≡◌, ◌<◌, ◌≤◌, length, None, sym, slice_index_or}
use Rattle.sunion.specs.Clocks.{first_stamp}
use Rattle.dpc_lists.proofs.Elements.{set-changed}
use Rattle.sunion.proofs.Stamping.{changed-past, changed-fixed, no_stamp, stamp-kept}
use Rattle.sunion.proofs.clocks.stamp_place.Goals as goal

pub returns-then-is_none : goal.returns-then-is_none
returns-then-is_none c =
    let clocks = c.args.clocks.now.items in
    let low : c.args.place < length clocks = search rules in
    let here : c.in-Some.stamp.now ≡ slice_index_or clocks c.args.place c.in-Some.stamp.now = search rules in
    set-changed clocks c.args.place (first_stamp c.args.now) c.in-Some.stamp.now (first_stamp c.args.now None) low here (no_stamp c.args.now c.in-Some.stamp.now c.if-is_none.ensures)

pub returns-else-is_none : goal.returns-else-is_none
returns-else-is_none c =
    let clocks = c.args.clocks.now.items in
    let here : c.in-Some.stamp.now ≡ slice_index_or clocks c.args.place c.in-Some.stamp.now = search rules in
    sym (changed-fixed c.args.place (first_stamp c.args.now) clocks c.in-Some.stamp.now here (stamp-kept c.args.now c.in-Some.stamp.now c.if-is_none.ensures))

pub returns-in_default : goal.returns-in_default
returns-in_default c =
    let clocks = c.args.clocks.now.items in
    let past : length clocks ≤ c.args.place = search rules in
    sym (changed-past c.args.place (first_stamp c.args.now) clocks past)
