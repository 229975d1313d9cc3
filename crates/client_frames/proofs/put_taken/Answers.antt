use Rattle.std.proofs.Common.{◌≡◌, ◌+◌, suc, length, refl, arith}
use Rattle.std.proofs.lemmas.Option.{slice_get_read}
use Rattle.std.proofs.lemmas.List.{take_all}
use Rattle.client_frames.proofs.Frames.{taken-more, none-taken}
use Rattle.client_frames.proofs.put_taken.Goals as goal

pub loop-items-init : goal.loop-items-init
loop-items-init c = none-taken c.args.bytes.now.items

pub loop-items-preserved : goal.loop-items-preserved
loop-items-preserved c =
    let i = c.loop-items.items-index in
    let xs = c.args.taken.now in
    let next : i + 1 ≡ suc i = omega arith in
    let at = slice_get_read xs (length xs) i c.items-item.result refl c.loop-items-test.true c.items-item.is in
    rw (c.in_ok-put_items.ensures, c.as_slice.ensures, c.loop-items.invariant, next) (taken-more c.args.bytes.now.items xs i c.items-item.result at)

pub returns : goal.returns
returns c = rw (take_all c.loop-items.items-index c.args.taken.now c.loop-items-test.false) at c.loop-items.invariant
