-- The clients stand for those of the world.
use Rattle.std.proofs.Common.{◌≡◌, ◌+◌, suc, [], length, refl, ap, ◌∙◌, arith}
use Rattle.std.proofs.lemmas.List.{take_all}
use Rattle.std.proofs.lemmas.Option.{slice_get_read}
use Rattle.client_frames.specs.Framed.{all_frames_by, report_frames}
use Rattle.client_frames.proofs.Frames.{clients-more, frames-same}
use Rattle.client_frames.proofs.report_frames.Goals as goal

pub loop-number-init : goal.loop-number-init
loop-number-init c = c.new-bytes.ensures.items

pub loop-number-preserved : goal.loop-number-preserved
loop-number-preserved c =
    let i = c.loop-number.number in
    let vs = c.args.clients.now in
    let next : i + 1 ≡ suc i = omega arith in
    let at = slice_get_read vs (length vs) i c.index-clients-number.result refl c.loop-number-test.true c.index-clients-number.is in
    rw (c.in_ok-put_client.ensures {u = tt}, c.loop-number.invariant, next) (clients-more [] vs i c.index-clients-number.result at)

pub returns : goal.returns
unfolding report_frames
returns c = λ w stands.
    c.loop-number.invariant ∙ ap (all_frames_by 0) (take_all c.loop-number.number c.args.clients.now c.loop-number-test.false)
    ∙ frames-same w.plan 0 c.args.clients.now w.clients stands
