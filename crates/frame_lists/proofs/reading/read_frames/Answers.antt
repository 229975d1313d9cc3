-- What is left is read to the same as the whole.
use Rattle.std.proofs.Common.{length, ap, ◌∙◌, sym, arith}
use Rattle.std.proofs.lemmas.Bool.{eqb-true}
use Rattle.std.proofs.lemmas.List.{length-drop, nil_from_length}
use Rattle.frame_lists.proofs.Steps.{at-start, goes-on, ends, some-bytes, within}
use Rattle.frame_lists.proofs.reading.read_frames.Goals as goal

pub loop-rest-init : goal.loop-rest-init
loop-rest-init g c = rw c.new-parts.ensures.items (at-start (g.S.Sort.part c.args.sort.now) c.args.bytes.now)

pub loop-rest-smaller : goal.loop-rest-smaller
loop-rest-smaller g c =
    let told = c.in_ok-part.ensures.part in
    let part = g.S.Sort.part c.args.sort.now in
    let rest = c.loop-rest.rest.now in
    let some = some-bytes part rest c.in_ok-part.part told.0 told.1 in
    let most = within part rest c.in_ok-part.part told.0 told.1 in
    let left = ap length told.2 ∙ length-drop told.0 rest in
    omega (arith, some, most, left)

pub loop-rest-preserved : goal.loop-rest-preserved
loop-rest-preserved g c =
    let told = c.in_ok-part.ensures.part in
    let part = g.S.Sort.part c.args.sort.now in
    let rest = c.loop-rest.rest.now in
    let some = some-bytes part rest c.in_ok-part.part told.0 told.1 in
    let most = within part rest c.in_ok-part.part told.0 told.1 in
    rw c.in-Ok.ensures.items
    (goes-on part c.args.bytes.now c.loop-rest.parts.items rest c.in_ok-part.behind.now c.in_ok-part.part told.0 c.loop-rest.invariant (omega (arith, some, most)) told.1 told.2)

pub returns : goal.returns
returns g c =
    let none = nil_from_length c.loop-rest.rest.now (eqb-true (length c.loop-rest.rest.now) 0 (sym c.is_empty.ensures ∙ c.loop-rest-test.false)) in
    ends (g.S.Sort.part c.args.sort.now) c.args.bytes.now c.loop-rest.parts.items c.loop-rest.rest.now c.loop-rest.invariant none
