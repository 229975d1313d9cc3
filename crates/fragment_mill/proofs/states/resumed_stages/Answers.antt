use Rattle.std.proofs.Common.{◌≡◌, ◌*◌, ◌<◌, [], length, get_or, Some, sym, ◌∙◌, ap, arith, rules}
use Rattle.std.proofs.lemmas.Grind.{common_steps}
use Rattle.std.specs.Vec.Iter.{into_iter_items}
use Rattle.fragment_mill.proofs.Resumes.{fault-short}
use Rattle.fragment_mill.proofs.Starts.{op-sound}
use Rattle.fragment_mill.proofs.states.resumed_stages.Goals as goal

pub suits_kind-requires : goal.suits_kind-requires
suits_kind-requires c =
    let low : c.len-number.result < length c.args.ops.now = first_of (search rules, grind (arith, common_steps)) in
    let at : c.in-Some-get.op.now ≡ get_or c.args.ops.now c.len-number.result c.in-Some-get.op.now = first_of (search rules, grind (arith, common_steps)) in
    op-sound c.args.ops.now c.len-number.result c.in-Some-get.op.now c.requires low at

pub resumed_stage-requires-clause-sound : goal.resumed_stage-requires-clause-sound
resumed_stage-requires-clause-sound c =
    let low : c.len-number.result < length c.args.ops.now = first_of (search rules, grind (arith, common_steps)) in
    let at : c.in-Some-get.op.now ≡ get_or c.args.ops.now c.len-number.result c.in-Some-get.op.now = first_of (search rules, grind (arith, common_steps)) in
    op-sound c.args.ops.now c.len-number.result c.in-Some-get.op.now c.requires low at

pub returns-then-len-ops-clause-fault : goal.returns-then-len-ops-clause-fault
returns-then-len-ops-clause-fault c = λ i e.
    let none : into_iter_items c.loop-part.part-iterator ≡ [] = first_of (search rules, grind (arith, common_steps)) in
    let many : c.len-then-len-ops.result ≡ length c.loop-part.stages.items = omega (arith, c.loop-part.stages.ok) in
    let low : length c.loop-part.stages.items < length c.args.ops.now = omega (arith, c.loop-part.stages.ok) in
    let number : c.len-then-len-ops.result ≡ i = cc in
    let here = fault-short (c.args.next * c.args.width) (length c.loop-part.stages.items) c.args.ops.now (into_iter_items c.loop-part.part-iterator) low none in
    sym c.loop-part.invariant.fault ∙ here ∙ ap (λ n. Some n) (sym many ∙ number)
