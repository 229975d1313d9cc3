use Rattle.std.proofs.Common.{◌≡◌, ◌*◌, refl}
use Rattle.fragment_mill.specs.declared.states.PartsFault.TheVariants as parts
use Rattle.fragment_mill.proofs.Starts.{frag-sound}
use Rattle.fragment_mill.proofs.Resumes.{ops-are, IsReady-resumed, specs-resumed}
use Rattle.fragment_mill.proofs.mill.FragMill.from_parts.Goals as goal

pub resumed_stages-requires : goal.resumed_stages-requires
resumed_stages-requires c =
    let at = rw c.as_slice.ensures at c.index-as_slice-frag.is in
    rw c.as_slice-2.ensures (frag-sound c.args.plan.now.frags c.args.frag c.index-as_slice-frag.result c.requires.sound c.requires.known at)

pub invariant_of-result : goal.invariant_of-result
invariant_of-result c =
    let at = rw c.as_slice.ensures at c.index-as_slice-frag.is in
    let sound = frag-sound c.args.plan.now.frags c.args.frag c.index-as_slice-frag.result c.requires.sound c.requires.known at in
    let made = rw c.as_slice-2.ensures at c.in-Ok.ensures.made in
    let whole = rw c.as_slice-2.ensures at c.in-Ok.ensures.whole in
    let w = c.args.plan.now.width in
    let next = c.args.parts.next in
    rw made (IsReady-resumed w next (next * w) c.index-as_slice-frag.result.ops c.args.parts.operators sound whole)

pub returns-in-Ok-clause-made : goal.returns-in-Ok-clause-made
returns-in-Ok-clause-made c =
    let at = rw c.as_slice.ensures at c.index-as_slice-frag.is in
    let ops = ops-are c.args.plan.now c.args.frag c.index-as_slice-frag.result c.requires.known at in
    let made = rw c.as_slice-2.ensures at c.in-Ok.ensures.made in
    rw (ops, made) refl

pub returns-in-Ok-clause-whole : goal.returns-in-Ok-clause-whole
returns-in-Ok-clause-whole c =
    let at = rw c.as_slice.ensures at c.index-as_slice-frag.is in
    let ops = ops-are c.args.plan.now c.args.frag c.index-as_slice-frag.result c.requires.known at in
    let whole = rw c.as_slice-2.ensures at c.in-Ok.ensures.whole in
    rw ops whole

pub returns-in-Ok-clause-operators : goal.returns-in-Ok-clause-operators
returns-in-Ok-clause-operators c =
    let at = rw c.as_slice.ensures at c.index-as_slice-frag.is in
    let ops = ops-are c.args.plan.now c.args.frag c.index-as_slice-frag.result c.requires.known at in
    let made = rw c.as_slice-2.ensures at c.in-Ok.ensures.made in
    let whole = rw c.as_slice-2.ensures at c.in-Ok.ensures.whole in
    let w = c.args.plan.now.width in
    let next = c.args.parts.next in
    rw (ops, made) (specs-resumed w next (next * w) 0 c.index-as_slice-frag.result.ops c.args.parts.operators whole)

pub returns-in-Err-clause-fault : goal.returns-in-Err-clause-fault
returns-in-Err-clause-fault c = λ i e.
    let at = rw c.as_slice.ensures at c.index-as_slice-frag.is in
    let ops = ops-are c.args.plan.now c.args.frag c.index-as_slice-frag.result c.requires.known at in
    let same : c.in-Err.fault ≡ parts.BadShape i = cc in
    let fault = rw c.as_slice-2.ensures at (c.in-Err.ensures.fault i (cc)) in
    rw ops fault
