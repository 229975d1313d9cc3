use Rattle.std.proofs.Common.{refl}
use Rattle.fragment_mill.proofs.mill.FragMill.new.Goals as goal
use Rattle.fragment_mill.proofs.Starts.{frag-sound, new-all-fit, new-all-idle, new-all-after, IsReady-none, MillAfter-none, made-of, operators-of}

pub new_stages-requires : goal.new_stages-requires
new_stages-requires c =
    let at = rw c.as_slice.ensures at c.index-as_slice-frag.is in
    rw c.as_slice-2.ensures (frag-sound c.args.plan.now.frags c.args.frag c.index-as_slice-frag.result c.requires.sound c.requires.known at)

pub invariant_of-result : goal.invariant_of-result
invariant_of-result c =
    let at = rw c.as_slice.ensures at c.index-as_slice-frag.is in
    let sound = frag-sound c.args.plan.now.frags c.args.frag c.index-as_slice-frag.result c.requires.sound c.requires.known at in
    let e = rw c.as_slice-2.ensures at c.in_ok-stages.ensures in
    let w = c.args.plan.now.width in
    let ops = c.index-as_slice-frag.result.ops in
    rw e (IsReady-none w _ (new-all-fit w ops sound) (new-all-idle w ops) (new-all-after w ops))

pub returns-clause-made : goal.returns-clause-made
returns-clause-made c f is =
    let at = rw c.as_slice.ensures at c.index-as_slice-frag.is in
    let e = rw c.as_slice-2.ensures at c.in_ok-stages.ensures in
    made-of c.args.plan.now.width c.args.frag c.args.plan.now.frags f c.index-as_slice-frag.result _ (rw e refl) at is

pub returns-clause-operators : goal.returns-clause-operators
returns-clause-operators c f is =
    let at = rw c.as_slice.ensures at c.index-as_slice-frag.is in
    let e = rw c.as_slice-2.ensures at c.in_ok-stages.ensures in
    operators-of c.args.plan.now.width c.args.frag c.args.plan.now.frags f c.index-as_slice-frag.result _ e at is

pub returns-clause-after : goal.returns-clause-after
returns-clause-after c =
    let at = rw c.as_slice.ensures at c.index-as_slice-frag.is in
    let sound = frag-sound c.args.plan.now.frags c.args.frag c.index-as_slice-frag.result c.requires.sound c.requires.known at in
    let e = rw c.as_slice-2.ensures at c.in_ok-stages.ensures in
    let w = c.args.plan.now.width in
    let ops = c.index-as_slice-frag.result.ops in
    rw e (MillAfter-none _ (new-all-fit w ops sound) (new-all-after w ops) refl)
