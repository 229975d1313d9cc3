use Rattle.std.proofs.Common.{Result, Ok, Err, OnErr, ◌+◌, arith}
use Rattle.std.proofs.lemmas.List.{length-take}
use Rattle.borealis_top.proofs.Known.{Gave-some}
use Rattle.borealis_top.proofs.transfer.read_whole.Goals as goal

-- what holds anyway holds of an error
on_err : {A E : Type 0} (r : Result A E) (P : Type 0) → P → OnErr r P
on_err (Ok x) P p = tt
on_err (Err e) P p = p

-- what was read before, and at most what the last call asked for
pub returns-in_err-read_more-clause-most : goal.returns-in_err-read_more-clause-most
returns-in_err-read_more-clause-most g c =
    let before = c.loop-bytes.invariant in
    let last = c.in_err-read_more.ensures.most in
    on_err _ _ (Gave-some _ _ _ c.loop-bytes.bytes.items _ (c.args.longest + 1) before.gave last
    (omega (arith, length-take c.min-most.result c.deref_mut.result.now, c.min-most.ensures, before.short, c.loop-bytes.bytes.ok, c.loop-bytes-test.true, c.len.ensures, c.len-in-loop-bytes.ensures)))
