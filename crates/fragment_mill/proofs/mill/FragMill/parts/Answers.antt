use Rattle.std.proofs.Common.{subst}
use Rattle.fragment_mill.specs.Mills.{MillState}
use Rattle.fragment_mill.specs.States.{IsOf, ComesBack}
use Rattle.fragment_mill.proofs.Resumes.{comes-back}
use Rattle.fragment_mill.proofs.mill.FragMill.parts.Goals as goal

pub returns-clause-back : goal.returns-clause-back
returns-clause-back c = λ plan frag h.
    let suit = rw c.as_slice.ensures.value at c.in-Ok.ensures.suit in
    subst (λ (m : MillState). IsOf plan frag m → ComesBack plan frag m (record { next = c.self.inside.next; operators = c.in-Ok.operators })) c.self.view_is
    (λ g. rw (c.in-Ok.ensures.parts, c.as_slice.ensures.value) (comes-back plan frag _ c.self.invariant g suit)) h
