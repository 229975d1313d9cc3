use Rattle.std.proofs.Common.{◌≡◌, ◌*◌, ◌∙◌, true, refl}
use Rattle.ops_join.specs.Saving.{can_all_wait}
use Rattle.dpc_model.proofs.Buckets.{LiesBelow-next}
use Rattle.ops_join.proofs.Joining.{taken-ordered, answer-is, kept-next}
use Rattle.ops_join.proofs.Resumes.{IsKept-wait}
use Rattle.ops_join.proofs.Inside.{answer-inside, wait-next}
use Rattle.ops_join.proofs.join.JoinEngine.bucket.Goals as goal

pub advance-requires-clause-left : goal.advance-requires-clause-left
advance-requires-clause-left c =
    let accepts = rw (← c.self.view_is) at c.requires.accepts in
    let next = rw (← c.self.view_is) at c.requires.next in
    let j = c.self.inside in
    let kept = IsKept-wait j.within (c.args.k * j.width) j.sides.left (rw next c.self.invariant.0) in
    taken-ordered j.width c.args.k 0 j.sides.left c.args.inputs.now kept.order kept.below accepts.bucket

pub advance-requires-clause-right : goal.advance-requires-clause-right
advance-requires-clause-right c =
    let accepts = rw (← c.self.view_is) at c.requires.accepts in
    let next = rw (← c.self.view_is) at c.requires.next in
    let j = c.self.inside in
    let kept = IsKept-wait j.within (c.args.k * j.width) j.sides.right (rw next c.self.invariant.1) in
    taken-ordered j.width c.args.k 1 j.sides.right c.args.inputs.now kept.order kept.below accepts.bucket

pub invariant_of-self : goal.invariant_of-self
invariant_of-self c =
    let accepts = rw (← c.self.view_is) at c.requires.accepts in
    let next = rw (← c.self.view_is) at c.requires.next in
    let j = c.self.inside in
    let k = c.args.k in
    let left : can_all_wait j.within (k * j.width) j.sides.left ≡ true = rw next c.self.invariant.0 in
    let right : can_all_wait j.within (k * j.width) j.sides.right ≡ true = rw next c.self.invariant.1 in (
      wait-next j.within j.width k 0 j.sides.left c.advance.new.self.left c.args.inputs.now left accepts.bucket c.in-Ok.ensures.left,
      wait-next j.within j.width k 1 j.sides.right c.advance.new.self.right c.args.inputs.now right accepts.bucket c.in-Ok.ensures.right,
    )

pub returns-in-Ok-clause-answer : goal.returns-in-Ok-clause-answer
returns-in-Ok-clause-answer c =
    let accepts = rw (← c.self.view_is) at c.requires.accepts in
    let j = c.self.inside in
    rw (← c.self.view_is)
    (λ before a.
    c.from_vec.ensures
    ∙ answer-is j.within j.sides.keys j.width c.args.k before c.args.inputs.now j.sides.left j.sides.right c.in-Ok.rows.items a.below accepts.bucket a.left a.right c.in-Ok.ensures.rows)

pub returns-in-Ok-clause-inside : goal.returns-in-Ok-clause-inside
returns-in-Ok-clause-inside c =
    let accepts = rw (← c.self.view_is) at c.requires.accepts in
    let next = rw (← c.self.view_is) at c.requires.next in
    let j = c.self.inside in
    let k = c.args.k in
    let left : can_all_wait j.within (k * j.width) j.sides.left ≡ true = rw next c.self.invariant.0 in
    let right : can_all_wait j.within (k * j.width) j.sides.right ≡ true = rw next c.self.invariant.1 in
    rw (← c.self.view_is, c.from_vec.ensures) (answer-inside j.within j.sides.keys j.width k c.args.inputs.now j.sides.left j.sides.right c.in-Ok.rows.items left right accepts.bucket c.in-Ok.ensures.rows)

pub returns-in-Ok-clause-after : goal.returns-in-Ok-clause-after
returns-in-Ok-clause-after c =
    let accepts = rw (← c.self.view_is) at c.requires.accepts in
    let j = c.self.inside in
    let k = c.args.k in
    rw (← c.self.view_is)
    (λ before a. record {
      next = refl;
      below = LiesBelow-next j.width k before c.args.inputs.now a.below accepts.bucket.inside;
      left = kept-next j.within j.width k 0 before c.args.inputs.now j.sides.left c.advance.new.self.left a.left c.in-Ok.ensures.left;
      right = kept-next j.within j.width k 1 before c.args.inputs.now j.sides.right c.advance.new.self.right a.right c.in-Ok.ensures.right;
    })
