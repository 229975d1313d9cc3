use Rattle.std.proofs.Common.{◌≡◌, ◌*◌, true, refl}
use Rattle.ops_join.specs.Sides.{bucket_rows}
use Rattle.ops_join.specs.Saving.{can_all_wait}
use Rattle.dpc_model.specs.Fragments.{at_port}
use Rattle.dpc_model.proofs.Buckets.{LiesBelow-next, bucket-from}
use Rattle.dpc_model.proofs.Serial.{adjacent-ordered}
use Rattle.ops_join.proofs.Joining.{taken-ordered, answer-is, kept-next}
use Rattle.ops_join.proofs.Resumes.{IsKept-wait}
use Rattle.ops_join.proofs.Inside.{wait-next}
use Rattle.ops_join.proofs.Givings.{takes-as, first-as}
use Rattle.ops_join.proofs.join.Join.bucket_into.Goals as goal

pub advance_giving-requires-clause-after : goal.advance_giving-requires-clause-after
advance_giving-requires-clause-after g c =
    let accepts = rw (← c.self.view_is) at c.requires.accepts in
    let next = rw (← c.self.view_is) at c.requires.next in
    let j = c.self.inside in
    let left = IsKept-wait j.within (c.args.k * j.width) j.sides.left (rw next c.self.invariant.0) in
    let right = IsKept-wait j.within (c.args.k * j.width) j.sides.right (rw next c.self.invariant.1) in
    record {
      begin = c.args.k * j.width;
      left = left.below;
      right = right.below;
      inputs = bucket-from j.width c.args.k c.args.inputs.now accepts.bucket.inside;
      ordered = adjacent-ordered c.args.inputs.now accepts.bucket.ordered;
    }

pub advance_giving-requires-clause-left : goal.advance_giving-requires-clause-left
advance_giving-requires-clause-left g c =
    let accepts = rw (← c.self.view_is) at c.requires.accepts in
    let next = rw (← c.self.view_is) at c.requires.next in
    let j = c.self.inside in
    let kept = IsKept-wait j.within (c.args.k * j.width) j.sides.left (rw next c.self.invariant.0) in
    taken-ordered j.width c.args.k 0 j.sides.left c.args.inputs.now kept.order kept.below accepts.bucket

pub advance_giving-requires-clause-right : goal.advance_giving-requires-clause-right
advance_giving-requires-clause-right g c =
    let accepts = rw (← c.self.view_is) at c.requires.accepts in
    let next = rw (← c.self.view_is) at c.requires.next in
    let j = c.self.inside in
    let kept = IsKept-wait j.within (c.args.k * j.width) j.sides.right (rw next c.self.invariant.1) in
    taken-ordered j.width c.args.k 1 j.sides.right c.args.inputs.now kept.order kept.below accepts.bucket

pub invariant_of-self : goal.invariant_of-self
invariant_of-self g c =
    let accepts = rw (← c.self.view_is) at c.requires.accepts in
    let next = rw (← c.self.view_is) at c.requires.next in
    let j = c.self.inside in
    let k = c.args.k in
    let left : can_all_wait j.within (k * j.width) j.sides.left ≡ true = rw next c.self.invariant.0 in
    let right : can_all_wait j.within (k * j.width) j.sides.right ≡ true = rw next c.self.invariant.1 in (
      wait-next j.within j.width k 0 j.sides.left c.advance_giving.new.self.left c.args.inputs.now left accepts.bucket c.in-Ok.ensures.left,
      wait-next j.within j.width k 1 j.sides.right c.advance_giving.new.self.right c.args.inputs.now right accepts.bucket c.in-Ok.ensures.right,
    )

pub returns-in-Ok-clause-rows : goal.returns-in-Ok-clause-rows
returns-in-Ok-clause-rows g c =
    let accepts = rw (← c.self.view_is) at c.requires.accepts in
    let j = c.self.inside in
    rw (← c.self.view_is)
    (λ before a.
    takes-as (g.R.RowSink.took c.args.sink.now c.args.out.now) (g.R.RowSink.took c.advance_giving.new.sink c.advance_giving.new.out) _ _
    (answer-is j.within j.sides.keys j.width c.args.k before c.args.inputs.now j.sides.left j.sides.right (bucket_rows j.within j.sides.keys j.sides.left j.sides.right (at_port 0 c.args.inputs.now) (at_port 1 c.args.inputs.now)) a.below accepts.bucket a.left a.right refl)
    c.in-Ok.ensures.rows)

pub returns-in-Ok-clause-after : goal.returns-in-Ok-clause-after
returns-in-Ok-clause-after g c =
    let accepts = rw (← c.self.view_is) at c.requires.accepts in
    let j = c.self.inside in
    let k = c.args.k in
    rw (← c.self.view_is)
    (λ before a. record {
      next = refl;
      below = LiesBelow-next j.width k before c.args.inputs.now a.below accepts.bucket.inside;
      left = kept-next j.within j.width k 0 before c.args.inputs.now j.sides.left c.advance_giving.new.self.left a.left c.in-Ok.ensures.left;
      right = kept-next j.within j.width k 1 before c.args.inputs.now j.sides.right c.advance_giving.new.self.right a.right c.in-Ok.ensures.right;
    })

pub returns-in-Err-clause-first : goal.returns-in-Err-clause-first
returns-in-Err-clause-first g c =
    let accepts = rw (← c.self.view_is) at c.requires.accepts in
    let j = c.self.inside in
    rw (← c.self.view_is)
    (λ before a.
    first-as (g.R.RowSink.took c.args.sink.now c.args.out.now) (g.R.RowSink.took c.advance_giving.new.sink c.advance_giving.new.out) _ _
    (answer-is j.within j.sides.keys j.width c.args.k before c.args.inputs.now j.sides.left j.sides.right (bucket_rows j.within j.sides.keys j.sides.left j.sides.right (at_port 0 c.args.inputs.now) (at_port 1 c.args.inputs.now)) a.below accepts.bucket a.left a.right refl)
    c.in-Err.ensures.first)
