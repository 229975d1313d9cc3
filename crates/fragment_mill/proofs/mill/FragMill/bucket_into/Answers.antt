use Rattle.std.proofs.Common.{◌≡◌, ◌+◌, ◌<◌, ◌≤◌, ◌++◌, length, List, ap, refl, subst, sym, ◌∙◌, arith}
use Rattle.std.proofs.lemmas.Grind.{common_steps}
use Rattle.dpc_model.specs.declared.tuples.Tuple.{Tuple}
use Rattle.dpc_model.proofs.Serial.{adjacent-serial}
use Rattle.ops_join.proofs.Givings.{takes-as, first-as, on-err}
use Rattle.dpc_model.specs.declared.tuples.Tagged.{Tagged}
use Rattle.ops_join.specs.RowsOut.{TakesFirst}
use Rattle.fragment_mill.specs.Mills.{MillState, MillAfter, mill_added}
use Rattle.fragment_mill.specs.Milling.{IsReady}
use Rattle.fragment_mill.specs.declared.mill.Stage.{Stage}
use Rattle.fragment_mill.proofs.mill.FragMill.bucket_into.Goals as goal
use Rattle.fragment_mill.proofs.Running.{Running, Running-none, Running-accepts, Running-next, Running-ready, Running-renewed, Running-more, Running-adds, Stood-more, Stood-after, Stood-done, IsReady-spent}

pub loop-i-init : goal.loop-i-init
loop-i-init g c =
    let mill = subst (λ (n : MillState). IsReady n) c.self.view_is c.self.invariant in
    let some : c.in-Some.last + 1 ≡ length c.self.inside.stages.items = grind (arith, common_steps) in
    let stages = ap (λ (n : MillState). n.stages) c.self.view_is in
    record {
      width = ap (λ (n : MillState). n.width) c.self.view_is;
      next = ap (λ (n : MillState). n.next) c.self.view_is;
      spent = refl;
      end = some ∙ ap (λ (ss : List Stage). length ss) stages;
      running =
          subst (λ (ss : List Stage). Running c.args.self.now c.args.inputs.now c.args.k 0 ss c.new-outputs.result.items) (sym stages)
          (subst (λ (outs : List (List Tuple)). Running c.args.self.now c.args.inputs.now c.args.k 0 c.args.self.now.stages outs) (sym c.new-outputs.ensures.items) (Running-none c.args.self.now c.args.inputs.now c.args.k mill.fits));
    }

pub bucket-requires-clause-next : goal.bucket-requires-clause-next
bucket-requires-clause-next g c =
    let mill = subst (λ (n : MillState). IsReady n) c.self.view_is c.self.invariant in
    let idle = ap (λ (n : MillState). n.spent) (sym c.self.view_is) ∙ c.if-self.false in
    let inside : c.loop-i.i < length c.args.self.now.stages = omega (arith, c.loop-i.invariant.end) in
    Running-next _ _ c.args.k c.loop-i.i c.index_mut.result.now _ _ mill idle c.requires.next c.requires.accepts c.loop-i.invariant.running inside c.index_mut.ensures.value

pub bucket-requires-clause-serial : goal.bucket-requires-clause-serial
bucket-requires-clause-serial g c =
    adjacent-serial c.args.inputs.now c.requires.accepts.bucket.ordered

pub bucket-requires-clause-accepts : goal.bucket-requires-clause-accepts
bucket-requires-clause-accepts g c =
    let mill = subst (λ (n : MillState). IsReady n) c.self.view_is c.self.invariant in
    let idle = ap (λ (n : MillState). n.spent) (sym c.self.view_is) ∙ c.if-self.false in
    let inside : c.loop-i.i < length c.args.self.now.stages = omega (arith, c.loop-i.invariant.end) in
    Running-accepts _ _ c.args.k c.loop-i.i c.index_mut.result.now _ _ mill idle c.requires.next c.requires.accepts c.loop-i.invariant.running inside c.index_mut.ensures.value

pub invariant_of-self-in_default-bucket : goal.invariant_of-self-in_default-bucket
invariant_of-self-in_default-bucket g c =
    let mill = subst (λ (n : MillState). IsReady n) c.self.view_is c.self.invariant in
    let idle = ap (λ (n : MillState). n.spent) (sym c.self.view_is) ∙ c.if-self.false in
    let inside : c.loop-i.i < length c.args.self.now.stages = omega (arith, c.loop-i.invariant.end) in
    let h = c.loop-i.invariant in
    let renewed = Running-renewed _ _ c.args.k c.loop-i.i c.index_mut.result.now _ _ mill idle c.requires.next c.requires.accepts c.loop-i.invariant.running inside c.index_mut.ensures.value c.bucket.new.self c.bucket.ensures.spec c.bucket.ensures.fits in
    IsReady-spent c.args.self.now.width _ h.width h.spent renewed.fits

pub returns-in_default-bucket-clause-operators : goal.returns-in_default-bucket-clause-operators
returns-in_default-bucket-clause-operators g c =
    let mill = subst (λ (n : MillState). IsReady n) c.self.view_is c.self.invariant in
    let idle = ap (λ (n : MillState). n.spent) (sym c.self.view_is) ∙ c.if-self.false in
    let inside : c.loop-i.i < length c.args.self.now.stages = omega (arith, c.loop-i.invariant.end) in
    let renewed = Running-renewed _ _ c.args.k c.loop-i.i c.index_mut.result.now _ _ mill idle c.requires.next c.requires.accepts c.loop-i.invariant.running inside c.index_mut.ensures.value c.bucket.new.self c.bucket.ensures.spec c.bucket.ensures.fits in
    renewed.specs

pub loop-i-preserved : goal.loop-i-preserved
loop-i-preserved g c =
    let mill = subst (λ (n : MillState). IsReady n) c.self.view_is c.self.invariant in
    let idle = ap (λ (n : MillState). n.spent) (sym c.self.view_is) ∙ c.if-self.false in
    let inside : c.loop-i.i < length c.args.self.now.stages = omega (arith, c.loop-i.invariant.end) in
    let h = c.loop-i.invariant in
    record {
      width = h.width;
      next = h.next;
      spent = h.spent;
      end = h.end;
      running = Running-more _ _ c.args.k c.loop-i.i c.index_mut.result.now _ _ mill idle c.requires.next c.requires.accepts c.loop-i.invariant.running inside c.index_mut.ensures.value c.bucket.new.self c.bucket.new.outputs.items c.in-Ok.ensures.added c.in-Ok.ensures.after c.in-Ok.ensures.idle c.in-Ok.ensures.next c.bucket.ensures.spec c.bucket.ensures.fits c.in-Ok.ensures.lies;
    }

pub bucket_into-requires-clause-next : goal.bucket_into-requires-clause-next
bucket_into-requires-clause-next g c =
    let mill = subst (λ (n : MillState). IsReady n) c.self.view_is c.self.invariant in
    let idle = ap (λ (n : MillState). n.spent) (sym c.self.view_is) ∙ c.if-self.false in
    let h = c.loop-i.invariant in
    let at_last : c.loop-i.i ≡ c.in-Some.last = omega (arith, c.loop-i-test.false, c.loop-i.auto.i-end) in
    let inside : c.loop-i.i < length c.args.self.now.stages = omega (arith, h.end, at_last) in
    let all : c.loop-i.i + 1 ≡ length c.args.self.now.stages = omega (arith, h.end, at_last) in
    let here = rw (← at_last) at c.index_mut-2.ensures.value in
    Running-next c.args.self.now c.args.inputs.now c.args.k c.loop-i.i c.index_mut-2.result.now c.loop-i.self-inside.stages.items c.loop-i.outputs.items mill idle c.requires.next c.requires.accepts h.running inside here

pub bucket_into-requires-clause-serial : goal.bucket_into-requires-clause-serial
bucket_into-requires-clause-serial g c =
    adjacent-serial c.args.inputs.now c.requires.accepts.bucket.ordered

pub bucket_into-requires-clause-accepts : goal.bucket_into-requires-clause-accepts
bucket_into-requires-clause-accepts g c =
    let mill = subst (λ (n : MillState). IsReady n) c.self.view_is c.self.invariant in
    let idle = ap (λ (n : MillState). n.spent) (sym c.self.view_is) ∙ c.if-self.false in
    let h = c.loop-i.invariant in
    let at_last : c.loop-i.i ≡ c.in-Some.last = omega (arith, c.loop-i-test.false, c.loop-i.auto.i-end) in
    let inside : c.loop-i.i < length c.args.self.now.stages = omega (arith, h.end, at_last) in
    let all : c.loop-i.i + 1 ≡ length c.args.self.now.stages = omega (arith, h.end, at_last) in
    let here = rw (← at_last) at c.index_mut-2.ensures.value in
    rw c.as_slice.ensures.value (Running-accepts c.args.self.now c.args.inputs.now c.args.k c.loop-i.i c.index_mut-2.result.now c.loop-i.self-inside.stages.items c.loop-i.outputs.items mill idle c.requires.next c.requires.accepts h.running inside here)

pub invariant_of-self-in_err-bucket_into : goal.invariant_of-self-in_err-bucket_into
invariant_of-self-in_err-bucket_into g c =
    let mill = subst (λ (n : MillState). IsReady n) c.self.view_is c.self.invariant in
    let idle = ap (λ (n : MillState). n.spent) (sym c.self.view_is) ∙ c.if-self.false in
    let h = c.loop-i.invariant in
    let at_last : c.loop-i.i ≡ c.in-Some.last = omega (arith, c.loop-i-test.false, c.loop-i.auto.i-end) in
    let inside : c.loop-i.i < length c.args.self.now.stages = omega (arith, h.end, at_last) in
    let all : c.loop-i.i + 1 ≡ length c.args.self.now.stages = omega (arith, h.end, at_last) in
    let here = rw (← at_last) at c.index_mut-2.ensures.value in
    let renewed = Running-renewed c.args.self.now c.args.inputs.now c.args.k c.loop-i.i c.index_mut-2.result.now c.loop-i.self-inside.stages.items c.loop-i.outputs.items mill idle c.requires.next c.requires.accepts h.running inside here c.bucket_into.new.self c.bucket_into.ensures.spec c.bucket_into.ensures.fits in
    IsReady-spent c.args.self.now.width _ h.width h.spent (rw at_last at renewed.fits)

pub returns-in_err-bucket_into-clause-first : goal.returns-in_err-bucket_into-clause-first
returns-in_err-bucket_into-clause-first g c =
    let mill = subst (λ (n : MillState). IsReady n) c.self.view_is c.self.invariant in
    let idle = ap (λ (n : MillState). n.spent) (sym c.self.view_is) ∙ c.if-self.false in
    let h = c.loop-i.invariant in
    let at_last : c.loop-i.i ≡ c.in-Some.last = omega (arith, c.loop-i-test.false, c.loop-i.auto.i-end) in
    let inside : c.loop-i.i < length c.args.self.now.stages = omega (arith, h.end, at_last) in
    let all : c.loop-i.i + 1 ≡ length c.args.self.now.stages = omega (arith, h.end, at_last) in
    let here = rw (← at_last) at c.index_mut-2.ensures.value in
    let first : (before : List Tagged) → MillAfter c.args.self.now before c.args.k → TakesFirst (g.R.RowSink.took c.args.sink.now c.args.out.now) (g.R.RowSink.took c.bucket_into.new.sink c.bucket_into.new.out) (mill_added c.args.self.now before c.args.inputs.now c.args.k) =
    λ before after.
    first-as (g.R.RowSink.took c.args.sink.now c.args.out.now) (g.R.RowSink.took c.bucket_into.new.sink c.bucket_into.new.out) _ _ (Running-adds c.args.self.now c.args.inputs.now c.args.k c.loop-i.i c.index_mut-2.result.now c.loop-i.self-inside.stages.items c.loop-i.outputs.items mill idle c.requires.next c.requires.accepts h.running inside here all before after)
    (rw c.as_slice.ensures.value at c.in_err-bucket_into.ensures.first _ (Running-ready c.args.self.now c.args.inputs.now c.args.k c.loop-i.i c.index_mut-2.result.now c.loop-i.self-inside.stages.items c.loop-i.outputs.items mill idle c.requires.next c.requires.accepts h.running inside here before after)) in
    on-err _ first

pub returns-in_err-bucket_into-clause-operators : goal.returns-in_err-bucket_into-clause-operators
returns-in_err-bucket_into-clause-operators g c =
    let mill = subst (λ (n : MillState). IsReady n) c.self.view_is c.self.invariant in
    let idle = ap (λ (n : MillState). n.spent) (sym c.self.view_is) ∙ c.if-self.false in
    let h = c.loop-i.invariant in
    let at_last : c.loop-i.i ≡ c.in-Some.last = omega (arith, c.loop-i-test.false, c.loop-i.auto.i-end) in
    let inside : c.loop-i.i < length c.args.self.now.stages = omega (arith, h.end, at_last) in
    let all : c.loop-i.i + 1 ≡ length c.args.self.now.stages = omega (arith, h.end, at_last) in
    let here = rw (← at_last) at c.index_mut-2.ensures.value in
    let renewed = Running-renewed c.args.self.now c.args.inputs.now c.args.k c.loop-i.i c.index_mut-2.result.now c.loop-i.self-inside.stages.items c.loop-i.outputs.items mill idle c.requires.next c.requires.accepts h.running inside here c.bucket_into.new.self c.bucket_into.ensures.spec c.bucket_into.ensures.fits in
    rw at_last at renewed.specs

pub invariant_of-self-2 : goal.invariant_of-self-2
invariant_of-self-2 g c =
    let mill = subst (λ (n : MillState). IsReady n) c.self.view_is c.self.invariant in
    let idle = ap (λ (n : MillState). n.spent) (sym c.self.view_is) ∙ c.if-self.false in
    let h = c.loop-i.invariant in
    let at_last : c.loop-i.i ≡ c.in-Some.last = omega (arith, c.loop-i-test.false, c.loop-i.auto.i-end) in
    let inside : c.loop-i.i < length c.args.self.now.stages = omega (arith, h.end, at_last) in
    let all : c.loop-i.i + 1 ≡ length c.args.self.now.stages = omega (arith, h.end, at_last) in
    let here = rw (← at_last) at c.index_mut-2.ensures.value in
    let stood = rw at_last at (Stood-more c.args.self.now c.args.inputs.now c.args.k c.loop-i.i c.index_mut-2.result.now c.loop-i.self-inside.stages.items c.loop-i.outputs.items mill idle c.requires.next c.requires.accepts h.running inside here c.bucket_into.new.self (rw c.as_slice.ensures.value at c.in_ok-bucket_into.ensures.after) c.in_ok-bucket_into.ensures.idle c.in_ok-bucket_into.ensures.next c.bucket_into.ensures.spec c.bucket_into.ensures.fits) in
    let done : length c.args.self.now.stages ≤ c.in-Some.last + 1 = omega (arith, all, at_last) in
    Stood-done _ _ c.args.k _ _ mill c.requires.accepts stood done _ h.width

pub returns-clause-rows : goal.returns-clause-rows
returns-clause-rows g c =
    let mill = subst (λ (n : MillState). IsReady n) c.self.view_is c.self.invariant in
    let idle = ap (λ (n : MillState). n.spent) (sym c.self.view_is) ∙ c.if-self.false in
    let h = c.loop-i.invariant in
    let at_last : c.loop-i.i ≡ c.in-Some.last = omega (arith, c.loop-i-test.false, c.loop-i.auto.i-end) in
    let inside : c.loop-i.i < length c.args.self.now.stages = omega (arith, h.end, at_last) in
    let all : c.loop-i.i + 1 ≡ length c.args.self.now.stages = omega (arith, h.end, at_last) in
    let here = rw (← at_last) at c.index_mut-2.ensures.value in
    λ before after.
    takes-as (g.R.RowSink.took c.args.sink.now c.args.out.now) (g.R.RowSink.took c.bucket_into.new.sink c.bucket_into.new.out) _ _ (Running-adds c.args.self.now c.args.inputs.now c.args.k c.loop-i.i c.index_mut-2.result.now c.loop-i.self-inside.stages.items c.loop-i.outputs.items mill idle c.requires.next c.requires.accepts h.running inside here all before after)
    (rw c.as_slice.ensures.value at c.in_ok-bucket_into.ensures.rows _ (Running-ready c.args.self.now c.args.inputs.now c.args.k c.loop-i.i c.index_mut-2.result.now c.loop-i.self-inside.stages.items c.loop-i.outputs.items mill idle c.requires.next c.requires.accepts h.running inside here before after))

pub returns-clause-after : goal.returns-clause-after
returns-clause-after g c =
    let mill = subst (λ (n : MillState). IsReady n) c.self.view_is c.self.invariant in
    let idle = ap (λ (n : MillState). n.spent) (sym c.self.view_is) ∙ c.if-self.false in
    let h = c.loop-i.invariant in
    let at_last : c.loop-i.i ≡ c.in-Some.last = omega (arith, c.loop-i-test.false, c.loop-i.auto.i-end) in
    let inside : c.loop-i.i < length c.args.self.now.stages = omega (arith, h.end, at_last) in
    let all : c.loop-i.i + 1 ≡ length c.args.self.now.stages = omega (arith, h.end, at_last) in
    let here = rw (← at_last) at c.index_mut-2.ensures.value in
    let stood = rw at_last at (Stood-more c.args.self.now c.args.inputs.now c.args.k c.loop-i.i c.index_mut-2.result.now c.loop-i.self-inside.stages.items c.loop-i.outputs.items mill idle c.requires.next c.requires.accepts h.running inside here c.bucket_into.new.self (rw c.as_slice.ensures.value at c.in_ok-bucket_into.ensures.after) c.in_ok-bucket_into.ensures.idle c.in_ok-bucket_into.ensures.next c.bucket_into.ensures.spec c.bucket_into.ensures.fits) in
    let done : length c.args.self.now.stages ≤ c.in-Some.last + 1 = omega (arith, all, at_last) in
    Stood-after _ _ c.args.k _ _ mill c.requires.accepts stood done _ h.width

pub returns-clause-operators : goal.returns-clause-operators
returns-clause-operators g c =
    let mill = subst (λ (n : MillState). IsReady n) c.self.view_is c.self.invariant in
    let idle = ap (λ (n : MillState). n.spent) (sym c.self.view_is) ∙ c.if-self.false in
    let h = c.loop-i.invariant in
    let at_last : c.loop-i.i ≡ c.in-Some.last = omega (arith, c.loop-i-test.false, c.loop-i.auto.i-end) in
    let inside : c.loop-i.i < length c.args.self.now.stages = omega (arith, h.end, at_last) in
    let all : c.loop-i.i + 1 ≡ length c.args.self.now.stages = omega (arith, h.end, at_last) in
    let here = rw (← at_last) at c.index_mut-2.ensures.value in
    let stood = rw at_last at (Stood-more c.args.self.now c.args.inputs.now c.args.k c.loop-i.i c.index_mut-2.result.now c.loop-i.self-inside.stages.items c.loop-i.outputs.items mill idle c.requires.next c.requires.accepts h.running inside here c.bucket_into.new.self (rw c.as_slice.ensures.value at c.in_ok-bucket_into.ensures.after) c.in_ok-bucket_into.ensures.idle c.in_ok-bucket_into.ensures.next c.bucket_into.ensures.spec c.bucket_into.ensures.fits) in
    let done : length c.args.self.now.stages ≤ c.in-Some.last + 1 = omega (arith, all, at_last) in
    stood.renewed.specs

pub returns-in_default-clause-after : goal.returns-in_default-clause-after
returns-in_default-clause-after g c = λ before after.
    let mill = subst (λ (n : MillState). IsReady n) c.self.view_is c.self.invariant in
    let m = c.args.self.now in
    let few : length c.self.inside.stages.items ≤ 0 = grind (arith, common_steps) in
    let none : length m.stages ≤ 0 = subst (λ (n : MillState). length n.stages ≤ 0) c.self.view_is few in
    let took = Stood-after m c.args.inputs.now c.args.k 0 m.stages mill c.requires.accepts (Running-none m c.args.inputs.now c.args.k mill.fits).stood none m.width refl before after in
    subst (λ (n : MillState). MillAfter (record { width = n.width; stages = n.stages; next = c.args.k + 1; spent = n.spent }) (before ++ c.args.inputs.now) (c.args.k + 1)) (sym c.self.view_is)
    (record { next = took.next; below = took.below; ordered = took.ordered; stages = took.stages })
