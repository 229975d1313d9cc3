use Rattle.std.proofs.Common.{◌≡◌, ◌+◌, ◌*◌, ◌^◌, ◌<◌, ◌∙◌, ℕ, List, [], refl, ap, sym, subst, arith, append-nil}
use Rattle.dpc_model.specs.Parts.{frontier_of, processed_and_closed}
use Rattle.dpc_model.specs.PartStands.{KeeperValue, StandsForPorts}
use Rattle.dpc_model.specs.declared.tuples.Tagged.{Tagged}
use Rattle.dpc_model.specs.declared.tuples.Tuple.{Tuple}
use Rattle.fragment_mill.specs.Mills.{MillState}
use Rattle.sunion.specs.Values.{SUnionValue}
use Rattle.dpc_model.specs.Engines.{FitsBucket}
use Rattle.law_buckets.specs.Series.{buckets_from, after_closing_all}
use Rattle.pipeline.specs.Running.{HasRun}
use Rattle.pipeline.proofs.Work.{next-run, fits-run, run-next, view-run, ports-more, work-closed, view-number, view-is, closed-bucket, can-end, can-number}
use Rattle.pipeline.proofs.closing.close_some.Goals as goal

pub loop-i-init : goal.loop-i-init
loop-i-init c =
    let u = c.args.inputs.now in
    let k = c.args.keeper.now in
    let held = c.in_ok-hold.ensures in
    record {
      setting = record { width = refl; buckets = refl; delay = refl };
      held = ap (λ (s : KeeperValue MillState). s.held) held;
      ports = λ x h. subst (λ (cs : List (List Tagged)). StandsForPorts u.width u.union (record x { closed = cs })) (sym (append-nil x.closed)) h;
      ran = λ ops x h can.
          subst (λ (m : MillState). HasRun ops u.width m (processed_and_closed u.width x) [] (frontier_of x) c.new-added.result.items) (sym (ap (λ (s : KeeperValue MillState). s.state) held))
          (subst (λ (ts : List Tuple). HasRun ops u.width k.keeper.state (processed_and_closed u.width x) [] (frontier_of x) ts) (sym c.new-added.ensures.items) (view-run ops u k x h));
    }

pub overflow_add-k : goal.overflow_add-k
overflow_add-k c =
    let r = c.requires.stands in
    let u = c.args.inputs.now in
    let number = view-number c.loop-i.inputs r.1 u.width c.loop-i._i (c.loop-i.invariant.ports r.1 r.2.ports) in
    let small = can-number r.0 u c.args.keeper.now r.1 c.args.count c.loop-i._i r.2 r.3 c.loop-i-test.true in
    let cursor = c.cursor.ensures in
    let closed = c.closed.ensures in
    omega (arith, number, small, cursor, closed)

pub close-requires : goal.close-requires
close-requires c =
    let r = c.requires.stands in
    let u = c.args.inputs.now in
    let v = c.loop-i.inputs in
    let number = view-number v r.1 u.width c.loop-i._i (c.loop-i.invariant.ports r.1 r.2.ports) in
    let end = can-end r.0 u c.args.keeper.now r.1 c.args.count c.loop-i._i r.2 r.3 c.loop-i-test.true in
    record {
      range =
          subst (λ (n : ℕ). (n + 1) * v.width < 2 ^ 64) (sym number)
          (subst (λ (w : ℕ). (frontier_of r.1 + c.loop-i._i + 1) * w < 2 ^ 64) (sym c.loop-i.invariant.setting.width) end);
    }

pub run-requires-clause-next : goal.run-requires-clause-next
run-requires-clause-next c =
    let r = c.requires.stands in
    let u = c.args.inputs.now in
    let i = c.loop-i._i in
    let number = view-number c.loop-i.inputs r.1 u.width i (c.loop-i.invariant.ports r.1 r.2.ports) in
    let next =
    next-run r.0 u.width c.loop-i.keeper.keeper.state (processed_and_closed u.width r.1) r.1 (frontier_of r.1) i c.loop-i.added.items (c.loop-i.invariant.ran r.0 r.1 r.2 r.3) in
    let cursor = c.cursor.ensures in
    let closed = c.closed.ensures in
    omega (arith, number, next, cursor, closed)

pub run-requires-clause-range : goal.run-requires-clause-range
run-requires-clause-range c =
    let r = c.requires.stands in
    let u = c.args.inputs.now in
    let number = view-number c.loop-i.inputs r.1 u.width c.loop-i._i (c.loop-i.invariant.ports r.1 r.2.ports) in
    let small = can-number r.0 u c.args.keeper.now r.1 c.args.count c.loop-i._i r.2 r.3 c.loop-i-test.true in
    let cursor = c.cursor.ensures in
    let closed = c.closed.ensures in
    omega (arith, number, small, cursor, closed)

pub run-requires-clause-fits : goal.run-requires-clause-fits
run-requires-clause-fits c =
    let r = c.requires.stands in
    let u = c.args.inputs.now in
    let i = c.loop-i._i in
    let x = r.1 in
    let ports = c.loop-i.invariant.ports x r.2.ports in
    let k = c.cursor.result + c.closed.result in
    let number : k ≡ frontier_of x + i = view-is c.loop-i.inputs x u.width i k c.cursor.result c.closed.result c.cursor.ensures c.closed.ensures refl ports in
    let same = c.as_slice.ensures.value ∙ closed-bucket c.loop-i.inputs x u.width i c.in_ok-bucket.bucket.items c.loop-i.invariant.setting.width (c.in_ok-bucket.ensures.bucket (after_closing_all u.width i x) ports r.3.ordered) in
    let end = can-end r.0 u c.args.keeper.now x c.args.count i r.2 r.3 c.loop-i-test.true in
    subst (λ (n : ℕ). FitsBucket c.loop-i.keeper.keeper.state.width n c.as_slice.result.now) (sym number)
    (fits-run r.0 u.width (frontier_of x + i) c.loop-i.keeper.keeper.state x c.as_slice.result.now (c.loop-i.invariant.ran r.0 x r.2 r.3).mill same end)

pub loop-i-preserved : goal.loop-i-preserved
loop-i-preserved c =
    let u = c.args.inputs.now in
    let i = c.loop-i._i in
    record {
      setting = record {
        width = ap (λ (t : SUnionValue). t.width) c.in_ok-bucket.ensures.after ∙ c.loop-i.invariant.setting.width;
        buckets = ap (λ (t : SUnionValue). t.buckets) c.in_ok-bucket.ensures.after ∙ c.loop-i.invariant.setting.buckets;
        delay = ap (λ (t : SUnionValue). t.delay) c.in_ok-bucket.ensures.after ∙ c.loop-i.invariant.setting.delay;
      };
      held = c.in_ok-run.ensures.held ∙ c.loop-i.invariant.held;
      ports = λ x h. ports-more c.close.new.self c.loop-i.inputs x u.width i c.loop-i.invariant.setting.width c.in_ok-bucket.ensures.after (c.loop-i.invariant.ports x h);
      ran = λ ops x h can.
          let before = processed_and_closed u.width x in
          let bucket = c.as_slice.result.now in
          let same = c.as_slice.ensures.value ∙ closed-bucket c.loop-i.inputs x u.width i c.in_ok-bucket.bucket.items c.loop-i.invariant.setting.width (c.in_ok-bucket.ensures.bucket (after_closing_all u.width i x) (c.loop-i.invariant.ports x h.ports) can.ordered) in
          run-next ops u.width (frontier_of x + i) c.run.new.keeper.keeper.state before x (frontier_of x) i bucket c.run.new.outputs.items same refl
          (c.in_ok-run.ensures.ran ops u.width (frontier_of x) before (buckets_from u.width x (frontier_of x) i) (c.loop-i.invariant.ran ops x h can));
    }

pub returns-clause-closed : goal.returns-clause-closed
returns-clause-closed c = λ ops x h can.
    let u = c.args.inputs.now in
    let k = c.args.keeper.now in
    let v = c.loop-i.inputs in
    let all : c.loop-i._i ≡ c.args.count = omega arith in
    let ports = subst (λ (n : ℕ). StandsForPorts v.width v.union (after_closing_all u.width n x)) all (c.loop-i.invariant.ports x h.ports) in
    let run =
    subst (λ (n : ℕ). HasRun ops u.width c.loop-i.keeper.keeper.state (processed_and_closed u.width x) (buckets_from u.width x (frontier_of x) n) (frontier_of x) c.loop-i.added.items) all
    (c.loop-i.invariant.ran ops x h can) in
    work-closed ops u v k c.loop-i.keeper x c.args.count c.loop-i.added.items c.requires.some c.loop-i.invariant.setting.width ports c.loop-i.invariant.held h can run
