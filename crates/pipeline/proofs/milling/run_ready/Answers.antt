use Rattle.std.proofs.Common.{◌≡◌, ◌+◌, ◌*◌, ◌^◌, ◌<◌, ◌∙◌, ℕ, ap, subst, arith}
use Rattle.dpc_model.specs.Parts.{processed}
use Rattle.sunion.specs.Unions.{bucket_in}
use Rattle.law_buckets.specs.Series.{buckets_from}
use Rattle.pipeline.specs.Running.{HasRun}
use Rattle.pipeline.proofs.Ranges.{ends-below}
use Rattle.pipeline.proofs.Work.{next-run, fits-run, run-next}
use Rattle.pipeline.proofs.milling.run_ready.Goals as goal

pub run-requires-clause-next : goal.run-requires-clause-next
run-requires-clause-next c =
    let r = c.requires in
    let u = c.args.inputs.now in
    let next = next-run r.0 u.width c.loop-i.keeper.keeper.state (processed u.width r.1) r.1 r.1.cursor c.loop-i.i c.loop-i.added.items (c.loop-i.invariant.ran r.0 r.1 r.2 r.3) in
    let first = c.cursor-first.ensures in
    let cursor = r.2.ports.cursor in
    omega (arith, next, first, cursor)

pub run-requires-clause-fits : goal.run-requires-clause-fits
run-requires-clause-fits c =
    let r = c.requires in
    let u = c.args.inputs.now in
    let k = c.cursor-first.result + c.loop-i.i in
    let first = c.cursor-first.ensures in
    let cursor = r.2.ports.cursor in
    let low = c.loop-i-test.true in
    let end : (k + 1) * u.width < 2 ^ 64 = ends-below u.width (k + 1) (r.1.cursor + c.args.count) (2 ^ 64) (omega (arith, first, cursor, low)) r.3.end in
    let same : c.as_slice.result.now ≡ bucket_in u.width r.1 k = c.as_slice.ensures.value ∙ c.in_ok-bucket.ensures r.1 r.2.ports r.3.ordered in
    fits-run r.0 u.width k c.loop-i.keeper.keeper.state r.1 c.as_slice.result.now (c.loop-i.invariant.ran r.0 r.1 r.2 r.3).mill same end

pub loop-i-preserved : goal.loop-i-preserved
loop-i-preserved c = record {
  held = c.in_ok-run.ensures.held ∙ c.loop-i.invariant.held;
  ran = λ ops x h ready.
      let u = c.args.inputs.now in
      let i = c.loop-i.i in
      let k = c.cursor-first.result + i in
      let before = processed u.width x in
      let bucket = c.as_slice.result.now in
      let number : k ≡ x.cursor + i = ap (λ (n : ℕ). n + i) (c.cursor-first.ensures ∙ h.ports.cursor) in
      let same : bucket ≡ bucket_in u.width x k = c.as_slice.ensures.value ∙ c.in_ok-bucket.ensures x h.ports ready.ordered in
      run-next ops u.width k c.run.new.keeper.keeper.state before x x.cursor i bucket c.run.new.outputs.items same number
      (c.in_ok-run.ensures.ran ops u.width x.cursor before (buckets_from u.width x x.cursor i) (c.loop-i.invariant.ran ops x h ready));
}

pub returns-clause-ran : goal.returns-clause-ran
returns-clause-ran c = λ ops x h ready.
    let u = c.args.inputs.now in
    let all : c.loop-i.i ≡ c.args.count = omega arith in
    subst (λ (n : ℕ). HasRun ops u.width c.loop-i.keeper.keeper.state (processed u.width x) (buckets_from u.width x x.cursor n) x.cursor c.loop-i.added.items) all
    (c.loop-i.invariant.ran ops x h ready)
