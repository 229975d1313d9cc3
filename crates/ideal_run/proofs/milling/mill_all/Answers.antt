use Rattle.std.proofs.Common.{◌≡◌, ◌∙◌, ◌+◌, ◌<◌, length, ap, sym, subst, refl, arith}
use Rattle.std.proofs.lemmas.Option.{slice_get_read}
use Rattle.std.proofs.lemmas.List.{length-set}
use Rattle.dpc_model.specs.declared.plans.StreamRef.TheVariants.{Frag}
use Rattle.ideal_run.specs.Buckets.{bucket_of, buckets_before, IsMillOf}
use Rattle.ideal_run.proofs.Mills.{length-buckets, buckets-more, upto-none, upto-more, upto-here, upto-all}
use Rattle.ideal_run.proofs.milling.mill_all.Goals as goal

pub loop-frag-init : goal.loop-frag-init
loop-frag-init c = record { outputs = c.in_ok-outputs.ensures.items; long = refl; mills = upto-none c.args.plan.now c.args.k c.args.mills.now.items c.requires.mills }

-- the first ones gave these
given : (c : goal.After-as_slice) → c.as_slice.result.now ≡ buckets_before c.args.plan.now c.args.k c.loop-frag.frag
given c = c.as_slice.ensures.value ∙ c.loop-frag.invariant.outputs

many : (c : goal.After-as_slice) → length c.as_slice.result.now ≡ c.loop-frag.frag
many c = ap length (given c) ∙ length-buckets c.args.plan.now c.args.k c.loop-frag.frag

-- the mill whose turn it is
here : (c : goal.After-as_slice) → IsMillOf c.args.plan.now c.args.k c.loop-frag.frag c.index_mut.result.now
here c =
    let turn = c.loop-frag-test.true in
    let long = c.loop-frag.invariant.long in
    let low : c.loop-frag.frag < length c.loop-frag.mills.items = omega (arith, turn, long, c.len-frag-end.ensures, c.loop-frag.auto.frag-end) in
    upto-here c.args.plan.now c.args.k c.loop-frag.frag c.loop-frag.mills.items c.index_mut.result.now c.loop-frag.invariant.mills
    (slice_get_read c.loop-frag.mills.items (length c.loop-frag.mills.items) c.loop-frag.frag c.index_mut.result.now refl low c.index_mut.ensures.value)

pub mill_bucket-requires-clause-frag : goal.mill_bucket-requires-clause-frag
mill_bucket-requires-clause-frag c =
    let count = many c in
    let turn = c.loop-frag-test.true in
    let few = c.requires.few in
    omega (arith, count, turn, few, c.len-frag-end.ensures, c.loop-frag.auto.frag-end)

pub mill_bucket-requires-clause-outputs : goal.mill_bucket-requires-clause-outputs
mill_bucket-requires-clause-outputs c = given c ∙ ap (λ n. buckets_before c.args.plan.now c.args.k n) (sym (many c))

pub mill_bucket-requires-clause-mill : goal.mill_bucket-requires-clause-mill
mill_bucket-requires-clause-mill c = subst (λ n. IsMillOf c.args.plan.now c.args.k n c.index_mut.result.now) (sym (many c)) (here c)

pub loop-frag-preserved : goal.loop-frag-preserved
loop-frag-preserved c =
    let plan = c.args.plan.now in
    let k = c.args.k in
    let many : length c.as_slice.result.now ≡ c.loop-frag.frag =
    ap length (c.as_slice.ensures.value ∙ c.loop-frag.invariant.outputs) ∙ length-buckets plan k c.loop-frag.frag in
    let output = c.in_ok-output.ensures.output ∙ ap (λ n. bucket_of plan k (Frag n)) many in
    record {
      outputs = c.in_ok-push.ensures.items ∙ buckets-more plan k c.loop-frag.frag c.loop-frag.outputs.items c.in_ok-output.output c.loop-frag.invariant.outputs output;
      long = length-set c.loop-frag.mills.items c.loop-frag.frag c.mill_bucket.new.mill ∙ c.loop-frag.invariant.long;
      mills = upto-more plan k c.loop-frag.frag c.loop-frag.mills.items c.mill_bucket.new.mill c.loop-frag.invariant.mills
          (subst (λ n. IsMillOf plan (k + 1) n c.mill_bucket.new.mill) many c.in_ok-output.ensures.after);
    }

pub returns-clause-after : goal.returns-clause-after
returns-clause-after c =
    let long = c.loop-frag.invariant.long in
    let end = c.loop-frag-test.false in
    upto-all c.args.plan.now c.args.k c.loop-frag.frag c.loop-frag.mills.items (omega (arith, long, end, c.len-frag-end.ensures, c.loop-frag.auto.frag-end)) c.loop-frag.invariant.mills
