use Rattle.std.proofs.Common.{◌≡◌, ◌+◌, ◌-◌, ◌*◌, ◌^◌, ◌<◌, ◌∙◌, ◌&&◌, ℕ, List, Some, None, nat_lt, false, refl, ap, sym, subst, arith}
use Rattle.std.specs.Prelude.{if◌then◌else◌}
use Rattle.dpc_model.specs.declared.tuples.Tuple.{Tuple}
use Rattle.sunion.specs.Unions.{after_advancing}
use Rattle.law_buckets.specs.Series.{CanClose}
use Rattle.pipeline.specs.Flowing.{PipelineValue, count_upto, CanProcess, IsProcessedTo, IsSetAs}
use Rattle.pipeline.specs.Running.{CanAdvance, HasAdvanced, HasClosed}
use Rattle.pipeline.specs.contracts.pipeline.Pipeline.{the_view}
use Rattle.pipeline.proofs.Wholes.{same-then, data-work, cursor-time, count-is, ready-in, stably-is, process-can, processed-upto}
use Rattle.pipeline.proofs.pipeline.Pipeline.process_upto.Goals as goal

pub overflow_mul-bound : goal.overflow_mul-bound
overflow_mul-bound c =
    let q = c.requires in
    let p = c.self.inside in
    let w = p.inputs.width in
    let ops = q.0 in
    let x = q.1 in
    let can = subst (λ (v : PipelineValue). CanProcess ops v x q.2 c.args.last) (sym c.self.view_is) q.3 in
    let r = c.min-ready.result in
    let count = c.args.last + 1 - (c.cursor.result + c.closed.result) in
    let all = count-is ops (the_view p) x q.2 c.args.last c.cursor.result c.closed.result can.stands c.cursor.ensures c.closed.ensures in
    let few = stably-is w c.args.last x r count c.ready.result c.min-ready.ensures all (ready-in ops x q.2 (the_view p) c.args.self.now c.ready.result c.self.view_is c.ready.ensures can.stands) in
    let able : CanAdvance w x r = subst (λ (n : ℕ). CanAdvance w x n) (sym few) (process-can ops (the_view p) x q.2 c.args.last can) in
    let advanced = c.in_ok-stable.ensures.advanced ops x (data-work ops (the_view p) x q.2 can.stands) able in
    let time = cursor-time ops c.advance.new.inputs c.advance.new.keeper w x r c.cursor-2.result c.width.result c.in_ok-stable.stable.items advanced c.in_ok-stable.ensures.setting.width c.cursor-2.ensures c.width.ensures in
    let small : c.cursor-2.result * c.width.result < 2 ^ 64 = subst (λ (n : ℕ). n < 2 ^ 64) (sym time) able.end in
    omega (arith, small)

pub close-requires : goal.close-requires
close-requires c =
    let q = c.requires in
    let p = c.self.inside in
    let w = p.inputs.width in
    let u = c.advance.new.inputs in
    let ops = q.0 in
    let x = q.1 in
    let can = subst (λ (v : PipelineValue). CanProcess ops v x q.2 c.args.last) (sym c.self.view_is) q.3 in
    let r = c.min-ready.result in
    let count = c.args.last + 1 - (c.cursor.result + c.closed.result) in
    let all = count-is ops (the_view p) x q.2 c.args.last c.cursor.result c.closed.result can.stands c.cursor.ensures c.closed.ensures in
    let few = stably-is w c.args.last x r count c.ready.result c.min-ready.ensures all (ready-in ops x q.2 (the_view p) c.args.self.now c.ready.result c.self.view_is c.ready.ensures can.stands) in
    let able : CanAdvance w x r = subst (λ (n : ℕ). CanAdvance w x n) (sym few) (process-can ops (the_view p) x q.2 c.args.last can) in
    let advanced = c.in_ok-stable.ensures.advanced ops x (data-work ops (the_view p) x q.2 can.stands) able in
    let closing : CanClose w (after_advancing r x) (count - r) =
    subst (λ (n : ℕ). CanClose w (after_advancing r x) (n - r)) (sym all)
    (subst (λ (n : ℕ). CanClose w (after_advancing n x) (count_upto c.args.last x - n)) (sym few) can.closing) in
    (ops, after_advancing r x, advanced.stands, subst (λ (n : ℕ). CanClose n (after_advancing r x) (count - r)) (sym c.in_ok-stable.ensures.setting.width) closing)

pub returns-clause-fixed : goal.returns-clause-fixed
returns-clause-fixed c =
    let p = c.self.inside in
    subst (λ (v : PipelineValue). IsSetAs v (record { union = c.close.new.inputs; keeper = c.close.new.keeper; output = c.give.new.output; passing = p.passing })) c.self.view_is
    (record { inputs = same-then p.inputs c.advance.new.inputs c.close.new.inputs c.in_ok-stable.ensures.setting c.in_ok-tentative.ensures.setting; marks = refl })

pub returns-clause-processed : goal.returns-clause-processed
returns-clause-processed c = λ ops x o h.
    let p = c.self.inside in
    let w = p.inputs.width in
    let u = c.advance.new.inputs in
    let k = c.advance.new.keeper in
    let v = c.close.new.inputs in
    let n = c.close.new.keeper in
    let last = c.args.last in
    let told = c.in_ok-sends.sends.items in
    let can = subst (λ (v : PipelineValue). CanProcess ops v x o last) (sym c.self.view_is) h in
    let r = c.min-ready.result in
    let count = last + 1 - (c.cursor.result + c.closed.result) in
    let all = count-is ops (the_view p) x o last c.cursor.result c.closed.result can.stands c.cursor.ensures c.closed.ensures in
    let few = stably-is w last x r count c.ready.result c.min-ready.ensures all (ready-in ops x o (the_view p) c.args.self.now c.ready.result c.self.view_is c.ready.ensures can.stands) in
    let able : CanAdvance w x r = subst (λ (j : ℕ). CanAdvance w x j) (sym few) (process-can ops (the_view p) x o last can) in
    let advanced = c.in_ok-stable.ensures.advanced ops x (data-work ops (the_view p) x o can.stands) able in
    let closing : CanClose w (after_advancing r x) (count - r) =
    subst (λ (j : ℕ). CanClose w (after_advancing r x) (j - r)) (sym all)
    (subst (λ (j : ℕ). CanClose w (after_advancing j x) (count_upto last x - j)) (sym few) can.closing) in
    let closed = c.in_ok-tentative.ensures.closed ops (after_advancing r x) advanced.stands (subst (λ (j : ℕ). CanClose j (after_advancing r x) (count - r)) (sym c.in_ok-stable.ensures.setting.width) closing) in
    let given = subst (λ (ts : List Tuple). HasAdvanced ops u k w x r ts) (sym c.from_vec.ensures) advanced in
    let tentative = subst (λ (ts : List Tuple). HasClosed ops v n u.width (after_advancing r x) (count - r) ts) (sym c.from_vec-2.ensures) closed in
    let time = cursor-time ops u k w x r c.cursor-2.result c.width.result c.in_ok-stable.stable.items advanced c.in_ok-stable.ensures.setting.width c.cursor-2.ensures c.width.ensures in
    let wide : c.width-2.result ≡ w = c.width-2.ensures ∙ c.in_ok-tentative.ensures.setting.width ∙ c.in_ok-stable.ensures.setting.width in
    let bound = c.some_if.ensures ∙ ap (λ (j : ℕ). if nat_lt 0 r then Some j else None) time in
    let passed = c.told_upto.ensures ∙ ap (λ (j : ℕ). if p.passing && nat_lt r count then Some ((last + 1) * j) else None) wide in
    subst (λ (d : PipelineValue). IsProcessedTo ops d (record { union = v; keeper = n; output = c.give.new.output; passing = p.passing }) x o last told) c.self.view_is
    (processed-upto ops (the_view p) u v k n c.give.new.output x o last r count
    (record { stable = c.from_vec.result; bound = c.some_if.result; tentative = c.from_vec-2.result; passed = c.told_upto.result; done = false }) told can few all
    c.in_ok-stable.ensures.setting.width c.in_ok-tentative.ensures.setting.width given tentative bound passed refl c.in_ok-sends.ensures.sends c.in_ok-sends.ensures.after)
