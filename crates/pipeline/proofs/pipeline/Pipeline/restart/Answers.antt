use Rattle.std.proofs.Common.{◌≡◌, ◌<◌, ◌∙◌, ℕ, length, refl, ap, sym, subst}
use Rattle.std.specs.Prelude.{replicate}
use Rattle.dpc_model.specs.Sessions.{no_session}
use Rattle.dpc_model.specs.declared.plans.FragSpec.{FragSpec}
use Rattle.dpc_model.proofs.FragmentValues.{frag-is}
use Rattle.sunion.specs.Values.{SUnionValue}
use Rattle.pipeline.specs.Flowing.{IsMillOf}
use Rattle.pipeline.specs.Recovery.{restarted_inputs}
use Rattle.pipeline.proofs.Begun.{sound-at, begins, restarted-ports}
use Rattle.pipeline.proofs.pipeline.Pipeline.restart.Goals as goal

pub returns-clause-stands : goal.returns-clause-stands
returns-clause-stands c = λ f e.
    let plan = c.args.plan.now in
    let frags = plan.frags in
    let spec = c.index-as_slice-frag.result in
    let u = c.in_ok-inputs.inputs in
    let k = c.in_ok-keeper.keeper in
    let inc = c.args.inc in
    let n = length f.inputs in
    let at = rw c.as_slice.ensures at c.index-as_slice-frag.is in
    let same : spec ≡ f = at ∙ frag-is frags c.args.frag spec f e in
    let ports : c.len.result ≡ n = c.len.ensures ∙ ap (λ (g : FragSpec). length g.inputs) same in
    let none : c.as_slice-counts.result.now ≡ replicate n 0 = c.as_slice-counts.ensures.value ∙ c.in_ok-counts.ensures ∙ ap (λ (m : ℕ). replicate m 0) ports in
    let stood = restarted-ports u plan.width plan.end c.unwrap_or-delay.result inc n c.as_slice-counts.result.now c.in_ok-inputs.ensures none in
    let wide : u.width ≡ plan.width = ap (λ (v : SUnionValue). v.width) c.in_ok-inputs.ensures in
    let mill = subst (λ (w : ℕ). IsMillOf f.ops w k.keeper.state) (sym wide) (c.in_ok-keeper.ensures.made f e) in
    begins f.ops u k c.in_ok-output.output plan.passing (restarted_inputs n inc) (replicate c.args.readers no_session) (replicate c.args.readers (0, 0))
    (sound-at frags c.args.frag f c.requires.sound e) (subst (λ (w : ℕ). 0 < w) (sym wide) c.requires.width) stood mill c.in_ok-keeper.ensures.held c.in_ok-keeper.ensures.after refl refl c.in_ok-output.ensures
