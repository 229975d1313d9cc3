use Rattle.std.proofs.Common.{◌≡◌, ◌<◌, ◌∙◌, ℕ, length, refl, ap, sym, subst}
use Rattle.std.specs.Prelude.{replicate, if◌then◌else◌}
use Rattle.dpc_model.specs.Sessions.{no_session, opening_session}
use Rattle.dpc_model.specs.declared.plans.FragSpec.{FragSpec}
use Rattle.dpc_model.specs.PartStands.{StandsForPorts}
use Rattle.dpc_model.proofs.FragmentValues.{frag-is}
use Rattle.sunion.specs.Values.{SUnionValue}
use Rattle.sunion.specs.Laws.{new_inputs}
use Rattle.sunion.specs.Unions.{new_union}
use Rattle.sunion.proofs.Lawful.{start-stands}
use Rattle.pipeline.specs.Flowing.{IsMillOf}
use Rattle.pipeline.proofs.Begun.{sound-at, begins}
use Rattle.pipeline.proofs.pipeline.Pipeline.open.Goals as goal

pub returns-clause-stands : goal.returns-clause-stands
returns-clause-stands c = λ f e.
    let plan = c.args.plan.now in
    let frags = plan.frags in
    let spec = c.index-as_slice-frag.result in
    let u = c.in_ok-inputs.inputs in
    let k = c.in_ok-keeper.keeper in
    let at = rw c.as_slice.ensures at c.index-as_slice-frag.is in
    let same : spec ≡ f = at ∙ frag-is frags c.args.frag spec f e in
    let ports : c.len-ports.result ≡ length f.inputs = c.len-ports.ensures ∙ ap (λ (g : FragSpec). length g.inputs) same in
    let is : u ≡ new_union (length f.inputs) plan.width plan.end c.unwrap_or-delay.result 1 =
    c.in_ok-inputs.ensures ∙ ap (λ (n : ℕ). new_union n plan.width plan.end c.unwrap_or-delay.result 1) ports in
    let stood : StandsForPorts u.width u.union (new_inputs (length f.inputs) 1) =
    subst (λ (v : SUnionValue). StandsForPorts v.width v.union (new_inputs (length f.inputs) 1)) (sym is) (start-stands.0 (length f.inputs) plan.width plan.end c.unwrap_or-delay.result 1) in
    let wide : u.width ≡ plan.width = ap (λ (v : SUnionValue). v.width) is in
    let mill = subst (λ (w : ℕ). IsMillOf f.ops w k.keeper.state) (sym wide) (c.in_ok-keeper.ensures.made f e) in
    begins f.ops u k c.in_ok-output.output plan.passing (new_inputs (length f.inputs) 1) (replicate c.args.readers (if c.args.serves then opening_session else no_session)) (replicate c.args.readers (0, 0))
    (sound-at frags c.args.frag f c.requires.sound e) (subst (λ (w : ℕ). 0 < w) (sym wide) c.requires.width) stood mill c.in_ok-keeper.ensures.held c.in_ok-keeper.ensures.after refl refl c.in_ok-output.ensures
