use Rattle.std.proofs.Common.{rules, ◌≡◌, ◌<◌, ◌-◌, ◌/◌, ◌∙◌, sym, subst, ap, length, ℕ, List, slice_index_or}
use Rattle.dpc_model.specs.PartStands.{InletValue}
use Rattle.sunion.specs.Ports.{least_over, complete_at}
use Rattle.sunion.specs.Values.{SUnionValue}
use Rattle.sunion.specs.Unions.{StandsForInputs, complete_upto_in}
use Rattle.sunion.specs.contracts.sunion.SUnion.{the_view}
use Rattle.sunion.proofs.Known.{complete-first}
use Rattle.sunion.proofs.sunion.SUnion.ready.Goals as goal

pub returns : goal.returns
returns c = λ x h.
    let v = the_view c.self.inside in
    let old = subst (λ (w : SUnionValue). StandsForInputs w x) (sym c.self.view_is) h in
    let p = c.in-Some.first.now in
    let some : 0 < length v.union.inlets = search rules in
    let here : p ≡ slice_index_or v.union.inlets 0 p = search rules in
    let complete = complete-first v x p old some here in
    let same : c.count_complete.result ≡ complete_upto_in c.args.self.now.width x =
    c.count_complete.ensures
    ∙ ap (λ (is : List InletValue). least_over (complete_at v.width) (c.bound.result / v.width) is) c.as_slice.ensures.value
    ∙ ap (λ (n : ℕ). least_over (complete_at v.width) (n / v.width) v.union.inlets) c.bound.ensures
    ∙ sym complete ∙ ap (λ (w : SUnionValue). complete_upto_in w.width x) c.self.view_is in
    let cursor : c.self.inside.cursor ≡ x.cursor = old.cursor in
    c.saturating_sub.ensures ∙ ap (λ (n : ℕ). n - c.self.inside.cursor) same ∙ ap (λ (n : ℕ). complete_upto_in c.args.self.now.width x - n) cursor
