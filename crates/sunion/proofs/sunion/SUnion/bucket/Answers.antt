use Rattle.std.proofs.Common.{◌≤◌, ◌∙◌, sym, subst, ap, List}
use Rattle.dpc_model.specs.Fragments.{serial}
use Rattle.dpc_model.specs.PartStands.{InletValue}
use Rattle.sunion.specs.Ports.{bucket_of, KeptInOrder}
use Rattle.sunion.specs.Values.{SUnionValue}
use Rattle.sunion.specs.Unions.{StandsForInputs, bucket_in}
use Rattle.sunion.specs.contracts.sunion.SUnion.{the_view}
use Rattle.sunion.proofs.Known.{bucket-is}
use Rattle.sunion.proofs.sunion.SUnion.bucket.Goals as goal

pub returns : goal.returns
returns c = λ x h o.
    let v = the_view c.self.inside in
    let old = subst (λ (w : SUnionValue). StandsForInputs w x) (sym c.self.view_is) h in
    let low : v.union.cursor ≤ c.args.k = subst (λ (w : SUnionValue). w.union.cursor ≤ c.args.k) (sym c.self.view_is) c.requires.from in
    let all = bucket-is v x c.args.k low old o in
    let kept = subst KeptInOrder (sym c.as_slice.ensures.value) all.0 in
    c.in_ok-tagged.ensures kept ∙ ap (λ (is : List InletValue). serial (bucket_of v.width c.args.k is)) c.as_slice.ensures.value ∙ all.1
    ∙ ap (λ (w : SUnionValue). bucket_in w.width x c.args.k) c.self.view_is
