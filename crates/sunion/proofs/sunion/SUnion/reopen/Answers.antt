use Rattle.std.proofs.Common.{◌<◌, ◌∙◌, List, length, ap, sym, subst}
use Rattle.dpc_lists.proofs.Elements.{set-changed}
use Rattle.dpc_model.specs.Inlets.{with_next_session}
use Rattle.dpc_model.specs.PartStands.{InletValue}
use Rattle.sunion.specs.Values.{SUnionValue}
use Rattle.sunion.specs.Unions.{StandsForInputs, with_inlet_state}
use Rattle.sunion.specs.contracts.sunion.SUnion.{the_view}
use Rattle.sunion.proofs.Standing.{reopen-told}
use Rattle.sunion.proofs.sunion.SUnion.reopen.Goals as goal

pub returns-clause-after : goal.returns-clause-after
returns-clause-after c =
    let low = subst (λ (v : SUnionValue). c.args.port < length v.union.inlets) (sym c.self.view_is) c.requires.inside in
    let f : InletValue → InletValue = λ i. record i { state = with_next_session i.state } in
    let set = set-changed c.self.inside.ports.items c.args.port f c.index_mut.result.now c.reopen.new.self low c.index_mut.ensures.value c.reopen.ensures.after in
    ap (λ (is : List InletValue). record (the_view c.self.inside) { union = record (the_view c.self.inside).union { inlets = is } }) set
    ∙ ap (λ (v : SUnionValue). with_inlet_state c.args.port with_next_session v) c.self.view_is

pub returns-clause-asked : goal.returns-clause-asked
returns-clause-asked c = λ x h.
    let old = subst (λ (v : SUnionValue). StandsForInputs v x) (sym c.self.view_is) h in
    let low = subst (λ (v : SUnionValue). c.args.port < length v.union.inlets) (sym c.self.view_is) c.requires.inside in
    reopen-told (the_view c.self.inside) x c.args.port c.index_mut.result.now c.reopen.result low c.index_mut.ensures.value c.reopen.ensures.asked old
