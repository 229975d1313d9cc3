use Rattle.std.proofs.Common.{◌<◌, ◌∙◌, List, length, ap, sym, subst}
use Rattle.dpc_lists.proofs.Elements.{set-changed}
use Rattle.dpc_model.specs.Inlets.{sess_of}
use Rattle.dpc_model.specs.PartStands.{InletValue}
use Rattle.sunion.specs.Values.{SUnionValue}
use Rattle.sunion.specs.Unions.{with_inlet_state}
use Rattle.sunion.specs.contracts.sunion.SUnion.{the_view}
use Rattle.sunion.proofs.sunion.SUnion.renumber.Goals as goal

pub returns : goal.returns
returns c =
    let low = subst (λ (v : SUnionValue). c.args.port < length v.union.inlets) (sym c.self.view_is) c.requires.inside in
    let f : InletValue → InletValue = λ i. record i { state = record i.state { sess = sess_of i.state.sess.inc c.args.number } } in
    let set = set-changed c.self.inside.ports.items c.args.port f c.index_mut.result.now c.renumber.new.self low c.index_mut.ensures.value c.renumber.ensures in
    ap (λ (is : List InletValue). record (the_view c.self.inside) { union = record (the_view c.self.inside).union { inlets = is } }) set
    ∙ ap (λ (v : SUnionValue). with_inlet_state c.args.port (λ i. record i { sess = sess_of i.sess.inc c.args.number }) v) c.self.view_is
