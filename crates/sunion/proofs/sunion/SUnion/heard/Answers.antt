use Rattle.std.proofs.Common.{◌<◌, ◌∙◌, List, length, ap, sym, subst}
use Rattle.dpc_lists.proofs.Elements.{set-changed, nth-is}
use Rattle.dpc_lists.specs.Lists.{nth}
use Rattle.dpc_model.specs.Inlets.{after_tally, shows_loss}
use Rattle.dpc_model.specs.PartStands.{InletValue}
use Rattle.sunion.specs.Values.{SUnionValue}
use Rattle.sunion.specs.Unions.{no_value, with_inlet_state}
use Rattle.sunion.specs.contracts.sunion.SUnion.{the_view}
use Rattle.sunion.proofs.sunion.SUnion.heard.Goals as goal

pub returns-clause-after : goal.returns-clause-after
returns-clause-after c =
    let low = subst (λ (v : SUnionValue). c.args.port < length v.union.inlets) (sym c.self.view_is) c.requires.inside in
    let f : InletValue → InletValue = λ i. record i { state = after_tally i.state c.args.tally } in
    let set = set-changed c.self.inside.ports.items c.args.port f c.index_mut.result.now c.heard.new.self low c.index_mut.ensures.value c.heard.ensures.after in
    ap (λ (is : List InletValue). record (the_view c.self.inside) { union = record (the_view c.self.inside).union { inlets = is } }) set
    ∙ ap (λ (v : SUnionValue). with_inlet_state c.args.port (λ i. after_tally i c.args.tally) v) c.self.view_is

pub returns-clause-told : goal.returns-clause-told
returns-clause-told c =
    let low = subst (λ (v : SUnionValue). c.args.port < length v.union.inlets) (sym c.self.view_is) c.requires.inside in
    let here = nth-is no_value c.index_mut.result.now c.args.port c.self.inside.ports.items low c.index_mut.ensures.value in
    c.heard.ensures.told ∙ sym (ap (λ (i : InletValue). shows_loss i.state c.args.tally) here)
    ∙ ap (λ (v : SUnionValue). shows_loss (nth no_value v.union.inlets c.args.port).state c.args.tally) c.self.view_is
