use Rattle.std.proofs.Common.{◌<◌, ◌∙◌, List, length, ap, sym, subst, Some, false}
use Rattle.dpc_lists.proofs.Elements.{set-changed}
use Rattle.dpc_lists.specs.Lists.{changed}
use Rattle.dpc_model.specs.PartStands.{OutputValue}
use Rattle.dpc_model.specs.declared.sessions.Sub.{Sub}
use Rattle.soutput.specs.contracts.output.SOutput.{the_view}
use Rattle.soutput.proofs.output.SOutput.renumber.Goals as goal

pub returns : goal.returns
returns c =
    let low = subst (λ (v : OutputValue). c.args.reader < length v.subs) (sym c.self.view_is) c.requires in
    let shut : Sub → Sub = λ _. record { kept = Some c.args.sess; is_open = false; batches = 0 } in
    let set = set-changed c.self.inside.sessions.items c.args.reader shut c.index_mut.result.now c.shut.result low c.index_mut.ensures.value c.shut.ensures in
    ap (λ (subs : List Sub). record (the_view c.self.inside) { subs = subs }) set
    ∙ ap (λ (v : OutputValue). record v { subs = changed c.args.reader shut v.subs }) c.self.view_is
