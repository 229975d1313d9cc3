use Rattle.std.proofs.Common.{◌≡◌, ◌∙◌, sym, subst, ap, false, List}
use Rattle.dpc_lists.specs.Lists.{list_any}
use Rattle.dpc_model.specs.PartStands.{OutputValue}
use Rattle.dpc_model.specs.declared.sessions.Sub.{Sub}
use Rattle.soutput.specs.Giving.{fresh_items}
use Rattle.soutput.proofs.BatchLists.{none-of}
use Rattle.soutput.proofs.output.SOutput.batches_with.Goals as goal

pub returns-then-not-any_open : goal.returns-then-not-any_open
returns-then-not-any_open c =
    let shut = ap (λ (ss : List Sub). list_any (λ (s : Sub). s.is_open) ss) (sym c.as_slice.ensures.value) ∙ sym c.if-not-any_open.ensures in
    c.new.ensures.items
    ∙ sym (none-of (fresh_items c.args.self.now c.args.new.now) c.args.self.now.subs (subst (λ (v : OutputValue). list_any (λ (s : Sub). s.is_open) v.subs ≡ false) c.self.view_is shut))
