use Rattle.std.proofs.Common.{◌∙◌, sym, ap, map, List}
use Rattle.dpc_model.specs.PartStands.{OutputValue}
use Rattle.dpc_model.specs.Sessions.{with_batch}
use Rattle.dpc_model.specs.declared.sessions.Sub.{Sub}
use Rattle.soutput.specs.Giving.{with_fresh, with_base_after}
use Rattle.soutput.proofs.Nothing.{counted, uncounted, some-new, none-new}
use Rattle.soutput.proofs.output.SOutput.give.Goals.{then-gives_items, else-gives_items}
use Rattle.soutput.proofs.output.SOutput.give.Goals as goal

pub returns-clause-after : goal.returns-clause-after
returns-clause-after c =
    let old = c.args.self.now in
    let new = c.args.new in
    let next = with_base_after (with_fresh new old) in
    elim c.if-gives_items.branch [
      | then-gives_items w ↦
          w.self-is ∙ w.count_batch.ensures ∙ ap (λ (v : OutputValue). record v { subs = map with_batch v.subs }) c.in_ok-append.ensures.ok
          ∙ sym (ap (λ (subs : List Sub). record next { subs = subs }) (counted old new old.subs (some-new new w.if-gives_items.ensures)))
      | else-gives_items w ↦
          w.self-is ∙ c.in_ok-append.ensures.ok
          ∙ sym (ap (λ (subs : List Sub). record next { subs = subs }) (uncounted old new old.subs (none-new new w.if-gives_items.ensures)))
    ]
