use Rattle.std.proofs.Common.{◌∙◌, drop, sym, ap}
use Rattle.std.proofs.Common.{rules}
use Rattle.dpc_lists.specs.Lists.{has}
use Rattle.live_parts.proofs.Dropping.{more}
use Rattle.live_parts.proofs.moment.Moment.direct.Goals as goal

pub returns-then-self-len-clause-stands : goal.returns-then-self-len-clause-stands
returns-then-self-len-clause-stands c = λ p q h phase todo ticked.
    let m = c.args.self.now in
    record {
      phase = phase ∙ h.phase;
      todo = todo ∙ ap (drop 1) h.todo ∙ sym (more m.done m.todo.items);
      within = search rules;
      ticked = λ a. ap (λ xs. has xs a) ticked ∙ h.ticked a;
    }
