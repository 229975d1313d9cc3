-- An event that happened is counted, and passes no limit.
use Rattle.std.proofs.Common.{◌≡◌, ◌∙◌, Ok, true, ap, sym}
use Rattle.node_threads.proofs.Keeping.{happened}
use Rattle.node_threads.proofs.hall.Hall.event.Goals as goal

pub invariant_of-self : goal.invariant_of-self
invariant_of-self g c =
    let told : c.apply-told.result ≡ Ok true = c.in-Ok-true.is ∙ ap Ok (sym c.in-Ok-true.field-0-is ∙ c.in-Ok-true.field-0-test) in
    happened g.N.RunName.script c.self.inside.run c.apply-told.new.self c.self.inside.book.total c.count.new.book.total c.self.inside.stop c.self.invariant c.args.e
    (sym c.is_spent.ensures ∙ c.if-is_spent.false) (c.apply-told.ensures.yes told) (c.apply-told.ensures.within told) c.count.ensures.book
