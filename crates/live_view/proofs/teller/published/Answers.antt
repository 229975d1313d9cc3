use Rattle.std.proofs.Common.{drop, sym, subst}
use Rattle.live_view.specs.Showing.{IsTrueShown, Precedes, sight_of}
use Rattle.live_view.proofs.Keeping.{shows}
use Rattle.live_view.proofs.Tellings.{fold-precedes}
use Rattle.live_view.proofs.teller.published.Goals as goal

pub publish_as-requires : goal.publish_as-requires
publish_as-requires g c next is =
    let now = c.args.writer.desk.shown.value in
    let news = drop c.args.writer.behind c.args.writer.log.items in
    shows g.N.ViewName.plan _ _ now next (λ h. subst (λ y. IsTrueShown g.N.ViewName.plan y) (sym is) (c.requires h))
    (subst (λ y. Precedes (sight_of now) (sight_of y)) (sym is) (fold-precedes now news))
