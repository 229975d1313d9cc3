-- What is behind so many batches is true.
use Rattle.std.proofs.Common.{◌∙◌, ap, refl, length}
use Rattle.std.proofs.lemmas.Option.{slice_get_read}
use Rattle.live_watch.proofs.Taking.{news-of-run, then-ok}
use Rattle.live_watch.proofs.feed.news.Goals as goal

pub returns : goal.returns
returns g c =
    let clients = c.clients.result.now in
    let at = c.in-Some.ensures.lookup in
    then-ok c.shares.result c.shares.ensures _ (λ news is.
    news-of-run g.N.RunName.script.plan c.world.result.now c.args.client c.min.result clients c.in-Some.client.now c.taken-taken.result.now news.items c.requires.checked
    (c.world.ensures.plan ∙ ap (λ s. s.plan) c.world.ensures.script) c.clients.ensures (slice_get_read clients (length clients) c.args.client c.in-Some.client.now refl at.3.0 at.1)
    c.taken-taken.ensures is)
