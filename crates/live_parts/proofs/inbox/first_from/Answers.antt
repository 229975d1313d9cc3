use Rattle.std.proofs.Common.{◌∙◌, sym, refl}
use Rattle.live_parts.specs.Inboxes.{made_at}
use Rattle.live_parts.proofs.Firsts.{made-some, made-none, place-low}
use Rattle.live_parts.proofs.inbox.first_from.Goals as goal

pub returns-in-Some : goal.returns-in-Some
returns-in-Some c =
    let found = sym c.place_from.ensures ∙ c.in-Some.is in (
      place-low c.args.sender c.in-Some.place c.args.queue.now.items found,
      made-some c.args.sender c.in-Some.place c.args.queue.now.items (made_at c.at.result c.args.queue.now.items c.in-Some.place) c.at.result found c.at.ensures refl,
    )

pub returns-in-None : goal.returns-in-None
returns-in-None c = made-none c.args.sender c.args.queue.now.items (sym c.place_from.ensures ∙ c.in-None.is)

pub at-requires : goal.at-requires
at-requires c = place-low c.args.sender c.in-Some.place c.args.queue.now.items (sym c.place_from.ensures ∙ c.in-Some.is)
