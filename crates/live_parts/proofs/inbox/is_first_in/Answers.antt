use Rattle.std.proofs.Common.{◌∙◌, sym}
use Rattle.live_parts.proofs.Firsts.{first-some, first-none, place-low}
use Rattle.live_parts.proofs.inbox.is_first_in.Goals as goal

pub returns-in-Some : goal.returns-in-Some
returns-in-Some c = first-some c.args.sender c.args.number c.in-Some.place c.args.queue.now.items c.at.result (sym c.place_from.ensures ∙ c.in-Some.is) c.at.ensures

pub returns-in-None : goal.returns-in-None
returns-in-None c = first-none c.args.sender c.args.number c.args.queue.now.items (sym c.place_from.ensures ∙ c.in-None.is)

pub at-requires : goal.at-requires
at-requires c = place-low c.args.sender c.in-Some.place c.args.queue.now.items (sym c.place_from.ensures ∙ c.in-Some.is)
