use Rattle.script_draft.proofs.Lasts.{last-get}
use Rattle.script_draft.proofs.draft.Draft.last_frag.Goals as goal

pub returns : goal.returns
returns c = rw (← c.self.view_is, last-get c.self.inside.frags.items, ← c.deref.ensures.value) c.last.ensures.value
