use Rattle.law_readers.proofs.Viewed.{views-held}
use Rattle.law_readers.proofs.readers_hold_the_view.Goals as goal

pub returns : goal.returns
returns c = views-held
