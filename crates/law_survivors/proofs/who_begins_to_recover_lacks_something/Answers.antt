use Rattle.law_survivors.proofs.Since.{beginners-lack}
use Rattle.law_survivors.proofs.who_begins_to_recover_lacks_something.Goals as goal

pub returns : goal.returns
returns c = beginners-lack
