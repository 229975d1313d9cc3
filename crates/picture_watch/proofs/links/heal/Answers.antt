use Rattle.std.proofs.Common.{rules, not}
use Rattle.std.proofs.lemmas.Fn.{filter_same}
use Rattle.world_model.specs.Worlds.{same_pair}
use Rattle.picture_watch.proofs.links.heal.Goals as goal

pub returns : goal.returns
returns c = filter_same _ (λ pair. not (same_pair c.args.a c.args.b pair)) _ (λ x b q h. search rules) _ _ c.retain.ensures.filtered
