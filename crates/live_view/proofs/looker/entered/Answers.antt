use Rattle.live_view.proofs.Keeping.{looks}
use Rattle.live_view.proofs.looker.entered.Goals as goal

pub enter_as-requires : goal.enter_as-requires
enter_as-requires g c x = looks _ _ _ x
