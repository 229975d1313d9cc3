use Rattle.std.proofs.Common.{ap}
use Rattle.live_view.specs.Tellers.{TellerState}
use Rattle.live_view.proofs.SampleTold.{first-told}
use Rattle.live_view.proofs.tests.tells.Goals as goal

pub tell-requires : goal.tell-requires
tell-requires g c =
    first-told _ _ _ c.requires.plan (ap (λ (t : TellerState). t.client) c.requires.teller) (c.in-Ok.ensures {u = tt})
