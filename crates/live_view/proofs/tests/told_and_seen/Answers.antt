use Rattle.std.proofs.Common.{ap, ◌∙◌}
use Rattle.live_view.specs.Tellers.{TellerState}
use Rattle.live_view.proofs.SampleTold.{first-told, later-told}
use Rattle.live_view.proofs.tests.told_and_seen.Goals as goal

pub tell-requires : goal.tell-requires
tell-requires g c =
    first-told _ _ _ c.requires.plan (ap (λ (t : TellerState). t.client) c.requires.teller) (c.in_ok-first.ensures {u = tt})

pub tell-requires-2 : goal.tell-requires-2
tell-requires-2 g c =
    later-told _ _ _ c.requires.plan (ap (λ (t : TellerState). t.client) c.in_ok-told.ensures.told ∙ ap (λ (t : TellerState). t.client) c.requires.teller) (c.in_ok-later.ensures {u = tt})
