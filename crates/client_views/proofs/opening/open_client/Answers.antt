use Rattle.std.proofs.Common.{refl}
use Rattle.client_views.proofs.Places.{all-alike}
use Rattle.client_views.proofs.opening.open_client.Goals as goal

pub watch_also-requires-clause-lookers : goal.watch_also-requires-clause-lookers
watch_also-requires-clause-lookers g c = all-alike (λ x. x.client) c.args.client _ c.in_ok-teller.lookers.items _ c.in_ok-teller.ensures.lookers refl
