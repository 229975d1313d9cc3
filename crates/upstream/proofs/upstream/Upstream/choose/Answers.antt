use Rattle.std.proofs.Common.{◌≡◌, ◌∙◌, ap, arith, length, true}
use Rattle.std.proofs.lemmas.Grind.{common_steps}
use Rattle.upstream.proofs.Choosing.{chosen-within}
use Rattle.dpc_lists.proofs.Places.{nth-at}
use Rattle.upstream.proofs.Places.{asked}
use Rattle.dpc_lists.specs.Lists.{nth}
use Rattle.upstream.specs.Upstreams.{UpstreamValue, port_by}
use Rattle.dpc_model.specs.Ports.{must_reopen, choice_at}
use Rattle.dpc_model.specs.Replicas.{choose}
use Rattle.upstream.proofs.upstream.Upstream.choose.Goals as goal

pub index-requires : goal.index-requires
index-requires c =
    let ranks = c.as_slice.ensures ∙ c.ranks.ensures in
    let within = chosen-within c.self.inside.chosen c.choose-chosen.result (length c.self.inside.senders.items) c.self.inside.monitor c.as_slice.result.now c.self.invariant.0 c.self.invariant.1 ranks c.choose-chosen.ensures in
    omega (arith, within, c.self.inside.senders.ok)

pub invariant_of-self-2 : goal.invariant_of-self-2
invariant_of-self-2 c =
    let ranks = c.as_slice.ensures ∙ c.ranks.ensures in
    let within = chosen-within c.self.inside.chosen c.choose-chosen.result _ c.self.inside.monitor c.as_slice.result.now c.self.invariant.0 c.self.invariant.1 ranks c.choose-chosen.ensures in
    (c.self.invariant.0, within, omega arith)

pub returns-clause-asked : goal.returns-clause-asked
returns-clause-asked c =
    let v : UpstreamValue = c.args.self.now in
    let is : c.choose-chosen.result ≡ choice_at (port_by c.args.broken c.args.answered v.known) =
    c.choose-chosen.ensures ∙ ap (choose c.self.inside.chosen) (c.as_slice.ensures ∙ c.ranks.ensures) ∙ ap (λ (u : UpstreamValue). choice_at (port_by c.args.broken c.args.answered u.known)) c.self.view_is in
    let reopens : must_reopen (port_by c.args.broken c.args.answered v.known) ≡ true = grind (arith, common_steps) in
    asked c.args.broken c.args.answered v c.index.result.now reopens
    (c.index.ensures ∙ nth-at 0 c.choose-chosen.result c.self.inside.senders.items c.index.result.now (invariant_of-self-2 c).1
    ∙ ap (nth 0 c.self.inside.senders.items) is ∙ ap (λ (u : UpstreamValue). nth 0 u.senders (choice_at (port_by c.args.broken c.args.answered v.known))) c.self.view_is)
