use Rattle.std.proofs.Common.{◌≡◌, ◌∙◌, ◌<◌, ◌≤◌, ◌==◌, not, ap, sym, subst, arith, ℕ, List, map, filter, length, replicate, None}
use Rattle.std.proofs.lemmas.List.{length-replicate}
use Rattle.std.specs.Prelude.{All}
use Rattle.dpc_lists.specs.Lists.{nth}
use Rattle.dpc_model.specs.Actors.{senders_of, replicas_of}
use Rattle.dpc_model.specs.Granting.{Grants}
use Rattle.dpc_model.specs.Replicas.{new_watch}
use Rattle.dpc_model.specs.declared.plans.StreamRef.{StreamRef}
use Rattle.dpc_model.specs.declared.plans.TheConstants.{MOST_REPLICAS}
use Rattle.node_model.specs.Nodes.{Home, spec_of}
use Rattle.upstream.specs.Upstreams.{new_upstream}
use Rattle.dpc_lists.proofs.Places.{nth-at}
use Rattle.node_links.proofs.Viewing.{new-view}
use Rattle.node_links.proofs.links.Links.new.Goals as goal

pub new-requires : goal.new-requires
new-requires c =
    subst (λ (ss : List StreamRef). All (λ (s : StreamRef). (0 < length (senders_of c.args.plan.now s)) × (length (senders_of c.args.plan.now s) ≤ MOST_REPLICAS)) ss)
    (sym (c.streams_of.ensures c.args.replica)) c.requires.senders

pub invariant_of-result : goal.invariant_of-result
invariant_of-result c =
    let rs : List ℕ = c.in_ok-replicas.replicas.items in
    let same : length rs ≡ length (replicas_of c.args.plan.now c.args.frag) = ap length c.in_ok-replicas.ensures in
    let low : c.args.replica < length rs = let inside = c.requires.inside in omega (arith, same, inside) in
    let watches : length c.new-3.result ≡ c.len-2.result = ap length c.new-3.ensures ∙ length-replicate c.len-2.result new_watch in
    let heard : length c.new-2.result.heard ≡ c.len.result = ap (λ (g : Grants). length g.heard) c.new-2.ensures ∙ length-replicate c.len.result None in
    let own : c.index.result.now ≡ nth 0 rs c.args.replica = c.index.ensures ∙ nth-at 0 c.args.replica rs c.index.result.now low in (
      omega (arith, watches, c.len-2.ensures, c.in_ok-replicas.replicas.ok),
      omega (arith, heard, c.len.ensures, c.in_ok-replicas.replicas.ok),
      low,
      c.in_ok-peers.ensures ∙ ap (λ (xs : List ℕ). filter (λ a. not (a == c.index.result.now)) xs) c.as_slice.ensures.value ∙ ap (λ (me : ℕ). filter (λ a. not (a == me)) rs) own,
    )

pub returns : goal.returns
returns c =
    let home : Home = record { plan = c.args.plan.now; frag = c.args.frag; replica = c.args.replica } in
    let same : length c.in_ok-replicas.replicas.items ≡ length (replicas_of c.args.plan.now c.args.frag) = ap length c.in_ok-replicas.ensures in
    let plan = c.requires.same in
    let count : c.len.result ≡ (spec_of home).replicas = omega (arith, c.len.ensures, c.in_ok-replicas.replicas.ok, same, plan) in
    let second : c.len-2.result ≡ c.len.result = c.len-2.ensures ∙ sym c.len.ensures in
    new-view home c.args.inc c.len.result c.in_ok-ports.ports c.in_ok-replicas.replicas.items c.new-2.result c.new-3.result
    (c.in_ok-ports.ensures ∙ ap (λ (ss : List StreamRef). map (λ s. new_upstream (senders_of c.args.plan.now s)) ss) (c.streams_of.ensures c.args.replica))
    c.in_ok-replicas.ensures count c.new-2.ensures (c.new-3.ensures ∙ ap (λ (n : ℕ). replicate n new_watch) second)
