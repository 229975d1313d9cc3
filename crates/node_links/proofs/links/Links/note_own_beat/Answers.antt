use Rattle.std.proofs.Common.{◌≡◌, ◌∙◌, ◌==◌, ap, sym, arith, ℕ, List, Option, Some, length}
use Rattle.dpc_lists.specs.Lists.{place_of}
use Rattle.dpc_model.specs.Replicas.{Watch, after_beat}
use Rattle.dpc_model.specs.Granting.{Grants, later_key, after_peer_beat}
use Rattle.dpc_lists.proofs.Elements.{length-changed}
use Rattle.node_links.specs.Linking.{LinksValue, after_own_beat}
use Rattle.node_links.proofs.Viewing.{links_of}
use Rattle.dpc_lists.proofs.Places.{place-within}
use Rattle.node_links.proofs.links.Links.note_own_beat.Goals as goal

pub note_beat-requires : goal.note_beat-requires
note_beat-requires c =
    let low = place-within (λ a. c.args.sender == a) c.args.self.now.replicas c.in-Some.r (sym c.replica.ensures ∙ c.in-Some.is) in
    let seen = ap (λ (v : LinksValue). length v.replicas) c.self.view_is in
    let long = c.self.invariant.0 in omega (arith, low, seen, long)

pub on_beat-requires : goal.on_beat-requires
on_beat-requires c =
    let low = place-within (λ a. c.args.sender == a) c.args.self.now.replicas c.in-Some.r (sym c.replica.ensures ∙ c.in-Some.is) in
    let seen = ap (λ (v : LinksValue). length v.replicas) c.self.view_is in
    let long = c.self.invariant.1 in omega (arith, low, seen, long)

pub invariant_of-self : goal.invariant_of-self
invariant_of-self c =
    let b = c.args.beat in (
      ap length c.note_beat.ensures ∙ length-changed c.in-Some.r (after_beat b.inc b.state b.recovering) c.self.inside.watches ∙ c.self.invariant.0,
      ap (λ (g : Grants). length g.heard) c.on_beat.ensures ∙ length-changed c.in-Some.r (later_key (b.inc, b.over)) c.self.inside.grants.heard ∙ c.self.invariant.1,
      c.self.invariant.2,
      c.self.invariant.3,
    )

pub returns-in-Some : goal.returns-in-Some
returns-in-Some c =
    let l = c.self.inside in
    let v : LinksValue = c.args.self.now in
    let found : place_of (λ a. c.args.sender == a) v.replicas ≡ Some c.in-Some.r = sym c.replica.ensures ∙ c.in-Some.is in
    ap (λ (g : Grants). links_of l.ports l.replicas.items l.me g c.note_beat.new.self l.tries) c.on_beat.ensures
    ∙ ap (λ (ws : List Watch). links_of l.ports l.replicas.items l.me (after_peer_beat l.grants c.in-Some.r (c.args.beat.inc, c.args.beat.over)) ws l.tries) c.note_beat.ensures
    ∙ ap (λ (w : LinksValue). record w { known = after_own_beat c.args.beat (Some c.in-Some.r) w.known }) c.self.view_is
    ∙ ap (λ (o : Option ℕ). record v { known = after_own_beat c.args.beat o v.known }) (sym found)
