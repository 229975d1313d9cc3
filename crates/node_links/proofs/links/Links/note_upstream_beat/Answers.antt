use Rattle.std.proofs.Common.{◌≡◌, ◌∙◌, ◌==◌, ap, sym, arith, ℕ, Option, Some, None}
use Rattle.std.proofs.lemmas.Grind.{common_steps}
use Rattle.std.specs.Prelude.{if◌then◌else◌}
use Rattle.dpc_lists.specs.Lists.{nth}
use Rattle.upstream.specs.Upstreams.{with_beat}
use Rattle.node_links.specs.Linking.{LinksValue, sender_among, after_upstream_beat, chosen_by, no_upstream}
use Rattle.node_links.proofs.Viewing.{port-seen, sender-low}
use Rattle.node_links.proofs.links.Links.note_upstream_beat.Goals.{then-is_read, else-is_read}
use Rattle.node_links.proofs.links.Links.note_upstream_beat.Goals as goal

pub chosen-requires : goal.chosen-requires
chosen-requires c =
    let l = c.self.inside in
    (sender-low l.ports l.replicas.items l.me l.grants l.watches l.tries c.args.self.now c.args.sender c.in_ok-port.port c.in_ok-port.r c.self.view_is (sym c.sender.ensures ∙ c.in_ok-port.was)).0

pub note_beat-requires-clause-port : goal.note_beat-requires-clause-port
note_beat-requires-clause-port c =
    let l = c.self.inside in
    (sender-low l.ports l.replicas.items l.me l.grants l.watches l.tries c.args.self.now c.args.sender c.in_ok-port.port c.in_ok-port.r c.self.view_is (sym c.sender.ensures ∙ c.in_ok-port.was)).0

pub note_beat-requires-clause-replica : goal.note_beat-requires-clause-replica
note_beat-requires-clause-replica c =
    let l = c.self.inside in
    (sender-low l.ports l.replicas.items l.me l.grants l.watches l.tries c.args.self.now c.args.sender c.in_ok-port.port c.in_ok-port.r c.self.view_is (sym c.sender.ensures ∙ c.in_ok-port.was)).1

pub returns-clause-after : goal.returns-clause-after
returns-clause-after c =
    let l = c.self.inside in
    let v : LinksValue = c.args.self.now in
    let found : sender_among 0 v.senders c.args.sender ≡ Some (c.in_ok-port.port, c.in_ok-port.r) = sym c.sender.ensures ∙ c.in_ok-port.was in
    port-seen l.ports c.note_beat.new.self l.replicas.items l.me l.grants l.watches l.tries v c.in_ok-port.port (with_beat c.in_ok-port.r c.args.beat) c.self.view_is c.note_beat.ensures
    ∙ ap (λ (o : Option (ℕ × ℕ)). record v { known = after_upstream_beat c.args.beat o v.known }) (sym found)

pub returns-clause-heard : goal.returns-clause-heard
returns-clause-heard c =
    let v : LinksValue = c.args.self.now in
    let port : ℕ = c.in_ok-port.port in
    let r : ℕ = c.in_ok-port.r in
    let found : sender_among 0 v.senders c.args.sender ≡ Some (port, r) = sym c.sender.ensures ∙ c.in_ok-port.was in
    let told : c.if-is_read.result ≡ (if r == c.chosen.result then Some port else None) =
    elim c.if-is_read.branch [
      | then-is_read w ↦ grind (arith, common_steps)
      | else-is_read w ↦ grind (arith, common_steps)
    ] in
    told ∙ ap (λ (k : ℕ). if r == k then Some port else None) (c.chosen.ensures ∙ ap (λ (w : LinksValue). (nth no_upstream w.known.upstreams port).chosen) c.self.view_is)
    ∙ ap (λ (o : Option (ℕ × ℕ)). chosen_by o v.known) (sym found)
