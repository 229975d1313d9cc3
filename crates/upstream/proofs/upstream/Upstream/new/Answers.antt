use Rattle.std.proofs.Common.{rules, ◌≡◌, ◌∙◌, ap, ℕ, map, List, replicate}
use Rattle.upstream.specs.Upstreams.{UpstreamValue, new_upstream}
use Rattle.dpc_model.specs.Replicas.{Watch, new_watch}
use Rattle.dpc_lists.proofs.Places.{same-each}
use Rattle.upstream.proofs.upstream.Upstream.new.Goals as goal

pub returns : goal.returns
returns c =
    let senders : List ℕ = c.in_ok-senders.senders.items in
    let watches : c.new-monitor.result ≡ map (λ _. new_watch) senders = c.new-monitor.ensures ∙ ap (λ (n : ℕ). replicate n new_watch) (c.len.ensures ∙ search rules) ∙ same-each new_watch senders in
    let known : List Watch → UpstreamValue = λ ws. record { senders = senders; known = record { chosen = 0; watches = ws; ticks = 0 } } in
    ap known watches ∙ ap new_upstream c.in_ok-senders.ensures
