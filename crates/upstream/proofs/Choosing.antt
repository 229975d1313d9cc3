-- The replica that is chosen is one of the replicas.
use Rattle.std.proofs.Common.{◌≡◌, ℕ, ◌<◌, ap, List, map, length, arith}
use Rattle.std.proofs.lemmas.List.{length-map}
use Rattle.dpc_model.specs.Replicas.{Watch, rank_of, choose}
use Rattle.dpc_model.specs.declared.messages.Rank.{Rank}
use Rattle.dpc_model.proofs.Choice.{choose-within}

-- so the replica chosen by the ranks of what is known of each is below their number
pub chosen-within : (current chosen n : ℕ) (watches : List Watch) (ranks : List Rank) → length watches ≡ n → current < n → ranks ≡ map rank_of watches → chosen ≡ choose current ranks → chosen < n
chosen-within current chosen n watches ranks long low of_watches is =
    let same = length-map watches rank_of in
    let ranked = ap (λ (rs : List Rank). length rs) of_watches in
    let within = choose-within current ranks (omega (arith, low, long, same, ranked)) in omega (arith, is, within, long, same, ranked)
