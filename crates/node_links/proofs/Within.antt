-- Whoever is found stands in the list.
use Rattle.std.proofs.Common.{◌≡◌, ℕ, suc, ◌+◌, ◌<◌, ◌==◌, List, [], ◌∷◌, length, refl, ap, arith, Option, Some, None}
use Rattle.dpc_lists.specs.Lists.{nth, place_of}
use Rattle.dpc_lists.proofs.Places.{place-within}
use Rattle.dpc_lists.proofs.Somes.{some-same}
use Rattle.node_links.specs.Linking.{sender_among}

-- a port and a replica of it
pub record IsSender (k : ℕ) (ss : List (List ℕ)) (p r : ℕ) : Type 0 where
  pub place : ℕ
  pub port : p ≡ k + place
  pub low : place < length ss
  pub replica : r < length (nth [] ss place)

pub sender-within : (k : ℕ) (ss : List (List ℕ)) (a p r : ℕ) → sender_among k ss a ≡ Some (p, r) → IsSender k ss p r
sender-within k [] a p r e = absurd (cc)
sender-within k (s ∷ rest) a p r e =
    (elim (place_of (λ b. a == b) s) as (λ (o : Option ℕ).
    place_of (λ b. a == b) s ≡ o → next o ≡ Some (p, r) → IsSender k (s ∷ rest) p r) [
      | None ↦ λ m h.
          let later = sender-within (k + 1) rest a p r h in
          record {
            place = suc later.place;
            port = let is = later.port in omega (arith, is);
            low = let low = later.low in omega (arith, low);
            replica = later.replica;
          }
      | Some q ↦ λ m h.
          let pair = some-same (k, q) (p, r) h in
          let here : k ≡ p = ap (λ (x : ℕ × ℕ). x.0) pair in
          let one : q ≡ r = ap (λ (x : ℕ × ℕ). x.1) pair in
          record { place = 0; port = omega (arith, here); low = omega arith; replica = let low = place-within (λ b. a == b) s q m in omega (arith, low, one) }
    ]) refl e
  where
    next : Option ℕ → Option (ℕ × ℕ)
    next o = elim o [ None ↦ sender_among (k + 1) rest a | Some q ↦ Some (k, q) ]
