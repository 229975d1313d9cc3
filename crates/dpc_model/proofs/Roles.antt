-- Roles by number, and roles that pass a test.
use Rattle.std.specs.List.{filter, enumerate_from}
use Rattle.std.specs.Prelude.{◌||◌}
use Rattle.std.proofs.Common.{ℕ, Bool, List, map, ◌+◌, cond, ◌∷◌, ◌≡◌, zero, suc, ◌<◌, ◌++◌, arith, false, [], refl, Some, slice_get, ◌≤◌, length}
use Rattle.dpc_model.specs.declared.actors.Role.{Role}
use Rattle.dpc_lists.specs.Lists.{nth, range_with_len, list_any}
use Rattle.dpc_model.specs.declared.actors.Role.TheVariants.{Source as IsSource, Nobody, Node as IsNode, Client as IsClient}
use Rattle.dpc_model.specs.Actors.{sends_stream, are_peers, reads_from, role_of, nodes_of}
use Rattle.dpc_model.specs.declared.plans.StreamRef.{StreamRef}
use Rattle.dpc_model.specs.declared.plans.ClientSpec.{ClientSpec}
use Rattle.dpc_model.specs.declared.plans.Plan.{Plan}

abbrev pub numbers_where : (Role → Bool) → ℕ → List Role → List ℕ
numbers_where test k roles = map (λ (x : ℕ × Role). x.0) (filter (λ (x : ℕ × Role). test x.1) (enumerate_from k roles))

abbrev pub numbers_if : (Role → Bool) → ℕ → Role → List Role → Bool → List ℕ
numbers_if test k role roles b = map (λ (x : ℕ × Role). x.0) (cond b ((k, role) ∷ filter (λ (x : ℕ × Role). test x.1) (enumerate_from (k + 1) roles)) (filter (λ (x : ℕ × Role). test x.1) (enumerate_from (k + 1) roles)))

pub sources-first : (rest : List Role) → ((i s : ℕ) → nth Nobody rest i ≡ IsSource s → ⊥) → (from count a s : ℕ) → nth Nobody (map IsSource (range_with_len from count) ++ rest) a ≡ IsSource s → a < count
sources-first rest none from zero a s e = absurd (none a s e)
sources-first rest none from (suc count) zero s e = omega arith
sources-first rest none from (suc count) (suc a) s e = let less = sources-first rest none (from + 1) count a s e in omega (arith, less)

pub nothing_sent : (ss : List StreamRef) → list_any (λ s. sends_stream s Nobody) ss ≡ false
nothing_sent [] = refl
nothing_sent (s ∷ ss) = nothing_sent ss

pub no_peer : (x : Role) → are_peers x Nobody ≡ false
no_peer (IsSource s) = refl
no_peer (IsNode f r) = refl
no_peer (IsClient c) = refl
no_peer Nobody = refl

-- a client has one port
pub only-first : (clients : List ClientSpec) (c i : ℕ) (s : StreamRef) → slice_get (nth [] (map (λ (client : ClientSpec). client.input ∷ []) clients) c) i ≡ Some s → i ≡ 0
only-first [] c i s e = cc
only-first (x ∷ clients) zero zero s e = refl
only-first (x ∷ clients) zero (suc i) s e = cc
only-first (x ∷ clients) (suc c) i s e = only-first clients c i s e

abbrev pub node_at : ℕ × ℕ → Role
node_at n = IsNode n.0 n.1

abbrev pub are_joined : Plan → Role → Role → Bool
are_joined plan x y = reads_from plan x y || reads_from plan y x || are_peers x y

pub node-past : (plan : Plan) (a f r : ℕ) → role_of plan a ≡ IsNode f r → length plan.sources ≤ a
node-past plan a f r e = skip 0 (length plan.sources) a (map (λ (n : ℕ × ℕ). IsNode n.0 n.1) (nodes_of plan)) (map IsClient (range_with_len 0 (length plan.clients))) e
  where
    skip : (k n b : ℕ) (xs ys : List Role) → nth Nobody (map IsSource (range_with_len k n) ++ xs ++ ys) b ≡ IsNode f r → n ≤ b
    skip k zero b xs ys h = omega arith
    skip k (suc n) zero xs ys h = cc
    skip k (suc n) (suc b) xs ys h = let rest = skip (k + 1) n b xs ys h in omega (arith, rest)
