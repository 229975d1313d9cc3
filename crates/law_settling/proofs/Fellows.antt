-- Each number below a fragment's number of replicas is a replica's.
use Rattle.std.proofs.Common.{◌≡◌, ℕ, zero, suc, ◌+◌, ◌-◌, ◌<◌, true, false, cond, not, ◌==◌, List, [], ◌∷◌, map, length, refl, sym, ap, ◌∙◌, arith, Option, Some, slice_get}
use Rattle.std.specs.List.{filter, enumerate_from}
use Rattle.dpc_lists.specs.Lists.{nth, list_all}
use Rattle.dpc_model.specs.Actors.{role_of, nodes_from, nodes_of}
use Rattle.dpc_model.specs.Replicas.{Watch, is_absent}
use Rattle.dpc_model.specs.declared.actors.Role.TheVariants.{Node as IsNode}
use Rattle.dpc_model.specs.declared.plans.FragSpec.{FragSpec}
use Rattle.dpc_model.specs.declared.plans.Plan.{Plan}
use Rattle.dpc_model.proofs.Numbers.{node-here, node-later, node-role}
use Rattle.node_model.specs.Nodes.{no_fragment}

-- the number of replicas of a fragment
abbrev pub many_replicas : Plan → ℕ → ℕ
many_replicas plan f = (nth no_fragment plan.frags f).replicas

nodes-at : (g : ℕ) (frags : List FragSpec) (f q : ℕ) → q < (nth no_fragment frags f).replicas → (i : ℕ) × (slice_get (nodes_from g frags) i ≡ Some (g + f, q))
nodes-at g [] f q low = absurd (omega (arith, low))
nodes-at g (frag ∷ rest) zero q low = let same : g + 0 ≡ g = omega arith in (q, node-here g q frag rest low ∙ ap {B = Option (ℕ × ℕ)} (λ (z : ℕ). Some (z, q)) (sym same))
nodes-at g (frag ∷ rest) (suc f) q low =
    let k = nodes-at (g + 1) rest f q low in
    let back : frag.replicas + k.0 - frag.replicas ≡ k.0 = omega arith in
    let same : g + 1 + f ≡ g + suc f = omega arith in
    (frag.replicas + k.0, node-later g (frag.replicas + k.0) frag rest (omega arith) ∙ ap (λ (z : ℕ). slice_get (nodes_from (g + 1) rest) z) back ∙ k.1 ∙ ap {B = Option (ℕ × ℕ)} (λ (z : ℕ). Some (z, q)) same)

pub replica-of : (plan : Plan) (f q : ℕ) → q < many_replicas plan f → (b : ℕ) × (role_of plan b ≡ IsNode f q)
replica-of plan f q low =
    let k = nodes-at 0 plan.frags f q low in
    let back : length plan.sources + k.0 - length plan.sources ≡ k.0 = omega arith in
    let same : 0 + f ≡ f = omega arith in
    (length plan.sources + k.0, node-role plan (length plan.sources + k.0) (f, q) (omega arith) (ap (λ (z : ℕ). slice_get (nodes_of plan) z) back ∙ k.1 ∙ ap {B = Option (ℕ × ℕ)} (λ (z : ℕ). Some (z, q)) same))

-- where not every other replica is taken for silent there is another one
pub not-alone : (me k : ℕ) (ws : List Watch) → list_all (λ w. is_absent w) (map (λ (x : ℕ × Watch). x.1) (filter (λ (x : ℕ × Watch). not (x.0 == me)) (enumerate_from k ws))) ≡ false → (q : ℕ) × (q < k + length ws) × ((q == me) ≡ false)
not-alone me k [] h = cc
not-alone me k (w ∷ ws) h =
    (elim (k == me) as (λ b. (k == me) ≡ b → list_all (λ w. is_absent w) (map (λ (x : ℕ × Watch). x.1) (cond (not b) ((k, w) ∷ filter (λ (x : ℕ × Watch). not (x.0 == me)) (enumerate_from (k + 1) ws)) (filter (λ (x : ℕ × Watch). not (x.0 == me)) (enumerate_from (k + 1) ws)))) ≡ false →
    (q : ℕ) × (q < k + length (w ∷ ws)) × ((q == me) ≡ false)) [
      | true ↦ λ e d. let rest = not-alone me (k + 1) ws d in let low = rest.1 in (rest.0, omega (arith, low), rest.2)
      | false ↦ λ e d. (k, omega arith, e)
    ]) refl h
