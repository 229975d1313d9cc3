-- The clock moves, and whether the cursor's bucket is complete.
use Rattle.std.proofs.Common.{◌≡◌, ℕ, ◌+◌, ◌-◌, ◌*◌, ◌/◌, ◌<◌, ◌≤◌, Bool, true, false, ◌&&◌, nat_lt, nat_le, min, List, [], ◌∷◌, length, refl, sym, ap, subst, ◌∙◌, arith}
use Rattle.std.proofs.lemmas.Grind.{common_steps}
use Rattle.std.proofs.lemmas.List.{length-map}
use Rattle.std.proofs.Math.Nat.{le-div_iff_mul-le}
use Rattle.dpc_model.specs.Due.{is_complete, first_incomplete}
use Rattle.dpc_model.specs.Inlets.{InletState}
use Rattle.dpc_model.specs.Parts.{Inputs}
use Rattle.dpc_model.specs.Ports.{Port, port_after_tick}
use Rattle.dpc_model.specs.Reading.{Reader}
use Rattle.sunion.specs.Unions.{held_in, complete_upto_in}
use Rattle.node_links.specs.Linking.{LinksValue, after_clock_tick}
use Rattle.node_links.proofs.Lawful.{ticks-stand}
use Rattle.pipeline.specs.Flowing.{StandsForData}
use Rattle.node_model.specs.Nodes.{Home, spec_of, PlainNode, held_by}
use Rattle.node_model.specs.NodeSteps.{after_clock}
use Rattle.node_model.specs.NodeParts.{inputs_of, outputs_of, neighbours_of}
use Rattle.law_node.proofs.Buckets.{held-in-is}
use Rattle.node_model.proofs.Viewed.{same-inlets}
use Rattle.node_core.specs.Standing.{NodeValue, StandsForNode}
use Rattle.node_core.proofs.Frames.{upstreams-many}

-- ---- the clock

pub clock-stands : (home : Home) (now : ℕ) (v : NodeValue) (p : PlainNode) (links : LinksValue) → StandsForNode home v p → links ≡ record v.links { known = after_clock_tick v.links.known } →
    StandsForNode home (record v { links = links; clock = now }) (after_clock now p)
clock-stands home now v p links h same =
    let known : after_clock_tick v.links.known ≡ neighbours_of (after_clock now p) = ap after_clock_tick h.links ∙ (ticks-stand home now p).0 in
    let inputs : inputs_of (after_clock now p) ≡ inputs_of p = ap (λ (is : List InletState). record (inputs_of p) { inlets = is }) (same-inlets port_after_tick (λ q. refl) p.ports) in
    let there : StandsForNode home (record v { links = record v.links { known = after_clock_tick v.links.known }; clock = now }) (after_clock now p) = record {
      setting = h.setting;
      knows = record { senders = h.knows.senders; replicas = h.knows.replicas; me = h.knows.me };
      readers = h.readers;
      path = subst (λ (x : Inputs). StandsForData (spec_of home).ops v.path x (outputs_of p)) (sym inputs) h.path;
      links = known;
      clock = refl;
      state = h.state;
      recovering = h.recovering;
    } in
    subst (λ (l : LinksValue). StandsForNode home (record v { links = l; clock = now }) (after_clock now p)) (sym same) there

-- ---- the cursor's bucket

one-complete : (w k b : ℕ) → 0 < w → nat_lt k (b / w) ≡ nat_le ((k + 1) * w) b
one-complete w k b pos =
    let both = le-div_iff_mul-le {k = w} {x = k + 1} {y = b} pos in
    let to : k + 1 ≤ b / w → (k + 1) * w ≤ b = both.0 in
    let from : (k + 1) * w ≤ b → k + 1 ≤ b / w = both.1 in
    (elim (nat_lt k (b / w)) as (λ (c : Bool). nat_lt k (b / w) ≡ c → c ≡ nat_le ((k + 1) * w) b) [
      | true ↦ λ e. let less : k < b / w = grind (arith, common_steps, e) in let here = to (omega (arith, less)) in grind (arith, common_steps, here)
      | false ↦ λ e.
          (elim (nat_le ((k + 1) * w) b) as (λ (d : Bool). nat_le ((k + 1) * w) b ≡ d → false ≡ d) [
            | true ↦ λ f. let low : (k + 1) * w ≤ b = grind (arith, common_steps, f) in let here = from low in let most : b / w ≤ k = grind (arith, common_steps, e) in absurd (omega (arith, here, most))
            | false ↦ λ f. refl
          ]) refl
    ]) refl

both-less : (k a b : ℕ) → nat_lt k (min a b) ≡ (nat_lt k a && nat_lt k b)
both-less k a b = grind (arith, common_steps)

some-complete : (w k : ℕ) (r : Reader) (rs : List Reader) → 0 < w → nat_lt k (first_incomplete w (r ∷ rs)) ≡ is_complete w (r ∷ rs) k
some-complete w k r [] pos = let one = one-complete w k r.bound pos in grind (arith, common_steps, one)
some-complete w k r (q ∷ rs) pos =
    let rest = some-complete w k q rs pos in
    both-less k (r.bound / w) (first_incomplete w (q ∷ rs)) ∙ ap (λ (b : Bool). b && nat_lt k (first_incomplete w (q ∷ rs))) (one-complete w k r.bound pos)
    ∙ ap (λ (b : Bool). nat_le ((k + 1) * w) r.bound && b) rest

left-over : (a k : ℕ) → nat_lt 0 (a - k) ≡ nat_lt k a
left-over a k = grind (arith, common_steps)

complete-any : (w k : ℕ) (rs : List Reader) → 0 < w → 0 < length rs → nat_lt k (first_incomplete w rs) ≡ is_complete w rs k
complete-any w k [] pos some = absurd (omega (arith, some))
complete-any w k (r ∷ rs) pos some = some-complete w k r rs pos

-- and else where some bucket from the cursor on is
pub complete-told : (home : Home) (v : NodeValue) (p : PlainNode) (k : ℕ) → StandsForNode home v p → 0 < length v.links.known.upstreams →
    k ≡ complete_upto_in v.path.union.width (inputs_of p) - p.cursor → nat_lt 0 k ≡ is_complete home.plan.width (held_by p) p.cursor
complete-told home v p k h some told =
    let many = upstreams-many home v p h in
    let count : length (held_in (inputs_of p)) ≡ length p.ports = length-map (inputs_of p).inlets (λ (i : InletState). i.held) ∙ length-map p.ports (λ (q : Port). q.inlet) in
    let pos : 0 < home.plan.width = subst (λ (w : ℕ). 0 < w) h.setting.width h.path.some in
    ap (λ (n : ℕ). nat_lt 0 n) told
    ∙ left-over (complete_upto_in v.path.union.width (inputs_of p)) p.cursor
    ∙ ap (λ (w : ℕ). nat_lt p.cursor (complete_upto_in w (inputs_of p))) h.setting.width
    ∙ complete-any home.plan.width p.cursor (held_in (inputs_of p)) pos (omega (arith, many, some, count))
    ∙ ap (λ (rs : List Reader). is_complete home.plan.width rs p.cursor) (held-in-is p)
