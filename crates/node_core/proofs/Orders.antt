-- Work that is handed out.
use Rattle.std.proofs.Common.{◌≡◌, ◌↔◌, ℕ, ◌+◌, ◌*◌, ◌^◌, ◌<◌, ◌≤◌, List, length, sym, ap, subst, ◌∙◌, arith, Some}
use Rattle.std.proofs.lemmas.Grind.{common_steps}
use Rattle.dpc_model.specs.Limits.{most_milled}
use Rattle.dpc_model.specs.Parts.{Inputs, Outputs, Neighbours}
use Rattle.dpc_model.specs.declared.operators.OpSpec.{OpSpec}
use Rattle.dpc_lists.specs.Lists.{nth}
use Rattle.dpc_model.specs.declared.tuples.Tagged.{Tagged}
use Rattle.dpc_model.specs.Engines.{AcceptsAll}
use Rattle.law_buckets.specs.Series.{buckets_from}
use Rattle.law_buckets.proofs.Accepted.{buckets-accepted, count-buckets}
use Rattle.fragment_mill.specs.Mills.{MillState}
use Rattle.mill_work.specs.Milling.{OrderValue}
use Rattle.pipeline.specs.Flowing.{IsEngineOf, CanMill as CanMillPath}
use Rattle.node_model.specs.Nodes.{Home, spec_of, PlainNode, ready}
use Rattle.node_model.specs.NodeParts.{inputs_of, outputs_of}
use Rattle.law_node.proofs.Buckets.{buckets-are}
use Rattle.node_core.specs.Milling.{CanMill, CanMillNode, next_buckets, CanBeMilled, IsEngineAt, IsWorkAt, IsOrderOf}
use Rattle.node_core.specs.Standing.{NodeValue, StandsForNode}
use Rattle.node_core.proofs.Milled.{ready-at, can-mill-path}

-- the engine of the data path is the plain node's
pub engine-at : (home : Home) (v : NodeValue) (p : PlainNode) (m : MillState) → StandsForNode home v p → (IsEngineOf (spec_of home).ops v.path.union.width (inputs_of p) m ↔ IsEngineAt home p m)
engine-at home v p m h = (
  λ e. subst (λ (w : ℕ). IsEngineOf (spec_of home).ops w (inputs_of p) m) h.setting.width e,
  λ e. subst (λ (w : ℕ). IsEngineOf (spec_of home).ops w (inputs_of p) m) (sym h.setting.width) e,
)

-- the next buckets of the data path are the plain node's
pub next-are : (home : Home) (v : NodeValue) (p : PlainNode) (count : ℕ) → CanMill count home v p → buckets_from v.path.union.width (inputs_of p) p.cursor count ≡ next_buckets home p count
next-are home v p count can =
    ap (λ (w : ℕ). buckets_from w (inputs_of p) p.cursor count) can.stands.setting.width ∙ sym (buckets-are home p p.cursor count)

low-count : (a w : ℕ) → 0 < w → a * w < 2 ^ 64 → a < 2 ^ 64
low-count a w pos h = grind (arith, common_steps, pos, h)

-- so many ready buckets with the engine at the cursor can be milled
pub order-stands : (home : Home) (v : NodeValue) (p : PlainNode) (count : ℕ) (o : OrderValue MillState) → 1 ≤ count → count ≤ most_milled → CanMill count home v p → o.cursor ≡ v.path.union.union.cursor →
    IsEngineOf (spec_of home).ops v.path.union.width (inputs_of p) o.before → o.buckets ≡ buckets_from v.path.union.width (inputs_of p) p.cursor count → CanBeMilled o
order-stands home v p count o some few can at engine are =
    let h = can.stands in
    let w = v.path.union.width in
    let ready = ready-at home v p count some can in
    let many : length o.buckets ≡ count = ap length are ∙ count-buckets w (inputs_of p) p.cursor count in
    let cursor : o.cursor ≡ p.cursor = at ∙ h.path.ports.cursor in
    let end : (p.cursor + count) * w < 2 ^ 64 = subst (λ (k : ℕ). (p.cursor + count) * k < 2 ^ 64) (sym h.setting.width) ready.end in
    let low = low-count (p.cursor + count) w h.path.some end in
    record {
      begins = cursor ∙ sym engine.took.next;
      fresh = engine.of.unspent;
      some = omega (arith, many, some);
      few = omega (arith, many, few);
      range = omega (arith, many, cursor, low);
      accepts = subst (λ (k : ℕ). AcceptsAll (Some k) o.cursor o.buckets) (sym engine.of.wide)
          (subst (λ (k : ℕ). AcceptsAll (Some w) k o.buckets) (sym cursor) (subst (λ (bs : List (List Tagged)). AcceptsAll (Some w) p.cursor bs) (sym are) (buckets-accepted w (inputs_of p) p.cursor count end)));
    }

-- and they are work for it
pub order-work : (home : Home) (v : NodeValue) (p : PlainNode) (count : ℕ) (o : OrderValue MillState) → CanMill count home v p → o.inc ≡ v.links.known.grants.inc → o.cursor ≡ v.path.union.union.cursor →
    IsEngineOf (spec_of home).ops v.path.union.width (inputs_of p) o.before → o.buckets ≡ buckets_from v.path.union.width (inputs_of p) p.cursor count → IsWorkAt home p o
order-work home v p count o can inc at engine are =
    let h = can.stands in
    let many : length o.buckets ≡ count = ap length are ∙ count-buckets v.path.union.width (inputs_of p) p.cursor count in
    record {
      inc = inc ∙ ap (λ (x : Neighbours). x.grants.inc) h.links;
      cursor = at ∙ h.path.ports.cursor;
      fits = record {
        engine = (engine-at home v p o.before h).0 engine;
        ready = subst (λ (k : ℕ). k ≤ ready home p) (sym many) can.ready;
        buckets = are ∙ next-are home v p count can ∙ ap (λ (k : ℕ). next_buckets home p k) (sym many);
      };
    }

-- an order that a node hands out
pub order-of : (v : NodeValue) (count : ℕ) (o : OrderValue MillState) → CanMillNode count v → o.node ≡ nth 0 v.links.replicas v.links.me → o.inc ≡ v.links.known.grants.inc → o.cursor ≡ v.path.union.union.cursor →
    ((ops : List OpSpec) (x : Inputs) (out : Outputs) → CanMillPath ops v.path x out count → IsEngineOf ops v.path.union.width x o.before) →
    ((ops : List OpSpec) (x : Inputs) (out : Outputs) → CanMillPath ops v.path x out count → o.buckets ≡ buckets_from v.path.union.width x x.cursor count) → IsOrderOf v count o
order-of v count o can_mill own inc at engines buckets =
    let home = can_mill.node.0 in
    let p = can_mill.node.1 in
    let are : (home : Home) → (p : PlainNode) → CanMill count home v p → o.buckets ≡ buckets_from v.path.union.width (inputs_of p) p.cursor count =
    λ home p can. buckets (spec_of home).ops (inputs_of p) (outputs_of p) (can-mill-path home v p count can_mill.some can) in
    let engine : (home : Home) → (p : PlainNode) → CanMill count home v p → IsEngineOf (spec_of home).ops v.path.union.width (inputs_of p) o.before =
    λ home p can. engines (spec_of home).ops (inputs_of p) (outputs_of p) (can-mill-path home v p count can_mill.some can) in
    record {
      node = own;
      many = ap length (are home p can_mill.node.2) ∙ count-buckets v.path.union.width (inputs_of p) p.cursor count;
      work = λ home p can. order-work home v p count o can inc at (engine home p can) (are home p can);
      can = order-stands home v p count o can_mill.some can_mill.few can_mill.node.2 at (engine home p can_mill.node.2) (are home p can_mill.node.2);
    }
