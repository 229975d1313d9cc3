-- How many buckets are ready, and which are the last corrections.
use Rattle.std.proofs.Common.{◌≡◌, ℕ, ◌+◌, ◌-◌, ◌≤◌, Bool, true, false, ◌==◌, List, refl, sym, ap, subst, ◌∙◌, arith}
use Rattle.std.proofs.lemmas.Grind.{common_steps}
use Rattle.std.specs.Prelude.{if◌then◌else◌}
use Rattle.dpc_lists.specs.Lists.{is_nil}
use Rattle.dpc_model.specs.Parts.{Inputs, Outputs}
use Rattle.dpc_model.specs.declared.operators.OpSpec.{OpSpec}
use Rattle.pipeline.specs.Committing.{ready_in}
use Rattle.pipeline.specs.Flowing.{PipelineValue, StandsForData}
use Rattle.node_model.specs.Nodes.{Home, spec_of, PlainNode, complete_buckets, ready}
use Rattle.node_model.specs.NodeSteps.{after_stable_buckets}
use Rattle.node_model.specs.NodeParts.{inputs_of, outputs_of}
use Rattle.law_node.proofs.Buckets.{ready-is}
use Rattle.node_core.specs.Milling.{CanMill}
use Rattle.node_core.specs.Standing.{NodeValue, StandsForNode}

-- what the data path tells
abbrev pub TellsReady : PipelineValue → ℕ → Type 0
TellsReady path k = (ops : List OpSpec) → (x : Inputs) → (o : Outputs) → StandsForData ops path x o → k ≡ ready_in path.union.width x

-- none is ready while a node recovers
pub none-ready : (home : Home) (v : NodeValue) (p : PlainNode) → StandsForNode home v p → v.recovering ≡ true → 0 ≡ ready home p
unfolding ready
none-ready home v p h e = let up : p.recovering ≡ true = sym h.recovering ∙ e in rw up refl

-- and else as many as the data path has
pub all-ready : (home : Home) (v : NodeValue) (p : PlainNode) → StandsForNode home v p → v.recovering ≡ false → ready home p ≡ ready_in v.path.union.width (inputs_of p)
unfolding ready
all-ready home v p h e =
    let up : p.recovering ≡ false = sym h.recovering ∙ e in
    let here : ready home p ≡ complete_buckets home p = rw up refl in
    here ∙ ready-is home p ∙ ap (λ (w : ℕ). ready_in w (inputs_of p)) (sym h.setting.width)

-- never more than that
pub most-ready : (home : Home) (v : NodeValue) (p : PlainNode) → StandsForNode home v p → ready home p ≤ ready_in v.path.union.width (inputs_of p)
most-ready home v p h =
    (elim v.recovering as (λ (b : Bool). v.recovering ≡ b → ready home p ≤ ready_in v.path.union.width (inputs_of p)) [
      | true ↦ λ e. let none = none-ready home v p h e in omega (arith, none)
      | false ↦ λ e. let all = all-ready home v p h e in omega (arith, all)
    ]) refl

pub told-ready : (home : Home) (v : NodeValue) (p : PlainNode) (k : ℕ) → StandsForNode home v p → v.recovering ≡ false → TellsReady v.path k → k ≡ ready home p
told-ready home v p k h e tells = tells (spec_of home).ops (inputs_of p) (outputs_of p) h.path ∙ sym (all-ready home v p h e)

-- ---- the last corrections

-- some bucket is ready: the node serves
pub serves : (home : Home) (v : NodeValue) (p : PlainNode) (count : ℕ) → 1 ≤ count → CanMill count home v p → v.recovering ≡ false
serves home v p count some can =
    (elim v.recovering as (λ (b : Bool). v.recovering ≡ b → b ≡ false) [
      | true ↦ λ e. let none = none-ready home v p can.stands e in let few = can.ready in absurd (omega (arith, none, few, some))
      | false ↦ λ e. refl
    ]) refl

-- behind so many buckets none is ready exactly where so many were
left-ready : (k cursor complete count : ℕ) (closed : Bool) → k ≡ (if closed then complete - cursor else 0) → 1 ≤ count → count ≤ k → (k == count) ≡ ((if closed then complete - (cursor + count) else 0) == 0)
left-ready k cursor complete count true e some few = grind (arith, common_steps, e, some, few)
left-ready k cursor complete count false e some few = absurd (omega (arith, e, some, few))

pub last-ready : (home : Home) (v : NodeValue) (p : PlainNode) (count : ℕ) → 1 ≤ count → CanMill count home v p →
    (ready home p == count) ≡ (ready home (after_stable_buckets home count p) == 0)
unfolding ready
last-ready home v p count some can =
    let up : p.recovering ≡ false = sym can.stands.recovering ∙ serves home v p count some can in
    let m = after_stable_buckets home count p in
    let here : ready home p ≡ complete_buckets home p = rw up refl in
    let behind : ready home m ≡ complete_buckets home m = rw up refl in
    let few : count ≤ complete_buckets home p = subst (λ (k : ℕ). count ≤ k) here can.ready in
    ap (λ (k : ℕ). k == count) here ∙ left-ready (complete_buckets home p) p.cursor (Rattle.node_model.specs.Nodes.complete_upto home p) count (is_nil p.closed) refl some few ∙ ap (λ (k : ℕ). k == 0) (sym behind)
