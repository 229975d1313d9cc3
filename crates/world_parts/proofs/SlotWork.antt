-- Work that a node's place hands out, and that comes back to it.
use Rattle.std.proofs.Common.{◌≡◌, ℕ, false, refl, sym, ap, subst, ◌∙◌, Option, Some, None}
use Rattle.std.specs.Prelude.{IfSome, min}
use Rattle.dpc_model.specs.Limits.{most_milled}
use Rattle.fragment_mill.specs.Mills.{MillState}
use Rattle.mill_work.specs.Milling.{OrderValue}
use Rattle.node_model.specs.Nodes.{Home, PlainNode, ready}
use Rattle.node_model.specs.Fitting.{IsFit}
use Rattle.node_core.specs.declared.faults.Point.{Point}
use Rattle.node_core.specs.Milling.{IsOrderOf, WasStale}
use Rattle.node_core.specs.Standing.{NodeValue, StandsForNode}
use Rattle.world_model.specs.Worlds.{Slot, ready_in}
use Rattle.world_parts.specs.Parts.{SlotValue, StandsForUp}
use Rattle.world_parts.specs.Slots.{CanStep}
use Rattle.world_parts.specs.Handing.{IsSlotOrder, IsElsewhere, IsSlotStale}

-- a plain node that is up, and that this one stands for
pub record IsPlainOf (home : Home) (n : NodeValue) (o : Option PlainNode) : Type 0 where
  pub plain : PlainNode
  pub is : o ≡ Some plain
  pub stands : StandsForNode home n plain
  pub fit : IsFit home plain
  pub fresh : n.spent ≡ false

up-plain : (home : Home) (n : NodeValue) (o : Option PlainNode) → StandsForUp home (Some n) o → IfSome o (λ p. IsFit home p) → IsPlainOf home n o
up-plain home n None h f = absurd h
up-plain home n (Some p) h f = record { plain = p; is = refl; stands = h.0; fit = f; fresh = h.1 }

pub slot-plain : (home : Home) (v : SlotValue) (x : Slot) (n : NodeValue) → v.node ≡ Some n → CanStep home v x → IsPlainOf home n x.node
slot-plain home v x n is can = up-plain home n x.node (subst (λ (o : Option NodeValue). StandsForUp home o x.node) is can.stands.node) can.fit

-- an order for them is an order of the place
pub slot-order : (v : SlotValue) (n : NodeValue) (told count : ℕ) (o : OrderValue MillState) → v.node ≡ Some n →
    ((home : Home) (p : PlainNode) → StandsForNode home n p → told ≡ ready home p) → count ≡ min most_milled told → IsOrderOf n count o → IsSlotOrder v o
slot-order v n told count o is ready least of =
    record {
      from = n;
      up = is;
      of = subst (λ (k : ℕ). IsOrderOf n k o) (sym of.many) of;
      count = λ home x can.
          let up = slot-plain home v x n is can in
          of.many ∙ least ∙ ap (λ (k : ℕ). min most_milled k) (ready home up.plain up.stands) ∙ ap (λ (p : Option PlainNode). min most_milled (ready_in home p)) (sym up.is);
    }

-- where its node stands elsewhere it is stale
pub slot-stale : (v : SlotValue) (n : NodeValue) (o : OrderValue MillState) (had needed : Point) → v.node ≡ Some n → WasStale o n n had needed → IsSlotStale v o had needed
slot-stale v n o had needed is h =
    record { asked = h.asked; beside = subst (λ (k : Option NodeValue). IsElsewhere v.last_inc k o had needed) (sym is) (record { stale = h.stale; beside = h.beside }) }
