-- Milling moves one node's cursor on, and no other's.
use Rattle.std.proofs.Common.{◌≡◌, ℕ, ◌+◌, true, ◌&&◌, nat_le, refl, sym, ap, subst, ◌∙◌, Option, Some, None}
use Rattle.dpc_model.specs.Actors.{role_of}
use Rattle.dpc_model.specs.declared.actors.Role.{Role}
use Rattle.dpc_model.specs.declared.actors.Role.TheVariants.{Source as IsSource, Node as IsNode, Client as IsClient, Nobody}
use Rattle.dpc_model.specs.declared.messages.Event.TheVariants.{Mill}
use Rattle.node_model.specs.Nodes.{Home, PlainNode}
use Rattle.node_model.specs.NodeSteps.{mill_step}
use Rattle.world_model.specs.Worlds.{World, Slot, home_of, slot_of, node_role, node_at, node_stepped, node_mills, mills, ready_in, ready_role, happens}
use Rattle.world_model.specs.Schedules.{may_mill}
use Rattle.law_safety.proofs.Numbering.{same-actor}
use Rattle.law_schedules.proofs.Nodes.{milled-moves}
use Rattle.law_schedules.proofs.Targets.{stepped-here, stepped-apart, none-mills}

-- one node's cursor goes on by r buckets
pub record MillsOne (w : World) (a r : ℕ) (v : World) : Type 0 where
  pub is_up : node_at w a ≡ None → ⊥
  pub own : (n : PlainNode) → node_at w a ≡ Some n → (m : PlainNode) × ((node_at v a ≡ Some m) × (m.cursor ≡ n.cursor + r))
  pub apart : (b : ℕ) → (b ≡ a → ⊥) → node_at v b ≡ node_at w b

milled-one : (w : World) (a f q r : ℕ) (n : PlainNode) → role_of w.plan a ≡ IsNode f q → (slot_of w a).node ≡ Some n → MillsOne w a r (node_stepped a (mill_step (home_of w.plan (f, q)) r n) w)
milled-one w a f q r n role up =
    record {
      is_up = λ e. some-none (sym (ap (λ (x : Role). node_role w a x) role ∙ up) ∙ e);
      own = λ o e.
          let here : node_at w a ≡ Some n = ap (λ (x : Role). node_role w a x) role ∙ up in
          let same : o ≡ n = some-same (sym e ∙ here) in
          ((mill_step home r n).after, (ap (λ (x : Role). node_role v a x) role ∙ stepped-here w a n (mill_step home r n) up, (milled-moves home r n).moved ∙ ap (λ (x : PlainNode). x.cursor + r) (sym same)));
      apart = λ b h. by-role b h (role_of w.plan b) refl;
    }
  where
    home : Home
    home = home_of w.plan (f, q)

    v : World
    v = node_stepped a (mill_step home r n) w

    some-none : {x : PlainNode} → ◌≡◌ {A = Option PlainNode} (Some x) None → ⊥
    some-none {x = x} e = cc

    some-same : {x y : PlainNode} → ◌≡◌ {A = Option PlainNode} (Some x) (Some y) → x ≡ y
    some-same {x = x} {y = y} e = cc

    by-role : (b : ℕ) → (b ≡ a → ⊥) → (x : Role) → role_of w.plan b ≡ x → node_role v b x ≡ node_role w b x
    by-role b h (IsSource s) e = refl
    by-role b h (IsNode g p) e = ap (λ (s : Slot). s.node) (stepped-apart w a b (mill_step home r n) (λ same. h (same-actor w.plan b a g p f q e role (sym same))))
    by-role b h (IsClient c) e = refl
    by-role b h Nobody e = refl

pub mills-one : (w : World) (a r : ℕ) → may_mill w a r ≡ true → MillsOne w a r (happens w (Mill a r))
mills-one w a r h = by-role (role_of w.plan a) refl h
  where
    by-role : (x : Role) → role_of w.plan a ≡ x → nat_le 1 r && nat_le r 16 && nat_le r (ready_role w a x) ≡ true → MillsOne w a r (mills w a r (role_of w.plan a))
    by-role (IsSource s) e k = absurd (none-mills r 0 k refl)
    by-role (IsClient s) e k = absurd (none-mills r 0 k refl)
    by-role Nobody e k = absurd (none-mills r 0 k refl)
    by-role (IsNode f q) e k = rw e (by-node (slot_of w a).node refl k)
      where
        home : Home
        home = home_of w.plan (f, q)

        by-node : (o : Option PlainNode) → (slot_of w a).node ≡ o → nat_le 1 r && nat_le r 16 && nat_le r (ready_in home o) ≡ true → MillsOne w a r (node_mills w a r home (slot_of w a).node)
        by-node None up g = absurd (none-mills r 0 g refl)
        by-node (Some n) up g =
            let is : node_mills w a r home (slot_of w a).node ≡ node_stepped a (mill_step home r n) w = rw (up, g) refl in
            subst (λ (v : World). MillsOne w a r v) (sym is) (milled-one w a f q r n e up)
