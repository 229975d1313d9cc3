-- The cursors that nodes must reach in a phase: milling its ready buckets, a node reaches its own, and no later event undoes that.
use Rattle.std.proofs.Common.{◌≡◌, ℕ, zero, suc, ◌+◌, ◌-◌, ◌/◌, ◌≤◌, Bool, true, false, not, cond, ◌&&◌, ◌==◌, nat_le, List, [], ◌∷◌, map, refl, sym, ap, subst, ◌∙◌, arith, Option, Some, None, slice_get, unwrap_or}
use Rattle.dpc_lists.specs.Lists.{nth, changed, is_nil, least}
use Rattle.dpc_model.specs.Actors.{role_of}
use Rattle.dpc_model.specs.declared.actors.Role.{Role}
use Rattle.dpc_model.specs.declared.actors.Role.TheVariants.{Source as IsSource, Node as IsNode, Client as IsClient, Nobody}
use Rattle.dpc_model.specs.Ports.{Port, held_at}
use Rattle.dpc_model.specs.Reading.{Reader}
use Rattle.dpc_model.specs.declared.messages.Event.TheVariants.{Mill}
use Rattle.dpc_model.specs.declared.plans.Plan.{Plan}
use Rattle.node_model.specs.Mails.{Stepped}
use Rattle.node_model.specs.Nodes.{Home, PlainNode, complete_upto, ready}
use Rattle.node_model.specs.NodeSteps.{mill_step}
use Rattle.world_model.specs.Worlds.{World, Slot, home_of, node_place, slot_of, node_role, node_at, node_stepped, node_mills, mills, ready_in, ready_role, ready_at, happens}
use Rattle.world_model.specs.Schedules.{target_of, is_recovering, targets_left, may_mill}
use Rattle.dpc_lists.proofs.Truths.{both, le-of, eq-of, eq-test, true-not-false}
use Rattle.dpc_lists.proofs.Elements.{get-changed}
use Rattle.law_safety.proofs.Numbering.{same-actor}
use Rattle.law_schedules.proofs.Nodes.{IsMilled, milled-moves}
use Rattle.law_schedules.proofs.Calm.{no_slot, node_in, IsZeroedAt, AreZeroed, IsCalmAt, IsCalm, mill-calm}

-- ---- a target

-- a node that is up, with so many buckets to come, reaches the goal
abbrev pub Meets : Option PlainNode → ℕ → ℕ → Type 0
Meets None goal more = Unit {0}
Meets (Some n) goal more = goal ≤ n.cursor + more

abbrev pub AllMet : World → (ℕ → ℕ) → List (ℕ × ℕ) → Type 0
AllMet w more [] = Unit {0}
AllMet w more (t ∷ ts) = Meets (node_at w t.0) t.1 (more t.0) × AllMet w more ts

-- the targets of a world are met by what is ready in it
pub targets-met : (w : World) (ids : List ℕ) → AllMet w (ready_at w) (map (target_of w) ids)
targets-met w [] = tt
targets-met w (a ∷ ids) = (by-node (node_at w a), targets-met w ids)
  where
    by-node : (o : Option PlainNode) → Meets o (elim o [ None ↦ 0 | Some n ↦ n.cursor + ready_at w a ]) (ready_at w a)
    by-node None = tt
    by-node (Some n) = omega arith

-- a step that keeps each target of a node that does not recover keeps those that are left
pub left-met : (w v : World) (f g : ℕ → ℕ) → ((b goal : ℕ) → is_recovering v b ≡ false → Meets (node_at w b) goal (f b) → Meets (node_at v b) goal (g b)) →
    (ts : List (ℕ × ℕ)) → AllMet w f ts → AllMet v g (targets_left v ts)
left-met w v f g keeps [] h = tt
left-met w v f g keeps (t ∷ ts) h =
    (elim (is_recovering v t.0) as (λ b. is_recovering v t.0 ≡ b → AllMet v g (cond (not b) (t ∷ targets_left v ts) (targets_left v ts))) [
      | true ↦ λ e. left-met w v f g keeps ts h.1
      | false ↦ λ e. (keeps t.0 t.1 e h.0, left-met w v f g keeps ts h.1)
    ]) refl

-- the node at an actor, before and behind a calm event
calm-at : (w v : World) → IsCalm w v → (b : ℕ) → IsCalmAt (node_at w b) (node_at v b)
calm-at w v c b = subst (λ (plan : Plan). IsCalmAt (node_at w b) (node_role v b (role_of plan b))) (sym c.plan) (by-role (role_of w.plan b))
  where
    by-role : (x : Role) → IsCalmAt (node_role w b x) (node_role v b x)
    by-role (IsNode f r) = subst (λ (plan : Plan). IsCalmAt (slot_of w b).node (node_in v.nodes (node_place plan b))) (sym c.plan) (c.slots (node_place w.plan b))
    by-role (IsSource s) = tt
    by-role (IsClient d) = tt
    by-role Nobody = tt

zeroed-at : (w : World) → AreZeroed w.nodes → (b : ℕ) → IsZeroedAt (node_at w b)
zeroed-at w z b = by-role (role_of w.plan b)
  where
    by-role : (x : Role) → IsZeroedAt (node_role w b x)
    by-role (IsNode f r) = z (node_place w.plan b)
    by-role (IsSource s) = tt
    by-role (IsClient c) = tt
    by-role Nobody = tt

pub calm-meets : (w v : World) → AreZeroed w.nodes → IsCalm w v → (b goal : ℕ) → is_recovering v b ≡ false → Meets (node_at w b) goal 0 → Meets (node_at v b) goal 0
calm-meets w v z c b goal up h = by-nodes (node_at w b) (node_at v b) (calm-at w v c b) (zeroed-at w z b) up h
  where
    by-nodes : (o p : Option PlainNode) → IsCalmAt o p → IsZeroedAt o → (elim p [ None ↦ true | Some n ↦ n.recovering ]) ≡ false → Meets o goal 0 → Meets p goal 0
    by-nodes None None k y e g = tt
    by-nodes None (Some m) k y e g = absurd k
    by-nodes (Some n) None k y e g = absurd k
    by-nodes (Some n) (Some m) k y e g = let more = k.cursor y e in omega (arith, more, g)

-- ---- places

changed-apart : (k i : ℕ) (f : Slot → Slot) (xs : List Slot) → (k ≡ i → ⊥) → nth no_slot (changed k f xs) i ≡ nth no_slot xs i
changed-apart k i f [] h = refl
changed-apart zero zero f (x ∷ xs) h = absurd (h refl)
changed-apart zero (suc i) f (x ∷ xs) h = refl
changed-apart (suc k) zero f (x ∷ xs) h = refl
changed-apart (suc k) (suc i) f (x ∷ xs) h = changed-apart k i f xs (λ e. h (ap suc e))

-- a step of one node: its own slot and the others
pub stepped-here : (w : World) (a : ℕ) (n : PlainNode) (s : Stepped PlainNode) → (slot_of w a).node ≡ Some n → (slot_of (node_stepped a s w) a).node ≡ Some s.after
stepped-here w a n s up = by-slot (slice_get w.nodes (node_place w.plan a)) refl
  where
    by-slot : (o : Option Slot) → slice_get w.nodes (node_place w.plan a) ≡ o → (slot_of (node_stepped a s w) a).node ≡ Some s.after
    by-slot None e = let none = sym (ap (λ (o : Option Slot). Slot.node (unwrap_or o no_slot)) e) ∙ up in cc
    by-slot (Some x) e = ap (λ (o : Option Slot). Slot.node (unwrap_or o no_slot)) (get-changed (node_place w.plan a) (λ (slot : Slot). record slot { node = Some s.after }) w.nodes x e)

pub stepped-apart : (w : World) (a b : ℕ) (s : Stepped PlainNode) → (node_place w.plan a ≡ node_place w.plan b → ⊥) → slot_of (node_stepped a s w) b ≡ slot_of w b
stepped-apart w a b s h = changed-apart (node_place w.plan a) (node_place w.plan b) (λ (slot : Slot). record slot { node = Some s.after }) w.nodes h

-- ---- milling

complete-same : (home : Home) (n m : PlainNode) → m.ports ≡ n.ports → complete_upto home m ≡ complete_upto home n
complete-same home n m e = ap (λ (ports : List Port). least 0 (map (λ (r : Reader). r.bound / home.plan.width) (map held_at ports))) e

milled-ready : (home : Home) (r : ℕ) (n m : PlainNode) → IsMilled r n m → ready home m ≡ ready home n - r
unfolding ready
milled-ready home r n m h =
    rw (h.also, h.closed, h.moved, complete-same home n m h.ports) (by-cases n.recovering (is_nil n.closed) (complete_upto home n) n.cursor)
  where
    by-cases : (b c : Bool) (x y : ℕ) → cond b 0 (cond c (x - (y + r)) 0) ≡ cond b 0 (cond c (x - y) 0) - r
    by-cases true c x y = omega arith
    by-cases false true x y = omega arith
    by-cases false false x y = omega arith

-- what milling leaves
pub record IsMilledAt (w : World) (a r : ℕ) (v : World) : Type 0 where
  pub calm : IsCalm w v
  pub own : ready_at v a ≡ ready_at w a - r
  pub others : (b : ℕ) → (b ≡ a → ⊥) → ready_at v b ≡ ready_at w b
  pub meets : (b goal : ℕ) → Meets (node_at w b) goal (ready_at w b) → Meets (node_at v b) goal (ready_at v b)

pub none-mills : (r k : ℕ) → nat_le 1 r && nat_le r 16 && nat_le r k ≡ true → k ≡ 0 → ⊥
none-mills r k h e =
    let p = both (nat_le 1 r && nat_le r 16) (nat_le r k) h in
    let low = le-of 1 r (both (nat_le 1 r) (nat_le r 16) p.0).0 in
    let high = le-of r k p.1 in absurd (omega (arith, low, high, e))

stepped-at : (w : World) (a f q r : ℕ) (n : PlainNode) → role_of w.plan a ≡ IsNode f q → (slot_of w a).node ≡ Some n →
    IsCalm w (node_stepped a (mill_step (home_of w.plan (f, q)) r n) w) → IsMilledAt w a r (node_stepped a (mill_step (home_of w.plan (f, q)) r n) w)
stepped-at w a f q r n role up calm = record { calm = calm; own = own; others = others; meets = meets }
  where
    home : Home
    home = home_of w.plan (f, q)

    m : PlainNode
    m = (mill_step home r n).after

    v : World
    v = node_stepped a (mill_step home r n) w

    here : (slot_of v a).node ≡ Some m
    here = stepped-here w a n (mill_step home r n) up

    apart : (b : ℕ) → (node_place w.plan a ≡ node_place w.plan b → ⊥) → slot_of v b ≡ slot_of w b
    apart b h = stepped-apart w a b (mill_step home r n) h

    own : ready_at v a ≡ ready_at w a - r
    own = rw (role, here, up) (milled-ready home r n m (milled-moves home r n))

    others : (b : ℕ) → (b ≡ a → ⊥) → ready_at v b ≡ ready_at w b
    others b h = by-role (role_of w.plan b) refl
      where
        by-role : (x : Role) → role_of w.plan b ≡ x → ready_role v b x ≡ ready_role w b x
        by-role (IsSource s) e = refl
        by-role (IsNode g p) e = ap (λ (s : Slot). ready_in (home_of w.plan (g, p)) s.node) (apart b (λ same. h (same-actor w.plan b a g p f q e role (sym same))))
        by-role (IsClient c) e = refl
        by-role Nobody e = refl

    meets : (b goal : ℕ) → Meets (node_at w b) goal (ready_at w b) → Meets (node_at v b) goal (ready_at v b)
    meets b goal = by-role (role_of w.plan b)
      where
        moves : IsMilled r n m
        moves = milled-moves home r n

        by-role : (x : Role) → Meets (node_role w b x) goal (ready_role w b x) → Meets (node_role v b x) goal (ready_role v b x)
        by-role (IsSource s) k = tt
        by-role (IsClient c) k = tt
        by-role Nobody k = tt
        by-role (IsNode g p) k =
            (elim (node_place w.plan a == node_place w.plan b) as (λ t. (node_place w.plan a == node_place w.plan b) ≡ t → Meets (slot_of v b).node goal (ready_in other (slot_of v b).node)) [
              | false ↦ λ e. subst (λ (slot : Slot). Meets slot.node goal (ready_in other slot.node)) (sym (apart b (λ same. true-not-false (sym (eq-test _ _ same) ∙ e)))) k
              | true ↦ λ e. same-place (eq-of (node_place w.plan a) (node_place w.plan b) e)
            ]) refl
          where
            other : Home
            other = home_of w.plan (g, p)

            same-place : node_place w.plan a ≡ node_place w.plan b → Meets (slot_of v b).node goal (ready_in other (slot_of v b).node)
            same-place same =
                let moved = moves.moved in
                let before : (slot_of w b).node ≡ Some n = ap (λ (i : ℕ). node_in w.nodes i) (sym same) ∙ up in
                let behind : (slot_of v b).node ≡ Some m = ap (λ (i : ℕ). node_in v.nodes i) (sym same) ∙ here in
                let old : goal ≤ n.cursor + ready other n = subst (λ (o : Option PlainNode). Meets o goal (ready_in other o)) before k in
                let less = milled-ready other r n m moves in
                let new : goal ≤ m.cursor + ready other m = omega (arith, moved, old, less) in
                subst (λ (o : Option PlainNode). Meets o goal (ready_in other o)) (sym behind) new

pub mill-at : (w : World) (a r : ℕ) → may_mill w a r ≡ true → IsMilledAt w a r (happens w (Mill a r))
mill-at w a r h = by-role (role_of w.plan a) refl h (mill-calm w a r)
  where
    by-role : (x : Role) → role_of w.plan a ≡ x → nat_le 1 r && nat_le r 16 && nat_le r (ready_role w a x) ≡ true → IsCalm w (mills w a r (role_of w.plan a)) → IsMilledAt w a r (mills w a r (role_of w.plan a))
    by-role (IsSource s) e k c = absurd (none-mills r 0 k refl)
    by-role (IsClient s) e k c = absurd (none-mills r 0 k refl)
    by-role Nobody e k c = absurd (none-mills r 0 k refl)
    by-role (IsNode f q) e k c = rw e (by-node (slot_of w a).node refl k (rw e at c))
      where
        home : Home
        home = home_of w.plan (f, q)

        by-node : (o : Option PlainNode) → (slot_of w a).node ≡ o → nat_le 1 r && nat_le r 16 && nat_le r (ready_in home o) ≡ true → IsCalm w (node_mills w a r home (slot_of w a).node) →
            IsMilledAt w a r (node_mills w a r home (slot_of w a).node)
        by-node None up g d = absurd (none-mills r 0 g refl)
        by-node (Some n) up g d =
            let is : node_mills w a r home (slot_of w a).node ≡ node_stepped a (mill_step home r n) w = rw (up, g) refl in
            subst (λ (v : World). IsMilledAt w a r v) (sym is) (stepped-at w a f q r n e up (subst (λ (v : World). IsCalm w v) is d))
