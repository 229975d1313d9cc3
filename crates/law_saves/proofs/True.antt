-- What was saved last was handed out somewhere on the way, so it is true.
use Rattle.std.proofs.Common.{◌≡◌, ◌⊎◌, ℕ, ◌*◌, Bool, true, false, if◌then◌else◌, List, [], ◌∷◌, Option, Some, None, unwrap_or, inl, inr, refl, sym, ap, subst, ◌∙◌}
use Rattle.std.proofs.lemmas.Option.{none-some}
use Rattle.dpc_model.specs.Actors.{role_of}
use Rattle.dpc_model.specs.Fragments.{ideal_upto}
use Rattle.dpc_model.specs.declared.actors.Role.TheVariants.{Node as IsNode}
use Rattle.dpc_model.specs.declared.actors.Role.{Role}
use Rattle.dpc_model.specs.declared.messages.Event.{Event}
use Rattle.dpc_model.specs.declared.plans.Plan.{Plan}
use Rattle.dpc_model.specs.declared.plans.StreamRef.TheVariants.{Frag}
use Rattle.node_model.specs.Mails.{Snap}
use Rattle.node_model.specs.Nodes.{Home, PlainNode, out_stable}
use Rattle.node_model.specs.NodeSteps.{snapshot}
use Rattle.node_model.specs.Stands.{snap_output}
use Rattle.world_model.specs.Worlds.{World, new_world, home_of, slot_of, happens, run, run_from}
use Rattle.law_safety.specs.Plans.{IsCheckedPlan}
use Rattle.law_safety.proofs.Growing.{run-plan}
use Rattle.law_safety.proofs.Promises.{outputs-right}
use Rattle.law_saves.specs.Saves.{snap_in, role_snap, snap_at, later, ends_phase, saved_from, saved_before, saved_last}

by-now : (a : ℕ) (w : World) (last : Option Snap) (s : Snap) (now : Option Snap) → snap_at w a ≡ now → later last now ≡ Some s
    → (last ≡ Some s) ⊎ ((before : List Event) × (snap_at (run_from w before) a ≡ Some s))
by-now a w last s None none at = inl at
by-now a w last s (Some t) some at = inr ([], some ∙ at)

by-phase : (a : ℕ) (w : World) (last : Option Snap) (s : Snap) (b : Bool) → (if b then later last (snap_at w a) else last) ≡ Some s
    → (last ≡ Some s) ⊎ ((before : List Event) × (snap_at (run_from w before) a ≡ Some s))
by-phase a w last s true at = by-now a w last s (snap_at w a) refl at
by-phase a w last s false at = inl at

-- it was there at the start, or a node could save it on the way
pub from-some : (a : ℕ) (w : World) (last : Option Snap) (events : List Event) (s : Snap) → saved_from a w last events ≡ Some s
    → (last ≡ Some s) ⊎ ((before : List Event) × (snap_at (run_from w before) a ≡ Some s))
from-some a w last [] s is = inl is
from-some a w last (e ∷ events) s is =
    elim (from-some a (happens w e) (if ends_phase e then later last (snap_at w a) else last) events s is) [
      | inr on ↦ inr (e ∷ on.0, on.1)
      | inl at ↦ by-phase a w last s (ends_phase e) at
    ]

before-some : (plan : Plan) (events : List Event) (a : ℕ) (s : Snap) → saved_before plan events a ≡ Some s
    → (before : List Event) × (snap_at (run plan before) a ≡ Some s)
unfolding saved_before run
before-some plan events a s is = elim (from-some a (new_world plan) None events s is) [ inl none ↦ absurd (none-some s none) | inr at ↦ at ]

last-by : (plan : Plan) (events : List Event) (a : ℕ) (s : Snap) (now : Option Snap) → snap_at (run plan events) a ≡ now
    → later (saved_before plan events a) now ≡ Some s → (before : List Event) × (snap_at (run plan before) a ≡ Some s)
last-by plan events a s None none at = before-some plan events a s at
last-by plan events a s (Some t) some at = (events, some ∙ at)

-- what was saved last could be saved at some moment
pub last-some : (plan : Plan) (events : List Event) (a : ℕ) (s : Snap) → saved_last plan events a ≡ Some s
    → (before : List Event) × (snap_at (run plan before) a ≡ Some s)
last-some plan [] a s is = absurd (none-some s is)
last-some plan (e ∷ events) a s is = last-by plan (e ∷ events) a s (snap_at (run plan (e ∷ events)) a) refl is

-- what a node that is up and does not recover could save
pub record Hands (home : Home) (node : Option PlainNode) (s : Snap) : Type 0 where
  pub node_is : PlainNode
  pub up : node ≡ Some node_is
  pub well : node_is.recovering ≡ false
  pub snap : s ≡ snapshot home node_is

hands-by : (home : Home) (p : PlainNode) (s : Snap) (b : Bool) → p.recovering ≡ b → (if b then None else Some (snapshot home p)) ≡ Some s → Hands home (Some p) s
hands-by home p s true is e = absurd (none-some s e)
hands-by home p s false is e = record { node_is = p; up = refl; well = is; snap = sym (ap (λ (o : Option Snap). unwrap_or o s) e) }

pub hands : (home : Home) (node : Option PlainNode) (s : Snap) → snap_in home node ≡ Some s → Hands home node s
hands home None s e = absurd (none-some s e)
hands home (Some p) s e = hands-by home p s p.recovering refl e

-- and its output is the failure-free one
pub is-true : (plan : Plan) (events : List Event) (a f r : ℕ) (s : Snap) → IsCheckedPlan plan → role_of plan a ≡ IsNode f r → saved_last plan events a ≡ Some s
    → snap_output (home_of plan (f, r)) s ≡ ideal_upto plan (Frag f) (s.cursor * plan.width)
unfolding out_stable
is-true plan events a f r s checked role is =
    let at = last-some plan events a s is in
    let w = run plan at.0 in
    let same : w.plan ≡ plan = run-plan plan at.0 in
    let here : snap_in (home_of w.plan (f, r)) (slot_of w a).node ≡ Some s
    = subst (λ (x : Role). role_snap w a x ≡ Some s) (ap (λ (q : Plan). role_of q a) same ∙ role) at.1 in
    let known : snap_in (home_of plan (f, r)) (slot_of w a).node ≡ Some s
    = subst (λ (q : Plan). snap_in (home_of q (f, r)) (slot_of w a).node ≡ Some s) same here in
    let h = hands (home_of plan (f, r)) (slot_of w a).node s known in
    let right = outputs-right plan at.0 checked a f r h.node_is role h.up h.well in
    subst (λ (x : Snap). snap_output (home_of plan (f, r)) x ≡ ideal_upto plan (Frag f) (x.cursor * plan.width)) (sym h.snap) right
