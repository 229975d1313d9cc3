-- Within a phase a node that does not recover reaches its target, and a finished one stays so.
use Rattle.std.proofs.Common.{◌≡◌, ℕ, zero, suc, ◌+◌, ◌<◌, ◌≤◌, Bool, true, false, cond, not, ◌&&◌, ◌||◌, ◌==◌, nat_lt, nat_le, List, [], ◌∷◌, map, length, refl, sym, ap, subst, ◌∙◌, arith, Option, Some, None}
use Rattle.std.specs.List.{filter}
use Rattle.std.proofs.lemmas.Option.{slice_get_within}
use Rattle.dpc_lists.specs.Lists.{list_all, list_any, range_with_len}
use Rattle.dpc_model.specs.Actors.{role_of, nodes_of}
use Rattle.dpc_model.specs.declared.actors.Role.{Role}
use Rattle.dpc_model.specs.declared.actors.Role.TheVariants.{Source as IsSource, Node as IsNode}
use Rattle.dpc_model.specs.declared.messages.Event.{Event}
use Rattle.dpc_model.specs.declared.messages.Event.TheVariants.{Phase, Emit, Release, Cut, Heal, Crash, Restart, Deliver, Tick, Mill}
use Rattle.dpc_model.specs.declared.plans.Plan.{Plan}
use Rattle.dpc_model.specs.declared.scripts.Script.{Script}
use Rattle.dpc_model.proofs.Numbers.{source-role}
use Rattle.node_model.specs.Nodes.{PlainNode, ready}
use Rattle.world_model.specs.Worlds.{World, home_of, node_place, slot_of, node_at, node_role, ready_at, ready_role, ready_in, happens}
use Rattle.world_model.specs.Schedules.{Progress, next_progress, progress_from, target_of, targets_in, targets_left, is_recovering}
use Rattle.dpc_lists.proofs.Truths.{both, both-of, eq-of, eq-test, lt-of, not-lt, le-of, or-right, true-not-false}
use Rattle.law_safety.proofs.Numbering.{node-at}
use Rattle.law_schedules.proofs.Nodes.{IsCalmNode, delivered-calm, ticked-calm, milled-moves}
use Rattle.world_model.specs.Events.{is_quiet}
use Rattle.law_settling.specs.Phased.{opened}
use Rattle.law_settling.specs.Rests.{RestsAt}
use Rattle.law_settling.proofs.Splitting.{IsQuietAt, no-directives}
use Rattle.law_settling.proofs.Waitings.{done-of}
use Rattle.law_settling.proofs.Rules.{Keeps, kept-full, last-good, some-phase}
use Rattle.law_settling.proofs.Journeys.{IsStep}
use Rattle.law_settling.proofs.Ports.{node-there}
use Rattle.law_settling.proofs.Promises.{IsOpenAt}
use Rattle.law_settling.proofs.Nodes.{NodeWent, Rests, Takes, Ticked, Mills, node-went}

-- a state in which the node does not recover either
pub record IsCalmAt (script : Script) (a : ℕ) (z : Progress) : Type 0 where
  pub here : IsOpenAt script z
  pub calm : RestsAt z.world a

-- a node's cursor is that far
pub record IsPast (a goal : ℕ) (z : Progress) : Type 0 where
  pub node : PlainNode
  pub up : (slot_of z.world a).node ≡ Some node
  pub past : goal ≤ node.cursor

-- the target is still to be met
abbrev pub has_target : ℕ → ℕ → List (ℕ × ℕ) → Bool
has_target a goal ts = list_any (λ (t : ℕ × ℕ). t.0 == a && t.1 == goal) ts

-- ---- lists

range-any : (test : ℕ → ℕ × ℕ) (q : ℕ × ℕ → Bool) (k n a : ℕ) → k ≤ a → a < k + n → q (test a) ≡ true → list_any q (map test (range_with_len k n)) ≡ true
range-any test q k zero a low high h = absurd (omega (arith, low, high))
range-any test q k (suc n) a low high h =
    (elim (k == a) as (λ b. (k == a) ≡ b → (q (test k) || list_any q (map test (range_with_len (k + 1) n))) ≡ true) [
      | true ↦ λ e. let same = eq-of k a e in let here : q (test k) ≡ true = ap (λ (z : ℕ). q (test z)) same ∙ h in ap (λ (b : Bool). b || list_any q (map test (range_with_len (k + 1) n))) here
      | false ↦ λ e.
          let apart : k ≡ a → ⊥ = (λ (same : k ≡ a). let one = eq-test k a same in let clash : true ≡ false = sym one ∙ e in cc) in
          or-right (q (test k)) (list_any q (map test (range_with_len (k + 1) n))) (range-any test q (k + 1) n a (omega (arith, low, apart)) (omega (arith, high)) h)
    ]) refl

-- what passes a filter stays
filter-any : (q keep : ℕ × ℕ → Bool) (ts : List (ℕ × ℕ)) → ((t : ℕ × ℕ) → q t ≡ true → keep t ≡ true) → list_any q ts ≡ true → list_any q (filter keep ts) ≡ true
filter-any q keep [] stays h = cc
filter-any q keep (t ∷ ts) stays h =
    (elim (q t) as (λ b. q t ≡ b → (b || list_any q ts) ≡ true → list_any q (cond (keep t) (t ∷ filter keep ts) (filter keep ts)) ≡ true) [
      | true ↦ λ e d. let kept = stays t e in rw kept (ap (λ (b : Bool). b || list_any q (filter keep ts)) e)
      | false ↦ λ e d.
          let rest = filter-any q keep ts stays d in
          elim (keep t) as (λ b. list_any q (cond b (t ∷ filter keep ts) (filter keep ts)) ≡ true) [ true ↦ or-right (q t) (list_any q (filter keep ts)) rest | false ↦ rest ]
    ]) refl h

-- one that is among those that all pass a test passes it
any-all : (q r : ℕ × ℕ → Bool) (ts : List (ℕ × ℕ)) → list_any q ts ≡ true → list_all r ts ≡ true → (t : ℕ × ℕ) × (q t ≡ true) × (r t ≡ true)
any-all q r [] h k = cc
any-all q r (t ∷ ts) h k =
    let p = both (r t) (list_all r ts) k in
    (elim (q t) as (λ b. q t ≡ b → (b || list_any q ts) ≡ true → (s : ℕ × ℕ) × (q s ≡ true) × (r s ≡ true)) [
      | true ↦ λ e d. (t, e, p.0)
      | false ↦ λ e d. any-all q r ts d p.1
    ]) refl h

-- ---- the targets of a quiet phase

left-next : (script : Script) (z : Progress) (e : Event) → is_quiet e ≡ true → z.todo ≡ [] → (next_progress script z e).targets ≡ targets_left (happens z.world e) z.targets
left-next script z (Phase p) q none = cc
left-next script z (Emit s t) q none = cc
left-next script z (Release s t) q none = cc
left-next script z (Cut a b) q none = cc
left-next script z (Heal a b) q none = cc
left-next script z (Crash a) q none = cc
left-next script z (Restart a i) q none = cc
left-next script z (Deliver k) q none = rw none refl
left-next script z (Tick a now) q none = rw none refl
left-next script z (Mill a r) q none = rw none refl

left-opened : (script : Script) (z : Progress) → IsQuietAt script z → (opened script z).targets ≡ targets_left z.world (targets_in z.world)
left-opened script z at =
    let phase = at.phase in
    let none = no-directives script z.phase (omega (arith, phase)) in
    let todo = at.todo in
    rw (none, todo) refl

module _ (script : Script) (a f r : ℕ) (role_a : role_of script.plan a ≡ IsNode f r) where
  here-a : (z : Progress) → IsOpenAt script z → role_of z.world.plan a ≡ IsNode f r
  here-a z good = ap (λ (pl : Plan). role_of pl a) good.of_plan ∙ role_a

  node-is : (z : Progress) (n : PlainNode) → IsOpenAt script z → (slot_of z.world a).node ≡ Some n → node_at z.world a ≡ Some n
  node-is z n good up = ap (λ (y : Role). node_role z.world a y) (here-a z good) ∙ up

  -- it is not recovering, so its target stays
  not-left-out : (w : World) (n : PlainNode) → node_at w a ≡ Some n → n.recovering ≡ false → is_recovering w a ≡ false
  not-left-out w n is calm = ap (λ (o : Option PlainNode). elim o as (λ _. Bool) [ None ↦ true | Some m ↦ m.recovering ]) is ∙ calm

  stays-in : (w : World) (goal : ℕ) (ts : List (ℕ × ℕ)) → is_recovering w a ≡ false → has_target a goal ts ≡ true → has_target a goal (targets_left w ts) ≡ true
  stays-in w goal ts calm h =
      filter-any (λ (t : ℕ × ℕ). t.0 == a && t.1 == goal) (λ (t : ℕ × ℕ). not (is_recovering w t.0)) ts
      (λ t e. let p = both (t.0 == a) (t.1 == goal) e in ap not (ap (λ (y : ℕ). is_recovering w y) (eq-of t.0 a p.0) ∙ calm)) h

  calm-here : (z : Progress) → IsCalmAt script a z → is_recovering z.world a ≡ false
  calm-here z good =
      let node = node-there z.world good.here.most a f r good.here.fine good.here.up (here-a z good.here) in
      not-left-out z.world node.0 (node-is z node.0 good.here node.1) (good.calm f r node.0 (here-a z good.here) node.1)

  -- the target of a node when a phase opens
  pub target-opened : (z : Progress) (n : PlainNode) → IsOpenAt script z → IsCalmAt script a (opened script z) → (slot_of z.world a).node ≡ Some n → has_target a (n.cursor + ready (home_of z.world.plan (f, r)) n) (opened script z).targets ≡ true
  target-opened z n good next up =
      let w = z.world in
      let goal = n.cursor + ready (home_of w.plan (f, r)) n in
      let role = here-a z good in
      let is = node-is z n good up in
      let ready_is : ready_at w a ≡ ready (home_of w.plan (f, r)) n = ap (λ (y : Role). ready_role w a y) role ∙ ap (λ (o : Option PlainNode). ready_in (home_of w.plan (f, r)) o) up in
      let target : target_of w a ≡ (a, goal) = ap {B = ℕ × ℕ} (λ (o : Option PlainNode). (a, elim o as (λ _. ℕ) [ None ↦ 0 | Some m ↦ m.cursor + ready_at w a ])) is ∙ ap {B = ℕ × ℕ} (λ (c : ℕ). (a, n.cursor + c)) ready_is in
      let test : (λ (t : ℕ × ℕ). t.0 == a && t.1 == goal) (target_of w a) ≡ true = ap (λ (t : ℕ × ℕ). t.0 == a && t.1 == goal) target ∙ both-of (a == a) (goal == goal) (eq-test a a refl) (eq-test goal goal refl) in
      let place = slice_get_within (nodes_of w.plan) (node_place w.plan a) (f, r) (node-at w.plan a f r role) in
      let past = past-sources w.plan role in
      let among : has_target a goal (targets_in w) ≡ true = range-any (target_of w) (λ (t : ℕ × ℕ). t.0 == a && t.1 == goal) (length w.plan.sources) (length (nodes_of w.plan)) a past (omega (arith, place, past)) test in
      ap (λ (ts : List (ℕ × ℕ)). has_target a goal ts) (left-opened script z good.at) ∙ stays-in w goal (targets_in w) (calm-here (opened script z) next) among
    where
      past-sources : (plan : Plan) → role_of plan a ≡ IsNode f r → length plan.sources ≤ a
      past-sources plan role = (elim (nat_lt a (length plan.sources)) as (λ b. nat_lt a (length plan.sources) ≡ b → length plan.sources ≤ a) [
        | true ↦ λ e. let clash : IsSource a ≡ IsNode f r = sym (source-role plan a (lt-of a (length plan.sources) e)) ∙ role in cc
        | false ↦ λ e. not-lt a (length plan.sources) e
      ]) refl

  target-kept : (goal : ℕ) → Keeps script (IsCalmAt script a) (λ z. has_target a goal z.targets ≡ true)
  target-kept goal z e may h = ap (λ (ts : List (ℕ × ℕ)). has_target a goal ts) (left-next script z e may.quiet may.here.here.at.todo) ∙ stays-in (happens z.world e) goal z.targets (calm-here (next_progress script z e) may.next) h

  -- it is met when the phase is over
  pub target-met : (goal : ℕ) (z : Progress) (es : List Event) → IsStep script (IsCalmAt script a) z es → has_target a goal (opened script z).targets ≡ true → IsPast a goal (progress_from script (opened script z) es)
  target-met goal z es step h =
      let y = progress_from script (opened script z) es in
      let good = last-good script (IsCalmAt script a) (opened script z) es step.phase.good in
      let there = kept-full script (IsCalmAt script a) (λ v. has_target a goal v.targets ≡ true) (target-kept goal) (opened script z) es step.phase h in
      let milled = (done-of y (some-phase script y good.here.at) step.phase.full.complete).milled in
      let found = any-all (λ (t : ℕ × ℕ). t.0 == a && t.1 == goal) (λ (t : ℕ × ℕ). nat_le t.1 (elim (node_at y.world t.0) as (λ _. ℕ) [ None ↦ t.1 | Some n ↦ n.cursor ])) y.targets there milled in
      let p = both (found.0.0 == a) (found.0.1 == goal) found.1 in
      let who = eq-of found.0.0 a p.0 in
      let what = eq-of found.0.1 goal p.1 in
      let node = node-there y.world good.here.most a f r good.here.fine good.here.up (here-a y good.here) in
      let is = node-is y node.0 good.here node.1 in
      let cursor : elim (node_at y.world found.0.0) as (λ _. ℕ) [ None ↦ found.0.1 | Some n ↦ n.cursor ] ≡ node.0.cursor = ap (λ (o : Option PlainNode). elim o as (λ _. ℕ) [ None ↦ found.0.1 | Some n ↦ n.cursor ]) (ap (λ (i : ℕ). node_at y.world i) who ∙ is) in
      let reached = le-of found.0.1 (elim (node_at y.world found.0.0) as (λ _. ℕ) [ None ↦ found.0.1 | Some n ↦ n.cursor ]) found.2 in
      record { node = node.0; up = node.1; past = omega (arith, reached, what, cursor) }

  -- ---- for good

  -- the cursor of a node that does not recover never falls
  pub past-kept : (goal : ℕ) → Keeps script (IsCalmAt script a) (IsPast a goal)
  past-kept goal z e may h =
      let good = may.here.here in
      let went = node-went z.world good.most a f r good.fine (here-a z good) e may.quiet h.node h.up in
      let old = may.here.calm f r h.node (here-a z good) h.up in
      let new = may.next.calm f r went.0 (here-a (next_progress script z e) may.next.here) went.1 in
      let low = h.past in
      let more = on went.0 went.2 old new in
      record { node = went.0; up = went.1; past = omega (arith, low, more) }
    where
      by-calm : (n m : PlainNode) → IsCalmNode n m → n.recovering ≡ false → m.recovering ≡ false → n.cursor ≤ m.cursor
      by-calm n m c old new = c.cursor (λ e. absurd (true-not-false (sym e ∙ old))) new

      on : (m : PlainNode) → NodeWent (home_of z.world.plan (f, r)) h.node m → h.node.recovering ≡ false → m.recovering ≡ false → h.node.cursor ≤ m.cursor
      on m (Rests same) old new = let one = ap (λ (y : PlainNode). y.cursor) same in omega (arith, one)
      on m (Takes g same) old new = by-calm h.node m (subst (IsCalmNode h.node) (sym same) (delivered-calm (home_of z.world.plan (f, r)) g.sender g.packet h.node)) old new
      on m (Ticked now same) old new = by-calm h.node m (subst (IsCalmNode h.node) (sym same) (ticked-calm (home_of z.world.plan (f, r)) now h.node)) old new
      on m (Mills u same) old new =
          let moved = (milled-moves (home_of z.world.plan (f, r)) u h.node).moved in
          let one = ap (λ (y : PlainNode). y.cursor) same in omega (arith, moved, one)
