-- The cursors that actors must reach, kept by number, stand for the targets of the progress.
use Rattle.std.proofs.Common.{◌≡◌, ◌⊎◌, inl, inr, ℕ, zero, suc, ◌+◌, ◌≤◌, ◌<◌, Bool, true, false, not, cond, ◌&&◌, ◌||◌, ◌==◌, nat_lt, nat_le, List, [], ◌∷◌, ◌++◌, map, length, refl, sym, subst, ap, ◌∙◌, arith, Option, Some, None, slice_get}
use Rattle.std.specs.List.{slice_set}
use Rattle.std.specs.Prelude.{option_map}
use Rattle.dpc_lists.specs.Lists.{nth, list_any, list_all, range_with_len}
use Rattle.dpc_model.specs.Actors.{role_of, roles_of, nodes_of}
use Rattle.dpc_model.specs.declared.actors.Role.{Role}
use Rattle.dpc_model.specs.declared.actors.Role.TheVariants.{Source as IsSource, Node as IsNode, Client as IsClient, Nobody}
use Rattle.dpc_model.specs.declared.plans.Plan.{Plan}
use Rattle.node_model.specs.Nodes.{Home, PlainNode}
use Rattle.node_core.specs.Standing.{NodeValue}
use Rattle.world_model.specs.Worlds.{World, home_of, node_place, node_role, node_at, ready_at}
use Rattle.world_model.specs.Schedules.{Progress, all_milled, target_of, targets_in, targets_left, is_recovering, node_actors}
use Rattle.world_parts.specs.Parts.{StandsForUp}
use Rattle.world_parts.specs.Telling.{StandsForRole}
use Rattle.dpc_lists.proofs.Truths.{both, both-of, eq-of, eq-test, le-test, lt-of, lt-test, not-less, not-lt, or-left, or-right, true-not-false, in-range}
use Rattle.std.proofs.lemmas.Grind.{common_steps}
use Rattle.dpc_lists.proofs.Elements.{range-more}
use Rattle.dpc_model.proofs.Roles.{node-past}
use Rattle.law_safety.proofs.Numbering.{node-at}
use Rattle.live_run.specs.Goals.{is_reached, goal_in, StandsForTargets}

-- ---- a node that is told of

told-up : (home : Home) (o : Option NodeValue) (p : Option PlainNode) → StandsForUp home o p →
    option_map {U = Bool × ℕ} (λ (v : NodeValue). (v.recovering, v.path.union.union.cursor)) o ≡ option_map {U = Bool × ℕ} (λ (n : PlainNode). (n.recovering, n.cursor)) p
told-up home None None h = refl
told-up home None (Some p) h = absurd h
told-up home (Some v) None h = absurd h
told-up home (Some v) (Some p) h = rw (h.0.recovering, h.0.path.ports.cursor) refl

pub node_told : (plan : Plan) (role : Role) (o : Option NodeValue) (p : Option PlainNode) → StandsForRole plan role o p →
    option_map {U = Bool × ℕ} (λ (v : NodeValue). (v.recovering, v.path.union.union.cursor)) o ≡ option_map {U = Bool × ℕ} (λ (n : PlainNode). (n.recovering, n.cursor)) p
node_told plan (IsNode f r) o p h = told-up (home_of plan (f, r)) o p h
node_told plan (IsSource s) o p h = rw (h.code, h.plain) refl
node_told plan (IsClient c) o p h = rw (h.code, h.plain) refl
node_told plan Nobody o p h = rw (h.code, h.plain) refl

abbrev pub told_node : Option PlainNode → Option (Bool × ℕ)
told_node o = option_map (λ (n : PlainNode). (n.recovering, n.cursor)) o

some-node : (o : Option PlainNode) (b : Bool) (k : ℕ) → ◌≡◌ {A = Option (Bool × ℕ)} (told_node o) (Some (b, k)) → (n : PlainNode) × (o ≡ Some n) × (n.recovering ≡ b) × (n.cursor ≡ k)
some-node None b k h = cc
some-node (Some n) b k h = let same : ◌≡◌ {A = Bool × ℕ} (n.recovering, n.cursor) (b, k) = cc in (n, refl, ap (λ (p : Bool × ℕ). p.0) same, ap (λ (p : Bool × ℕ). p.1) same)

none-node : (o : Option PlainNode) → told_node o ≡ None → o ≡ None
none-node None h = refl
none-node (Some n) h = cc

pub goal_some : (w : World) (a : ℕ) (b : Bool) (k : ℕ) → ◌≡◌ {A = Option (Bool × ℕ)} (told_node (node_at w a)) (Some (b, k)) → k + ready_at w a ≡ goal_in w a
goal_some w a b k h =
    let n = some-node (node_at w a) b k h in
    ap (λ (c : ℕ). c + ready_at w a) (sym n.3) ∙ ap (λ (o : Option PlainNode). elim o [ None ↦ 0 | Some n ↦ n.cursor + ready_at w a ]) (sym n.1)

pub goal_none : (w : World) (a : ℕ) → told_node (node_at w a) ≡ None → 0 ≡ goal_in w a
goal_none w a h = ap (λ (o : Option PlainNode). elim o [ None ↦ 0 | Some n ↦ n.cursor + ready_at w a ]) (sym (none-node (node_at w a) h))

pub reached_some : (w : World) (a goal : ℕ) (b : Bool) (k : ℕ) → ◌≡◌ {A = Option (Bool × ℕ)} (told_node (node_at w a)) (Some (b, k)) → nat_le goal k ≡ is_reached w a goal
reached_some w a goal b k h =
    let n = some-node (node_at w a) b k h in
    ap (nat_le goal) (sym n.3) ∙ ap (λ (o : Option PlainNode). nat_le goal (elim o [ None ↦ goal | Some n ↦ n.cursor ])) (sym n.1)

pub reached_none : (w : World) (a goal : ℕ) → told_node (node_at w a) ≡ None → true ≡ is_reached w a goal
reached_none w a goal h =
    sym (le-test goal goal (omega arith)) ∙ ap (λ (o : Option PlainNode). nat_le goal (elim o [ None ↦ goal | Some n ↦ n.cursor ])) (sym (none-node (node_at w a) h))

pub recovering_some : (w : World) (a : ℕ) (b : Bool) (k : ℕ) → ◌≡◌ {A = Option (Bool × ℕ)} (told_node (node_at w a)) (Some (b, k)) → b ≡ is_recovering w a
recovering_some w a b k h =
    let n = some-node (node_at w a) b k h in
    sym n.2 ∙ ap (λ (o : Option PlainNode). elim o [ None ↦ true | Some n ↦ n.recovering ]) (sym n.1)

pub recovering_none : (w : World) (a : ℕ) → told_node (node_at w a) ≡ None → true ≡ is_recovering w a
recovering_none w a h = ap (λ (o : Option PlainNode). elim o [ None ↦ true | Some n ↦ n.recovering ]) (sym (none-node (node_at w a) h))

-- ---- no goal

pub none_given : (goals : List ℕ) → ((a : ℕ) → nth 0 goals a ≡ 0) → StandsForTargets goals []
none_given goals h = record { noted = refl; given = λ a. inl (h a) }

-- no goal is kept
pub none_kept : (goals : List ℕ) → list_any (λ (g : ℕ). not (g == 0)) goals ≡ false → (a : ℕ) → nth 0 goals a ≡ 0
none_kept [] none a = refl
none_kept (zero ∷ goals) none zero = refl
none_kept (zero ∷ goals) none (suc a) = none_kept goals none a
none_kept (suc g ∷ goals) none a =
    let some : (suc g == 0) ≡ false = grind (arith, common_steps) in
    absurd (true-not-false (ap (λ (b : Bool). not b || list_any (λ (n : ℕ). not (n == 0)) goals) (sym some) ∙ none))

pub zero_eased : (w : World) (goals : List ℕ) → ((a : ℕ) → nth 0 goals a ≡ 0) → (a : ℕ) → nth 0 goals a ≡ cond (is_recovering w a) 0 (nth 0 goals a)
zero_eased w goals h a =
    h a ∙ (elim (is_recovering w a) as (λ b. ◌≡◌ {A = ℕ} 0 (cond b 0 0)) [ true ↦ refl | false ↦ refl ])
    ∙ ap (λ (g : ℕ). cond (is_recovering w a) 0 g) (sym (h a))

-- ---- all goals of a world

any-in-range : {X : Type 0} (test : X → Bool) (f : ℕ → X) (k n b : ℕ) → k ≤ b → b < k + n → test (f b) ≡ true → list_any test (map f (range_with_len k n)) ≡ true
any-in-range test f k zero b low high h = absurd (omega (arith, low, high))
any-in-range test f k (suc n) b low high h =
    (elim (nat_lt k b) as (λ t. nat_lt k b ≡ t → list_any test (map f (range_with_len k (suc n))) ≡ true) [
      | true ↦ λ e. let more = lt-of k b e in or-right (test (f k)) (list_any test (map f (range_with_len (k + 1) n))) (any-in-range test f (k + 1) n b (omega (arith, more)) (omega (arith, high)) h)
      | false ↦ λ e. let few = not-lt k b e in let same : b ≡ k = omega (arith, few, low) in or-left (test (f k)) (list_any test (map f (range_with_len (k + 1) n))) (ap (λ (c : ℕ). test (f c)) (sym same) ∙ h)
    ]) refl

pub get-low : {X : Type 0} (xs : List X) (i : ℕ) (x : X) → slice_get xs i ≡ Some x → i < length xs
get-low [] i x e = cc
get-low (y ∷ xs) zero x e = omega arith
get-low (y ∷ xs) (suc i) x e = let low = get-low xs i x e in omega (arith, low)

pub past-all : (roles : List Role) (a : ℕ) → length roles ≤ a → nth Nobody roles a ≡ Nobody
past-all [] a h = refl
past-all (r ∷ roles) zero h = absurd (omega (arith, h))
past-all (r ∷ roles) (suc a) h = past-all roles a (omega (arith, h))

-- a goal of an actor that is a node
goal-given : (w : World) (a : ℕ) (role : Role) → role_of w.plan a ≡ role → (goal_in w a ≡ 0) ⊎ (list_any (λ (t : ℕ × ℕ). t.0 == a && t.1 == goal_in w a) (targets_in w) ≡ true)
goal-given w a (IsNode f r) e =
    let low = node-past w.plan a f r e in
    let high = get-low (nodes_of w.plan) (node_place w.plan a) (f, r) (node-at w.plan a f r e) in
    inr (any-in-range (λ (t : ℕ × ℕ). t.0 == a && t.1 == goal_in w a) (target_of w) (length w.plan.sources) (length (nodes_of w.plan)) a low (omega (arith, low, high))
    (both-of (a == a) (goal_in w a == goal_in w a) (eq-test a a refl) (eq-test (goal_in w a) (goal_in w a) refl)))
goal-given w a (IsSource s) e = inl (ap (λ (k : Role). elim (node_role w a k) [ None ↦ 0 | Some n ↦ n.cursor + ready_at w a ]) e)
goal-given w a (IsClient c) e = inl (ap (λ (k : Role). elim (node_role w a k) [ None ↦ 0 | Some n ↦ n.cursor + ready_at w a ]) e)
goal-given w a Nobody e = inl (ap (λ (k : Role). elim (node_role w a k) [ None ↦ 0 | Some n ↦ n.cursor + ready_at w a ]) e)

past-goal : (w : World) (a : ℕ) → length (roles_of w.plan) ≤ a → goal_in w a ≡ 0
past-goal w a h = ap (λ (k : Role). elim (node_role w a k) [ None ↦ 0 | Some n ↦ n.cursor + ready_at w a ]) (past-all (roles_of w.plan) a h)

all-noted : (w : World) (goals : List ℕ) (ns : List ℕ) → ((a : ℕ) → nth 0 goals a ≡ goal_in w a) → list_all (λ (t : ℕ × ℕ). t.1 == nth 0 goals t.0) (map (target_of w) ns) ≡ true
all-noted w goals [] h = refl
all-noted w goals (a ∷ ns) h =
    both-of (goal_in w a == nth 0 goals a) (list_all (λ (t : ℕ × ℕ). t.1 == nth 0 goals t.0) (map (target_of w) ns)) (eq-test (goal_in w a) (nth 0 goals a) (sym (h a))) (all-noted w goals ns h)

pub all_set : (w : World) (goals : List ℕ) (n : ℕ) → length (roles_of w.plan) ≡ n → ((a : ℕ) → nth 0 goals a ≡ cond (nat_lt a n) (goal_in w a) 0) → StandsForTargets goals (targets_in w)
all_set w goals n many h =
    record {
      noted = all-noted w goals (node_actors w.plan) each;
      given = λ a. subst (λ (g : ℕ). (g ≡ 0) ⊎ (list_any (λ (t : ℕ × ℕ). t.0 == a && t.1 == g) (targets_in w) ≡ true)) (sym (each a)) (goal-given w a (role_of w.plan a) refl);
    }
  where
    each : (a : ℕ) → nth 0 goals a ≡ goal_in w a
    each a =
        (elim (nat_lt a n) as (λ b. nat_lt a n ≡ b → nth 0 goals a ≡ goal_in w a) [
          | true ↦ λ e. h a ∙ ap (λ (b : Bool). cond b (goal_in w a) 0) e
          | false ↦ λ e. let far = not-lt a n e in h a ∙ ap (λ (b : Bool). cond b (goal_in w a) 0) e ∙ sym (past-goal w a (omega (arith, far, many)))
        ]) refl

-- ---- one after another is set

set-here : (xs : List ℕ) (i x : ℕ) → i < length xs → nth 0 (slice_set xs i x) i ≡ x
set-here [] i x h = absurd (omega (arith, h))
set-here (y ∷ xs) zero x h = refl
set-here (y ∷ xs) (suc i) x h = set-here xs i x (omega (arith, h))

set-apart : (xs : List ℕ) (i j x : ℕ) → (j ≡ i → ⊥) → nth 0 (slice_set xs i x) j ≡ nth 0 xs j
set-apart [] i j x h = refl
set-apart (y ∷ xs) zero zero x h = absurd (h refl)
set-apart (y ∷ xs) zero (suc j) x h = refl
set-apart (y ∷ xs) (suc i) zero x h = refl
set-apart (y ∷ xs) (suc i) (suc j) x h = set-apart xs i j x (λ same. h (ap suc same))

pub set_length : (xs : List ℕ) (i x : ℕ) → length (slice_set xs i x) ≡ length xs
set_length [] i x = refl
set_length (y ∷ xs) zero x = refl
set_length (y ∷ xs) (suc i) x = ap suc (set_length xs i x)

apart-of : (a b : ℕ) → (a == b) ≡ false → a ≡ b → ⊥
apart-of a b h same = true-not-false (sym (eq-test a b same) ∙ h)

below-next : (a n : ℕ) → (a ≡ n → ⊥) → nat_lt a n ≡ nat_lt a (n + 1)
below-next a n h =
    (elim (nat_lt a n) as (λ b. nat_lt a n ≡ b → b ≡ nat_lt a (n + 1)) [
      | true ↦ λ e. let low = lt-of a n e in sym (lt-test a (n + 1) (omega (arith, low)))
      | false ↦ λ e. let few = not-lt a n e in past (nat_lt n a) refl few
    ]) refl
  where
    past : (b : Bool) → nat_lt n a ≡ b → n ≤ a → false ≡ nat_lt a (n + 1)
    past true e few = let more = lt-of n a e in sym (not-less a (n + 1) (omega (arith, more)))
    past false e few = let most = not-lt n a e in absurd (h (omega (arith, few, most)))

pub set_next : (xs : List ℕ) (n x : ℕ) (f g : ℕ → ℕ) → n < length xs → ((a : ℕ) → nth 0 xs a ≡ cond (nat_lt a n) (f a) (g a)) → x ≡ f n → (a : ℕ) → nth 0 (slice_set xs n x) a ≡ cond (nat_lt a (n + 1)) (f a) (g a)
set_next xs n x f g low h is a =
    (elim (a == n) as (λ b. (a == n) ≡ b → nth 0 (slice_set xs n x) a ≡ cond (nat_lt a (n + 1)) (f a) (g a)) [
      | true ↦ λ e. subst (λ (b : ℕ). nth 0 (slice_set xs n x) b ≡ cond (nat_lt b (n + 1)) (f b) (g b)) (sym (eq-of a n e))
          (set-here xs n x low ∙ is ∙ ap (λ (b : Bool). cond b (f n) (g n)) (sym (lt-test n (n + 1) (omega arith))))
      | false ↦ λ e. set-apart xs n a x (apart-of a n e) ∙ h a ∙ ap (λ (b : Bool). cond b (f a) (g a)) (below-next a n (apart-of a n e))
    ]) refl

-- the next one stands as it did at the beginning
pub still_there : (old xs : List ℕ) (n : ℕ) (f : ℕ → ℕ) → ((a : ℕ) → nth 0 xs a ≡ cond (nat_lt a n) (f a) (nth 0 old a)) → nth 0 xs n ≡ nth 0 old n
still_there old xs n f h = h n ∙ ap (λ (b : Bool). cond b (f n) (nth 0 old n)) (not-less n n (omega arith))

past-old : (xs : List ℕ) (a : ℕ) → length xs ≤ a → nth 0 xs a ≡ 0
past-old [] a h = refl
past-old (x ∷ xs) zero h = absurd (omega (arith, h))
past-old (x ∷ xs) (suc a) h = past-old xs a (omega (arith, h))

pub set_done : (old xs : List ℕ) (n : ℕ) (f : ℕ → ℕ) → n ≡ length old → ((a : ℕ) → nth 0 xs a ≡ cond (nat_lt a n) (f a) (nth 0 old a)) → (a : ℕ) → nth 0 xs a ≡ cond (nat_lt a (length old)) (f a) 0
set_done old xs n f same h a =
    h a ∙ ap (λ (k : ℕ). cond (nat_lt a k) (f a) (nth 0 old a)) same
    ∙ (elim (nat_lt a (length old)) as (λ b. nat_lt a (length old) ≡ b → cond b (f a) (nth 0 old a) ≡ cond b (f a) 0) [
      | true ↦ λ e. refl
      | false ↦ λ e. past-old old a (not-lt a (length old) e)
    ]) refl

pub eased_done : (w : World) (old xs : List ℕ) (n : ℕ) → n ≡ length old → ((a : ℕ) → nth 0 xs a ≡ cond (nat_lt a n) (cond (is_recovering w a) 0 (nth 0 old a)) (nth 0 old a)) →
    (a : ℕ) → nth 0 xs a ≡ cond (is_recovering w a) 0 (nth 0 old a)
eased_done w old xs n same h a =
    h a ∙ ap (λ (k : ℕ). cond (nat_lt a k) (cond (is_recovering w a) 0 (nth 0 old a)) (nth 0 old a)) same
    ∙ (elim (nat_lt a (length old)) as (λ b. nat_lt a (length old) ≡ b → cond b (cond (is_recovering w a) 0 (nth 0 old a)) (nth 0 old a) ≡ cond (is_recovering w a) 0 (nth 0 old a)) [
      | true ↦ λ e. refl
      | false ↦ λ e. let none = past-old old a (not-lt a (length old) e) in none ∙ zeros (is_recovering w a) ∙ ap (λ (g : ℕ). cond (is_recovering w a) 0 g) (sym none)
    ]) refl
  where
    zeros : (b : Bool) → ◌≡◌ {A = ℕ} 0 (cond b 0 0)
    zeros true = refl
    zeros false = refl

-- ---- those that recover need not

eased-noted : (w : World) (old new : List ℕ) (ts : List (ℕ × ℕ)) → ((a : ℕ) → nth 0 new a ≡ cond (is_recovering w a) 0 (nth 0 old a)) →
    list_all (λ (t : ℕ × ℕ). t.1 == nth 0 old t.0) ts ≡ true → list_all (λ (t : ℕ × ℕ). t.1 == nth 0 new t.0) (targets_left w ts) ≡ true
eased-noted w old new [] h k = refl
eased-noted w old new (t ∷ ts) h k =
    let p = both (t.1 == nth 0 old t.0) (list_all (λ (t : ℕ × ℕ). t.1 == nth 0 old t.0) ts) k in
    (elim (is_recovering w t.0) as (λ b. is_recovering w t.0 ≡ b → list_all (λ (t : ℕ × ℕ). t.1 == nth 0 new t.0) (cond (not b) (t ∷ targets_left w ts) (targets_left w ts)) ≡ true) [
      | true ↦ λ e. eased-noted w old new ts h p.1
      | false ↦ λ e.
          both-of (t.1 == nth 0 new t.0) (list_all (λ (t : ℕ × ℕ). t.1 == nth 0 new t.0) (targets_left w ts))
          (ap (λ (g : ℕ). t.1 == g) (h t.0 ∙ ap (λ (b : Bool). cond b 0 (nth 0 old t.0)) e) ∙ p.0) (eased-noted w old new ts h p.1)
    ]) refl

eased-any : (w : World) (a goal : ℕ) (ts : List (ℕ × ℕ)) → is_recovering w a ≡ false → list_any (λ (t : ℕ × ℕ). t.0 == a && t.1 == goal) ts ≡ true →
    list_any (λ (t : ℕ × ℕ). t.0 == a && t.1 == goal) (targets_left w ts) ≡ true
eased-any w a goal [] up h = h
eased-any w a goal (t ∷ ts) up h =
    (elim (t.0 == a && t.1 == goal) as (λ b. (t.0 == a && t.1 == goal) ≡ b → (b || list_any (λ (t : ℕ × ℕ). t.0 == a && t.1 == goal) ts) ≡ true → list_any (λ (t : ℕ × ℕ). t.0 == a && t.1 == goal) (targets_left w (t ∷ ts)) ≡ true) [
      | true ↦ λ e g.
          let here : is_recovering w t.0 ≡ false = ap (is_recovering w) (eq-of t.0 a (both (t.0 == a) (t.1 == goal) e).0) ∙ up in
          ap (λ (b : Bool). list_any (λ (t : ℕ × ℕ). t.0 == a && t.1 == goal) (cond (not b) (t ∷ targets_left w ts) (targets_left w ts))) here
          ∙ or-left (t.0 == a && t.1 == goal) (list_any (λ (t : ℕ × ℕ). t.0 == a && t.1 == goal) (targets_left w ts)) e
      | false ↦ λ e g. further (is_recovering w t.0) (eased-any w a goal ts up g)
    ]) refl h
  where
    further : (b : Bool) → list_any (λ (t : ℕ × ℕ). t.0 == a && t.1 == goal) (targets_left w ts) ≡ true → list_any (λ (t : ℕ × ℕ). t.0 == a && t.1 == goal) (cond (not b) (t ∷ targets_left w ts) (targets_left w ts)) ≡ true
    further true on = on
    further false on = or-right (t.0 == a && t.1 == goal) (list_any (λ (t : ℕ × ℕ). t.0 == a && t.1 == goal) (targets_left w ts)) on

pub all_eased : (w : World) (old new : List ℕ) (ts : List (ℕ × ℕ)) → ((a : ℕ) → nth 0 new a ≡ cond (is_recovering w a) 0 (nth 0 old a)) → StandsForTargets old ts → StandsForTargets new (targets_left w ts)
all_eased w old new ts h s = record { noted = eased-noted w old new ts h s.noted; given = given }
  where
    kept : (a : ℕ) → is_recovering w a ≡ false → (nth 0 old a ≡ 0) ⊎ (list_any (λ (t : ℕ × ℕ). t.0 == a && t.1 == nth 0 old a) ts ≡ true) →
        (nth 0 old a ≡ 0) ⊎ (list_any (λ (t : ℕ × ℕ). t.0 == a && t.1 == nth 0 old a) (targets_left w ts) ≡ true)
    kept a up (inl z) = inl z
    kept a up (inr g) = inr (eased-any w a (nth 0 old a) ts up g)

    given : (a : ℕ) → (nth 0 new a ≡ 0) ⊎ (list_any (λ (t : ℕ × ℕ). t.0 == a && t.1 == nth 0 new a) (targets_left w ts) ≡ true)
    given a =
        (elim (is_recovering w a) as (λ b. is_recovering w a ≡ b → (nth 0 new a ≡ 0) ⊎ (list_any (λ (t : ℕ × ℕ). t.0 == a && t.1 == nth 0 new a) (targets_left w ts) ≡ true)) [
          | true ↦ λ e. inl (h a ∙ ap (λ (b : Bool). cond b 0 (nth 0 old a)) e)
          | false ↦ λ e.
              subst (λ (g : ℕ). (g ≡ 0) ⊎ (list_any (λ (t : ℕ × ℕ). t.0 == a && t.1 == g) (targets_left w ts) ≡ true)) (sym (h a ∙ ap (λ (b : Bool). cond b 0 (nth 0 old a)) e)) (kept a e (s.given a))
        ]) refl

-- ---- whether they are reached

abbrev pub all_reached : World → List ℕ → ℕ → Bool
all_reached w goals n = list_all (λ a. is_reached w a (nth 0 goals a)) (range_with_len 0 n)

all-added : (test : ℕ → Bool) (ns : List ℕ) (n : ℕ) → list_all test ns ≡ true → test n ≡ true → list_all test (ns ++ n ∷ []) ≡ true
all-added test [] n h k = both-of (test n) true k refl
all-added test (m ∷ ns) n h k = let p = both (test m) (list_all test ns) h in both-of (test m) (list_all test (ns ++ n ∷ [])) p.0 (all-added test ns n p.1 k)

pub all_reached_more : (w : World) (goals : List ℕ) (n : ℕ) → all_reached w goals n ≡ true → is_reached w n (nth 0 goals n) ≡ true → all_reached w goals (n + 1) ≡ true
all_reached_more w goals n h k =
    let none : 0 + n ≡ n = omega arith in
    ap (list_all (λ a. is_reached w a (nth 0 goals a))) (range-more 0 n ∙ ap (λ (m : ℕ). range_with_len 0 n ++ m ∷ []) none)
    ∙ all-added (λ a. is_reached w a (nth 0 goals a)) (range_with_len 0 n) n h k

pub not_all_reached : (w : World) (goals : List ℕ) (n a : ℕ) → a < n → is_reached w a (nth 0 goals a) ≡ false → false ≡ all_reached w goals n
not_all_reached w goals n a low h = by-all (all_reached w goals n) refl
  where
    by-all : (b : Bool) → all_reached w goals n ≡ b → false ≡ b
    by-all false e = refl
    by-all true e = let up : a < 0 + n = omega (arith, low) in absurd (true-not-false (sym (in-range (λ a. is_reached w a (nth 0 goals a)) 0 n a e (omega arith) up) ∙ h))

none-reached : (w : World) (a : ℕ) → is_reached w a 0 ≡ true
none-reached w a = by-node (node_at w a)
  where
    by-node : (o : Option PlainNode) → nat_le 0 (elim o [ None ↦ 0 | Some n ↦ n.cursor ]) ≡ true
    by-node None = le-test 0 0 (omega arith)
    by-node (Some n) = le-test 0 n.cursor (omega arith)

nth-past : (xs : List ℕ) (a : ℕ) → length xs ≤ a → nth 0 xs a ≡ 0
nth-past [] a h = refl
nth-past (x ∷ xs) zero h = absurd (omega (arith, h))
nth-past (x ∷ xs) (suc a) h = nth-past xs a (omega (arith, h))

each-reached : (w : World) (goals : List ℕ) → all_reached w goals (length goals) ≡ true → (a : ℕ) → is_reached w a (nth 0 goals a) ≡ true
each-reached w goals h a =
    (elim (nat_lt a (length goals)) as (λ b. nat_lt a (length goals) ≡ b → is_reached w a (nth 0 goals a) ≡ true) [
      | true ↦ λ e. let low = lt-of a (length goals) e in let up : a < 0 + length goals = omega (arith, low) in in-range (λ a. is_reached w a (nth 0 goals a)) 0 (length goals) a h (omega arith) up
      | false ↦ λ e. ap (is_reached w a) (nth-past goals a (not-lt a (length goals) e)) ∙ none-reached w a
    ]) refl

abbrev met : World → List (ℕ × ℕ) → Bool
met w ts = list_all (λ (t : ℕ × ℕ). is_reached w t.0 t.1) ts

all-met : (w : World) (goals : List ℕ) (ts : List (ℕ × ℕ)) → ((a : ℕ) → is_reached w a (nth 0 goals a) ≡ true) → list_all (λ (t : ℕ × ℕ). t.1 == nth 0 goals t.0) ts ≡ true → met w ts ≡ true
all-met w goals [] h k = refl
all-met w goals (t ∷ ts) h k =
    let p = both (t.1 == nth 0 goals t.0) (list_all (λ (t : ℕ × ℕ). t.1 == nth 0 goals t.0) ts) k in
    both-of (is_reached w t.0 t.1) (met w ts) (ap (is_reached w t.0) (eq-of t.1 (nth 0 goals t.0) p.0) ∙ h t.0) (all-met w goals ts h p.1)

-- a target of the list is met where all are
one-met : (w : World) (a goal : ℕ) (ts : List (ℕ × ℕ)) → met w ts ≡ true → list_any (λ (t : ℕ × ℕ). t.0 == a && t.1 == goal) ts ≡ true → is_reached w a goal ≡ true
one-met w a goal [] h k = absurd (true-not-false (sym k))
one-met w a goal (t ∷ ts) h k =
    let p = both (is_reached w t.0 t.1) (met w ts) h in
    (elim (t.0 == a && t.1 == goal) as (λ b. (t.0 == a && t.1 == goal) ≡ b → (b || list_any (λ (t : ℕ × ℕ). t.0 == a && t.1 == goal) ts) ≡ true → is_reached w a goal ≡ true) [
      | true ↦ λ e g. let q = both (t.0 == a) (t.1 == goal) e in
          sym (ap (λ (b : ℕ). is_reached w b t.1) (eq-of t.0 a q.0) ∙ ap (is_reached w a) (eq-of t.1 goal q.1)) ∙ p.0
      | false ↦ λ e g. one-met w a goal ts p.1 g
    ]) refl k

pub are_met : (w : World) (goals : List ℕ) (ts : List (ℕ × ℕ)) → StandsForTargets goals ts → all_reached w goals (length goals) ≡ met w ts
are_met w goals ts s = by-answers (all_reached w goals (length goals)) (met w ts) refl refl
  where
    each : met w ts ≡ true → (a : ℕ) → (nth 0 goals a ≡ 0) ⊎ (list_any (λ (t : ℕ × ℕ). t.0 == a && t.1 == nth 0 goals a) ts ≡ true) → is_reached w a (nth 0 goals a) ≡ true
    each h a (inl z) = ap (is_reached w a) z ∙ none-reached w a
    each h a (inr g) = one-met w a (nth 0 goals a) ts h g

    all-true : (ns : List ℕ) → ((a : ℕ) → is_reached w a (nth 0 goals a) ≡ true) → list_all (λ a. is_reached w a (nth 0 goals a)) ns ≡ true
    all-true [] h = refl
    all-true (n ∷ ns) h = both-of (is_reached w n (nth 0 goals n)) (list_all (λ a. is_reached w a (nth 0 goals a)) ns) (h n) (all-true ns h)

    by-answers : (b c : Bool) → all_reached w goals (length goals) ≡ b → met w ts ≡ c → b ≡ c
    by-answers true true e f = refl
    by-answers false false e f = refl
    by-answers true false e f = sym (all-met w goals ts (each-reached w goals e) s.noted) ∙ f
    by-answers false true e f = sym e ∙ all-true (range_with_len 0 (length goals)) (λ a. each f a (s.given a))

pub are_all_met : (w : World) (goals : List ℕ) (p : Progress) → p.world ≡ w → StandsForTargets goals p.targets → all_reached w goals (length goals) ≡ all_milled p
are_all_met w goals p same s = are_met w goals p.targets s ∙ ap (λ (v : World). met v p.targets) (sym same)
