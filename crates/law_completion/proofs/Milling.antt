-- Each node mills up to its target.
use Rattle.std.proofs.Common.{◌≡◌, ℕ, zero, suc, ◌+◌, ◌-◌, ◌*◌, ◌/◌, ◌%◌, ◌≤◌, ◌<◌, Bool, true, false, not, cond, ◌&&◌, ◌==◌, nat_lt, nat_le, List, [], ◌∷◌, ◌++◌, refl, sym, ap, subst, ◌∙◌, arith, append_assoc, Option, Some, None}
use Rattle.std.specs.Prelude.{replicate, flat_map}
use Rattle.std.proofs.lemmas.List.{append-nil}
use Rattle.std.proofs.lemmas.Nat.{div-add-mod'}
use Rattle.std.proofs.Math.Nat.{mod-lt}
use Rattle.dpc_lists.specs.Lists.{list_all, is_nil, IsRising}
use Rattle.dpc_model.specs.declared.messages.Event.TheVariants.{Mill}
use Rattle.dpc_model.specs.declared.scripts.Script.{Script}
use Rattle.node_model.specs.Nodes.{PlainNode}
use Rattle.world_model.specs.Worlds.{World, node_at, ready_at, happens}
use Rattle.world_model.specs.Schedules.{Undelivered, Progress, next_progress, may_follow, is_recovering, may_mill, mill_events}
use Rattle.dpc_lists.proofs.Truths.{both, both-of, all-append, all-part, all-weaker, le-of, le-test, eq-of, eq-test, not-zero, true-not-false}
use Rattle.law_schedules.proofs.Targets.{Meets, AllMet, mill-at}
use Rattle.law_schedules.proofs.Doing.{IsDoing, calm-doing, targets-kept, free, IsGoing}
use Rattle.law_completion.specs.Completing.{lacking}
use Rattle.law_completion.proofs.Milled.{MillsOne, mills-one}
use Rattle.law_completion.proofs.Standing.{actors_in}
use Rattle.law_completion.proofs.Leads.{Leads, leads-none, leads-on, leads-then, leads-weaker}

-- ---- a target that was reached

abbrev pub is_reached : World → ℕ × ℕ → Bool
is_reached w t = nat_le t.1 (elim (node_at w t.0) [ None ↦ t.1 | Some n ↦ n.cursor ])

mill-reached : (w v : World) (a r : ℕ) → MillsOne w a r v → (t : ℕ × ℕ) → is_reached w t ≡ true → is_reached v t ≡ true
mill-reached w v a r m t h = by-own (t.0 == a) refl
  where
    by-own : (b : Bool) → (t.0 == a) ≡ b → is_reached v t ≡ true
    by-own false e = ap (λ (o : Option PlainNode). nat_le t.1 (elim o [ None ↦ t.1 | Some n ↦ n.cursor ])) (m.apart t.0 (λ same. true-not-false (sym (eq-test t.0 a same) ∙ e))) ∙ h
    by-own true e = by-node (node_at w t.0) refl h
      where
        here : t.0 ≡ a
        here = eq-of t.0 a e

        by-node : (o : Option PlainNode) → node_at w t.0 ≡ o → nat_le t.1 (elim o [ None ↦ t.1 | Some n ↦ n.cursor ]) ≡ true → is_reached v t ≡ true
        by-node None g k = absurd (m.is_up (ap (λ (b : ℕ). node_at w b) (sym here) ∙ g))
        by-node (Some n) g k =
            let own = m.own n (ap (λ (b : ℕ). node_at w b) (sym here) ∙ g) in
            let behind : node_at v t.0 ≡ Some own.0 = ap (λ (b : ℕ). node_at v b) here ∙ own.1.0 in
            let moved = own.1.1 in
            let low = le-of t.1 n.cursor k in
            ap (λ (o : Option PlainNode). nat_le t.1 (elim o [ None ↦ t.1 | Some n ↦ n.cursor ])) behind ∙ le-test t.1 own.0.cursor (omega (arith, low, moved))

-- ---- one target

-- the targets of the progress are among these
abbrev pub Within : List (ℕ × ℕ) → List (ℕ × ℕ) → Type 0
Within goals ts = (q : ℕ × ℕ → Bool) → list_all q goals ≡ true → list_all q ts ≡ true

-- so many buckets are left to node a, which it can mill
record IsMillingOf (script : Script) (p start : ℕ) (base : World) (ws : List Undelivered) (tk : List ℕ) (goals done : List (ℕ × ℕ)) (t : ℕ × ℕ) (left : ℕ) (z y : Progress) : Type 0 where
  doing : IsDoing script p start base ws tk y
  within : Within goals y.targets
  reached : list_all (is_reached y.world) done ≡ true
  node : PlainNode
  own : node_at y.world t.0 ≡ Some node
  met : t.1 ≤ node.cursor + left
  room : left ≤ ready_at y.world t.0
  others : (b : ℕ) → (b ≡ t.0 → ⊥) → node_at y.world b ≡ node_at z.world b
  still : (b : ℕ) → (b ≡ t.0 → ⊥) → ready_at y.world b ≡ ready_at z.world b

-- the milling of all targets, of which these are done; the nodes from number k on stand as they did
pub record IsMillingFrom (script : Script) (p start : ℕ) (base : World) (ws : List Undelivered) (tk : List ℕ) (goals done : List (ℕ × ℕ)) (k : ℕ) (y : Progress) : Type 0 where
  pub doing : IsDoing script p start base ws tk y
  pub within : Within goals y.targets
  pub reached : list_all (is_reached y.world) done ≡ true
  pub node : (b : ℕ) → k ≤ b → node_at y.world b ≡ node_at base b
  pub ready : (b : ℕ) → k ≤ b → ready_at y.world b ≡ ready_at base b

module _ (script : Script) (p start : ℕ) (base : World) (ws : List Undelivered) (tk : List ℕ) (goals : List (ℕ × ℕ)) (low : 1 ≤ p) where
  mill-next : (done : List (ℕ × ℕ)) (t : ℕ × ℕ) (r left : ℕ) (z y : Progress) → 1 ≤ r → r ≤ 16 → IsMillingOf script p start base ws tk goals done t (r + left) z y →
      (may_follow script y (Mill t.0 r) ≡ true) × IsMillingOf script p start base ws tk goals done t left z (next_progress script y (Mill t.0 r))
  mill-next done t r left z y one few m =
      let d = m.doing in
      let room = m.room in
      let met = m.met in
      let can : may_mill y.world t.0 r ≡ true = both-of (nat_le 1 r && nat_le r 16) (nat_le r (ready_at y.world t.0)) (both-of (nat_le 1 r) (nat_le r 16) (le-test 1 r one) (le-test r 16 few)) (le-test r (ready_at y.world t.0) (omega (arith, room))) in
      let v = happens y.world (Mill t.0 r) in
      let k = mill-at y.world t.0 r can in
      let o = mills-one y.world t.0 r can in
      let own = o.own m.node m.own in
      let moved = own.1.1 in
      let less = k.own in (
        both-of (nat_lt 0 y.phase && is_nil y.todo) (may_mill y.world t.0 r) (free script p start base ws tk y low d) can,
        record {
          doing = calm-doing script p start base ws ws tk tk y.ticked y v y.waiting _ d k.calm d.waiting d.ticked;
          within = λ q h. subst (λ (l : List (ℕ × ℕ)). list_all q l ≡ true) (targets-kept y (y.phase == y.phase) v d.todo) (all-part q (λ (t : ℕ × ℕ). not (is_recovering v t.0)) y.targets (m.within q h));
          reached = all-weaker (is_reached v) (is_reached y.world) done (λ t h. mill-reached y.world v _ r o t h) m.reached;
          node = own.0;
          own = own.1.0;
          met = omega (arith, met, moved);
          room = omega (arith, room, less);
          others = λ b h. o.apart b h ∙ m.others b h;
          still = λ b h. k.others b h ∙ m.still b h;
        },
      )

  -- 16 at a time
  mill-many : (done : List (ℕ × ℕ)) (t : ℕ × ℕ) (k left : ℕ) (z y : Progress) → IsMillingOf script p start base ws tk goals done t (k * 16 + left) z y →
      Leads script (IsMillingOf script p start base ws tk goals done t left z) y (replicate k (Mill t.0 16))
  mill-many done t zero left z y m =
      let none : zero * 16 + left ≡ left = omega arith in
      leads-none script (IsMillingOf script p start base ws tk goals done t left z) y (subst (λ (n : ℕ). IsMillingOf script p start base ws tk goals done t n z y) none m)
  mill-many done t (suc k) left z y m =
      let next : suc k * 16 + left ≡ 16 + (k * 16 + left) = omega arith in
      let s = mill-next done t 16 (k * 16 + left) z y (omega arith) (omega arith) (subst (λ (n : ℕ). IsMillingOf script p start base ws tk goals done t n z y) next m) in
      leads-on script (IsMillingOf script p start base ws tk goals done t left z) y (Mill t.0 16) (replicate k (Mill t.0 16)) s.0 (mill-many done t k left z (next_progress script y (Mill t.0 16)) s.1)

  mill-lots : (done : List (ℕ × ℕ)) (t : ℕ × ℕ) (r : ℕ) (z y : Progress) → IsMillingOf script p start base ws tk goals done t r z y →
      Leads script (IsMillingOf script p start base ws tk goals done t 0 z) y (mill_events t.0 r)
  mill-lots done t r z y m =
      let parts : r ≡ (r / 16) * 16 + r % 16 = sym (div-add-mod' r 16) in
      leads-then script (IsMillingOf script p start base ws tk goals done t (r % 16) z) (IsMillingOf script p start base ws tk goals done t 0 z) y (replicate (r / 16) (Mill t.0 16)) (cond (r % 16 == 0) [] (Mill t.0 (r % 16) ∷ []))
      (mill-many done t (r / 16) (r % 16) z y (subst (λ (n : ℕ). IsMillingOf script p start base ws tk goals done t n z y) parts m)) by-last
    where
      by-last : (x : Progress) → IsMillingOf script p start base ws tk goals done t (r % 16) z x → Leads script (IsMillingOf script p start base ws tk goals done t 0 z) x (cond (r % 16 == 0) [] (Mill t.0 (r % 16) ∷ []))
      by-last x k =
          (elim (r % 16 == 0) as (λ b. (r % 16 == 0) ≡ b → Leads script (IsMillingOf script p start base ws tk goals done t 0 z) x (cond b [] (Mill t.0 (r % 16) ∷ []))) [
            | true ↦ λ e. leads-none script (IsMillingOf script p start base ws tk goals done t 0 z) x (subst (λ (n : ℕ). IsMillingOf script p start base ws tk goals done t n z x) (eq-of (r % 16) 0 e) k)
            | false ↦ λ e.
                let few : r % 16 < 16 = mod-lt r (omega arith) in
                let some : 1 ≤ r % 16 = not-zero (r % 16) e in
                let whole : r % 16 ≡ r % 16 + 0 = omega arith in
                let s = mill-next done t (r % 16) 0 z x some (omega (arith, few)) (subst (λ (n : ℕ). IsMillingOf script p start base ws tk goals done t n z x) whole k) in
                leads-on script (IsMillingOf script p start base ws tk goals done t 0 z) x (Mill t.0 (r % 16)) [] s.0 (leads-none script (IsMillingOf script p start base ws tk goals done t 0 z) (next_progress script x (Mill t.0 (r % 16))) s.1)
          ]) refl

  -- one target, and then the nodes behind it stand as they did
  mill-one : (done : List (ℕ × ℕ)) (k : ℕ) (t : ℕ × ℕ) (y : Progress) → k ≤ t.0 → Meets (node_at base t.0) t.1 (ready_at base t.0) → IsMillingFrom script p start base ws tk goals done k y →
      Leads script (IsMillingFrom script p start base ws tk goals (done ++ t ∷ []) (t.0 + 1)) y (mill_events t.0 (lacking base t))
  mill-one done k t y high met m = by-node (node_at base t.0) refl met
    where
      After : Progress → Type 0
      After = IsMillingFrom script p start base ws tk goals (done ++ t ∷ []) (t.0 + 1)

      one-more : (w : World) → list_all (is_reached w) done ≡ true → is_reached w t ≡ true → list_all (is_reached w) (done ++ t ∷ []) ≡ true
      one-more w h e = all-append (is_reached w) done (t ∷ []) h (both-of (is_reached w t) true e refl)

      by-node : (o : Option PlainNode) → node_at base t.0 ≡ o → Meets o t.1 (ready_at base t.0) → Leads script After y (mill_events t.0 (elim o [ None ↦ 0 | Some n ↦ t.1 - n.cursor ]))
      by-node None e h =
          leads-none script After y (record {
            doing = m.doing;
            within = m.within;
            reached = one-more y.world m.reached (ap (λ (o : Option PlainNode). nat_le t.1 (elim o [ None ↦ t.1 | Some n ↦ n.cursor ])) (m.node t.0 high ∙ e) ∙ le-test t.1 t.1 (omega arith));
            node = λ b more. m.node b (omega (arith, high, more));
            ready = λ b more. m.ready b (omega (arith, high, more));
          })
      by-node (Some n) e h =
          let same = m.ready t.0 high in
          leads-weaker script (IsMillingOf script p start base ws tk goals done t 0 y) After y (mill_events t.0 (t.1 - n.cursor)) after
          (mill-lots done t (t.1 - n.cursor) y y (record {
            doing = m.doing;
            within = m.within;
            reached = m.reached;
            node = n;
            own = m.node t.0 high ∙ e;
            met = omega arith;
            room = omega (arith, h, same);
            others = λ b other. refl;
            still = λ b other. refl;
          }))
        where
          after : (x : Progress) → IsMillingOf script p start base ws tk goals done t 0 y x → After x
          after x g =
              let met = g.met in
              record {
                doing = g.doing;
                within = g.within;
                reached = one-more x.world g.reached (ap (λ (o : Option PlainNode). nat_le t.1 (elim o [ None ↦ t.1 | Some n ↦ n.cursor ])) g.own ∙ le-test t.1 g.node.cursor (omega (arith, met)));
                node = λ b more. g.others b (λ same. absurd (omega (arith, same, more))) ∙ m.node b (omega (arith, high, more));
                ready = λ b more. g.still b (λ same. absurd (omega (arith, same, more))) ∙ m.ready b (omega (arith, high, more));
              }

  -- all targets are reached
  pub mill-all : (done ts : List (ℕ × ℕ)) (k : ℕ) (y : Progress) → done ++ ts ≡ goals → IsRising k (actors_in ts) → AllMet base (ready_at base) ts → IsMillingFrom script p start base ws tk goals done k y →
      Leads script (IsGoing script p start base ws tk) y (flat_map (λ (t : ℕ × ℕ). mill_events t.0 (lacking base t)) ts)
  mill-all done [] k y whole rising met m =
      leads-none script (IsGoing script p start base ws tk) y (record {
        doing = m.doing;
        met = all-met y.world y.targets (m.within (is_reached y.world) (subst (λ (l : List (ℕ × ℕ)). list_all (is_reached y.world) l ≡ true) (sym (append-nil done) ∙ whole) m.reached));
      })
    where
      one-met : (o : Option PlainNode) (goal : ℕ) → nat_le goal (elim o [ None ↦ goal | Some n ↦ n.cursor ]) ≡ true → Meets o goal 0
      one-met None goal h = tt
      one-met (Some n) goal h = let less = le-of goal n.cursor h in omega (arith, less)

      all-met : (w : World) (ts : List (ℕ × ℕ)) → list_all (is_reached w) ts ≡ true → AllMet w (λ _. 0) ts
      all-met w [] h = tt
      all-met w (t ∷ ts) h = let p = both (is_reached w t) (list_all (is_reached w) ts) h in (one-met (node_at w t.0) t.1 p.0, all-met w ts p.1)
  mill-all done (t ∷ ts) k y whole rising met m =
      let assoc : (done ++ t ∷ []) ++ ts ≡ done ++ t ∷ ts = append_assoc done (t ∷ []) ts in
      leads-then script (IsMillingFrom script p start base ws tk goals (done ++ t ∷ []) (t.0 + 1)) (IsGoing script p start base ws tk) y (mill_events t.0 (lacking base t)) (flat_map (λ (t : ℕ × ℕ). mill_events t.0 (lacking base t)) ts)
      (mill-one done k t y rising.0 met.0 m) (λ x g. mill-all (done ++ t ∷ []) ts (t.0 + 1) x (assoc ∙ whole) rising.1 met.1 g)
