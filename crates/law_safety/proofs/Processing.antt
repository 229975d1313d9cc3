-- The step of a tick that processes buckets: first some stably, then others as they stand.
use Rattle.std.proofs.Common.{◌≡◌, ℕ, suc, ◌+◌, ◌-◌, ◌*◌, ◌/◌, ◌<◌, ◌≤◌, min, max, Bool, true, false, cond, ◌==◌, nat_le, List, [], ◌∷◌, ◌++◌, map, length, refl, ap, arith, ◌⊎◌, inl, inr, Some, None, not}
use Rattle.std.proofs.Math.Nat.{le-div_iff_mul-le}
use Rattle.dpc_lists.specs.Lists.{least, range_with_len, is_nil}
use Rattle.dpc_model.specs.Reading.{Reader}
use Rattle.dpc_model.specs.Sessions.{given_items, boundary_item, with_batches}
use Rattle.dpc_model.specs.declared.tuples.Item.{Item}
use Rattle.dpc_model.specs.declared.tuples.Tagged.{Tagged}
use Rattle.dpc_model.specs.declared.messages.NodeState.TheVariants.{UpFailure}
use Rattle.dpc_model.specs.declared.plans.Plan.{Plan}
use Rattle.dpc_model.specs.declared.plans.StreamRef.{StreamRef}
use Rattle.dpc_model.specs.declared.plans.StreamRef.TheVariants.{Frag}
use Rattle.dpc_model.specs.NodeStates.{is_up_failure, is_stabilization}
use Rattle.node_model.specs.Nodes.{Home, PlainNode, streams_of, held_by, node_frontier, bucket_of, buckets_of, out_stable, out_bound, complete_upto}
use Rattle.node_model.specs.NodeSteps.{stably, after_stable_buckets, with_closed, with_failure, give, given_by}
use Rattle.world_model.specs.Safe.{EachReaches, IsSafeNode, EachHolds, AreTrueItems}
use Rattle.world_model.specs.Orderly.{IsOrderlyNode, closed_in_place, stamps_in_place, base_follows, has_shape, has_state_of_closed, are_ports_sound, port_columns}
use Rattle.law_safety.proofs.Milling.{advanced-safe, IsSafeNode-same, reaches-end, upto-items-true}
use Rattle.law_safety.proofs.Truth.{given_items-true}
use Rattle.law_safety.specs.Plans.{IsPlace}
use Rattle.dpc_lists.proofs.Truths.{le-test, not-of}
use Rattle.dpc_model.proofs.Subs.{length-counted}
use Rattle.law_safety.proofs.Serials.{AreColumns}
use Rattle.law_safety.proofs.Closing.{AreClosed, closed-of, closed-test, closed-more, none-closed, stamps-moved}

-- ---- how far the cursor may go

-- the readers of the ports are as many as the streams
pub holds-length : (plan : Plan) (ss : List StreamRef) (rs : List Reader) → EachHolds plan ss rs → length rs ≡ length ss
holds-length plan [] [] h = refl
holds-length plan [] (r ∷ rs) h = absurd h
holds-length plan (s ∷ ss) [] h = absurd h
holds-length plan (s ∷ ss) (r ∷ rs) h = ap suc (holds-length plan ss rs h.1)

pub least-reached : (width c : ℕ) (rs : List Reader) → 0 < width → 0 < length rs → EachReaches (c * width) rs → c ≤ least 0 (map (λ (r : Reader). r.bound / width) rs)
least-reached width c [] pos some h = absurd (omega (arith, some))
least-reached width c (r ∷ []) pos some h = (le-div_iff_mul-le {k = width} {x = c} {y = r.bound} pos).1 h.0
least-reached width c (r ∷ q ∷ rs) pos some h =
    let first : c ≤ r.bound / width = (le-div_iff_mul-le {k = width} {x = c} {y = r.bound} pos).1 h.0 in
    let rest : c ≤ least 0 (map (λ (x : Reader). x.bound / width) (q ∷ rs)) = least-reached width c (q ∷ rs) pos (omega arith) h.1 in
    omega (arith, first, rest)

-- what is processed stably is complete, and only where none is closed
pub stably-complete : (home : Home) (n : PlainNode) (count : ℕ) → n.cursor ≤ complete_upto home n → n.cursor + stably home n count ≤ complete_upto home n
stably-complete home n count h =
    elim (is_nil n.closed) as (λ b. n.cursor + min count (cond b (complete_upto home n - n.cursor) 0) ≤ complete_upto home n) [
      | true ↦ omega (arith, h)
      | false ↦ omega (arith, h)
    ]

pub stably-open : (home : Home) (n : PlainNode) (count : ℕ) → (stably home n count ≡ 0) ⊎ (n.closed ≡ [])
stably-open home n count = by-closed n.closed
  where
    by-closed : (closed : List (List Tagged)) → (min count (cond (is_nil closed) (complete_upto home n - n.cursor) 0) ≡ 0) ⊎ (closed ≡ [])
    by-closed [] = inr refl
    by-closed (b ∷ bs) = inl (omega arith)

-- ---- the closed buckets

pub closing-closed : (home : Home) (r extra : ℕ) (n : PlainNode) → AreColumns (port_columns home) (held_by n) → AreClosed home n.cursor n.closed → (r ≡ 0) ⊎ (n.closed ≡ []) → node_frontier n + r + extra ≤ buckets_of home.plan →
    AreClosed home (n.cursor + r) (with_closed home extra (after_stable_buckets home r n)).closed
closing-closed home r extra n fits h none few =
    closed-more home (n.cursor + r) extra (held_by n) n.closed fits (moved-closed none) (omega (arith, few))
  where
    moved-closed : (r ≡ 0) ⊎ (n.closed ≡ []) → AreClosed home (n.cursor + r) n.closed
    moved-closed (inl e) = let still : n.cursor + r ≡ n.cursor = omega arith in rw still h
    moved-closed (inr e) = rw e (none-closed home (n.cursor + r) (omega (arith, few)))

-- ---- a node that processed buckets is orderly

pub base-follows : (base l count : ℕ) → nat_le (min l count) (max base (min l count)) ≡ true
base-follows base l count = le-test (min l count) (max base (min l count)) (omega arith)

pub with_failure-orderly : (home : Home) (most : ℕ) (m : PlainNode) → are_ports_sound home.plan m.grants.inc most (streams_of home) m.ports ≡ true →
    m.recovering ≡ false → (is_nil m.closed ≡ true → is_up_failure m.state ≡ false) → closed_in_place home m ≡ true → stamps_in_place home m ≡ true →
    base_follows home m ≡ true → has_shape home most m ≡ true → IsOrderlyNode home most (with_failure m)
unfolding out_stable
with_failure-orderly home most m ports up state closed stamps base shape =
    record {
      ports = ports;
      state = rw up (by-closed (is_nil m.closed) refl);
      recovering = rw up refl;
      closed = closed;
      stamps = stamps;
      base = λ _. base;
      shape = shape;
    }
  where
    by-closed : (b : Bool) → is_nil m.closed ≡ b → cond b (not (is_up_failure (cond b m.state UpFailure))) (is_up_failure (cond b m.state UpFailure)) ≡ true
    by-closed true e = rw (state e) refl
    by-closed false e = refl

pub nil-first : {X : Type 0} (xs ys : List X) → is_nil (xs ++ ys) ≡ true → is_nil xs ≡ true
nil-first [] ys e = refl
nil-first (x ∷ xs) ys e = cc

-- where none is closed, a node is not UP_FAILURE
pub open-state : (n : PlainNode) → n.recovering ≡ false → is_nil n.closed ≡ true → has_state_of_closed n ≡ true → is_up_failure n.state ≡ false
open-state n up e h = not-of (is_up_failure n.state) (rw (up, e) at h)

-- the state after r buckets were processed stably and more of them closed
pub processed-orderly : (home : Home) (most r extra : ℕ) (n : PlainNode) → AreColumns (port_columns home) (held_by n) → IsOrderlyNode home most n → n.recovering ≡ false → is_stabilization n.state ≡ false →
    (r ≡ 0) ⊎ (n.closed ≡ []) → node_frontier n + r + extra ≤ buckets_of home.plan → IsOrderlyNode home most (with_failure (with_closed home extra (after_stable_buckets home r n)))
unfolding out_stable
processed-orderly home most r extra n fits o up calm none few =
    let m = with_closed home extra (after_stable_buckets home r n) in
    with_failure-orderly home most m o.ports up
    (λ e. open-state n up (nil-first n.closed (map (bucket_of home (after_stable_buckets home r n)) (range_with_len (node_frontier (after_stable_buckets home r n)) extra)) e) o.state)
    (closed-test home m (closing-closed home r extra n fits (closed-of home n o.closed) none few))
    (stamps-moved n.cursor r (buckets_of home.plan) n.stamps o.stamps)
    (base-follows n.base _ _) o.shape

-- ---- giving items

-- a node whose sessions were counted is orderly
pub give-orderly : (home : Home) (most : ℕ) (items : List Item) (n : PlainNode) → n.recovering ≡ false → IsOrderlyNode home most n → IsOrderlyNode home most (give home items n).after
unfolding out_stable
give-orderly home most items n up o =
    record {
      ports = o.ports;
      state = o.state;
      recovering = rw up refl;
      closed = o.closed;
      stamps = o.stamps;
      base = o.base;
      shape = rw (length-counted items n.subs) o.shape;
    }

-- ---- what is safe

with_failure-safe : (home : Home) (m : PlainNode) → IsSafeNode home m → IsSafeNode home (with_failure m)
with_failure-safe home m safe = IsSafeNode-same home m (with_failure m) refl refl refl refl safe

pub processed-safe : (home : Home) (r extra : ℕ) (n : PlainNode) → IsPlace home → IsSafeNode home n → n.recovering ≡ false → n.cursor + r ≤ complete_upto home n →
    IsSafeNode home (with_failure (with_closed home extra (after_stable_buckets home r n)))
processed-safe home r extra n place safe up h =
    let m = after_stable_buckets home r n in
    with_failure-safe home (with_closed home extra m) (IsSafeNode-same home m (with_closed home extra m) refl refl refl refl
    (advanced-safe home r n place.checked.sound place.there place.checked.width safe up h))

-- a safe node's cursor is complete
pub cursor-complete : (home : Home) (n : PlainNode) → IsPlace home → IsSafeNode home n → n.recovering ≡ false → n.cursor ≤ complete_upto home n
cursor-complete home n place safe up =
    least-reached home.plan.width n.cursor (held_by n) place.checked.width
    (let same = holds-length home.plan (streams_of home) (held_by n) safe.inputs in let some = place.reads in omega (arith, same, some)) (safe.output up).reaches

-- ---- what is given

-- what processed buckets give is true, where the node after them is safe
pub given_by-true : (home : Home) (n new : PlainNode) (any_stable any_closed : Bool) → IsPlace home → IsSafeNode home new → new.recovering ≡ false →
    AreTrueItems home.plan (Frag home.frag) (given_items (length (out_stable home n)) (given_by home n new any_stable any_closed))
given_by-true home n new any_stable any_closed place safe up =
    let g = given_by home n new any_stable any_closed in
    let o = safe.output up in
    let b = new.cursor * home.plan.width in
    let same = holds-length home.plan (streams_of home) (held_by new) safe.inputs in
    let some = place.reads in
    let within : b ≤ home.plan.end = reaches-end home.plan b (streams_of home) (held_by new) (omega (arith, same, some)) safe.inputs o.reaches in
    given_items-true home.plan (Frag home.frag) (length (out_stable home n)) g
    (upto-items-true home.plan (Frag home.frag) b (length (out_stable home n)) (out_stable home new) place.checked.sound within o.output)
    (elim any_stable as (λ c. AreTrueItems home.plan (Frag home.frag) (boundary_item (cond c (out_bound home new) None))) [
      | true ↦ elim (new.cursor == 0) as (λ c. AreTrueItems home.plan (Frag home.frag) (boundary_item (cond c None (Some (b, length (out_stable home new)))))) [
        | true ↦ tt
        | false ↦ ((within, ap length o.output), tt)
      ]
      | false ↦ tt
    ])

pub give-safe : (home : Home) (items : List Item) (n : PlainNode) → IsSafeNode home n → IsSafeNode home (give home items n).after
give-safe home items n safe = IsSafeNode-same home n (record n { subs = with_batches items n.subs }) refl refl refl refl safe
