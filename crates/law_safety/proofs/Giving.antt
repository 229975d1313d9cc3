-- Steps of a node that give items: processing, entering, milling, and the answer to a subscription.
use Rattle.std.proofs.Common.{◌≡◌, ℕ, ◌+◌, ◌-◌, ◌*◌, ◌<◌, ◌≤◌, Bool, true, false, cond, not, ◌&&◌, ◌==◌, nat_lt, List, [], ◌∷◌, ◌++◌, length, drop, refl, sym, ap, ◌∙◌, arith, Option, Some, None}
use Rattle.std.specs.Prelude.{IsTrue}
use Rattle.std.proofs.lemmas.List.{append-nil}
use Rattle.std.proofs.Math.Nat.{le-div_iff_mul-le}
use Rattle.dpc_lists.specs.Lists.{nth, changed, list_all, is_nil}
use Rattle.dpc_model.specs.Operators.{all_of}
use Rattle.dpc_model.specs.Fragments.{serial, fragment_value}
use Rattle.dpc_model.specs.Granting.{with_ask}
use Rattle.dpc_model.specs.Actors.{role_of, reads_from, readers_of}
use Rattle.dpc_model.specs.Sessions.{Shown, given_items, stable_items, boundary_item, tentative_items, passed_item, item_if, first_batch, answer_to}
use Rattle.dpc_model.specs.declared.sessions.Sub.{Sub}
use Rattle.dpc_model.specs.declared.tuples.Tuple.{Tuple}
use Rattle.dpc_model.specs.declared.tuples.Tagged.{Tagged}
use Rattle.dpc_model.specs.declared.tuples.Item.{Item}
use Rattle.dpc_model.specs.declared.tuples.Item.TheVariants.{Undo, RecDone}
use Rattle.dpc_model.specs.declared.messages.NodeState.TheVariants.{Stable, UpFailure, Stabilization}
use Rattle.dpc_model.specs.declared.messages.NodeState.{NodeState}
use Rattle.dpc_model.specs.declared.messages.Subscribe.{Subscribe}
use Rattle.dpc_model.specs.declared.plans.Plan.{Plan}
use Rattle.dpc_model.specs.declared.plans.StreamRef.{StreamRef}
use Rattle.dpc_model.specs.declared.plans.StreamRef.TheVariants.{Frag}
use Rattle.node_model.specs.Mails.{mail, Stepped}
use Rattle.dpc_model.specs.NodeStates.{is_stable, is_up_failure, is_stabilization}
use Rattle.node_model.specs.Nodes.{Home, PlainNode, spec_of, own_readers, inputs_done, node_frontier, buckets_of, out_stable, out_with_closed, out_tentative, out_bound, out_passed, shown, complete_upto, ready}
use Rattle.node_model.specs.NodeSteps.{stably, give, given_by, given_stable, enter_step, after_stable_buckets, with_closed, with_failure, processing_upto, processing_step, after_last_correction, mill_step, on_subscribe}
use Rattle.world_model.specs.Safe.{AreTrueItems, IsSafeNode, has_done}
use Rattle.world_model.specs.Orderly.{fits_stream, item_fits, has_state_of_closed}
use Rattle.law_safety.proofs.Milling.{advanced-safe, IsSafeNode-same, upto-items-true}
use Rattle.law_safety.proofs.Truth.{given_items-true, AreTrueItems-append, tentative_items-true, passed_item-true, done_item-true}
use Rattle.law_safety.specs.Plans.{IsPlace}
use Rattle.dpc_lists.proofs.Truths.{all-append}
use Rattle.law_safety.proofs.Closing.{AreClosed, closed-of, closed-test, none-closed, stamps-moved}
use Rattle.law_safety.proofs.Processing.{stably-open, stably-complete, cursor-complete, processed-orderly, processed-safe, give-orderly, give-safe, given_by-true, base-follows}
use Rattle.law_safety.proofs.SoundPorts.{node-columns}
use Rattle.law_safety.proofs.Frames.{IsGood}
use Rattle.law_safety.proofs.Emptied.{shape-of, shape-test, later-good, finished-over}
use Rattle.dpc_lists.proofs.Elements.{length-changed}
use Rattle.law_safety.proofs.Numbering.{all-nth}
use Rattle.law_safety.proofs.Dues.{due-range}
use Rattle.law_safety.proofs.OutFits.{out_stable-fits, out_tentative-fits, drop-fits, cursor-within, view-within}
use Rattle.law_safety.proofs.Mailing.{AreMails, IsActor, IsSender, node-sender, batches-mails, given-fit, given-done, IsBoundWithin, IsPassedWithin, stable-fit, tentative-fit, boundary-fit, passed-fit, done-fit, done-append, stable-done, tentative-done, boundary-done, passed-done}
use Rattle.law_safety.proofs.StepCases.{by-processing, by-answer}

-- a step leaves a good node, and sends mails
pub record IsGoodStep (home : Home) (a most : ℕ) (done : Type 0) (s : Stepped PlainNode) : Type 0 where
  pub after : IsGood home most s.after
  pub mails : AreMails home.plan a done s.sends

-- the node has nothing left to correct
abbrev pub IsDoneNode : Home → PlainNode → Type 0
IsDoneNode home n = IsTrue (is_stable n.state) × (out_tentative home n ≡ [])

-- ---- giving

pub give-good : (home : Home) (a most : ℕ) (done : Type 0) (items : List Item) (n : PlainNode) → IsActor home a → n.recovering ≡ false → IsGood home most n →
    AreTrueItems home.plan (Frag home.frag) items → list_all (item_fits home.plan (Frag home.frag)) items ≡ true → (IsTrue (has_done items) → done) → IsGoodStep home a most done (give home items n)
give-good home a most done items n actor up g truth fits surely =
    let k = shape-of home most n g.orderly.shape in
    let same = k.subs in
    record {
      after = record { safe = give-safe home items n g.safe; orderly = give-orderly home most items n up g.orderly };
      mails = batches-mails home.plan a (Frag home.frag) done items n.subs (node-sender home a actor) truth fits surely (omega (arith, same));
    }

-- the bound and the passed mark of a node lie within the run
pub bound-within : (home : Home) (n : PlainNode) → IsPlace home → IsSafeNode home n → n.recovering ≡ false → IsBoundWithin home.plan (out_bound home n)
bound-within home n place safe up =
    elim (n.cursor == 0) as (λ c. IsBoundWithin home.plan (cond c None (Some (n.cursor * home.plan.width, length (out_stable home n))))) [
      | true ↦ tt
      | false ↦ cursor-within home n place safe up
    ]

pub passed-within : (home : Home) (n : PlainNode) → IsPlace home → AreClosed home n.cursor n.closed → IsPassedWithin home.plan (out_passed home n)
passed-within home n place closed =
    (elim home.plan.passing as (λ b. home.plan.passing ≡ b → IsPassedWithin home.plan (cond (b && not (is_nil n.closed)) (Some (node_frontier n * home.plan.width)) None)) [
      | true ↦ λ e. elim (not (is_nil n.closed)) as (λ c. IsPassedWithin home.plan (cond c (Some (node_frontier n * home.plan.width)) None)) [
        | true ↦ (e, view-within home n place closed)
        | false ↦ tt
      ]
      | false ↦ λ e. tt
    ]) refl

pub given_by-fit : (home : Home) (most : ℕ) (n new : PlainNode) (any_stable any_closed : Bool) → IsPlace home → new.recovering ≡ false → IsGood home most new →
    list_all (item_fits home.plan (Frag home.frag)) (given_items (length (out_stable home n)) (given_by home n new any_stable any_closed)) ≡ true
given_by-fit home most n new any_stable any_closed place up g =
    given-fit home.plan (Frag home.frag) (length (out_stable home n)) (given_by home n new any_stable any_closed)
    (drop-fits home.plan (Frag home.frag) (length (out_stable home n)) (out_stable home new) (out_stable-fits home new place g.safe up))
    (elim any_stable as (λ c. IsBoundWithin home.plan (cond c (out_bound home new) None)) [ true ↦ bound-within home new place g.safe up | false ↦ tt ])
    (drop-fits home.plan (Frag home.frag) (length (out_tentative home n)) (out_tentative home new) (out_tentative-fits home most new place g.safe g.orderly))
    (elim any_closed as (λ c. IsPassedWithin home.plan (cond c (out_passed home new) None)) [ true ↦ passed-within home new place (closed-of home new g.orderly.closed) | false ↦ tt ])

-- ---- the step that processes buckets

-- the node behind it
pub processed-good : (home : Home) (most last : ℕ) (n : PlainNode) → IsPlace home → IsGood home most n → n.recovering ≡ false → is_stabilization n.state ≡ false →
    node_frontier n ≤ last → last < buckets_of home.plan →
    let r = stably home n (last + 1 - node_frontier n) in
    IsGood home most (with_failure (with_closed home (last + 1 - node_frontier n - r) (after_stable_buckets home r n)))
processed-good home most last n place g up calm low high =
    let count = last + 1 - node_frontier n in
    let r = stably home n count in
    record {
      safe = processed-safe home r (count - r) n place g.safe up (stably-complete home n count (cursor-complete home n place g.safe up));
      orderly = processed-orderly home most r (count - r) n (node-columns home most n place.checked g.safe g.orderly) g.orderly up calm (stably-open home n count) (omega arith);
    }

pub processed_upto-good : (home : Home) (a most last : ℕ) (n : PlainNode) → IsActor home a → IsGood home most n → n.recovering ≡ false → is_stabilization n.state ≡ false →
    node_frontier n ≤ last → last < buckets_of home.plan → IsGoodStep home a most ⊥ (processing_upto home last n)
processed_upto-good home a most last n actor g up calm low high =
    let place = actor.place in
    let count = last + 1 - node_frontier n in
    let r = stably home n count in
    let m = with_closed home (count - r) (after_stable_buckets home r n) in
    let new = with_failure m in
    let good : IsGood home most new = processed-good home most last n place g up calm low high in
    let items = given_items (length (out_stable home n)) (given_by home n new (nat_lt 0 r) (nat_lt r count)) in
    give-good home a most ⊥ items new actor up good (given_by-true home n new (nat_lt 0 r) (nat_lt r count) place good.safe up)
    (given_by-fit home most n new (nat_lt 0 r) (nat_lt r count) place up good)
    (λ e. let none : has_done items ≡ false = given-done (length (out_stable home n)) (given_by home n new (nat_lt 0 r) (nat_lt r count)) in cc)

pub processing-good : (home : Home) (a most : ℕ) (n : PlainNode) → IsActor home a → IsGood home most n → n.recovering ≡ false → IsGoodStep home a most ⊥ (processing_step home n)
processing-good home a most n actor g up =
    by-processing home n (IsGoodStep home a most ⊥) (record { after = g; mails = tt })
    (λ last e due. let range = due-range home n n.clock last due in processed_upto-good home a most last n actor g up e range.0 range.1)

-- ---- entering

entering-good : (home : Home) (most : ℕ) (n : PlainNode) → n.recovering ≡ false → IsGood home most n → IsGood home most (record n { closed = []; state = Stabilization; grants = with_ask n.grants })
unfolding out_stable
entering-good home most n up g =
    let m = record n { closed = []; state = Stabilization; grants = with_ask n.grants } in
    let o = g.orderly in
    let closed = closed-of home n o.closed in
    let few = closed.within in
    record {
      safe = IsSafeNode-same home n m refl refl refl refl g.safe;
      orderly = record {
        ports = o.ports;
        state = rw up refl;
        recovering = rw up refl;
        closed = closed-test home m (none-closed home n.cursor (omega (arith, few)));
        stamps = o.stamps;
        base = o.base;
        shape = o.shape;
      };
    }

pub entered-good : (home : Home) (a most : ℕ) (n : PlainNode) → IsActor home a → n.recovering ≡ false → IsGood home most n → IsGoodStep home a most ⊥ (enter_step home n)
unfolding enter_step
entered-good home a most n actor up g =
    give-good home a most ⊥ (Undo (length (out_stable home n)) ∷ []) (record n { closed = []; state = Stabilization; grants = with_ask n.grants }) actor up (entering-good home most n up g)
    (tt, tt) refl (λ e. cc)

-- ---- milling

pub none-tentative : (home : Home) (n : PlainNode) → n.closed ≡ [] → out_tentative home n ≡ []
unfolding out_tentative out_with_closed out_stable
none-tentative home n none =
    let whole : serial (inputs_done home n) ++ all_of n.closed ≡ serial (inputs_done home n) = rw none (append-nil (serial (inputs_done home n))) in
    let view : node_frontier n ≡ n.cursor = rw none (omega arith) in
    rw (whole, view) (drop-all (fragment_value (spec_of home).ops (serial (inputs_done home n)) (n.cursor * home.plan.width)))
  where
    drop-all : (ts : List Tuple) → drop (length ts) ts ≡ []
    drop-all [] = refl
    drop-all (t ∷ ts) = drop-all ts

-- a node whose cursor moved over complete buckets, with none closed
pub advanced-good : (home : Home) (most r : ℕ) (n : PlainNode) → IsPlace home → n.recovering ≡ false → n.closed ≡ [] → n.cursor + r ≤ complete_upto home n → IsGood home most n → IsGood home most (after_stable_buckets home r n)
unfolding out_stable
advanced-good home most r n place up none few g =
    let m = after_stable_buckets home r n in
    let o = g.orderly in
    let safe = advanced-safe home r n place.checked.sound place.there place.checked.width g.safe up few in
    let within = cursor-within home m place safe up in
    let far : n.cursor + r ≤ buckets_of home.plan = (le-div_iff_mul-le {k = home.plan.width} {x = n.cursor + r} {y = home.plan.end} place.checked.width).1 within in
    record {
      safe = safe;
      orderly = record {
        ports = o.ports;
        state = o.state;
        recovering = rw up refl;
        closed = closed-test home m (rw none (none-closed home (n.cursor + r) far));
        stamps = stamps-moved n.cursor r (buckets_of home.plan) n.stamps o.stamps;
        base = λ _. base-follows n.base _ _;
        shape = o.shape;
      };
    }

pub reconciled-good : (home : Home) (most : ℕ) (m : PlainNode) → m.recovering ≡ false → m.closed ≡ [] → IsGood home most m → IsGood home (most + 1) (after_last_correction true m)
unfolding out_stable
reconciled-good home most m up none g =
    let o = (later-good home most m g).orderly in
    let k = shape-of home most m g.orderly.shape in
    let tries = k.tries in
    record {
      safe = IsSafeNode-same home m (after_last_correction true m) refl refl refl refl g.safe;
      orderly = record {
        ports = o.ports;
        state = rw (up, none) refl;
        recovering = rw up refl;
        closed = o.closed;
        stamps = o.stamps;
        base = o.base;
        shape = shape-test home (most + 1) (after_last_correction true m) (record {
          subs = k.subs;
          acks = k.acks;
          peers = k.peers;
          heard = k.heard;
          me = k.me;
          tries = omega (arith, tries);
          over = finished-over m.grants most k.over;
        });
      };
    }

pub milled-good : (home : Home) (a most r : ℕ) (n : PlainNode) → IsActor home a → n.recovering ≡ false → n.closed ≡ [] → n.cursor + r ≤ complete_upto home n → IsGood home most n →
    IsGoodStep home a (most + 1) (IsDoneNode home (mill_step home r n).after) (mill_step home r n)
unfolding mill_step
milled-good home a most r n actor up none few g =
    let place = actor.place in
    let m = after_stable_buckets home r n in
    let good = advanced-good home most r n place up none few g in
    let done = is_stabilization n.state && ready home m == 0 in
    (elim done as (λ b. IsGoodStep home a (most + 1) (IsDoneNode home (give home (given_items (length (out_stable home n)) (given_stable home n m b)) (after_last_correction b m)).after)
    (give home (given_items (length (out_stable home n)) (given_stable home n m b)) (after_last_correction b m))) [
      | true ↦ give-good home a (most + 1) (IsDoneNode home (give home (given_items (length (out_stable home n)) (given_stable home n m true)) (after_last_correction true m)).after)
          (given_items (length (out_stable home n)) (given_stable home n m true)) (after_last_correction true m) actor up (reconciled-good home most m up none good)
          (items-true place m good true) (items-fit place m good true) (λ e. (refl, none-tentative home _ none))
      | false ↦ give-good home a (most + 1) (IsDoneNode home (give home (given_items (length (out_stable home n)) (given_stable home n m false)) m).after)
          (given_items (length (out_stable home n)) (given_stable home n m false)) m actor up (later-good home most m good)
          (items-true place m good false) (items-fit place m good false)
          (λ e. let not_done : has_done (given_items (length (out_stable home n)) (given_stable home n m false)) ≡ false = given-done (length (out_stable home n)) (given_stable home n m false) in cc)
    ])
  where
    items-true : IsPlace home → (m : PlainNode) → IsGood home most (after_stable_buckets home r n) → (b : Bool) → AreTrueItems home.plan (Frag home.frag) (given_items (length (out_stable home n)) (given_stable home n (after_stable_buckets home r n) b))
    items-true place m good b =
        let new = after_stable_buckets home r n in
        let o = good.safe.output up in
        let within = cursor-within home new place good.safe up in
        given_items-true home.plan (Frag home.frag) (length (out_stable home n)) (given_stable home n new b)
        (upto-items-true home.plan (Frag home.frag) (new.cursor * home.plan.width) (length (out_stable home n)) (out_stable home new) place.checked.sound within o.output)
        (elim (n.cursor + r == 0) as (λ c. AreTrueItems home.plan (Frag home.frag) (boundary_item (cond c None (Some (new.cursor * home.plan.width, length (out_stable home new)))))) [
          | true ↦ tt
          | false ↦ ((within, ap length o.output), tt)
        ])

    items-fit : IsPlace home → (m : PlainNode) → IsGood home most (after_stable_buckets home r n) → (b : Bool) →
        list_all (item_fits home.plan (Frag home.frag)) (given_items (length (out_stable home n)) (given_stable home n (after_stable_buckets home r n) b)) ≡ true
    items-fit place m good b =
        let new = after_stable_buckets home r n in
        given-fit home.plan (Frag home.frag) (length (out_stable home n)) (given_stable home n new b)
        (drop-fits home.plan (Frag home.frag) (length (out_stable home n)) (out_stable home new) (out_stable-fits home new place good.safe up))
        (bound-within home new place good.safe up) refl tt

-- ---- the answer to a subscription

-- sessions of a node that does not recover are changed
subs-good : (home : Home) (most : ℕ) (subs : List Sub) (n : PlainNode) → n.recovering ≡ false → length subs ≡ length n.subs → IsGood home most n → IsGood home most (record n { subs = subs })
unfolding out_stable
subs-good home most subs n up same g =
    let m = record n { subs = subs } in
    let o = g.orderly in
    let k = shape-of home most n o.shape in
    record {
      safe = IsSafeNode-same home n m refl refl refl refl g.safe;
      orderly = record {
        ports = o.ports;
        state = o.state;
        recovering = rw up refl;
        closed = o.closed;
        stamps = o.stamps;
        base = o.base;
        shape = shape-test home most m (record { subs = same ∙ k.subs; acks = k.acks; peers = k.peers; heard = k.heard; me = k.me; tries = k.tries; over = k.over });
      };
    }

-- the first batch that a sender shows, where what it shows is true and fits
pub record IsShown (plan : Plan) (s : StreamRef) (x : Shown) : Type 0 where
  pub stable : (k : ℕ) → AreTrueItems plan s (stable_items k (drop k x.stable))
  pub bound : AreTrueItems plan s (boundary_item x.bound)
  pub stable_fits : list_all (fits_stream plan s) x.stable ≡ true
  pub bound_fits : IsBoundWithin plan x.bound
  pub tentative_fits : list_all (fits_stream plan s) x.tentative ≡ true
  pub passed_fits : IsPassedWithin plan x.passed

pub first-true : (plan : Plan) (s : StreamRef) (x : Shown) (asked : Subscribe) → IsShown plan s x → AreTrueItems plan s (first_batch x asked)
first-true plan s x asked h =
    let joined = AreTrueItems-append plan s in
    let undo = item_if asked.tentative (Undo asked.n) in
    let stable = stable_items asked.n (drop asked.n x.stable) in
    let bound = boundary_item x.bound in
    let tentative = tentative_items x.tentative in
    let passed = passed_item x.passed in
    joined (undo ++ stable ++ bound ++ tentative ++ passed) (item_if (asked.tentative && x.is_stable) RecDone)
    (joined (undo ++ stable ++ bound ++ tentative) passed
    (joined (undo ++ stable ++ bound) tentative
    (joined (undo ++ stable) bound
    (joined undo stable (undo-true asked.tentative) (h.stable asked.n)) h.bound) (tentative_items-true plan s x.tentative)) (passed_item-true plan s x.passed)) (done_item-true plan s (asked.tentative && x.is_stable))
  where
    undo-true : (b : Bool) → AreTrueItems plan s (item_if b (Undo asked.n))
    undo-true true = (tt, tt)
    undo-true false = tt

pub first-fit : (plan : Plan) (s : StreamRef) (x : Shown) (asked : Subscribe) → IsShown plan s x → list_all (item_fits plan s) (first_batch x asked) ≡ true
first-fit plan s x asked h =
    let q = item_fits plan s in
    let undo = item_if asked.tentative (Undo asked.n) in
    let stable = stable_items asked.n (drop asked.n x.stable) in
    let bound = boundary_item x.bound in
    let tentative = tentative_items x.tentative in
    let passed = passed_item x.passed in
    all-append q (undo ++ stable ++ bound ++ tentative ++ passed) (item_if (asked.tentative && x.is_stable) RecDone)
    (all-append q (undo ++ stable ++ bound ++ tentative) passed
    (all-append q (undo ++ stable ++ bound) tentative
    (all-append q (undo ++ stable) bound
    (all-append q undo stable (undo-fit asked.tentative) (stable-fit plan s asked.n (drop asked.n x.stable) (drop-fits plan s asked.n x.stable h.stable_fits)))
    (boundary-fit plan s x.bound h.bound_fits)) (tentative-fit plan s x.tentative h.tentative_fits)) (passed-fit plan s x.passed h.passed_fits)) (done-fit plan s (asked.tentative && x.is_stable))
  where
    undo-fit : (b : Bool) → list_all (item_fits plan s) (item_if b (Undo asked.n)) ≡ true
    undo-fit true = refl
    undo-fit false = refl

-- it ends with RecDone only where the sender is STABLE
pub first-done : (x : Shown) (asked : Subscribe) → IsTrue (has_done (first_batch x asked)) → x.is_stable ≡ true
first-done x asked h =
    let undo = item_if asked.tentative (Undo asked.n) in
    let stable = stable_items asked.n (drop asked.n x.stable) in
    let bound = boundary_item x.bound in
    let tentative = tentative_items x.tentative in
    let passed = passed_item x.passed in
    let a = done-append undo stable (undo-done asked.tentative) ∙ stable-done asked.n (drop asked.n x.stable) in
    let b = done-append (undo ++ stable) bound a ∙ boundary-done x.bound in
    let c = done-append (undo ++ stable ++ bound) tentative b ∙ tentative-done x.tentative in
    let d = done-append (undo ++ stable ++ bound ++ tentative) passed c ∙ passed-done x.passed in
    last asked.tentative x.is_stable (sym (done-append (undo ++ stable ++ bound ++ tentative ++ passed) (item_if (asked.tentative && x.is_stable) RecDone) d) ∙ h)
  where
    undo-done : (b : Bool) → has_done (item_if b (Undo asked.n)) ≡ false
    undo-done true = refl
    undo-done false = refl

    last : (a b : Bool) → has_done (item_if (a && b) RecDone) ≡ true → b ≡ true
    last true true e = refl
    last true false e = cc
    last false b e = cc

-- what a node shows
stable-open : (state : NodeState) → is_stable state ≡ true → is_up_failure state ≡ false
stable-open Stable e = refl
stable-open UpFailure e = cc
stable-open Stabilization e = refl

pub shown-is : (home : Home) (most : ℕ) (n : PlainNode) → IsPlace home → n.recovering ≡ false → IsGood home most n → IsShown home.plan (Frag home.frag) (shown home n)
shown-is home most n place up g =
    let o = g.safe.output up in
    let within = cursor-within home n place g.safe up in
    record {
      stable = λ k. upto-items-true home.plan (Frag home.frag) (n.cursor * home.plan.width) k (out_stable home n) place.checked.sound within o.output;
      bound = elim (n.cursor == 0) as (λ c. AreTrueItems home.plan (Frag home.frag) (boundary_item (cond c None (Some (n.cursor * home.plan.width, length (out_stable home n)))))) [
        | true ↦ tt
        | false ↦ ((within, ap length o.output), tt)
      ];
      stable_fits = out_stable-fits home n place g.safe up;
      bound_fits = bound-within home n place g.safe up;
      tentative_fits = out_tentative-fits home most n place g.safe g.orderly;
      passed_fits = passed-within home n place (closed-of home n g.orderly.closed);
    }

-- a STABLE node has nothing closed
pub stable-none : (n : PlainNode) → n.recovering ≡ false → has_state_of_closed n ≡ true → is_stable n.state ≡ true → n.closed ≡ []
stable-none n up h e = by-closed n.closed refl
  where
    by-closed : (closed : List (List Tagged)) → n.closed ≡ closed → n.closed ≡ []
    by-closed [] f = f
    by-closed (b ∷ bs) f =
        let failed : is_up_failure n.state ≡ true = rw (up, f) at h in
        let open_state = stable-open n.state e in absurd (let clash : true ≡ false = sym failed ∙ open_state in cc)

pub answer-mails : (plan : Plan) (a : ℕ) (s : StreamRef) (done : Type 0) (k : ℕ) (x : Shown) (sub : Sub) (asked : Subscribe) → IsSender plan a s → IsShown plan s x → k < length (readers_of plan s) →
    (x.is_stable ≡ true → done) → AreMails plan a done (elim (answer_to x sub asked).answer [ None ↦ [] | Some m ↦ mail (nth 0 (readers_of plan s) k) m ∷ [] ])
answer-mails plan a s done k x sub asked sender shows low surely =
    let way = all-nth (λ b. reads_from plan (role_of plan b) (role_of plan a)) 0 (readers_of plan s) k low sender.readers in
    by-answer x sub asked (nth 0 (readers_of plan s) k) (AreMails plan a done) tt (sender.truncated (nth 0 (readers_of plan s) k) asked.sess x.base done way, tt) (
      sender.batch (nth 0 (readers_of plan s) k) asked.sess 0 (first_batch x asked) done way (first-true plan s x asked shows) (first-fit plan s x asked shows) (λ e. surely (first-done x asked e)),
      tt,
    )

pub on_subscribe-good : (home : Home) (a most : ℕ) (asked : Subscribe) (o : Option ℕ) (n : PlainNode) → IsActor home a → n.recovering ≡ false → IsGood home most n →
    ((k : ℕ) → o ≡ Some k → k < length (own_readers home)) → IsGoodStep home a most (IsDoneNode home (on_subscribe home asked o n).after) (on_subscribe home asked o n)
on_subscribe-good home a most asked None n actor up g low = record { after = g; mails = tt }
on_subscribe-good home a most asked (Some k) n actor up g low =
    let place = actor.place in
    let sub = nth (record { kept = None; is_open = false; batches = 0 }) n.subs k in
    let answer = answer_to (shown home n) sub asked in
    let m = record n { subs = changed k (λ _. answer.after) n.subs } in
    record {
      after = subs-good home most (changed k (λ _. answer.after) n.subs) n up (length-changed k (λ _. answer.after) n.subs) g;
      mails = answer-mails home.plan a (Frag home.frag) (IsDoneNode home m) k (shown home n) sub asked (node-sender home a actor) (shown-is home most n place up g) (low k refl)
          (λ e. (e, none-tentative home m (stable-none n up g.orderly.state e)));
    }
