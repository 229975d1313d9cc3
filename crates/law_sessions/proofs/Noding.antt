-- What each step of a node leaves of its readers' sessions.
use Rattle.std.proofs.Common.{◌≡◌, ℕ, suc, ◌+◌, ◌-◌, ◌*◌, ◌≤◌, true, false, cond, not, ◌&&◌, ◌==◌, nat_lt, List, [], ◌∷◌, ◌++◌, map, length, refl, sym, ap, subst, ◌∙◌, arith, Some, None, slice_get, ◌⊎◌, inl, inr}
use Rattle.std.specs.Prelude.{zip}
use Rattle.dpc_lists.specs.Lists.{nth, list_all}
use Rattle.dpc_model.specs.Fragments.{serial, fragment_value, ideal_upto}
use Rattle.dpc_model.specs.Operators.{all_of}
use Rattle.dpc_model.specs.Granting.{with_ask, own_key}
use Rattle.dpc_model.specs.Ports.{Port, must_reopen, choice_at, subscriptions, acks_to}
use Rattle.dpc_model.specs.Inlets.{with_next_session, asked_by}
use Rattle.dpc_model.specs.Actors.{senders_of}
use Rattle.dpc_model.specs.Sessions.{Shown, with_session_shut, tally_of, given_items, with_batches}
use Rattle.dpc_model.specs.declared.sessions.Sub.{Sub}
use Rattle.dpc_model.specs.declared.tuples.Tuple.{Tuple}
use Rattle.dpc_model.specs.declared.tuples.Tagged.{Tagged}
use Rattle.dpc_model.specs.declared.tuples.Item.{Item}
use Rattle.dpc_model.specs.declared.tuples.Item.TheVariants.{Undo}
use Rattle.dpc_model.specs.declared.messages.Message.{Message}
use Rattle.dpc_model.specs.declared.messages.Message.TheVariants as message
use Rattle.dpc_model.specs.declared.messages.NodeState.TheVariants.{Stabilization}
use Rattle.dpc_model.specs.declared.plans.Plan.{Plan}
use Rattle.dpc_model.specs.declared.plans.StreamRef.{StreamRef}
use Rattle.dpc_model.specs.declared.plans.StreamRef.TheVariants.{Frag}
use Rattle.node_model.specs.Mails.{Mail, mail, mails, in_actor_order, to_each, Stepped}
use Rattle.dpc_model.specs.NodeStates.{is_stabilization}
use Rattle.node_model.specs.Nodes.{Home, PlainNode, spec_of, streams_of, own_readers, inputs_done, node_frontier, out_stable, out_with_closed, out_tentative, shown, ready, complete_upto, buckets_of}
use Rattle.node_model.specs.NodeSteps.{idle_step, then_do, give, given_by, given_stable, enter_step, after_stable_buckets, with_closed, with_failure, stably, processing_upto, processing_step, after_last_correction, mill_step, peers_of, after_clock, may_start_afresh, choice_step, ask_step, done_at, acks_from, beat_of, beats, announcing_step, serving_step, snapshot_ask_step, rest_of_tick, with_fresh_start, with_marks_ended, tick_step}
use Rattle.law_safety.proofs.Outputs.{inputs-held}
use Rattle.law_safety.specs.Plans.{IsPlace}
use Rattle.dpc_lists.proofs.Truths.{all-append, all-sort, all-map, not-of}
use Rattle.law_safety.proofs.Frames.{IsGood, marks-good, clocked-good}
use Rattle.law_safety.proofs.Emptied.{shape-of, is_shut, emptied-of, later-good}
use Rattle.law_safety.proofs.Starting.{fresh-good}
use Rattle.law_safety.proofs.Numbering.{all-at}
use Rattle.law_safety.proofs.Mailing.{IsActor}
use Rattle.law_safety.proofs.Dues.{due-range}
use Rattle.law_safety.proofs.Giving.{advanced-good, processed-good, reconciled-good}
use Rattle.law_safety.proofs.Ticked.{choosing-good, reconciling-good, reconciling-recovering}
use Rattle.law_safety.proofs.Delivered.{recovers-or}
use Rattle.law_safety.proofs.Views.{given-law, undo-law}
use Rattle.law_safety.proofs.NodeViews.{clear-shown, shown-subs, processed-step, milled-step}
use Rattle.law_safety.proofs.Histories.{AreDistinct, Carries}
use Rattle.law_safety.proofs.StepCases.{by-asking, by-processing}
use Rattle.law_sessions.proofs.Keeping.{Keeps, SameShown, is_bare, keeps-then, keeps-same, keeps-shut, keeps-gave, mapped}

-- a step of a node leaves what is held
abbrev pub Goes : Home → ℕ → PlainNode → Stepped PlainNode → Type 0
Goes home a n s = Keeps home.plan (Frag home.frag) a (own_readers home) (shown home n) n.subs (shown home s.after) s.after.subs s.sends

pub goes-then : (home : Home) (a : ℕ) (n : PlainNode) (s : Stepped PlainNode) (f : PlainNode → Stepped PlainNode) → Goes home a n s → Goes home a s.after (f s.after) → Goes home a n (then_do s f)
goes-then home a n s f h k =
    keeps-then home.plan (Frag home.frag) a (own_readers home) (shown home n) (shown home s.after) (shown home (f s.after).after) n.subs s.after.subs (f s.after).after.subs s.sends (f s.after).sends h k

-- ---- steps that show the same

-- what stays of a node
pub record SameRest (n m : PlainNode) : Type 0 where
  pub recovering : m.recovering ≡ n.recovering
  pub cursor : m.cursor ≡ n.cursor
  pub closed : m.closed ≡ n.closed
  pub subs : m.subs ≡ n.subs

pub same-rest : (n : PlainNode) → SameRest n n
same-rest n = record { recovering = refl; cursor = refl; closed = refl; subs = refl }

inputs-same : (home : Home) (most more : ℕ) (n m : PlainNode) → IsPlace home → IsGood home most n → IsGood home more m → n.recovering ≡ false → SameRest n m → inputs_done home m ≡ inputs_done home n
inputs-same home most more n m place g k up same =
    let width = home.plan.width in
    let one = inputs-held home.plan (n.cursor * width) place.checked.sound (streams_of home) n.ports g.safe.inputs (g.safe.output up).reaches in
    let two = inputs-held home.plan (m.cursor * width) place.checked.sound (streams_of home) m.ports k.safe.inputs (k.safe.output (same.recovering ∙ up)).reaches in
    two ∙ ap (λ (c : ℕ). map (λ s. ideal_upto home.plan s (c * width)) (streams_of home)) same.cursor ∙ sym one

stable-same : (home : Home) (n m : PlainNode) → inputs_done home m ≡ inputs_done home n → m.cursor ≡ n.cursor → out_stable home m ≡ out_stable home n
unfolding out_stable
stable-same home n m inputs cursor =
    ap (λ (tss : List (List Tuple)). fragment_value (spec_of home).ops (serial tss) (m.cursor * home.plan.width)) inputs
    ∙ ap (λ (c : ℕ). fragment_value (spec_of home).ops (serial (inputs_done home n)) (c * home.plan.width)) cursor

view-same : (home : Home) (n m : PlainNode) → inputs_done home m ≡ inputs_done home n → m.cursor ≡ n.cursor → m.closed ≡ n.closed → out_with_closed home m ≡ out_with_closed home n
unfolding out_with_closed
view-same home n m inputs cursor closed =
    ap (λ (tss : List (List Tuple)). fragment_value (spec_of home).ops (serial tss ++ all_of m.closed) (node_frontier m * home.plan.width)) inputs
    ∙ ap (λ (b : List (List Tagged)). fragment_value (spec_of home).ops (serial (inputs_done home n) ++ all_of b) ((m.cursor + length b) * home.plan.width)) closed
    ∙ ap (λ (c : ℕ). fragment_value (spec_of home).ops (serial (inputs_done home n) ++ all_of n.closed) ((c + length n.closed) * home.plan.width)) cursor

tentative-same : (home : Home) (n m : PlainNode) → out_stable home m ≡ out_stable home n → out_with_closed home m ≡ out_with_closed home n → out_tentative home m ≡ out_tentative home n
unfolding out_tentative
tentative-same home n m stable view = rw (stable, view) refl

pub shown-same : (home : Home) (most more : ℕ) (n m : PlainNode) → IsPlace home → IsGood home most n → IsGood home more m → n.recovering ≡ false → SameRest n m → SameShown (shown home n) (shown home m)
shown-same home most more n m place g k up same =
    let inputs = inputs-same home most more n m place g k up same in
    let stable = stable-same home n m inputs same.cursor in
    let view = view-same home n m inputs same.cursor same.closed in
    record { stable = stable; bound = rw (stable, same.cursor) refl; tentative = tentative-same home n m stable view; passed = rw (same.cursor, same.closed) refl }

-- sessions that are all shut
all-shut : (subs : List Sub) → list_all is_shut subs ≡ true → (k : ℕ) (sub : Sub) → slice_get subs k ≡ Some sub → sub.is_open ≡ false
all-shut subs h k sub e = let q = all-at is_shut subs k sub h e in not-of sub.is_open q

-- a node that recovers has no open session
pub recovering-goes : (home : Home) (a most : ℕ) (n m : PlainNode) (ms : List Mail) → n.recovering ≡ true → IsGood home most n → m.subs ≡ n.subs → list_all is_bare ms ≡ true → Goes home a n (record { after = m; sends = ms })
recovering-goes home a most n m ms down g same bare =
    keeps-shut home.plan (Frag home.frag) a (own_readers home) (shown home n) (shown home m) n.subs m.subs ms
    (λ k sub e. let f = ap (λ (l : List Sub). slice_get l k) (sym same) ∙ e in (sub, f, refl, all-shut n.subs (emptied-of n down g.orderly.recovering).subs k sub f)) bare

-- one whose sessions are shut has none
pub shut-goes : (home : Home) (a : ℕ) (n m : PlainNode) → m.subs ≡ map with_session_shut n.subs → Goes home a n (idle_step m)
shut-goes home a n m same =
    keeps-shut home.plan (Frag home.frag) a (own_readers home) (shown home n) (shown home m) n.subs m.subs []
    (λ k sub e. let f = mapped with_session_shut n.subs k sub (ap (λ (l : List Sub). slice_get l k) (sym same) ∙ e) in (f.0, f.1, ap (λ (x : Sub). x.kept) f.2, ap (λ (x : Sub). x.is_open) f.2)) refl

pub rest-goes : (home : Home) (a most more : ℕ) (n m : PlainNode) (ms : List Mail) → IsPlace home → IsGood home most n → IsGood home more m → SameRest n m → list_all is_bare ms ≡ true → Goes home a n (record { after = m; sends = ms })
rest-goes home a most more n m ms place g k same bare = by-recovering (recovers-or n)
  where
    by-recovering : (n.recovering ≡ true) ⊎ (n.recovering ≡ false) → Goes home a n (record { after = m; sends = ms })
    by-recovering (inl down) = recovering-goes home a most n m ms down g same.subs bare
    by-recovering (inr up) = keeps-same home.plan (Frag home.frag) a (own_readers home) (shown home n) (shown home m) n.subs m.subs ms (shown-same home most more n m place g k up same) same.subs bare

pub silent-goes : (home : Home) (a : ℕ) (n : PlainNode) (ms : List Mail) → list_all is_bare ms ≡ true → Goes home a n (record { after = n; sends = ms })
silent-goes home a n ms bare = keeps-same home.plan (Frag home.frag) a (own_readers home) (shown home n) (shown home n) n.subs n.subs ms (record { stable = refl; bound = refl; tentative = refl; passed = refl }) refl bare

-- ---- giving

-- the readers of a node are different actors, and each has a session
pub record IsServer (home : Home) (n : PlainNode) : Type 0 where
  pub distinct : AreDistinct (own_readers home)
  pub few : length n.subs ≤ length (own_readers home)

pub give-goes : (home : Home) (a : ℕ) (items : List Item) (n m : PlainNode) → IsServer home n → m.subs ≡ n.subs → Carries home.plan (Frag home.frag) (shown home n) (shown home m) items → Goes home a n (give home items m)
give-goes home a items n m server same carries =
    subst (λ (subs : List Sub). Keeps home.plan (Frag home.frag) a (own_readers home) (shown home n) subs (shown home (give home items m).after) (give home items m).after.subs (give home items m).sends) same
    (subst (λ (y : Shown). Keeps home.plan (Frag home.frag) a (own_readers home) (shown home n) m.subs y (with_batches items m.subs) (give home items m).sends) (sym (shown-subs home m (with_batches items m.subs)))
    (keeps-gave home.plan (Frag home.frag) a (own_readers home) (shown home n) (shown home m) m.subs items server.distinct (subst (λ (subs : List Sub). length subs ≤ length (own_readers home)) (sym same) server.few) carries))

-- entering
stable-entered : (home : Home) (n m : PlainNode) → m.ports ≡ n.ports → m.cursor ≡ n.cursor → out_stable home m ≡ out_stable home n
unfolding out_stable
stable-entered home n m ports cursor = rw (ports, cursor) refl

pub entered-goes : (home : Home) (a : ℕ) (n : PlainNode) → IsServer home n → Goes home a n (enter_step home n)
unfolding enter_step
entered-goes home a n server =
    let m = record n { closed = []; state = Stabilization; grants = with_ask n.grants } in
    let stable : out_stable home m ≡ out_stable home n = stable-entered home n m refl refl in
    let bound : (shown home m).bound ≡ (shown home n).bound = rw stable refl in
    give-goes home a (Undo (length (out_stable home n)) ∷ []) n m server refl
    (λ asked before law. undo-law home.plan (Frag home.frag) asked (shown home n) (shown home m) (length (out_stable home n)) before stable bound (clear-shown home m refl) law)

-- processing
with_failure-subs : (m : PlainNode) → (with_failure m).subs ≡ m.subs
with_failure-subs m = refl

processed_upto-goes : (home : Home) (a most last : ℕ) (n : PlainNode) → IsPlace home → IsServer home n → IsGood home most n → n.recovering ≡ false → is_stabilization n.state ≡ false →
    node_frontier n ≤ last → suc last ≤ buckets_of home.plan → Goes home a n (processing_upto home last n)
processed_upto-goes home a most last n place server g up calm low high =
    let count = last + 1 - node_frontier n in
    let r = stably home n count in
    let m = with_closed home (count - r) (after_stable_buckets home r n) in
    let new = with_failure m in
    let good : IsGood home most new = processed-good home most last n place g up calm low high in
    let step = processed-step home most last n place up g good in
    give-goes home a (given_items (length (out_stable home n)) (given_by home n new (nat_lt 0 r) (nat_lt r count))) n new server (with_failure-subs m)
    (λ asked before law. given-law home.plan (Frag home.frag) asked (shown home n) (shown home new) (given_by home n new (nat_lt 0 r) (nat_lt r count)) before step law)

processing-goes : (home : Home) (a most : ℕ) (n : PlainNode) → IsPlace home → IsServer home n → IsGood home most n → n.recovering ≡ false → Goes home a n (processing_step home n)
processing-goes home a most n place server g up =
    by-processing home n (Goes home a n) (silent-goes home a n [] refl)
    (λ last e due. let range = due-range home n n.clock last due in processed_upto-goes home a most last n place server g up e range.0 range.1)

-- milling
pub milled-goes : (home : Home) (a most r : ℕ) (n : PlainNode) → IsPlace home → IsServer home n → n.recovering ≡ false → n.closed ≡ [] → n.cursor + r ≤ complete_upto home n → IsGood home most n → Goes home a n (mill_step home r n)
unfolding mill_step out_stable
milled-goes home a most r n place server up none few g =
    let m = after_stable_buckets home r n in
    let good = advanced-good home most r n place up none few g in
    let done = is_stabilization n.state && ready home m == 0 in
    elim done as (λ b. Goes home a n (give home (given_items (length (out_stable home n)) (given_stable home n m b)) (after_last_correction b m))) [
      | true ↦ give-goes home a (given_items (length (out_stable home n)) (given_stable home n m true)) n (after_last_correction true m) server refl
          (λ asked before law. given-law home.plan (Frag home.frag) asked (shown home n) (shown home (after_last_correction true m)) (given_stable home n (after_last_correction true m) true) before
          (milled-step home (most + 1) r n (after_last_correction true m) true place up up (later-good home most n g) (reconciled-good home most m up none good) refl refl none none) law)
      | false ↦ give-goes home a (given_items (length (out_stable home n)) (given_stable home n m false)) n (after_last_correction false m) server refl
          (λ asked before law. given-law home.plan (Frag home.frag) asked (shown home n) (shown home (after_last_correction false m)) (given_stable home n (after_last_correction false m) false) before (milled-step home most r n (after_last_correction false m) false place up up g good refl refl none none) law)
    ]

-- ---- a tick

pub subscriptions-bare : (plan : Plan) (ports : List Port) (ss : List StreamRef) → list_all is_bare (mails (subscriptions plan ports ss)) ≡ true
subscriptions-bare plan [] ss = refl
subscriptions-bare plan (p ∷ ports) [] = refl
subscriptions-bare plan (p ∷ ports) (s ∷ ss) =
    elim (must_reopen p) as (λ b. list_all is_bare (mails (cond b (record { to = nth 0 (senders_of plan s) (choice_at p); message = message.Subscribe (asked_by (with_next_session p.inlet)) } ∷ []) [] ++ subscriptions plan ports ss)) ≡ true) [
      | true ↦ subscriptions-bare plan ports ss
      | false ↦ subscriptions-bare plan ports ss
    ]

acks-bare : (home : Home) (n : PlainNode) (ports : List Port) (ss : List StreamRef) → list_all is_bare (acks_from home n ports ss) ≡ true
acks-bare home n [] ss = refl
acks-bare home n (p ∷ ports) [] = refl
acks-bare home n (p ∷ ports) (s ∷ ss) =
    all-append is_bare (mails (acks_to home.plan n.grants.inc (done_at home n p) s)) (acks_from home n ports ss)
    (acked (senders_of home.plan s)) (acks-bare home n ports ss)
  where
    acked : (ids : List ℕ) → list_all is_bare (mails (map (λ a. record { to = a; message = message.Ack n.grants.inc (done_at home n p) }) ids)) ≡ true
    acked [] = refl
    acked (b ∷ ids) = acked ids

pub each-bare : (m : Message) (ids : List ℕ) → ((a : ℕ) → is_bare (mail a m) ≡ true) → list_all is_bare (to_each m ids) ≡ true
each-bare m ids h = all-map is_bare (λ a. mail a m) ids h

beats-bare : (home : Home) (n : PlainNode) → list_all is_bare (beats home n) ≡ true
beats-bare home n =
    all-append is_bare (to_each (beat_of n None) (peers_of home)) (map (λ (x : ℕ × Sub). mail x.0 (beat_of n (tally_of x.1))) (zip (own_readers home) n.subs))
    (each-bare (beat_of n None) (peers_of home) (λ a. refl)) (all-map is_bare (λ (x : ℕ × Sub). mail x.0 (beat_of n (tally_of x.1))) (zip (own_readers home) n.subs) (λ x. refl))

pub choosing-bare : (home : Home) (n : PlainNode) → list_all is_bare (choice_step home n).sends ≡ true
choosing-bare home n = all-sort is_bare (λ (m : Mail). m.to) (mails (subscriptions home.plan n.ports (streams_of home))) (subscriptions-bare home.plan n.ports (streams_of home))

choosing-goes : (home : Home) (a most : ℕ) (n : PlainNode) → IsActor home a → n.recovering ≡ false → IsGood home most n → Goes home a n (choice_step home n)
choosing-goes home a most n actor up g =
    rest-goes home a most (most + 1) n (choice_step home n).after (choice_step home n).sends actor.place g (choosing-good home a most n actor up g).after (record { recovering = refl; cursor = refl; closed = refl; subs = refl }) (choosing-bare home n)

reconciling-goes : (home : Home) (a most : ℕ) (n : PlainNode) → IsActor home a → IsServer home n → n.recovering ≡ false → IsGood home most n → Goes home a n (ask_step home n)
reconciling-goes home a most n actor server up g =
    let m = record n { grants = with_ask n.grants } in
    let asks = to_each (message.Ask (own_key n.grants).0 (own_key n.grants).1) (peers_of home) in
    by-asking home n (λ s. IsGood home most s.after → Goes home a n s) (λ k. entered-goes home a n server)
    (λ k. rest-goes home a most most n m asks actor.place g k (record { recovering = refl; cursor = refl; closed = refl; subs = refl }) (each-bare (message.Ask (own_key n.grants).0 (own_key n.grants).1) (peers_of home) (λ b. refl)))
    (λ k. silent-goes home a n [] refl) (reconciling-good home a most n actor up g).after

pub announcing-bare : (home : Home) (n : PlainNode) → list_all is_bare (announcing_step home n).sends ≡ true
announcing-bare home n =
    all-append is_bare (in_actor_order (acks_from home n n.ports (streams_of home))) (in_actor_order (beats home n))
    (all-sort is_bare (λ (m : Mail). m.to) (acks_from home n n.ports (streams_of home)) (acks-bare home n n.ports (streams_of home))) (all-sort is_bare (λ (m : Mail). m.to) (beats home n) (beats-bare home n))

announcing-goes : (home : Home) (a : ℕ) (n : PlainNode) → Goes home a n (announcing_step home n)
announcing-goes home a n = silent-goes home a n (announcing_step home n).sends (announcing-bare home n)

-- a good node is a server
pub server-of : (home : Home) (most : ℕ) (n : PlainNode) → AreDistinct (own_readers home) → IsGood home most n → IsServer home n
server-of home most n distinct g = let same = (shape-of home most n g.orderly.shape).subs in record { distinct = distinct; few = omega (arith, same) }

serving-goes : (home : Home) (a most : ℕ) (n : PlainNode) → IsActor home a → AreDistinct (own_readers home) → n.recovering ≡ false → IsGood home most n → Goes home a n (serving_step home n)
serving-goes home a most n actor distinct up g =
    let s = choice_step home n in
    let t = ask_step home s.after in
    let v = processing_step home t.after in
    let one = choosing-good home a most n actor up g in
    let two = reconciling-good home a (most + 1) s.after actor up one.after in
    goes-then home a n (then_do (then_do s (ask_step home)) (processing_step home)) (announcing_step home)
    (goes-then home a n (then_do s (ask_step home)) (processing_step home)
    (goes-then home a n s (ask_step home) (choosing-goes home a most n actor up g) (reconciling-goes home a (most + 1) s.after actor (server-of home (most + 1) s.after distinct one.after) up one.after))
    (processing-goes home a (most + 1) t.after actor.place (server-of home (most + 1) t.after distinct two.after) two.after (reconciling-recovering home s.after ∙ up)))
    (announcing-goes home a v.after)

snapshots-goes : (home : Home) (a : ℕ) (n : PlainNode) → Goes home a n (snapshot_ask_step home n)
snapshots-goes home a n = silent-goes home a n (snapshot_ask_step home n).sends (each-bare (message.SnapAsk n.grants.inc n.tries) (peers_of home) (λ b. refl))

-- a step behind one that sends nothing
pub behind : (home : Home) (a : ℕ) (n m : PlainNode) (s : Stepped PlainNode) → Goes home a n (idle_step m) → Goes home a m s → Goes home a n s
behind home a n m s h k = goes-then home a n (idle_step m) (λ _. s) h k

going_on-goes : (home : Home) (a most : ℕ) (n : PlainNode) → IsActor home a → AreDistinct (own_readers home) → IsGood home most n → Goes home a n (rest_of_tick home n)
going_on-goes home a most n actor distinct g =
    (elim n.recovering as (λ b. n.recovering ≡ b → Goes home a n (cond (not b) (serving_step home n) (cond (may_start_afresh home n) (serving_step home (with_fresh_start n)) (then_do (snapshot_ask_step home n) (announcing_step home))))) [
      | false ↦ λ up. serving-goes home a most n actor distinct up g
      | true ↦ λ down. elim (may_start_afresh home n) as (λ b. Goes home a n (cond b (serving_step home (with_fresh_start n)) (then_do (snapshot_ask_step home n) (announcing_step home)))) [
        | true ↦ behind home a n (with_fresh_start n) (serving_step home (with_fresh_start n)) (recovering-goes home a most n (with_fresh_start n) [] down g refl refl)
            (serving-goes home a most (with_fresh_start n) actor distinct refl (fresh-good home most n actor.place down g))
        | false ↦ goes-then home a n (snapshot_ask_step home n) (announcing_step home) (snapshots-goes home a n) (announcing-goes home a n)
      ]
    ]) refl

pub marks-goes : (home : Home) (a most : ℕ) (n : PlainNode) → IsPlace home → IsGood home most n → Goes home a n (idle_step (with_marks_ended n))
marks-goes home a most n place g =
    rest-goes home a most most n (with_marks_ended n) [] place g (marks-good home most n g) (record { recovering = refl; cursor = refl; closed = refl; subs = refl }) refl

pub ticked-goes : (home : Home) (a most now : ℕ) (n : PlainNode) → IsActor home a → AreDistinct (own_readers home) → IsGood home most n → Goes home a n (tick_step home now n)
unfolding tick_step
ticked-goes home a most now n actor distinct g =
    let x = after_clock now (with_marks_ended n) in
    let good = clocked-good home most now (with_marks_ended n) (marks-good home most n g) in
    behind home a n x (rest_of_tick home x) (rest-goes home a most most n x [] actor.place g good (record { recovering = refl; cursor = refl; closed = refl; subs = refl }) refl) (going_on-goes home a most x actor distinct good)
