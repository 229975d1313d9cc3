-- The session law of every run.
use Rattle.std.proofs.Common.{◌≡◌, ℕ, ◌*◌, true, List, [], map, length, refl, sym, ap, subst, ◌∙◌, arith, Option, Some, None, slice_get, unwrap_or}
use Rattle.std.specs.Prelude.{IfSome}
use Rattle.dpc_lists.specs.Lists.{nth, range_with_len}
use Rattle.dpc_model.specs.Fragments.{ideal, ideal_upto}
use Rattle.dpc_model.specs.Actors.{role_of, nodes_of}
use Rattle.dpc_model.specs.declared.actors.Role.{Role}
use Rattle.dpc_model.specs.declared.actors.Role.TheVariants.{Source as IsSource, Node as IsNode, Client as IsClient, Nobody}
use Rattle.dpc_model.specs.Sessions.{Shown, tally_of}
use Rattle.dpc_model.specs.declared.sessions.Sub.{Sub}
use Rattle.dpc_model.specs.declared.messages.Event.{Event}
use Rattle.dpc_model.specs.declared.messages.Sess.{Sess}
use Rattle.dpc_model.specs.declared.plans.Plan.{Plan}
use Rattle.dpc_model.specs.declared.plans.StreamRef.{StreamRef}
use Rattle.dpc_model.specs.declared.plans.StreamRef.TheVariants.{Source, Frag}
use Rattle.node_model.specs.Nodes.{Home, PlainNode, own_readers, out_stable, shown, new_node}
use Rattle.node_model.specs.Sources.{SourceState, source_readers, source_shown, new_source}
use Rattle.world_model.specs.Worlds.{World, Slot, home_of, node_place, slot_of, no_source, new_world, run, run_from}
use Rattle.world_model.specs.SessionLaw.{LeavesView, sent_after}
use Rattle.law_safety.specs.Plans.{IsPlace, IsCheckedPlan}
use Rattle.law_safety.proofs.Columns.{ideal_upto-below}
use Rattle.law_safety.proofs.Emptied.{none-below}
use Rattle.law_safety.proofs.Starting.{new-good}
use Rattle.law_safety.proofs.Numbering.{node-at}
use Rattle.law_safety.proofs.Worlding.{actor-at}
use Rattle.law_safety.proofs.Law.{new_world-plan, new_world-fine, run-good}
use Rattle.law_safety.proofs.Views.{IsView, first-law}
use Rattle.law_safety.proofs.NodeViews.{clear-shown}
use Rattle.law_safety.proofs.Histories.{HoldsSession}
use Rattle.law_sessions.specs.Openings.{first_subscription, opened_by}
use Rattle.law_sessions.specs.Laws.{SessionsLeaveView, SessionLawOf, SessionLaw}
use Rattle.law_sessions.proofs.Keeping.{line_of, SameShown, view-held, mapped}
use Rattle.law_sessions.proofs.Worlds.{no_slot, HeldNode, HeldSource, HeldAt, AreHeld}
use Rattle.law_sessions.proofs.Events.{run-held}
use Rattle.dpc_lists.proofs.Elements.{get-map}

-- ---- the opening

-- a sender that has nothing
abbrev empty_view : Shown
empty_view = record { stable = []; bound = None; tentative = []; passed = None; base = 0; is_stable = true }

empty-is : (plan : Plan) (s : StreamRef) → IsView plan s empty_view
empty-is plan s = record { beginning = (ideal plan s, refl); bound = λ b e. cc; stable = λ e. (refl, refl) }

-- nothing was sent
opening-held : (plan : Plan) (s : StreamRef) (a : ℕ) (readers : List ℕ) (k : ℕ) (x : Shown) (sub : Sub) → SameShown empty_view x → HoldsSession plan s x (λ u. []) (λ u. first_subscription (line_of a readers k u)) sub
opening-held plan s a readers k x sub same =
    view-held plan s empty_view x (λ u. []) (λ u. first_subscription (line_of a readers k u)) sub same
    (record { open_one = λ l e. first-law plan s (first_subscription (line_of a readers k l.0)) empty_view (empty-is plan s); newer = λ u e. refl })

new-stable : (home : Home) → IsPlace home → out_stable home (new_node home) ≡ []
unfolding new_node
new-stable home place =
    let o = (new-good home 1 place (omega arith)).safe.output refl in
    let zero_time : 0 * home.plan.width ≡ 0 = omega arith in
    o.output ∙ ap (λ (b : ℕ). ideal_upto home.plan (Frag home.frag) b) zero_time ∙ none-below (ideal_upto home.plan (Frag home.frag) 0) (ideal_upto-below home.plan (Frag home.frag) 0 place.checked)

new-shown : (home : Home) → IsPlace home → SameShown empty_view (shown home (new_node home))
unfolding new_node
new-shown home place =
    let clear = clear-shown home (new_node home) refl in
    record { stable = new-stable home place; bound = refl; tentative = clear.0; passed = clear.1 }

new-node-held : (home : Home) (a : ℕ) → IsPlace home → HeldNode home a (λ l. []) first_subscription (Some (new_node home))
new-node-held home a place k sub e = opening-held home.plan (Frag home.frag) a (own_readers home) k (shown home (new_node home)) sub (new-shown home place)

new-source-held : (plan : Plan) (a s i : ℕ) → HeldSource plan a s (λ l. []) first_subscription (new_source plan i)
unfolding new_source
new-source-held plan a s i k sub e = opening-held plan (Source s) a (source_readers plan s) k (source_shown plan s (new_source plan i)) sub (record { stable = refl; bound = refl; tentative = refl; passed = refl })

sources-held : (plan : Plan) (a s n : ℕ) → HeldSource plan a s (λ l. []) first_subscription (nth no_source (map (new_source plan) (range_with_len 0 n)) s)
sources-held plan a s n =
    (elim (slice_get (map (new_source plan) (range_with_len 0 n)) s) as (λ o. slice_get (map (new_source plan) (range_with_len 0 n)) s ≡ o → HeldSource plan a s (λ l. []) first_subscription (unwrap_or o no_source)) [
      | None ↦ λ e. λ k sub f. cc
      | Some x ↦ λ e. let c = mapped (new_source plan) (range_with_len 0 n) s x e in subst (λ (y : SourceState). HeldSource plan a s (λ l. []) first_subscription y) (sym c.2) (new-source-held plan a s c.0)
    ]) refl

role-held : (plan : Plan) (a : ℕ) (role : Role) → IsCheckedPlan plan → role_of plan a ≡ role → HeldAt plan (new_world plan).sources (new_world plan).nodes (λ l. []) first_subscription a role
unfolding new_world
role-held plan a (IsSource s) checked e = sources-held plan a s (length plan.sources)
role-held plan a (IsNode f r) checked e =
    let home = home_of plan (f, r) in
    let start = λ (n : ℕ × ℕ). let slot : Slot = record { last_inc = 1; node = Some (new_node (home_of plan n)) } in slot in
    let there : nth no_slot (map start (nodes_of plan)) (node_place plan a) ≡ record { last_inc = 1; node = Some (new_node home) } = ap (λ (o : Option Slot). unwrap_or o no_slot) (get-map start (nodes_of plan) (node_place plan a) (f, r) (node-at plan a f r e)) in
    subst (λ (slot : Slot). HeldNode home a (λ l. []) first_subscription slot.node) (sym there) (new-node-held home a (actor-at plan a f r checked e).place)
role-held plan a (IsClient c) checked e = tt
role-held plan a Nobody checked e = tt

pub new-world-held : (plan : Plan) → IsCheckedPlan plan → AreHeld (new_world plan) (λ l. []) first_subscription
new-world-held plan checked a =
    subst (λ (p : Plan). HeldAt p (new_world plan).sources (new_world plan).nodes (λ l. []) first_subscription a (role_of p a)) (sym (new_world-plan plan)) (role-held plan a (role_of plan a) checked refl)

-- ---- a run

law-of : (plan : Plan) (events : List Event) (w : World) (a : ℕ) (role : Role) → w.plan ≡ plan → HeldAt plan w.sources w.nodes (λ l. sent_after l [] (new_world plan) events) (λ l. opened_by l (first_subscription l) (new_world plan) events) a role → SessionLawOf plan events w a role
law-of plan events w a (IsSource s) same held = λ k sub e. by-tally k sub (tally_of sub) refl (held k sub e)
  where
    by-tally : (k : ℕ) (sub : Sub) (o : Option (Sess × ℕ)) → tally_of sub ≡ o → HoldsSession plan (Source s) (source_shown plan s (nth no_source w.sources s)) (λ u. sent_after (line_of a (source_readers plan s) k u) [] (new_world plan) events) (λ u. opened_by (line_of a (source_readers plan s) k u) (first_subscription (line_of a (source_readers plan s) k u)) (new_world plan) events) sub →
        IfSome o (λ (l : Sess × ℕ). LeavesView plan (Source s) (opened_by (line_of a (source_readers plan s) k l.0) (first_subscription (line_of a (source_readers plan s) k l.0)) (new_world plan) events) (source_shown plan s (nth no_source w.sources s)) (sent_after (line_of a (source_readers plan s) k l.0) [] (new_world plan) events))
    by-tally k sub None f h = tt
    by-tally k sub (Some l) f h = h.open_one l f
law-of plan events w a (IsNode f r) same held =
    let slot : slot_of w a ≡ nth no_slot w.nodes (node_place plan a) = ap (λ (p : Plan). nth no_slot w.nodes (node_place p a)) same in
    subst (λ (x : Slot). IfSome x.node (λ (n : PlainNode). let home = home_of plan (f, r) in SessionsLeaveView plan events a (Frag f) (own_readers home) (shown home n) n.subs)) (sym slot) (by-node (nth no_slot w.nodes (node_place plan a)).node held)
  where
    by-tally : (n : PlainNode) (k : ℕ) (sub : Sub) (o : Option (Sess × ℕ)) → tally_of sub ≡ o → HoldsSession plan (Frag f) (shown (home_of plan (f, r)) n) (λ u. sent_after (line_of a (own_readers (home_of plan (f, r))) k u) [] (new_world plan) events) (λ u. opened_by (line_of a (own_readers (home_of plan (f, r))) k u) (first_subscription (line_of a (own_readers (home_of plan (f, r))) k u)) (new_world plan) events) sub →
        IfSome o (λ (l : Sess × ℕ). LeavesView plan (Frag f) (opened_by (line_of a (own_readers (home_of plan (f, r))) k l.0) (first_subscription (line_of a (own_readers (home_of plan (f, r))) k l.0)) (new_world plan) events) (shown (home_of plan (f, r)) n) (sent_after (line_of a (own_readers (home_of plan (f, r))) k l.0) [] (new_world plan) events))
    by-tally n k sub None g h = tt
    by-tally n k sub (Some l) g h = h.open_one l g

    by-node : (o : Option PlainNode) → HeldNode (home_of plan (f, r)) a (λ l. sent_after l [] (new_world plan) events) (λ l. opened_by l (first_subscription l) (new_world plan) events) o →
        IfSome o (λ (n : PlainNode). let home = home_of plan (f, r) in SessionsLeaveView plan events a (Frag f) (own_readers home) (shown home n) n.subs)
    by-node None h = tt
    by-node (Some n) h = λ k sub e. by-tally n k sub (tally_of sub) refl (h k sub e)
law-of plan events w a (IsClient c) same held = tt
law-of plan events w a Nobody same held = tt

pub run-law : (plan : Plan) (events : List Event) → IsCheckedPlan plan → SessionLaw plan events
unfolding run
run-law plan events checked a =
    let fine = new_world-fine plan checked in
    let same = (run-good plan events checked).of_plan in
    let held = run-held (new_world plan) 1 events (λ l. []) first_subscription fine (new-world-held plan checked) a in
    let w = run_from (new_world plan) events in
    law-of plan events w a (role_of plan a) same
    (subst (λ (p : Plan). HeldAt p w.sources w.nodes (λ l. sent_after l [] (new_world plan) events) (λ l. opened_by l (first_subscription l) (new_world plan) events) a (role_of p a)) same held)
