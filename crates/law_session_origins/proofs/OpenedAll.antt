-- Every sender's session, but the first one, was opened by a subscription that its reader sent to it.
use Rattle.std.proofs.Common.{◌≡◌, ℕ, ◌+◌, true, false, cond, ◌==◌, List, length, refl, sym, ap, subst, ◌∙◌, arith, Option, Some, None, slice_get, inl, inr, unwrap_or}
use Rattle.std.specs.Prelude.{IfSome}
use Rattle.std.proofs.lemmas.Grind.{common_steps}
use Rattle.std.proofs.lemmas.Option.{slice_get_within}
use Rattle.dpc_lists.specs.Lists.{nth}
use Rattle.dpc_model.specs.Inlets.{same_sess, sess_of}
use Rattle.dpc_model.specs.Actors.{role_of}
use Rattle.dpc_model.specs.declared.actors.Role.{Role}
use Rattle.dpc_model.specs.declared.actors.Role.TheVariants.{Source as IsSource, Node as IsNode, Client as IsClient, Nobody}
use Rattle.dpc_model.specs.Sessions.{no_session, opening_session, tally_of}
use Rattle.dpc_model.specs.declared.sessions.Sub.{Sub}
use Rattle.dpc_model.specs.declared.messages.Event.{Event}
use Rattle.dpc_model.specs.declared.messages.Sess.{Sess}
use Rattle.dpc_model.specs.declared.plans.Plan.{Plan}
use Rattle.dpc_model.specs.declared.plans.StreamRef.TheVariants.{Frag}
use Rattle.dpc_model.proofs.Alike.{same_sess-self}
use Rattle.dpc_model.proofs.Subs.{nth-const}
use Rattle.dpc_lists.proofs.Somes.{some-same}
use Rattle.node_model.specs.Nodes.{Home, PlainNode, own_readers, first_session, new_node}
use Rattle.node_model.specs.Sources.{SourceState, source_readers, new_source}
use Rattle.world_model.specs.Worlds.{Slot, home_of, slot_of, source_at, no_source, run_from, run, new_world}
use Rattle.world_model.specs.SessionLaw.{Channel}
use Rattle.law_safety.specs.Plans.{IsCheckedPlan}
use Rattle.law_safety.proofs.Distinct.{readers-distinct}
use Rattle.law_safety.proofs.Emptied.{shape-of}
use Rattle.law_safety.proofs.Happening.{node-here, source-here}
use Rattle.law_safety.proofs.Law.{new_world-fine, new_world-plan, run-fine}
use Rattle.law_safety.proofs.Growing.{run_from-plan}
use Rattle.law_sessions.specs.Openings.{first_subscription, opened_by}
use Rattle.law_granting.proofs.First.{source-below, sources-at, nth-opening, new-source-few, new-sources}
use Rattle.law_granting.proofs.Running.{new-slot}
use Rattle.law_granting.proofs.Sending.{NotOpen}
use Rattle.law_granting.proofs.Sent.{IsNodeLine}
use Rattle.law_session_origins.specs.Asking.{IsSentFor, OpenedByAsking, OpenedOf, AreOpenedByAsking}
use Rattle.law_session_origins.proofs.Opened.{NoneOpen, node-opened}
use Rattle.law_session_origins.proofs.OpenedSources.{IsSourceLine, IsShut, source-opened}

-- ---- the opening

opening-other : (s : Sess) → same_sess s (sess_of 1 1) ≡ false → NotOpen s opening_session
opening-other s e = record { other = λ v m g. let same = sess-is v 0 m g in turned v same }
  where
    sess-is : (v : Sess) (i m : ℕ) → ◌≡◌ {A = Option (Sess × ℕ)} (Some (sess_of 1 1, i)) (Some (v, m)) → sess_of 1 1 ≡ v
    sess-is v i m g = let same : ◌≡◌ {A = Sess × ℕ} (sess_of 1 1, i) (v, m) = cc in ap (λ (z : Sess × ℕ). z.0) same

    turn : (x y : Sess) → same_sess x y ≡ false → same_sess y x ≡ false
    turn x y e = grind (arith, common_steps)

    turned : (v : Sess) → sess_of 1 1 ≡ v → same_sess v s ≡ false
    turned v same = ap (λ (z : Sess). same_sess z s) (sym same) ∙ turn s (sess_of 1 1) e

none-other : (s : Sess) → NotOpen s no_session
none-other s = record { other = λ v m g. cc }

new-node-shut : (home : Home) (k : ℕ) (s : Sess) → same_sess s (sess_of 1 1) ≡ false → NotOpen s (nth no_session (new_node home).subs k)
unfolding new_node
new-node-shut home k s e =
    elim (nth-const (first_session home) (own_readers home) k) [
      | inl first ↦ subst (λ (z : Sub). NotOpen s z) (sym first) (elim (home.replica == 0) as (λ b. NotOpen s (cond b opening_session no_session)) [ true ↦ opening-other s e | false ↦ none-other s ])
      | inr none ↦ subst (λ (z : Sub). NotOpen s z) (sym none) (none-other s)
    ]

new-nodes-shut : (plan : Plan) (a f r k : ℕ) (s : Sess) → role_of plan a ≡ IsNode f r → same_sess s (sess_of 1 1) ≡ false → NoneOpen (new_world plan) a k s
new-nodes-shut plan a f r k s role e n up =
    let slot = new-slot plan a f r role in
    let it = some-same (new_node (home_of plan (f, r))) n (sym (ap (λ (z : Slot). z.node) slot) ∙ up) in subst (λ (z : PlainNode). NotOpen s (nth no_session z.subs k)) it (new-node-shut (home_of plan (f, r)) k s e)

new-source-shut : (plan : Plan) (u k : ℕ) (s : Sess) → same_sess s (sess_of 1 1) ≡ false → NotOpen s (nth no_session (new_source plan u).subs k)
unfolding new_source
new-source-shut plan u k s e =
    elim (nth-opening (source_readers plan u) k) [
      | inl first ↦ subst (λ (z : Sub). NotOpen s z) (sym first) (opening-other s e)
      | inr none ↦ subst (λ (z : Sub). NotOpen s z) (sym none) (none-other s)
    ]

new-sources-shut : (plan : Plan) (a u k : ℕ) (s : Sess) → role_of plan a ≡ IsSource u → same_sess s (sess_of 1 1) ≡ false → IsShut (new_world plan) u k s
new-sources-shut plan a u k s role e =
    let below = source-below plan a u role in
    let zero_on : 0 + u ≡ u = omega arith in
    let here : source_at (new_world plan) u ≡ new_source plan u = ap (λ (xs : List SourceState). nth no_source xs u) (new-sources plan) ∙ sources-at plan 0 (length plan.sources) u below ∙ ap (λ (z : ℕ). new_source plan z) zero_on in
    record {
      few = ap (λ (z : SourceState). length z.subs) here ∙ new-source-few plan u ∙ ap (λ (p : Plan). length (source_readers p u)) (sym (new_world-plan plan));
      none = subst (λ (z : SourceState). NotOpen s (nth no_session z.subs k)) (sym here) (new-source-shut plan u k s e);
    }

-- ---- the law

get-nth : (subs : List Sub) (k : ℕ) (sub : Sub) → slice_get subs k ≡ Some sub → nth no_session subs k ≡ sub
get-nth subs k sub e = ap (λ (o : Option Sub). unwrap_or o no_session) e

-- what is open is not shut
open-shut : (subs : List Sub) (k : ℕ) (sub : Sub) (u : Sess × ℕ) → slice_get subs k ≡ Some sub → tally_of sub ≡ Some u → NotOpen u.0 (nth no_session subs k) → ⊥
open-shut subs k sub u there tally shut =
    let k = (subst (λ (z : Sub). NotOpen u.0 z) (get-nth subs k sub there) shut).other u.0 u.1 tally in let clash : true ≡ false = sym (same_sess-self u.0) ∙ k in cc

-- what was opened by a subscription, where every open session but the first was
opened-at : (plan : Plan) (events : List Event) (a : ℕ) (readers : List ℕ) (subs : List Sub) →
    ((k : ℕ) (sub : Sub) (u : Sess × ℕ) → slice_get subs k ≡ Some sub → tally_of sub ≡ Some u → same_sess u.0 (sess_of 1 1) ≡ false →
    let l : Channel = record { sender = a; reader = nth 0 readers k; sess = u.0 } in IsSentFor l (run plan events).envelopes (opened_by l (first_subscription l) (new_world plan) events)) →
    OpenedByAsking plan events a readers subs
opened-at plan events a readers subs h k sub there = by-tally (tally_of sub) refl
  where
    by-tally : (o : Option (Sess × ℕ)) → tally_of sub ≡ o → IfSome o (λ u. same_sess u.0 (sess_of 1 1) ≡ false →
        let l : Channel = record { sender = a; reader = nth 0 readers k; sess = u.0 } in IsSentFor l (run plan events).envelopes (opened_by l (first_subscription l) (new_world plan) events))
    by-tally None tally = tt
    by-tally (Some u) tally = h k sub u there tally

module _ (plan : Plan) (events : List Event) (a : ℕ) (checked : IsCheckedPlan plan) where
  abbrev line_for : ℕ → Sess → Channel
  line_for x s = record { sender = a; reader = x; sess = s }

  source-law : (u : ℕ) → role_of plan a ≡ IsSource u → OpenedByAsking plan events a (source_readers plan u) (source_at (run plan events) u).subs
  unfolding run
  source-law u role =
      opened-at plan events a (source_readers plan u) (source_at (run plan events) u).subs (λ k sub v there tally other.
      let start = new_world plan in
      let last = run_from start events in
      let x = nth 0 (source_readers plan u) k in
      let l : Channel = line_for x v.0 in
      let within = slice_get_within (source_at last u).subs k sub there in
      let few = (source-here last (1 + length events) u (run-fine start 1 events (new_world-fine plan checked)).fine).subs in
      let of_plan : length (source_readers last.plan u) ≡ length (source_readers plan u) = ap (λ (p : Plan). length (source_readers p u)) (run_from-plan start events ∙ new_world-plan plan) in
      let line : IsSourceLine plan a x u k = record { role = role; reader = refl; low = omega (arith, within, few, of_plan) } in
      elim (source-opened start events a x u k v.0 (first_subscription l) (subst (λ (p : Plan). IsSourceLine p a x u k) (sym (new_world-plan plan)) line) (inr (new-sources-shut plan a u k v.0 role other))) [
        | inl sent ↦ sent
        | inr shut ↦ absurd (open-shut (source_at last u).subs k sub v there tally shut.none)
      ])

  node-law : (f r : ℕ) (n : PlainNode) → role_of plan a ≡ IsNode f r → (slot_of (run plan events) a).node ≡ Some n → OpenedByAsking plan events a (own_readers (home_of plan (f, r))) n.subs
  unfolding run
  node-law f r n role up =
      opened-at plan events a (own_readers (home_of plan (f, r))) n.subs (λ k sub v there tally other.
      let start = new_world plan in
      let last = run_from start events in
      let x = nth 0 (own_readers (home_of plan (f, r))) k in
      let l : Channel = line_for x v.0 in
      let within = slice_get_within n.subs k sub there in
      let of_plan : last.plan ≡ plan = run_from-plan start events ∙ new_world-plan plan in
      let role_last : role_of last.plan a ≡ IsNode f r = ap (λ (p : Plan). role_of p a) of_plan ∙ role in
      let good = node-here last (1 + length events) a f r n (run-fine start 1 events (new_world-fine plan checked)).fine role_last up in
      let many = (shape-of (home_of last.plan (f, r)) (1 + length events) n good.orderly.shape).subs in
      let same : length (own_readers (home_of last.plan (f, r))) ≡ length (own_readers (home_of plan (f, r))) = ap (λ (p : Plan). length (own_readers (home_of p (f, r)))) of_plan in
      let line : IsNodeLine plan a x f r k = record { role = role; reader = refl; distinct = readers-distinct plan (Frag f); low = omega (arith, within, many, same) } in
      elim (node-opened start 1 events a x f r k v.0 (first_subscription l) (new_world-fine plan checked) (subst (λ (p : Plan). IsNodeLine p a x f r k) (sym (new_world-plan plan)) line) (inr (new-nodes-shut plan a f r k v.0 role other))) [
        | inl sent ↦ sent
        | inr shut ↦ absurd (open-shut n.subs k sub v there tally (shut n up))
      ])

  by-role : (role : Role) → role_of plan a ≡ role → OpenedOf plan events (run plan events) a role
  by-role (IsSource u) is = source-law u is
  by-role (IsNode f r) is = by-node (slot_of (run plan events) a).node refl
    where
      by-node : (o : Option PlainNode) → (slot_of (run plan events) a).node ≡ o → IfSome o (λ (n : PlainNode). OpenedByAsking plan events a (own_readers (home_of plan (f, r))) n.subs)
      by-node None up = tt
      by-node (Some n) up = node-law f r n is up
  by-role (IsClient c) is = tt
  by-role Nobody is = tt

pub opened-by-asking : (plan : Plan) (events : List Event) → IsCheckedPlan plan → AreOpenedByAsking plan events
opened-by-asking plan events checked a = by-role plan events a checked (role_of plan a) refl
