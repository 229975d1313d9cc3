-- What the entries of a live journal name.
use Rattle.std.proofs.Common.{◌≡◌, ℕ, suc, ◌+◌, ◌^◌, ◌<◌, ◌≤◌, true, false, cond, ◌&&◌, ◌||◌, ◌==◌, nat_lt, nat_le, List, [], ◌∷◌, ◌++◌, length, filter, refl, sym, ap, subst, ◌∙◌, arith, Some, None}
use Rattle.std.proofs.lemmas.Option.{slice_get_within}
use Rattle.dpc_lists.specs.Lists.{list_all, list_any}
use Rattle.dpc_lists.proofs.Truths.{both, both-of, le-of, lt-of, lt-test, not-lt, eq-of, neither}
use Rattle.dpc_lists.proofs.Elements.{nth-past}
use Rattle.dpc_model.specs.Limits.{most_envelopes, most_items, most_milled}
use Rattle.dpc_model.specs.Actors.{role_of, roles_of, inputs_of, sends_stream, reads_from, are_peers, are_linked}
use Rattle.dpc_model.specs.declared.actors.Role.{Role}
use Rattle.dpc_model.specs.declared.actors.Role.TheVariants.{Source as IsSource, Node as IsNode, Client as IsClient, Nobody}
use Rattle.dpc_model.specs.declared.messages.Event.{Event}
use Rattle.dpc_model.specs.declared.messages.Event.TheVariants.{Phase, Emit, Release, Cut, Heal, Crash, Restart, Deliver, Tick, Mill}
use Rattle.dpc_model.specs.declared.plans.Plan.{Plan}
use Rattle.dpc_model.specs.declared.plans.StreamRef.{StreamRef}
use Rattle.dpc_model.specs.declared.scripts.Directive.{Directive}
use Rattle.dpc_model.specs.declared.scripts.Script.{Script}
use Rattle.script_rules.specs.Checking.{IsChecked}
use Rattle.script_rules.specs.Reasons.{is_node}
use Rattle.script_rules.proofs.Forms.{checked_has_form}
use Rattle.world_model.specs.Worlds.{World, Envelope, item_count, slot_of, is_release_time, happens, run_from, run, new_world, sums_after, passes_limit, excess_from, excess}
use Rattle.world_model.specs.Schedules.{event_of, first_progress, progress_from, progress, may, is_next, is_live_so_far, is_phase_complete, phase_left, quiet_limit}
use Rattle.world_model.specs.Events.{is_restart}
use Rattle.world_model.proofs.Running.{new_world-none}
use Rattle.law_safety.proofs.Growing.{run-plan}
use Rattle.law_schedules.specs.Journals.{phases_in, most_phases, clock_at, clock_by, IsClocked}
use Rattle.law_schedules.proofs.Journals.{prefix-live, each-may, one-more, progress-run, phases-counted, phases-few, delivers-so, mills-so}
use Rattle.law_schedules.proofs.Timely.{tick-clock, ticks-so}
use Rattle.law_session_origins.proofs.RoleNumbers.{has-numbers}
use Rattle.law_settling.proofs.Ports.{clocked-of}
use Rattle.law_settling_scripts.proofs.Can.{can_settle}
use Rattle.law_healing.proofs.Steps.{by-directive, next-of}
use Rattle.law_journals.specs.Entries.{IsSend, IsOfNode, restarts_in, IsNextIncarnation, IsEntryOf, HasSmallNumbers, IsWithinLimits}
use Rattle.law_journals.proofs.Directed.{is_sound, todo-sound, first-sound}
use Rattle.law_journals.proofs.Incarnations.{incarnations-few}

-- ---- entries of directives

node-role : (plan : Plan) (a : ℕ) → is_node (role_of plan a) ≡ true → IsOfNode plan a
node-role plan a h = by-role (role_of plan a) refl h
  where
    by-role : (role : Role) → role_of plan a ≡ role → is_node role ≡ true → IsOfNode plan a
    by-role (IsNode f r) e k = record { frag = f; replica = r; role = e }
    by-role (IsSource s) e k = cc
    by-role (IsClient c) e k = cc
    by-role Nobody e k = cc

module _ (script : Script) (es : List Event) (within : (b : ℕ) → (slot_of (run script.plan es) b).last_inc ≤ 1 + restarts_in es) where
  sends : (s t : ℕ) → (nat_lt s (length script.plan.sources) && is_release_time script.plan t) ≡ true → IsSend script.plan s t
  sends s t h =
      let p = both (nat_lt s (length script.plan.sources)) (is_release_time script.plan t) h in
      record { role = (has-numbers script.plan).source_role s (lt-of s (length script.plan.sources) p.0); time = p.1 }

  links : (a b : ℕ) → (are_linked script.plan a b && true) ≡ true → are_linked script.plan a b ≡ true
  links a b h = (both (are_linked script.plan a b) true h).0

  nodes : (a : ℕ) → (is_node (role_of script.plan a) && true) ≡ true → IsOfNode script.plan a
  nodes a h = node-role script.plan a (both (is_node (role_of script.plan a)) true h).0

  starts : (a : ℕ) → (is_node (role_of script.plan a) && true) ≡ true → IsNextIncarnation script.plan es a ((slot_of (run script.plan es) a).last_inc + 1)
  starts a h = let low = within a in record { node = nodes a h; next = refl; few = omega (arith, low) }

  directed : (d : Directive) (e : Event) → is_sound script.plan d ≡ true → event_of (run script.plan es) d ≡ Some e → IsEntryOf script es e
  directed d e sound is =
      by-directive (run script.plan es) (λ x f. is_sound script.plan x ≡ true → IsEntryOf script es f)
      (record { emit = λ s t h. sends s t h; release = λ s t h. sends s t h; cut = λ a b h. links a b h; heal = λ a b h. links a b h; crash = λ a h. nodes a h; restart = λ a h. starts a h }) d e is sound

next-entry : (script : Script) (es : List Event) (e : Event) → IsChecked script → is_live_so_far script es ≡ true → is_next (progress script es) e ≡ true → IsEntryOf script es e
unfolding progress
next-entry script es e checked live next =
    let x = progress_from script (first_progress script) es in
    let n = next-of x e next in
    directed script es (incarnations-few script es live) n.first e (first-sound script x e n (todo-sound script (first_progress script) es checked refl))
    (subst (λ (w : World). event_of w n.first ≡ Some e) (progress-run script es) n.event)

-- ---- any entry

entry-so : (script : Script) (es : List Event) (e : Event) → IsChecked script → is_live_so_far script es ≡ true → is_live_so_far script (es ++ e ∷ []) ≡ true → may script es e ≡ true → IsEntryOf script es e
unfolding may
entry-so script es (Phase p) checked live more h =
    let x = progress script es in
    let q = both (p == x.phase + 1 && is_phase_complete x) (phase_left script x) h in
    let same = eq-of p (x.phase + 1) (both (p == x.phase + 1) (is_phase_complete x) q.0).0 in
    let count = phases-counted script es live in
    let few = phases-few script (es ++ Phase p ∷ []) more in
    let sum = phases-end es p in
    record { next = omega (arith, same, count); few = omega (arith, same, count, few, sum) }
  where
    phases-end : (es : List Event) (p : ℕ) → phases_in (es ++ Phase p ∷ []) ≡ phases_in es + 1
    phases-end [] p = omega arith
    phases-end (Phase q ∷ es) p = ap (λ (n : ℕ). n + 1) (phases-end es p)
    phases-end (Emit a t ∷ es) p = phases-end es p
    phases-end (Release a t ∷ es) p = phases-end es p
    phases-end (Cut a b ∷ es) p = phases-end es p
    phases-end (Heal a b ∷ es) p = phases-end es p
    phases-end (Crash a ∷ es) p = phases-end es p
    phases-end (Restart a i ∷ es) p = phases-end es p
    phases-end (Deliver k ∷ es) p = phases-end es p
    phases-end (Tick a now ∷ es) p = phases-end es p
    phases-end (Mill a r ∷ es) p = phases-end es p
entry-so script es (Emit a t) checked live more h = next-entry script es (Emit a t) checked live h
entry-so script es (Release a t) checked live more h = next-entry script es (Release a t) checked live h
entry-so script es (Cut a b) checked live more h = next-entry script es (Cut a b) checked live h
entry-so script es (Heal a b) checked live more h = next-entry script es (Heal a b) checked live h
entry-so script es (Crash a) checked live more h = next-entry script es (Crash a) checked live h
entry-so script es (Restart a i) checked live more h = next-entry script es (Restart a i) checked live h
entry-so script es (Deliver k) checked live more h = delivers-so script es k h
entry-so script es (Tick a now) checked live more h =
    record { ticks = ticks-so script es a now (clocked-of script (can_settle script checked)) live h; clock = tick-clock script es a now live h }
entry-so script es (Mill a r) checked live more h = mills-so script es a r h

pub entry-is : (script : Script) (es : List Event) (e : Event) (fs : List Event) → IsChecked script → is_live_so_far script (es ++ e ∷ fs) ≡ true → IsEntryOf script es e
entry-is script es e fs checked live =
    let before = prefix-live script es (e ∷ fs) live in
    let can = each-may script es e fs live in
    entry-so script es e checked before (one-more script es e before can) can

-- ---- how many envelopes and items

within-from : (w : World) (es : List Event) → IsWithinLimits w → excess_from w es ≡ None → IsWithinLimits (run_from w es)
within-from w [] within h = within
within-from w (e ∷ es) within h =
    (elim (passes_limit w e) as (λ b. passes_limit w e ≡ b → cond b (Some (sums_after w e)) (excess_from (happens w e) es) ≡ None → IsWithinLimits (run_from (happens w e) es)) [
      | true ↦ λ d none. cc
      | false ↦ λ d none.
          let next = happens w e in
          let low = neither (nat_lt most_envelopes (length next.envelopes)) (nat_lt most_items (item_count next next.envelopes)) d in
          within-from next es (record { envelopes = not-lt most_envelopes (length next.envelopes) low.0; items = not-lt most_items (item_count next next.envelopes) low.1 }) none
    ]) refl h

opening-within : (w : World) → w.envelopes ≡ [] → IsWithinLimits w
opening-within w none =
    let many = ap (λ (es : List Envelope). length es) none in
    let items = ap (λ (es : List Envelope). item_count w es) none in
    record { envelopes = omega (arith, many); items = omega (arith, items) }

pub within-limits : (plan : Plan) (es : List Event) → excess plan es ≡ None → IsWithinLimits (run plan es)
unfolding run
within-limits plan es h = within-from (new_world plan) es (opening-within (new_world plan) (new_world-none plan)) h

-- ---- small numbers

known-low : (plan : Plan) (a : ℕ) → (role_of plan a ≡ Nobody → ⊥) → nat_lt a (length (roles_of plan)) ≡ true
known-low plan a known =
    (elim (nat_lt a (length (roles_of plan))) as (λ b. nat_lt a (length (roles_of plan)) ≡ b → b ≡ true) [
      | true ↦ λ e. refl
      | false ↦ λ e. absurd (known (nth-past Nobody (roles_of plan) a (not-lt a (length (roles_of plan)) e)))
    ]) refl

none-sends : (ss : List StreamRef) → list_any (λ s. sends_stream s Nobody) ss ≡ false
none-sends [] = refl
none-sends (s ∷ ss) = none-sends ss

linked-first : (plan : Plan) (x y : Role) → (reads_from plan x y || reads_from plan y x || are_peers x y) ≡ true → x ≡ Nobody → ⊥
linked-first plan x y h e =
    let here : (reads_from plan Nobody y || reads_from plan y Nobody || are_peers Nobody y) ≡ true = subst (λ (z : Role). (reads_from plan z y || reads_from plan y z || are_peers z y) ≡ true) e h in
    let none : reads_from plan y Nobody ≡ false = none-sends (inputs_of plan y) in
    let clash : false ≡ true = rw none at here in cc

linked-second : (plan : Plan) (x y : Role) → (reads_from plan x y || reads_from plan y x || are_peers x y) ≡ true → y ≡ Nobody → ⊥
linked-second plan x y h e =
    let here : (reads_from plan x Nobody || reads_from plan Nobody x || are_peers x Nobody) ≡ true = subst (λ (z : Role). (reads_from plan x z || reads_from plan z x || are_peers x z) ≡ true) e h in
    let none : reads_from plan x Nobody ≡ false = none-sends (inputs_of plan x) in
    let alone : are_peers x Nobody ≡ false = no-peer x in
    let clash : false ≡ true = rw (none, alone) at here in cc
  where
    no-peer : (x : Role) → are_peers x Nobody ≡ false
    no-peer (IsSource s) = refl
    no-peer (IsNode f r) = refl
    no-peer (IsClient c) = refl
    no-peer Nobody = refl

one-low : (plan : Plan) (a : ℕ) → (role_of plan a ≡ Nobody → ⊥) → list_all (λ b. nat_lt b (length (roles_of plan))) (a ∷ []) ≡ true
one-low plan a known = both-of (nat_lt a (length (roles_of plan))) true (known-low plan a known) refl

two-low : (plan : Plan) (a b : ℕ) → are_linked plan a b ≡ true → list_all (λ c. nat_lt c (length (roles_of plan))) (a ∷ b ∷ []) ≡ true
two-low plan a b h =
    both-of (nat_lt a (length (roles_of plan))) (nat_lt b (length (roles_of plan)) && true) (known-low plan a (linked-first plan (role_of plan a) (role_of plan b) h)) (one-low plan b (linked-second plan (role_of plan a) (role_of plan b) h))

number-low : (n : ℕ) → n < 2 ^ 63 → list_all (λ k. nat_lt k (2 ^ 63)) (n ∷ []) ≡ true
number-low n h = both-of (nat_lt n (2 ^ 63)) true (lt-test n (2 ^ 63) h) refl

-- an actor with a clock is one of the plan
clocked-known : (w : World) (a old : ℕ) → clock_at w a ≡ Some old → role_of w.plan a ≡ Nobody → ⊥
clocked-known w a old h e = let clash : clock_by w a Nobody ≡ Some old = subst (λ (z : Role). clock_by w a z ≡ Some old) e h in cc

pub restarts-within : (es : List Event) → restarts_in es ≤ length es
restarts-within [] = omega arith
restarts-within (e ∷ es) =
    let rest = restarts-within es in
    elim (is_restart e) as (λ b. length (cond b (e ∷ filter is_restart es) (filter is_restart es)) ≤ suc (length es)) [ true ↦ omega (arith, rest) | false ↦ omega (arith, rest) ]

module _ (script : Script) (es : List Event) (checked : IsChecked script) (within : excess script.plan es ≡ None) (short : length es < 2 ^ 62) where
  send-low : (a t : ℕ) → IsSend script.plan a t → list_all (λ b. nat_lt b (length (roles_of script.plan))) (a ∷ []) ≡ true
  send-low a t s = one-low script.plan a (λ e. let clash : IsSource a ≡ Nobody = sym s.role ∙ e in cc)

  time-low : (a t : ℕ) → IsSend script.plan a t → list_all (λ k. nat_lt k (2 ^ 63)) (t ∷ []) ≡ true
  time-low a t s =
      let end = (checked_has_form script checked).ends in
      let low = le-of t script.plan.end (both (nat_le 1 t) (nat_le t script.plan.end) s.time).1 in
      number-low t (omega (arith, end, low))

  node-low : (a : ℕ) → IsOfNode script.plan a → list_all (λ b. nat_lt b (length (roles_of script.plan))) (a ∷ []) ≡ true
  node-low a n = one-low script.plan a (λ e. let clash : IsNode n.frag n.replica ≡ Nobody = sym n.role ∙ e in cc)

  few-phases : most_phases script < 2 ^ 63
  few-phases =
      let few = (checked_has_form script checked).few_phases in
      let quiet = (can_settle script checked).quiet in
      elim script.settle as (λ b. cond b (length script.phases + quiet_limit script.plan) (length script.phases) < 2 ^ 63) [ true ↦ omega (arith, few, quiet) | false ↦ omega (arith, few) ]

  small : (e : Event) → IsEntryOf script es e → HasSmallNumbers script.plan e
  small (Phase p) h = let few = h.few in let most = few-phases in record { actors = refl; numbers = number-low p (omega (arith, few, most)) }
  small (Emit a t) h = record { actors = send-low a t h; numbers = time-low a t h }
  small (Release a t) h = record { actors = send-low a t h; numbers = time-low a t h }
  small (Cut a b) h = record { actors = two-low script.plan a b h; numbers = refl }
  small (Heal a b) h = record { actors = two-low script.plan a b h; numbers = refl }
  small (Crash a) h = record { actors = node-low a h; numbers = refl }
  small (Restart a i) h = let few = h.few in let many = restarts-within es in record { actors = node-low a h.node; numbers = number-low i (omega (arith, few, many, short)) }
  small (Deliver k) h =
      let few = (within-limits script.plan es within).envelopes in
      let there = slice_get_within (run script.plan es).envelopes k h.envelope h.is_sent in
      record { actors = refl; numbers = number-low k (omega (arith, few, there)) }
  small (Tick a now) h =
      let low = le-of now (2 ^ 40) (both (nat_le h.ticks.old now) (nat_le now (2 ^ 40)) h.ticks.may).1 in
      record { actors = one-low script.plan a (λ e. clocked-known (run script.plan es) a h.ticks.old h.ticks.is_up (ap (λ (p : Plan). role_of p a) (run-plan script.plan es) ∙ e)); numbers = number-low now (omega (arith, low)) }
  small (Mill a r) h =
      let low = le-of r most_milled (both (nat_le 1 r) (nat_le r most_milled) (both (nat_le 1 r && nat_le r most_milled) _ h.may).0).1 in
      record {
        actors = one-low script.plan a (λ e. let clash : IsNode h.frag h.replica ≡ Nobody = sym (ap (λ (p : Plan). role_of p a) (sym (run-plan script.plan es)) ∙ h.role) ∙ e in cc);
        numbers = number-low r (omega (arith, low));
      }

pub small-numbers : (script : Script) (es : List Event) (e : Event) (fs : List Event) → IsChecked script → is_live_so_far script (es ++ e ∷ fs) ≡ true → excess script.plan es ≡ None → length es < 2 ^ 62 → HasSmallNumbers script.plan e
small-numbers script es e fs checked live within short = small script es checked within short e (entry-is script es e fs checked live)

pub clocked : (script : Script) → IsChecked script → IsClocked script
clocked script checked = clocked-of script (can_settle script checked)
