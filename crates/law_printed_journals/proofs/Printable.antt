-- The entries of a live journal name actors of their forms' sorts, and have numbers of 64 bits.
use Rattle.std.proofs.Common.{◌≡◌, ℕ, suc, ◌+◌, ◌^◌, ◌<◌, Bool, true, false, cond, ◌&&◌, ◌||◌, nat_lt, List, [], ◌∷◌, ◌++◌, length, refl, ap, subst, ◌∙◌, arith, Some, None, length-append}
use Rattle.dpc_lists.specs.Lists.{list_all, list_any}
use Rattle.dpc_lists.proofs.Truths.{both, both-of, lt-of, lt-test}
use Rattle.dpc_model.specs.Actors.{role_of, inputs_of, sends_stream, reads_from, are_peers, are_linked}
use Rattle.dpc_model.specs.declared.actors.Role.{Role}
use Rattle.dpc_model.specs.declared.actors.Role.TheVariants.{Source as IsSource, Node as IsNode, Client as IsClient, Nobody}
use Rattle.dpc_model.specs.declared.messages.Event.{Event}
use Rattle.dpc_model.specs.declared.messages.Event.TheVariants.{Phase, Emit, Release, Cut, Heal, Crash, Restart, Deliver, Tick, Mill}
use Rattle.dpc_model.specs.declared.plans.Plan.{Plan}
use Rattle.dpc_model.specs.declared.plans.StreamRef.{StreamRef}
use Rattle.dpc_model.specs.declared.scripts.Script.{Script}
use Rattle.script_rules.specs.Checking.{IsChecked}
use Rattle.world_model.specs.Worlds.{World, happens, run, new_world, sums_after, passes_limit, excess_from, excess}
use Rattle.world_model.specs.Schedules.{is_live_so_far}
use Rattle.law_safety.proofs.Growing.{run-plan}
use Rattle.law_schedules.specs.Journals.{clock_by}
use Rattle.law_journals.specs.Entries.{IsEntryOf, HasSmallNumbers}
use Rattle.law_journals.proofs.Entries.{entry-is, small-numbers}
use Rattle.journal_text.specs.Actors.{is_of}
use Rattle.journal_text.specs.Entries.{is_named, has_small_numbers}
use Rattle.journal_text.specs.declared.sorts.Sort.TheVariants.{Source, Node, Any}

-- what holds of each element behind those before it holds of all
pub each-of : {X : Type 0} (test : X → Bool) (xs : List X) →
    ((before : List X) (x : X) (rest : List X) → xs ≡ before ++ x ∷ rest → test x ≡ true) → list_all test xs ≡ true
each-of test [] h = refl
each-of {X = X} test (x ∷ xs) h =
    both-of (test x) (list_all test xs) (h [] x xs refl) (each-of test xs (λ before y rest split. h (x ∷ before) y rest (ap (λ (l : List X). x ∷ l) split)))

-- ---- actors of their sorts

none-sends : (ss : List StreamRef) → list_any (λ s. sends_stream s Nobody) ss ≡ false
none-sends [] = refl
none-sends (s ∷ ss) = none-sends ss

module _ (plan : Plan) where
  abbrev Linked : Role → Role → Bool
  Linked x y = reads_from plan x y || reads_from plan y x || are_peers x y

  first-known : (x y : Role) → Linked x y ≡ true → is_of Any x ≡ true
  first-known (IsSource s) y h = refl
  first-known (IsNode f r) y h = refl
  first-known (IsClient c) y h = refl
  first-known Nobody y h =
      let none : reads_from plan y Nobody ≡ false = none-sends (inputs_of plan y) in
      let clash : false ≡ true = rw none at h in absurd cc

  second-known : (x y : Role) → Linked x y ≡ true → is_of Any y ≡ true
  second-known x (IsSource s) h = refl
  second-known x (IsNode f r) h = refl
  second-known x (IsClient c) h = refl
  second-known x Nobody h =
      let none : reads_from plan x Nobody ≡ false = none-sends (inputs_of plan x) in
      let alone : are_peers x Nobody ≡ false = no-peer x in
      let clash : false ≡ true = rw (none, alone) at h in absurd cc
    where
      no-peer : (x : Role) → are_peers x Nobody ≡ false
      no-peer (IsSource s) = refl
      no-peer (IsNode f r) = refl
      no-peer (IsClient c) = refl
      no-peer Nobody = refl

  link-named : (a b : ℕ) → are_linked plan a b ≡ true → (is_of Any (role_of plan a) && is_of Any (role_of plan b)) ≡ true
  link-named a b h =
      let x = role_of plan a in
      let y = role_of plan b in both-of (is_of Any x) (is_of Any y) (first-known x y h) (second-known x y h)

clocked-known : (w : World) (a old : ℕ) (x : Role) → clock_by w a x ≡ Some old → is_of Any x ≡ true
clocked-known w a old (IsSource s) h = refl
clocked-known w a old (IsNode f r) h = refl
clocked-known w a old (IsClient c) h = refl
clocked-known w a old Nobody h = absurd cc

entry-named : (script : Script) (es : List Event) (e : Event) → IsEntryOf script es e → is_named script.plan e ≡ true
entry-named script es (Phase p) h = refl
entry-named script es (Emit a t) h = ap (is_of Source) h.role
entry-named script es (Release a t) h = ap (is_of Source) h.role
entry-named script es (Cut a b) h = link-named script.plan a b h
entry-named script es (Heal a b) h = link-named script.plan a b h
entry-named script es (Crash a) h = ap (is_of Node) h.role
entry-named script es (Restart a i) h = ap (is_of Node) h.node.role
entry-named script es (Deliver k) h = refl
entry-named script es (Tick a now) h =
    let w = run script.plan es in
    subst (λ (plan : Plan). is_of Any (role_of plan a) ≡ true) (run-plan script.plan es) (clocked-known w a h.ticks.old (role_of w.plan a) h.ticks.is_up)
entry-named script es (Mill a r) h = subst (λ (plan : Plan). is_of Node (role_of plan a) ≡ true) (run-plan script.plan es) (ap (is_of Node) h.role)

pub entries-named : (script : Script) (events : List Event) → IsChecked script → is_live_so_far script events ≡ true →
    list_all (is_named script.plan) events ≡ true
entries-named script events checked live = each-of (is_named script.plan) events there
  where
    there : (before : List Event) (e : Event) (rest : List Event) → events ≡ before ++ e ∷ rest → is_named script.plan e ≡ true
    there before e rest split =
        let lives = subst (λ (es : List Event). is_live_so_far script es ≡ true) split live in
        entry-named script before e (entry-is script before e rest checked lives)

-- ---- numbers of 64 bits

-- entries before others pass no limit where all pass none
pub within-before : (w : World) (es fs : List Event) → excess_from w (es ++ fs) ≡ None → excess_from w es ≡ None
within-before w [] fs h = refl
within-before w (e ∷ es) fs h =
    (elim (passes_limit w e) as (λ b. cond b (Some (sums_after w e)) (excess_from (happens w e) (es ++ fs)) ≡ None →
    cond b (Some (sums_after w e)) (excess_from (happens w e) es) ≡ None) [
      | true ↦ λ none. cc
      | false ↦ λ none. within-before (happens w e) es fs none
    ]) h

wider : (n : ℕ) → list_all (λ k. nat_lt k (2 ^ 63)) (n ∷ []) ≡ true → nat_lt n (2 ^ 64) ≡ true
wider n h = let low = lt-of n (2 ^ 63) (both (nat_lt n (2 ^ 63)) true h).0 in lt-test n (2 ^ 64) (omega (arith, low))

entry-small : (plan : Plan) (e : Event) → HasSmallNumbers plan e → has_small_numbers e ≡ true
entry-small plan (Phase p) h = wider p h.numbers
entry-small plan (Emit a t) h = wider t h.numbers
entry-small plan (Release a t) h = wider t h.numbers
entry-small plan (Cut a b) h = refl
entry-small plan (Heal a b) h = refl
entry-small plan (Crash a) h = refl
entry-small plan (Restart a i) h = wider i h.numbers
entry-small plan (Deliver k) h = wider k h.numbers
entry-small plan (Tick a now) h = wider now h.numbers
entry-small plan (Mill a r) h = wider r h.numbers

pub entries-small : (script : Script) (events : List Event) → IsChecked script → is_live_so_far script events ≡ true → excess script.plan events ≡ None →
    length events < 2 ^ 62 → list_all has_small_numbers events ≡ true
entries-small script events checked live within short = each-of has_small_numbers events there
  where
    there : (before : List Event) (e : Event) (rest : List Event) → events ≡ before ++ e ∷ rest → has_small_numbers e ≡ true
    there before e rest split =
        let lives = subst (λ (es : List Event). is_live_so_far script es ≡ true) split live in
        let none = within-before (new_world script.plan) before (e ∷ rest) (subst (λ (es : List Event). excess script.plan es ≡ None) split within) in
        let many : length events ≡ length before + suc (length rest) = ap (λ (es : List Event). length es) split ∙ length-append before (e ∷ rest) in
        entry-small script.plan e (small-numbers script before e rest checked lives none (omega (arith, short, many)))
