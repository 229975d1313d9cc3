-- Along a live run: two whole phases after an ask is over no promise is to it.
use Rattle.std.proofs.Common.{◌≡◌, ℕ, ◌+◌, ◌<◌, ◌≤◌, Bool, true, false, ◌&&◌, ◌==◌, nat_lt, nat_le, List, [], ◌∷◌, ◌++◌, length, refl, sym, ap, subst, ◌∙◌, arith, Option, Some, None, ◌⊎◌, inl, inr}
use Rattle.std.specs.Prelude.{IfSome}
use Rattle.std.proofs.lemmas.List.{append_assoc}
use Rattle.dpc_lists.specs.Lists.{nth}
use Rattle.dpc_model.specs.Actors.{role_of}
use Rattle.dpc_model.specs.Granting.{Key, key_le, over_by}
use Rattle.dpc_model.specs.declared.actors.Role.TheVariants.{Node as IsNode}
use Rattle.dpc_model.specs.declared.messages.Event.{Event}
use Rattle.dpc_model.specs.declared.plans.Plan.{Plan}
use Rattle.dpc_model.specs.declared.scripts.Script.{Script}
use Rattle.node_model.specs.Nodes.{PlainNode}
use Rattle.world_model.specs.Worlds.{World, slot_of, run}
use Rattle.world_model.specs.Schedules.{Progress, next_progress, progress, is_live_so_far}
use Rattle.world_model.specs.Steady.{OpensWell}
use Rattle.dpc_lists.proofs.Truths.{both-of, eq-test, lt-test, le-test, or-left, or-right}
use Rattle.dpc_lists.proofs.Somes.{some-same}
use Rattle.law_safety.proofs.Growing.{run-plan}
use Rattle.law_granting.specs.Asking.{IsOver}
use Rattle.law_granting.proofs.Keys.{key-trans}
use Rattle.law_granting.proofs.Running.{run-order}
use Rattle.law_schedules.proofs.Journals.{live-far, prefix-live, phases-counted, progress-run}
use Rattle.law_readers.specs.Settling.{CanSettle}
use Rattle.law_settling.specs.Promised.{OverPromisesEnd}
use Rattle.law_settling.proofs.Splitting.{in-quiet, quiet-goes}
use Rattle.law_settling.proofs.Journeys.{IsUnder, under-phase, under-next, under-first, end-under}
use Rattle.law_settling.proofs.Along.{every-behind, progress-push, live-may, running-along}
use Rattle.law_settling.proofs.Exact.{same-or}
use Rattle.law_settling.proofs.Ports.{node-there}
use Rattle.law_settling.proofs.Promises.{IsOpenAt, open-of, IsOverAt, IsKnown, KnownStage, over-kept, known-lead}

-- an ask that is over is no later than the last one of its replica that is over
pub over-key : (key : Key) (last inc over : ℕ) → key.0 ≤ last → inc ≡ last → (key.0 ≡ inc → key.1 ≤ over) → key_le key (inc, over) ≡ true
over-key key last inc over came same low =
    elim (same-or key.0 inc) [
      | inl one ↦ or-right (nat_lt key.0 inc) (key.0 == inc && nat_le key.1 over) (both-of (key.0 == inc) (nat_le key.1 over) (eq-test key.0 inc one) (le-test key.1 over (low one)))
      | inr apart ↦ or-left (nat_lt key.0 inc) (key.0 == inc && nat_le key.1 over) (lt-test key.0 inc (omega (arith, came, same, apart)))
    ]

module _ (script : Script) (events : List Event) (can : CanSettle script) (live : is_live_so_far script events ≡ true) (well : OpensWell script events) where
  -- every state past the script's phases
  open-along : (done rest : List Event) → events ≡ done ++ rest → length script.phases < (progress script done).phase → IsOpenAt script (progress script done)
  open-along done rest is far = open-of script can (progress script done) (running-along script events live well done rest is far)

  -- where it begins
  begins : (before rest : List Event) (a f q : ℕ) (key : Key) → events ≡ before ++ rest → length script.phases < (progress script before).phase → role_of script.plan a ≡ IsNode f q → IsOver (slot_of (run script.plan before) a) key → IsOverAt a key (progress script before)
  begins before rest a f q key is far role over =
      let z = progress script before in
      let w = run script.plan before in
      let good = open-along before rest is far in
      let world : z.world ≡ w = progress-run script before in
      let role_z : role_of z.world.plan a ≡ IsNode f q = ap (λ (pl : Plan). role_of pl a) good.of_plan ∙ role in
      let node = node-there z.world good.most a f q good.fine good.up role_z in
      let up : (slot_of w a).node ≡ Some node.0 = sym (ap (λ (v : World). (slot_of v a).node) world) ∙ node.1 in
      let order = run-order script.plan before can.plan in
      let inc = order.incarnation a f q node.0 (record { role = ap (λ (pl : Plan). role_of pl a) (run-plan script.plan before) ∙ role; up = up }) in
      let low : key.0 ≡ node.0.grants.inc → key.1 ≤ node.0.grants.over = subst (λ (o : Option PlainNode). IfSome o (λ (x : PlainNode). key.0 ≡ x.grants.inc → key.1 ≤ x.grants.over)) up over.over in
      record { node = node.0; up = node.1; over = over-key key (slot_of w a).last_inc node.0.grants.inc node.0.grants.over over.came inc low }

  module _ (a b f q r : ℕ) (key : Key) (role_a : role_of script.plan a ≡ IsNode f q) (role_b : role_of script.plan b ≡ IsNode f r) (other : b ≡ a → ⊥) (base : ℕ) (past : length script.phases < base) where
    abbrev Inv : List Event → Type 0
    Inv done = (((progress script done).phase ≡ base) × IsOverAt a key (progress script done)) ⊎ IsUnder script (IsOpenAt script) (KnownStage a b q key) 2 base (base + 2) (progress script done)

    inv-next : (done rest : List Event) (e : Event) → events ≡ done ++ e ∷ rest → Inv done → Inv (done ++ e ∷ [])
    inv-next done rest e is h =
        let z = progress script done in
        let push = progress-push script done e in
        let follows = live-may script events done rest e live is in
        let later : events ≡ (done ++ e ∷ []) ++ rest = is ∙ sym (append_assoc done (e ∷ []) rest) in
        let next_open : length script.phases < (next_progress script z e).phase → IsOpenAt script (next_progress script z e) =
        (λ (far : length script.phases < (next_progress script z e).phase). subst (IsOpenAt script) push (open-along (done ++ e ∷ []) rest later (subst (λ (y : Progress). length script.phases < y.phase) (sym push) far))) in
        let goal : (((next_progress script z e).phase ≡ base) × IsOverAt a key (next_progress script z e)) ⊎ IsUnder script (IsOpenAt script) (KnownStage a b q key) 2 base (base + 2) (next_progress script z e) =
        elim h [
          | inl at ↦
              let exact = at.0 in
              let here = open-along done (e ∷ rest) is (omega (arith, exact, past)) in
              elim (in-quiet script z e here.at follows) [
                | inl quiet ↦
                    let same = (quiet-goes script z e quiet here.at).1 in
                    let good = next_open (omega (arith, same, exact, past)) in
                    inl (same ∙ exact, over-kept script a b f q r key role_a role_b other z e (record { quiet = quiet; may = follows; here = here; next = good }) at.1)
                | inr o ↦
                    let next : (next_progress script z e).phase ≡ z.phase + 1 = ap (λ (d : Event). (next_progress script z d).phase) o.0 in
                    let good = next_open (omega (arith, next, exact, past)) in
                    inr (under-first script (IsOpenAt script) (KnownStage a b q key) 2 base (base + 2) z e o here.at (omega (arith, exact)) (omega (arith, exact)) at.1 good)
              ]
          | inr u ↦
              let phase = under-phase script (IsOpenAt script) (KnownStage a b q key) 2 base (base + 2) z u in
              let low = u.past in
              let here = open-along done (e ∷ rest) is (omega (arith, phase, low, past)) in
              let grows : z.phase ≤ (next_progress script z e).phase = elim (in-quiet script z e here.at follows) [
                | inl quiet ↦ let same = (quiet-goes script z e quiet here.at).1 in omega (arith, same)
                | inr o ↦ let next : (next_progress script z e).phase ≡ z.phase + 1 = ap (λ (d : Event). (next_progress script z d).phase) o.0 in omega (arith, next)
              ] in
              inr (under-next script (IsOpenAt script) (KnownStage a b q key) 2 base (base + 2) z e (known-lead script a b f q r key role_a role_b other) u follows (next_open (omega (arith, grows, phase, low, past))))
        ] in
        subst (λ (y : Progress). ((y.phase ≡ base) × IsOverAt a key y) ⊎ IsUnder script (IsOpenAt script) (KnownStage a b q key) 2 base (base + 2) y) (sym push) goal

    -- two whole phases later the other replica knows it
    pub known-late : (before mid rest : List Event) → events ≡ before ++ (mid ++ rest) → (progress script before).phase ≡ base → IsOverAt a key (progress script before) → base + 3 ≤ (progress script (before ++ mid)).phase → IsKnown b q key (progress script (before ++ mid))
    known-late before mid rest is exact over far =
        elim (every-behind events before Inv (inl (exact, over)) inv-next mid rest is) [
          | inl at ↦ let same = at.0 in absurd (omega (arith, same, far))
          | inr u ↦
              let phase = under-phase script (IsOpenAt script) (KnownStage a b q key) 2 base (base + 2) (progress script (before ++ mid)) u in
              let count = u.count in
              end-under script (IsOpenAt script) (KnownStage a b q key) 2 base (base + 2) (progress script (before ++ mid)) (known-lead script a b f q r key role_a role_b other) u (omega (arith, count, phase, far))
        ]

pub promises-end : (script : Script) (events : List Event) → OverPromisesEnd script events
promises-end script events can live well before mid rest is late far a f q key role_a over b r n p role_b up promised to =
    let so_far = live-far script events live in
    let whole : events ≡ (before ++ mid) ++ rest = is ∙ sym (append_assoc before mid rest) in
    let count = phases-counted script before (prefix-live script before (mid ++ rest) (subst (λ (es : List Event). is_live_so_far script es ≡ true) is so_far)) in
    let count_late = phases-counted script (before ++ mid) (prefix-live script (before ++ mid) rest (subst (λ (es : List Event). is_live_so_far script es ≡ true) whole so_far)) in
    let order = run-order script.plan (before ++ mid) can.plan in
    let plan = run-plan script.plan (before ++ mid) in
    let proper = (order.nodes b f r n (record { role = ap (λ (pl : Plan). role_of pl b) plan ∙ role_b; up = up })).promise p promised in
    elim (same-or b a) [
      | inl same ↦
          let one : IsNode f r ≡ IsNode f q = sym role_b ∙ ap (λ (z : ℕ). role_of script.plan z) same ∙ role_a in
          absurd (proper.other (to ∙ sym (same-number one)))
      | inr other ↦
          let base = (progress script before).phase in
          let begin = begins script events can so_far well before (mid ++ rest) a f q key is (omega (arith, count, late)) role_a over in
          let known = known-late script events can so_far well a b f q r key role_a role_b other base (omega (arith, count, late)) before mid rest is refl begin (omega (arith, count, count_late, far)) in
          let there : (slot_of (run script.plan (before ++ mid)) b).node ≡ Some known.node = ap (λ (v : World). (slot_of v b).node) (sym (progress-run script (before ++ mid))) ∙ known.up in
          let it : known.node ≡ n = some-same known.node n (sym there ∙ up) in
          let h = known.knows.0 in
          let heard : nth None n.grants.heard q ≡ Some h = ap (λ (x : PlainNode). nth None x.grants.heard q) (sym it) ∙ known.knows.1 in
          let going : key_le p.1 h ≡ false = sym (ap (λ (o : Option Key). over_by p.1 o) (ap (λ (z : ℕ). nth None n.grants.heard z) to ∙ heard)) ∙ proper.going_on in
          not-under (key_le p.1 key) refl (λ yes_one. let all = key-trans p.1 key h yes_one known.knows.2 in let clash : true ≡ false = sym all ∙ going in cc)
    ]
  where
    same-number : IsNode f r ≡ IsNode f q → r ≡ q
    same-number e = cc

    not-under : (c : Bool) → key_le p.1 key ≡ c → (key_le p.1 key ≡ true → ⊥) → key_le p.1 key ≡ false
    not-under false e h = e
    not-under true e h = absurd (h e)
