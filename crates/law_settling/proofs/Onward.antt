-- From one point of a live run to a later one: what is kept, where the next phase begins, and who is still UP_FAILURE.
use Rattle.std.proofs.Common.{◌≡◌, ℕ, zero, suc, ◌+◌, ◌<◌, ◌≤◌, true, false, List, [], ◌∷◌, ◌++◌, length, refl, sym, ap, subst, ◌∙◌, arith, ◌⊎◌, inl, inr}
use Rattle.std.proofs.lemmas.List.{append_assoc, length-append}
use Rattle.dpc_lists.specs.Lists.{list_all}
use Rattle.dpc_model.specs.NodeStates.{is_up_failure, is_stabilization}
use Rattle.dpc_model.specs.declared.messages.Event.{Event}
use Rattle.dpc_model.specs.declared.messages.Event.TheVariants.{Phase, Emit, Release, Cut, Heal, Crash, Restart, Deliver, Tick, Mill}
use Rattle.dpc_model.specs.declared.scripts.Script.{Script}
use Rattle.node_model.specs.Nodes.{PlainNode, buckets_of}
use Rattle.world_model.specs.Worlds.{run}
use Rattle.world_model.specs.Schedules.{Progress, next_progress, progress, is_live_so_far}
use Rattle.world_model.specs.Steady.{OpensWell}
use Rattle.dpc_lists.proofs.Truths.{both-of}
use Rattle.law_schedules.specs.Journals.{phases_in}
use Rattle.law_readers.specs.Settling.{CanSettle}
use Rattle.world_model.specs.Events.{is_quiet}
use Rattle.law_settling.specs.Phased.{opened}
use Rattle.law_settling.specs.Rests.{AllRestPast}
use Rattle.law_settling.specs.Entered.{AreWhole}
use Rattle.law_settling.proofs.Splitting.{in-quiet, quiet-goes}
use Rattle.law_settling.proofs.Rules.{Keeps}
use Rattle.law_settling.proofs.Along.{every-behind, progress-push, live-may}
use Rattle.law_settling.proofs.Failing.{failed-moves}
use Rattle.law_settling.proofs.Moving.{IsReplica, IsWorking, finished-here, moved}
use Rattle.law_settling.proofs.Reentering.{working-along}

-- ---- phases of a part

pub phases-add : (es fs : List Event) → phases_in (es ++ fs) ≡ phases_in es + phases_in fs
phases-add [] fs = omega arith
phases-add (Phase p ∷ es) fs = let rest = phases-add es fs in omega (arith, rest)
phases-add (Emit s t ∷ es) fs = phases-add es fs
phases-add (Release s t ∷ es) fs = phases-add es fs
phases-add (Cut a b ∷ es) fs = phases-add es fs
phases-add (Heal a b ∷ es) fs = phases-add es fs
phases-add (Crash a ∷ es) fs = phases-add es fs
phases-add (Restart a i ∷ es) fs = phases-add es fs
phases-add (Deliver k ∷ es) fs = phases-add es fs
phases-add (Tick a now ∷ es) fs = phases-add es fs
phases-add (Mill a r ∷ es) fs = phases-add es fs

-- a part with so many phases
pub cut-phases : (k : ℕ) (es : List Event) → k ≤ phases_in es → (one : List Event) × (two : List Event) × (es ≡ one ++ two) × (phases_in one ≡ k)
cut-phases zero es h = ([], es, refl, refl)
cut-phases (suc k) [] h = absurd (omega (arith, h))
cut-phases (suc k) (Phase p ∷ es) h = let c = cut-phases k es (omega (arith, h)) in let same = c.3 in (Phase p ∷ c.0, c.1, ap (λ (fs : List Event). Phase p ∷ fs) c.2, omega (arith, same))
cut-phases (suc k) (Emit s t ∷ es) h = let c = cut-phases (suc k) es h in (Emit s t ∷ c.0, c.1, ap (λ (fs : List Event). Emit s t ∷ fs) c.2, c.3)
cut-phases (suc k) (Release s t ∷ es) h = let c = cut-phases (suc k) es h in (Release s t ∷ c.0, c.1, ap (λ (fs : List Event). Release s t ∷ fs) c.2, c.3)
cut-phases (suc k) (Cut a b ∷ es) h = let c = cut-phases (suc k) es h in (Cut a b ∷ c.0, c.1, ap (λ (fs : List Event). Cut a b ∷ fs) c.2, c.3)
cut-phases (suc k) (Heal a b ∷ es) h = let c = cut-phases (suc k) es h in (Heal a b ∷ c.0, c.1, ap (λ (fs : List Event). Heal a b ∷ fs) c.2, c.3)
cut-phases (suc k) (Crash a ∷ es) h = let c = cut-phases (suc k) es h in (Crash a ∷ c.0, c.1, ap (λ (fs : List Event). Crash a ∷ fs) c.2, c.3)
cut-phases (suc k) (Restart a i ∷ es) h = let c = cut-phases (suc k) es h in (Restart a i ∷ c.0, c.1, ap (λ (fs : List Event). Restart a i ∷ fs) c.2, c.3)
cut-phases (suc k) (Deliver j ∷ es) h = let c = cut-phases (suc k) es h in (Deliver j ∷ c.0, c.1, ap (λ (fs : List Event). Deliver j ∷ fs) c.2, c.3)
cut-phases (suc k) (Tick a now ∷ es) h = let c = cut-phases (suc k) es h in (Tick a now ∷ c.0, c.1, ap (λ (fs : List Event). Tick a now ∷ fs) c.2, c.3)
cut-phases (suc k) (Mill a r ∷ es) h = let c = cut-phases (suc k) es h in (Mill a r ∷ c.0, c.1, ap (λ (fs : List Event). Mill a r ∷ fs) c.2, c.3)

-- ---- what is kept of a replica

-- it is not UP_FAILURE
pub record IsFine (script : Script) (f b q : ℕ) (z : Progress) : Type 0 where
  pub node : PlainNode
  pub replica : IsReplica script f z b q node
  pub fine : is_up_failure node.state ≡ false

-- it is past its last bucket, with its last ask that is over
pub record IsDone (script : Script) (f b q i o : ℕ) (z : Progress) : Type 0 where
  pub node : PlainNode
  pub replica : IsReplica script f z b q node
  pub past : buckets_of script.plan ≤ node.cursor
  pub inc : node.grants.inc ≡ i
  pub over : node.grants.over ≡ o

-- it is not UP_FAILURE, or its last ask that is over is this one
pub record IsLike (script : Script) (f b q i o : ℕ) (z : Progress) : Type 0 where
  pub node : PlainNode
  pub replica : IsReplica script f z b q node
  pub like : (is_up_failure node.state ≡ false) ⊎ ((node.grants.inc ≡ i) × (node.grants.over ≡ o))

module _ (script : Script) (f b q : ℕ) where
  pub fine-kept : Keeps script (IsWorking script f) (IsFine script f b q)
  fine-kept z e may h = let m = moved script f z e may b q h.node h.replica in record { node = m.0; replica = m.1.replica; fine = m.1.even.fine h.fine }

  pub done-kept : (i o : ℕ) → Keeps script (IsWorking script f) (IsDone script f b q i o)
  done-kept i o z e may h =
      let m = moved script f z e may b q h.node h.replica in
      let past = h.past in
      let more = m.1.cursor in
      let state = (finished-here script f z b q h.node may.here h.replica h.past).state in
      record { node = m.0; replica = m.1.replica; past = omega (arith, past, more); inc = m.1.inc ∙ h.inc; over = m.1.even.over (ap is_stabilization state) ∙ h.over }

  pub like-kept : (i o : ℕ) → Keeps script (IsWorking script f) (IsLike script f b q i o)
  like-kept i o z e may h =
      let m = moved script f z e may b q h.node h.replica in
      let goal : (is_up_failure m.0.state ≡ false) ⊎ ((m.0.grants.inc ≡ i) × (m.0.grants.over ≡ o)) =
      elim h.like [
        | inl fine ↦ inl (m.1.even.fine fine)
        | inr same ↦ (elim (is_up_failure h.node.state) as (λ c. is_up_failure h.node.state ≡ c → (is_up_failure m.0.state ≡ false) ⊎ ((m.0.grants.inc ≡ i) × (m.0.grants.over ≡ o))) [
          | false ↦ λ d. inl (m.1.even.fine d)
          | true ↦ λ d. inr (m.1.inc ∙ same.0, m.1.even.over (failed-moves h.node.state d) ∙ same.1)
        ]) refl
      ] in
      record { node = m.0; replica = m.1.replica; like = goal }

module _ (script : Script) (events before : List Event) (f : ℕ) (can : CanSettle script) (live : is_live_so_far script events ≡ true) (well : OpensWell script events) (floor : ℕ) (past_floor : length script.phases < floor) (rests : AllRestPast script events f floor)
    (wholes : (done more : List Event) → events ≡ done ++ more → length before ≤ length done → AreWhole script.plan (run script.plan done) f) where
  -- a point of the run behind the beginning, past the last phase in which a replica may recover
  pub record IsPoint (done : List Event) : Type 0 where
    pub long : length before ≤ length done
    pub far : floor < (progress script done).phase

  pub point-next : (done rest : List Event) (e : Event) → events ≡ done ++ e ∷ rest → IsPoint done → IsPoint (done ++ e ∷ [])
  point-next done rest e is h =
      let z = progress script done in
      let long = h.long in
      let far = h.far in
      let count = length-append done (e ∷ []) in
      let good = working-along script events before f can live well floor past_floor rests wholes done (e ∷ rest) is long far in
      let grows : z.phase ≤ (next_progress script z e).phase = elim (in-quiet script z e good.here.at (live-may script events done rest e live is)) [
        | inl quiet ↦ let same = (quiet-goes script z e quiet good.here.at).1 in omega (arith, same)
        | inr o ↦ let next : (next_progress script z e).phase ≡ z.phase + 1 = ap (λ (d : Event). (next_progress script z d).phase) o.0 in omega (arith, next)
      ] in
      record { long = omega (arith, long, count); far = subst (λ (y : Progress). floor < y.phase) (sym (progress-push script done e)) (omega (arith, grows, far)) }

  pub point-later : (done mid rest : List Event) → events ≡ done ++ (mid ++ rest) → IsPoint done → IsPoint (done ++ mid)
  point-later done mid rest is h = every-behind events done IsPoint h (λ d r e at p. point-next d r e at p) mid rest is

  pub at-point : (done rest : List Event) → events ≡ done ++ rest → IsPoint done → IsWorking script f (progress script done)
  at-point done rest is h = working-along script events before f can live well floor past_floor rests wholes done rest is h.long h.far

  -- what every event keeps, and the opening of a phase
  pub kept-later : (Q : Progress → Type 0) → Keeps script (IsWorking script f) Q → ((z : Progress) → Q z → Q (opened script z)) → (done mid rest : List Event) → events ≡ done ++ (mid ++ rest) → IsPoint done → Q (progress script done) → Q (progress script (done ++ mid))
  kept-later Q keeps opens done mid rest is point first = (every-behind events done (λ d. IsPoint d × Q (progress script d)) (point, first) (λ d r e at h. (point-next d r e at h.0, next d r e at h.0 h.1)) mid rest is).1
    where
      next : (d r : List Event) (e : Event) → events ≡ d ++ e ∷ r → IsPoint d → Q (progress script d) → Q (progress script (d ++ e ∷ []))
      next d r e at p h =
          let z = progress script d in
          let push = progress-push script d e in
          let follows = live-may script events d r e live at in
          let here = at-point d (e ∷ r) at p in
          let later : events ≡ (d ++ e ∷ []) ++ r = at ∙ sym (append_assoc d (e ∷ []) r) in
          let good = subst (IsWorking script f) push (at-point (d ++ e ∷ []) r later (point-next d r e at p)) in
          subst Q (sym push) (elim (in-quiet script z e here.here.at follows) [
            | inl quiet ↦ keeps z e (record { quiet = quiet; may = follows; here = here; next = good }) h
            | inr o ↦ subst (λ (g : Event). Q (next_progress script z g)) (sym o.0) (opens z h)
          ])

  -- where the next phase begins
  pub next-phase : (done mid rest : List Event) → events ≡ done ++ (mid ++ rest) → IsPoint done → 1 ≤ phases_in mid → (here : List Event) × (p : ℕ) × (more : List Event) × (mid ≡ here ++ (Phase p ∷ more)) × (list_all is_quiet here ≡ true)
  next-phase done [] rest is point some = absurd (omega (arith, some))
  next-phase done (e ∷ mid) rest is point some =
      let z = progress script done in
      let good = at-point done (e ∷ (mid ++ rest)) is point in
      let later : events ≡ (done ++ e ∷ []) ++ (mid ++ rest) = is ∙ sym (append_assoc done (e ∷ []) (mid ++ rest)) in
      elim (in-quiet script z e good.here.at (live-may script events done (mid ++ rest) e live is)) [
        | inr o ↦ ([], z.phase + 1, mid, ap (λ (d : Event). d ∷ mid) o.0, refl)
        | inl quiet ↦
            let n = next-phase (done ++ e ∷ []) mid rest later (point-next done (mid ++ rest) e is point) (quiet-none e quiet some) in
            (e ∷ n.0, n.1, n.2, ap (λ (es : List Event). e ∷ es) n.3, both-of (is_quiet e) (list_all is_quiet n.0) quiet n.4)
      ]
    where
      quiet-none : (d : Event) → is_quiet d ≡ true → 1 ≤ phases_in (d ∷ mid) → 1 ≤ phases_in mid
      quiet-none (Phase p) q h = cc
      quiet-none (Emit s t) q h = h
      quiet-none (Release s t) q h = h
      quiet-none (Cut a b) q h = h
      quiet-none (Heal a b) q h = h
      quiet-none (Crash a) q h = h
      quiet-none (Restart a i) q h = h
      quiet-none (Deliver k) q h = h
      quiet-none (Tick a now) q h = h
      quiet-none (Mill a r) q h = h
