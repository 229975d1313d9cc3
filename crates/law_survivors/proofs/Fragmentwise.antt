-- One fragment after another finishes, and then every client has its stream.
use Rattle.std.proofs.Common.{◌≡◌, ℕ, zero, suc, ◌+◌, ◌*◌, ◌<◌, ◌≤◌, true, List, ◌++◌, length, sym, ap, subst, ◌∙◌, arith, Some, slice_get, inl, inr}
use Rattle.dpc_lists.specs.Lists.{nth}
use Rattle.dpc_model.specs.Fragments.{ReadsBelow}
use Rattle.dpc_model.specs.Actors.{role_of, inputs_of}
use Rattle.dpc_model.specs.declared.actors.Role.TheVariants.{Node as IsNode, Client as IsClient}
use Rattle.dpc_model.specs.declared.messages.Event.{Event}
use Rattle.dpc_model.specs.declared.plans.Plan.{Plan}
use Rattle.dpc_model.specs.declared.plans.StreamRef.{StreamRef}
use Rattle.dpc_model.specs.declared.plans.StreamRef.TheVariants.{Source, Frag}
use Rattle.dpc_model.specs.declared.scripts.Script.{Script}
use Rattle.node_model.specs.Nodes.{no_fragment}
use Rattle.world_model.specs.Worlds.{run}
use Rattle.world_model.specs.Schedules.{lockstep_journal, settling_phases}
use Rattle.world_model.specs.Steady.{OpensWell}
use Rattle.law_safety.proofs.Growing.{run-plan}
use Rattle.law_granting.specs.Taken.{port_of}
use Rattle.law_readers.specs.Settling.{CanSettle}
use Rattle.law_schedules.specs.Journals.{phases_in}
use Rattle.law_settling.specs.Rests.{RestsPast}
use Rattle.law_settling.proofs.Steadily.{rests-part}
use Rattle.law_settling.proofs.Sources.{reader-has-log}
use Rattle.law_settling.proofs.Onward.{cut-phases}
use Rattle.law_settling_readers.specs.Streams.{serving_phases}
use Rattle.law_settling_whole.proofs.Fragments.{IsBelow, HasAll, last-or-before, below-at, reads-below}
use Rattle.law_survivors.specs.Spared.{keeps_all_but_one}
use Rattle.law_survivors.specs.Finishing.{replicas_in, FinishedFrom, fed_phases, HaveAtMost, finished_by, AllFragmentsFinish}
use Rattle.law_survivors.proofs.Served.{lock-so-far, served-then}
use Rattle.law_survivors.proofs.Feeding.{fed-fragments-finish}

-- ---- phases

-- a fragment takes no more than 38 (R + 1) of them, R being the most replicas
enough : (m most : ℕ) → m ≤ 4 → m ≤ most → fed_phases most m ≤ settling_phases * (most + 1)
enough zero most low few = omega (arith, few)
enough (suc zero) most low few = omega (arith, few)
enough (suc (suc zero)) most low few = omega (arith, few)
enough (suc (suc (suc zero))) most low few = omega (arith, few)
enough (suc (suc (suc (suc zero)))) most low few = omega (arith, few)
enough (suc (suc (suc (suc (suc m))))) most low few = absurd (omega (arith, low))

pub begins-late : (first more b : ℕ) → first ≤ finished_by first more b
begins-late first more zero = omega arith
begins-late first more (suc b) = let low = begins-late first more b in omega (arith, low)

module _ (script : Script) (can : CanSettle script) (well : OpensWell script (lockstep_journal script)) (keeps : keeps_all_but_one script ≡ true) (most : ℕ) (few : HaveAtMost script.plan most) where
  abbrev pub by : ℕ → ℕ
  by b = finished_by (length script.phases + 8) (settling_phases * (most + 1)) b

  below : (b p g : ℕ) → slice_get (nth no_fragment script.plan.frags b).inputs p ≡ Some (Frag g) → g < b
  below b p g reads =
      let same : 0 + b ≡ b = omega arith in
      below-at b (nth no_fragment script.plan.frags b).inputs p (Frag g) (subst (λ (k : ℕ). ReadsBelow k (nth no_fragment script.plan.frags b).inputs) same (reads-below 0 b script.plan.frags can.plan.checked.sound.inputs)) reads

  -- the fragment behind those that have finished
  next-finished : (b : ℕ) → ((g : ℕ) → g < b → FinishedFrom script g (by b)) → FinishedFrom script b (by (suc b))
  next-finished b all done rest is far =
      let first = begins-late (length script.phases + 8) (settling_phases * (most + 1)) b in
      let short = enough (replicas_in script.plan b) most (few b).0 (few b).1 in
      fed-fragments-finish script can well keeps b (by b) most first (λ p g reads. ((few g).1, all g (below b p g reads))) done rest is (omega (arith, far, short))

  pub all-finished : (b f : ℕ) → f < b → FinishedFrom script f (by b)
  all-finished zero f low = absurd (omega (arith, low))
  all-finished (suc b) f low =
      elim (last-or-before f b low) [
        | inl same ↦ subst (λ (k : ℕ). FinishedFrom script k (by (suc b))) (sym same) (next-finished b (all-finished b))
        | inr before ↦ λ done rest is far. all-finished b f before done rest is (omega (arith, far))
      ]

  -- ---- clients

  module _ (x c : ℕ) (role : role_of script.plan x ≡ IsClient c) (done rest : List Event) (is : lockstep_journal script ≡ done ++ rest) where
    client-rests : (floor : ℕ) → RestsPast script (lockstep_journal script) x floor
    client-rests floor d more at far g b n role_n up =
        let clash : IsClient c ≡ IsNode g b = sym role ∙ ap (λ (pl : Plan). role_of pl x) (sym (run-plan script.plan d)) ∙ role_n in cc

    -- so many phases later each has its stream
    pub client-has : (b p : ℕ) (s : StreamRef) → by b + serving_phases most ≤ phases_in done → slice_get (inputs_of script.plan (role_of script.plan x)) p ≡ Some s → IsBelow b s → HasAll script.plan (run script.plan done) x p
    client-has b p (Source k) far reads before =
        let first = begins-late (length script.phases + 8) (settling_phases * (most + 1)) b in
        let read = reader-has-log script (lockstep_journal script) can (lock-so-far script can well) well done rest x p k (length script.phases + 1) is (omega arith) (client-rests (length script.phases + 1)) (omega (arith, far, first)) reads in
        record { port = read.port; there = read.there; bound = read.has.bound; sure = read.has.sure }
    client-has b p (Frag g) far reads before =
        let first = begins-late (length script.phases + 8) (settling_phases * (most + 1)) b in
        let cut = cut-phases (by b) done (omega (arith, far)) in
        let begins = cut.3 in
        let sum : phases_in done ≡ phases_in (cut.0 ++ cut.1) = ap phases_in cut.2 in
        let whole : lockstep_journal script ≡ (cut.0 ++ cut.1) ++ rest = is ∙ ap (λ (es : List Event). es ++ rest) cut.2 in
        let has = served-then script can well x p g (by b) most (record { there = reads; only = λ q at. can.once x q p (Frag g) at reads }) (few g).1 (all-finished b g before) (omega (arith, first)) cut.0 cut.1 rest whole (omega (arith, begins))
        (rests-part script (lockstep_journal script) (cut.0 ++ cut.1) rest x (phases_in cut.0) whole (client-rests (phases_in cut.0))) (omega (arith, far, begins, sum)) in
        record { port = has.port; there = ap (λ (es : List Event). port_of (run script.plan es) x p) cut.2 ∙ has.there; bound = has.has.bound; sure = has.has.sure }

pub fragments-finish : (script : Script) → AllFragmentsFinish script
fragments-finish script can well keeps most f few = all-finished script can well keeps most few (suc f) f (omega arith)
