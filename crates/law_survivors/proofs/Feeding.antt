-- A fragment all of whose inputs have finished: its replicas recover no more, have whole inputs, and finish.
use Rattle.std.proofs.Common.{◌≡◌, ℕ, ◌+◌, ◌<◌, ◌≤◌, true, List, ◌++◌, length, sym, ap, subst, ◌∙◌, arith, Some, slice_get}
use Rattle.std.proofs.lemmas.List.{append_assoc}
use Rattle.dpc_lists.proofs.Somes.{some-same}
use Rattle.dpc_model.specs.Actors.{role_of, inputs_of}
use Rattle.dpc_model.specs.Ports.{Port}
use Rattle.dpc_model.specs.declared.actors.Role.TheVariants.{Node as IsNode}
use Rattle.dpc_model.specs.declared.messages.Event.{Event}
use Rattle.dpc_model.specs.declared.plans.StreamRef.{StreamRef}
use Rattle.dpc_model.specs.declared.plans.StreamRef.TheVariants.{Source, Frag}
use Rattle.dpc_model.specs.declared.scripts.Script.{Script}
use Rattle.node_model.specs.Nodes.{streams_of}
use Rattle.world_model.specs.Worlds.{home_of, run}
use Rattle.world_model.specs.Schedules.{lockstep_journal}
use Rattle.world_model.specs.Steady.{OpensWell}
use Rattle.law_granting.specs.Taken.{port_of}
use Rattle.law_readers.specs.Settling.{CanSettle}
use Rattle.law_schedules.specs.Journals.{phases_in}
use Rattle.law_settling.specs.Rests.{RestsPast}
use Rattle.law_settling.specs.Entered.{IsReplicaOf, AreWhole}
use Rattle.law_settling.proofs.Steadily.{rests-part}
use Rattle.law_settling.proofs.Sources.{reader-has-log}
use Rattle.law_settling.proofs.Firsts.{inputs-whole, longer-begins}
use Rattle.law_settling.proofs.Onward.{phases-add, cut-phases}
use Rattle.law_settling.proofs.ReplicasFinish.{resting-finish}
use Rattle.law_settling_readers.specs.Streams.{serving_phases}
use Rattle.law_survivors.specs.Spared.{keeps_all_but_one}
use Rattle.law_survivors.specs.Finishing.{replicas_in, FinishedFrom, IsFedFrom, fed_phases, FedFragmentsFinish}
use Rattle.law_survivors.proofs.Holding.{rests-once-whole}
use Rattle.law_survivors.proofs.Served.{lock-so-far, phase-is, served-then, holds-then}

module _ (script : Script) (can : CanSettle script) (well : OpensWell script (lockstep_journal script)) (keeps : keeps_all_but_one script ≡ true) (f from most : ℕ) (past : length script.phases + 8 ≤ from) (fed : IsFedFrom script f most from) where
  abbrev lock : List Event
  lock = lockstep_journal script

  abbrev late : length script.phases < from
  late = omega (arith, past)

  -- none of its replicas recovers past this phase
  abbrev rest_phase : ℕ
  rest_phase = from + serving_phases most + 3

  rests-late : (a r : ℕ) → role_of script.plan a ≡ IsNode f r → RestsPast script (lockstep_journal script) a (from + serving_phases most + 3)
  rests-late a r role done more is far g b n role_n up =
      let phase = phase-is script can well done more is in
      rests-once-whole script can well keeps a f r from (serving_phases most) role past (omega arith) (λ first mid rest at early long none. holds-then script can well a f r from most role late fed first mid rest at early long none) done more n is (omega (arith, far, phase)) up

  -- ---- they have whole inputs

  module _ (a r : ℕ) (role : role_of script.plan a ≡ IsNode f r) (done rest : List Event) (is : lockstep_journal script ≡ done ++ rest) (far : from + serving_phases most + 3 + serving_phases most ≤ phases_in done) where
    from-source : (i k : ℕ) (x : Port) → slice_get (inputs_of script.plan (role_of script.plan a)) i ≡ Some (Source k) → port_of (run script.plan done) a i ≡ Some x → x.inlet.held.bound ≡ script.plan.end
    from-source i k x reads port =
        let read = reader-has-log script lock can (lock-so-far script can well) well done rest a i k (from + serving_phases most + 3) is (omega (arith, past)) (rests-late a r role) (omega (arith, far)) reads in
        let same = some-same read.port x (sym read.there ∙ port) in
        sym (ap (λ (y : Port). y.inlet.held.bound) same) ∙ read.has.bound

    from-fragment : (i g : ℕ) (x : Port) → slice_get (streams_of (home_of script.plan (f, r))) i ≡ Some (Frag g) → slice_get (inputs_of script.plan (role_of script.plan a)) i ≡ Some (Frag g) → port_of (run script.plan done) a i ≡ Some x → x.inlet.held.bound ≡ script.plan.end
    from-fragment i g x there reads port =
        let c = cut-phases (from + serving_phases most + 3) done (omega (arith, far)) in
        let begins = c.3 in
        let whole : lockstep_journal script ≡ (c.0 ++ c.1) ++ rest = is ∙ ap (λ (es : List Event). es ++ rest) c.2 in
        let input = fed i g there in
        let rests : RestsPast script (c.0 ++ c.1) a (phases_in c.0) = subst (λ (v : ℕ). RestsPast script (c.0 ++ c.1) a v) (sym begins) (rests-part script lock (c.0 ++ c.1) rest a (from + serving_phases most + 3) whole (rests-late a r role)) in
        let sum : phases_in done ≡ phases_in (c.0 ++ c.1) = ap phases_in c.2 in
        let has = served-then script can well a i g from most (record { there = reads; only = λ q at. can.once a q i (Frag g) at reads }) input.0 input.1 late c.0 c.1 rest whole (omega (arith, begins)) rests (omega (arith, far, begins, sum)) in
        let same = some-same has.port x (sym has.there ∙ ap (λ (es : List Event). port_of (run script.plan es) a i) (sym c.2) ∙ port) in
        sym (ap (λ (y : Port). y.inlet.held.bound) same) ∙ has.has.bound

    from-stream : (i : ℕ) (s : StreamRef) (x : Port) → slice_get (streams_of (home_of script.plan (f, r))) i ≡ Some s → slice_get (inputs_of script.plan (role_of script.plan a)) i ≡ Some s → port_of (run script.plan done) a i ≡ Some x → x.inlet.held.bound ≡ script.plan.end
    from-stream i (Source k) x there reads port = from-source i k x reads port
    from-stream i (Frag g) x there reads port = from-fragment i g x there reads port

  whole-late : (done rest : List Event) → lockstep_journal script ≡ done ++ rest → from + serving_phases most + 3 + serving_phases most ≤ phases_in done → AreWhole script.plan (run script.plan done) f
  whole-late done rest is far a r n at = inputs-whole script.plan done f a r n can.plan at (λ i s x there reads port. from-stream a r at.role done rest is far i s x there reads port)

  -- ---- and finish

  pub fed-finish : FinishedFrom script f (from + fed_phases most (replicas_in script.plan f))
  fed-finish done rest is far a r n at =
      let m = replicas_in script.plan f in
      let floor = from + serving_phases most + 3 in
      let c = cut-phases (floor + serving_phases most) done (omega (arith, far)) in
      let begins = c.3 in
      let sum : phases_in done ≡ phases_in (c.0 ++ c.1) = ap phases_in c.2 in
      let split : lockstep_journal script ≡ c.0 ++ (c.1 ++ rest) = is ∙ ap (λ (es : List Event). es ++ rest) c.2 ∙ append_assoc c.0 c.1 rest in
      let wholes : (d more : List Event) → lockstep_journal script ≡ d ++ more → length c.0 ≤ length d → AreWhole script.plan (run script.plan d) f =
      (λ (d more : List Event) (here : lockstep_journal script ≡ d ++ more) (long : length c.0 ≤ length d).
      let extra = longer-begins c.0 d (c.1 ++ rest) more (sym split ∙ here) long in
      let add = phases-add c.0 extra.0 in
      let same = ap phases_in extra.1 in
      whole-late d more here (omega (arith, begins, add, same))) in
      resting-finish script lock can (lock-so-far script can well) well c.0 c.1 rest f floor split (omega (arith, past)) (λ b q role. rests-late b q role) (omega (arith, begins)) (omega (arith, far, begins, sum)) wholes a r n
      (subst (λ (es : List Event). IsReplicaOf script.plan (run script.plan es) f a r n) c.2 at)

pub fed-fragments-finish : (script : Script) → FedFragmentsFinish script
fed-fragments-finish script can well keeps f from most past fed = fed-finish script can well keeps f from most past fed
