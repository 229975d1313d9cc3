-- The replicas of a fragment that reads sources alone have whole inputs once the sources are read, so they finish.
use Rattle.std.proofs.Common.{◌≡◌, ℕ, suc, ◌+◌, ◌≤◌, Bool, true, ◌==◌, List, [], ◌∷◌, ◌++◌, length, refl, sym, ap, ◌∙◌, arith, Option, Some, slice_get}
use Rattle.std.specs.Prelude.{IsTrue}
use Rattle.std.proofs.lemmas.Option.{slice_get_within}
use Rattle.dpc_lists.specs.Lists.{list_all}
use Rattle.dpc_model.specs.Actors.{role_of, inputs_of}
use Rattle.dpc_model.specs.Ports.{Port}
use Rattle.dpc_model.specs.declared.actors.Role.{Role}
use Rattle.dpc_model.specs.declared.actors.Role.TheVariants.{Node as IsNode}
use Rattle.dpc_model.specs.declared.messages.Event.{Event}
use Rattle.dpc_model.specs.declared.plans.Plan.{Plan}
use Rattle.dpc_model.specs.declared.plans.StreamRef.{StreamRef}
use Rattle.dpc_model.specs.declared.scripts.Script.{Script}
use Rattle.node_model.specs.Nodes.{PlainNode, streams_of}
use Rattle.world_model.specs.Worlds.{home_of, run}
use Rattle.world_model.specs.Schedules.{is_live, settling_phases}
use Rattle.world_model.specs.Steady.{IsSteady, OpensWell}
use Rattle.law_safety.specs.Plans.{IsCheckedPlan}
use Rattle.dpc_lists.proofs.Truths.{both-of, eq-test}
use Rattle.dpc_lists.proofs.Elements.{some-there}
use Rattle.dpc_lists.proofs.Somes.{some-same}
use Rattle.law_safety.proofs.Numbering.{home-inputs}
use Rattle.law_safety.proofs.Happening.{node-here}
use Rattle.law_safety.proofs.Law.{run-good}
use Rattle.law_granting.specs.Taken.{node_port, role_port, port_of}
use Rattle.law_schedules.specs.Journals.{phases_in}
use Rattle.law_readers.specs.Settling.{CanSettle}
use Rattle.law_settling.specs.Read.{reading_phases}
use Rattle.law_settling.specs.Finished.{has_whole_inputs}
use Rattle.law_settling.specs.Entered.{IsReplicaOf, AreWhole}
use Rattle.law_settling.specs.Firsts.{ReadsSourcesOnly, FirstFragmentsFinish}
use Rattle.law_settling.proofs.Finishing.{many-ports}
use Rattle.law_settling.proofs.Sources.{sources-read}
use Rattle.law_settling.proofs.Onward.{phases-add}
use Rattle.law_settling.proofs.ReplicasFinish.{replicas-finish}

-- all pass a test that each one passes
all-get : (test : Port → Bool) (xs : List Port) → ((i : ℕ) (x : Port) → slice_get xs i ≡ Some x → test x ≡ true) → list_all test xs ≡ true
all-get test [] h = refl
all-get test (x ∷ xs) h = both-of (test x) (list_all test xs) (h 0 x refl) (all-get test xs (λ i y e. h (suc i) y e))

-- of two beginnings of one list the longer one begins with the other
pub longer-begins : (one done more_1 more_2 : List Event) → one ++ more_1 ≡ done ++ more_2 → length one ≤ length done → (extra : List Event) × (done ≡ one ++ extra)
longer-begins [] done more_1 more_2 e long = (done, refl)
longer-begins (x ∷ one) [] more_1 more_2 e long = absurd (omega (arith, long))
longer-begins (x ∷ one) (y ∷ done) more_1 more_2 e long =
    let head : x ≡ y = cc in
    let tail : one ++ more_1 ≡ done ++ more_2 = cc in
    let rest = longer-begins one done more_1 more_2 tail (omega (arith, long)) in
    (rest.0, ap (λ (z : Event). z ∷ done) (sym head) ∙ ap (λ (es : List Event). x ∷ es) rest.1)

-- a replica whose ports all reach the end of the run has whole inputs
pub inputs-whole : (plan : Plan) (done : List Event) (f a r : ℕ) (n : PlainNode) → IsCheckedPlan plan → IsReplicaOf plan (run plan done) f a r n →
    ((i : ℕ) (s : StreamRef) (x : Port) → slice_get (streams_of (home_of plan (f, r))) i ≡ Some s → slice_get (inputs_of plan (role_of plan a)) i ≡ Some s → port_of (run plan done) a i ≡ Some x → x.inlet.held.bound ≡ plan.end) → IsTrue (has_whole_inputs plan n)
inputs-whole plan done f a r n checked at ends = all-get (λ (p : Port). p.inlet.held.bound == plan.end) n.ports (λ i x there. eq-test x.inlet.held.bound plan.end (by-port i x there))
  where
    by-port : (i : ℕ) (x : Port) → slice_get n.ports i ≡ Some x → x.inlet.held.bound ≡ plan.end
    by-port i x there =
        let w = run plan done in
        let g = run-good plan done checked in
        let role_w : role_of w.plan a ≡ IsNode f r = ap (λ (pl : Plan). role_of pl a) g.of_plan ∙ at.role in
        let good = node-here w (1 + length done) a f r n g.fine role_w at.up in
        let many : length n.ports ≡ length (streams_of (home_of plan (f, r))) = many-ports w.plan n.grants.inc (1 + length done) (streams_of (home_of w.plan (f, r))) n.ports good.orderly.ports ∙ ap (λ (pl : Plan). length (streams_of (home_of pl (f, r)))) g.of_plan in
        let low = slice_get_within n.ports i x there in
        let s = some-there (streams_of (home_of plan (f, r))) i (omega (arith, low, many)) in
        let reads : slice_get (inputs_of plan (role_of plan a)) i ≡ Some s.0 = ap (λ (role : Role). slice_get (inputs_of plan role) i) at.role ∙ ap (λ (ss : List StreamRef). slice_get ss i) (home-inputs (home_of plan (f, r)) r) ∙ s.1 in
        let port : port_of w a i ≡ slice_get n.ports i = ap (λ (role : Role). role_port w a i role) role_w ∙ ap (λ (o : Option PlainNode). node_port i o) at.up in
        ends i s.0 x s.1 reads (port ∙ there)

module _ (script : Script) (events : List Event) (f : ℕ) (can : CanSettle script) (lives : is_live script events ≡ true) (well : OpensWell script events) (steady : IsSteady script events) (only : ReadsSourcesOnly script.plan f) where
  -- its replicas have whole inputs
  whole-inputs : (done more : List Event) → events ≡ done ++ more → length script.phases + settling_phases + reading_phases + 1 ≤ phases_in done → AreWhole script.plan (run script.plan done) f
  whole-inputs done more is late a r n at =
      inputs-whole script.plan done f a r n can.plan at (λ i s x there reads port.
      let k = only i s there in
      let read = sources-read script events can lives well steady done more is late a i k.0 (reads ∙ ap {B = Option StreamRef} (λ (u : StreamRef). Some u) k.1) in
      let same = some-same read.port x (sym read.there ∙ port) in
      sym (ap (λ (p : Port). p.inlet.held.bound) same) ∙ read.has.bound)

pub first-fragments-finish : (script : Script) (events : List Event) → FirstFragmentsFinish script events
first-fragments-finish script events can lives well steady before mid rest f is only late far =
    replicas-finish script events can lives well steady before mid rest f is (omega (arith, late)) far (λ done more at long.
    let extra = longer-begins before done (mid ++ rest) more (sym is ∙ at) long in
    let sum = phases-add before extra.0 in
    let same = ap phases_in extra.1 in
    whole-inputs script events f can lives well steady only done more at (omega (arith, late, sum, same)))
