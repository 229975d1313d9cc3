-- Who reads a finished fragment of the one-thread journal, and does not recover for so many phases, has its stream at their end.
use Rattle.std.proofs.Common.{◌≡◌, ℕ, ◌+◌, ◌<◌, ◌≤◌, true, List, [], ◌++◌, length, sym, ap, subst, ◌∙◌, arith, Option, Some, slice_get}
use Rattle.std.proofs.lemmas.List.{append-nil, append_assoc, append_cancel_left}
use Rattle.dpc_lists.proofs.Somes.{some-same}
use Rattle.dpc_model.specs.Fragments.{ideal}
use Rattle.dpc_model.specs.Actors.{role_of, inputs_of}
use Rattle.dpc_model.specs.Ports.{Port}
use Rattle.dpc_model.specs.declared.actors.Role.{Role}
use Rattle.dpc_model.specs.declared.actors.Role.TheVariants.{Node as IsNode}
use Rattle.dpc_model.specs.declared.messages.Event.{Event}
use Rattle.dpc_model.specs.declared.plans.Plan.{Plan}
use Rattle.dpc_model.specs.declared.plans.StreamRef.{StreamRef}
use Rattle.dpc_model.specs.declared.plans.StreamRef.TheVariants.{Frag}
use Rattle.dpc_model.specs.declared.scripts.Script.{Script}
use Rattle.dpc_model.specs.declared.tuples.Tuple.{Tuple}
use Rattle.node_model.specs.Nodes.{PlainNode, streams_of}
use Rattle.world_model.specs.Worlds.{home_of, slot_of, run}
use Rattle.world_model.specs.Schedules.{progress, is_live_so_far, lockstep_journal}
use Rattle.world_model.specs.Steady.{OpensWell}
use Rattle.law_safety.proofs.Growing.{run-plan}
use Rattle.law_safety.proofs.Numbering.{home-inputs}
use Rattle.law_granting.specs.Taken.{node_port, role_port, port_of}
use Rattle.law_readers.specs.Newest.{IsPortOf}
use Rattle.law_readers.specs.Settling.{CanSettle}
use Rattle.law_schedules.specs.Journals.{phases_in}
use Rattle.law_schedules.proofs.Journals.{live-far, prefix-live, phases-counted}
use Rattle.law_schedules.proofs.Lockstep.{lock-live}
use Rattle.law_settling.specs.Rests.{RestsPast}
use Rattle.law_settling.proofs.Steadily.{well-part}
use Rattle.law_settling.proofs.Firsts.{longer-begins}
use Rattle.law_settling.proofs.Onward.{phases-add}
use Rattle.law_settling_readers.specs.Streams.{AreFinished, PortHasStream, serving_phases}
use Rattle.law_settling_readers.proofs.Laws.{longer-then, resting-readers-law}
use Rattle.law_lockstep.proofs.Heard.{lock-hears}
use Rattle.law_survivors.specs.Spared.{RecoversNot, HoldsWhole}
use Rattle.law_survivors.specs.Finishing.{replicas_in, FinishedFrom, IsFedFrom}

module _ (script : Script) (can : CanSettle script) (well : OpensWell script (lockstep_journal script)) where
  abbrev lock : List Event
  lock = lockstep_journal script

  pub lock-so-far : is_live_so_far script (lockstep_journal script) ≡ true
  lock-so-far = live-far script lock (lock-live script)

  pub phase-is : (done rest : List Event) → lockstep_journal script ≡ done ++ rest → (progress script done).phase ≡ phases_in done
  phase-is done rest is = phases-counted script done (prefix-live script done rest (subst (λ (es : List Event). is_live_so_far script es ≡ true) is lock-so-far))

  -- ---- a reader that does not recover from a point on

  module _ (x p g from most : ℕ) (port : IsPortOf script.plan x p (Frag g)) (few : replicas_in script.plan g ≤ most) (finished : FinishedFrom script g from) (late : length script.phases < from)
      (before mid rest : List Event) (is : lockstep_journal script ≡ (before ++ mid) ++ rest) (past : from ≤ phases_in before) (rests : RestsPast script (before ++ mid) x (phases_in before)) where
    finished-on : (done more : List Event) → before ++ mid ≡ done ++ more → length before ≤ length done → AreFinished script.plan (run script.plan done) g
    finished-on done more at long =
        let extra = longer-begins before done mid more at long in
        let sum = phases-add before extra.0 in
        let same = ap phases_in extra.1 in
        finished done (more ++ rest) (is ∙ ap (λ (es : List Event). es ++ rest) at ∙ append_assoc done more rest) (omega (arith, past, sum, same))

    -- has the stream so many phases later
    pub served-then : phases_in before + serving_phases most ≤ phases_in (before ++ mid) → PortHasStream script.plan (run script.plan (before ++ mid)) x p (Frag g)
    served-then far =
        let events = before ++ mid in
        let live = prefix-live script events rest (subst (λ (es : List Event). is_live_so_far script es ≡ true) is lock-so-far) in
        let hears = lock-hears script can well events rest x (phases_in before) is (omega (arith, late, past)) rests in
        resting-readers-law script events can live (well-part script lock events rest is well) before mid [] g x p (ap (λ (es : List Event). before ++ es) (sym (append-nil mid))) (omega (arith, late, past)) rests hears finished-on (omega (arith, few, far)) port

  -- ---- a replica that does not recover over a piece

  module _ (a f r from most : ℕ) (role : role_of script.plan a ≡ IsNode f r) (late : length script.phases < from) (fed : IsFedFrom script f most from) where
    -- what it reads
    pub reads-is : (p g : ℕ) → IsPortOf script.plan a p (Frag g) → slice_get (streams_of (home_of script.plan (f, r))) p ≡ Some (Frag g)
    reads-is p g port = ap (λ (ss : List StreamRef). slice_get ss p) (sym (home-inputs (home_of script.plan (f, r)) r)) ∙ ap (λ (o : Role). slice_get (inputs_of script.plan o) p) (sym role) ∙ port.there

    rests-between : (first mid : List Event) → RecoversNot script a first mid → RestsPast script (first ++ mid) a (phases_in first)
    rests-between first mid none done more at past g b n role_n up =
        let extra = longer-begins first done mid more at (longer-then first done mid more at past) in
        let piece : mid ≡ extra.0 ++ more = append_cancel_left first mid (extra.0 ++ more) (at ∙ ap (λ (es : List Event). es ++ more) extra.1 ∙ append_assoc first extra.0 more) in
        none extra.0 more n piece (subst (λ (es : List Event). (slot_of (run script.plan es) a).node ≡ Some n) extra.1 up)

    -- holds whole streams at its end, where that is long enough
    pub holds-then : (first mid rest : List Event) → lockstep_journal script ≡ first ++ (mid ++ rest) → from ≤ (progress script first).phase → (progress script first).phase + serving_phases most ≤ (progress script (first ++ mid)).phase → RecoversNot script a first mid →
        HoldsWhole script.plan (run script.plan (first ++ mid)) a
    holds-then first mid rest is past far none p g n q port up there =
        let w = run script.plan (first ++ mid) in
        let whole : lockstep_journal script ≡ (first ++ mid) ++ rest = is ∙ sym (append_assoc first mid rest) in
        let phase_first = phase-is first (mid ++ rest) is in
        let phase_last = phase-is (first ++ mid) rest whole in
        let input = fed p g (reads-is p g port) in
        let has = served-then a p g from most port input.0 input.1 late first mid rest whole (omega (arith, past, phase_first)) (rests-between first mid none) (omega (arith, far, phase_first, phase_last)) in
        let role_w : role_of w.plan a ≡ IsNode f r = ap (λ (pl : Plan). role_of pl a) (run-plan script.plan (first ++ mid)) ∙ role in
        let at : port_of w a p ≡ Some q = ap (λ (o : Role). role_port w a p o) role_w ∙ ap (λ (o : Option PlainNode). node_port p o) up ∙ there in
        let same : has.port ≡ q = some-same has.port q (sym has.there ∙ at) in
        let count : length q.inlet.held.stable ≡ length (ideal script.plan (Frag g)) = ap (λ (y : Port). length y.inlet.held.stable) (sym same) ∙ ap {B = ℕ} (λ (ts : List Tuple). length ts) has.has.stable in
        omega (arith, count)
