-- Along a live run: from the eighth full phase on behind the last in which its reader may recover a port of a source has the whole of it.
use Rattle.std.proofs.Common.{◌≡◌, ℕ, ◌+◌, ◌<◌, ◌≤◌, true, List, ◌++◌, length, sym, ap, subst, ◌∙◌, arith, slice_get}
use Rattle.dpc_model.specs.Actors.{role_of, inputs_of}
use Rattle.dpc_model.specs.declared.messages.Event.{Event}
use Rattle.dpc_model.specs.declared.messages.Event.TheVariants.{Tick}
use Rattle.dpc_model.specs.declared.plans.Plan.{Plan}
use Rattle.dpc_model.specs.declared.plans.StreamRef.TheVariants.{Source}
use Rattle.dpc_model.specs.declared.scripts.Script.{Script}
use Rattle.world_model.specs.Worlds.{World, source_at, run}
use Rattle.world_model.specs.Schedules.{Progress, progress, may_follow, may, is_live_so_far}
use Rattle.world_model.specs.Steady.{OpensWell}
use Rattle.law_granting.specs.Taken.{port_of}
use Rattle.law_granting.proofs.First.{source-below}
use Rattle.law_schedules.specs.Journals.{Ticks}
use Rattle.law_schedules.proofs.Journals.{progress-run}
use Rattle.law_schedules.proofs.Timely.{ticks-so}
use Rattle.law_readers.specs.Settling.{CanSettle}
use Rattle.law_settling.specs.Rests.{RestsAt, RestsPast}
use Rattle.law_settling.proofs.Opening.{IsAllUp}
use Rattle.law_settling.proofs.Logs.{run-sources}
use Rattle.law_settling.proofs.Along.{IsRunning, running-along}
use Rattle.law_settling.proofs.Steadily.{rests-along}
use Rattle.law_settling.proofs.Lines.{IsReading}
use Rattle.law_settling.proofs.Standing.{Stand, stand-of}
use Rattle.law_settling.proofs.Fresh.{IsSeen, HasWhole}
use Rattle.law_settling.proofs.Stages.{Stage, stages-lead}
use Rattle.law_settling.proofs.Travels.{arrives}
use Rattle.law_settling.proofs.Ports.{port-there, clocked-of}

pub may-of : (script : Script) (es : List Event) (e : Event) → may_follow script (progress script es) e ≡ true → may script es e ≡ true
unfolding may
may-of script es e h = h

-- a state as a port sees it whose reader does not recover
pub seen-of : (script : Script) (x p s k : ℕ) → CanSettle script → IsReading script.plan x p s k → (z : Progress) → IsRunning script z → RestsAt z.world x → IsSeen script x p s k z
seen-of script x p s k can line z good rests =
    let w = run script.plan good.events in
    let world : z.world ≡ w = ap (λ (y : Progress). y.world) good.is ∙ progress-run script good.events in
    let up = subst IsAllUp world good.standing.up in
    let calm = subst (λ (v : World). RestsAt v x) world rests in
    let sources = run-sources script.plan good.events in
    let below = source-below script.plan s s line.source in
    let low : s < length z.world.sources = subst (λ (v : World). s < length v.sources) (sym world) (omega (arith, sources, below)) in
    let ended : (source_at w s).bound ≡ script.plan.end = sym (ap (λ (v : World). (source_at v s).bound) world) ∙ good.standing.whole s low in
    let stand = stand-of script.plan good.events x p s k can.plan line up calm ended in
    let port = port-there w stand.most x p (Source s) stand.fine up (ap (λ (pl : Plan). slice_get (inputs_of pl (role_of pl x)) p) stand.of_plan ∙ line.port.there) in
    record {
      stand = subst (λ (v : World). Stand script.plan x p s k v) (sym world) stand;
      at = good.standing.at;
      clocked = λ a now may_it.
          let here : may_follow script (progress script good.events) (Tick a now) ≡ true = subst (λ (y : Progress). may_follow script y (Tick a now) ≡ true) good.is may_it in
          subst (λ (v : World). Ticks v a now) (sym world) (ticks-so script good.events a now (clocked-of script can) good.live (may-of script good.events (Tick a now) here));
      port = port.0;
      there = ap (λ (v : World). port_of v x p) world ∙ port.1;
    }

-- ---- along the journal

module _ (script : Script) (x p s k floor : ℕ) (events : List Event) (can : CanSettle script) (line : IsReading script.plan x p s k) (live : is_live_so_far script events ≡ true) (well : OpensWell script events)
    (past : length script.phases < floor) (rests : RestsPast script events x floor) where
  seen-at : (done rest : List Event) → events ≡ done ++ rest → floor < (progress script done).phase → IsSeen script x p s k (progress script done)
  seen-at done rest is far = seen-of script x p s k can line (progress script done) (running-along script events live well done rest is (omega (arith, past, far))) (rests-along script events x floor live rests done rest is far)

  -- from the ninth phase on behind it the whole is there
  pub whole-late : (done rest : List Event) → events ≡ done ++ rest → floor + 9 ≤ (progress script done).phase → HasWhole script x p (progress script done)
  whole-late done rest is far =
      arrives script events live well (IsSeen script x p s k) (Stage script x p s k) 8 floor (stages-lead script x p s k) past (λ done rest at late. seen-at done rest at late) (λ z seen. (seen.port, seen.there)) done rest is (omega (arith, far))
