-- Readers that have a whole stream.
use Rattle.std.specs.Prelude.{◌≡◌, ℕ, ◌+◌, ◌*◌, ◌<◌, ◌≤◌, false, IsTrue, List, ◌∷◌, ◌++◌, length, Some}
use Rattle.dpc_lists.specs.Lists.{nth}
use Rattle.dpc_model.specs.Fragments.{ideal}
use Rattle.dpc_model.specs.Reading.{Reader, is_sure}
use Rattle.dpc_model.specs.Actors.{role_of, senders_of, readers_of}
use Rattle.dpc_model.specs.Ports.{Port}
use Rattle.dpc_model.specs.Sessions.{no_session, tally_of}
use Rattle.dpc_model.specs.declared.actors.Role.TheVariants.{Node as IsNode}
use Rattle.dpc_model.specs.declared.messages.Event.{Event}
use Rattle.dpc_model.specs.declared.messages.Event.TheVariants.{Tick}
use Rattle.dpc_model.specs.declared.plans.Plan.{Plan}
use Rattle.dpc_model.specs.declared.plans.StreamRef.{StreamRef}
use Rattle.dpc_model.specs.declared.plans.StreamRef.TheVariants.{Frag}
use Rattle.dpc_model.specs.declared.scripts.Script.{Script}
use Rattle.node_model.specs.Nodes.{PlainNode, no_fragment}
use Rattle.world_model.specs.Worlds.{World, home_of, slot_of, happens, run}
use Rattle.world_model.specs.Schedules.{is_live_so_far, is_live, settling_phases}
use Rattle.world_model.specs.Steady.{TickIsHeard, IsSteady, OpensWell}
use Rattle.law_granting.specs.Taken.{port_of}
use Rattle.law_schedules.specs.Journals.{phases_in}
use Rattle.law_readers.specs.Newest.{IsPortOf}
use Rattle.law_readers.specs.Settling.{CanSettle}
use Rattle.law_settling.specs.Rests.{RestsPast}
use Rattle.law_settling.specs.Finished.{IsFinished}
use Rattle.law_settling.specs.Entered.{IsReplicaOf}

-- a reader has the whole failure-free stream up to the end, and nothing that may be corrected
pub record HasStream (plan : Plan) (s : StreamRef) (r : Reader) : Type 0 where
  pub stable : r.stable ≡ ideal plan s
  pub bound : r.bound ≡ plan.end
  pub sure : IsTrue (is_sure r)

-- a port that misses no batch took as many batches of its session as the replica that it reads sent in it; its reader has this place at the replica
pub record TookAllOf (plan : Plan) (w : World) (x p f : ℕ) (q : Port) (r : ℕ) (n : PlainNode) : Type 0 where
  pub port : port_of w x p ≡ Some q
  pub whole : q.inlet.broken ≡ false
  pub role : role_of plan (nth 0 (senders_of plan (Frag f)) q.chosen) ≡ IsNode f r
  pub up : (slot_of w (nth 0 (senders_of plan (Frag f)) q.chosen)).node ≡ Some n
  pub place : ℕ
  pub low : place < length (readers_of plan (Frag f))
  pub reader : nth 0 (readers_of plan (Frag f)) place ≡ x
  pub many : ℕ
  pub tally : tally_of (nth no_session n.subs place) ≡ Some (q.inlet.sess, many)
  pub all : many ≤ q.inlet.next

-- where the replica has finished, at whatever point of a live journal, such a port has the stream
abbrev pub TakersHaveAll : Script → List Event → Type 0
TakersHaveAll script events =
    CanSettle script → IsTrue (is_live script events) → (done rest : List Event) → events ≡ done ++ rest → (x p f r : ℕ) (q : Port) (n : PlainNode) → IsPortOf script.plan x p (Frag f) →
    TookAllOf script.plan (run script.plan done) x p f q r n → IsFinished (home_of script.plan (f, r)) n → HasStream script.plan (Frag f) q.inlet.held

-- ---- readers of a fragment all of whose replicas have finished

-- each replica that is up has finished
abbrev pub AreFinished : Plan → World → ℕ → Type 0
AreFinished plan w f = (a r : ℕ) (n : PlainNode) → IsReplicaOf plan w f a r n → IsFinished (home_of plan (f, r)) n

pub record PortHasStream (plan : Plan) (w : World) (x p : ℕ) (s : StreamRef) : Type 0 where
  pub port : Port
  pub there : port_of w x p ≡ Some port
  pub has : HasStream plan s port.inlet.held

-- so many phases are enough for a reader of m replicas
abbrev pub serving_phases : ℕ → ℕ
serving_phases m = 3 * m + 12

-- past the phase with this number no tick of the reader is the third since the last beat of one of several replicas that it reads
abbrev pub HearsPast : Script → List Event → ℕ → ℕ → Type 0
HearsPast script events x floor = (done more : List Event) (now : ℕ) → events ≡ done ++ Tick x now ∷ more → floor < phases_in done → TickIsHeard (happens (run script.plan done) (Tick x now)) (Tick x now)

-- where all replicas of a fragment have finished from some point on, a port that reads it has its whole stream 3R + 12 phases later, if its reader does not recover
-- behind the point's phase, and hears the beats: others may recover, and the run need be live so far alone
abbrev pub RestingReaderHasStream : Script → List Event → Type 0
RestingReaderHasStream script events =
    CanSettle script → IsTrue (is_live_so_far script events) → OpensWell script events →
    (before mid rest : List Event) (f x p : ℕ) → events ≡ before ++ (mid ++ rest) → length script.phases < phases_in before → RestsPast script events x (phases_in before) → HearsPast script events x (phases_in before) →
    ((done more : List Event) → events ≡ done ++ more → length before ≤ length done → AreFinished script.plan (run script.plan done) f) →
    phases_in before + serving_phases (nth no_fragment script.plan.frags f).replicas ≤ phases_in (before ++ mid) →
    IsPortOf script.plan x p (Frag f) → PortHasStream script.plan (run script.plan (before ++ mid)) x p (Frag f)

-- where all replicas of a fragment have finished from some point on, past the last recovery, each port that reads it has its whole stream 3R + 12 phases later
abbrev pub ReadersHaveStreams : Script → List Event → Type 0
ReadersHaveStreams script events =
    CanSettle script → IsTrue (is_live script events) → OpensWell script events → IsSteady script events →
    (before mid rest : List Event) (f : ℕ) → events ≡ before ++ (mid ++ rest) → length script.phases + settling_phases < phases_in before →
    ((done more : List Event) → events ≡ done ++ more → length before ≤ length done → AreFinished script.plan (run script.plan done) f) →
    phases_in before + serving_phases (nth no_fragment script.plan.frags f).replicas ≤ phases_in (before ++ mid) →
    (x p : ℕ) → IsPortOf script.plan x p (Frag f) → PortHasStream script.plan (run script.plan (before ++ mid)) x p (Frag f)
