-- How a data path is made, lost, and taken over from a snapshot, on the plain inputs and outputs.
use Rattle.std.specs.Prelude.{◌≡◌, ℕ, ◌*◌, ◌/◌, ◌<◌, ◌≤◌, Bool, if◌then◌else◌, List, [], map, length, drop, replicate, All}
use Rattle.dpc_model.specs.Due.{delay_of}
use Rattle.dpc_model.specs.Fragments.{serial, fragment_value}
use Rattle.dpc_model.specs.Inlets.{InletState, restarted_inlet, sess_of}
use Rattle.dpc_model.specs.Parts.{Inputs, done_in, Outputs}
use Rattle.dpc_model.specs.Reading.{stable_reader}
use Rattle.dpc_model.specs.Sessions.{Acked, no_session, opening_session, with_session_shut}
use Rattle.dpc_model.specs.declared.operators.OpSpec.{OpSpec}
use Rattle.dpc_model.specs.declared.plans.FragSpec.{FragSpec}
use Rattle.dpc_model.specs.declared.plans.Plan.{Plan}
use Rattle.dpc_model.specs.declared.tuples.Tuple.{Tuple}
use Rattle.fragment_mill.specs.Mills.{MillState, MillAfter}
use Rattle.node_model.specs.Mails.{Snap}
use Rattle.node_model.specs.Stands.{SnapValue}
use Rattle.sunion.specs.Laws.{inputs_anew}
use Rattle.pipeline.specs.Flowing.{PipelineValue, IsMillOf, StandsForData}

-- ---- made

-- what is set is as the plan has it for a fragment
pub record IsSetFor (plan : Plan) (f : FragSpec) (v : PipelineValue) : Type 0 where
  pub width : v.union.width ≡ plan.width
  pub buckets : v.union.buckets ≡ plan.end / plan.width
  pub delay : v.union.delay ≡ delay_of plan f
  pub marks : v.passing ≡ plan.passing

-- the output to so many readers, of which nothing was given: of a sender that serves from the opening, and of one that restarted
abbrev pub opened_outputs : ℕ → Bool → Outputs
opened_outputs readers serves = record { subs = replicate readers (if serves then opening_session else no_session); acks = replicate readers (0, 0); base = 0 }

abbrev pub restarted_outputs : ℕ → Outputs
restarted_outputs readers = record { subs = replicate readers no_session; acks = replicate readers (0, 0); base = 0 }

-- the inputs of so many ports, of which none has a session yet
abbrev pub restarted_inputs : ℕ → ℕ → Inputs
restarted_inputs ports inc = record { inlets = replicate ports (restarted_inlet (stable_reader [] 0) (sess_of inc 0)); stamps = []; cursor = 0; closed = [] }

-- ---- lost

-- nothing is held any more, but the number of each port's last session
abbrev pub lost_inputs : Inputs → Inputs
lost_inputs x = record { inlets = map (λ (i : InletState). restarted_inlet (stable_reader [] 0) i.sess) x.inlets; stamps = []; cursor = 0; closed = [] }

abbrev pub zeros_for : List Acked → List Acked
zeros_for acks = map (λ (_ : Acked). (0, 0)) acks

abbrev pub lost_outputs : Outputs → Outputs
lost_outputs o = record { subs = map with_session_shut o.subs; acks = zeros_for o.acks; base = 0 }

-- ---- snapshots

-- a snapshot stands for the plain one, which has the inputs themselves and a base within the output that they make
pub record StandsForSnapshot (ops : List OpSpec) (width : ℕ) (v : SnapValue MillState) (s : Snap) : Type 0 where
  pub cursor : v.cursor ≡ s.cursor
  pub counts : v.counts ≡ map length s.inputs
  pub mill : MillAfter v.mill (serial s.inputs) s.cursor
  pub of : IsMillOf ops width v.mill
  pub base : v.base ≡ s.base
  pub within : s.base ≤ length (fragment_value ops (serial s.inputs) (s.cursor * width))
  pub kept : v.kept ≡ drop s.base (fragment_value ops (serial s.inputs) (s.cursor * width))

-- the plain snapshot of inputs and outputs
abbrev pub snap_of : ℕ → Inputs → Outputs → Snap
snap_of width x o = record { cursor = x.cursor; inputs = done_in width x; base = o.base }

-- ---- taken over

-- the inputs are those of a snapshot, and each port has its last session
abbrev pub adopted_inputs : ℕ → Snap → Inputs → Inputs
adopted_inputs width s x = inputs_anew width s.cursor s.inputs x

abbrev pub adopted_outputs : Snap → Outputs → Outputs
adopted_outputs s o = record o { subs = map with_session_shut o.subs; base = s.base }

-- a snapshot whose inputs all lie below its cursor's bucket can be taken over, where nothing was acknowledged
pub record CanAdopt (ops : List OpSpec) (v : PipelineValue) (x : Inputs) (o : Outputs) (snapshot : SnapValue MillState) (s : Snap) : Type 0 where
  pub stands : StandsForData ops v x o
  pub snapshot_stands : StandsForSnapshot ops v.union.width snapshot s
  pub below : All (λ (ts : List Tuple). All (λ (t : Tuple). t.stime < s.cursor * v.union.width) ts) s.inputs
  pub unacked : o.acks ≡ zeros_for o.acks
