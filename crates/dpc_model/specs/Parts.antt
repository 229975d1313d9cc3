-- The parts of a node, as the contracts of each part see them: its inputs, its output, and what it knows of others.
use Rattle.std.specs.Prelude.{ℕ, ◌+◌, ◌*◌, ◌≤◌, Bool, not, ◌&&◌, ◌==◌, if◌then◌else◌, List, ◌++◌, map, length, drop, Option, Some, None, All}
use Rattle.dpc_lists.specs.Lists.{is_nil}
use Rattle.dpc_model.specs.Streams.{cut, InOrder}
use Rattle.dpc_model.specs.Operators.{between, all_of}
use Rattle.dpc_model.specs.Reading.{Reader}
use Rattle.dpc_model.specs.Fragments.{serial}
use Rattle.dpc_model.specs.Engines.{Value}
use Rattle.dpc_model.specs.Inlets.{InletState}
use Rattle.dpc_model.specs.Due.{Stamps}
use Rattle.dpc_model.specs.Replicas.{Watch}
use Rattle.dpc_model.specs.Granting.{Grants}
use Rattle.dpc_model.specs.Sessions.{Acked, Shown}
use Rattle.dpc_model.specs.declared.sessions.Sub.{Sub}
use Rattle.dpc_model.specs.declared.tuples.Tuple.{Tuple}
use Rattle.dpc_model.specs.declared.tuples.Tagged.{Tagged}

-- ---- the inputs

-- the inlet of each port, the stamps, the first bucket that is not processed stably, and the buckets closed from it on
pub record Inputs : Type 0 where
  pub inlets : List InletState
  pub stamps : Stamps
  pub cursor : ℕ
  pub closed : List (List Tagged)

-- each port's stable tuples are in order of time
abbrev pub AreInOrder : Inputs → Type 0
AreInOrder x = All (λ (i : InletState). InOrder i.held.stable) x.inlets

-- no port holds a tentative tuple below its bound
abbrev pub ArePastBounds : Inputs → Type 0
ArePastBounds x = All (λ (i : InletState). All (λ (t : Tuple). i.held.bound ≤ t.stime) i.held.tentative) x.inlets

-- the frontier: the first bucket that is neither processed nor closed
abbrev pub frontier_of : Inputs → ℕ
frontier_of x = x.cursor + length x.closed

-- the stable tuples below the cursor's bucket, by port
abbrev pub done_in : ℕ → Inputs → List (List Tuple)
done_in width x = map (λ (i : InletState). cut i.held.stable (x.cursor * width)) x.inlets

-- the inputs that were processed stably, and with those of the closed buckets
abbrev pub processed : ℕ → Inputs → List Tagged
processed width x = serial (done_in width x)

abbrev pub processed_and_closed : ℕ → Inputs → List Tagged
processed_and_closed width x = processed width x ++ all_of x.closed

-- the tuples of bucket k at one port: the stable ones and then the tentative ones
abbrev pub bucket_at : ℕ → ℕ → Reader → List Tuple
bucket_at width k r = between (k * width) ((k + 1) * width) (r.stable ++ r.tentative)

-- bucket k as the ports hold it
abbrev pub bucket_held : ℕ → List Reader → ℕ → List Tagged
bucket_held width ports k = serial (map (bucket_at width k) ports)

-- ---- the output

-- a stream as it stands: its stable tuples and how far they go, the tentative ones, and how far those are told to go
pub record Stream : Type 0 where
  pub stable : List Tuple
  pub bound : ℕ
  pub tentative : List Tuple
  pub passed : Option ℕ

-- what is made of inputs, where the plan is passing or isn't
abbrev pub stream_by : Value → ℕ → Bool → Inputs → Stream
stream_by value width passing x =
    let stable = value (processed width x) (x.cursor * width) in
    record {
      stable = stable;
      bound = x.cursor * width;
      tentative = drop (length stable) (value (processed_and_closed width x) (frontier_of x * width));
      passed = if passing && not (is_nil x.closed) then Some (frontier_of x * width) else None;
    }

-- by reader its session and what it acknowledged; and from which tuple on the sender can send
pub record Outputs : Type 0 where
  pub subs : List Sub
  pub acks : List Acked
  pub base : ℕ

-- what a reader is shown of a stream
abbrev pub shown_of : Stream → ℕ → Bool → Shown
shown_of s b stable_now =
    record {
      stable = s.stable;
      bound = if s.bound == 0 then None else Some (s.bound, length s.stable);
      tentative = s.tentative;
      passed = s.passed;
      base = b;
      is_stable = stable_now;
    }

-- ---- the neighbours

-- the senders of one port's stream: the replica that the port reads, what is known of each, and the ticks since the session was opened
pub record Upstream : Type 0 where
  pub chosen : ℕ
  pub watches : List Watch
  pub ticks : ℕ

-- the senders by port, asks and promises, what is known of each replica of the own fragment, and the number of recoveries begun
pub record Neighbours : Type 0 where
  pub upstreams : List Upstream
  pub grants : Grants
  pub peers : List Watch
  pub tries : ℕ
