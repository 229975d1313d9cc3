-- The failure-free streams bucket by bucket, the mills that give them, and a text that is under way to a sink.
use Rattle.std.specs.Prelude.{◌≡◌, ℕ, ◌+◌, ◌*◌, List, ◌++◌, map, length, Option, Some, None, slice_get}
use Rattle.dpc_edge.specs.Edges.{Edge, Took, TookPart, TookSome}
use Rattle.dpc_lists.specs.Lists.{range_with_len}
use Rattle.dpc_model.specs.Streams.{cut}
use Rattle.dpc_model.specs.Words.{text_of}
use Rattle.dpc_model.specs.Engines.{from_time, nameless}
use Rattle.dpc_model.specs.Fragments.{serial, cut_tagged, ideal}
use Rattle.dpc_model.specs.declared.tuples.Tuple.{Tuple}
use Rattle.dpc_model.specs.declared.plans.ClientSpec.{ClientSpec}
use Rattle.dpc_model.specs.declared.plans.FragSpec.{FragSpec}
use Rattle.dpc_model.specs.declared.plans.Plan.{Plan}
use Rattle.dpc_model.specs.declared.plans.StreamRef.{StreamRef}
use Rattle.dpc_model.specs.declared.plans.StreamRef.TheVariants.{Frag}
use Rattle.dpc_model.specs.Sessions.{stable_items}
use Rattle.report.specs.Text.{item_words, stream_lines}
use Rattle.fragment_mill.specs.Mills.{MillState, MillAfter, specs_of}
use Rattle.ideal_run.specs.declared.faults.WriteFault.{WriteFault}
use Rattle.ideal_run.specs.declared.faults.WriteFault.TheVariants as fault

-- bucket k of a failure-free stream
abbrev pub bucket_of : Plan → ℕ → StreamRef → List Tuple
bucket_of plan k s = cut (from_time (k * plan.width) (ideal plan s)) ((k + 1) * plan.width)

-- those of the first fragments
abbrev pub buckets_before : Plan → ℕ → ℕ → List (List Tuple)
buckets_before plan k frag = map (λ f. bucket_of plan k (Frag f)) (range_with_len 0 frag)

-- a mill of these operators that took the failure-free inputs below bucket k
pub record IsMillAt (plan : Plan) (f : FragSpec) (k : ℕ) (m : MillState) : Type 0 where
  pub width : m.width ≡ plan.width
  pub operators : specs_of m.stages ≡ nameless f.ops
  pub after : MillAfter m (cut_tagged (k * plan.width) (serial (map (ideal plan) f.inputs))) k

-- so it is of the fragment of a number
abbrev pub IsMillOf : Plan → ℕ → ℕ → MillState → Type 0
IsMillOf plan k frag m = (f : FragSpec) → slice_get plan.frags frag ≡ Some f → IsMillAt plan f k m

-- and of each of the first fragments
abbrev pub AreMills : Plan → ℕ → List MillState → Type 0
AreMills plan k ms = (i : ℕ) (m : MillState) → slice_get ms i ≡ Some m → IsMillOf plan k i m

-- a sink took the first part of a text, and the rest of it is held
pub record IsUnderWay (old new : Edge) (text held : List ℕ) : Type 0 where
  pub gone : List ℕ
  pub took : Took old new gone
  pub split : text ≡ gone ++ held

-- what a sink took of a text that was not written whole
abbrev pub Stopped : WriteFault → Edge → Edge → List ℕ → Type 0
Stopped fault.NoMemory old new text = TookSome old new text
Stopped fault.Failed old new text = TookPart old new text

-- the lines of some tuples, the first of which has this number
abbrev pub numbered : ℕ → List Tuple → List ℕ
numbered n ts = text_of (map item_words (stable_items n ts))

-- behind what was held, the lines of these tuples are under way and counted; or a fault came among them
abbrev pub LinesTook : Option WriteFault → Edge → Edge → List ℕ → ℕ → List Tuple → List ℕ → ℕ → Type 0
LinesTook None old new begun first tuples held count = IsUnderWay old new (begun ++ numbered first tuples) held × (count ≡ first + length tuples)
LinesTook (Some why) old new begun first tuples held count = Stopped why old new (begun ++ numbered first tuples)

-- the lines of a client's failure-free stream
abbrev pub client_text : Plan → ClientSpec → List ℕ
client_text plan client = text_of (stream_lines client.name (ideal plan client.input))
