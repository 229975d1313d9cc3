-- What a fragment gives of its inputs, and the failure-free output of a stream.
use Rattle.std.specs.Prelude.{⊤, ℕ, ◌+◌, ◌<◌, ◌==◌, List, [], ◌∷◌, ◌++◌, map, filter, None, unwrap_or}
use Rattle.dpc_lists.specs.Lists.{nth, sort_by, push, last_or}
use Rattle.dpc_model.specs.Streams.{InOrder, is_below, cut}
use Rattle.dpc_model.specs.Operators.{output_of}
use Rattle.dpc_model.specs.declared.tuples.Tuple.{Tuple}
use Rattle.dpc_model.specs.declared.tuples.Tagged.{Tagged}
use Rattle.dpc_model.specs.declared.operators.Wire.{Wire}
use Rattle.dpc_model.specs.declared.operators.Wire.TheVariants.{Port, Op}
use Rattle.dpc_model.specs.declared.operators.OpSpec.{OpSpec}
use Rattle.dpc_model.specs.declared.operators.OpKind.{OpKind}
use Rattle.dpc_model.specs.declared.operators.OpKind.TheVariants.{Filter, Map, Union, Join, Aggregate}
use Rattle.dpc_model.specs.declared.plans.FragSpec.{FragSpec}
use Rattle.dpc_model.specs.declared.plans.SourceSpec.{SourceSpec}
use Rattle.dpc_model.specs.declared.plans.Plan.{Plan}
use Rattle.dpc_model.specs.declared.plans.StreamRef.{StreamRef}
use Rattle.dpc_model.specs.declared.plans.StreamRef.TheVariants.{Source, Frag}

-- ---- the inputs of a fragment in one list

abbrev pub tag : ℕ → Tuple → Tagged
tag p t = record { port = p; tuple = t }

-- the tuples of the ports from p on, each tagged with its port
abbrev pub tagged_from : ℕ → List (List Tuple) → List Tagged
tagged_from p [] = []
tagged_from p (ts ∷ rest) = map (tag p) ts ++ tagged_from (p + 1) rest

-- all tuples of the ports in order of time, port and place
abbrev pub serial : List (List Tuple) → List Tagged
serial ports = sort_by (λ (x : Tagged). x.tuple.stime) (tagged_from 0 ports)

-- the tuples that came by a port
abbrev pub at_port : ℕ → List Tagged → List Tuple
at_port p xs = map (λ (x : Tagged). x.tuple) (filter (λ (x : Tagged). x.port == p) xs)

-- tagged tuples below a time
abbrev pub cut_tagged : ℕ → List Tagged → List Tagged
cut_tagged b xs = filter (λ (x : Tagged). is_below b x.tuple) xs

-- ---- a fragment's value

-- what an operator reads: a port, or an output that stands
abbrev pub read_wire : List Tagged → List (List Tuple) → Wire → List Tuple
read_wire xs outputs (Port p) = at_port p xs
read_wire xs outputs (Op i) = nth [] outputs i

-- the outputs of the operators behind those that stand
abbrev pub outputs_after : List (List Tuple) → List OpSpec → List Tagged → ℕ → List (List Tuple)
outputs_after outputs [] xs b = outputs
outputs_after outputs (op ∷ ops) xs b = outputs_after (push outputs (output_of op.kind (map (read_wire xs outputs) op.reads) b)) ops xs b

-- the last operator's output, of tagged tuples known up to b
abbrev pub fragment_value : List OpSpec → List Tagged → ℕ → List Tuple
fragment_value ops xs b = unwrap_or (last_or None (outputs_after [] ops xs b)) []

-- ---- the failure-free output

-- what a source logs
abbrev pub log_of : Plan → ℕ → List Tuple
log_of plan s = nth [] (map (λ (source : SourceSpec). source.log) plan.sources) s

-- a stream up to b, where the fragments' streams up to b are those listed
abbrev pub stream_upto : Plan → ℕ → List (List Tuple) → StreamRef → List Tuple
stream_upto plan b values (Source s) = cut (log_of plan s) b
stream_upto plan b values (Frag f) = nth [] values f

-- the fragments' streams up to b, behind those of the fragments before them
abbrev pub fragments_upto : Plan → ℕ → List (List Tuple) → List FragSpec → List (List Tuple)
fragments_upto plan b values [] = values
fragments_upto plan b values (f ∷ rest) =
    fragments_upto plan b (push values (fragment_value f.ops (serial (map (stream_upto plan b values) f.inputs)) b)) rest

-- the failure-free output of a stream up to b
unfoldable pub ideal_upto : Plan → StreamRef → ℕ → List Tuple
ideal_upto plan s b = stream_upto plan b (fragments_upto plan b [] plan.frags) s

-- the whole failure-free output of a stream
unfoldable pub ideal : Plan → StreamRef → List Tuple
ideal plan s = ideal_upto plan s plan.end

-- ---- what a checked plan has

-- windows have a size, and a step from one to the next
abbrev pub IsSoundKind : OpKind → Type 0
IsSoundKind (Filter e) = ⊤
IsSoundKind (Map es) = ⊤
IsSoundKind Union = ⊤
IsSoundKind (Join w keys) = ⊤
IsSoundKind (Aggregate size step group aggs) = (0 < size) × (0 < step)

abbrev pub AreSoundOps : List OpSpec → Type 0
AreSoundOps [] = ⊤
AreSoundOps (op ∷ ops) = IsSoundKind op.kind × AreSoundOps ops

abbrev pub AreSoundFrags : List FragSpec → Type 0
AreSoundFrags [] = ⊤
AreSoundFrags (f ∷ rest) = AreSoundOps f.ops × AreSoundFrags rest

-- a fragment reads sources, and fragments before it
abbrev pub ReadsBelow : ℕ → List StreamRef → Type 0
ReadsBelow n [] = ⊤
ReadsBelow n (Source s ∷ streams) = ReadsBelow n streams
ReadsBelow n (Frag f ∷ streams) = (f < n) × ReadsBelow n streams

-- so do all fragments from number n on
abbrev pub ReadBefore : ℕ → List FragSpec → Type 0
ReadBefore n [] = ⊤
ReadBefore n (f ∷ rest) = ReadsBelow n f.inputs × ReadBefore (n + 1) rest

-- every log is in order of time
abbrev pub LogsInOrder : Plan → Type 0
LogsInOrder plan = (s : ℕ) → InOrder (log_of plan s)

-- what the definitions need of a plan, and what every checked plan has
pub record IsSound (plan : Plan) : Type 0 where
  pub logs : LogsInOrder plan
  pub ops : AreSoundFrags plan.frags
  pub inputs : ReadBefore 0 plan.frags
