-- The inputs, operators and output of a node together: what they stand for, and what processing buckets makes of them.
use Rattle.std.specs.Prelude.{◌≡◌, ℕ, ◌+◌, ◌-◌, ◌<◌, ◌≤◌, Bool, true, false, nat_lt, min, if◌then◌else◌, List, [], ◌∷◌, length, drop, Some, None, IfSome}
use Rattle.dpc_lists.specs.Lists.{is_nil}
use Rattle.dpc_model.specs.Engines.{nameless}
use Rattle.dpc_model.specs.Fragments.{AreSoundOps, fragment_value}
use Rattle.dpc_model.specs.Parts.{Inputs, frontier_of, processed, Stream, stream_by, Outputs}
use Rattle.dpc_model.specs.PartStands.{StandsForPorts, StandsForKeeper, OutputValue, StandsForOutput}
use Rattle.dpc_model.specs.Sessions.{base_after, Given, given_items, batches_of, with_batches}
use Rattle.dpc_model.specs.declared.operators.OpSpec.{OpSpec}
use Rattle.dpc_model.specs.declared.tuples.Item.{Item}
use Rattle.dpc_model.specs.declared.tuples.Item.TheVariants.{Undo}
use Rattle.dpc_model.specs.declared.messages.Message.{Message}
use Rattle.checkpoint_redo.specs.Keeping.{KeptValue}
use Rattle.fragment_mill.specs.Mills.{MillState, MillAfter, specs_of}
use Rattle.sunion.specs.Values.{SUnionValue}
use Rattle.sunion.specs.Unions.{complete_upto_in, after_advancing, without_closed}
use Rattle.law_buckets.specs.Series.{AreReady, CanClose, after_closing_all}

-- ---- what contracts see, and what it stands for

pub record PipelineValue : Type 0 where
  pub union : SUnionValue
  pub keeper : KeptValue MillState
  pub output : OutputValue
  -- whether the plan is passing, so that passed marks are sent and heard
  pub passing : Bool

-- what is set when the inputs are made stays
pub record HasSameSetting (old new : SUnionValue) : Type 0 where
  pub width : new.width ≡ old.width
  pub buckets : new.buckets ≡ old.buckets
  pub delay : new.delay ≡ old.delay

-- so does whether the plan is passing
pub record IsSetAs (old new : PipelineValue) : Type 0 where
  pub inputs : HasSameSetting old.union new.union
  pub marks : new.passing ≡ old.passing

-- an unspent mill of these operators, with buckets of this width
pub record IsMillOf (ops : List OpSpec) (width : ℕ) (m : MillState) : Type 0 where
  pub operators : specs_of m.stages ≡ nameless ops
  pub wide : m.width ≡ width
  pub unspent : m.spent ≡ false

-- the engine at the cursor of these inputs: it took exactly what was processed stably
pub record IsEngineOf (ops : List OpSpec) (width : ℕ) (x : Inputs) (m : MillState) : Type 0 where
  pub of : IsMillOf ops width m
  pub took : MillAfter m (processed width x) x.cursor

-- it stands for these inputs and outputs, where the output is what the operators make of the inputs
pub record StandsForData (ops : List OpSpec) (v : PipelineValue) (x : Inputs) (o : Outputs) : Type 0 where
  pub sound : AreSoundOps ops
  pub some : 0 < v.union.width
  pub ports : StandsForPorts v.union.width v.union.union x
  pub state : IsMillOf ops v.union.width v.keeper.keeper.state
  pub held : IfSome v.keeper.keeper.held (IsMillOf ops v.union.width)
  pub keeper : StandsForKeeper MillAfter v.union.width false v.keeper.keeper x
  pub output : StandsForOutput (stream_by (fragment_value ops) v.union.width v.passing x) v.output o

-- the output that it stands for
abbrev pub stream_at : List OpSpec → PipelineValue → Inputs → Stream
stream_at ops v x = stream_by (fragment_value ops) v.union.width v.passing x

-- ---- what processing gives

-- what is new of a stream: s is the stream before, t after
abbrev pub given_between : Stream → Stream → Bool → Bool → Bool → Given
given_between s t any_stable any_closed done =
    record {
      stable = drop (length s.stable) t.stable;
      bound = if any_stable then Some (t.bound, length t.stable) else None;
      tentative = drop (length s.tentative) t.tentative;
      passed = if any_closed then t.passed else None;
      done = done;
    }

-- the items of it go in one batch to each open session, and the base follows the acknowledgements
abbrev pub items_between : Stream → Stream → Bool → Bool → Bool → List Item
items_between s t any_stable any_closed done = given_items (length s.stable) (given_between s t any_stable any_closed done)

abbrev pub outputs_given : List Item → Stream → Outputs → Outputs
outputs_given items t o = record { subs = with_batches items o.subs; acks = o.acks; base = base_after o.base o.acks (length t.stable) }

-- of buckets up to a last one: how many there are, and how many of them are processed stably
abbrev pub count_upto : ℕ → Inputs → ℕ
count_upto last x = last + 1 - frontier_of x

abbrev pub stably_upto : ℕ → ℕ → Inputs → ℕ
stably_upto width last x = min (count_upto last x) (if is_nil x.closed then complete_upto_in width x - x.cursor else 0)

-- the inputs after them: the first ones are processed stably, and the others closed as they stand
abbrev pub after_processing : ℕ → ℕ → Inputs → Inputs
after_processing width last x =
    let r = stably_upto width last x in after_closing_all width (count_upto last x - r) (after_advancing r x)

-- the items of processing up to a last bucket
abbrev pub processed_items : List OpSpec → PipelineValue → Inputs → ℕ → List Item
processed_items ops v x last =
    let r = stably_upto v.union.width last x in
    items_between (stream_at ops v x) (stream_at ops v (after_processing v.union.width last x)) (nat_lt 0 r) (nat_lt r (count_upto last x)) false

-- ---- what the plain side must be like

-- so many ready buckets can be processed
pub record CanMill (ops : List OpSpec) (v : PipelineValue) (x : Inputs) (o : Outputs) (count : ℕ) : Type 0 where
  pub stands : StandsForData ops v x o
  pub some : 1 ≤ count
  pub ready : AreReady v.union.width x count

-- all buckets up to a last one can be processed or closed
pub record CanProcess (ops : List OpSpec) (v : PipelineValue) (x : Inputs) (o : Outputs) (last : ℕ) : Type 0 where
  pub stands : StandsForData ops v x o
  pub frontier : frontier_of x ≤ last
  pub stable : 0 < stably_upto v.union.width last x → AreReady v.union.width x (stably_upto v.union.width last x)
  pub closing : CanClose v.union.width (after_advancing (stably_upto v.union.width last x) x) (count_upto last x - stably_upto v.union.width last x)

-- ---- what each call leaves and answers

-- so many ready buckets were processed
pub record IsMilled (ops : List OpSpec) (old new : PipelineValue) (x : Inputs) (o : Outputs) (count : ℕ) (done : Bool) (told : List (ℕ × Message)) : Type 0 where
  pub answer : told ≡ batches_of (items_between (stream_at ops old x) (stream_at ops old (after_advancing count x)) true false done) o.subs
  pub stands : StandsForData ops new (after_advancing count x)
      (outputs_given (items_between (stream_at ops old x) (stream_at ops old (after_advancing count x)) true false done) (stream_at ops old (after_advancing count x)) o)

-- the buckets up to a last one were processed or closed
pub record IsProcessedTo (ops : List OpSpec) (old new : PipelineValue) (x : Inputs) (o : Outputs) (last : ℕ) (told : List (ℕ × Message)) : Type 0 where
  pub answer : told ≡ batches_of (processed_items ops old x last) o.subs
  pub stands : StandsForData ops new (after_processing old.union.width last x) (outputs_given (processed_items ops old x last) (stream_at ops old (after_processing old.union.width last x)) o)

-- the closed buckets were taken back
pub record IsUndone (ops : List OpSpec) (old new : PipelineValue) (x : Inputs) (o : Outputs) (told : List (ℕ × Message)) : Type 0 where
  pub answer : told ≡ batches_of (Undo (length (stream_at ops old x).stable) ∷ []) o.subs
  pub stands : StandsForData ops new (without_closed x) (record o { subs = with_batches (Undo (length (stream_at ops old x).stable) ∷ []) o.subs })
