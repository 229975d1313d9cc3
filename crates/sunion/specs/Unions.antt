-- The inputs of a node with their buckets, and what each call makes of them.
use Rattle.std.specs.Prelude.{◌≡◌, ℕ, ◌+◌, ◌*◌, ◌/◌, Bool, not, nat_le, List, [], ◌∷◌, ◌++◌, map, filter, replicate, All, Option, Some, None, max}
use Rattle.dpc_lists.specs.Lists.{nth, changed, is_nil}
use Rattle.dpc_model.specs.Streams.{NoneBelow, time_of}
use Rattle.dpc_model.specs.Reading.{Reader, stable_reader, tuples_in}
use Rattle.dpc_model.specs.Inlets.{InletState, AfterBatch, take_batch, new_inlet, no_inlet, restarted_inlet, sess_of}
use Rattle.dpc_model.specs.Due.{Stamps, with_stamps, first_incomplete, DueInputs, last_due}
use Rattle.dpc_model.specs.Parts.{Inputs, frontier_of, bucket_held}
use Rattle.dpc_model.specs.PartStands.{InletValue, StandsForPorts}
use Rattle.dpc_model.specs.declared.tuples.Tagged.{Tagged}
use Rattle.dpc_model.specs.declared.tuples.Item.{Item}
use Rattle.dpc_model.specs.declared.batches.Taken.{Taken}
use Rattle.dpc_model.specs.declared.batches.Taken.TheVariants as taken
use Rattle.dpc_model.specs.declared.messages.Sess.{Sess}
use Rattle.sunion.specs.Ports.{begun_anew}
use Rattle.sunion.specs.Values.{SUnionValue}
use Rattle.sunion.specs.declared.sunion.Verdict.{Verdict}
use Rattle.sunion.specs.declared.sunion.Verdict.TheVariants as verdict

-- it stands for the plain inputs
abbrev pub StandsForInputs : SUnionValue → Inputs → Type 0
StandsForInputs v x = StandsForPorts v.width v.union x

abbrev pub no_value : InletValue
no_value = record { count = 0; state = no_inlet }

-- what the ports hold
abbrev pub held_in : Inputs → List Reader
held_in x = map (λ (i : InletState). i.held) x.inlets

-- ---- taking a batch

abbrev pub stamps_after : ℕ → ℕ → Taken → Inputs → Stamps
stamps_after width clock (taken.Used items) x = with_stamps width x.cursor clock x.stamps (tuples_in items)
stamps_after width clock taken.Old x = x.stamps
stamps_after width clock taken.Broken x = x.stamps

-- a port took a batch: its inlet changes, and the tuples taken stamp their buckets
abbrev pub after_taking_at : ℕ → ℕ → ℕ → AfterBatch → Inputs → Inputs
after_taking_at width clock p t x = record x { inlets = changed p (λ _. t.after) x.inlets; stamps = stamps_after width clock t.answer x }

abbrev pub taken_at : ℕ → Sess → ℕ → List Item → Inputs → AfterBatch
taken_at p s index items x = take_batch (nth no_inlet x.inlets p) s index items

abbrev pub verdict_of : Taken → Verdict
verdict_of (taken.Used items) = verdict.Used
verdict_of taken.Old = verdict.Old
verdict_of taken.Broken = verdict.Broken

pub record IsAccepted (port : ℕ) (s : Sess) (index : ℕ) (items : List Item) (clock : ℕ) (old new : SUnionValue) (told : Verdict) : Type 0 where
  pub fixed : (new.width ≡ old.width) × (new.buckets ≡ old.buckets) × (new.delay ≡ old.delay)
  pub after : (x : Inputs) → StandsForInputs old x → StandsForInputs new (after_taking_at old.width clock port (taken_at port s index items x) x)
  pub answer : (x : Inputs) → StandsForInputs old x → told ≡ verdict_of (taken_at port s index items x).answer

-- ---- buckets

-- the first bucket that is not complete
abbrev pub complete_upto_in : ℕ → Inputs → ℕ
complete_upto_in width x = first_incomplete width (held_in x)

-- bucket k as it stands
abbrev pub bucket_in : ℕ → Inputs → ℕ → List Tagged
bucket_in width x k = bucket_held width (held_in x) k

-- what tells which buckets are due, where passed marks count or don't
abbrev pub due_inputs_of : SUnionValue → Bool → Inputs → DueInputs
due_inputs_of v passing x =
    record { width = v.width; delay = v.delay; passing = passing; ports = held_in x; stamps = x.stamps; frontier = frontier_of x; any_closed = not (is_nil x.closed) }

-- the last bucket that can't wait
abbrev pub last_due_in : SUnionValue → Bool → ℕ → Inputs → Option ℕ
last_due_in v passing now x = last_due (due_inputs_of v passing x) now v.buckets

abbrev pub after_closing : ℕ → Inputs → Inputs
after_closing width x = record x { closed = x.closed ++ bucket_in width x (frontier_of x) ∷ [] }

-- the cursor moves on by r buckets; buckets below it have no stamp
abbrev pub after_advancing : ℕ → Inputs → Inputs
after_advancing r x = record x { cursor = x.cursor + r; stamps = filter (λ (s : ℕ × ℕ). nat_le (x.cursor + r) s.0) x.stamps }

abbrev pub without_closed : Inputs → Inputs
without_closed x = record x { closed = [] }

-- ---- at the opening, and behind a snapshot

abbrev pub new_union : ℕ → ℕ → ℕ → ℕ → ℕ → SUnionValue
new_union ports width end delay inc =
    record {
      width = width;
      buckets = end / width;
      delay = delay;
      union = record { inlets = replicate ports (record { count = 0; state = new_inlet inc }); stamps = []; cursor = 0; closed = 0 };
    }

abbrev pub union_at : ℕ → ℕ → ℕ → ℕ → ℕ → List ℕ → SUnionValue
union_at width end delay inc cursor counts =
    record {
      width = width;
      buckets = end / width;
      delay = delay;
      union = record {
        inlets = map (λ (n : ℕ). record { count = n; state = restarted_inlet (stable_reader [] (cursor * width)) (sess_of inc 0) }) counts;
        stamps = [];
        cursor = cursor;
        closed = 0;
      };
    }

-- the inputs begun anew behind a snapshot, each port with its last session
abbrev pub restarted_union : ℕ → List ℕ → SUnionValue → SUnionValue
restarted_union cursor counts v = record v { union = record { inlets = begun_anew (cursor * v.width) counts v.union.inlets; stamps = []; cursor = cursor; closed = 0 } }

abbrev pub with_closed : ℕ → SUnionValue → SUnionValue
with_closed n v = record v { union = record v.union { closed = n } }

-- no inlet keeps a stable tuple that lies below a time
abbrev pub ForgetsBelow : ℕ → List InletValue → Type 0
ForgetsBelow time inlets = All (λ (i : InletValue). NoneBelow time_of time i.state.held.stable) inlets

-- the greater of two numbers, where there is one
abbrev pub later_of : Option ℕ → Option ℕ → Option ℕ
later_of None b = b
later_of (Some a) None = Some a
later_of (Some a) (Some b) = Some (max a b)

-- one inlet is changed, and nothing else
abbrev pub with_inlet_state : ℕ → (InletState → InletState) → SUnionValue → SUnionValue
with_inlet_state port f v =
    record v { union = record v.union { inlets = changed port (λ (i : InletValue). record i { state = f i.state }) v.union.inlets } }
