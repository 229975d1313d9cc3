-- An inlet that forgot its first stable tuples, beside the plain one that has them all.
use Rattle.std.specs.Prelude.{◌≡◌, ℕ, ◌+◌, ◌^◌, ◌<◌, List, ◌++◌, map, length}
use Rattle.dpc_model.specs.Reading.{tuples_in}
use Rattle.dpc_model.specs.Inlets.{InletState, take_batch}
use Rattle.dpc_model.specs.PartStands.{InletValue, with_stable}
use Rattle.dpc_model.specs.declared.tuples.Tuple.{Tuple}
use Rattle.dpc_model.specs.declared.tuples.Item.{Item}
use Rattle.dpc_model.specs.declared.batches.Taken.{Taken}
use Rattle.dpc_model.specs.declared.batches.Taken.TheVariants as taken
use Rattle.dpc_model.specs.declared.messages.Sess.{Sess}
pub use Rattle.held_tuples.specs.Runs.{from_first}
use Rattle.inlet.specs.declared.inlet.Absorbed.{Absorbed}
use Rattle.inlet.specs.declared.inlet.Absorbed.TheVariants as absorbed

-- of the plain inlet x all is there but its first stable tuples, gone
pub record Keeps (gone : List Tuple) (v : InletValue) (x : InletState) : Type 0 where
  pub count : v.count ≡ length x.held.stable
  pub kept : x.held.stable ≡ gone ++ v.state.held.stable
  pub rest : with_stable x.held.stable v.state ≡ x

-- by a batch of so many items no number passes the range
pub record HasRoom (v : InletValue) (items : ℕ) : Type 0 where
  pub count : v.count + items < 2 ^ 64
  pub next : v.state.next + 1 < 2 ^ 64

-- a batch leaves and answers what it would at the plain inlet, whatever was forgotten
pub record IsTaken (sess : Sess) (index : ℕ) (items : List Item) (old new : InletValue) (answer : Taken) : Type 0 where
  pub after : (gone : List Tuple) (x : InletState) → Keeps gone old x → Keeps gone new (take_batch x sess index items).after
  pub told : (gone : List Tuple) (x : InletState) → Keeps gone old x → answer ≡ (take_batch x sess index items).answer

-- the answer with the times of the tuples taken in the place of the items
abbrev pub times_of : Taken → Absorbed
times_of (taken.Used items) = absorbed.Used (map (λ (t : Tuple). t.stime) (tuples_in items))
times_of taken.Old = absorbed.Old
times_of taken.Broken = absorbed.Broken
