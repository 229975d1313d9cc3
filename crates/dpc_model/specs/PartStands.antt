-- How the parts of a node that has forgotten some of its inputs stand for those of the plain node.
use Rattle.std.specs.Prelude.{◌≡◌, ℕ, ◌*◌, ◌<◌, ◌≤◌, Bool, false, List, [], ◌++◌, length, drop, All, Option, Some, None, IsNone, ◌↔◌}
use Rattle.std.specs.List.{AllZip}
use Rattle.dpc_model.specs.Inlets.{InletState}
use Rattle.dpc_model.specs.Due.{Stamps, stamp_of}
use Rattle.dpc_model.specs.Sessions.{Acked}
use Rattle.dpc_model.specs.declared.sessions.Sub.{Sub}
use Rattle.dpc_model.specs.Parts.{Inputs, frontier_of, processed, processed_and_closed, Stream, Outputs, Neighbours}
use Rattle.dpc_model.specs.declared.tuples.Tuple.{Tuple}
use Rattle.dpc_model.specs.declared.tuples.Tagged.{Tagged}

-- ---- one inlet

-- what contracts see of an inlet: the number of its stable tuples, and its state with those of them that it kept
pub record InletValue : Type 0 where
  pub count : ℕ
  pub state : InletState

-- the state with all stable tuples in the place of the kept ones
abbrev pub with_stable : List Tuple → InletState → InletState
with_stable ts inlet = record inlet { held = record inlet.held { stable = ts } }

-- the first stable tuples, all of them below b, were forgotten; the rest is equal
pub record StandsForInlet (b : ℕ) (v : InletValue) (inlet : InletState) : Type 0 where
  pub count : v.count ≡ length inlet.held.stable
  pub kept : (gone : List Tuple) × (inlet.held.stable ≡ gone ++ v.state.held.stable) × All (λ (t : Tuple). t.stime < b) gone
  pub rest : with_stable inlet.held.stable v.state ≡ inlet

-- ---- the inlets together with the buckets

pub record UnionValue : Type 0 where
  pub inlets : List InletValue
  pub stamps : Stamps
  pub cursor : ℕ
  pub closed : ℕ

pub record StandsForPorts (width : ℕ) (v : UnionValue) (x : Inputs) : Type 0 where
  pub inlets : AllZip (StandsForInlet (x.cursor * width)) v.inlets x.inlets
  -- what the stamps say of each bucket is equal; how they are kept is not
  pub stamps : (k : ℕ) → stamp_of v.stamps k ≡ stamp_of x.stamps k
  pub cursor : v.cursor ≡ x.cursor
  pub closed : v.closed ≡ length x.closed

-- ---- the operators' state

-- the state behind the closed buckets, and the copy of the state before them
pub record KeeperValue (M : Type 0) : Type 0 where
  pub state : M
  pub held : Option M

-- the state at the cursor: the copy, or the state where none is held
abbrev pub at_cursor : {M : Type 0} → KeeperValue M → M
at_cursor k = elim k.held [ None ↦ k.state | Some m ↦ m ]

-- a copy is held exactly where a bucket is closed; where the node is not recovering, each state took what it is to have taken
pub record StandsForKeeper {M : Type 0} (after : M → List Tagged → ℕ → Type 0) (width : ℕ) (recovering : Bool) (k : KeeperValue M) (x : Inputs) : Type 0 where
  pub held : IsNone k.held ↔ (x.closed ≡ [])
  pub cursor : recovering ≡ false → after (at_cursor k) (processed width x) x.cursor
  pub frontier : recovering ≡ false → after k.state (processed_and_closed width x) (frontier_of x)

-- ---- the output

pub record OutputValue : Type 0 where
  pub count : ℕ
  pub kept : List Tuple
  pub base : ℕ
  pub bound : ℕ
  pub tentative : List Tuple
  pub passed : Option ℕ
  pub subs : List Sub
  pub acks : List Acked

-- exactly the tuples of the stable output before the base were forgotten
pub record StandsForOutput (s : Stream) (v : OutputValue) (x : Outputs) : Type 0 where
  pub count : v.count ≡ length s.stable
  pub within : x.base ≤ length s.stable
  pub kept : v.kept ≡ drop x.base s.stable
  pub base : v.base ≡ x.base
  pub bound : v.bound ≡ s.bound
  pub tentative : v.tentative ≡ s.tentative
  pub passed : v.passed ≡ s.passed
  pub subs : v.subs ≡ x.subs
  pub acks : v.acks ≡ x.acks

-- ---- the neighbours

-- nothing of them is forgotten
abbrev pub StandsForLinks : Neighbours → Neighbours → Type 0
StandsForLinks v x = v ≡ x
