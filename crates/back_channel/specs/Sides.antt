-- What the code holds of one reader that stands beside another one.
use Rattle.std.specs.Prelude.{◌≡◌, ℕ, ◌≤◌, max, List, length, take, All, Option, Some, None, Vec}
use Rattle.std.specs.declared.alloc.Global.{Global}
use Rattle.dpc_model.specs.Reading.{Reader, Reading, NoReading, Skipped, Taken, reading}
use Rattle.dpc_model.specs.declared.tuples.Item.{Item}
use Rattle.dpc_model.specs.declared.tuples.Tuple.{Tuple}
use Rattle.back_channel.specs.Merging.{not_below, Leaves, OneBegins}
use Rattle.back_channel.specs.declared.known.Known.{Known}
use Rattle.back_channel.specs.declared.side.Side.{Side}

-- what the reading of an item leaves, where it has one
abbrev pub left_by : Reader → Reading → Option Reader
left_by r NoReading = None
left_by r Skipped = Some r
left_by r (Taken s) = Some s

-- ---- what is held

-- the longer stable list and the greater bound of two readers
pub record Covers (k : Known) (x y : Reader) : Type 0 where
  pub first : x.stable ≡ take (length x.stable) k.stable
  pub second : y.stable ≡ take (length y.stable) k.stable
  pub long : length k.stable ≡ max (length x.stable) (length y.stable)
  pub greater : k.bound ≡ max x.bound y.bound

-- of one reader: how many stable tuples it has, and its tentative ones, of which some that are below a bound may be gone
pub record IsSide (b : ℕ) (s : Side) (x : Reader) : Type 0 where
  pub many : s.count ≡ length x.stable
  pub kept : not_below b s.tentative.items ≡ not_below b x.tentative
  pub late : All (λ (t : Tuple). s.floor ≤ t.stime) s.tentative.items
  pub low : s.floor ≤ b

-- both together
pub record Stands (k : Known) (s : Side) (x y : Reader) : Type 0 where
  pub covers : Covers k x y
  pub side : IsSide k.bound s x

-- the tentative tuples before the first Undo of a step
abbrev pub tuples_in : Option (Vec Tuple Global) → List Tuple → List Tuple
tuples_in None ts = ts
tuples_in (Some v) ts = v.items

abbrev pub tuples_before : Side → List Tuple
tuples_before s = tuples_in s.before s.tentative.items

-- the tentative tuples that a side had when the step began; more may have come behind them
abbrev pub WasHeld : List Tuple → Side → Type 0
WasHeld ts s = ts ≡ take (length ts) (tuples_before s)

-- ---- one reader goes on

-- a reader that stands beside another one went on so; nothing is lost of what was held before
pub record HasRead (Left : Reader → Reader → Type 0) (k : Known) (s : Side) (k' : Known) (s' : Side) : Type 0 where
  pub stands : (x next y : Reader) → Stands k s x y → Left x next → OneBegins next.stable y.stable → Stands k' s' next y
  pub held : (ts : List Tuple) → WasHeld ts s → WasHeld ts s'
  pub rises : k.bound ≤ k'.bound
  pub same_floor : s'.floor ≡ s.floor

-- by one item, or by several
abbrev pub ReadsOne : Item → Known → Side → Known → Side → Type 0
ReadsOne item k s k' s' = HasRead (λ (x next : Reader). left_by x (reading x item) ≡ Some next) k s k' s'

abbrev pub ReadsAll : List Item → Known → Side → Known → Side → Type 0
ReadsAll items k s k' s' = HasRead (λ (x next : Reader). Leaves x items next) k s k' s'

-- ---- tuples below the bound go

pub record Drops (b : ℕ) (s s' : Side) : Type 0 where
  pub stands : (x : Reader) → IsSide b s x → IsSide b s' x
  pub same : b ≤ s.floor → s'.tentative.items ≡ s.tentative.items
  pub before : s'.before ≡ s.before
