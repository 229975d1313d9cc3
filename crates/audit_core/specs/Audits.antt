-- The verdict on a recorded stream.
use Rattle.std.specs.Prelude.{⊤, ◌≡◌, ℕ, ◌+◌, ◌==◌, ◌&&◌, nat_lt, Bool, true, false, if◌then◌else◌, List, [], ◌∷◌, length, Option, Some, None, Result, Ok, Err}
use Rattle.std.specs.Ordering.{int_eq}
use Rattle.std.specs.Cmp.Lexicographic.{pointwise}
use Rattle.dpc_model.specs.Fragments.{ideal}
use Rattle.dpc_lists.specs.declared.faults.NoMemory.{NoMemory}
use Rattle.dpc_model.specs.Reading.{Reader, empty_reader, is_settled, Reading, reading, NoReading, Skipped, Taken}
use Rattle.dpc_model.specs.declared.plans.Plan.{Plan}
use Rattle.dpc_model.specs.declared.plans.StreamRef.{StreamRef}
use Rattle.dpc_model.specs.declared.tuples.Item.{Item}
use Rattle.dpc_model.specs.declared.tuples.Tuple.{Tuple}
use Rattle.audit_core.specs.declared.faults.AuditFault.{AuditFault}
use Rattle.audit_core.specs.declared.faults.AuditFault.TheVariants as fault
use Rattle.audit_core.specs.declared.reading.Recorded.{Recorded}
use Rattle.audit_core.specs.declared.verdict.Verdict.{Verdict}
use Rattle.audit_core.specs.declared.verdict.Verdict.TheVariants.{Whole, Prefix, Difference}

-- ---- the items, read as a client reads them

-- what they leave at a reader, where n items stand before them, or how many items stand before the first that has no reading
abbrev pub read_items : ℕ → Reader → List Item → Result Reader ℕ
read_items n r [] = Ok r
read_items n r (i ∷ items) =
    elim (reading r i) [ NoReading ↦ Err n | Skipped ↦ read_items (n + 1) r items | Taken s ↦ read_items (n + 1) s items ]

-- ---- the first difference

abbrev pub same_tuple : Tuple → Tuple → Bool
same_tuple t u = t.stime == u.stime && pointwise int_eq t.vals u.vals

-- between the recorded tuples and the failure-free ones, both from number n on: the number, and which tuples stand there. The recorded
-- ones may end early, but not before a tuple below their bound
abbrev pub first_difference : ℕ → ℕ → List Tuple → List Tuple → Option (ℕ × Option Tuple × Option Tuple)
first_difference bound n [] [] = None
first_difference bound n [] (t ∷ ts) = if nat_lt t.stime bound then Some (n, None, Some t) else None
first_difference bound n (s ∷ ss) [] = Some (n, Some s, None)
first_difference bound n (s ∷ ss) (t ∷ ts) =
    if same_tuple s t then first_difference bound (n + 1) ss ts else Some (n, Some s, Some t)

-- the verdict on what a reader holds, by the first difference
abbrev pub verdict_of : ℕ → Reader → Option (ℕ × Option Tuple × Option Tuple) → Verdict
verdict_of end r (Some d) = Difference d.0 d.1 d.2
verdict_of end r None = if is_settled end r then Whole else Prefix (length r.stable) r.bound

-- beside a failure-free stream up to an end
abbrev pub verdict_on : ℕ → List Tuple → Reader → Verdict
verdict_on end ts r = verdict_of end r (first_difference r.bound 0 r.stable ts)

abbrev pub judged : Plan → StreamRef → Result Reader ℕ → Result Verdict ℕ
judged plan stream (Ok r) = Ok (verdict_on plan.end (ideal plan stream) r)
judged plan stream (Err n) = Err n

-- the verdict on the items of a stream, or how many stand before the first that has no reading
unfoldable pub audited : Plan → StreamRef → List Item → Result Verdict ℕ
audited plan stream items = judged plan stream (read_items 0 empty_reader items)

-- ---- what code answers

-- the verdict, the refusal, or want of memory
abbrev pub IsAudit : Result Verdict ℕ → Result Verdict AuditFault → Type 0
IsAudit told (Ok v) = told ≡ Ok v
IsAudit told (Err fault.NoMemory) = ⊤
IsAudit told (Err (fault.NoReading n)) = told ≡ Err n

-- what stands for a reader
pub record Holds (v : Recorded) (r : Reader) : Type 0 where
  pub stable : v.stable.items ≡ r.stable
  pub bound : v.bound ≡ r.bound
  pub tentative : v.tentative ≡ length r.tentative
  pub passed : v.passed ≡ r.passed

abbrev pub IsRead : Result Reader ℕ → Result Recorded AuditFault → Type 0
IsRead told (Ok v) = (r : Reader) × (told ≡ Ok r) × Holds v r
IsRead told (Err fault.NoMemory) = ⊤
IsRead told (Err (fault.NoReading n)) = told ≡ Err n

-- ---- one item

-- what the reading of an item leaves, where it has one
abbrev pub left_by : Reader → Reading → Option Reader
left_by r NoReading = None
left_by r Skipped = Some r
left_by r (Taken s) = Some s

-- the item had a reading, and what the code has then stands for what that leaves; or it had none; or memory was wanting
abbrev pub IsLeft : Option Reader → Result Bool NoMemory → Recorded → Type 0
IsLeft (Some r) (Ok true) v = Holds v r
IsLeft (Some r) (Ok false) v = ⊥
IsLeft None (Ok true) v = ⊥
IsLeft None (Ok false) v = ⊤
IsLeft o (Err e) v = ⊤

-- the item was read as every reader would that the code stood for
abbrev pub HasRead : Recorded → Item → Result Bool NoMemory → Recorded → Type 0
HasRead old item told new = (r : Reader) → Holds old r → IsLeft (left_by r (reading r item)) told new

-- it had a reading, but where memory was wanting
abbrev pub read_on : {A : Type 0} → Result A NoMemory → Result Bool NoMemory
read_on (Ok a) = Ok true
read_on (Err e) = Err e
