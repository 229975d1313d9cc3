-- What is kept as bytes, as a snapshot.
use Rattle.std.proofs.Common.{◌≡◌, ℕ, ◌+◌, ◌<◌, ◌≤◌, Bool, true, false, nat_lt, nat_le, if◌then◌else◌, List, Option, None, Result, Ok, Err, Some, inl, inr, refl, sym, ap, subst, ◌∙◌, arith}
use Rattle.std.specs.Prelude.{OnOk, IsErrAnd, IfErr}
use Rattle.dpc_lists.proofs.Truths.{lt-of, lt-test, not-lt}
use Rattle.dpc_model.specs.declared.plans.Plan.{Plan}
use Rattle.node_model.specs.Stands.{SnapValue}
use Rattle.fragment_mill.specs.Mills.{MillState}
use Rattle.disk_model.specs.Disk.{Image, History, LeavesOnly}
use Rattle.disk_model.proofs.Moments.{weaker}
use Rattle.saved_slots.specs.Slots.{Reading, Holding, Unreadable, given}
use Rattle.saved_slots.specs.Slots as slot
use Rattle.saved_slots.specs.Standing as standing
use Rattle.saved_slots.specs.declared.fault.SaveFault.{SaveFault}
use Rattle.saved_slots.specs.declared.fault.SaveFault.TheVariants.{Full, Broken}
use Rattle.saved_slots.specs.Faults.{refusal_of}
use Rattle.snapshot_form.specs.Bytes.{snapshot_bytes}
use Rattle.snapshot_form.specs.Savable.{IsSavable}
use Rattle.snapshot_form.proofs.ReadBack.{snapshot-back}
use Rattle.saved_point.specs.Points.{Point, point_read, point_of, IsBroken, IsOldOrNew}

-- the bytes of a snapshot that can be saved are that snapshot
pub held : (plan : Plan) (frag : ℕ) (s : SnapValue MillState) → IsSavable plan frag s → point_of plan frag (Holding (snapshot_bytes s)) ≡ Point s
held plan frag s h = ap point_read (snapshot-back plan frag s h)

-- an image with what was kept before, or the bytes, has what was kept before, or the snapshot
pub old-or-new : (plan : Plan) (frag room : ℕ) (kept : Reading) (s : SnapValue MillState) (bytes : List ℕ) (image : Image) → IsSavable plan frag s → bytes ≡ snapshot_bytes s
    → standing.IsOldOrNew room kept bytes image → IsOldOrNew plan frag room (point_of plan frag kept) s image
old-or-new plan frag room kept s bytes image h same at =
    elim at [
      | inl old ↦ inl (ap (point_of plan frag) old)
      | inr new ↦ inr (ap (point_of plan frag) new ∙ ap (λ (bs : List ℕ). point_of plan frag (Holding bs)) same ∙ held plan frag s h)
    ]

-- and so at each moment
pub at-each-moment : (plan : Plan) (frag room : ℕ) (kept : Reading) (s : SnapValue MillState) (bytes : List ℕ) (old new : History) → IsSavable plan frag s → bytes ≡ snapshot_bytes s
    → LeavesOnly old new (standing.IsOldOrNew room kept bytes) → LeavesOnly old new (IsOldOrNew plan frag room (point_of plan frag kept) s)
at-each-moment plan frag room kept s bytes old new h same run =
    weaker old new (standing.IsOldOrNew room kept bytes) (IsOldOrNew plan frag room (point_of plan frag kept) s)
    (λ image at. old-or-new plan frag room kept s bytes image h same at) run

-- where a save answered well, what is kept is the snapshot
pub kept-now : (plan : Plan) (frag : ℕ) (s : SnapValue MillState) (bytes : List ℕ) (kept : Reading) (result : Result Unit SaveFault) → IsSavable plan frag s → bytes ≡ snapshot_bytes s
    → OnOk result (kept ≡ Holding bytes) → OnOk result (point_of plan frag kept ≡ Point s)
kept-now plan frag s bytes kept (Ok u) h same is = ap (point_of plan frag) (is ∙ ap Holding same) ∙ held plan frag s h
kept-now plan frag s bytes kept (Err e) h same is = tt

-- ---- a snapshot that is too long

refused-full : (b : Bool) (room n m : ℕ) → b ≡ false → n ≡ m → room < m + 32 → refusal_of b room n ≡ Some (Full (m + 32) room)
refused-full b room n m fresh same long =
    let test : nat_lt room (m + 32) ≡ true = lt-test room (m + 32) long in
    rw (fresh, same, test) refl

abbrev needed : Result Unit SaveFault → ℕ
needed (Err (Full need room)) = need
needed _ = 0

abbrev roomed : Result Unit SaveFault → ℕ
roomed (Err (Full need room)) = room
roomed _ = 0

-- it is refused, and nothing changes
pub refuses : {Same : Type 0} (b : Bool) (room n m : ℕ) (result : Result Unit SaveFault) → ((why : SaveFault) → refusal_of b room n ≡ Some why → (result ≡ Err why) × Same)
    → n ≡ m → b ≡ false → room < m + 32 → (result ≡ Err (Full (m + 32) room)) × Same
refuses b room n m result refused same fresh long = refused (Full (m + 32) room) (refused-full b room n m fresh same long)

-- and a refusal for its length tells its length
pub tells : {Same : Type 0} (b : Bool) (room n m : ℕ) (result : Result Unit SaveFault) → ((why : SaveFault) → refusal_of b room n ≡ Some why → (result ≡ Err why) × Same)
    → n ≡ m → (need at : ℕ) → result ≡ Err (Full need at) → b ≡ false → room < n + 32
    → (need ≡ m + 32) × (at ≡ room) × (at < need) × (b ≡ false) × Same
tells b room n m result refused same need at is fresh long =
    let longer : room < m + 32 = subst (λ (k : ℕ). room < k + 32) same long in
    let known = refuses b room n m result refused same fresh longer in
    let both : Err (Full need at) ≡ Err (Full (m + 32) room) = sym is ∙ known.0 in
    let needs : need ≡ m + 32 = ap needed both in
    let rooms : at ≡ room = ap roomed both in
    (needs, rooms, omega (arith, needs, rooms, longer), fresh, known.1)

on-ok : {P : Type 0} (result : Result Unit SaveFault) → P → OnOk result P
on-ok (Ok u) h = h
on-ok (Err e) h = tt

refused-so : (P : Type 0) (result : Result Unit SaveFault) (why : SaveFault) → result ≡ Err why → OnOk result P
refused-so P result why is = subst (λ (r : Result Unit SaveFault). OnOk r P) (sym is) tt

-- where it is saved, it has its length
pub fits : {Same : Type 0} (b : Bool) (room n m : ℕ) (result : Result Unit SaveFault) → ((why : SaveFault) → refusal_of b room n ≡ Some why → (result ≡ Err why) × Same)
    → n ≡ m → b ≡ false → OnOk result (m + 32 ≤ room)
fits b room n m result refused same fresh =
    (elim (nat_lt room (m + 32)) as (λ (c : Bool). nat_lt room (m + 32) ≡ c → OnOk result (m + 32 ≤ room)) [
      | true ↦ λ e. refused-so (m + 32 ≤ room) result (Full (m + 32) room) (refuses b room n m result refused same fresh (lt-of room (m + 32) e)).0
      | false ↦ λ e. on-ok result (not-lt room (m + 32) e)
    ]) refl

-- ---- a slot without a reading

abbrev second_in : Reading → Bool
second_in (Unreadable second) = second
second_in _ = false

unreadable : (room : ℕ) (image : Image) (at : Option Bool) (second : Bool) → slot.read_given room image at ≡ Unreadable second → at ≡ Some second
unfolding slot.read_slot
unreadable room image None second is = absurd cc
unreadable room image (Some s) second is =
    (elim (nat_le (slot.length_at image (slot.start_of room s) + 32) room) as
    (λ (b : Bool). (if b then Holding (slot.payload_at image (slot.start_of room s)) else Unreadable s) ≡ Unreadable second → Some s ≡ Some second) [
      | true ↦ λ e. absurd cc
      | false ↦ λ e. ap (λ (r : Reading). Some (second_in r)) e
    ]) is

-- a slot without a reading of bytes has none of a snapshot
pub broken-point : (plan : Plan) (frag room : ℕ) (image : Image) (n : ℕ) → slot.IsBroken room image n → IsBroken plan frag room image n
broken-point plan frag room image n b = record {
  second = b.0;
  number = b.1;
  given = unreadable room image (given room image) b.0 b.2;
  damaged = ap (point_of plan frag) b.2;
}

pub broken-slot : (plan : Plan) (frag room : ℕ) (image : Image) (refused : SaveFault) → ((n : ℕ) → refused ≡ Broken n → slot.IsBroken room image n)
    → (n : ℕ) → refused ≡ Broken n → IsBroken plan frag room image n
broken-slot plan frag room image refused known n is = broken-point plan frag room image n (known n is)

-- what holds of a fault holds of it where it is handed on
pub handed-on : {A E : Type 0} (P : E → Type 0) (old : E) (result : Result A E) → IsErrAnd result (λ e. e ≡ old) → P old → IfErr result P
handed-on P old (Ok a) same h = tt
handed-on P old (Err e) same h = subst P (sym same) h
