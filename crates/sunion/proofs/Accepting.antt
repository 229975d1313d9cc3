-- A batch at one port: the port's inlet takes it, and the tuples taken stamp their buckets.
use Rattle.std.proofs.Common.{◌≡◌, ℕ, zero, suc, ◌+◌, ◌-◌, ◌*◌, ◌/◌, ◌<◌, ◌≤◌, Bool, true, false, nat_lt, ◌==◌, ◌||◌, List, [], ◌∷◌, map, length, refl, sym, ap, subst, ◌∙◌, arith, Option, Some, None}
use Rattle.std.proofs.lemmas.Grind.{common_steps}
use Rattle.std.proofs.lemmas.Bool.{ltb-true, ltb-false}
use Rattle.std.proofs.lemmas.List.Elements.{All-head, All-tail, All-cons, All-nil, All-weaker}
use Rattle.std.specs.List.{All, AllZip}
use Rattle.std.specs.Prelude.{if◌then◌else◌}
use Rattle.dpc_lists.specs.Lists.{nth, changed, push}
use Rattle.dpc_model.specs.Due.{Stamps, stamp_of, with_stamp, with_stamps}
use Rattle.dpc_model.specs.Reading.{Reader, Reading, NoReading, Skipped, Folded, reading, fold_items, taken_first, tuples_in}
use Rattle.dpc_model.specs.Reading.{Taken as IsTakenAs}
use Rattle.dpc_model.specs.Inlets.{InletState, take_batch, after_missing_batch, after_next_batch, is_old, no_inlet}
use Rattle.dpc_model.specs.Parts.{Inputs}
use Rattle.dpc_model.specs.PartStands.{InletValue, StandsForInlet}
use Rattle.dpc_model.specs.declared.tuples.Tuple.{Tuple}
use Rattle.dpc_model.specs.declared.tuples.Item.{Item}
use Rattle.dpc_model.specs.declared.tuples.Item.TheVariants.{Stable, Tentative, Passed, Boundary, Undo, RecDone}
use Rattle.dpc_model.specs.declared.batches.Taken.{Taken}
use Rattle.dpc_model.specs.declared.batches.Taken.TheVariants as taken_as
use Rattle.dpc_model.specs.declared.messages.Sess.{Sess}
use Rattle.dpc_lists.proofs.Elements.{length-changed}
use Rattle.inlet.specs.Forgotten.{IsTaken, times_of}
use Rattle.inlet.specs.declared.inlet.Absorbed.{Absorbed}
use Rattle.inlet.specs.declared.inlet.Absorbed.TheVariants as absorbed
use Rattle.inlet.proofs.Standing.{take-stands, take-tells}
use Rattle.sunion.specs.Clocks.{stamps_from, first_stamp, stamped_at, stamped}
use Rattle.sunion.specs.Values.{SUnionValue}
use Rattle.sunion.specs.Unions.{no_value, IsAccepted, taken_at, stamps_after, verdict_of}
use Rattle.sunion.specs.declared.sunion.Verdict.{Verdict}
use Rattle.sunion.specs.declared.sunion.Verdict.TheVariants as verdict
use Rattle.sunion.proofs.Waiting.{stamp-at, stamp-before}
use Rattle.sunion.proofs.Standing.{stands-at}

-- ---- one stamp

-- the stamp of each bucket, once a tuple of bucket b came
abbrev stamped_by : ℕ → ℕ → (ℕ → Option ℕ) → ℕ → Option ℕ
stamped_by b now stamps k = if k == b then first_stamp now (stamps k) else stamps k

pushed : (st : Stamps) (b now k : ℕ) → stamp_of (push st (b, now)) k ≡ (elim (stamp_of st k) [ None ↦ if b == k then Some now else None | Some at ↦ Some at ])
pushed [] b now k = refl
pushed (s ∷ st) b now k =
    (elim (s.0 == k) as (λ c. (s.0 == k) ≡ c → stamp_of (push (s ∷ st) (b, now)) k ≡ (elim (stamp_of (s ∷ st) k) [ None ↦ if b == k then Some now else None | Some at ↦ Some at ])) [
      | true ↦ λ e. rw e refl
      | false ↦ λ e. rw e (pushed st b now k)
    ]) refl

fresh-stamp : (b k now : ℕ) (o : Option ℕ) → (k ≡ b → o ≡ None) → (elim o [ None ↦ if b == k then Some now else None | Some at ↦ Some at ]) ≡ (if k == b then first_stamp now o else o)
fresh-stamp b k now None h =
    (elim (k == b) as (λ c. (k == b) ≡ c → (if b == k then Some now else None) ≡ (if c then Some now else None)) [
      | true ↦ λ e. let same : (b == k) ≡ true = grind (arith, common_steps, e) in rw same refl
      | false ↦ λ e. let other : (b == k) ≡ false = grind (arith, common_steps, e) in rw other refl
    ]) refl
fresh-stamp b k now (Some at) h =
    (elim (k == b) as (λ c. (k == b) ≡ c → Some at ≡ (if c then Some at else Some at)) [
      | true ↦ λ e. refl
      | false ↦ λ e. refl
    ]) refl

old-stamp : (b k now at : ℕ) (o : Option ℕ) → (k ≡ b → o ≡ Some at) → o ≡ (if k == b then first_stamp now o else o)
old-stamp b k now at o h =
    (elim (k == b) as (λ c. (k == b) ≡ c → o ≡ (if c then first_stamp now o else o)) [
      | true ↦ λ e. let same : k ≡ b = grind (arith, common_steps, e) in let here = h same in rw here refl
      | false ↦ λ e. refl
    ]) refl

plain-stamp : (cursor now : ℕ) (st : Stamps) (b k : ℕ) → cursor ≤ b → stamp_of (with_stamp cursor now st b) k ≡ stamped_by b now (stamp_of st) k
plain-stamp cursor now st b k low =
    let late : nat_lt b cursor ≡ false = grind (arith, common_steps, low) in
    (elim (stamp_of st b) as (λ o. stamp_of st b ≡ o → stamp_of (with_stamp cursor now st b) k ≡ stamped_by b now (stamp_of st) k) [
      | None ↦ λ e. rw (late, e) (pushed st b now k ∙ fresh-stamp b k now (stamp_of st k) (λ same. ap (λ (n : ℕ). stamp_of st n) same ∙ e))
      | Some at ↦ λ e. rw (late, e) (old-stamp b k now at (stamp_of st k) (λ same. ap (λ (n : ℕ). stamp_of st n) same ∙ e))
    ]) refl

changed-at : (i j : ℕ) (now : ℕ) (clocks : List (Option ℕ)) → i < length clocks → nth None (changed i (first_stamp now) clocks) j ≡ (if j == i then first_stamp now (nth None clocks j) else nth None clocks j)
changed-at i j now [] low = absurd (omega (arith, low))
changed-at zero zero now (s ∷ clocks) low = refl
changed-at zero (suc j) now (s ∷ clocks) low = let other : (suc j == 0) ≡ false = grind (arith, common_steps) in rw other refl
changed-at (suc i) zero now (s ∷ clocks) low = let other : (0 == suc i) ≡ false = grind (arith, common_steps) in rw other refl
changed-at (suc i) (suc j) now (s ∷ clocks) low =
    let same : (suc j == suc i) ≡ (j == i) = grind (arith, common_steps) in rw same (changed-at i j now clocks (omega (arith, low)))

kept-stamp : (cursor now b k : ℕ) (clocks : List (Option ℕ)) → cursor ≤ b → b - cursor < length clocks →
    stamp_of (stamps_from cursor (changed (b - cursor) (first_stamp now) clocks)) k ≡ stamped_by b now (stamp_of (stamps_from cursor clocks)) k
kept-stamp cursor now b k clocks low there =
    (elim (nat_lt k cursor) as (λ c. nat_lt k cursor ≡ c → stamp_of (stamps_from cursor (changed (b - cursor) (first_stamp now) clocks)) k ≡ stamped_by b now (stamp_of (stamps_from cursor clocks)) k) [
      | true ↦ λ e.
          let early = ltb-true k cursor e in
          let other : (k == b) ≡ false = grind (arith, common_steps, early, low) in
          rw other (stamp-before cursor (changed (b - cursor) (first_stamp now) clocks) k early ∙ sym (stamp-before cursor clocks k early))
      | false ↦ λ e.
          let late = ltb-false k cursor e in
          let place : k ≡ cursor + (k - cursor) = omega (arith, late) in
          let same : (k - cursor == b - cursor) ≡ (k == b) = same-place late in
          let here = stamp-at cursor clocks (k - cursor) k place in
          stamp-at cursor (changed (b - cursor) (first_stamp now) clocks) (k - cursor) k place ∙ changed-at (b - cursor) (k - cursor) now clocks there
          ∙ ap (λ (c : Bool). if c then first_stamp now (nth None clocks (k - cursor)) else nth None clocks (k - cursor)) same
          ∙ ap (λ (o : Option ℕ). if k == b then first_stamp now o else o) (sym here)
    ]) refl
  where
    same-place : cursor ≤ k → (k - cursor == b - cursor) ≡ (k == b)
    same-place late =
        (elim (k == b) as (λ c. (k == b) ≡ c → (k - cursor == b - cursor) ≡ c) [
          | true ↦ λ e. let one : k - cursor ≡ b - cursor = let equal : k ≡ b = grind (arith, common_steps, e) in omega (arith, equal) in grind (arith, common_steps, one)
          | false ↦ λ e. grind (arith, common_steps, e, late, low)
        ]) refl

length-stamped : (cursor now b : ℕ) (clocks : List (Option ℕ)) → length (stamped_at cursor now clocks b) ≡ length clocks
length-stamped cursor now b clocks =
    (elim (nat_lt b cursor) as (λ c. length (if c then clocks else changed (b - cursor) (first_stamp now) clocks) ≡ length clocks) [
      | true ↦ refl
      | false ↦ length-changed (b - cursor) (first_stamp now) clocks
    ])

one-stamp : (cursor now b : ℕ) (clocks : List (Option ℕ)) (st : Stamps) → b - cursor < length clocks → ((k : ℕ) → stamp_of (stamps_from cursor clocks) k ≡ stamp_of st k) →
    (k : ℕ) → stamp_of (stamps_from cursor (stamped_at cursor now clocks b)) k ≡ stamp_of (with_stamp cursor now st b) k
one-stamp cursor now b clocks st there h k =
    (elim (nat_lt b cursor) as (λ c. nat_lt b cursor ≡ c → stamp_of (stamps_from cursor (stamped_at cursor now clocks b)) k ≡ stamp_of (with_stamp cursor now st b) k) [
      | true ↦ λ e. rw e (h k)
      | false ↦ λ e.
          let low = ltb-false b cursor e in
          let kept : stamp_of (stamps_from cursor (stamped_at cursor now clocks b)) k ≡ stamped_by b now (stamp_of (stamps_from cursor clocks)) k = rw e (kept-stamp cursor now b k clocks low there) in
          kept ∙ ap (λ (o : Option ℕ). if k == b then first_stamp now o else o) (h k) ∙ sym (plain-stamp cursor now st b k low)
    ]) refl

-- the tuples taken stamp their buckets
all-stamps : (width cursor now : ℕ) (ts : List Tuple) (clocks : List (Option ℕ)) (st : Stamps) → All (λ (t : Tuple). t.stime / width - cursor < length clocks) ts →
    ((k : ℕ) → stamp_of (stamps_from cursor clocks) k ≡ stamp_of st k) → (k : ℕ) →
    stamp_of (stamps_from cursor (stamped width cursor now clocks (map (λ (t : Tuple). t.stime) ts))) k ≡ stamp_of (with_stamps width cursor now st ts) k
all-stamps width cursor now [] clocks st far h k = h k
all-stamps width cursor now (t ∷ ts) clocks st far h k =
    let b = t.stime / width in
    let near = All-head (λ (u : Tuple). u.stime / width - cursor < length clocks) t ts far in
    let same = length-stamped cursor now b clocks in
    let rest = All-weaker (λ (u : Tuple). u.stime / width - cursor < length clocks) (λ (u : Tuple). u.stime / width - cursor < length (stamped_at cursor now clocks b)) (λ u low. omega (arith, same, low)) ts
    (All-tail (λ (u : Tuple). u.stime / width - cursor < length clocks) t ts far) in
    all-stamps width cursor now ts (stamped_at cursor now clocks b) (with_stamp cursor now st b) rest (one-stamp cursor now b clocks st near h) k

-- ---- what holds of the tuples of all items holds of those taken

tail-all : (P : Tuple → Type 0) (i : Item) (items : List Item) → All P (tuples_in (i ∷ items)) → All P (tuples_in items)
tail-all P (Stable k t) items h = All-tail P t (tuples_in items) h
tail-all P (Tentative t) items h = All-tail P t (tuples_in items) h
tail-all P (Passed b) items h = h
tail-all P (Boundary b m) items h = h
tail-all P (Undo n) items h = h
tail-all P RecDone items h = h

more-all : (P : Tuple → Type 0) (i : Item) (items rest : List Item) → All P (tuples_in (i ∷ items)) → All P (tuples_in rest) → All P (tuples_in (i ∷ rest))
more-all P (Stable k t) items rest h r = All-cons P t (tuples_in rest) (All-head P t (tuples_in items) h) r
more-all P (Tentative t) items rest h r = All-cons P t (tuples_in rest) (All-head P t (tuples_in items) h) r
more-all P (Passed b) items rest h r = r
more-all P (Boundary b m) items rest h r = r
more-all P (Undo n) items rest h r = r
more-all P RecDone items rest h r = r

-- of what is taken, where something is
abbrev AllTaken : (Tuple → Type 0) → Option Folded → Type 0
AllTaken P None = Unit {0}
AllTaken P (Some f) = All P (tuples_in f.taken)

fold-all : (P : Tuple → Type 0) (r : Reader) (items : List Item) → All P (tuples_in items) → AllTaken P (fold_items r items)
fold-all P r [] h = All-nil P
fold-all P r (i ∷ items) h =
    let next : Reading → Option Folded = λ w. elim w [ NoReading ↦ None | Skipped ↦ fold_items r items | IsTakenAs s ↦ taken_first i (fold_items s items) ] in
    (elim (reading r i) as (λ w. AllTaken P (next w)) [
      | NoReading ↦ tt
      | Skipped ↦ fold-all P r items (tail-all P i items h)
      | IsTakenAs s ↦ first (fold_items s items) (fold-all P s items (tail-all P i items h))
    ])
  where
    first : (o : Option Folded) → AllTaken P o → AllTaken P (taken_first i o)
    first None g = tt
    first (Some f) g = more-all P i items f.taken h g

abbrev AllUsed : (Tuple → Type 0) → Taken → Type 0
AllUsed P (taken_as.Used items) = All P (tuples_in items)
AllUsed P taken_as.Old = Unit {0}
AllUsed P taken_as.Broken = Unit {0}

used-all : (P : Tuple → Type 0) (y : InletState) (s : Sess) (index : ℕ) (items : List Item) → All P (tuples_in items) → AllUsed P (take_batch y s index items).answer
unfolding take_batch
used-all P y s index items h =
    (elim (is_old y s index) as (λ c. AllUsed P (if c then record { after = y; answer = taken_as.Old } else (if y.broken || nat_lt y.next index then after_missing_batch y else after_next_batch y (fold_items y.held items))).answer) [
      | true ↦ tt
      | false ↦
          (elim (y.broken || nat_lt y.next index) as (λ c. AllUsed P (if c then after_missing_batch y else after_next_batch y (fold_items y.held items)).answer) [
            | true ↦ tt
            | false ↦ next (fold_items y.held items) (fold-all P y.held items h)
          ])
    ])
  where
    next : (o : Option Folded) → AllTaken P o → AllUsed P (after_next_batch y o).answer
    next None g = tt
    next (Some f) g = g

-- ---- the whole step

-- what the places become, and the verdict, by the inlet's answer
abbrev pub places_after : ℕ → ℕ → ℕ → List (Option ℕ) → Absorbed → List (Option ℕ)
places_after width cursor now clocks (absorbed.Used times) = stamped width cursor now clocks times
places_after width cursor now clocks absorbed.Old = clocks
places_after width cursor now clocks absorbed.Broken = clocks

abbrev pub verdict_by : Absorbed → Verdict
verdict_by (absorbed.Used times) = verdict.Used
verdict_by absorbed.Old = verdict.Old
verdict_by absorbed.Broken = verdict.Broken

verdict-same : (told : Taken) → verdict_by (times_of told) ≡ verdict_of told
verdict-same (taken_as.Used items) = refl
verdict-same taken_as.Old = refl
verdict-same taken_as.Broken = refl

stamps-same : (width now : ℕ) (clocks : List (Option ℕ)) (x : Inputs) (told : Taken) → AllUsed (λ (t : Tuple). t.stime / width - x.cursor < length clocks) told →
    ((k : ℕ) → stamp_of (stamps_from x.cursor clocks) k ≡ stamp_of x.stamps k) → (k : ℕ) →
    stamp_of (stamps_from x.cursor (places_after width x.cursor now clocks (times_of told))) k ≡ stamp_of (stamps_after width now told x) k
stamps-same width now clocks x (taken_as.Used items) far h k = all-stamps width x.cursor now (tuples_in items) clocks x.stamps far h k
stamps-same width now clocks x taken_as.Old far h k = h k
stamps-same width now clocks x taken_as.Broken far h k = h k

stands-set : (b i : ℕ) (v : InletValue) (x : InletState) (vs : List InletValue) (xs : List InletState) → StandsForInlet b v x → AllZip (StandsForInlet b) vs xs →
    AllZip (StandsForInlet b) (changed i (λ _. v) vs) (changed i (λ _. x) xs)
stands-set b i v x [] [] h z = tt
stands-set b i v x [] (y ∷ ys) h z = absurd z
stands-set b i v x (w ∷ ws) [] h z = absurd z
stands-set b zero v x (w ∷ ws) (y ∷ ys) h z = (h, z.1)
stands-set b (suc i) v x (w ∷ ws) (y ∷ ys) h z = (z.0, stands-set b i v x ws ys h z.1)

-- a port whose inlet is set, and other stamps
abbrev pub with_port : ℕ → InletValue → Stamps → SUnionValue → SUnionValue
with_port port inlet stamps v = record v { union = record v.union { inlets = changed port (λ _. inlet) v.union.inlets; stamps = stamps } }

pub accepted : (v : SUnionValue) (port : ℕ) (s : Sess) (index : ℕ) (items : List Item) (now : ℕ) (inlet : InletValue) (clocks : List (Option ℕ)) (answer : Absorbed) →
    port < length v.union.inlets → ((told : Taken) × (answer ≡ times_of told) × IsTaken s index items (nth no_value v.union.inlets port) inlet told) →
    All (λ (t : Tuple). t.stime / v.width - v.union.cursor < length clocks) (tuples_in items) → stamps_from v.union.cursor clocks ≡ v.union.stamps →
    IsAccepted port s index items now v (with_port port inlet (stamps_from v.union.cursor (places_after v.width v.union.cursor now clocks answer)) v) (verdict_by answer)
accepted v port s index items now inlet clocks answer low told far same = record {
  fixed = (refl, refl, refl);
  after = λ x h.
      let b = x.cursor * v.width in
      let t = taken_at port s index items x in
      let old = stands-at b port v.union.inlets x.inlets low h.inlets in
      let tells = take-tells b s index items (nth no_value v.union.inlets port) inlet told.0 (nth no_inlet x.inlets port) told.2 old in
      let cursor = h.cursor in
      let near : All (λ (t : Tuple). t.stime / v.width - x.cursor < length clocks) (tuples_in items) =
      subst (λ (n : ℕ). All (λ (t : Tuple). t.stime / v.width - n < length clocks) (tuples_in items)) cursor far in
      let used = used-all (λ (t : Tuple). t.stime / v.width - x.cursor < length clocks) (nth no_inlet x.inlets port) s index items near in
      let before : (k : ℕ) → stamp_of (stamps_from x.cursor clocks) k ≡ stamp_of x.stamps k =
      λ k. ap (λ (n : ℕ). stamp_of (stamps_from n clocks) k) (sym cursor) ∙ ap (λ (st : Stamps). stamp_of st k) same ∙ h.stamps k in
      record {
        inlets = stands-set b port inlet t.after v.union.inlets x.inlets (take-stands b s index items (nth no_value v.union.inlets port) inlet told.0 (nth no_inlet x.inlets port) told.2 old) h.inlets;
        stamps = λ k.
            ap (λ (a : Absorbed). stamp_of (stamps_from v.union.cursor (places_after v.width v.union.cursor now clocks a)) k) (told.1 ∙ ap times_of tells)
            ∙ ap (λ (n : ℕ). stamp_of (stamps_from n (places_after v.width n now clocks (times_of t.answer))) k) cursor
            ∙ stamps-same v.width now clocks x t.answer used before k;
        cursor = cursor;
        closed = h.closed;
      };
  answer = λ x h.
      let b = x.cursor * v.width in
      let old = stands-at b port v.union.inlets x.inlets low h.inlets in
      let tells = take-tells b s index items (nth no_value v.union.inlets port) inlet told.0 (nth no_inlet x.inlets port) told.2 old in
      ap verdict_by told.1 ∙ verdict-same told.0 ∙ ap verdict_of tells;
}
