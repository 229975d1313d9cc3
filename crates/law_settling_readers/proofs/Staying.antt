-- A reader that has a whole stream keeps it, whatever comes: what a batch carries lies within the run.
use Rattle.std.proofs.Common.{◌≡◌, ℕ, ◌≤◌, Bool, true, false, cond, ◌&&◌, ◌||◌, ◌==◌, nat_lt, nat_le, List, [], ◌∷◌, length, refl, sym, ap, subst, ◌∙◌, arith, Option, Some, None, inl, inr}
use Rattle.dpc_lists.specs.Lists.{list_all, push}
use Rattle.dpc_model.specs.Reading.{Reader, Reading, NoReading, Skipped, Taken, reading, is_sure, Folded, fold_items, taken_first}
use Rattle.dpc_model.specs.Inlets.{InletState, AfterBatch, is_old, take_batch, after_next_batch, after_missing_batch, after_tally, with_next_session}
use Rattle.dpc_model.specs.declared.batches.Taken.TheVariants.{Old}
use Rattle.dpc_model.specs.Actors.{role_of}
use Rattle.dpc_model.specs.Ports.{Port, without_ended_marks, must_reopen}
use Rattle.dpc_model.specs.declared.actors.Role.{Role}
use Rattle.dpc_model.specs.declared.tuples.Item.{Item}
use Rattle.dpc_model.specs.declared.tuples.Item.TheVariants.{Stable, Tentative, Passed, Boundary, Undo, RecDone}
use Rattle.dpc_model.specs.declared.messages.Sess.{Sess}
use Rattle.dpc_model.specs.declared.messages.Message.TheVariants as message
use Rattle.dpc_model.specs.declared.plans.Plan.{Plan}
use Rattle.dpc_model.specs.declared.plans.StreamRef.{StreamRef}
use Rattle.dpc_model.specs.declared.plans.StreamRef.TheVariants.{Frag}
use Rattle.dpc_model.specs.declared.scripts.Script.{Script}
use Rattle.node_model.specs.Mails.{Packet, Plain, SnapFor}
use Rattle.world_model.specs.Orderly.{item_fits, items_carried, carries_fitting, packet_way, is_fitting}
use Rattle.world_model.specs.Worlds.{happens}
use Rattle.dpc_lists.proofs.Truths.{both, lt-of, le-of}
use Rattle.law_safety.proofs.Numbering.{all-at}
use Rattle.law_settling.proofs.Fresh.{HasWhole}
use Rattle.law_settling.proofs.Rules.{Keeps}
use Rattle.law_settling.proofs.Ticking.{before_choice}
use Rattle.law_settling.proofs.PortExact.{port_after}
use Rattle.law_settling.proofs.PortGoing.{PortGoes}
use Rattle.law_settling_readers.proofs.Reading.{IsSeen}
use Rattle.law_settling_readers.proofs.Freshly.{port-next, sender-node, plan-sends}
use Rattle.law_settling_readers.proofs.Freshening.{takes-sends}

abbrev pub IsWhole : Plan → Reader → Type 0
IsWhole plan r = (r.bound ≡ plan.end) × (is_sure r ≡ true)

abbrev ReadingWhole : Plan → Reading → Type 0
ReadingWhole plan NoReading = Unit {0}
ReadingWhole plan Skipped = Unit {0}
ReadingWhole plan (Taken s) = IsWhole plan s

-- what lies within the run is not past its end
not-past : (b low end : ℕ) → b ≡ end → low ≤ end → nat_lt b low ≡ false
not-past b low end same less = by-test (nat_lt b low) refl
  where
    by-test : (c : Bool) → nat_lt b low ≡ c → nat_lt b low ≡ false
    by-test false e = e
    by-test true e = let more = lt-of b low e in absurd (omega (arith, same, less, more))

reading-whole : (plan : Plan) (s : StreamRef) (r : Reader) (i : Item) → item_fits plan s i ≡ true → IsWhole plan r → ReadingWhole plan (reading r i)
reading-whole plan s r (Stable k t) fits h = elim (nat_lt k (length r.stable)) as (λ b. ReadingWhole plan (cond b Skipped (cond (k == length r.stable && is_sure r) (Taken (record r { stable = push r.stable t })) NoReading))) [
  | true ↦ tt
  | false ↦ elim (k == length r.stable && is_sure r) as (λ b. ReadingWhole plan (cond b (Taken (record r { stable = push r.stable t })) NoReading)) [ true ↦ h | false ↦ tt ]
]
reading-whole plan s r (Tentative t) fits h =
    (elim (nat_le r.bound t.stime) as (λ b. nat_le r.bound t.stime ≡ b → ReadingWhole plan (cond b (Taken (record r { tentative = push r.tentative t })) Skipped)) [
      | false ↦ λ e. tt
      | true ↦ λ e.
          let below = lt-of t.stime plan.end (both (nat_lt t.stime plan.end) _ fits).0 in
          let past = le-of r.bound t.stime e in
          let end = h.0 in absurd (omega (arith, below, past, end))
    ]) refl
reading-whole plan s r (Passed b) fits h =
    let low = le-of b plan.end (both plan.passing (nat_le b plan.end) fits).1 in
    let none = not-past r.bound b plan.end h.0 low in
    subst (λ (c : Bool). ReadingWhole plan (cond (c && nat_lt r.passed b) (Taken (record r { passed = b })) Skipped)) (sym none) tt
reading-whole plan s r (Boundary b m) fits h =
    let none = not-past r.bound b plan.end h.0 (le-of b plan.end fits) in
    subst (λ (c : Bool). ReadingWhole plan (cond (nat_le m (length r.stable) && is_sure r) (cond c (Taken (record r { bound = b })) Skipped) NoReading)) (sym none)
    (elim (nat_le m (length r.stable) && is_sure r) as (λ c. ReadingWhole plan (cond c Skipped NoReading)) [ true ↦ tt | false ↦ tt ])
reading-whole plan s r (Undo n) fits h = (h.0, refl)
reading-whole plan s r RecDone fits h = elim (is_sure r) as (λ b. ReadingWhole plan (cond b (Taken r) NoReading)) [ true ↦ h | false ↦ tt ]

abbrev FoldWhole : Plan → Option Folded → Type 0
FoldWhole plan None = Unit {0}
FoldWhole plan (Some g) = IsWhole plan g.after

first-whole-too : (plan : Plan) (i : Item) (o : Option Folded) → FoldWhole plan o → FoldWhole plan (taken_first i o)
first-whole-too plan i None h = tt
first-whole-too plan i (Some g) h = h

fold-whole : (plan : Plan) (s : StreamRef) (r : Reader) (items : List Item) → list_all (item_fits plan s) items ≡ true → IsWhole plan r → FoldWhole plan (fold_items r items)
fold-whole plan s r [] fits h = h
fold-whole plan s r (i ∷ items) fits h =
    let p = both (item_fits plan s i) (list_all (item_fits plan s) items) fits in
    let rest = p.1 in
    elim (reading r i) as (λ y. ReadingWhole plan y → FoldWhole plan (elim y [ NoReading ↦ None | Skipped ↦ fold_items r items | Taken t ↦ taken_first i (fold_items t items) ])) [
      | NoReading ↦ λ g. tt
      | Skipped ↦ λ g. fold-whole plan s r items rest h
      | Taken t ↦ λ g. first-whole-too plan i (fold_items t items) (fold-whole plan s t items rest g)
    ] (reading-whole plan s r i p.0 h)

next-whole : (plan : Plan) (inlet : InletState) (o : Option Folded) → IsWhole plan inlet.held → FoldWhole plan o → IsWhole plan (after_next_batch inlet o).after.held
next-whole plan inlet None h g = h
next-whole plan inlet (Some y) h g = g

take-whole : (plan : Plan) (s : StreamRef) (inlet : InletState) (u : Sess) (index : ℕ) (items : List Item) → list_all (item_fits plan s) items ≡ true → IsWhole plan inlet.held → IsWhole plan (take_batch inlet u index items).after.held
unfolding take_batch
take-whole plan s inlet u index items fits h =
    elim (is_old inlet u index) as (λ b. IsWhole plan (cond {A = AfterBatch} b (record { after = inlet; answer = Old }) (cond (inlet.broken || nat_lt inlet.next index) (after_missing_batch inlet) (after_next_batch inlet (fold_items inlet.held items)))).after.held) [
      | true ↦ h
      | false ↦ elim (inlet.broken || nat_lt inlet.next index) as (λ b. IsWhole plan (cond b (after_missing_batch inlet) (after_next_batch inlet (fold_items inlet.held items))).after.held) [
        | true ↦ h
        | false ↦ next-whole plan inlet (fold_items inlet.held items) h (fold-whole plan s inlet.held items fits h)
      ]
    ]

taken-whole : (plan : Plan) (s : StreamRef) (i : ℕ) (packet : Packet) (y : Port) → list_all (item_fits plan s) (items_carried packet) ≡ true → IsWhole plan y.inlet.held → IsWhole plan (port_after i packet y).inlet.held
taken-whole plan s i (Plain (message.Batch u index items)) y fits h =
    elim (y.chosen == i) as (λ b. IsWhole plan (cond b (record y { inlet = (take_batch y.inlet u index items).after }) y).inlet.held) [ true ↦ take-whole plan s y.inlet u index items fits h | false ↦ h ]
taken-whole plan s i (Plain (message.Truncated u base)) y fits h = h
taken-whole plan s i (Plain (message.Beat b)) y fits h = elim (i == y.chosen) as (λ c. IsWhole plan (cond c (after_tally y.inlet b.tally) y.inlet).held) [ true ↦ h | false ↦ h ]
taken-whole plan s i (Plain (message.Subscribe asked)) y fits h = h
taken-whole plan s i (Plain (message.Ack j n)) y fits h = h
taken-whole plan s i (Plain (message.Ask j n)) y fits h = h
taken-whole plan s i (Plain (message.Grant j n)) y fits h = h
taken-whole plan s i (Plain (message.SnapAsk j n)) y fits h = h
taken-whole plan s i (SnapFor j try snap) y fits h = h

-- the whole stays
pub whole-kept : (script : Script) (x p f k : ℕ) → Keeps script (IsSeen script x p f k) (HasWhole script x p)
whole-kept script x p f k z e may h =
    let n = port-next script x p f k z e may h.port h.there in
    let whole = by-goes n.0 n.2 in
    record { port = n.0; there = n.1; bound = whole.0; sure = whole.1 }
  where
    by-goes : (r : Port) → PortGoes z.world x p (Frag f) e (happens z.world e) h.port r → IsWhole script.plan r.inlet.held
    by-goes r (PortGoes.Rests (inl is)) = subst (λ (q : Port). IsWhole script.plan q.inlet.held) (sym is) (h.bound, h.sure)
    by-goes r (PortGoes.Rests (inr is)) = subst (λ (q : Port). IsWhole script.plan q.inlet.held) (sym is) (h.bound, h.sure)
    by-goes r (PortGoes.TakesIn j i g event at to place is lost) =
        let st = may.here.stand in
        let sends = plan-sends script x p f k z may.here g.sender (takes-sends script x p f k z may.here g.sender i place) in
        let node = sender-node script x p f k z may.here g.sender sends in
        let fits = (both (packet_way z.world.plan (role_of z.world.plan g.sender) (role_of z.world.plan g.to) g.packet) (carries_fitting z.world.plan (role_of z.world.plan g.sender) g.packet) (all-at (is_fitting z.world.plan) z.world.envelopes j g st.fine.fits at)).1 in
        let carried : list_all (item_fits z.world.plan (Frag f)) (items_carried g.packet) ≡ true = ap (λ (role : Role). carries_fitting z.world.plan role g.packet) (sym node.2) ∙ fits in
        subst (λ (q : Port). IsWhole script.plan q.inlet.held) (sym is)
        (taken-whole script.plan (Frag f) i g.packet (without_ended_marks h.port) (subst (λ (pl : Plan). list_all (item_fits pl (Frag f)) (items_carried g.packet) ≡ true) st.of_plan carried) (h.bound, h.sure))
    by-goes r (PortGoes.TicksOn clock event ticked) =
        subst (λ (q : Port). IsWhole script.plan q.inlet.held) (sym ticked.port)
        (elim (must_reopen (before_choice h.port)) as (λ b. IsWhole script.plan (cond b (with_next_session h.port.inlet) h.port.inlet).held) [ true ↦ (h.bound, h.sure) | false ↦ (h.bound, h.sure) ])
