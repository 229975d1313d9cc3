-- A node takes a batch.
use Rattle.std.proofs.Common.{◌≡◌, ℕ, ◌*◌, ◌≤◌, true, false, cond, ◌&&◌, ◌||◌, nat_lt, nat_le, nat_eq as eqb, List, [], ◌∷◌, length, refl, sym, ◌∙◌, arith, Option, Some, None, slice_get, ◌⊎◌, inl, inr}
use Rattle.dpc_lists.specs.Lists.{list_all, push}
use Rattle.dpc_model.specs.Reading.{Reader, NoReading, Skipped, Taken, reading, is_sure, Folded, fold_items, taken_first, tuples_in}
use Rattle.dpc_model.specs.Inlets.{InletState, AfterBatch, take_batch, is_old, after_missing_batch, after_next_batch}
use Rattle.dpc_model.specs.declared.batches.Taken.{Taken as Answer}
use Rattle.dpc_model.specs.declared.batches.Taken.TheVariants.{Used, Old, Broken}
use Rattle.dpc_model.specs.declared.tuples.Item.{Item}
use Rattle.dpc_model.specs.declared.tuples.Item.TheVariants.{Stable, Tentative, Passed, Boundary, Undo, RecDone}
use Rattle.dpc_model.specs.declared.messages.Sess.{Sess}
use Rattle.dpc_model.specs.Due.{with_stamps}
use Rattle.dpc_model.specs.Ports.{Port, held_at}
use Rattle.dpc_model.specs.declared.plans.Plan.{Plan}
use Rattle.dpc_model.specs.declared.plans.StreamRef.{StreamRef}
use Rattle.node_model.specs.Nodes.{Home, PlainNode, streams_of, out_stable}
use Rattle.node_model.specs.NodeSteps.{with_port, with_stamps_of, after_taking}
use Rattle.world_model.specs.Safe.{HoldsOf, AreTrueItems}
use Rattle.world_model.specs.Orderly.{is_port_sound, item_fits}
use Rattle.law_safety.proofs.Milling.{IsSafeNode-same}
use Rattle.law_safety.proofs.Holding.{take_batch-holds}
use Rattle.law_safety.specs.Plans.{IsPlace}
use Rattle.dpc_lists.proofs.Truths.{lt-of}
use Rattle.dpc_lists.proofs.Somes.{some-same}
use Rattle.law_safety.proofs.SoundPorts.{port-of, port-test}
use Rattle.law_safety.proofs.Frames.{IsGood}
use Rattle.law_safety.proofs.Taking.{TookSoundly, take_batch-sound, stamps-taken, tuples-below}
use Rattle.law_safety.proofs.Pointwise.{safe-grown, holds-changed, reaches-changed, ports-changed}

reading-bound : (r r' : Reader) (i : Item) → reading r i ≡ Taken r' → r.bound ≤ r'.bound
reading-bound r r' (Stable k t) e =
    (elim (nat_lt k (length r.stable)) as (λ b. cond b Skipped (cond (eqb k (length r.stable) && is_sure r) (Taken (record r { stable = push r.stable t })) NoReading) ≡ Taken r' → r.bound ≤ r'.bound) [
      | true ↦ λ f. cc
      | false ↦ elim (eqb k (length r.stable) && is_sure r) as (λ b. cond b (Taken (record r { stable = push r.stable t })) NoReading ≡ Taken r' → r.bound ≤ r'.bound) [
        | true ↦ λ f. let same : r' ≡ record r { stable = push r.stable t } = cc in rw same (omega arith)
        | false ↦ λ f. cc
      ]
    ]) e
reading-bound r r' (Tentative t) e =
    (elim (nat_le r.bound t.stime) as (λ b. cond b (Taken (record r { tentative = push r.tentative t })) Skipped ≡ Taken r' → r.bound ≤ r'.bound) [
      | true ↦ λ f. let same : r' ≡ record r { tentative = push r.tentative t } = cc in rw same (omega arith)
      | false ↦ λ f. cc
    ]) e
reading-bound r r' (Passed b) e =
    (elim (nat_lt r.bound b && nat_lt r.passed b) as (λ c. cond c (Taken (record r { passed = b })) Skipped ≡ Taken r' → r.bound ≤ r'.bound) [
      | true ↦ λ f. let same : r' ≡ record r { passed = b } = cc in rw same (omega arith)
      | false ↦ λ f. cc
    ]) e
reading-bound r r' (Boundary b m) e =
    (elim (nat_le m (length r.stable) && is_sure r) as (λ c. cond c (cond (nat_lt r.bound b) (Taken (record r { bound = b })) Skipped) NoReading ≡ Taken r' → r.bound ≤ r'.bound) [
      | false ↦ λ f. cc
      | true ↦ (elim (nat_lt r.bound b) as (λ c. nat_lt r.bound b ≡ c → cond c (Taken (record r { bound = b })) Skipped ≡ Taken r' → r.bound ≤ r'.bound) [
        | false ↦ λ g f. cc
        | true ↦ λ g f. let same : r' ≡ record r { bound = b } = cc in let more = lt-of r.bound b g in rw same (omega (arith, more))
      ]) refl
    ]) e
reading-bound r r' (Undo n) e = let same : r' ≡ record r { tentative = []; passed = 0 } = cc in rw same (omega arith)
reading-bound r r' RecDone e =
    (elim (is_sure r) as (λ c. cond c (Taken r) NoReading ≡ Taken r' → r.bound ≤ r'.bound) [
      | true ↦ λ f. let same : r' ≡ r = cc in rw same (omega arith)
      | false ↦ λ f. cc
    ]) e

fold_items-bound : (r : Reader) (items : List Item) (f : Folded) → fold_items r items ≡ Some f → r.bound ≤ f.after.bound
fold_items-bound r [] f e = let same : f ≡ record { after = r; taken = [] } = cc in rw same (omega arith)
fold_items-bound r (i ∷ items) f e =
    (elim (reading r i) as (λ x. reading r i ≡ x → elim x [ NoReading ↦ None | Skipped ↦ fold_items r items | Taken r' ↦ taken_first i (fold_items r' items) ] ≡ Some f → r.bound ≤ f.after.bound) [
      | NoReading ↦ λ g d. cc
      | Skipped ↦ λ g d. fold_items-bound r items f d
      | Taken r' ↦ λ g d.
          (elim (fold_items r' items) as (λ o. fold_items r' items ≡ o → taken_first i o ≡ Some f → r.bound ≤ f.after.bound) [
            | None ↦ λ q d'. cc
            | Some g' ↦ λ q d'.
                let same : f ≡ record g' { taken = i ∷ g'.taken } = cc in
                let first = reading-bound r r' i g in
                let rest = fold_items-bound r' items g' q in
                rw same (omega (arith, first, rest))
          ]) refl d
    ]) refl e

used-bound : (inlet : InletState) (items : List Item) (o : Option Folded) → fold_items inlet.held items ≡ o → inlet.held.bound ≤ (after_next_batch inlet o).after.held.bound
used-bound inlet items None e = omega arith
used-bound inlet items (Some f) e = fold_items-bound inlet.held items f e

pub take_batch-bound : (inlet : InletState) (u : Sess) (index : ℕ) (items : List Item) → inlet.held.bound ≤ (take_batch inlet u index items).after.held.bound
unfolding take_batch
take_batch-bound inlet u index items =
    elim (is_old inlet u index) as (λ c. inlet.held.bound ≤ (cond c (record { after = inlet; answer = Old }) (cond (inlet.broken || nat_lt inlet.next index) (after_missing_batch inlet) (after_next_batch inlet (fold_items inlet.held items)))).after.held.bound) [
      | true ↦ omega arith
      | false ↦ elim (inlet.broken || nat_lt inlet.next index) as (λ c. inlet.held.bound ≤ (cond c (after_missing_batch inlet) (after_next_batch inlet (fold_items inlet.held items))).after.held.bound) [
        | true ↦ omega arith
        | false ↦ used-bound inlet items (fold_items inlet.held items) refl
      ]
    ]

-- a broken inlet takes nothing
pub take_batch-broken : (inlet : InletState) (u : Sess) (index : ℕ) (items : List Item) → inlet.broken ≡ true →
    (take_batch inlet u index items ≡ record { after = inlet; answer = Old }) ⊎ (take_batch inlet u index items ≡ record { after = inlet; answer = Broken })
unfolding take_batch
take_batch-broken inlet u index items e =
    elim (is_old inlet u index) as (λ c. (cond c (record { after = inlet; answer = Old }) (cond (inlet.broken || nat_lt inlet.next index) (after_missing_batch inlet) (after_next_batch inlet (fold_items inlet.held items))) ≡ record { after = inlet; answer = Old })
    ⊎ (cond c (record { after = inlet; answer = Old }) (cond (inlet.broken || nat_lt inlet.next index) (after_missing_batch inlet) (after_next_batch inlet (fold_items inlet.held items))) ≡ record { after = inlet; answer = Broken })) [
      | true ↦ inl refl
      | false ↦ inr (rw e refl)
    ]

-- ---- the node

-- the answer's tuples stamp their buckets
stamped-good : (home : Home) (most : ℕ) (s : StreamRef) (answer : Answer) (n : PlainNode) → IsPlace home → n.recovering ≡ false →
    ((items : List Item) → answer ≡ Used items → list_all (item_fits home.plan s) items ≡ true) → IsGood home most n → IsGood home most (with_stamps_of home answer n)
unfolding out_stable
stamped-good home most s (Used items) n place up fits g =
    let o = g.orderly in
    record {
      safe = IsSafeNode-same home n (record n { stamps = with_stamps home.plan.width n.cursor n.clock n.stamps (tuples_in items) }) refl refl refl refl g.safe;
      orderly = record {
        ports = o.ports;
        state = o.state;
        recovering = rw up refl;
        closed = o.closed;
        stamps = stamps-taken home.plan n.cursor n.clock n.stamps (tuples_in items) place.checked (tuples-below home.plan s items (fits items refl)) o.stamps;
        base = o.base;
        shape = o.shape;
      };
    }
stamped-good home most s Old n place up fits g = g
stamped-good home most s Broken n place up fits g = g

-- one port of a node that does not recover is changed
pub port-good : (home : Home) (most p : ℕ) (s : StreamRef) (f : Port → Port) (n : PlainNode) → IsPlace home → n.recovering ≡ false → slice_get (streams_of home) p ≡ Some s →
    ((q : Port) → slice_get n.ports p ≡ Some q → HoldsOf home.plan s (held_at q) → HoldsOf home.plan s (held_at (f q))) →
    ((q : Port) → slice_get n.ports p ≡ Some q → (held_at q).bound ≤ (held_at (f q)).bound) →
    ((q : Port) → slice_get n.ports p ≡ Some q → is_port_sound home.plan s n.grants.inc most q ≡ true → is_port_sound home.plan s n.grants.inc most (f q) ≡ true) →
    IsGood home most n → IsGood home most (with_port p f n)
port-good home most p s f n place up at holds grows sound g =
    let m = with_port p f n in
    let o = g.orderly in
    let safe = safe-grown home n m place (holds-changed home.plan p s f (streams_of home) n.ports at holds g.safe.inputs)
    (reaches-changed (n.cursor * home.plan.width) p f n.ports grows) refl refl refl g.safe in
    let same : out_stable home m ≡ out_stable home n = (safe.output up).output ∙ sym (g.safe.output up).output in
    record {
      safe = safe;
      orderly = record {
        ports = ports-changed home.plan n.grants.inc most p s f (streams_of home) n.ports at sound o.ports;
        state = o.state;
        recovering = rw up refl;
        closed = o.closed;
        stamps = o.stamps;
        base = λ e. rw same (o.base up);
        shape = o.shape;
      };
    }

-- a port whose inlet took a batch
pub took-sound : (plan : Plan) (s : StreamRef) (i most : ℕ) (q : Port) (t : AfterBatch) → TookSoundly plan s q.inlet t → is_port_sound plan s i most q ≡ true → is_port_sound plan s i most (record q { inlet = t.after }) ≡ true
took-sound plan s i most q t h sound =
    let p = port-of plan s i most q sound in
    port-test plan s i most (record q { inlet = t.after })
    (record { past = h.reader.past; inc = rw h.sess p.inc; number = rw h.sess p.number; watches = p.watches; chosen = p.chosen; fits = h.reader.fits })

pub took-good : (home : Home) (most p : ℕ) (s : StreamRef) (q : Port) (u : Sess) (index : ℕ) (items : List Item) (n : PlainNode) → IsPlace home → n.recovering ≡ false →
    slice_get (streams_of home) p ≡ Some s → slice_get n.ports p ≡ Some q → AreTrueItems home.plan s items → list_all (item_fits home.plan s) items ≡ true →
    is_port_sound home.plan s n.grants.inc most q ≡ true → IsGood home most n → IsGood home most (after_taking home p (take_batch q.inlet u index items) n)
took-good home most p s q u index items n place up at there truth fits sound g =
    let t = take_batch q.inlet u index items in
    let k = port-of home.plan s n.grants.inc most q sound in
    let taken = take_batch-sound home.plan s q.inlet u index items (record { past = k.past; fits = k.fits }) fits in
    let same : (x : Port) → slice_get n.ports p ≡ Some x → x ≡ q = λ x e. some-same x q (sym e ∙ there) in
    stamped-good home most s t.answer (with_port p (λ x. record x { inlet = t.after }) n) place up taken.answer
    (port-good home most p s (λ x. record x { inlet = t.after }) n place up at
    (λ x e h. take_batch-holds home.plan s q.inlet u index items (rw (same x e) at h) truth)
    (λ x e. rw (same x e) (take_batch-bound q.inlet u index items))
    (λ x e h. rw (same x e) (took-sound home.plan s n.grants.inc most q t taken sound)) g)
