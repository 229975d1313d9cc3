-- The promises of every run, each from what is safe.
use Rattle.std.proofs.Common.{◌≡◌, ℕ, zero, suc, ◌+◌, ◌-◌, Bool, true, false, cond, List, [], ◌∷◌, ◌++◌, length, drop, refl, sym, ap, subst, ◌∙◌, arith, Option, Some, None, slice_get, unwrap_or}
use Rattle.std.specs.Prelude.{IfSome, IsSomeAnd}
use Rattle.dpc_lists.specs.Lists.{changed}
use Rattle.dpc_model.specs.Reading.{Reader, empty_reader, is_sure, NoReading, Skipped, Taken, reading, taken_first, Folded, fold_items}
use Rattle.dpc_model.specs.Actors.{role_of, nodes_of}
use Rattle.dpc_model.specs.declared.actors.Role.{Role}
use Rattle.dpc_model.specs.declared.actors.Role.TheVariants.{Source as IsSource, Node as IsNode, Client as IsClient, Nobody}
use Rattle.dpc_model.specs.Ports.{Port}
use Rattle.dpc_model.specs.declared.tuples.Tuple.{Tuple}
use Rattle.dpc_model.specs.declared.tuples.Item.{Item}
use Rattle.dpc_model.specs.declared.tuples.Item.TheVariants.{RecDone}
use Rattle.dpc_model.specs.declared.messages.Event.{Event}
use Rattle.dpc_model.specs.declared.messages.Event.TheVariants.{Tick}
use Rattle.dpc_model.specs.declared.plans.Plan.{Plan}
use Rattle.dpc_model.specs.declared.plans.StreamRef.{StreamRef}
use Rattle.dpc_model.specs.NodeStates.{is_stabilization}
use Rattle.node_model.specs.Nodes.{Home, PlainNode, streams_of, due_at}
use Rattle.node_model.specs.NodeSteps.{tick_step}
use Rattle.node_model.specs.Clients.{ClientState}
use Rattle.world_model.specs.Worlds.{World, Envelope, Slot, home_of, node_place, slot_of, is_clock, node_ticks, node_stepped, ticks, happens, run}
use Rattle.world_model.specs.Safe.{IsTrueEnvelope, HoldsOf, packet_done, IsDone, SendsDoneSurely, Serves, ServesAt}
use Rattle.law_safety.specs.Plans.{IsCheckedPlan}
use Rattle.law_safety.specs.Holders.{Holder, AtClient, AtPort, client_holds, port_holds, node_holds, role_holds, holding}
use Rattle.law_safety.specs.Promises.{AllSentIsTrue, ReadersAreRight, OutputsAreRight, DoneLeavesNothing, DoneIsSurelySent, NoneWaits}
use Rattle.world_model.proofs.Running.{run-push}
use Rattle.dpc_lists.proofs.Elements.{get-drop, get-changed}
use Rattle.dpc_lists.proofs.Somes.{some-same}
use Rattle.law_safety.proofs.Outputs.{cut-held}
use Rattle.law_safety.proofs.Frames.{IsGood}
use Rattle.law_safety.proofs.Pointwise.{holds-at}
use Rattle.law_safety.proofs.Numbering.{node-at}
use Rattle.law_safety.proofs.Clienting.{IsGoodClient}
use Rattle.law_safety.proofs.Worlding.{AreGoodClients, slots-at, true-at}
use Rattle.law_safety.proofs.Happening.{IsFine, happens-next, happens-serves, node-here}
use Rattle.law_safety.proofs.Law.{run-good}

-- ---- what was sent

pub sent-true : (plan : Plan) (events : List Event) → IsCheckedPlan plan → AllSentIsTrue plan events
sent-true plan events checked k e there =
    let g = run-good plan events checked in
    subst (λ (p : Plan). IsTrueEnvelope p e) g.of_plan (true-at (run plan events).plan (run plan events).envelopes k e g.fine.sent there)

-- ---- readers

-- what is told of a holder holds
abbrev pub Holds : Plan → Option (StreamRef × Reader) → Type 0
Holds plan None = Unit {0}
Holds plan (Some x) = HoldsOf plan x.0 x.1

clients-get : (plan : Plan) (most c i : ℕ) (xs : List ClientState) (x : ClientState) → AreGoodClients plan most c xs → slice_get xs i ≡ Some x → IsGoodClient plan (c + i) most x
clients-get plan most c i [] x h e = cc
clients-get plan most c zero (y ∷ xs) x h e = let none : c + 0 ≡ c = omega arith in let same : y ≡ x = cc in rw (none, ← same) h.0
clients-get plan most c (suc i) (y ∷ xs) x h e = let next : c + suc i ≡ c + 1 + i = omega arith in rw next (clients-get plan most (c + 1) i xs x h.1 e)

client-good : (w : World) (most c : ℕ) (x : ClientState) → IsFine w most → slice_get w.clients c ≡ Some x → IsGoodClient w.plan c most x
client-good w most c x fine e = let zero_on : 0 + c ≡ c = omega arith in rw zero_on at (clients-get w.plan most 0 c w.clients x fine.clients e)

client-holds : (w : World) (most c : ℕ) (o : Option ClientState) → slice_get w.clients c ≡ o → IsFine w most → Holds w.plan (client_holds w c o)
client-holds w most c None e fine = tt
client-holds w most c (Some x) e fine = (client-good w most c x fine e).safe.holds

port-holds : (home : Home) (most p : ℕ) (n : PlainNode) (s : Option StreamRef) (q : Option Port) → slice_get (streams_of home) p ≡ s → slice_get n.ports p ≡ q → IsGood home most n → Holds home.plan (port_holds s q)
port-holds home most p n None q e f g = tt
port-holds home most p n (Some s) None e f g = tt
port-holds home most p n (Some s) (Some q) e f g = holds-at home.plan p s (streams_of home) n.ports q g.safe.inputs e f

role-holds : (w : World) (most a p : ℕ) (role : Role) → role_of w.plan a ≡ role → IsFine w most → Holds w.plan (role_holds w a p role)
role-holds w most a p (IsNode f r) e fine = by-node (slot_of w a).node refl
  where
    by-node : (o : Option PlainNode) → (slot_of w a).node ≡ o → Holds w.plan (node_holds (home_of w.plan (f, r)) p o)
    by-node None up = tt
    by-node (Some n) up = port-holds (home_of w.plan (f, r)) most p n (slice_get (streams_of (home_of w.plan (f, r))) p) (slice_get n.ports p) refl refl (node-here w most a f r n fine e up)
role-holds w most a p (IsSource s) e fine = tt
role-holds w most a p (IsClient c) e fine = tt
role-holds w most a p Nobody e fine = tt

pub holder-holds : (w : World) (most : ℕ) (h : Holder) → IsFine w most → Holds w.plan (holding w h)
holder-holds w most (AtClient c) fine = client-holds w most c (slice_get w.clients c) refl fine
holder-holds w most (AtPort a p) fine = role-holds w most a p (role_of w.plan a) refl fine

pub readers-right : (plan : Plan) (events : List Event) → IsCheckedPlan plan → ReadersAreRight plan events
readers-right plan events checked h s r e =
    let g = run-good plan events checked in
    let told = subst (λ (o : Option (StreamRef × Reader)). Holds (run plan events).plan o) e (holder-holds (run plan events) (1 + length events) h g.fine) in
    let held = subst (λ (p : Plan). HoldsOf p s r) g.of_plan told in
    record { beginning = held.stable; upto_bound = cut-held plan s r r.bound checked.checked.sound held (omega arith) }

-- ---- outputs

-- a node of a run, by the plan that the run was made for
pub node-of-run : (plan : Plan) (events : List Event) (a f r : ℕ) (n : PlainNode) → IsCheckedPlan plan → role_of plan a ≡ IsNode f r → (slot_of (run plan events) a).node ≡ Some n → IsGood (home_of plan (f, r)) (1 + length events) n
node-of-run plan events a f r n checked role up =
    let g = run-good plan events checked in
    subst (λ (p : Plan). IsGood (home_of p (f, r)) (1 + length events) n) g.of_plan
    (node-here (run plan events) (1 + length events) a f r n g.fine (subst (λ (p : Plan). role_of p a ≡ IsNode f r) (sym g.of_plan) role) up)

pub outputs-right : (plan : Plan) (events : List Event) → IsCheckedPlan plan → OutputsAreRight plan events
outputs-right plan events checked a f r n role up calm = ((node-of-run plan events a f r n checked role up).safe.output calm).output

-- ---- RecDone

sure-nothing : (r : Reader) → is_sure r ≡ true → r.tentative ≡ []
sure-nothing r e = by-list r.tentative refl
  where
    by-list : (ts : List Tuple) → r.tentative ≡ ts → r.tentative ≡ []
    by-list [] same = same
    by-list (t ∷ ts) same = let clash : false ≡ true = rw same at e in absurd (cc)

abbrev NothingLeft : Option Folded → Type 0
NothingLeft o = IsSomeAnd o (λ (f : Folded). f.after.tentative ≡ [])

first-nothing : (x : Item) (o : Option Folded) → NothingLeft o → NothingLeft (taken_first x o)
first-nothing x None h = h
first-nothing x (Some f) h = h

-- where items that go on with RecDone have a reading, nothing tentative is left behind it
done-nothing : (r : Reader) (before rest : List Item) (f : Folded) → fold_items r (before ++ RecDone ∷ rest) ≡ Some f → NothingLeft (fold_items r (before ++ RecDone ∷ []))
done-nothing r [] rest f e =
    (elim (is_sure r) as (λ b. is_sure r ≡ b → elim (cond b (Taken r) NoReading) [ NoReading ↦ None | Skipped ↦ fold_items r rest | Taken s ↦ taken_first RecDone (fold_items s rest) ] ≡ Some f →
    NothingLeft (elim (cond b (Taken r) NoReading) [ NoReading ↦ None | Skipped ↦ fold_items r [] | Taken s ↦ taken_first RecDone (fold_items s []) ])) [
      | true ↦ λ sure k. sure-nothing r sure
      | false ↦ λ sure k. cc
    ]) refl e
done-nothing r (x ∷ before) rest f e =
    (elim (reading r x) as (λ o. elim o [ NoReading ↦ None | Skipped ↦ fold_items r (before ++ RecDone ∷ rest) | Taken s ↦ taken_first x (fold_items s (before ++ RecDone ∷ rest)) ] ≡ Some f →
    NothingLeft (elim o [ NoReading ↦ None | Skipped ↦ fold_items r (before ++ RecDone ∷ []) | Taken s ↦ taken_first x (fold_items s (before ++ RecDone ∷ [])) ])) [
      | NoReading ↦ λ k. cc
      | Skipped ↦ λ k. done-nothing r before rest f k
      | Taken s ↦ λ k. first-nothing x (fold_items s (before ++ RecDone ∷ [])) (behind s (λ g. done-nothing s before rest g) (fold_items s (before ++ RecDone ∷ rest)) refl k)
    ]) e
  where
    behind : (s : Reader) → ((g : Folded) → fold_items s (before ++ RecDone ∷ rest) ≡ Some g → NothingLeft (fold_items s (before ++ RecDone ∷ []))) →
        (o : Option Folded) → fold_items s (before ++ RecDone ∷ rest) ≡ o → taken_first x o ≡ Some f → NothingLeft (fold_items s (before ++ RecDone ∷ []))
    behind s later None same k = cc
    behind s later (Some g) same k = later g same

pub done-leaves-nothing : (plan : Plan) (events : List Event) → IsCheckedPlan plan → DoneLeavesNothing plan events
done-leaves-nothing plan events checked c x before rest there taken =
    let g = run-good plan events checked in
    let folded = (client-good (run plan events) (1 + length events) c x g.fine there).safe.folded in
    done-nothing empty_reader before rest _ (subst (λ (items : List Item). fold_items empty_reader items ≡ Some (record { after = x.port.inlet.held; taken = x.taken })) taken folded)

surely-at : (after : World) (es : List Envelope) (i : ℕ) (x : Envelope) → SendsDoneSurely after es → slice_get es i ≡ Some x → packet_done x.packet ≡ true → IsDone after x.sender (role_of after.plan x.sender)
surely-at after [] i x h e done = cc
surely-at after (y ∷ es) zero x h e done = let same : y ≡ x = cc in (rw same at h.0) done
surely-at after (y ∷ es) (suc i) x h e done = surely-at after es i x h.1 e done

pub done-surely-sent : (plan : Plan) (events : List Event) → IsCheckedPlan plan → DoneIsSurelySent plan events
done-surely-sent plan events checked e k x new there done =
    let w = run plan events in
    let g = run-good plan events checked in
    let next = happens-next w (1 + length events) e g.fine in
    let pushed = run-push plan events e in
    let found : slice_get (happens w e).envelopes k ≡ Some x = rw pushed at there in
    let place : length w.envelopes + (k - length w.envelopes) ≡ k = omega (arith, new) in
    let at : slice_get (drop (length w.envelopes) (happens w e).envelopes) (k - length w.envelopes) ≡ Some x =
    get-drop (length w.envelopes) (k - length w.envelopes) (happens w e).envelopes ∙ ap (λ (i : ℕ). slice_get (happens w e).envelopes i) place ∙ found in
    let told = surely-at (happens w e) (drop (length w.envelopes) (happens w e).envelopes) (k - length w.envelopes) x next.done at done in
    subst (λ (after : World). IsDone after x.sender (role_of plan x.sender)) (sym pushed)
    (subst (λ (p : Plan). IsDone (happens w e) x.sender (role_of p x.sender)) (next.plan ∙ g.of_plan) told)

-- ---- ticks

-- the slot of a node after it changed
pub slot-here : (w : World) (most a f r : ℕ) (g : Slot → Slot) → IsFine w most → role_of w.plan a ≡ IsNode f r → slot_of (record w { nodes = changed (node_place w.plan a) g w.nodes }) a ≡ g (slot_of w a)
slot-here w most a f r g h role =
    let found = slots-at w.plan most (node_place w.plan a) (f, r) (nodes_of w.plan) w.nodes (node-at w.plan a f r role) h.nodes_up in
    let none : Slot = record { last_inc = 0; node = None } in
    ap (λ (o : Option Slot). unwrap_or o none) (get-changed (node_place w.plan a) g w.nodes found.0 found.1)
    ∙ ap g (sym (ap (λ (o : Option Slot). unwrap_or o none) found.1))

-- a tick that is not void makes the node's step
tick-steps : (w : World) (a now f r : ℕ) (n : PlainNode) → role_of w.plan a ≡ IsNode f r → (slot_of w a).node ≡ Some n → is_clock n.clock now ≡ true → happens w (Tick a now) ≡ node_stepped a (tick_step (home_of w.plan (f, r)) now n) w
tick-steps w a now f r n role up clock =
    let home = home_of w.plan (f, r) in
    ap (λ (x : Role). ticks w a now x) role ∙ ap (λ (o : Option PlainNode). node_ticks w a now home o) up
    ∙ ap (λ (b : Bool). cond b (node_stepped a (tick_step home now n) w) w) clock

none-due : (w : World) (most a now f r : ℕ) (old new : PlainNode) → IsFine w most → role_of w.plan a ≡ IsNode f r → (slot_of w a).node ≡ Some old → is_clock old.clock now ≡ true →
    (slot_of (happens w (Tick a now)) a).node ≡ Some new → is_stabilization new.state ≡ false → due_at (home_of w.plan (f, r)) new now ≡ None
none-due w most a now f r old new fine role up clock after calm =
    let home = home_of w.plan (f, r) in
    let s = tick_step home now old in
    let here = slot-here w most a f r (λ (slot : Slot). record slot { node = Some s.after }) fine role in
    let told : (slot_of (happens w (Tick a now)) a).node ≡ Some s.after =
    ap (λ (v : World). (slot_of v a).node) (tick-steps w a now f r old role up clock) ∙ ap (λ (slot : Slot). slot.node) here in
    let same : new ≡ s.after = some-same new s.after (sym after ∙ told) in
    let serves = subst (λ (o : Option PlainNode). IfSome o (λ n. is_clock n.clock now ≡ true → is_stabilization (tick_step home now n).after.state ≡ false → Serves home now n (tick_step home now n))) up
    (subst (λ (x : Role). ServesAt w a now x) role (happens-serves w most (Tick a now) fine)) in
    rw same (serves clock (rw same at calm)).nothing_due

pub none-waits : (plan : Plan) (events : List Event) → IsCheckedPlan plan → NoneWaits plan events
none-waits plan events checked a now f r old new role up clock after calm =
    let g = run-good plan events checked in
    subst (λ (p : Plan). due_at (home_of p (f, r)) new now ≡ None) g.of_plan
    (none-due (run plan events) (1 + length events) a now f r old new g.fine (subst (λ (p : Plan). role_of p a ≡ IsNode f r) (sym g.of_plan) role) up clock
    (subst (λ (w : World). (slot_of w a).node ≡ Some new) (run-push plan events (Tick a now)) after) calm)
