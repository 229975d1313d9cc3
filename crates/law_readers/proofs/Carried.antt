-- All that a sender sent in a session that was answered in one of its incarnations, as the batches by their numbers.
use Rattle.std.proofs.Common.{◌≡◌, ℕ, zero, suc, ◌+◌, ◌<◌, ◌≤◌, Bool, true, false, cond, not, ◌&&◌, ◌==◌, nat_lt, List, [], ◌∷◌, ◌++◌, map, length, drop, refl, sym, ap, subst, ◌∙◌, arith, Option, Some, None, slice_get, ◌⊎◌, inl, inr}
use Rattle.std.specs.Prelude.{is_some}
use Rattle.std.proofs.lemmas.List.{append_assoc}
use Rattle.std.proofs.lemmas.List.FromFn.{length-range_with_len}
use Rattle.std.proofs.Math.Seq.{drop-append_seam}
use Rattle.dpc_lists.specs.Lists.{changed, range_with_len}
use Rattle.dpc_model.specs.Inlets.{same_sess}
use Rattle.dpc_model.specs.Actors.{role_of}
use Rattle.dpc_model.specs.declared.actors.Role.{Role}
use Rattle.dpc_model.specs.declared.actors.Role.TheVariants.{Source as IsSource, Node as IsNode}
use Rattle.dpc_model.specs.declared.tuples.Item.{Item}
use Rattle.dpc_model.specs.declared.messages.Event.{Event}
use Rattle.dpc_model.specs.declared.messages.Sess.{Sess}
use Rattle.dpc_model.specs.declared.messages.Message.TheVariants as message
use Rattle.dpc_model.specs.declared.plans.Plan.{Plan}
use Rattle.node_model.specs.Mails.{Packet, Plain, SnapFor}
use Rattle.node_model.specs.Nodes.{Home, PlainNode, restarted_node}
use Rattle.node_model.specs.NodeSteps.{packet_step, mill_step, tick_step}
use Rattle.world_model.specs.Worlds.{World, Envelope, Slot, home_of, node_place, slot_of, from, role_up, is_up, restart_slot, happens, run_from}
use Rattle.world_model.specs.Safe.{EachStep}
use Rattle.world_model.specs.Orderly.{items_carried}
use Rattle.world_model.specs.SessionLaw.{Channel, packet_items, carried, goes_down, sent_after}
use Rattle.dpc_lists.proofs.Truths.{lt-of, and-none}
use Rattle.dpc_lists.proofs.Elements.{no-elements, range-at}
use Rattle.dpc_lists.proofs.Somes.{some-same}
use Rattle.law_safety.proofs.EventCases.{AreCases, by-event}
use Rattle.law_safety.proofs.Growing.{event-grows}
use Rattle.law_safety.proofs.Happening.{IsFine, happens-next}
use Rattle.law_safety.proofs.Promises.{slot-here}
use Rattle.law_granting.specs.Taken.{index_in, index_of, subscribes, role_inc}
use Rattle.law_granting.proofs.Asked.{IsAskingWorld, event-asking, same-or}
use Rattle.law_granting.proofs.Saying.{own-delivered, own-milled, own-ticked}
use Rattle.law_granting.proofs.Sending.{indexes}
use Rattle.law_granting.proofs.Sent.{SentOrder, IsNodeLine, event-order}
use Rattle.law_granting.proofs.Slots.{slot-there}
use Rattle.law_readers.specs.Held.{IsBatchOf, joined}

-- ---- the items by batch

abbrev pub carried_list : Channel → List Envelope → List (List Item)
carried_list l [] = []
carried_list l (e ∷ es) = elim (index_of l e) [ None ↦ carried_list l es | Some j ↦ items_carried e.packet ∷ carried_list l es ]

packet-carried : (l : Channel) (p : Packet) (rest : List Item) (lists : List (List Item)) → rest ≡ joined lists → packet_items l p ++ rest ≡ joined (elim (index_in l.sess p) as (λ _. List (List Item)) [ None ↦ lists | Some j ↦ items_carried p ∷ lists ])
packet-carried l (Plain (message.Batch u index items)) rest lists h =
    elim (same_sess u l.sess) as (λ b. cond b items [] ++ rest ≡ joined (elim (cond {A = Option ℕ} b (Some index) None) as (λ _. List (List Item)) [ None ↦ lists | Some j ↦ items ∷ lists ])) [
      | true ↦ ap (λ (z : List Item). items ++ z) h
      | false ↦ h
    ]
packet-carried l (Plain (message.Subscribe asked)) rest lists h = h
packet-carried l (Plain (message.Truncated u base)) rest lists h = h
packet-carried l (Plain (message.Beat b)) rest lists h = h
packet-carried l (Plain (message.Ack i n)) rest lists h = h
packet-carried l (Plain (message.Ask i n)) rest lists h = h
packet-carried l (Plain (message.Grant i n)) rest lists h = h
packet-carried l (Plain (message.SnapAsk i n)) rest lists h = h
packet-carried l (SnapFor i try s) rest lists h = h

pub carried-joined : (l : Channel) (es : List Envelope) → carried l es ≡ joined (carried_list l es)
carried-joined l [] = refl
carried-joined l (e ∷ es) =
    elim (e.sender == l.sender && e.to == l.reader) as (λ b. cond b (packet_items l e.packet) [] ++ carried l es ≡ joined (elim (cond {A = Option ℕ} b (index_in l.sess e.packet) None) as (λ _. List (List Item)) [ None ↦ carried_list l es | Some j ↦ items_carried e.packet ∷ carried_list l es ])) [
      | true ↦ packet-carried l e.packet (carried l es) (carried_list l es) (carried-joined l es)
      | false ↦ carried-joined l es
    ]

as-many : (l : Channel) (es : List Envelope) → length (carried_list l es) ≡ length (indexes l es)
as-many l [] = refl
as-many l (e ∷ es) =
    elim (index_of l e) as (λ o. length (elim o as (λ _. List (List Item)) [ None ↦ carried_list l es | Some j ↦ items_carried e.packet ∷ carried_list l es ]) ≡ length (elim o as (λ _. List ℕ) [ None ↦ indexes l es | Some j ↦ j ∷ indexes l es ])) [
      | None ↦ as-many l es
      | Some j ↦ ap suc (as-many l es)
    ]

found : (l : Channel) (es : List Envelope) (d j : ℕ) (e : Envelope) → slice_get es d ≡ Some e → index_of l e ≡ Some j → (m : ℕ) × (slice_get (indexes l es) m ≡ Some j) × (slice_get (carried_list l es) m ≡ Some (items_carried e.packet))
found l [] d j e there index = cc
found l (x ∷ es) zero j e there index =
    let same : x ≡ e = cc in
    let here : index_of l x ≡ Some j = ap (λ (z : Envelope). index_of l z) same ∙ index in
    subst (λ (o : Option ℕ). (m : ℕ) × (slice_get (elim o as (λ _. List ℕ) [ None ↦ indexes l es | Some i ↦ i ∷ indexes l es ]) m ≡ Some j)
    × (slice_get (elim o as (λ _. List (List Item)) [ None ↦ carried_list l es | Some i ↦ items_carried x.packet ∷ carried_list l es ]) m ≡ Some (items_carried e.packet))) (sym here) (0, refl, ap (λ (z : Envelope). Some (items_carried z.packet)) same)
found l (x ∷ es) (suc d) j e there index =
    let rest = found l es d j e there index in
    elim (index_of l x) as (λ o. (m : ℕ) × (slice_get (elim o as (λ _. List ℕ) [ None ↦ indexes l es | Some i ↦ i ∷ indexes l es ]) m ≡ Some j)
    × (slice_get (elim o as (λ _. List (List Item)) [ None ↦ carried_list l es | Some i ↦ items_carried x.packet ∷ carried_list l es ]) m ≡ Some (items_carried e.packet))) [
      | None ↦ rest
      | Some i ↦ (suc rest.0, rest.1, rest.2)
    ]

same-lists : {X : Type 0} (xs ys : List X) → length xs ≡ length ys → ((j : ℕ) (y : X) → slice_get xs j ≡ Some y → slice_get ys j ≡ Some y) → xs ≡ ys
same-lists [] [] many h = refl
same-lists [] (y ∷ ys) many h = absurd (omega (arith, many))
same-lists (x ∷ xs) [] many h = absurd (omega (arith, many))
same-lists {X = X} (x ∷ xs) (y ∷ ys) many h =
    let first : y ≡ x = some-same y x (h 0 x refl) in
    ap (λ (z : X). z ∷ xs) (sym first) ∙ ap (λ (zs : List X). y ∷ zs) (same-lists xs ys (omega (arith, many)) (λ j z e. h (suc j) z e))

-- batches by their numbers, as many as were sent, are all that was sent
pub all-carried : (l : Channel) (es : List Envelope) (many : ℕ) (bs : List (List Item)) → indexes l es ≡ range_with_len 0 many → length bs ≡ many → ((j : ℕ) (items : List Item) → slice_get bs j ≡ Some items → IsBatchOf l es j items) → joined bs ≡ carried l es
all-carried l es many bs order few each =
    let lengths = as-many l es ∙ ap length order ∙ length-range_with_len 0 many in
    ap joined (same-lists bs (carried_list l es) (few ∙ sym lengths) (λ j items e. at-place j items (each j items e))) ∙ sym (carried-joined l es)
  where
    at-place : (j : ℕ) (items : List Item) → IsBatchOf l es j items → slice_get (carried_list l es) j ≡ Some items
    at-place j items b =
        let f = found l es b.place j b.envelope b.there b.index in
        let place = range-at 0 many f.0 j (ap (λ (zs : List ℕ). slice_get zs f.0) (sym order) ∙ f.1) in
        let same : f.0 ≡ j = omega (arith, place) in
        subst (λ (z : ℕ). slice_get (carried_list l es) z ≡ Some items) same (f.2 ∙ ap (λ (z : List Item). Some z) b.carried)

carried-more : (l : Channel) (xs ys : List Envelope) → carried l (xs ++ ys) ≡ carried l xs ++ carried l ys
carried-more l [] ys = refl
carried-more l (e ∷ xs) ys =
    let first = cond (e.sender == l.sender && e.to == l.reader) (packet_items l e.packet) [] in
    ap (λ (z : List Item). first ++ z) (carried-more l xs ys) ∙ sym (append_assoc first (carried l xs) (carried l ys))

none-carried : (l : Channel) (es : List Envelope) → indexes l es ≡ [] → carried l es ≡ []
none-carried l es none = carried-joined l es ∙ ap joined (no-elements (carried_list l es) (as-many l es ∙ ap length none))

left-nil : (xs ys : List Item) → xs ++ ys ≡ [] → (xs ≡ []) × (ys ≡ [])
left-nil [] ys e = (refl, e)
left-nil (x ∷ xs) ys e = cc

-- ---- a source is always up

past-is : (l : Channel) (items : List Item) (w next : World) (more : List Envelope) → next.envelopes ≡ w.envelopes ++ more → goes_down l w next ≡ false → items ≡ carried l w.envelopes →
    cond (goes_down l w next) [] items ++ carried l (drop (length w.envelopes) next.envelopes) ≡ carried l next.envelopes
past-is l items w next more grows up same =
    let new : drop (length w.envelopes) next.envelopes ≡ more = ap (λ (es : List Envelope). drop (length w.envelopes) es) grows ∙ drop-append_seam w.envelopes more in
    ap (λ (b : Bool). cond b [] items ++ carried l (drop (length w.envelopes) next.envelopes)) up ∙ ap (λ (es : List Envelope). items ++ carried l es) new ∙ ap (λ (z : List Item). z ++ carried l more) same
    ∙ sym (carried-more l w.envelopes more) ∙ ap (λ (es : List Envelope). carried l es) (sym grows)

pub source-sent-after : (w : World) (events : List Event) (l : Channel) (v : ℕ) (items : List Item) → role_of w.plan l.sender ≡ IsSource v → items ≡ carried l w.envelopes → sent_after l items w events ≡ carried l (run_from w events).envelopes
source-sent-after w [] l v items role same = same
source-sent-after w (e ∷ events) l v items role same =
    let grows = event-grows w e in
    let next = happens w e in
    let role_next : role_of next.plan l.sender ≡ IsSource v = ap (λ (p : Plan). role_of p l.sender) grows.plan ∙ role in
    let up_next : is_up next l.sender ≡ true = ap (λ (z : Role). role_up next l.sender z) role_next in
    let stays : goes_down l w next ≡ false = ap (λ (b : Bool). is_up w l.sender && not b) up_next ∙ and-none (is_up w l.sender) in
    source-sent-after next events l v (cond (goes_down l w next) [] items ++ carried l (drop (length w.envelopes) next.envelopes)) role_next (past-is l items w next grows.more grows.envelopes stays same)

-- ---- a node's slot after an event

-- incarnations don't fall; a node that is up was up in its incarnation, or was restarted
pub record SlotGoes (x y : Slot) : Type 0 where
  pub last : x.last_inc ≤ y.last_inc
  pub up : (m : PlainNode) → y.node ≡ Some m → ((n : PlainNode) × (x.node ≡ Some n) × (m.grants.inc ≡ n.grants.inc)) ⊎ (x.last_inc < y.last_inc)

slot-same : (x y : Slot) → y ≡ x → SlotGoes x y
slot-same x y same = subst (λ (z : Slot). SlotGoes x z) (sym same) (record { last = omega arith; up = λ m e. inl (m, e, refl) })

module _ (w : World) (most a f r : ℕ) (fine : IsFine w most) (role_a : role_of w.plan a ≡ IsNode f r) where
  slot-goes : (y g q : ℕ) (change : Slot → Slot) (es : List Envelope) → role_of w.plan y ≡ IsNode g q → (a ≡ y → SlotGoes (slot_of w y) (change (slot_of w y))) → SlotGoes (slot_of w a) (slot_of (record w { nodes = changed (node_place w.plan y) change w.nodes; envelopes = es }) a)
  slot-goes y g q change es role own =
      elim (same-or a y) [
        | inr other ↦ slot-same (slot_of w a) _ (slot-there w y a g q f r change role role_a other)
        | inl same ↦
            let here : slot_of (record w { nodes = changed (node_place w.plan y) change w.nodes; envelopes = es }) y ≡ change (slot_of w y) = slot-here w most y g q change fine role in
            let now = ap (λ (z : ℕ). slot_of (record w { nodes = changed (node_place w.plan y) change w.nodes; envelopes = es }) z) same ∙ here in
            subst (λ (z : Slot). SlotGoes (slot_of w a) z) (sym now) (subst (λ (z : ℕ). SlotGoes (slot_of w z) (change (slot_of w y))) (sym same) (own same))
      ]

  node-goes : (slot : Slot) (n m : PlainNode) → slot.node ≡ Some n → m.grants.inc ≡ n.grants.inc → SlotGoes slot (record slot { node = Some m })
  node-goes slot n m up inc = record { last = omega arith; up = λ z e. let it : m ≡ z = some-same m z e in inl (n, up, ap (λ (y : PlainNode). y.grants.inc) (sym it) ∙ inc) }

  restart-goes : (home : Home) (i : ℕ) (slot : Slot) → SlotGoes slot (restart_slot home i slot)
  restart-goes home i slot = by-node slot.node refl
    where
      by-node : (o : Option PlainNode) → slot.node ≡ o → SlotGoes slot (elim o as (λ _. Slot) [ Some n ↦ slot | None ↦ cond (nat_lt slot.last_inc i) (record { last_inc = i; node = Some (restarted_node home i) }) slot ])
      by-node (Some n) up = slot-same slot slot refl
      by-node None up =
          (elim (nat_lt slot.last_inc i) as (λ b. nat_lt slot.last_inc i ≡ b → SlotGoes slot (cond {A = Slot} b (record { last_inc = i; node = Some (restarted_node home i) }) slot)) [
            | false ↦ λ e. slot-same slot slot refl
            | true ↦ λ e. let less = lt-of slot.last_inc i e in record { last = omega (arith, less); up = λ m d. inr less }
          ]) refl

  slot-cases : AreCases w (λ e next. SlotGoes (slot_of w a) (slot_of next a))
  slot-cases =
      record {
        still = λ e. slot-same (slot_of w a) (slot_of w a) refl;
        wires = λ e cuts. slot-same (slot_of w a) (slot_of w a) refl;
        emitted = λ b s t role. slot-same (slot_of w a) (slot_of w a) refl;
        released = λ b s t role. slot-same (slot_of w a) (slot_of w a) refl;
        source_took = λ k s e there can role. slot-same (slot_of w a) (slot_of w a) refl;
        source_ticks = λ b s now role. slot-same (slot_of w a) (slot_of w a) refl;
        crashed = λ y g q role. slot-goes y g q (λ (slot : Slot). record slot { node = None }) w.envelopes role (λ same. record { last = omega arith; up = λ m e. cc });
        restarted = λ y i g q role. slot-goes y g q (restart_slot (home_of w.plan (g, q)) i) w.envelopes role (λ same. restart-goes (home_of w.plan (g, q)) i (slot_of w y));
        node_took = λ k g q e n there can role up.
            let s = packet_step (home_of w.plan (g, q)) e.sender e.packet n in
            slot-goes e.to g q (λ (slot : Slot). record slot { node = Some s.after }) (w.envelopes ++ map (from e.to) s.sends) role (λ same. node-goes (slot_of w e.to) n s.after up (own-delivered (home_of w.plan (g, q)) e.sender e.packet n).grants.inc);
        node_ticked = λ y now g q n role up clock.
            let s = tick_step (home_of w.plan (g, q)) now n in
            slot-goes y g q (λ (slot : Slot). record slot { node = Some s.after }) (w.envelopes ++ map (from y) s.sends) role (λ same. node-goes (slot_of w y) n s.after up (own-ticked (home_of w.plan (g, q)) now n).grants.inc);
        node_milled = λ y m g q n role up can.
            let s = mill_step (home_of w.plan (g, q)) m n in
            slot-goes y g q (λ (slot : Slot). record slot { node = Some s.after }) (w.envelopes ++ map (from y) s.sends) role (λ same. node-goes (slot_of w y) n s.after up (own-milled (home_of w.plan (g, q)) m n).grants.inc);
        client_took = λ k c e there can role. slot-same (slot_of w a) (slot_of w a) refl;
        client_ticks = λ b c now role. slot-same (slot_of w a) (slot_of w a) refl;
      }

-- ---- a node, while it is in one incarnation

-- the node is up in the incarnation, or has not reached it
abbrev pub IsWithin : World → ℕ → ℕ → Type 0
IsWithin w a i = ((n : PlainNode) × ((slot_of w a).node ≡ Some n) × (n.grants.inc ≡ i)) ⊎ ((slot_of w a).last_inc < i)

pub node-sent-after : (w : World) (most : ℕ) (events : List Event) (a x f r k i : ℕ) (s : Sess) (items : List Item) → IsFine w most → IsAskingWorld w → IsNodeLine w.plan a x f r k → SentOrder w a x k i s →
    EachStep (λ w e. subscribes (record { sender = a; reader = x; sess = s }) w e ≡ true → role_inc w a (role_of w.plan a) ≡ i) w events → (IsWithin w a i → items ≡ carried (record { sender = a; reader = x; sess = s }) w.envelopes) →
    IsWithin (run_from w events) a i → sent_after (record { sender = a; reader = x; sess = s }) items w events ≡ carried (record { sender = a; reader = x; sess = s }) (run_from w events).envelopes
node-sent-after w most [] a x f r k i s items fine asking line h told same within = same within
node-sent-after w most (e ∷ events) a x f r k i s items fine asking line h told same within =
    node-sent-after (happens w e) (most + 1) events a x f r k i s (cond (goes_down l w (happens w e)) [] items ++ carried l (drop (length w.envelopes) (happens w e).envelopes)) (happens-next w most e fine).fine (event-asking w most e fine asking)
    (subst (λ (p : Plan). IsNodeLine p a x f r k) (sym (event-grows w e).plan) line) next_order told.1 (λ now. past now) within
  where
    l : Channel
    l = record { sender = a; reader = x; sess = s }

    next_order : SentOrder (happens w e) a x k i s
    next_order = event-order w most a x f r k i s fine asking line h e told.0

    goes : SlotGoes (slot_of w a) (slot_of (happens w e) a)
    goes = by-event w (λ e next. SlotGoes (slot_of w a) (slot_of next a)) (slot-cases w most a f r fine line.role) e

    past : IsWithin (happens w e) a i → cond (goes_down (record { sender = a; reader = x; sess = s }) w (happens w e)) [] items ++ carried (record { sender = a; reader = x; sess = s }) (drop (length w.envelopes) (happens w e).envelopes) ≡ carried (record { sender = a; reader = x; sess = s }) (happens w e).envelopes
    past (inr low) =
        let grows = event-grows w e in
        let line_l : Channel = record { sender = a; reader = x; sess = s } in
        let order = event-order w most a x f r k i s fine asking line h e told.0 in
        let slots = by-event w (λ e next. SlotGoes (slot_of w a) (slot_of next a)) (slot-cases w most a f r fine line.role) e in
        let none : indexes line_l (happens w e).envelopes ≡ [] = order.order ∙ ap (λ (z : ℕ). range_with_len 0 z) (order.early low) in
        let all : carried line_l (happens w e).envelopes ≡ [] = none-carried line_l (happens w e).envelopes none in
        let both : carried line_l w.envelopes ++ carried line_l grows.more ≡ [] = sym (carried-more line_l w.envelopes grows.more) ∙ ap (λ (es : List Envelope). carried line_l es) (sym grows.envelopes) ∙ all in
        let parts = left-nil (carried line_l w.envelopes) (carried line_l grows.more) both in
        let last = slots.last in
        let before : items ≡ [] = same (inr (omega (arith, last, low))) ∙ parts.0 in
        let new : drop (length w.envelopes) (happens w e).envelopes ≡ grows.more = ap (λ (es : List Envelope). drop (length w.envelopes) es) grows.envelopes ∙ drop-append_seam w.envelopes grows.more in
        ap (λ (z : List Item). cond (goes_down line_l w (happens w e)) [] z ++ carried line_l (drop (length w.envelopes) (happens w e).envelopes)) before
        ∙ ap (λ (z : List Item). z ++ carried line_l (drop (length w.envelopes) (happens w e).envelopes)) (either-nil (goes_down line_l w (happens w e))) ∙ ap (λ (es : List Envelope). carried line_l es) new ∙ parts.1 ∙ sym all
      where
        either-nil : (b : Bool) → cond {A = List Item} b [] [] ≡ []
        either-nil true = refl
        either-nil false = refl
    past (inl (m, up, inc)) =
        let grows = event-grows w e in
        let line_l : Channel = record { sender = a; reader = x; sess = s } in
        let slots = by-event w (λ e next. SlotGoes (slot_of w a) (slot_of next a)) (slot-cases w most a f r fine line.role) e in
        let asking_next = event-asking w most e fine asking in
        let role_next : role_of (happens w e).plan a ≡ IsNode f r = ap (λ (p : Plan). role_of p a) grows.plan ∙ line.role in
        let up_next : is_up (happens w e) a ≡ true = ap (λ (z : Role). role_up (happens w e) a z) role_next ∙ ap (λ (o : Option PlainNode). is_some o) up in
        let stays : goes_down line_l w (happens w e) ≡ false = ap (λ (b : Bool). is_up w a && not b) up_next ∙ and-none (is_up w a) in
        let known : m.grants.inc ≡ (slot_of (happens w e) a).last_inc = (asking_next.nodes a f r m role_next up).inc in
        past-is line_l items w (happens w e) grows.more grows.envelopes stays (same (before (slots.up m up) known))
      where
        before : ((n : PlainNode) × ((slot_of w a).node ≡ Some n) × (m.grants.inc ≡ n.grants.inc)) ⊎ ((slot_of w a).last_inc < (slot_of (happens w e) a).last_inc) → m.grants.inc ≡ (slot_of (happens w e) a).last_inc → IsWithin w a i
        before (inl (n, was, one)) known = inl (n, was, sym one ∙ inc)
        before (inr less) known = inr (omega (arith, less, known, inc))
