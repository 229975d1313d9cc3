-- Work that the node of an actor hands out, and that comes back to it.
use Rattle.std.proofs.Common.{◌≡◌, ◌↔◌, ℕ, ◌≤◌, List, length, refl, sym, ap, subst, ◌∙◌, arith, Option, Some, None, unwrap_or, slice_get, Result, Ok, Err, IsErrAnd}
use Rattle.std.specs.Prelude.{IfSome, IsNone, min}
use Rattle.std.proofs.lemmas.Grind.{common_steps}
use Rattle.std.proofs.lemmas.List.{set-get_or}
use Rattle.dpc_model.specs.Actors.{role_of, replicas_of}
use Rattle.dpc_model.specs.Limits.{most_milled}
use Rattle.dpc_lists.specs.Lists.{nth}
use Rattle.dpc_model.specs.declared.actors.Role.{Role}
use Rattle.dpc_model.specs.declared.actors.Role.TheVariants.{Node as IsNode}
use Rattle.dpc_model.specs.declared.messages.Event.{Event}
use Rattle.dpc_model.specs.declared.plans.Plan.{Plan}
use Rattle.fragment_mill.specs.Mills.{MillState}
use Rattle.mill_work.specs.Milling.{OrderValue}
use Rattle.node_model.specs.Nodes.{Home}
use Rattle.node_core.specs.declared.faults.Point.{Point}
use Rattle.node_core.specs.declared.faults.CommitFault.{CommitFault as NodeFault}
use Rattle.node_core.specs.declared.faults.CommitFault.TheVariants as node_fault
use Rattle.node_core.specs.Standing.{NodeValue}
use Rattle.world_model.specs.Worlds.{World, Slot, home_of, node_place, slot_of, ready_in, ready_role, ready_at}
use Rattle.law_safety.proofs.Numbering.{replica-at}
use Rattle.law_fit.specs.Fits.{CanRun}
use Rattle.world_parts.specs.declared.faults.EventFault.{EventFault}
use Rattle.world_parts.specs.declared.faults.EventFault.TheVariants as event_fault
use Rattle.world_parts.specs.declared.faults.CommitFault.{CommitFault}
use Rattle.world_parts.specs.declared.faults.CommitFault.TheVariants as commit_fault
use Rattle.world_parts.specs.Counting.{IsTooLong}
use Rattle.world_parts.specs.Events.{IsWorldOf, Leads, WouldPass}
use Rattle.world_parts.specs.Handing.{up_role, up_node, IsSlotOrder, IsHandedOut, IsUpAt, IsTimely, IsElsewhere, IsSlotStale, IsStaleAt, fault_of_node, fault_of_event}
use Rattle.world_parts.specs.Parts.{SlotValue, WorldPartsValue}
use Rattle.world_parts.specs.Slots.{CanStep}
use Rattle.world_parts.proofs.NodeCalls.{IsPlaceRead, read-is}
use Rattle.world_parts.proofs.NodeLeads.{CanStepAt, step-at}
use Rattle.world_parts.proofs.NodePlaces.{with_slot, slot-here}
use Rattle.world_parts.proofs.Posting.{would-pass}
use Rattle.world_parts.proofs.SlotPlaces.{last_inc_told}
use Rattle.world_parts.proofs.SlotWork.{slot-plain}

-- ---- the place that was read, in a world that is stood for

pub read-step-at : (plan : Plan) (v : WorldPartsValue) (a f r : ℕ) (u : SlotValue) (x : World) (most : ℕ) → CanRun plan → role_of plan a ≡ IsNode f r → slice_get v.nodes (node_place plan a) ≡ Some u → IsWorldOf plan v x most → CanStepAt x a f r u
read-step-at plan v a f r u x most can role e w =
    subst (λ (p : Plan). CanRun p → role_of p a ≡ IsNode f r → slice_get v.nodes (node_place p a) ≡ Some u → IsWorldOf p v x most → CanStepAt x a f r u) w.stands.plan_is
    (λ can role e w. step-at x most a f r v u can role w e) can role e w

pub own-role : (plan : Plan) (a f r : ℕ) (x : World) → x.plan ≡ plan → role_of plan a ≡ IsNode f r → role_of x.plan a ≡ IsNode f r
own-role plan a f r x same role = ap (λ (p : Plan). role_of p a) same ∙ role

ready-place : (x : World) (a f r : ℕ) (s : Slot) → role_of x.plan a ≡ IsNode f r → slice_get x.nodes (node_place x.plan a) ≡ Some s → ready_in (home_of x.plan (f, r)) s.node ≡ ready_at x a
ready-place x a f r s role e = ap (λ (t : Slot). ready_in (home_of x.plan (f, r)) t.node) (sym (slot-here x a s e)) ∙ sym (ap (λ (z : Role). ready_role x a z) role)

pub up-place : (plan : Plan) (v : WorldPartsValue) (a f r : ℕ) (u : SlotValue) → role_of plan a ≡ IsNode f r → slice_get v.nodes (node_place plan a) ≡ Some u → up_node plan v a ≡ u.node
up-place plan v a f r u role e =
    ap (λ (z : Role). up_role v (node_place plan a) z) role ∙ ap (λ (o : Option SlotValue). (unwrap_or o (record { last_inc = 0; node = None })).node) e

-- what was read, of the parts as contracts see them
pub read-old : (plan : Plan) (v old : WorldPartsValue) (a f r i : ℕ) (u : SlotValue) → IsPlaceRead plan v old a f r i u → slice_get old.nodes (node_place plan a) ≡ Some u
read-old plan v old a f r i u h = subst (λ (w : WorldPartsValue). slice_get w.nodes (node_place plan a) ≡ Some u) h.same (read-is plan v old a f r i u h)

-- ---- what is handed out

pub handed-out : (plan : Plan) (v old : WorldPartsValue) (a f r i : ℕ) (u : SlotValue) (o : OrderValue MillState) → CanRun plan → IsPlaceRead plan v old a f r i u → IsSlotOrder u o → IsHandedOut plan old a o
handed-out plan v old a f r i u o can h order =
    let there = read-old plan v old a f r i u h in
    let at : (x : World) (most : ℕ) → IsWorldOf plan old x most → CanStepAt x a f r u = λ x most w. read-step-at plan old a f r u x most can h.role there w in
    record {
      node = order.of.node ∙ own-actor (at h.some.0 h.some.1 h.some.2) (own-role plan a f r h.some.0 h.some.2.stands.plan_is h.role);
      from = order.from;
      up = up-place plan old a f r u h.role there ∙ order.up;
      of = order.of;
      count = λ x most w.
          let here = at x most w in
          order.count (home_of x.plan (f, r)) here.slot here.can ∙ ap (λ (k : ℕ). min most_milled k) (ready-place x a f r here.slot (own-role plan a f r x w.stands.plan_is h.role) here.plain);
    }
  where
    own-actor : {x : World} → CanStepAt x a f r u → role_of x.plan a ≡ IsNode f r → nth 0 order.from.links.replicas order.from.links.me ≡ a
    own-actor {x} here role =
        let up = slot-plain (home_of x.plan (f, r)) u here.slot order.from order.up here.can in
        ap (λ (actors : List ℕ). nth 0 actors order.from.links.me) up.stands.knows.replicas ∙ ap (λ (k : ℕ). nth 0 (replicas_of x.plan f) k) up.stands.knows.me ∙ replica-at x.plan a f r role

pub each-handed : (plan : Plan) (v old : WorldPartsValue) (a f r i : ℕ) (u : SlotValue) (told : Option (OrderValue MillState)) → CanRun plan → IsPlaceRead plan v old a f r i u → IfSome told (IsSlotOrder u) → IfSome told (IsHandedOut plan old a)
each-handed plan v old a f r i u None can h k = tt
each-handed plan v old a f r i u (Some o) can h k = handed-out plan v old a f r i u o can h k

-- where no bucket is ready nothing is handed out, and where one is something is
none-or-some : (told : Option (OrderValue MillState)) (ready : ℕ) → (IsNone told → ready ≡ 0) → IfSome told (λ o. (1 ≤ length o.buckets) × (length o.buckets ≡ min most_milled ready)) → IsNone told ↔ (ready ≡ 0)
none-or-some None ready none some = (none, λ e. refl)
none-or-some (Some o) ready none some = (none, λ e. absurd (no-bucket (length o.buckets) ready some.0 some.1 e))
  where
    no-bucket : (k ready : ℕ) → 1 ≤ k → k ≡ min most_milled ready → ready ≡ 0 → ⊥
    no-bucket k ready low is zero = grind (arith, common_steps)

handed-some : (plan : Plan) (v : WorldPartsValue) (a : ℕ) (told : Option (OrderValue MillState)) (x : World) (most : ℕ) → IfSome told (IsHandedOut plan v a) → IsWorldOf plan v x most →
    IfSome told (λ o. (1 ≤ length o.buckets) × (length o.buckets ≡ min most_milled (ready_at x a)))
handed-some plan v a None x most h w = tt
handed-some plan v a (Some o) x most h w = (h.of.can.some, h.count x most w)

pub handed-none : (plan : Plan) (v old : WorldPartsValue) (a f r i : ℕ) (u : SlotValue) (told : Option (OrderValue MillState)) → CanRun plan → IsPlaceRead plan v old a f r i u →
    (IsNone told → (home : Home) (s : Slot) → CanStep home u s → ready_in home s.node ≡ 0) → IfSome told (IsSlotOrder u) → (x : World) (most : ℕ) → IsWorldOf plan old x most → IsNone told ↔ (ready_at x a ≡ 0)
handed-none plan v old a f r i u told can h none some x most w =
    let here = read-step-at plan old a f r u x most can h.role (read-old plan v old a f r i u h) w in
    none-or-some told (ready_at x a)
    (λ e. sym (ready-place x a f r here.slot (own-role plan a f r x w.stands.plan_is h.role) here.plain) ∙ none e (home_of x.plan (f, r)) here.slot here.can)
    (handed-some plan old a told x most (each-handed plan v old a f r i u told can h some) w)

-- ---- what comes back

-- the actor is the order's
pub own-read : (plan : Plan) (v old : WorldPartsValue) (a b f r i : ℕ) (u : SlotValue) → a ≡ b → IsPlaceRead plan v old a f r i u → IsPlaceRead plan v old b f r i u
own-read plan v old a b f r i u same h = subst (λ (n : ℕ). IsPlaceRead plan v old n f r i u) same h

-- where its place stood there, the node did
pub timely : (plan : Plan) (v old : WorldPartsValue) (f r i : ℕ) (u : SlotValue) (o : OrderValue MillState) → IsPlaceRead plan v old o.node f r i u → IsUpAt u.node o → IsTimely plan old o
timely plan v old f r i u o h at = subst (λ (n : Option NodeValue). IsUpAt n o) (sym (up-place plan old o.node f r u h.role (read-old plan v old o.node f r i u h))) at

-- where it is stale at its place it is stale
pub stale-at : (plan : Plan) (v old : WorldPartsValue) (f r i : ℕ) (u : SlotValue) (o : OrderValue MillState) (had needed : Point) → IsPlaceRead plan v old o.node f r i u → IsSlotStale u o had needed → IsStaleAt plan old o had needed
stale-at plan v old f r i u o had needed h at =
    let there = read-old plan v old o.node f r i u h in
    record {
      asked = at.asked;
      beside = λ x w. subst (λ (n : Option NodeValue). IsElsewhere (slot_of x o.node).last_inc n o had needed) (sym (up-place plan old o.node f r u h.role there))
          (subst (λ (k : ℕ). IsElsewhere k u.node o had needed) (last_inc_told plan old x o.node u w there) at.beside);
    }

-- a place that is put back as it was
pub place-stays : (plan : Plan) (v old : WorldPartsValue) (a f r i : ℕ) (u new : SlotValue) → IsPlaceRead plan v old a f r i u → new ≡ u → with_slot i new v ≡ old
place-stays plan v old a f r i u new h same =
    ap (λ (w : SlotValue). with_slot i w v) (same ∙ h.value) ∙ ap (λ (nodes : List SlotValue). record v { nodes = nodes }) (set-get_or v.nodes i u) ∙ h.same

-- ---- faults

abbrev fault-in : {X : Type 0} → Result X CommitFault → CommitFault → CommitFault
fault-in (Err why) other = why
fault-in (Ok x) other = other

-- the fault that a `?` hands on is the one that is told
handed-fault : (r : Result (Unit {0}) CommitFault) (why told : CommitFault) → IsErrAnd r (λ y. y ≡ why) → r ≡ Err told → why ≡ told
handed-fault (Ok x) why told h e = cc
handed-fault (Err y) why told h e = sym h ∙ ap (λ (r : Result (Unit {0}) CommitFault). fault-in r told) e

-- only a node's stale order is one
pub stale-of-node : (r : Result (Unit {0}) CommitFault) (why : NodeFault) (had needed : Point) → IsErrAnd r (λ y. y ≡ fault_of_node why) → r ≡ Err (commit_fault.Stale had needed) → why ≡ node_fault.Stale had needed
stale-of-node r why had needed h e = by-fault why (handed-fault r (fault_of_node why) (commit_fault.Stale had needed) h e)
  where
    by-fault : (why : NodeFault) → fault_of_node why ≡ commit_fault.Stale had needed → why ≡ node_fault.Stale had needed
    by-fault node_fault.NoMemory k = cc
    by-fault node_fault.Spent k = cc
    by-fault (node_fault.Stale a b) k = cc

-- memory was wanting only where a node wanted it, or was spent
pub enough-of-node : (r : Result (Unit {0}) CommitFault) (why : NodeFault) → IsErrAnd r (λ y. y ≡ fault_of_node why) → r ≡ Err commit_fault.NoMemory → (why ≡ node_fault.NoMemory → ⊥) → (why ≡ node_fault.Spent → ⊥) → ⊥
enough-of-node r why h e never unspent = by-fault why (handed-fault r (fault_of_node why) commit_fault.NoMemory h e) never unspent
  where
    by-fault : (why : NodeFault) → fault_of_node why ≡ commit_fault.NoMemory → (why ≡ node_fault.NoMemory → ⊥) → (why ≡ node_fault.Spent → ⊥) → ⊥
    by-fault node_fault.NoMemory k never unspent = never refl
    by-fault node_fault.Spent k never unspent = unspent refl
    by-fault (node_fault.Stale a b) k never unspent = cc

-- a node tells no limit
pub long-of-node : (r : Result (Unit {0}) CommitFault) (why : NodeFault) (envelopes items : ℕ) → IsErrAnd r (λ y. y ≡ fault_of_node why) → r ≡ Err (commit_fault.TooLong envelopes items) → ⊥
long-of-node r why envelopes items h e = by-fault why (handed-fault r (fault_of_node why) (commit_fault.TooLong envelopes items) h e)
  where
    by-fault : (why : NodeFault) → fault_of_node why ≡ commit_fault.TooLong envelopes items → ⊥
    by-fault node_fault.NoMemory k = cc
    by-fault node_fault.Spent k = cc
    by-fault (node_fault.Stale a b) k = cc

-- and what is sent is not stale
pub stale-of-event : (r : Result (Unit {0}) CommitFault) (why : EventFault) (had needed : Point) → IsErrAnd r (λ y. y ≡ fault_of_event why) → r ≡ Err (commit_fault.Stale had needed) → ⊥
stale-of-event r why had needed h e = by-fault why (handed-fault r (fault_of_event why) (commit_fault.Stale had needed) h e)
  where
    by-fault : (why : EventFault) → fault_of_event why ≡ commit_fault.Stale had needed → ⊥
    by-fault event_fault.NoMemory k = cc
    by-fault (event_fault.TooLong a b) k = cc

-- what could not be posted would pass a limit
pub commit-passes : (plan : Plan) (old w : WorldPartsValue) (e : Event) (r : Result (Unit {0}) CommitFault) (why : EventFault) → IsErrAnd r (λ y. y ≡ fault_of_event why) →
    ((envelopes items : ℕ) → ◌≡◌ {A = Result (Unit {0}) EventFault} (Err why) (Err (event_fault.TooLong envelopes items)) → IsTooLong envelopes items w) → Leads plan old w e →
    (envelopes items : ℕ) → r ≡ Err (commit_fault.TooLong envelopes items) → WouldPass plan old e envelopes items
commit-passes plan old w e r why given long leads envelopes items is =
    would-pass plan old w e envelopes items (long envelopes items (ap (λ (y : EventFault). Err y) (by-fault why (handed-fault r (fault_of_event why) (commit_fault.TooLong envelopes items) given is)))) leads
  where
    by-fault : (why : EventFault) → fault_of_event why ≡ commit_fault.TooLong envelopes items → why ≡ event_fault.TooLong envelopes items
    by-fault event_fault.NoMemory k = cc
    by-fault (event_fault.TooLong a b) k = cc
