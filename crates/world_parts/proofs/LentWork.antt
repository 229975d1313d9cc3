-- Work on a node's own engine, which its place lends, and which comes back to it.
use Rattle.std.proofs.Common.{◌≡◌, ℕ, ◌<◌, ◌≤◌, Bool, true, false, not, ◌&&◌, ◌||◌, ◌==◌, nat_lt, nat_le, List, length, refl, sym, ap, subst, ◌∙◌, Option, Some, None, slice_get}
use Rattle.std.specs.Prelude.{IfSome, if◌then◌else◌}
use Rattle.dpc_model.specs.Actors.{role_of}
use Rattle.dpc_model.specs.Engines.{nameless}
use Rattle.dpc_model.specs.declared.actors.Role.{Role}
use Rattle.dpc_model.specs.declared.actors.Role.TheVariants.{Node as IsNode}
use Rattle.dpc_model.specs.declared.messages.Event.TheVariants.{Mill}
use Rattle.dpc_model.specs.declared.plans.Plan.{Plan}
use Rattle.dpc_model.specs.declared.plans.FragSpec.{FragSpec}
use Rattle.dpc_lists.proofs.Elements.{get-there}
use Rattle.dpc_lists.proofs.Truths.{both-of, le-test, or-true}
use Rattle.dpc_model.specs.Limits.{most_milled, may_be_milled}
use Rattle.fragment_mill.specs.Mills.{MillState, specs_of}
use Rattle.mill_work.specs.Milling.{OrderValue}
use Rattle.pipeline.specs.Flowing.{IsMillOf}
use Rattle.node_model.specs.Mails.{Stepped}
use Rattle.node_model.specs.Nodes.{Home, PlainNode, no_fragment, spec_of, ready}
use Rattle.node_model.specs.NodeSteps.{mill_step}
use Rattle.node_model.specs.Fitting.{IsFit}
use Rattle.node_model.specs.Making.{IsReplica}
use Rattle.node_core.specs.declared.faults.Point.{Point}
use Rattle.node_core.specs.declared.packets.Mail as code_mail
use Rattle.node_core.specs.Lending.{IsPutBack, WasStaleInNumbers}
use Rattle.node_core.specs.Milling.{IsKnownAt, IsWorkAt, IsBeside, needed_by, is_stale}
use Rattle.node_core.specs.Standing.{NodeValue, StandsForNode}
use Rattle.world_model.specs.Worlds.{World, Slot, home_of, node_place, node_role, node_at, can_mill}
use Rattle.law_fit.specs.Fits.{CanRun}
use Rattle.law_fit.proofs.Replicas.{actor-made}
use Rattle.law_work.specs.TrueWork.{IsTrueWork}
use Rattle.law_work.proofs.Worlds.{world-fits-by-numbers}
use Rattle.world_parts.specs.Counting.{with_posted}
use Rattle.world_parts.specs.Events.{IsWorldOf, Leads}
use Rattle.world_parts.specs.Handing.{down_point}
use Rattle.world_parts.specs.Lending.{CanCompare, IsWorkFor, IsLateFor, IsTimelyIn, IsLateIn}
use Rattle.world_parts.specs.Parts.{SlotValue, WorldPartsValue, StandsForUp}
use Rattle.world_parts.specs.Slots.{still, up_stepped, slot_mills, CanStep, IsStepped}
use Rattle.world_parts.proofs.NodeCalls.{IsPlaceRead, read-is, read-leads}
use Rattle.world_parts.proofs.NodeEvents.{mill-event}
use Rattle.world_parts.proofs.NodeLeads.{step-at, steps-lead}
use Rattle.world_parts.proofs.NodePlaces.{with_slot, slot-here}
use Rattle.world_parts.proofs.NodeWork.{read-step-at, own-role, read-old}
use Rattle.world_parts.proofs.SlotWork.{slot-plain}

-- ---- what is lent

-- a new engine of a fragment is a spare one for each of its replicas
pub spare-of : (plan : Plan) (f r : ℕ) (m : MillState) → f < length plan.frags → ((g : FragSpec) → slice_get plan.frags f ≡ Some g → specs_of m.stages ≡ nameless g.ops) → m.width ≡ plan.width → m.spent ≡ false →
    IsMillOf (spec_of (home_of plan (f, r))).ops plan.width m
spare-of plan f r m low made wide fresh = record { operators = made (spec_of (home_of plan (f, r))) (get-there no_fragment f plan.frags low); wide = wide; unspent = fresh }

-- what a place wants where it is to lend
pub lends-from : (plan : Plan) (v old : WorldPartsValue) (a f r i : ℕ) (u : SlotValue) → CanRun plan → IsPlaceRead plan v old a f r i u →
    (replica : ℕ) × (s : Slot) × IsReplica (home_of plan (f, replica)) × CanStep (home_of plan (f, replica)) u s
lends-from plan v old a f r i u can h =
    let w = h.some.2 in
    let at = read-step-at plan old a f r u h.some.0 h.some.1 can h.role (read-old plan v old a f r i u h) w in
    (r, at.slot, actor-made plan a f r can.checked can.few h.role, subst (λ (p : Plan). CanStep (home_of p (f, r)) u at.slot) w.stands.plan_is at.can)

-- ---- what a place says of work that comes back

no-node : (o : Option PlainNode) (p : PlainNode) → o ≡ Some p → o ≡ None → ⊥
no-node o p e f = cc

known-here : (o : OrderValue MillState) (home : Home) (v : SlotValue) (x : Slot) (p : PlainNode) → CanCompare o home v x → x.node ≡ Some p → IsKnownAt home p o
known-here o home v x p can up = subst (λ (q : Option PlainNode). IfSome q (λ n. IsKnownAt home n o)) up can.known

-- where its node says so, it is work for it
pub slot-work : (o : OrderValue MillState) (home : Home) (v : SlotValue) (x : Slot) (n : NodeValue) → v.node ≡ Some n → ((home : Home) (p : PlainNode) → StandsForNode home n p → IsFit home p → IsKnownAt home p o → IsWorkAt home p o) →
    CanCompare o home v x → IsWorkFor o home x
slot-work o home v x n is work can =
    let up = slot-plain home v x n is can.slot in record { plain = up.plain; up = up.is; work = work home up.plain up.stands up.fit (known-here o home v x up.plain can up.is) }

-- where its node stands elsewhere, it is late
pub slot-late : (o : OrderValue MillState) (had needed : Point) (home : Home) (v : SlotValue) (x : Slot) (n new : NodeValue) → v.node ≡ Some n → WasStaleInNumbers o n new had needed → CanCompare o home v x →
    IsLateFor o had needed home x
slot-late o had needed home v x n new is h can =
    let up = slot-plain home v x n is can.slot in
    record {
      asked = h.asked;
      stale = h.stale;
      down = λ none. absurd (no-node x.node up.plain up.is none);
      up = λ p e. subst (λ (q : PlainNode). IsBeside home q o had) (same-node x.node up.plain p up.is e) (h.beside home up.plain up.stands up.fit (known-here o home v x up.plain can up.is));
    }
  where
    same-node : (q : Option PlainNode) (a b : PlainNode) → q ≡ Some a → q ≡ Some b → a ≡ b
    same-node q a b e f = cc

up-unspent : (home : Home) (n : NodeValue) (o : Option PlainNode) → StandsForUp home (Some n) o → n.spent ≡ true → ⊥
up-unspent home n None h e = h
up-unspent home n (Some p) h e = let live : n.spent ≡ false = h.1 in cc

-- a node that is up is not spent
pub slot-unspent : (home : Home) (v : SlotValue) (x : Slot) (n : NodeValue) → v.node ≡ Some n → CanStep home v x → n.spent ≡ true → ⊥
slot-unspent home v x n is can e = up-unspent home n x.node (subst (λ (o : Option NodeValue). StandsForUp home o x.node) is can.stands.node) e

-- a node that is down stands elsewhere
pub down-is-stale : (last_inc : ℕ) (needed : Point) → is_stale (down_point last_inc) needed ≡ true
down-is-stale last_inc needed = or-true (not (last_inc == needed.inc) || not (0 == needed.cursor) || nat_lt 0 needed.ready)

none-up : (home : Home) (o : Option PlainNode) (p : PlainNode) → StandsForUp home None o → o ≡ Some p → ⊥
none-up home None p h e = cc
none-up home (Some q) p h e = h

pub slot-down : (o : OrderValue MillState) (home : Home) (v : SlotValue) (x : Slot) → v.node ≡ None → CanCompare o home v x → IsLateFor o (down_point v.last_inc) (needed_by o) home x
slot-down o home v x is can =
    record {
      asked = refl;
      stale = down-is-stale v.last_inc (needed_by o);
      down = λ none. ap down_point can.slot.stands.last_inc;
      up = λ p e. absurd (none-up home x.node p (subst (λ (n : Option NodeValue). StandsForUp home n x.node) is can.slot.stands.node) e);
    }

-- a place whose node is put back as it was
pub slot-stays : (v : SlotValue) (last_inc : ℕ) (n new : NodeValue) → last_inc ≡ v.last_inc → v.node ≡ Some n → new ≡ n → ◌≡◌ {A = SlotValue} (record { last_inc = last_inc; node = Some new }) v
slot-stays v last_inc n new inc is same =
    ap (λ (k : ℕ). record { last_inc = k; node = Some new }) inc ∙ ap (λ (m : NodeValue). record { last_inc = v.last_inc; node = Some m }) same
    ∙ ap (λ (m : Option NodeValue). record { last_inc = v.last_inc; node = m }) (sym is)

-- ---- what putting it back makes of a place

may-mill : (k ready : ℕ) → 1 ≤ k → k ≤ most_milled → k ≤ ready → may_be_milled k ready ≡ true
may-mill k ready some few low = both-of (nat_le 1 k && nat_le k most_milled) (nat_le k ready) (both-of (nat_le 1 k) (nat_le k most_milled) (le-test 1 k some) (le-test k most_milled few)) (le-test k ready low)

-- where its node made the step of processing the buckets, it did
pub slot-stepped : (o : OrderValue MillState) (home : Home) (v : SlotValue) (last_inc : ℕ) (x : Slot) (n new : NodeValue) (told : List code_mail.Mail) → last_inc ≡ v.last_inc → v.node ≡ Some n → 1 ≤ length o.buckets →
    length o.buckets ≤ most_milled → IsPutBack o n new told → new.spent ≡ false → CanCompare o home v x → IsStepped home (record { last_inc = last_inc; node = Some new }) told (slot_mills home (length o.buckets) x)
slot-stepped o home v last_inc x n new told inc is some few h fresh can =
    let k = length o.buckets in
    let up = slot-plain home v x n is can.slot in
    let p = up.plain in
    let known = known-here o home v x p can up.is in
    let step = h.step home p up.stands up.fit known in
    let may : can_mill home k p ≡ true = may-mill k (ready home p) some few (h.work home p up.stands up.fit known).fits.ready in
    let mills : slot_mills home k x ≡ up_stepped x (mill_step home k p) =
    ap (λ (q : Option PlainNode). elim q [ None ↦ still x | Some m ↦ (if can_mill home k m then up_stepped x (mill_step home k m) else still x) ]) up.is
    ∙ ap (λ (b : Bool). if b then up_stepped x (mill_step home k p) else still x) may in
    subst (λ (s : Stepped Slot). IsStepped home (record { last_inc = last_inc; node = Some new }) told s) (sym mills)
    (record { after = record { last_inc = inc ∙ can.slot.stands.last_inc; node = (step.after, fresh) }; sends = step.sends })

-- ---- true work, in a world that is stood for

-- numbers tell whether it fits its actor's node
known-own : (x : World) (most f r : ℕ) (v : WorldPartsValue) (s : Slot) (o : OrderValue MillState) → CanRun x.plan → IsTrueWork x.plan o → 1 ≤ length o.buckets → IsWorldOf x.plan v x most → role_of x.plan o.node ≡ IsNode f r →
    slice_get x.nodes (node_place x.plan o.node) ≡ Some s → IfSome s.node (λ p. IsKnownAt (home_of x.plan (f, r)) p o)
known-own x most f r v s o can t some w role e = by-node s.node refl
  where
    by-node : (n : Option PlainNode) → s.node ≡ n → IfSome n (λ p. IsKnownAt (home_of x.plan (f, r)) p o)
    by-node None up = tt
    by-node (Some p) up =
        world-fits-by-numbers x.plan x most can.checked refl w.fine f r p o role (ap (λ (k : Role). node_role x o.node k) role ∙ ap (λ (z : Slot). z.node) (slot-here x o.node s e) ∙ up) some t

-- a plain place with which the work can be compared
pub record CanCompareAt (x : World) (f r : ℕ) (u : SlotValue) (o : OrderValue MillState) : Type 0 where
  pub slot : Slot
  pub plain : slice_get x.nodes (node_place x.plan o.node) ≡ Some slot
  pub can : CanCompare o (home_of x.plan (f, r)) u slot

compare-own : (x : World) (most f r : ℕ) (v : WorldPartsValue) (u : SlotValue) (o : OrderValue MillState) → CanRun x.plan → IsTrueWork x.plan o → 1 ≤ length o.buckets → role_of x.plan o.node ≡ IsNode f r → IsWorldOf x.plan v x most →
    slice_get v.nodes (node_place x.plan o.node) ≡ Some u → CanCompareAt x f r u o
compare-own x most f r v u o can t some role w e =
    let at = step-at x most o.node f r v u can role w e in record { slot = at.slot; plain = at.plain; can = record { slot = at.can; known = known-own x most f r v at.slot o can t some w role at.plain } }

-- the place that was read
pub compare-at : (plan : Plan) (v old : WorldPartsValue) (f r i : ℕ) (u : SlotValue) (o : OrderValue MillState) (x : World) (most : ℕ) → CanRun plan → IsTrueWork plan o → 1 ≤ length o.buckets → IsPlaceRead plan v old o.node f r i u →
    IsWorldOf plan old x most → CanCompareAt x f r u o
compare-at plan v old f r i u o x most can t some h w =
    subst (λ (p : Plan). CanRun p → IsTrueWork p o → role_of p o.node ≡ IsNode f r → IsWorldOf p old x most → slice_get old.nodes (node_place p o.node) ≡ Some u → CanCompareAt x f r u o) w.stands.plan_is
    (λ can t role w e. compare-own x most f r old u o can t some role w e) can t h.role w (read-old plan v old o.node f r i u h)

-- what putting it back wants
pub read-compare : (plan : Plan) (v old : WorldPartsValue) (f r i : ℕ) (u : SlotValue) (o : OrderValue MillState) → CanRun plan → IsTrueWork plan o → 1 ≤ length o.buckets → IsPlaceRead plan v old o.node f r i u →
    (home : Home) × (s : Slot) × CanCompare o home u s
read-compare plan v old f r i u o can t some h =
    let x = h.some.0 in let at = compare-at plan v old f r i u o x h.some.1 can t some h h.some.2 in (home_of x.plan (f, r), at.slot, at.can)

-- the plain node at a place is the actor's
node-here : (x : World) (f r a : ℕ) (s : Slot) → role_of x.plan a ≡ IsNode f r → slice_get x.nodes (node_place x.plan a) ≡ Some s → s.node ≡ node_at x a
node-here x f r a s role e = sym (ap (λ (k : Role). node_role x a k) role ∙ ap (λ (z : Slot). z.node) (slot-here x a s e))

-- where it is work for its place it is timely
pub timely-in : (plan : Plan) (v old : WorldPartsValue) (f r i : ℕ) (u : SlotValue) (o : OrderValue MillState) → CanRun plan → IsTrueWork plan o → 1 ≤ length o.buckets → IsPlaceRead plan v old o.node f r i u →
    ((home : Home) (s : Slot) → CanCompare o home u s → IsWorkFor o home s) → (x : World) (most : ℕ) → IsWorldOf plan old x most → IsTimelyIn plan x o
timely-in plan v old f r i u o can t some h work x most w =
    let at = compare-at plan v old f r i u o x most can t some h w in
    let here = work (home_of x.plan (f, r)) at.slot at.can in
    let same = w.stands.plan_is in
    record {
      frag = f;
      replica = r;
      plain = here.plain;
      role = h.role;
      up = sym (node-here x f r o.node at.slot (own-role plan o.node f r x same h.role) at.plain) ∙ here.up;
      work = subst (λ (p : Plan). IsWorkAt (home_of p (f, r)) here.plain o) same here.work;
    }

-- where it is late for its place it is late
pub late-in : (plan : Plan) (v old : WorldPartsValue) (f r i : ℕ) (u : SlotValue) (o : OrderValue MillState) (had needed : Point) → CanRun plan → IsTrueWork plan o → 1 ≤ length o.buckets → IsPlaceRead plan v old o.node f r i u →
    ((home : Home) (s : Slot) → CanCompare o home u s → IsLateFor o had needed home s) → (x : World) (most : ℕ) → IsWorldOf plan old x most → IsLateIn plan x o had needed
late-in plan v old f r i u o had needed can t some h late x most w =
    let at = compare-at plan v old f r i u o x most can t some h w in
    let here = late (home_of x.plan (f, r)) at.slot at.can in
    let same = w.stands.plan_is in
    let node = node-here x f r o.node at.slot (own-role plan o.node f r x same h.role) at.plain in
    record {
      asked = here.asked;
      stale = here.stale;
      down = λ none. here.down (node ∙ none) ∙ ap (λ (z : Slot). down_point z.last_inc) (sym (slot-here x o.node at.slot at.plain));
      up = λ g q p role up.
          subst (λ (k : ℕ × ℕ). IsBeside (home_of plan k) p o had) (same-place f r g q (sym h.role ∙ role))
          (subst (λ (y : Plan). IsBeside (home_of y (f, r)) p o had) same (here.up p (node ∙ up)));
    }
  where
    same-place : (f r g q : ℕ) → IsNode f r ≡ IsNode g q → ◌≡◌ {A = ℕ × ℕ} (f, r) (g, q)
    same-place f r g q e = let one : f ≡ g = cc in let two : r ≡ q = cc in rw (one, two) refl

-- ---- what putting it back makes of the whole

put-leads : (plan : Plan) (v : WorldPartsValue) (f r count : ℕ) (u new : SlotValue) (o : OrderValue MillState) (told : List code_mail.Mail) → CanRun plan → IsTrueWork plan o → 1 ≤ length o.buckets → role_of plan o.node ≡ IsNode f r →
    slice_get v.nodes (node_place plan o.node) ≡ Some u → ((home : Home) (s : Slot) → CanCompare o home u s → IsStepped home new told (slot_mills home count s)) →
    Leads plan v (with_posted o.node told (with_slot (node_place plan o.node) new v)) (Mill o.node count)
put-leads plan v f r count u new o told can t some role e steps =
    steps-lead plan v o.node f r new told (Mill o.node count) can role (λ x most same can role w.
    let at =
    compare-own x most f r v u o can (subst (λ (p : Plan). IsTrueWork p o) (sym same) t) some role w (subst (λ (p : Plan). slice_get v.nodes (node_place p o.node) ≡ Some u) (sym same) e) in
    record { step = slot_mills (home_of x.plan (f, r)) count at.slot; stepped = steps (home_of x.plan (f, r)) at.slot at.can; event = mill-event x o.node f r count at.slot role at.plain })

-- the actor that posts is the order's
pub put-back-leads : (plan : Plan) (v old : WorldPartsValue) (a f r count i : ℕ) (u new : SlotValue) (o : OrderValue MillState) (told : List code_mail.Mail) → CanRun plan → IsTrueWork plan o → 1 ≤ length o.buckets → a ≡ o.node →
    IsPlaceRead plan v old a f r i u → ((home : Home) (s : Slot) → CanCompare o home u s → IsStepped home new told (slot_mills home count s)) → Leads plan old (with_posted a told (with_slot i new v)) (Mill a count)
put-back-leads plan v old a f r count i u new o told can t some same h steps =
    subst (λ (n : ℕ). IsPlaceRead plan v old n f r i u → Leads plan old (with_posted n told (with_slot i new v)) (Mill n count)) (sym same)
    (λ h. read-leads plan v old o.node f r i u new told (Mill o.node count) h (put-leads plan v f r count u new o told can t some h.role (read-is plan v old o.node f r i u h) steps)) h
