-- The parts with a changed place of a node stand for what the event leaves.
use Rattle.std.proofs.Common.{◌≡◌, ℕ, ◌<◌, Bool, true, List, [], ◌∷◌, ◌++◌, map, length, refl, sym, ap, subst, ◌∙◌, Option, Some, None, slice_get}
use Rattle.std.specs.Prelude.{IfSome}
use Rattle.std.proofs.lemmas.Option.{slice_get_within}
use Rattle.dpc_lists.specs.Lists.{changed, list_all}
use Rattle.dpc_model.specs.Actors.{role_of}
use Rattle.dpc_model.specs.declared.actors.Role.{Role}
use Rattle.dpc_model.specs.declared.actors.Role.TheVariants.{Node as IsNode}
use Rattle.dpc_model.specs.declared.messages.Event.{Event}
use Rattle.dpc_model.specs.declared.messages.Event.TheVariants.{Crash, Restart, Deliver, Tick, Mill}
use Rattle.dpc_model.specs.declared.plans.Plan.{Plan}
use Rattle.node_model.specs.Mails.{Packet, Stepped}
use Rattle.node_model.specs.Nodes.{Home, PlainNode}
use Rattle.node_model.specs.Fitting.{IsFit, IsFitPacket}
use Rattle.node_core.specs.declared.packets.Mail as code_mail
use Rattle.world_model.specs.Worlds.{World, Envelope, Slot, home_of, node_place, from, link_up, restart_slot, happens}
use Rattle.world_model.specs.Orderly.{is_fitting}
use Rattle.law_safety.specs.Plans.{IsCheckedPlan}
use Rattle.law_safety.specs.Keeps.{IsFineWorld}
use Rattle.dpc_lists.proofs.Truths.{both}
use Rattle.law_safety.proofs.Law.{event-keeps}
use Rattle.law_fit.specs.Fits.{CanRun}
use Rattle.law_fit.proofs.FitWorlds.{world-nodes, world-packets}
use Rattle.world_parts.specs.Parts.{WorldPartsValue, SlotValue, EnvelopeValue, StandsForSlot, StandsForSent, StandsForEnvelope, StandsForWorld}
use Rattle.world_parts.specs.Counting.{with_posted}
use Rattle.world_parts.specs.Events.{IsWorldOf, IsSomeWorld, Leads}
use Rattle.world_parts.specs.Slots.{slot_mills, slot_takes, slot_ticks, CanStep, CanCome, IsStepped}
use Rattle.world_parts.proofs.Posting.{node-sent, posted-stands}
use Rattle.world_parts.proofs.NodePlaces.{with_slot, place-of, place-changed, slot-here, zip-at}
use Rattle.world_parts.proofs.NodeEvents.{place_stepped, IsNoNode, mill-event, tick-event, deliver-event, crash-event, restart-event, crash-void, restart-void, mill-void}

-- ---- a step of a node

-- a step at a node's place, and what stands for it
pub record IsEventOf (a f r : ℕ) (new : SlotValue) (told : List code_mail.Mail) (e : Event) (x : World) : Type 0 where
  pub step : Stepped Slot
  pub stepped : IsStepped (home_of x.plan (f, r)) new told step
  pub event : happens x e ≡ place_stepped x a step

-- what the event sends is fitting
sends-fit : (x : World) (most a : ℕ) (e : Event) (step : Stepped Slot) → IsCheckedPlan x.plan → IsFineWorld x most → happens x e ≡ place_stepped x a step → list_all (is_fitting x.plan) (map (from a) step.sends) ≡ true
sends-fit x most a e step checked fine event =
    let after : list_all (is_fitting x.plan) (x.envelopes ++ map (from a) step.sends) ≡ true =
    subst (λ (y : World). list_all (is_fitting y.plan) y.envelopes ≡ true) event (event-keeps x most e checked fine).orderly.sent in
    all-behind (is_fitting x.plan) x.envelopes (map (from a) step.sends) after
  where
    all-behind : {X : Type 0} (q : X → Bool) (xs ys : List X) → list_all q (xs ++ ys) ≡ true → list_all q ys ≡ true
    all-behind q [] ys h = h
    all-behind q (x ∷ xs) ys h = all-behind q xs ys (both (q x) (list_all q (xs ++ ys)) h).1

steps-stand : (x : World) (most a f r : ℕ) (v : WorldPartsValue) (new : SlotValue) (told : List code_mail.Mail) (e : Event) → CanRun x.plan → role_of x.plan a ≡ IsNode f r → IsWorldOf x.plan v x most → IsEventOf a f r new told e x →
    StandsForWorld x.plan (with_posted a told (with_slot (node_place x.plan a) new v)) (happens x e)
steps-stand x most a f r v new told e can role w h =
    let mid = record x { nodes = changed (node_place x.plan a) (λ _. h.step.after) x.nodes } in
    let stands : StandsForWorld x.plan (with_slot (node_place x.plan a) new v) mid = place-changed x.plan a f r v x new (λ _. h.step.after) role w.stands (λ u s i j k. h.stepped.after) in
    let fits = sends-fit x most a e h.step can.checked w.fine h.event in
    subst (λ (y : World). StandsForWorld x.plan (with_posted a told (with_slot (node_place x.plan a) new v)) y) (sym h.event)
    (posted-stands x.plan (with_slot (node_place x.plan a) new v) mid a told h.step.sends stands (node-sent x.plan a f r told h.step.sends role fits h.stepped.sends))

pub steps-lead : (plan : Plan) (v : WorldPartsValue) (a f r : ℕ) (new : SlotValue) (told : List code_mail.Mail) (e : Event) → CanRun plan → role_of plan a ≡ IsNode f r →
    ((x : World) (most : ℕ) → x.plan ≡ plan → CanRun x.plan → role_of x.plan a ≡ IsNode f r → IsWorldOf x.plan v x most → IsEventOf a f r new told e x) → Leads plan v (with_posted a told (with_slot (node_place plan a) new v)) e
steps-lead plan v a f r new told e can role each = λ x most w.
    subst (λ (p : Plan). x.plan ≡ p → CanRun p → role_of p a ≡ IsNode f r → IsWorldOf p v x most → ((x : World) (most : ℕ) → x.plan ≡ p → CanRun x.plan → role_of x.plan a ≡ IsNode f r → IsWorldOf x.plan v x most → IsEventOf a f r new told e x) →
    StandsForWorld p (with_posted a told (with_slot (node_place p a) new v)) (happens x e)) w.stands.plan_is
    (λ same can role w each. steps-stand x most a f r v new told e can role w (each x most same can role w)) w.stands.plan_is can role w each

-- ---- what a step wants

slot-fit : (x : World) (most a f r : ℕ) (s : Slot) → CanRun x.plan → IsFineWorld x most → role_of x.plan a ≡ IsNode f r → slice_get x.nodes (node_place x.plan a) ≡ Some s → IfSome s.node (λ p. IsFit (home_of x.plan (f, r)) p)
slot-fit x most a f r s can fine role e = by-node s.node refl
  where
    by-node : (o : Option PlainNode) → s.node ≡ o → IfSome o (λ p. IsFit (home_of x.plan (f, r)) p)
    by-node None up = tt
    by-node (Some p) up = world-nodes x most can.checked can.end fine a f r p role (ap (λ (t : Slot). t.node) (slot-here x a s e) ∙ up)

packet-fit : (x : World) (most k f r : ℕ) (y : Envelope) (s : Slot) → CanRun x.plan → IsFineWorld x most → slice_get x.envelopes k ≡ Some y → role_of x.plan y.to ≡ IsNode f r → slice_get x.nodes (node_place x.plan y.to) ≡ Some s →
    IfSome s.node (λ p. IsFitPacket (home_of x.plan (f, r)) y.sender p y.packet)
packet-fit x most k f r y s can fine there role e = by-node s.node refl
  where
    by-node : (o : Option PlainNode) → s.node ≡ o → IfSome o (λ p. IsFitPacket (home_of x.plan (f, r)) y.sender p y.packet)
    by-node None up = tt
    by-node (Some p) up = world-packets x most can.checked fine k f r y p there role (ap (λ (t : Slot). t.node) (slot-here x y.to s e) ∙ up)

-- a plain place that may make a step
pub record CanStepAt (x : World) (a f r : ℕ) (u : SlotValue) : Type 0 where
  pub slot : Slot
  pub plain : slice_get x.nodes (node_place x.plan a) ≡ Some slot
  pub can : CanStep (home_of x.plan (f, r)) u slot

pub step-at : (x : World) (most a f r : ℕ) (v : WorldPartsValue) (u : SlotValue) → CanRun x.plan → role_of x.plan a ≡ IsNode f r → IsWorldOf x.plan v x most → slice_get v.nodes (node_place x.plan a) ≡ Some u → CanStepAt x a f r u
step-at x most a f r v u can role w e =
    let at = place-of x.plan a f r v x role w.stands in
    let same : at.value ≡ u = some-same (sym at.is ∙ e) in
    record {
      slot = at.slot;
      plain = at.plain;
      can = record { stands = subst (λ (z : SlotValue). StandsForSlot (home_of x.plan (f, r)) z at.slot) same at.stands; fit = slot-fit x most a f r at.slot can w.fine role at.plain };
    }
  where
    some-same : {X : Type 0} {y z : X} → Some y ≡ Some z → y ≡ z
    some-same p = cc

-- and a packet that may come to it
record CanComeAt (x : World) (k f r : ℕ) (env : EnvelopeValue) (u : SlotValue) : Type 0 where
  slot : Slot
  q : Packet
  plain : slice_get x.nodes (node_place x.plan env.to) ≡ Some slot
  there : slice_get x.envelopes k ≡ Some (record { sender = env.sender; to = env.to; packet = q })
  can : CanCome env.sender (home_of x.plan (f, r)) u slot env.packet q

come-at : (x : World) (most k f r : ℕ) (v : WorldPartsValue) (env : EnvelopeValue) (u : SlotValue) → CanRun x.plan → role_of x.plan env.to ≡ IsNode f r → IsWorldOf x.plan v x most →
    slice_get v.envelopes k ≡ Some env → slice_get v.nodes (node_place x.plan env.to) ≡ Some u → CanComeAt x k f r env u
come-at x most k f r v env u can role w i e =
    let found = zip-at (StandsForEnvelope x.plan) k env v.envelopes x.envelopes i w.stands.envelopes in
    let y = found.0 in
    let stands = found.2 in
    let same : y ≡ record { sender = env.sender; to = env.to; packet = y.packet } =
    ap (λ (n : ℕ). record { sender = n; to = y.to; packet = y.packet }) (sym stands.sender) ∙ ap (λ (n : ℕ). record { sender = env.sender; to = n; packet = y.packet }) (sym stands.to) in
    let there : slice_get x.envelopes k ≡ Some (record { sender = env.sender; to = env.to; packet = y.packet }) = found.1 ∙ ap (λ (z : Envelope). Some z) same in
    let at = step-at x most env.to f r v u can role w e in
    record {
      slot = at.slot;
      q = y.packet;
      plain = at.plain;
      there = there;
      can = record {
        slot = at.can;
        alike = subst (λ (z : Role). StandsForSent x.plan z env.packet y.packet) (ap (λ (n : ℕ). role_of x.plan n) (sym stands.to) ∙ role) stands.packet;
        fits = packet-fit x most k f r (record { sender = env.sender; to = env.to; packet = y.packet }) at.slot can w.fine there role at.plain;
      };
    }

-- ---- steps lead on

pub mill-leads : (plan : Plan) (v : WorldPartsValue) (a f r count : ℕ) (u new : SlotValue) (told : List code_mail.Mail) → CanRun plan → role_of plan a ≡ IsNode f r → slice_get v.nodes (node_place plan a) ≡ Some u →
    ((home : Home) (s : Slot) → CanStep home u s → IsStepped home new told (slot_mills home count s)) → Leads plan v (with_posted a told (with_slot (node_place plan a) new v)) (Mill a count)
mill-leads plan v a f r count u new told can role e steps =
    steps-lead plan v a f r new told (Mill a count) can role (λ x most same can role w.
    let at = step-at x most a f r v u can role w (subst (λ (p : Plan). slice_get v.nodes (node_place p a) ≡ Some u) (sym same) e) in
    record { step = slot_mills (home_of x.plan (f, r)) count at.slot; stepped = steps (home_of x.plan (f, r)) at.slot at.can; event = mill-event x a f r count at.slot role at.plain })

pub tick-leads : (plan : Plan) (v : WorldPartsValue) (a f r now : ℕ) (u new : SlotValue) (told : List code_mail.Mail) → CanRun plan → role_of plan a ≡ IsNode f r → slice_get v.nodes (node_place plan a) ≡ Some u →
    ((home : Home) (s : Slot) → CanStep home u s → IsStepped home new told (slot_ticks home now s)) → Leads plan v (with_posted a told (with_slot (node_place plan a) new v)) (Tick a now)
tick-leads plan v a f r now u new told can role e steps =
    steps-lead plan v a f r new told (Tick a now) can role (λ x most same can role w.
    let at = step-at x most a f r v u can role w (subst (λ (p : Plan). slice_get v.nodes (node_place p a) ≡ Some u) (sym same) e) in
    record { step = slot_ticks (home_of x.plan (f, r)) now at.slot; stepped = steps (home_of x.plan (f, r)) at.slot at.can; event = tick-event x a f r now at.slot role at.plain })

pub deliver-leads : (plan : Plan) (v : WorldPartsValue) (k f r : ℕ) (env : EnvelopeValue) (u new : SlotValue) (told : List code_mail.Mail) → CanRun plan → role_of plan env.to ≡ IsNode f r → slice_get v.envelopes k ≡ Some env →
    ((x : World) → StandsForWorld plan v x → link_up x env.sender env.to ≡ true) → slice_get v.nodes (node_place plan env.to) ≡ Some u →
    ((home : Home) (s : Slot) (q : Packet) → CanCome env.sender home u s env.packet q → IsStepped home new told (slot_takes home env.sender q s)) →
    Leads plan v (with_posted env.to told (with_slot (node_place plan env.to) new v)) (Deliver k)
deliver-leads plan v k f r env u new told can role i linked e steps =
    steps-lead plan v env.to f r new told (Deliver k) can role (λ x most same can role w.
    let at = come-at x most k f r v env u can role w i (subst (λ (p : Plan). slice_get v.nodes (node_place p env.to) ≡ Some u) (sym same) e) in
    record {
      step = slot_takes (home_of x.plan (f, r)) env.sender at.q at.slot;
      stepped = steps (home_of x.plan (f, r)) at.slot at.q at.can;
      event = deliver-event x k f r (record { sender = env.sender; to = env.to; packet = at.q }) at.slot at.there role (linked x (subst (λ (p : Plan). StandsForWorld p v x) same w.stands)) at.plain;
    })

-- ---- what is sent nothing for

slots-lead : (plan : Plan) (v : WorldPartsValue) (a f r : ℕ) (new : SlotValue) (e : Event) (g : Plan → Slot → Slot) → role_of plan a ≡ IsNode f r →
    ((u : SlotValue) (s : Slot) → slice_get v.nodes (node_place plan a) ≡ Some u → StandsForSlot (home_of plan (f, r)) u s → StandsForSlot (home_of plan (f, r)) new (g plan s)) →
    ((x : World) → role_of x.plan a ≡ IsNode f r → happens x e ≡ record x { nodes = changed (node_place x.plan a) (g x.plan) x.nodes }) → Leads plan v (with_slot (node_place plan a) new v) e
slots-lead plan v a f r new e g role keeps event = λ x most w.
    subst (λ (p : Plan). role_of p a ≡ IsNode f r → StandsForWorld p v x →
    ((u : SlotValue) (s : Slot) → slice_get v.nodes (node_place p a) ≡ Some u → StandsForSlot (home_of p (f, r)) u s → StandsForSlot (home_of p (f, r)) new (g p s)) →
    StandsForWorld p (with_slot (node_place p a) new v) (happens x e)) w.stands.plan_is
    (λ role stands keeps. subst (λ (y : World). StandsForWorld x.plan (with_slot (node_place x.plan a) new v) y) (sym (event x role)) (place-changed x.plan a f r v x new (g x.plan) role stands (λ u s i j k. keeps u s i k)))
    role w.stands keeps

same-value : {u t : SlotValue} → Some u ≡ Some t → u ≡ t
same-value p = cc

pub crash-leads : (plan : Plan) (v : WorldPartsValue) (a f r : ℕ) (u new : SlotValue) → role_of plan a ≡ IsNode f r → slice_get v.nodes (node_place plan a) ≡ Some u → new ≡ record u { node = None } →
    Leads plan v (with_slot (node_place plan a) new v) (Crash a)
crash-leads plan v a f r u new role e is =
    slots-lead plan v a f r new (Crash a) (λ plan slot. record slot { node = None }) role
    (λ t s i h. let same : t ≡ u = same-value (sym i ∙ e) in
    subst (λ (z : SlotValue). StandsForSlot (home_of plan (f, r)) z (record s { node = None })) (sym is) (record { last_inc = ap (λ (z : SlotValue). z.last_inc) (sym same) ∙ h.last_inc; node = tt }))
    (λ x role. crash-event x a f r role)

pub restart-leads : (plan : Plan) (v : WorldPartsValue) (a f r inc : ℕ) (u new : SlotValue) → role_of plan a ≡ IsNode f r → slice_get v.nodes (node_place plan a) ≡ Some u →
    ((s : Slot) → StandsForSlot (home_of plan (f, r)) u s → StandsForSlot (home_of plan (f, r)) new (restart_slot (home_of plan (f, r)) inc s)) → Leads plan v (with_slot (node_place plan a) new v) (Restart a inc)
restart-leads plan v a f r inc u new role e keeps =
    slots-lead plan v a f r new (Restart a inc) (λ plan slot. restart_slot (home_of plan (f, r)) inc slot) role
    (λ t s i h. keeps s (subst (λ (z : SlotValue). StandsForSlot (home_of plan (f, r)) z s) (same-value (sym i ∙ e)) h)) (λ x role. restart-event x a f r inc role)

-- an event that changes nothing
void-leads : (plan : Plan) (v : WorldPartsValue) (a : ℕ) (e : Event) → IsNoNode (role_of plan a) → ((x : World) → IsNoNode (role_of x.plan a) → happens x e ≡ x) → Leads plan v v e
void-leads plan v a e other void = λ x most w.
    subst (λ (y : World). StandsForWorld plan v y) (sym (void x (subst (λ (p : Plan). IsNoNode (role_of p a)) (sym w.stands.plan_is) other))) w.stands

pub crash-stays : (plan : Plan) (v : WorldPartsValue) (a : ℕ) → IsNoNode (role_of plan a) → Leads plan v v (Crash a)
crash-stays plan v a other = void-leads plan v a (Crash a) other (λ x h. crash-void x a h)

pub restart-stays : (plan : Plan) (v : WorldPartsValue) (a inc : ℕ) → IsNoNode (role_of plan a) → Leads plan v v (Restart a inc)
restart-stays plan v a inc other = void-leads plan v a (Restart a inc) other (λ x h. restart-void x a inc h)

pub mill-stays : (plan : Plan) (v : WorldPartsValue) (a count : ℕ) → IsNoNode (role_of plan a) → Leads plan v v (Mill a count)
mill-stays plan v a count other = void-leads plan v a (Mill a count) other (λ x h. mill-void x a count h)

-- ---- what the calls want

-- the number of a node's place is one
pub place-low : (plan : Plan) (a f r : ℕ) (v : WorldPartsValue) → role_of plan a ≡ IsNode f r → IsSomeWorld plan v → node_place plan a < length v.nodes
place-low plan a f r v role some = let at = place-of plan a f r v some.0 role some.2.stands in slice_get_within v.nodes (node_place plan a) at.value at.is

pub some-step : (plan : Plan) (v : WorldPartsValue) (a f r : ℕ) (u : SlotValue) → CanRun plan → role_of plan a ≡ IsNode f r → slice_get v.nodes (node_place plan a) ≡ Some u → IsSomeWorld plan v → (home : Home) × (s : Slot) × CanStep home u s
some-step plan v a f r u can role e some =
    subst (λ (p : Plan). CanRun p → role_of p a ≡ IsNode f r → slice_get v.nodes (node_place p a) ≡ Some u → IsWorldOf p v some.0 some.1 → (home : Home) × (s : Slot) × CanStep home u s) some.2.stands.plan_is
    (λ can role e w. let at = step-at some.0 some.1 a f r v u can role w e in (home_of some.0.plan (f, r), at.slot, at.can)) can role e some.2

pub some-come : (plan : Plan) (v : WorldPartsValue) (k f r : ℕ) (env : EnvelopeValue) (u : SlotValue) → CanRun plan → role_of plan env.to ≡ IsNode f r → slice_get v.envelopes k ≡ Some env → slice_get v.nodes (node_place plan env.to) ≡ Some u →
    IsSomeWorld plan v → (home : Home) × (s : Slot) × (q : Packet) × CanCome env.sender home u s env.packet q
some-come plan v k f r env u can role i e some =
    subst (λ (p : Plan). CanRun p → role_of p env.to ≡ IsNode f r → slice_get v.nodes (node_place p env.to) ≡ Some u → IsWorldOf p v some.0 some.1 → (home : Home) × (s : Slot) × (q : Packet) × CanCome env.sender home u s env.packet q)
    some.2.stands.plan_is (λ can role e w. let at = come-at some.0 some.1 k f r v env u can role w i e in (home_of some.0.plan (f, r), at.slot, at.q, at.can)) can role e some.2
