-- What the code's calls on a node's place want, and what they make of the whole.
use Rattle.std.proofs.Common.{◌≡◌, ℕ, true, ◌<◌, List, length, refl, sym, ap, subst, ◌∙◌, arith, Some, None, slice_get, slice_index_or, inl, inr, Result, Err}
use Rattle.std.specs.Result.{IsErrAnd}
use Rattle.std.proofs.lemmas.Option.{slice_get_within, slice_get_read}
use Rattle.std.proofs.lemmas.Result.{err_from_is_err_and}
use Rattle.dpc_model.specs.Limits.{most_envelopes, most_items}
use Rattle.dpc_model.specs.Actors.{role_of}
use Rattle.dpc_model.specs.declared.actors.Role.TheVariants.{Node as IsNode}
use Rattle.dpc_model.specs.declared.messages.Event.{Event}
use Rattle.dpc_model.specs.declared.messages.Event.TheVariants.{Crash, Restart, Deliver, Tick, Mill}
use Rattle.dpc_model.specs.declared.plans.Plan.{Plan}
use Rattle.node_model.specs.Mails.{Packet}
use Rattle.node_model.specs.Nodes.{Home}
use Rattle.node_core.specs.declared.packets.Mail as code_mail
use Rattle.world_model.specs.Worlds.{World, Slot, home_of, node_place, link_up, restart_slot}
use Rattle.law_fit.specs.Fits.{CanRun}
use Rattle.world_parts.specs.Parts.{WorldPartsValue, SlotValue, EnvelopeValue, StandsForSlot, StandsForWorld}
use Rattle.world_parts.specs.Counting.{with_posted, IsWithinLimits, IsPastLimits, IsTooLong}
use Rattle.world_parts.specs.Events.{IsSomeWorld, IsComing, Leads, Happened, WouldPass}
use Rattle.world_parts.specs.Slots.{slot_mills, slot_takes, slot_ticks, CanStep, CanCome, IsStepped}
use Rattle.world_parts.specs.declared.faults.EventFault.{EventFault}
use Rattle.world_parts.specs.declared.faults.EventFault.TheVariants as fault
use Rattle.world_parts.proofs.Posting.{happened, would-pass}
use Rattle.world_parts.proofs.NodePlaces.{with_slot}
use Rattle.world_parts.proofs.NodeLeads.{place-low, some-step, crash-leads, restart-leads, mill-leads, tick-leads, some-come, deliver-leads}

-- ---- the place that the code reads

-- the code's element at a node's place, in parts that contracts see as `old`
pub record IsPlaceRead (plan : Plan) (v old : WorldPartsValue) (a f r i : ℕ) (u : SlotValue) : Type 0 where
  pub same : v ≡ old
  pub some : IsSomeWorld plan old
  pub role : role_of plan a ≡ IsNode f r
  pub place : i ≡ node_place plan a
  pub value : u ≡ slice_index_or v.nodes i u

pub read-low : (plan : Plan) (v old : WorldPartsValue) (a f r i : ℕ) → v ≡ old → IsSomeWorld plan old → role_of plan a ≡ IsNode f r → i ≡ node_place plan a → i < length v.nodes
read-low plan v old a f r i same some role place =
    let low = place-low plan a f r old role some in let as_long : length v.nodes ≡ length old.nodes = ap (λ (w : WorldPartsValue). length w.nodes) same in omega (arith, low, place, as_long)

pub read-is : (plan : Plan) (v old : WorldPartsValue) (a f r i : ℕ) (u : SlotValue) → IsPlaceRead plan v old a f r i u → slice_get v.nodes (node_place plan a) ≡ Some u
read-is plan v old a f r i u h = subst (λ (n : ℕ). slice_get v.nodes n ≡ Some u) h.place (slice_get_read v.nodes (length v.nodes) i u refl (read-low plan v old a f r i h.same h.some h.role h.place) h.value)

-- ---- limits

pub within-limits : (v : WorldPartsValue) → (IsPastLimits v → ⊥) → IsWithinLimits v
within-limits v h =
    let few : most_envelopes < length v.envelopes → ⊥ = λ l. h (inl l) in
    let light : most_items < v.items → ⊥ = λ l. h (inr l) in
    record { envelopes = omega (arith, few); items = omega (arith, light) }

-- ---- a crash and a restart

-- a place is changed, and nothing is sent
slot-happened : (plan : Plan) (v old : WorldPartsValue) (a f r i : ℕ) (u new : SlotValue) (e : Event) → IsPlaceRead plan v old a f r i u → IsWithinLimits v → Leads plan v (with_slot (node_place plan a) new v) e →
    Happened plan old (with_slot i new v) e
slot-happened plan v old a f r i u new e h within leads =
    subst (λ (o : WorldPartsValue). Happened plan o (with_slot i new v) e) h.same (subst (λ (n : ℕ). Happened plan v (with_slot n new v) e) (sym h.place)
    (happened plan v (with_slot (node_place plan a) new v) e (record { envelopes = within.envelopes; items = within.items }) leads))

pub crash-happened : (plan : Plan) (v old : WorldPartsValue) (a f r i : ℕ) (u new : SlotValue) → IsPlaceRead plan v old a f r i u → IsWithinLimits v → new ≡ record u { node = None } → Happened plan old (with_slot i new v) (Crash a)
crash-happened plan v old a f r i u new h within is = slot-happened plan v old a f r i u new (Crash a) h within (crash-leads plan v a f r u new h.role (read-is plan v old a f r i u h) is)

pub restart-happened : (plan : Plan) (v old : WorldPartsValue) (a f r inc i : ℕ) (u new : SlotValue) → IsPlaceRead plan v old a f r i u → IsWithinLimits v →
    ((s : Slot) → StandsForSlot (home_of plan (f, r)) u s → StandsForSlot (home_of plan (f, r)) new (restart_slot (home_of plan (f, r)) inc s)) → Happened plan old (with_slot i new v) (Restart a inc)
restart-happened plan v old a f r inc i u new h within keeps =
    slot-happened plan v old a f r i u new (Restart a inc) h within (restart-leads plan v a f r inc u new h.role (read-is plan v old a f r i u h) keeps)

-- ---- a step, and what it sends

-- what is read of a place is what a step wants
pub read-step : (plan : Plan) (v old : WorldPartsValue) (a f r i : ℕ) (u : SlotValue) → CanRun plan → IsPlaceRead plan v old a f r i u → (home : Home) × (s : Slot) × CanStep home u s
read-step plan v old a f r i u can h = some-step plan v a f r u can h.role (read-is plan v old a f r i u h) (subst (λ (w : WorldPartsValue). IsSomeWorld plan w) (sym h.same) h.some)

pub read-leads : (plan : Plan) (v old : WorldPartsValue) (a f r i : ℕ) (u new : SlotValue) (told : List code_mail.Mail) (e : Event) → IsPlaceRead plan v old a f r i u →
    Leads plan v (with_posted a told (with_slot (node_place plan a) new v)) e → Leads plan old (with_posted a told (with_slot i new v)) e
read-leads plan v old a f r i u new told e h leads =
    subst (λ (o : WorldPartsValue). Leads plan o (with_posted a told (with_slot i new v)) e) h.same
    (subst (λ (n : ℕ). Leads plan v (with_posted a told (with_slot n new v)) e) (sym h.place) leads)

pub milled-leads : (plan : Plan) (v old : WorldPartsValue) (a f r count i : ℕ) (u new : SlotValue) (told : List code_mail.Mail) → CanRun plan → IsPlaceRead plan v old a f r i u →
    ((home : Home) (s : Slot) → CanStep home u s → IsStepped home new told (slot_mills home count s)) → Leads plan old (with_posted a told (with_slot i new v)) (Mill a count)
milled-leads plan v old a f r count i u new told can h steps =
    read-leads plan v old a f r i u new told (Mill a count) h (mill-leads plan v a f r count u new told can h.role (read-is plan v old a f r i u h) steps)

pub ticked-leads : (plan : Plan) (v old : WorldPartsValue) (a f r now i : ℕ) (u new : SlotValue) (told : List code_mail.Mail) → CanRun plan → IsPlaceRead plan v old a f r i u →
    ((home : Home) (s : Slot) → CanStep home u s → IsStepped home new told (slot_ticks home now s)) → Leads plan old (with_posted a told (with_slot i new v)) (Tick a now)
ticked-leads plan v old a f r now i u new told can h steps =
    read-leads plan v old a f r i u new told (Tick a now) h (tick-leads plan v a f r now u new told can h.role (read-is plan v old a f r i u h) steps)

-- what was posted happened
pub posted-happened : (plan : Plan) (old w new : WorldPartsValue) (e : Event) → new ≡ w → (IsPastLimits w → ⊥) → Leads plan old w e → Happened plan old new e
posted-happened plan old w new e is within leads = subst (λ (x : WorldPartsValue). Happened plan old x e) (sym is) (happened plan old w e (within-limits w within) leads)

-- what could not be posted would pass a limit
pub posted-passes : (plan : Plan) (old w : WorldPartsValue) (e : Event) (r : Result (Unit {0}) EventFault) (why : EventFault) → IsErrAnd r (λ y. y ≡ why) →
    ((envelopes items : ℕ) → ◌≡◌ {A = Result (Unit {0}) EventFault} (Err why) (Err (fault.TooLong envelopes items)) → IsTooLong envelopes items w) → Leads plan old w e →
    (envelopes items : ℕ) → r ≡ Err (fault.TooLong envelopes items) → WouldPass plan old e envelopes items
posted-passes plan old w e r why given long leads envelopes items is =
    let p = err_from_is_err_and r given in
    would-pass plan old w e envelopes items (long envelopes items (sym (p.1 ∙ ap (λ (y : EventFault). Err y) p.2) ∙ is)) leads

-- ---- an envelope comes

-- that number is one
pub coming-low : (plan : Plan) (v old : WorldPartsValue) (k f r : ℕ) → v ≡ old → IsComing plan old k (IsNode f r) → k < length v.envelopes
coming-low plan v old k f r same comes =
    let low = slice_get_within old.envelopes k comes.envelope comes.is in let as_long : length v.envelopes ≡ length old.envelopes = ap (λ (w : WorldPartsValue). length w.envelopes) same in omega (arith, low, as_long)

same-envelope : {x y : EnvelopeValue} → Some x ≡ Some y → x ≡ y
same-envelope p = cc

-- what is read there is the envelope that comes
coming-read : (plan : Plan) (v old : WorldPartsValue) (k f r : ℕ) (env read : EnvelopeValue) → v ≡ old → (comes : IsComing plan old k (IsNode f r)) → read ≡ slice_index_or v.envelopes k read → env ≡ read → comes.envelope ≡ env
coming-read plan v old k f r env read same comes is env_is =
    let here = slice_get_read v.envelopes (length v.envelopes) k read refl (coming-low plan v old k f r same comes) is in
    same-envelope (sym comes.is ∙ sym (ap (λ (w : WorldPartsValue). slice_get w.envelopes k) same) ∙ here) ∙ sym env_is

-- so its addressee is the node
pub coming-role : (plan : Plan) (v old : WorldPartsValue) (k f r : ℕ) (env read : EnvelopeValue) → v ≡ old → IsComing plan old k (IsNode f r) → read ≡ slice_index_or v.envelopes k read → env ≡ read → role_of plan env.to ≡ IsNode f r
coming-role plan v old k f r env read same comes is env_is = ap (λ (e : EnvelopeValue). role_of plan e.to) (sym (coming-read plan v old k f r env read same comes is env_is)) ∙ comes.to

-- the code reads an envelope of that number for its addressee, and once more, and the place of the node
pub record IsComingRead (plan : Plan) (v old : WorldPartsValue) (k f r i : ℕ) (front env : EnvelopeValue) (u : SlotValue) : Type 0 where
  pub same : v ≡ old
  pub some : IsSomeWorld plan old
  pub comes : IsComing plan old k (IsNode f r)
  pub first : EnvelopeValue
  pub first_is : first ≡ slice_index_or v.envelopes k first
  pub front_is : front ≡ first
  pub second : EnvelopeValue
  pub second_is : second ≡ slice_index_or v.envelopes k second
  pub env_is : env ≡ second
  pub place : i ≡ node_place plan front.to
  pub value : u ≡ slice_index_or v.nodes i u

-- it is the envelope that comes
record IsEnvelope (plan : Plan) (v old : WorldPartsValue) (k f r i : ℕ) (front env : EnvelopeValue) (u : SlotValue) : Type 0 where
  same : env ≡ front
  is : slice_get v.envelopes k ≡ Some env
  role : role_of plan env.to ≡ IsNode f r
  linked : (x : World) → StandsForWorld plan v x → link_up x env.sender env.to ≡ true
  read : IsPlaceRead plan v old front.to f r i u
  there : slice_get v.nodes (node_place plan env.to) ≡ Some u

coming-is : (plan : Plan) (v old : WorldPartsValue) (k f r i : ℕ) (front env : EnvelopeValue) (u : SlotValue) → IsComingRead plan v old k f r i front env u → IsEnvelope plan v old k f r i front env u
coming-is plan v old k f r i front env u h =
    let one = coming-read plan v old k f r front h.first h.same h.comes h.first_is h.front_is in
    let two = coming-read plan v old k f r env h.second h.same h.comes h.second_is h.env_is in
    let both : env ≡ front = sym two ∙ one in
    let read : IsPlaceRead plan v old front.to f r i u =
    record { same = h.same; some = h.some; role = coming-role plan v old k f r front h.first h.same h.comes h.first_is h.front_is; place = h.place; value = h.value } in
    record {
      same = both;
      is = ap (λ (w : WorldPartsValue). slice_get w.envelopes k) h.same ∙ h.comes.is ∙ ap (λ (e : EnvelopeValue). Some e) two;
      role = coming-role plan v old k f r env h.second h.same h.comes h.second_is h.env_is;
      linked = λ x stands. subst (λ (e : EnvelopeValue). link_up x e.sender e.to ≡ true) two (h.comes.linked x (subst (λ (w : WorldPartsValue). StandsForWorld plan w x) h.same stands));
      read = read;
      there = subst (λ (e : EnvelopeValue). slice_get v.nodes (node_place plan e.to) ≡ Some u) (sym both) (read-is plan v old front.to f r i u read);
    }

pub read-come : (plan : Plan) (v old : WorldPartsValue) (k f r i : ℕ) (front env : EnvelopeValue) (u : SlotValue) → CanRun plan → IsComingRead plan v old k f r i front env u →
    (home : Home) × (s : Slot) × (q : Packet) × CanCome env.sender home u s env.packet q
read-come plan v old k f r i front env u can h =
    let at = coming-is plan v old k f r i front env u h in some-come plan v k f r env u can at.role at.is at.there (subst (λ (w : WorldPartsValue). IsSomeWorld plan w) (sym h.same) h.some)

pub taken-leads : (plan : Plan) (v old : WorldPartsValue) (k f r i : ℕ) (front env : EnvelopeValue) (u new : SlotValue) (told : List code_mail.Mail) → CanRun plan → IsComingRead plan v old k f r i front env u →
    ((home : Home) (s : Slot) (q : Packet) → CanCome env.sender home u s env.packet q → IsStepped home new told (slot_takes home env.sender q s)) →
    Leads plan old (with_posted front.to told (with_slot i new v)) (Deliver k)
taken-leads plan v old k f r i front env u new told can h steps =
    let at = coming-is plan v old k f r i front env u h in
    read-leads plan v old front.to f r i u new told (Deliver k) at.read
    (subst (λ (e : EnvelopeValue). Leads plan v (with_posted e.to told (with_slot (node_place plan e.to) new v)) (Deliver k)) at.same (deliver-leads plan v k f r env u new told can at.role at.is at.linked at.there steps))
