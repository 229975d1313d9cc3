-- What posting mails makes of what stands for a world, and what follows of an event.
use Rattle.std.proofs.Common.{◌≡◌, ℕ, zero, suc, Some, slice_get, slice_index_or, ◌+◌, ◌≤◌, Bool, true, false, not, ◌||◌, ◌&&◌, ◌==◌, nat_lt, List, [], ◌∷◌, ◌++◌, map, length, refl, sym, ap, subst, ◌∙◌, arith, inl, inr}
use Rattle.std.specs.List.{AllZip}
use Rattle.std.proofs.lemmas.Option.{get_or_from_slice_get}
use Rattle.std.proofs.lemmas.Slice.Zip.{AllZip-long}
use Rattle.dpc_lists.specs.Lists.{list_all}
use Rattle.dpc_model.specs.Limits.{most_envelopes, most_items}
use Rattle.dpc_model.specs.Actors.{role_of}
use Rattle.dpc_model.specs.declared.actors.Role.{Role}
use Rattle.dpc_model.specs.declared.actors.Role.TheVariants.{Source as IsSource, Node as IsNode, Client as IsClient, Nobody}
use Rattle.dpc_model.specs.declared.messages.Event.{Event}
use Rattle.dpc_model.specs.declared.messages.Out.{Out}
use Rattle.dpc_model.specs.declared.plans.Plan.{Plan}
use Rattle.dpc_model.specs.declared.messages.Message.{Message}
use Rattle.node_model.specs.Mails.{Packet, Plain, Mail, mails}
use Rattle.node_model.specs.Nodes.{spec_of}
use Rattle.pipeline.specs.Recovery.{StandsForSnapshot}
use Rattle.node_core.specs.Standing.{AreMails, StandsForPacket}
use Rattle.node_core.specs.declared.packets.Packet as code
use Rattle.node_core.specs.declared.packets.Packet.TheVariants as packet
use Rattle.node_core.specs.declared.packets.Mail as code_mail
use Rattle.world_model.specs.Worlds.{World, Envelope, home_of, happens, from, sent, item_count, items_in, passes_limit}
use Rattle.world_model.specs.Orderly.{is_fitting, packet_way, carries_fitting}
use Rattle.dpc_lists.proofs.Truths.{both, eq-of, lt-test, not-less, or-left, or-right}
use Rattle.world_parts.specs.Parts.{WorldPartsValue, EnvelopeValue, StandsForSent, StandsForEnvelope, StandsForWorld}
use Rattle.world_parts.specs.Counting.{items_carried, all_carried, posted, with_posted, IsPastLimits, IsWithinLimits, IsTooLong}
use Rattle.world_parts.specs.Events.{Leads, Happened, WouldPass}

-- a mail stands for the plain one at the place of its addressee
pub record IsSent (plan : Plan) (m : code_mail.Mail) (q : Mail) : Type 0 where
  pub to : m.to ≡ q.to
  pub packet : StandsForSent plan (role_of plan q.to) m.packet q.packet

abbrev pub AreSent : Plan → List code_mail.Mail → List Mail → Type 0
AreSent plan = AllZip (IsSent plan)

-- ---- mails

-- a message is sent as it is, to whomever it goes
plain-to : (plan : Plan) (role : Role) (m : Message) (q : Packet) → q ≡ Plain m → StandsForSent plan role (packet.Plain m) q
plain-to plan (IsNode f r) m q e = e
plain-to plan (IsSource s) m q e = (m, refl, e)
plain-to plan (IsClient c) m q e = (m, refl, e)
plain-to plan Nobody m q e = (m, refl, e)

abbrev pub as_mail : Out → code_mail.Mail
as_mail o = record { to = o.to; packet = packet.Plain o.message }

-- messages of a source or a client
pub plain-sent : (plan : Plan) (outs : List Out) → AreSent plan (map (λ (o : Out). record { to = o.to; packet = packet.Plain o.message }) outs) (mails outs)
plain-sent plan [] = tt
plain-sent plan (o ∷ outs) = (record { to = refl; packet = plain-to plan (role_of plan o.to) o.message (Plain o.message) refl }, plain-sent plan outs)

-- a snapshot goes to a replica of the same fragment
packet-to : (plan : Plan) (f r : ℕ) (role : Role) (p : code.Packet) (q : Packet) → StandsForPacket (home_of plan (f, r)) p q → packet_way plan (IsNode f r) role q ≡ true → StandsForSent plan role p q
packet-to plan f r role (packet.Plain m) q h way = plain-to plan role m q h
packet-to plan f r (IsNode g k) (packet.SnapFor inc try s) q h way =
    let peers : (f == g && not (r == k)) ≡ true = rw h.1 at way in
    let same : f ≡ g = eq-of f g (both (f == g) (not (r == k)) peers).0 in
    (h.0, h.1, subst (λ (i : ℕ). StandsForSnapshot (spec_of (home_of plan (i, k))).ops plan.width s.value h.0) same h.2)
packet-to plan f r (IsSource u) (packet.SnapFor inc try s) q h way = let none : false ≡ true = rw h.1 at way in cc
packet-to plan f r (IsClient c) (packet.SnapFor inc try s) q h way = let none : false ≡ true = rw h.1 at way in cc
packet-to plan f r Nobody (packet.SnapFor inc try s) q h way = let none : false ≡ true = rw h.1 at way in cc

-- what a node sends: its snapshots go to replicas of its own fragment
pub node-sent :
    (plan : Plan) (a f r : ℕ) (told : List code_mail.Mail) (ms : List Mail) → role_of plan a ≡ IsNode f r → list_all (is_fitting plan) (map (from a) ms) ≡ true →
    AreMails (home_of plan (f, r)) told ms → AreSent plan told ms
node-sent plan a f r [] [] role fits h = tt
node-sent plan a f r [] (q ∷ ms) role fits h = absurd h
node-sent plan a f r (m ∷ told) [] role fits h = absurd h
node-sent plan a f r (m ∷ told) (q ∷ ms) role fits h =
    let each = both (is_fitting plan (from a q)) (list_all (is_fitting plan) (map (from a) ms)) fits in
    let way : packet_way plan (IsNode f r) (role_of plan q.to) q.packet ≡ true =
    ap (λ (i : Role). packet_way plan i (role_of plan q.to) q.packet) (sym role) ∙ (both (packet_way plan (role_of plan a) (role_of plan q.to) q.packet) (carries_fitting plan (role_of plan a) q.packet) each.0).0 in
    (record { to = h.0.to; packet = packet-to plan f r (role_of plan q.to) m.packet q.packet h.0.packet way }, node-sent plan a f r told ms role each.1 h.1)

-- ---- items

-- it carries as many items as the plain one
carried-same : (plan : Plan) (to : ℕ) (role : Role) (p : code.Packet) (q : Packet) → role_of plan to ≡ role → StandsForSent plan role p q → items_carried p ≡ items_in plan to q
carried-same plan to (IsNode f r) (packet.Plain m) q e h = rw h refl
carried-same plan to (IsNode f r) (packet.SnapFor inc try s) q e h = rw h.1 (rw e (ap length h.2.kept))
carried-same plan to (IsSource s) p q e h = rw (h.1, h.2) refl
carried-same plan to (IsClient c) p q e h = rw (h.1, h.2) refl
carried-same plan to Nobody p q e h = rw (h.1, h.2) refl

all-carried : (plan : Plan) (w : World) (a : ℕ) (told : List code_mail.Mail) (ms : List Mail) → w.plan ≡ plan → AreSent plan told ms → all_carried told ≡ item_count w (map (from a) ms)
all-carried plan w a [] [] e h = refl
all-carried plan w a [] (q ∷ ms) e h = absurd h
all-carried plan w a (m ∷ told) [] e h = absurd h
all-carried plan w a (m ∷ told) (q ∷ ms) e h =
    let first : items_carried m.packet ≡ items_in w.plan q.to q.packet = carried-same plan q.to (role_of plan q.to) m.packet q.packet refl h.0.packet ∙ ap (λ (p : Plan). items_in p q.to q.packet) (sym e) in
    rw (first, all-carried plan w a told ms e h.1) refl

count-append : (w : World) (es fs : List Envelope) → item_count w (es ++ fs) ≡ item_count w es + item_count w fs
count-append w [] fs = omega arith
count-append w (e ∷ es) fs = let rest = count-append w es fs in omega (arith, rest)

-- worlds of one plan count alike
pub count-same : (w y : World) (es : List Envelope) → w.plan ≡ y.plan → item_count w es ≡ item_count y es
count-same w y [] e = refl
count-same w y (x ∷ es) e = rw (e, count-same w y es e) refl

-- ---- what stands for a world

zip-append : {A B : Type 0} (R : A → B → Type 0) (xs : List A) (ys : List B) (us : List A) (vs : List B) → AllZip R xs ys → AllZip R us vs → AllZip R (xs ++ us) (ys ++ vs)
zip-append R [] [] us vs h k = k
zip-append R [] (y ∷ ys) us vs h k = absurd h
zip-append R (x ∷ xs) [] us vs h k = absurd h
zip-append R (x ∷ xs) (y ∷ ys) us vs h k = (h.0, zip-append R xs ys us vs h.1 k)

envelopes-stand : (plan : Plan) (a : ℕ) (told : List code_mail.Mail) (ms : List Mail) → AreSent plan told ms → AllZip (StandsForEnvelope plan) (map (posted a) told) (map (from a) ms)
envelopes-stand plan a [] [] h = tt
envelopes-stand plan a [] (q ∷ ms) h = absurd h
envelopes-stand plan a (m ∷ told) [] h = absurd h
envelopes-stand plan a (m ∷ told) (q ∷ ms) h = (record { sender = refl; to = h.0.to; packet = h.0.packet }, envelopes-stand plan a told ms h.1)

pub posted-stands :
    (plan : Plan) (v : WorldPartsValue) (x : World) (a : ℕ) (told : List code_mail.Mail) (ms : List Mail) → StandsForWorld plan v x → AreSent plan told ms →
    StandsForWorld plan (with_posted a told v) (sent a ms x)
posted-stands plan v x a told ms h k =
    record {
      plan_is = h.plan_is;
      sources = h.sources;
      nodes = h.nodes;
      clients = h.clients;
      cuts = h.cuts;
      envelopes = zip-append (StandsForEnvelope plan) v.envelopes x.envelopes (map (posted a) told) (map (from a) ms) h.envelopes (envelopes-stand plan a told ms k);
      items =
          let before : v.items ≡ item_count (sent a ms x) x.envelopes = h.items ∙ count-same x (sent a ms x) x.envelopes refl in
          let added : all_carried told ≡ item_count (sent a ms x) (map (from a) ms) = all-carried plan (sent a ms x) a told ms h.plan_is k in
          rw (before, added) (sym (count-append (sent a ms x) x.envelopes (map (from a) ms)));
    }

-- the plain one of an envelope
pub record IsEnvelopeAt (plan : Plan) (k : ℕ) (v : EnvelopeValue) (x : World) : Type 0 where
  pub envelope : Envelope
  pub is : slice_get x.envelopes k ≡ Some envelope
  pub stands : StandsForEnvelope plan v envelope

pub envelope-at : (plan : Plan) (v : WorldPartsValue) (x : World) (k : ℕ) (e : EnvelopeValue) → StandsForWorld plan v x → slice_get v.envelopes k ≡ Some e → IsEnvelopeAt plan k e x
envelope-at plan v x k e h is = let found = among v.envelopes x.envelopes k h.envelopes is in record { envelope = found.0; is = found.1; stands = found.2 }
  where
    among : (vs : List EnvelopeValue) (xs : List Envelope) (i : ℕ) → AllZip (StandsForEnvelope plan) vs xs → slice_get vs i ≡ Some e → (y : Envelope) × (slice_get xs i ≡ Some y) × StandsForEnvelope plan e y
    among [] xs i all f = cc
    among (u ∷ vs) [] i all f = absurd all
    among (u ∷ vs) (y ∷ xs) zero all f = let same : u ≡ e = cc in (y, refl, rw same at all.0)
    among (u ∷ vs) (y ∷ xs) (suc i) all f = among vs xs i all.1 f

-- an envelope that the code reads
pub envelope-seen : (old seen : WorldPartsValue) (k : ℕ) (e read : EnvelopeValue) → seen ≡ old → slice_get old.envelopes k ≡ Some e → read ≡ slice_index_or seen.envelopes k read → read ≡ e
envelope-seen old seen k e read same is here = here ∙ ap (λ (p : WorldPartsValue). slice_index_or p.envelopes k read) same ∙ get_or_from_slice_get old.envelopes k e read is

-- ---- limits

either-false : (a b : Bool) → a ≡ false → b ≡ false → (a || b) ≡ false
either-false a b e f = rw (e, f) refl

-- as many envelopes as the plain world has
as-many : (plan : Plan) (v : WorldPartsValue) (y : World) → StandsForWorld plan v y → length y.envelopes ≡ length v.envelopes
as-many plan v y s = AllZip-long (StandsForEnvelope plan) v.envelopes y.envelopes s.envelopes

-- an event that leads to this, within the limits, happened
pub happened : (plan : Plan) (old new : WorldPartsValue) (e : Event) → IsWithinLimits new → Leads plan old new e → Happened plan old new e
happened plan old new e h leads = record { within = λ x most w. within x (leads x most w); after = leads }
  where
    within : (x : World) → StandsForWorld plan new (happens x e) → passes_limit x e ≡ false
    within x s =
        let many = as-many plan new (happens x e) s in
        let envelopes : length (happens x e).envelopes ≤ most_envelopes = rw many h.envelopes in
        let items : item_count (happens x e) (happens x e).envelopes ≤ most_items = rw (← s.items) h.items in
        either-false (nat_lt most_envelopes (length (happens x e).envelopes)) (nat_lt most_items (item_count (happens x e) (happens x e).envelopes)) (not-less _ _ envelopes) (not-less _ _ items)

past-limit : (plan : Plan) (v : WorldPartsValue) (y : World) → StandsForWorld plan v y → IsPastLimits v → (nat_lt most_envelopes (length y.envelopes) || nat_lt most_items (item_count y y.envelopes)) ≡ true
past-limit plan v y s (inl far) = or-left (nat_lt most_envelopes (length y.envelopes)) (nat_lt most_items (item_count y y.envelopes)) (lt-test _ _ (rw (as-many plan v y s) far))
past-limit plan v y s (inr far) = or-right (nat_lt most_envelopes (length y.envelopes)) (nat_lt most_items (item_count y y.envelopes)) (lt-test _ _ (rw (← s.items) far))

-- one that would lead to this, past them, would pass a limit
pub would-pass : (plan : Plan) (old v : WorldPartsValue) (e : Event) (envelopes items : ℕ) → IsTooLong envelopes items v → Leads plan old v e → WouldPass plan old e envelopes items
would-pass plan old v e envelopes items h leads =
    record {
      passes = λ x most w. past-limit plan v (happens x e) (leads x most w) h.past;
      envelopes_are = λ x most w. as-many plan v (happens x e) (leads x most w) ∙ sym h.envelopes_are;
      items_are = λ x most w. sym (leads x most w).items ∙ sym h.items_are;
    }

-- one that changes nothing happened, where all is within the limits
pub nothing-happened : (plan : Plan) (v : WorldPartsValue) (e : Event) → IsWithinLimits v → ((x : World) → StandsForWorld plan v x → happens x e ≡ x) → Happened plan v v e
nothing-happened plan v e h same = happened plan v v e h (λ x most w. subst (λ (y : World). StandsForWorld plan v y) (sym (same x w.stands)) w.stands)
