-- What stays where the actors of one sort change, or links; and events that send nothing, or change nothing.
use Rattle.std.proofs.Common.{◌≡◌, ℕ, ◌<◌, ◌≤◌, List, [], ◌∷◌, inl, inr, map, length, get_or, slice_get, Some, None, Result, Err, IsErrAnd, refl, sym, ap, subst, ◌∙◌}
use Rattle.std.proofs.lemmas.Option.{slice_get_read, slice_get_past}
use Rattle.dpc_model.specs.declared.messages.Event.{Event}
use Rattle.dpc_model.specs.declared.plans.Plan.{Plan}
use Rattle.node_model.specs.Clients.{ClientState}
use Rattle.client_fold.specs.Folding.{ClientValue, StandForClients}
use Rattle.world_model.specs.Worlds.{World, Envelope, item_count, happens}
use Rattle.world_parts.specs.Parts.{WorldPartsValue, StandsForWorld}
use Rattle.world_parts.specs.Counting.{IsWithinLimits, IsPastLimits, with_posted}
use Rattle.world_parts.specs.Events.{Leads, Happened}
use Rattle.world_parts.proofs.Posting.{AreSent, plain-sent, happened}
use Rattle.std.proofs.lemmas.Bool.{cases_lt}
use Rattle.dpc_model.specs.Limits.{most_envelopes, most_items}
use Rattle.dpc_model.specs.declared.messages.Out.{Out}
use Rattle.node_model.specs.Mails.{Mail, mails}
use Rattle.node_core.specs.declared.packets.Packet.TheVariants as packet
use Rattle.node_core.specs.declared.packets.Mail as code_mail

-- what an index reads, of a list that is seen by the model
pub read-at : {X : Type 0} (es xs : List X) (i : ℕ) (x : X) → es ≡ xs → i < length xs → x ≡ get_or es i x → slice_get xs i ≡ Some x
read-at {X = X} es xs i x same low read = slice_get_read xs (length xs) i x refl low (read ∙ ap (λ (ys : List X). get_or ys i x) same)

-- what `get` finds
pub read_seen : {X : Type 0} (es xs : List X) (i : ℕ) (e f : X) → es ≡ xs → i < length es → f ≡ get_or es i f → e ≡ f → slice_get xs i ≡ Some e
read_seen {X = X} es xs i e f same low read is =
    subst (λ (ys : List X). slice_get ys i ≡ Some e) same (subst (λ (g : X). slice_get es i ≡ Some g) (sym is) (slice_get_read es (length es) i f refl low read))

-- where it finds none
pub past_all : {X : Type 0} (es xs : List X) (i : ℕ) → es ≡ xs → length es ≤ i → slice_get xs i ≡ None
past_all {X = X} es xs i same far = slice_get_past xs i (subst (λ (ys : List X). length ys ≤ i) same far)

-- items are counted by the plan
pub item_count-plan : (w u : World) (es : List Envelope) → w.plan ≡ u.plan → item_count w es ≡ item_count u es
item_count-plan w u [] h = refl
item_count-plan w u (e ∷ es) h = let rest = item_count-plan w u es h in cc

pub with-clients :
    (plan : Plan) (v : WorldPartsValue) (x : World) (vs : List ClientValue) (xs : List ClientState) → StandsForWorld plan v x → StandForClients plan 0 vs xs →
    StandsForWorld plan (record v { clients = vs }) (record x { clients = xs })
with-clients plan v x vs xs h k =
    record {
      plan_is = h.plan_is;
      sources = h.sources;
      nodes = h.nodes;
      clients = k;
      cuts = h.cuts;
      envelopes = h.envelopes;
      items = h.items ∙ item_count-plan x (record x { clients = xs }) x.envelopes refl;
    }

pub with-cuts :
    (plan : Plan) (v : WorldPartsValue) (x : World) (vs xs : List (ℕ × ℕ)) → StandsForWorld plan v x → vs ≡ xs →
    StandsForWorld plan (record v { cuts = vs }) (record x { cuts = xs })
with-cuts plan v x vs xs h k =
    record {
      plan_is = h.plan_is;
      sources = h.sources;
      nodes = h.nodes;
      clients = h.clients;
      cuts = k;
      envelopes = h.envelopes;
      items = h.items ∙ item_count-plan x (record x { cuts = xs }) x.envelopes refl;
    }

-- an event that sends nothing stays within the limits
pub unsent : (plan : Plan) (v new : WorldPartsValue) (e : Event) → IsWithinLimits v → new.envelopes ≡ v.envelopes → new.items ≡ v.items → Leads plan v new e → Happened plan v new e
unsent plan v new e within same count leads = happened plan v new e (record { envelopes = rw same within.envelopes; items = rw count within.items }) leads

-- one that changes nothing
pub void : (plan : Plan) (v : WorldPartsValue) (e : Event) → IsWithinLimits v → ((x : World) → StandsForWorld plan v x → happens x e ≡ x) → Happened plan v v e
void plan v e within same = happened plan v v e within (λ x most h. subst (λ (y : World). StandsForWorld plan v y) (sym (same x h.stands)) h.stands)

-- what is not past the limits is within them
pub not-past : (v : WorldPartsValue) → (IsPastLimits v → ⊥) → IsWithinLimits v
not-past v h =
    record {
      envelopes = elim (cases_lt most_envelopes (length v.envelopes)) [ inl high ↦ absurd (h (inl high)) | inr low ↦ low ];
      items = elim (cases_lt most_items v.items) [ inl high ↦ absurd (h (inr high)) | inr low ↦ low ];
    }

-- an event that posts what it leads to, within the limits
pub posted_happened :
    (plan : Plan) (old v new : WorldPartsValue) (a : ℕ) (told : List code_mail.Mail) (e : Event) → new ≡ with_posted a told v → (IsPastLimits (with_posted a told v) → ⊥) → Leads plan old (with_posted a told v) e →
    Happened plan old new e
posted_happened plan old v new a told e is low leads =
    subst (λ (n : WorldPartsValue). Happened plan old n e) (sym is) (happened plan old (with_posted a told v) e (not-past (with_posted a told v) low) leads)

-- messages as mails stand for the plain ones
pub told-sent : (plan : Plan) (told : List code_mail.Mail) (outs : List Out) (ms : List Mail) → told ≡ map (λ (o : Out). record { to = o.to; packet = packet.Plain o.message }) outs → mails outs ≡ ms → AreSent plan told ms
told-sent plan told outs ms is same =
    subst (λ (ts : List code_mail.Mail). AreSent plan ts ms) (sym is)
    (subst (λ (qs : List Mail). AreSent plan (map (λ (o : Out). record { to = o.to; packet = packet.Plain o.message }) outs) qs) same (plain-sent plan outs))

-- the fault that a `?` hands on
pub handed_on : {T S E : Type 0} (r : Result T E) (x y : E) → IsErrAnd r (λ (z : E). z ≡ x) → r ≡ Err y → ◌≡◌ {A = Result S E} (Err x) (Err y)
handed_on {T = T} {S = S} {E = E} r x y h e = let at : IsErrAnd {T = T} (Err y) (λ (z : E). z ≡ x) = subst (λ (q : Result T E). IsErrAnd q (λ (z : E). z ≡ x)) e h in ap Err (sym at)

-- what an index reads twice is the same
pub read-twice : {X : Type 0} (xs : List X) (i : ℕ) (x y : X) → slice_get xs i ≡ Some x → slice_get xs i ≡ Some y → x ≡ y
read-twice xs i x y e f = cc
