-- The clients: each stands at its place, and one of them changes.
use Rattle.std.proofs.Common.{◌≡◌, ℕ, zero, suc, ◌+◌, ◌<◌, List, [], ◌∷◌, length, refl, sym, ap, subst, ◌∙◌, arith, Some, slice_get, slice_set}
use Rattle.dpc_lists.specs.Lists.{changed}
use Rattle.dpc_model.specs.Actors.{role_of}
use Rattle.dpc_model.specs.declared.actors.Role.TheVariants.{Client as IsClient}
use Rattle.dpc_model.specs.declared.messages.Event.TheVariants.{Deliver}
use Rattle.dpc_model.specs.declared.messages.Message.{Message}
use Rattle.dpc_model.specs.declared.plans.Plan.{Plan}
use Rattle.node_model.specs.Mails.{Packet, Plain}
use Rattle.node_model.specs.Clients.{ClientState, client_after_packet}
use Rattle.node_core.specs.declared.packets.Packet.TheVariants as packet
use Rattle.client_fold.specs.Folding.{ClientValue, StandsForClient, Follows, StandForClients}
use Rattle.world_model.specs.Worlds.{World, happens}
use Rattle.law_safety.proofs.Worlding.{client-below}
use Rattle.world_parts.specs.Parts.{WorldPartsValue, StandsForWorld}
use Rattle.world_parts.specs.Counting.{IsWithinLimits}
use Rattle.world_parts.specs.Events.{IsSomeWorld, IsComing, IsWorldOf, Happened}
use Rattle.world_parts.proofs.Arrivals.{arrived}
use Rattle.world_parts.proofs.PartFrames.{with-clients, unsent}

-- there are as many as the plan has
pub client-count : (plan : Plan) (c : ℕ) (vs : List ClientValue) (xs : List ClientState) → StandForClients plan c vs xs → c + length vs ≡ length plan.clients
client-count plan c [] [] h = omega (arith, h)
client-count plan c [] (x ∷ xs) h = absurd h
client-count plan c (v ∷ vs) [] h = absurd h
client-count plan c (v ∷ vs) (x ∷ xs) h = let rest = client-count plan (c + 1) vs xs h.1 in omega (arith, rest)

-- the plain client at a place
pub client-stands :
    (plan : Plan) (c i : ℕ) (vs : List ClientValue) (xs : List ClientState) (v : ClientValue) → StandForClients plan c vs xs → slice_get vs i ≡ Some v →
    (x : ClientState) × (slice_get xs i ≡ Some x) × StandsForClient plan (c + i) v x
client-stands plan c i [] xs v h e = cc
client-stands plan c i (u ∷ vs) [] v h e = absurd h
client-stands plan c zero (u ∷ vs) (x ∷ xs) v h e =
    let same : u ≡ v = cc in let none : c + 0 ≡ c = omega arith in (x, refl, rw none (subst (λ (w : ClientValue). StandsForClient plan c w x) same h.0))
client-stands plan c (suc i) (u ∷ vs) (x ∷ xs) v h e =
    let next : c + suc i ≡ c + 1 + i = omega arith in rw next (client-stands plan (c + 1) i vs xs v h.1 e)

-- one of them changes, as the plain one does
pub clients-set :
    (plan : Plan) (c i : ℕ) (old new : ClientValue) (f : ClientState → ClientState) (vs : List ClientValue) (xs : List ClientState) → StandForClients plan c vs xs → slice_get vs i ≡ Some old →
    ((x : ClientState) → slice_get xs i ≡ Some x → StandsForClient plan (c + i) old x → StandsForClient plan (c + i) new (f x)) → StandForClients plan c (slice_set vs i new) (changed i f xs)
clients-set plan c i old new f [] xs h e steps = cc
clients-set plan c i old new f (u ∷ vs) [] h e steps = absurd h
clients-set plan c zero old new f (u ∷ vs) (x ∷ xs) h e steps =
    let same : u ≡ old = cc in
    let none : c + 0 ≡ c = omega arith in (rw none at (steps x refl (rw none (subst (λ (w : ClientValue). StandsForClient plan c w x) same h.0))), h.1)
clients-set plan c (suc i) old new f (u ∷ vs) (x ∷ xs) h e steps =
    let next : c + suc i ≡ c + 1 + i = omega arith in (h.0, clients-set plan (c + 1) i old new f vs xs h.1 e (rw next at steps))

-- a client's place is there
pub client_there : (plan : Plan) (v : WorldPartsValue) (a c : ℕ) → IsSomeWorld plan v → role_of plan a ≡ IsClient c → c < length v.clients
client_there plan v a c some role =
    let count = client-count plan 0 v.clients some.0.clients some.2.stands.clients in
    let low = client-below plan a c role in
    omega (arith, count, low)

-- what comes to a client is a message
pub client_message : (plan : Plan) (v : WorldPartsValue) (k c : ℕ) → IsSomeWorld plan v → (comes : IsComing plan v k (IsClient c)) → (m : Message) × (comes.envelope.packet ≡ packet.Plain m)
client_message plan v k c some comes = let p = (arrived plan v some.0 k (IsClient c) some.2.stands comes).packet in (p.0, p.1)

-- what a message made of it, said of the packet that came
follows-packet :
    (plan p : Plan) (c a b : ℕ) (m : Message) (q : Packet) (old next : ClientValue) (y : ClientState) → p ≡ plan → a ≡ b → q ≡ Plain m →
    Follows (λ plan c x. client_after_packet plan c a (Plain m) x) old next → StandsForClient plan (0 + c) old y → StandsForClient plan (0 + c) next (client_after_packet p c b q y)
follows-packet plan p c a b m q old next y same who told follows stands =
    let zero_on : 0 + c ≡ c = omega arith in rw (zero_on, same, told, ← who) (follows plan c y (rw zero_on at stands))

-- a client that took what came
pub client_took :
    (plan : Plan) (v new : WorldPartsValue) (k c : ℕ) (m : Message) (old next : ClientValue) → IsWithinLimits v → (comes : IsComing plan v k (IsClient c)) → comes.envelope.packet ≡ packet.Plain m →
    slice_get v.clients c ≡ Some old → Follows (λ plan c x. client_after_packet plan c comes.envelope.sender (Plain m) x) old next → record v { clients = slice_set v.clients c next } ≡ new →
    Happened plan v new (Deliver k)
client_took plan v new k c m old next within comes is at follows same =
    subst (λ (n : WorldPartsValue). Happened plan v n (Deliver k)) same (unsent plan v (record v { clients = slice_set v.clients c next }) (Deliver k) within refl refl leads)
  where
    leads : (x : World) (most : ℕ) → IsWorldOf plan v x most → StandsForWorld plan (record v { clients = slice_set v.clients c next }) (happens x (Deliver k))
    leads x most h =
        let came = arrived plan v x k (IsClient c) h.stands comes in
        let plain = came.plain in
        let told : came.packet.0 ≡ m = cc in
        let packet_is : plain.packet ≡ Plain m = came.packet.2 ∙ ap Plain told in
        subst (λ (w : World). StandsForWorld plan (record v { clients = slice_set v.clients c next }) w) (sym came.happens)
        (with-clients plan v x (slice_set v.clients c next) (changed c (client_after_packet x.plan c plain.sender plain.packet) x.clients) h.stands
        (clients-set plan 0 c old next (client_after_packet x.plan c plain.sender plain.packet) v.clients x.clients h.stands.clients at
        (λ y e s. follows-packet plan x.plan c comes.envelope.sender plain.sender m plain.packet old next y h.stands.plan_is came.sender packet_is follows s)))
