-- The lists of a world: one actor's state is changed, and its sends become envelopes.
use Rattle.std.proofs.Common.{◌≡◌, ℕ, zero, suc, ◌+◌, ◌<◌, true, List, [], ◌∷◌, ◌++◌, map, length, refl, sym, ap, subst, ◌∙◌, arith, Option, Some, None, slice_get, ◌⊎◌, inl, inr}
use Rattle.std.specs.Prelude.{IfSome}
use Rattle.dpc_lists.specs.Lists.{nth, changed, range_with_len}
use Rattle.dpc_model.specs.Actors.{role_of, nodes_from, nodes_of}
use Rattle.dpc_model.specs.declared.actors.Role.{Role}
use Rattle.dpc_model.specs.declared.actors.Role.TheVariants.{Source as IsSource, Node as IsNode, Client as IsClient, Nobody}
use Rattle.dpc_model.specs.declared.plans.FragSpec.{FragSpec}
use Rattle.dpc_model.specs.declared.plans.ClientSpec.{ClientSpec}
use Rattle.dpc_model.specs.declared.plans.Plan.{Plan}
use Rattle.dpc_model.specs.declared.plans.StreamRef.TheVariants.{Source}
use Rattle.node_model.specs.Mails.{Mail}
use Rattle.node_model.specs.Nodes.{Home, PlainNode}
use Rattle.node_model.specs.Sources.{SourceState}
use Rattle.node_model.specs.Clients.{ClientState, client_stream}
use Rattle.world_model.specs.Worlds.{World, Envelope, Slot, home_of, node_place, from}
use Rattle.world_model.specs.Safe.{IsTrueEnvelope, AreTrue, IsSafeNode, AreSafeSlots, AreSafeClients, IsDone, SendsDoneSurely}
use Rattle.world_model.specs.Orderly.{IsOrderlyNode, is_port_sound, is_source_orderly, are_sources_orderly, are_clients_orderly, AreOrderlySlots}
use Rattle.law_safety.specs.Plans.{IsPlace, IsCheckedPlan}
use Rattle.dpc_lists.proofs.Truths.{both, both-of}
use Rattle.dpc_lists.proofs.Somes.{some-same}
use Rattle.law_safety.proofs.Frames.{IsGood}
use Rattle.law_safety.proofs.Emptied.{later-good, later-sound}
use Rattle.law_safety.proofs.Numbering.{node-at, role-split}
use Rattle.law_safety.proofs.Clienting.{IsGoodClient, IsReading}
use Rattle.law_safety.proofs.Mailing.{AreMails, IsActor}

-- ---- nodes

abbrev pub IsGoodSlot : Plan → ℕ → ℕ × ℕ → Slot → Type 0
IsGoodSlot plan most n slot = IfSome slot.node (λ (x : PlainNode). IsGood (home_of plan n) most x)

abbrev pub AreGoodSlots : Plan → ℕ → List (ℕ × ℕ) → List Slot → Type 0
AreGoodSlots plan most [] [] = Unit {0}
AreGoodSlots plan most (n ∷ ns) (slot ∷ slots) = IsGoodSlot plan most n slot × AreGoodSlots plan most ns slots
AreGoodSlots plan most [] (slot ∷ slots) = ⊥
AreGoodSlots plan most (n ∷ ns) [] = ⊥

node-both : (home : Home) (most : ℕ) (o : Option PlainNode) → IfSome o (λ n. IsSafeNode home n) → IfSome o (λ n. IsOrderlyNode home most n) → IfSome o (λ n. IsGood home most n)
node-both home most None h k = tt
node-both home most (Some n) h k = record { safe = h; orderly = k }

node-safe : (home : Home) (most : ℕ) (o : Option PlainNode) → IfSome o (λ n. IsGood home most n) → IfSome o (λ n. IsSafeNode home n)
node-safe home most None h = tt
node-safe home most (Some n) h = h.safe

node-orderly : (home : Home) (most : ℕ) (o : Option PlainNode) → IfSome o (λ n. IsGood home most n) → IfSome o (λ n. IsOrderlyNode home most n)
node-orderly home most None h = tt
node-orderly home most (Some n) h = h.orderly

node-later : (home : Home) (most : ℕ) (o : Option PlainNode) → IfSome o (λ n. IsGood home most n) → IfSome o (λ n. IsGood home (most + 1) n)
node-later home most None h = tt
node-later home most (Some n) h = later-good home most n h

pub slots-both : (plan : Plan) (most : ℕ) (ns : List (ℕ × ℕ)) (slots : List Slot) → AreSafeSlots plan ns slots → AreOrderlySlots plan most ns slots → AreGoodSlots plan most ns slots
slots-both plan most [] [] h k = tt
slots-both plan most [] (slot ∷ slots) h k = absurd h
slots-both plan most (n ∷ ns) [] h k = absurd h
slots-both plan most (n ∷ ns) (slot ∷ slots) h k = (node-both (home_of plan n) most slot.node h.0 k.0, slots-both plan most ns slots h.1 k.1)

pub slots-safe : (plan : Plan) (most : ℕ) (ns : List (ℕ × ℕ)) (slots : List Slot) → AreGoodSlots plan most ns slots → AreSafeSlots plan ns slots
slots-safe plan most [] [] h = tt
slots-safe plan most [] (slot ∷ slots) h = absurd h
slots-safe plan most (n ∷ ns) [] h = absurd h
slots-safe plan most (n ∷ ns) (slot ∷ slots) h = (node-safe (home_of plan n) most slot.node h.0, slots-safe plan most ns slots h.1)

pub slots-orderly : (plan : Plan) (most : ℕ) (ns : List (ℕ × ℕ)) (slots : List Slot) → AreGoodSlots plan most ns slots → AreOrderlySlots plan most ns slots
slots-orderly plan most [] [] h = tt
slots-orderly plan most [] (slot ∷ slots) h = absurd h
slots-orderly plan most (n ∷ ns) [] h = absurd h
slots-orderly plan most (n ∷ ns) (slot ∷ slots) h = (node-orderly (home_of plan n) most slot.node h.0, slots-orderly plan most ns slots h.1)

pub slots-later : (plan : Plan) (most : ℕ) (ns : List (ℕ × ℕ)) (slots : List Slot) → AreGoodSlots plan most ns slots → AreGoodSlots plan (most + 1) ns slots
slots-later plan most [] [] h = tt
slots-later plan most [] (slot ∷ slots) h = absurd h
slots-later plan most (n ∷ ns) [] h = absurd h
slots-later plan most (n ∷ ns) (slot ∷ slots) h = (node-later (home_of plan n) most slot.node h.0, slots-later plan most ns slots h.1)

pub slots-at : (plan : Plan) (most i : ℕ) (n : ℕ × ℕ) (ns : List (ℕ × ℕ)) (slots : List Slot) → slice_get ns i ≡ Some n → AreGoodSlots plan most ns slots → (slot : Slot) × (slice_get slots i ≡ Some slot) × IsGoodSlot plan most n slot
slots-at plan most i n [] slots e h = cc
slots-at plan most i n (m ∷ ns) [] e h = absurd h
slots-at plan most zero n (m ∷ ns) (slot ∷ slots) e h = (slot, refl, subst (λ (k : ℕ × ℕ). IsGoodSlot plan most k slot) (some-same m n e) h.0)
slots-at plan most (suc i) n (m ∷ ns) (slot ∷ slots) e h = slots-at plan most i n ns slots e h.1

pub slots-changed : (plan : Plan) (most i : ℕ) (n : ℕ × ℕ) (f : Slot → Slot) (ns : List (ℕ × ℕ)) (slots : List Slot) → slice_get ns i ≡ Some n →
    ((slot : Slot) → slice_get slots i ≡ Some slot → IsGoodSlot plan most n slot → IsGoodSlot plan (most + 1) n (f slot)) → AreGoodSlots plan most ns slots → AreGoodSlots plan (most + 1) ns (changed i f slots)
slots-changed plan most i n f [] slots e keeps h = cc
slots-changed plan most i n f (m ∷ ns) [] e keeps h = absurd h
slots-changed plan most zero n f (m ∷ ns) (slot ∷ slots) e keeps h =
    let same = some-same m n e in
    (subst (λ (k : ℕ × ℕ). IsGoodSlot plan (most + 1) k (f slot)) (sym same) (keeps slot refl (subst (λ (k : ℕ × ℕ). IsGoodSlot plan most k slot) same h.0)), slots-later plan most ns slots h.1)
slots-changed plan most (suc i) n f (m ∷ ns) (slot ∷ slots) e keeps h = (node-later (home_of plan m) most slot.node h.0, slots-changed plan most i n f ns slots e keeps h.1)

-- ---- sources

pub sources-at : (plan : Plan) (k i : ℕ) (xs : List SourceState) (x : SourceState) → are_sources_orderly plan k xs ≡ true → slice_get xs i ≡ Some x → is_source_orderly plan (k + i) x ≡ true
sources-at plan k i [] x h e = cc
sources-at plan k zero (y ∷ xs) x h e =
    let none : k + 0 ≡ k = omega arith in
    let same : y ≡ x = cc in rw none (rw same at (both (is_source_orderly plan k y) (are_sources_orderly plan (k + 1) xs) h).0)
sources-at plan k (suc i) (y ∷ xs) x h e =
    let next : k + suc i ≡ k + 1 + i = omega arith in rw next (sources-at plan (k + 1) i xs x (both (is_source_orderly plan k y) (are_sources_orderly plan (k + 1) xs) h).1 e)

pub sources-changed : (plan : Plan) (k i : ℕ) (f : SourceState → SourceState) (xs : List SourceState) →
    ((x : SourceState) → slice_get xs i ≡ Some x → is_source_orderly plan (k + i) x ≡ true → is_source_orderly plan (k + i) (f x) ≡ true) → are_sources_orderly plan k xs ≡ true → are_sources_orderly plan k (changed i f xs) ≡ true
sources-changed plan k i f [] keeps h = refl
sources-changed plan k zero f (x ∷ xs) keeps h =
    let none : k + 0 ≡ k = omega arith in
    let p = both (is_source_orderly plan k x) (are_sources_orderly plan (k + 1) xs) h in
    both-of (is_source_orderly plan k (f x)) (are_sources_orderly plan (k + 1) xs) (rw none at (keeps x refl (rw none p.0))) p.1
sources-changed plan k (suc i) f (x ∷ xs) keeps h =
    let next : k + suc i ≡ k + 1 + i = omega arith in
    let p = both (is_source_orderly plan k x) (are_sources_orderly plan (k + 1) xs) h in
    both-of (is_source_orderly plan k x) (are_sources_orderly plan (k + 1) (changed i f xs)) p.0 (sources-changed plan (k + 1) i f xs (rw next at keeps) p.1)

-- ---- clients

abbrev pub AreGoodClients : Plan → ℕ → ℕ → List ClientState → Type 0
AreGoodClients plan most c [] = Unit {0}
AreGoodClients plan most c (x ∷ xs) = IsGoodClient plan c most x × AreGoodClients plan most (c + 1) xs

pub client-later : (plan : Plan) (c most : ℕ) (x : ClientState) → IsGoodClient plan c most x → IsGoodClient plan c (most + 1) x
client-later plan c most x h = record { safe = h.safe; sound = later-sound plan (client_stream plan c) 1 most x.port h.sound }

pub clients-later : (plan : Plan) (most c : ℕ) (xs : List ClientState) → AreGoodClients plan most c xs → AreGoodClients plan (most + 1) c xs
clients-later plan most c [] h = tt
clients-later plan most c (x ∷ xs) h = (client-later plan c most x h.0, clients-later plan most (c + 1) xs h.1)

pub clients-both : (plan : Plan) (most c : ℕ) (xs : List ClientState) → AreSafeClients plan c xs → are_clients_orderly plan most c xs ≡ true → AreGoodClients plan most c xs
clients-both plan most c [] h k = tt
clients-both plan most c (x ∷ xs) h k =
    let p = both (is_port_sound plan (client_stream plan c) 1 most x.port) (are_clients_orderly plan most (c + 1) xs) k in
    (record { safe = h.0; sound = p.0 }, clients-both plan most (c + 1) xs h.1 p.1)

pub clients-safe : (plan : Plan) (most c : ℕ) (xs : List ClientState) → AreGoodClients plan most c xs → AreSafeClients plan c xs
clients-safe plan most c [] h = tt
clients-safe plan most c (x ∷ xs) h = (h.0.safe, clients-safe plan most (c + 1) xs h.1)

pub clients-orderly : (plan : Plan) (most c : ℕ) (xs : List ClientState) → AreGoodClients plan most c xs → are_clients_orderly plan most c xs ≡ true
clients-orderly plan most c [] h = refl
clients-orderly plan most c (x ∷ xs) h = both-of (is_port_sound plan (client_stream plan c) 1 most x.port) (are_clients_orderly plan most (c + 1) xs) h.0.sound (clients-orderly plan most (c + 1) xs h.1)

pub clients-at : (plan : Plan) (most c i : ℕ) (xs : List ClientState) (d : ClientState) → AreGoodClients plan most c xs → IsGoodClient plan (c + i) most d → IsGoodClient plan (c + i) most (nth d xs i)
clients-at plan most c i [] d h k = k
clients-at plan most c zero (x ∷ xs) d h k = let none : c + 0 ≡ c = omega arith in rw none h.0
clients-at plan most c (suc i) (x ∷ xs) d h k = let next : c + suc i ≡ c + 1 + i = omega arith in rw next (clients-at plan most (c + 1) i xs d h.1 (rw next at k))

pub clients-changed : (plan : Plan) (most c i : ℕ) (f : ClientState → ClientState) (xs : List ClientState) →
    ((x : ClientState) → slice_get xs i ≡ Some x → IsGoodClient plan (c + i) most x → IsGoodClient plan (c + i) (most + 1) (f x)) → AreGoodClients plan most c xs → AreGoodClients plan (most + 1) c (changed i f xs)
clients-changed plan most c i f [] keeps h = tt
clients-changed plan most c zero f (x ∷ xs) keeps h =
    let none : c + 0 ≡ c = omega arith in (rw none at (keeps x refl (rw none h.0)), clients-later plan most (c + 1) xs h.1)
clients-changed plan most c (suc i) f (x ∷ xs) keeps h =
    let next : c + suc i ≡ c + 1 + i = omega arith in (client-later plan c most x h.0, clients-changed plan most (c + 1) i f xs (rw next at keeps) h.1)

-- ---- places

block-frag : (g : ℕ) (rs : List ℕ) (ys : List (ℕ × ℕ)) (i f r : ℕ) → slice_get (map (λ r. (g, r)) rs ++ ys) i ≡ Some (f, r) → (f ≡ g) ⊎ ((j : ℕ) × (slice_get ys j ≡ Some (f, r)))
block-frag g [] ys i f r e = inr (i, e)
block-frag g (q ∷ rs) ys zero f r e = inl (pair-first g q f r e)
  where
    pair-first : (x u y v : ℕ) → ◌≡◌ {A = Option (ℕ × ℕ)} (Some (x, u)) (Some (y, v)) → y ≡ x
    pair-first x u y v p = let same : ◌≡◌ {A = ℕ × ℕ} (x, u) (y, v) = cc in sym (ap (λ (z : ℕ × ℕ). z.0) same)
block-frag g (q ∷ rs) ys (suc i) f r e = block-frag g rs ys i f r e

frag-below : (g : ℕ) (frags : List FragSpec) (i f r : ℕ) → slice_get (nodes_from g frags) i ≡ Some (f, r) → f < g + length frags
frag-below g [] i f r e = cc
frag-below g (frag ∷ frags) i f r e =
    elim (block-frag g (range_with_len 0 frag.replicas) (nodes_from (g + 1) frags) i f r e) [
      | inl same ↦ omega (arith, same)
      | inr rest ↦ let less = frag-below (g + 1) frags rest.0 f r rest.1 in omega (arith, less)
    ]

pub actor-at : (plan : Plan) (a f r : ℕ) → IsCheckedPlan plan → role_of plan a ≡ IsNode f r → IsActor (home_of plan (f, r)) a
actor-at plan a f r checked role =
    let less = frag-below 0 plan.frags (node_place plan a) f r (node-at plan a f r role) in
    let there : f < length plan.frags = omega (arith, less) in
    record { place = record { checked = checked.checked; there = there; reads = checked.reads f there; sent = checked.sent f there }; role = role }

-- every node of the plan has a place
pub place-of : (plan : Plan) (i f r : ℕ) → IsCheckedPlan plan → slice_get (nodes_of plan) i ≡ Some (f, r) → IsPlace (home_of plan (f, r))
place-of plan i f r checked e =
    let less = frag-below 0 plan.frags i f r e in
    let there : f < length plan.frags = omega (arith, less) in
    record { checked = checked.checked; there = there; reads = checked.reads f there; sent = checked.sent f there }

-- ---- sends

pub surely-sent : (after : World) (a : ℕ) (ms : List Mail) → AreMails after.plan a (IsDone after a (role_of after.plan a)) ms → SendsDoneSurely after (map (from a) ms)
surely-sent after a [] h = tt
surely-sent after a (m ∷ ms) h = (h.0.surely, surely-sent after a ms h.1)

pub true-at : (plan : Plan) (es : List Envelope) (k : ℕ) (e : Envelope) → AreTrue plan es → slice_get es k ≡ Some e → IsTrueEnvelope plan e
true-at plan [] k e h f = cc
true-at plan (x ∷ es) zero e h f = let same : x ≡ e = cc in rw same at h.0
true-at plan (x ∷ es) (suc k) e h f = true-at plan es k e h.1 f

-- ---- the place of a client

clients-range : (from count i c : ℕ) → nth Nobody (map IsClient (range_with_len from count)) i ≡ IsClient c → c < from + count
clients-range from zero i c e = cc
clients-range from (suc count) zero c e = let same : from ≡ c = cc in omega (arith, same)
clients-range from (suc count) (suc i) c e = let less = clients-range (from + 1) count i c e in omega (arith, less)

skip-nodes : (ns : List (ℕ × ℕ)) (rest : List Role) (i c : ℕ) → nth Nobody (map (λ (n : ℕ × ℕ). IsNode n.0 n.1) ns ++ rest) i ≡ IsClient c → (j : ℕ) × (nth Nobody rest j ≡ IsClient c)
skip-nodes [] rest i c e = (i, e)
skip-nodes (n ∷ ns) rest zero c e = cc
skip-nodes (n ∷ ns) rest (suc i) c e = skip-nodes ns rest i c e

skip-sources : (ss : List ℕ) (rest : List Role) (i c : ℕ) → nth Nobody (map IsSource ss ++ rest) i ≡ IsClient c → (j : ℕ) × (nth Nobody rest j ≡ IsClient c)
skip-sources [] rest i c e = (i, e)
skip-sources (s ∷ ss) rest zero c e = cc
skip-sources (s ∷ ss) rest (suc i) c e = skip-sources ss rest i c e

pub client-below : (plan : Plan) (a c : ℕ) → role_of plan a ≡ IsClient c → c < length plan.clients
client-below plan a c e =
    let p = skip-sources (range_with_len 0 (length plan.sources)) (map (λ (n : ℕ × ℕ). IsNode n.0 n.1) (nodes_of plan) ++ map IsClient (range_with_len 0 (length plan.clients))) a c (sym (role-split plan a) ∙ e) in
    let q = skip-nodes (nodes_of plan) (map IsClient (range_with_len 0 (length plan.clients))) p.0 c p.1 in
    let less = clients-range 0 (length plan.clients) q.0 c q.1 in omega (arith, less)

client-reads : (clients : List ClientSpec) (c : ℕ) → c < length clients →
    slice_get (nth [] (map (λ (client : ClientSpec). client.input ∷ []) clients) c) 0 ≡ Some (nth (Source 0) (nth [] (map (λ (client : ClientSpec). client.input ∷ []) clients) c) 0)
client-reads [] c h = absurd (omega (arith, h))
client-reads (x ∷ clients) zero h = refl
client-reads (x ∷ clients) (suc c) h = client-reads clients c (omega (arith, h))

pub reading-at : (plan : Plan) (c : ℕ) → IsCheckedPlan plan → c < length plan.clients → IsReading plan c
reading-at plan c checked h = record { reads = client-reads plan.clients c h; sent = checked.clients c h }
