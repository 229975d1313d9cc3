-- The parts at the opening stand for the world at the opening.
use Rattle.std.proofs.Common.{◌≡◌, ℕ, zero, suc, ◌+◌, ◌<◌, ◌≤◌, List, [], ◌∷◌, ◌++◌, map, length, take, get_or, refl, sym, ap, subst, ◌∙◌, arith, append_assoc, unwrap_or, Option}
use Rattle.std.specs.List.{AllZip}
use Rattle.std.proofs.lemmas.List.{append-nil}
use Rattle.std.proofs.lemmas.List.FromFn.{map-range_with_len_more}
use Rattle.dpc_lists.specs.Lists.{nth, range_with_len}
use Rattle.dpc_model.specs.Actors.{nodes_from, nodes_of, senders_of}
use Rattle.dpc_model.specs.Fragments.{LogsInOrder}
use Rattle.dpc_model.specs.declared.plans.FragSpec.{FragSpec}
use Rattle.dpc_model.specs.declared.plans.Plan.{Plan}
use Rattle.dpc_model.specs.declared.plans.TheConstants.{MOST_REPLICAS}
use Rattle.node_model.specs.Nodes.{no_fragment}
use Rattle.node_model.specs.Clients.{new_client, client_stream}
use Rattle.node_model.specs.Sources.{new_source}
use Rattle.client_fold.specs.Folding.{ClientValue, StandsForClient, StandForClients}
use Rattle.source_core.specs.Emitting.{SourceValue, opening_source}
use Rattle.source_core.proofs.Staying.{opens}
use Rattle.world_model.specs.Worlds.{new_world}
use Rattle.dpc_lists.proofs.Truths.{lt-of}
use Rattle.dpc_lists.proofs.Elements.{range-more}
use Rattle.law_fit.specs.Fits.{CanRun}
use Rattle.law_fit.proofs.Replicas.{few-senders}
use Rattle.world_parts.specs.Parts.{WorldPartsValue, SlotValue, StandForSources, StandForSlots, StandsForWorld}
use Rattle.world_parts.specs.Opening.{new_slot, IsNewSlot, AreNewSlots, replicas_below, AreNewClients}
use Rattle.world_parts.proofs.PartFrames.{read-at}

-- ---- one more

pub zip-append : {A B : Type 0} (R : A → B → Type 0) (xs us : List A) (ys vs : List B) → AllZip R xs ys → AllZip R us vs → AllZip R (xs ++ us) (ys ++ vs)
zip-append R [] us [] vs h k = k
zip-append R [] us (y ∷ ys) vs h k = absurd h
zip-append R (x ∷ xs) us [] vs h k = absurd h
zip-append R (x ∷ xs) us (y ∷ ys) vs h k = (h.0, zip-append R xs us ys vs h.1 k)

-- ---- nodes

replicas-more : (f n : ℕ) → replicas_below f (n + 1) ≡ replicas_below f n ++ (f, n) ∷ []
replicas-more f n = map-range_with_len_more (λ r. (f, r)) 0 n n (omega arith)

pub slots_pushed :
    (plan : Plan) (f n : ℕ) (before : List (ℕ × ℕ)) (vs : List SlotValue) (v : SlotValue) → AreNewSlots plan (before ++ replicas_below f n) vs → IsNewSlot plan (f, n) v →
    AreNewSlots plan (before ++ replicas_below f (n + 1)) (vs ++ v ∷ [])
slots_pushed plan f n before vs v h k =
    subst (λ (ns : List (ℕ × ℕ)). AreNewSlots plan ns (vs ++ v ∷ [])) (append_assoc before (replicas_below f n) ((f, n) ∷ []) ∙ ap (λ (ns : List (ℕ × ℕ)). before ++ ns) (sym (replicas-more f n)))
    (zip-append (IsNewSlot plan) (before ++ replicas_below f n) ((f, n) ∷ []) vs (v ∷ []) h (k, tt))

pub nodes-more : (g : ℕ) (frags : List FragSpec) (i : ℕ) → i < length frags → nodes_from g (take (i + 1) frags) ≡ nodes_from g (take i frags) ++ replicas_below (g + i) (nth no_fragment frags i).replicas
nodes-more g [] i h = absurd (omega (arith, h))
nodes-more g (frag ∷ frags) zero h = let none : g + 0 ≡ g = omega arith in rw none (append-nil (replicas_below g frag.replicas))
nodes-more g (frag ∷ frags) (suc i) h =
    let own = replicas_below g frag.replicas in
    let last = replicas_below (g + suc i) (nth no_fragment frags i).replicas in
    let next : g + 1 + i ≡ g + suc i = omega arith in
    let rest : nodes_from (g + 1) (take (i + 1) frags) ≡ nodes_from (g + 1) (take i frags) ++ last = rw next at (nodes-more (g + 1) frags i (omega (arith, h))) in
    let step : suc i + 1 ≡ suc (i + 1) = omega arith in
    rw step (ap (λ (ns : List (ℕ × ℕ)). own ++ ns) rest ∙ sym (append_assoc own (nodes_from (g + 1) (take i frags)) last))

-- the nodes of one fragment more
pub fragment_pushed :
    (plan : Plan) (f : ℕ) (vs : List SlotValue) → f < length plan.frags → AreNewSlots plan (nodes_from 0 (take f plan.frags) ++ replicas_below f (nth no_fragment plan.frags f).replicas) vs →
    AreNewSlots plan (nodes_from 0 (take (f + 1) plan.frags)) vs
fragment_pushed plan f vs low h =
    let first : 0 + f ≡ f = omega arith in subst (λ (ns : List (ℕ × ℕ)). AreNewSlots plan ns vs) (sym (rw first at (nodes-more 0 plan.frags f low))) h

pub stand-slots : (plan : Plan) (ns : List (ℕ × ℕ)) (vs : List SlotValue) → AreNewSlots plan ns vs → StandForSlots plan ns vs (map (new_slot plan) ns)
stand-slots plan [] [] h = tt
stand-slots plan [] (v ∷ vs) h = absurd h
stand-slots plan (n ∷ ns) [] h = absurd h
stand-slots plan (n ∷ ns) (v ∷ vs) h = (h.0, stand-slots plan ns vs h.1)

-- ---- clients

pub sender_some : (plan : Plan) (c : ℕ) → CanRun plan → c < length plan.clients → 0 < length (senders_of plan (client_stream plan c))
sender_some plan c can low = lt-of 0 (length (senders_of plan (client_stream plan c))) (can.checked.clients c low)

pub senders_few : (plan : Plan) (c : ℕ) → CanRun plan → c < length plan.clients → length (senders_of plan (client_stream plan c)) ≤ MOST_REPLICAS
senders_few plan c can low = few-senders plan (client_stream plan c) can.few (sender_some plan c can low)

pub clients_pushed :
    (plan : Plan) (n : ℕ) (vs : List ClientValue) (v : ClientValue) → AreNewClients plan (range_with_len 0 n) vs → StandsForClient plan n v (new_client plan n) → AreNewClients plan (range_with_len 0 (n + 1)) (vs ++ v ∷ [])
clients_pushed plan n vs v h k =
    let first : 0 + n ≡ n = omega arith in
    subst (λ (ns : List ℕ). AreNewClients plan ns (vs ++ v ∷ [])) (sym (rw first at (range-more 0 n)))
    (zip-append (λ c v. StandsForClient plan c v (new_client plan c)) (range_with_len 0 n) (n ∷ []) vs (v ∷ []) h (k, tt))

pub stand-clients : (plan : Plan) (c n : ℕ) (vs : List ClientValue) → c + n ≡ length plan.clients → AreNewClients plan (range_with_len c n) vs → StandForClients plan c vs (map (new_client plan) (range_with_len c n))
stand-clients plan c zero [] all h = omega (arith, all)
stand-clients plan c zero (v ∷ vs) all h = absurd h
stand-clients plan c (suc n) [] all h = absurd h
stand-clients plan c (suc n) (v ∷ vs) all h = (h.0, stand-clients plan (c + 1) n vs (omega (arith, all)) h.1)

-- ---- sources

pub sources_pushed : (plan : Plan) (n : ℕ) (vs : List SourceValue) (v : SourceValue) → vs ≡ map (opening_source plan) (range_with_len 0 n) → v ≡ opening_source plan n → vs ++ v ∷ [] ≡ map (opening_source plan) (range_with_len 0 (n + 1))
sources_pushed plan n vs v h k = rw (h, k) (sym (map-range_with_len_more (opening_source plan) 0 n n (omega arith)))

pub stand-sources :
    (plan : Plan) (s n : ℕ) → LogsInOrder plan → s + n ≡ length plan.sources → StandForSources plan s (map (opening_source plan) (range_with_len s n)) (map (new_source plan) (range_with_len s n))
stand-sources plan s zero logs all = omega (arith, all)
stand-sources plan s (suc n) logs all =
    (record { number = refl; of = opens plan s (omega (arith, all)) (logs s); state = refl }, stand-sources plan (s + 1) n logs (omega (arith, all)))

-- ---- all of it

pub new_stands :
    (plan : Plan) (v : WorldPartsValue) → CanRun plan → v.sources ≡ map (opening_source plan) (range_with_len 0 (length plan.sources)) → AreNewSlots plan (nodes_of plan) v.nodes →
    AreNewClients plan (range_with_len 0 (length plan.clients)) v.clients → v.cuts ≡ [] → v.envelopes ≡ [] → v.items ≡ 0 → StandsForWorld plan v (new_world plan)
unfolding new_world
new_stands plan v can sources nodes clients cuts envelopes items =
    record {
      plan_is = refl;
      sources = subst (λ (vs : List SourceValue). StandForSources plan 0 vs (map (new_source plan) (range_with_len 0 (length plan.sources)))) (sym sources)
          (stand-sources plan 0 (length plan.sources) can.checked.checked.sound.logs (omega arith));
      nodes = stand-slots plan (nodes_of plan) v.nodes nodes;
      clients = stand-clients plan 0 (length plan.clients) v.clients (omega arith) clients;
      cuts = cuts;
      envelopes = rw envelopes tt;
      items = items;
    }

-- ---- as the code has them

pub slots_stored :
    (plan : Plan) (f n : ℕ) (olds news : List SlotValue) (v : SlotValue) (start : List SlotValue) → ((before : List (ℕ × ℕ)) → AreNewSlots plan before start → AreNewSlots plan (before ++ replicas_below f n) olds) → IsNewSlot plan (f, n) v →
    news ≡ olds ++ v ∷ [] → (before : List (ℕ × ℕ)) → AreNewSlots plan before start → AreNewSlots plan (before ++ replicas_below f (n + 1)) news
slots_stored plan f n olds news v start old new is before h = rw is (slots_pushed plan f n before olds v (old before h) new)

pub all_replicas :
    (plan : Plan) (f n : ℕ) (frags : List FragSpec) (frag : FragSpec) (vs start : List SlotValue) → f < length plan.frags → frags ≡ plan.frags → frag ≡ get_or frags f frag → n ≡ (get_or frags f frag).replicas →
    ((before : List (ℕ × ℕ)) → AreNewSlots plan before start → AreNewSlots plan (before ++ replicas_below f n) vs) →
    (before : List (ℕ × ℕ)) → AreNewSlots plan before start → AreNewSlots plan (before ++ replicas_below f (nth no_fragment plan.frags f).replicas) vs
all_replicas plan f n frags frag vs start low same read all stored before h =
    let is : nth no_fragment plan.frags f ≡ frag = ap (λ (o : Option FragSpec). unwrap_or o no_fragment) (read-at frags plan.frags f frag same low read) in
    let count : n ≡ (nth no_fragment plan.frags f).replicas = all ∙ ap (λ (g : FragSpec). g.replicas) (sym read ∙ sym is) in
    subst (λ (m : ℕ). AreNewSlots plan (before ++ replicas_below f m) vs) count (stored before h)
