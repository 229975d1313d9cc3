-- The element of a number in lists behind one another, and what an actor's number says.
use Rattle.std.proofs.Common.{◌≡◌, ℕ, zero, suc, ◌+◌, ◌-◌, ◌<◌, ◌≤◌, List, [], ◌∷◌, ◌++◌, map, length, drop, append_assoc, refl, ap, ◌∙◌, arith, Option, unwrap_or, Some, slice_get, slice_index_or, true, false, nat_lt, ◌⊎◌, inl, inr, ◌*◌, ◌/◌, ◌%◌, max, min}
use Rattle.std.proofs.lemmas.List.{length-append, length-map}
use Rattle.std.proofs.lemmas.List.FromFn.{length-map-range_with_len}
use Rattle.std.proofs.lemmas.Option.{slice_get_past}
use Rattle.dpc_lists.proofs.Elements.{get-first, get-map}
use Rattle.std.proofs.Math.Seq.{drop-cons}
use Rattle.std.proofs.lemmas.Grind.{common_steps}
use Rattle.std.proofs.Math.Nat.{mod-eq-sub-div-mul, div-mul-le_self}
use Rattle.dpc_lists.specs.Lists.{range_with_len, least, IsRising}
use Rattle.dpc_model.specs.Actors.{nodes_from, nodes_of, role_of, roles_of}
use Rattle.dpc_model.specs.declared.actors.Role.{Role}
use Rattle.dpc_model.specs.declared.actors.Role.TheVariants.{Source as IsSource, Node as IsNode, Client as IsClient, Nobody}
use Rattle.dpc_model.specs.declared.plans.FragSpec.{FragSpec}
use Rattle.dpc_model.specs.declared.plans.Plan.{Plan}
use Rattle.dpc_lists.proofs.Truths.{lt-of, not-lt}

pub get-front : {X : Type 0} (xs ys : List X) (i : ℕ) → i < length xs → slice_get (xs ++ ys) i ≡ slice_get xs i
get-front [] ys i l = absurd (omega (arith, l))
get-front (x ∷ xs) ys zero l = refl
get-front (x ∷ xs) ys (suc i) l = get-front xs ys i (omega (arith, l))

pub get-behind : {X : Type 0} (xs ys : List X) (i : ℕ) → length xs ≤ i → slice_get (xs ++ ys) i ≡ slice_get ys (i - length xs)
get-behind [] ys i l = let none : i - 0 ≡ i = omega arith in rw none refl
get-behind (x ∷ xs) ys zero l = absurd (omega (arith, l))
get-behind (x ∷ xs) ys (suc i) l = let less : suc i - suc (length xs) ≡ i - length xs = omega arith in rw less (get-behind xs ys i (omega (arith, l)))

pub get-mapped-range : {X : Type 0} (f : ℕ → X) (a n i : ℕ) → i < n → slice_get (map f (range_with_len a n)) i ≡ Some (f (a + i))
get-mapped-range f a zero i l = absurd (omega (arith, l))
get-mapped-range f a (suc n) zero l = let none : a + 0 ≡ a = omega arith in rw none refl
get-mapped-range f a (suc n) (suc i) l = let same : a + suc i ≡ a + 1 + i = omega arith in rw same (get-mapped-range f (a + 1) n i (omega (arith, l)))

-- the replicas of a fragment stand in front of those of the fragments behind it
pub node-here : (f left : ℕ) (frag : FragSpec) (frags : List FragSpec) → left < frag.replicas → slice_get (nodes_from f (frag ∷ frags)) left ≡ Some (f, left)
node-here f left frag frags l =
    let many : left < length (map {A = ℕ} {B = ℕ × ℕ} (λ r. (f, r)) (range_with_len 0 frag.replicas)) = rw (length-map-range_with_len {X = ℕ × ℕ} (λ r. (f, r)) 0 frag.replicas) l in
    let same : 0 + left ≡ left = omega arith in
    get-front (map (λ r. (f, r)) (range_with_len 0 frag.replicas)) (nodes_from (f + 1) frags) left many
    ∙ get-mapped-range {X = ℕ × ℕ} (λ r. (f, r)) 0 frag.replicas left l ∙ ap (λ r. Some (f, r)) same

pub node-later : (f left : ℕ) (frag : FragSpec) (frags : List FragSpec) → frag.replicas ≤ left →
    slice_get (nodes_from f (frag ∷ frags)) left ≡ slice_get (nodes_from (f + 1) frags) (left - frag.replicas)
node-later f left frag frags l =
    let e = length-map-range_with_len {X = ℕ × ℕ} (λ r. (f, r)) 0 frag.replicas in
    let many : length (map (λ r. (f, r)) (range_with_len 0 frag.replicas)) ≤ left = rw e l in
    get-behind (map (λ r. (f, r)) (range_with_len 0 frag.replicas)) (nodes_from (f + 1) frags) left many
    ∙ ap (λ n. slice_get (nodes_from (f + 1) frags) (left - n)) e

pub nodes-more : (f : ℕ) (frag : FragSpec) (frags : List FragSpec) → length (nodes_from f (frag ∷ frags)) ≡ frag.replicas + length (nodes_from (f + 1) frags)
nodes-more f frag frags =
    length-append (map (λ r. (f, r)) (range_with_len 0 frag.replicas)) (nodes_from (f + 1) frags)
    ∙ ap (λ n. n + length (nodes_from (f + 1) frags)) (length-map-range_with_len {X = ℕ × ℕ} (λ r. (f, r)) 0 frag.replicas)

-- .. and of the fragments from number f on, the one at f is the first
first-from : (frags : List FragSpec) (f : ℕ) (frag : FragSpec) → f < length frags → frag ≡ slice_index_or frags f frag → drop f frags ≡ frag ∷ drop (f + 1) frags
first-from frags f frag l e = let next : suc f ≡ f + 1 = omega arith in drop-cons frags f frag l ∙ rw (← e, next) refl

pub node-at : (frags : List FragSpec) (f left : ℕ) (frag : FragSpec) → f < length frags → frag ≡ slice_index_or frags f frag → left < frag.replicas →
    slice_get (nodes_from f (drop f frags)) left ≡ Some (f, left)
node-at frags f left frag l e h = rw (first-from frags f frag l e) (node-here f left frag (drop (f + 1) frags) h)

pub nodes-behind : (frags : List FragSpec) (f left : ℕ) (frag : FragSpec) → f < length frags → frag ≡ slice_index_or frags f frag → frag.replicas ≤ left →
    (slice_get (nodes_from f (drop f frags)) left ≡ slice_get (nodes_from (f + 1) (drop (f + 1) frags)) (left - frag.replicas))
    × (length (nodes_from f (drop f frags)) ≡ frag.replicas + length (nodes_from (f + 1) (drop (f + 1) frags)))
nodes-behind frags f left frag l e h =
    rw (first-from frags f frag l e) (node-later f left frag (drop (f + 1) frags) h, nodes-more f frag (drop (f + 1) frags))

-- ---- what an actor's number says

abbrev sources_in : Plan → List Role
sources_in plan = map IsSource (range_with_len 0 (length plan.sources))

abbrev nodes_in : Plan → List Role
nodes_in plan = map (λ (n : ℕ × ℕ). IsNode n.0 n.1) (nodes_of plan)

abbrev clients_in : Plan → List Role
clients_in plan = map IsClient (range_with_len 0 (length plan.clients))

many-sources : (plan : Plan) → length (sources_in plan) ≡ length plan.sources
many-sources plan = length-map-range_with_len IsSource 0 (length plan.sources)

many-nodes : (plan : Plan) → length (nodes_in plan) ≡ length (nodes_of plan)
many-nodes plan = length-map (nodes_of plan) (λ (n : ℕ × ℕ). IsNode n.0 n.1)

many-clients : (plan : Plan) → length (clients_in plan) ≡ length plan.clients
many-clients plan = length-map-range_with_len IsClient 0 (length plan.clients)

pub source-role : (plan : Plan) (a : ℕ) → a < length plan.sources → role_of plan a ≡ IsSource a
source-role plan a l =
    let many = many-sources plan in
    let same : 0 + a ≡ a = omega arith in
    ap (λ (role : Option Role). unwrap_or role Nobody) (
    ap (λ (roles : List Role). slice_get roles a) (append_assoc (sources_in plan) (nodes_in plan) (clients_in plan))
    ∙ get-front (sources_in plan) (nodes_in plan ++ clients_in plan) a (omega (arith, many, l))
    ∙ get-mapped-range IsSource 0 (length plan.sources) a l ∙ ap (λ n. Some (IsSource n)) same)

-- the element behind the sources
past-sources : (plan : Plan) (a : ℕ) → length plan.sources ≤ a → slice_get (roles_of plan) a ≡ slice_get (nodes_in plan ++ clients_in plan) (a - length plan.sources)
past-sources plan a l =
    let many = many-sources plan in
    ap (λ (roles : List Role). slice_get roles a) (append_assoc (sources_in plan) (nodes_in plan) (clients_in plan))
    ∙ get-behind (sources_in plan) (nodes_in plan ++ clients_in plan) a (omega (arith, many, l))
    ∙ ap (λ n. slice_get (nodes_in plan ++ clients_in plan) (a - n)) many

pub node-role : (plan : Plan) (a : ℕ) (n : ℕ × ℕ) → length plan.sources ≤ a → slice_get (nodes_of plan) (a - length plan.sources) ≡ Some n →
    role_of plan a ≡ IsNode n.0 n.1
node-role plan a n l e =
    ap (λ (role : Option Role). unwrap_or role Nobody) (
    past-sources plan a l
    ∙ get-first (nodes_in plan) (clients_in plan) (a - length plan.sources) (IsNode n.0 n.1) (get-map (λ (n : ℕ × ℕ). IsNode n.0 n.1) (nodes_of plan) (a - length plan.sources) n e))

-- the element behind sources and nodes
past-nodes : (plan : Plan) (a past : ℕ) → length plan.sources ≤ a → a - length plan.sources ≡ length (nodes_of plan) + past →
    slice_get (roles_of plan) a ≡ slice_get (clients_in plan) past
past-nodes plan a past l e =
    let many = many-nodes plan in
    let less : a - length plan.sources - length (nodes_in plan) ≡ past = omega (arith, many, e) in
    past-sources plan a l ∙ get-behind (nodes_in plan) (clients_in plan) (a - length plan.sources) (omega (arith, many, e)) ∙ ap (slice_get (clients_in plan)) less

pub client-role : (plan : Plan) (a past : ℕ) → length plan.sources ≤ a → a - length plan.sources ≡ length (nodes_of plan) + past → past < length plan.clients →
    role_of plan a ≡ IsClient past
client-role plan a past l e h =
    let same : 0 + past ≡ past = omega arith in
    ap (λ (role : Option Role). unwrap_or role Nobody) (past-nodes plan a past l e ∙ get-mapped-range IsClient 0 (length plan.clients) past h ∙ ap (λ n. Some (IsClient n)) same)

pub nobody-role : (plan : Plan) (a past : ℕ) → length plan.sources ≤ a → a - length plan.sources ≡ length (nodes_of plan) + past → length plan.clients ≤ past →
    role_of plan a ≡ Nobody
nobody-role plan a past l e h =
    let many = many-clients plan in
    ap (λ (role : Option Role). unwrap_or role Nobody) (past-nodes plan a past l e ∙ slice_get_past (clients_in plan) past (omega (arith, many, h)))

pub le-or : (u v : ℕ) → (u ≤ v) ⊎ (v < u)
le-or u v = (elim (nat_lt v u) as (λ b. nat_lt v u ≡ b → (u ≤ v) ⊎ (v < u)) [ true ↦ λ e. inr (lt-of v u e) | false ↦ λ e. inl (not-lt v u e) ]) refl

pub zero-or : (n : ℕ) → (n ≡ 0) ⊎ (1 ≤ n)
zero-or zero = inl refl
zero-or (suc n) = inr (omega arith)

pub times-le : (a b c : ℕ) → a ≤ b → a * c ≤ b * c
times-le a b c h = grind (arith, common_steps, h)

pub none-times : (w : ℕ) → 0 * w ≡ 0
none-times w = omega arith

pub buckets-whole : (w end : ℕ) → end % w ≡ 0 → end / w * w ≡ end
buckets-whole w end e = omega (arith, e, mod-eq-sub-div-mul end w, div-mul-le_self end w)

pub base-within : (old least count : ℕ) → old ≤ count → max old (min least count) ≤ count
base-within old least count h = omega (arith, h)

pub rising-lower : (j k : ℕ) (ns : List ℕ) → j ≤ k → IsRising k ns → IsRising j ns
rising-lower j k [] low h = tt
rising-lower j k (n ∷ ns) low h = let first = h.0 in (omega (arith, low, first), h.1)
