-- The names of actors, and the actors of those names.
use Rattle.std.proofs.Common.{◌≡◌, ℕ, zero, suc, ◌+◌, ◌*◌, ◌<◌, ◌≤◌, Bool, true, false, List, [], ◌∷◌, ◌++◌, map, take, drop, length, Option, Some, None, refl, sym, ap, subst, ◌∙◌, arith, get_or, slice_get, length-append}
use Rattle.std.specs.Prelude.{bytes_eq, ◌&&◌, nat_le, nat_eq, is_some, sum_by, decimal}
use Rattle.std.proofs.lemmas.Bool.{and_parts, or_parts, leb-true, le-leb}
use Rattle.std.proofs.lemmas.Fmt.{decimal_digit}
use Rattle.std.proofs.lemmas.List.FromFn.{length-map-range_with_len, get_or-range_with_len}
use Rattle.std.proofs.lemmas.List.Sums.{sum_by-cons}
use Rattle.dpc_lists.specs.Lists.{changed, range_with_len, list_all}
use Rattle.dpc_model.specs.Words.{Word}
use Rattle.dpc_model.specs.declared.plans.FragSpec.{FragSpec}
use Rattle.dpc_lists.proofs.Elements.{get-map, get-first, get-behind}
use Rattle.dpc_model.specs.Actors.{nodes_from}
use Rattle.dpc_lists.proofs.Truths.{and-none}
use Rattle.script_rules.specs.Drafts.{place_of_name}
use Rattle.script_rules.specs.Reasons.{is_among}
use Rattle.script_rules.proofs.Apart.{among_neither, among_no}
use Rattle.script_draft.specs.Caches.{HasFewNodes}
use Rattle.script_draft.specs.Nodes.{node_name, names_of_replicas, names_of_nodes}
use Rattle.script_draft.proofs.Names.{place-within, among-place}

-- ---- a name is compared part by part

and_assoc : (a b c : Bool) → (a && (b && c)) ≡ (a && b && c)
and_assoc true b c = refl
and_assoc false b c = refl

pub bytes-apart : (w a b : Word) → length a ≤ length w → bytes_eq w (a ++ b) ≡ (bytes_eq (take (length a) w) a && bytes_eq (drop (length a) w) b)
bytes-apart w [] b low = refl
bytes-apart [] (x ∷ a) b low = absurd (omega (arith, low))
bytes-apart (y ∷ w) (x ∷ a) b low =
    ap (λ t. nat_eq y x && t) (bytes-apart w a b (omega (arith, low))) ∙ and_assoc (nat_eq y x) (bytes_eq (take (length a) w) a) (bytes_eq (drop (length a) w) b)

pub bytes-short : (w a b : Word) → length w < length a → bytes_eq w (a ++ b) ≡ false
bytes-short w [] b low = absurd (omega (arith, low))
bytes-short [] (x ∷ a) b low = refl
bytes-short (y ∷ w) (x ∷ a) b low = ap (λ t. nat_eq y x && t) (bytes-short w a b (omega (arith, low))) ∙ and-none (nat_eq y x)

-- ---- places in lists one after another

pub place-first : (w : Word) (a b : List Word) (i : ℕ) → place_of_name w a ≡ Some i → place_of_name w (a ++ b) ≡ Some i
place-first w [] b i h = absurd cc
place-first w (v ∷ a) b i h =
    (elim (bytes_eq w v) as (λ t. bytes_eq w v ≡ t → place_of_name w (v ∷ (a ++ b)) ≡ Some i) [
      | true ↦ λ e. let first : place_of_name w (v ∷ a) ≡ Some 0 = rw e refl in let at : i ≡ 0 = cc in rw (e, at) refl
      | false ↦ λ e. rw e (later (place_of_name w a) (λ j is. place-first w a b j is) (rw e at h))
    ]) refl
  where
    later : (o : Option ℕ) → ((j : ℕ) → o ≡ Some j → place_of_name w (a ++ b) ≡ Some j) → (elim o [ None ↦ None | Some j ↦ Some (suc j) ]) ≡ Some i →
        (elim (place_of_name w (a ++ b)) [ None ↦ None | Some j ↦ Some (suc j) ]) ≡ Some i
    later None known k = absurd cc
    later (Some j) known k = rw (known j refl) k

pub place-second : (w : Word) (a b : List Word) (i : ℕ) → is_among w a ≡ false → place_of_name w b ≡ Some i → place_of_name w (a ++ b) ≡ Some (length a + i)
place-second w [] b i h k = let same : 0 + i ≡ i = omega arith in rw same k
place-second w (v ∷ a) b i h k =
    let p = or_parts (bytes_eq w v) (is_among w a) h in
    let next : suc (length a) + i ≡ suc (length a + i) = omega arith in
    rw (p.0, place-second w a b i p.1 k, next) refl

pub none-among : (w : Word) (ws : List Word) → place_of_name w ws ≡ None → is_among w ws ≡ false
none-among w ws h = sym (among-place w ws) ∙ ap is_some h

pub get-range : (a n i : ℕ) → i < n → slice_get (range_with_len a n) i ≡ Some (a + i)
get-range a zero i low = absurd (omega (arith, low))
get-range a (suc n) zero low = let same : a + 0 ≡ a = omega arith in rw same refl
get-range a (suc n) (suc i) low = get-range (a + 1) n i (omega (arith, low)) ∙ ap Some (let next : a + 1 + i ≡ a + suc i = omega arith in next)

-- ---- nodes

abbrev pub replicas : FragSpec → ℕ
replicas f = f.replicas

pub many-replicas : (f : FragSpec) → length (names_of_replicas f) ≡ f.replicas
many-replicas f = length-map-range_with_len (node_name f.name) 0 f.replicas

-- a node stands behind those of the fragments before its own
pub node-here : (w : Word) (i : ℕ) (f : FragSpec) (fs : List FragSpec) (r : ℕ) → i < length fs → f ≡ get_or fs i f → is_among w (names_of_nodes (take i fs)) ≡ false → place_of_name w (names_of_replicas f) ≡ Some r →
    place_of_name w (names_of_nodes fs) ≡ Some (sum_by replicas (take i fs) + r)
node-here w i f [] r low is h k = absurd (omega (arith, low))
node-here w zero f (g ∷ fs) r low is h k =
    let here : place_of_name w (names_of_replicas g) ≡ Some r = subst (λ x. place_of_name w (names_of_replicas x) ≡ Some r) is k in
    place-first w (names_of_replicas g) (names_of_nodes fs) r here ∙ ap Some (let same : r ≡ 0 + r = omega arith in same)
node-here w (suc i) f (g ∷ fs) r low is h k =
    let p = among_neither w (names_of_replicas g) (names_of_nodes (take i fs)) h in
    let more : length (names_of_replicas g) + (sum_by replicas (take i fs) + r) ≡ sum_by replicas (g ∷ take i fs) + r =
    let first = sum_by-cons replicas g (take i fs) in let many = many-replicas g in omega (arith, first, many) in
    place-second w (names_of_replicas g) (names_of_nodes fs) _ p.0 (node-here w i f fs r (omega (arith, low)) is p.1 k) ∙ ap Some more

pub no-node-next : (w : Word) (i : ℕ) (f : FragSpec) (fs : List FragSpec) → i < length fs → f ≡ get_or fs i f → is_among w (names_of_nodes (take i fs)) ≡ false → place_of_name w (names_of_replicas f) ≡ None →
    is_among w (names_of_nodes (take (i + 1) fs)) ≡ false
no-node-next w i f [] low is h k = absurd (omega (arith, low))
no-node-next w zero f (g ∷ fs) low is h k =
    let here : place_of_name w (names_of_replicas g) ≡ None = subst (λ x. place_of_name w (names_of_replicas x) ≡ None) is k in
    among_no w (names_of_replicas g) [] (none-among w (names_of_replicas g) here) refl
no-node-next w (suc i) f (g ∷ fs) low is h k =
    let p = among_neither w (names_of_replicas g) (names_of_nodes (take i fs)) h in
    let next : suc i + 1 ≡ suc (i + 1) = omega arith in
    rw next (among_no w (names_of_replicas g) (names_of_nodes (take (i + 1) fs)) p.0 (no-node-next w i f fs (omega (arith, low)) is p.1 k))

-- the fragment and the replica there
pub node-at : (from i : ℕ) (f : FragSpec) (fs : List FragSpec) (r : ℕ) → i < length fs → f ≡ get_or fs i f → r < f.replicas → slice_get (nodes_from from fs) (sum_by replicas (take i fs) + r) ≡ Some (from + i, r)
node-at from i f [] r low is few = absurd (omega (arith, low))
node-at from zero f (g ∷ fs) r low is few =
    let here : r < g.replicas = subst (λ (x : FragSpec). r < x.replicas) is few in
    let same : 0 + r ≡ r = omega arith in
    let none : from + 0 ≡ from = omega arith in
    rw (same, none) (get-first (map (λ q. (from, q)) (range_with_len 0 g.replicas)) (nodes_from (from + 1) fs) r (from, r)
    (get-map (λ q. (from, q)) (range_with_len 0 g.replicas) r r (get-range 0 g.replicas r here ∙ ap Some same)))
node-at from (suc i) f (g ∷ fs) r low is few =
    let block : List (ℕ × ℕ) = map (λ q. (from, q)) (range_with_len 0 g.replicas) in
    let more : sum_by replicas (g ∷ take i fs) + r ≡ length block + (sum_by replicas (take i fs) + r) =
    let first = sum_by-cons replicas g (take i fs) in let many = length-map-range_with_len {X = ℕ × ℕ} (λ (q : ℕ). (from, q)) 0 g.replicas in omega (arith, first, many) in
    let next : from + 1 + i ≡ from + suc i = omega arith in
    ap (λ j. slice_get (block ++ nodes_from (from + 1) fs) j) more ∙ get-behind block (nodes_from (from + 1) fs) _ ∙ node-at (from + 1) i f fs r (omega (arith, low)) is few ∙ ap (λ j. Some (j, r)) next

pub many-nodes : (from : ℕ) (fs : List FragSpec) → length (nodes_from from fs) ≡ sum_by replicas fs
many-nodes from [] = refl
many-nodes from (f ∷ fs) =
    length-append (map (λ r. (from, r)) (range_with_len 0 f.replicas)) (nodes_from (from + 1) fs)
    ∙ (let block = length-map-range_with_len {X = ℕ × ℕ} (λ (r : ℕ). (from, r)) 0 f.replicas in let rest = many-nodes (from + 1) fs in let all = sum_by-cons replicas f fs in omega (arith, block, rest, all))

pub many-node-names : (fs : List FragSpec) → length (names_of_nodes fs) ≡ sum_by replicas fs
many-node-names [] = refl
many-node-names (f ∷ fs) =
    length-append (names_of_replicas f) (names_of_nodes fs)
    ∙ (let own = many-replicas f in let rest = many-node-names fs in let all = sum_by-cons replicas f fs in omega (arith, own, rest, all))

-- ---- few nodes

few-at-place : (i : ℕ) (f : FragSpec) (fs : List FragSpec) → list_all (λ (x : FragSpec). nat_le x.replicas 4) fs ≡ true → i < length fs → f ≡ get_or fs i f → f.replicas ≤ 4
few-at-place i f [] h low is = absurd (omega (arith, low))
few-at-place zero f (g ∷ fs) h low is = let p = and_parts (nat_le g.replicas 4) (list_all (λ (x : FragSpec). nat_le x.replicas 4) fs) h in subst (λ (x : FragSpec). x.replicas ≤ 4) (sym is) (leb-true g.replicas 4 p.0)
few-at-place (suc i) f (g ∷ fs) h low is = let p = and_parts (nat_le g.replicas 4) (list_all (λ (x : FragSpec). nat_le x.replicas 4) fs) h in few-at-place i f fs p.1 (omega (arith, low)) is

pub few-at : (i : ℕ) (f : FragSpec) (fs : List FragSpec) → HasFewNodes fs → i < length fs → f ≡ get_or fs i f → f.replicas ≤ 4
few-at i f fs few low is = few-at-place i f fs few.replicas low is

few-sum : (fs : List FragSpec) → list_all (λ (x : FragSpec). nat_le x.replicas 4) fs ≡ true → sum_by replicas fs ≤ 4 * length fs
few-sum [] h = omega arith
few-sum (f ∷ fs) h =
    let p = and_parts (nat_le f.replicas 4) (list_all (λ (x : FragSpec). nat_le x.replicas 4) fs) h in
    let one = leb-true f.replicas 4 p.0 in let rest = few-sum fs p.1 in let all = sum_by-cons replicas f fs in omega (arith, one, rest, all)

pub few-nodes : (fs : List FragSpec) → HasFewNodes fs → sum_by replicas fs ≤ 64
few-nodes fs few = let sum = few-sum fs few.replicas in let many = few.frags in omega (arith, sum, many)

pub few-push : (fs : List FragSpec) (f : FragSpec) → HasFewNodes fs → length fs < 16 → f.replicas ≤ 4 → HasFewNodes (fs ++ f ∷ [])
few-push fs f few room low = record {
  frags = let more = length-append fs (f ∷ []) in omega (arith, more, room);
  replicas = one_more fs few.replicas;
}
  where
    one_more : (xs : List FragSpec) → list_all (λ (x : FragSpec). nat_le x.replicas 4) xs ≡ true → list_all (λ (x : FragSpec). nat_le x.replicas 4) (xs ++ f ∷ []) ≡ true
    one_more [] h = let here : nat_le f.replicas 4 ≡ true = le-leb f.replicas 4 low in rw here refl
    one_more (x ∷ xs) h = let p = and_parts (nat_le x.replicas 4) (list_all (λ (y : FragSpec). nat_le y.replicas 4) xs) h in rw (p.0, one_more xs p.1) refl

pub few-changed : (g : FragSpec → FragSpec) (i : ℕ) (fs : List FragSpec) → ((x : FragSpec) → (g x).replicas ≡ x.replicas) → HasFewNodes fs → HasFewNodes (changed i g fs)
few-changed g i fs same few = record { frags = let many = long i fs in omega (arith, many, few.frags); replicas = all i fs ∙ few.replicas }
  where
    long : (i : ℕ) (xs : List FragSpec) → length (changed i g xs) ≡ length xs
    long i [] = refl
    long zero (x ∷ xs) = refl
    long (suc i) (x ∷ xs) = ap suc (long i xs)

    all : (i : ℕ) (xs : List FragSpec) → list_all (λ (x : FragSpec). nat_le x.replicas 4) (changed i g xs) ≡ list_all (λ (x : FragSpec). nat_le x.replicas 4) xs
    all i [] = refl
    all zero (x ∷ xs) = ap (λ n. nat_le n 4 && list_all (λ (y : FragSpec). nat_le y.replicas 4) xs) (same x)
    all (suc i) (x ∷ xs) = ap (λ b. nat_le x.replicas 4 && b) (all i xs)

-- a node that has a name has a low place
pub few-places : (w : Word) (fs : List FragSpec) (p : ℕ) → HasFewNodes fs → place_of_name w (names_of_nodes fs) ≡ Some p → p < 64
few-places w fs p few h =
    let within = place-within w (names_of_nodes fs) p h in let many = many-node-names fs in let sum = few-nodes fs few in omega (arith, within, many, sum)

-- ---- the name of a node, part by part

pub node-name-is : (name fragment : Word) (r : ℕ) (front behind : Word) → r < 10 → length fragment ≤ length name → front ≡ take (length fragment) name → behind ≡ drop (length fragment) name →
    bytes_eq name (node_name fragment r) ≡ (bytes_eq front fragment && bytes_eq behind (46 ∷ (48 + r) ∷ []))
node-name-is name fragment r front behind small low f b =
    bytes-apart name fragment (46 ∷ decimal r) low ∙ ap (λ a. bytes_eq a fragment && bytes_eq (drop (length fragment) name) (46 ∷ decimal r)) (sym f)
    ∙ ap (λ a. bytes_eq front fragment && bytes_eq a (46 ∷ decimal r)) (sym b) ∙ ap (λ d. bytes_eq front fragment && bytes_eq behind (46 ∷ d)) (decimal_digit r small)

pub range-at : (n i : ℕ) → i < n → i ≡ get_or (range_with_len 0 n) i 0
range-at n i low = let same : 0 + i ≡ i = omega arith in sym (get_or-range_with_len 0 n i 0 low ∙ same)
