-- Actors are found by their names, part by part.
use Rattle.std.proofs.Common.{◌≡◌, ◌≢◌, ℕ, zero, suc, ◌+◌, ◌-◌, ◌^◌, ◌<◌, ◌≤◌, Bool, true, false, cond, List, [], ◌∷◌, ◌++◌, map, take, drop, length, Option, Some, None, refl, sym, ap, ◌∙◌, arith, get_or}
use Rattle.std.specs.Prelude.{bytes_eq, ◌&&◌, ◌==◌, nat_lt, decimal, option_map}
use Rattle.std.proofs.lemmas.Bool.{lt-ltb, ltb-true, le-ltb, eqb-true, eqb-false, eq-eqb}
use Rattle.std.proofs.lemmas.List.{take-append-drop, at_drop_more, length-append, length-map}
use Rattle.std.proofs.lemmas.List.FromFn.{length-map-range_with_len}
use Rattle.std.proofs.lemmas.Slice.Eq.{bytes_eq-Decides}
use Rattle.dpc_lists.specs.Lists.{range_with_len}
use Rattle.dpc_model.specs.Words.{Word}
use Rattle.dpc_model.specs.declared.plans.SourceSpec.{SourceSpec}
use Rattle.dpc_model.specs.declared.plans.FragSpec.{FragSpec}
use Rattle.dpc_model.specs.declared.plans.Plan.{Plan}
use Rattle.script_rules.specs.Spelling.{is_numeral, number}
use Rattle.script_rules.specs.Drafts.{place_of_name, or_else}
use Rattle.script_rules.proofs.Apart.{same_word, word_is_itself}
use Rattle.script_rules.proofs.Called.{named_sources}
use Rattle.script_rules.proofs.Distinct.{named_clients}
use Rattle.script_rules.proofs.Roles.{roles_named, dotted as dotted_names}
use Rattle.script_rules.proofs.Numerals.{numeral_is, is_numeral-decimal, number-decimal}
use Rattle.script_words.specs.Options.{◌>>=◌, given}
use Rattle.script_words.specs.Numbers.{u64_of}
use Rattle.journal_text.specs.Actors.{behind_dot, behind_name, replica_named, replica_names, node_names, actor_named}

-- ---- a number and its word

pub u64_of-decimal : (n : ℕ) → n < 2 ^ 64 → u64_of (decimal n) ≡ Some n
u64_of-decimal n h = rw (is_numeral-decimal n h, number-decimal n h, lt-ltb n (2 ^ 64) h) refl

given_some : (numeral low : Bool) (n r : ℕ) → given (numeral && low) n ≡ Some r → (numeral ≡ true) × (low ≡ true) × (n ≡ r)
given_some true true n r e = (refl, refl, cc)
given_some true false n r e = absurd cc
given_some false low n r e = absurd cc

pub decimal-u64_of : (w : Word) (r : ℕ) → u64_of w ≡ Some r → w ≡ decimal r
decimal-u64_of w r e =
    let p = given_some (is_numeral w) (nat_lt (number w) (2 ^ 64)) (number w) r e in
    numeral_is w p.0 (ltb-true (number w) (2 ^ 64) p.1) ∙ ap decimal p.2

pub small-u64_of : (w : Word) (r : ℕ) → u64_of w ≡ Some r → r < 2 ^ 64
small-u64_of w r e =
    let p = given_some (is_numeral w) (nat_lt (number w) (2 ^ 64)) (number w) r e in
    let low : number w < 2 ^ 64 = ltb-true (number w) (2 ^ 64) p.1 in
    omega (arith, low, p.2)

-- ---- a name, a dot and what stands behind

-- the parts of a word that is compared
pub behind-is : (word name front behind : Word) → front ≡ take (length name) word → behind ≡ drop (length name) word → bytes_eq front name ≡ true → behind_name word name ≡ behind_dot behind
behind-is word name front behind f b e =
    ap (λ t. cond t (behind_dot (drop (length name) word)) None) (ap (λ x. bytes_eq x name) (sym f) ∙ e) ∙ ap behind_dot (sym b)

pub behind-other : (word name front : Word) → front ≡ take (length name) word → bytes_eq front name ≡ false → behind_name word name ≡ None
behind-other word name front f e = ap (λ t. cond t (behind_dot (drop (length name) word)) None) (ap (λ x. bytes_eq x name) (sym f) ∙ e)

short_other : (w name : Word) → length w < length name → bytes_eq (take (length name) w) name ≡ false
short_other w [] low = absurd (omega (arith, low))
short_other [] (c ∷ name) low = refl
short_other (b ∷ w) (c ∷ name) low = ap (λ t. b == c && t) (short_other w name (omega (arith, low))) ∙ and_false (b == c)
  where
    and_false : (t : Bool) → (t && false) ≡ false
    and_false true = refl
    and_false false = refl

pub behind-short : (word name : Word) → length word < length name → behind_name word name ≡ None
behind-short word name low = ap (λ t. cond t (behind_dot (drop (length name) word)) None) (short_other word name low)

-- what stands behind a name and a dot
front_is : (name rest : Word) → take (length name) (name ++ rest) ≡ name
front_is [] rest = refl
front_is (b ∷ name) rest = ap (λ t. b ∷ t) (front_is name rest)

rest_is : (name rest : Word) → drop (length name) (name ++ rest) ≡ rest
rest_is [] rest = refl
rest_is (b ∷ name) rest = rest_is name rest

behind_its_name : (name rest : Word) → behind_name (name ++ 46 ∷ rest) name ≡ Some rest
behind_its_name name rest =
    behind-is (name ++ 46 ∷ rest) name name (46 ∷ rest) (sym (front_is name (46 ∷ rest))) (sym (rest_is name (46 ∷ rest))) (word_is_itself name)

dotted : (bs rest : Word) → behind_dot bs ≡ Some rest → bs ≡ 46 ∷ rest
dotted [] rest e = absurd cc
dotted (b ∷ bs) rest e =
    (elim (b == 46) as (λ t. (b == 46) ≡ t → cond t (Some bs) None ≡ Some rest → b ∷ bs ≡ 46 ∷ rest) [
      | true ↦ λ k h. let same : b ≡ 46 = eqb-true b 46 k in let behind : bs ≡ rest = cc in rw (same, behind) refl
      | false ↦ λ k h. absurd cc
    ]) refl e

name_is : (w name rest : Word) → behind_name w name ≡ Some rest → w ≡ name ++ 46 ∷ rest
name_is w name rest e =
    (elim (bytes_eq (take (length name) w) name) as (λ t. bytes_eq (take (length name) w) name ≡ t → cond t (behind_dot (drop (length name) w)) None ≡ Some rest → w ≡ name ++ 46 ∷ rest) [
      | true ↦ λ k h.
          sym (take-append-drop (length name) w) ∙ ap (λ f. f ++ drop (length name) w) (same_word (take (length name) w) name k)
          ∙ ap (λ b. name ++ b) (dotted (drop (length name) w) rest h)
      | false ↦ λ k h. absurd cc
    ]) refl e

-- ---- replicas

-- the number behind a name and a dot
abbrev told : Word → Word → Option ℕ
told w name = behind_name w name >>= u64_of

abbrev is_it : ℕ → Option ℕ → Bool
is_it k None = false
is_it k (Some r) = k == r

told_own : (name : Word) (k : ℕ) → k < 2 ^ 64 → told (name ++ 46 ∷ decimal k) name ≡ Some k
told_own name k low = rw (behind_its_name name (decimal k)) (u64_of-decimal k low)

told_is : (w name : Word) (r : ℕ) → told w name ≡ Some r → w ≡ name ++ 46 ∷ decimal r
told_is w name r e = pick (behind_name w name) refl e
  where
    pick : (o : Option Word) → behind_name w name ≡ o → (o >>= u64_of) ≡ Some r → w ≡ name ++ 46 ∷ decimal r
    pick None k h = absurd cc
    pick (Some rest) k h = name_is w name rest k ∙ ap (λ d. name ++ 46 ∷ d) (decimal-u64_of rest r h)

compared : (w name : Word) (k : ℕ) → k < 2 ^ 64 → bytes_eq w (name ++ 46 ∷ decimal k) ≡ is_it k (told w name)
compared w name k low =
    (elim (bytes_eq w (name ++ 46 ∷ decimal k)) as (λ t. bytes_eq w (name ++ 46 ∷ decimal k) ≡ t → t ≡ is_it k (told w name)) [
      | true ↦ λ e.
          let same : told w name ≡ Some k = ap (λ v. told v name) (same_word w (name ++ 46 ∷ decimal k) e) ∙ told_own name k low in
          sym (ap (is_it k) same ∙ eq-eqb k k refl)
      | false ↦ λ e. other (told w name) refl e
    ]) refl
  where
    other : (o : Option ℕ) → told w name ≡ o → bytes_eq w (name ++ 46 ∷ decimal k) ≡ false → false ≡ is_it k o
    other None h e = refl
    other (Some r) h e =
        (elim (k == r) as (λ t. (k == r) ≡ t → false ≡ t) [
          | true ↦ λ s.
              let same : w ≡ name ++ 46 ∷ decimal k = told_is w name r h ∙ ap (λ n. name ++ 46 ∷ decimal n) (sym (eqb-true k r s)) in
              sym e ∙ (bytes_eq-Decides w (name ++ 46 ∷ decimal k)).1 same
          | false ↦ λ s. refl
        ]) refl

place_in_range : (w : Word) (f : ℕ → Word) (r k n : ℕ) → ((j : ℕ) → j < k + n → bytes_eq w (f j) ≡ (j == r)) → k ≤ r → place_of_name w (map f (range_with_len k n)) ≡ given (nat_lt r (k + n)) (r - k)
place_in_range w f r k zero h low = rw (le-ltb r (k + 0) (omega (arith, low))) refl
place_in_range w f r k (suc n) h low =
    ap (λ t. cond t (Some 0) (option_map suc (place_of_name w (map f (range_with_len (k + 1) n))))) (h k (omega arith))
    ∙ (elim (k == r) as (λ t. (k == r) ≡ t → cond t (Some 0) (option_map suc (place_of_name w (map f (range_with_len (k + 1) n)))) ≡ given (nat_lt r (k + suc n)) (r - k)) [
      | true ↦ λ e. let same : k ≡ r = eqb-true k r e in let none : r - k ≡ 0 = omega arith in rw (lt-ltb r (k + suc n) (omega (arith, same)), none) refl
      | false ↦ λ e.
          let other : k ≢ r = eqb-false k r e in
          let more : k < r = below k r low other in
          let many : k + 1 + n ≡ k + suc n = omega arith in
          let one : suc (r - (k + 1)) ≡ r - k = omega (arith, more) in
          let rest : place_of_name w (map f (range_with_len (k + 1) n)) ≡ given (nat_lt r (k + 1 + n)) (r - (k + 1)) = place_in_range w f r (k + 1) n (λ j l. h j (omega (arith, l))) (omega (arith, more)) in
          ap (option_map suc) rest ∙ ap (λ m. option_map suc (given (nat_lt r m) (r - (k + 1)))) many ∙ shifted (nat_lt r (k + suc n)) (r - (k + 1)) (r - k) one
    ]) refl
  where
    below : (k r : ℕ) → k ≤ r → k ≢ r → k < r
    below k r le ne = omega (arith, le, ne)

    shifted : (t : Bool) (a b : ℕ) → suc a ≡ b → option_map suc (given t a) ≡ given t b
    shifted true a b e = ap Some e
    shifted false a b e = refl

no_place_in_range : (w : Word) (f : ℕ → Word) (k n : ℕ) → ((j : ℕ) → j < k + n → bytes_eq w (f j) ≡ false) → place_of_name w (map f (range_with_len k n)) ≡ None
no_place_in_range w f k zero h = refl
no_place_in_range w f k (suc n) h = rw (h k (omega arith), no_place_in_range w f (k + 1) n (λ j l. h j (omega (arith, l)))) refl

-- a replica is found by its name
pub replica_place : (w : Word) (f : FragSpec) → f.replicas < 2 ^ 64 → place_of_name w (replica_names f) ≡ replica_named w f
replica_place w f low = pick (told w f.name) refl
  where
    pick : (o : Option ℕ) → told w f.name ≡ o → place_of_name w (replica_names f) ≡ (o >>= (λ r. given (nat_lt r f.replicas) r))
    pick None e = no_place_in_range w (λ r. f.name ++ 46 ∷ decimal r) 0 f.replicas (λ j l. compared w f.name j (omega (arith, l, low)) ∙ ap (is_it j) e)
    pick (Some r) e =
        let all : 0 + f.replicas ≡ f.replicas = omega arith in
        let whole : r - 0 ≡ r = omega arith in
        place_in_range w (λ q. f.name ++ 46 ∷ decimal q) r 0 f.replicas (λ j l. compared w f.name j (omega (arith, l, low)) ∙ ap (is_it j) e) (omega arith)
        ∙ ap (λ m. given (nat_lt r m) (r - 0)) all ∙ ap (given (nat_lt r f.replicas)) whole

-- ---- places in lists one behind another

abbrev pub shifted_by : ℕ → Option ℕ → Option ℕ
shifted_by n o = option_map (λ i. n + i) o

pub place-append : (w : Word) (a b : List Word) → place_of_name w (a ++ b) ≡ or_else (place_of_name w a) (shifted_by (length a) (place_of_name w b))
place-append w [] b = same (place_of_name w b)
  where
    same : (o : Option ℕ) → o ≡ shifted_by 0 o
    same None = refl
    same (Some i) = let none : i ≡ 0 + i = omega arith in ap Some none
place-append w (v ∷ a) b =
    elim (bytes_eq w v) as (λ t. cond t (Some 0) (option_map suc (place_of_name w (a ++ b))) ≡ or_else (cond t (Some 0) (option_map suc (place_of_name w a))) (shifted_by (suc (length a)) (place_of_name w b))) [
      | true ↦ refl
      | false ↦ ap (option_map suc) (place-append w a b) ∙ one_more (place_of_name w a) (place_of_name w b)
    ]
  where
    one_more : (o p : Option ℕ) → option_map suc (or_else o (shifted_by (length a) p)) ≡ or_else (option_map suc o) (shifted_by (suc (length a)) p)
    one_more (Some i) p = refl
    one_more None None = refl
    one_more None (Some j) = let next : suc (length a + j) ≡ suc (length a) + j = omega arith in ap Some next

many_replicas : (f : FragSpec) → length (replica_names f) ≡ f.replicas
many_replicas f = length-map-range_with_len (λ (r : ℕ). f.name ++ 46 ∷ decimal r) 0 f.replicas

-- nodes
pub node_here : (w : Word) (fs : List FragSpec) (i before : ℕ) (f : FragSpec) (r : ℕ) → i < length fs → f ≡ get_or fs i f → f.replicas < 2 ^ 64 → Some r ≡ replica_named w f →
    place_of_name w (node_names fs) ≡ shifted_by before (place_of_name w (node_names (drop i fs))) → place_of_name w (node_names fs) ≡ Some (before + r)
node_here w fs i before f r low is few found so_far =
    so_far ∙ ap (shifted_by before) (at_drop_more (λ l. place_of_name w (node_names l)) fs i f low ∙ ap (λ g. place_of_name w (node_names (g ∷ drop (i + 1) fs))) (sym is)
    ∙ place-append w (replica_names f) (node_names (drop (i + 1) fs))
    ∙ ap (λ o. or_else o (shifted_by (length (replica_names f)) (place_of_name w (node_names (drop (i + 1) fs))))) (replica_place w f few ∙ sym found))

pub node_next : (w : Word) (fs : List FragSpec) (i before more : ℕ) (f : FragSpec) → i < length fs → f ≡ get_or fs i f → f.replicas < 2 ^ 64 → None ≡ replica_named w f → more ≡ before + f.replicas →
    place_of_name w (node_names fs) ≡ shifted_by before (place_of_name w (node_names (drop i fs))) → place_of_name w (node_names fs) ≡ shifted_by more (place_of_name w (node_names (drop (i + 1) fs)))
node_next w fs i before more f low is few none sum so_far =
    let rest = place_of_name w (node_names (drop (i + 1) fs)) in
    so_far ∙ ap (shifted_by before) (at_drop_more (λ l. place_of_name w (node_names l)) fs i f low ∙ ap (λ g. place_of_name w (node_names (g ∷ drop (i + 1) fs))) (sym is)
    ∙ place-append w (replica_names f) (node_names (drop (i + 1) fs)) ∙ ap (λ o. or_else o (shifted_by (length (replica_names f)) rest)) (replica_place w f few ∙ sym none))
    ∙ ap (λ n. shifted_by before (shifted_by n rest)) (many_replicas f) ∙ twice rest
  where
    twice : (o : Option ℕ) → shifted_by before (shifted_by f.replicas o) ≡ shifted_by more o
    twice None = refl
    twice (Some j) = let all : before + (f.replicas + j) ≡ more + j = omega (arith, sum) in ap Some all

pub counted_next : (fs : List FragSpec) (i count more : ℕ) (f : FragSpec) → i < length fs → f ≡ get_or fs i f → more ≡ count + f.replicas →
    length (node_names fs) ≡ count + length (node_names (drop i fs)) → length (node_names fs) ≡ more + length (node_names (drop (i + 1) fs))
counted_next fs i count more f low is sum so_far =
    let rest = node_names (drop (i + 1) fs) in
    let here : length (node_names (drop i fs)) ≡ length (replica_names f ++ rest) = at_drop_more (λ l. length (node_names l)) fs i f low ∙ ap (λ g. length (node_names (g ∷ drop (i + 1) fs))) (sym is) in
    let parts : length (replica_names f ++ rest) ≡ length (replica_names f) + length rest = length-append (replica_names f) rest in
    let many = many_replicas f in
    omega (arith, so_far, here, parts, many, sum)

-- ---- all actors

node_names-dotted : (fs : List FragSpec) → dotted_names fs ≡ node_names fs
node_names-dotted [] = refl
node_names-dotted (f ∷ fs) = ap (λ l. replica_names f ++ l) (node_names-dotted fs)

-- an actor's number by the parts of the plan
actor_parts : (plan : Plan) (w : Word) → actor_named plan w ≡ or_else
    (or_else (place_of_name w (named_sources plan)) (shifted_by (length (named_sources plan)) (place_of_name w (node_names plan.frags))))
    (shifted_by (length (named_sources plan ++ node_names plan.frags)) (place_of_name w (named_clients plan)))
actor_parts plan w =
    ap (place_of_name w) (roles_named plan) ∙ ap (λ l. place_of_name w ((named_sources plan ++ l) ++ named_clients plan)) (node_names-dotted plan.frags)
    ∙ place-append w (named_sources plan ++ node_names plan.frags) (named_clients plan)
    ∙ ap (λ o. or_else o (shifted_by (length (named_sources plan ++ node_names plan.frags)) (place_of_name w (named_clients plan)))) (place-append w (named_sources plan) (node_names plan.frags))

many_sources : (plan : Plan) → length (named_sources plan) ≡ length plan.sources
many_sources plan = length-map plan.sources (λ (s : SourceSpec). s.name)

pub source_found : (plan : Plan) (w : Word) (s : ℕ) → Some s ≡ place_of_name w (named_sources plan) → Some s ≡ actor_named plan w
source_found plan w s h = sym (actor_parts plan w ∙ rw (← h) refl)

pub node_found : (plan : Plan) (w : Word) (n a : ℕ) → None ≡ place_of_name w (named_sources plan) → Some n ≡ place_of_name w (node_names plan.frags) → a ≡ length plan.sources + n → Some a ≡ actor_named plan w
node_found plan w n a none h sum =
    let many = many_sources plan in
    let all : length (named_sources plan) + n ≡ a = omega (arith, many, sum) in
    sym (actor_parts plan w ∙ rw (← none, ← h) (ap Some all))

pub client_found : (plan : Plan) (w : Word) (c a : ℕ) → None ≡ place_of_name w (named_sources plan) → None ≡ place_of_name w (node_names plan.frags) → Some c ≡ place_of_name w (named_clients plan) →
    a ≡ length plan.sources + length (node_names plan.frags) + c → Some a ≡ actor_named plan w
client_found plan w c a none no_node h sum =
    let many = many_sources plan in
    let parts : length (named_sources plan ++ node_names plan.frags) ≡ length (named_sources plan) + length (node_names plan.frags) = length-append (named_sources plan) (node_names plan.frags) in
    let all : length (named_sources plan ++ node_names plan.frags) + c ≡ a = omega (arith, many, parts, sum) in
    sym (actor_parts plan w ∙ rw (← none, ← no_node, ← h) (ap Some all))

pub no_actor : (plan : Plan) (w : Word) → None ≡ place_of_name w (named_sources plan) → None ≡ place_of_name w (node_names plan.frags) → None ≡ place_of_name w (named_clients plan) → None ≡ actor_named plan w
no_actor plan w none no_node h = sym (actor_parts plan w ∙ rw (← none, ← no_node, ← h) refl)
