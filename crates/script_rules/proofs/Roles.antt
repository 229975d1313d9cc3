-- All names of a plan's actors differ, so that each actor is found by its name.
use Rattle.std.proofs.Common.{◌≡◌, ℕ, zero, suc, ◌+◌, ◌^◌, ◌<◌, ◌≤◌, true, false, List, [], ◌∷◌, ◌++◌, map, length, Some, refl, sym, ap, subst, ◌∙◌, arith}
use Rattle.std.specs.Prelude.{◌&&◌, ◌||◌, ◌==◌, nat_lt, if◌then◌else◌, is_none, bytes_eq}
use Rattle.std.specs.Fmt.{decimal}
use Rattle.std.proofs.lemmas.Fmt.{decimal_injective}
use Rattle.std.proofs.lemmas.Bool.{false_from_ne_true, or_parts, and_parts, ltb-true, ltb-false, eqb-true}
use Rattle.std.proofs.lemmas.List.{append_assoc, append_cancel_left, map-append, length-append, length-map}
use Rattle.std.proofs.lemmas.List.Folds.{list_any-append}
use Rattle.dpc_lists.specs.Lists.{nth, list_all, range_with_len}
use Rattle.dpc_model.specs.Words.{Word}
use Rattle.dpc_model.specs.Actors.{roles_of, nodes_from, nodes_of}
use Rattle.dpc_model.specs.ScriptText.{source_name, frag_name, role_name, actor_name}
use Rattle.dpc_model.specs.declared.actors.Role.{Role}
use Rattle.dpc_model.specs.declared.actors.Role.TheVariants.{Source as IsSource, Node as IsNode, Client as IsClient, Nobody}
use Rattle.dpc_model.specs.declared.plans.SourceSpec.{SourceSpec}
use Rattle.dpc_model.specs.declared.plans.FragSpec.{FragSpec}
use Rattle.dpc_model.specs.declared.plans.ClientSpec.{ClientSpec}
use Rattle.dpc_model.specs.declared.plans.Plan.{Plan}
use Rattle.dpc_lists.proofs.Truths.{or-true, and-none, not-both}
use Rattle.dpc_lists.proofs.Elements.{nth-past, map-map, nth-middle}
use Rattle.script_rules.specs.Spelling.{is_letter, may_stand_in_name, is_name}
use Rattle.script_rules.specs.Places.{is_between}
use Rattle.script_rules.specs.Drafts.{place_of_name}
use Rattle.script_rules.specs.Reasons.{is_among, has_twice}
use Rattle.script_rules.specs.Facts.{has_sizes}
use Rattle.script_rules.proofs.Called.{named_sources, named}
use Rattle.script_rules.proofs.Apart.{same_word, word_is_itself, among_neither, among_no, twice-first, twice-last}
use Rattle.script_rules.proofs.Names.{twice-append, each_of, nobody_among}
use Rattle.script_rules.proofs.Ranges.{between}
use Rattle.script_rules.proofs.Streams.{no_place, other_part}
use Rattle.script_rules.proofs.Distinct.{named_clients}
use Rattle.script_rules.proofs.Recalled.{place-nth}

-- ---- the names of nodes

-- a fragment's name, a dot and a replica's number, for n replicas from number k on
abbrev pub dots : Word → ℕ → ℕ → List Word
dots w k n = map (λ r. w ++ 46 ∷ decimal r) (range_with_len k n)

abbrev pub dotted : List FragSpec → List Word
dotted [] = []
dotted (f ∷ fs) = dots f.name 0 f.replicas ++ dotted fs

abbrev before_dot : Word → Word
before_dot [] = []
before_dot (b ∷ bs) = if b == 46 then [] else b ∷ before_dot bs

no_dot : (b : ℕ) → may_stand_in_name b ≡ true → (b == 46) ≡ false
no_dot b h = false_from_ne_true (b == 46) (λ e. let same : b ≡ 46 = eqb-true b 46 e in let wrong : may_stand_in_name 46 ≡ true = subst (λ x. may_stand_in_name x ≡ true) same h in absurd cc)

before_first : (w u : Word) → list_all may_stand_in_name w ≡ true → before_dot (w ++ 46 ∷ u) ≡ w
before_first [] u h = refl
before_first (b ∷ w) u h =
    let p = and_parts (may_stand_in_name b) (list_all may_stand_in_name w) h in
    rw (no_dot b p.0, before_first w u p.1) refl

pub letters : (w : Word) → is_name w ≡ true → list_all may_stand_in_name w ≡ true
letters [] h = refl
letters (b ∷ w) h =
    let p = and_parts (is_letter b && list_all may_stand_in_name w) (nat_lt (length w) 16) h in
    let q = and_parts (is_letter b) (list_all may_stand_in_name w) p.0 in
    rw (q.0, q.1) refl

-- a word with a dot is no name
dot_is_none : (w u : Word) → list_all may_stand_in_name (w ++ 46 ∷ u) ≡ false
dot_is_none [] u = refl
dot_is_none (b ∷ w) u = ap (λ t. may_stand_in_name b && t) (dot_is_none w u) ∙ and-none (may_stand_in_name b)

is_no_name : (w u : Word) → is_name (w ++ 46 ∷ u) ≡ false
is_no_name w u = false_from_ne_true (is_name (w ++ 46 ∷ u)) (λ e. not-both (list_all may_stand_in_name (w ++ 46 ∷ u)) (letters (w ++ 46 ∷ u) e) (dot_is_none w u))

other_dots : (w : Word) (j k n : ℕ) → j < k → k + n ≤ 2 ^ 63 → is_among (w ++ 46 ∷ decimal j) (dots w k n) ≡ false
other_dots w j k zero low few = refl
other_dots w j k (suc n) low few =
    let here : bytes_eq (w ++ 46 ∷ decimal j) (w ++ 46 ∷ decimal k) ≡ false =
    false_from_ne_true (bytes_eq (w ++ 46 ∷ decimal j) (w ++ 46 ∷ decimal k)) (λ e.
    let same : w ++ 46 ∷ decimal j ≡ w ++ 46 ∷ decimal k = same_word _ _ e in
    let tails : 46 ∷ decimal j ≡ 46 ∷ decimal k = append_cancel_left w (46 ∷ decimal j) (46 ∷ decimal k) same in
    let digits : decimal j ≡ decimal k = cc in
    let equal = decimal_injective j k (omega (arith, low, few)) (omega (arith, few)) digits in
    omega (arith, low, equal)) in
    rw (here, other_dots w j (k + 1) n (omega (arith, low)) (omega (arith, few))) refl

dots_apart : (w : Word) (k n : ℕ) → k + n ≤ 2 ^ 63 → has_twice (dots w k n) ≡ false
dots_apart w k zero few = refl
dots_apart w k (suc n) few = rw (other_dots w k (k + 1) n (omega arith) (omega (arith, few)), dots_apart w (k + 1) n (omega (arith, few))) refl

-- what is among them has that name before its dot
in_dots : (v w : Word) (k n : ℕ) → is_name w ≡ true → is_among v (dots w k n) ≡ true → before_dot v ≡ w
in_dots v w k zero name h = absurd cc
in_dots v w k (suc n) name h =
    (elim (bytes_eq v (w ++ 46 ∷ decimal k)) as (λ t. bytes_eq v (w ++ 46 ∷ decimal k) ≡ t → (t || is_among v (dots w (k + 1) n)) ≡ true → before_dot v ≡ w) [
      | true ↦ λ e h. ap before_dot (same_word v (w ++ 46 ∷ decimal k) e) ∙ before_first w (decimal k) (letters w name)
      | false ↦ λ e h. in_dots v w (k + 1) n name h
    ]) refl h

either_part : (v : Word) (a b : List Word) → is_among v (a ++ b) ≡ true → is_among v a ≡ false → is_among v b ≡ true
either_part v a b h k = sym (list_any-append (bytes_eq v) a b ∙ ap (λ t. t || is_among v b) k) ∙ h

in_dotted : (v : Word) (fs : List FragSpec) → list_all is_name (named fs) ≡ true → is_among v (dotted fs) ≡ true → is_among (before_dot v) (named fs) ≡ true
in_dotted v [] names h = absurd cc
in_dotted v (f ∷ fs) names h =
    let p = and_parts (is_name f.name) (list_all is_name (named fs)) names in
    (elim (is_among v (dots f.name 0 f.replicas)) as (λ t. is_among v (dots f.name 0 f.replicas) ≡ t → is_among (before_dot v) (named (f ∷ fs)) ≡ true) [
      | true ↦ λ e.
          let same : before_dot v ≡ f.name = in_dots v f.name 0 f.replicas p.0 e in
          let here : bytes_eq (before_dot v) f.name ≡ true = ap (λ w. bytes_eq w f.name) same ∙ word_is_itself f.name in
          ap (λ t. t || is_among (before_dot v) (named fs)) here
      | false ↦ λ e. ap (λ t. bytes_eq (before_dot v) f.name || t) (in_dotted v fs p.1 (either_part v (dots f.name 0 f.replicas) (dotted fs) h e)) ∙ or-true (bytes_eq (before_dot v) f.name)
    ]) refl

no_name_in_dots : (v w : Word) (k n : ℕ) → is_among v (dots w k n) ≡ true → is_name v ≡ false
no_name_in_dots v w k zero h = absurd cc
no_name_in_dots v w k (suc n) h =
    (elim (bytes_eq v (w ++ 46 ∷ decimal k)) as (λ t. bytes_eq v (w ++ 46 ∷ decimal k) ≡ t → (t || is_among v (dots w (k + 1) n)) ≡ true → is_name v ≡ false) [
      | true ↦ λ e h. ap is_name (same_word v (w ++ 46 ∷ decimal k) e) ∙ is_no_name w (decimal k)
      | false ↦ λ e h. no_name_in_dots v w (k + 1) n h
    ]) refl h

no_name_in_dotted : (v : Word) (fs : List FragSpec) → is_among v (dotted fs) ≡ true → is_name v ≡ false
no_name_in_dotted v [] h = absurd cc
no_name_in_dotted v (f ∷ fs) h =
    (elim (is_among v (dots f.name 0 f.replicas)) as (λ t. is_among v (dots f.name 0 f.replicas) ≡ t → is_name v ≡ false) [
      | true ↦ λ e. no_name_in_dots v f.name 0 f.replicas e
      | false ↦ λ e. no_name_in_dotted v fs (either_part v (dots f.name 0 f.replicas) (dotted fs) h e)
    ]) refl

dotted_apart : (fs : List FragSpec) → list_all has_sizes fs ≡ true → list_all is_name (named fs) ≡ true → has_twice (named fs) ≡ false → has_twice (dotted fs) ≡ false
dotted_apart [] sizes names apart = refl
dotted_apart (f ∷ fs) sizes names apart =
    let s = and_parts (has_sizes f) (list_all has_sizes fs) sizes in
    let r = and_parts (is_between 1 4 f.replicas) (is_between 1 8 (length f.inputs)) s.0 in
    let few = (between 1 4 f.replicas r.0).1 in
    let n = and_parts (is_name f.name) (list_all is_name (named fs)) names in
    let t = or_parts (is_among f.name (named fs)) (has_twice (named fs)) apart in
    twice-append (dots f.name 0 f.replicas) (dotted fs) (dots_apart f.name 0 f.replicas (omega (arith, few))) (dotted_apart fs s.1 n.1 t.1)
    (λ v h. false_from_ne_true (is_among v (dots f.name 0 f.replicas)) (λ e.
    let among : is_among f.name (named fs) ≡ true = subst (λ w. is_among w (named fs) ≡ true) (in_dots v f.name 0 f.replicas n.0 e) (in_dotted v fs n.1 h) in
    not-both (is_among f.name (named fs)) among t.0))

-- ---- the names of all actors

pub record HasActorNames (plan : Plan) : Type 0 where
  pub apart : has_twice ((named_sources plan ++ named plan.frags) ++ named_clients plan) ≡ false
  pub sources : list_all is_name (named_sources plan) ≡ true
  pub frags : list_all is_name (named plan.frags) ≡ true
  pub clients : list_all is_name (named_clients plan) ≡ true
  pub sizes : list_all has_sizes plan.frags ≡ true

abbrev pub actor_names : Plan → List Word
actor_names plan = (named_sources plan ++ dotted plan.frags) ++ named_clients plan

actors_apart : (plan : Plan) → HasActorNames plan → has_twice (actor_names plan) ≡ false
actors_apart plan h =
    let streams = named_sources plan ++ named plan.frags in
    let first = twice-first streams (named_clients plan) h.apart in
    let a = twice-append (named_sources plan) (dotted plan.frags) (twice-first (named_sources plan) (named plan.frags) first) (dotted_apart plan.frags h.sizes h.frags (twice-last (named_sources plan) (named plan.frags) first))
    (λ w e. false_from_ne_true (is_among w (named_sources plan)) (λ k. not-both (is_name w) (each_of is_name (named_sources plan) w h.sources k) (no_name_in_dotted w plan.frags e))) in
    twice-append (named_sources plan ++ dotted plan.frags) (named_clients plan) a (twice-last streams (named_clients plan) h.apart)
    (λ w e.
    let no_source : is_among w (named_sources plan) ≡ false = (among_neither w (named_sources plan) (named plan.frags) (other_part w streams (named_clients plan) h.apart e)).0 in
    let no_node : is_among w (dotted plan.frags) ≡ false = false_from_ne_true (is_among w (dotted plan.frags)) (λ k. not-both (is_name w) (each_of is_name (named_clients plan) w h.clients e) (no_name_in_dotted w plan.frags k)) in
    among_no w (named_sources plan) (dotted plan.frags) no_source no_node)

no_nameless : (plan : Plan) → HasActorNames plan → is_among [] (actor_names plan) ≡ false
no_nameless plan h =
    let no_node : is_among [] (dotted plan.frags) ≡ false = false_from_ne_true (is_among [] (dotted plan.frags)) (λ e. not-both (is_among [] (named plan.frags)) (in_dotted [] plan.frags h.frags e) (nobody_among (named plan.frags) h.frags)) in
    among_no [] (named_sources plan ++ dotted plan.frags) (named_clients plan) (among_no [] (named_sources plan) (dotted plan.frags) (nobody_among (named_sources plan) h.sources) no_node) (nobody_among (named_clients plan) h.clients)

-- ---- they are the names of the roles

-- the words behind others, by number
by_number : (before ws all : List Word) (k n : ℕ) → all ≡ before ++ ws → length before ≡ k → length ws ≡ n → map (nth [] all) (range_with_len k n) ≡ ws
by_number before [] all k zero parts count many = refl
by_number before [] all k (suc n) parts count many = absurd (omega (arith, many))
by_number before (w ∷ ws) all k zero parts count many = absurd (omega (arith, many))
by_number before (w ∷ ws) all k (suc n) parts count many =
    let here : nth [] all k ≡ w = ap (λ l. nth [] l k) parts ∙ ap (nth [] (before ++ w ∷ ws)) (sym count) ∙ nth-middle before w ws in
    let more : length (before ++ w ∷ []) ≡ length before + 1 = length-append before (w ∷ []) in
    rw (here, by_number (before ++ w ∷ []) ws all (k + 1) n (parts ∙ sym (append_assoc before (w ∷ []) ws)) (omega (arith, more, count)) (omega (arith, many))) refl

nodes_named : (plan : Plan) (before fs : List FragSpec) (k : ℕ) → plan.frags ≡ before ++ fs → length before ≡ k → map (role_name plan) (map (λ (n : ℕ × ℕ). IsNode n.0 n.1) (nodes_from k fs)) ≡ dotted fs
nodes_named plan before [] k parts count = refl
nodes_named plan before (f ∷ fs) k parts count =
    let node : ℕ × ℕ → Role = λ n. IsNode n.0 n.1 in
    let here : List (ℕ × ℕ) = map (λ r. (k, r)) (range_with_len 0 f.replicas) in
    let many : length (named before) ≡ length before = length-map before (λ (g : FragSpec). g.name) in
    let same : length (named before) ≡ k = omega (arith, many, count) in
    let name : frag_name plan k ≡ f.name =
    ap (λ l. nth [] (named l) k) parts ∙ ap (λ l. nth [] l k) (map-append (λ (g : FragSpec). g.name) before (f ∷ fs)) ∙ ap (nth [] (named before ++ named (f ∷ fs))) (sym same) ∙ nth-middle (named before) f.name (named fs) in
    let first : map (role_name plan) (map node here) ≡ dots f.name 0 f.replicas =
    ap (map (role_name plan)) (map-map node (λ r. (k, r)) (range_with_len 0 f.replicas)) ∙ map-map (role_name plan) (λ r. IsNode k r) (range_with_len 0 f.replicas)
    ∙ ap (λ w. dots w 0 f.replicas) name in
    let more : length (before ++ f ∷ []) ≡ length before + 1 = length-append before (f ∷ []) in
    ap (map (role_name plan)) (map-append node here (nodes_from (k + 1) fs)) ∙ map-append (role_name plan) (map node here) (map node (nodes_from (k + 1) fs))
    ∙ ap (λ l. l ++ map (role_name plan) (map node (nodes_from (k + 1) fs))) first
    ∙ ap (λ l. dots f.name 0 f.replicas ++ l) (nodes_named plan (before ++ f ∷ []) fs (k + 1) (parts ∙ sym (append_assoc before (f ∷ []) fs)) (omega (arith, more, count)))

pub roles_named : (plan : Plan) → map (role_name plan) (roles_of plan) ≡ actor_names plan
roles_named plan =
    let sources = map IsSource (range_with_len 0 (length plan.sources)) in
    let nodes = map (λ (n : ℕ × ℕ). IsNode n.0 n.1) (nodes_of plan) in
    let clients = map IsClient (range_with_len 0 (length plan.clients)) in
    let named_1 : map (role_name plan) sources ≡ named_sources plan =
    map-map (role_name plan) IsSource (range_with_len 0 (length plan.sources)) ∙ by_number [] (named_sources plan) (named_sources plan) 0 (length plan.sources) refl refl (length-map plan.sources (λ (s : SourceSpec). s.name)) in
    let named_2 : map (role_name plan) nodes ≡ dotted plan.frags = nodes_named plan [] plan.frags 0 refl refl in
    let named_3 : map (role_name plan) clients ≡ named_clients plan =
    map-map (role_name plan) IsClient (range_with_len 0 (length plan.clients)) ∙ by_number [] (named_clients plan) (named_clients plan) 0 (length plan.clients) refl refl (length-map plan.clients (λ (c : ClientSpec). c.name)) in
    map-append (role_name plan) (sources ++ nodes) clients ∙ ap (λ l. l ++ map (role_name plan) clients) (map-append (role_name plan) sources nodes) ∙ rw (named_1, named_2, named_3) refl

pub nth-map : {X : Type 0} (g : X → Word) (d : X) (xs : List X) (i : ℕ) → g d ≡ [] → nth [] (map g xs) i ≡ g (nth d xs i)
nth-map g d [] i h = sym h
nth-map g d (x ∷ xs) zero h = refl
nth-map g d (x ∷ xs) (suc i) h = nth-map g d xs i h

found_back : (ws : List Word) (i : ℕ) → has_twice ws ≡ false → is_among [] ws ≡ false → is_none (place_of_name (nth [] ws i) ws) ≡ false → place_of_name (nth [] ws i) ws ≡ Some i
found_back ws i apart nameless known =
    (elim (nat_lt i (length ws)) as (λ t. nat_lt i (length ws) ≡ t → place_of_name (nth [] ws i) ws ≡ Some i) [
      | true ↦ λ e. place-nth ws i apart (ltb-true i (length ws) e)
      | false ↦ λ e.
          let lost : is_none (place_of_name (nth [] ws i) ws) ≡ true = ap (λ w. is_none (place_of_name w ws)) (nth-past [] ws i (ltb-false i (length ws) e)) ∙ ap is_none (no_place [] ws nameless) in
          absurd (not-both _ lost known)
    ]) refl

-- an actor that is found by its name is that actor
pub actor_back : (plan : Plan) (a : ℕ) → HasActorNames plan → is_none (place_of_name (actor_name plan a) (map (role_name plan) (roles_of plan))) ≡ false →
    place_of_name (actor_name plan a) (map (role_name plan) (roles_of plan)) ≡ Some a
actor_back plan a h known =
    let ws = map (role_name plan) (roles_of plan) in
    let name : nth [] ws a ≡ actor_name plan a = nth-map (role_name plan) Nobody (roles_of plan) a refl in
    let apart : has_twice ws ≡ false = ap has_twice (roles_named plan) ∙ actors_apart plan h in
    let nameless : is_among [] ws ≡ false = ap (is_among []) (roles_named plan) ∙ no_nameless plan h in
    subst (λ w. place_of_name w ws ≡ Some a) name (found_back ws a apart nameless (ap (λ w. is_none (place_of_name w ws)) name ∙ known))

-- so is a source
pub source_back : (plan : Plan) (s : ℕ) → HasActorNames plan → is_none (place_of_name (source_name plan s) (named_sources plan)) ≡ false → place_of_name (source_name plan s) (named_sources plan) ≡ Some s
source_back plan s h known =
    let streams = named_sources plan ++ named plan.frags in
    found_back (named_sources plan) s (twice-first (named_sources plan) (named plan.frags) (twice-first streams (named_clients plan) h.apart)) (nobody_among (named_sources plan) h.sources) known
