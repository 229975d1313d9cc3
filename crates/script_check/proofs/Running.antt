-- Directives and phases are judged behind a plan without a fault.
use Rattle.std.proofs.Common.{◌≡◌, ℕ, zero, suc, ◌+◌, ◌<◌, ◌≤◌, Bool, true, false, List, [], ◌∷◌, ◌++◌, map, take, drop, length, Option, Some, None, refl, sym, ap, subst, ◌∙◌, arith, get_or, inl, inr, ◌⊎◌}
use Rattle.std.specs.Prelude.{Result, Ok, Err, ◌||◌, not, nat_lt, flat_map, is_none, is_some, unwrap_or, option_map, fold}
use Rattle.std.proofs.lemmas.Bool.{ltb-true, ltb-false}
use Rattle.std.proofs.lemmas.List.{append-nil, append_assoc, take_all, length-map}
use Rattle.dpc_model.specs.ScriptText.{source_name, role_name, actor_name}
use Rattle.dpc_model.specs.Actors.{roles_of, role_of, reads_from, are_peers, inputs_of, are_linked}
use Rattle.dpc_model.specs.declared.actors.Role.{Role}
use Rattle.dpc_model.specs.declared.actors.Role.TheVariants.{Nobody}
use Rattle.dpc_model.specs.declared.plans.SourceSpec.{SourceSpec}
use Rattle.dpc_model.specs.declared.plans.Plan.{Plan}
use Rattle.dpc_model.specs.declared.scripts.Directive.{Directive}
use Rattle.dpc_model.specs.declared.scripts.Directive.TheVariants.{Emit, Release, Cut, Heal, Lose, Repeat, Crash, Restart}
use Rattle.dpc_model.specs.declared.scripts.Phase.{Phase}
use Rattle.dpc_lists.proofs.Truths.{not-false, not-both}
use Rattle.dpc_lists.proofs.Elements.{nth-past}
use Rattle.dpc_model.proofs.Roles.{nothing_sent, no_peer}
use Rattle.script_rules.specs.declared.reasons.Reason.{Reason}
use Rattle.script_rules.specs.declared.reasons.Reason.TheVariants.{Unknown, AgainstState}
use Rattle.script_rules.specs.declared.reasons.PlanFault.{PlanFault}
use Rattle.script_rules.specs.Statements.{Statement, LinkLine, TickLine}
use Rattle.script_rules.specs.Drafts.{Draft, and_then, plan_of, place_of_name, actor_named, op_names}
use Rattle.script_rules.specs.Reasons.{first_of_tests, tests_said, is_among, is_node, down_after, names_link, names_node}
use Rattle.script_rules.specs.Checking.{IsChecked, check_from, directive_statement, phase_statements}
use Rattle.script_rules.proofs.Names.{nobody_among, twice-without, source_names_in_range, frag_names_in_range, client_names_in_range}
use Rattle.script_rules.proofs.Apart.{twice-first}
use Rattle.script_rules.proofs.Streams.{no_place}
use Rattle.script_rules.proofs.Recalled.{place-nth, nth-among}
use Rattle.script_rules.proofs.Ranges.{ranges, header_ranges, HasHeaderRanges}
use Rattle.script_rules.proofs.Headers.{plan_said}
use Rattle.script_rules.proofs.Roles.{HasActorNames, actor_back, nth-map}
use Rattle.script_rules.proofs.Forms.{checked_has_form}
use Rattle.script_rules.proofs.Passing.{Passes, passes, passes_first, passes_then, all_said, said-append, fine_tests}
use Rattle.script_check.specs.Judging.{told, Judges, bare, running}
use Rattle.script_check.specs.Locals.{named_sources, named_frags, named_clients, is_down, against_directive, against_tick}
use Rattle.script_check.proofs.Judging.{judges_none, judges_then, judges_stop, judges_one, judges_fault, map-more, map-parted, flat-more, flat-parted}
use Rattle.script_draft.proofs.Names.{among-place}

-- what is known of a plan without a fault
pub record IsGood (plan : Plan) : Type 0 where
  pub ranges : HasHeaderRanges plan
  pub names : HasActorNames plan

pub is_good : (plan : Plan) → IsChecked (bare plan) → IsGood plan
is_good plan c =
    let r = ranges (bare plan) c.in_range in
    let form = checked_has_form (bare plan) c in
    let streams = named_sources plan.sources ++ named_frags plan.frags in
    record {
      ranges = header_ranges plan r.header;
      names = record {
        apart = twice-without streams (flat_map op_names plan.frags) (named_clients plan.clients) form.distinct;
        sources = source_names_in_range plan.sources r.sources;
        frags = (frag_names_in_range plan plan.frags r.frags).0;
        clients = client_names_in_range plan.clients r.clients;
        sizes = form.sizes;
      };
    }

none_is : {X : Type 0} (o : Option X) → is_none o ≡ true → o ≡ None
none_is None h = refl
none_is (Some x) h = absurd cc

abbrev joins : Plan → Role → Role → Bool
joins plan x y = (reads_from plan x y || reads_from plan y x) || are_peers x y

module _ (plan : Plan) (good : IsGood plan) where
  -- an actor is found by its name, or it is nobody
  abbrev IsFoundOr : ℕ → Option ℕ → Type 0
  IsFoundOr a o = (o ≡ Some a) ⊎ ((o ≡ None) × (role_of plan a ≡ Nobody))

  actor_at : (a : ℕ) → IsFoundOr a (place_of_name (actor_name plan a) (map (role_name plan) (roles_of plan)))
  actor_at a =
      let ws = map (role_name plan) (roles_of plan) in
      let w = actor_name plan a in
      let many : length ws ≡ length (roles_of plan) = length-map (roles_of plan) (role_name plan) in
      (elim (is_none (place_of_name w ws)) as (λ b. is_none (place_of_name w ws) ≡ b → IsFoundOr a (place_of_name w ws)) [
        | false ↦ λ e. inl (actor_back plan a good.names e)
        | true ↦ λ e.
            let none = none_is (place_of_name w ws) e in
            inr (
              none,
              (elim (nat_lt a (length (roles_of plan))) as (λ b. nat_lt a (length (roles_of plan)) ≡ b → role_of plan a ≡ Nobody) [
                | false ↦ λ far. nth-past Nobody (roles_of plan) a (ltb-false a (length (roles_of plan)) far)
                | true ↦ λ low.
                    let here : a < length ws = let l = ltb-true a (length (roles_of plan)) low in omega (arith, l, many) in
                    let there : is_some (place_of_name w ws) ≡ true = among-place w ws ∙ ap (λ v. is_among v ws) (sym (nth-map (role_name plan) Nobody (roles_of plan) a refl)) ∙ nth-among ws a here in
                    let lost : is_some (place_of_name w ws) ≡ false = ap is_some none in
                    absurd (not-both (is_some (place_of_name w ws)) there lost)
              ]) refl,
            )
      ]) refl

  source_at : (s : ℕ) → place_of_name (source_name plan s) (named_sources plan.sources) ≡ (elim (nat_lt s (length plan.sources)) as (λ b. Option ℕ) [ true ↦ Some s | false ↦ None ])
  source_at s =
      let ws = named_sources plan.sources in
      let many : length ws ≡ length plan.sources = length-map plan.sources (λ (x : SourceSpec). x.name) in
      (elim (nat_lt s (length plan.sources)) as (λ b. nat_lt s (length plan.sources) ≡ b → place_of_name (source_name plan s) ws ≡ (elim b as (λ b. Option ℕ) [ true ↦ Some s | false ↦ None ])) [
        | true ↦ λ e.
            let low = ltb-true s (length plan.sources) e in
            place-nth ws s (twice-first ws (named_frags plan.frags) (twice-first (ws ++ named_frags plan.frags) (named_clients plan.clients) good.names.apart)) (omega (arith, low, many))
        | false ↦ λ e.
            let far = ltb-false s (length plan.sources) e in
            ap (λ w. place_of_name w ws) (nth-past [] ws s (omega (arith, far, many))) ∙ no_place [] ws (nobody_among ws good.names.sources)
      ]) refl

  module _ (ps : List Phase) (xs : List Directive) where
    abbrev d : Draft
    d = running plan ps xs

    same_plan : plan_of d ≡ plan
    same_plan = plan_said plan plan.sources plan.frags plan.clients good.ranges

    named_at : (a : ℕ) → IsFoundOr a (actor_named d (actor_name plan a))
    named_at a = subst (λ p. IsFoundOr a (place_of_name (actor_name plan a) (map (role_name p) (roles_of p)))) (sym same_plan) (actor_at a)

    -- ---- sources

    send_tested : (s : ℕ) → first_of_tests ((is_none (place_of_name (source_name plan s) (named_sources plan.sources)), Unknown) ∷ []) ≡ first_of_tests ((not (nat_lt s (length plan.sources)), Unknown) ∷ [])
    send_tested s =
        ap (λ o. first_of_tests ((is_none o, Unknown) ∷ [])) (source_at s)
        ∙ (elim (nat_lt s (length plan.sources)) as (λ b. first_of_tests ((is_none (elim b as (λ b. Option ℕ) [ true ↦ Some s | false ↦ None ]), Unknown) ∷ []) ≡ first_of_tests ((not b, Unknown) ∷ [])) [ true ↦ refl | false ↦ refl ])

    source_found : (s : ℕ) → not (nat_lt s (length plan.sources)) ≡ false → place_of_name (source_name plan s) (named_sources plan.sources) ≡ Some s
    source_found s h =
        source_at s
        ∙ (elim (nat_lt s (length plan.sources)) as (λ b. not b ≡ false → (elim b as (λ b. Option ℕ) [ true ↦ Some s | false ↦ None ]) ≡ Some s) [ true ↦ λ h. refl | false ↦ λ h. absurd cc ]) h

    -- ---- links

    nobody_first : (y : Role) → joins plan Nobody y ≡ false
    nobody_first y = rw (nothing_sent (inputs_of plan y)) refl

    nobody_second : (x : Role) → joins plan x Nobody ≡ false
    nobody_second x = rw (nothing_sent (inputs_of plan x), no_peer x) refl

    abbrev linked_by : Plan → Option ℕ → Option ℕ → Bool
    linked_by p oa ob = unwrap_or (option_map (λ x. unwrap_or (option_map (λ y. are_linked p x y) ob) false) oa) false

    both_linked : (a b : ℕ) (oa ob : Option ℕ) → IsFoundOr a oa → IsFoundOr b ob → linked_by plan oa ob ≡ are_linked plan a b
    both_linked a b oa ob (inl x) (inl y) = ap (λ o. linked_by plan o ob) x ∙ ap (linked_by plan (Some a)) y
    both_linked a b oa ob (inr x) y = ap (λ o. linked_by plan o ob) x.0 ∙ sym (ap (λ r. joins plan r (role_of plan b)) x.1 ∙ nobody_first (role_of plan b))
    both_linked a b oa ob (inl x) (inr y) = ap (λ o. linked_by plan o ob) x ∙ ap (linked_by plan (Some a)) y.0 ∙ sym (ap (joins plan (role_of plan a)) y.1 ∙ nobody_second (role_of plan a))

    link_same : (a b : ℕ) → names_link d (actor_name plan a) (actor_name plan b) ≡ are_linked plan a b
    link_same a b =
        ap (λ p. linked_by p (actor_named d (actor_name plan a)) (actor_named d (actor_name plan b))) same_plan
        ∙ both_linked a b (actor_named d (actor_name plan a)) (actor_named d (actor_name plan b)) (named_at a) (named_at b)

    found_actor : (a : ℕ) → (role_of plan a ≡ Nobody → ⊥) → actor_named d (actor_name plan a) ≡ Some a
    found_actor a some = pick (named_at a)
      where
        pick : IsFoundOr a (actor_named d (actor_name plan a)) → actor_named d (actor_name plan a) ≡ Some a
        pick (inl e) = e
        pick (inr n) = absurd (some n.1)

    link_tested : (a b : ℕ) → first_of_tests ((not (names_link d (actor_name plan a) (actor_name plan b)), Unknown) ∷ []) ≡ first_of_tests ((not (are_linked plan a b), Unknown) ∷ [])
    link_tested a b = ap (λ t. first_of_tests ((not t, Unknown) ∷ [])) (link_same a b)

    link_said : (make : ℕ → ℕ → Directive) (a b : ℕ) → not (are_linked plan a b) ≡ false → and_then d (LinkLine make (actor_name plan a) (actor_name plan b)) ≡ running plan ps (xs ++ make a b ∷ [])
    link_said make a b h =
        let linked : joins plan (role_of plan a) (role_of plan b) ≡ true = not-false (are_linked plan a b) h in
        let first = found_actor a (λ r. not-both (joins plan (role_of plan a) (role_of plan b)) linked (ap (λ x. joins plan x (role_of plan b)) r ∙ nobody_first (role_of plan b))) in
        let second = found_actor b (λ r. not-both (joins plan (role_of plan a) (role_of plan b)) linked (ap (joins plan (role_of plan a)) r ∙ nobody_second (role_of plan a))) in
        ap (λ o. running plan ps (xs ++ make (unwrap_or o 0) (unwrap_or (actor_named d (actor_name plan b)) 0) ∷ [])) first ∙ ap (λ o. running plan ps (xs ++ make a (unwrap_or o 0) ∷ [])) second

    -- ---- nodes

    abbrev node_by : Plan → Option ℕ → Bool
    node_by p o = unwrap_or (option_map (λ x. is_node (role_of p x)) o) false

    abbrev down_by : Option ℕ → Bool
    down_by o = fold (down_after (unwrap_or o 0)) false (flat_map (λ (p : Phase). p.directives) ps ++ xs)

    by_node : (g : Bool → Bool) (a : ℕ) (o : Option ℕ) → IsFoundOr a o → first_of_tests ((not (node_by plan o), Unknown) ∷ (g (down_by o), AgainstState) ∷ []) ≡ first_of_tests ((not (is_node (role_of plan a)), Unknown) ∷ (g (is_down ps xs a), AgainstState) ∷ [])
    by_node g a o (inl e) = ap (λ o. first_of_tests ((not (node_by plan o), Unknown) ∷ (g (down_by o), AgainstState) ∷ [])) e
    by_node g a o (inr n) =
        ap (λ o. first_of_tests ((not (node_by plan o), Unknown) ∷ (g (down_by o), AgainstState) ∷ [])) n.0
        ∙ sym (ap (λ r. first_of_tests ((not (is_node r), Unknown) ∷ (g (is_down ps xs a), AgainstState) ∷ [])) n.1)

    node_tested : (g : Bool → Bool) (a : ℕ) →
        first_of_tests ((not (names_node d (actor_name plan a)), Unknown) ∷ (g (down_by (actor_named d (actor_name plan a))), AgainstState) ∷ []) ≡ first_of_tests ((not (is_node (role_of plan a)), Unknown) ∷ (g (is_down ps xs a), AgainstState) ∷ [])
    node_tested g a =
        let o = actor_named d (actor_name plan a) in
        ap (λ p. first_of_tests ((not (node_by p o), Unknown) ∷ (g (down_by o), AgainstState) ∷ [])) same_plan ∙ by_node g a o (named_at a)

    node_found : (a : ℕ) → not (is_node (role_of plan a)) ≡ false → actor_named d (actor_name plan a) ≡ Some a
    node_found a h = found_actor a (λ r. not-both (is_node (role_of plan a)) (not-false (is_node (role_of plan a)) h) (ap is_node r))

    -- ---- a directive

    pub directive_tested : (x : Directive) → first_of_tests (tests_said d (directive_statement plan x)) ≡ first_of_tests (against_directive plan ps xs x)
    directive_tested (Emit s t) = send_tested s
    directive_tested (Release s t) = send_tested s
    directive_tested (Cut a b) = link_tested a b
    directive_tested (Heal a b) = link_tested a b
    directive_tested (Lose a b) = link_tested a b
    directive_tested (Repeat a b) = link_tested a b
    directive_tested (Crash a) = node_tested (λ b. b) a
    directive_tested (Restart a) = node_tested not a

    first_test : (b : Bool) (r : Reason) (rest : List (Bool × Reason)) → first_of_tests ((b, r) ∷ rest) ≡ None → b ≡ false
    first_test true r rest h = absurd cc
    first_test false r rest h = refl

    pub directive_said : (x : Directive) → first_of_tests (against_directive plan ps xs x) ≡ None → and_then d (directive_statement plan x) ≡ running plan ps (xs ++ x ∷ [])
    directive_said (Emit s t) h = ap (λ o. running plan ps (xs ++ Emit (unwrap_or o 0) t ∷ [])) (source_found s (first_test _ Unknown [] h))
    directive_said (Release s t) h = ap (λ o. running plan ps (xs ++ Release (unwrap_or o 0) t ∷ [])) (source_found s (first_test _ Unknown [] h))
    directive_said (Cut a b) h = link_said Cut a b (first_test _ Unknown [] h)
    directive_said (Heal a b) h = link_said Heal a b (first_test _ Unknown [] h)
    directive_said (Lose a b) h = link_said Lose a b (first_test _ Unknown [] h)
    directive_said (Repeat a b) h = link_said Repeat a b (first_test _ Unknown [] h)
    directive_said (Crash a) h = ap (λ o. running plan ps (xs ++ Crash (unwrap_or o 0) ∷ [])) (node_found a (first_test _ Unknown ((is_down ps xs a, AgainstState) ∷ []) h))
    directive_said (Restart a) h = ap (λ o. running plan ps (xs ++ Restart (unwrap_or o 0) ∷ [])) (node_found a (first_test _ Unknown ((not (is_down ps xs a), AgainstState) ∷ []) h))

-- ---- directives and phases that pass are said

module _ (plan : Plan) (good : IsGood plan) where
  abbrev said_of : Directive → Statement
  said_of = directive_statement plan

  directives_said : (ps : List Phase) (xs ys : List Directive) → Passes (running plan ps xs) (map said_of ys) → all_said (running plan ps xs) (map said_of ys) ≡ running plan ps (xs ++ ys)
  directives_said ps xs [] p = ap (running plan ps) (sym (append-nil xs))
  directives_said ps xs (y ∷ ys) p =
      let one = directive_said plan good ps xs y (sym (directive_tested plan good ps xs y) ∙ fine_tests (running plan ps xs) (said_of y) p.0) in
      ap (λ d. all_said d (map said_of ys)) one ∙ directives_said ps (xs ++ y ∷ []) ys (subst (λ d. Passes d (map said_of ys)) one p.1) ∙ ap (running plan ps) (append_assoc xs (y ∷ []) ys)

  phase_said : (ps : List Phase) (q : Phase) → Passes (running plan ps []) (phase_statements plan q) → all_said (running plan ps []) (phase_statements plan q) ≡ running plan (ps ++ q ∷ []) []
  phase_said ps q p =
      let here = map said_of q.directives in
      let tick = TickLine q.now ∷ [] in
      said-append (running plan ps []) here tick ∙ ap (λ d. and_then d (TickLine q.now)) (directives_said ps [] q.directives (passes_first (running plan ps []) here tick p))

  phases_said : (ps qs : List Phase) → Passes (running plan ps []) (flat_map (phase_statements plan) qs) → all_said (running plan ps []) (flat_map (phase_statements plan) qs) ≡ running plan (ps ++ qs) []
  phases_said ps [] p = ap (λ l. running plan l []) (sym (append-nil ps))
  phases_said ps (q ∷ qs) p =
      let d = running plan ps [] in
      let here = phase_statements plan q in
      let rest = flat_map (phase_statements plan) qs in
      let one = phase_said ps q (passes_first d here rest p) in
      said-append d here rest ∙ ap (λ e. all_said e rest) one ∙ phases_said (ps ++ q ∷ []) qs (subst (λ e. Passes e rest) one (passes_then d here rest p)) ∙ ap (λ l. running plan l []) (append_assoc ps (q ∷ []) qs)

-- ---- loops

pub record AreDirectivesTo (plan : Plan) (ps : List Phase) (line : ℕ) (xs : List Directive) (i next : ℕ) : Type 0 where
  pub judged : (n : ℕ) → line ≡ told n → IsChecked (bare plan) → Judges (Ok next) n (running plan ps []) (map (directive_statement plan) (take i xs))

pub directives_begin : (plan : Plan) (ps : List Phase) (line : ℕ) (xs : List Directive) → AreDirectivesTo plan ps line xs 0 line
directives_begin plan ps line xs = record { judged = λ n at c. judges_none line n (running plan ps []) at }

tested_at : (plan : Plan) (ps : List Phase) (xs : List Directive) (n i : ℕ) (x : Directive) → IsChecked (bare plan) → check_from n (running plan ps []) (map (directive_statement plan) (take i xs)) ≡ None →
    first_of_tests (tests_said (all_said (running plan ps []) (map (directive_statement plan) (take i xs))) (directive_statement plan x)) ≡ first_of_tests (against_directive plan ps (take i xs) x)
tested_at plan ps xs n i x c none =
    let g = directive_statement plan in
    let good = is_good plan c in
    ap (λ d. first_of_tests (tests_said d (g x))) (directives_said plan good ps [] (take i xs) (passes n (running plan ps []) (map g (take i xs)) none)) ∙ directive_tested plan good ps (take i xs) x

itself : (xs : List Directive) (i : ℕ) (x d : Directive) → i < length xs → x ≡ get_or xs i d → x ≡ get_or xs i x
itself [] i x d low is = absurd (omega (arith, low))
itself (y ∷ xs) zero x d low is = is
itself (y ∷ xs) (suc i) x d low is = itself xs i x d (omega (arith, low)) is

pub directives_go_on : (plan : Plan) (ps : List Phase) (line : ℕ) (xs : List Directive) (i next more : ℕ) (x e : Directive) → i < length xs → x ≡ get_or xs i e → first_of_tests (against_directive plan ps (take i xs) x) ≡ None →
    more ≡ told (next + 1) → AreDirectivesTo plan ps line xs i next → AreDirectivesTo plan ps line xs (i + 1) more
directives_go_on plan ps line xs i next more x e low is none step h =
    let g = directive_statement plan in
    let d = running plan ps [] in
    let done = map g (take i xs) in
    record {
      judged = λ n at c.
          let so_far = h.judged n at c in
          let one = judges_one next more (n + length done) (all_said d done) (g x) so_far.0 step (tested_at plan ps xs n i x c so_far.1 ∙ none) in
          subst (Judges (Ok more) n d) (sym (map-more g i x xs low (itself xs i x e low is))) (judges_then (Ok more) next n d done (g x ∷ []) so_far one);
    }

pub directives_fail : (plan : Plan) (ps : List Phase) (line : ℕ) (xs : List Directive) (i next : ℕ) (r : Reason) (x e : Directive) → i < length xs → x ≡ get_or xs i e → first_of_tests (against_directive plan ps (take i xs) x) ≡ Some r →
    AreDirectivesTo plan ps line xs i next → (n : ℕ) → line ≡ told n → IsChecked (bare plan) → Judges (Err (record { line = next; reason = r })) n (running plan ps []) (map (directive_statement plan) xs)
directives_fail plan ps line xs i next r x e low is some h n at c =
    let g = directive_statement plan in
    let d = running plan ps [] in
    let done = map g (take i xs) in
    let rest = map g (drop (i + 1) xs) in
    let so_far = h.judged n at c in
    let one = judges_fault next r (n + length done) (all_said d done) (g x) rest so_far.0 (tested_at plan ps xs n i x c so_far.1 ∙ some) in
    subst (Judges (Err (record { line = next; reason = r })) n d) (sym (map-parted g i x xs low (itself xs i x e low is))) (judges_then (Err (record { line = next; reason = r })) next n d done (g x ∷ rest) so_far one)

pub directives_end : (plan : Plan) (ps : List Phase) (line : ℕ) (xs : List Directive) (i next : ℕ) → length xs ≤ i → AreDirectivesTo plan ps line xs i next → (n : ℕ) → line ≡ told n → IsChecked (bare plan) →
    Judges (Ok next) n (running plan ps []) (map (directive_statement plan) xs)
directives_end plan ps line xs i next far h n at c = subst (λ l. Judges (Ok next) n (running plan ps []) (map (directive_statement plan) l)) (take_all i xs far) (h.judged n at c)

-- ---- a phase, from what was judged of its directives

abbrev pub DirectivesJudge : Plan → List Phase → List Directive → ℕ → Result ℕ PlanFault → Type 0
DirectivesJudge plan ps xs line r = (n : ℕ) → line ≡ told n → IsChecked (bare plan) → Judges r n (running plan ps []) (map (directive_statement plan) xs)

tick_at : (plan : Plan) (ps : List Phase) (q : Phase) (n : ℕ) → IsChecked (bare plan) → check_from n (running plan ps []) (map (directive_statement plan) q.directives) ≡ None →
    first_of_tests (tests_said (all_said (running plan ps []) (map (directive_statement plan) q.directives)) (TickLine q.now)) ≡ first_of_tests (against_tick ps q.now)
tick_at plan ps q n c none =
    let g = directive_statement plan in
    ap (λ d. first_of_tests (tests_said d (TickLine q.now))) (directives_said plan (is_good plan c) ps [] q.directives (passes n (running plan ps []) (map g q.directives) none))

pub phase_judged : (plan : Plan) (ps : List Phase) (q : Phase) (line next more : ℕ) → first_of_tests (against_tick ps q.now) ≡ None → more ≡ told (next + 1) → DirectivesJudge plan ps q.directives line (Ok next) →
    (n : ℕ) → line ≡ told n → IsChecked (bare plan) → Judges (Ok more) n (running plan ps []) (phase_statements plan q)
phase_judged plan ps q line next more none step judges n at c =
    let done = map (directive_statement plan) q.directives in
    let d = running plan ps [] in
    let so_far = judges n at c in
    judges_then (Ok more) next n d done (TickLine q.now ∷ []) so_far (judges_one next more (n + length done) (all_said d done) (TickLine q.now) so_far.0 step (tick_at plan ps q n c so_far.1 ∙ none))

pub phase_ticks_wrong : (plan : Plan) (ps : List Phase) (q : Phase) (line next : ℕ) (r : Reason) → first_of_tests (against_tick ps q.now) ≡ Some r → DirectivesJudge plan ps q.directives line (Ok next) →
    (n : ℕ) → line ≡ told n → IsChecked (bare plan) → Judges (Err (record { line = next; reason = r })) n (running plan ps []) (phase_statements plan q)
phase_ticks_wrong plan ps q line next r some judges n at c =
    let done = map (directive_statement plan) q.directives in
    let d = running plan ps [] in
    let so_far = judges n at c in
    judges_then (Err (record { line = next; reason = r })) next n d done (TickLine q.now ∷ []) so_far (judges_fault next r (n + length done) (all_said d done) (TickLine q.now) [] so_far.0 (tick_at plan ps q n c so_far.1 ∙ some))

pub phase_fails : (plan : Plan) (ps : List Phase) (q : Phase) (line : ℕ) (f : PlanFault) → DirectivesJudge plan ps q.directives line (Err f) →
    (n : ℕ) → line ≡ told n → IsChecked (bare plan) → Judges (Err f) n (running plan ps []) (phase_statements plan q)
phase_fails plan ps q line f judges n at c = judges_stop f n (running plan ps []) (map (directive_statement plan) q.directives) (TickLine q.now ∷ []) (judges n at c)

-- ---- all phases

pub record ArePhasesTo (plan : Plan) (line : ℕ) (qs : List Phase) (i next : ℕ) : Type 0 where
  pub judged : (n : ℕ) → line ≡ told n → IsChecked (bare plan) → Judges (Ok next) n (running plan [] []) (flat_map (phase_statements plan) (take i qs))

abbrev pub PhaseJudges : Plan → List Phase → Phase → ℕ → Result ℕ PlanFault → Type 0
PhaseJudges plan ps q line r = (n : ℕ) → line ≡ told n → IsChecked (bare plan) → Judges r n (running plan ps []) (phase_statements plan q)

pub phases_begin : (plan : Plan) (line : ℕ) (qs : List Phase) → ArePhasesTo plan line qs 0 line
phases_begin plan line qs = record { judged = λ n at c. judges_none line n (running plan [] []) at }

one_phase : (plan : Plan) (line : ℕ) (qs : List Phase) (i next : ℕ) (q : Phase) (r : Result ℕ PlanFault) → ArePhasesTo plan line qs i next → PhaseJudges plan (take i qs) q next r →
    (n : ℕ) → line ≡ told n → IsChecked (bare plan) → Judges r n (running plan [] []) (flat_map (phase_statements plan) (take i qs) ++ phase_statements plan q)
one_phase plan line qs i next q r h judges n at c =
    let g = phase_statements plan in
    let done = flat_map g (take i qs) in
    let d = running plan [] [] in
    let so_far = h.judged n at c in
    let said = phases_said plan (is_good plan c) [] (take i qs) (passes n d done so_far.1) in
    judges_then r next n d done (g q) so_far (subst (λ e. Judges r (n + length done) e (g q)) (sym said) (judges (n + length done) so_far.0 c))

pub phases_go_on : (plan : Plan) (line : ℕ) (qs : List Phase) (i next more : ℕ) (q : Phase) → i < length qs → q ≡ get_or qs i q → ArePhasesTo plan line qs i next → PhaseJudges plan (take i qs) q next (Ok more) →
    ArePhasesTo plan line qs (i + 1) more
phases_go_on plan line qs i next more q low is h judges =
    record { judged = λ n at c. subst (Judges (Ok more) n (running plan [] [])) (sym (flat-more (phase_statements plan) i q qs low is)) (one_phase plan line qs i next q (Ok more) h judges n at c) }

pub phases_fail : (plan : Plan) (line : ℕ) (qs : List Phase) (i next : ℕ) (f : PlanFault) (q : Phase) → i < length qs → q ≡ get_or qs i q → ArePhasesTo plan line qs i next → PhaseJudges plan (take i qs) q next (Err f) →
    (n : ℕ) → line ≡ told n → IsChecked (bare plan) → Judges (Err f) n (running plan [] []) (flat_map (phase_statements plan) qs)
phases_fail plan line qs i next f q low is h judges n at c =
    let g = phase_statements plan in
    let d = running plan [] [] in
    let done = flat_map g (take i qs) in
    let rest = flat_map g (drop (i + 1) qs) in
    subst (Judges (Err f) n d) (append_assoc done (g q) rest ∙ sym (flat-parted g i q qs low is)) (judges_stop f n d (done ++ g q) rest (one_phase plan line qs i next q (Err f) h judges n at c))

pub phases_end : (plan : Plan) (line : ℕ) (qs : List Phase) (i next : ℕ) → length qs ≤ i → ArePhasesTo plan line qs i next → (n : ℕ) → line ≡ told n → IsChecked (bare plan) →
    Judges (Ok next) n (running plan [] []) (flat_map (phase_statements plan) qs)
phases_end plan line qs i next far h n at c = subst (λ l. Judges (Ok next) n (running plan [] []) (flat_map (phase_statements plan) l)) (take_all i qs far) (h.judged n at c)
