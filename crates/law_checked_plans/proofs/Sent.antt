-- Every stream that is there has a sender.
use Rattle.std.proofs.Common.{◌≡◌, ℕ, zero, suc, ◌+◌, ◌<◌, Bool, true, false, cond, List, [], ◌∷◌, ◌++◌, map, length, refl, ap, ◌∙◌, arith}
use Rattle.std.specs.Prelude.{◌||◌, nat_le}
use Rattle.std.specs.List.{filter, enumerate_from}
use Rattle.std.proofs.lemmas.Bool.{and_parts, ltb-true, lt-ltb, leb-true}
use Rattle.std.proofs.lemmas.List.{map-append}
use Rattle.std.proofs.lemmas.List.Folds.{list_any-append}
use Rattle.dpc_lists.specs.Lists.{list_any, list_all, range_with_len}
use Rattle.dpc_model.specs.Actors.{roles_of, nodes_from, nodes_of, sends_stream, senders_of}
use Rattle.dpc_model.specs.declared.actors.Role.{Role}
use Rattle.dpc_model.specs.declared.actors.Role.TheVariants.{Source as IsSource, Node as IsNode, Client as IsClient}
use Rattle.dpc_model.specs.declared.plans.FragSpec.{FragSpec}
use Rattle.dpc_model.specs.declared.plans.Plan.{Plan}
use Rattle.dpc_model.specs.declared.plans.StreamRef.{StreamRef}
use Rattle.dpc_model.specs.declared.plans.StreamRef.TheVariants.{Source, Frag}
use Rattle.dpc_model.proofs.Numbers.{get-mapped-range}
use Rattle.script_rules.specs.Places.{is_between}
use Rattle.script_rules.specs.Facts.{is_there, has_sizes}
use Rattle.law_safety.specs.Plans.{has_senders}
use Rattle.law_safety.proofs.Numbering.{any-at}
use Rattle.dpc_lists.proofs.Truths.{eq-test, or-true}

some_number : (test : Role → Bool) (k : ℕ) (roles : List Role) → list_any test roles ≡ true →
    0 < length (map (λ (x : ℕ × Role). x.0) (filter (λ (x : ℕ × Role). test x.1) (enumerate_from k roles)))
some_number test k [] h = absurd cc
some_number test k (role ∷ roles) h =
    let rest = filter (λ (x : ℕ × Role). test x.1) (enumerate_from (k + 1) roles) in
    (elim (test role) as (λ b. (b || list_any test roles) ≡ true → 0 < length (map (λ (x : ℕ × Role). x.0) (cond b ((k, role) ∷ rest) rest))) [
      | true ↦ λ e. omega arith
      | false ↦ λ e. some_number test (k + 1) roles e
    ]) h

-- a test that holds in a part of the roles holds of one of them
in_sources : (test : Role → Bool) (a b c : List Role) → list_any test a ≡ true → list_any test (a ++ b ++ c) ≡ true
in_sources test a b c h =
    list_any-append test (a ++ b) c ∙ ap (λ x. x || list_any test c) (list_any-append test a b ∙ ap (λ x. x || list_any test b) h)

in_nodes : (test : Role → Bool) (a b c : List Role) → list_any test b ≡ true → list_any test (a ++ b ++ c) ≡ true
in_nodes test a b c h =
    list_any-append test (a ++ b) c
    ∙ ap (λ x. x || list_any test c) (list_any-append test a b ∙ ap (λ x. list_any test a || x) h ∙ or-true (list_any test a))

-- the first replica of fragment f sends it
first_sends : (f k n : ℕ) → f ≡ k → 0 < n → list_any (sends_stream (Frag f)) (map (λ (x : ℕ × ℕ). IsNode x.0 x.1) (map (λ r. (k, r)) (range_with_len 0 n))) ≡ true
first_sends f k zero e l = absurd (omega (arith, l))
first_sends f k (suc n) e l = rw (eq-test f k e) refl

-- fragment f is number i of these, which are numbered from k on
node_sends : (f k i : ℕ) (fs : List FragSpec) → f ≡ k + i → i < length fs → list_all has_sizes fs ≡ true →
    list_any (sends_stream (Frag f)) (map (λ (x : ℕ × ℕ). IsNode x.0 x.1) (nodes_from k fs)) ≡ true
node_sends f k i [] e l h = absurd (omega (arith, l))
node_sends f k zero (frag ∷ fs) e l h =
    let test : Role → Bool = sends_stream (Frag f) in
    let role : ℕ × ℕ → Role = λ x. IsNode x.0 x.1 in
    let here : List (ℕ × ℕ) = map (λ r. (k, r)) (range_with_len 0 frag.replicas) in
    let rest : List (ℕ × ℕ) = nodes_from (k + 1) fs in
    let sizes = and_parts (is_between 1 4 frag.replicas) (is_between 1 8 (length frag.inputs)) (and_parts (has_sizes frag) (list_all has_sizes fs) h).0 in
    let some : 0 < frag.replicas = leb-true 1 frag.replicas (and_parts (nat_le 1 frag.replicas) (nat_le frag.replicas 4) sizes.0).0 in
    ap (list_any test) (map-append role here rest) ∙ list_any-append test (map role here) (map role rest)
    ∙ ap (λ b. b || list_any test (map role rest)) (first_sends f k frag.replicas (omega (arith, e)) some)
node_sends f k (suc i) (frag ∷ fs) e l h =
    let test : Role → Bool = sends_stream (Frag f) in
    let role : ℕ × ℕ → Role = λ x. IsNode x.0 x.1 in
    let here : List (ℕ × ℕ) = map (λ r. (k, r)) (range_with_len 0 frag.replicas) in
    let rest : List (ℕ × ℕ) = nodes_from (k + 1) fs in
    let among = node_sends f (k + 1) i fs (omega (arith, e)) (omega (arith, l)) (and_parts (has_sizes frag) (list_all has_sizes fs) h).1 in
    ap (list_any test) (map-append role here rest) ∙ list_any-append test (map role here) (map role rest)
    ∙ ap (λ b. list_any test (map role here) || b) among ∙ or-true (list_any test (map role here))

source_sends : (s n : ℕ) → s < n → list_any (sends_stream (Source s)) (map IsSource (range_with_len 0 n)) ≡ true
source_sends s n l = any-at (sends_stream (Source s)) (map IsSource (range_with_len 0 n)) s (IsSource (0 + s)) (get-mapped-range IsSource 0 n s l) (eq-test s (0 + s) (omega arith))

some_role : (plan : Plan) (s : StreamRef) → list_all has_sizes plan.frags ≡ true → is_there plan s ≡ true → list_any (sends_stream s) (roles_of plan) ≡ true
some_role plan (Source s) sizes h =
    in_sources (sends_stream (Source s)) (map IsSource (range_with_len 0 (length plan.sources))) (map (λ (n : ℕ × ℕ). IsNode n.0 n.1) (nodes_of plan))
    (map IsClient (range_with_len 0 (length plan.clients))) (source_sends s (length plan.sources) (ltb-true s (length plan.sources) h))
some_role plan (Frag f) sizes h =
    in_nodes (sends_stream (Frag f)) (map IsSource (range_with_len 0 (length plan.sources))) (map (λ (n : ℕ × ℕ). IsNode n.0 n.1) (nodes_of plan))
    (map IsClient (range_with_len 0 (length plan.clients))) (node_sends f 0 f plan.frags (omega arith) (ltb-true f (length plan.frags) h) sizes)

pub sent : (plan : Plan) (s : StreamRef) → list_all has_sizes plan.frags ≡ true → is_there plan s ≡ true → has_senders plan s ≡ true
sent plan s sizes h = lt-ltb 0 (length (senders_of plan s)) (some_number (sends_stream s) 0 (roles_of plan) (some_role plan s sizes h))

pub all_sent : (plan : Plan) (ss : List StreamRef) → list_all has_sizes plan.frags ≡ true → list_all (is_there plan) ss ≡ true → list_all (has_senders plan) ss ≡ true
all_sent plan [] sizes h = refl
all_sent plan (s ∷ ss) sizes h =
    let parts = and_parts (is_there plan s) (list_all (is_there plan) ss) h in
    rw (sent plan s sizes parts.0, all_sent plan ss sizes parts.1) refl
