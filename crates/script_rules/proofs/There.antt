-- What the fragments and the clients of a checked script read is there.
use Rattle.std.proofs.Common.{◌≡◌, ℕ, ◌+◌, ◌<◌, ◌≤◌, true, List, [], ◌∷◌, map, length, refl, sym, ap, subst, ◌∙◌, arith}
use Rattle.std.specs.Prelude.{flat_map}
use Rattle.std.proofs.lemmas.Bool.{and_parts, ltb-true, lt-ltb}
use Rattle.std.proofs.lemmas.List.{append-nil, length-map}
use Rattle.dpc_lists.specs.Lists.{list_all}
use Rattle.dpc_model.specs.declared.plans.SourceSpec.{SourceSpec}
use Rattle.dpc_model.specs.declared.plans.FragSpec.{FragSpec}
use Rattle.dpc_model.specs.declared.plans.ClientSpec.{ClientSpec}
use Rattle.dpc_model.specs.declared.plans.Plan.{Plan}
use Rattle.dpc_model.specs.declared.plans.StreamRef.{StreamRef}
use Rattle.dpc_model.specs.declared.plans.StreamRef.TheVariants.{Source, Frag}
use Rattle.script_rules.specs.Drafts.{Draft, and_then, source_names, frag_names}
use Rattle.script_rules.specs.Checking.{frag_statements, client_statement}
use Rattle.script_rules.specs.Facts.{is_there}
use Rattle.script_rules.proofs.Passing.{Passes, all_said, said-append}
use Rattle.script_rules.proofs.Streams.{is_within}
use Rattle.script_rules.proofs.Inputs.{HasStreamNames, KnowsStreams, EachReads, knows_one_more, one_within}

one_there : (plan : Plan) (n : ℕ) (s : StreamRef) → n ≤ length plan.frags → is_within (length plan.sources) n s ≡ true → is_there plan s ≡ true
one_there plan n (Source s) few h = h
one_there plan n (Frag f) few h = let low : f < n = ltb-true f n h in lt-ltb f (length plan.frags) (omega (arith, low, few))

inputs_there : (plan : Plan) (n : ℕ) (ss : List StreamRef) → n ≤ length plan.frags → list_all (is_within (length plan.sources) n) ss ≡ true → list_all (is_there plan) ss ≡ true
inputs_there plan n [] few h = refl
inputs_there plan n (s ∷ ss) few h =
    let p = and_parts (is_within (length plan.sources) n s) (list_all (is_within (length plan.sources) n) ss) h in
    rw (one_there plan n s few p.0, inputs_there plan n ss few p.1) refl

pub all_there : (plan : Plan) (n : ℕ) (fs : List FragSpec) → n + length fs ≤ length plan.frags → EachReads (length plan.sources) n fs → list_all (λ (f : FragSpec). list_all (is_there plan) f.inputs) fs ≡ true
all_there plan n [] few h = refl
all_there plan n (f ∷ fs) few h = rw (inputs_there plan n f.inputs (omega (arith, few)) h.0, all_there plan (n + 1) fs (omega (arith, few)) h.1) refl

pub knows_all : (plan : Plan) (d : Draft) (fs : List FragSpec) → KnowsStreams plan d fs → KnowsStreams plan (all_said d (flat_map (frag_statements plan) fs)) []
knows_all plan d [] k = k
knows_all plan d (f ∷ fs) k =
    subst (λ e. KnowsStreams plan e []) (sym (said-append d (frag_statements plan f) (flat_map (frag_statements plan) fs)))
    (knows_all plan (all_said d (frag_statements plan f)) fs (knows_one_more plan d f fs k))

pub clients_there : (plan : Plan) (d : Draft) (cs : List ClientSpec) → HasStreamNames plan → KnowsStreams plan d [] → Passes d (map (client_statement plan) cs) → list_all (λ (c : ClientSpec). is_there plan c.input) cs ≡ true
clients_there plan d [] names k p = refl
clients_there plan d (c ∷ cs) names k p =
    let many : length (source_names d) ≡ length plan.sources = ap length (sym k.sources) ∙ length-map plan.sources (λ (s : SourceSpec). s.name) in
    let all : length (frag_names d) ≡ length plan.frags = ap length (sym (k.frags ∙ append-nil (frag_names d))) ∙ length-map plan.frags (λ (f : FragSpec). f.name) in
    let within : is_within (length plan.sources) (length (frag_names d)) c.input ≡ true = subst (λ m. is_within m (length (frag_names d)) c.input ≡ true) many (one_within plan d [] c.input names k p.0.stream) in
    let knows : KnowsStreams plan (and_then d (client_statement plan c)) [] = record { sources = k.sources; frags = k.frags } in
    rw (one_there plan (length (frag_names d)) c.input (omega (arith, all)) within, clients_there plan (and_then d (client_statement plan c)) cs names knows p.1) refl
