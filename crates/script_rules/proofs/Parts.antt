-- What a script says, part by part.
use Rattle.std.proofs.Common.{◌≡◌, Bool, List, [], ◌∷◌, ◌++◌, map, refl, ap, ◌∙◌}
use Rattle.std.specs.Prelude.{flat_map, if◌then◌else◌}
use Rattle.std.proofs.lemmas.List.{append_assoc}
use Rattle.std.proofs.lemmas.Grind.{flat_map-append}
use Rattle.dpc_model.specs.declared.plans.Plan.{Plan}
use Rattle.dpc_model.specs.declared.scripts.Script.{Script}
use Rattle.script_rules.specs.Statements.{Statement, BeginLine, SettleLine}
use Rattle.script_rules.specs.Checking.{header_statements, source_statements, frag_statements, client_statement, phase_statements, statements_of}

abbrev pub said_of_sources : Plan → List Statement
said_of_sources plan = flat_map source_statements plan.sources

abbrev pub said_of_frags : Plan → List Statement
said_of_frags plan = flat_map (frag_statements plan) plan.frags

abbrev pub said_of_clients : Plan → List Statement
said_of_clients plan = map (client_statement plan) plan.clients

abbrev pub said_of_phases : Script → List Statement
said_of_phases s = flat_map (phase_statements s.plan) s.phases

abbrev pub said_at_last : Bool → List Statement
said_at_last settle = if settle then SettleLine ∷ [] else []

abbrev pub said_from_begin : Script → List Statement
said_from_begin s = BeginLine ∷ (said_of_phases s ++ said_at_last s.settle)

pub parts : (s : Script) → statements_of s ≡ header_statements s.plan ++ (said_of_sources s.plan ++ (said_of_frags s.plan ++ (said_of_clients s.plan ++ said_from_begin s)))
parts s =
    let header = header_statements s.plan in
    let sources = said_of_sources s.plan in
    let frags = said_of_frags s.plan in
    let clients = said_of_clients s.plan in
    append_assoc (((header ++ sources) ++ frags) ++ clients) (BeginLine ∷ said_of_phases s) (said_at_last s.settle)
    ∙ append_assoc ((header ++ sources) ++ frags) clients (said_from_begin s) ∙ append_assoc (header ++ sources) frags (clients ++ said_from_begin s)
    ∙ append_assoc header sources (frags ++ (clients ++ said_from_begin s))

-- ---- what is picked of each statement

pub flat_map-flat : {X Y Z : Type 0} (g : Y → List Z) (f : X → List Y) (xs : List X) → flat_map g (flat_map f xs) ≡ flat_map (λ x. flat_map g (f x)) xs
flat_map-flat g f [] = refl
flat_map-flat g f (x ∷ xs) = flat_map-append g (f x) (flat_map f xs) ∙ ap (λ l. flat_map g (f x) ++ l) (flat_map-flat g f xs)

pub flat_map-none : {X Z : Type 0} (f : X → List Z) (xs : List X) → ((x : X) → f x ≡ []) → flat_map f xs ≡ []
flat_map-none f [] h = refl
flat_map-none f (x ∷ xs) h = rw (h x, flat_map-none f xs h) refl

pub flat_map-quiet : {X Y Z : Type 0} (g : Y → List Z) (f : X → Y) (xs : List X) → ((x : X) → g (f x) ≡ []) → flat_map g (map f xs) ≡ []
flat_map-quiet g f [] h = refl
flat_map-quiet g f (x ∷ xs) h = rw (h x, flat_map-quiet g f xs h) refl

pub flat_map-one : {X Z : Type 0} (f : X → List Z) (g : X → Z) (xs : List X) → ((x : X) → f x ≡ g x ∷ []) → flat_map f xs ≡ map g xs
flat_map-one f g [] h = refl
flat_map-one f g (x ∷ xs) h = rw (h x, flat_map-one f g xs h) refl
