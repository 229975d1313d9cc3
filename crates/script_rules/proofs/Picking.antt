-- The names that statements take, by sort: of sources, fragments, operators and clients.
use Rattle.std.proofs.Common.{◌≡◌, ℕ, Bool, true, false, List, [], ◌∷◌, ◌++◌, map, Option, Some, None, refl, ap, ◌∙◌}
use Rattle.std.specs.Prelude.{if◌then◌else◌, flat_map}
use Rattle.std.proofs.lemmas.List.{append-nil}
use Rattle.std.proofs.lemmas.Grind.{flat_map-append}
use Rattle.dpc_model.specs.Words.{Word}
use Rattle.dpc_model.specs.declared.operators.OpSpec.{OpSpec}
use Rattle.dpc_model.specs.declared.plans.FragSpec.{FragSpec}
use Rattle.dpc_model.specs.declared.plans.ClientSpec.{ClientSpec}
use Rattle.dpc_model.specs.declared.plans.Plan.{Plan}
use Rattle.dpc_model.specs.declared.scripts.Directive.{Directive}
use Rattle.dpc_model.specs.declared.scripts.Directive.TheVariants.{Emit, Release, Cut, Heal, Lose, Repeat, Crash, Restart}
use Rattle.dpc_model.specs.declared.scripts.Phase.{Phase}
use Rattle.dpc_model.specs.declared.scripts.Script.{Script}
use Rattle.script_rules.specs.Statements.{Statement, SourceLine, FragmentLine, OperatorLine, ClientLine, TickLine}
use Rattle.script_rules.specs.Checking.{patience_statements, operator_statement, frag_statements, client_statement, directive_statement, phase_statements}
use Rattle.script_rules.proofs.Parts.{said_of_frags, said_of_clients, said_of_phases, said_at_last, said_from_begin, flat_map-flat, flat_map-none, flat_map-quiet}

-- a name where it is wanted
abbrev pub only : Bool → Word → List Word
only wanted w = if wanted then w ∷ [] else []

-- the name that a statement takes, where its sort is wanted
abbrev pub pick : (sources frags operators clients : Bool) → Statement → List Word
pick a b c e (SourceLine name columns) = only a name
pick a b c e (FragmentLine name replicas streams) = only b name
pick a b c e (OperatorLine name inputs kind) = only c name
pick a b c e (ClientLine name stream) = only e name
pick a b c e _ = []

flat_map-map : {X Y Z : Type 0} (g : Y → List Z) (f : X → Y) (xs : List X) → flat_map g (map f xs) ≡ flat_map (λ x. g (f x)) xs
flat_map-map g f [] = refl
flat_map-map g f (x ∷ xs) = ap (λ l. g (f x) ++ l) (flat_map-map g f xs)

pub flat_map-same : {X Z : Type 0} (f g : X → List Z) (xs : List X) → ((x : X) → f x ≡ g x) → flat_map f xs ≡ flat_map g xs
flat_map-same f g [] h = refl
flat_map-same f g (x ∷ xs) h = rw (h x, flat_map-same f g xs h) refl

module _ (a b c e : Bool) where
  of_patience : (o : Option ℕ) → flat_map (pick a b c e) (patience_statements o) ≡ []
  of_patience None = refl
  of_patience (Some delay) = refl

  pub of_frag : (plan : Plan) (f : FragSpec) → flat_map (pick a b c e) (frag_statements plan f) ≡ only b f.name ++ flat_map (λ (op : OpSpec). only c op.name) f.ops
  of_frag plan f =
      ap (λ l. only b f.name ++ l)
      (flat_map-append (pick a b c e) (patience_statements f.delay) (map (operator_statement plan f) f.ops)
      ∙ ap (λ l. l ++ flat_map (pick a b c e) (map (operator_statement plan f) f.ops)) (of_patience f.delay)
      ∙ flat_map-map (pick a b c e) (operator_statement plan f) f.ops)

  of_directive : (plan : Plan) (x : Directive) → pick a b c e (directive_statement plan x) ≡ []
  of_directive plan (Emit s t) = refl
  of_directive plan (Release s t) = refl
  of_directive plan (Cut x y) = refl
  of_directive plan (Heal x y) = refl
  of_directive plan (Lose x y) = refl
  of_directive plan (Repeat x y) = refl
  of_directive plan (Crash x) = refl
  of_directive plan (Restart x) = refl

  of_phase : (plan : Plan) (p : Phase) → flat_map (pick a b c e) (phase_statements plan p) ≡ []
  of_phase plan p =
      flat_map-append (pick a b c e) (map (directive_statement plan) p.directives) (TickLine p.now ∷ [])
      ∙ ap (λ l. l ++ []) (flat_map-quiet (pick a b c e) (directive_statement plan) p.directives (of_directive plan))

  at_last : (settle : Bool) → flat_map (pick a b c e) (said_at_last settle) ≡ []
  at_last true = refl
  at_last false = refl

  pub from_begin : (s : Script) → flat_map (pick a b c e) (said_from_begin s) ≡ []
  from_begin s =
      flat_map-append (pick a b c e) (said_of_phases s) (said_at_last s.settle)
      ∙ rw (flat_map-flat (pick a b c e) (phase_statements s.plan) s.phases, flat_map-none (λ p. flat_map (pick a b c e) (phase_statements s.plan p)) s.phases (of_phase s.plan), at_last s.settle) refl

  -- the names that are taken from the clients on, and from the fragments on
  pub picked_of_clients : (s : Script) → flat_map (pick a b c e) (said_of_clients s.plan ++ said_from_begin s) ≡ flat_map (λ (x : ClientSpec). only e x.name) s.plan.clients
  picked_of_clients s =
      let clients : flat_map (pick a b c e) (said_of_clients s.plan) ≡ flat_map (λ (x : ClientSpec). only e x.name) s.plan.clients = flat_map-map (pick a b c e) (client_statement s.plan) s.plan.clients in
      flat_map-append (pick a b c e) (said_of_clients s.plan) (said_from_begin s) ∙ rw (clients, from_begin s) (append-nil (flat_map (λ (x : ClientSpec). only e x.name) s.plan.clients))

  pub picked : (s : Script) → flat_map (pick a b c e) (said_of_frags s.plan ++ (said_of_clients s.plan ++ said_from_begin s))
      ≡ flat_map (λ (f : FragSpec). only b f.name ++ flat_map (λ (op : OpSpec). only c op.name) f.ops) s.plan.frags ++ flat_map (λ (x : ClientSpec). only e x.name) s.plan.clients
  picked s =
      let frags : flat_map (pick a b c e) (said_of_frags s.plan) ≡ flat_map (λ (f : FragSpec). only b f.name ++ flat_map (λ (op : OpSpec). only c op.name) f.ops) s.plan.frags =
      flat_map-flat (pick a b c e) (frag_statements s.plan) s.plan.frags ∙ flat_map-same _ _ s.plan.frags (of_frag s.plan) in
      flat_map-append (pick a b c e) (said_of_frags s.plan) (said_of_clients s.plan ++ said_from_begin s) ∙ rw (frags, picked_of_clients s) refl
