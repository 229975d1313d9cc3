-- All names of a checked script differ, and none of its parts is missing.
use Rattle.std.proofs.Common.{◌≡◌, ℕ, true, false, List, [], ◌∷◌, ◌++◌, map, refl, sym, ap, subst, ◌∙◌}
use Rattle.std.specs.Prelude.{◌||◌, flat_map}
use Rattle.std.proofs.lemmas.Bool.{or_parts}
use Rattle.std.proofs.lemmas.List.{append-nil, append_assoc}
use Rattle.dpc_lists.specs.Lists.{is_nil, list_any}
use Rattle.dpc_model.specs.Words.{Word}
use Rattle.dpc_model.specs.ScriptText.{stream_name}
use Rattle.dpc_model.specs.declared.operators.OpSpec.{OpSpec}
use Rattle.dpc_model.specs.declared.plans.SourceSpec.{SourceSpec}
use Rattle.dpc_model.specs.declared.plans.FragSpec.{FragSpec}
use Rattle.dpc_model.specs.declared.plans.ClientSpec.{ClientSpec}
use Rattle.dpc_model.specs.declared.plans.Plan.{Plan}
use Rattle.dpc_model.specs.declared.scripts.Script.{Script}
use Rattle.dpc_lists.proofs.Elements.{nil-map}
use Rattle.script_rules.specs.Statements.{Statement, FragmentLine}
use Rattle.script_rules.specs.Drafts.{Draft, nothing_yet, and_then, names, source_names, frag_names, op_names}
use Rattle.script_rules.specs.Reasons.{has_twice}
use Rattle.script_rules.specs.Checking.{header_statements, patience_statements, operator_statement, frag_statements, statements_of, IsChecked}
use Rattle.script_rules.specs.Facts.{names_of}
use Rattle.script_rules.proofs.Called.{named_sources, client_names, operator_names}
use Rattle.script_rules.proofs.Apart.{four}
use Rattle.script_rules.proofs.Passing.{Passes, passes_then, all_said, said-append, checked_passes}
use Rattle.script_rules.proofs.Parts.{said_of_sources, said_of_frags, said_of_clients, said_from_begin, parts, flat_map-none, flat_map-one}
use Rattle.script_rules.proofs.Headers.{declared, header_of, header_said}
use Rattle.script_rules.proofs.AllSources.{SourcesFit}
use Rattle.script_rules.proofs.Naming.{all_apart}
use Rattle.script_rules.proofs.Picking.{only, pick, from_begin, flat_map-same, picked, picked_of_clients}
use Rattle.script_rules.proofs.Added.{all_sources_added, all_frags_added, all_clients_added, all_operators_added}

-- what is said behind the sources
abbrev pub said_from_frags : Script → List Statement
said_from_frags s = said_of_frags s.plan ++ (said_of_clients s.plan ++ said_from_begin s)

-- what stands once the sources are said, and what stands in the end
abbrev pub with_sources : Script → Draft
with_sources s = declared (header_of s.plan) s.plan.sources [] []

abbrev pub in_the_end : Script → Draft
in_the_end s = all_said (with_sources s) (said_from_frags s)

pub end_is : (s : Script) → SourcesFit (header_of s.plan) [] s.plan.sources → all_said nothing_yet (statements_of s) ≡ in_the_end s
end_is s sources =
    let header : List Statement = header_statements s.plan in
    let behind : List Statement = said_of_sources s.plan ++ said_from_frags s in
    ap (all_said nothing_yet) (parts s) ∙ said-append nothing_yet header behind ∙ ap (λ d. all_said d behind) (header_said s.plan)
    ∙ said-append (declared (header_of s.plan) [] [] []) (said_of_sources s.plan) (said_from_frags s) ∙ ap (λ d. all_said d (said_from_frags s)) sources.said

-- no name of this sort
no_names : (fs : List FragSpec) → flat_map (λ (f : FragSpec). flat_map (λ (op : OpSpec). only false op.name) f.ops) fs ≡ []
no_names fs = flat_map-none _ fs (λ f. flat_map-none _ f.ops (λ op. refl))

no_clients : (cs : List ClientSpec) → flat_map (λ (c : ClientSpec). only false c.name) cs ≡ []
no_clients cs = flat_map-none _ cs (λ c. refl)

abbrev named_frags : Plan → List Word
named_frags plan = map (λ (f : FragSpec). f.name) plan.frags

abbrev pub named_clients : Plan → List Word
named_clients plan = map (λ (c : ClientSpec). c.name) plan.clients

pub sources_at_last : (s : Script) → source_names (in_the_end s) ≡ named_sources s.plan
sources_at_last s =
    all_sources_added (with_sources s) (said_from_frags s)
    ∙ ap (λ l. named_sources s.plan ++ l) (picked true false false false s ∙ rw (no_names s.plan.frags, no_clients s.plan.clients) refl)
    ∙ append-nil (named_sources s.plan)

pub frags_at_last : (s : Script) → frag_names (in_the_end s) ≡ named_frags s.plan
frags_at_last s =
    let frags : flat_map (λ (f : FragSpec). only true f.name ++ flat_map (λ (op : OpSpec). only false op.name) f.ops) s.plan.frags ≡ named_frags s.plan =
    flat_map-one _ (λ (f : FragSpec). f.name) s.plan.frags (λ f. ap (λ l. f.name ∷ l) (flat_map-none _ f.ops (λ op. refl))) in
    all_frags_added (with_sources s) (said_from_frags s) ∙ picked false true false false s ∙ rw (frags, no_clients s.plan.clients) (append-nil (named_frags s.plan))

pub clients_at_last : (s : Script) → client_names (in_the_end s) ≡ named_clients s.plan
clients_at_last s =
    let clients : flat_map (λ (c : ClientSpec). only true c.name) s.plan.clients ≡ named_clients s.plan = flat_map-one _ (λ (c : ClientSpec). c.name) s.plan.clients (λ c. refl) in
    all_clients_added (with_sources s) (said_from_frags s) ∙ picked false false false true s ∙ rw (no_names s.plan.frags, clients) refl

-- ---- operators

unnamed : (fs : List FragSpec) → map (λ (f : FragSpec). f.name) fs ≡ [] → flat_map op_names fs ≡ []
unnamed [] e = refl
unnamed (f ∷ fs) e = absurd cc

picked_operators : (plan : Plan) (h : List ℕ) (sources : List SourceSpec) (fs : List FragSpec) (behind : List Statement) → flat_map (pick false false true false) behind ≡ [] →
    frag_names (all_said (declared h sources [] []) (flat_map (frag_statements plan) fs ++ behind)) ≡ map (λ (f : FragSpec). f.name) fs →
    operator_names (all_said (declared h sources [] []) (flat_map (frag_statements plan) fs ++ behind)) ≡ flat_map (pick false false true false) (flat_map (frag_statements plan) fs ++ behind)
picked_operators plan h sources [] behind none frags = unnamed (all_said (declared h sources [] []) behind).frags frags ∙ sym none
picked_operators plan h sources (f ∷ fs) behind none frags =
    all_operators_added (and_then (declared h sources [] []) (FragmentLine f.name f.replicas (map (stream_name plan) f.inputs)))
    (((patience_statements f.delay ++ map (operator_statement plan f) f.ops) ++ flat_map (frag_statements plan) fs) ++ behind) refl

pub operators_at_last : (s : Script) → operator_names (in_the_end s) ≡ flat_map op_names s.plan.frags
operators_at_last s =
    let none : flat_map (pick false false true false) (said_of_clients s.plan ++ said_from_begin s) ≡ [] = picked_of_clients false false true false s ∙ no_clients s.plan.clients in
    let operators : flat_map (λ (f : FragSpec). flat_map (λ (op : OpSpec). only true op.name) f.ops) s.plan.frags ≡ flat_map op_names s.plan.frags =
    flat_map-same _ op_names s.plan.frags (λ f. flat_map-one _ (λ (op : OpSpec). op.name) f.ops (λ op. refl)) in
    picked_operators s.plan (header_of s.plan) s.plan.sources s.plan.frags (said_of_clients s.plan ++ said_from_begin s) none (frags_at_last s)
    ∙ picked false false true false s ∙ rw (operators, no_clients s.plan.clients) (append-nil (flat_map op_names s.plan.frags))

-- all names of a checked script differ
pub names_differ : (s : Script) → IsChecked s → SourcesFit (header_of s.plan) [] s.plan.sources → has_twice (names_of s.plan) ≡ false
names_differ s c sources =
    let last : has_twice (names (in_the_end s)) ≡ false =
    ap (λ d. has_twice (names d)) (sym (end_is s sources)) ∙ all_apart nothing_yet (statements_of s) (checked_passes s c) refl in
    ap (λ l. has_twice (four l (named_frags s.plan) (flat_map op_names s.plan.frags) (named_clients s.plan))) (sym (sources_at_last s))
    ∙ ap (λ l. has_twice (four (source_names (in_the_end s)) l (flat_map op_names s.plan.frags) (named_clients s.plan))) (sym (frags_at_last s))
    ∙ ap (λ l. has_twice (four (source_names (in_the_end s)) (frag_names (in_the_end s)) l (named_clients s.plan))) (sym (operators_at_last s))
    ∙ ap (λ l. has_twice (four (source_names (in_the_end s)) (frag_names (in_the_end s)) (operator_names (in_the_end s)) l)) (sym (clients_at_last s)) ∙ last

-- ---- parts that are there

abbrev at_begin : Script → Draft
at_begin s = all_said (with_sources s) (said_of_frags s.plan ++ said_of_clients s.plan)

end_from_begin : (s : Script) → in_the_end s ≡ all_said (at_begin s) (said_from_begin s)
end_from_begin s =
    let same : said_from_frags s ≡ (said_of_frags s.plan ++ said_of_clients s.plan) ++ said_from_begin s = sym (append_assoc (said_of_frags s.plan) (said_of_clients s.plan) (said_from_begin s)) in
    ap (all_said (with_sources s)) same ∙ said-append (with_sources s) (said_of_frags s.plan ++ said_of_clients s.plan) (said_from_begin s)

-- a part that is there at `begin`
same_nil : {X Y : Type 0} (f : X → Word) (g : Y → Word) (xs : List X) (ys : List Y) → map f xs ≡ map g ys → is_nil xs ≡ false → is_nil ys ≡ false
same_nil f g xs ys same h = sym (nil-map g ys) ∙ ap is_nil (sym same) ∙ nil-map f xs ∙ h

pub record PartsAreThere (s : Script) : Type 0 where
  pub source : is_nil s.plan.sources ≡ false
  pub frag : is_nil s.plan.frags ≡ false
  pub client : is_nil s.plan.clients ≡ false

pub parts_are_there : (s : Script) → IsChecked s → SourcesFit (header_of s.plan) [] s.plan.sources → PartsAreThere s
parts_are_there s c sources =
    let header : List Statement = header_statements s.plan in
    let first : Passes nothing_yet (header ++ (said_of_sources s.plan ++ said_from_frags s)) = subst (Passes nothing_yet) (parts s) (checked_passes s c) in
    let second : Passes (declared (header_of s.plan) [] [] []) (said_of_sources s.plan ++ said_from_frags s) =
    subst (λ d. Passes d (said_of_sources s.plan ++ said_from_frags s)) (header_said s.plan) (passes_then nothing_yet header (said_of_sources s.plan ++ said_from_frags s) first) in
    let third : Passes (with_sources s) (said_from_frags s) = subst (λ d. Passes d (said_from_frags s)) sources.said (passes_then (declared (header_of s.plan) [] [] []) (said_of_sources s.plan) (said_from_frags s) second) in
    let same : said_from_frags s ≡ (said_of_frags s.plan ++ said_of_clients s.plan) ++ said_from_begin s = sym (append_assoc (said_of_frags s.plan) (said_of_clients s.plan) (said_from_begin s)) in
    let last : Passes (at_begin s) (said_from_begin s) = passes_then (with_sources s) (said_of_frags s.plan ++ said_of_clients s.plan) (said_from_begin s) (subst (Passes (with_sources s)) same third) in
    let d = at_begin s in
    let tests = or_parts (is_nil d.sources || is_nil d.frags || is_nil d.clients) (list_any (λ (f : FragSpec). is_nil f.ops) d.frags) last.0.parts in
    let three = or_parts (is_nil d.sources || is_nil d.frags) (is_nil d.clients) tests.0 in
    let two = or_parts (is_nil d.sources) (is_nil d.frags) three.0 in
    let end = end_from_begin s in
    let no_source = from_begin true false false false s in
    let no_frag = from_begin false true false false s in
    let no_client = from_begin false false false true s in
    let sources_same : source_names d ≡ named_sources s.plan =
    sym (append-nil (source_names d)) ∙ ap (λ l. source_names d ++ l) (sym no_source) ∙ sym (all_sources_added d (said_from_begin s)) ∙ ap source_names (sym end) ∙ sources_at_last s in
    let frags_same : frag_names d ≡ named_frags s.plan =
    sym (append-nil (frag_names d)) ∙ ap (λ l. frag_names d ++ l) (sym no_frag) ∙ sym (all_frags_added d (said_from_begin s)) ∙ ap frag_names (sym end) ∙ frags_at_last s in
    let clients_same : client_names d ≡ named_clients s.plan =
    sym (append-nil (client_names d)) ∙ ap (λ l. client_names d ++ l) (sym no_client) ∙ sym (all_clients_added d (said_from_begin s)) ∙ ap client_names (sym end) ∙ clients_at_last s in
    record {
      source = same_nil _ _ d.sources s.plan.sources sources_same two.0;
      frag = same_nil _ _ d.frags s.plan.frags frags_same two.1;
      client = same_nil _ _ d.clients s.plan.clients clients_same three.1;
    }
