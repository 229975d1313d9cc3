-- A checked script says what it is, and has all that engines rely on.
use Rattle.std.proofs.Common.{◌≡◌, ℕ, Bool, true, false, List, [], ◌∷◌, ◌++◌, map, length, Option, Some, None, refl, sym, ap, subst, ◌∙◌, arith}
use Rattle.std.specs.Prelude.{not, ◌||◌, nat_lt, flat_map, is_none, unwrap_or, option_map}
use Rattle.std.proofs.lemmas.Bool.{or_parts, lt-ltb}
use Rattle.std.proofs.lemmas.List.{append-nil, append_assoc, length-map}
use Rattle.std.proofs.lemmas.List.Folds.{list_all-append}
use Rattle.dpc_lists.specs.Lists.{list_all, list_any, is_nil}
use Rattle.dpc_model.specs.Actors.{roles_of, role_of, are_linked}
use Rattle.dpc_model.specs.ScriptText.{source_name, role_name, actor_name}
use Rattle.dpc_model.specs.declared.plans.SourceSpec.{SourceSpec}
use Rattle.dpc_model.specs.declared.plans.FragSpec.{FragSpec}
use Rattle.dpc_model.specs.declared.plans.Plan.{Plan}
use Rattle.dpc_model.specs.declared.scripts.Directive.{Directive}
use Rattle.dpc_model.specs.declared.scripts.Directive.TheVariants.{Emit, Release, Cut, Heal, Lose, Repeat, Crash, Restart}
use Rattle.dpc_model.specs.declared.scripts.Phase.{Phase}
use Rattle.dpc_model.specs.declared.scripts.Script.{Script}
use Rattle.script_rules.specs.Statements.{Statement, SendLine, LinkLine, NodeLine, TickLine}
use Rattle.script_rules.specs.Drafts.{Draft, nothing_yet, and_then, plan_of, script_of, op_names, actor_named, place_of_name}
use Rattle.script_rules.specs.Reasons.{is_node}
use Rattle.script_rules.specs.Checking.{IsChecked, header_statements, directive_statement, phase_statements, statements_of}
use Rattle.script_rules.specs.Facts.{directive_fits, HasForm}
use Rattle.script_rules.specs.Laws.{CheckedHasFacts}
use Rattle.script_rules.proofs.Called.{named_sources, named}
use Rattle.script_rules.proofs.Apart.{twice-first}
use Rattle.script_rules.proofs.Names.{twice-without, nobody_among, source_names_in_range, frag_names_in_range, client_names_in_range}
use Rattle.script_rules.proofs.Passing.{IsFine, Passes, passes_first, passes_then, all_said, said-append}
use Rattle.script_rules.proofs.Parts.{said_of_sources, said_of_frags, said_of_clients, said_of_phases, said_at_last, said_from_begin, parts}
use Rattle.script_rules.proofs.Ranges.{ranges, header_ranges, HasRanges, HasHeaderRanges}
use Rattle.script_rules.proofs.Headers.{declared, header_of, header_said, plan_said}
use Rattle.script_rules.proofs.Inputs.{EachReads, frags_read}
use Rattle.script_rules.proofs.Found.{place_is}
use Rattle.script_rules.proofs.Formed.{SendsTo, ActsOnLink}
use Rattle.script_rules.proofs.Fitted.{place_low, link_found, node_found}
use Rattle.script_rules.proofs.Roles.{HasActorNames, actor_back, source_back}
use Rattle.script_rules.proofs.Said.{HasNames, frags_said, clients_said}
use Rattle.script_rules.proofs.AllSources.{SourcesFit, sources_fit}
use Rattle.script_rules.proofs.Distinct.{with_sources, names_differ, named_clients}
use Rattle.script_rules.proofs.Sound.{stream_names}
use Rattle.script_rules.proofs.Forms.{passes_parts, checked_has_form}
use Rattle.script_rules.proofs.Fitting.{FragsFit, columns_of, all_columns, all_fit}
use Rattle.script_rules.proofs.ReadForms.{frags_fit}

-- ---- directives

-- a script under way, in its phases
abbrev running : Plan → List Phase → List Directive → Draft
running plan ps xs = record (declared (header_of plan) plan.sources plan.frags plan.clients) { begun = true; phases = ps; directives = xs }

-- what a statement makes of it, and that the directive fits
record DirectiveSaid (plan : Plan) (ps : List Phase) (xs : List Directive) (s : Statement) (x : Directive) : Type 0 where
  said : and_then (running plan ps xs) s ≡ running plan ps (xs ++ x ∷ [])
  fits : directive_fits plan x ≡ true

pub is_known : (o : Option ℕ) (g : ℕ → Bool) → not (unwrap_or (option_map g o) false) ≡ false → is_none o ≡ false
is_known None g h = absurd cc
is_known (Some x) g h = refl

pub both_known : (plan : Plan) (a b : Option ℕ) → not (unwrap_or (option_map (λ x. unwrap_or (option_map (λ y. are_linked plan x y) b) false) a) false) ≡ false → (is_none a ≡ false) × (is_none b ≡ false)
both_known plan None b h = absurd cc
both_known plan (Some x) None h = absurd cc
both_known plan (Some x) (Some y) h = (refl, refl)

module _ (plan : Plan) (ranges : HasHeaderRanges plan) (names : HasActorNames plan) (ps : List Phase) (xs : List Directive) where
  same_plan : plan_of (running plan ps xs) ≡ plan
  same_plan = plan_said plan plan.sources plan.frags plan.clients ranges

  -- an actor's name is found
  found_actor : (a : ℕ) → is_none (actor_named (running plan ps xs) (actor_name plan a)) ≡ false → actor_named (running plan ps xs) (actor_name plan a) ≡ Some a
  found_actor a known =
      let same = ap (λ (p : Plan). place_of_name (actor_name plan a) (map (role_name p) (roles_of p))) same_plan in
      same ∙ actor_back plan a names (ap is_none (sym same) ∙ known)

  send_said : (make : ℕ → ℕ → Directive) (s t : ℕ) → SendsTo make → IsFine (running plan ps xs) (SendLine make (source_name plan s) t) → DirectiveSaid plan ps xs (SendLine make (source_name plan s) t) (make s t)
  send_said make s t sends fine =
      let back = source_back plan s names fine.known in
      let low = place_low (source_name plan s) (named_sources plan) (place_of_name (source_name plan s) (named_sources plan)) (place_is (source_name plan s) (named_sources plan)) fine.known in
      let many : length (named_sources plan) ≡ length plan.sources = length-map plan.sources (λ (x : SourceSpec). x.name) in
      let here : nat_lt s (length plan.sources) ≡ true =
      ap (nat_lt s) (sym many) ∙ ap (λ o. nat_lt (unwrap_or o 0) (length (named_sources plan))) (sym back) ∙ lt-ltb _ (length (named_sources plan)) low in
      record { said = ap (λ o. running plan ps (xs ++ make (unwrap_or o 0) t ∷ [])) back; fits = sends plan s t ∙ here }

  link_said : (make : ℕ → ℕ → Directive) (a b : ℕ) → ActsOnLink make → IsFine (running plan ps xs) (LinkLine make (actor_name plan a) (actor_name plan b)) →
      DirectiveSaid plan ps xs (LinkLine make (actor_name plan a) (actor_name plan b)) (make a b)
  link_said make a b acts fine =
      let d = running plan ps xs in
      let known = both_known (plan_of d) (actor_named d (actor_name plan a)) (actor_named d (actor_name plan b)) fine.known in
      let first = found_actor a known.0 in
      let second = found_actor b known.1 in
      let linked = link_found (plan_of d) (actor_named d (actor_name plan a)) (actor_named d (actor_name plan b)) fine.known in
      let here : are_linked plan a b ≡ true =
      ap (λ (p : Plan). are_linked p a b) (sym same_plan) ∙ ap (λ o. are_linked (plan_of d) (unwrap_or o 0) b) (sym first) ∙ ap (λ o. are_linked (plan_of d) (unwrap_or (actor_named d (actor_name plan a)) 0) (unwrap_or o 0)) (sym second) ∙ linked in
      record {
        said =
            ap (λ o. running plan ps (xs ++ make (unwrap_or o 0) (unwrap_or (actor_named d (actor_name plan b)) 0) ∷ [])) first
            ∙ ap (λ o. running plan ps (xs ++ make a (unwrap_or o 0) ∷ [])) second;
        fits = acts plan a b ∙ here;
      }

  node_said : (crash : Bool) (make : ℕ → Directive) (a : ℕ) → ((o : ℕ) → and_then (running plan ps xs) (NodeLine crash (actor_name plan a)) ≡ running plan ps (xs ++ make (unwrap_or (actor_named (running plan ps xs) (actor_name plan a)) 0) ∷ [])) →
      ((p : Plan) (x : ℕ) → directive_fits p (make x) ≡ is_node (role_of p x)) → IsFine (running plan ps xs) (NodeLine crash (actor_name plan a)) → DirectiveSaid plan ps xs (NodeLine crash (actor_name plan a)) (make a)
  node_said crash make a says acts fine =
      let d = running plan ps xs in
      let back = found_actor a (is_known (actor_named d (actor_name plan a)) (λ x. is_node (role_of (plan_of d) x)) fine.known) in
      let node = node_found (plan_of d) (actor_named d (actor_name plan a)) fine.known in
      let here : is_node (role_of plan a) ≡ true = ap (λ (p : Plan). is_node (role_of p a)) (sym same_plan) ∙ ap (λ o. is_node (role_of (plan_of d) (unwrap_or o 0))) (sym back) ∙ node in
      record { said = says 0 ∙ ap (λ o. running plan ps (xs ++ make (unwrap_or o 0) ∷ [])) back; fits = acts plan a ∙ here }

  directive_said : (x : Directive) → IsFine (running plan ps xs) (directive_statement plan x) → DirectiveSaid plan ps xs (directive_statement plan x) x
  directive_said (Emit s t) fine = send_said Emit s t (λ p s t. refl) fine
  directive_said (Release s t) fine = send_said Release s t (λ p s t. refl) fine
  directive_said (Cut a b) fine = link_said Cut a b (λ p a b. refl) fine
  directive_said (Heal a b) fine = link_said Heal a b (λ p a b. refl) fine
  directive_said (Lose a b) fine = link_said Lose a b (λ p a b. refl) fine
  directive_said (Repeat a b) fine = link_said Repeat a b (λ p a b. refl) fine
  directive_said (Crash a) fine = node_said true Crash a (λ o. refl) (λ p x. refl) fine
  directive_said (Restart a) fine = node_said false Restart a (λ o. refl) (λ p x. refl) fine

record DirectivesSaid (plan : Plan) (ps : List Phase) (xs ys : List Directive) : Type 0 where
  said : all_said (running plan ps xs) (map (directive_statement plan) ys) ≡ running plan ps (xs ++ ys)
  fits : list_all (directive_fits plan) ys ≡ true

directives_said : (plan : Plan) → HasHeaderRanges plan → HasActorNames plan → (ps : List Phase) (xs ys : List Directive) → Passes (running plan ps xs) (map (directive_statement plan) ys) → DirectivesSaid plan ps xs ys
directives_said plan r names ps xs [] p = record { said = ap (running plan ps) (sym (append-nil xs)); fits = refl }
directives_said plan r names ps xs (y ∷ ys) p =
    let one = directive_said plan r names ps xs y p.0 in
    let more = directives_said plan r names ps (xs ++ y ∷ []) ys (subst (λ d. Passes d (map (directive_statement plan) ys)) one.said p.1) in
    record {
      said = ap (λ d. all_said d (map (directive_statement plan) ys)) one.said ∙ more.said ∙ ap (running plan ps) (append_assoc xs (y ∷ []) ys);
      fits = rw (one.fits, more.fits) refl;
    }

record PhasesSaid (plan : Plan) (ps qs : List Phase) : Type 0 where
  said : all_said (running plan ps []) (flat_map (phase_statements plan) qs) ≡ running plan (ps ++ qs) []
  fits : list_all (directive_fits plan) (flat_map (λ (p : Phase). p.directives) qs) ≡ true

phases_said : (plan : Plan) → HasHeaderRanges plan → HasActorNames plan → (ps qs : List Phase) → Passes (running plan ps []) (flat_map (phase_statements plan) qs) → PhasesSaid plan ps qs
phases_said plan r names ps [] p = record { said = ap (λ l. running plan l []) (sym (append-nil ps)); fits = refl }
phases_said plan r names ps (q ∷ qs) p =
    let d = running plan ps [] in
    let here = map (directive_statement plan) q.directives in
    let rest = flat_map (phase_statements plan) qs in
    let passes_phase = passes_first d (phase_statements plan q) rest p in
    let one = directives_said plan r names ps [] q.directives (passes_first d here (TickLine q.now ∷ []) passes_phase) in
    let whole : all_said d (phase_statements plan q) ≡ running plan (ps ++ q ∷ []) [] = said-append d here (TickLine q.now ∷ []) ∙ ap (λ e. and_then e (TickLine q.now)) one.said in
    let more = phases_said plan r names (ps ++ q ∷ []) qs (subst (λ e. Passes e rest) whole (passes_then d (phase_statements plan q) rest p)) in
    record {
      said = said-append d (phase_statements plan q) rest ∙ ap (λ e. all_said e rest) whole ∙ more.said ∙ ap (λ l. running plan l []) (append_assoc ps (q ∷ []) qs);
      fits = list_all-append (directive_fits plan) q.directives (flat_map (λ (x : Phase). x.directives) qs) ∙ rw (one.fits, more.fits) refl;
    }

-- ---- all parts of it

-- what is known of a checked script, its plan being said
record IsSaid (s : Script) : Type 0 where
  reads : EachReads (length s.plan.sources) 0 s.plan.frags
  fit : FragsFit (columns_of s.plan.sources) [] s.plan.frags
  some_op : list_any (λ (f : FragSpec). is_nil f.ops) s.plan.frags ≡ false
  directives : list_all (directive_fits s.plan) (flat_map (λ (p : Phase). p.directives) s.phases) ≡ true
  said : all_said nothing_yet (statements_of s) ≡ record (running s.plan s.phases []) { settle = s.settle }

has_names : (s : Script) → IsChecked s → HasRanges s → (sources : SourcesFit (header_of s.plan) [] s.plan.sources) → EachReads (length s.plan.sources) 0 s.plan.frags → HasNames s.plan
has_names s c r sources reads =
    let frags = frag_names_in_range s.plan s.plan.frags r.frags in
    record {
      apart = twice-first ((named_sources s.plan ++ named s.plan.frags) ++ flat_map op_names s.plan.frags) (named_clients s.plan) (names_differ s c sources);
      no_source = nobody_among (named_sources s.plan) (source_names_in_range s.plan.sources r.sources);
      no_frag = nobody_among (named s.plan.frags) frags.0;
      no_op = nobody_among (flat_map op_names s.plan.frags) frags.1;
      reads = reads;
    }

has_actor_names : (s : Script) → HasRanges s → HasForm s → HasActorNames s.plan
has_actor_names s r form =
    let streams = named_sources s.plan ++ named s.plan.frags in
    let ops = flat_map op_names s.plan.frags in
    record {
      apart = twice-without streams ops (named_clients s.plan) form.distinct;
      sources = source_names_in_range s.plan.sources r.sources;
      frags = (frag_names_in_range s.plan s.plan.frags r.frags).0;
      clients = client_names_in_range s.plan.clients r.clients;
      sizes = form.sizes;
    }

settled : (plan : Plan) (ps : List Phase) (settle : Bool) → all_said (running plan ps []) (said_at_last settle) ≡ record (running plan ps []) { settle = settle }
settled plan ps true = refl
settled plan ps false = refl

is_said : (s : Script) → IsChecked s → IsSaid s
is_said s c =
    let form = checked_has_form s c in
    let plan = s.plan in
    let h = header_of plan in
    let r = ranges s c.in_range in
    let header = header_ranges plan r.header in
    let p = passes_parts s c in
    let sources = sources_fit h [] plan.sources (subst (λ d. Passes d (said_of_sources plan)) (header_said plan) p.sources) (omega arith) in
    let stands : all_said (all_said nothing_yet (header_statements plan)) (said_of_sources plan) ≡ with_sources s = ap (λ d. all_said d (said_of_sources plan)) (header_said plan) ∙ sources.said in
    let passes_frags : Passes (with_sources s) (said_of_frags plan) = subst (λ d. Passes d (said_of_frags plan)) stands p.frags in
    let reads = frags_read plan (with_sources s) plan.frags (stream_names s c r sources) (record { sources = refl; frags = refl }) passes_frags 0 refl in
    let names = has_names s c r sources reads in
    let frags = frags_said h plan [] plan.frags names refl passes_frags tt in
    let clients = clients_said h plan [] plan.clients names form.clients in
    let declared_all : all_said (all_said (all_said (all_said nothing_yet (header_statements plan)) (said_of_sources plan)) (said_of_frags plan)) (said_of_clients plan) ≡ declared h plan.sources plan.frags plan.clients =
    ap (λ d. all_said (all_said d (said_of_frags plan)) (said_of_clients plan)) stands ∙ ap (λ d. all_said d (said_of_clients plan)) frags.said ∙ clients in
    let from_begin : Passes (declared h plan.sources plan.frags plan.clients) (said_from_begin s) = subst (λ d. Passes d (said_from_begin s)) declared_all p.from_begin in
    let tests = or_parts (is_nil plan.sources || is_nil plan.frags || is_nil plan.clients) (list_any (λ (f : FragSpec). is_nil f.ops) plan.frags) from_begin.0.parts in
    let phases = phases_said plan header (has_actor_names s r form) [] s.phases (passes_first (running plan [] []) (said_of_phases s) (said_at_last s.settle) from_begin.1) in
    let last = said_of_clients plan ++ said_from_begin s in
    record {
      reads = reads;
      fit = frags.fit;
      some_op = tests.1;
      directives = phases.fits;
      said =
          ap (all_said nothing_yet) (parts s) ∙ said-append nothing_yet (header_statements plan) (said_of_sources plan ++ (said_of_frags plan ++ last))
          ∙ said-append (all_said nothing_yet (header_statements plan)) (said_of_sources plan) (said_of_frags plan ++ last)
          ∙ said-append (all_said (all_said nothing_yet (header_statements plan)) (said_of_sources plan)) (said_of_frags plan) last
          ∙ said-append (all_said (all_said (all_said nothing_yet (header_statements plan)) (said_of_sources plan)) (said_of_frags plan)) (said_of_clients plan) (said_from_begin s)
          ∙ ap (λ d. all_said d (said_from_begin s)) declared_all ∙ said-append (running plan [] []) (said_of_phases s) (said_at_last s.settle)
          ∙ ap (λ d. all_said d (said_at_last s.settle)) phases.said ∙ settled plan s.phases s.settle;
    }

-- the script that its statements say is that script
pub says_itself : (s : Script) → IsChecked s → script_of (all_said nothing_yet (statements_of s)) ≡ s
says_itself s c =
    let plan = plan_said s.plan s.plan.sources s.plan.frags s.plan.clients (header_ranges s.plan (ranges s c.in_range).header) in
    ap script_of (is_said s c).said ∙ ap (λ p. record s { plan = p }) plan

pub checked_has_facts : CheckedHasFacts
checked_has_facts s c =
    let form = checked_has_form s c in
    let said = is_said s c in
    let ops = all_fit s.plan [] s.plan.frags (all_columns s.plan [] s.plan.frags) (length s.plan.sources) 0 refl said.reads said.fit in
    record { form = form; frags = frags_fit s.plan s.plan.frags said.some_op form.inputs ops; directives = said.directives }
