-- The actors of a checked script have plain names, and each is found by its own.
use Rattle.std.proofs.Common.{◌≡◌, ℕ, true, false, map, length, Option, Some, None, refl, sym, ap, ◌∙◌, arith}
use Rattle.std.specs.Prelude.{◌||◌, ◌++◌, nat_lt, is_some, is_none, flat_map}
use Rattle.std.proofs.lemmas.Bool.{and_parts, ltb-true, ltb-false}
use Rattle.std.proofs.lemmas.List.{length-map}
use Rattle.dpc_lists.proofs.Elements.{nth-past}
use Rattle.dpc_model.specs.Actors.{roles_of, role_of}
use Rattle.dpc_model.specs.ScriptText.{role_name, actor_name}
use Rattle.dpc_model.specs.declared.actors.Role.TheVariants.{Nobody}
use Rattle.dpc_model.specs.declared.plans.Plan.{Plan}
use Rattle.dpc_model.specs.declared.scripts.Script.{Script}
use Rattle.script_rules.specs.Checking.{IsChecked}
use Rattle.script_rules.specs.Drafts.{place_of_name, op_names}
use Rattle.script_rules.specs.Laws.{is_actor}
use Rattle.script_rules.specs.Reasons.{is_among}
use Rattle.script_rules.specs.Spelling.{is_name, is_node_name}
use Rattle.script_rules.proofs.Called.{named_sources, named}
use Rattle.script_rules.proofs.Distinct.{named_clients}
use Rattle.script_rules.proofs.Forms.{checked_has_form}
use Rattle.script_rules.proofs.Names.{twice-without}
use Rattle.script_rules.proofs.Ranges.{ranges}
use Rattle.script_rules.proofs.Recalled.{nth-among}
use Rattle.script_rules.proofs.Roles.{HasActorNames, actor_back, nth-map}
use Rattle.law_scripts.proofs.Lines.{is_plain}
use Rattle.law_scripts.proofs.Referring.{good_names, actor_is_named}
use Rattle.script_draft.proofs.Names.{among-place}
use Rattle.script_words.specs.Options.{◌>>=◌, given}
use Rattle.journal_text.specs.Actors.{is_of, actor_named, actor_of}
use Rattle.journal_text.specs.declared.sorts.Sort.{Sort}
use Rattle.journal_text.specs.declared.sorts.Sort.TheVariants.{Source, Node, Any}

-- each actor is found by its name, which is a plain word
pub record HasClearNames (plan : Plan) : Type 0 where
  pub found : (a : ℕ) → is_actor plan a ≡ true → actor_named plan (actor_name plan a) ≡ Some a
  pub plain : (a : ℕ) → is_actor plan a ≡ true → is_plain (actor_name plan a) ≡ true

known : (plan : Plan) (a : ℕ) → is_actor plan a ≡ true → is_none (actor_named plan (actor_name plan a)) ≡ false
known plan a h =
    let ws = map (role_name plan) (roles_of plan) in
    let many : length ws ≡ length (roles_of plan) = length-map (roles_of plan) (role_name plan) in
    let low = ltb-true a (length (roles_of plan)) h in
    let there : is_some (place_of_name (actor_name plan a) ws) ≡ true =
    among-place (actor_name plan a) ws ∙ ap (λ v. is_among v ws) (sym (nth-map (role_name plan) Nobody (roles_of plan) a refl)) ∙ nth-among ws a (omega (arith, low, many)) in
    none (place_of_name (actor_name plan a) ws) there
  where
    none : (o : Option ℕ) → is_some o ≡ true → is_none o ≡ false
    none None e = absurd cc
    none (Some x) e = refl

pub clear_names : (s : Script) → IsChecked s → HasClearNames s.plan
clear_names s c =
    let r = ranges s c.in_range in
    let form = checked_has_form s c in
    let good = good_names s r in
    let streams = named_sources s.plan ++ named s.plan.frags in
    let names : HasActorNames s.plan = record {
      apart = twice-without streams (flat_map op_names s.plan.frags) (named_clients s.plan) form.distinct;
      sources = good.sources;
      frags = good.frags;
      clients = good.clients;
      sizes = good.sizes;
    } in
    record {
      found = λ a h. actor_back s.plan a names (known s.plan a h);
      plain = λ a h. (and_parts (is_plain (actor_name s.plan a)) (is_name (actor_name s.plan a) || is_node_name (actor_name s.plan a)) (actor_is_named s.plan a good h)).0;
    }

-- nobody is of no sort
nobody_of : (sort : Sort) → is_of sort Nobody ≡ false
nobody_of Source = refl
nobody_of Node = refl
nobody_of Any = refl

pub actor_of_sort : (plan : Plan) (sort : Sort) (a : ℕ) → is_of sort (role_of plan a) ≡ true → is_actor plan a ≡ true
actor_of_sort plan sort a h =
    (elim (nat_lt a (length (roles_of plan))) as (λ t. nat_lt a (length (roles_of plan)) ≡ t → t ≡ true) [
      | true ↦ λ e. refl
      | false ↦ λ e.
          let nobody : is_of sort (role_of plan a) ≡ false = ap (is_of sort) (nth-past Nobody (roles_of plan) a (ltb-false a (length (roles_of plan)) e)) ∙ nobody_of sort in
          sym nobody ∙ h
    ]) refl

-- an actor of a sort is found by its name
pub found_by_name : (plan : Plan) → HasClearNames plan → (sort : Sort) (a : ℕ) → is_of sort (role_of plan a) ≡ true → actor_of plan sort (actor_name plan a) ≡ Some a
found_by_name plan names sort a h =
    ap (λ (o : Option ℕ). o >>= (λ b. given (is_of sort (role_of plan b)) b)) (names.found a (actor_of_sort plan sort a h)) ∙ ap (λ t. given t a) h

pub plain_of_sort : (plan : Plan) → HasClearNames plan → (sort : Sort) (a : ℕ) → is_of sort (role_of plan a) ≡ true → is_plain (actor_name plan a) ≡ true
plain_of_sort plan names sort a h = names.plain a (actor_of_sort plan sort a h)
