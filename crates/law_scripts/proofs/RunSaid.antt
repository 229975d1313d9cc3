-- How directives, ticks and `settle` add to what is said so far.
use Rattle.std.proofs.Common.{◌≡◌, ℕ, true, false, List, [], ◌∷◌, ◌++◌, map, Option, Some, None, refl, sym, ap, subst, ◌∙◌}
use Rattle.std.specs.Prelude.{flat_map, is_none, unwrap_or}
use Rattle.std.proofs.lemmas.List.{append_assoc}
use Rattle.dpc_lists.specs.Lists.{nth}
use Rattle.dpc_model.specs.Words.{Word}
use Rattle.dpc_model.specs.Actors.{roles_of, role_of}
use Rattle.dpc_model.specs.declared.actors.Role.TheVariants.{Nobody}
use Rattle.dpc_model.specs.ScriptText.{source_name, role_name, actor_name}
use Rattle.dpc_model.specs.declared.plans.Plan.{Plan}
use Rattle.dpc_model.specs.declared.scripts.Directive.{Directive}
use Rattle.dpc_model.specs.declared.scripts.Directive.TheVariants.{Crash, Restart}
use Rattle.script_rules.specs.Statements.{Statement, BeginLine, SendLine, LinkLine, NodeLine, TickLine, SettleLine}
use Rattle.script_rules.specs.Drafts.{Draft, plan_of, source_names, frag_names, source_named, actor_named, with_directive}
use Rattle.script_rules.specs.Reasons.{is_node}
use Rattle.script_rules.specs.Checking.{source_statements, phase_statements, directive_statement}
use Rattle.script_rules.proofs.Found.{IsPlaceOf, place_is}
use Rattle.script_rules.proofs.Roles.{nth-map}
use Rattle.script_rules.proofs.Passing.{IsFine}
use Rattle.script_rules.proofs.SaysItself.{is_known, both_known}
use Rattle.law_scripts.proofs.SaidSoFar.{frag_said, client_said, heads, said_then, Grows, flat-push, map-push}

-- behind `begin`, and not settled
pub record IsRunning (d : Draft) : Type 0 where
  pub begun : d.begun ≡ true
  pub settle : d.settle ≡ false

abbrev ran : Draft → Draft
ran d = record d { begun = true; settle = false }

as_ran : (d : Draft) → IsRunning d → d ≡ ran d
as_ran d r = ap (λ b. record d { begun = b }) r.begun ∙ ap (λ b. record d { begun = true; settle = b }) r.settle

-- what grows in a script that runs, does so in this one
pub in_running : (d : Draft) (s : Statement) → IsRunning d → Grows (ran d) s → Grows d s
in_running d s r g = subst (λ e. Grows e s) (sym (as_ran d r)) g

-- what stands before the phases
abbrev before_phases : Draft → List Statement → List Statement
before_phases d rest =
    heads 0 d.header ++ (flat_map source_statements d.sources ++ (flat_map (frag_said (source_names d) (frag_names d)) d.frags ++ (map (client_said (source_names d) (frag_names d)) d.clients ++ (BeginLine ∷ rest))))

-- ---- names

lost_name : (w : Word) (ws : List Word) (o : Option ℕ) → is_none o ≡ false → IsPlaceOf w ws o → nth [] ws (unwrap_or o 0) ≡ w
lost_name w ws None known h = absurd cc
lost_name w ws (Some i) known h = h.1

source_again : (d : Draft) (w : Word) → is_none (source_named d w) ≡ false → source_name (plan_of d) (unwrap_or (source_named d w) 0) ≡ w
source_again d w known = lost_name w (source_names d) (source_named d w) known (place_is w (source_names d))

actor_again : (d : Draft) (w : Word) → is_none (actor_named d w) ≡ false → actor_name (plan_of d) (unwrap_or (actor_named d w) 0) ≡ w
actor_again d w known =
    let plan : Plan = plan_of d in
    let ws : List Word = map (role_name plan) (roles_of plan) in
    sym (nth-map (role_name plan) Nobody (roles_of plan) (unwrap_or (actor_named d w) 0) refl) ∙ lost_name w ws (actor_named d w) known (place_is w ws)

-- ---- directives

directive_grows : (d : Draft) (x : Directive) (s : Statement) (rest : List Statement) → directive_statement (plan_of d) x ≡ s → said_then (with_directive (ran d) x) rest ≡ said_then (ran d) (s ∷ rest)
directive_grows d x s rest same =
    ap (λ l. before_phases d (flat_map (phase_statements (plan_of d)) d.phases ++ l))
    (map-push (directive_statement (plan_of d)) d.directives x rest ∙ ap (λ y. map (directive_statement (plan_of d)) d.directives ++ (y ∷ rest)) same)

-- that a directive of a source is said by its line
abbrev pub SaysSend : (ℕ → ℕ → Directive) → Type 0
SaysSend make = (plan : Plan) (s t : ℕ) → directive_statement plan (make s t) ≡ SendLine make (source_name plan s) t

abbrev pub SaysLink : (ℕ → ℕ → Directive) → Type 0
SaysLink make = (plan : Plan) (a b : ℕ) → directive_statement plan (make a b) ≡ LinkLine make (actor_name plan a) (actor_name plan b)

pub send_grows : (d : Draft) (make : ℕ → ℕ → Directive) (source : Word) (time : ℕ) → SaysSend make → IsFine d (SendLine make source time) → Grows (ran d) (SendLine make source time)
send_grows d make source time says fine rest =
    directive_grows d (make (unwrap_or (source_named d source) 0) time) (SendLine make source time) rest
    (says (plan_of d) (unwrap_or (source_named d source) 0) time ∙ ap (λ w. SendLine make w time) (source_again d source fine.known))

pub link_grows : (d : Draft) (make : ℕ → ℕ → Directive) (a b : Word) → SaysLink make → IsFine d (LinkLine make a b) → Grows (ran d) (LinkLine make a b)
link_grows d make a b says fine rest =
    let known = both_known (plan_of d) (actor_named d a) (actor_named d b) fine.known in
    directive_grows d (make (unwrap_or (actor_named d a) 0) (unwrap_or (actor_named d b) 0)) (LinkLine make a b) rest
    (says (plan_of d) (unwrap_or (actor_named d a) 0) (unwrap_or (actor_named d b) 0) ∙ ap (λ w. LinkLine make w (actor_name (plan_of d) (unwrap_or (actor_named d b) 0))) (actor_again d a known.0)
    ∙ ap (LinkLine make a) (actor_again d b known.1))

pub crash_grows : (d : Draft) (node : Word) → IsFine d (NodeLine true node) → Grows (ran d) (NodeLine true node)
crash_grows d node fine rest =
    let known = is_known (actor_named d node) (λ x. is_node (role_of (plan_of d) x)) fine.known in
    directive_grows d (Crash (unwrap_or (actor_named d node) 0)) (NodeLine true node) rest (ap (NodeLine true) (actor_again d node known))

pub restart_grows : (d : Draft) (node : Word) → IsFine d (NodeLine false node) → Grows (ran d) (NodeLine false node)
restart_grows d node fine rest =
    let known = is_known (actor_named d node) (λ x. is_node (role_of (plan_of d) x)) fine.known in
    directive_grows d (Restart (unwrap_or (actor_named d node) 0)) (NodeLine false node) rest (ap (NodeLine false) (actor_again d node known))

-- ---- phases

pub tick_grows : (d : Draft) (now : ℕ) → Grows (ran d) (TickLine now)
tick_grows d now rest =
    let said : List Statement = map (directive_statement (plan_of d)) d.directives in
    ap (before_phases d)
    (flat-push (phase_statements (plan_of d)) d.phases (record { directives = d.directives; now = now }) rest ∙ ap (λ l. flat_map (phase_statements (plan_of d)) d.phases ++ l) (append_assoc said (TickLine now ∷ []) rest))

pub settle_grows : (d : Draft) → Grows (ran d) SettleLine
settle_grows d rest = refl
