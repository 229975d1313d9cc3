-- What operators read and what directives name is there, in every script under way.
use Rattle.std.proofs.Common.{◌≡◌, ℕ, ◌<◌, Bool, true, false, List, [], ◌∷◌, ◌++◌, length, Option, Some, None, refl, sym, ap, subst, ◌∙◌}
use Rattle.std.specs.Prelude.{not, ◌||◌, nat_lt, is_none, unwrap_or, option_map, flat_map}
use Rattle.std.proofs.lemmas.Bool.{or_parts, not-false, lt-ltb}
use Rattle.std.proofs.lemmas.List.{append-nil, append_assoc, length-map}
use Rattle.std.proofs.lemmas.Grind.{flat_map-append}
use Rattle.dpc_lists.specs.Lists.{list_all, list_any, is_nil}
use Rattle.dpc_model.specs.Words.{Word}
use Rattle.dpc_model.specs.Actors.{role_of, are_linked}
use Rattle.dpc_model.specs.declared.operators.OpKind.{OpKind}
use Rattle.dpc_model.specs.declared.plans.SourceSpec.{SourceSpec}
use Rattle.dpc_model.specs.declared.plans.FragSpec.{FragSpec}
use Rattle.dpc_model.specs.declared.plans.Plan.{Plan}
use Rattle.dpc_model.specs.declared.scripts.Directive.{Directive}
use Rattle.dpc_model.specs.declared.scripts.Phase.{Phase}
use Rattle.dpc_lists.proofs.Truths.{not-both}
use Rattle.script_rules.specs.Statements.{Statement, HeaderLine, SourceLine, LogLine, FragmentLine, PatienceLine, OperatorLine, ClientLine, BeginLine, SendLine, LinkLine, NodeLine, TickLine, SettleLine}
use Rattle.script_rules.specs.Drafts.{Draft, and_then, plan_of, source_names, source_named, actor_named}
use Rattle.script_rules.specs.Reasons.{is_node, all_directives}
use Rattle.script_rules.specs.Facts.{directive_fits}
use Rattle.script_rules.proofs.Passing.{IsFine}
use Rattle.script_rules.proofs.Inputs.{EachReads}
use Rattle.script_rules.proofs.Growing.{all-push}
use Rattle.script_rules.proofs.Found.{IsPlaceOf, place_is}
use Rattle.script_rules.proofs.Fitting.{FragsFit, columns_of, fits-join, fits-delay, operator_fits}
use Rattle.script_rules.proofs.Formed.{IsPlaced, IsInParts, IsFormed, is_declaring, formed}

-- ---- operators

no_frags_fit : (sources : List ℕ) (fs : List FragSpec) → is_nil fs ≡ true → FragsFit sources [] fs
no_frags_fit sources [] none = tt
no_frags_fit sources (f ∷ fs) none = absurd cc

-- fragments, the last one apart
record HasLast (fs : List FragSpec) : Type 0 where
  done : List FragSpec
  last : FragSpec
  parts : fs ≡ done ++ last ∷ []

last_apart : (f : FragSpec) (fs : List FragSpec) → HasLast (f ∷ fs)
last_apart f [] = record { done = []; last = f; parts = refl }
last_apart f (g ∷ fs) = let rest = last_apart g fs in record { done = f ∷ rest.done; last = rest.last; parts = ap (λ l. f ∷ l) rest.parts }

-- what holds of every list that ends, and of none
by_last : (P : List FragSpec → Type 0) (fs : List FragSpec) → P [] → ((done : List FragSpec) (f : FragSpec) → P (done ++ f ∷ [])) → P fs
by_last P [] none each = none
by_last P (f ∷ fs) none each = let l = last_apart f fs in subst P (sym l.parts) (each l.done l.last)

-- that a further operator fits, by the fragments so far
abbrev OperatorFits : Draft → Word → List Word → OpKind → List FragSpec → Type 0
OperatorFits d name inputs kind fs =
    let e : Draft = record d { frags = fs } in
    EachReads (length d.sources) 0 fs → IsFine e (OperatorLine name inputs kind) → FragsFit (columns_of d.sources) [] fs
    → FragsFit (columns_of d.sources) [] (and_then e (OperatorLine name inputs kind)).frags

frags_fitted : (d : Draft) (s : Statement) → IsPlaced d s → IsFine d s → EachReads (length d.sources) 0 d.frags → FragsFit (columns_of d.sources) [] d.frags →
    FragsFit (columns_of (and_then d s).sources) [] (and_then d s).frags
frags_fitted d (HeaderLine place number) p fine reads k = k
frags_fitted d (SourceLine name columns) p fine reads k = no_frags_fit _ d.frags p.1
frags_fitted d (LogLine source time vals) p fine reads k = no_frags_fit _ d.frags p.1
frags_fitted d (FragmentLine name replicas streams) p fine reads k = fits-join (columns_of d.sources) [] d.frags _ k refl
frags_fitted d (PatienceLine delay) p fine reads k = fits-delay (columns_of d.sources) [] _ delay d.frags k
frags_fitted d (OperatorLine name inputs kind) p fine reads k =
    by_last (OperatorFits d name inputs kind) d.frags (λ r f h. tt) (λ done f r fine h. operator_fits d done f name inputs kind r fine h) reads fine k
frags_fitted d (ClientLine name stream) p fine reads k = k
frags_fitted d BeginLine p fine reads k = k
frags_fitted d (SendLine make source time) p fine reads k = k
frags_fitted d (LinkLine make a b) p fine reads k = k
frags_fitted d (NodeLine true node) p fine reads k = k
frags_fitted d (NodeLine false node) p fine reads k = k
frags_fitted d (TickLine now) p fine reads k = k
frags_fitted d SettleLine p fine reads k = k

-- ---- directives

pub record HasDirectives (d : Draft) : Type 0 where
  -- none before `begin`, behind which each fragment has an operator
  pub waits : d.begun ≡ false → all_directives d ≡ []
  pub some_op : d.begun ≡ true → list_any (λ (f : FragSpec). is_nil f.ops) d.frags ≡ false
  pub fit : list_all (directive_fits (plan_of d)) (all_directives d) ≡ true

-- what is declared leaves no directive
still_none : (d e : Draft) → d.begun ≡ false → e.begun ≡ d.begun → all_directives e ≡ all_directives d → HasDirectives d → HasDirectives e
still_none d e early begun same k =
    let none : all_directives e ≡ [] = same ∙ k.waits early in
    record {
      waits = λ early. none;
      some_op = λ late. absurd (not-both d.begun (sym begun ∙ late) early);
      fit = ap (list_all (directive_fits (plan_of e))) none;
    }

-- a further directive
one_more : (d e : Draft) (x : Directive) → d.begun ≡ true → e.begun ≡ d.begun → e.frags ≡ d.frags → all_directives e ≡ all_directives d ++ x ∷ [] → plan_of e ≡ plan_of d →
    directive_fits (plan_of d) x ≡ true → HasDirectives d → HasDirectives e
one_more d e x late begun frags more plan fits k =
    record {
      waits = λ early. absurd (not-both d.begun late (sym begun ∙ early));
      some_op = λ late. ap (list_any (λ (f : FragSpec). is_nil f.ops)) frags ∙ k.some_op (sym begun ∙ late);
      fit = ap (λ p. list_all (directive_fits p) (all_directives e)) plan ∙ ap (list_all (directive_fits (plan_of d))) more ∙ all-push (directive_fits (plan_of d)) (all_directives d) x k.fit fits;
    }

pub place_low : (w : Word) (ws : List Word) (o : Option ℕ) → IsPlaceOf w ws o → is_none o ≡ false → unwrap_or o 0 < length ws
place_low w ws None h known = absurd cc
place_low w ws (Some i) h known = h.0

pub link_found : (plan : Plan) (a b : Option ℕ) → not (unwrap_or (option_map (λ x. unwrap_or (option_map (λ y. are_linked plan x y) b) false) a) false) ≡ false → are_linked plan (unwrap_or a 0) (unwrap_or b 0) ≡ true
link_found plan None b h = absurd cc
link_found plan (Some x) None h = absurd cc
link_found plan (Some x) (Some y) h = not-false (are_linked plan x y) h

pub node_found : (plan : Plan) (a : Option ℕ) → not (unwrap_or (option_map (λ x. is_node (role_of plan x)) a) false) ≡ false → is_node (role_of plan (unwrap_or a 0)) ≡ true
node_found plan None h = absurd cc
node_found plan (Some x) h = not-false (is_node (role_of plan x)) h

behind : (d : Draft) (x : Directive) → flat_map (λ (p : Phase). p.directives) d.phases ++ (d.directives ++ x ∷ []) ≡ all_directives d ++ x ∷ []
behind d x = sym (append_assoc (flat_map (λ (p : Phase). p.directives) d.phases) d.directives (x ∷ []))

directives_fitted : (d : Draft) (s : Statement) → IsPlaced d s → IsFine d s → IsInParts d → HasDirectives d → HasDirectives (and_then d s)
directives_fitted d (HeaderLine place number) p fine parts k = still_none d _ (not_yet d.begun refl) refl refl k
  where
    not_yet : (b : Bool) → d.begun ≡ b → b ≡ false
    not_yet true is = absurd (not-both _ (parts.whole is).header p.0)
    not_yet false is = refl
directives_fitted d (SourceLine name columns) p fine parts k = still_none d _ (is_declaring d p.0).1 refl refl k
directives_fitted d (LogLine source time vals) p fine parts k = still_none d _ (is_declaring d p.0).1 refl refl k
directives_fitted d (FragmentLine name replicas streams) p fine parts k = still_none d _ (is_declaring d p.0).1 refl refl k
directives_fitted d (PatienceLine delay) p fine parts k = still_none d _ (is_declaring d p.0).1 refl refl k
directives_fitted d (OperatorLine name inputs kind) p fine parts k = still_none d _ (is_declaring d p.0).1 refl refl k
directives_fitted d (ClientLine name stream) p fine parts k = still_none d _ (is_declaring d p).1 refl refl k
directives_fitted d BeginLine p fine parts k =
    let tests = or_parts (is_nil d.sources || is_nil d.frags || is_nil d.clients) (list_any (λ (f : FragSpec). is_nil f.ops) d.frags) fine.parts in
    record { waits = λ early. absurd cc; some_op = λ late. tests.1; fit = k.fit }
directives_fitted d (SendLine make source time) p fine parts k =
    let low = place_low source (source_names d) (source_named d source) (place_is source (source_names d)) fine.known in
    let many : length (source_names d) ≡ length d.sources = length-map d.sources (λ (s : SourceSpec). s.name) in
    let there : nat_lt (unwrap_or (source_named d source) 0) (length d.sources) ≡ true = ap (nat_lt (unwrap_or (source_named d source) 0)) (sym many) ∙ lt-ltb _ (length (source_names d)) low in
    one_more d _ _ p.0 refl refl (behind d _) refl (p.1 (plan_of d) (unwrap_or (source_named d source) 0) time ∙ there) k
directives_fitted d (LinkLine make a b) p fine parts k =
    let linked = link_found (plan_of d) (actor_named d a) (actor_named d b) fine.known in
    one_more d _ _ p.0 refl refl (behind d _) refl (p.1 (plan_of d) _ _ ∙ linked) k
directives_fitted d (NodeLine true node) p fine parts k = one_more d _ _ p refl refl (behind d _) refl (node_found (plan_of d) (actor_named d node) fine.known) k
directives_fitted d (NodeLine false node) p fine parts k = one_more d _ _ p refl refl (behind d _) refl (node_found (plan_of d) (actor_named d node) fine.known) k
directives_fitted d (TickLine now) p fine parts k =
    let before = flat_map (λ (x : Phase). x.directives) d.phases in
    let same : all_directives (and_then d (TickLine now)) ≡ all_directives d =
    append-nil _ ∙ flat_map-append (λ (x : Phase). x.directives) d.phases (record { directives = d.directives; now = now } ∷ []) ∙ ap (λ l. before ++ l) (append-nil d.directives) in
    record { waits = λ early. same ∙ k.waits early; some_op = k.some_op; fit = ap (list_all (directive_fits (plan_of d))) same ∙ k.fit }
directives_fitted d SettleLine p fine parts k = record { waits = k.waits; some_op = k.some_op; fit = k.fit }

-- ---- all of it

pub record IsFitted (d : Draft) : Type 0 where
  pub form : IsFormed d
  pub frags : FragsFit (columns_of d.sources) [] d.frags
  pub directives : HasDirectives d

pub fitted : (d : Draft) (s : Statement) → IsPlaced d s → IsFine d s → IsFitted d → IsFitted (and_then d s)
fitted d s p fine k =
    record {
      form = formed d s p fine k.form;
      frags = frags_fitted d s p fine k.form.frags.reads k.frags;
      directives = directives_fitted d s p fine k.form.parts k.directives;
    }
