-- Actors, and the names that they have.
use Rattle.std.proofs.Common.{◌≡◌, ℕ, ◌+◌, false, List, [], ◌∷◌, ◌++◌, map, length, Some, None, refl, sym, ap, subst, ◌∙◌, arith, slice_get, length-append}
use Rattle.std.specs.Prelude.{unwrap_or}
use Rattle.std.proofs.lemmas.List.{append_assoc, length-map, map-append}
use Rattle.std.proofs.lemmas.List.FromFn.{length-map-range_with_len}
use Rattle.dpc_lists.specs.Lists.{nth, range_with_len}
use Rattle.dpc_model.specs.Words.{Word}
use Rattle.dpc_model.specs.Actors.{roles_of, nodes_of, nodes_from}
use Rattle.dpc_model.specs.declared.actors.Role.TheVariants.{Source as IsSource, Node as IsNode, Client as IsClient, Nobody}
use Rattle.dpc_model.specs.ScriptText.{role_name, frag_name}
use Rattle.dpc_model.specs.declared.plans.SourceSpec.{SourceSpec}
use Rattle.dpc_model.specs.declared.plans.FragSpec.{FragSpec}
use Rattle.dpc_model.specs.declared.plans.ClientSpec.{ClientSpec}
use Rattle.dpc_model.specs.declared.plans.Plan.{Plan}
use Rattle.dpc_lists.proofs.Elements.{get-map, get-first, get-behind, map-map, nth-middle}
use Rattle.dpc_model.proofs.Roles.{node_at}
use Rattle.script_rules.specs.Drafts.{Draft, plan_of, place_of_name, source_names, source_named, actor_named}
use Rattle.script_rules.specs.Reasons.{is_among}
use Rattle.script_rules.proofs.Apart.{among_no}
use Rattle.script_rules.proofs.Streams.{no_place}
use Rattle.script_draft.specs.Nodes.{node_name, names_of_replicas, names_of_nodes, IsActor}
use Rattle.script_rules.proofs.Called.{client_names}
use Rattle.script_draft.proofs.Names.{named-within}
use Rattle.script_draft.proofs.Nodes.{place-first, place-second, get-range, none-among, many-nodes, many-node-names}

-- names by their numbers are the names
names-in-order : (done xs : List Word) → map (λ i. nth [] (done ++ xs) i) (range_with_len (length done) (length xs)) ≡ xs
names-in-order done [] = refl
names-in-order done (x ∷ xs) =
    let rest = names-in-order (done ++ x ∷ []) xs in
    let one : length (done ++ x ∷ []) ≡ length done + 1 = length-append done (x ∷ []) in
    let rest_is : map (λ i. nth [] (done ++ x ∷ xs) i) (range_with_len (length done + 1) (length xs)) ≡ xs =
    subst (λ k. map (λ i. nth [] (done ++ x ∷ xs) i) (range_with_len k (length xs)) ≡ xs) one (subst (λ ns. map (λ i. nth [] ns i) (range_with_len (length (done ++ x ∷ [])) (length xs)) ≡ xs) (append_assoc done (x ∷ []) xs) rest) in
    ap (λ n. n ∷ map (λ i. nth [] (done ++ x ∷ xs) i) (range_with_len (length done + 1) (length xs))) (nth-middle done x xs) ∙ ap (λ ns. x ∷ ns) rest_is

all-in-order : (ns : List Word) (n : ℕ) → length ns ≡ n → map (λ i. nth [] ns i) (range_with_len 0 n) ≡ ns
all-in-order ns n e = ap (λ k. map (λ i. nth [] ns i) (range_with_len 0 k)) (sym e) ∙ names-in-order [] ns

-- the nodes of the fragments behind those whose names are done
nodes-named : (plan : Plan) (done : List Word) (fs : List FragSpec) → map (λ (f : FragSpec). f.name) plan.frags ≡ done ++ map (λ (f : FragSpec). f.name) fs →
    map (λ (n : ℕ × ℕ). role_name plan (node_at n)) (nodes_from (length done) fs) ≡ names_of_nodes fs
nodes-named plan done [] e = refl
nodes-named plan done (f ∷ fs) e =
    let k = length done in
    let named : frag_name plan k ≡ f.name = ap (λ ns. nth [] ns k) e ∙ nth-middle done f.name (map (λ (x : FragSpec). x.name) fs) in
    let one : length (done ++ f.name ∷ []) ≡ k + 1 = length-append done (f.name ∷ []) in
    let rest = nodes-named plan (done ++ f.name ∷ []) fs (e ∙ sym (append_assoc done (f.name ∷ []) (map (λ (x : FragSpec). x.name) fs))) in
    map-append (λ (n : ℕ × ℕ). role_name plan (node_at n)) (map (λ r. (k, r)) (range_with_len 0 f.replicas)) (nodes_from (k + 1) fs)
    ∙ ap (λ l. l ++ map (λ (n : ℕ × ℕ). role_name plan (node_at n)) (nodes_from (k + 1) fs))
    (map-map (λ (n : ℕ × ℕ). role_name plan (node_at n)) (λ r. (k, r)) (range_with_len 0 f.replicas) ∙ ap (λ name. map (node_name name) (range_with_len 0 f.replicas)) named)
    ∙ ap (λ l. names_of_replicas f ++ l) (subst (λ j. map (λ (n : ℕ × ℕ). role_name plan (node_at n)) (nodes_from j fs) ≡ names_of_nodes fs) one rest)

-- the names of all actors in order of their numbers
pub named-actors : (d : Draft) → map (role_name (plan_of d)) (roles_of (plan_of d)) ≡ source_names d ++ names_of_nodes d.frags ++ client_names d
named-actors d =
    let plan = plan_of d in
    let s = map IsSource (range_with_len 0 (length d.sources)) in
    let n = map node_at (nodes_of plan) in
    let c = map IsClient (range_with_len 0 (length d.clients)) in
    let sources : map (role_name plan) s ≡ source_names d =
    map-map (role_name plan) IsSource (range_with_len 0 (length d.sources)) ∙ all-in-order (source_names d) (length d.sources) (length-map d.sources (λ (x : SourceSpec). x.name)) in
    let nodes : map (role_name plan) n ≡ names_of_nodes d.frags = map-map (role_name plan) node_at (nodes_of plan) ∙ nodes-named plan [] d.frags refl in
    let clients : map (role_name plan) c ≡ client_names d =
    map-map (role_name plan) IsClient (range_with_len 0 (length d.clients)) ∙ all-in-order (client_names d) (length d.clients) (length-map d.clients (λ (x : ClientSpec). x.name)) in
    map-append (role_name plan) (s ++ n) c ∙ ap (λ l. l ++ map (role_name plan) c) (map-append (role_name plan) s n) ∙ ap (λ l. l ++ map (role_name plan) n ++ map (role_name plan) c) sources
    ∙ ap (λ l. source_names d ++ l ++ map (role_name plan) c) nodes ∙ ap (λ l. source_names d ++ names_of_nodes d.frags ++ l) clients

pub source-actor : (d : Draft) (w : Word) (s : ℕ) → source_named d w ≡ Some s → IsActor d w s (IsSource s)
source-actor d w s h =
    let low = named-within (λ (x : SourceSpec). x.name) w d.sources s h in
    let zero_and : 0 + s ≡ s = omega arith in
    let n = map node_at (nodes_of (plan_of d)) in
    let c = map IsClient (range_with_len 0 (length d.clients)) in
    let own = map IsSource (range_with_len 0 (length d.sources)) in
    let at : slice_get (own ++ n ++ c) s ≡ Some (IsSource s) =
    get-first (own ++ n) c s (IsSource s) (get-first own n s (IsSource s) (get-map IsSource (range_with_len 0 (length d.sources)) s s (get-range 0 (length d.sources) s low ∙ ap Some zero_and))) in
    record {
      named = ap (place_of_name w) (named-actors d) ∙ place-first w (source_names d ++ names_of_nodes d.frags) (client_names d) s (place-first w (source_names d) (names_of_nodes d.frags) s h);
      is = ap (λ o. unwrap_or o Nobody) at;
    }

pub node-actor : (d : Draft) (w : Word) (p f r : ℕ) → is_among w (source_names d) ≡ false → place_of_name w (names_of_nodes d.frags) ≡ Some p → slice_get (nodes_from 0 d.frags) p ≡ Some (f, r) →
    IsActor d w (length d.sources + p) (IsNode f r)
node-actor d w p f r none h at =
    let s = map IsSource (range_with_len 0 (length d.sources)) in
    let n = map node_at (nodes_of (plan_of d)) in
    let c = map IsClient (range_with_len 0 (length d.clients)) in
    let many : length s ≡ length d.sources = length-map-range_with_len IsSource 0 (length d.sources) in
    let there : slice_get (s ++ n ++ c) (length d.sources + p) ≡ Some (IsNode f r) =
    get-first (s ++ n) c (length d.sources + p) (IsNode f r) (ap (λ k. slice_get (s ++ n) (k + p)) (sym many) ∙ get-behind s n p ∙ get-map node_at (nodes_of (plan_of d)) p (f, r) at) in
    record {
      named =
          ap (place_of_name w) (named-actors d)
          ∙ place-first w (source_names d ++ names_of_nodes d.frags) (client_names d) _ (place-second w (source_names d) (names_of_nodes d.frags) p none h)
          ∙ ap (λ k. Some (k + p)) (length-map d.sources (λ (x : SourceSpec). x.name));
      is = ap (λ o. unwrap_or o Nobody) there;
    }

pub client-actor : (d : Draft) (w : Word) (c : ℕ) → is_among w (source_names d) ≡ false → is_among w (names_of_nodes d.frags) ≡ false → place_of_name w (client_names d) ≡ Some c →
    IsActor d w (length d.sources + length (nodes_from 0 d.frags) + c) (IsClient c)
client-actor d w c none no_node h =
    let s = map IsSource (range_with_len 0 (length d.sources)) in
    let n = map node_at (nodes_of (plan_of d)) in
    let clients = map IsClient (range_with_len 0 (length d.clients)) in
    let low = named-within (λ (x : ClientSpec). x.name) w d.clients c h in
    let zero_and : 0 + c ≡ c = omega arith in
    let many : length (s ++ n) ≡ length d.sources + length (nodes_from 0 d.frags) =
    length-append s n ∙ ap (λ k. k + length n) (length-map-range_with_len IsSource 0 (length d.sources)) ∙ ap (λ k. length d.sources + k) (length-map (nodes_of (plan_of d)) node_at) in
    let many_names : length (source_names d ++ names_of_nodes d.frags) ≡ length d.sources + length (nodes_from 0 d.frags) =
    length-append (source_names d) (names_of_nodes d.frags) ∙ ap (λ k. k + length (names_of_nodes d.frags)) (length-map d.sources (λ (x : SourceSpec). x.name))
    ∙ ap (λ k. length d.sources + k) (many-node-names d.frags ∙ sym (many-nodes 0 d.frags)) in
    let there : slice_get (s ++ n ++ clients) (length d.sources + length (nodes_from 0 d.frags) + c) ≡ Some (IsClient c) =
    ap (λ k. slice_get (s ++ n ++ clients) (k + c)) (sym many) ∙ get-behind (s ++ n) clients c
    ∙ get-map IsClient (range_with_len 0 (length d.clients)) c c (get-range 0 (length d.clients) c low ∙ ap Some zero_and) in
    record {
      named =
          ap (place_of_name w) (named-actors d)
          ∙ place-second w (source_names d ++ names_of_nodes d.frags) (client_names d) c (among_no w (source_names d) (names_of_nodes d.frags) none no_node) h
          ∙ ap (λ k. Some (k + c)) many_names;
      is = ap (λ o. unwrap_or o Nobody) there;
    }

pub no-actor : (d : Draft) (w : Word) → is_among w (source_names d) ≡ false → is_among w (names_of_nodes d.frags) ≡ false → place_of_name w (client_names d) ≡ None → actor_named d w ≡ None
no-actor d w none no_node h =
    ap (place_of_name w) (named-actors d) ∙ no_place w _ (among_no w (source_names d ++ names_of_nodes d.frags) (client_names d) (among_no w (source_names d) (names_of_nodes d.frags) none no_node) (none-among w (client_names d) h))
