-- Lists and numbers of a phase.
use Rattle.std.proofs.Common.{◌≡◌, ℕ, ◌+◌, Bool, true, false, not, cond, ◌||◌, List, [], ◌∷◌, ◌++◌, map, length, refl, sym, ap, ◌∙◌, arith, Option, slice_get}
use Rattle.std.specs.Prelude.{filter, flat_map, replicate, sum_by}
use Rattle.std.proofs.lemmas.List.{length-append, length-map, map-id, map-append, flat_map_more, append_assoc}
use Rattle.std.proofs.lemmas.List.FromFn.{length-range_with_len, map-range_with_len_more}
use Rattle.std.proofs.lemmas.List.Sums.{sum_by-cons}
use Rattle.std.proofs.lemmas.List.Elements.{filter-append}
use Rattle.dpc_lists.specs.Lists.{range_with_len, list_any}
use Rattle.dpc_model.specs.Actors.{nodes_from, nodes_of, roles_of}
use Rattle.dpc_model.specs.declared.actors.Role.TheVariants.{Source as IsSource, Node as IsNode, Client as IsClient}
use Rattle.dpc_model.specs.declared.messages.Event.{Event}
use Rattle.dpc_model.specs.declared.messages.Event.TheVariants.{Deliver, Tick}
use Rattle.dpc_model.specs.declared.plans.FragSpec.{FragSpec}
use Rattle.dpc_model.specs.declared.plans.Plan.{Plan}
use Rattle.dpc_model.specs.declared.scripts.Directive.{Directive}
use Rattle.dpc_model.specs.declared.scripts.Directive.TheVariants as directive
use Rattle.world_model.specs.Worlds.{World, Envelope, is_up, ready_at}
use Rattle.world_model.specs.Schedules.{loses, repeats, deliveries_of, has_event, mill_events, actors_of, phase_events}
use Rattle.lockstep.specs.Ends.{fates_of}

-- ---- numbers of actors

pub nodes-length : (f : ℕ) (frags : List FragSpec) → length (nodes_from f frags) ≡ sum_by (λ (frag : FragSpec). frag.replicas) frags
nodes-length f [] = refl
nodes-length f (frag ∷ rest) =
    let node : ℕ → ℕ × ℕ = λ r. (f, r) in
    let here : length (map node (range_with_len 0 frag.replicas)) ≡ frag.replicas = length-map (range_with_len 0 frag.replicas) node ∙ length-range_with_len 0 frag.replicas in
    let both = length-append (map node (range_with_len 0 frag.replicas)) (nodes_from (f + 1) rest) in
    let behind = nodes-length (f + 1) rest in
    let sum = sum_by-cons (λ (frag : FragSpec). frag.replicas) frag rest in
    omega (arith, here, both, behind, sum)

pub roles-length : (plan : Plan) → length (roles_of plan) ≡ length (nodes_of plan) + length plan.sources + length plan.clients
roles-length plan =
    let sources = map IsSource (range_with_len 0 (length plan.sources)) in
    let nodes = map (λ (n : ℕ × ℕ). IsNode n.0 n.1) (nodes_of plan) in
    let clients = map IsClient (range_with_len 0 (length plan.clients)) in
    let all = length-append (sources ++ nodes) clients in
    let first = length-append sources nodes in
    let of_sources : length sources ≡ length plan.sources = length-map (range_with_len 0 (length plan.sources)) IsSource ∙ length-range_with_len 0 (length plan.sources) in
    let of_nodes : length nodes ≡ length (nodes_of plan) = length-map (nodes_of plan) (λ (n : ℕ × ℕ). IsNode n.0 n.1) in
    let of_clients : length clients ≡ length plan.clients = length-map (range_with_len 0 (length plan.clients)) IsClient ∙ length-range_with_len 0 (length plan.clients) in
    omega (arith, all, first, of_sources, of_nodes, of_clients)

-- ---- fates

kept-fate : (test : Directive → Bool) → ((d : Directive) → has_event d ≡ true → test d ≡ false) → (ds : List Directive) → list_any test (fates_of ds) ≡ list_any test ds
kept-fate test none [] = refl
kept-fate test none (d ∷ ds) =
    (elim (has_event d) as (λ b. has_event d ≡ b → list_any test (cond (not b) (d ∷ fates_of ds) (fates_of ds)) ≡ list_any test (d ∷ ds)) [
      | true ↦ λ e. rw (none d e) (kept-fate test none ds)
      | false ↦ λ e. ap (λ (b : Bool). test d || b) (kept-fate test none ds)
    ]) refl

lost-fate : (e : Option Envelope) (d : Directive) → has_event d ≡ true → loses e d ≡ false
lost-fate e (directive.Lose a b) h = absurd (cc)
lost-fate e (directive.Repeat a b) h = refl
lost-fate e (directive.Emit s t) h = refl
lost-fate e (directive.Release s t) h = refl
lost-fate e (directive.Cut a b) h = refl
lost-fate e (directive.Heal a b) h = refl
lost-fate e (directive.Crash a) h = refl
lost-fate e (directive.Restart a) h = refl

repeated-fate : (e : Option Envelope) (d : Directive) → has_event d ≡ true → repeats e d ≡ false
repeated-fate e (directive.Repeat a b) h = absurd (cc)
repeated-fate e (directive.Lose a b) h = refl
repeated-fate e (directive.Emit s t) h = refl
repeated-fate e (directive.Release s t) h = refl
repeated-fate e (directive.Cut a b) h = refl
repeated-fate e (directive.Heal a b) h = refl
repeated-fate e (directive.Crash a) h = refl
repeated-fate e (directive.Restart a) h = refl

pub fates-count : (w : World) (directives : List Directive) (k : ℕ) → deliveries_of w (fates_of directives) k ≡ deliveries_of w directives k
fates-count w directives k =
    let e : Option Envelope = slice_get w.envelopes k in
    rw (kept-fate (loses e) (lost-fate e) directives, kept-fate (repeats e) (repeated-fate e) directives) refl

pub fates-come : (w : World) (directives : List Directive) (ks : List ℕ) →
    flat_map (λ k. replicate (deliveries_of w (fates_of directives) k) (Deliver k)) ks ≡ flat_map (λ k. replicate (deliveries_of w directives k) (Deliver k)) ks
fates-come w directives [] = refl
fates-come w directives (k ∷ ks) =
    ap (λ (n : ℕ). replicate n (Deliver k) ++ flat_map (λ k. replicate (deliveries_of w (fates_of directives) k) (Deliver k)) ks) (fates-count w directives k)
    ∙ ap (λ (es : List Event). replicate (deliveries_of w directives k) (Deliver k) ++ es) (fates-come w directives ks)

-- ---- a list that grows by a range

pub range-more : (a n j : ℕ) → a + n ≡ j → range_with_len a (n + 1) ≡ range_with_len a n ++ j ∷ []
range-more a n j e =
    sym (map-id (range_with_len a (n + 1))) ∙ map-range_with_len_more (λ (i : ℕ). i) a n j e ∙ ap (λ (is : List ℕ). is ++ j ∷ []) (map-id (range_with_len a n))

pub flat-more : {X : Type 0} (f : ℕ → List X) (a n j m : ℕ) (start old new : List X) → a + n ≡ j → m ≡ n + 1 → old ≡ start ++ flat_map f (range_with_len a n) → new ≡ old ++ f j →
    new ≡ start ++ flat_map f (range_with_len a m)
flat-more {X} f a n j m start old new e one p q =
    q ∙ ap (λ (es : List X). es ++ f j) p ∙ flat_map_more f start (range_with_len a n) j ∙ ap (λ (is : List ℕ). start ++ flat_map f is) (sym (range-more a n j e))
    ∙ ap (λ (k : ℕ). start ++ flat_map f (range_with_len a k)) (sym one)

pub kept-more : {X : Type 0} (f : ℕ → X) (test : ℕ → Bool) (n : ℕ) (start old new : List X) → old ≡ start ++ map f (filter test (range_with_len 0 n)) → new ≡ old ++ cond (test n) (f n ∷ []) [] →
    new ≡ start ++ map f (filter test (range_with_len 0 (n + 1)))
kept-more {X} f test n start old new p q =
    let one : map f (filter test (n ∷ [])) ≡ cond (test n) (f n ∷ []) [] = (elim (test n) as (λ b. map f (cond b (n ∷ []) []) ≡ cond b (f n ∷ []) []) [ true ↦ refl | false ↦ refl ]) in
    let split : map f (filter test (range_with_len 0 n ++ n ∷ [])) ≡ map f (filter test (range_with_len 0 n)) ++ cond (test n) (f n ∷ []) [] =
    ap (map f) (filter-append test (range_with_len 0 n) (n ∷ [])) ∙ map-append f (filter test (range_with_len 0 n)) (filter test (n ∷ []))
    ∙ ap (λ (xs : List X). map f (filter test (range_with_len 0 n)) ++ xs) one in
    q ∙ ap (λ (es : List X). es ++ cond (test n) (f n ∷ []) []) p ∙ append_assoc start (map f (filter test (range_with_len 0 n))) (cond (test n) (f n ∷ []) [])
    ∙ ap (λ (xs : List X). start ++ xs) (sym split) ∙ ap (λ (is : List ℕ). start ++ map f (filter test is)) (sym (range-more 0 n n (omega arith)))

-- ---- the events of a phase

pub phase-made : (w : World) (plan : Plan) (directives fates : List Directive) (actors now : ℕ) (pending : List ℕ) (first second third : List Event) → w.plan ≡ plan → actors ≡ length (roles_of plan) → fates ≡ fates_of directives →
    first ≡ flat_map (λ a. mill_events a (ready_at w a)) (range_with_len 0 actors) → second ≡ first ++ flat_map (λ k. replicate (deliveries_of w fates k) (Deliver k)) pending →
    third ≡ second ++ map (λ a. Tick a now) (filter (is_up w) (range_with_len 0 actors)) → third ≡ phase_events w directives pending now
phase-made w plan directives fates actors now pending first second third same count is mills deliveries ticks =
    let all : range_with_len 0 actors ≡ actors_of w.plan = ap (λ (n : ℕ). range_with_len 0 n) count ∙ ap actors_of (sym same) in
    let come = ap (λ (ds : List Directive). flat_map (λ k. replicate (deliveries_of w ds k) (Deliver k)) pending) is ∙ fates-come w directives pending in
    let begun : first ≡ flat_map (λ a. mill_events a (ready_at w a)) (actors_of w.plan) = mills ∙ ap (λ (is : List ℕ). flat_map (λ a. mill_events a (ready_at w a)) is) all in
    let delivered : second ≡ flat_map (λ a. mill_events a (ready_at w a)) (actors_of w.plan) ++ flat_map (λ k. replicate (deliveries_of w directives k) (Deliver k)) pending =
    deliveries ∙ ap (λ (es : List Event). es ++ flat_map (λ k. replicate (deliveries_of w fates k) (Deliver k)) pending) begun
    ∙ ap (λ (es : List Event). flat_map (λ a. mill_events a (ready_at w a)) (actors_of w.plan) ++ es) come in
    ticks ∙ ap (λ (es : List Event). es ++ map (λ a. Tick a now) (filter (is_up w) (range_with_len 0 actors))) delivered
    ∙ ap (λ (is : List ℕ). (flat_map (λ a. mill_events a (ready_at w a)) (actors_of w.plan) ++ flat_map (λ k. replicate (deliveries_of w directives k) (Deliver k)) pending) ++ map (λ a. Tick a now) (filter (is_up w) is)) all
