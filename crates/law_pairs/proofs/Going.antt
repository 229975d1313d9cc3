-- How two clients go on at an event.
use Rattle.std.proofs.Common.{◌≡◌, ℕ, ◌<◌, true, List, [], ◌∷◌, ◌++◌, length, drop, Some, refl, sym, ap, subst, ◌∙◌}
use Rattle.dpc_lists.proofs.Truths.{eq-test}
use Rattle.dpc_model.specs.Reading.{Reader, empty_reader}
use Rattle.dpc_model.specs.declared.messages.Event.{Event}
use Rattle.dpc_model.specs.declared.plans.Plan.{Plan}
use Rattle.dpc_model.specs.declared.plans.StreamRef.{StreamRef}
use Rattle.dpc_model.specs.declared.tuples.Item.{Item}
use Rattle.dpc_model.specs.declared.tuples.Tuple.{Tuple}
use Rattle.node_model.specs.Clients.{client_stream}
use Rattle.world_model.specs.Worlds.{World, client_at, happens, run}
use Rattle.world_model.specs.Safe.{HoldsOf}
use Rattle.world_model.proofs.Running.{run-push}
use Rattle.law_safety.specs.Plans.{IsCheckedPlan}
use Rattle.law_session_origins.specs.Standing.{takes}
use Rattle.law_journals.proofs.Items.{takes-more}
use Rattle.back_channel.specs.Merging.{Merged, merge, begins_with, only_grows, items_between, Leaves, OneBegins}
use Rattle.back_channel.proofs.Foldings.{behind-one, leaves-end}
use Rattle.back_channel.proofs.Leading.{same-self}
use Rattle.law_pairs.specs.Pairs.{held_at, merge_at, told_of, AreReaders, GoTogether}
use Rattle.law_pairs.proofs.Holding.{taken-leaves, holds-of, holders-go}

-- ---- one client

-- what the first items leave is where the others are read
pub leaves-rest : (r s t : Reader) (is js : List Item) → Leaves r is s → Leaves r (is ++ js) t → Leaves s js t
leaves-rest r s t [] js h k = subst (λ (u : Reader). Leaves u js t) (leaves-end r s h) k
leaves-rest r s t (i ∷ is) js h k =
    let b = behind-one r s i is h in
    let d = behind-one r t i (is ++ js) k in
    let both : Some b.next ≡ Some d.next = sym b.left ∙ d.left in
    let same : d.next ≡ b.next = cc in
    leaves-rest b.next s t is js b.rest (subst (λ (u : Reader). Leaves u (is ++ js) t) same d.rest)

pub client-goes : (plan : Plan) (events : List Event) (e : Event) (c : ℕ) → IsCheckedPlan plan → c < length plan.clients →
    Leaves (held_at (run plan events) c) (takes (run plan events) e c) (held_at (happens (run plan events) e) c)
client-goes plan events e c checked low =
    let w = run plan events in
    let after = subst (λ (v : World). Leaves empty_reader (client_at v c).taken (held_at v c)) (run-push plan events e) (taken-leaves plan (events ++ e ∷ []) c checked low) in
    leaves-rest empty_reader (held_at w c) (held_at (happens w e) c) (client_at w c).taken (takes w e c) (taken-leaves plan events c checked low)
    (subst (λ (items : List Item). Leaves empty_reader items (held_at (happens w e) c)) (takes-more w e c) after)

pub client-rests : (plan : Plan) (events : List Event) (e : Event) (c : ℕ) → IsCheckedPlan plan → c < length plan.clients → takes (run plan events) e c ≡ [] →
    held_at (happens (run plan events) e) c ≡ held_at (run plan events) c
client-rests plan events e c checked low none =
    let w = run plan events in
    sym (leaves-end (held_at w c) (held_at (happens w e) c) (subst (λ (items : List Item). Leaves (held_at w c) items (held_at (happens w e) c)) none (client-goes plan events e c checked low)))

-- ---- both

-- what the second one holds, as of the first one's stream
pub holds-both : (plan : Plan) (events : List Event) (x y : ℕ) → IsCheckedPlan plan → AreReaders plan x y → HoldsOf plan (client_stream plan x) (held_at (run plan events) y)
holds-both plan events x y checked h =
    subst (λ (s : StreamRef). HoldsOf plan s (held_at (run plan events) y)) (sym h.same) (holds-of plan events y checked h.second)

together : (plan : Plan) (events : List Event) (x y : ℕ) → IsCheckedPlan plan → AreReaders plan x y → OneBegins (held_at (run plan events) x).stable (held_at (run plan events) y).stable
together plan events x y checked h =
    holders-go plan (client_stream plan x) (held_at (run plan events) x) (held_at (run plan events) y) (holds-of plan events x checked h.first) (holds-both plan events x y checked h)

pub go-together : (plan : Plan) (events : List Event) (e : Event) (x y : ℕ) → IsCheckedPlan plan → AreReaders plan x y → GoTogether (run plan events) e x y
go-together plan events e x y checked h =
    record {
      first = client-goes plan events e x checked h.first;
      second = client-goes plan events e y checked h.second;
      before = together plan events x y checked h;
      after = subst (λ (w : World). OneBegins (held_at w x).stable (held_at w y).stable) (run-push plan events e) (together plan (events ++ e ∷ []) x y checked h);
    }

-- ---- where nothing is taken

begins-self : (ts : List Tuple) → begins_with ts ts ≡ true
begins-self [] = refl
begins-self (t ∷ ts) = rw (same-self t) (begins-self ts)

nothing-behind : (ts : List Tuple) → drop (length ts) ts ≡ []
nothing-behind [] = refl
nothing-behind (t ∷ ts) = nothing-behind ts

between-same : (m : Merged) → items_between m m ≡ []
between-same m =
    let grows : only_grows m m ≡ true = rw (eq-test (length m.stable) (length m.stable) refl, eq-test m.bound m.bound refl) (begins-self m.tentative) in
    rw (grows, nothing-behind m.tentative) refl

pub told-nothing : (plan : Plan) (events : List Event) (e : Event) (x y : ℕ) → IsCheckedPlan plan → AreReaders plan x y → takes (run plan events) e x ≡ [] → takes (run plan events) e y ≡ [] →
    told_of (run plan events) e x y ≡ []
told-nothing plan events e x y checked h none others =
    let w = run plan events in
    let left = client-rests plan events e x checked h.first none in
    let right = client-rests plan events e y checked h.second others in
    ap (λ (r : Reader). items_between (merge_at w x y) (merge r (held_at (happens w e) y))) left ∙ ap (λ (r : Reader). items_between (merge_at w x y) (merge (held_at w x) r)) right
    ∙ between-same (merge_at w x y)
