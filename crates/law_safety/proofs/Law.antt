-- Every run of a checked plan is safe and orderly.
use Rattle.std.proofs.Common.{◌≡◌, ℕ, zero, suc, ◌+◌, ◌≤◌, true, List, [], ◌∷◌, map, length, refl, subst, ◌∙◌, arith, Some, slice_get}
use Rattle.std.proofs.lemmas.List.{length-map}
use Rattle.dpc_lists.specs.Lists.{range_with_len}
use Rattle.dpc_model.specs.Fragments.{log_of}
use Rattle.dpc_model.specs.Actors.{nodes_of}
use Rattle.dpc_model.specs.Sessions.{opening_session}
use Rattle.dpc_model.specs.declared.messages.Event.{Event}
use Rattle.dpc_model.specs.declared.plans.Plan.{Plan}
use Rattle.node_model.specs.Nodes.{new_node}
use Rattle.node_model.specs.Sources.{new_source, source_readers}
use Rattle.node_model.specs.Clients.{new_client}
use Rattle.world_model.specs.Worlds.{World, home_of, happens, run_from, run, new_world}
use Rattle.world_model.specs.Safe.{IsSafeWorld, IsSafeStep, EachStep, IsSafe}
use Rattle.world_model.specs.Orderly.{IsOrderlyWorld, are_sources_orderly, is_source_orderly}
use Rattle.law_safety.specs.Plans.{IsCheckedPlan, IsPlace}
use Rattle.law_safety.specs.Keeps.{IsFineWorld}
use Rattle.dpc_lists.proofs.Truths.{both-of}
use Rattle.dpc_model.proofs.Cuts.{none-counted}
use Rattle.law_safety.proofs.Starting.{new-good}
use Rattle.law_safety.proofs.Sourcing.{orderly-of}
use Rattle.law_safety.proofs.Clienting.{new_client-good}
use Rattle.law_safety.proofs.Worlding.{AreGoodSlots, slots-both, slots-safe, slots-orderly, AreGoodClients, clients-both, clients-safe, clients-orderly, place-of, reading-at}
use Rattle.law_safety.proofs.Happening.{IsFine, happens-next, happens-safe}

-- ---- the opening

new_source-orderly : (plan : Plan) (s : ℕ) → is_source_orderly plan s (new_source plan s) ≡ true
unfolding new_source
new_source-orderly plan s =
    orderly-of plan s (new_source plan s)
    (record {
      within = omega arith;
      below = let none = none-counted (log_of plan s) in omega (arith, none);
      few = omega arith;
      subs = let many = length-map (source_readers plan s) (λ _. opening_session) in omega (arith, many);
    })
    (length-map (source_readers plan s) (λ _. opening_session))

new-sources : (plan : Plan) (k n : ℕ) → are_sources_orderly plan k (map (new_source plan) (range_with_len k n)) ≡ true
new-sources plan k zero = refl
new-sources plan k (suc n) =
    both-of (is_source_orderly plan k (new_source plan k)) (are_sources_orderly plan (k + 1) (map (new_source plan) (range_with_len (k + 1) n))) (new_source-orderly plan k) (new-sources plan (k + 1) n)

new-slots : (plan : Plan) (ns : List (ℕ × ℕ)) → ((i : ℕ) (n : ℕ × ℕ) → slice_get ns i ≡ Some n → IsPlace (home_of plan n)) →
    AreGoodSlots plan 1 ns (map (λ (n : ℕ × ℕ). record { last_inc = 1; node = Some (new_node (home_of plan n)) }) ns)
new-slots plan [] place = tt
new-slots plan (n ∷ ns) place = (new-good (home_of plan n) 1 (place 0 n refl) (omega arith), new-slots plan ns (λ i m e. place (suc i) m e))

new-clients : (plan : Plan) (c n : ℕ) → IsCheckedPlan plan → c + n ≤ length plan.clients → AreGoodClients plan 1 c (map (new_client plan) (range_with_len c n))
new-clients plan c zero checked h = tt
new-clients plan c (suc n) checked h =
    (new_client-good plan c 1 checked.checked (reading-at plan c checked (omega (arith, h))) (omega arith), new-clients plan (c + 1) n checked (omega (arith, h)))

pub new_world-plan : (plan : Plan) → (new_world plan).plan ≡ plan
unfolding new_world
new_world-plan plan = refl

pub new_world-fine : (plan : Plan) → IsCheckedPlan plan → IsFine (new_world plan) 1
unfolding new_world
new_world-fine plan checked =
    record {
      checked = checked;
      some = omega arith;
      sent = tt;
      fits = refl;
      sources = new-sources plan 0 (length plan.sources);
      nodes_up = new-slots plan (nodes_of plan) (λ i n e. place-of plan i n.0 n.1 checked e);
      clients = new-clients plan 0 (length plan.clients) checked (omega arith);
    }

-- ---- a run

-- the world after a list of events, and each of them
pub record IsRun (w : World) (most : ℕ) (events : List Event) : Type 0 where
  pub fine : IsFine (run_from w events) (most + length events)
  pub steps : EachStep IsSafeStep w events
  pub plan : (run_from w events).plan ≡ w.plan

pub run-fine : (w : World) (most : ℕ) (events : List Event) → IsFine w most → IsRun w most events
run-fine w most [] h = let none : most + 0 ≡ most = omega arith in record { fine = rw none h; steps = tt; plan = refl }
run-fine w most (e ∷ events) h =
    let next = happens-next w most e h in
    let rest = run-fine (happens w e) (most + 1) events next.fine in
    let many : most + suc (length events) ≡ most + 1 + length events = omega arith in
    record { fine = rw many rest.fine; steps = (happens-safe w most e h, rest.steps); plan = rest.plan ∙ next.plan }

fine-safe : (w : World) (most : ℕ) → IsFine w most → IsSafeWorld w (nodes_of w.plan)
fine-safe w most h = record { sent = h.sent; nodes_hold = slots-safe w.plan most (nodes_of w.plan) w.nodes h.nodes_up; clients_hold = clients-safe w.plan most 0 w.clients h.clients }

fine-orderly : (w : World) (most : ℕ) → IsFine w most → IsOrderlyWorld w (nodes_of w.plan) most
fine-orderly w most h =
    record { sent = h.fits; sources = h.sources; nodes_up = slots-orderly w.plan most (nodes_of w.plan) w.nodes h.nodes_up; clients = clients-orderly w.plan most 0 w.clients h.clients }

-- the world of a run is of its plan, safe and orderly
pub record IsGoodRun (plan : Plan) (events : List Event) : Type 0 where
  pub fine : IsFine (run plan events) (1 + length events)
  pub of_plan : (run plan events).plan ≡ plan

pub run-good : (plan : Plan) (events : List Event) → IsCheckedPlan plan → IsGoodRun plan events
unfolding run
run-good plan events checked =
    let r = run-fine (new_world plan) 1 events (new_world-fine plan checked) in record { fine = r.fine; of_plan = r.plan ∙ new_world-plan plan }

-- every run is safe
pub run-safe : (plan : Plan) (events : List Event) → IsCheckedPlan plan → IsSafe plan events
run-safe plan events checked =
    let g = run-good plan events checked in
    record {
      world = subst (λ (p : Plan). IsSafeWorld (run plan events) (nodes_of p)) g.of_plan (fine-safe (run plan events) (1 + length events) g.fine);
      steps = (run-fine (new_world plan) 1 events (new_world-fine plan checked)).steps;
    }

-- and orderly
pub run-orderly : (plan : Plan) (events : List Event) → IsCheckedPlan plan → IsOrderlyWorld (run plan events) (nodes_of plan) (1 + length events)
run-orderly plan events checked =
    let g = run-good plan events checked in
    subst (λ (p : Plan). IsOrderlyWorld (run plan events) (nodes_of p) (1 + length events)) g.of_plan (fine-orderly (run plan events) (1 + length events) g.fine)

-- ---- one event

fine-from : (w : World) (most : ℕ) → IsCheckedPlan w.plan → IsFineWorld w most → IsFine w most
fine-from w most checked h =
    record {
      checked = checked;
      some = h.some;
      sent = h.safe.sent;
      fits = h.orderly.sent;
      sources = h.orderly.sources;
      nodes_up = slots-both w.plan most (nodes_of w.plan) w.nodes h.safe.nodes_hold h.orderly.nodes_up;
      clients = clients-both w.plan most 0 w.clients h.safe.clients_hold h.orderly.clients;
    }

pub event-keeps : (w : World) (most : ℕ) (e : Event) → IsCheckedPlan w.plan → IsFineWorld w most → IsFineWorld (happens w e) (most + 1)
event-keeps w most e checked h =
    let next = happens-next w most e (fine-from w most checked h) in
    record { some = next.fine.some; safe = fine-safe (happens w e) (most + 1) next.fine; orderly = fine-orderly (happens w e) (most + 1) next.fine }

pub event-safe : (w : World) (most : ℕ) (e : Event) → IsCheckedPlan w.plan → IsFineWorld w most → IsSafeStep w e
event-safe w most e checked h = happens-safe w most e (fine-from w most checked h)
