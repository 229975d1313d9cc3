-- Where the tentative tuples that a client takes came from.
use Rattle.std.proofs.Common.{◌≡◌, ℕ, zero, suc, ◌+◌, ◌-◌, ◌<◌, ◌≤◌, true, false, nat_lt, List, [], ◌∷◌, ◌++◌, map, length, drop, refl, sym, ap, subst, ◌∙◌, arith, Some, slice_get, ◌⊎◌, inl, inr, length-append}
use Rattle.std.specs.Prelude.{All, Contains}
use Rattle.std.proofs.Math.Seq.{drop-append_seam}
use Rattle.std.proofs.lemmas.List.Elements.{All-head, All-tail, Contains-append_cases}
use Rattle.std.proofs.lemmas.Option.{slice_get_within}
use Rattle.dpc_lists.specs.Lists.{nth, range_with_len}
use Rattle.dpc_model.specs.Actors.{role_of}
use Rattle.dpc_model.specs.declared.tuples.Tuple.{Tuple}
use Rattle.dpc_model.specs.declared.tuples.Item.{Item}
use Rattle.dpc_model.specs.declared.tuples.Item.TheVariants.{Stable, Tentative, Passed, Boundary, Undo, RecDone}
use Rattle.dpc_model.specs.declared.messages.Event.{Event}
use Rattle.dpc_model.specs.declared.plans.Plan.{Plan}
use Rattle.node_model.specs.Clients.{new_client}
use Rattle.world_model.specs.Worlds.{World, Envelope, client_at, happens, run_from, run, new_world}
use Rattle.world_model.specs.Safe.{EachStep}
use Rattle.world_model.specs.Orderly.{items_carried}
use Rattle.law_safety.specs.Plans.{IsCheckedPlan}
use Rattle.law_safety.proofs.Growing.{event-grows, run-plan}
use Rattle.law_safety.proofs.Law.{new_world-plan}
use Rattle.law_safety.proofs.Carried.{there}
use Rattle.dpc_lists.proofs.Truths.{lt-of, not-lt}
use Rattle.dpc_lists.proofs.Elements.{get-drop}
use Rattle.world_model.proofs.Running.{new_world-none}
use Rattle.law_sessions.specs.Laws.{TentativesStand, tentative_output, NoneInvented}
use Rattle.law_sessions.proofs.Invented.{none-invented}
use Rattle.law_session_origins.specs.Standing.{takes, StoodThen, CameStanding, TakenStood, AllTakenStood}
use Rattle.law_session_origins.proofs.Takings.{among, none-there, Comes, event-comes}

all-get : {X : Type 0} (P : X → Type 0) (xs : List X) (i : ℕ) (x : X) → slice_get xs i ≡ Some x → All P xs → P x
all-get P [] i x e h = cc
all-get P (y ∷ xs) zero x e h = let same : y ≡ x = cc in subst P same (All-head P y xs h)
all-get P (y ∷ xs) (suc i) x e h = all-get P xs i x e (All-tail P y xs h)

-- ---- when it was sent

-- a tuple among the items of which all tentative ones stand
stands-out : (out : List Tuple) (items : List Item) (t : Tuple) → TentativesStand out items → Contains items (Tentative t) → Contains out t
stands-out out [] t h c = absurd (none-there (Tentative t) c)
stands-out out (Tentative u ∷ items) t h c =
    elim (among (Tentative u) (Tentative t) items c) [
      | inl same ↦ let one : u ≡ t = cc in subst (λ (x : Tuple). Contains out x) one h.0
      | inr more ↦ stands-out out items t h.1 more
    ]
stands-out out (Stable k u ∷ items) t h c = elim (among (Stable k u) (Tentative t) items c) [ inl same ↦ cc | inr more ↦ stands-out out items t h more ]
stands-out out (Passed b ∷ items) t h c = elim (among (Passed b) (Tentative t) items c) [ inl same ↦ cc | inr more ↦ stands-out out items t h more ]
stands-out out (Boundary b m ∷ items) t h c = elim (among (Boundary b m) (Tentative t) items c) [ inl same ↦ cc | inr more ↦ stands-out out items t h more ]
stands-out out (Undo n ∷ items) t h c = elim (among (Undo n) (Tentative t) items c) [ inl same ↦ cc | inr more ↦ stands-out out items t h more ]
stands-out out (RecDone ∷ items) t h c = elim (among RecDone (Tentative t) items c) [ inl same ↦ cc | inr more ↦ stands-out out items t h more ]

record StoodFrom (w : World) (events : List Event) (k : ℕ) (x : Envelope) (t : Tuple) : Type 0 where
  before : List Event
  event : Event
  behind : List Event
  split : events ≡ before ++ (event ∷ behind)
  new : length (run_from w before).envelopes ≤ k
  sent : slice_get (happens (run_from w before) event).envelopes k ≡ Some x
  stood : Contains (tentative_output (happens (run_from w before) event) x.sender (role_of w.plan x.sender)) t

-- an envelope stays where it is
kept-from : (w : World) (events : List Event) (k : ℕ) (x : Envelope) → k < length w.envelopes → slice_get (run_from w events).envelopes k ≡ Some x → slice_get w.envelopes k ≡ Some x
kept-from w [] k x low e = e
kept-from w (e ∷ events) k x low there =
    let g = event-grows w e in
    let many : length (happens w e).envelopes ≡ length (w.envelopes ++ g.more) = ap length g.envelopes in
    let sum = length-append w.envelopes g.more in
    let next = kept-from (happens w e) events k x (omega (arith, low, many, sum)) there in
    first-part w.envelopes g.more k low (sym (ap (λ (es : List Envelope). slice_get es k) g.envelopes) ∙ next)
  where
    first-part : (es more : List Envelope) (k : ℕ) → k < length es → slice_get (es ++ more) k ≡ Some x → slice_get es k ≡ Some x
    first-part [] more k low e = absurd (omega (arith, low))
    first-part (y ∷ es) more zero low e = e
    first-part (y ∷ es) more (suc k) low e = first-part es more k (omega (arith, low)) e

stood-from : (w : World) (events : List Event) (k : ℕ) (x : Envelope) (t : Tuple) → EachStep NoneInvented w events → length w.envelopes ≤ k → slice_get (run_from w events).envelopes k ≡ Some x → Contains (items_carried x.packet) (Tentative t) → StoodFrom w events k x t
stood-from w [] k x t h far there c = let within = slice_get_within w.envelopes k x there in absurd (omega (arith, far, within))
stood-from w (e ∷ events) k x t h far found c =
    (elim (nat_lt k (length (happens w e).envelopes)) as (λ b. nat_lt k (length (happens w e).envelopes) ≡ b → StoodFrom w (e ∷ events) k x t) [
      | true ↦ λ d.
          let now = kept-from (happens w e) events k x (lt-of k (length (happens w e).envelopes) d) found in
          let place : length w.envelopes + (k - length w.envelopes) ≡ k = omega (arith, far) in
          let fresh : slice_get (drop (length w.envelopes) (happens w e).envelopes) (k - length w.envelopes) ≡ Some x =
          get-drop (length w.envelopes) (k - length w.envelopes) (happens w e).envelopes ∙ ap (λ (j : ℕ). slice_get (happens w e).envelopes j) place ∙ now in
          let stands = all-get (λ (y : Envelope). TentativesStand (tentative_output (happens w e) y.sender (role_of (happens w e).plan y.sender)) (items_carried y.packet)) (drop (length w.envelopes) (happens w e).envelopes) (k - length w.envelopes) x fresh h.0 in
          let plan = (event-grows w e).plan in
          record {
            before = [];
            event = e;
            behind = events;
            split = refl;
            new = far;
            sent = now;
            stood = subst (λ (p : Plan). Contains (tentative_output (happens w e) x.sender (role_of p x.sender)) t) plan
                (stands-out (tentative_output (happens w e) x.sender (role_of (happens w e).plan x.sender)) (items_carried x.packet) t stands c);
          }
      | false ↦ λ d.
          let r = stood-from (happens w e) events k x t h.1 (not-lt k (length (happens w e).envelopes) d) found c in
          record {
            before = e ∷ r.before;
            event = r.event;
            behind = r.behind;
            split = ap (λ (es : List Event). e ∷ es) r.split;
            new = r.new;
            sent = r.sent;
            stood = subst (λ (p : Plan). Contains (tentative_output (happens (run_from w (e ∷ r.before)) r.event) x.sender (role_of p x.sender)) t) (event-grows w e).plan r.stood;
          }
    ]) refl

stood-run : (plan : Plan) (events : List Event) (k : ℕ) (x : Envelope) (t : Tuple) → IsCheckedPlan plan → slice_get (run plan events).envelopes k ≡ Some x → Contains (items_carried x.packet) (Tentative t) → StoodThen plan events k x t
unfolding run
stood-run plan events k x t checked found c =
    let none : (new_world plan).envelopes ≡ [] = new_world-none plan in
    let few : length (new_world plan).envelopes ≡ 0 = ap length none in
    let r = stood-from (new_world plan) events k x t (none-invented plan events checked) (omega (arith, few)) found c in
    record {
      before = r.before;
      event = r.event;
      behind = r.behind;
      split = r.split;
      new = r.new;
      sent = r.sent;
      stood = subst (λ (p : Plan). Contains (tentative_output (happens (run_from (new_world plan) r.before) r.event) x.sender (role_of p x.sender)) t) (new_world-plan plan) r.stood;
    }

-- what was taken anew
added : (w : World) (e : Event) (c : ℕ) (i : Item) → Contains (takes w e c) i → Comes w e c i
added w e c i inside =
    let k = event-comes w c e in
    k.comes i (subst (λ (is : List Item). Contains is i) (ap (λ (is : List Item). drop (length (client_at w c).taken) is) k.taken ∙ drop-append_seam (client_at w c).taken k.more) inside)

came-standing : (plan : Plan) (events : List Event) (e : Event) (c : ℕ) (t : Tuple) → IsCheckedPlan plan → Comes (run plan events) e c (Tentative t) → CameStanding plan events e c t
came-standing plan events e c t checked k =
    record {
      number = k.number;
      delivers = k.delivers;
      envelope = k.envelope;
      there = k.found;
      to = ap (λ (p : Plan). role_of p k.envelope.to) (sym (run-plan plan events)) ∙ k.to;
      carried = k.carried;
      stood = stood-run plan events k.number k.envelope t checked k.found k.carried;
    }

pub taken-stood : (plan : Plan) (events : List Event) (e : Event) → IsCheckedPlan plan → TakenStood plan events e
taken-stood plan events e checked c t inside = came-standing plan events e c t checked (added (run plan events) e c (Tentative t) inside)

-- ---- all that was taken in a run

record ComesOnce (w : World) (events : List Event) (c : ℕ) (i : Item) : Type 0 where
  before : List Event
  event : Event
  behind : List Event
  split : events ≡ before ++ (event ∷ behind)
  came : Comes (run_from w before) event c i

comes-once : (w : World) (events : List Event) (c : ℕ) (i : Item) → Contains (client_at (run_from w events) c).taken i → Contains (client_at w c).taken i ⊎ ComesOnce w events c i
comes-once w [] c i inside = inl inside
comes-once w (e ∷ events) c i inside =
    let k = event-comes w c e in
    elim (comes-once (happens w e) events c i inside) [
      | inl now ↦ elim (Contains-append_cases (client_at w c).taken k.more i (subst (λ (is : List Item). Contains is i) k.taken now)) [
        | inl old ↦ inl old
        | inr new ↦ inr (record { before = []; event = e; behind = events; split = refl; came = k.comes i new })
      ]
      | inr later ↦ inr (record { before = e ∷ later.before; event = later.event; behind = later.behind; split = ap (λ (es : List Event). e ∷ es) later.split; came = later.came })
    ]

new-taken : (plan : Plan) (c : ℕ) → (client_at (new_world plan) c).taken ≡ []
unfolding new_world new_client
new-taken plan c = among_new (range_with_len 0 (length plan.clients)) c
  where
    none_new : (d : ℕ) → (new_client plan d).taken ≡ []
    none_new d = refl

    among_new : (ds : List ℕ) (i : ℕ) → (nth (new_client plan c) (map (new_client plan) ds) i).taken ≡ []
    among_new [] i = none_new c
    among_new (d ∷ ds) zero = none_new d
    among_new (d ∷ ds) (suc i) = among_new ds i

pub all-taken-stood : (plan : Plan) (events : List Event) → IsCheckedPlan plan → AllTakenStood plan events
unfolding run
all-taken-stood plan events checked c t inside =
    elim (comes-once (new_world plan) events c (Tentative t) inside) [
      | inl old ↦ absurd (none-there (Tentative t) (subst (λ (is : List Item). Contains is (Tentative t)) (new-taken plan c) old))
      | inr k ↦ record { before = k.before; event = k.event; behind = k.behind; split = k.split; came = came-standing plan k.before k.event c t checked k.came }
    ]
