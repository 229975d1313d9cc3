-- The delivery of a subscription, and what a node's step leaves of its incarnation.
use Rattle.std.proofs.Common.{◌≡◌, ℕ, zero, suc, Bool, true, false, ◌&&◌, ◌==◌, List, [], ◌∷◌, ◌++◌, map, refl, ap, ◌∙◌, Option, Some, None, slice_get}
use Rattle.dpc_lists.specs.Lists.{nth, place_of}
use Rattle.dpc_model.specs.Actors.{role_of}
use Rattle.dpc_model.specs.declared.actors.Role.TheVariants.{Node as IsNode}
use Rattle.dpc_model.specs.declared.messages.Event.{Event}
use Rattle.dpc_model.specs.declared.messages.Event.TheVariants.{Phase, Emit, Release, Cut, Heal, Crash, Restart, Deliver, Tick, Mill}
use Rattle.dpc_model.specs.declared.plans.Plan.{Plan}
use Rattle.node_model.specs.Nodes.{Home, PlainNode}
use Rattle.world_model.specs.Worlds.{World, Envelope, home_of, slot_of, can_come, happens, run, new_world, run_from}
use Rattle.world_model.specs.Safe.{EachStep}
use Rattle.world_model.specs.SessionLaw.{Channel}
use Rattle.world_model.specs.Schedules.{Undelivered, is_first_of_its_way, same_way}
use Rattle.dpc_lists.proofs.Truths.{both, eq-of}
use Rattle.law_safety.proofs.Happening.{IsFine}
use Rattle.dpc_lists.proofs.Each.{Each}
use Rattle.law_granting.specs.Taken.{subscribes, envelope_subscribes, subscribes_packet}
use Rattle.law_granting.proofs.Saying.{own-delivered, own-milled, own-ticked}
use Rattle.world_model.specs.Events.{is_quiet}
use Rattle.law_settling.proofs.Nodes.{NodeWent, node-went}
use Rattle.law_settling_readers.proofs.Once.{asks_so}

-- ---- a delivery

pub record IsComing (l : Channel) (w : World) (e : Event) : Type 0 where
  pub number : ℕ
  pub envelope : Envelope
  pub event : e ≡ Deliver number
  pub there : slice_get w.envelopes number ≡ Some envelope
  pub asks : asks_so l envelope ≡ true
  pub can : can_come w envelope ≡ true

pub coming-of : (l : Channel) (w : World) (e : Event) → subscribes l w e ≡ true → IsComing l w e
coming-of l w (Deliver k) h = by-envelope (slice_get w.envelopes k) refl h
  where
    by-envelope : (o : Option Envelope) → slice_get w.envelopes k ≡ o → envelope_subscribes l w o ≡ true → IsComing l w (Deliver k)
    by-envelope None at h = cc
    by-envelope (Some f) at h =
        let parts = both (f.sender == l.reader && f.to == l.sender && subscribes_packet l.sess f.packet) (can_come w f) h in
        record { number = k; envelope = f; event = refl; there = at; asks = parts.0; can = parts.1 }
coming-of l w (Phase p) h = cc
coming-of l w (Emit s t) h = cc
coming-of l w (Release s t) h = cc
coming-of l w (Cut a b) h = cc
coming-of l w (Heal a b) h = cc
coming-of l w (Crash a) h = cc
coming-of l w (Restart a i) h = cc
coming-of l w (Tick a now) h = cc
coming-of l w (Mill a r) h = cc

-- what is delivered waited
pub not-gone : (w : World) (k : ℕ) (xs : List Undelivered) → is_first_of_its_way w k xs ≡ true → Each (λ (y : Undelivered). y.number ≡ k → ⊥) xs → ⊥
not-gone w k xs first gone = by-place (place_of (λ (x : Undelivered). same_way (slice_get w.envelopes k) (slice_get w.envelopes x.number)) xs) first
  where
    none : (xs : List Undelivered) (i : ℕ) → Each (λ (y : Undelivered). y.number ≡ k → ⊥) xs → nth false (map (λ (x : Undelivered). x.number == k) xs) i ≡ true → ⊥
    none [] i g h = cc
    none (y ∷ ys) zero g h = g.0 (eq-of y.number k h)
    none (y ∷ ys) (suc i) g h = none ys i g.1 h

    by-place : (o : Option ℕ) → elim o as (λ _. Bool) [ None ↦ false | Some i ↦ nth false (map (λ (x : Undelivered). x.number == k) xs) i ] ≡ true → ⊥
    by-place None h = cc
    by-place (Some i) h = none xs i gone h

-- ---- one event more

pub each-push : (P : World → Event → Type 0) (w : World) (es : List Event) (e : Event) → EachStep P w es → P (run_from w es) e → EachStep P w (es ++ e ∷ [])
each-push P w [] e h last = (last, tt)
each-push P w (d ∷ es) e h last = (h.0, each-push P (happens w d) es e h.1 last)

pub each-weak : (P Q : World → Event → Type 0) (w : World) (es : List Event) → ((v : World) (d : Event) → P v d → Q v d) → EachStep P w es → EachStep Q w es
each-weak P Q w [] f h = tt
each-weak P Q w (d ∷ es) f h = (f w d h.0, each-weak P Q (happens w d) es f h.1)

pub run-is : (plan : Plan) (es : List Event) → run plan es ≡ run_from (new_world plan) es
unfolding run
run-is plan es = refl

-- a node that was up goes on in its incarnation
pub inc-stays : (w : World) (most a f r : ℕ) → IsFine w most → role_of w.plan a ≡ IsNode f r → (e : Event) → is_quiet e ≡ true → (n : PlainNode) → (slot_of w a).node ≡ Some n → (m : PlainNode) × ((slot_of (happens w e) a).node ≡ Some m) × (m.grants.inc ≡ n.grants.inc)
inc-stays w most a f r fine role e quiet n up =
    let k = node-went w most a f r fine role e quiet n up in
    (k.0, k.1, same (home_of w.plan (f, r)) k.0 k.2)
  where
    same : (home : Home) (m : PlainNode) → NodeWent home n m → m.grants.inc ≡ n.grants.inc
    same home m (NodeWent.Rests is) = ap (λ (z : PlainNode). z.grants.inc) is
    same home m (NodeWent.Takes g is) = ap (λ (z : PlainNode). z.grants.inc) is ∙ (own-delivered home g.sender g.packet n).grants.inc
    same home m (NodeWent.Ticked now is) = ap (λ (z : PlainNode). z.grants.inc) is ∙ (own-ticked home now n).grants.inc
    same home m (NodeWent.Mills q is) = ap (λ (z : PlainNode). z.grants.inc) is ∙ (own-milled home q n).grants.inc
