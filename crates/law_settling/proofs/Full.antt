-- A port that took all of a source that released its log has the whole of it, and so has one that takes the source's answer.
use Rattle.std.proofs.Common.{◌≡◌, ℕ, ◌+◌, ◌<◌, ◌≤◌, Bool, true, false, cond, not, List, length, refl, sym, ap, subst, ◌∙◌, arith, Option, Some, None, slice_get}
use Rattle.std.specs.Prelude.{max}
use Rattle.dpc_lists.specs.Lists.{nth}
use Rattle.dpc_model.specs.Fragments.{ideal}
use Rattle.dpc_model.specs.Reading.{Reader, is_sure, Folded, fold_items}
use Rattle.dpc_model.specs.Actors.{role_of, senders_of}
use Rattle.dpc_model.specs.Ports.{Port}
use Rattle.dpc_model.specs.Sessions.{first_batch, tally_of}
use Rattle.dpc_model.specs.declared.actors.Role.{Role}
use Rattle.dpc_model.specs.declared.sessions.Sub.{Sub}
use Rattle.dpc_model.specs.declared.messages.Event.{Event}
use Rattle.dpc_model.specs.declared.messages.Sess.{Sess}
use Rattle.dpc_model.specs.declared.messages.Subscribe.{Subscribe}
use Rattle.dpc_model.specs.declared.plans.Plan.{Plan}
use Rattle.dpc_model.specs.declared.plans.StreamRef.TheVariants.{Source}
use Rattle.node_model.specs.Sources.{SourceState, source_shown, bound_at}
use Rattle.world_model.specs.Worlds.{source_at, run}
use Rattle.world_model.specs.Safe.{HoldsOf}
use Rattle.world_model.specs.SessionLaw.{Fits, bound_of}
use Rattle.law_safety.specs.Plans.{IsChecked, IsCheckedPlan}
use Rattle.dpc_model.proofs.Prefixes.{prefix-taken}
use Rattle.law_safety.proofs.Law.{run-good}
use Rattle.law_safety.proofs.Sourcing.{IsFineSource}
use Rattle.law_safety.proofs.Views.{first-leaves}
use Rattle.law_sessions.proofs.Sources.{bound-is, source-view}
use Rattle.law_granting.specs.Taken.{port_of, line_of, IsAnsweredIn}
use Rattle.law_readers.specs.Newest.{IsPortOf, subs_of}
use Rattle.law_readers.specs.Held.{TookAll, shown_by}
use Rattle.law_readers.proofs.Steps.{port-holds}
use Rattle.law_readers.proofs.Known.{run-clients}
use Rattle.law_readers.proofs.Viewed.{views-held}
use Rattle.law_settling.proofs.Lines.{IsReading}
use Rattle.law_settling.proofs.Sourcing.{sub_at}
use Rattle.law_settling.proofs.Seen.{sub-there, next-low, answered-first}

-- the parts of an open session
pub tally-parts : (sub : Sub) (u : Sess) (m : ℕ) → tally_of sub ≡ Some (u, m) → (sub.kept ≡ Some u) × (sub.is_open ≡ true) × (sub.batches ≡ m)
tally-parts sub u m e = by-kept sub.kept refl e
  where
    some-pair : (v : Sess) (n : ℕ) → ◌≡◌ {A = Option (Sess × ℕ)} (Some (v, n)) (Some (u, m)) → (v ≡ u) × (n ≡ m)
    some-pair v n d = let same : ◌≡◌ {A = Sess × ℕ} (v, n) (u, m) = cc in (ap (λ (z : Sess × ℕ). z.0) same, ap (λ (z : Sess × ℕ). z.1) same)

    by-kept : (o : Option Sess) → sub.kept ≡ o → elim o as (λ _. Option (Sess × ℕ)) [ None ↦ None | Some v ↦ cond {A = Option (Sess × ℕ)} sub.is_open (Some (v, sub.batches)) None ] ≡ Some (u, m) → (sub.kept ≡ Some u) × (sub.is_open ≡ true) × (sub.batches ≡ m)
    by-kept None f g = cc
    by-kept (Some v) f g =
        (elim sub.is_open as (λ b. sub.is_open ≡ b → cond {A = Option (Sess × ℕ)} b (Some (v, sub.batches)) None ≡ Some (u, m) → (sub.kept ≡ Some u) × (sub.is_open ≡ true) × (sub.batches ≡ m)) [
          | true ↦ λ is d. let p = some-pair v sub.batches d in (f ∙ ap {B = Option Sess} Some p.0, is, p.1)
          | false ↦ λ is d. cc
        ]) refl g

-- what a port of a run holds
pub run-holds : (plan : Plan) (events : List Event) (x p s : ℕ) (q : Port) → IsCheckedPlan plan → IsPortOf plan x p (Source s) → port_of (run plan events) x p ≡ Some q → HoldsOf plan (Source s) q.inlet.held
run-holds plan events x p s q checked port there =
    let w = run plan events in
    let g = run-good plan events checked in
    let many = run-clients plan events ∙ ap (λ (z : Plan). length z.clients) (sym g.of_plan) in
    subst (λ (z : Plan). HoldsOf z (Source s) q.inlet.held) g.of_plan (port-holds w (1 + length events) x p (Source s) g.fine many (subst (λ (z : Plan). IsPortOf z x p (Source s)) (sym g.of_plan) port) q there)

-- a port that took as many batches as its source tells of
pub took-whole : (plan : Plan) (events : List Event) (x p s k : ℕ) → IsCheckedPlan plan → (line : IsReading plan x p s k) (q : Port) → port_of (run plan events) x p ≡ Some q → q.chosen ≡ 0 → q.inlet.broken ≡ false → (m : ℕ) →
    tally_of (sub_at (run plan events) s k) ≡ Some (q.inlet.sess, m) → m ≤ q.inlet.next → k < length (source_at (run plan events) s).subs → (source_at (run plan events) s).bound ≡ plan.end → (q.inlet.held.bound ≡ plan.end) × (is_sure q.inlet.held ≡ true)
took-whole plan events x p s k checked line q there first whole m tally all low ended =
    let w = run plan events in
    let low_next = next-low plan events x p s k checked line q there first whole m tally in
    let parts = tally-parts (sub_at w s k) q.inlet.sess m tally in
    let count = parts.2 in
    let sender : nth 0 (senders_of plan (Source s)) q.chosen ≡ s = ap (λ (z : ℕ). nth 0 (senders_of plan (Source s)) z) first ∙ line.first in
    let took : TookAll plan w x p (Source s) q s = record {
      port = there;
      whole = whole;
      sender = sender;
      place = k;
      sub = sub_at w s k;
      reader = line.back;
      there = ap (λ (r : Role). slice_get (subs_of w s r) k) line.source ∙ sub-there w s k low;
      kept = parts.0;
      is_open = parts.1;
      all = omega (arith, all, low_next, count);
    } in
    let shows = source_shown plan s (source_at w s) in
    let answered : IsAnsweredIn plan events (line_of plan x (Source s) q) 1 = answered-first plan events (line_of plan x (Source s) q) s (ap (λ (z : ℕ). role_of plan z) sender ∙ line.source) in
    let view = views-held plan events checked x p s 1 (Source s) q shows line.port took answered (ap (λ (r : Role). shown_by plan w s r) line.source) in
    let holds = run-holds plan events x p s q checked line.port there in
    let within = holds.within in
    let top : bound_of (bound_at plan s (source_at w s).bound) ≡ plan.end = bound-is plan s (source_at w s).bound ∙ ended in
    let bound : q.inlet.held.bound ≡ max view.read.start.bound (bound_of (bound_at plan s (source_at w s).bound)) = ap (λ (r : Reader). r.bound) view.view in
    (omega (arith, bound, top, within), ap is_sure view.view)

-- ---- the answer

pub not-not : (d : Bool) → d ≡ not (not d)
not-not true = refl
not-not false = refl

-- what is asked for with this held
abbrev pub asks_with : Sess → Reader → Subscribe
asks_with u h = record { sess = u; n = length h.stable; tentative = not (is_sure h) }

held-fits : (plan : Plan) (s : ℕ) (u : Sess) (h : Reader) → HoldsOf plan (Source s) h → Fits plan (Source s) (asks_with u h) h
held-fits plan s u h holds = record { stable = prefix-taken h.stable (ideal plan (Source s)) holds.stable; count = refl; bound = holds.bound; tentative = not-not (is_sure h) }

-- the first batch of a source that released its log is read, and leaves the whole of it
pub first-whole : (plan : Plan) (s : ℕ) (u : Sess) (h : Reader) (y : SourceState) → IsChecked plan → IsFineSource plan s y → y.bound ≡ plan.end → HoldsOf plan (Source s) h →
    (f : Folded) × (fold_items h (first_batch (source_shown plan s y) (asks_with u h)) ≡ Some f) × (f.after.bound ≡ plan.end) × (is_sure f.after ≡ true)
first-whole plan s u h y checked fine ended holds =
    let leaves = first-leaves plan (Source s) (asks_with u h) (source_shown plan s y) h (source-view plan s y checked fine) (held-fits plan s u h holds) in
    let low = holds.within in
    let top : bound_of (bound_at plan s y.bound) ≡ plan.end = bound-is plan s y.bound ∙ ended in
    let bound : leaves.0.after.bound ≡ max h.bound (bound_of (bound_at plan s y.bound)) = ap (λ (r : Reader). r.bound) leaves.2 in
    (leaves.0, leaves.1, omega (arith, top, low, bound), ap is_sure leaves.2)
