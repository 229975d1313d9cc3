-- What the type behind the lock keeps, through each call.
use Rattle.std.proofs.Common.{◌≡◌, ◌⊎◌, inl, inr, ℕ, ◌+◌, ◌<◌, ◌≤◌, Bool, true, false, List, [], ◌∷◌, ◌++◌, length, refl, sym, ap, subst, ◌∙◌, arith, Option, Some, None}
use Rattle.std.proofs.lemmas.List.{length-append}
use Rattle.dpc_model.specs.declared.messages.Event.{Event}
use Rattle.dpc_model.specs.declared.scripts.Script.{Script}
use Rattle.law_journals.proofs.Replayed.{stays-within}
use Rattle.world_model.specs.Worlds.{WouldReach, passes_limit, excess}
use Rattle.world_model.specs.Schedules.{may, is_live_so_far}
use Rattle.world_core.specs.Runs.{RunOf, world_of}
use Rattle.live_run.specs.Lives.{LiveRunOf, IsLost, world_in, with_event}
use Rattle.event_shares.specs.Shares.{ShareOf}
use Rattle.node_threads.specs.declared.stop.Stop.{Stop}
use Rattle.node_threads.specs.Lives.{IsStopped}
use Rattle.node_threads.specs.Halls.{IsHall, IsWithin, StopsAt, StopFits, GrowTogether, counted_one}

true-not-false : true ≡ false → ⊥
true-not-false same = cc

-- no event happened yet
pub opened : (script : Script) (run : LiveRunOf) (total : ℕ) → run ≡ record { script = script; events = []; spent = false } → total ≡ 0 → IsHall script run total None
opened script run total is none =
    subst (λ (r : LiveRunOf). IsHall script r total None) (sym is) (record { named = refl; counted = none; going = λ _. (refl, refl); stopped = tt })

longer-by-one : (es : List Event) (e : Event) → length (es ++ e ∷ []) ≡ length es + 1
longer-by-one es e = length-append es (e ∷ [])

module _ (script : Script) (r next : LiveRunOf) (total after : ℕ) (stop : Option Stop) (h : IsHall script r total stop) where
  -- an event happened, and is counted
  pub happened : (e : Event) → r.spent ≡ false → next ≡ with_event r e → passes_limit (world_of (world_in r)) e ≡ false → after ≡ total + 1 → IsHall script next after stop
  happened e going is low one =
      subst (λ (n : LiveRunOf). IsHall script n after stop) (sym is)
      (record {
        named = h.named;
        counted = one ∙ ap (λ n. n + 1) h.counted ∙ sym (longer-by-one r.events e);
        going = λ _. ((h.going going).0, stays-within r.script.plan r.events e (h.going going).1 low);
        stopped = subst (λ (s : Option Stop). StopFits (with_event r e) s) (sym (h.going going).0) tt;
      })

  -- it is spent, and its events are those that were
  pub ended : r.spent ≡ false → next ≡ record r { spent = true } → IsHall script next total stop
  ended going is =
      subst (λ (n : LiveRunOf). IsHall script n total stop) (sym is)
      (record {
        named = h.named;
        counted = h.counted;
        going = λ same. absurd (true-not-false same);
        stopped = subst (λ (s : Option Stop). StopFits (record r { spent = true }) s) (sym (h.going going).0) tt;
      })

  -- an event would pass a limit
  pub stopped_at : (s : Stop) → r.spent ≡ false → next ≡ record r { spent = true } → may r.script r.events s.event ≡ true →
      WouldReach (world_of (world_in r)) s.event s.envelopes s.items → IsHall script next total (Some s)
  stopped_at s going is can reaches =
      subst (λ (n : LiveRunOf). IsHall script n total (Some s)) (sym is)
      (record {
        named = h.named;
        counted = h.counted;
        going = λ same. absurd (true-not-false same);
        stopped = record { within = (h.going going).1; may_come = can; reaches = reaches };
      })

  -- a fault: the event is counted where the journal has it
  pub lost_behind : (e : Event) → r.spent ≡ false → IsLost r next e → length r.events < length next.events → after ≡ total + 1 → IsHall script next after stop
  lost_behind e going (inl is) more one = absurd (omega (arith, ap (λ (n : LiveRunOf). length n.events) is, more))
  lost_behind e going (inr is) more one =
      subst (λ (n : LiveRunOf). IsHall script n after stop) (sym is)
      (record {
        named = h.named;
        counted = one ∙ ap (λ n. n + 1) h.counted ∙ sym (longer-by-one r.events e);
        going = λ same. absurd (true-not-false same);
        stopped = subst (λ (s : Option Stop). StopFits (record (with_event r e) { spent = true }) s) (sym (h.going going).0) tt;
      })

  pub lost_before : (e : Event) → r.spent ≡ false → IsLost r next e → length next.events ≤ length r.events → IsHall script next total stop
  lost_before e going (inl is) few = ended going is
  lost_before e going (inr is) few = absurd (omega (arith, ap (λ (n : LiveRunOf). length n.events) is, longer-by-one r.events e, few))

module _ (r next : LiveRunOf) (share shared : ShareOf) where
  -- the journal and the share grow together
  pub together_more : (e : Event) → next.events ≡ r.events ++ e ∷ [] → shared ≡ counted_one share → GrowTogether r next share shared
  together_more e is one =
      (ap (λ (s : ShareOf). s.parts) one, omega (arith, ap (λ (s : ShareOf). s.amount) one, ap length is, longer-by-one r.events e))

  pub together_same : next.events ≡ r.events → shared ≡ share → GrowTogether r next share shared
  together_same is same = (ap (λ (s : ShareOf). s.parts) same, omega (arith, ap (λ (s : ShareOf). s.amount) same, ap length is))

  pub together_lost_behind : (e : Event) → IsLost r next e → length r.events < length next.events → shared ≡ counted_one share → GrowTogether r next share shared
  together_lost_behind e (inl is) more one = absurd (omega (arith, ap (λ (n : LiveRunOf). length n.events) is, more))
  together_lost_behind e (inr is) more one = together_more e (ap (λ (n : LiveRunOf). n.events) is) one

  pub together_lost_before : (e : Event) → IsLost r next e → length next.events ≤ length r.events → shared ≡ share → GrowTogether r next share shared
  together_lost_before e (inl is) few same = together_same (ap (λ (n : LiveRunOf). n.events) is) same
  together_lost_before e (inr is) few same = absurd (omega (arith, ap (λ (n : LiveRunOf). length n.events) is, longer-by-one r.events e, few))

-- where an event would pass a limit, the world that is left is stopped there
pub is-stopped : (script : Script) (r : LiveRunOf) (w : RunOf) (total : ℕ) (stop : Option Stop) (s : Stop) → IsHall script r total stop → stop ≡ Some s →
    w.plan ≡ r.script.plan → w.events ≡ r.events → is_live_so_far r.script r.events ≡ true → IsStopped script w s
is-stopped script r w total stop s h is plan same live =
    let at : StopsAt r s = subst (λ (o : Option Stop). StopFits r o) is h.stopped in
    let named : r.script ≡ script = h.named in
    record {
      plan = plan ∙ ap (λ (x : Script). x.plan) named;
      so_far = rw (same, ← named) live;
      within = rw (same, ← named) at.within;
      may_come = rw (same, ← named) at.may_come;
      reaches = rw (plan, same) at.reaches;
    }

-- and a run that is not spent passes none
pub is-within : (script : Script) (r : LiveRunOf) (w : RunOf) (total : ℕ) (stop : Option Stop) → IsHall script r total stop → w.events ≡ r.events → r.spent ≡ false →
    excess script.plan w.events ≡ None
is-within script r w total stop h same going = let named : r.script ≡ script = h.named in rw (same, ← named) ((h.going going).1)
