-- Full phases lead a port that asked anew to the whole: three for each replica that may truncate, and two more.
use Rattle.std.proofs.Common.{◌≡◌, ℕ, zero, suc, ◌+◌, true, List, refl, arith, Some, slice_get, inl, inr}
use Rattle.dpc_model.specs.Reading.{Reader}
use Rattle.dpc_model.specs.declared.messages.Event.{Event}
use Rattle.dpc_model.specs.declared.messages.Event.TheVariants.{Deliver, Tick}
use Rattle.dpc_model.specs.declared.messages.Sess.{Sess}
use Rattle.dpc_model.specs.declared.plans.StreamRef.TheVariants.{Frag}
use Rattle.dpc_model.specs.declared.scripts.Script.{Script}
use Rattle.world_model.specs.Worlds.{Envelope}
use Rattle.world_model.specs.Schedules.{Progress, next_progress, progress_from}
use Rattle.law_settling.specs.Phased.{opened}
use Rattle.law_settling.proofs.Fresh.{HasWhole, ticks-few}
use Rattle.law_settling.proofs.Journeys.{IsStep}
use Rattle.law_settling.proofs.Rules.{MayGo, kept-full, due-taken, opened-due, tick-due, first-good}
use Rattle.law_settling.proofs.Stages.{due-waits, port-up, port-within}
use Rattle.law_settling.proofs.Waitings.{waits, is_due}
use Rattle.law_settling_readers.proofs.Marks.{Mark, free_in}
use Rattle.law_settling.proofs.PortNow.{tick-now}
use Rattle.law_settling_readers.proofs.Reading.{IsSeen}
use Rattle.law_settling_readers.proofs.Freshly.{IsFresh}
use Rattle.law_settling_readers.proofs.Reasking.{IsAsking, Asking}
use Rattle.law_settling_readers.proofs.Turning.{Turned, turns, turned-next}
use Rattle.law_settling_readers.proofs.Replied.{IsReplying, Replying, comes-here, asking-next, asked-now, replying-next}
use Rattle.law_settling_readers.proofs.Arriving.{replied}
use Rattle.law_settling_readers.proofs.Staying.{whole-kept}
use Rattle.law_settling_readers.proofs.Turns.{After, Answered, Asked, whole-in, settled-in, answered-later, after-kept, answered-kept, asked-kept}

module _ (script : Script) (x p f k : ℕ) where
  abbrev pub Leads : (Progress → Type 0) → (Progress → Type 0) → Type 0
  Leads P Q = (z : Progress) (es : List Event) → IsStep script (IsSeen script x p f k) z es → P z → Q (progress_from script (opened script z) es)

  fresh-opened : (t : ℕ) (u : Sess) (h : Reader) (c : ℕ) (ms : List Mark) (z : Progress) → IsFresh script x p f t u h c ms z → IsFresh script x p f (t + 1) u h c ms (opened script z)
  fresh-opened t u h c ms z g =
      let budget = g.budget in
      let few = ticks-few x z in
      record { port = g.port; there = g.there; inlet = g.inlet; chosen = g.chosen; budget = omega (arith, budget, few); marks = g.marks; ended = g.ended; number = g.number; sent = g.sent; batches = g.batches; truncations = g.truncations }

  -- what waits at the end of a phase is due in the next
  abbrev IsSent : Progress → ℕ → Type 0
  IsSent z n = (g : Envelope) × (slice_get z.world.envelopes n ≡ Some g)

  reply-sent : (t : ℕ) (u : Sess) (h : Reader) (c : ℕ) (ms : List Mark) (n : ℕ) (z : Progress) → IsReplying script x p f t u h c ms n z → IsSent z n
  reply-sent t u h c ms n z it = elim it.sent [ inl batch ↦ (_, batch.1) | inr cut ↦ (_, cut.1) ]

  due-then : (z : Progress) (es : List Event) (n : ℕ) → IsStep script (IsSeen script x p f k) z es → IsSent z n → waits n z.waiting ≡ true → is_due n (opened script z).waiting ≡ true
  due-then z es n step sent waiting =
      let seen = first-good script (IsSeen script x p f k) (opened script z) es step.phase.good in
      opened-due script z n step.at step.complete (comes-here script x p f k (opened script z) n sent.0 seen sent.1) waiting

  -- the answer comes
  lead-replying : (m : ℕ) → Leads (Replying script x p f 1 m) (After script x p f k m)
  lead-replying m z es step (u, h, c, ms, n, it, free) =
      let due = due-then z es n step (reply-sent 1 u h c ms n z it) it.waits in
      let now : IsReplying script x p f 2 u h c ms n (opened script z) = record { fresh = fresh-opened 1 u h c ms z it.fresh; low = it.low; fits = it.fits; sent = it.sent; waits = due-waits n (opened script z).waiting due } in
      due-taken script (IsSeen script x p f k) n (IsReplying script x p f 2 u h c ms n) (After script x p f k m) (record {
        others = λ y e may other q. elim (replying-next script x p f k 2 u h c ms n y e (omega arith) may other q) [ inl on ↦ inl on | inr settled ↦ inr (settled-in script x p f k m (free_in ms) (next_progress script y e) free settled) ];
        taken = λ y may q. settled-in script x p f k m (free_in ms) (next_progress script y (Deliver n)) free (replied script x p f k 2 u h c ms n y (omega arith) may q);
        keeps = after-kept script x p f k m;
        can = λ y good q. let sent = reply-sent 2 u h c ms n y q in comes-here script x p f k y n sent.0 good sent.1;
        at = λ y good. good.at;
      }) (opened script z) es step.phase now due

  -- the subscription comes, and is answered or refused
  lead-asking : (m : ℕ) → Leads (Asking script x p f k 0 m) (Answered script x p f k m)
  lead-asking m z es step (u, h, c, ms, n, it, free) =
      let due = due-then z es n step (_, it.sent) it.waits in
      let now : IsAsking script x p f k 1 u h c ms n (opened script z) = record { fresh = fresh-opened 0 u h c ms z it.fresh; sent = it.sent; low = it.low; fits = it.fits; waits = due-waits n (opened script z).waiting due; newer = it.newer } in
      due-taken script (IsSeen script x p f k) n (IsAsking script x p f k 1 u h c ms n) (Answered script x p f k m) (record {
        others = λ y e may other q. elim (asking-next script x p f k 1 u h c ms n y e (omega arith) may other q) [ inl on ↦ inl on | inr answered ↦ inr (answered-later script x p f k 1 1 (free_in ms) m (next_progress script y e) (omega arith) free answered) ];
        taken = λ y may q. answered-later script x p f k 1 1 (free_in ms) m (next_progress script y (Deliver n)) (omega arith) free (asked-now script x p f k 1 u h c ms n y (omega arith) may q);
        keeps = answered-kept script x p f k m;
        can = λ y good q. comes-here script x p f k y n _ good q.sent;
        at = λ y good. good.at;
      }) (opened script z) es step.phase now due

  -- the port turns to another replica at its tick
  lead-turned : (m : ℕ) → Leads (Turned script x p f m) (Asked script x p f k m)
  lead-turned m z es step (t, u, h, c, ms, it) =
      tick-due script (IsSeen script x p f k) x (Turned script x p f m) (Asked script x p f k m) (record {
        others = λ y e may other q. elim (turned-next script x p f k m y e may q) [ inl on ↦ inl on | inr (inl whole) ↦ inr (inr (inr (whole-in script x p f k m (next_progress script y e) whole))) | inr (inr asking) ↦ inr (inl asking) ];
        ticked = λ y now may q. inl (turn-now y now may q);
        keeps = asked-kept script x p f k m;
        up = λ y good. port-up y.world x p good.port good.there;
        there = λ y good. port-within y.world x p good.port good.there;
        at = λ y good. good.at;
      }) (opened script z) es step.phase (t + 1, u, h, c, ms, record { fresh = fresh-opened t u h c ms z it.fresh; low = it.low; base = it.base; mark = it.mark; some = it.some; few = it.few }) refl
    where
      turn-now : (y : Progress) (now : ℕ) → MayGo script (IsSeen script x p f k) y (Tick x now) → Turned script x p f m y → Asking script x p f k 0 m (next_progress script y (Tick x now))
      turn-now y now may (t, u, h, c, ms, it) =
          let st = may.here.stand in
          let r = tick-now y.world st.most x p (Frag f) st.fine st.many st.line.port st.calm now (may.here.clocked x now may.may) may.next.stand.calm it.fresh.port it.fresh.there in
          turns script x p f k m t u h c ms y (Tick x now) may it now r.0 refl r.1 r.2

  -- ---- all together

  pub lead-after : (m : ℕ) → Leads (After script x p f k m) (After script x p f k m)
  lead-after zero z es step h = kept-full script (IsSeen script x p f k) (HasWhole script x p) (whole-kept script x p f k) (opened script z) es step.phase (record { port = h.port; there = h.there; bound = h.bound; sure = h.sure })
  lead-after (suc m) z es step (inl turned) = inr (lead-turned m z es step turned)
  lead-after (suc m) z es step (inr (inl asking)) = inr (inr (lead-asking m z es step asking))
  lead-after (suc m) z es step (inr (inr (inl replying))) = inr (inr (inr (lead-replying m z es step replying)))
  lead-after (suc m) z es step (inr (inr (inr rest))) = inr (inr (inr (lead-after m z es step rest)))

  pub lead-answered : (m : ℕ) → Leads (Answered script x p f k m) (After script x p f k m)
  lead-answered m z es step (inl replying) = lead-replying m z es step replying
  lead-answered m z es step (inr rest) = lead-after m z es step rest

  pub lead-asked : (m : ℕ) → Leads (Asked script x p f k m) (Answered script x p f k m)
  lead-asked m z es step (inl asking) = lead-asking m z es step asking
  lead-asked m z es step (inr rest) = inr (lead-answered m z es step rest)

  -- three phases for each replica that may truncate
  pub lead-turn : (m : ℕ) → Leads (After script x p f k (suc m)) (Asked script x p f k m)
  lead-turn m z es step (inl turned) = lead-turned m z es step turned
  lead-turn m z es step (inr asked) = inr (lead-asked m z es step asked)
