-- Phase by phase from a port that asked anew: of m replicas that truncated nothing three phases each bring it to the whole.
use Rattle.std.proofs.Common.{◌≡◌, ℕ, zero, suc, ◌≤◌, true, false, List, refl, sym, subst, arith, ◌⊎◌, inl, inr}
use Rattle.dpc_model.specs.Reading.{Reader}
use Rattle.dpc_model.specs.declared.messages.Event.{Event}
use Rattle.dpc_model.specs.declared.messages.Event.TheVariants.{Deliver}
use Rattle.dpc_model.specs.declared.messages.Sess.{Sess}
use Rattle.dpc_model.specs.declared.scripts.Script.{Script}
use Rattle.world_model.specs.Schedules.{Progress, next_progress}
use Rattle.world_model.specs.Events.{is_delivery}
use Rattle.law_settling.proofs.Fresh.{HasWhole}
use Rattle.law_settling.proofs.Rules.{MayGo, Keeps, same-delivery}
use Rattle.law_settling_readers.proofs.Marks.{Mark, free_in}
use Rattle.law_settling_readers.proofs.Reading.{IsSeen}
use Rattle.law_settling_readers.proofs.Freshly.{IsFresh}
use Rattle.law_settling_readers.proofs.Reasking.{Asking}
use Rattle.law_settling_readers.proofs.Turning.{Turned, turned-next}
use Rattle.law_settling_readers.proofs.Replied.{Replying, Settled, asking-next, asked-now, replying-next}
use Rattle.law_settling_readers.proofs.Arriving.{replied}
use Rattle.law_settling_readers.proofs.Staying.{whole-kept}

-- the whole is there, or a replica forgot what was asked of it and at most m others did not, or one of m was asked, or answers
abbrev pub After : Script → ℕ → ℕ → ℕ → ℕ → ℕ → Progress → Type 0
After script x p f k zero z = HasWhole script x p z
After script x p f k (suc m) z = Turned script x p f m z ⊎ (Asking script x p f k 0 m z ⊎ (Replying script x p f 1 m z ⊎ After script x p f k m z))

abbrev pub Answered : Script → ℕ → ℕ → ℕ → ℕ → ℕ → Progress → Type 0
Answered script x p f k m z = Replying script x p f 1 m z ⊎ After script x p f k m z

abbrev pub Asked : Script → ℕ → ℕ → ℕ → ℕ → ℕ → Progress → Type 0
Asked script x p f k m z = Asking script x p f k 0 m z ⊎ Answered script x p f k m z

module _ (script : Script) (x p f k : ℕ) where
  pub whole-in : (m : ℕ) (z : Progress) → HasWhole script x p z → After script x p f k m z
  whole-in zero z h = h
  whole-in (suc m) z h = inr (inr (inr (whole-in m z h)))

  pub settled-in : (m bound : ℕ) (z : Progress) → bound ≤ m → Settled script x p f bound z → After script x p f k m z
  settled-in m bound z low (inl whole) = whole-in m z whole
  settled-in zero bound z low (inr (most, turned, more)) = absurd (omega (arith, low, more))
  settled-in (suc m) bound z low (inr (most, (t, u, h, c, ms, it), more)) =
      let few = it.few in
      inl (t, u, h, c, ms, record { fresh = it.fresh; low = it.low; base = it.base; mark = it.mark; some = it.some; few = omega (arith, few, low, more) })

  -- more ticks may pass
  fresh-later : (t s : ℕ) (u : Sess) (h : Reader) (c : ℕ) (ms : List Mark) (z : Progress) → t ≤ s → IsFresh script x p f t u h c ms z → IsFresh script x p f s u h c ms z
  fresh-later t s u h c ms z low g =
      let budget = g.budget in
      record { port = g.port; there = g.there; inlet = g.inlet; chosen = g.chosen; budget = omega (arith, budget, low); marks = g.marks; ended = g.ended; number = g.number; sent = g.sent; batches = g.batches; truncations = g.truncations }

  replying-later : (t s m bound : ℕ) (z : Progress) → t ≤ s → m ≤ bound → Replying script x p f t m z → Replying script x p f s bound z
  replying-later t s m bound z low few (u, h, c, ms, n, it, free) =
      (u, h, c, ms, n, record { fresh = fresh-later t s u h c ms z low it.fresh; low = it.low; fits = it.fits; sent = it.sent; waits = it.waits }, omega (arith, few, free))

  pub answered-later : (t s m bound : ℕ) (z : Progress) → t ≤ s → m ≤ bound → Replying script x p f t m z ⊎ Settled script x p f m z → Replying script x p f s bound z ⊎ After script x p f k bound z
  answered-later t s m bound z low few (inl replying) = inl (replying-later t s m bound z low few replying)
  answered-later t s m bound z low few (inr settled) = inr (settled-in bound m z few settled)

  -- ---- what an event keeps

  replying-kept : (m : ℕ) (z : Progress) (e : Event) → MayGo script (IsSeen script x p f k) z e → Replying script x p f 1 m z → Replying script x p f 1 m (next_progress script z e) ⊎ After script x p f k m (next_progress script z e)
  replying-kept m z e may (u, h, c, ms, n, it, free) =
      (elim (is_delivery n e) as (λ b. is_delivery n e ≡ b → Replying script x p f 1 m (next_progress script z e) ⊎ After script x p f k m (next_progress script z e)) [
        | true ↦ λ d.
            let same = same-delivery n e may.quiet d in
            let settled = replied script x p f k 1 u h c ms n z (omega arith) (subst (MayGo script (IsSeen script x p f k) z) same may) it in
            inr (settled-in m (free_in ms) (next_progress script z e) free (subst (λ (g : Event). Settled script x p f (free_in ms) (next_progress script z g)) (sym same) settled))
        | false ↦ λ d. elim (replying-next script x p f k 1 u h c ms n z e (omega arith) may d it) [
          | inl on ↦ inl (u, h, c, ms, n, on, free)
          | inr settled ↦ inr (settled-in m (free_in ms) (next_progress script z e) free settled)
        ]
      ]) refl

  asking-kept : (m : ℕ) (z : Progress) (e : Event) → MayGo script (IsSeen script x p f k) z e → Asking script x p f k 0 m z → Asked script x p f k m (next_progress script z e)
  asking-kept m z e may (u, h, c, ms, n, it, free) =
      (elim (is_delivery n e) as (λ b. is_delivery n e ≡ b → Asked script x p f k m (next_progress script z e)) [
        | true ↦ λ d.
            let same = same-delivery n e may.quiet d in
            let answered = asked-now script x p f k 0 u h c ms n z (omega arith) (subst (MayGo script (IsSeen script x p f k) z) same may) it in
            subst (λ (g : Event). Asked script x p f k m (next_progress script z g)) (sym same) (inr (answered-later 0 1 (free_in ms) m (next_progress script z (Deliver n)) (omega arith) free answered))
        | false ↦ λ d. elim (asking-next script x p f k 0 u h c ms n z e (omega arith) may d it) [
          | inl on ↦ inl (u, h, c, ms, n, on, free)
          | inr answered ↦ inr (answered-later 0 1 (free_in ms) m (next_progress script z e) (omega arith) free answered)
        ]
      ]) refl

  pub after-kept : (m : ℕ) → Keeps script (IsSeen script x p f k) (After script x p f k m)
  after-kept zero z e may h = whole-kept script x p f k z e may h
  after-kept (suc m) z e may (inl turned) = elim (turned-next script x p f k m z e may turned) [ inl on ↦ inl on | inr (inl whole) ↦ whole-in (suc m) (next_progress script z e) whole | inr (inr asking) ↦ inr (inl asking) ]
  after-kept (suc m) z e may (inr (inl asking)) = inr (asking-kept m z e may asking)
  after-kept (suc m) z e may (inr (inr (inl replying))) = inr (inr (replying-kept m z e may replying))
  after-kept (suc m) z e may (inr (inr (inr rest))) = inr (inr (inr (after-kept m z e may rest)))

  pub answered-kept : (m : ℕ) → Keeps script (IsSeen script x p f k) (Answered script x p f k m)
  answered-kept m z e may (inl replying) = replying-kept m z e may replying
  answered-kept m z e may (inr rest) = inr (after-kept m z e may rest)

  pub asked-kept : (m : ℕ) → Keeps script (IsSeen script x p f k) (Asked script x p f k m)
  asked-kept m z e may (inl asking) = asking-kept m z e may asking
  asked-kept m z e may (inr rest) = inr (answered-kept m z e may rest)
