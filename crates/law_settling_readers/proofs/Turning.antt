-- From a port that asked a replica to one that has the whole, or turns to another replica.
use Rattle.std.proofs.Common.{◌≡◌, ℕ, ◌+◌, ◌<◌, ◌≤◌, min, Bool, true, false, cond, not, ◌&&◌, ◌||◌, ◌==◌, nat_le, List, map, length, refl, sym, ap, subst, ◌∙◌, arith, Some, None, ◌⊎◌, inl, inr}
use Rattle.std.proofs.lemmas.List.{length-map}
use Rattle.dpc_lists.specs.Lists.{nth, has}
use Rattle.dpc_model.specs.Reading.{Reader}
use Rattle.dpc_model.specs.Inlets.{InletState}
use Rattle.dpc_model.specs.Ports.{Port, choice_at, must_reopen}
use Rattle.dpc_model.specs.Replicas.{Watch, unmarked_at}
use Rattle.dpc_model.specs.declared.messages.Event.{Event}
use Rattle.dpc_model.specs.declared.messages.Event.TheVariants.{Tick}
use Rattle.dpc_model.specs.declared.messages.Sess.{Sess}
use Rattle.dpc_model.specs.declared.plans.StreamRef.TheVariants.{Frag}
use Rattle.dpc_model.specs.declared.scripts.Script.{Script}
use Rattle.world_model.specs.Worlds.{happens}
use Rattle.world_model.specs.Schedules.{Progress, next_progress, may_follow}
use Rattle.dpc_lists.proofs.Truths.{eq-of, eq-test}
use Rattle.dpc_lists.proofs.Elements.{nth-here}
use Rattle.law_granting.specs.Taken.{port_of}
use Rattle.law_settling.proofs.Fresh.{HasWhole, tick_count, Reopens, Holds, stay-says, still-sent}
use Rattle.law_settling.proofs.Reopening.{not-ticked, early}
use Rattle.law_settling.proofs.Rules.{MayGo}
use Rattle.law_settling.proofs.Ticking.{before_choice}
use Rattle.law_settling_readers.proofs.Marks.{Mark, marks_of, free_in, Fits, free-marked, free-fewer, heard-stays, heard-turns}
use Rattle.law_settling.proofs.PortGoing.{HasTicked}
use Rattle.law_settling_readers.proofs.Reading.{replicas_in, IsSeen}
use Rattle.law_settling_readers.proofs.Freshly.{IsFresh, batches-next, truncations-next}
use Rattle.law_settling_readers.proofs.Freshening.{FreshGoes, marked_at, fresh-goes}
use Rattle.law_settling_readers.proofs.Reasking.{Asking, ticked-marks-are, heard-then, reopens}

-- what the port asked replica c for is forgotten there, but not by each replica
pub record IsTurned (script : Script) (x p f t : ℕ) (u : Sess) (h : Reader) (c most : ℕ) (ms : List Mark) (z : Progress) : Type 0 where
  pub fresh : IsFresh script x p f t u h c ms z
  pub low : c < replicas_in script.plan f
  pub base : ℕ
  pub mark : nth None ms c ≡ Some base
  pub some : 1 ≤ free_in ms
  pub few : free_in ms ≤ most

abbrev pub Turned : Script → ℕ → ℕ → ℕ → ℕ → Progress → Type 0
Turned script x p f most z = (t : ℕ) × (u : Sess) × (h : Reader) × (c : ℕ) × (ms : List Mark) × IsTurned script x p f t u h c most ms z

module _ (script : Script) (x p f k : ℕ) where
  abbrev Goes : Progress → Event → Type 0
  Goes z e = MayGo script (IsSeen script x p f k) z e

  pub marks-low : (t : ℕ) (u : Sess) (h : Reader) (c : ℕ) (ms : List Mark) (z : Progress) → IsSeen script x p f k z → IsFresh script x p f t u h c ms z → c < length ms
  marks-low t u h c ms z seen fresh =
      let watched = (seen.stand.watched fresh.port fresh.there).0 in
      let many = length-map fresh.port.watches (λ (w : Watch). w.truncated) in
      let same = ap {B = ℕ} (λ (xs : List Mark). length xs) fresh.marks in
      let chosen = fresh.chosen in
      omega (arith, watched, many, same, chosen)

  -- the marks as its tick leaves them
  then-marks : (t : ℕ) (u : Sess) (h : Reader) (c : ℕ) (ms : List Mark) (z : Progress) → (fresh : IsFresh script x p f t u h c ms z) → marks_of (before_choice fresh.port).watches ≡ ms
  then-marks t u h c ms z fresh =
      ticked-marks-are fresh.port ∙ ap (λ (i : InletState). map (unmarked_at (length i.held.stable)) (marks_of fresh.port.watches)) fresh.inlet ∙ ap (λ (xs : List Mark). map (unmarked_at (length h.stable)) xs) fresh.marks ∙ fresh.ended

  -- where the replica that it asked truncated nothing: an event
  pub fits-next : (t : ℕ) (u : Sess) (h : Reader) (c : ℕ) (ms : List Mark) (z : Progress) (e : Event) → t ≤ 2 → Goes z e → IsFresh script x p f t u h c ms z → c < replicas_in script.plan f → Fits c ms →
      IsFresh script x p f t u h c ms (next_progress script z e) ⊎ (HasWhole script x p (next_progress script z e) ⊎ ((most : ℕ) × Turned script x p f most (next_progress script z e) × (most + 1 ≤ free_in ms)))
  fits-next t u h c ms z e few may fresh low fits = by-goes (fresh-goes script x p f k t u h c ms z e may fresh low)
    where
      Out : Type 0
      Out = IsFresh script x p f t u h c ms (next_progress script z e) ⊎ (HasWhole script x p (next_progress script z e) ⊎ ((most : ℕ) × Turned script x p f most (next_progress script z e) × (most + 1 ≤ free_in ms)))

      fewer : (base : ℕ) → 1 ≤ free_in (marked_at c base ms) → Fits c ms → free_in (marked_at c base ms) + 1 ≤ free_in ms
      fewer base some (inl none) = free-fewer c base ms (marks-low t u h c ms z may.here fresh) none
      fewer base some (inr all) = let less = free-marked c base ms in absurd (omega (arith, some, less, all))

      ticks : (now : ℕ) (r : Port) → e ≡ Tick x now → port_of (happens z.world e) x p ≡ Some r → HasTicked z.world x (Frag f) (happens z.world e) fresh.port r → Out
      ticks now r event there ticked =
          let q = fresh.port in
          let heard = heard-then script x p f k z e may q r fresh.there there ticked.port in
          let marks = then-marks t u h c ms z fresh in
          let fits_then : Fits (before_choice q).chosen (marks_of (before_choice q).watches) = subst (λ (xs : List Mark). Fits (before_choice q).chosen xs) (sym marks) (subst (λ (i : ℕ). Fits i ms) (sym fresh.chosen) fits) in
          let choice : choice_at (before_choice q) ≡ q.chosen = heard-stays (before_choice q) heard.0 heard.1 fits_then in
          let old = not-ticked script z x now (subst (λ (d : Event). may_follow script z d ≡ true) event may.may) in
          let before : tick_count x z ≡ 0 = ap (λ (b : Bool). cond {A = ℕ} b 1 0) old in
          let after : tick_count x (next_progress script z e) ≡ 1 = ap (λ (d : Event). tick_count x (next_progress script z d)) event ∙ ap (λ (b : Bool). cond {A = ℕ} (b || has z.ticked x) 1 0) (eq-test x x refl) in
          let budget = fresh.budget in
          let early_tick : q.ticks ≤ 1 = omega (arith, budget, before, few) in
          elim (stay-says q r ticked.port choice) [
            | Reopens must why inlet later ↦ absurd (early q.ticks early_tick (sym (ap (λ (i : InletState). i.broken || (not i.answered && nat_le 3 (min 3 (q.ticks + 1)))) fresh.inlet) ∙ why))
            | Holds whole waits inlet later ↦ inl (record {
              port = r;
              there = there;
              inlet = inlet ∙ fresh.inlet;
              chosen = ap (λ (v : Port). v.chosen) ticked.port ∙ choice ∙ fresh.chosen;
              budget = omega (arith, later, budget, before, after);
              marks = ap (λ (v : Port). marks_of v.watches) ticked.port ∙ marks;
              ended = fresh.ended;
              number = fresh.number;
              sent = still-sent z.world e fresh.number _ fresh.sent;
              batches = batches-next script x p f k t u h c ms z e may fresh low;
              truncations = truncations-next script x p f k t u h c ms z e may fresh low;
            })
          ]

      by-goes : FreshGoes script x p f t u h c ms z e fresh.port → Out
      by-goes (FreshGoes.Waits on) = inl on
      by-goes (FreshGoes.Whole all) = inr (inl all)
      by-goes (FreshGoes.Marked base on some) =
          let mark : nth None (marked_at c base ms) c ≡ Some base = nth-here None c (λ _. Some base) ms (marks-low t u h c ms z may.here fresh) in
          inr (inr (free_in (marked_at c base ms), (t, u, h, c, marked_at c base ms, record { fresh = on; low = low; base = base; mark = mark; some = some; few = omega arith }), fewer base some fits))
      by-goes (FreshGoes.Ticks now r event there ticked) = ticks now r event there ticked

  -- where it truncated, a tick turns to another one
  pub turns : (most t : ℕ) (u : Sess) (h : Reader) (c : ℕ) (ms : List Mark) (z : Progress) (e : Event) (may : Goes z e) (turned : IsTurned script x p f t u h c most ms z) (now : ℕ) (r : Port) → e ≡ Tick x now → port_of (happens z.world e) x p ≡ Some r →
      HasTicked z.world x (Frag f) (happens z.world e) turned.fresh.port r → Asking script x p f k 0 most (next_progress script z e)
  turns most t u h c ms z e may turned now r event there ticked =
      let q = turned.fresh.port in
      let y = before_choice q in
      let heard = heard-then script x p f k z e may q r turned.fresh.there there ticked.port in
      let marks = then-marks t u h c ms z turned.fresh in
      let mark : nth None (marks_of y.watches) y.chosen ≡ Some turned.base = ap (λ (xs : List Mark). nth None xs y.chosen) marks ∙ ap (λ (i : ℕ). nth None ms i) turned.fresh.chosen ∙ turned.mark in
      let some : 1 ≤ free_in (marks_of y.watches) = subst (λ (xs : List Mark). 1 ≤ free_in xs) (sym marks) turned.some in
      let other = heard-turns y heard.0 heard.1 turned.base mark some in
      let asking = reopens script x p f k z e now q r event may turned.fresh.there there ticked (must y mark other.1) in
      let few = turned.few in
      let same = ap free_in marks in
      (asking.0, asking.1, asking.2, asking.3, asking.4, asking.5, let low = asking.6 in omega (arith, low, few, same))
    where
      must : (y : Port) → nth None (marks_of y.watches) y.chosen ≡ Some turned.base → nth None (marks_of y.watches) (choice_at y) ≡ None → must_reopen y ≡ true
      must y mark none = by-test (choice_at y == y.chosen) refl
        where
          by-test : (b : Bool) → (choice_at y == y.chosen) ≡ b → must_reopen y ≡ true
          by-test false e = ap (λ (b : Bool). not b || y.inlet.broken || (not y.inlet.answered && nat_le 3 y.ticks)) e
          by-test true e =
              let same = eq-of (choice_at y) y.chosen e in
              let clash : ◌≡◌ {A = Mark} None (Some turned.base) = sym none ∙ ap (λ (i : ℕ). nth None (marks_of y.watches) i) same ∙ mark in cc

  -- where it truncated: an event
  pub turned-next : (most : ℕ) (z : Progress) (e : Event) → Goes z e → Turned script x p f most z → Turned script x p f most (next_progress script z e) ⊎ (HasWhole script x p (next_progress script z e) ⊎ Asking script x p f k 0 most (next_progress script z e))
  turned-next most z e may (t, u, h, c, ms, turned) = by-goes (fresh-goes script x p f k t u h c ms z e may turned.fresh turned.low)
    where
      by-goes : FreshGoes script x p f t u h c ms z e turned.fresh.port → Turned script x p f most (next_progress script z e) ⊎ (HasWhole script x p (next_progress script z e) ⊎ Asking script x p f k 0 most (next_progress script z e))
      by-goes (FreshGoes.Waits on) = inl (t, u, h, c, ms, record { fresh = on; low = turned.low; base = turned.base; mark = turned.mark; some = turned.some; few = turned.few })
      by-goes (FreshGoes.Whole all) = inr (inl all)
      by-goes (FreshGoes.Marked base on some) =
          let mark : nth None (marked_at c base ms) c ≡ Some base = nth-here None c (λ _. Some base) ms (marks-low t u h c ms z may.here turned.fresh) in
          let less = free-marked c base ms in
          let few = turned.few in
          inl (t, u, h, c, marked_at c base ms, record { fresh = on; low = turned.low; base = base; mark = mark; some = some; few = omega (arith, less, few) })
      by-goes (FreshGoes.Ticks now r event there ticked) = inr (inr (turns most t u h c ms z e may turned now r event there ticked))
