-- A port that misses something finds it out: a beat shows the fault, or three ticks bring no answer.
use Rattle.std.proofs.Common.{◌≡◌, ℕ, zero, suc, ◌+◌, ◌≤◌, Bool, true, false, not, ◌&&◌, ◌||◌, nat_le, min, refl, sym, ap, subst, ◌∙◌, arith, Option, Some, None, slice_get, ◌⊎◌, inl, inr}
use Rattle.dpc_model.specs.Reading.{is_sure}
use Rattle.dpc_model.specs.Inlets.{InletState, is_newer, after_tally}
use Rattle.dpc_model.specs.Ports.{Port}
use Rattle.dpc_model.specs.Sessions.{is_newer_than_kept, tally_of}
use Rattle.dpc_model.specs.declared.sessions.Sub.{Sub}
use Rattle.dpc_model.specs.declared.messages.Event.{Event}
use Rattle.dpc_model.specs.declared.messages.Event.TheVariants.{Deliver, Tick}
use Rattle.dpc_model.specs.declared.messages.Sess.{Sess}
use Rattle.dpc_model.specs.declared.scripts.Script.{Script}
use Rattle.node_model.specs.Mails.{mail}
use Rattle.node_model.specs.Sources.{source_beat}
use Rattle.world_model.specs.Worlds.{Envelope, from, happens}
use Rattle.world_model.specs.Schedules.{Progress, next_progress}
use Rattle.dpc_lists.proofs.Truths.{le-test}
use Rattle.dpc_model.proofs.Alike.{same_sess-eq, newer-trans}
use Rattle.law_granting.specs.Taken.{port_of}
use Rattle.world_model.specs.Events.{is_delivery}
use Rattle.law_settling.proofs.Waitings.{waits, waits-on}
use Rattle.law_settling.proofs.Rules.{MayGo}
use Rattle.law_settling.proofs.Going.{InletGoes, Stays, TakesIn, TicksOn, took-now}
use Rattle.law_settling.proofs.Sourcing.{sub_at, SourceGoes, Keeps as KeepsSub, Opens, source-goes, beats-now}
use Rattle.law_settling.proofs.Full.{tally-parts}
use Rattle.law_settling.proofs.Standing.{old-kept}
use Rattle.law_settling.proofs.Readings.{after-broken, after-answered, tally-says, none-says}
use Rattle.law_settling.proofs.Fresh.{IsSeen, HasWhole, Coming, new-waits, still-sent, Reopens, Holds, port-next, ticked-says, ticks-now}
use Rattle.law_settling.proofs.Reopening.{can-here, reopens}

-- a batch is missing
pub record IsBroken (x p : ℕ) (z : Progress) : Type 0 where
  pub port : Port
  pub there : port_of z.world x p ≡ Some port
  pub broken : port.inlet.broken ≡ true

-- the session was answered
pub record IsAnswered (x p : ℕ) (z : Progress) : Type 0 where
  pub port : Port
  pub there : port_of z.world x p ≡ Some port
  pub answered : port.inlet.answered ≡ true

-- the session was not answered, so many ticks after it was asked for
pub record IsSlow (x p i : ℕ) (z : Progress) : Type 0 where
  pub port : Port
  pub there : port_of z.world x p ≡ Some port
  pub answered : port.inlet.answered ≡ false
  pub ticks : i ≤ port.ticks

-- what a beat told of a session still holds, or a newer one is kept
abbrev pub IsTold : Option (Sess × ℕ) → Sub → Type 0
IsTold None sub = Unit {0}
IsTold (Some l) sub = (tally_of sub ≡ Some l) ⊎ ((c : Sess) × (sub.kept ≡ Some c) × (is_newer c l.0 ≡ true))

-- a tick that opens no session anew is not the third
pub below : (n : ℕ) → nat_le 3 (min 3 (n + 1)) ≡ false → n + 1 ≤ 2
below zero e = omega arith
below (suc zero) e = omega arith
below (suc (suc n)) e =
    let test = le-test 3 (min 3 (suc (suc n) + 1)) (omega arith) in
    let clash : true ≡ false = sym test ∙ e in cc

pub told-of : (l : Option (Sess × ℕ)) (sub : Sub) → tally_of sub ≡ l → IsTold l sub
told-of None sub e = tt
told-of (Some l) sub e = inl e

-- the session was answered, and a beat of the source waits
pub record IsHearing (x p s k : ℕ) (n : ℕ) (tally : Option (Sess × ℕ)) (z : Progress) : Type 0 where
  pub answered : IsAnswered x p z
  pub sent : slice_get z.world.envelopes n ≡ Some (from s (mail x (source_beat tally)))
  pub waits : waits n z.waiting ≡ true
  pub told : IsTold tally (sub_at z.world s k)

abbrev pub Hearing : ℕ → ℕ → ℕ → ℕ → Progress → Type 0
Hearing x p s k z = (n : ℕ) × (tally : Option (Sess × ℕ)) × IsHearing x p s k n tally z

or-known : (a b : Bool) → a ≡ true → (a || b) ≡ false → ⊥
or-known a b e f = let clash : true ≡ false = sym (ap (λ c. c || b) e) ∙ f in cc

module _ (script : Script) (x p s k : ℕ) where
  -- ---- a broken port

  pub broken-next : (z : Progress) (e : Event) → MayGo script (IsSeen script x p s k) z e → IsBroken x p z → IsBroken x p (next_progress script z e) ⊎ Coming script x p s k (next_progress script z e)
  broken-next z e may h =
      let k_next = port-next script x p s k z e may h.port h.there in
      by-goes k_next.0 k_next.1 k_next.2
    where
      by-goes : (r : Port) → port_of (happens z.world e) x p ≡ Some r → InletGoes z.world x p s e (happens z.world e) h.port r → IsBroken x p (next_progress script z e) ⊎ Coming script x p s k (next_progress script z e)
      by-goes r now (Stays with_it) = inl (record { port = r; there = now; broken = ap (λ (i : InletState). i.broken) with_it.inlet_is ∙ h.broken })
      by-goes r now (TakesIn j f is at to sender with_it) = inl (record { port = r; there = now; broken = ap (λ (i : InletState). i.broken) with_it.inlet_is ∙ after-broken f.packet h.port.inlet h.broken })
      by-goes r now (TicksOn clock is ticked) =
          elim (ticked-says script x p s k z e may h.port r h.there now ticked) [
            | Reopens must why inlet ticks ↦ inr (reopens script x p s k z e clock h.port r is may h.there now ticked must inlet ticks)
            | Holds whole waits inlet ticks ↦ let clash : true ≡ false = sym h.broken ∙ whole in cc
          ]

  pub broken-ticks : (z : Progress) (now : ℕ) → MayGo script (IsSeen script x p s k) z (Tick x now) → IsBroken x p z → Coming script x p s k (next_progress script z (Tick x now))
  broken-ticks z now may h =
      let r = ticks-now script x p s k z now may h.port h.there in
      elim (ticked-says script x p s k z (Tick x now) may h.port r.0 h.there r.1 r.2) [
        | Reopens must why inlet ticks ↦ reopens script x p s k z (Tick x now) now h.port r.0 refl may h.there r.1 r.2 must inlet ticks
        | Holds whole waits inlet ticks ↦ let clash : true ≡ false = sym h.broken ∙ whole in cc
      ]

  -- ---- an answered port

  pub answered-next : (z : Progress) (e : Event) → MayGo script (IsSeen script x p s k) z e → IsAnswered x p z → IsAnswered x p (next_progress script z e) ⊎ Coming script x p s k (next_progress script z e)
  answered-next z e may h =
      let k_next = port-next script x p s k z e may h.port h.there in
      by-goes k_next.0 k_next.1 k_next.2
    where
      by-goes : (r : Port) → port_of (happens z.world e) x p ≡ Some r → InletGoes z.world x p s e (happens z.world e) h.port r → IsAnswered x p (next_progress script z e) ⊎ Coming script x p s k (next_progress script z e)
      by-goes r now (Stays with_it) = inl (record { port = r; there = now; answered = ap (λ (i : InletState). i.answered) with_it.inlet_is ∙ h.answered })
      by-goes r now (TakesIn j f is at to sender with_it) = inl (record { port = r; there = now; answered = ap (λ (i : InletState). i.answered) with_it.inlet_is ∙ after-answered f.packet h.port.inlet h.answered })
      by-goes r now (TicksOn clock is ticked) =
          elim (ticked-says script x p s k z e may h.port r h.there now ticked) [
            | Reopens must why inlet ticks ↦ inr (reopens script x p s k z e clock h.port r is may h.there now ticked must inlet ticks)
            | Holds whole waits inlet ticks ↦ inl (record { port = r; there = now; answered = ap (λ (i : InletState). i.answered) inlet ∙ h.answered })
          ]

  -- ---- a port that is not answered

  pub slow-next : (i : ℕ) → i ≤ 3 → (z : Progress) (e : Event) → MayGo script (IsSeen script x p s k) z e → IsSlow x p i z → IsSlow x p i (next_progress script z e) ⊎ (IsAnswered x p (next_progress script z e) ⊎ Coming script x p s k (next_progress script z e))
  slow-next i few z e may h =
      let k_next = port-next script x p s k z e may h.port h.there in
      by-goes k_next.0 k_next.1 k_next.2
    where
      by-answer : (r : Port) → port_of (happens z.world e) x p ≡ Some r → i ≤ r.ticks → IsSlow x p i (next_progress script z e) ⊎ (IsAnswered x p (next_progress script z e) ⊎ Coming script x p s k (next_progress script z e))
      by-answer r now low =
          (elim r.inlet.answered as (λ b. r.inlet.answered ≡ b → IsSlow x p i (next_progress script z e) ⊎ (IsAnswered x p (next_progress script z e) ⊎ Coming script x p s k (next_progress script z e))) [
            | true ↦ λ a. inr (inl (record { port = r; there = now; answered = a }))
            | false ↦ λ a. inl (record { port = r; there = now; answered = a; ticks = low })
          ]) refl

      by-goes : (r : Port) → port_of (happens z.world e) x p ≡ Some r → InletGoes z.world x p s e (happens z.world e) h.port r → IsSlow x p i (next_progress script z e) ⊎ (IsAnswered x p (next_progress script z e) ⊎ Coming script x p s k (next_progress script z e))
      by-goes r now (Stays with_it) = let same = with_it.ticks in let low = h.ticks in by-answer r now (omega (arith, same, low))
      by-goes r now (TakesIn j f is at to sender with_it) = let same = with_it.ticks in let low = h.ticks in by-answer r now (omega (arith, same, low))
      by-goes r now (TicksOn clock is ticked) =
          elim (ticked-says script x p s k z e may h.port r h.there now ticked) [
            | Reopens must why inlet ticks ↦ inr (inr (reopens script x p s k z e clock h.port r is may h.there now ticked must inlet ticks))
            | Holds whole waits inlet ticks ↦ let low = h.ticks in by-answer r now (omega (arith, ticks, low, few))
          ]

  -- at its tick one more is counted, and the third opens the session anew
  pub slow-ticks : (i : ℕ) (z : Progress) (now : ℕ) → MayGo script (IsSeen script x p s k) z (Tick x now) → IsSlow x p i z → ((i + 1 ≤ 2) × IsSlow x p (i + 1) (next_progress script z (Tick x now))) ⊎ Coming script x p s k (next_progress script z (Tick x now))
  slow-ticks i z now may h =
      let r = ticks-now script x p s k z now may h.port h.there in
      elim (ticked-says script x p s k z (Tick x now) may h.port r.0 h.there r.1 r.2) [
        | Reopens must why inlet ticks ↦ inr (reopens script x p s k z (Tick x now) now h.port r.0 refl may h.there r.1 r.2 must inlet ticks)
        | Holds whole waits inlet ticks ↦
            let low = h.ticks in
            let few : nat_le 3 (min 3 (h.port.ticks + 1)) ≡ false = sym (ap (λ (b : Bool). not b && nat_le 3 (min 3 (h.port.ticks + 1))) h.answered) ∙ waits in
            let early : h.port.ticks + 1 ≤ 2 = below h.port.ticks few in
            inl (omega (arith, early, low), record { port = r.0; there = r.1; answered = ap (λ (j : InletState). j.answered) inlet ∙ h.answered; ticks = omega (arith, ticks, low, early) })
      ]

  -- ---- a beat

  told-next : (tally : Option (Sess × ℕ)) (z : Progress) (e : Event) → SourceGoes z.world x s k (happens z.world e) → IsTold tally (sub_at z.world s k) → IsTold tally (sub_at (happens z.world e) s k)
  told-next None z e goes told = tt
  told-next (Some l) z e (KeepsSub sub none) told = subst (λ (y : Sub). IsTold (Some l) y) (sym sub) told
  told-next (Some l) z e (Opens m g v at who back asks newer opened sends) told =
      inr (
        v.sess,
        ap (λ (y : Sub). y.kept) opened,
        elim told [
          | inl still ↦ let kept = (tally-parts (sub_at z.world s k) l.0 l.1 still).0 in sym (ap (λ (o : Option Sess). is_newer_than_kept v.sess o) kept) ∙ newer
          | inr past ↦ newer-trans v.sess past.0 l.0 (sym (ap (λ (o : Option Sess). is_newer_than_kept v.sess o) past.1) ∙ newer) past.2
        ],
      )

  -- a beat that comes shows the fault, or there is none
  pub heard-now : (n : ℕ) (tally : Option (Sess × ℕ)) (z : Progress) → MayGo script (IsSeen script x p s k) z (Deliver n) → IsHearing x p s k n tally z → IsBroken x p (next_progress script z (Deliver n)) ⊎ HasWhole script x p (next_progress script z (Deliver n))
  heard-now n tally z may h =
      let st = may.here.stand in
      let q = h.answered.port in
      let f : Envelope = from s (mail x (source_beat tally)) in
      let r = took-now z.world st.most x p s k st.fine st.many st.line st.calm n f h.sent (can-here script x p s k z n f may.here h.sent) refl refl may.next.stand.calm q h.answered.there in
      by-tally tally r.0 r.1 r.2.inlet_is h.told
    where
      by-tally : (l : Option (Sess × ℕ)) (r : Port) → port_of (happens z.world (Deliver n)) x p ≡ Some r → r.inlet ≡ after_tally h.answered.port.inlet l → IsTold l (sub_at z.world s k) → IsBroken x p (next_progress script z (Deliver n)) ⊎ HasWhole script x p (next_progress script z (Deliver n))
      by-tally None r now inlet told = inl (record { port = r; there = now; broken = ap (λ (i : InletState). i.broken) inlet ∙ none-says h.answered.port.inlet h.answered.answered })
      by-tally (Some l) r now inlet told =
          let st = may.here.stand in
          let q = h.answered.port in
          elim (tally-says q.inlet l.0 l.1 h.answered.answered) [
            | inl broken ↦ inl (record { port = r; there = now; broken = ap (λ (i : InletState). i.broken) inlet ∙ broken })
            | inr says ↦
                let sess : l.0 ≡ q.inlet.sess = same_sess-eq l.0 q.inlet.sess says.1 in
                elim told [
                  | inl still ↦
                      let link_is : tally_of (sub_at z.world s k) ≡ Some (q.inlet.sess, l.1) = still ∙ ap {B = Option (Sess × ℕ)} (λ (y : Sess). Some (y, l.1)) sess in
                      let bound = st.took q l.1 h.answered.there says.0 link_is says.2 in
                      inr (record { port = r; there = now; bound = ap (λ (i : InletState). i.held.bound) inlet ∙ bound.0; sure = ap (λ (i : InletState). is_sure i.held) inlet ∙ bound.1 })
                  | inr past ↦
                      let old = old-kept script.plan x p s k z.world st q h.answered.there past.0 past.1 in
                      let new : is_newer past.0 q.inlet.sess ≡ true = subst (λ (y : Sess). is_newer past.0 y ≡ true) sess past.2 in
                      let clash : true ≡ false = sym new ∙ old in cc
                ]
          ]

  pub hearing-next : (n : ℕ) (tally : Option (Sess × ℕ)) (z : Progress) (e : Event) → MayGo script (IsSeen script x p s k) z e → is_delivery n e ≡ false → IsHearing x p s k n tally z → IsHearing x p s k n tally (next_progress script z e) ⊎ Coming script x p s k (next_progress script z e)
  hearing-next n tally z e may other h =
      let st = may.here.stand in
      elim (answered-next z e may h.answered) [
        | inr coming ↦ inr coming
        | inl answered ↦ inl (record {
          answered = answered;
          sent = still-sent z.world e n _ h.sent;
          waits = waits-on script z e n may.quiet other h.waits;
          told = told-next tally z e (source-goes z.world st.most x p s k st.fine st.line st.within e may.quiet) h.told;
        })
      ]

  -- at its tick the source sends a beat
  pub source-beats : (z : Progress) (now : ℕ) → MayGo script (IsSeen script x p s k) z (Tick s now) → IsAnswered x p z → Hearing x p s k (next_progress script z (Tick s now)) ⊎ Coming script x p s k (next_progress script z (Tick s now))
  source-beats z now may h =
      let st = may.here.stand in
      let b = beats-now z.world st.most x p s k st.fine st.line st.within now (may.here.clocked s now may.may) in
      let tally = tally_of (sub_at z.world s k) in
      elim (answered-next z (Tick s now) may h) [
        | inr coming ↦ inr coming
        | inl answered ↦ inl (
          b.0,
          tally,
          record {
            answered = answered;
            sent = b.1;
            waits = new-waits script z (Tick s now) b.0 _ b.2 b.1;
            told = told-of tally (sub_at (happens z.world (Tick s now)) s k) (ap (λ (y : Sub). tally_of y) b.3);
          },
        )
      ]
