-- A port that asked its source anew, until it has the whole of it.
use Rattle.std.proofs.Common.{◌≡◌, ℕ, zero, suc, ◌+◌, ◌-◌, ◌<◌, ◌≤◌, Bool, true, false, cond, not, ◌&&◌, ◌||◌, ◌==◌, nat_le, min, List, [], ◌∷◌, ◌++◌, map, length, refl, sym, ap, ◌∙◌, arith, Some, slice_get, ◌⊎◌}
use Rattle.std.proofs.lemmas.Option.{slice_get_within}
use Rattle.dpc_lists.specs.Lists.{has, list_any, range_with_len}
use Rattle.dpc_model.specs.Reading.{Reader, Folded, fold_items, is_sure}
use Rattle.dpc_model.specs.Inlets.{InletState, same_sess, with_next_session}
use Rattle.dpc_model.specs.Ports.{Port, choice_at, must_reopen, port_after_choice}
use Rattle.dpc_model.specs.Sessions.{is_newer_than_kept}
use Rattle.dpc_model.specs.declared.tuples.Item.{Item}
use Rattle.dpc_model.specs.declared.messages.Event.{Event}
use Rattle.dpc_model.specs.declared.messages.Event.TheVariants.{Phase, Emit, Release, Cut, Heal, Crash, Restart, Deliver, Tick, Mill}
use Rattle.dpc_model.specs.declared.messages.Sess.{Sess}
use Rattle.dpc_model.specs.declared.messages.Message.TheVariants as message
use Rattle.dpc_model.specs.declared.scripts.Script.{Script}
use Rattle.dpc_lists.proofs.Elements.{get-first}
use Rattle.node_model.specs.Mails.{Plain}
use Rattle.world_model.specs.Worlds.{World, Envelope, happens}
use Rattle.world_model.specs.Schedules.{Undelivered, Progress, next_progress, noting, newly_sent, may_follow}
use Rattle.dpc_lists.proofs.Truths.{eq-test, neither}
use Rattle.law_safety.proofs.Growing.{event-grows}
use Rattle.law_granting.specs.Taken.{port_of}
use Rattle.law_schedules.specs.Journals.{Ticks}
use Rattle.world_model.specs.Events.{is_quiet}
use Rattle.law_settling.proofs.Splitting.{IsQuietAt}
use Rattle.law_settling.proofs.Waitings.{waits}
use Rattle.law_settling.proofs.Rules.{MayGo, Keeps}
use Rattle.law_settling.proofs.Ticking.{before_choice}
use Rattle.dpc_model.specs.declared.plans.StreamRef.TheVariants.{Source}
use Rattle.law_settling.proofs.PortGoing.{HasTicked}
use Rattle.law_settling.proofs.PortNow.{tick-now}
use Rattle.law_settling.proofs.Going.{InletGoes, chosen-first, inlet-goes}
use Rattle.law_settling.proofs.Sourcing.{sub_at}
use Rattle.law_settling.proofs.Full.{asks_with}
use Rattle.law_settling.proofs.Standing.{asked_inlet, Stand}
use Rattle.law_settling.proofs.Sure.{after-sure}
use Rattle.law_settling.proofs.Readings.{after-bound}

-- a good state, as the port sees it
pub record IsSeen (script : Script) (x p s k : ℕ) (z : Progress) : Type 0 where
  pub stand : Stand script.plan x p s k z.world
  pub at : IsQuietAt script z
  pub clocked : (a now : ℕ) → may_follow script z (Tick a now) ≡ true → Ticks z.world a now
  pub port : Port
  pub there : port_of z.world x p ≡ Some port

-- nothing is missing
pub record HasWhole (script : Script) (x p : ℕ) (z : Progress) : Type 0 where
  pub port : Port
  pub there : port_of z.world x p ≡ Some port
  pub bound : port.inlet.held.bound ≡ script.plan.end
  pub sure : is_sure port.inlet.held ≡ true

-- the number of the reader's ticks in this phase
abbrev pub tick_count : ℕ → Progress → ℕ
tick_count x z = cond (has z.ticked x) 1 0

-- a reader ticks once in a phase at most
pub ticks-few : (x : ℕ) (z : Progress) → tick_count x z ≤ 1
ticks-few x z = elim (has z.ticked x) as (λ b. cond {A = ℕ} b 1 0 ≤ 1) [ true ↦ omega arith | false ↦ omega arith ]

-- the number of ticks does not fall in a phase
pub ticks-grow : (script : Script) (x : ℕ) (z : Progress) (e : Event) → is_quiet e ≡ true → tick_count x z ≤ tick_count x (next_progress script z e)
ticks-grow script x z (Phase q) quiet = cc
ticks-grow script x z (Emit a t) quiet = omega arith
ticks-grow script x z (Release a t) quiet = omega arith
ticks-grow script x z (Cut a b) quiet = omega arith
ticks-grow script x z (Heal a b) quiet = omega arith
ticks-grow script x z (Crash a) quiet = omega arith
ticks-grow script x z (Restart a i) quiet = omega arith
ticks-grow script x z (Deliver j) quiet = omega arith
ticks-grow script x z (Mill a r) quiet = omega arith
ticks-grow script x z (Tick a now) quiet = by-test (a == x) (has z.ticked x)
  where
    by-test : (b c : Bool) → cond {A = ℕ} c 1 0 ≤ cond {A = ℕ} (b || c) 1 0
    by-test true true = omega arith
    by-test true false = omega arith
    by-test false true = omega arith
    by-test false false = omega arith

-- the items are read from here, and leave the whole
abbrev pub Completes : Script → Reader → List Item → Type 0
Completes script h items = (g : Folded) × (fold_items h items ≡ Some g) × (g.after.bound ≡ script.plan.end) × (is_sure g.after ≡ true)

-- the port asked in this session, with what it holds, and any batch of it is the answer
pub record IsFresh (script : Script) (x p s t : ℕ) (u : Sess) (h : Reader) (z : Progress) : Type 0 where
  pub port : Port
  pub there : port_of z.world x p ≡ Some port
  pub inlet : port.inlet ≡ asked_inlet h u
  pub budget : port.ticks + 1 ≤ t + tick_count x z
  pub batches : (j : ℕ) (f : Envelope) (v : Sess) (i : ℕ) (items : List Item) → slice_get z.world.envelopes j ≡ Some f → f.sender ≡ s → f.to ≡ x → f.packet ≡ Plain (message.Batch v i items) → same_sess v u ≡ true → (i ≡ 0) × Completes script h items

-- its subscription waits
pub record IsAsking (script : Script) (x p s k t : ℕ) (u : Sess) (h : Reader) (n : ℕ) (z : Progress) : Type 0 where
  pub fresh : IsFresh script x p s t u h z
  pub sent : slice_get z.world.envelopes n ≡ Some (record { sender = x; to = s; packet = Plain (message.Subscribe (asks_with u h)) })
  pub waits : waits n z.waiting ≡ true
  pub newer : is_newer_than_kept u (sub_at z.world s k).kept ≡ true

-- its answer waits
pub record IsReplying (script : Script) (x p s t : ℕ) (u : Sess) (h : Reader) (n : ℕ) (z : Progress) : Type 0 where
  pub fresh : IsFresh script x p s t u h z
  pub items : List Item
  pub sent : slice_get z.world.envelopes n ≡ Some (record { sender = s; to = x; packet = Plain (message.Batch u 0 items) })
  pub waits : waits n z.waiting ≡ true

abbrev pub Asking : Script → ℕ → ℕ → ℕ → ℕ → ℕ → Progress → Type 0
Asking script x p s k t z = (u : Sess) × (h : Reader) × (n : ℕ) × IsAsking script x p s k t u h n z

abbrev pub Replying : Script → ℕ → ℕ → ℕ → ℕ → Progress → Type 0
Replying script x p s t z = (u : Sess) × (h : Reader) × (n : ℕ) × IsReplying script x p s t u h n z

-- its answer waits, or it has the whole
abbrev pub Replied : Script → ℕ → ℕ → ℕ → ℕ → Progress → Type 0
Replied script x p s t z = Replying script x p s t z ⊎ HasWhole script x p z

-- it asked in this phase, or was answered in this phase or the last, or has the whole
abbrev pub Coming : Script → ℕ → ℕ → ℕ → ℕ → Progress → Type 0
Coming script x p s k z = Asking script x p s k 0 z ⊎ Replied script x p s 1 z

-- ---- what an event sends waits

any-right : {X : Type 0} (q : X → Bool) (xs ys : List X) → list_any q ys ≡ true → list_any q (xs ++ ys) ≡ true
any-right q [] ys h = h
any-right q (x ∷ xs) ys h = elim (q x) as (λ b. (b || list_any q (xs ++ ys)) ≡ true) [ true ↦ refl | false ↦ any-right q xs ys h ]

pub new-waits : (script : Script) (z : Progress) (e : Event) (n : ℕ) (f : Envelope) → length z.world.envelopes ≤ n → slice_get (happens z.world e).envelopes n ≡ Some f → waits n (next_progress script z e).waiting ≡ true
new-waits script z e n f low there =
    let old = z.world in
    let new = happens z.world e in
    let high = slice_get_within new.envelopes n f there in
    any-right (λ (y : Undelivered). y.number == n) (noting script z e).waiting (newly_sent old new) (by-count (length old.envelopes) (length new.envelopes - length old.envelopes) low (omega (arith, low, high)))
  where
    by-count : (a m : ℕ) → a ≤ n → n < a + m → waits n (map (λ (i : ℕ). record { number = i; left = 1; pending = false }) (range_with_len a m)) ≡ true
    by-count a zero low high = absurd (omega (arith, low, high))
    by-count a (suc m) low high =
        (elim (a == n) as (λ b. (a == n) ≡ b → (b || waits n (map (λ (i : ℕ). record { number = i; left = 1; pending = false }) (range_with_len (a + 1) m))) ≡ true) [
          | true ↦ λ e. refl
          | false ↦ λ e. by-count (a + 1) m (let apart : a ≡ n → ⊥ = (λ (same : a ≡ n). let yes_one = eq-test a n same in let clash : true ≡ false = sym yes_one ∙ e in cc) in omega (arith, low, apart)) (omega (arith, high))
        ]) refl

-- what was sent stays
pub still-sent : (w : World) (e : Event) (n : ℕ) (f : Envelope) → slice_get w.envelopes n ≡ Some f → slice_get (happens w e).envelopes n ≡ Some f
still-sent w e n f there = let g = event-grows w e in ap (λ (es : List Envelope). slice_get es n) g.envelopes ∙ get-first w.envelopes g.more n f there

-- ---- a tick of the port

pub data TickSays (q r : Port) : Type 0 where
  Reopens : must_reopen (before_choice q) ≡ true → (q.inlet.broken || (not q.inlet.answered && nat_le 3 (min 3 (q.ticks + 1)))) ≡ true → r.inlet ≡ with_next_session q.inlet → r.ticks ≡ 0 → TickSays q r
  Holds : q.inlet.broken ≡ false → (not q.inlet.answered && nat_le 3 (min 3 (q.ticks + 1))) ≡ false → r.inlet ≡ q.inlet → r.ticks ≡ min 3 (q.ticks + 1) → TickSays q r

-- a tick that leaves the choice
pub stay-says : (q r : Port) → r ≡ port_after_choice (before_choice q) → choice_at (before_choice q) ≡ q.chosen → TickSays q r
stay-says q r is choice =
    let y = before_choice q in
    let same : (choice_at y == y.chosen) ≡ true = eq-test (choice_at y) q.chosen choice in
    let left : must_reopen y ≡ (q.inlet.broken || (not q.inlet.answered && nat_le 3 (min 3 (q.ticks + 1)))) = ap (λ (b : Bool). not b || q.inlet.broken || (not q.inlet.answered && nat_le 3 (min 3 (q.ticks + 1)))) same in
    (elim (must_reopen y) as (λ b. must_reopen y ≡ b → TickSays q r) [
      | true ↦ λ e. Reopens e (sym left ∙ e) (ap (λ (z : Port). z.inlet) is ∙ ap (λ (b : Bool). cond b (with_next_session q.inlet) q.inlet) e) (ap (λ (z : Port). z.ticks) is ∙ ap (λ (b : Bool). cond {A = ℕ} b 0 (min 3 (q.ticks + 1))) e)
      | false ↦ λ e.
          let parts = neither q.inlet.broken (not q.inlet.answered && nat_le 3 (min 3 (q.ticks + 1))) (sym left ∙ e) in
          Holds parts.0 parts.1 (ap (λ (z : Port). z.inlet) is ∙ ap (λ (b : Bool). cond b (with_next_session q.inlet) q.inlet) e) (ap (λ (z : Port). z.ticks) is ∙ ap (λ (b : Bool). cond {A = ℕ} b 0 (min 3 (q.ticks + 1))) e)
    ]) refl

-- ---- one event

module _ (script : Script) (x p s k : ℕ) where
  abbrev pub Good : Progress → Type 0
  Good z = IsSeen script x p s k z

  -- the port after an event
  pub port-next : (z : Progress) (e : Event) → MayGo script (IsSeen script x p s k) z e → (q : Port) → port_of z.world x p ≡ Some q → (r : Port) × (port_of (happens z.world e) x p ≡ Some r) × InletGoes z.world x p s e (happens z.world e) q r
  port-next z e may q there =
      let st = may.here.stand in
      inlet-goes z.world st.most x p s k st.fine st.many st.line st.calm e may.quiet may.next.stand.calm q there

  pub first-here : (z : Progress) → IsSeen script x p s k z → (q : Port) → port_of z.world x p ≡ Some q → q.chosen ≡ 0
  first-here z seen q there = let st = seen.stand in chosen-first z.world st.most x p s k st.fine st.many st.line st.calm q there

  -- what a tick of the reader does
  pub ticked-says : (z : Progress) (e : Event) → MayGo script (IsSeen script x p s k) z e → (q r : Port) → port_of z.world x p ≡ Some q → port_of (happens z.world e) x p ≡ Some r → HasTicked z.world x (Source s) (happens z.world e) q r → TickSays q r
  ticked-says z e may q r there now ticked = stay-says q r ticked.port (sym (ap (λ (y : Port). y.chosen) ticked.port) ∙ first-here (next_progress script z e) may.next r now ∙ sym (first-here z may.here q there))

  -- a tick that may come is not void
  pub ticks-now : (z : Progress) (now : ℕ) → MayGo script (IsSeen script x p s k) z (Tick x now) → (q : Port) → port_of z.world x p ≡ Some q → (r : Port) × (port_of (happens z.world (Tick x now)) x p ≡ Some r) × HasTicked z.world x (Source s) (happens z.world (Tick x now)) q r
  ticks-now z now may q there =
      let st = may.here.stand in
      tick-now z.world st.most x p (Source s) st.fine st.many st.line.port st.calm now (may.here.clocked x now may.may) may.next.stand.calm q there

  -- the whole stays
  pub whole-kept : Keeps script (IsSeen script x p s k) (HasWhole script x p)
  whole-kept z e may h =
      let k = port-next z e may h.port h.there in
      let holds = may.next.stand.holds k.0 k.1 in
      let within = holds.within in
      let old = h.bound in
      let more : h.port.inlet.held.bound ≤ k.0.inlet.held.bound = grows k.0 k.2 in
      record { port = k.0; there = k.1; bound = omega (arith, within, old, more); sure = still-sure k.0 k.2 }
    where
      kept-bound : (q r : Port) → r.inlet.held ≡ q.inlet.held → q.inlet.held.bound ≤ r.inlet.held.bound
      kept-bound q r same = let e = ap (λ (y : Reader). y.bound) same in omega (arith, e)

      grows : (r : Port) → InletGoes z.world x p s e (happens z.world e) h.port r → h.port.inlet.held.bound ≤ r.inlet.held.bound
      grows r (InletGoes.Stays with_it) = kept-bound h.port r (ap (λ (i : InletState). i.held) with_it.inlet_is)
      grows r (InletGoes.TakesIn j f is at to sender with_it) =
          let more = after-bound f.packet h.port.inlet in
          let same = ap (λ (i : InletState). i.held.bound) with_it.inlet_is in omega (arith, more, same)
      grows r (InletGoes.TicksOn now is ticked) =
          kept-bound h.port r (ap (λ (y : Port). y.inlet.held) ticked.port ∙ (elim (must_reopen (before_choice h.port)) as (λ b. (cond b (with_next_session h.port.inlet) h.port.inlet).held ≡ h.port.inlet.held) [ true ↦ refl | false ↦ refl ]))

      still-sure : (r : Port) → InletGoes z.world x p s e (happens z.world e) h.port r → is_sure r.inlet.held ≡ true
      still-sure r (InletGoes.Stays with_it) = ap (λ (i : InletState). is_sure i.held) with_it.inlet_is ∙ h.sure
      still-sure r (InletGoes.TakesIn j f is at to sender with_it) = ap (λ (i : InletState). is_sure i.held) with_it.inlet_is ∙ after-sure f.packet h.port.inlet (may.here.stand.plain j f at sender) h.sure
      still-sure r (InletGoes.TicksOn now is ticked) =
          ap (λ (y : Port). is_sure y.inlet.held) ticked.port ∙ (elim (must_reopen (before_choice h.port)) as (λ b. is_sure (cond b (with_next_session h.port.inlet) h.port.inlet).held ≡ is_sure h.port.inlet.held) [ true ↦ refl | false ↦ refl ]) ∙ h.sure
