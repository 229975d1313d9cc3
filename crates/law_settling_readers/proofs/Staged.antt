-- The stages of a port that reads a finished fragment: each full phase brings it one nearer to the whole.
use Rattle.std.proofs.Common.{◌≡◌, ℕ, zero, suc, ◌+◌, ◌*◌, ◌<◌, ◌≤◌, true, false, refl, sym, ap, subst, ◌∙◌, arith, Some, is_some, ◌⊎◌, inl, inr}
use Rattle.dpc_model.specs.Ports.{Port}
use Rattle.dpc_model.specs.declared.actors.Role.TheVariants.{Node as IsNode}
use Rattle.dpc_model.specs.declared.messages.Beat.{Beat}
use Rattle.dpc_model.specs.declared.messages.Event.{Event}
use Rattle.dpc_model.specs.declared.messages.Event.TheVariants.{Deliver, Tick}
use Rattle.dpc_model.specs.declared.plans.Plan.{Plan}
use Rattle.dpc_model.specs.declared.scripts.Script.{Script}
use Rattle.world_model.specs.Worlds.{is_up, role_up}
use Rattle.world_model.specs.Schedules.{Progress, next_progress, progress_from}
use Rattle.law_granting.specs.Taken.{port_of}
use Rattle.world_model.specs.Events.{is_delivery}
use Rattle.law_settling.specs.Phased.{opened}
use Rattle.law_settling.proofs.Faults.{IsBroken, IsAnswered, IsSlow}
use Rattle.law_settling.proofs.Fresh.{HasWhole}
use Rattle.law_settling.proofs.Journeys.{IsJourney}
use Rattle.law_settling.proofs.Rules.{MayGo, Keeps, same-delivery, due-taken, opened-due, tick-due, first-good}
use Rattle.law_settling.proofs.Stages.{due-waits, port-up, port-within, role-within}
use Rattle.law_settling_readers.proofs.Reading.{replica_at, replicas_in, IsSeen, chosen-low}
use Rattle.law_settling_readers.proofs.Replied.{asked-node, comes-here}
use Rattle.law_settling_readers.proofs.Staying.{whole-kept}
use Rattle.law_settling_readers.proofs.Turns.{After, Answered, Asked, whole-in, asked-kept}
use Rattle.law_settling_readers.proofs.Leading.{Leads, lead-answered, lead-asked, lead-turn}
use Rattle.law_settling_readers.proofs.Faulty.{IsAnsweredBy, IsHearing, Hearing, AskedAnew, broken-next, broken-ticks, answered-next, slow-next, slow-ticks, hearing-next, heard-now, replica-beats}

-- ---- one family behind another

-- the first n stages are of one family, and those behind of another
abbrev pub Joined : (ℕ → Progress → Type 0) → (ℕ → Progress → Type 0) → ℕ → ℕ → Progress → Type 0
Joined A B zero i = B i
Joined A B (suc n) zero = A 0
Joined A B (suc n) (suc i) = Joined (λ (j : ℕ). A (suc j)) B n i

module _ (Lead : (Progress → Type 0) → (Progress → Type 0) → Type 0) (weaker : (P Q R : Progress → Type 0) → ((z : Progress) → P z → Q z) → Lead Q R → Lead P R) where
  pub joined-leads : (A B : ℕ → Progress → Type 0) (n top : ℕ) → ((i : ℕ) → i < n → Lead (A (suc i)) (A i)) → ((i : ℕ) → i < top → Lead (B (suc i)) (B i)) → ((z : Progress) → B 0 z → A n z) → (i : ℕ) → i < n + top → Lead (Joined A B n (suc i)) (Joined A B n i)
  joined-leads A B zero top low high meet i few = high i (omega (arith, few))
  joined-leads A B (suc zero) top low high meet zero few = weaker (B 0) (A 1) (A 0) meet (low 0 (omega arith))
  joined-leads A B (suc (suc n)) top low high meet zero few = low 0 (omega arith)
  joined-leads A B (suc n) top low high meet (suc i) few = joined-leads (λ (j : ℕ). A (suc j)) B n top (λ j less. low (suc j) (omega (arith, less))) high meet i (omega (arith, few))

-- the top stage of the second family
pub joined-top : (A B : ℕ → Progress → Type 0) (n top : ℕ) (z : Progress) → B top z → Joined A B n (n + top) z
joined-top A B zero top z h = let same : top ≡ 0 + top = omega arith in subst (λ (i : ℕ). B i z) same h
joined-top A B (suc n) top z h = let same : suc (n + top) ≡ suc n + top = omega arith in subst (λ (i : ℕ). Joined A B (suc n) i z) same (joined-top (λ (j : ℕ). A (suc j)) B n top z h)

module _ (script : Script) (x p f k : ℕ) where
  abbrev Goes : Progress → Event → Type 0
  Goes z e = MayGo script (IsSeen script x p f k) z e

  abbrev Anew : Progress → Type 0
  Anew z = AskedAnew script x p f k z

  -- ---- from an ask to the whole

  -- three for each replica that may truncate
  abbrev pub Coming : ℕ → ℕ → Progress → Type 0
  Coming m zero = After script x p f k m
  Coming m (suc zero) = Answered script x p f k m
  Coming m (suc (suc zero)) = Asked script x p f k m
  Coming m (suc (suc (suc i))) = Coming (suc m) i

  coming-leads : (m i : ℕ) → Leads script x p f k (Coming m (suc i)) (Coming m i)
  coming-leads m zero = lead-answered script x p f k m
  coming-leads m (suc zero) = lead-asked script x p f k m
  coming-leads m (suc (suc zero)) = lead-turn script x p f k m
  coming-leads m (suc (suc (suc i))) = coming-leads (suc m) i

  asked-coming : (j m : ℕ) (z : Progress) → Asked script x p f k (m + j) z → Coming m (3 * j + 2) z
  asked-coming zero m z h = let same : m + 0 ≡ m = omega arith in subst (λ (i : ℕ). Asked script x p f k i z) same h
  asked-coming (suc j) m z h =
      let next : m + suc j ≡ suc m + j = omega arith in
      let three : suc (suc (suc (3 * j + 2))) ≡ 3 * suc j + 2 = omega arith in
      subst (λ (i : ℕ). Coming m i z) three (asked-coming j (suc m) z (subst (λ (i : ℕ). Asked script x p f k i z) next h))

  -- ---- from anything to an ask

  abbrev pub Finding : ℕ → Progress → Type 0
  Finding zero z = Anew z
  Finding (suc zero) z = IsBroken x p z ⊎ Anew z
  Finding (suc (suc zero)) z = Hearing script x p f k z ⊎ Finding (suc zero) z
  Finding (suc (suc (suc zero))) z = IsAnswered x p z ⊎ Finding (suc (suc zero)) z
  Finding (suc (suc (suc (suc zero)))) z = IsSlow x p 2 z ⊎ Finding (suc (suc (suc zero))) z
  Finding (suc (suc (suc (suc (suc zero))))) z = IsSlow x p 1 z ⊎ Finding (suc (suc (suc (suc zero)))) z
  Finding (suc (suc (suc (suc (suc (suc i)))))) z = (q : Port) × (port_of z.world x p ≡ Some q)

  -- what an event keeps

  keeps-0 : Keeps script (IsSeen script x p f k) (Finding 0)
  keeps-0 = asked-kept script x p f k (replicas_in script.plan f)

  keeps-1 : Keeps script (IsSeen script x p f k) (Finding 1)
  keeps-1 z e may (inl broken) = broken-next script x p f k z e may broken
  keeps-1 z e may (inr anew) = inr (keeps-0 z e may anew)

  heard : (n c : ℕ) (b : Beat) (z : Progress) → Goes z (Deliver n) → IsHearing script x p f k n c b z → Finding 1 (next_progress script z (Deliver n))
  heard n c b z may h = elim (heard-now script x p f k n c b z may h) [ inl broken ↦ inl broken | inr whole ↦ inr (inr (inr (whole-in script x p f k (replicas_in script.plan f) (next_progress script z (Deliver n)) whole))) ]

  keeps-2 : Keeps script (IsSeen script x p f k) (Finding 2)
  keeps-2 z e may (inr rest) = inr (keeps-1 z e may rest)
  keeps-2 z e may (inl (n, c, b, h)) =
      (elim (is_delivery n e) as (λ d. is_delivery n e ≡ d → Finding 2 (next_progress script z e)) [
        | true ↦ λ d.
            let same = same-delivery n e may.quiet d in
            subst (λ (g : Event). Finding 2 (next_progress script z g)) (sym same) (inr (heard n c b z (subst (MayGo script (IsSeen script x p f k) z) same may) h))
        | false ↦ λ d. elim (hearing-next script x p f k n c b z e may d h) [ inl on ↦ inl (n, c, b, on) | inr anew ↦ inr (inr anew) ]
      ]) refl

  keeps-3 : Keeps script (IsSeen script x p f k) (Finding 3)
  keeps-3 z e may (inr rest) = inr (keeps-2 z e may rest)
  keeps-3 z e may (inl h) =
      elim (answered-next script x p f k h.port.chosen z e may (record { port = h.port; there = h.there; answered = h.answered; chosen = refl })) [
        | inl on ↦ inl (record { port = on.port; there = on.there; answered = on.answered })
        | inr anew ↦ inr (inr (inr anew))
      ]

  slow-on : (i : ℕ) → i ≤ 2 → (z : Progress) (e : Event) → Goes z e → IsSlow x p i z → IsSlow x p i (next_progress script z e) ⊎ Finding 3 (next_progress script z e)
  slow-on i few z e may slow = elim (slow-next script x p f k i (omega (arith, few)) z e may slow) [ inl on ↦ inl on | inr (inl answered) ↦ inr (inl answered) | inr (inr anew) ↦ inr (inr (inr (inr anew))) ]

  keeps-4 : Keeps script (IsSeen script x p f k) (Finding 4)
  keeps-4 z e may (inl slow) = slow-on 2 (omega arith) z e may slow
  keeps-4 z e may (inr rest) = inr (keeps-3 z e may rest)

  keeps-5 : Keeps script (IsSeen script x p f k) (Finding 5)
  keeps-5 z e may (inl slow) = elim (slow-on 1 (omega arith) z e may slow) [ inl on ↦ inl on | inr rest ↦ inr (inr rest) ]
  keeps-5 z e may (inr rest) = inr (keeps-4 z e may rest)

  -- ---- one phase

  -- at the reader's tick
  ticks-in : (P Q : Progress → Type 0) → ((z : Progress) (e : Event) → Goes z e → P z → P (next_progress script z e) ⊎ Q (next_progress script z e)) →
      ((z : Progress) (now : ℕ) → Goes z (Tick x now) → P z → Q (next_progress script z (Tick x now))) → Keeps script (IsSeen script x p f k) Q → ((z : Progress) → P z → P (opened script z)) → Leads script x p f k P Q
  ticks-in P Q others ticked keeps opens z es step h =
      tick-due script (IsSeen script x p f k) x P Q (record {
        others = λ y e may other q. others y e may q;
        ticked = ticked;
        keeps = keeps;
        up = λ y seen. port-up y.world x p seen.port seen.there;
        there = λ y seen. port-within y.world x p seen.port seen.there;
        at = λ y seen. seen.at;
      }) (opened script z) es step.phase (opens z h) refl

  -- what was asked for stays so
  finding-0 : Leads script x p f k (Finding 0) (Finding 0)
  finding-0 z es step anew = inr (lead-asked script x p f k (replicas_in script.plan f) z es step anew)

  -- a broken port asks anew at its tick
  finding-1 : Leads script x p f k (Finding 1) (Finding 0)
  finding-1 z es step (inr anew) = finding-0 z es step anew
  finding-1 z es step (inl broken) =
      ticks-in (IsBroken x p) Anew (broken-next script x p f k) (broken-ticks script x p f k) keeps-0 (λ y b. record { port = b.port; there = b.there; broken = b.broken }) z es step broken

  -- a beat comes in the next phase, and shows the fault
  finding-2 : Leads script x p f k (Finding 2) (Finding 1)
  finding-2 z es step (inr rest) = inr (finding-1 z es step rest)
  finding-2 z es step (inl (n, c, b, h)) =
      let seen = first-good script (IsSeen script x p f k) (opened script z) es step.phase.good in
      let due = opened-due script z n step.at step.complete (comes-here script x p f k (opened script z) n _ seen h.sent) h.waits in
      let now : IsHearing script x p f k n c b (opened script z) = record {
        answered = record { port = h.answered.port; there = h.answered.there; answered = h.answered.answered; chosen = h.answered.chosen };
        low = h.low;
        sent = h.sent;
        waits = due-waits n (opened script z).waiting due;
        told = h.told;
      } in
      due-taken script (IsSeen script x p f k) n (IsHearing script x p f k n c b) (Finding 1) (record {
        others = λ y e may other q. elim (hearing-next script x p f k n c b y e may other q) [ inl on ↦ inl on | inr anew ↦ inr (inr anew) ];
        taken = λ y may q. heard n c b y may q;
        keeps = keeps-1;
        can = λ y good q. comes-here script x p f k y n _ good q.sent;
        at = λ y good. good.at;
      }) (opened script z) es step.phase now due

  -- the replica that is read sends a beat at its tick
  finding-3 : Leads script x p f k (Finding 3) (Finding 2)
  finding-3 z es step (inr rest) = inr (finding-2 z es step rest)
  finding-3 z es step (inl h) =
      let c = h.port.chosen in
      let seen = first-good script (IsSeen script x p f k) (opened script z) es step.phase.good in
      let low : c < replicas_in script.plan f = subst (λ (pl : Plan). c < replicas_in pl f) seen.stand.of_plan (chosen-low script.plan x p f k (opened script z).world seen.stand h.port h.there) in
      tick-due script (IsSeen script x p f k) (replica_at script.plan f c) (IsAnsweredBy x p c) (Finding 2) (record {
        others = λ y e may other q. elim (answered-next script x p f k c y e may q) [ inl on ↦ inl on | inr anew ↦ inr (inr (inr anew)) ];
        ticked = λ y now may q. elim (replica-beats script x p f k c y now may low q) [ inl hearing ↦ inl hearing | inr anew ↦ inr (inr anew) ];
        keeps = keeps-2;
        up = λ y good. let node = asked-node script x p f k y good c low in node-up y good c low;
        there = λ y good. let node = asked-node script x p f k y good c low in role-within y.world.plan (replica_at script.plan f c) (IsNode f node.0) node.2 (λ e. cc);
        at = λ y good. good.at;
      }) (opened script z) es step.phase (record { port = h.port; there = h.there; answered = h.answered; chosen = refl }) refl
    where
      node-up : (y : Progress) → IsSeen script x p f k y → (c : ℕ) → c < replicas_in script.plan f → is_up y.world (replica_at script.plan f c) ≡ true
      node-up y good c low =
          let node = asked-node script x p f k y good c low in
          let a = replica_at script.plan f c in
          ap (λ r. role_up y.world a r) node.2 ∙ ap (λ o. is_some o) node.3

  slow-opened : (i : ℕ) (z : Progress) → IsSlow x p i z → IsSlow x p i (opened script z)
  slow-opened i z h = record { port = h.port; there = h.there; answered = h.answered; ticks = h.ticks }

  -- where it is not answered, its third tick opens the session anew
  finding-4 : Leads script x p f k (Finding 4) (Finding 3)
  finding-4 z es step (inr rest) = inr (finding-3 z es step rest)
  finding-4 z es step (inl slow) =
      ticks-in (IsSlow x p 2) (Finding 3) (slow-on 2 (omega arith))
      (λ y now may q. elim (slow-ticks script x p f k 2 y now may q) [ inl low ↦ let few = low.0 in absurd (omega (arith, few)) | inr anew ↦ inr (inr (inr anew)) ]) keeps-3 (slow-opened 2) z es step slow

  finding-5 : Leads script x p f k (Finding 5) (Finding 4)
  finding-5 z es step (inr rest) = inr (finding-4 z es step rest)
  finding-5 z es step (inl slow) =
      ticks-in (IsSlow x p 1) (Finding 4) (λ y e may q. elim (slow-on 1 (omega arith) y e may q) [ inl on ↦ inl on | inr rest ↦ inr (inr rest) ])
      (λ y now may q. elim (slow-ticks script x p f k 1 y now may q) [ inl more ↦ inl more.1 | inr anew ↦ inr (inr (inr (inr anew))) ]) keeps-4 (slow-opened 1) z es step slow

  finding-6 : Leads script x p f k (Finding 6) (Finding 5)
  finding-6 z es step (q, there) =
      (elim q.inlet.answered as (λ b. q.inlet.answered ≡ b → Finding 5 (progress_from script (opened script z) es)) [
        | true ↦ λ a. inr (inr (inr (finding-3 z es step (inl (record { port = q; there = there; answered = a })))))
        | false ↦ λ a.
            ticks-in (IsSlow x p 0) (Finding 5) (λ y e may r. elim (slow-on 0 (omega arith) y e may r) [ inl on ↦ inl on | inr rest ↦ inr (inr (inr rest)) ])
            (λ y now may r. elim (slow-ticks script x p f k 0 y now may r) [ inl more ↦ inl more.1 | inr anew ↦ inr (inr (inr (inr (inr anew)))) ]) keeps-5 (slow-opened 0) z es step (record { port = q; there = there; answered = a; ticks = omega arith })
      ]) refl

  finding-leads : (i : ℕ) → i < 6 → Leads script x p f k (Finding (suc i)) (Finding i)
  finding-leads zero few = finding-1
  finding-leads (suc zero) few = finding-2
  finding-leads (suc (suc zero)) few = finding-3
  finding-leads (suc (suc (suc zero))) few = finding-4
  finding-leads (suc (suc (suc (suc zero)))) few = finding-5
  finding-leads (suc (suc (suc (suc (suc zero))))) few = finding-6
  finding-leads (suc (suc (suc (suc (suc (suc i)))))) few = absurd (omega (arith, few))

  -- ---- all stages

  -- so many lead from an ask to the whole
  abbrev asking_stages : ℕ
  asking_stages = 3 * replicas_in script.plan f + 2

  abbrev pub reading_stages : ℕ
  reading_stages = 3 * replicas_in script.plan f + 8

  abbrev pub Stage : ℕ → Progress → Type 0
  Stage i z = Joined (Coming 0) Finding asking_stages i z

  weaker : (P Q R : Progress → Type 0) → ((z : Progress) → P z → Q z) → Leads script x p f k Q R → Leads script x p f k P R
  weaker P Q R f l z es step h = l z es step (f z h)

  -- a port with anything stands at the top
  pub top-stage : (z : Progress) (q : Port) → port_of z.world x p ≡ Some q → Stage reading_stages z
  top-stage z q there = let same : asking_stages + 6 ≡ reading_stages = omega arith in subst (λ (i : ℕ). Joined (Coming 0) Finding asking_stages i z) same (joined-top (Coming 0) Finding asking_stages 6 z (q, there))

  -- the last one is the whole
  pub whole-last : (z : Progress) → Stage 0 z → HasWhole script x p z
  whole-last z h = by-count (asking_stages) (omega arith) h
    where
      by-count : (n : ℕ) → 0 < n → Joined (Coming 0) Finding n 0 z → HasWhole script x p z
      by-count zero some h = absurd (omega (arith, some))
      by-count (suc n) some h = h

  whole-first : (z : Progress) → HasWhole script x p z → Stage 0 z
  whole-first z h = by-count (asking_stages) (omega arith)
    where
      by-count : (n : ℕ) → 0 < n → Joined (Coming 0) Finding n 0 z
      by-count zero some = absurd (omega (arith, some))
      by-count (suc n) some = h

  -- 3R + 8 phases lead to the whole
  pub stages-lead : IsJourney script (IsSeen script x p f k) Stage reading_stages
  stages-lead =
      record {
        lead = λ i z es few step h.
            joined-leads (Leads script x p f k) weaker (Coming 0) Finding asking_stages 6 (λ j less. coming-leads 0 j) finding-leads (λ y anew. meet y anew) i (omega (arith, few)) z es step h;
        kept = λ z e may h. whole-first (next_progress script z e) (whole-kept script x p f k z e may (whole-last z h));
        opens = λ z h. let w = whole-last z h in whole-first (opened script z) (record { port = w.port; there = w.there; bound = w.bound; sure = w.sure });
      }
    where
      meet : (y : Progress) → Anew y → Coming 0 asking_stages y
      meet y anew = let same : replicas_in script.plan f ≡ 0 + replicas_in script.plan f = omega arith in asked-coming (replicas_in script.plan f) 0 y (subst (λ (i : ℕ). Asked script x p f k i y) same anew)
