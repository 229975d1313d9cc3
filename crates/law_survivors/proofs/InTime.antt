-- In quiet phases of the one-thread journal a replica that recovers beside one that stands whole goes on within three phases: the asks of one
-- phase are answered in the next, by snapshots that come in the one behind it; and from the third phase on no try begins.
use Rattle.std.proofs.Common.{◌≡◌, ℕ, ◌+◌, ◌<◌, ◌≤◌, Bool, true, false, List, [], ◌∷◌, ◌++◌, length, refl, sym, ap, subst, ◌∙◌, arith, Option, Some, slice_get, ◌⊎◌, inl, inr}
use Rattle.std.proofs.lemmas.List.{append-nil, append_assoc}
use Rattle.std.proofs.lemmas.Option.{slice_get_within}
use Rattle.std.specs.Prelude.{is_some}
use Rattle.dpc_lists.specs.Lists.{has}
use Rattle.dpc_lists.proofs.Somes.{some-same}
use Rattle.dpc_lists.proofs.Truths.{true-not-false}
use Rattle.dpc_model.specs.Actors.{role_of}
use Rattle.dpc_model.specs.declared.actors.Role.{Role}
use Rattle.dpc_model.specs.declared.actors.Role.TheVariants.{Node as IsNode}
use Rattle.dpc_model.specs.declared.messages.Event.{Event}
use Rattle.dpc_model.specs.declared.messages.Event.TheVariants.{Phase, Deliver, Tick}
use Rattle.dpc_model.specs.declared.messages.Message.TheVariants as message
use Rattle.dpc_model.specs.declared.plans.Plan.{Plan}
use Rattle.dpc_model.specs.declared.scripts.Script.{Script}
use Rattle.dpc_model.proofs.Numbers.{le-or}
use Rattle.node_model.specs.Mails.{Plain, SnapFor, Snap, mail}
use Rattle.node_model.specs.Nodes.{PlainNode}
use Rattle.node_model.specs.NodeSteps.{snapshot, with_marks_ended, packet_step, tick_step}
use Rattle.world_model.specs.Worlds.{World, Envelope, Slot, home_of, slot_of, from, node_stepped, can_come, is_up, role_up, happens, run}
use Rattle.world_model.specs.Schedules.{Progress, next_progress, progress, may_come, may_follow, is_phase_complete, is_live_so_far, lockstep_journal}
use Rattle.world_model.specs.Steady.{OpensWell}
use Rattle.world_model.specs.Events.{is_quiet, is_tick, is_delivery}
use Rattle.world_model.proofs.Running.{run-push}
use Rattle.law_safety.proofs.Promises.{slot-here}
use Rattle.law_readers.specs.Settling.{CanSettle}
use Rattle.law_schedules.proofs.Journals.{live-far, progress-run}
use Rattle.law_schedules.proofs.Lockstep.{lock-live}
use Rattle.law_settling.specs.Phased.{opened}
use Rattle.law_settling.proofs.Along.{progress-push, live-may, running-along}
use Rattle.law_settling.proofs.Fresh.{new-waits, still-sent}
use Rattle.law_settling.proofs.Nodes.{node-took-now, node-took-world, node-ticked-now}
use Rattle.law_settling.proofs.Opening.{all-come}
use Rattle.law_settling.proofs.PortSteps.{sent-place}
use Rattle.law_settling.proofs.Ports.{node-there}
use Rattle.law_settling.proofs.Promises.{IsOpenAt, open-of}
use Rattle.law_settling.proofs.Replicas.{peer-is}
use Rattle.law_settling.proofs.Rules.{same-tick, same-delivery, some-phase, opened-due}
use Rattle.law_settling.proofs.Splitting.{Opens, stays, in-quiet, quiet-goes}
use Rattle.law_settling.proofs.Stages.{due-waits, role-within}
use Rattle.law_settling.proofs.Waitings.{waits, is_due, waits-on, due-on, done-of, none-due}
use Rattle.law_settling_readers.proofs.Watching.{ticked-on}
use Rattle.law_survivors.specs.Spared.{is_spared, StandsWhole, RecoversThrough, EndsInTime}
use Rattle.law_survivors.proofs.Afresh.{has-ticked}
use Rattle.law_survivors.proofs.Good.{CameSo, came-so}
use Rattle.law_survivors.proofs.Pending.{marks, marks_by, marks-push}
use Rattle.law_survivors.proofs.Running.{spared-at}
use Rattle.law_survivors.proofs.Stages.{SubsBelow, RefusalsBelow, IsSilent, subs-on, refusals-on, IsStaged, IsFree, staged-at, marks-few, quiet-marks, below-more, refusals-more, all-refusals, does-all, here, none-comes, nobody-ticked, same-inc, free-next, none-begins}
use Rattle.law_survivors.proofs.Tries.{ends-now, answers-now, tick-asks, ticked-tries}

-- ---- what is under way

module _ (script : Script) (x g b a r : ℕ) (role_x : role_of script.plan x ≡ IsNode g b) (role_a : role_of script.plan a ≡ IsNode g r) where
  -- an ask of a for its present try waits for x
  pub record IsAsking (z : Progress) (n : PlainNode) : Type 0 where
    pub number : ℕ
    pub sent : slice_get z.world.envelopes number ≡ Some (from a (mail x (message.SnapAsk n.grants.inc n.tries)))
    pub waits : waits number z.waiting ≡ true

  -- a snapshot of x for that try waits for a
  pub record IsAnswering (z : Progress) (n : PlainNode) : Type 0 where
    pub number : ℕ
    pub snap : Snap
    pub sent : slice_get z.world.envelopes number ≡ Some (from x (record { to = a; packet = SnapFor n.grants.inc n.tries snap }))
    pub waits : waits number z.waiting ≡ true

  -- an event of a quiet phase, over which a recovers
  pub record Goes (z : Progress) (e : Event) (n o : PlainNode) : Type 0 where
    pub quiet : is_quiet e ≡ true
    pub may : may_follow script z e ≡ true
    pub here : IsOpenAt script z
    pub whole : StandsWhole z.world x
    pub up : (slot_of z.world a).node ≡ Some n
    pub recovers : n.recovering ≡ true
    pub now : (slot_of (happens z.world e) a).node ≡ Some o
    pub still : o.recovering ≡ true
    pub inc : o.grants.inc ≡ n.grants.inc

  x-here : (z : Progress) → IsOpenAt script z → role_of z.world.plan x ≡ IsNode g b
  x-here z h = ap (λ (pl : Plan). role_of pl x) h.of_plan ∙ role_x

  a-here : (z : Progress) → IsOpenAt script z → role_of z.world.plan a ≡ IsNode g r
  a-here z h = ap (λ (pl : Plan). role_of pl a) h.of_plan ∙ role_a

  -- ---- an ask

  asks-now : (z : Progress) (clock : ℕ) (n o : PlainNode) → (a ≡ x → ⊥) → Goes z (Tick a clock) n o → IsAsking (next_progress script z (Tick a clock)) o
  asks-now z clock n o apart goes =
      let h = goes.here in
      let w = z.world in
      let role = a-here z h in
      let home = home_of w.plan (g, r) in
      let t = tick_step home clock n in
      let event : happens w (Tick a clock) ≡ node_stepped a t w = node-ticked-now w h.most a g r h.fine role clock n (h.clocked a clock goes.may) goes.up in
      let slot : slot_of (node_stepped a t w) a ≡ record (slot_of w a) { node = Some t.after } = slot-here w h.most a g r (λ (s : Slot). record s { node = Some t.after }) h.fine role in
      let one : t.after ≡ o = some-same t.after o (sym (ap (λ (v : World). (slot_of v a).node) event ∙ ap (λ (s : Slot). s.node) slot) ∙ goes.now) in
      let recovers : t.after.recovering ≡ true = ap (λ (y : PlainNode). y.recovering) one ∙ goes.still in
      let try : n.tries ≡ o.tries = sym (ticked-tries home clock n).0 ∙ ap (λ (y : PlainNode). y.tries) one in
      let place = sent-place a w.envelopes (mail x (message.SnapAsk n.grants.inc n.tries)) t.sends (tick-asks home clock n x (peer-is w.plan a x g r b role (x-here z h) (λ e. apart (sym e))) recovers) in
      let sent : slice_get (happens w (Tick a clock)).envelopes place.0 ≡ Some (from a (mail x (message.SnapAsk n.grants.inc n.tries))) = ap (λ (v : World). slice_get v.envelopes place.0) event ∙ place.1 in
      record {
        number = place.0;
        sent = sent ∙ ap {B = Option Envelope} (λ (i : ℕ). Some (from a (mail x (message.SnapAsk i n.tries)))) (sym goes.inc) ∙ ap {B = Option Envelope} (λ (y : ℕ). Some (from a (mail x (message.SnapAsk o.grants.inc y)))) try;
        waits = new-waits script z (Tick a clock) place.0 _ place.2 sent;
      }

  -- it stays until it is delivered
  asking-next : (z : Progress) (e : Event) (n o : PlainNode) → Goes z e n o → o.tries ≡ n.tries → (k : IsAsking z n) → is_delivery k.number e ≡ false → (l : IsAsking (next_progress script z e) o) × (l.number ≡ k.number)
  asking-next z e n o goes try k other = (
    record {
      number = k.number;
      sent = still-sent z.world e k.number _ k.sent ∙ ap {B = Option Envelope} (λ (i : ℕ). Some (from a (mail x (message.SnapAsk i n.tries)))) (sym goes.inc) ∙ ap {B = Option Envelope} (λ (y : ℕ). Some (from a (mail x (message.SnapAsk o.grants.inc y)))) (sym try);
      waits = waits-on script z e k.number goes.quiet other k.waits;
    },
    refl,
  )

  -- it is due in the next phase
  asking-opened : (z : Progress) (n : PlainNode) → IsOpenAt script z → is_phase_complete z ≡ true → IsAsking z n → (l : IsAsking (opened script z) n) × (is_due l.number (opened script z).waiting ≡ true)
  asking-opened z n h complete k =
      let due = opened-due script z k.number h.at complete (all-come z.world h.most k.number h.fine h.up (slice_get_within z.world.envelopes k.number _ k.sent)) k.waits in
      (record { number = k.number; sent = k.sent; waits = due-waits k.number (opened script z).waiting due }, due)

  -- ---- the answer

  -- x takes the ask
  answers-it : (z : Progress) (n o : PlainNode) (k : IsAsking z n) → Goes z (Deliver k.number) n o → o.tries ≡ n.tries → IsAnswering (next_progress script z (Deliver k.number)) o
  answers-it z n o k goes try =
      let h = goes.here in
      let w = z.world in
      let role = x-here z h in
      let home = home_of w.plan (g, b) in
      let v = goes.whole.node in
      let f : Envelope = from a (mail x (message.SnapAsk n.grants.inc n.tries)) in
      let can : can_come w f ≡ true = sym (ap (λ (o : Option Envelope). may_come w o) k.sent) ∙ all-come w h.most k.number h.fine h.up (slice_get_within w.envelopes k.number _ k.sent) in
      let t = packet_step home a (Plain (message.SnapAsk n.grants.inc n.tries)) v in
      let event : happens w (Deliver k.number) ≡ node_stepped x t w = node-took-world w h.most x g b h.fine role k.number f v k.sent can refl goes.whole.up in
      let snap = snapshot home (with_marks_ended v) in
      let place = sent-place x w.envelopes (record { to = a; packet = SnapFor n.grants.inc n.tries snap }) t.sends (answers-now home a n.grants.inc n.tries v goes.whole.whole) in
      let sent : slice_get (happens w (Deliver k.number)).envelopes place.0 ≡ Some (from x (record { to = a; packet = SnapFor n.grants.inc n.tries snap })) = ap (λ (y : World). slice_get y.envelopes place.0) event ∙ place.1 in
      record {
        number = place.0;
        snap = snap;
        sent = sent ∙ ap {B = Option Envelope} (λ (i : ℕ). Some (from x (record { to = a; packet = SnapFor i n.tries snap }))) (sym goes.inc) ∙ ap {B = Option Envelope} (λ (y : ℕ). Some (from x (record { to = a; packet = SnapFor o.grants.inc y snap }))) (sym try);
        waits = new-waits script z (Deliver k.number) place.0 _ place.2 sent;
      }

  answering-next : (z : Progress) (e : Event) (n o : PlainNode) → Goes z e n o → o.tries ≡ n.tries → (k : IsAnswering z n) → is_delivery k.number e ≡ false → (l : IsAnswering (next_progress script z e) o) × (l.number ≡ k.number)
  answering-next z e n o goes try k other = (
    record {
      number = k.number;
      snap = k.snap;
      sent = still-sent z.world e k.number _ k.sent ∙ ap {B = Option Envelope} (λ (i : ℕ). Some (from x (record { to = a; packet = SnapFor i n.tries k.snap }))) (sym goes.inc) ∙ ap {B = Option Envelope} (λ (y : ℕ). Some (from x (record { to = a; packet = SnapFor o.grants.inc y k.snap }))) (sym try);
      waits = waits-on script z e k.number goes.quiet other k.waits;
    },
    refl,
  )

  answering-opened : (z : Progress) (n : PlainNode) → IsOpenAt script z → is_phase_complete z ≡ true → IsAnswering z n → (l : IsAnswering (opened script z) n) × (is_due l.number (opened script z).waiting ≡ true)
  answering-opened z n h complete k =
      let due = opened-due script z k.number h.at complete (all-come z.world h.most k.number h.fine h.up (slice_get_within z.world.envelopes k.number _ k.sent)) k.waits in
      (record { number = k.number; snap = k.snap; sent = k.sent; waits = due-waits k.number (opened script z).waiting due }, due)

  -- a takes it, and goes on
  ends-it : (z : Progress) (n o : PlainNode) (k : IsAnswering z n) → Goes z (Deliver k.number) n o → ⊥
  ends-it z n o k goes =
      let h = goes.here in
      let w = z.world in
      let role = a-here z h in
      let f : Envelope = from x (record { to = a; packet = SnapFor n.grants.inc n.tries k.snap }) in
      let can : can_come w f ≡ true = sym (ap (λ (o : Option Envelope). may_come w o) k.sent) ∙ all-come w h.most k.number h.fine h.up (slice_get_within w.envelopes k.number _ k.sent) in
      let now = node-took-now w h.most a g r h.fine role k.number f n k.sent can refl goes.up in
      let one = some-same (packet_step (home_of w.plan (g, r)) x (SnapFor n.grants.inc n.tries k.snap) n).after o (sym now ∙ goes.now) in
      true-not-false (sym goes.still ∙ ap (λ (y : PlainNode). y.recovering) (sym one) ∙ ends-now (home_of w.plan (g, r)) x k.snap n goes.recovers)

  -- nothing that is due is left when the phase is complete
  none-left : (z : Progress) (number : ℕ) (e : Envelope) → IsOpenAt script z → is_phase_complete z ≡ true → slice_get z.world.envelopes number ≡ Some e → is_due number z.waiting ≡ true → ⊥
  none-left z number e h complete there due = none-due z.world number z.waiting (all-come z.world h.most number h.fine h.up (slice_get_within z.world.envelopes number e there)) (done-of z (some-phase script z h.at) complete).delivered due

  -- ---- by phases, the first of which has number p

  pub record IsTimely (p : ℕ) (z : Progress) (n : PlainNode) : Type 0 where
    pub low : z.phase ≤ p + 3
    pub asks : z.phase ≡ p + 1 → has z.ticked a ≡ true → IsAsking z n
    pub answers : z.phase ≡ p + 2 → ((k : IsAsking z n) × (is_due k.number z.waiting ≡ true)) ⊎ IsAnswering z n
    pub comes : z.phase ≡ p + 3 → (k : IsAnswering z n) × (is_due k.number z.waiting ≡ true)

  -- an event of a quiet phase: from the third phase on no try begins, and a delivery comes before each tick
  pub timely-next : (p : ℕ) (z : Progress) (e : Event) (n o : PlainNode) → (a ≡ x → ⊥) → Goes z e n o → (p + 2 ≤ z.phase → o.tries ≡ n.tries) → ((j : ℕ) → e ≡ Deliver j → z.ticked ≡ []) → (((j : ℕ) → e ≡ Deliver j → ⊥) → o.tries ≡ n.tries) → IsTimely p z n → IsTimely p (next_progress script z e) o
  timely-next p z e n o apart goes late order calm h =
      let same = (quiet-goes script z e goes.quiet goes.here.at).1 in
      let low = h.low in
      record {
        low = omega (arith, low, same);
        asks = λ at ticked. by-tick at ticked (is_tick a e) refl;
        answers = λ at. by-answers (from-same (p + 2) same at);
        comes = λ at. by-comes (from-same (p + 3) same at);
      }
    where
      from-same : (q : ℕ) → (next_progress script z e).phase ≡ z.phase → (next_progress script z e).phase ≡ q → z.phase ≡ q
      from-same q same at = sym same ∙ at

      far : (q : ℕ) → p + 2 ≤ q → z.phase ≡ q → p + 2 ≤ z.phase
      far q le at = omega (arith, le, at)

      -- once a ticked nothing is delivered
      no-delivery : has z.ticked a ≡ true → (j : ℕ) → e ≡ Deliver j → ⊥
      no-delivery ticked j event = true-not-false (sym ticked ∙ ap (λ (ids : List ℕ). has ids a) (order j event))

      by-tick : (next_progress script z e).phase ≡ p + 1 → has (next_progress script z e).ticked a ≡ true → (t : Bool) → is_tick a e ≡ t → IsAsking (next_progress script z e) o
      by-tick at ticked true d =
          let same = same-tick a e goes.quiet d in
          subst (λ (c : Event). IsAsking (next_progress script z c) o) (sym same.1) (asks-now z same.0 n o apart (subst (λ (c : Event). Goes z c n o) same.1 goes))
      by-tick at ticked false d =
          let was : has z.ticked a ≡ true = sym (ticked-on script z e a goes.quiet d) ∙ ticked in
          let none = no-delivery was in
          let k = h.asks (from-same (p + 1) (quiet-goes script z e goes.quiet goes.here.at).1 at) was in
          (asking-next z e n o goes (calm none) k (undelivered k.number none (is_delivery k.number e) refl)).0
        where
          undelivered : (j : ℕ) → ((i : ℕ) → e ≡ Deliver i → ⊥) → (t : Bool) → is_delivery j e ≡ t → is_delivery j e ≡ false
          undelivered j none false d = d
          undelivered j none true d = absurd (none j (same-delivery j e goes.quiet d))

      on-answer : (try : o.tries ≡ n.tries) (k : IsAnswering z n) (t : Bool) → is_delivery k.number e ≡ t → (is_delivery k.number e ≡ false) × ((l : IsAnswering (next_progress script z e) o) × (l.number ≡ k.number))
      on-answer try k true d = absurd (ends-it z n o k (subst (λ (c : Event). Goes z c n o) (same-delivery k.number e goes.quiet d) goes))
      on-answer try k false d = (d, answering-next z e n o goes try k d)

      on-ask : (try : o.tries ≡ n.tries) (k : IsAsking z n) → is_due k.number z.waiting ≡ true → (t : Bool) → is_delivery k.number e ≡ t → ((l : IsAsking (next_progress script z e) o) × (is_due l.number (next_progress script z e).waiting ≡ true)) ⊎ IsAnswering (next_progress script z e) o
      on-ask try k due true d =
          let event = same-delivery k.number e goes.quiet d in
          inr (subst (λ (c : Event). IsAnswering (next_progress script z c) o) (sym event) (answers-it z n o k (subst (λ (c : Event). Goes z c n o) event goes) try))
      on-ask try k due false d =
          let l = asking-next z e n o goes try k d in
          inl (l.0, subst (λ (j : ℕ). is_due j (next_progress script z e).waiting ≡ true) (sym l.1) (due-on script z e k.number goes.quiet d due))

      by-answers : z.phase ≡ p + 2 → ((l : IsAsking (next_progress script z e) o) × (is_due l.number (next_progress script z e).waiting ≡ true)) ⊎ IsAnswering (next_progress script z e) o
      by-answers at =
          let try = late (far (p + 2) (omega arith) at) in
          elim (h.answers at) [
            | inl (k, due) ↦ on-ask try k due (is_delivery k.number e) refl
            | inr k ↦ inr (on-answer try k (is_delivery k.number e) refl).1.0
          ]

      by-comes : z.phase ≡ p + 3 → (l : IsAnswering (next_progress script z e) o) × (is_due l.number (next_progress script z e).waiting ≡ true)
      by-comes at =
          let try = late (far (p + 3) (omega arith) at) in
          let k = h.comes at in
          let l = on-answer try k.0 (is_delivery k.0.number e) refl in
          (l.1.0, subst (λ (j : ℕ). is_due j (next_progress script z e).waiting ≡ true) (sym l.1.1) (due-on script z e k.0.number goes.quiet l.0 k.1))

  -- a phase opens
  pub timely-opened : (p : ℕ) (z : Progress) (n : PlainNode) → IsOpenAt script z → (slot_of z.world a).node ≡ Some n → is_phase_complete z ≡ true → p ≤ z.phase → IsTimely p z n → IsTimely p (opened script z) n
  timely-opened p z n here up complete first h =
      record {
        low = by-low (le-or (p + 3) z.phase);
        asks = λ at ticked. let clash : false ≡ true = ticked in cc;
        answers = λ at. inl (asking-opened z n here complete (h.asks (before 1 at) ticked));
        comes = λ at. by-answers (before 2 at) (h.answers (before 2 at));
      }
    where
      before : (k : ℕ) → z.phase + 1 ≡ p + (k + 1) → z.phase ≡ p + k
      before k at = omega (arith, at)

      by-low : (p + 3 ≤ z.phase) ⊎ (z.phase < p + 3) → z.phase + 1 ≤ p + 3
      by-low (inr less) = omega (arith, less)
      by-low (inl high) = let low = h.low in let k = h.comes (omega (arith, high, low)) in absurd (none-left z k.0.number _ here complete k.0.sent k.1)

      ticked : has z.ticked a ≡ true
      ticked =
          let role = a-here z here in
          let is_up_it : is_up z.world a ≡ true = ap (λ (o : Role). role_up z.world a o) role ∙ ap (λ (o : Option PlainNode). is_some o) up in
          has-ticked z a (some-phase script z here.at) complete is_up_it (role-within z.world.plan a (IsNode g r) role (λ e. cc))

      by-answers : z.phase ≡ p + 2 → ((k : IsAsking z n) × (is_due k.number z.waiting ≡ true)) ⊎ IsAnswering z n → (l : IsAnswering (opened script z) n) × (is_due l.number (opened script z).waiting ≡ true)
      by-answers at (inl (k, due)) = absurd (none-left z k.number _ here complete k.sent due)
      by-answers at (inr k) = answering-opened z n here complete k

-- ---- along the one-thread journal

module _ (script : Script) (can : CanSettle script) (well : OpensWell script (lockstep_journal script)) (x g b a r : ℕ) (role_x : role_of script.plan x ≡ IsNode g b) (spared : is_spared script x ≡ true) (role_a : role_of script.plan a ≡ IsNode g r) where
  abbrev plan : Plan
  plan = script.plan

  abbrev live : is_live_so_far script (lockstep_journal script) ≡ true
  live = live-far script (lockstep_journal script) (lock-live script)

  -- ---- what may still come to a, by phases of which the first has number p

  pub data IsFlowing (p : ℕ) (w : World) (m : ℕ × ℕ) (z : Progress) : Type 0 where
    First : z.phase ≡ p → SubsBelow a w m.1 → IsFlowing p w m z
    Second : z.phase ≡ p + 1 → SubsBelow a w m.0 → RefusalsBelow plan a w m.1 → IsFlowing p w m z
    Later : p + 2 ≤ z.phase → IsFree script can well a g r role_a w m → IsFlowing p w m z

  first-flowing : (w : World) (m : ℕ × ℕ) (z : Progress) (n : PlainNode) → m.0 ≤ m.1 → IsStaged script can well a g r role_a w m z n → IsFlowing z.phase w m z
  first-flowing w m z n order (IsStaged.Young h) = First refl h.subs
  first-flowing w m z n order (IsStaged.Older h) = First refl (below-more script can well a g r role_a w m.0 m.1 order h.subs)
  first-flowing w m z n order (IsStaged.Free h) = First refl (below-more script can well a g r role_a w m.0 m.1 order h.subs)

  -- an event
  module _ (done rest : List Event) (d : Event) (is : lockstep_journal script ≡ done ++ d ∷ rest) (far : length script.phases < (progress script done).phase) where
    flowing-quiet : (p : ℕ) → is_quiet d ≡ true → IsSilent plan (run script.plan done) (happens (run script.plan done) d) d a g r (does-all script can well a g r role_a done rest d is far) role_a → IsFlowing p (run script.plan done) (marks script.plan done) (progress script done) →
        IsFlowing p (happens (run script.plan done) d) (marks script.plan done) (next_progress script (progress script done) d)
    flowing-quiet p quiet silent h = by-flow h
      where
        same : (next_progress script (progress script done) d).phase ≡ (progress script done).phase
        same = (quiet-goes script (progress script done) d quiet (here script can well a g r role_a done rest d is far).at).1

        by-flow : IsFlowing p (run script.plan done) (marks script.plan done) (progress script done) → IsFlowing p (happens (run script.plan done) d) (marks script.plan done) (next_progress script (progress script done) d)
        by-flow (First at subs) = First (same ∙ at) (subs-on plan (run plan done) (happens (run plan done) d) d a g r (does-all script can well a g r role_a done rest d is far) role_a (marks plan done).1 silent subs)
        by-flow (Second at subs refusals) =
            Second (same ∙ at) (subs-on plan (run plan done) (happens (run plan done) d) d a g r (does-all script can well a g r role_a done rest d is far) role_a (marks plan done).0 silent subs)
            (refusals-on plan (run plan done) (happens (run plan done) d) d a g r (does-all script can well a g r role_a done rest d is far) role_a (marks plan done).1 (none-comes script can well a g r role_a done rest d is far subs) refusals)
        by-flow (Later at free) = Later (omega (arith, at, same)) (free-next script can well a g r role_a done rest d is far silent free)

  flowing-opened : (p : ℕ) (w : World) (m : ℕ × ℕ) (z : Progress) → m.0 ≤ m.1 → IsFlowing p w m z → IsFlowing p w (m.1, length w.envelopes) (opened script z)
  flowing-opened p w m z order (First at subs) = Second (ap (λ (q : ℕ). q + 1) at) subs (all-refusals script can well a g r role_a w)
  flowing-opened p w m z order (Second at subs refusals) = Later (omega (arith, at)) (record { subs = below-more script can well a g r role_a w m.0 m.1 order subs; refusals = refusals })
  flowing-opened p w m z order (Later at free) = Later (omega (arith, at)) (record { subs = below-more script can well a g r role_a w m.0 m.1 order free.subs; refusals = refusals-more script can well a g r role_a w m.0 m.1 order free.refusals })

  -- ---- at each point

  abbrev Timely : ℕ → Progress → PlainNode → Type 0
  Timely p z n = IsTimely script x g b a r role_x role_a p z n

  pub record IsInTime (p : ℕ) (done : List Event) : Type 0 where
    pub far : length script.phases < (progress script done).phase
    pub first : p ≤ (progress script done).phase
    pub node : PlainNode
    pub up : (slot_of (run script.plan done) a).node ≡ Some node
    pub recovers : node.recovering ≡ true
    pub flow : IsFlowing p (run script.plan done) (marks script.plan done) (progress script done)
    pub timely : IsTimely script x g b a r role_x role_a p (progress script done) node

  apart : (done rest : List Event) (n : PlainNode) → lockstep_journal script ≡ done ++ rest → (slot_of (run script.plan done) a).node ≡ Some n → n.recovering ≡ true → a ≡ x → ⊥
  apart done rest n is up recovers same =
      let h = (spared-at script (lockstep_journal script) can live x g b role_x spared done rest is).stands in
      true-not-false (sym recovers ∙ ap (λ (z : PlainNode). z.recovering) (some-same n h.node (sym up ∙ ap (λ (k : ℕ). (slot_of (run script.plan done) k).node) same ∙ h.up)) ∙ h.whole)

  -- an event over which it recovers
  in-time-next : (p : ℕ) (done rest : List Event) (d : Event) (o : PlainNode) → lockstep_journal script ≡ done ++ d ∷ rest → IsInTime p done → (slot_of (happens (run script.plan done) d) a).node ≡ Some o → o.recovering ≡ true → IsInTime p (done ++ d ∷ [])
  in-time-next p done rest d o is h now still =
      by-event (in-quiet script (progress script done) d (here script can well a g r role_a done rest d is h.far).at follows)
    where
      z : Progress
      z = progress script done

      world : (progress script done).world ≡ run script.plan done
      world = progress-run script done

      follows : may_follow script (progress script done) d ≡ true
      follows = live-may script (lockstep_journal script) done rest d live is

      push : progress script (done ++ d ∷ []) ≡ next_progress script (progress script done) d
      push = progress-push script done d

      inc : o.grants.inc ≡ h.node.grants.inc
      inc = same-inc script can well a g r role_a done rest d is h.far h.node o h.up now

      came : CameSo d h.node o
      came = came-so (run plan done) (happens (run plan done) d) (home_of plan (g, r)) a d h.node o h.up now still (does-all script can well a g r role_a done rest d is h.far a g r role_a)

      -- no try begins without a delivery, and none from the third phase on
      calm : ((j : ℕ) → d ≡ Deliver j → ⊥) → o.tries ≡ h.node.tries
      calm none = elim came [ inl k ↦ k.1 | inr (j, event, more) ↦ absurd (none j event) ]

      late : p + 2 ≤ (progress script done).phase → o.tries ≡ h.node.tries
      late far = by-flow h.flow far
        where
          by-flow : IsFlowing p (run script.plan done) (marks script.plan done) (progress script done) → p + 2 ≤ (progress script done).phase → o.tries ≡ h.node.tries
          by-flow (First at subs) far = absurd (omega (arith, far, at))
          by-flow (Second at subs refusals) far = absurd (omega (arith, far, at))
          by-flow (Later at free) far = elim came [ inl k ↦ k.1 | inr (j, event, more) ↦ absurd (none-begins script can well a g r role_a done rest d is h.far free h.node o h.up now more) ]

      silent : IsSilent plan (run script.plan done) (happens (run script.plan done) d) d a g r (does-all script can well a g r role_a done rest d is h.far) role_a
      silent clock q event there = ap (λ (y : PlainNode). y.recovering) (some-same q o (sym there ∙ now)) ∙ still

      stands : StandsWhole (progress script done).world x
      stands = subst (λ (v : World). StandsWhole v x) (sym world) (spared-at script (lockstep_journal script) can live x g b role_x spared done (d ∷ rest) is).stands

      now_there : (slot_of (run script.plan (done ++ d ∷ [])) a).node ≡ Some o
      now_there = ap (λ (v : World). (slot_of v a).node) (run-push plan done d) ∙ now

      pushed : (m : ℕ × ℕ) → m ≡ marks_by (run script.plan done) (marks script.plan done) d → IsFlowing p (happens (run script.plan done) d) m (next_progress script (progress script done) d) → IsFlowing p (run script.plan (done ++ d ∷ [])) (marks script.plan (done ++ d ∷ [])) (progress script (done ++ d ∷ []))
      pushed m same k =
          subst (λ (y : Progress). IsFlowing p (run plan (done ++ d ∷ [])) (marks plan (done ++ d ∷ [])) y) (sym push)
          (subst (λ (i : ℕ × ℕ). IsFlowing p (run plan (done ++ d ∷ [])) i (next_progress script (progress script done) d)) (same ∙ sym (marks-push plan done d))
          (subst (λ (v : World). IsFlowing p v m (next_progress script (progress script done) d)) (sym (run-push plan done d)) k))

      grown : (q : ℕ) → q ≤ z.phase → (z.phase ≤ (next_progress script (progress script done) d).phase) → q ≤ (next_progress script (progress script done) d).phase
      grown q low more = omega (arith, low, more)

      by-event : (is_quiet d ≡ true) ⊎ Opens (progress script done) d → IsInTime p (done ++ d ∷ [])
      by-event (inl quiet) =
          let open_here = here script can well a g r role_a done rest d is h.far in
          let same = (quiet-goes script (progress script done) d quiet open_here.at).1 in
          let goes : Goes script x g b a r role_x role_a (progress script done) d h.node o = record {
            quiet = quiet;
            may = follows;
            here = open_here;
            whole = stands;
            up = ap (λ (v : World). (slot_of v a).node) world ∙ h.up;
            recovers = h.recovers;
            now = ap (λ (v : World). (slot_of (happens v d) a).node) world ∙ now;
            still = still;
            inc = inc;
          } in
          let timely = timely-next script x g b a r role_x role_a p (progress script done) d h.node o (apart done (d ∷ rest) h.node is h.up h.recovers) goes late (λ j event. nobody-ticked script can well a g r role_a done rest d is h.far j event) calm h.timely in
          let far = h.far in
          let first = h.first in
          record {
            far = subst (λ (y : Progress). length script.phases < y.phase) (sym push) (omega (arith, far, same));
            first = subst (λ (y : Progress). p ≤ y.phase) (sym push) (omega (arith, first, same));
            node = o;
            up = now_there;
            recovers = still;
            flow = pushed (marks plan done) (sym (quiet-marks (run plan done) (marks plan done) d quiet)) (flowing-quiet done rest d is h.far p quiet silent h.flow);
            timely = subst (λ (y : Progress). Timely p y o) (sym push) timely;
          }
      by-event (inr opens) =
          let open_here = here script can well a g r role_a done rest d is h.far in
          let event : d ≡ Phase ((progress script done).phase + 1) = opens.0 in
          let one : h.node ≡ o = some-same h.node o (sym h.up ∙ sym (ap (λ (c : Event). (slot_of (happens (run plan done) c) a).node) event) ∙ now) in
          let far = h.far in
          let first = h.first in
          let next : next_progress script (progress script done) d ≡ opened script (progress script done) = ap (λ (c : Event). next_progress script (progress script done) c) event in
          let timely = timely-opened script x g b a r role_x role_a p (progress script done) h.node open_here (ap (λ (v : World). (slot_of v a).node) world ∙ h.up) opens.1 h.first h.timely in
          let flow : IsFlowing p (happens (run plan done) d) (marks_by (run plan done) (marks plan done) d) (next_progress script (progress script done) d) =
          subst (λ (c : Event). IsFlowing p (happens (run plan done) c) (marks_by (run plan done) (marks plan done) c) (next_progress script (progress script done) c)) (sym event) (flowing-opened p (run plan done) (marks plan done) (progress script done) (marks-few plan done).0 h.flow) in
          record {
            far = subst (λ (y : Progress). length script.phases < y.phase) (sym (push ∙ next)) (omega (arith, far));
            first = subst (λ (y : Progress). p ≤ y.phase) (sym (push ∙ next)) (omega (arith, first));
            node = o;
            up = now_there;
            recovers = still;
            flow = pushed (marks_by (run plan done) (marks plan done) d) refl flow;
            timely = subst (λ (y : Progress). Timely p y o) (sym (push ∙ next)) (subst (λ (y : PlainNode). Timely p (opened script (progress script done)) y) one timely);
          }

  -- a is up at each point, and behind each event
  pub up-at : (done rest : List Event) → lockstep_journal script ≡ done ++ rest → length script.phases < (progress script done).phase → (o : PlainNode) × ((slot_of (run script.plan done) a).node ≡ Some o)
  up-at done rest is far =
      let z = progress script done in
      let open_here = open-of script can z (running-along script (lockstep_journal script) live well done rest is far) in
      let node = node-there z.world open_here.most a g r open_here.fine open_here.up (ap (λ (y : Plan). role_of y a) open_here.of_plan ∙ role_a) in
      (node.0, ap (λ (v : World). (slot_of v a).node) (sym (progress-run script done)) ∙ node.1)

  later : (done : List Event) (d : Event) → length script.phases < (progress script done).phase → may_follow script (progress script done) d ≡ true → length script.phases < (progress script (done ++ d ∷ [])).phase
  later done d far follows =
      subst (λ (y : Progress). length script.phases < y.phase) (sym (progress-push script done d)) (elim (stays script (progress script done) d follows) [
        | inl same ↦ omega (arith, same, far)
        | inr o ↦ subst (λ (c : Event). length script.phases < (next_progress script (progress script done) c).phase) (sym o.0) (omega (arith, far))
      ])

  behind : (done rest : List Event) (d : Event) → lockstep_journal script ≡ done ++ d ∷ rest → length script.phases < (progress script done).phase → (o : PlainNode) × ((slot_of (happens (run script.plan done) d) a).node ≡ Some o)
  behind done rest d is far =
      let node = up-at (done ++ d ∷ []) rest (is ∙ sym (append_assoc done (d ∷ []) rest)) (later done d far (live-may script (lockstep_journal script) done rest d live is)) in
      (node.0, ap (λ (v : World). (slot_of v a).node) (sym (run-push plan done d)) ∙ node.1)

  shifted : (done piece : List Event) (d : Event) → RecoversThrough script a done (d ∷ piece) → RecoversThrough script a (done ++ d ∷ []) piece
  shifted done piece d through some rest m is up = through (d ∷ some) rest m (ap (λ (es : List Event). d ∷ es) is) (ap (λ (es : List Event). (slot_of (run plan es) a).node) (sym (append_assoc done (d ∷ []) some)) ∙ up)

  in-time-through : (p : ℕ) (done piece rest : List Event) → lockstep_journal script ≡ done ++ (piece ++ rest) → IsInTime p done → RecoversThrough script a done piece → IsInTime p (done ++ piece)
  in-time-through p done [] rest is h through = subst (λ (es : List Event). IsInTime p es) (sym (append-nil done)) h
  in-time-through p done (d ∷ piece) rest is h through =
      let is_next : lockstep_journal script ≡ (done ++ d ∷ []) ++ (piece ++ rest) = is ∙ sym (append_assoc done (d ∷ []) (piece ++ rest)) in
      let node = behind done (piece ++ rest) d is h.far in
      subst (λ (es : List Event). IsInTime p es) (append_assoc done (d ∷ []) piece)
      (in-time-through p (done ++ d ∷ []) piece rest is_next
      (in-time-next p done (piece ++ rest) d node.0 is h node.1 (through (d ∷ []) piece node.0 refl (ap (λ (v : World). (slot_of v a).node) (run-push plan done d) ∙ node.1))) (shifted done piece d through))

-- ---- the law

pub ends-in-time : (script : Script) → EndsInTime script
ends-in-time script can well x g b a r done piece rest role_x spared role_a is far through =
    let z = progress script done in
    let node = up-at script can well x g b a r role_x spared role_a done (piece ++ rest) is far in
    let recovers = through [] piece node.0 refl (ap (λ (es : List Event). (slot_of (run script.plan es) a).node) (append-nil done) ∙ node.1) in
    let staged = (staged-at script can well a g r role_a done (piece ++ rest) is far).stage node.0 node.1 recovers in
    let start : IsInTime script can well x g b a r role_x spared role_a z.phase done = record {
      far = far;
      first = omega arith;
      node = node.0;
      up = node.1;
      recovers = recovers;
      flow = first-flowing script can well x g b a r role_x spared role_a (run script.plan done) (marks script.plan done) z node.0 (marks-few script.plan done).0 staged;
      timely = record { low = omega arith; asks = λ at ticked. absurd (omega (arith, at)); answers = λ at. absurd (omega (arith, at)); comes = λ at. absurd (omega (arith, at)) };
    } in
    (in-time-through script can well x g b a r role_x spared role_a z.phase done piece rest is start through).timely.low
