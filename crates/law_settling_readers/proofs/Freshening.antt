-- What an event makes of a port that asked anew: it waits on, has the whole, is told that its tuples are forgotten, or ticks.
use Rattle.std.proofs.Common.{◌≡◌, ℕ, ◌<◌, ◌≤◌, true, false, cond, ◌==◌, List, map, length, refl, sym, ap, subst, ◌∙◌, arith, Option, Some, slice_get, inl, inr}
use Rattle.dpc_lists.specs.Lists.{changed, place_of}
use Rattle.dpc_model.specs.Reading.{Reader, is_sure}
use Rattle.dpc_model.specs.Inlets.{InletState, same_sess, take_batch, after_tally}
use Rattle.dpc_model.specs.Actors.{role_of, inputs_of, senders_of}
use Rattle.dpc_model.specs.Ports.{Port, sender_at, without_ended_marks, on_beat, on_truncated, all_truncated}
use Rattle.dpc_model.specs.Replicas.{unmarked_at, with_mark}
use Rattle.dpc_model.specs.declared.actors.Role.TheVariants.{Node as IsNode}
use Rattle.dpc_model.specs.declared.tuples.Item.{Item}
use Rattle.dpc_model.specs.declared.messages.Event.{Event}
use Rattle.dpc_model.specs.declared.messages.Event.TheVariants.{Tick}
use Rattle.dpc_model.specs.declared.messages.Sess.{Sess}
use Rattle.dpc_model.specs.declared.messages.Beat.{Beat}
use Rattle.dpc_model.specs.declared.messages.Message.TheVariants as message
use Rattle.dpc_model.specs.declared.plans.Plan.{Plan}
use Rattle.dpc_model.specs.declared.plans.StreamRef.{StreamRef}
use Rattle.dpc_model.specs.declared.plans.StreamRef.TheVariants.{Frag}
use Rattle.dpc_model.specs.declared.scripts.Script.{Script}
use Rattle.dpc_lists.proofs.Somes.{some-same}
use Rattle.node_model.specs.Mails.{Packet, Plain, SnapFor}
use Rattle.world_model.specs.Worlds.{Envelope, happens}
use Rattle.world_model.specs.Schedules.{Progress, next_progress}
use Rattle.law_safety.proofs.Pointwise.{sender-of}
use Rattle.law_granting.specs.Taken.{port_of}
use Rattle.law_settling.proofs.Fresh.{HasWhole, ticks-grow, still-sent}
use Rattle.law_settling.proofs.Lines.{place-low}
use Rattle.law_settling.proofs.Readings.{other-batch, first-batch, asked-tally}
use Rattle.law_settling.proofs.Rules.{MayGo}
use Rattle.law_settling.proofs.Standing.{asked_inlet}
use Rattle.law_settling_readers.proofs.Marks.{Mark, marks_of, free_in, counted-marks, beaten-marks, marked-marks, ended-marked, not-all-free}
use Rattle.law_settling.proofs.PortExact.{port_after, NotLost}
use Rattle.law_settling.proofs.PortGoing.{HasTicked, PortGoes}
use Rattle.law_settling_readers.proofs.Reading.{replica_at, replicas_in, sends_it, IsSeen, replica-sends}
use Rattle.law_settling_readers.proofs.Freshly.{IsFresh, port-next, batches-next, truncations-next}

-- a mark more, of the replica that is read
abbrev pub marked_at : ℕ → ℕ → List Mark → List Mark
marked_at c base ms = changed c (λ _. Some base) ms

pub data FreshGoes (script : Script) (x p f t : ℕ) (u : Sess) (h : Reader) (c : ℕ) (ms : List Mark) (z : Progress) (e : Event) (q : Port) : Type 0 where
  Waits : IsFresh script x p f t u h c ms (next_progress script z e) → FreshGoes script x p f t u h c ms z e q
  Whole : HasWhole script x p (next_progress script z e) → FreshGoes script x p f t u h c ms z e q
  Marked : (base : ℕ) → IsFresh script x p f t u h c (marked_at c base ms) (next_progress script z e) → 1 ≤ free_in (marked_at c base ms) → FreshGoes script x p f t u h c ms z e q
  Ticks : (now : ℕ) (r : Port) → e ≡ Tick x now → port_of (happens z.world e) x p ≡ Some r → HasTicked z.world x (Frag f) (happens z.world e) q r → FreshGoes script x p f t u h c ms z e q

module _ (script : Script) (x p f k : ℕ) where
  -- the sender of what is taken
  pub takes-from : (z : Progress) → IsSeen script x p f k z → (a i : ℕ) → sender_at z.world.plan (inputs_of z.world.plan (role_of z.world.plan x)) a ≡ Some (p, i) → (i < replicas_in z.world.plan f) × (replica_at z.world.plan f i ≡ a)
  takes-from z seen a i place =
      let pl = z.world.plan in
      let found = sender-of pl (inputs_of pl (role_of pl x)) a p i place in
      let same : found.stream ≡ Frag f = some-same found.stream (Frag f) (sym found.at ∙ seen.stand.line.port.there) in
      place-low a (senders_of pl (Frag f)) i (subst (λ (s : StreamRef). place_of (λ b. a == b) (senders_of pl s) ≡ Some i) same found.place)

  pub takes-sends : (z : Progress) → (seen : IsSeen script x p f k z) → (a i : ℕ) → sender_at z.world.plan (inputs_of z.world.plan (role_of z.world.plan x)) a ≡ Some (p, i) → sends_it script.plan f a ≡ true
  takes-sends z seen a i place =
      let from = takes-from z seen a i place in
      ap (λ (pl : Plan). sends_it pl f a) (sym seen.stand.of_plan) ∙ ap (λ (b : ℕ). sends_it z.world.plan f b) (sym from.1) ∙ replica-sends script.plan x p f k z.world seen.stand seen.port seen.there i from.0

  pub fresh-goes : (t : ℕ) (u : Sess) (h : Reader) (c : ℕ) (ms : List Mark) (z : Progress) (e : Event) → MayGo script (IsSeen script x p f k) z e → (fresh : IsFresh script x p f t u h c ms z) → c < replicas_in script.plan f → FreshGoes script x p f t u h c ms z e fresh.port
  fresh-goes t u h c ms z e may fresh low =
      let n = port-next script x p f k z e may fresh.port fresh.there in by-goes n.0 n.1 n.2
    where
      q : Port
      q = fresh.port

      y : Port
      y = without_ended_marks fresh.port

      y-marks : marks_of (without_ended_marks fresh.port).watches ≡ ms
      y-marks =
          counted-marks (length fresh.port.inlet.held.stable) fresh.port.watches ∙ ap (λ (i : InletState). map (unmarked_at (length i.held.stable)) (marks_of fresh.port.watches)) fresh.inlet
          ∙ ap (λ (xs : List Mark). map (unmarked_at (length h.stable)) xs) fresh.marks ∙ fresh.ended

      waits : (r : Port) → port_of (happens z.world e) x p ≡ Some r → r.inlet ≡ fresh.port.inlet → r.chosen ≡ fresh.port.chosen → r.ticks ≡ fresh.port.ticks → (ns : List Mark) → marks_of r.watches ≡ ns → map (unmarked_at (length h.stable)) ns ≡ ns →
          IsFresh script x p f t u h c ns (next_progress script z e)
      waits r now inlet chosen ticks ns marks ended =
          let count = ticks-grow script x z e may.quiet in
          let budget = fresh.budget in
          record {
            port = r;
            there = now;
            inlet = inlet ∙ fresh.inlet;
            chosen = chosen ∙ fresh.chosen;
            budget = omega (arith, ticks, budget, count);
            marks = marks;
            ended = ended;
            number = fresh.number;
            sent = still-sent z.world e fresh.number _ fresh.sent;
            batches = batches-next script x p f k t u h c ms z e may fresh low;
            truncations = truncations-next script x p f k t u h c ms z e may fresh low;
          }

      same : (r : Port) → port_of (happens z.world e) x p ≡ Some r → r ≡ without_ended_marks fresh.port → FreshGoes script x p f t u h c ms z e fresh.port
      same r now is = Waits (waits r now (ap (λ (v : Port). v.inlet) is) (ap (λ (v : Port). v.chosen) is) (ap (λ (v : Port). v.ticks) is) ms (ap (λ (v : Port). marks_of v.watches) is ∙ y-marks) fresh.ended)

      by-batch : (r : Port) → port_of (happens z.world e) x p ≡ Some r → (j i : ℕ) (g : Envelope) → slice_get z.world.envelopes j ≡ Some g → g.to ≡ x → sends_it script.plan f g.sender ≡ true → (v : Sess) (index : ℕ) (items : List Item) → g.packet ≡ Plain (message.Batch v index items) →
          r ≡ port_after i (Plain (message.Batch v index items)) (without_ended_marks fresh.port) → FreshGoes script x p f t u h c ms z e fresh.port
      by-batch r now j i g at to sends v index items packet is =
          (elim (fresh.port.chosen == i) as (λ b. r ≡ cond b (record (without_ended_marks fresh.port) { inlet = (take_batch fresh.port.inlet v index items).after }) (without_ended_marks fresh.port) → FreshGoes script x p f t u h c ms z e fresh.port) [
            | false ↦ λ d. same r now d
            | true ↦ λ d. (elim (same_sess v u) as (λ b. same_sess v u ≡ b → FreshGoes script x p f t u h c ms z e fresh.port) [
              | false ↦ λ other.
                  let old : (take_batch fresh.port.inlet v index items).after ≡ fresh.port.inlet = other-batch fresh.port.inlet v index items (ap (λ (i : InletState). same_sess v i.sess) fresh.inlet ∙ other) in
                  same r now (d ∙ ap (λ (i : InletState). record (without_ended_marks fresh.port) { inlet = i }) old)
              | true ↦ λ mine.
                  let all = fresh.batches j index g v items at sends to packet mine in
                  let held : r.inlet.held ≡ all.1.0.after =
                  ap (λ (w : Port). w.inlet.held) d ∙ ap (λ (i : InletState). (take_batch i v index items).after.held) fresh.inlet ∙ ap (λ (n : ℕ). (take_batch (asked_inlet h u) v n items).after.held) all.0 ∙ first-batch h u v items all.1.0 mine all.1.1 in
                  Whole (record { port = r; there = now; bound = ap (λ (w : Reader). w.bound) held ∙ all.1.2; sure = ap is_sure held ∙ all.1.3 })
            ]) refl
          ]) is

      by-truncation : (r : Port) → port_of (happens z.world e) x p ≡ Some r → (j i : ℕ) (g : Envelope) → slice_get z.world.envelopes j ≡ Some g → g.to ≡ x → sends_it script.plan f g.sender ≡ true → sender_at z.world.plan (inputs_of z.world.plan (role_of z.world.plan x)) g.sender ≡ Some (p, i) →
          (v : Sess) (base : ℕ) → g.packet ≡ Plain (message.Truncated v base) → r ≡ on_truncated i v base (without_ended_marks fresh.port) → ((d b : ℕ) → role_of z.world.plan x ≡ IsNode d b → same_sess v fresh.port.inlet.sess ≡ true → all_truncated r ≡ false) → FreshGoes script x p f t u h c ms z e fresh.port
      by-truncation r now j i g at to sends place v base packet is lost =
          (elim (same_sess v fresh.port.inlet.sess) as (λ b. same_sess v fresh.port.inlet.sess ≡ b → r ≡ record (without_ended_marks fresh.port) { watches = cond b (changed i (with_mark base) (without_ended_marks fresh.port).watches) (without_ended_marks fresh.port).watches } → FreshGoes script x p f t u h c ms z e fresh.port) [
            | false ↦ λ other d. same r now d
            | true ↦ λ mine d.
                let told = fresh.truncations j base g v at sends to packet (ap (λ (s : InletState). same_sess v s.sess) (sym fresh.inlet) ∙ mine) in
                let st = may.here.stand in
                let low_w : c < replicas_in z.world.plan f = subst (λ (pl : Plan). c < replicas_in pl f) (sym st.of_plan) low in
                let of_c : sender_at z.world.plan (inputs_of z.world.plan (role_of z.world.plan x)) g.sender ≡ Some (p, c) =
                ap (λ (a : ℕ). sender_at z.world.plan (inputs_of z.world.plan (role_of z.world.plan x)) a) (told.0 ∙ ap (λ (pl : Plan). replica_at pl f c) (sym st.of_plan)) ∙ st.line.sender c low_w in
                let one : i ≡ c = second i c (sym place ∙ of_c) in
                let marks : marks_of r.watches ≡ marked_at c base ms =
                ap (λ (w : Port). marks_of w.watches) d ∙ marked-marks i base (without_ended_marks fresh.port).watches ∙ ap (λ (b : ℕ). marked_at b base (marks_of (without_ended_marks fresh.port).watches)) one ∙ ap (λ (xs : List Mark). marked_at c base xs) y-marks in
                let node : role_of z.world.plan x ≡ IsNode told.2.0 told.2.1 = ap (λ (pl : Plan). role_of pl x) st.of_plan ∙ told.2.2 in
                let some = not-all-free r (lost told.2.0 told.2.1 node mine) in
                Marked base (waits r now (ap (λ (w : Port). w.inlet) d) (ap (λ (w : Port). w.chosen) d) (ap (λ (w : Port). w.ticks) d) (marked_at c base ms) marks (ended-marked (length h.stable) c base ms told.1 fresh.ended))
                (subst (λ (xs : List Mark). 1 ≤ free_in xs) marks some)
          ]) refl is
        where
          second : (a b : ℕ) → ◌≡◌ {A = Option (ℕ × ℕ)} (Some (p, a)) (Some (p, b)) → a ≡ b
          second a b d = let pair : ◌≡◌ {A = ℕ × ℕ} (p, a) (p, b) = cc in ap (λ (o : ℕ × ℕ). o.1) pair

      by-beat : (r : Port) → port_of (happens z.world e) x p ≡ Some r → (i : ℕ) (b : Beat) → r ≡ on_beat i b (without_ended_marks fresh.port) → FreshGoes script x p f t u h c ms z e fresh.port
      by-beat r now i b is =
          let tally : after_tally fresh.port.inlet b.tally ≡ fresh.port.inlet = ap (λ (s : InletState). after_tally s b.tally) fresh.inlet ∙ asked-tally h u b.tally ∙ sym fresh.inlet in
          let inlet : cond (i == fresh.port.chosen) (after_tally fresh.port.inlet b.tally) fresh.port.inlet ≡ fresh.port.inlet = elim (i == fresh.port.chosen) as (λ d. cond d (after_tally fresh.port.inlet b.tally) fresh.port.inlet ≡ fresh.port.inlet) [ true ↦ tally | false ↦ refl ] in
          Waits (waits r now (ap (λ (v : Port). v.inlet) is ∙ inlet) (ap (λ (v : Port). v.chosen) is) (ap (λ (v : Port). v.ticks) is) ms
          (ap (λ (v : Port). marks_of v.watches) is ∙ beaten-marks i b.inc b.state b.recovering (without_ended_marks fresh.port).watches ∙ y-marks) fresh.ended)

      by-packet : (r : Port) → port_of (happens z.world e) x p ≡ Some r → (j i : ℕ) (g : Envelope) → slice_get z.world.envelopes j ≡ Some g → g.to ≡ x → sends_it script.plan f g.sender ≡ true → sender_at z.world.plan (inputs_of z.world.plan (role_of z.world.plan x)) g.sender ≡ Some (p, i) →
          (packet : Packet) → g.packet ≡ packet → r ≡ port_after i packet (without_ended_marks fresh.port) → ((d b : ℕ) → role_of z.world.plan x ≡ IsNode d b → NotLost packet (without_ended_marks fresh.port) r) → FreshGoes script x p f t u h c ms z e fresh.port
      by-packet r now j i g at to sends place (Plain (message.Batch v index items)) packet is lost = by-batch r now j i g at to sends v index items packet is
      by-packet r now j i g at to sends place (Plain (message.Truncated v base)) packet is lost = by-truncation r now j i g at to sends place v base packet is (λ d b node mine. lost d b node v base refl mine)
      by-packet r now j i g at to sends place (Plain (message.Beat b)) packet is lost = by-beat r now i b is
      by-packet r now j i g at to sends place (Plain (message.Subscribe asked)) packet is lost = same r now is
      by-packet r now j i g at to sends place (Plain (message.Ack l n)) packet is lost = same r now is
      by-packet r now j i g at to sends place (Plain (message.Ask l n)) packet is lost = same r now is
      by-packet r now j i g at to sends place (Plain (message.Grant l n)) packet is lost = same r now is
      by-packet r now j i g at to sends place (Plain (message.SnapAsk l n)) packet is lost = same r now is
      by-packet r now j i g at to sends place (SnapFor l try snap) packet is lost = same r now is

      by-goes : (r : Port) → port_of (happens z.world e) x p ≡ Some r → PortGoes z.world x p (Frag f) e (happens z.world e) fresh.port r → FreshGoes script x p f t u h c ms z e fresh.port
      by-goes r now (PortGoes.Rests (inl is)) = Waits (waits r now (ap (λ (v : Port). v.inlet) is) (ap (λ (v : Port). v.chosen) is) (ap (λ (v : Port). v.ticks) is) ms (ap (λ (v : Port). marks_of v.watches) is ∙ fresh.marks) fresh.ended)
      by-goes r now (PortGoes.Rests (inr is)) = same r now is
      by-goes r now (PortGoes.TakesIn j i g event at to place is lost) = by-packet r now j i g at to (takes-sends z may.here g.sender i place) place g.packet refl is lost
      by-goes r now (PortGoes.TicksOn clock event ticked) = Ticks clock r event now ticked
