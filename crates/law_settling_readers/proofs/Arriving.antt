-- The answer of the replica that was asked comes: the port has the whole, or turns to another replica.
use Rattle.std.proofs.Common.{◌≡◌, ℕ, ◌<◌, ◌≤◌, Bool, true, cond, ◌==◌, List, map, length, refl, sym, ap, subst, ◌∙◌, arith, Some, None, slice_get, inl, inr}
use Rattle.dpc_lists.specs.Lists.{nth, changed}
use Rattle.dpc_model.specs.Reading.{Reader, is_sure}
use Rattle.dpc_model.specs.Inlets.{InletState, same_sess, take_batch}
use Rattle.dpc_model.specs.Replicas.{unmarked_at, with_mark}
use Rattle.dpc_model.specs.Actors.{role_of, inputs_of}
use Rattle.dpc_model.specs.Ports.{Port, sender_at, without_ended_marks}
use Rattle.dpc_model.specs.declared.actors.Role.TheVariants.{Node as IsNode}
use Rattle.dpc_model.specs.declared.tuples.Item.{Item}
use Rattle.dpc_model.specs.declared.messages.Event.TheVariants.{Deliver}
use Rattle.dpc_model.specs.declared.messages.Sess.{Sess}
use Rattle.dpc_model.specs.declared.messages.Message.TheVariants as message
use Rattle.dpc_model.specs.declared.plans.Plan.{Plan}
use Rattle.dpc_model.specs.declared.plans.StreamRef.TheVariants.{Frag}
use Rattle.dpc_model.specs.declared.scripts.Script.{Script}
use Rattle.node_model.specs.Mails.{Plain}
use Rattle.world_model.specs.Worlds.{Envelope, happens}
use Rattle.world_model.specs.Schedules.{Progress, next_progress}
use Rattle.dpc_lists.proofs.Truths.{eq-test}
use Rattle.dpc_lists.proofs.Elements.{nth-here}
use Rattle.dpc_model.proofs.Alike.{same_sess-self}
use Rattle.dpc_lists.proofs.Somes.{some-same}
use Rattle.law_granting.specs.Taken.{port_of}
use Rattle.law_settling.proofs.Fresh.{HasWhole}
use Rattle.law_settling.proofs.Readings.{first-batch}
use Rattle.law_settling.proofs.Rules.{MayGo}
use Rattle.law_settling_readers.proofs.Marks.{Mark, marks_of, free_in, Fits, counted-marks, marked-marks, not-all-free}
use Rattle.law_settling.proofs.PortExact.{port_after, NotLost}
use Rattle.law_settling.proofs.PortNow.{took-now}
use Rattle.law_settling_readers.proofs.Reading.{replica_at, replicas_in, sends_it, IsSeen, replica-sends}
use Rattle.law_settling_readers.proofs.Freshly.{IsFresh}
use Rattle.law_settling_readers.proofs.Freshening.{marked_at}
use Rattle.law_settling_readers.proofs.Turning.{fits-next, marks-low}
use Rattle.law_settling_readers.proofs.Replied.{IsReplying, Settled, can-here}

module _ (script : Script) (x p f k : ℕ) where
  abbrev Goes : Progress → ℕ → Type 0
  Goes z n = MayGo script (IsSeen script x p f k) z (Deliver n)

  -- what replica c sent comes to the port
  taken-now : (z : Progress) (n c : ℕ) (g : Envelope) → Goes z n → c < replicas_in script.plan f → slice_get z.world.envelopes n ≡ Some g → g.sender ≡ replica_at script.plan f c → g.to ≡ x → (q : Port) → port_of z.world x p ≡ Some q →
      (r : Port) × (port_of (happens z.world (Deliver n)) x p ≡ Some r) × ((r ≡ port_after c g.packet (without_ended_marks q)) × ((d b : ℕ) → role_of z.world.plan x ≡ IsNode d b → NotLost g.packet (without_ended_marks q) r))
  taken-now z n c g may low at sender to q there =
      let st = may.here.stand in
      let low_w : c < replicas_in z.world.plan f = subst (λ (pl : Plan). c < replicas_in pl f) (sym st.of_plan) low in
      let place : sender_at z.world.plan (inputs_of z.world.plan (role_of z.world.plan x)) g.sender ≡ Some (p, c) =
      ap (λ (a : ℕ). sender_at z.world.plan (inputs_of z.world.plan (role_of z.world.plan x)) a) (sender ∙ ap (λ (pl : Plan). replica_at pl f c) (sym st.of_plan)) ∙ st.line.sender c low_w in
      took-now z.world st.most x p (Frag f) st.fine st.many st.line.port st.calm n c g at (can-here script x p f k z n g may.here at) to place may.next.stand.calm q there

  sends-plan : (z : Progress) → IsSeen script x p f k z → (c : ℕ) → c < replicas_in script.plan f → sends_it script.plan f (replica_at script.plan f c) ≡ true
  sends-plan z seen c low =
      let st = seen.stand in
      let low_w : c < replicas_in z.world.plan f = subst (λ (pl : Plan). c < replicas_in pl f) (sym st.of_plan) low in
      ap (λ (pl : Plan). sends_it pl f (replica_at pl f c)) (sym st.of_plan) ∙ replica-sends script.plan x p f k z.world st seen.port seen.there c low_w

  pub replied : (t : ℕ) (u : Sess) (h : Reader) (c : ℕ) (ms : List Mark) (n : ℕ) (z : Progress) → t ≤ 2 → Goes z n → IsReplying script x p f t u h c ms n z → Settled script x p f (free_in ms) (next_progress script z (Deliver n))
  replied t u h c ms n z few may replying =
      elim replying.sent [
        | inl batch ↦ inl (by-batch batch.0 batch.1)
        | inr cut ↦ elim (fits-next script x p f k t u h c ms z (Deliver n) few may replying.fresh replying.low replying.fits) [
          | inr settled ↦ settled
          | inl fresh ↦ absurd (by-truncation cut.0 cut.1 fresh)
        ]
      ]
    where
      by-batch : (items : List Item) → slice_get z.world.envelopes n ≡ Some (record { sender = replica_at script.plan f c; to = x; packet = Plain (message.Batch u 0 items) }) → HasWhole script x p (next_progress script z (Deliver n))
      by-batch items at =
          let fresh = replying.fresh in
          let q = fresh.port in
          let taken = taken-now z n c (record { sender = replica_at script.plan f c; to = x; packet = Plain (message.Batch u 0 items) }) may replying.low at refl refl q fresh.there in
          let r = taken.0 in
          let all = fresh.batches n 0 (record { sender = replica_at script.plan f c; to = x; packet = Plain (message.Batch u 0 items) }) u items at (sends-plan z may.here c replying.low) refl refl (same_sess-self u) in
          let mine : (q.chosen == c) ≡ true = eq-test q.chosen c fresh.chosen in
          let inlet : r.inlet ≡ (take_batch q.inlet u 0 items).after = ap (λ (v : Port). v.inlet) taken.2.0 ∙ ap (λ (b : Bool). (cond b (record (without_ended_marks q) { inlet = (take_batch q.inlet u 0 items).after }) (without_ended_marks q)).inlet) mine in
          let held : r.inlet.held ≡ all.1.0.after = ap (λ (i : InletState). i.held) inlet ∙ ap (λ (i : InletState). (take_batch i u 0 items).after.held) fresh.inlet ∙ first-batch h u u items all.1.0 (same_sess-self u) all.1.1 in
          record { port = r; there = taken.1; bound = ap (λ (w : Reader). w.bound) held ∙ all.1.2; sure = ap is_sure held ∙ all.1.3 }

      -- a truncation leaves its mark
      by-truncation : (base : ℕ) → slice_get z.world.envelopes n ≡ Some (record { sender = replica_at script.plan f c; to = x; packet = Plain (message.Truncated u base) }) → IsFresh script x p f t u h c ms (next_progress script z (Deliver n)) → ⊥
      by-truncation base at next =
          let fresh = replying.fresh in
          let q = fresh.port in
          let y = without_ended_marks q in
          let g : Envelope = record { sender = replica_at script.plan f c; to = x; packet = Plain (message.Truncated u base) } in
          let taken = taken-now z n c g may replying.low at refl refl q fresh.there in
          let r = taken.0 in
          let told = fresh.truncations n base g u at (sends-plan z may.here c replying.low) refl refl (same_sess-self u) in
          let mine : same_sess u q.inlet.sess ≡ true = ap (λ (i : InletState). same_sess u i.sess) fresh.inlet ∙ same_sess-self u in
          let y_marks : marks_of y.watches ≡ ms =
          counted-marks (length q.inlet.held.stable) q.watches ∙ ap (λ (i : InletState). map (unmarked_at (length i.held.stable)) (marks_of q.watches)) fresh.inlet ∙ ap (λ (xs : List Mark). map (unmarked_at (length h.stable)) xs) fresh.marks ∙ fresh.ended in
          let marks : marks_of r.watches ≡ marked_at c base ms =
          ap (λ (v : Port). marks_of v.watches) taken.2.0 ∙ ap (λ (b : Bool). marks_of (cond b (changed c (with_mark base) y.watches) y.watches)) mine ∙ marked-marks c base y.watches ∙ ap (λ (xs : List Mark). marked_at c base xs) y_marks in
          let one : next.port ≡ r = some-same next.port r (sym next.there ∙ taken.1) in
          let same : ms ≡ marked_at c base ms = sym next.marks ∙ ap (λ (v : Port). marks_of v.watches) one ∙ marks in
          let mark : nth None ms c ≡ Some base = ap (λ (xs : List Mark). nth None xs c) same ∙ nth-here None c (λ _. Some base) ms (marks-low script x p f k t u h c ms z may.here fresh) in
          let node : role_of z.world.plan x ≡ IsNode told.2.0 told.2.1 = ap (λ (pl : Plan). role_of pl x) may.here.stand.of_plan ∙ told.2.2 in
          let some : 1 ≤ free_in ms = subst (λ (xs : List Mark). 1 ≤ free_in xs) (marks ∙ sym same) (not-all-free r (taken.2.1 told.2.0 told.2.1 node u base refl mine)) in
          none-fits replying.fits mark some
        where
          none-fits : Fits c ms → nth None ms c ≡ Some base → 1 ≤ free_in ms → ⊥
          none-fits (inl none) mark some = let clash : ◌≡◌ {A = Mark} None (Some base) = sym none ∙ mark in cc
          none-fits (inr all) mark some = omega (arith, all, some)
