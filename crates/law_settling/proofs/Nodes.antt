-- What an event of a quiet phase makes of a node.
use Rattle.std.proofs.Common.{◌≡◌, ℕ, Bool, true, cond, refl, sym, ap, subst, ◌∙◌, Option, Some, slice_get, inl, inr}
use Rattle.dpc_model.specs.Actors.{role_of}
use Rattle.dpc_model.specs.declared.actors.Role.{Role}
use Rattle.dpc_model.specs.declared.actors.Role.TheVariants.{Node as IsNode}
use Rattle.dpc_model.specs.declared.messages.Event.{Event}
use Rattle.dpc_model.specs.declared.messages.Event.TheVariants.{Deliver, Tick}
use Rattle.dpc_lists.proofs.Somes.{some-same}
use Rattle.node_model.specs.Mails.{Stepped}
use Rattle.node_model.specs.Nodes.{Home, PlainNode}
use Rattle.node_model.specs.NodeSteps.{packet_step, mill_step, tick_step}
use Rattle.world_model.specs.Worlds.{World, Envelope, Slot, home_of, slot_of, node_stepped, taken_by, node_takes, can_come, comes, is_clock, ticks, node_ticks, happens}
use Rattle.law_safety.proofs.EventCases.{AreCases, by-event}
use Rattle.law_safety.proofs.Happening.{IsFine}
use Rattle.law_safety.proofs.Promises.{slot-here}
use Rattle.law_granting.proofs.Slots.{slot-there}
use Rattle.law_schedules.specs.Journals.{node_clock, clock_by, Ticks}
use Rattle.world_model.specs.Events.{is_quiet}
use Rattle.law_settling.proofs.Exact.{same-or}

-- the node is as before, or did one of its steps
pub data NodeWent (home : Home) (n m : PlainNode) : Type 0 where
  Rests : m ≡ n → NodeWent home n m
  Takes : (f : Envelope) → m ≡ (packet_step home f.sender f.packet n).after → NodeWent home n m
  Ticked : (now : ℕ) → m ≡ (tick_step home now n).after → NodeWent home n m
  Mills : (r : ℕ) → m ≡ (mill_step home r n).after → NodeWent home n m

module _ (w : World) (most b f r : ℕ) (fine : IsFine w most) (role_b : role_of w.plan b ≡ IsNode f r) where
  abbrev Went : PlainNode → World → Type 0
  Went n next = (m : PlainNode) × ((slot_of next b).node ≡ Some m) × NodeWent (home_of w.plan (f, r)) n m

  -- another's step
  rests : (next : World) (n : PlainNode) → slot_of next b ≡ slot_of w b → (slot_of w b).node ≡ Some n → Went n next
  rests next n same up = (n, ap (λ (z : Slot). z.node) same ∙ up, Rests refl)

  -- a node's step: its own, or another's
  steps : (y g q : ℕ) (x : PlainNode) (t : Stepped PlainNode) (n : PlainNode) → role_of w.plan y ≡ IsNode g q → (slot_of w y).node ≡ Some x → (slot_of w b).node ≡ Some n → (b ≡ y → NodeWent (home_of w.plan (g, q)) x t.after) → Went n (node_stepped y t w)
  steps y g q x t n role up here went =
      elim (same-or b y) [
        | inr other ↦ rests (node_stepped y t w) n (slot-there w y b g q f r (λ (z : Slot). record z { node = Some t.after }) role role_b other) here
        | inl same ↦
            let slot : slot_of (node_stepped y t w) y ≡ record (slot_of w y) { node = Some t.after } = slot-here w most y g q (λ (z : Slot). record z { node = Some t.after }) fine role in
            let now : (slot_of (node_stepped y t w) b).node ≡ Some t.after = ap (λ (z : ℕ). (slot_of (node_stepped y t w) z).node) same ∙ ap (λ (z : Slot). z.node) slot in
            let one : x ≡ n = some-same x n (sym up ∙ ap (λ (z : ℕ). (slot_of w z).node) (sym same) ∙ here) in
            let roles : IsNode g q ≡ IsNode f r = sym role ∙ ap (λ (z : ℕ). role_of w.plan z) (sym same) ∙ role_b in
            let home : home_of w.plan (g, q) ≡ home_of w.plan (f, r) = same-home g q roles in
            (t.after, now, subst (λ (h : Home). NodeWent h n t.after) home (subst (λ (z : PlainNode). NodeWent (home_of w.plan (g, q)) z t.after) one (went same)))
      ]
    where
      same-home : (g q : ℕ) → IsNode g q ≡ IsNode f r → home_of w.plan (g, q) ≡ home_of w.plan (f, r)
      same-home g q e = let one : g ≡ f = cc in let two : q ≡ r = cc in rw (one, two) refl

  went-cases : AreCases w (λ e next. is_quiet e ≡ true → (n : PlainNode) → (slot_of w b).node ≡ Some n → Went n next)
  went-cases =
      record {
        still = λ e quiet n up. rests w n refl up;
        wires = λ e cuts quiet n up. rests (record w { cuts = cuts }) n refl up;
        emitted = λ a v t role quiet n up. cc;
        released = λ a v t role quiet n up. cc;
        source_took = λ j v g sent can role quiet n up. (n, up, Rests refl);
        source_ticks = λ a v now role quiet n up. (n, up, Rests refl);
        crashed = λ a g q role quiet n up. cc;
        restarted = λ a i g q role quiet n up. cc;
        node_took = λ j g q e x sent can role there quiet n up. steps e.to g q x (packet_step (home_of w.plan (g, q)) e.sender e.packet x) n role there up (λ same. Takes e refl);
        node_ticked = λ y now g q x role there clock quiet n up. steps y g q x (tick_step (home_of w.plan (g, q)) now x) n role there up (λ same. Ticked now refl);
        node_milled = λ y m g q x role there can quiet n up. steps y g q x (mill_step (home_of w.plan (g, q)) m x) n role there up (λ same. Mills m refl);
        client_took = λ j d g sent can role quiet n up. (n, up, Rests refl);
        client_ticks = λ a d now role quiet n up. (n, up, Rests refl);
      }

  pub node-went : (e : Event) → is_quiet e ≡ true → (n : PlainNode) → (slot_of w b).node ≡ Some n → (m : PlainNode) × ((slot_of (happens w e) b).node ≡ Some m) × NodeWent (home_of w.plan (f, r)) n m
  node-went e quiet n up = by-event w (λ e next. is_quiet e ≡ true → (n : PlainNode) → (slot_of w b).node ≡ Some n → Went n next) went-cases e quiet n up

  -- ---- now

  -- an envelope that comes is taken
  pub node-took-now : (j : ℕ) (e : Envelope) (n : PlainNode) → slice_get w.envelopes j ≡ Some e → can_come w e ≡ true → e.to ≡ b → (slot_of w b).node ≡ Some n → (slot_of (happens w (Deliver j)) b).node ≡ Some (packet_step (home_of w.plan (f, r)) e.sender e.packet n).after
  node-took-now j e n sent can to up =
      let t = packet_step (home_of w.plan (f, r)) e.sender e.packet n in
      let role : role_of w.plan e.to ≡ IsNode f r = ap (λ (z : ℕ). role_of w.plan z) to ∙ role_b in
      let there : (slot_of w e.to).node ≡ Some n = ap (λ (z : ℕ). (slot_of w z).node) to ∙ up in
      let event : happens w (Deliver j) ≡ node_stepped e.to t w =
      ap (λ (o : Option Envelope). comes w o) sent ∙ ap (λ (c : Bool). cond c (taken_by w e (role_of w.plan e.to)) w) can ∙ ap (λ (z : Role). taken_by w e z) role ∙ ap (λ (o : Option PlainNode). node_takes w e (home_of w.plan (f, r)) o) there in
      let slot : slot_of (node_stepped e.to t w) e.to ≡ record (slot_of w e.to) { node = Some t.after } = slot-here w most e.to f r (λ (z : Slot). record z { node = Some t.after }) fine role in
      ap (λ (v : World). (slot_of v b).node) event ∙ ap (λ (z : ℕ). (slot_of (node_stepped e.to t w) z).node) (sym to) ∙ ap (λ (z : Slot). z.node) slot

  -- so the world is that behind its step
  pub node-took-world : (j : ℕ) (e : Envelope) (n : PlainNode) → slice_get w.envelopes j ≡ Some e → can_come w e ≡ true → e.to ≡ b → (slot_of w b).node ≡ Some n → happens w (Deliver j) ≡ node_stepped e.to (packet_step (home_of w.plan (f, r)) e.sender e.packet n) w
  node-took-world j e n sent can to up =
      let role : role_of w.plan e.to ≡ IsNode f r = ap (λ (z : ℕ). role_of w.plan z) to ∙ role_b in
      let there : (slot_of w e.to).node ≡ Some n = ap (λ (z : ℕ). (slot_of w z).node) to ∙ up in
      ap (λ (o : Option Envelope). comes w o) sent ∙ ap (λ (c : Bool). cond c (taken_by w e (role_of w.plan e.to)) w) can ∙ ap (λ (z : Role). taken_by w e z) role ∙ ap (λ (o : Option PlainNode). node_takes w e (home_of w.plan (f, r)) o) there

  -- and a tick that is not void is its tick
  pub node-ticked-now : (now : ℕ) (n : PlainNode) → Ticks w b now → (slot_of w b).node ≡ Some n → happens w (Tick b now) ≡ node_stepped b (tick_step (home_of w.plan (f, r)) now n) w
  node-ticked-now now n clocked up =
      let clock : n.clock ≡ clocked.old = some-same n.clock clocked.old (sym (ap (λ (z : Role). clock_by w b z) role_b ∙ ap (λ (o : Option PlainNode). node_clock o) up) ∙ clocked.is_up) in
      let may : is_clock n.clock now ≡ true = ap (λ (c : ℕ). is_clock c now) clock ∙ clocked.may in
      let home = home_of w.plan (f, r) in
      ap (λ (z : Role). ticks w b now z) role_b ∙ ap (λ (o : Option PlainNode). node_ticks w b now home o) up ∙ ap (λ (c : Bool). cond c (node_stepped b (tick_step home now n) w) w) may
