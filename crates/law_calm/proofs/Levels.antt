-- The bases of a fragment's replicas, and what a reader acknowledged to them, stay at most a level that does not fall.
use Rattle.std.proofs.Common.{◌≡◌, ℕ, ◌≤◌, Bool, true, false, cond, ◌&&◌, ◌==◌, refl, sym, ap, subst, ◌∙◌, arith, Some, slice_get, ◌⊎◌, inl, inr}
use Rattle.dpc_model.specs.Actors.{role_of, sends_stream}
use Rattle.dpc_model.specs.declared.actors.Role.{Role}
use Rattle.dpc_model.specs.declared.actors.Role.TheVariants.{Node as IsNode}
use Rattle.dpc_model.specs.declared.messages.Message.TheVariants as message
use Rattle.dpc_model.specs.declared.plans.Plan.{Plan}
use Rattle.dpc_model.specs.declared.plans.StreamRef.TheVariants.{Frag}
use Rattle.node_model.specs.Mails.{Packet, Plain, SnapFor, Stepped, Snap}
use Rattle.node_model.specs.Nodes.{Home, PlainNode}
use Rattle.node_model.specs.NodeSteps.{after_adoption, with_marks_ended, packet_step, mill_step, tick_step}
use Rattle.world_model.specs.Worlds.{World, Envelope, Slot, home_of, slot_of}
use Rattle.dpc_lists.proofs.Truths.{eq-test}
use Rattle.dpc_lists.proofs.Somes.{some-same}
use Rattle.law_safety.proofs.Happening.{IsFine}
use Rattle.law_granting.proofs.Prefix.{IsReader}
use Rattle.law_readers.proofs.Counting.{IsLow, TellsLow, delivered-low, milled-low, ticked-low}
use Rattle.law_readers.proofs.Kept.{low-more}
use Rattle.law_calm.proofs.Doing.{AreCalmSlots, up-calm, HasStepped, NodeDoes}

-- the replicas of fragment f, and each acknowledgement of the reader x to one of them
pub record IsLevel (plan : Plan) (x f b : ℕ) (w : World) : Type 0 where
  pub nodes : (a r : ℕ) (n : PlainNode) → role_of plan a ≡ IsNode f r → (slot_of w a).node ≡ Some n → IsLow (home_of plan (f, r)) x b n.acks n.base
  pub told : (k i count : ℕ) (e : Envelope) → slice_get w.envelopes k ≡ Some e → e.sender ≡ x → sends_stream (Frag f) (role_of plan e.to) ≡ true → e.packet ≡ Plain (message.Ack i count) → count ≤ b

-- a snapshot is not taken where the node does not recover
snap-low : (home : Home) (x b a i try : ℕ) (s : Snap) (n : PlainNode) → n.recovering ≡ false → IsLow home x b n.acks n.base → IsLow home x b (packet_step home a (SnapFor i try s) n).after.acks (packet_step home a (SnapFor i try s) n).after.base
unfolding packet_step
snap-low home x b a i try s n whole h =
    let m = with_marks_ended n in
    subst (λ (c : Bool). IsLow home x b (cond {A = PlainNode} (c && i == m.grants.inc && try == m.tries) (after_adoption home s m) m).acks (cond {A = PlainNode} (c && i == m.grants.inc && try == m.tries) (after_adoption home s m) m).base) (sym whole) h

module _ (w next : World) (most : ℕ) (fine : IsFine w most) (calm : AreCalmSlots w.nodes) (x f b d : ℕ) (reader : IsReader w.plan (Frag f) x) (more : b ≤ d) (h : IsLevel w.plan x f b w) where
  module _ (a r : ℕ) (role : role_of w.plan a ≡ IsNode f r) where
    abbrev Here : Home
    Here = home_of w.plan (f, r)

    sends-it : sends_stream (Frag f) (role_of w.plan a) ≡ true
    sends-it = ap (λ (z : Role). sends_stream (Frag f) z) role ∙ eq-test f f refl

    -- a packet that comes to the replica
    took-low : (k : ℕ) (e : Envelope) (n : PlainNode) → slice_get w.envelopes k ≡ Some e → e.to ≡ a → (slot_of w a).node ≡ Some n → (p : Packet) → e.packet ≡ p → IsLow Here x b (packet_step Here e.sender p n).after.acks (packet_step Here e.sender p n).after.base
    took-low k e n there to up (SnapFor i try s) same = snap-low Here x b e.sender i try s n (up-calm w most a f r n fine calm role up) (h.nodes a r n role up)
    took-low k e n there to up (Plain m) same = (delivered-low Here x b reader.place reader.low reader.it e.sender (Plain m) n tells (h.nodes a r n role up)).after
      where
        tells : TellsLow Here x b reader.place reader.low reader.it e.sender (Plain m)
        tells =
            record {
              snapshot = λ i try s is. cc;
              ack = λ i count is mine. h.told k i count e there mine (ap (λ (z : ℕ). sends_stream (Frag f) (role_of w.plan z)) to ∙ sends-it) (same ∙ is);
            }

    stepped-low : (n z : PlainNode) (t : Stepped PlainNode) → HasStepped w next a n t → (slot_of next a).node ≡ Some z → IsLow Here x b t.after.acks t.after.base → IsLow Here x d z.acks z.base
    stepped-low n z t s now low =
        let it : t.after ≡ z = some-same t.after z (sym s.now ∙ now) in
        low-more Here x b d z.acks z.base more (subst (λ (y : PlainNode). IsLow Here x b y.acks y.base) it low)

    does-low : NodeDoes w Here a next → (z : PlainNode) → (slot_of next a).node ≡ Some z → IsLow Here x d z.acks z.base
    does-low (NodeDoes.Rests slot sends) z now = low-more Here x b d z.acks z.base more (h.nodes a r z role (sym (ap (λ (s : Slot). s.node) slot) ∙ now))
    does-low (NodeDoes.Takes k e n there to s) z now = stepped-low n z (packet_step Here e.sender e.packet n) s now (took-low k e n there to s.up e.packet refl)
    does-low (NodeDoes.Ticks clock n s) z now = stepped-low n z (tick_step Here clock n) s now (ticked-low Here x b reader.place reader.low reader.it clock n (h.nodes a r n role s.up)).after
    does-low (NodeDoes.Mills m n s) z now = stepped-low n z (mill_step Here m n) s now (milled-low Here x b reader.place reader.low reader.it m n (h.nodes a r n role s.up)).after

  pub level-next : ((a r : ℕ) → role_of w.plan a ≡ IsNode f r → NodeDoes w (home_of w.plan (f, r)) a next) →
      ((k i count : ℕ) (e : Envelope) → slice_get next.envelopes k ≡ Some e → e.sender ≡ x → sends_stream (Frag f) (role_of w.plan e.to) ≡ true → e.packet ≡ Plain (message.Ack i count) → (slice_get w.envelopes k ≡ Some e) ⊎ (count ≤ d)) →
      IsLevel w.plan x f d next
  level-next does acks =
      record {
        nodes = λ a r n role up. does-low a r role (does a r role) n up;
        told = λ k i count e there mine to packet. elim (acks k i count e there mine to packet) [
          | inl old ↦ (let low = h.told k i count e old mine to packet in omega (arith, low, more))
          | inr new ↦ new
        ];
      }
