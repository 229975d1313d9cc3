-- The bases of a fragment's replicas, in their snapshots too, and what a reader acknowledged to them, stay at most a level that does not
-- fall, whichever of them are crashed.
use Rattle.std.proofs.Common.{◌≡◌, ℕ, ◌≤◌, true, false, not, ◌&&◌, ◌==◌, List, refl, sym, ap, subst, ◌∙◌, arith, Option, Some, None, slice_get, ◌⊎◌, inl, inr}
use Rattle.std.proofs.lemmas.List.{length-map}
use Rattle.dpc_model.specs.Actors.{role_of, sends_stream, are_peers}
use Rattle.dpc_model.specs.declared.actors.Role.{Role}
use Rattle.dpc_model.specs.declared.actors.Role.TheVariants.{Source as IsSource, Node as IsNode, Client as IsClient, Nobody}
use Rattle.dpc_model.specs.declared.messages.Event.{Event}
use Rattle.dpc_model.specs.declared.messages.Event.TheVariants.{Deliver}
use Rattle.dpc_model.specs.declared.messages.Message.TheVariants as message
use Rattle.dpc_model.specs.declared.plans.Plan.{Plan}
use Rattle.dpc_model.specs.declared.plans.StreamRef.TheVariants.{Frag}
use Rattle.node_model.specs.Mails.{Packet, Plain, SnapFor, Stepped, Snap}
use Rattle.node_model.specs.Nodes.{Home, PlainNode, own_readers, restarted_node}
use Rattle.node_model.specs.NodeSteps.{packet_step, mill_step, tick_step}
use Rattle.world_model.specs.Worlds.{World, Envelope, Slot, home_of, slot_of}
use Rattle.world_model.specs.Orderly.{is_fitting, packet_way, carries_fitting}
use Rattle.dpc_lists.proofs.Truths.{both, eq-of, eq-test}
use Rattle.dpc_lists.proofs.Somes.{some-same}
use Rattle.dpc_lists.proofs.Each.{Each}
use Rattle.law_safety.proofs.Numbering.{all-at}
use Rattle.law_safety.proofs.Happening.{IsFine}
use Rattle.law_granting.proofs.Prefix.{IsReader}
use Rattle.law_granting.proofs.Slots.{got-sent}
use Rattle.law_readers.proofs.Counting.{none-acked, IsLow, LowPacket, LowMail, TellsLow, delivered-low, milled-low, ticked-low}
use Rattle.law_readers.proofs.Kept.{low-more}
use Rattle.law_survivors.proofs.Doing.{HasStepped, ReplicaDoes}

-- the replicas of fragment f, their snapshots, and each acknowledgement of the reader x to one of them, of the incarnations that count
pub record IsLevelIn (counts : ℕ → Type 0) (plan : Plan) (x f b : ℕ) (w : World) : Type 0 where
  pub nodes : (a r : ℕ) (n : PlainNode) → role_of plan a ≡ IsNode f r → (slot_of w a).node ≡ Some n → IsLow (home_of plan (f, r)) x b n.acks n.base
  pub snaps : (k r : ℕ) (e : Envelope) → slice_get w.envelopes k ≡ Some e → role_of plan e.sender ≡ IsNode f r → LowPacket b e.packet
  pub told : (k i count : ℕ) (e : Envelope) → counts i → slice_get w.envelopes k ≡ Some e → e.sender ≡ x → sends_stream (Frag f) (role_of plan e.to) ≡ true → e.packet ≡ Plain (message.Ack i count) → count ≤ b

-- all incarnations do
abbrev pub IsLevel : Plan → ℕ → ℕ → ℕ → World → Type 0
IsLevel plan x f b w = IsLevelIn (λ (i : ℕ). Unit {0}) plan x f b w

low-packet-more : (b d : ℕ) (p : Packet) → b ≤ d → LowPacket b p → LowPacket d p
low-packet-more b d (Plain m) more h = tt
low-packet-more b d (SnapFor i try s) more h = omega (arith, more, h)

-- who begins anew knows of no acknowledgement
restarted-low : (home : Home) (i x b : ℕ) → IsLow home x b (restarted_node home i).acks (restarted_node home i).base
unfolding restarted_node
restarted-low home i x b =
    record { base = omega arith; many = length-map (own_readers home) (λ (_ : ℕ). (0, 0)); acks = λ k e. let none = none-acked (own_readers home) k in omega (arith, none) }

module _ (w next : World) (most : ℕ) (d : Event) (fine : IsFine w most) (x f b c : ℕ) (counts : ℕ → Type 0) (came : (k i count : ℕ) (e : Envelope) → d ≡ Deliver k → slice_get w.envelopes k ≡ Some e → e.sender ≡ x → e.packet ≡ Plain (message.Ack i count) → counts i)
    (reader : IsReader w.plan (Frag f) x) (more : b ≤ c) (h : IsLevelIn counts w.plan x f b w) where
  -- a snapshot comes from another replica of the fragment
  snap-came : (k r : ℕ) (e : Envelope) → slice_get w.envelopes k ≡ Some e → role_of w.plan e.to ≡ IsNode f r → (i try : ℕ) (s : Snap) → e.packet ≡ SnapFor i try s → s.base ≤ b
  snap-came k r e there role i try s same = by-sender (role_of w.plan e.sender) refl
    where
      way : are_peers (role_of w.plan e.sender) (IsNode f r) ≡ true
      way =
          let fits = all-at (is_fitting w.plan) w.envelopes k e fine.fits there in
          let it = (both (packet_way w.plan (role_of w.plan e.sender) (role_of w.plan e.to) e.packet) (carries_fitting w.plan (role_of w.plan e.sender) e.packet) fits).0 in
          rw (same, role) at it

      by-sender : (sender : Role) → role_of w.plan e.sender ≡ sender → s.base ≤ b
      by-sender (IsNode g q) is =
          let peers : (g == f && not (q == r)) ≡ true = rw is at way in
          let one = eq-of g f (both (g == f) (not (q == r)) peers).0 in
          subst (λ (p : Packet). LowPacket b p) same (h.snaps k q e there (is ∙ ap (λ (z : ℕ). IsNode z q) one))
      by-sender (IsSource u) is = let clash : false ≡ true = rw is at way in cc
      by-sender (IsClient u) is = let clash : false ≡ true = rw is at way in cc
      by-sender Nobody is = let clash : false ≡ true = rw is at way in cc

  module _ (a r : ℕ) (role : role_of w.plan a ≡ IsNode f r) where
    abbrev Here : Home
    Here = home_of w.plan (f, r)

    sends-it : sends_stream (Frag f) (role_of w.plan a) ≡ true
    sends-it = ap (λ (z : Role). sends_stream (Frag f) z) role ∙ eq-test f f refl

    tells : (k : ℕ) (e : Envelope) → d ≡ Deliver k → slice_get w.envelopes k ≡ Some e → e.to ≡ a → TellsLow Here x b reader.place reader.low reader.it e.sender e.packet
    tells k e event there to =
        record {
          snapshot = λ i try s is. snap-came k r e there (ap (λ (z : ℕ). role_of w.plan z) to ∙ role) i try s is;
          ack = λ i count is mine. h.told k i count e (came k i count e event there mine is) there mine (ap (λ (z : ℕ). sends_stream (Frag f) (role_of w.plan z)) to ∙ sends-it) is;
        }

    stepped-low : (n z : PlainNode) (t : Stepped PlainNode) → HasStepped w next a n t → (slot_of next a).node ≡ Some z → IsLow Here x b t.after.acks t.after.base → IsLow Here x c z.acks z.base
    stepped-low n z t s now low =
        let it : t.after ≡ z = some-same t.after z (sym s.now ∙ now) in
        low-more Here x b c z.acks z.base more (subst (λ (y : PlainNode). IsLow Here x b y.acks y.base) it low)

    does-low : ReplicaDoes w Here a d next → (z : PlainNode) → (slot_of next a).node ≡ Some z → IsLow Here x c z.acks z.base
    does-low (ReplicaDoes.Rests slot sends) z now = low-more Here x b c z.acks z.base more (h.nodes a r z role (sym (ap (λ (s : Slot). s.node) slot) ∙ now))
    does-low (ReplicaDoes.Falls crash down last sends) z now = let clash : ◌≡◌ {A = Option PlainNode} None (Some z) = sym down ∙ now in cc
    does-low (ReplicaDoes.Starts i newer down up last sends) z now = subst (λ (y : PlainNode). IsLow Here x c y.acks y.base) (some-same (restarted_node Here i) z (sym up ∙ now)) (restarted-low Here i x c)
    does-low (ReplicaDoes.Takes k e n event there can to s) z now =
        stepped-low n z (packet_step Here e.sender e.packet n) s now (delivered-low Here x b reader.place reader.low reader.it e.sender e.packet n (tells k e event there to) (h.nodes a r n role s.up)).after
    does-low (ReplicaDoes.Ticks clock n event s) z now = stepped-low n z (tick_step Here clock n) s now (ticked-low Here x b reader.place reader.low reader.it clock n (h.nodes a r n role s.up)).after
    does-low (ReplicaDoes.Mills m n s) z now = stepped-low n z (mill_step Here m n) s now (milled-low Here x b reader.place reader.low reader.it m n (h.nodes a r n role s.up)).after

    old-snap : (k : ℕ) (e : Envelope) → slice_get w.envelopes k ≡ Some e → e.sender ≡ a → LowPacket c e.packet
    old-snap k e old mine = low-packet-more b c e.packet more (h.snaps k r e old (ap (λ (z : ℕ). role_of w.plan z) mine ∙ role))

    stepped-snap : (n : PlainNode) (t : Stepped PlainNode) → HasStepped w next a n t → Each (LowMail b) t.sends → (k : ℕ) (e : Envelope) → slice_get next.envelopes k ≡ Some e → e.sender ≡ a → LowPacket c e.packet
    stepped-snap n t s each k e there mine =
        elim (got-sent (LowMail b) a w.envelopes t.sends k e each (sym (ap (λ (es : List Envelope). slice_get es k) s.sends) ∙ there)) [
          | inl old ↦ old-snap k e old mine
          | inr (m, of, low) ↦ low-packet-more b c e.packet more (subst (λ (z : Envelope). LowPacket b z.packet) (sym of) low)
        ]

    does-snap : ReplicaDoes w Here a d next → (k : ℕ) (e : Envelope) → slice_get next.envelopes k ≡ Some e → e.sender ≡ a → LowPacket c e.packet
    does-snap (ReplicaDoes.Rests slot sends) k e there mine = old-snap k e (sends k e there mine) mine
    does-snap (ReplicaDoes.Falls crash down last sends) k e there mine = old-snap k e (sends k e there mine) mine
    does-snap (ReplicaDoes.Starts i newer down up last sends) k e there mine = old-snap k e (sends k e there mine) mine
    does-snap (ReplicaDoes.Takes j f n event at can to s) k e there mine =
        stepped-snap n (packet_step Here f.sender f.packet n) s (delivered-low Here x b reader.place reader.low reader.it f.sender f.packet n (tells j f event at to) (h.nodes a r n role s.up)).sends k e there mine
    does-snap (ReplicaDoes.Ticks clock n event s) k e there mine = stepped-snap n (tick_step Here clock n) s (ticked-low Here x b reader.place reader.low reader.it clock n (h.nodes a r n role s.up)).sends k e there mine
    does-snap (ReplicaDoes.Mills m n s) k e there mine = stepped-snap n (mill_step Here m n) s (milled-low Here x b reader.place reader.low reader.it m n (h.nodes a r n role s.up)).sends k e there mine

  pub level-next : ((a r : ℕ) → role_of w.plan a ≡ IsNode f r → ReplicaDoes w (home_of w.plan (f, r)) a d next) →
      ((k i count : ℕ) (e : Envelope) → counts i → slice_get next.envelopes k ≡ Some e → e.sender ≡ x → sends_stream (Frag f) (role_of w.plan e.to) ≡ true → e.packet ≡ Plain (message.Ack i count) → (slice_get w.envelopes k ≡ Some e) ⊎ (count ≤ c)) →
      IsLevelIn counts w.plan x f c next
  level-next does acks =
      record {
        nodes = λ a r n role up. does-low a r role (does a r role) n up;
        snaps = λ k r e there role. does-snap e.sender r role (does e.sender r role) k e there refl;
        told = λ k i count e counted there mine to packet. elim (acks k i count e counted there mine to packet) [
          | inl old ↦ (let low = h.told k i count e counted old mine to packet in omega (arith, low, more))
          | inr new ↦ new
        ];
      }
