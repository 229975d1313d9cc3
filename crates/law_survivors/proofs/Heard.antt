-- What the other replicas of a fragment know of one that stands whole: it never said that it recovers.
use Rattle.std.proofs.Common.{◌≡◌, ℕ, zero, suc, true, false, cond, nat_lt, List, refl, sym, ap, subst, ◌∙◌, arith, Option, Some, None, slice_get, inl, inr}
use Rattle.std.specs.Prelude.{replicate}
use Rattle.dpc_lists.specs.Lists.{nth}
use Rattle.dpc_model.specs.Actors.{role_of, replicas_of}
use Rattle.dpc_model.specs.Replicas.{Watch, new_watch, after_beat, after_tick}
use Rattle.dpc_model.specs.declared.actors.Role.TheVariants.{Node as IsNode}
use Rattle.dpc_model.specs.declared.messages.Beat.{Beat}
use Rattle.dpc_model.specs.declared.messages.Event.{Event}
use Rattle.dpc_model.specs.declared.messages.Message.TheVariants as message
use Rattle.dpc_model.specs.declared.plans.Plan.{Plan}
use Rattle.dpc_lists.proofs.Places.{place-nth}
use Rattle.dpc_lists.proofs.Somes.{some-same}
use Rattle.dpc_lists.proofs.Each.{Each}
use Rattle.node_model.specs.Mails.{Packet, Plain, Stepped}
use Rattle.node_model.specs.Nodes.{Home, PlainNode, new_node, restarted_node, spec_of}
use Rattle.node_model.specs.NodeSteps.{packet_step, mill_step, tick_step}
use Rattle.world_model.specs.Worlds.{World, Envelope, Slot, home_of, slot_of}
use Rattle.law_safety.proofs.Numbering.{replica-at}
use Rattle.law_granting.proofs.Moves.{get-mapped, get-was}
use Rattle.law_granting.proofs.Slots.{got-sent}
use Rattle.law_survivors.specs.Spared.{StandsWhole, IsHeardWhole}
use Rattle.law_survivors.proofs.Doing.{HasStepped, ReplicaDoes}
use Rattle.law_survivors.proofs.Peers.{Hears, packet-hears, milled-peers, ticked-peers, SaysOf, SaysMail, packet-says, milled-says, ticked-says}

-- what a whole node says
abbrev SaysWhole : Packet → Type 0
SaysWhole p = (b : Beat) → p ≡ Plain (message.Beat b) → (b.inc ≡ 1) × (b.recovering ≡ false)

says-whole : (z : PlainNode) (p : Packet) → z.grants.inc ≡ 1 → z.recovering ≡ false → SaysOf z p → SaysWhole p
says-whole z p first whole h b is = let k = subst (λ (y : Packet). SaysOf z y) is h in (k.0 ∙ first, k.1 ∙ whole)

-- ---- one watch

new-heard : IsHeardWhole new_watch
new-heard = record { inc = omega arith; said = refl; unmarked = refl }

get-same : (n i : ℕ) (u : Watch) → slice_get (replicate n new_watch) i ≡ Some u → IsHeardWhole u
get-same zero i u e = cc
get-same (suc n) zero u e = subst IsHeardWhole (some-same new_watch u e) new-heard
get-same (suc n) (suc i) u e = get-same n i u e

beat-heard : (b : Beat) (u : Watch) → b.inc ≡ 1 → b.recovering ≡ false → IsHeardWhole u → IsHeardWhole (after_beat b.inc b.state b.recovering u)
beat-heard b u first whole h =
    elim (nat_lt b.inc u.inc) as (λ c. IsHeardWhole (cond {A = Watch} c u (record u { inc = b.inc; ticks = 0; said = Some (b.state, b.recovering) }))) [
      | true ↦ h
      | false ↦ record { inc = omega (arith, first); said = whole; unmarked = h.unmarked }
    ]

-- ---- a world

pub record AreHeardWhole (plan : Plan) (x g b : ℕ) (w : World) : Type 0 where
  pub sent : (k : ℕ) (e : Envelope) → slice_get w.envelopes k ≡ Some e → e.sender ≡ x → SaysWhole e.packet
  pub heard : (a r : ℕ) (m : PlainNode) (u : Watch) → role_of plan a ≡ IsNode g r → (slot_of w a).node ≡ Some m → slice_get m.peers b ≡ Some u → IsHeardWhole u

new-peers : (home : Home) (i : ℕ) (u : Watch) → slice_get (new_node home).peers i ≡ Some u → IsHeardWhole u
unfolding new_node
new-peers home i u e = get-same (spec_of home).replicas i u e

restarted-peers : (home : Home) (j i : ℕ) (u : Watch) → slice_get (restarted_node home j).peers i ≡ Some u → IsHeardWhole u
unfolding restarted_node
restarted-peers home j i u e = get-same (spec_of home).replicas i u e

pub first-heard : (home : Home) (n : PlainNode) (i : ℕ) (u : Watch) → n ≡ new_node home → slice_get n.peers i ≡ Some u → IsHeardWhole u
first-heard home n i u is e = new-peers home i u (ap (λ (z : PlainNode). slice_get z.peers i) (sym is) ∙ e)

module _ (w next : World) (d : Event) (x g b : ℕ) (role : role_of w.plan x ≡ IsNode g b) (stands : StandsWhole w x) (later : StandsWhole next x) (does : (a f r : ℕ) → role_of w.plan a ≡ IsNode f r → ReplicaDoes w (home_of w.plan (f, r)) a d next) (h : AreHeardWhole w.plan x g b w) where
  -- ---- what x says

  stepped-sent : (n : PlainNode) (t : Stepped PlainNode) → HasStepped w next x n t → Each (SaysMail (home_of w.plan (g, b)) t.after) t.sends → (k : ℕ) (e : Envelope) → slice_get next.envelopes k ≡ Some e → e.sender ≡ x → SaysWhole e.packet
  stepped-sent n t s each k e there mine =
      elim (got-sent (SaysMail (home_of w.plan (g, b)) t.after) x w.envelopes t.sends k e each (sym (ap (λ (es : List Envelope). slice_get es k) s.sends) ∙ there)) [
        | inl old ↦ h.sent k e old mine
        | inr (m, of, says) ↦
            let one : later.node ≡ t.after = some-same later.node t.after (sym later.up ∙ s.now) in
            subst (λ (z : Envelope). SaysWhole z.packet) (sym of) (says-whole t.after m.packet (ap (λ (z : PlainNode). z.grants.inc) (sym one) ∙ later.inc) (ap (λ (z : PlainNode). z.recovering) (sym one) ∙ later.whole) says)
      ]

  does-sent : ReplicaDoes w (home_of w.plan (g, b)) x d next → (k : ℕ) (e : Envelope) → slice_get next.envelopes k ≡ Some e → e.sender ≡ x → SaysWhole e.packet
  does-sent (ReplicaDoes.Rests slot sends) k e there mine = h.sent k e (sends k e there mine) mine
  does-sent (ReplicaDoes.Falls crash down last sends) k e there mine = h.sent k e (sends k e there mine) mine
  does-sent (ReplicaDoes.Starts i newer down now last sends) k e there mine = h.sent k e (sends k e there mine) mine
  does-sent (ReplicaDoes.Takes j f n event at can to s) k e there mine = stepped-sent n (packet_step (home_of w.plan (g, b)) f.sender f.packet n) s (packet-says (home_of w.plan (g, b)) (packet_step (home_of w.plan (g, b)) f.sender f.packet n).after f.sender f.packet n) k e there mine
  does-sent (ReplicaDoes.Ticks now n event s) k e there mine = stepped-sent n (tick_step (home_of w.plan (g, b)) now n) s (ticked-says (home_of w.plan (g, b)) now n) k e there mine
  does-sent (ReplicaDoes.Mills m n s) k e there mine = stepped-sent n (mill_step (home_of w.plan (g, b)) m n) s (milled-says (home_of w.plan (g, b)) (mill_step (home_of w.plan (g, b)) m n).after m n) k e there mine

  -- ---- what another replica knows of it

  module _ (a r : ℕ) (role_a : role_of w.plan a ≡ IsNode g r) where
    stepped-heard : (n : PlainNode) (t : Stepped PlainNode) (m : PlainNode) (u : Watch) → HasStepped w next a n t → (slot_of next a).node ≡ Some m → slice_get m.peers b ≡ Some u → slice_get t.after.peers b ≡ Some u
    stepped-heard n t m u s now at = ap (λ (z : PlainNode). slice_get z.peers b) (some-same t.after m (sym s.now ∙ now)) ∙ at

    took-heard : (j : ℕ) (f : Envelope) (n : PlainNode) (u : Watch) → slice_get w.envelopes j ≡ Some f → (slot_of w a).node ≡ Some n → (new : List Watch) → Hears (home_of w.plan (g, r)) f.sender f.packet n.peers new → slice_get new b ≡ Some u → IsHeardWhole u
    took-heard j f n u there up new (Hears.Same same) at = h.heard a r n u role_a up (ap (λ (ws : List Watch). slice_get ws b) (sym same) ∙ at)
    took-heard j f n u there up new (Hears.Notes beat q packet place same) at =
        let k = get-was q (after_beat beat.inc beat.state beat.recovering) n.peers b u (ap (λ (ws : List Watch). slice_get ws b) (sym same) ∙ at) in
        elim k.2 [
          | inl still ↦ subst IsHeardWhole still (h.heard a r n k.0 role_a up k.1)
          | inr here ↦
              let says = h.sent j f there (sender-is here.0) beat packet in
              subst IsHeardWhole here.1 (beat-heard beat k.0 says.0 says.1 (h.heard a r n k.0 role_a up k.1))
        ]
      where
        sender-is : b ≡ q → f.sender ≡ x
        sender-is same_number = sym (place-nth f.sender (replicas_of w.plan g) q place) ∙ ap (λ (i : ℕ). nth 0 (replicas_of w.plan g) i) (sym same_number) ∙ replica-at w.plan x g b role

    does-heard : ReplicaDoes w (home_of w.plan (g, r)) a d next → (m : PlainNode) (u : Watch) → (slot_of next a).node ≡ Some m → slice_get m.peers b ≡ Some u → IsHeardWhole u
    does-heard (ReplicaDoes.Rests slot sends) m u now at = h.heard a r m u role_a (sym (ap (λ (z : Slot). z.node) slot) ∙ now) at
    does-heard (ReplicaDoes.Falls crash down last sends) m u now at = let clash : ◌≡◌ {A = Option PlainNode} None (Some m) = sym down ∙ now in cc
    does-heard (ReplicaDoes.Starts i newer down up last sends) m u now at = restarted-peers (home_of w.plan (g, r)) i b u (ap (λ (z : PlainNode). slice_get z.peers b) (some-same (restarted_node (home_of w.plan (g, r)) i) m (sym up ∙ now)) ∙ at)
    does-heard (ReplicaDoes.Takes j f n event there can to s) m u now at =
        let t = packet_step (home_of w.plan (g, r)) f.sender f.packet n in
        took-heard j f n u there s.up t.after.peers (packet-hears (home_of w.plan (g, r)) f.sender f.packet n) (stepped-heard n t m u s now at)
    does-heard (ReplicaDoes.Ticks clock n event s) m u now at =
        let t = tick_step (home_of w.plan (g, r)) clock n in
        let k = get-mapped after_tick n.peers b u (ap (λ (ws : List Watch). slice_get ws b) (sym (ticked-peers (home_of w.plan (g, r)) clock n)) ∙ stepped-heard n t m u s now at) in
        let old = h.heard a r n k.0 role_a s.up k.1 in
        subst IsHeardWhole k.2 (record { inc = old.inc; said = old.said; unmarked = old.unmarked })
    does-heard (ReplicaDoes.Mills q n s) m u now at =
        let t = mill_step (home_of w.plan (g, r)) q n in
        h.heard a r n u role_a s.up (ap (λ (ws : List Watch). slice_get ws b) (sym (milled-peers (home_of w.plan (g, r)) q n)) ∙ stepped-heard n t m u s now at)

  pub heard-next : AreHeardWhole w.plan x g b next
  heard-next =
      record {
        sent = λ k e there mine. does-sent (does x g b role) k e there mine;
        heard = λ a r m u role_a now at. does-heard a r role_a (does a g r role_a) m u now at;
      }
