-- Who begins to recover, and did not just go on from a snapshot, lacks something of a fragment's stream: its present session was refused, so it
-- asked for what was forgotten, and a spared replica of its fragment has processed that.
use Rattle.std.proofs.Common.{◌≡◌, ℕ, ◌+◌, ◌*◌, ◌<◌, ◌≤◌, true, List, ◌∷◌, ◌++◌, length, refl, sym, ap, subst, ◌∙◌, arith, Option, Some, None, slice_get, ◌⊎◌, inl, inr}
use Rattle.dpc_lists.proofs.Somes.{some-same}
use Rattle.dpc_lists.proofs.Truths.{eq-of, true-not-false}
use Rattle.dpc_model.specs.Fragments.{ideal_upto, ideal}
use Rattle.dpc_model.specs.Inlets.{same_sess}
use Rattle.dpc_model.specs.Actors.{role_of, inputs_of, sends_stream}
use Rattle.dpc_model.specs.Ports.{Port}
use Rattle.dpc_model.specs.declared.actors.Role.{Role}
use Rattle.dpc_model.specs.declared.actors.Role.TheVariants.{Source as IsSource, Node as IsNode, Client as IsClient, Nobody}
use Rattle.dpc_model.specs.declared.messages.Event.{Event}
use Rattle.dpc_model.specs.declared.messages.Sess.{Sess}
use Rattle.dpc_model.specs.declared.plans.Plan.{Plan}
use Rattle.dpc_model.specs.declared.plans.StreamRef.{StreamRef}
use Rattle.dpc_model.specs.declared.plans.StreamRef.TheVariants.{Source, Frag}
use Rattle.dpc_model.specs.declared.scripts.Script.{Script}
use Rattle.dpc_model.proofs.Subs.{nth-there}
use Rattle.node_model.specs.Mails.{Packet}
use Rattle.node_model.specs.Nodes.{Home, PlainNode, streams_of}
use Rattle.node_model.specs.NodeSteps.{packet_step, mill_step, tick_step}
use Rattle.world_model.specs.Worlds.{Envelope, Slot, home_of, node_place, slot_of, happens, run}
use Rattle.world_model.specs.Schedules.{is_live_so_far}
use Rattle.law_safety.proofs.Frames.{IsGood}
use Rattle.law_safety.proofs.Growing.{run-plan}
use Rattle.law_safety.proofs.Happening.{node-here}
use Rattle.law_safety.proofs.Law.{run-good}
use Rattle.law_safety.proofs.Milling.{upto_le}
use Rattle.law_safety.proofs.Numbering.{home-inputs, node-at}
use Rattle.law_safety.proofs.OutFits.{cursor-within}
use Rattle.law_safety.proofs.Pointwise.{sender-of, port-at}
use Rattle.law_safety.proofs.Senders.{sender_sends}
use Rattle.law_safety.proofs.Worlding.{place-of}
use Rattle.law_granting.specs.Taken.{node_port}
use Rattle.law_readers.specs.Newest.{IsPortOf}
use Rattle.law_readers.specs.Settling.{CanSettle}
use Rattle.law_readers.specs.Sure.{SendsSurely}
use Rattle.law_readers.proofs.Surely.{sources-sure}
use Rattle.law_calm.proofs.Kept.{WasAnswered, IsWaiting}
use Rattle.law_survivors.specs.Spared.{is_spared, StandsWhole, Begins, LacksSome}
use Rattle.law_survivors.proofs.Acked.{both-at}
use Rattle.law_survivors.proofs.Behind.{done_upto, AllAsked, IsBehind, AreRefusedBelow, IsRefusedBelow}
use Rattle.law_survivors.proofs.Broken.{IsLost, is-lost}
use Rattle.law_survivors.proofs.Doing.{ReplicaDoes, replica-does}
use Rattle.law_survivors.proofs.Refused.{refused-at}
use Rattle.law_survivors.proofs.Running.{spared-at}
use Rattle.law_survivors.proofs.Spared.{reads-it}
use Rattle.law_survivors.proofs.Tries.{milled-status, ticked-tries}

-- less than all that lies below the end is less than the whole stream
whole-more : (plan : Plan) (s : StreamRef) (count : ℕ) → count < length (ideal_upto plan s plan.end) → count < length (ideal plan s)
unfolding ideal
whole-more plan s count h = h

enough : (held asked bound all : ℕ) → held ≤ asked → asked < bound → bound ≤ all → held < all
enough held asked bound all low less more = omega (arith, low, less, more)

module _ (script : Script) (events : List Event) (can : CanSettle script) (live : is_live_so_far script events ≡ true) (x g b : ℕ) (role_x : role_of script.plan x ≡ IsNode g b) (spared : is_spared script x ≡ true) (a r : ℕ) (role_a : role_of script.plan a ≡ IsNode g r) (done rest : List Event) (d : Event)
    (is : events ≡ done ++ d ∷ rest) where
  abbrev plan : Plan
  plan = script.plan

  abbrev Here : Home
  Here = home_of script.plan (g, r)

  -- the refusal of the present session
  record WasLost (n : PlainNode) : Type 0 where
    place : ℕ
    envelope : Envelope
    there : slice_get (run script.plan done).envelopes place ≡ Some envelope
    to : envelope.to ≡ a
    it : IsLost (home_of script.plan (g, r)) envelope.sender envelope.packet n

  was-lost : (h : Begins script a done d) → WasLost h.before
  was-lost h = by-does (subst (λ (z : Plan). ReplicaDoes (run plan done) (home_of z (g, r)) a d (happens (run plan done) d)) same (replica-does (run plan done) (1 + length done) (run-good plan done can.plan).fine a g r (ap (λ (z : Plan). role_of z a) same ∙ role_a) d))
    where
      same : (run script.plan done).plan ≡ script.plan
      same = run-plan plan done

      still : h.after.recovering ≡ h.before.recovering → WasLost h.before
      still e = absurd (true-not-false (sym h.recovers ∙ e ∙ h.whole))

      by-does : ReplicaDoes (run script.plan done) (home_of script.plan (g, r)) a d (happens (run script.plan done) d) → WasLost h.before
      by-does (ReplicaDoes.Rests slot sends) = still (ap (λ (z : PlainNode). z.recovering) (some-same h.after h.before (sym h.now ∙ ap (λ (z : Slot). z.node) slot ∙ h.up)))
      by-does (ReplicaDoes.Falls crash down last sends) = let clash : ◌≡◌ {A = Option PlainNode} None (Some h.after) = sym down ∙ h.now in cc
      by-does (ReplicaDoes.Starts i newer down begun last sends) = let clash : ◌≡◌ {A = Option PlainNode} None (Some h.before) = sym down ∙ h.up in cc
      by-does (ReplicaDoes.Ticks clock v tick s) =
          let recovers = (ticked-tries Here clock v).1 (ap (λ (z : PlainNode). z.recovering) (some-same (tick_step Here clock v).after h.after (sym s.now ∙ h.now)) ∙ h.recovers) in
          absurd (true-not-false (sym recovers ∙ ap (λ (z : PlainNode). z.recovering) (some-same v h.before (sym s.up ∙ h.up)) ∙ h.whole))
      by-does (ReplicaDoes.Mills q v s) =
          still (ap (λ (z : PlainNode). z.recovering) (some-same h.after (mill_step Here q v).after (sym h.now ∙ s.now)) ∙ ap (λ (z : ℕ × _). z.1) (milled-status Here q v) ∙ ap (λ (z : PlainNode). z.recovering) (some-same v h.before (sym s.up ∙ h.up)))
      by-does (ReplicaDoes.Takes k e v event there can_come to s) =
          let before = some-same v h.before (sym s.up ∙ h.up) in
          let after = some-same (packet_step Here e.sender e.packet v).after h.after (sym s.now ∙ h.now) in
          record {
            place = k;
            envelope = e;
            there = there;
            to = to;
            it = subst (λ (z : PlainNode). IsLost Here e.sender e.packet z) before (is-lost Here e.sender e.packet v (ap (λ (z : PlainNode). z.recovering) before ∙ h.whole) (ap (λ (z : PlainNode). z.recovering) after ∙ h.recovers));
          }

  -- ---- what it asked for

  module _ (n : PlainNode) (up : (slot_of (run script.plan done) a).node ≡ Some n) (lost : WasLost n) (asked : AllAsked script.plan a (run script.plan done)) (s : ℕ) (within : s * script.plan.width ≤ script.plan.end) (refused : AreRefusedBelow script.plan a s (run script.plan done)) where
    at-port : (f c : ℕ) (q : Port) → slice_get (streams_of (home_of script.plan (g, r))) lost.it.port ≡ Some (Frag f) → role_of script.plan lost.envelope.sender ≡ IsNode f c → sends_stream (Frag f) (role_of script.plan lost.envelope.sender) ≡ true → slice_get n.ports lost.it.port ≡ Some q → LacksSome script.plan a n
    at-port f c q at from sends here = by-waits waiting.waits
      where
        reads : slice_get (inputs_of script.plan (role_of script.plan a)) lost.it.port ≡ Some (Frag f)
        reads = ap (λ (z : Role). slice_get (inputs_of plan z) lost.it.port) role_a ∙ ap (λ (ss : List StreamRef). slice_get ss lost.it.port) (home-inputs Here r) ∙ at

        port : IsPortOf script.plan a lost.it.port (Frag f)
        port = record { there = reads; only = λ j e. can.once a j lost.it.port (Frag f) e reads }

        named : same_sess lost.it.sess q.inlet.sess ≡ true
        named = ap (λ (z : Port). same_sess lost.it.sess z.inlet.sess) (sym (nth-there n.ports lost.it.port q here)) ∙ lost.it.named

        below : IsRefusedBelow script.plan a f s (run script.plan done) lost.it.sess lost.envelope.sender
        below = refused lost.place lost.it.base lost.it.port f lost.envelope lost.it.sess port lost.there lost.to sends lost.it.packet_is

        waiting : IsWaiting script.plan a f (run script.plan done) q below.envelope.to below.asked.n
        waiting = asked lost.it.port f q port (ap (λ (o : Option PlainNode). node_port lost.it.port o) up ∙ here) below.place below.envelope below.asked below.there below.reader (ap (λ (z : ℕ). sends_stream (Frag f) (role_of plan z)) below.sent_to ∙ sends) below.packet (ap (λ (z : Sess). same_sess z q.inlet.sess) below.session ∙ named)

        by-waits : (length q.inlet.held.stable ≤ below.asked.n) ⊎ WasAnswered (run script.plan done) below.envelope.to a q.inlet.sess → LacksSome script.plan a n
        by-waits (inr answered) =
            absurd (refused-at script events can.plan live a lost.it.port f port (reads-it plan a lost.it.port f reads) lost.envelope.sender c q.inlet.sess from done (d ∷ rest) is lost.place lost.it.base lost.envelope lost.it.sess lost.there refl lost.to lost.it.packet_is named
            (subst (λ (z : ℕ). WasAnswered (run plan done) z a q.inlet.sess) below.sent_to answered))
        by-waits (inl low) =
            let less = below.below in
            let more = upto_le plan (Frag f) (s * plan.width) plan.end can.plan.checked.sound within in
            record { place = lost.it.port; frag = f; port = q; reads = port; there = here; few = whole-more plan (Frag f) (length q.inlet.held.stable) (enough (length q.inlet.held.stable) below.asked.n (done_upto plan f s) (length (ideal_upto plan (Frag f) plan.end)) low less more) }

    lacks : (q : Port) → slice_get n.ports lost.it.port ≡ Some q → (t : StreamRef) → slice_get (streams_of (home_of script.plan (g, r))) lost.it.port ≡ Some t → sends_stream t (role_of script.plan lost.envelope.sender) ≡ true → LacksSome script.plan a n
    lacks q here (Source v) at sends = absurd (by-role (role_of plan lost.envelope.sender) refl sends)
      where
        by-role : (sort : Role) → role_of script.plan lost.envelope.sender ≡ sort → sends_stream (Source v) sort ≡ true → ⊥
        by-role (IsSource y) of t = subst (λ (p : Packet). SendsSurely (run plan done).envelopes lost.envelope.sender lost.envelope.to p) lost.it.packet_is (sources-sure plan done lost.place y lost.envelope lost.there of)
        by-role (IsNode f c) of t = cc
        by-role (IsClient c) of t = cc
        by-role Nobody of t = cc
    lacks q here (Frag f) at sends = by-role (role_of plan lost.envelope.sender) refl sends
      where
        by-role : (sort : Role) → role_of script.plan lost.envelope.sender ≡ sort → sends_stream (Frag f) sort ≡ true → LacksSome script.plan a n
        by-role (IsNode v c) of t = at-port f c q at (of ∙ ap (λ (z : ℕ). IsNode z c) (sym (eq-of f v t))) sends here
        by-role (IsSource y) of t = cc
        by-role (IsClient c) of t = cc
        by-role Nobody of t = cc

  -- ---- where each port was asked for so

  pub begins-lacking : (h : Begins script a done d) → AllAsked script.plan a (run script.plan done) → LacksSome script.plan a h.before
  begins-lacking h asked =
      let lost = was-lost h in
      let it = sender-of plan (streams_of Here) lost.envelope.sender lost.it.port lost.it.replica lost.it.sender in
      let port = port-at plan h.before.grants.inc (1 + length done) lost.it.port it.stream (streams_of Here) h.before.ports (good-at a r h.before role_a h.up).orderly.ports it.at in
      lacks h.before h.up lost asked stands.node.cursor within both.1 port.0 port.1 it.stream it.at (sender_sends plan it.stream lost.envelope.sender lost.it.replica it.place)
    where
      stands : StandsWhole (run script.plan done) x
      stands = (spared-at script events can live x g b role_x spared done (d ∷ rest) is).stands

      both : IsBehind script.plan a stands.node.cursor (run script.plan done) × AreRefusedBelow script.plan a stands.node.cursor (run script.plan done)
      both = both-at script events can live x g b role_x spared a r role_a done (d ∷ rest) is stands.node stands.up

      of_plan : (run script.plan done).plan ≡ script.plan
      of_plan = run-plan plan done

      good-at : (y c : ℕ) (n : PlainNode) → role_of script.plan y ≡ IsNode g c → (slot_of (run script.plan done) y).node ≡ Some n → IsGood (home_of script.plan (g, c)) (1 + length done) n
      good-at y c n role up = subst (λ (z : Plan). IsGood (home_of z (g, c)) (1 + length done) n) of_plan (node-here (run plan done) (1 + length done) y g c n (run-good plan done can.plan).fine (ap (λ (z : Plan). role_of z y) of_plan ∙ role) up)

      within : stands.node.cursor * script.plan.width ≤ script.plan.end
      within = cursor-within (home_of plan (g, b)) stands.node (place-of plan (node_place plan x) g b can.plan (node-at plan x g b role_x)) (good-at x b stands.node role_x stands.up).safe stands.whole
