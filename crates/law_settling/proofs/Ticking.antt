-- What a tick or milling makes of a reader's port, exactly, and which subscription a tick sends.
use Rattle.std.proofs.Common.{◌≡◌, ℕ, zero, suc, Bool, true, false, cond, not, List, [], ◌∷◌, ◌++◌, map, refl, sym, length, ap, subst, ◌∙◌, Some, slice_get, inl, inr}
use Rattle.dpc_lists.specs.Lists.{nth}
use Rattle.dpc_model.specs.Inlets.{with_next_session, asked_by}
use Rattle.dpc_model.specs.Actors.{senders_of}
use Rattle.dpc_model.specs.Ports.{Port, without_ended_marks, port_after_tick, choice_at, must_reopen, port_after_choice, subscription, subscriptions, acks_to}
use Rattle.dpc_model.specs.declared.messages.Message.TheVariants as message
use Rattle.dpc_model.specs.declared.messages.Out.{Out}
use Rattle.dpc_model.specs.declared.plans.Plan.{Plan}
use Rattle.dpc_model.specs.declared.plans.StreamRef.{StreamRef}
use Rattle.dpc_lists.proofs.Elements.{get-map}
use Rattle.dpc_lists.proofs.Somes.{some-same}
use Rattle.node_model.specs.Mails.{Mail, mail, mails, in_actor_order}
use Rattle.node_model.specs.Nodes.{Home, PlainNode, streams_of}
use Rattle.node_model.specs.NodeSteps.{then_do, with_marks_ended, after_clock, may_start_afresh, choice_step, ask_step, processing_step, announcing_step, serving_step, snapshot_ask_step, with_fresh_start, tick_step}
use Rattle.node_model.specs.Clients.{ClientState, client_stream, client_tick_step}
use Rattle.law_granting.proofs.Moves.{reconciling-ports, processing-ports}
use Rattle.law_settling.proofs.Exact.{IsIn, in-left, in-right, in-sorted}

-- ---- milling

-- ---- a tick

-- the port before the choice
abbrev pub before_choice : Port → Port
before_choice q = port_after_tick (without_ended_marks q)

-- the subscription of a port that opens its session anew
abbrev ask_out : Plan → StreamRef → Port → Out
ask_out plan s q = record { to = nth 0 (senders_of plan s) (choice_at q); message = message.Subscribe (asked_by (with_next_session q.inlet)) }

abbrev pub ask_mail : Plan → StreamRef → Port → Mail
ask_mail plan s q = mail (ask_out plan s q).to (ask_out plan s q).message

-- a tick leaves the port as it chooses, and sends its subscription where it opens the session anew
pub record PortTicks (plan : Plan) (s : StreamRef) (p : ℕ) (q : Port) (rs : List Port) (ms : List Mail) : Type 0 where
  pub after : slice_get rs p ≡ Some (port_after_choice (before_choice q))
  pub asks : must_reopen (before_choice q) ≡ true → IsIn (ask_mail plan s (before_choice q)) ms

in-mails : (o : Out) (outs : List Out) → IsIn o outs → IsIn (mail o.to o.message) (mails outs)
in-mails o [] h = absurd h
in-mails o (x ∷ outs) (inl e) = inl (ap (λ (z : Out). mail z.to z.message) e)
in-mails o (x ∷ outs) (inr h) = inr (in-mails o outs h)

in-subscription : (plan : Plan) (q : Port) (s : StreamRef) → must_reopen q ≡ true → IsIn (ask_out plan s q) (subscription plan q s)
in-subscription plan q s must = subst (λ (b : Bool). IsIn (ask_out plan s q) (cond b (ask_out plan s q ∷ []) [])) (sym must) (inl refl)

in-subscriptions : (plan : Plan) (p : ℕ) (q : Port) (s : StreamRef) (ports : List Port) (ss : List StreamRef) → slice_get ports p ≡ Some q → slice_get ss p ≡ Some s → must_reopen q ≡ true →
    IsIn (ask_out plan s q) (subscriptions plan ports ss)
in-subscriptions plan p q s [] ss there reads must = cc
in-subscriptions plan p q s (x ∷ ports) [] there reads must = cc
in-subscriptions plan zero q s (x ∷ ports) (u ∷ ss) there reads must =
    let one : x ≡ q = some-same x q there in
    let two : u ≡ s = some-same u s reads in
    let rest = subscriptions plan ports ss in
    in-left _ (subscription plan x u) rest (subst (λ (z : Port). IsIn (ask_out plan s q) (subscription plan z u)) (sym one)
    (subst (λ (z : StreamRef). IsIn (ask_out plan s q) (subscription plan q z)) (sym two) (in-subscription plan q s must)))
in-subscriptions plan (suc p) q s (x ∷ ports) (u ∷ ss) there reads must = in-right _ (subscription plan x u) (subscriptions plan ports ss) (in-subscriptions plan p q s ports ss there reads must)

module _ (home : Home) (p : ℕ) (s : StreamRef) (q : Port) where
  serving-ticks : (m : PlainNode) → slice_get m.ports p ≡ Some (before_choice q) → slice_get (streams_of home) p ≡ Some s → PortTicks home.plan s p q (serving_step home m).after.ports (serving_step home m).sends
  serving-ticks m there reads =
      let a = choice_step home m in
      let b = ask_step home a.after in
      let c = processing_step home b.after in
      let after : (serving_step home m).after.ports ≡ map port_after_choice m.ports = processing-ports home b.after ∙ reconciling-ports home a.after in
      record {
        after = ap (λ (ps : List Port). slice_get ps p) after ∙ get-map port_after_choice m.ports p (before_choice q) there;
        asks = λ must.
            let all = mails (subscriptions home.plan m.ports (streams_of home)) in
            let sent = in-sorted (ask_mail home.plan s (before_choice q)) all (in-mails _ (subscriptions home.plan m.ports (streams_of home)) (in-subscriptions home.plan p (before_choice q) s m.ports (streams_of home) there reads must)) in
            in-left _ (in_actor_order all ++ b.sends ++ c.sends) (announcing_step home c.after).sends (in-left _ (in_actor_order all ++ b.sends) c.sends (in-left _ (in_actor_order all) b.sends sent));
      }

  pub node-ticks : (now : ℕ) (n : PlainNode) → n.recovering ≡ false → slice_get n.ports p ≡ Some q → slice_get (streams_of home) p ≡ Some s → PortTicks home.plan s p q (tick_step home now n).after.ports (tick_step home now n).sends
  unfolding tick_step
  node-ticks now n whole there reads =
      let m = after_clock now (with_marks_ended n) in
      let at : slice_get m.ports p ≡ Some (before_choice q) = get-map port_after_tick (map without_ended_marks n.ports) p (without_ended_marks q) (get-map without_ended_marks n.ports p q there) in
      subst (λ (b : Bool). PortTicks home.plan s p q (cond (not b) (serving_step home m) (cond (may_start_afresh home m) (serving_step home (with_fresh_start m)) (then_do (snapshot_ask_step home m) (announcing_step home)))).after.ports
      (cond (not b) (serving_step home m) (cond (may_start_afresh home m) (serving_step home (with_fresh_start m)) (then_do (snapshot_ask_step home m) (announcing_step home)))).sends) (sym whole) (serving-ticks m at reads)

-- ---- a client

pub client-ticks : (plan : Plan) (c now : ℕ) (z : ClientState) → PortTicks plan (client_stream plan c) 0 z.port ((client_tick_step plan c now z).after.port ∷ []) (client_tick_step plan c now z).sends
unfolding client_tick_step
client-ticks plan c now z =
    let q = before_choice z.port in
    record {
      after = refl;
      asks = λ must. in-left _ (mails (subscriptions plan (q ∷ []) (client_stream plan c ∷ []))) (mails (acks_to plan 1 (length z.port.inlet.held.stable) (client_stream plan c)))
          (in-mails _ (subscriptions plan (q ∷ []) (client_stream plan c ∷ [])) (in-subscriptions plan 0 q (client_stream plan c) (q ∷ []) (client_stream plan c ∷ []) refl refl must));
    }
