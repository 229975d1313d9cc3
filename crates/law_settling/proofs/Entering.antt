-- How an UP_FAILURE replica enters: its tick asks, the ask is granted, the grant lets it enter.
use Rattle.std.proofs.Common.{◌≡◌, ℕ, ◌+◌, ◌<◌, Bool, true, false, cond, ◌&&◌, ◌==◌, List, [], ◌∷◌, ◌++◌, map, length, refl, sym, ap, subst, ◌∙◌, arith, Option, Some, None, ◌⊎◌, inl, inr}
use Rattle.std.specs.Prelude.{is_none}
use Rattle.std.proofs.lemmas.List.{length-map}
use Rattle.dpc_lists.specs.Lists.{nth, list_all}
use Rattle.dpc_model.specs.Due.{is_complete}
use Rattle.dpc_model.specs.Reading.{Reader}
use Rattle.dpc_model.specs.Replicas.{is_absent, after_tick}
use Rattle.dpc_model.specs.Granting.{Key, own_key, grants, with_promise, may_enter_by, promise_kept, with_ask}
use Rattle.dpc_model.specs.Actors.{replicas_of}
use Rattle.dpc_model.specs.NodeStates.{is_up_failure, is_stabilization}
use Rattle.dpc_model.specs.Ports.{without_ended_marks, port_after_tick, port_after_choice}
use Rattle.dpc_model.specs.declared.messages.NodeState.TheVariants.{Stabilization}
use Rattle.dpc_model.specs.declared.messages.Message.TheVariants as message
use Rattle.node_model.specs.Mails.{mail, Plain, to_each, Stepped}
use Rattle.node_model.specs.Nodes.{Home, PlainNode, held_by, due_at, wants_to_reconcile}
use Rattle.node_model.specs.NodeSteps.{idle_step, peers_of, peer_watches, replica_number, enter_step, on_ask, with_marks_ended, packet_step, after_clock, choice_step, ask_step, processing_upto, processing_step, announcing_step, serving_step, tick_step}
use Rattle.law_safety.proofs.Frames.{held-map}
use Rattle.law_safety.proofs.Ticked.{chosen-held}
use Rattle.law_settling.proofs.Exact.{IsIn, in-left, in-right}
use Rattle.law_settling.proofs.Knowing.{in-each}
use Rattle.law_settling.proofs.Fellows.{not-alone}
use Rattle.law_settling.proofs.Failing.{processing-grants, served-is}

-- the node asks each of its peers
pub record AsksAll (home : Home) (n : PlainNode) (s : Stepped PlainNode) : Type 0 where
  pub runs : s.after.grants.running ≡ true
  pub asks : (to : ℕ) → IsIn to (peers_of home) → IsIn (mail to (message.Ask n.grants.inc (n.grants.over + 1))) s.sends
  pub other : (q : ℕ) × (q < length n.peers) × ((q == home.replica) ≡ false)

-- it enters, or asks
abbrev pub EntersOrAsks : Home → PlainNode → Stepped PlainNode → Type 0
EntersOrAsks home n s = (s.after.state ≡ Stabilization) ⊎ AsksAll home n s

module _ (home : Home) where
  entered-state : (n : PlainNode) → (enter_step home n).after.state ≡ Stabilization
  unfolding enter_step
  entered-state n = refl

  -- ---- a tick

  asking-now : (n : PlainNode) → wants_to_reconcile home n ≡ true → n.grants.promise ≡ None → EntersOrAsks home n (ask_step home n)
  asking-now n wants free =
      let may : (wants_to_reconcile home n && is_none n.grants.promise) ≡ true = ap (λ (b : Bool). b && is_none n.grants.promise) wants ∙ ap {B = Bool} (λ o. is_none o) free in
      let ask : Stepped PlainNode = record { after = record n { grants = with_ask n.grants }; sends = to_each (message.Ask (own_key n.grants).0 (own_key n.grants).1) (peers_of home) } in
      subst (λ (b : Bool). EntersOrAsks home n (cond {A = Stepped PlainNode} b (cond (list_all is_absent (peer_watches home n)) (enter_step home n) ask) (idle_step n))) (sym may)
      ((elim (list_all is_absent (peer_watches home n)) as (λ b. list_all is_absent (peer_watches home n) ≡ b → EntersOrAsks home n (cond {A = Stepped PlainNode} b (enter_step home n) ask)) [
        | true ↦ λ e. inl (entered-state n)
        | false ↦ λ e. inr (record { runs = refl; asks = λ to peer. in-each home (message.Ask n.grants.inc (n.grants.over + 1)) to (peers_of home) peer; other = let o = not-alone home.replica 0 n.peers e in let low = o.1 in (o.0, omega (arith, low), o.2) })
      ]) refl)

  processing-calm : (n : PlainNode) → n.state ≡ Stabilization → (processing_step home n).after.state ≡ Stabilization
  processing-calm n is = ap (λ (b : Bool). (cond {A = Stepped PlainNode} b (idle_step n) (elim (due_at home n n.clock) as (λ _. Stepped PlainNode) [ None ↦ idle_step n | Some last ↦ processing_upto home last n ])).after.state) (ap is_stabilization is) ∙ is

  serving-now : (n : PlainNode) → wants_to_reconcile home n ≡ true → n.grants.promise ≡ None → EntersOrAsks home n (serving_step home n)
  serving-now n wants free =
      let a = choice_step home n in
      let b = ask_step home a.after in
      let c = processing_step home b.after in
      let held : held_by a.after ≡ held_by n = held-map port_after_choice chosen-held n.ports in
      let wants_a : wants_to_reconcile home a.after ≡ true = ap (λ (rs : List Reader). is_up_failure n.state && is_complete home.plan.width rs n.cursor) held ∙ wants in
      elim (asking-now a.after wants_a free) [
        | inl entered ↦ inl (processing-calm b.after entered)
        | inr asks ↦ inr (record {
          runs = ap (λ g. g.running) (processing-grants home b.after) ∙ asks.runs;
          asks = λ to peer. in-left _ ((a.sends ++ b.sends) ++ c.sends) (announcing_step home c.after).sends (in-left _ (a.sends ++ b.sends) c.sends (in-right _ a.sends b.sends (asks.asks to peer)));
          other = asks.other;
        })
      ]

  -- the tick of a node that wants to reconcile and promised nobody
  pub tick-asks : (now : ℕ) (n : PlainNode) → n.recovering ≡ false → wants_to_reconcile home n ≡ true → n.grants.promise ≡ None → EntersOrAsks home n (tick_step home now n)
  unfolding tick_step
  tick-asks now n calm wants free =
      let x = with_marks_ended n in
      let m = after_clock now x in
      let held : held_by m ≡ held_by n = held-map port_after_tick (λ p. refl) x.ports ∙ held-map without_ended_marks (λ p. refl) n.ports in
      let wants_m : wants_to_reconcile home m ≡ true = ap (λ (rs : List Reader). is_up_failure n.state && is_complete home.plan.width rs n.cursor) held ∙ wants in
      let free_m : m.grants.promise ≡ None = ap {B = Option (ℕ × Key)} (λ o. promise_kept o (map is_absent m.peers)) free in
      elim (serving-now m wants_m free_m) [
        | inl entered ↦ inl (ap (λ (s : Stepped PlainNode). s.after.state) (served-is home m calm) ∙ entered)
        | inr asks ↦ inr (record {
          runs = ap (λ (s : Stepped PlainNode). s.after.grants.running) (served-is home m calm) ∙ asks.runs;
          asks = λ to peer. subst (λ (s : Stepped PlainNode). IsIn (mail to (message.Ask n.grants.inc (n.grants.over + 1))) s.sends) (sym (served-is home m calm)) (asks.asks to peer);
          other = let many = length-map n.peers after_tick in let low = asks.other.1 in (asks.other.0, omega (arith, many, low), asks.other.2);
        })
      ]

  -- ---- an ask

  -- it is granted by who is free to
  pub ask-granted : (a r i k : ℕ) (n : PlainNode) → replica_number home a ≡ Some r → nth 0 (replicas_of home.plan home.frag) r ≡ a → grants n.grants n.state r (i, k) ≡ true → IsIn (mail a (message.Grant i k)) (packet_step home a (Plain (message.Ask i k)) n).sends
  unfolding packet_step
  ask-granted a r i k n number place may =
      let x = with_marks_ended n in
      subst (λ (o : Option ℕ). IsIn (mail a (message.Grant i k)) (on_ask home i k o x).sends) (sym number)
      (subst (λ (b : Bool). IsIn (mail a (message.Grant i k)) (cond {A = Stepped PlainNode} b (record { after = record x { grants = with_promise x.grants r (i, k) }; sends = mail (nth 0 (replicas_of home.plan home.frag) r) (message.Grant i k) ∷ [] }) (idle_step x)).sends) (sym may)
      (inl (ap (λ (z : ℕ). mail z (message.Grant i k)) place)))

  -- ---- a grant

  -- it lets the node enter
  pub grant-enters : (a i k : ℕ) (n : PlainNode) → is_up_failure n.state ≡ true → may_enter_by n.grants (i, k) ≡ true → (packet_step home a (Plain (message.Grant i k)) n).after.state ≡ Stabilization
  unfolding packet_step
  grant-enters a i k n failed may =
      let x = with_marks_ended n in
      let both_of : (is_up_failure n.state && may_enter_by n.grants (i, k)) ≡ true = ap (λ (b : Bool). b && may_enter_by n.grants (i, k)) failed ∙ may in
      ap (λ (b : Bool). (cond {A = Stepped PlainNode} b (enter_step home x) (idle_step x)).after.state) both_of ∙ entered-state x
