-- A tick of a node, of a recovering one too, tells each reader its incarnation by a beat.
use Rattle.std.proofs.Common.{◌≡◌, ℕ, ◌<◌, true, false, cond, not, ◌++◌, map, length, subst, None}
use Rattle.std.specs.Prelude.{zip}
use Rattle.dpc_lists.specs.Lists.{nth}
use Rattle.dpc_model.specs.Sessions.{tally_of, no_session}
use Rattle.dpc_model.specs.declared.sessions.Sub.{Sub}
use Rattle.node_model.specs.Mails.{mail, in_actor_order, to_each, Stepped}
use Rattle.node_model.specs.Nodes.{Home, PlainNode, streams_of, own_readers}
use Rattle.node_model.specs.NodeSteps.{then_do, peers_of, with_marks_ended, after_clock, may_start_afresh, choice_step, ask_step, processing_step, acks_from, beat_of, beats, announcing_step, serving_step, snapshot_ask_step, rest_of_tick, with_fresh_start, tick_step}
use Rattle.law_settling.proofs.Exact.{IsIn, in-right, in-sorted}
use Rattle.law_settling_readers.proofs.Telling.{in-zip}

module _ (home : Home) where
  -- the beat for reader k, which is actor b, says this node's incarnation
  abbrev pub Told : ℕ → ℕ → Stepped PlainNode → Type 0
  Told b k t = k < length t.after.subs → IsIn (mail b (beat_of t.after (tally_of (nth no_session t.after.subs k)))) t.sends

  module _ (b k : ℕ) (back : nth 0 (own_readers home) k ≡ b) (low : k < length (own_readers home)) where
    announced : (m : PlainNode) → Told b k (announcing_step home m)
    announced m few =
        in-right _ (in_actor_order (acks_from home m m.ports (streams_of home))) (in_actor_order (beats home m))
        (in-sorted _ (beats home m) (in-right _ (to_each (beat_of m None) (peers_of home)) (map (λ (x : ℕ × Sub). mail x.0 (beat_of m (tally_of x.1))) (zip (own_readers home) m.subs))
        (subst (λ (c : ℕ). IsIn (mail c (beat_of m (tally_of (nth no_session m.subs k)))) (map (λ (x : ℕ × Sub). mail x.0 (beat_of m (tally_of x.1))) (zip (own_readers home) m.subs))) back (in-zip home m (own_readers home) m.subs k low few))))

    served : (m : PlainNode) → Told b k (serving_step home m)
    served m few =
        let first = choice_step home m in
        let second = ask_step home first.after in
        let third = processing_step home second.after in
        in-right _ (first.sends ++ second.sends ++ third.sends) (announcing_step home third.after).sends (announced third.after few)

    rest-tells : (m : PlainNode) → Told b k (rest_of_tick home m)
    rest-tells m =
        elim m.recovering as (λ c. Told b k (cond {A = Stepped PlainNode} (not c) (serving_step home m) (cond (may_start_afresh home m) (serving_step home (with_fresh_start m)) (then_do (snapshot_ask_step home m) (announcing_step home))))) [
          | false ↦ served m
          | true ↦ elim (may_start_afresh home m) as (λ c. Told b k (cond {A = Stepped PlainNode} c (serving_step home (with_fresh_start m)) (then_do (snapshot_ask_step home m) (announcing_step home)))) [
            | true ↦ served (with_fresh_start m)
            | false ↦ λ few. in-right _ (snapshot_ask_step home m).sends (announcing_step home m).sends (announced m few)
          ]
        ]

    pub tick-tells : (now : ℕ) (n : PlainNode) → Told b k (tick_step home now n)
    unfolding tick_step
    tick-tells now n = rest-tells (after_clock now (with_marks_ended n))
