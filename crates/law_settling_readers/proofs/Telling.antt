-- At a tick a finished replica tells each reader that it is STABLE, and its session; it gives nothing.
use Rattle.std.proofs.Common.{◌≡◌, ℕ, zero, suc, ◌+◌, ◌-◌, ◌<◌, min, Bool, false, cond, ◌&&◌, nat_lt, List, [], ◌∷◌, ◌++◌, map, length, refl, sym, ap, subst, ◌∙◌, arith, None, inl, inr}
use Rattle.std.specs.Prelude.{is_none, drop, zip}
use Rattle.std.proofs.lemmas.List.{append-nil}
use Rattle.std.proofs.Math.Seq.{drop-length}
use Rattle.dpc_lists.specs.Lists.{nth, list_all, range_with_len}
use Rattle.dpc_model.specs.Replicas.{is_absent}
use Rattle.dpc_model.specs.Granting.{own_key, with_ask}
use Rattle.dpc_model.specs.Due.{is_complete}
use Rattle.dpc_model.specs.NodeStates.{is_up_failure}
use Rattle.dpc_model.specs.Ports.{subscriptions}
use Rattle.dpc_model.specs.Sessions.{Given, given_items, tally_of, no_session}
use Rattle.dpc_model.specs.declared.sessions.Sub.{Sub}
use Rattle.dpc_model.specs.declared.tuples.Item.{Item}
use Rattle.dpc_model.specs.declared.tuples.Tuple.{Tuple}
use Rattle.dpc_model.specs.declared.messages.Message.TheVariants as message
use Rattle.node_model.specs.Mails.{Mail, mail, mails, in_actor_order, to_each, Stepped}
use Rattle.node_model.specs.Nodes.{Home, PlainNode, streams_of, own_readers, buckets_of, held_by, node_frontier, out_stable, out_tentative, complete_buckets, bucket_of}
use Rattle.node_model.specs.NodeSteps.{idle_step, peers_of, peer_watches, with_marks_ended, enter_step, give, given_by, processing_upto, processing_step, count_upto, stably, after_buckets, after_stable_buckets, choice_step, ask_step, announcing_step, serving_step, acks_from, beats, beat_of, after_clock, tick_step}
use Rattle.law_safety.proofs.Dues.{due-range}
use Rattle.law_safety.proofs.Frames.{out_stable-held}
use Rattle.law_safety.proofs.Giving.{none-tentative}
use Rattle.law_safety.proofs.StepCases.{by-processing}
use Rattle.dpc_lists.proofs.Each.{Each, each-append}
use Rattle.law_granting.proofs.Each.{each-sorted, each-subscription, each-acks, each-beats}
use Rattle.law_settling.specs.Finished.{IsFinished}
use Rattle.law_settling.proofs.Exact.{IsIn, in-right, in-sorted}
use Rattle.law_settling.proofs.Failing.{served-is}
use Rattle.law_settling_readers.proofs.Replying.{NoReply}

-- a tick for reader k, which is actor b
pub record TickTells (b k : ℕ) (n : PlainNode) (t : Stepped PlainNode) : Type 0 where
  pub subs : t.after.subs ≡ n.subs
  pub none : Each (NoReply b) t.sends
  pub told : k < length n.subs → IsIn (mail b (beat_of t.after (tally_of (nth no_session n.subs k)))) t.sends

module _ (home : Home) where
  asking-none : (n : PlainNode) → is_up_failure n.state ≡ false → ask_step home n ≡ idle_step n
  asking-none n fine =
      ap (λ (b : Bool). cond {A = Stepped PlainNode} ((b && is_complete home.plan.width (held_by n) n.cursor) && is_none n.grants.promise) (cond (list_all is_absent (peer_watches home n)) (enter_step home n)
      (record { after = record n { grants = with_ask n.grants }; sends = to_each (message.Ask (own_key n.grants).0 (own_key n.grants).1) (peers_of home) })) (idle_step n)) fine

  -- nothing to give
  nothing : (given : Given) (count : ℕ) → given.stable ≡ [] → given.bound ≡ None → given.tentative ≡ [] → given.passed ≡ None → given.done ≡ false → given_items count given ≡ []
  nothing given count stable bound tentative passed done = rw (stable, bound, tentative, passed, done) refl

  give-nothing : (items : List Item) (n : PlainNode) → items ≡ [] → ((give home items n).sends ≡ []) × ((give home items n).after.subs ≡ n.subs)
  give-nothing [] n e = (refl, refl)
  give-nothing (i ∷ items) n e = cc

  upto-none : (last : ℕ) (n : PlainNode) → n.closed ≡ [] → n.cursor ≡ buckets_of home.plan → last < buckets_of home.plan → ((processing_upto home last n).sends ≡ []) × ((processing_upto home last n).after.subs ≡ n.subs)
  upto-none last n empty cursor low =
      let view : node_frontier n ≡ n.cursor = ap {B = ℕ} (λ xs. n.cursor + length xs) empty ∙ omega arith in
      let none : count_upto last n ≡ 0 = omega (arith, view, cursor, low) in
      let few : stably home n (count_upto last n) ≡ 0 = ap (λ (c : ℕ). min c (complete_buckets home n)) none ∙ zero-min (complete_buckets home n) in
      let new = after_buckets home (stably home n (count_upto last n)) (count_upto last n) n in
      let new_cursor : new.cursor ≡ n.cursor = ap (λ (r : ℕ). n.cursor + r) few ∙ omega arith in
      let left : count_upto last n - stably home n (count_upto last n) ≡ 0 = omega (arith, none) in
      let new_closed : new.closed ≡ [] =
      ap (λ (c : ℕ). n.closed ++ map (bucket_of home (after_stable_buckets home (stably home n (count_upto last n)) n)) (range_with_len (node_frontier (after_stable_buckets home (stably home n (count_upto last n)) n)) c)) left ∙ append-nil n.closed ∙ empty in
      let stable : out_stable home new ≡ out_stable home n = out_stable-held home n new refl new_cursor in
      let no_stable : drop (length (out_stable home n)) (out_stable home new) ≡ [] = ap (λ (ts : List Tuple). drop (length (out_stable home n)) ts) stable ∙ drop-length (out_stable home n) in
      let no_tentative : drop (length (out_tentative home n)) (out_tentative home new) ≡ [] = ap (λ (ts : List Tuple). drop (length (out_tentative home n)) ts) (none-tentative home new new_closed) ∙ drop-nil (length (out_tentative home n)) in
      let any_stable : nat_lt 0 (stably home n (count_upto last n)) ≡ false = ap (λ (c : ℕ). nat_lt 0 c) few in
      let any_closed : nat_lt (stably home n (count_upto last n)) (count_upto last n) ≡ false = ap (λ (c : ℕ). nat_lt c (count_upto last n)) few ∙ ap (λ (c : ℕ). nat_lt 0 c) none in
      let given = given_by home n new (nat_lt 0 (stably home n (count_upto last n))) (nat_lt (stably home n (count_upto last n)) (count_upto last n)) in
      give-nothing (given_items (length (out_stable home n)) given) new (nothing given (length (out_stable home n)) no_stable (rw any_stable refl) no_tentative (rw any_closed refl) refl)
    where
      zero-min : (d : ℕ) → min 0 d ≡ 0
      zero-min d = omega arith

      drop-nil : (c : ℕ) → drop {A = Tuple} c [] ≡ []
      drop-nil zero = refl
      drop-nil (suc c) = refl

  processing-none : (n : PlainNode) → n.closed ≡ [] → n.cursor ≡ buckets_of home.plan → ((processing_step home n).sends ≡ []) × ((processing_step home n).after.subs ≡ n.subs)
  processing-none n empty cursor =
      by-processing home n (λ s. (s.sends ≡ []) × (s.after.subs ≡ n.subs)) (refl, refl)
      (λ last e due. upto-none last n empty cursor (due-range home n n.clock last due).1)

  -- its beats
  pub in-zip : (m : PlainNode) (readers : List ℕ) (subs : List Sub) (i : ℕ) → i < length readers → i < length subs → IsIn (mail (nth 0 readers i) (beat_of m (tally_of (nth no_session subs i)))) (map (λ (x : ℕ × Sub). mail x.0 (beat_of m (tally_of x.1))) (zip readers subs))
  in-zip m [] subs i l few = absurd (omega (arith, l))
  in-zip m (r ∷ readers) [] i l few = absurd (omega (arith, few))
  in-zip m (r ∷ readers) (sub ∷ subs) zero l few = inl refl
  in-zip m (r ∷ readers) (sub ∷ subs) (suc i) l few = inr (in-zip m readers subs i (omega (arith, l)) (omega (arith, few)))

  announcing-tells : (b k : ℕ) (m : PlainNode) → nth 0 (own_readers home) k ≡ b → k < length (own_readers home) → k < length m.subs → IsIn (mail b (beat_of m (tally_of (nth no_session m.subs k)))) (announcing_step home m).sends
  announcing-tells b k m back low few =
      in-right _ (in_actor_order (acks_from home m m.ports (streams_of home))) (in_actor_order (beats home m))
      (in-sorted _ (beats home m) (in-right _ (to_each (beat_of m None) (peers_of home)) (map (λ (x : ℕ × Sub). mail x.0 (beat_of m (tally_of x.1))) (zip (own_readers home) m.subs))
      (subst (λ (c : ℕ). IsIn (mail c (beat_of m (tally_of (nth no_session m.subs k)))) (map (λ (x : ℕ × Sub). mail x.0 (beat_of m (tally_of x.1))) (zip (own_readers home) m.subs))) back (in-zip m (own_readers home) m.subs k low few))))

  announcing-quiet : (b : ℕ) (m : PlainNode) → Each (NoReply b) (announcing_step home m).sends
  announcing-quiet b m =
      each-append (NoReply b) (in_actor_order (acks_from home m m.ports (streams_of home))) (in_actor_order (beats home m))
      (each-sorted (NoReply b) (acks_from home m m.ports (streams_of home)) (each-acks (NoReply b) home m m.ports (streams_of home) (λ to count it. refl)))
      (each-sorted (NoReply b) (beats home m) (each-beats (NoReply b) home m (λ to l it. refl)))

  serving-tells : (b k : ℕ) (m : PlainNode) → nth 0 (own_readers home) k ≡ b → k < length (own_readers home) → m.closed ≡ [] → m.cursor ≡ buckets_of home.plan → is_up_failure m.state ≡ false → TickTells b k m (serving_step home m)
  serving-tells b k m back low empty cursor fine =
      let first = choice_step home m in
      let second = ask_step home first.after in
      let third = processing_step home second.after in
      let fourth = announcing_step home third.after in
      let same : second ≡ idle_step first.after = asking-none first.after fine in
      let empty_two : second.after.closed ≡ [] = ap (λ (t : Stepped PlainNode). t.after.closed) same ∙ empty in
      let cursor_two : second.after.cursor ≡ buckets_of home.plan = ap (λ (t : Stepped PlainNode). t.after.cursor) same ∙ cursor in
      let none = processing-none second.after empty_two cursor_two in
      let subs : third.after.subs ≡ m.subs = none.1 ∙ ap (λ (t : Stepped PlainNode). t.after.subs) same in
      record {
        subs = subs;
        none = each-append (NoReply b) (first.sends ++ second.sends ++ third.sends) fourth.sends
            (each-append (NoReply b) (first.sends ++ second.sends) third.sends
            (each-append (NoReply b) first.sends second.sends (each-sorted (NoReply b) (mails (subscriptions home.plan m.ports (streams_of home))) (each-subscription (NoReply b) home.plan m.ports (streams_of home) (λ to asked it. refl)))
            (subst (λ (ms : List Mail). Each (NoReply b) ms) (sym (ap (λ (t : Stepped PlainNode). t.sends) same)) tt)) (subst (λ (ms : List Mail). Each (NoReply b) ms) (sym none.0) tt)) (announcing-quiet b third.after);
        told = λ few.
            let many : k < length third.after.subs = let e = ap {B = ℕ} (λ ss. length ss) subs in omega (arith, e, few) in
            in-right _ (first.sends ++ second.sends ++ third.sends) fourth.sends
            (subst (λ (ss : List Sub). IsIn (mail b (beat_of third.after (tally_of (nth no_session ss k)))) fourth.sends) subs (announcing-tells b k third.after back low many));
      }

  pub ticked-tells : (b k now : ℕ) (n : PlainNode) → nth 0 (own_readers home) k ≡ b → k < length (own_readers home) → IsFinished home n → TickTells b k n (tick_step home now n)
  unfolding tick_step
  ticked-tells b k now n back low done =
      let m = after_clock now (with_marks_ended n) in
      let k_tells = serving-tells b k m back low done.closed done.cursor (ap (λ s. is_up_failure s) done.state) in
      subst (λ (t : Stepped PlainNode). TickTells b k n t) (sym (served-is home m done.recovering)) (record { subs = k_tells.subs; none = k_tells.none; told = k_tells.told })
