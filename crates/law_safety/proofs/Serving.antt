-- A tick outside STABILIZATION leaves no bucket due, and what it processed stands in one batch of every open session.
use Rattle.std.proofs.Common.{◌≡◌, ◌≢◌, ℕ, ◌+◌, ◌-◌, ◌<◌, Bool, true, false, cond, not, ◌&&◌, nat_lt, List, [], ◌++◌, map, length, refl, sym, ap, subst, ◌∙◌, arith, Option, Some, None, length-append}
use Rattle.std.specs.Prelude.{IfSome, is_none}
use Rattle.std.proofs.lemmas.Grind.{common_steps}
use Rattle.std.proofs.lemmas.List.{length-map}
use Rattle.std.proofs.lemmas.List.Elements.{Contains-append_left, Contains-append_right}
use Rattle.std.proofs.Math.Seq.{drop-length}
use Rattle.std.proofs.lemmas.List.FromFn.{length-range_with_len}
use Rattle.dpc_lists.specs.Lists.{nth, list_all, range_with_len}
use Rattle.dpc_model.specs.Replicas.{is_absent}
use Rattle.dpc_model.specs.Granting.{with_ask, own_key}
use Rattle.dpc_model.specs.Ports.{port_after_choice, port_after_tick, without_ended_marks}
use Rattle.dpc_model.specs.Sessions.{tally_of, Given, given_items}
use Rattle.dpc_model.specs.declared.sessions.Sub.{Sub}
use Rattle.dpc_model.specs.declared.tuples.Item.{Item}
use Rattle.dpc_model.specs.declared.messages.Sess.{Sess}
use Rattle.dpc_model.specs.declared.messages.Message.TheVariants as message
use Rattle.node_model.specs.Mails.{Mail, to_each, Stepped}
use Rattle.dpc_model.specs.NodeStates.{is_stabilization}
use Rattle.node_model.specs.Nodes.{Home, PlainNode, streams_of, own_readers, held_by, node_frontier, out_stable, out_with_closed, out_tentative, bucket_of, due_at, wants_to_reconcile}
use Rattle.node_model.specs.NodeSteps.{stably, idle_step, then_do, given_by, peers_of, peer_watches, after_clock, may_start_afresh, choice_step, ask_step, enter_step, after_stable_buckets, with_closed, with_failure, processing_upto, processing_step, announcing_step, serving_step, snapshot_ask_step, rest_of_tick, with_fresh_start, with_marks_ended, tick_step}
use Rattle.world_model.specs.Safe.{CarriesLast, Serves, IsSafeNode}
use Rattle.law_safety.specs.Plans.{IsPlace}
use Rattle.law_safety.proofs.Processing.{holds-length}
use Rattle.law_safety.proofs.Dues.{processed_upto-none}
use Rattle.law_safety.proofs.Carried.{IsGivenIn, give-given}
use Rattle.law_safety.proofs.Frames.{IsGood, out_stable-held, out_tentative-held, held-map, marks-good, clocked-good}
use Rattle.law_safety.proofs.Emptied.{emptied-of}
use Rattle.law_safety.proofs.Starting.{fresh-good}
use Rattle.law_safety.proofs.Ticked.{chosen-held}

-- ---- what sessions leave

given_by-subs : (home : Home) (x new : PlainNode) (subs : List Sub) (b c : Bool) → given_by home x (record new { subs = subs }) b c ≡ given_by home x new b c
unfolding out_stable out_with_closed out_tentative
given_by-subs home x new subs b c = refl

lt-shift : (c r : ℕ) → nat_lt c (c + r) ≡ nat_lt 0 r
lt-shift c r = grind (arith, common_steps)

lt-more : (l count r : ℕ) → nat_lt l (l + (count - r)) ≡ nat_lt r count
lt-more l count r = grind (arith, common_steps)

lt-self : (c : ℕ) → nat_lt c c ≡ false
lt-self c = grind (arith, common_steps)

-- a node that did nothing gives nothing
none-given : (home : Home) (x : PlainNode) (count : ℕ) → given_items count (given_by home x x false false) ≡ []
none-given home x count = rw (drop-length (out_stable home x), drop-length (out_tentative home x)) refl

-- ---- the step that processes buckets

-- what a tick owes, of a step that begins at x
abbrev pub IsGiven : Home → PlainNode → Stepped PlainNode → Type 0
IsGiven home x s = (k : ℕ) → let items = given_items (length (out_stable home x)) (given_by home x s.after (nat_lt x.cursor s.after.cursor) (nat_lt (length x.closed) (length s.after.closed)))
    in items ≢ [] → IsGivenIn s.sends s.after.subs (own_readers home) items k

processed-items : (home : Home) (x : PlainNode) (last : ℕ) →
    let count = last + 1 - node_frontier x in
    let r = stably home x count in
    let s = processing_upto home last x in
    given_items (length (out_stable home x)) (given_by home x s.after (nat_lt x.cursor s.after.cursor) (nat_lt (length x.closed) (length s.after.closed)))
    ≡ given_items (length (out_stable home x)) (given_by home x (with_failure (with_closed home (count - r) (after_stable_buckets home r x))) (nat_lt 0 r) (nat_lt r count))
processed-items home x last =
    let count = last + 1 - node_frontier x in
    let r = stably home x count in
    let m = with_closed home (count - r) (after_stable_buckets home r x) in
    let new = with_failure m in
    let s = processing_upto home last x in
    let more = map (bucket_of home (after_stable_buckets home r x)) (range_with_len (node_frontier (after_stable_buckets home r x)) (count - r)) in
    let many : length more ≡ count - r =
    length-map (range_with_len (node_frontier (after_stable_buckets home r x)) (count - r)) (bucket_of home (after_stable_buckets home r x)) ∙ length-range_with_len (node_frontier (after_stable_buckets home r x)) (count - r) in
    let cursor : nat_lt x.cursor s.after.cursor ≡ nat_lt 0 r = lt-shift x.cursor r in
    let long : length m.closed ≡ length x.closed + (count - r) = length-append x.closed more ∙ ap (λ (l : ℕ). length x.closed + l) many in
    let closed : nat_lt (length x.closed) (length s.after.closed) ≡ nat_lt r count =
    ap (λ (l : ℕ). nat_lt (length x.closed) l) long ∙ lt-more (length x.closed) count r in
    ap (λ (g : Given). given_items (length (out_stable home x)) g)
    (given_by-subs home x new s.after.subs (nat_lt x.cursor s.after.cursor) (nat_lt (length x.closed) (length s.after.closed))
    ∙ ap (λ (b : Bool). given_by home x new b (nat_lt (length x.closed) (length s.after.closed))) cursor
    ∙ ap (λ (c : Bool). given_by home x new (nat_lt 0 r) c) closed)

processed-given : (home : Home) (x : PlainNode) (last : ℕ) → IsGiven home x (processing_upto home last x)
processed-given home x last k some =
    let count = last + 1 - node_frontier x in
    let r = stably home x count in
    let new = with_failure (with_closed home (count - r) (after_stable_buckets home r x)) in
    let items = given_items (length (out_stable home x)) (given_by home x new (nat_lt 0 r) (nat_lt r count)) in
    let s = processing_upto home last x in
    let same = processed-items home x last in
    subst (λ (xs : List Item). IsGivenIn s.sends s.after.subs (own_readers home) xs k) (sym same) (give-given home items new k (λ e. some (same ∙ e)))

silent-given : (home : Home) (x : PlainNode) → IsGiven home x (idle_step x)
silent-given home x k some =
    absurd (some (ap (λ (b : Bool). given_items (length (out_stable home x)) (given_by home x x b (nat_lt (length x.closed) (length x.closed)))) (lt-self x.cursor)
    ∙ ap (λ (c : Bool). given_items (length (out_stable home x)) (given_by home x x false c)) (lt-self (length x.closed)) ∙ none-given home x (length (out_stable home x))))

-- the step, outside STABILIZATION
pub record HasServed (home : Home) (x : PlainNode) (s : Stepped PlainNode) : Type 0 where
  pub nothing_due : due_at home s.after x.clock ≡ None
  pub given : IsGiven home x s

processing-served : (home : Home) (x : PlainNode) → IsPlace home → 0 < length (held_by x) → is_stabilization x.state ≡ false → HasServed home x (processing_step home x)
processing-served home x place some calm =
    rw calm ((elim (due_at home x x.clock) as (λ o. due_at home x x.clock ≡ o → HasServed home x (elim o [ None ↦ idle_step x | Some last ↦ processing_upto home last x ])) [
      | None ↦ λ e. record { nothing_due = e; given = silent-given home x }
      | Some last ↦ λ e. record { nothing_due = processed_upto-none home x x.clock last place some e; given = processed-given home x last }
    ]) refl)

-- ---- the whole tick

-- what the steps before leave of a node
pub record SameView (n x : PlainNode) : Type 0 where
  pub held : held_by x ≡ held_by n
  pub cursor : x.cursor ≡ n.cursor
  pub closed : x.closed ≡ n.closed

items-same : (home : Home) (n x y : PlainNode) → SameView n x →
    given_items (length (out_stable home n)) (given_by home n y (nat_lt n.cursor y.cursor) (nat_lt (length n.closed) (length y.closed)))
    ≡ given_items (length (out_stable home x)) (given_by home x y (nat_lt x.cursor y.cursor) (nat_lt (length x.closed) (length y.closed)))
items-same home n x y h =
    rw (out_stable-held home n x h.held h.cursor, out_tentative-held home n x h.held h.cursor h.closed, h.cursor, h.closed) refl

reconciling-same : (home : Home) (x : PlainNode) → is_stabilization (ask_step home x).after.state ≡ false → SameView x (ask_step home x).after × ((ask_step home x).after.clock ≡ x.clock)
unfolding enter_step
reconciling-same home x =
    let asks : Stepped PlainNode = record { after = record x { grants = with_ask x.grants }; sends = to_each (message.Ask (own_key x.grants).0 (own_key x.grants).1) (peers_of home) } in
    elim (wants_to_reconcile home x && is_none x.grants.promise) as (λ b. is_stabilization (cond b (cond (list_all is_absent (peer_watches home x)) (enter_step home x) asks) (idle_step x)).after.state ≡ false →
    SameView x (cond b (cond (list_all is_absent (peer_watches home x)) (enter_step home x) asks) (idle_step x)).after × ((cond b (cond (list_all is_absent (peer_watches home x)) (enter_step home x) asks) (idle_step x)).after.clock ≡ x.clock)) [
      | true ↦ elim (list_all is_absent (peer_watches home x)) as (λ b. is_stabilization (cond b (enter_step home x) asks).after.state ≡ false →
          SameView x (cond b (enter_step home x) asks).after × ((cond b (enter_step home x) asks).after.clock ≡ x.clock)) [
            | true ↦ λ e. cc
            | false ↦ λ e. (record { held = refl; cursor = refl; closed = refl }, refl)
          ]
      | false ↦ λ e. (record { held = refl; cursor = refl; closed = refl }, refl)
    ]

-- a step that processes nothing stays in STABILIZATION
processing-calm : (home : Home) (x : PlainNode) → is_stabilization (processing_step home x).after.state ≡ false → is_stabilization x.state ≡ false
processing-calm home x e = by-value (is_stabilization x.state) refl
  where
    by-value : (b : Bool) → is_stabilization x.state ≡ b → is_stabilization x.state ≡ false
    by-value false f = f
    by-value true f = let still : is_stabilization x.state ≡ false = rw f at e in still

pub some-held : (home : Home) (n : PlainNode) → IsPlace home → IsSafeNode home n → 0 < length (held_by n)
some-held home n place safe =
    let same = holds-length home.plan (streams_of home) (held_by n) safe.inputs in
    let some = place.reads in omega (arith, same, some)

serving-serves : (home : Home) (now : ℕ) (n x : PlainNode) → IsPlace home → IsSafeNode home x → SameView n x → x.clock ≡ now → is_stabilization (serving_step home x).after.state ≡ false → Serves home now n (serving_step home x)
serving-serves home now n x place safe view clock calm =
    let a = choice_step home x in
    let b = ask_step home a.after in
    let c = processing_step home b.after in
    let quiet = processing-calm home b.after calm in
    let same = reconciling-same home a.after quiet in
    let chosen : held_by a.after ≡ held_by x = held-map port_after_choice chosen-held x.ports in
    let seen : SameView n b.after = record { held = same.0.held ∙ chosen ∙ view.held; cursor = same.0.cursor ∙ view.cursor; closed = same.0.closed ∙ view.closed } in
    let at_now : b.after.clock ≡ now = same.1 ∙ clock in
    let many : 0 < length (held_by b.after) = rw (same.0.held, chosen) (some-held home x place safe) in
    let served = processing-served home b.after place many quiet in
    record {
      nothing_due = rw at_now at served.nothing_due;
      given = λ k some sub e.
          let items = items-same home n b.after c.after seen in
          let found = subst (λ (xs : List Item). IsGivenIn c.sends c.after.subs (own_readers home) xs k) (sym items) (served.given k (λ f. some (items ∙ f))) sub e in
          within (tally_of sub) (a.sends ++ b.sends) c.sends (announcing_step home c.after).sends (nth 0 (own_readers home) k) _ found;
    }
  where
    within : (o : Option (Sess × ℕ)) (before middle behind : List Mail) (to : ℕ) (items : List Item) →
        IfSome o (CarriesLast middle to items) → IfSome o (CarriesLast (before ++ middle ++ behind) to items)
    within None before middle behind to items h = tt
    within (Some l) before middle behind to items h =
        (h.0, h.1, Contains-append_left (before ++ middle) behind _ (Contains-append_right before middle _ h.2))

going_on-serves : (home : Home) (most now : ℕ) (n x : PlainNode) → IsPlace home → IsGood home most x → SameView n x → x.clock ≡ now → is_stabilization (rest_of_tick home x).after.state ≡ false → Serves home now n (rest_of_tick home x)
going_on-serves home most now n x place g view clock =
    (elim x.recovering as (λ b. x.recovering ≡ b → is_stabilization (cond (not b) (serving_step home x) (cond (may_start_afresh home x) (serving_step home (with_fresh_start x)) (then_do (snapshot_ask_step home x) (announcing_step home)))).after.state ≡ false →
    Serves home now n (cond (not b) (serving_step home x) (cond (may_start_afresh home x) (serving_step home (with_fresh_start x)) (then_do (snapshot_ask_step home x) (announcing_step home))))) [
      | false ↦ λ up. serving-serves home now n x place g.safe view clock
      | true ↦ λ down. elim (may_start_afresh home x) as (λ b. is_stabilization (cond b (serving_step home (with_fresh_start x)) (then_do (snapshot_ask_step home x) (announcing_step home))).after.state ≡ false →
          Serves home now n (cond b (serving_step home (with_fresh_start x)) (then_do (snapshot_ask_step home x) (announcing_step home)))) [
            | true ↦ serving-serves home now n (with_fresh_start x) place (fresh-good home most x place down g).safe (record { held = view.held; cursor = view.cursor; closed = view.closed }) clock
            | false ↦ λ calm. let still = (emptied-of x down g.orderly.recovering).state in absurd (let clash : true ≡ false = sym still ∙ calm in cc)
          ]
    ]) refl

pub ticked-serves : (home : Home) (most now : ℕ) (n : PlainNode) → IsPlace home → IsGood home most n → is_stabilization (tick_step home now n).after.state ≡ false → Serves home now n (tick_step home now n)
unfolding tick_step
ticked-serves home most now n place g =
    let x = after_clock now (with_marks_ended n) in
    going_on-serves home most now n x place (clocked-good home most now (with_marks_ended n) (marks-good home most n g))
    (record { held = held-map port_after_tick (λ p. refl) (map without_ended_marks n.ports) ∙ held-map without_ended_marks (λ p. refl) n.ports; cursor = refl; closed = refl }) refl
