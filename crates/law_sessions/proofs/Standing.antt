-- No tentative tuple is invented: each stands in its sender's tentative output after the event that sent it.
use Rattle.std.proofs.Common.{◌≡◌, ℕ, zero, suc, ◌+◌, ◌-◌, max, Bool, true, false, cond, not, ◌&&◌, ◌==◌, nat_lt, List, [], ◌∷◌, ◌++◌, length, drop, refl, sym, subst, arith, Option, Some, None}
use Rattle.std.specs.Prelude.{Contains}
use Rattle.dpc_lists.specs.Lists.{nth, changed, list_all}
use Rattle.dpc_model.specs.Granting.{may_enter_by, own_key, grants, with_promise}
use Rattle.dpc_model.specs.Actors.{replicas_of}
use Rattle.dpc_model.specs.Sessions.{Shown, Given, answer_to, tally_of, first_batch, batches_from, batches_of, given_items, stable_items, boundary_item, tentative_items, passed_item, item_if, with_batches}
use Rattle.dpc_model.specs.declared.sessions.Sub.{Sub}
use Rattle.dpc_model.specs.declared.tuples.Tuple.{Tuple}
use Rattle.dpc_model.specs.declared.tuples.Item.{Item}
use Rattle.dpc_model.specs.declared.tuples.Item.TheVariants.{Stable, Tentative, Passed, Boundary, Undo, RecDone}
use Rattle.dpc_model.specs.declared.messages.Subscribe.{Subscribe}
use Rattle.dpc_model.specs.declared.messages.Message.{Message}
use Rattle.dpc_model.specs.declared.messages.Message.TheVariants as message
use Rattle.dpc_model.specs.declared.plans.Plan.{Plan}
use Rattle.node_model.specs.Mails.{Packet, Plain, SnapFor, Mail, mail, to_readers, to_each, Stepped}
use Rattle.dpc_model.specs.NodeStates.{is_up_failure, is_stabilization}
use Rattle.node_model.specs.Nodes.{Home, PlainNode, own_readers, out_stable, out_with_closed, out_tentative, shown, node_frontier, ready}
use Rattle.node_model.specs.NodeSteps.{idle_step, then_do, give, given_by, given_stable, enter_step, after_stable_buckets, with_closed, with_failure, stably, processing_upto, processing_step, after_last_correction, mill_step, peers_of, choice_step, ask_step, announcing_step, serving_step, snapshot_ask_step, rest_of_tick, with_fresh_start, after_clock, with_marks_ended, may_start_afresh, tick_step, on_subscribe, on_ask, on_snap_ask, on_message, on_packet, reader_place, replica_number, packet_step}
use Rattle.node_model.specs.Sources.{SourceState, bound_at, source_readers, source_shown, source_given, source_gives, source_emits, source_releases, source_subscribed, source_message, source_packet_step, source_tick_step}
use Rattle.world_model.specs.Orderly.{items_carried}
use Rattle.law_safety.proofs.Carried.{here, there}
use Rattle.law_safety.proofs.StepCases.{by-asking, by-processing, by-answer}
use Rattle.dpc_lists.proofs.Truths.{both}
use Rattle.law_sessions.specs.Laws.{TentativesStand}
use Rattle.law_sessions.proofs.Keeping.{is_bare, is_bare_packet, no_batch}
use Rattle.law_sessions.proofs.Sources.{source_ticked-bare}
use Rattle.law_sessions.proofs.Noding.{each-bare, choosing-bare, announcing-bare}

-- ---- items

pub stand-append : (out : List Tuple) (xs ys : List Item) → TentativesStand out xs → TentativesStand out ys → TentativesStand out (xs ++ ys)
stand-append out [] ys h k = k
stand-append out (Tentative t ∷ xs) ys h k = (h.0, stand-append out xs ys h.1 k)
stand-append out (Stable n t ∷ xs) ys h k = stand-append out xs ys h k
stand-append out (Passed b ∷ xs) ys h k = stand-append out xs ys h k
stand-append out (Boundary b m ∷ xs) ys h k = stand-append out xs ys h k
stand-append out (Undo n ∷ xs) ys h k = stand-append out xs ys h k
stand-append out (RecDone ∷ xs) ys h k = stand-append out xs ys h k

stable-stand : (out : List Tuple) (k : ℕ) (ts : List Tuple) → TentativesStand out (stable_items k ts)
stable-stand out k [] = tt
stable-stand out k (t ∷ ts) = stable-stand out (k + 1) ts

boundary-stand : (out : List Tuple) (o : Option (ℕ × ℕ)) → TentativesStand out (boundary_item o)
boundary-stand out None = tt
boundary-stand out (Some b) = tt

passed-stand : (out : List Tuple) (o : Option ℕ) → TentativesStand out (passed_item o)
passed-stand out None = tt
passed-stand out (Some b) = tt

done-stand : (out : List Tuple) (b : Bool) → TentativesStand out (item_if b RecDone)
done-stand out true = tt
done-stand out false = tt

tentative-stand : (out : List Tuple) (ts : List Tuple) → ((t : Tuple) → Contains ts t → Contains out t) → TentativesStand out (tentative_items ts)
tentative-stand out [] h = tt
tentative-stand out (t ∷ ts) h = (h t (here t ts), tentative-stand out ts (λ u c. h u (there t u ts c)))

drop-contains : (k : ℕ) (xs : List Tuple) (t : Tuple) → Contains (drop k xs) t → Contains xs t
drop-contains zero xs t c = c
drop-contains (suc k) [] t c = c
drop-contains (suc k) (x ∷ xs) t c = there x t xs (drop-contains k xs t c)

pub given-stand : (out : List Tuple) (count : ℕ) (g : Given) → ((t : Tuple) → Contains g.tentative t → Contains out t) → TentativesStand out (given_items count g)
given-stand out count g h =
    let stable = stable_items count g.stable in
    let bound = boundary_item g.bound in
    let tentative = tentative_items g.tentative in
    let passed = passed_item g.passed in
    stand-append out (stable ++ bound ++ tentative ++ passed) (item_if g.done RecDone)
    (stand-append out (stable ++ bound ++ tentative) passed
    (stand-append out (stable ++ bound) tentative
    (stand-append out stable bound (stable-stand out count g.stable) (boundary-stand out g.bound)) (tentative-stand out g.tentative h)) (passed-stand out g.passed)) (done-stand out g.done)

pub first-stand : (x : Shown) (asked : Subscribe) → TentativesStand x.tentative (first_batch x asked)
first-stand x asked =
    let out = x.tentative in
    let undo = item_if asked.tentative (Undo asked.n) in
    let stable = stable_items asked.n (drop asked.n x.stable) in
    let bound = boundary_item x.bound in
    let tentative = tentative_items x.tentative in
    let passed = passed_item x.passed in
    stand-append out (undo ++ stable ++ bound ++ tentative ++ passed) (item_if (asked.tentative && x.is_stable) RecDone)
    (stand-append out (undo ++ stable ++ bound ++ tentative) passed
    (stand-append out (undo ++ stable ++ bound) tentative
    (stand-append out (undo ++ stable) bound
    (stand-append out undo stable (undo-stand asked.tentative) (stable-stand out asked.n (drop asked.n x.stable))) (boundary-stand out x.bound)) (tentative-stand out x.tentative (λ t c. c))) (passed-stand out x.passed))
    (done-stand out (asked.tentative && x.is_stable))
  where
    undo-stand : (b : Bool) → TentativesStand x.tentative (item_if b (Undo asked.n))
    undo-stand true = tt
    undo-stand false = tt

-- ---- mails

abbrev pub AreStanding : List Tuple → List Mail → Type 0
AreStanding out [] = Unit {0}
AreStanding out (m ∷ ms) = TentativesStand out (items_carried m.packet) × AreStanding out ms

message-standing : (out : List Tuple) (m : Message) → no_batch m ≡ true → TentativesStand out (items_carried (Plain m))
message-standing out (message.Batch s index items) e = cc
message-standing out (message.Subscribe asked) e = tt
message-standing out (message.Truncated s base) e = tt
message-standing out (message.Beat b) e = tt
message-standing out (message.Ack i n) e = tt
message-standing out (message.Ask i n) e = tt
message-standing out (message.Grant i n) e = tt
message-standing out (message.SnapAsk i n) e = tt

packet-standing : (out : List Tuple) (p : Packet) → is_bare_packet p ≡ true → TentativesStand out (items_carried p)
packet-standing out (Plain m) e = message-standing out m e
packet-standing out (SnapFor i try s) e = tt

pub bare-standing : (out : List Tuple) (ms : List Mail) → list_all is_bare ms ≡ true → AreStanding out ms
bare-standing out [] h = tt
bare-standing out (m ∷ ms) h = let p = both (is_bare m) (list_all is_bare ms) h in (packet-standing out m.packet p.0, bare-standing out ms p.1)

pub standing-append : (out : List Tuple) (ms ns : List Mail) → AreStanding out ms → AreStanding out ns → AreStanding out (ms ++ ns)
standing-append out [] ns h k = k
standing-append out (m ∷ ms) ns h k = (h.0, standing-append out ms ns h.1 k)

batches_from-standing : (out : List Tuple) (readers : List ℕ) (k : ℕ) (items : List Item) (subs : List Sub) → TentativesStand out items → AreStanding out (to_readers readers (batches_from k items subs))
batches_from-standing out readers k items [] h = tt
batches_from-standing out readers k items (sub ∷ subs) h =
    elim (tally_of sub) as (λ o. AreStanding out (to_readers readers (elim o [ None ↦ batches_from (k + 1) items subs | Some l ↦ (k, message.Batch l.0 l.1 items) ∷ batches_from (k + 1) items subs ]))) [
      | None ↦ batches_from-standing out readers (k + 1) items subs h
      | Some l ↦ (h, batches_from-standing out readers (k + 1) items subs h)
    ]

pub batches-standing : (out : List Tuple) (readers : List ℕ) (items : List Item) (subs : List Sub) → TentativesStand out items → AreStanding out (to_readers readers (batches_of items subs))
batches-standing out readers [] subs h = tt
batches-standing out readers (i ∷ items) subs h = batches_from-standing out readers 0 (i ∷ items) subs h

pub answer-standing : (x : Shown) (sub : Sub) (asked : Subscribe) (to : ℕ) → AreStanding x.tentative (elim (answer_to x sub asked).answer [ None ↦ [] | Some m ↦ mail to m ∷ [] ])
answer-standing x sub asked to =
    by-answer x sub asked to (AreStanding x.tentative) tt (tt, tt) (first-stand x asked, tt)

-- ---- the steps of a node

-- what a step sends stands in the node's tentative output
abbrev pub Stands : Home → Stepped PlainNode → Type 0
Stands home s = AreStanding (out_tentative home s.after) s.sends

tentative-subs : (home : Home) (n : PlainNode) (subs : List Sub) → out_tentative home (record n { subs = subs }) ≡ out_tentative home n
unfolding out_tentative out_stable out_with_closed
tentative-subs home n subs = refl

give-stands : (home : Home) (items : List Item) (n : PlainNode) → TentativesStand (out_tentative home n) items → Stands home (give home items n)
give-stands home items n h =
    subst (λ (out : List Tuple). AreStanding out (give home items n).sends) (sym (tentative-subs home n (with_batches items n.subs))) (batches-standing (out_tentative home n) (own_readers home) items n.subs h)

entered-standing : (home : Home) (out : List Tuple) (n : PlainNode) → AreStanding out (enter_step home n).sends
unfolding enter_step
entered-standing home out n = batches-standing out (own_readers home) (Undo (length (out_stable home n)) ∷ []) n.subs tt

processed-stands : (home : Home) (last : ℕ) (n : PlainNode) → Stands home (processing_upto home last n)
processed-stands home last n =
    let count = last + 1 - node_frontier n in
    let r = stably home n count in
    let new = with_failure (with_closed home (count - r) (after_stable_buckets home r n)) in
    give-stands home (given_items (length (out_stable home n)) (given_by home n new (nat_lt 0 r) (nat_lt r count))) new
    (given-stand (out_tentative home new) (length (out_stable home n)) (given_by home n new (nat_lt 0 r) (nat_lt r count)) (λ t c. drop-contains (length (out_tentative home n)) (out_tentative home new) t c))

processing-stands : (home : Home) (n : PlainNode) → Stands home (processing_step home n)
processing-stands home n =
    by-processing home n (Stands home) tt (λ last e due. processed-stands home last n)

pub milled-stands : (home : Home) (r : ℕ) (n : PlainNode) → Stands home (mill_step home r n)
unfolding mill_step
milled-stands home r n =
    let m = after_stable_buckets home r n in
    let done = is_stabilization n.state && ready home m == 0 in
    elim done as (λ b. Stands home (give home (given_items (length (out_stable home n)) (given_stable home n m b)) (after_last_correction b m))) [
      | true ↦ give-stands home (given_items (length (out_stable home n)) (given_stable home n m true)) (after_last_correction true m) (given-stand (out_tentative home (after_last_correction true m)) (length (out_stable home n)) (given_stable home n m true) (λ t c. absurd (none t c)))
      | false ↦ give-stands home (given_items (length (out_stable home n)) (given_stable home n m false)) (after_last_correction false m) (given-stand (out_tentative home (after_last_correction false m)) (length (out_stable home n)) (given_stable home n m false) (λ t c. absurd (none t c)))
    ]
  where
    none : (t : Tuple) → Contains [] t → ⊥
    none t c = let less = c.1 in omega (arith, less)

reconciling-standing : (home : Home) (out : List Tuple) (n : PlainNode) → AreStanding out (ask_step home n).sends
reconciling-standing home out n =
    let asks = to_each (message.Ask (own_key n.grants).0 (own_key n.grants).1) (peers_of home) in
    by-asking home n (λ s. AreStanding out s.sends) (entered-standing home out n)
    (bare-standing out asks (each-bare (message.Ask (own_key n.grants).0 (own_key n.grants).1) (peers_of home) (λ a. refl))) tt

serving-stands : (home : Home) (n : PlainNode) → Stands home (serving_step home n)
serving-stands home n =
    let s = choice_step home n in
    let t = ask_step home s.after in
    let v = processing_step home t.after in
    let out = out_tentative home v.after in
    standing-append out (s.sends ++ t.sends ++ v.sends) (announcing_step home v.after).sends
    (standing-append out (s.sends ++ t.sends) v.sends
    (standing-append out s.sends t.sends (bare-standing out s.sends (choosing-bare home n)) (reconciling-standing home out s.after)) (processing-stands home t.after)) (bare-standing out (announcing_step home v.after).sends (announcing-bare home v.after))

going_on-stands : (home : Home) (n : PlainNode) → Stands home (rest_of_tick home n)
going_on-stands home n =
    elim n.recovering as (λ b. Stands home (cond (not b) (serving_step home n) (cond (may_start_afresh home n) (serving_step home (with_fresh_start n)) (then_do (snapshot_ask_step home n) (announcing_step home))))) [
      | false ↦ serving-stands home n
      | true ↦ elim (may_start_afresh home n) as (λ b. Stands home (cond b (serving_step home (with_fresh_start n)) (then_do (snapshot_ask_step home n) (announcing_step home)))) [
        | true ↦ serving-stands home (with_fresh_start n)
        | false ↦
            let out = out_tentative home n in
            standing-append out (snapshot_ask_step home n).sends (announcing_step home n).sends
            (bare-standing out (snapshot_ask_step home n).sends (each-bare (message.SnapAsk n.grants.inc n.tries) (peers_of home) (λ a. refl))) (bare-standing out (announcing_step home n).sends (announcing-bare home n))
      ]
    ]

pub ticked-stands : (home : Home) (now : ℕ) (n : PlainNode) → Stands home (tick_step home now n)
unfolding tick_step
ticked-stands home now n = going_on-stands home (after_clock now (with_marks_ended n))

-- ---- packets

subscribe-stands : (home : Home) (asked : Subscribe) (o : Option ℕ) (n : PlainNode) → Stands home (on_subscribe home asked o n)
subscribe-stands home asked None n = tt
subscribe-stands home asked (Some k) n =
    let t = answer_to (shown home n) (nth (record { kept = None; is_open = false; batches = 0 }) n.subs k) asked in
    subst (λ (out : List Tuple). AreStanding out (on_subscribe home asked (Some k) n).sends) (sym (tentative-subs home n (changed k (λ _. t.after) n.subs)))
    (answer-standing (shown home n) (nth (record { kept = None; is_open = false; batches = 0 }) n.subs k) asked (nth 0 (own_readers home) k))

ask-stands : (home : Home) (i ask : ℕ) (o : Option ℕ) (n : PlainNode) → Stands home (on_ask home i ask o n)
ask-stands home i ask None n = tt
ask-stands home i ask (Some r) n =
    elim (grants n.grants n.state r (i, ask)) as (λ b. Stands home (cond b (record { after = record n { grants = with_promise n.grants r (i, ask) }; sends = mail (nth 0 (replicas_of home.plan home.frag) r) (message.Grant i ask) ∷ [] }) (idle_step n))) [ true ↦ (tt, tt) | false ↦ tt ]

message-stands : (home : Home) (a : ℕ) (m : Message) (n : PlainNode) → Stands home (on_message home a m n)
message-stands home a (message.Batch s index items) n = tt
message-stands home a (message.Subscribe asked) n = elim n.recovering as (λ b. Stands home (cond b (idle_step n) (on_subscribe home asked (reader_place home a) n))) [ true ↦ tt | false ↦ subscribe-stands home asked (reader_place home a) n ]
message-stands home a (message.Truncated s base) n = tt
message-stands home a (message.Beat b) n = tt
message-stands home a (message.Ack i count) n = tt
message-stands home a (message.Ask i ask) n = ask-stands home i ask (replica_number home a) n
message-stands home a (message.Grant i ask) n =
    elim (is_up_failure n.state && may_enter_by n.grants (i, ask)) as (λ b. Stands home (cond b (enter_step home n) (idle_step n))) [ true ↦ entered-standing home (out_tentative home (enter_step home n).after) n | false ↦ tt ]
message-stands home a (message.SnapAsk i try) n = elim n.recovering as (λ b. Stands home (cond b (idle_step n) (on_snap_ask home a i try n))) [ true ↦ tt | false ↦ (tt, tt) ]

packet-stands : (home : Home) (a : ℕ) (p : Packet) (n : PlainNode) → Stands home (on_packet home a p n)
packet-stands home a (Plain m) n = message-stands home a m n
packet-stands home a (SnapFor i try s) n = tt

pub delivered-stands : (home : Home) (a : ℕ) (p : Packet) (n : PlainNode) → Stands home (packet_step home a p n)
unfolding packet_step
delivered-stands home a p n = packet-stands home a p (with_marks_ended n)

-- ---- a source, which has no tentative output

gives-standing : (plan : Plan) (s t : ℕ) (o : Option (ℕ × ℕ)) (x : SourceState) → AreStanding [] (source_gives plan s t o x).sends
gives-standing plan s t o x =
    batches-standing [] (source_readers plan s) (given_items x.emitted (source_given plan s t o x)) x.subs (given-stand [] x.emitted (source_given plan s t o x) (λ u c. c))

pub emits-standing : (plan : Plan) (s t : ℕ) (x : SourceState) → AreStanding [] (source_emits plan s t x).sends
unfolding source_emits
emits-standing plan s t x = gives-standing plan s t None x

pub releases-standing : (plan : Plan) (s t : ℕ) (x : SourceState) → AreStanding [] (source_releases plan s t x).sends
unfolding source_releases
releases-standing plan s t x = gives-standing plan s t (cond (nat_lt x.bound t) (bound_at plan s t) None) (record x { bound = max x.bound t })

subscribed-standing : (plan : Plan) (s : ℕ) (asked : Subscribe) (o : Option ℕ) (x : SourceState) → AreStanding [] (source_subscribed plan s asked o x).sends
subscribed-standing plan s asked None x = tt
subscribed-standing plan s asked (Some k) x = answer-standing (source_shown plan s x) (nth (record { kept = None; is_open = false; batches = 0 }) x.subs k) asked (nth 0 (source_readers plan s) k)

message-standing-source : (plan : Plan) (s a : ℕ) (m : Message) (x : SourceState) → AreStanding [] (source_message plan s a m x).sends
message-standing-source plan s a (message.Subscribe asked) x = subscribed-standing plan s asked _ x
message-standing-source plan s a (message.Batch u index items) x = tt
message-standing-source plan s a (message.Truncated u base) x = tt
message-standing-source plan s a (message.Beat b) x = tt
message-standing-source plan s a (message.Ack i n) x = tt
message-standing-source plan s a (message.Ask i n) x = tt
message-standing-source plan s a (message.Grant i n) x = tt
message-standing-source plan s a (message.SnapAsk i n) x = tt

pub source_delivered-standing : (plan : Plan) (s a : ℕ) (p : Packet) (x : SourceState) → AreStanding [] (source_packet_step plan s a p x).sends
unfolding source_packet_step
source_delivered-standing plan s a (Plain m) x = message-standing-source plan s a m x
source_delivered-standing plan s a (SnapFor i try snap) x = tt

pub source_ticked-standing : (plan : Plan) (s now : ℕ) (x : SourceState) → AreStanding [] (source_tick_step plan s now x).sends
source_ticked-standing plan s now x = bare-standing [] (source_tick_step plan s now x).sends (source_ticked-bare plan s now x)
