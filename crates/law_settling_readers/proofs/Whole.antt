-- A port that took all of a finished replica has the whole stream, and so has one that takes the answer of a finished replica.
use Rattle.std.proofs.Common.{◌≡◌, ℕ, zero, suc, ◌+◌, ◌*◌, ◌<◌, ◌≤◌, true, false, nat_lt, List, length, refl, sym, ap, subst, ◌∙◌, arith, Option, Some, slice_get, unwrap_or}
use Rattle.dpc_lists.specs.Lists.{nth, list_all, range_with_len}
use Rattle.dpc_model.specs.Reading.{Reader, is_sure, Folded, fold_items}
use Rattle.dpc_model.specs.Fragments.{ideal}
use Rattle.dpc_model.specs.Actors.{role_of, senders_of}
use Rattle.dpc_model.specs.Ports.{Port}
use Rattle.dpc_model.specs.Sessions.{Shown, first_batch, tally_of, no_session}
use Rattle.dpc_model.specs.declared.actors.Role.{Role}
use Rattle.dpc_model.specs.declared.actors.Role.TheVariants.{Node as IsNode}
use Rattle.dpc_model.specs.declared.sessions.Sub.{Sub}
use Rattle.dpc_model.specs.declared.messages.Event.{Event}
use Rattle.dpc_model.specs.declared.messages.Sess.{Sess}
use Rattle.dpc_model.specs.declared.messages.Subscribe.{Subscribe}
use Rattle.dpc_model.specs.declared.plans.Plan.{Plan}
use Rattle.dpc_model.specs.declared.plans.StreamRef.{StreamRef}
use Rattle.dpc_model.specs.declared.plans.StreamRef.TheVariants.{Frag}
use Rattle.node_model.specs.Nodes.{Home, PlainNode, own_readers, shown}
use Rattle.world_model.specs.Worlds.{home_of, slot_of, run}
use Rattle.world_model.specs.Safe.{HoldsOf}
use Rattle.world_model.specs.SessionLaw.{Channel, Fits, bound_of, taken_whole}
use Rattle.law_safety.specs.Plans.{IsChecked, IsPlace, IsCheckedPlan}
use Rattle.dpc_lists.proofs.Truths.{lt-of}
use Rattle.dpc_lists.proofs.Elements.{some-there}
use Rattle.dpc_model.proofs.Prefixes.{prefix-taken}
use Rattle.law_safety.proofs.Frames.{IsGood}
use Rattle.law_safety.proofs.Law.{run-good}
use Rattle.law_safety.proofs.Distinct.{readers-distinct}
use Rattle.law_safety.proofs.NodeViews.{clear-shown, shown-view, shown-bound}
use Rattle.law_safety.proofs.Views.{IsClear, first-leaves}
use Rattle.law_granting.specs.Taken.{index_of, port_of, line_of, IsAnsweredIn}
use Rattle.law_granting.proofs.Sending.{indexes}
use Rattle.law_granting.proofs.Sent.{SentOrder}
use Rattle.law_readers.specs.Newest.{IsPortOf, subs_of, node_subs}
use Rattle.law_readers.specs.Held.{HasRead, TookAll, shown_by, node_shown, opening_of}
use Rattle.law_readers.proofs.Steps.{ports-have-read, port-holds}
use Rattle.law_readers.proofs.Known.{run-clients}
use Rattle.law_readers.proofs.Viewed.{views-held, node-order, counted}
use Rattle.law_settling.specs.Finished.{IsFinished}
use Rattle.law_settling.proofs.Seen.{range-below, index-passes}
use Rattle.law_settling.proofs.Full.{tally-parts, not-not, asks_with}

-- ---- what a finished replica shows

pub record ShowsWhole (plan : Plan) (x : Shown) : Type 0 where
  pub bound : bound_of x.bound ≡ plan.end
  pub clear : IsClear x

pub shows-whole : (home : Home) (n : PlainNode) → IsChecked home.plan → IsFinished home n → ShowsWhole home.plan (shown home n)
shows-whole home n checked h =
    record { bound = shown-bound home n ∙ ap (λ (c : ℕ). c * home.plan.width) h.cursor ∙ checked.whole; clear = clear-shown home n h.closed }

-- what takes the whole of it has all
pub whole-view : (plan : Plan) (s : StreamRef) (asked : Subscribe) (x : Shown) (start : Reader) → ShowsWhole plan x → start.bound ≤ plan.end → ((taken_whole plan s asked x start).bound ≡ plan.end) × (is_sure (taken_whole plan s asked x start) ≡ true)
whole-view plan s asked x start h low =
    let bound = h.bound in
    (omega (arith, bound, low), rw (h.clear.0, h.clear.1) refl)

-- what a port of a run holds
pub run-holds : (plan : Plan) (events : List Event) (x p : ℕ) (s : StreamRef) (q : Port) → IsCheckedPlan plan → IsPortOf plan x p s → port_of (run plan events) x p ≡ Some q → HoldsOf plan s q.inlet.held
run-holds plan events x p s q checked port there =
    let w = run plan events in
    let g = run-good plan events checked in
    let many = run-clients plan events ∙ ap (λ (z : Plan). length z.clients) (sym g.of_plan) in
    subst (λ (z : Plan). HoldsOf z s q.inlet.held) g.of_plan (port-holds w (1 + length events) x p s g.fine many (subst (λ (z : Plan). IsPortOf z x p s) (sym g.of_plan) port) q there)

-- ---- the answer

held-fits : (plan : Plan) (s : StreamRef) (u : Sess) (h : Reader) → HoldsOf plan s h → Fits plan s (asks_with u h) h
held-fits plan s u h holds = record { stable = prefix-taken h.stable (ideal plan s) holds.stable; count = refl; bound = holds.bound; tentative = not-not (is_sure h) }

pub first-whole : (home : Home) (most : ℕ) (n : PlainNode) (u : Sess) (h : Reader) → IsPlace home → IsGood home most n → IsFinished home n → HoldsOf home.plan (Frag home.frag) h →
    (f : Folded) × (fold_items h (first_batch (shown home n) (asks_with u h)) ≡ Some f) × (f.after.bound ≡ home.plan.end) × (is_sure f.after ≡ true)
first-whole home most n u h place good done holds =
    let leaves = first-leaves home.plan (Frag home.frag) (asks_with u h) (shown home n) h (shown-view home most n place done.recovering good) (held-fits home.plan (Frag home.frag) u h holds) in
    let all = whole-view home.plan (Frag home.frag) (asks_with u h) (shown home n) h (shows-whole home n place.checked done) holds.within in
    (leaves.0, leaves.1, ap (λ (r : Reader). r.bound) leaves.2 ∙ all.0, ap is_sure leaves.2 ∙ all.1)

-- ---- all batches taken

module _ (plan : Plan) (events : List Event) (x p f r a k i : ℕ) (checked : IsCheckedPlan plan) (port : IsPortOf plan x p (Frag f)) (q : Port) (there : port_of (run plan events) x p ≡ Some q) (whole : q.inlet.broken ≡ false)
    (sender : nth 0 (senders_of plan (Frag f)) q.chosen ≡ a) (role : role_of plan a ≡ IsNode f r) (n : PlainNode) (up : (slot_of (run plan events) a).node ≡ Some n) (back : nth 0 (own_readers (home_of plan (f, r))) k ≡ x) (low : k < length (own_readers (home_of plan (f, r))))
    (answered : IsAnsweredIn plan events (record { sender = a; reader = x; sess = q.inlet.sess }) i) (m : ℕ) (tally : tally_of (nth no_session n.subs k) ≡ Some (q.inlet.sess, m)) where
  abbrev Line : Channel
  Line = record { sender = a; reader = x; sess = q.inlet.sess }

  line-is : line_of plan x (Frag f) q ≡ Line
  line-is = ap (λ (z : ℕ). record { sender = z; reader = x; sess = q.inlet.sess }) sender

  order : SentOrder (run plan events) a x k i q.inlet.sess
  order = node-order plan events a x f r k i q.inlet.sess checked (record { role = role; reader = back; distinct = readers-distinct plan (Frag f); low = low }) answered

  counts : m ≡ order.many
  counts =
      let parts = tally-parts (nth no_session n.subs k) q.inlet.sess m tally in
      let count = parts.2 in
      let same = counted q.inlet.sess i order.many n.grants.inc (nth no_session n.subs k) (order.there n up) (tally ∙ ap {B = Option (Sess × ℕ)} (λ (z : ℕ). Some (q.inlet.sess, z)) (sym count)) in
      sym count ∙ same.1

  -- no more batches than were sent
  pub next-low : q.inlet.next ≤ m
  next-low = by-next q.inlet.next refl
    where
      by-next : (c : ℕ) → q.inlet.next ≡ c → q.inlet.next ≤ m
      by-next zero e = omega (arith, e)
      by-next (suc j) e =
          let read : HasRead plan x (Frag f) (run plan events).envelopes q = ports-have-read plan events checked x p (Frag f) q port there whole in
          let many = read.many in
          let item = some-there read.batches j (omega (arith, many, e)) in
          let batch = read.each j item.0 item.1 in
          let index : index_of Line batch.envelope ≡ Some j = subst (λ (z : Channel). index_of z batch.envelope ≡ Some j) line-is batch.index in
          let o = order in
          let zero_on : 0 + o.many ≡ o.many = omega arith in
          let all : list_all (λ c. nat_lt c o.many) (indexes Line (run plan events).envelopes) ≡ true =
          subst (λ (zs : List ℕ). list_all (λ c. nat_lt c o.many) zs ≡ true) (sym o.order) (subst (λ (z : ℕ). list_all (λ c. nat_lt c z) (range_with_len 0 o.many) ≡ true) zero_on (range-below 0 o.many)) in
          let below = lt-of j o.many (index-passes (λ c. nat_lt c o.many) Line (run plan events).envelopes batch.place j batch.envelope all batch.there index) in
          let same = counts in
          omega (arith, below, same, e)

  -- a port that took as many batches as a finished replica tells of
  pub took-whole : k < length n.subs → m ≤ q.inlet.next → IsFinished (home_of plan (f, r)) n → (q.inlet.held.bound ≡ plan.end) × (is_sure q.inlet.held ≡ true)
  took-whole few all done =
      let w = run plan events in
      let home = home_of plan (f, r) in
      let low_next = next-low in
      let parts = tally-parts (nth no_session n.subs k) q.inlet.sess m tally in
      let count = parts.2 in
      let found = some-there n.subs k few in
      let it : found.0 ≡ nth no_session n.subs k = sym (ap (λ (o : Option Sub). unwrap_or o no_session) found.1) in
      let took : TookAll plan w x p (Frag f) q a = record {
        port = there;
        whole = whole;
        sender = sender;
        place = k;
        sub = nth no_session n.subs k;
        reader = back;
        there = ap (λ (z : Role). slice_get (subs_of w a z) k) role ∙ ap (λ (o : Option PlainNode). slice_get (node_subs o) k) up ∙ found.1 ∙ ap {B = Option Sub} Some it;
        kept = parts.0;
        is_open = parts.1;
        all = omega (arith, all, low_next, count);
      } in
      let view = views-held plan events checked x p a i (Frag f) q (shown home n) port took (subst (λ (l : Channel). IsAnsweredIn plan events l i) (sym line-is) answered)
      (ap (λ (z : Role). shown_by plan w a z) role ∙ ap (λ (o : Option PlainNode). node_shown plan f r o) up) in
      let holds = run-holds plan events x p (Frag f) q checked port there in
      let low_held = holds.within in
      let grows : view.read.start.bound ≤ q.inlet.held.bound = let same = ap (λ (z : Reader). z.bound) view.view in omega (arith, same) in
      let full = whole-view plan (Frag f) (opening_of plan events view.read.start (line_of plan x (Frag f) q)) (shown home n) view.read.start (shows-whole home n checked.checked done) (omega (arith, grows, low_held)) in
      (ap (λ (z : Reader). z.bound) view.view ∙ full.0, ap is_sure view.view ∙ full.1)
