-- What is known of a port and its source in every run: a port that took all that was sent holds the source's view.
use Rattle.std.proofs.Common.{◌≡◌, ℕ, zero, suc, ◌+◌, ◌<◌, ◌≤◌, Bool, true, false, ◌&&◌, nat_lt, List, [], ◌∷◌, length, refl, sym, ap, subst, ◌∙◌, arith, Option, Some, None, slice_get, unwrap_or}
use Rattle.dpc_lists.specs.Lists.{nth, range_with_len, list_all}
use Rattle.dpc_model.specs.Actors.{role_of, senders_of}
use Rattle.dpc_model.specs.Ports.{Port}
use Rattle.dpc_model.specs.Sessions.{no_session, tally_of}
use Rattle.dpc_model.specs.declared.actors.Role.{Role}
use Rattle.dpc_model.specs.declared.actors.Role.TheVariants.{Source as IsSource}
use Rattle.dpc_model.specs.declared.sessions.Sub.{Sub}
use Rattle.dpc_model.specs.declared.messages.Event.{Event}
use Rattle.dpc_model.specs.declared.messages.Sess.{Sess}
use Rattle.dpc_model.specs.declared.plans.Plan.{Plan}
use Rattle.dpc_model.specs.declared.plans.StreamRef.TheVariants.{Source}
use Rattle.node_model.specs.Sources.{source_readers}
use Rattle.world_model.specs.Worlds.{World, Envelope, source_at, happens, run, new_world}
use Rattle.world_model.specs.Safe.{EachStep}
use Rattle.world_model.specs.SessionLaw.{Channel}
use Rattle.law_safety.specs.Plans.{IsCheckedPlan}
use Rattle.dpc_lists.proofs.Truths.{lt-of, lt-test, both-of}
use Rattle.dpc_lists.proofs.Elements.{some-there}
use Rattle.dpc_model.proofs.Alike.{same_sess-self}
use Rattle.dpc_lists.proofs.Somes.{some-same}
use Rattle.law_safety.proofs.Growing.{event-grows}
use Rattle.law_safety.proofs.Law.{new_world-plan}
use Rattle.law_granting.specs.Taken.{index_of, port_of, line_of, subscribes, role_inc, IsAnsweredIn}
use Rattle.law_granting.proofs.Sending.{indexes}
use Rattle.law_granting.proofs.Sourced.{SourceOrder, IsSourceLine, source-run}
use Rattle.law_granting.proofs.First.{new-source-order}
use Rattle.law_readers.specs.Held.{HasRead}
use Rattle.law_readers.proofs.Steps.{ports-have-read}
use Rattle.law_settling.proofs.Lines.{IsReading}
use Rattle.law_settling.proofs.Sourcing.{sub_at}

-- ---- a source has one incarnation

always-first : (w : World) (events : List Event) (l : Channel) (s : ℕ) → role_of w.plan l.sender ≡ IsSource s → EachStep (λ w e. subscribes l w e ≡ true → role_inc w l.sender (role_of w.plan l.sender) ≡ 1) w events
always-first w [] l s role = tt
always-first w (e ∷ events) l s role =
    ((λ asks. ap (λ (r : Role). role_inc w l.sender r) role), always-first (happens w e) events l s (ap (λ (z : Plan). role_of z l.sender) (event-grows w e).plan ∙ role))

pub answered-first : (plan : Plan) (events : List Event) (l : Channel) (s : ℕ) → role_of plan l.sender ≡ IsSource s → IsAnsweredIn plan events l 1
answered-first plan events l s role = record { opening = λ e. refl; subscribed = always-first (new_world plan) events l s (ap (λ (z : Plan). role_of z l.sender) (new_world-plan plan) ∙ role) }

-- ---- as many batches as are counted

pub range-below : (k n : ℕ) → list_all (λ i. nat_lt i (k + n)) (range_with_len k n) ≡ true
range-below k zero = refl
range-below k (suc n) =
    let next : k + suc n ≡ k + 1 + n = omega arith in
    both-of (nat_lt k (k + suc n)) _ (lt-test k (k + suc n) (omega arith)) (subst (λ (z : ℕ). list_all (λ i. nat_lt i z) (range_with_len (k + 1) n) ≡ true) (sym next) (range-below (k + 1) n))

pub index-passes : (q : ℕ → Bool) (l : Channel) (es : List Envelope) (d j : ℕ) (e : Envelope) → list_all q (indexes l es) ≡ true → slice_get es d ≡ Some e → index_of l e ≡ Some j → q j ≡ true
index-passes q l [] d j e all there index = cc
index-passes q l (x ∷ es) zero j e all there index =
    let same : x ≡ e = some-same x e there in
    let here : index_of l x ≡ Some j = ap (λ (z : Envelope). index_of l z) same ∙ index in
    let has : list_all q (j ∷ indexes l es) ≡ true = subst (λ (o : Option ℕ). list_all q (elim o as (λ _. List ℕ) [ None ↦ indexes l es | Some i ↦ i ∷ indexes l es ]) ≡ true) here all in
    first (q j) (list_all q (indexes l es)) has
  where
    first : (a b : Bool) → (a && b) ≡ true → a ≡ true
    first true b h = refl
    first false b h = cc
index-passes q l (x ∷ es) (suc d) j e all there index =
    index-passes q l es d j e (elim (index_of l x) as (λ o. list_all q (elim o as (λ _. List ℕ) [ None ↦ indexes l es | Some i ↦ i ∷ indexes l es ]) ≡ true → list_all q (indexes l es) ≡ true) [
      | None ↦ λ h. h
      | Some i ↦ λ h. second (q i) (list_all q (indexes l es)) h
    ] all) there index
  where
    second : (a b : Bool) → (a && b) ≡ true → b ≡ true
    second true b h = h
    second false b h = cc

pub sub-there : (w : World) (s k : ℕ) → k < length (source_at w s).subs → slice_get (source_at w s).subs k ≡ Some (sub_at w s k)
sub-there w s k low = let found = some-there (source_at w s).subs k low in found.1 ∙ ap {B = Option Sub} Some (sym (ap (λ (o : Option Sub). unwrap_or o no_session) found.1))

source-order : (plan : Plan) (events : List Event) (x p s k : ℕ) (line : IsReading plan x p s k) (u : Sess) → SourceOrder (run plan events) s x s k 1 u (length (source_readers plan s))
unfolding run
source-order plan events x p s k line u =
    let l : Channel = record { sender = s; reader = x; sess = u } in
    let placed : IsSourceLine plan s x s k (length (source_readers plan s)) = record { role = line.source; reader = line.back; low = line.low; few = refl } in
    source-run (new_world plan) events s x s k 1 u (length (source_readers plan s)) (subst (λ (z : Plan). IsSourceLine z s x s k (length (source_readers plan s))) (sym (new_world-plan plan)) placed)
    (new-source-order plan s x s k 1 u line.source (λ e. refl)) (answered-first plan events l s line.source).subscribed

-- ---- a port that took all

module _ (plan : Plan) (events : List Event) (x p s k : ℕ) (checked : IsCheckedPlan plan) (line : IsReading plan x p s k) (q : Port) (there : port_of (run plan events) x p ≡ Some q) (first : q.chosen ≡ 0) (whole : q.inlet.broken ≡ false)
    (m : ℕ) (tally : tally_of (sub_at (run plan events) s k) ≡ Some (q.inlet.sess, m)) where
  sender-is : nth 0 (senders_of plan (Source s)) q.chosen ≡ s
  sender-is = ap (λ (z : ℕ). nth 0 (senders_of plan (Source s)) z) first ∙ line.first

  abbrev Line : Channel
  Line = record { sender = s; reader = x; sess = q.inlet.sess }

  order : SourceOrder (run plan events) s x s k 1 q.inlet.sess (length (source_readers plan s))
  order = source-order plan events x p s k line q.inlet.sess

  counted : m ≡ order.many
  counted = (order.there.0 refl).open_one q.inlet.sess m tally (same_sess-self q.inlet.sess)

  -- no more batches than were sent
  pub next-low : q.inlet.next ≤ m
  next-low = by-next q.inlet.next refl
    where
      read : HasRead plan x (Source s) (run plan events).envelopes q
      read = ports-have-read plan events checked x p (Source s) q line.port there whole

      by-next : (n : ℕ) → q.inlet.next ≡ n → q.inlet.next ≤ m
      by-next zero e = omega (arith, e)
      by-next (suc j) e =
          let r = ports-have-read plan events checked x p (Source s) q line.port there whole in
          let many = r.many in
          let item = some-there r.batches j (omega (arith, many, e)) in
          let batch = r.each j item.0 item.1 in
          let l : Channel = record { sender = s; reader = x; sess = q.inlet.sess } in
          let line_is : line_of plan x (Source s) q ≡ l = ap (λ (z : ℕ). record { sender = z; reader = x; sess = q.inlet.sess }) (ap (λ (z : ℕ). nth 0 (senders_of plan (Source s)) z) first ∙ line.first) in
          let index : index_of l batch.envelope ≡ Some j = subst (λ (z : Channel). index_of z batch.envelope ≡ Some j) line_is batch.index in
          let o = source-order plan events x p s k line q.inlet.sess in
          let zero_on : 0 + o.many ≡ o.many = omega arith in
          let all : list_all (λ i. nat_lt i o.many) (indexes l (run plan events).envelopes) ≡ true =
          subst (λ (zs : List ℕ). list_all (λ i. nat_lt i o.many) zs ≡ true) (sym o.order) (subst (λ (z : ℕ). list_all (λ i. nat_lt i z) (range_with_len 0 o.many) ≡ true) zero_on (range-below 0 o.many)) in
          let low = lt-of j o.many (index-passes (λ i. nat_lt i o.many) l (run plan events).envelopes batch.place j batch.envelope all batch.there index) in
          let same = (o.there.0 refl).open_one q.inlet.sess m tally (same_sess-self q.inlet.sess) in
          omega (arith, low, same, e)
