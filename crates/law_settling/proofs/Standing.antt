-- All that is known of a port that reads a source, and of the source, in a run where the reader does not recover and every link is up.
use Rattle.std.proofs.Common.{◌≡◌, ℕ, ◌+◌, ◌<◌, ◌≤◌, true, false, not, List, [], length, refl, sym, ap, subst, ◌∙◌, arith, Option, Some, slice_get}
use Rattle.dpc_lists.specs.Lists.{nth}
use Rattle.dpc_model.specs.Reading.{Reader, is_sure, Folded, fold_items}
use Rattle.dpc_model.specs.Inlets.{InletState, same_sess, is_newer}
use Rattle.dpc_model.specs.Actors.{role_of, sends_stream, readers_of}
use Rattle.dpc_model.specs.Ports.{Port}
use Rattle.dpc_model.specs.Sessions.{tally_of}
use Rattle.dpc_model.specs.declared.actors.Role.{Role}
use Rattle.dpc_model.specs.declared.tuples.Item.{Item}
use Rattle.dpc_model.specs.declared.messages.Event.{Event}
use Rattle.dpc_model.specs.declared.messages.Sess.{Sess}
use Rattle.dpc_model.specs.declared.messages.Subscribe.{Subscribe}
use Rattle.dpc_model.specs.declared.messages.Message.TheVariants as message
use Rattle.dpc_model.specs.declared.plans.Plan.{Plan}
use Rattle.dpc_model.specs.declared.plans.StreamRef.TheVariants.{Source}
use Rattle.node_model.specs.Mails.{Packet, Plain}
use Rattle.world_model.specs.Worlds.{World, Envelope, source_at, run}
use Rattle.world_model.specs.Safe.{HoldsOf}
use Rattle.law_safety.specs.Plans.{IsCheckedPlan}
use Rattle.dpc_lists.proofs.Truths.{eq-test}
use Rattle.dpc_lists.proofs.Elements.{no-elements}
use Rattle.dpc_model.proofs.Alike.{same_sess-eq}
use Rattle.law_safety.proofs.Happening.{IsFine}
use Rattle.law_safety.proofs.Law.{run-good}
use Rattle.law_granting.specs.Taken.{role_port, port_of}
use Rattle.law_granting.proofs.First.{source-below}
use Rattle.law_readers.specs.Newest.{subs_of, KnowsNoNewer}
use Rattle.law_readers.specs.Held.{joined}
use Rattle.law_readers.specs.Sure.{SendsSurely}
use Rattle.law_readers.proofs.Surely.{sources-sure}
use Rattle.law_settling.specs.Rests.{RestsAt}
use Rattle.law_settling.proofs.Sure.{IsPlainPacket, sends-plain}
use Rattle.law_readers.proofs.Steps.{ports-have-read}
use Rattle.law_readers.proofs.Known.{none-newer, run-clients}
use Rattle.law_readers.proofs.Read.{reached-port}
use Rattle.law_settling.proofs.Opening.{IsAllUp}
use Rattle.law_settling.proofs.Logs.{run-sources}
use Rattle.law_settling.proofs.Lines.{IsReading}
use Rattle.law_settling.proofs.Going.{chosen-first}
use Rattle.law_settling.proofs.Sourcing.{sub_at, few}
use Rattle.law_settling.proofs.Seen.{sub-there}
use Rattle.law_settling.proofs.Full.{run-holds, took-whole, asks_with}

-- the inlet after it asked, with what it holds
abbrev pub asked_inlet : Reader → Sess → InletState
asked_inlet h u = record { held = h; sess = u; next = 0; answered = false; broken = false }

pub record Stand (plan : Plan) (x p s k : ℕ) (w : World) : Type 0 where
  pub of_plan : w.plan ≡ plan
  pub checked : IsCheckedPlan plan
  pub line : IsReading w.plan x p s k
  pub most : ℕ
  pub fine : IsFine w most
  pub many : length w.clients ≡ length w.plan.clients
  pub within : s < length w.sources
  pub ended : (source_at w s).bound ≡ plan.end
  pub calm : RestsAt w x
  pub up : IsAllUp w
  pub newer : KnowsNoNewer plan w x p (Source s)
  pub took : (q : Port) (m : ℕ) → port_of w x p ≡ Some q → q.inlet.broken ≡ false → tally_of (sub_at w s k) ≡ Some (q.inlet.sess, m) → m ≤ q.inlet.next → (q.inlet.held.bound ≡ plan.end) × (is_sure q.inlet.held ≡ true)
  pub asked : (q : Port) (u : Sess) (h : Reader) (j : ℕ) (f : Envelope) (v : Subscribe) → port_of w x p ≡ Some q → q.inlet ≡ asked_inlet h u → slice_get w.envelopes j ≡ Some f → f.sender ≡ x → f.to ≡ s → f.packet ≡ Plain (message.Subscribe v) →
      same_sess v.sess u ≡ true → v ≡ asks_with u h
  pub plain : (j : ℕ) (f : Envelope) → slice_get w.envelopes j ≡ Some f → f.sender ≡ s → IsPlainPacket f.packet
  pub holds : (q : Port) → port_of w x p ≡ Some q → HoldsOf plan (Source s) q.inlet.held

-- what was asked for in the port's session is what it asks for now, where it took no batch of it
run-asked : (plan : Plan) (events : List Event) (x p s k : ℕ) → IsCheckedPlan plan → IsReading plan x p s k → (q : Port) (u : Sess) (h : Reader) (j : ℕ) (f : Envelope) (v : Subscribe) → port_of (run plan events) x p ≡ Some q → q.inlet ≡ asked_inlet h u →
    slice_get (run plan events).envelopes j ≡ Some f → f.sender ≡ x → f.to ≡ s → f.packet ≡ Plain (message.Subscribe v) → same_sess v.sess u ≡ true → v ≡ asks_with u h
run-asked plan events x p s k checked line q u h j f v there inlet sent sender to packet same =
    let read = ports-have-read plan events checked x p (Source s) q line.port there (ap (λ (i : InletState). i.broken) inlet) in
    let none : read.batches ≡ [] = no-elements read.batches (read.many ∙ ap (λ (i : InletState). i.next) inlet) in
    let folded : read.folded.after ≡ read.start = some-folded read.start read.folded (sym (ap (λ (bs : List (List Item)). fold_items read.start (joined bs)) none) ∙ read.read) in
    let start : read.start ≡ h = sym folded ∙ sym read.held ∙ ap (λ (i : InletState). i.held) inlet in
    let sends : sends_stream (Source s) (role_of plan f.to) ≡ true = ap (λ (z : ℕ). sends_stream (Source s) (role_of plan z)) to ∙ ap (λ (r : Role). sends_stream (Source s) r) line.source ∙ eq-test s s refl in
    let said = read.asks j f v sent sender sends packet (subst (λ (i : InletState). same_sess v.sess i.sess ≡ true) (sym inlet) same) in
    let sess = same_sess-eq v.sess u same in
    let n : v.n ≡ length h.stable = said.0 ∙ ap (λ (r : Reader). length r.stable) start in
    let tentative : v.tentative ≡ not (is_sure h) = said.1 ∙ ap (λ (r : Reader). not (is_sure r)) start in
    rw (← sess, ← n, ← tentative) refl
  where
    some-folded : (r : Reader) (g : Folded) → ◌≡◌ {A = Option Folded} (Some (record { after = r; taken = [] })) (Some g) → g.after ≡ r
    some-folded r g e = let same : ◌≡◌ {A = Folded} (record { after = r; taken = [] }) g = cc in ap (λ (z : Folded). z.after) (sym same)

pub stand-of : (plan : Plan) (events : List Event) (x p s k : ℕ) → IsCheckedPlan plan → IsReading plan x p s k → IsAllUp (run plan events) → RestsAt (run plan events) x → (source_at (run plan events) s).bound ≡ plan.end → Stand plan x p s k (run plan events)
stand-of plan events x p s k checked line up calm ended =
    let w = run plan events in
    let g = run-good plan events checked in
    let line_w = subst (λ (z : Plan). IsReading z x p s k) (sym g.of_plan) line in
    let many = run-clients plan events ∙ ap (λ (z : Plan). length z.clients) (sym g.of_plan) in
    let low = source-below plan s s line.source in
    let sources = run-sources plan events in
    let within : s < length w.sources = omega (arith, low, sources) in
    record {
      of_plan = g.of_plan;
      checked = checked;
      line = line_w;
      most = 1 + length events;
      fine = g.fine;
      many = many;
      within = within;
      ended = ended;
      calm = calm;
      up = up;
      newer = none-newer plan events checked x p (Source s) line.port;
      took = λ q m there whole tally all. took-whole plan events x p s k checked line q there (chosen-first w (1 + length events) x p s k g.fine many line_w calm q there) whole m tally all (few w (1 + length events) x p s k g.fine line_w within) ended;
      asked = λ q u h j f v there inlet sent sender to packet same. run-asked plan events x p s k checked line q u h j f v there inlet sent sender to packet same;
      plain = λ j f sent sender v i items packet.
          sends-plain w.envelopes f.sender f.to v i items (subst (λ (y : Packet). SendsSurely w.envelopes f.sender f.to y) packet (sources-sure plan events j s f sent (ap (λ (z : ℕ). role_of plan z) sender ∙ line.source)));
      holds = λ q there. run-holds plan events x p s q checked line.port there;
    }

-- ---- no session is newer than the port's

module _ (plan : Plan) (x p s k : ℕ) (w : World) (st : Stand plan x p s k w) (q : Port) (there : port_of w x p ≡ Some q) where
  port-there : role_port w x p (role_of plan x) ≡ Some q
  port-there = ap (λ (z : Plan). role_port w x p (role_of z x)) (sym st.of_plan) ∙ there

  sends-it : sends_stream (Source s) (role_of plan s) ≡ true
  sends-it = ap (λ (z : Plan). sends_stream (Source s) (role_of z s)) (sym st.of_plan) ∙ ap (λ (r : Role). sends_stream (Source s) r) st.line.source ∙ eq-test s s refl

  pub old-batch : (j : ℕ) (f : Envelope) (v : Sess) (i : ℕ) (items : List Item) → slice_get w.envelopes j ≡ Some f → f.sender ≡ s → f.to ≡ x → f.packet ≡ Plain (message.Batch v i items) → is_newer v q.inlet.sess ≡ false
  old-batch j f v i items sent sender to packet =
      reached-port w x p (role_of plan x) v q (st.newer.batches j i f v items sent to (ap (λ (z : ℕ). sends_stream (Source s) (role_of plan z)) sender ∙ sends-it) packet) port-there

  pub old-ask : (j : ℕ) (f : Envelope) (v : Subscribe) → slice_get w.envelopes j ≡ Some f → f.sender ≡ x → f.to ≡ s → f.packet ≡ Plain (message.Subscribe v) → is_newer v.sess q.inlet.sess ≡ false
  old-ask j f v sent sender to packet =
      reached-port w x p (role_of plan x) v.sess q (st.newer.asked j f v sent sender (ap (λ (z : ℕ). sends_stream (Source s) (role_of plan z)) to ∙ sends-it) packet) port-there

  pub old-kept : (v : Sess) → (sub_at w s k).kept ≡ Some v → is_newer v q.inlet.sess ≡ false
  old-kept v kept =
      let subs = sub-there w s k (few w st.most x p s k st.fine st.line st.within) in
      reached-port w x p (role_of plan x) v q (st.newer.kept s k (sub_at w s k) v sends-it (by-role subs) (ap (λ (z : Plan). nth 0 (readers_of z (Source s)) k) (sym st.of_plan) ∙ st.line.back) kept) port-there
    where
      by-role : slice_get (source_at w s).subs k ≡ Some (sub_at w s k) → slice_get (subs_of w s (role_of plan s)) k ≡ Some (sub_at w s k)
      by-role e = ap (λ (z : Plan). slice_get (subs_of w s (role_of z s)) k) (sym st.of_plan) ∙ ap (λ (r : Role). slice_get (subs_of w s r) k) st.line.source ∙ e
