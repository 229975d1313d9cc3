-- What the run of a script keeps of whom it spares, as the laws say it.
use Rattle.std.proofs.Common.{◌≡◌, ◌+◌, ◌≤◌, ◌==◌, ℕ, Bool, true, false, cond, List, [], length, refl, sym, ap, subst, ◌∙◌, arith, Option, Some, None, slice_get, ◌⊎◌, inl, inr}
use Rattle.dpc_model.specs.Inlets.{same_sess}
use Rattle.dpc_model.specs.declared.messages.Sess.{Sess}
use Rattle.dpc_lists.proofs.Truths.{both-of, eq-test}
use Rattle.law_granting.specs.Taken.{index_in}
use Rattle.law_survivors.proofs.Spared.{reads-it}
use Rattle.law_survivors.proofs.Refused.{refused-unanswered}
use Rattle.dpc_model.specs.Actors.{role_of, inputs_of, sends_stream}
use Rattle.dpc_model.specs.declared.actors.Role.{Role}
use Rattle.dpc_model.specs.declared.plans.Plan.{Plan}
use Rattle.dpc_model.specs.declared.plans.StreamRef.{StreamRef}
use Rattle.dpc_model.specs.declared.plans.StreamRef.TheVariants.{Frag}
use Rattle.dpc_lists.proofs.Somes.{some-same}
use Rattle.node_model.specs.Nodes.{PlainNode, streams_of}
use Rattle.law_safety.proofs.Frames.{IsGood}
use Rattle.law_safety.proofs.Numbering.{home-inputs}
use Rattle.law_safety.proofs.Growing.{run-plan}
use Rattle.law_safety.proofs.Happening.{node-here}
use Rattle.law_safety.proofs.Law.{run-good}
use Rattle.dpc_model.specs.declared.messages.Event.{Event}
use Rattle.dpc_model.specs.declared.scripts.Script.{Script}
use Rattle.node_model.specs.Mails.{Packet}
use Rattle.law_readers.proofs.Counting.{LowPacket}
use Rattle.std.proofs.lemmas.List.{append-nil}
use Rattle.dpc_lists.specs.Lists.{nth}
use Rattle.dpc_model.specs.Sessions.{Acked}
use Rattle.world_model.specs.Worlds.{World, home_of, slot_of, run}
use Rattle.law_safety.proofs.Distinct.{readers-distinct}
use Rattle.law_schedules.proofs.Journals.{progress-run}
use Rattle.law_survivors.proofs.Entries.{known-late}
use Rattle.law_survivors.proofs.Stems.{StemsFrom, WasTold, stems-run}
use Rattle.law_survivors.proofs.Acked.{acked-done}
use Rattle.law_survivors.specs.Spared.{AreKeptFor, SendersKeepForSpared, SnapshotsSuffice, SparedAreNotRefused, HearWhole, RefusedAreNotAnswered, KnowsPresently, KnowNoMore, done_by}
use Rattle.law_survivors.proofs.Done.{done_of, done-is}
use Rattle.law_survivors.proofs.Running.{spared-run}

pub senders-keep : (script : Script) (events : List Event) → SendersKeepForSpared script events
senders-keep script events can live x g b p f q role spared port there =
    let level = ((spared-run script events can live x g b role spared).kept p f port).level q there in
    record {
      bases = λ a r n is up. (level.nodes a r n is up).base;
      acks = λ a r k n is up it. (level.nodes a r n is up).acks k it;
      snapshots = λ k r i try e s at is same. subst (λ (z : Packet). LowPacket (length q.inlet.held.stable) z) same (level.snaps k r e at is);
      told = λ k i n e at mine to packet. level.told k i n e tt at mine to packet;
    }

pub snapshots-suffice : (script : Script) (events : List Event) → SnapshotsSuffice script events
snapshots-suffice script events can live x g b p f n role spared port up =
    let plan = script.plan in
    let home = home_of plan (g, b) in
    let w = run plan events in
    let h = spared-run script events can live x g b role spared in
    let good = subst (λ (z : Plan). IsGood (home_of z (g, b)) (1 + length events) n) (run-plan plan events)
    (node-here w (1 + length events) x g b n (run-good plan events can.plan).fine (ap (λ (z : Plan). role_of z x) (run-plan plan events) ∙ role) up) in
    let whole = subst (λ (z : PlainNode). z.recovering ≡ false) (some-same h.stands.node n (sym h.stands.up ∙ up)) h.stands.whole in
    let reads : slice_get (streams_of home) p ≡ Some (Frag f) = sym (ap (λ (ss : List StreamRef). slice_get ss p) (home-inputs home b)) ∙ ap (λ (z : Role). slice_get (inputs_of plan z) p) (sym role) ∙ port.there in
    let level = h.done p f n port up in
    subst (λ (count : ℕ). AreKeptFor plan w x f count) (sym (done-is home (1 + length events) n can.plan.checked good whole p (Frag f) reads))
    (record {
      bases = λ a r m is there. (level.nodes a r m is there).base;
      acks = λ a r k m is there it. (level.nodes a r m is there).acks k it;
      snapshots = λ k r i try e s at is same. subst (λ (z : Packet). LowPacket (done_of plan f n) z) same (level.snaps k r e at is);
      told = λ k i m e at mine to packet. level.told k i m e tt at mine to packet;
    })

pub not-refused : (script : Script) (events : List Event) → SparedAreNotRefused script events
not-refused script events can live x g b p f k base q e u role spared port there at to sends packet = ((spared-run script events can live x g b role spared).kept p f port).truncated k base e u q at to sends packet there

pub hear-whole : (script : Script) (events : List Event) → HearWhole script events
hear-whole script events can live x g b a r m u role spared role_a up at = (spared-run script events can live x g b role spared).heard.heard a r m u role_a up at

pub never-answered : (script : Script) (events : List Event) → RefusedAreNotAnswered script events
never-answered script events can live x p f a r j k base index e b s items port role there mine to packet there_b mine_b to_b batch =
    refused-unanswered script events can.plan live x p f port (reads-it script.plan x p f port.there) a r s role j base e s there mine to packet (self-same s)
    (record {
      place = k;
      envelope = b;
      index = index;
      there = there_b;
      batch = rw (eq-test b.sender a mine_b, eq-test b.to x to_b) (ap (λ (z : Packet). index_in s z) batch ∙ ap (λ (c : Bool). cond {A = Option ℕ} c (Some index) None) (self-same s));
    })
  where
    self-same : (s : Sess) → same_sess s s ≡ true
    self-same s = both-of (s.inc == s.inc) (s.number == s.number) (eq-test s.inc s.inc refl) (eq-test s.number s.number refl)

pub knows-presently : (script : Script) (events : List Event) → KnowsPresently script events
knows-presently script events can live well a g r t f c p k m v role_a port role_t far up_a up_t low it =
    let plan = script.plan in
    let reader = reads-it plan a p f port.there in
    let world = progress-run script events in
    let known = (known-late script a g r t f c p role_a role_t port reader events can live well events [] (sym (append-nil events)) (omega (arith, far))).known v m (ap (λ (w : World). (slot_of w t).node) world ∙ up_t) (ap (λ (w : World). (slot_of w a).node) world ∙ up_a) in
    let same : reader.place ≡ k = readers-distinct plan (Frag f) reader.place k reader.low low (reader.it ∙ sym it) in
    subst (λ (j : ℕ). ((nth {X = Acked} (0, 0) v.acks j).0 ≡ m.grants.inc) ⊎ ((nth {X = Acked} (0, 0) v.acks j).1 ≡ 0)) same known.1

pub know-no-more : (script : Script) (events : List Event) → KnowNoMore script events
know-no-more script events can live well x g b a r t f c p k n m v role_x spared role_a port role_t far up_x up_a recovers up_t low it =
    let plan = script.plan in
    let reader = reads-it plan a p f port.there in
    let same : reader.place ≡ k = readers-distinct plan (Frag f) reader.place k reader.low low (reader.it ∙ sym it) in
    let stem = subst (λ (j : ℕ). StemsFrom (WasTold (run plan events) a t) (nth {X = Acked} (0, 0) v.acks j)) same (stems-run plan events can.plan a f reader t c v role_t up_t) in
    both-known stem (knows-presently script events can live well a g r t f c p k m v role_a port role_t far up_a up_t low it)
  where
    none-is-few : (count most : ℕ) → count ≡ 0 → count ≤ most
    none-is-few count most e = omega (arith, e)

    both-known : StemsFrom (WasTold (run script.plan events) a t) (nth {X = Acked} (0, 0) v.acks k) → ((nth {X = Acked} (0, 0) v.acks k).0 ≡ m.grants.inc) ⊎ ((nth {X = Acked} (0, 0) v.acks k).1 ≡ 0) → (nth {X = Acked} (0, 0) v.acks k).1 ≤ done_by (home_of script.plan (g, b)) p n
    both-known (inl none) known = none-is-few (nth {X = Acked} (0, 0) v.acks k).1 (done_by (home_of script.plan (g, b)) p n) none
    both-known (inr told) (inr none) = none-is-few (nth {X = Acked} (0, 0) v.acks k).1 (done_by (home_of script.plan (g, b)) p n) none
    both-known (inr told) (inl present) =
        let sends : sends_stream (Frag f) (role_of script.plan told.envelope.to) ≡ true = ap (λ (z : ℕ). sends_stream (Frag f) (role_of script.plan z)) told.sent_to ∙ ap (λ (z : Role). sends_stream (Frag f) z) role_t ∙ eq-test f f refl in
        acked-done script events can live x g b a r p f told.place (nth {X = Acked} (0, 0) v.acks k).0 (nth {X = Acked} (0, 0) v.acks k).1 n m told.envelope role_x spared role_a port up_x up_a recovers told.there told.sender sends told.packet present
