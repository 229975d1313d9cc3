-- What a packet makes of a port, where its node goes on: what it holds stays, or a batch of its session was taken from the replica that it reads.
use Rattle.std.proofs.Common.{◌≡◌, ℕ, ◌≤◌, Bool, true, false, cond, not, ◌&&◌, ◌||◌, ◌==◌, nat_lt, List, map, length, refl, sym, ap, subst, ◌∙◌, Option, Some, None, slice_get, ◌⊎◌, inl, inr}
use Rattle.dpc_lists.specs.Lists.{nth, changed}
use Rattle.dpc_model.specs.Reading.{fold_items}
use Rattle.dpc_model.specs.Inlets.{InletState, same_sess, AfterBatch, after_missing_batch, after_next_batch, take_batch, after_tally}
use Rattle.dpc_model.specs.Ports.{Port, no_port, sender_at, without_ended_marks, on_beat, on_truncated, all_truncated}
use Rattle.dpc_model.specs.declared.batches.Taken.TheVariants.{Old}
use Rattle.dpc_model.specs.declared.tuples.Item.{Item}
use Rattle.dpc_model.specs.declared.messages.Sess.{Sess}
use Rattle.dpc_model.specs.declared.messages.Beat.{Beat}
use Rattle.dpc_model.specs.declared.messages.Message.{Message}
use Rattle.dpc_model.specs.declared.messages.Message.TheVariants as message
use Rattle.node_model.specs.Mails.{Packet, Plain, SnapFor}
use Rattle.node_model.specs.Nodes.{Home, PlainNode, streams_of}
use Rattle.node_model.specs.NodeSteps.{replica_number, reader_place, with_port, after_loss, after_adoption, after_taking, on_batch, on_subscribe, on_truncation, on_upstream_beat, on_peer_beat, on_ack, on_snap_ask, on_message, with_marks_ended, packet_step}
use Rattle.dpc_lists.proofs.Truths.{eq-of}
use Rattle.dpc_model.proofs.Subs.{nth-there, took-session}
use Rattle.law_granting.proofs.Moves.{get-mapped, get-was, stamped-ports, ack-ports, subscribe-ports, ask-ports, grant-ports, unless-ports}
use Rattle.law_readers.proofs.Counting.{took-longer}
use Rattle.law_calm.proofs.Whole.{IsHarmless, marked-session}

-- a batch of the port's session came from the replica that it reads, and the port holds no less
pub record TakesBatch (home : Home) (a : ℕ) (packet : Packet) (p : ℕ) (q r : Port) : Type 0 where
  pub sess : Sess
  pub index : ℕ
  pub items : List Item
  pub packet_is : packet ≡ Plain (message.Batch sess index items)
  pub sender : sender_at home.plan (streams_of home) a ≡ Some (p, q.chosen)
  pub named : same_sess sess q.inlet.sess ≡ true
  pub more : length q.inlet.held.stable ≤ length r.inlet.held.stable

pub record Took (home : Home) (a : ℕ) (packet : Packet) (p : ℕ) (q r : Port) : Type 0 where
  pub sess : r.inlet.sess ≡ q.inlet.sess
  pub chosen : r.chosen ≡ q.chosen
  pub held : (r.inlet.held ≡ q.inlet.held) ⊎ TakesBatch home a packet p q r

abbrev pub PortsTook : Home → ℕ → Packet → List Port → List Port → Type 0
PortsTook home a packet ps rs = (p : ℕ) (r : Port) → slice_get rs p ≡ Some r → (q : Port) × (slice_get ps p ≡ Some q) × Took home a packet p q r

-- ---- a batch

took-held : (inlet : InletState) (u : Sess) (index : ℕ) (items : List Item) → ((take_batch inlet u index items).after.held ≡ inlet.held) ⊎ (same_sess u inlet.sess ≡ true)
unfolding take_batch
took-held inlet u index items =
    (elim (same_sess u inlet.sess) as (λ c. same_sess u inlet.sess ≡ c →
    ((cond {A = AfterBatch} (not c || nat_lt index inlet.next) (record { after = inlet; answer = Old }) (cond (inlet.broken || nat_lt inlet.next index) (after_missing_batch inlet) (after_next_batch inlet (fold_items inlet.held items)))).after.held ≡ inlet.held)
    ⊎ (same_sess u inlet.sess ≡ true)) [
      | false ↦ λ e. inl refl
      | true ↦ λ e. inr e
    ]) refl

module _ (home : Home) (a : ℕ) (packet : Packet) where
  abbrev Take : List Port → List Port → Type 0
  Take ps rs = PortsTook home a packet ps rs

  still : (p : ℕ) (q r : Port) → r.inlet.sess ≡ q.inlet.sess → r.chosen ≡ q.chosen → r.inlet.held ≡ q.inlet.held → Took home a packet p q r
  still p q r sess chosen held = record { sess = sess; chosen = chosen; held = inl held }

  all-still : (ps rs : List Port) → rs ≡ ps → Take ps rs
  all-still ps rs same p r e = (r, sym (ap (λ (xs : List Port). slice_get xs p) same) ∙ e, still p r r refl refl refl)

  one-took : (i : ℕ) (f : Port → Port) (ps : List Port) → ((q : Port) → slice_get ps i ≡ Some q → Took home a packet i q (f q)) → Take ps (changed i f ps)
  one-took i f ps h p r e =
      let k = get-was i f ps p r e in (
        k.0,
        k.1,
        elim k.2 [
          | inl same ↦ subst (λ (x : Port). Took home a packet p k.0 x) same (still p k.0 k.0 refl refl refl)
          | inr here ↦ subst (λ (x : Port). Took home a packet p k.0 x) here.1 (subst (λ (x : ℕ). Took home a packet x k.0 (f k.0)) (sym here.0) (h k.0 (subst (λ (x : ℕ). slice_get ps x ≡ Some k.0) here.0 k.1)))
        ],
      )

  batch-took : (u : Sess) (index : ℕ) (items : List Item) (o : Option (ℕ × ℕ)) (n : PlainNode) → sender_at home.plan (streams_of home) a ≡ o → packet ≡ Plain (message.Batch u index items) → Take n.ports (on_batch home u index items o n).ports
  batch-took u index items None n place same = all-still n.ports n.ports refl
  batch-took u index items (Some pr) n place same =
      let port = nth no_port n.ports pr.0 in
      let t = take_batch port.inlet u index items in
      (elim (port.chosen == pr.1) as (λ b. (port.chosen == pr.1) ≡ b → Take n.ports (cond {A = PlainNode} b (after_taking home pr.0 t n) n).ports) [
        | false ↦ λ e. all-still n.ports n.ports refl
        | true ↦ λ e. subst (λ (ps : List Port). Take n.ports ps) (sym (stamped-ports home t.answer (with_port pr.0 (λ q. record q { inlet = t.after }) n)))
            (one-took pr.0 (λ q. record q { inlet = t.after }) n.ports (λ q there. at-port q there (eq-of port.chosen pr.1 e)))
      ]) refl
    where
      at-port : (q : Port) → slice_get n.ports pr.0 ≡ Some q → (nth no_port n.ports pr.0).chosen ≡ pr.1 → Took home a packet pr.0 q (record q { inlet = (take_batch (nth no_port n.ports pr.0).inlet u index items).after })
      at-port q there chosen =
          let is = nth-there n.ports pr.0 q there in
          let its : q.chosen ≡ pr.1 = ap (λ (z : Port). z.chosen) (sym is) ∙ chosen in
          subst (λ (z : Port). Took home a packet pr.0 q (record q { inlet = (take_batch z.inlet u index items).after })) (sym is)
          (record {
            sess = took-session q.inlet u index items;
            chosen = refl;
            held = elim (took-held q.inlet u index items) [
              | inl same_held ↦ inl same_held
              | inr named ↦ inr (record {
                sess = u;
                index = index;
                items = items;
                packet_is = same;
                sender = place ∙ ap {B = Option (ℕ × ℕ)} (λ (z : ℕ). Some (pr.0, z)) (sym its);
                named = named;
                more = took-longer q.inlet u index items;
              })
            ];
          })

  truncation-took : (u : Sess) (base : ℕ) (o : Option (ℕ × ℕ)) (n : PlainNode) → ((p r : ℕ) → o ≡ Some (p, r) → same_sess u (nth no_port n.ports p).inlet.sess ≡ false) → Take n.ports (on_truncation home u base o n).ports
  truncation-took u base None n harmless = all-still n.ports n.ports refl
  truncation-took u base (Some pr) n harmless =
      let old = nth no_port n.ports pr.0 in
      let port = on_truncated pr.1 u base old in
      let m = with_port pr.0 (λ _. port) n in
      let other : same_sess u old.inlet.sess ≡ false = harmless pr.0 pr.1 refl in
      subst (λ (b : Bool). Take n.ports (cond {A = PlainNode} (b && all_truncated port) (after_loss home m) m).ports) (sym other)
      (one-took pr.0 (λ _. port) n.ports (λ q there.
      let is = nth-there n.ports pr.0 q there in
      still pr.0 q port (ap (λ (z : Port). z.inlet.sess) is) (ap (λ (z : Port). z.chosen) is) (ap (λ (z : Port). z.inlet.held) is)))

  beat-port : (i r : ℕ) (b : Beat) (q : Port) → Took home a packet i q (on_beat r b q)
  beat-port i r b q =
      elim (r == q.chosen) as (λ c. Took home a packet i q (record { inlet = cond {A = InletState} c (after_tally q.inlet b.tally) q.inlet; chosen = q.chosen; watches = (on_beat r b q).watches; ticks = q.ticks })) [
        | true ↦ record { sess = refl; chosen = refl; held = inl refl }
        | false ↦ record { sess = refl; chosen = refl; held = inl refl }
      ]

  beat-took : (b : Beat) (o : Option ℕ) (pr : Option (ℕ × ℕ)) (n : PlainNode) → Take n.ports (on_peer_beat b o (on_upstream_beat b pr n)).ports
  beat-took b o pr n = peer o (on_upstream_beat b pr n) (upstream pr)
    where
      upstream : (x : Option (ℕ × ℕ)) → Take n.ports (on_upstream_beat b x n).ports
      upstream None = all-still n.ports n.ports refl
      upstream (Some x) = one-took x.0 (on_beat x.1 b) n.ports (λ q there. beat-port x.0 x.1 b q)

      peer : (x : Option ℕ) (m : PlainNode) → Take n.ports m.ports → Take n.ports (on_peer_beat b x m).ports
      peer None m k = k
      peer (Some x) m k = k

  message-took : (m : Message) (n : PlainNode) → packet ≡ Plain m → IsHarmless home a (Plain m) n → Take n.ports (on_message home a m n).after.ports
  message-took (message.Batch u index items) n same harmless = batch-took u index items (sender_at home.plan (streams_of home) a) n refl same
  message-took (message.Truncated u base) n same harmless = truncation-took u base (sender_at home.plan (streams_of home) a) n (λ p r at. harmless u base p r refl at)
  message-took (message.Beat b) n same harmless = beat-took b (replica_number home a) (sender_at home.plan (streams_of home) a) n
  message-took (message.Subscribe asked) n same harmless = all-still n.ports _ (unless-ports home n (on_subscribe home asked (reader_place home a) n) (subscribe-ports home asked (reader_place home a) n))
  message-took (message.Ack i count) n same harmless =
      all-still n.ports _ (elim n.recovering as (λ b. (cond {A = PlainNode} b n (on_ack home i count (reader_place home a) n)).ports ≡ n.ports) [ true ↦ refl | false ↦ ack-ports home i count (reader_place home a) n ])
  message-took (message.Ask i ask) n same harmless = all-still n.ports _ (ask-ports home i ask (replica_number home a) n)
  message-took (message.Grant i ask) n same harmless = all-still n.ports _ (grant-ports home i ask n)
  message-took (message.SnapAsk i try) n same harmless = all-still n.ports _ (unless-ports home n (on_snap_ask home a i try n) refl)

  -- behind the marks that ended
  marked-took : (ps rs : List Port) → Take (map without_ended_marks ps) rs → Take ps rs
  marked-took ps rs h p r e =
      let k = h p r e in
      let was = get-mapped without_ended_marks ps p k.0 k.1 in
      (was.0, was.1, subst (λ (z : Port). Took home a packet p z r → Took home a packet p was.0 r) was.2 (λ t. behind p was.0 r t) k.2)
    where
      behind : (p : ℕ) (q r : Port) → Took home a packet p (without_ended_marks q) r → Took home a packet p q r
      behind p q r t =
          record {
            sess = t.sess;
            chosen = t.chosen;
            held = elim t.held [
              | inl same ↦ inl same
              | inr b ↦ inr (record { sess = b.sess; index = b.index; items = b.items; packet_is = b.packet_is; sender = b.sender; named = b.named; more = b.more })
            ];
          }

pub packet-took : (home : Home) (a : ℕ) (packet : Packet) (n : PlainNode) → n.recovering ≡ false → IsHarmless home a packet n → PortsTook home a packet n.ports (packet_step home a packet n).after.ports
unfolding packet_step
packet-took home a (Plain m) n whole harmless =
    marked-took home a (Plain m) n.ports (packet_step home a (Plain m) n).after.ports
    (message-took home a (Plain m) m (with_marks_ended n) refl (λ u base p r same at. ap (λ (v : Sess). same_sess u v) (marked-session n.ports p) ∙ harmless u base p r same at))
packet-took home a (SnapFor i try s) n whole harmless =
    let m = with_marks_ended n in
    let none : (cond {A = PlainNode} (n.recovering && i == m.grants.inc && try == m.tries) (after_adoption home s m) m).ports ≡ m.ports =
    subst (λ (b : Bool). (cond {A = PlainNode} (b && i == m.grants.inc && try == m.tries) (after_adoption home s m) m).ports ≡ m.ports) (sym whole) refl in
    marked-took home a (SnapFor i try s) n.ports (packet_step home a (SnapFor i try s) n).after.ports (all-still home a (SnapFor i try s) m.ports _ none)
