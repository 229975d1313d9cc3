-- Every event keeps that a port read the first batches of its session, from what it held when it asked for the session.
use Rattle.std.proofs.Common.{◌≡◌, ℕ, zero, suc, ◌+◌, true, false, cond, not, ◌==◌, List, [], ◌∷◌, ◌++◌, length, refl, sym, ap, subst, ◌∙◌, arith, Option, Some, None, slice_get, ◌⊎◌, inl, inr}
use Rattle.std.specs.Prelude.{IfSome}
use Rattle.std.proofs.lemmas.Grind.{common_steps}
use Rattle.std.proofs.lemmas.List.{append-nil, append_assoc, length-append}
use Rattle.dpc_lists.specs.Lists.{nth}
use Rattle.dpc_model.specs.Reading.{Reader, is_sure, fold_items}
use Rattle.dpc_model.specs.Inlets.{InletState, same_sess, is_newer, sess_of, with_next_session, asked_by}
use Rattle.dpc_model.specs.Actors.{role_of, sends_stream, senders_of}
use Rattle.dpc_model.specs.declared.actors.Role.{Role}
use Rattle.dpc_model.specs.declared.actors.Role.TheVariants.{Source as IsSource, Node as IsNode, Client as IsClient, Nobody}
use Rattle.dpc_model.specs.Ports.{Port}
use Rattle.dpc_model.specs.declared.tuples.Item.{Item}
use Rattle.dpc_model.specs.declared.messages.Sess.{Sess}
use Rattle.dpc_model.specs.declared.messages.Subscribe.{Subscribe}
use Rattle.dpc_model.specs.declared.messages.Message.TheVariants as message
use Rattle.dpc_model.specs.declared.plans.Plan.{Plan}
use Rattle.dpc_model.specs.declared.plans.StreamRef.{StreamRef}
use Rattle.dpc_lists.proofs.Elements.{get-first}
use Rattle.node_model.specs.Mails.{Packet, Plain}
use Rattle.node_model.specs.Nodes.{PlainNode}
use Rattle.world_model.specs.Worlds.{World, Envelope, slot_of, client_at}
use Rattle.world_model.specs.Safe.{HoldsOf}
use Rattle.world_model.specs.Orderly.{items_carried}
use Rattle.world_model.specs.SessionLaw.{Channel}
use Rattle.dpc_lists.proofs.Truths.{eq-test}
use Rattle.dpc_lists.proofs.Somes.{some-same}
use Rattle.law_safety.proofs.Clienting.{fold-append}
use Rattle.law_granting.specs.Taken.{index_in, node_port, role_port, port_of, line_of}
use Rattle.law_granting.proofs.Taking.{line-same}
use Rattle.law_readers.specs.Newest.{IsReached}
use Rattle.law_readers.specs.Held.{IsBatchOf, joined, HasRead}
use Rattle.law_readers.proofs.Going.{Reads}

-- ---- one event, of one port

-- the port read the next batch, which came in an envelope
pub record ReadOne (plan : Plan) (x : ℕ) (s : StreamRef) (es : List Envelope) (q r : Port) : Type 0 where
  pub place : ℕ
  pub envelope : Envelope
  pub there : slice_get es place ≡ Some envelope
  pub to : envelope.to ≡ x
  pub sender : nth 0 (senders_of plan s) q.chosen ≡ envelope.sender
  pub sess : Sess
  pub index : ℕ
  pub items : List Item
  pub packet : envelope.packet ≡ Plain (message.Batch sess index items)
  pub reads : Reads q r sess index items
  pub kept : r.inlet.sess ≡ q.inlet.sess
  pub chosen : r.chosen ≡ q.chosen

abbrev pub WentTo : Plan → ℕ → StreamRef → List Envelope → Port → Port → Type 0
WentTo plan x s es q r = ((r.inlet ≡ q.inlet) × (r.chosen ≡ q.chosen)) ⊎ ((r.inlet ≡ with_next_session q.inlet) ⊎ ReadOne plan x s es q r)

pub record ReadStep (plan : Plan) (x p : ℕ) (s : StreamRef) (w next : World) : Type 0 where
  pub ports : (r : Port) → port_of next x p ≡ Some r → r.inlet.broken ≡ false → (q : Port) × (port_of w x p ≡ Some q) × WentTo plan x s w.envelopes q r
  pub asks : (k : ℕ) (e : Envelope) (asked : Subscribe) → slice_get next.envelopes k ≡ Some e → e.sender ≡ x → sends_stream s (role_of plan e.to) ≡ true → e.packet ≡ Plain (message.Subscribe asked) →
      (slice_get w.envelopes k ≡ Some e) ⊎ ((q : Port) × (port_of w x p ≡ Some q) × (asked ≡ asked_by (with_next_session q.inlet)))

-- ---- sessions

not-next : (u : Sess) → same_sess (record u { number = u.number + 1 }) u ≡ true → ⊥
not-next u e = grind (arith, common_steps)

never-newer : (v u : Sess) → is_newer v u ≡ false → same_sess v (record u { number = u.number + 1 }) ≡ true → ⊥
never-newer v u h e = grind (arith, common_steps)

-- what is reached is not newer than the port's session
pub reached-port : (w : World) (x p : ℕ) (role : Role) (u : Sess) (q : Port) → IsReached w x p role u → role_port w x p role ≡ Some q → is_newer u q.inlet.sess ≡ false
reached-port w x p (IsNode f r) u q h there = by-node (slot_of w x).node refl there
  where
    by-node : (o : Option PlainNode) → (slot_of w x).node ≡ o → node_port p o ≡ Some q → is_newer u q.inlet.sess ≡ false
    by-node None up e = cc
    by-node (Some n) up e =
        let at_node = subst (λ (o : Option PlainNode). IfSome o (λ (z : PlainNode). IfSome (slice_get z.ports p) (λ (b : Port). is_newer u b.inlet.sess ≡ false))) up h.now in
        subst (λ (o : Option Port). IfSome o (λ (b : Port). is_newer u b.inlet.sess ≡ false)) e at_node
reached-port w x p (IsClient c) u q h there =
    elim (p == 0) as (λ b. cond {A = Option Port} b (Some (client_at w c).port) None ≡ Some q → is_newer u q.inlet.sess ≡ false) [
      | true ↦ λ e. subst (λ (z : Port). is_newer u z.inlet.sess ≡ false) (some-same (client_at w c).port q e) h
      | false ↦ λ e. cc
    ] there
reached-port w x p (IsSource v) u q h there = cc
reached-port w x p Nobody u q h there = cc

-- ---- batches

batch-of-later : (l : Channel) (es more : List Envelope) (j : ℕ) (items : List Item) → IsBatchOf l es j items → IsBatchOf l (es ++ more) j items
batch-of-later l es more j items h = record { place = h.place; envelope = h.envelope; there = get-first es more h.place h.envelope h.there; index = h.index; carried = h.carried }

joined-push : (xs : List (List Item)) (items : List Item) → joined (xs ++ items ∷ []) ≡ joined xs ++ items
joined-push [] items = append-nil items
joined-push (x ∷ xs) items = ap (λ (z : List Item). x ++ z) (joined-push xs items) ∙ sym (append_assoc x (joined xs) items)

got-last : {X : Type 0} (xs : List X) (v : X) (j : ℕ) (y : X) → slice_get (xs ++ (v ∷ [])) j ≡ Some y → (slice_get xs j ≡ Some y) ⊎ ((j ≡ length xs) × (v ≡ y))
got-last [] v zero y e = inr (refl, cc)
got-last [] v (suc j) y e = cc
got-last (x ∷ xs) v zero y e = inl e
got-last (x ∷ xs) v (suc j) y e = elim (got-last xs v j y e) [ inl before ↦ inl before | inr end ↦ inr (ap suc end.0, end.1) ]

-- ---- what was read, an event later

module _ (plan : Plan) (x p : ℕ) (s : StreamRef) (w next : World) (more : List Envelope) (grows : next.envelopes ≡ w.envelopes ++ more) (step : ReadStep plan x p s w next)
    (holds : (q : Port) → port_of w x p ≡ Some q → HoldsOf plan s q.inlet.held)
    (old : (k : ℕ) (e : Envelope) (asked : Subscribe) (q : Port) → slice_get w.envelopes k ≡ Some e → e.sender ≡ x → sends_stream s (role_of plan e.to) ≡ true → e.packet ≡ Plain (message.Subscribe asked) → port_of w x p ≡ Some q → is_newer asked.sess q.inlet.sess ≡ false)
    (first : (q : Port) → port_of w x p ≡ Some q → is_newer (sess_of 1 1) q.inlet.sess ≡ false)
    (h : (q : Port) → port_of w x p ≡ Some q → q.inlet.broken ≡ false → HasRead plan x s w.envelopes q) where
  -- the session stays, so nothing new is asked for it
  same-asks : (q r : Port) → port_of w x p ≡ Some q → r.inlet.sess ≡ q.inlet.sess → (g : HasRead plan x s w.envelopes q) → (k : ℕ) (e : Envelope) (asked : Subscribe) → slice_get next.envelopes k ≡ Some e → e.sender ≡ x → sends_stream s (role_of plan e.to) ≡ true → e.packet ≡ Plain (message.Subscribe asked) →
      same_sess asked.sess r.inlet.sess ≡ true → (asked.n ≡ length g.start.stable) × (asked.tentative ≡ not (is_sure g.start))
  same-asks q r was sess g k e asked there me to packet same =
      elim (step.asks k e asked there me to packet) [
        | inl before ↦ g.asks k e asked before me to packet (subst (λ (v : Sess). same_sess asked.sess v ≡ true) sess same)
        | inr new ↦ absurd (clash new.0 new.1 new.2)
      ]
    where
      clash : (z : Port) → port_of w x p ≡ Some z → asked ≡ asked_by (with_next_session z.inlet) → ⊥
      clash z its by =
          let one : z ≡ q = some-same z q (sym its ∙ was) in
          let next_one : asked.sess ≡ (with_next_session q.inlet).sess = ap (λ (y : Subscribe). y.sess) by ∙ ap (λ (y : Port). (with_next_session y.inlet).sess) one in
          not-next q.inlet.sess (subst (λ (v : Sess). same_sess v q.inlet.sess ≡ true) next_one (subst (λ (v : Sess). same_sess asked.sess v ≡ true) sess same))

  batch-now : (q r : Port) (j : ℕ) (items : List Item) → r.inlet.sess ≡ q.inlet.sess → r.chosen ≡ q.chosen → IsBatchOf (line_of plan x s q) w.envelopes j items → IsBatchOf (line_of plan x s r) next.envelopes j items
  batch-now q r j items sess chosen b =
      subst (λ (l : Channel). IsBatchOf l next.envelopes j items) (sym (line-same plan x s q r sess chosen))
      (subst (λ (es : List Envelope). IsBatchOf (line_of plan x s q) es j items) (sym grows) (batch-of-later (line_of plan x s q) w.envelopes more j items b))

  stays : (q r : Port) → port_of w x p ≡ Some q → r.inlet ≡ q.inlet → r.chosen ≡ q.chosen → HasRead plan x s w.envelopes q → HasRead plan x s next.envelopes r
  stays q r was inlet chosen g =
      let sess : r.inlet.sess ≡ q.inlet.sess = ap (λ (y : InletState). y.sess) inlet in
      record {
        start = g.start;
        batches = g.batches;
        many = g.many ∙ ap (λ (y : InletState). y.next) (sym inlet);
        each = λ j items e. batch-now q r j items sess chosen (g.each j items e);
        folded = g.folded;
        read = g.read;
        held = ap (λ (y : InletState). y.held) inlet ∙ g.held;
        holds = g.holds;
        asks = λ k e asked there me to packet same. same-asks q r was sess g k e asked there me to packet same;
        opening = λ same. g.opening (subst (λ (v : Sess). same_sess (sess_of 1 1) v ≡ true) sess same);
      }

  opens : (q r : Port) → port_of w x p ≡ Some q → r.inlet ≡ with_next_session q.inlet → HasRead plan x s next.envelopes r
  opens q r was inlet =
      let sess : r.inlet.sess ≡ (with_next_session q.inlet).sess = ap (λ (y : InletState). y.sess) inlet in
      record {
        start = q.inlet.held;
        batches = [];
        many = sym (ap (λ (y : InletState). y.next) inlet);
        each = λ j items e. cc;
        folded = record { after = q.inlet.held; taken = [] };
        read = refl;
        held = ap (λ (y : InletState). y.held) inlet;
        holds = holds q was;
        asks = λ k e asked there me to packet same. elim (step.asks k e asked there me to packet) [
          | inl before ↦ absurd (never-newer asked.sess q.inlet.sess (old k e asked q before me to packet was) (subst (λ (v : Sess). same_sess asked.sess v ≡ true) sess same))
          | inr new ↦ told asked new.0 new.1 new.2
        ];
        opening = λ same. absurd (never-newer (sess_of 1 1) q.inlet.sess (first q was) (subst (λ (v : Sess). same_sess (sess_of 1 1) v ≡ true) sess same));
      }
    where
      told : (asked : Subscribe) (z : Port) → port_of w x p ≡ Some z → asked ≡ asked_by (with_next_session z.inlet) → (asked.n ≡ length q.inlet.held.stable) × (asked.tentative ≡ not (is_sure q.inlet.held))
      told asked z its by =
          let one : z ≡ q = some-same z q (sym its ∙ was) in
          let all : asked ≡ asked_by (with_next_session q.inlet) = by ∙ ap (λ (y : Port). asked_by (with_next_session y.inlet)) one in
          (ap (λ (y : Subscribe). y.n) all, ap (λ (y : Subscribe). y.tentative) all)

  reads-on : (q r : Port) → port_of w x p ≡ Some q → (o : ReadOne plan x s w.envelopes q r) → HasRead plan x s w.envelopes q → HasRead plan x s next.envelopes r
  reads-on q r was o g =
      let k = o.reads in
      let from_held : fold_items g.folded.after o.items ≡ Some k.folded = subst (λ (y : Reader). fold_items y o.items ≡ Some k.folded) g.held k.read in
      let all : fold_items g.start (joined g.batches ++ o.items) ≡ Some (record { after = k.folded.after; taken = g.folded.taken ++ k.folded.taken }) = fold-append g.start (joined g.batches) o.items g.folded k.folded g.read from_held in
      let many = length-append g.batches (o.items ∷ []) in
      let before = g.many in
      let more_one = k.next in
      record {
        start = g.start;
        batches = g.batches ++ (o.items ∷ []);
        many = omega (arith, many, before, more_one);
        each = λ j items e. batch-now q r j items o.kept o.chosen (at-place j items (got-last g.batches o.items j items e));
        folded = record { after = k.folded.after; taken = g.folded.taken ++ k.folded.taken };
        read = ap (λ (items : List Item). fold_items g.start items) (joined-push g.batches o.items) ∙ all;
        held = k.held;
        holds = g.holds;
        asks = λ n e asked there me to packet same. same-asks q r was o.kept g n e asked there me to packet same;
        opening = λ same. g.opening (subst (λ (v : Sess). same_sess (sess_of 1 1) v ≡ true) o.kept same);
      }
    where
      newest : IsBatchOf (line_of plan x s q) w.envelopes q.inlet.next o.items
      newest =
          let mine : (o.envelope.sender == nth 0 (senders_of plan s) q.chosen) ≡ true = eq-test o.envelope.sender (nth 0 (senders_of plan s) q.chosen) (sym o.sender) in
          let to : (o.envelope.to == x) ≡ true = eq-test o.envelope.to x o.to in
          let named = o.reads.named in
          let index : index_in q.inlet.sess o.envelope.packet ≡ Some q.inlet.next = ap (λ (z : Packet). index_in q.inlet.sess z) o.packet ∙ rw named (ap {B = Option ℕ} Some o.reads.number) in
          record { place = o.place; envelope = o.envelope; there = o.there; index = rw (mine, to) index; carried = ap items_carried o.packet }

      at-place : (j : ℕ) (items : List Item) → (slice_get g.batches j ≡ Some items) ⊎ ((j ≡ length g.batches) × (o.items ≡ items)) → IsBatchOf (line_of plan x s q) w.envelopes j items
      at-place j items (inl before) = g.each j items before
      at-place j items (inr end) =
          subst (λ (z : List Item). IsBatchOf (line_of plan x s q) w.envelopes j z) end.1
          (subst (λ (z : ℕ). IsBatchOf (line_of plan x s q) w.envelopes z o.items) (sym (end.0 ∙ g.many)) newest)

  pub read-next : (r : Port) → port_of next x p ≡ Some r → r.inlet.broken ≡ false → HasRead plan x s next.envelopes r
  read-next r there whole =
      let k = step.ports r there whole in
      elim k.2 [
        | inl same ↦ stays k.0 r k.1 same.0 same.1 (h k.0 k.1 (sym (ap (λ (y : InletState). y.broken) same.0) ∙ whole))
        | inr (inl opened) ↦ opens k.0 r k.1 opened
        | inr (inr one) ↦ reads-on k.0 r k.1 one (h k.0 k.1 one.reads.whole)
      ]
