-- A session that a sender refused stays shut there: no later step answers it.
use Rattle.std.proofs.Common.{◌≡◌, ℕ, zero, suc, ◌<◌, Bool, true, false, cond, not, ◌==◌, nat_lt, List, [], ◌∷◌, map, length, refl, sym, ap, subst, ◌∙◌, ◌+◌, arith, Option, Some, None, slice_get, unwrap_or, ◌⊎◌, inl, inr}
use Rattle.std.proofs.lemmas.List.{length-map}
use Rattle.std.proofs.lemmas.Option.{slice_get_within}
use Rattle.std.proofs.lemmas.Grind.{common_steps}
use Rattle.dpc_lists.specs.Lists.{nth, changed}
use Rattle.dpc_model.specs.Inlets.{same_sess, is_newer}
use Rattle.dpc_model.specs.Ports.{Port}
use Rattle.dpc_model.specs.Sessions.{no_session, Shown, Answered, answer_to, Acked, first_batch, is_newer_than_kept, tally_of, with_session_shut, with_batch}
use Rattle.dpc_model.specs.declared.sessions.Sub.{Sub}
use Rattle.dpc_model.specs.declared.messages.Sess.{Sess}
use Rattle.dpc_model.specs.declared.messages.Subscribe.{Subscribe}
use Rattle.dpc_model.specs.declared.messages.Message.{Message}
use Rattle.dpc_model.specs.declared.messages.Message.TheVariants as message
use Rattle.node_model.specs.Mails.{Packet, Plain, SnapFor, Mail, mail, Stepped}
use Rattle.node_model.specs.Nodes.{Home, PlainNode, streams_of, own_readers, shown}
use Rattle.node_model.specs.NodeSteps.{idle_step, reader_place, on_subscribe, with_marks_ended, packet_step, mill_step, tick_step}
use Rattle.dpc_lists.proofs.Elements.{length-changed, nth-here}
use Rattle.dpc_lists.proofs.Places.{place-within, place-nth}
use Rattle.dpc_lists.proofs.Somes.{some-same}
use Rattle.law_safety.proofs.Histories.{AreDistinct}
use Rattle.dpc_lists.proofs.Each.{Each}
use Rattle.law_granting.specs.Taken.{index_in}
use Rattle.law_granting.proofs.Each.{each-subscription}
use Rattle.law_granting.proofs.Asked.{same-or}
use Rattle.law_granting.proofs.Keys.{nth-changed}
use Rattle.law_readers.proofs.Passing.{Passed, is_told, Obliges, Takes, packet-passed, mill-passed, tick-passed}

-- ---- one session

-- the session is not open
abbrev pub IsClosed : Sess → Sub → Type 0
IsClosed u sub = (v : Sess) → sub.kept ≡ Some v → same_sess v u ≡ true → sub.is_open ≡ false

tally-is : (sub : Sub) (l : Sess × ℕ) → tally_of sub ≡ Some l → (sub.kept ≡ Some l.0) × (sub.is_open ≡ true)
tally-is sub l e =
    (elim sub.kept as (λ o. sub.kept ≡ o → (elim o as (λ _. Option (Sess × ℕ)) [ None ↦ None | Some s ↦ cond sub.is_open (Some (s, sub.batches)) None ]) ≡ Some l → (sub.kept ≡ Some l.0) × (sub.is_open ≡ true)) [
      | None ↦ λ k f. cc
      | Some s ↦ λ k f. (elim sub.is_open as (λ b. sub.is_open ≡ b → (cond {A = Option (Sess × ℕ)} b (Some (s, sub.batches)) None) ≡ Some l → (sub.kept ≡ Some l.0) × (sub.is_open ≡ true)) [
        | false ↦ λ g h. cc
        | true ↦ λ g h. (let one : ◌≡◌ {A = Sess × ℕ} (s, sub.batches) l = cc in (k ∙ ap {B = Option Sess} (λ (z : Sess × ℕ). Some z.0) one, g))
      ]) refl f
    ]) refl e

batch-keeps : (sub : Sub) → ((with_batch sub).kept ≡ sub.kept) × ((with_batch sub).is_open ≡ sub.is_open)
batch-keeps sub = elim sub.is_open as (λ b. ((cond {A = Sub} b (record sub { batches = sub.batches + 1 }) sub).kept ≡ sub.kept) × ((cond {A = Sub} b (record sub { batches = sub.batches + 1 }) sub).is_open ≡ sub.is_open)) [ true ↦ (refl, refl) | false ↦ (refl, refl) ]

nth-batch : (subs : List Sub) (k : ℕ) → nth no_session (map with_batch subs) k ≡ with_batch (nth no_session subs k)
nth-batch [] k = refl
nth-batch (s ∷ subs) zero = refl
nth-batch (s ∷ subs) (suc k) = nth-batch subs k

nth-shut : (subs : List Sub) (k : ℕ) → nth no_session (map with_session_shut subs) k ≡ with_session_shut (nth no_session subs k)
nth-shut [] k = refl
nth-shut (s ∷ subs) zero = refl
nth-shut (s ∷ subs) (suc k) = nth-shut subs k

sub-there : (subs : List Sub) (j : ℕ) (sub : Sub) → slice_get subs j ≡ Some sub → nth no_session subs j ≡ sub
sub-there subs j sub e = ap (λ (o : Option Sub). unwrap_or o no_session) e

-- one session is newer than what is kept, another is not
pub newer-apart : (s u : Sess) (o : Option Sess) → is_newer_than_kept s o ≡ true → is_newer_than_kept u o ≡ false → (is_newer u s ≡ false) × (same_sess s u ≡ false)
newer-apart s u None e f = cc
newer-apart s u (Some v) e f = (behind s u v e f, apart s u v e f)
  where
    behind : (s u v : Sess) → is_newer s v ≡ true → is_newer u v ≡ false → is_newer u s ≡ false
    behind s u v e f = grind (arith, common_steps)

    apart : (s u v : Sess) → is_newer s v ≡ true → is_newer u v ≡ false → same_sess s u ≡ false
    apart s u v e f = grind (arith, common_steps)

-- ---- an answer

-- what a subscription of the reader at a place leaves, and sends
abbrev pub answered_so : Home → ℕ → PlainNode → Answered → Stepped PlainNode
answered_so home j n y = record { after = record n { subs = changed j (λ _. y.after) n.subs }; sends = elim y.answer [ None ↦ [] | Some m ↦ mail (nth 0 (own_readers home) j) m ∷ [] ] }

by-answered : (x : Shown) (sub : Sub) (asked : Subscribe) (P : Answered → Type 0) → (is_newer_than_kept asked.sess sub.kept ≡ false → P (record { after = sub; answer = None })) →
    (is_newer_than_kept asked.sess sub.kept ≡ true → nat_lt asked.n x.base ≡ true → P (record { after = record { kept = Some asked.sess; is_open = false; batches = 0 }; answer = Some (message.Truncated asked.sess x.base) })) →
    (is_newer_than_kept asked.sess sub.kept ≡ true → nat_lt asked.n x.base ≡ false → P (record { after = record { kept = Some asked.sess; is_open = true; batches = 1 }; answer = Some (message.Batch asked.sess 0 (first_batch x asked)) })) → P (answer_to x sub asked)
by-answered x sub asked P none gone first =
    (elim (is_newer_than_kept asked.sess sub.kept) as (λ b. is_newer_than_kept asked.sess sub.kept ≡ b → P (cond {A = Answered} (not b) (record { after = sub; answer = None }) (cond (nat_lt asked.n x.base)
    (record { after = record { kept = Some asked.sess; is_open = false; batches = 0 }; answer = Some (message.Truncated asked.sess x.base) }) (record { after = record { kept = Some asked.sess; is_open = true; batches = 1 }; answer = Some (message.Batch asked.sess 0 (first_batch x asked)) })))) [
      | false ↦ λ e. none e
      | true ↦ λ e. (elim (nat_lt asked.n x.base) as (λ c. nat_lt asked.n x.base ≡ c → P (cond {A = Answered} c
          (record { after = record { kept = Some asked.sess; is_open = false; batches = 0 }; answer = Some (message.Truncated asked.sess x.base) }) (record { after = record { kept = Some asked.sess; is_open = true; batches = 1 }; answer = Some (message.Batch asked.sess 0 (first_batch x asked)) }))) [
            | true ↦ λ f. gone e f
            | false ↦ λ f. first e f
          ]) refl
    ]) refl

-- ---- a sender

-- the reader x has place k there; G says more of what is kept, and stays so where what is allowed is asked for
module _ (home : Home) (x k : ℕ) (u : Sess) (distinct : AreDistinct (own_readers home)) (low : k < length (own_readers home)) (it : nth 0 (own_readers home) k ≡ x) (G : Option Sess → Type 0) (allowed : Sess → Type 0)
    (grows : (s : Sess) (o : Option Sess) → is_newer_than_kept s o ≡ true → allowed s → G o → G (Some s) × (same_sess s u ≡ false)) where
  pub record IsShut (subs : List Sub) : Type 0 where
    pub many : length subs ≡ length (own_readers home)
    pub kept : G (nth no_session subs k).kept
    pub closed : IsClosed u (nth no_session subs k)

  abbrev pub Shut : List Port → List Sub → List Acked → ℕ → Type 0
  Shut ports subs acks base = IsShut subs

  -- no batch of the session goes to the reader
  abbrev pub NoBatch : Mail → Type 0
  NoBatch m = m.to ≡ x → index_in u m.packet ≡ None

  shut-same : (old new : List Sub) → length new ≡ length old → (nth no_session new k).kept ≡ (nth no_session old k).kept → ((nth no_session new k).is_open ≡ (nth no_session old k).is_open) ⊎ ((nth no_session new k).is_open ≡ false) → IsShut old → IsShut new
  shut-same old new many kept opens h =
      record {
        many = many ∙ h.many;
        kept = subst G (sym kept) h.kept;
        closed = λ v e same. elim opens [ inl still ↦ still ∙ h.closed v (sym kept ∙ e) same | inr none ↦ none ];
      }

  told-none : (m : Message) → is_told m ≡ true → index_in u (Plain m) ≡ None
  told-none (message.Beat b) e = refl
  told-none (message.Ack i n) e = refl
  told-none (message.Ask i n) e = refl
  told-none (message.Grant i n) e = refl
  told-none (message.SnapAsk i n) e = refl
  told-none (message.Batch s index items) e = cc
  told-none (message.Truncated s base) e = cc
  told-none (message.Subscribe asked) e = cc

  other-none : (s : Sess) (index : ℕ) → same_sess s u ≡ false → (cond {A = Option ℕ} (same_sess s u) (Some index) None) ≡ None
  other-none s index e = ap (λ (b : Bool). cond {A = Option ℕ} b (Some index) None) e

  batched-none : (n : PlainNode) (j : ℕ) (sub : Sub) (l : Sess × ℕ) → IsShut n.subs → slice_get n.subs j ≡ Some sub → tally_of sub ≡ Some l → nth 0 (own_readers home) j ≡ x → same_sess l.0 u ≡ false
  batched-none n j sub l h there tally mine =
      let inside = slice_get_within n.subs j sub there in
      let many = h.many in
      let same : j ≡ k = distinct j k (omega (arith, inside, many)) low (mine ∙ sym it) in
      let here : nth no_session n.subs k ≡ sub = ap (λ (i : ℕ). nth no_session n.subs i) (sym same) ∙ sub-there n.subs j sub there in
      let t = tally-is sub l tally in
      by-value (same_sess l.0 u) refl (λ e. sym (ap (λ (z : Sub). z.is_open) here ∙ t.1) ∙ h.closed l.0 (ap (λ (z : Sub). z.kept) here ∙ t.0) e)
    where
      by-value : (b : Bool) → same_sess l.0 u ≡ b → (same_sess l.0 u ≡ true → true ≡ false) → same_sess l.0 u ≡ false
      by-value false e h = e
      by-value true e h = let clash : true ≡ false = h e in cc

  shut-obliges : Obliges home Shut NoBatch
  shut-obliges =
      record {
        told = λ to m e mine. told-none m e;
        snapped = λ n to i try h mine. refl;
        batched = λ n j sub l items h there tally mine. other-none l.0 l.1 (batched-none n j sub l h there tally mine);
        counted = λ n h.
            let b = batch-keeps (nth no_session n.subs k) in
            shut-same n.subs (map with_batch n.subs) (length-map n.subs with_batch) (ap (λ (z : Sub). z.kept) (nth-batch n.subs k) ∙ b.0) (inl (ap (λ (z : Sub). z.is_open) (nth-batch n.subs k) ∙ b.1)) h;
        shut = λ n h. shut-same n.subs (map with_session_shut n.subs) (length-map n.subs with_session_shut) (ap (λ (z : Sub). z.kept) (nth-shut n.subs k)) (inr (ap (λ (z : Sub). z.is_open) (nth-shut n.subs k))) h;
        emptied = λ n h. h;
        based = λ n count h. h;
        moved = λ n rs keeps h. h;
      }

  other-takes : (a : ℕ) (packet : Packet) → ((asked : Subscribe) → packet ≡ Plain (message.Subscribe asked) → ⊥) → Takes home Shut NoBatch a packet
  other-takes a packet none =
      record {
        subscribed = λ asked j n same reader h. absurd (none asked same);
        acked = λ i count j n same reader h. h;
        took = λ s index p r items n same place chosen h. h;
        adopted = λ i try s n same h. h;
      }

  other-shut : (a : ℕ) (packet : Packet) (n : PlainNode) → ((asked : Subscribe) → packet ≡ Plain (message.Subscribe asked) → ⊥) → IsShut n.subs → Passed Shut NoBatch (packet_step home a packet n)
  other-shut a packet n none h = packet-passed home Shut NoBatch shut-obliges a packet (other-takes a packet none) n h

  -- ---- a subscription

  left-shut : (n : PlainNode) (j : ℕ) (new : Sub) → (j ≡ k → ⊥) → IsShut n.subs → IsShut (changed j (λ _. new) n.subs)
  left-shut n j new other h =
      elim (nth-changed no_session j (λ _. new) n.subs k) [
        | inl still ↦ shut-same n.subs (changed j (λ _. new) n.subs) (length-changed j (λ _. new) n.subs) (ap (λ (z : Sub). z.kept) still) (inl (ap (λ (z : Sub). z.is_open) still)) h
        | inr here ↦ absurd (other (sym here.0))
      ]

  not-mine : (a j : ℕ) → reader_place home a ≡ Some j → (j ≡ k → ⊥) → nth 0 (own_readers home) j ≡ x → ⊥
  not-mine a j place other mine = other (distinct j k (place-within (λ b. a == b) (own_readers home) j place) low (mine ∙ sym it))

  -- another reader's
  apart-answered : (a j : ℕ) (asked : Subscribe) (n : PlainNode) → reader_place home a ≡ Some j → (j ≡ k → ⊥) → IsShut n.subs → Passed Shut NoBatch (on_subscribe home asked (Some j) n)
  apart-answered a j asked n place other h =
      by-answered (shown home n) (nth no_session n.subs j) asked (λ y. Passed Shut NoBatch (answered_so home j n y)) (λ e. record { after = left-shut n j (nth no_session n.subs j) other h; sends = tt })
      (λ e f. record { after = left-shut n j _ other h; sends = (λ mine. refl, tt) }) (λ e f. record { after = left-shut n j _ other h; sends = (λ mine. absurd (not-mine a j place other mine), tt) })

  now-is : (n : PlainNode) (new : Sub) → length n.subs ≡ length (own_readers home) → nth no_session (changed k (λ _. new) n.subs) k ≡ new
  now-is n new many = nth-here no_session k (λ _. new) n.subs (omega (arith, many, low))

  new-shut : (n : PlainNode) (new : Sub) → length n.subs ≡ length (own_readers home) → G new.kept → IsClosed u new → IsShut (changed k (λ _. new) n.subs)
  new-shut n new many kept closed =
      let is = now-is n new many in
      record { many = length-changed k (λ _. new) n.subs ∙ many; kept = subst (λ (z : Sub). G z.kept) (sym is) kept; closed = subst (λ (z : Sub). IsClosed u z) (sym is) closed }

  -- the reader's own
  own-answered : (asked : Subscribe) (n : PlainNode) → allowed asked.sess → IsShut n.subs → Passed Shut NoBatch (on_subscribe home asked (Some k) n)
  own-answered asked n may h =
      by-answered (shown home n) (nth no_session n.subs k) asked (λ y. Passed Shut NoBatch (answered_so home k n y)) (λ e. record { after = new-shut n (nth no_session n.subs k) h.many h.kept h.closed; sends = tt })
      (λ e f. record { after = new-shut n _ h.many (grows asked.sess (nth no_session n.subs k).kept e may h.kept).0 (λ v g same. refl); sends = (λ mine. refl, tt) })
      (λ e f. let other = (grows asked.sess (nth no_session n.subs k).kept e may h.kept).1 in record { after = new-shut n _ h.many (grows asked.sess (nth no_session n.subs k).kept e may h.kept).0 (λ v g same. never other v g same); sends = (λ mine. other-none asked.sess 0 other, tt) })
    where
      never : same_sess asked.sess u ≡ false → (v : Sess) → ◌≡◌ {A = Option Sess} (Some asked.sess) (Some v) → same_sess v u ≡ true → true ≡ false
      never other v g same = let is : asked.sess ≡ v = some-same asked.sess v g in sym same ∙ ap (λ (z : Sess). same_sess z u) (sym is) ∙ other

  subscribed-shut : (a : ℕ) (asked : Subscribe) (o : Option ℕ) (n : PlainNode) → reader_place home a ≡ o → (a ≡ x → allowed asked.sess) → IsShut n.subs → Passed Shut NoBatch (on_subscribe home asked o n)
  subscribed-shut a asked None n place may h = record { after = h; sends = tt }
  subscribed-shut a asked (Some j) n place may h =
      elim (same-or j k) [
        | inr other ↦ apart-answered a j asked n place other h
        | inl same ↦ subst (λ (i : ℕ). Passed Shut NoBatch (on_subscribe home asked (Some i) n)) (sym same) (own-answered asked n (may (sym (place-nth a (own_readers home) j place) ∙ ap (λ (i : ℕ). nth 0 (own_readers home) i) same ∙ it)) h)
      ]

  pub packet-shut : (a : ℕ) (packet : Packet) (n : PlainNode) → ((asked : Subscribe) → packet ≡ Plain (message.Subscribe asked) → a ≡ x → allowed asked.sess) → IsShut n.subs → Passed Shut NoBatch (packet_step home a packet n)
  unfolding packet_step
  packet-shut a (Plain (message.Subscribe asked)) n may h =
      let m = with_marks_ended n in
      elim n.recovering as (λ b. Passed Shut NoBatch (cond {A = Stepped PlainNode} b (idle_step m) (on_subscribe home asked (reader_place home a) m))) [
        | true ↦ record { after = h; sends = tt }
        | false ↦ subscribed-shut a asked (reader_place home a) m refl (λ mine. may asked refl mine) h
      ]
  packet-shut a (Plain (message.Batch s index items)) n may h = other-shut a (Plain (message.Batch s index items)) n (λ asked e. cc) h
  packet-shut a (Plain (message.Truncated s base)) n may h = other-shut a (Plain (message.Truncated s base)) n (λ asked e. cc) h
  packet-shut a (Plain (message.Beat b)) n may h = other-shut a (Plain (message.Beat b)) n (λ asked e. cc) h
  packet-shut a (Plain (message.Ack i c)) n may h = other-shut a (Plain (message.Ack i c)) n (λ asked e. cc) h
  packet-shut a (Plain (message.Ask i c)) n may h = other-shut a (Plain (message.Ask i c)) n (λ asked e. cc) h
  packet-shut a (Plain (message.Grant i c)) n may h = other-shut a (Plain (message.Grant i c)) n (λ asked e. cc) h
  packet-shut a (Plain (message.SnapAsk i c)) n may h = other-shut a (Plain (message.SnapAsk i c)) n (λ asked e. cc) h
  packet-shut a (SnapFor i try s) n may h = other-shut a (SnapFor i try s) n (λ asked e. cc) h

  pub milled-shut : (r : ℕ) (n : PlainNode) → IsShut n.subs → Passed Shut NoBatch (mill_step home r n)
  milled-shut r n h = mill-passed home Shut NoBatch shut-obliges r n h

  pub ticked-shut : (now : ℕ) (n : PlainNode) → IsShut n.subs → Passed Shut NoBatch (tick_step home now n)
  ticked-shut now n h = tick-passed home Shut NoBatch shut-obliges now n (λ m j. j) (λ m j. each-subscription NoBatch home.plan m.ports (streams_of home) (λ to asked mine. refl)) h

  -- ---- a refusal

  -- no truncation of the session goes to the reader
  abbrev pub NoTruncation : Mail → Type 0
  NoTruncation m = m.to ≡ x → (s : Sess) (base : ℕ) → m.packet ≡ Plain (message.Truncated s base) → same_sess s u ≡ true → ⊥

  -- the reader's session is refused, and shut
  pub record IsRefusal (a : ℕ) (asked : Subscribe) (n : PlainNode) (t : Stepped PlainNode) : Type 0 where
    pub passed : Passed Shut NoBatch t
    pub reader : a ≡ x
    pub session : same_sess asked.sess u ≡ true
    pub newer : is_newer_than_kept asked.sess (nth no_session n.subs k).kept ≡ true

  other-session : (asked s : Sess) (low_base base : ℕ) → same_sess asked u ≡ false → Plain (message.Truncated asked low_base) ≡ Plain (message.Truncated s base) → same_sess s u ≡ true → ⊥
  other-session asked s low_base base other is same_u =
      let one : asked ≡ s = cc in
      let clash : true ≡ false = sym same_u ∙ ap (λ (z : Sess). same_sess z u) (sym one) ∙ other in cc

  own-refusing : (a : ℕ) (asked : Subscribe) (n : PlainNode) → a ≡ x → length n.subs ≡ length (own_readers home) → ((s : Sess) → same_sess s u ≡ true → G (Some s)) → Each NoTruncation (on_subscribe home asked (Some k) n).sends ⊎ IsRefusal a asked n (on_subscribe home asked (Some k) n)
  own-refusing a asked n mine many begins =
      by-answered (shown home n) (nth no_session n.subs k) asked (λ y. Each NoTruncation (answered_so home k n y).sends ⊎ IsRefusal a asked n (answered_so home k n y)) (λ e. inl tt)
      (λ e f. (elim (same_sess asked.sess u) as (λ c. same_sess asked.sess u ≡ c → Each NoTruncation (answered_so home k n (record { after = record { kept = Some asked.sess; is_open = false; batches = 0 }; answer = Some (message.Truncated asked.sess (shown home n).base) })).sends
      ⊎ IsRefusal a asked n (answered_so home k n (record { after = record { kept = Some asked.sess; is_open = false; batches = 0 }; answer = Some (message.Truncated asked.sess (shown home n).base) }))) [
        | true ↦ λ g. inr (record { passed = record { after = new-shut n _ many (begins asked.sess g) (λ v w same. refl); sends = (λ to. refl, tt) }; reader = mine; session = g; newer = e })
        | false ↦ λ g. inl (λ to s base is same_u. other-session asked.sess s (shown home n).base base g is same_u, tt)
      ]) refl)
      (λ e f. inl (λ to s base is. cc, tt))

  refusing-so : (a : ℕ) (asked : Subscribe) (o : Option ℕ) (n : PlainNode) → reader_place home a ≡ o → length n.subs ≡ length (own_readers home) → ((s : Sess) → same_sess s u ≡ true → G (Some s)) → Each NoTruncation (on_subscribe home asked o n).sends ⊎ IsRefusal a asked n (on_subscribe home asked o n)
  refusing-so a asked None n place many begins = inl tt
  refusing-so a asked (Some j) n place many begins =
      elim (same-or j k) [
        | inr other ↦ inl (by-answered (shown home n) (nth no_session n.subs j) asked (λ y. Each NoTruncation (answered_so home j n y).sends) (λ e. tt) (λ e f. (λ mine. absurd (not-mine a j place other mine), tt)) (λ e f. (λ mine s base is. cc, tt)))
        | inl same ↦ subst (λ (i : ℕ). Each NoTruncation (on_subscribe home asked (Some i) n).sends ⊎ IsRefusal a asked n (on_subscribe home asked (Some i) n)) (sym same)
            (own-refusing a asked n (sym (place-nth a (own_readers home) j place) ∙ ap (λ (i : ℕ). nth 0 (own_readers home) i) same ∙ it) many begins)
      ]

  pub packet-refuses : (a : ℕ) (asked : Subscribe) (n : PlainNode) → length n.subs ≡ length (own_readers home) → ((s : Sess) → same_sess s u ≡ true → G (Some s)) →
      Each NoTruncation (packet_step home a (Plain (message.Subscribe asked)) n).sends ⊎ IsRefusal a asked n (packet_step home a (Plain (message.Subscribe asked)) n)
  unfolding packet_step
  packet-refuses a asked n many begins =
      let m = with_marks_ended n in
      elim n.recovering as (λ b. Each NoTruncation (cond {A = Stepped PlainNode} b (idle_step m) (on_subscribe home asked (reader_place home a) m)).sends ⊎ IsRefusal a asked n (cond {A = Stepped PlainNode} b (idle_step m) (on_subscribe home asked (reader_place home a) m))) [
        | true ↦ inl tt
        | false ↦ elim (refusing-so a asked (reader_place home a) m refl many begins) [
          | inl none ↦ inl none
          | inr k ↦ inr (record { passed = k.passed; reader = k.reader; session = k.session; newer = k.newer })
        ]
      ]
