-- Which truncations the steps of a node send: only in answer to a subscription that is newer than the session kept, and that lies below the base.
use Rattle.std.proofs.Common.{◌≡◌, ℕ, ◌<◌, true, false, cond, not, ◌==◌, nat_lt, List, [], ◌∷◌, length, refl, sym, ap, ◌∙◌, Option, Some, None}
use Rattle.dpc_lists.specs.Lists.{nth}
use Rattle.dpc_model.specs.Ports.{Port}
use Rattle.dpc_model.specs.Sessions.{no_session, Answered, Acked, first_batch, is_newer_than_kept}
use Rattle.dpc_model.specs.declared.sessions.Sub.{Sub}
use Rattle.dpc_model.specs.declared.messages.Subscribe.{Subscribe}
use Rattle.dpc_model.specs.declared.messages.Message.{Message}
use Rattle.dpc_model.specs.declared.messages.Message.TheVariants as message
use Rattle.node_model.specs.Mails.{Packet, Plain, SnapFor, Mail, mail, Stepped}
use Rattle.node_model.specs.Nodes.{Home, PlainNode, streams_of, own_readers, shown}
use Rattle.node_model.specs.NodeSteps.{idle_step, reader_place, on_subscribe, with_marks_ended, packet_step, mill_step, tick_step}
use Rattle.dpc_lists.proofs.Places.{place-within, place-nth}
use Rattle.dpc_lists.proofs.Truths.{lt-of}
use Rattle.law_safety.proofs.Histories.{AreDistinct}
use Rattle.dpc_lists.proofs.Each.{Each, each-weaker}
use Rattle.law_granting.proofs.Each.{each-subscription}
use Rattle.law_readers.proofs.Passing.{is_told, Obliges, Takes, packet-passed, mill-passed, tick-passed}

-- a truncation is of a session that was asked for so
abbrev pub RefusesBy : (Subscribe → Type 0) → Packet → Type 0
RefusesBy A (Plain (message.Truncated u base)) = (asked : Subscribe) × A asked × (asked.sess ≡ u)
RefusesBy A (Plain (message.Batch u index items)) = Unit {0}
RefusesBy A (Plain (message.Subscribe asked)) = Unit {0}
RefusesBy A (Plain (message.Beat b)) = Unit {0}
RefusesBy A (Plain (message.Ack i n)) = Unit {0}
RefusesBy A (Plain (message.Ask i n)) = Unit {0}
RefusesBy A (Plain (message.Grant i n)) = Unit {0}
RefusesBy A (Plain (message.SnapAsk i n)) = Unit {0}
RefusesBy A (SnapFor i try s) = Unit {0}

-- the reader x, which has place k, asks for a newer session, with less than the base
pub record IsRefused (x k a : ℕ) (packet : Packet) (n : PlainNode) (asked : Subscribe) : Type 0 where
  pub packet_is : packet ≡ Plain (message.Subscribe asked)
  pub reader : a ≡ x
  pub newer : is_newer_than_kept asked.sess (nth no_session n.subs k).kept ≡ true
  pub below : asked.n < n.base

-- what the reader x is refused
abbrev pub RefusesTo : ℕ → (Subscribe → Type 0) → Mail → Type 0
RefusesTo x A m = m.to ≡ x → RefusesBy A m.packet

none-refused : (A : Subscribe → Type 0) (m : Message) → is_told m ≡ true → RefusesBy A (Plain m)
none-refused A (message.Beat b) e = tt
none-refused A (message.Ack i n) e = tt
none-refused A (message.Ask i n) e = tt
none-refused A (message.Grant i n) e = tt
none-refused A (message.SnapAsk i n) e = tt
none-refused A (message.Batch u index items) e = cc
none-refused A (message.Truncated u base) e = cc
none-refused A (message.Subscribe asked) e = cc

module _ (home : Home) (x : ℕ) (A : Subscribe → Type 0) where
  abbrev Any : List Port → List Sub → List Acked → ℕ → Type 0
  Any ports subs acks base = Unit {0}

  refusing-obliges : Obliges home Any (RefusesTo x A)
  refusing-obliges =
      record {
        told = λ to m e it. none-refused A m e;
        snapped = λ n to i try h it. tt;
        batched = λ n k sub l items h there tally it. tt;
        counted = λ n h. tt;
        shut = λ n h. tt;
        emptied = λ n h. tt;
        based = λ n count h. tt;
        moved = λ n rs keeps h. tt;
      }

  other-takes : (a : ℕ) (packet : Packet) → ((asked : Subscribe) → packet ≡ Plain (message.Subscribe asked) → ⊥) → Takes home Any (RefusesTo x A) a packet
  other-takes a packet none =
      record {
        subscribed = λ asked k n same reader h. absurd (none asked same);
        acked = λ i count k n same reader h. tt;
        took = λ u index p r items n same place chosen h. tt;
        adopted = λ i try s n same h. tt;
      }

  pub milled-refuses : (r : ℕ) (n : PlainNode) → Each (RefusesTo x A) (mill_step home r n).sends
  milled-refuses r n = (mill-passed home Any (RefusesTo x A) refusing-obliges r n tt).sends

  pub ticked-refuses : (now : ℕ) (n : PlainNode) → Each (RefusesTo x A) (tick_step home now n).sends
  ticked-refuses now n = (tick-passed home Any (RefusesTo x A) refusing-obliges now n (λ m k. tt) (λ m k. each-subscription (RefusesTo x A) home.plan m.ports (streams_of home) (λ to asked it. tt)) tt).sends

  other-refuses : (a : ℕ) (packet : Packet) (n : PlainNode) → ((asked : Subscribe) → packet ≡ Plain (message.Subscribe asked) → ⊥) → Each (RefusesTo x A) (packet_step home a packet n).sends
  other-refuses a packet n none = (packet-passed home Any (RefusesTo x A) refusing-obliges a packet (other-takes a packet none) n tt).sends

-- ---- a subscription

module _ (home : Home) (x k : ℕ) (distinct : AreDistinct (own_readers home)) (low : k < length (own_readers home)) (it : nth 0 (own_readers home) k ≡ x) where
  answered-refuses : (a j : ℕ) (asked : Subscribe) (n : PlainNode) → reader_place home a ≡ Some j → Each (RefusesTo x (IsRefused x k a (Plain (message.Subscribe asked)) n)) (on_subscribe home asked (Some j) n).sends
  answered-refuses a j asked n place =
      let sub = nth no_session n.subs j in
      let shows = shown home n in
      let to = nth 0 (own_readers home) j in
      (elim (is_newer_than_kept asked.sess sub.kept) as (λ b. is_newer_than_kept asked.sess sub.kept ≡ b → Each (RefusesTo x (IsRefused x k a (Plain (message.Subscribe asked)) n)) (elim (cond {A = Answered} (not b) (record { after = sub; answer = None }) (cond (nat_lt asked.n shows.base)
      (record { after = record { kept = Some asked.sess; is_open = false; batches = 0 }; answer = Some (message.Truncated asked.sess shows.base) })
      (record { after = record { kept = Some asked.sess; is_open = true; batches = 1 }; answer = Some (message.Batch asked.sess 0 (first_batch shows asked)) }))).answer as (λ _. List Mail) [ None ↦ [] | Some m ↦ mail to m ∷ [] ])) [
        | false ↦ λ e. tt
        | true ↦ λ e. (elim (nat_lt asked.n shows.base) as (λ b. nat_lt asked.n shows.base ≡ b → Each (RefusesTo x (IsRefused x k a (Plain (message.Subscribe asked)) n)) (elim (cond {A = Answered} b
            (record { after = record { kept = Some asked.sess; is_open = false; batches = 0 }; answer = Some (message.Truncated asked.sess shows.base) })
            (record { after = record { kept = Some asked.sess; is_open = true; batches = 1 }; answer = Some (message.Batch asked.sess 0 (first_batch shows asked)) })).answer as (λ _. List Mail) [ None ↦ [] | Some m ↦ mail to m ∷ [] ])) [
              | true ↦ λ f. (λ mine. (asked, refused e f mine, refl), tt)
              | false ↦ λ f. (λ mine. tt, tt)
            ]) refl
      ]) refl
    where
      refused : is_newer_than_kept asked.sess (nth no_session n.subs j).kept ≡ true → nat_lt asked.n n.base ≡ true → nth 0 (own_readers home) j ≡ x → IsRefused x k a (Plain (message.Subscribe asked)) n asked
      refused newer below mine =
          let same : j ≡ k = distinct j k (place-within (λ b. a == b) (own_readers home) j place) low (mine ∙ sym it) in
          record {
            packet_is = refl;
            reader = sym (place-nth a (own_readers home) j place) ∙ mine;
            newer = ap (λ (i : ℕ). is_newer_than_kept asked.sess (nth no_session n.subs i).kept) (sym same) ∙ newer;
            below = lt-of asked.n n.base below;
          }

  subscribed-refuses : (a : ℕ) (asked : Subscribe) (o : Option ℕ) (n : PlainNode) → reader_place home a ≡ o → Each (RefusesTo x (IsRefused x k a (Plain (message.Subscribe asked)) n)) (on_subscribe home asked o n).sends
  subscribed-refuses a asked None n place = tt
  subscribed-refuses a asked (Some j) n place = answered-refuses a j asked n place

  pub packet-refuses : (a : ℕ) (packet : Packet) (n : PlainNode) → Each (RefusesTo x (IsRefused x k a packet n)) (packet_step home a packet n).sends
  unfolding packet_step
  packet-refuses a (Plain (message.Subscribe asked)) n =
      let m = with_marks_ended n in
      elim n.recovering as (λ b. Each (RefusesTo x (IsRefused x k a (Plain (message.Subscribe asked)) n)) (cond {A = Stepped PlainNode} b (idle_step m) (on_subscribe home asked (reader_place home a) m)).sends) [
        | true ↦ tt
        | false ↦ each-weaker (RefusesTo x (IsRefused x k a (Plain (message.Subscribe asked)) m)) (RefusesTo x (IsRefused x k a (Plain (message.Subscribe asked)) n)) (on_subscribe home asked (reader_place home a) m).sends (λ z h mine. unmarked z.packet (h mine))
            (subscribed-refuses a asked (reader_place home a) m refl)
      ]
    where
      unmarked : (p : Packet) → RefusesBy (IsRefused x k a (Plain (message.Subscribe asked)) (with_marks_ended n)) p → RefusesBy (IsRefused x k a (Plain (message.Subscribe asked)) n) p
      unmarked (Plain (message.Truncated u base)) h = (h.0, record { packet_is = h.1.packet_is; reader = h.1.reader; newer = h.1.newer; below = h.1.below }, h.2)
      unmarked (Plain (message.Batch u index items)) h = tt
      unmarked (Plain (message.Subscribe asks)) h = tt
      unmarked (Plain (message.Beat b)) h = tt
      unmarked (Plain (message.Ack i c)) h = tt
      unmarked (Plain (message.Ask i c)) h = tt
      unmarked (Plain (message.Grant i c)) h = tt
      unmarked (Plain (message.SnapAsk i c)) h = tt
      unmarked (SnapFor i try s) h = tt
  packet-refuses a (Plain (message.Batch u index items)) n = other-refuses home x (IsRefused x k a (Plain (message.Batch u index items)) n) a (Plain (message.Batch u index items)) n (λ asked e. cc)
  packet-refuses a (Plain (message.Truncated u base)) n = other-refuses home x (IsRefused x k a (Plain (message.Truncated u base)) n) a (Plain (message.Truncated u base)) n (λ asked e. cc)
  packet-refuses a (Plain (message.Beat b)) n = other-refuses home x (IsRefused x k a (Plain (message.Beat b)) n) a (Plain (message.Beat b)) n (λ asked e. cc)
  packet-refuses a (Plain (message.Ack i c)) n = other-refuses home x (IsRefused x k a (Plain (message.Ack i c)) n) a (Plain (message.Ack i c)) n (λ asked e. cc)
  packet-refuses a (Plain (message.Ask i c)) n = other-refuses home x (IsRefused x k a (Plain (message.Ask i c)) n) a (Plain (message.Ask i c)) n (λ asked e. cc)
  packet-refuses a (Plain (message.Grant i c)) n = other-refuses home x (IsRefused x k a (Plain (message.Grant i c)) n) a (Plain (message.Grant i c)) n (λ asked e. cc)
  packet-refuses a (Plain (message.SnapAsk i c)) n = other-refuses home x (IsRefused x k a (Plain (message.SnapAsk i c)) n) a (Plain (message.SnapAsk i c)) n (λ asked e. cc)
  packet-refuses a (SnapFor i try s) n = other-refuses home x (IsRefused x k a (SnapFor i try s) n) a (SnapFor i try s) n (λ asked e. cc)
