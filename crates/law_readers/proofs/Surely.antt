-- A source sends nothing that may be corrected.
use Rattle.std.proofs.Common.{◌≡◌, ℕ, ◌+◌, ◌==◌, Bool, true, false, cond, not, max, nat_lt, List, [], ◌∷◌, ◌++◌, map, take, drop, refl, sym, ap, subst, ◌∙◌, arith, Option, Some, None, slice_get, ◌⊎◌, inl, inr}
use Rattle.std.proofs.lemmas.Grind.{common_steps}
use Rattle.dpc_lists.specs.Lists.{nth, list_all, place_of}
use Rattle.dpc_model.specs.Fragments.{log_of}
use Rattle.dpc_model.specs.Actors.{role_of}
use Rattle.dpc_model.specs.declared.actors.Role.TheVariants.{Source as IsSource, Node as IsNode, Client as IsClient}
use Rattle.dpc_model.specs.Sessions.{no_session, answer_to, first_batch, given_items, stable_items, boundary_item, is_newer_than_kept, Answered, tally_of}
use Rattle.dpc_model.specs.declared.sessions.Sub.{Sub}
use Rattle.dpc_model.specs.declared.tuples.Tuple.{Tuple}
use Rattle.dpc_model.specs.declared.tuples.Item.{Item}
use Rattle.dpc_model.specs.declared.messages.Event.{Event}
use Rattle.dpc_model.specs.declared.messages.Subscribe.{Subscribe}
use Rattle.dpc_model.specs.declared.messages.Message.{Message}
use Rattle.dpc_model.specs.declared.messages.Message.TheVariants as message
use Rattle.dpc_model.specs.declared.plans.Plan.{Plan}
use Rattle.dpc_lists.proofs.Elements.{get-first}
use Rattle.node_model.specs.Mails.{Packet, Plain, SnapFor, Mail, mail}
use Rattle.node_model.specs.Sources.{SourceState, source_readers, bound_at, source_shown, emitted_upto, source_given, source_gives, source_emits, source_releases, source_subscribed, source_message, source_packet_step, source_beat, source_tick_step}
use Rattle.node_model.specs.NodeSteps.{packet_step, mill_step, tick_step}
use Rattle.node_model.specs.Clients.{client_tick_step}
use Rattle.world_model.specs.Worlds.{World, Envelope, home_of, source_at, client_at, from, run, new_world}
use Rattle.law_safety.proofs.EventCases.{AreCases, by-event}
use Rattle.dpc_lists.proofs.Truths.{all-append}
use Rattle.dpc_lists.proofs.Places.{place-nth}
use Rattle.dpc_lists.proofs.Each.{Each, each-weaker}
use Rattle.law_safety.proofs.Growing.{run-plan}
use Rattle.law_granting.proofs.Each.{each-batches, each-zipped}
use Rattle.law_granting.proofs.Slots.{got-sent}
use Rattle.law_readers.specs.Sure.{is_sure_item, SendsSurely, SourcesSendSurely, SourcesAreSure}
use Rattle.law_readers.proofs.Running.{every-run}

-- ---- items

stable-sure : (k : ℕ) (ts : List Tuple) → list_all is_sure_item (stable_items k ts) ≡ true
stable-sure k [] = refl
stable-sure k (t ∷ ts) = stable-sure (k + 1) ts

boundary-sure : (o : Option (ℕ × ℕ)) → list_all is_sure_item (boundary_item o) ≡ true
boundary-sure None = refl
boundary-sure (Some b) = refl

plain-sure : (k : ℕ) (ts : List Tuple) (o : Option (ℕ × ℕ)) → list_all is_sure_item (stable_items k ts ++ boundary_item o) ≡ true
plain-sure k ts o = all-append is_sure_item (stable_items k ts) (boundary_item o) (stable-sure k ts) (boundary-sure o)

-- nothing stands behind them
padded-sure : (k : ℕ) (ts : List Tuple) (o : Option (ℕ × ℕ)) → list_all is_sure_item (stable_items k ts ++ boundary_item o ++ [] ++ [] ++ []) ≡ true
padded-sure k ts o =
    let items = stable_items k ts ++ boundary_item o in
    all-append is_sure_item (items ++ [] ++ []) [] (all-append is_sure_item (items ++ []) [] (all-append is_sure_item items [] (plain-sure k ts o) refl) refl) refl

padded-sure-2 : (k : ℕ) (ts : List Tuple) (o : Option (ℕ × ℕ)) → list_all is_sure_item (stable_items k ts ++ boundary_item o ++ [] ++ []) ≡ true
padded-sure-2 k ts o =
    let items = stable_items k ts ++ boundary_item o in all-append is_sure_item (items ++ []) [] (all-append is_sure_item items [] (plain-sure k ts o) refl) refl

given-sure : (plan : Plan) (s t : ℕ) (bound : Option (ℕ × ℕ)) (x : SourceState) → list_all is_sure_item (given_items x.emitted (source_given plan s t bound x)) ≡ true
given-sure plan s t bound x = padded-sure x.emitted (drop x.emitted (take (emitted_upto plan s t x) (log_of plan s))) bound

-- ---- the mails of a source

abbrev SurelyMail : List Envelope → ℕ → Mail → Type 0
SurelyMail es a m = SendsSurely es a m.to m.packet

gives-surely : (plan : Plan) (es : List Envelope) (a s t : ℕ) (bound : Option (ℕ × ℕ)) (x : SourceState) → Each (SurelyMail es a) (source_gives plan s t bound x).sends
gives-surely plan es a s t bound x =
    each-batches (SurelyMail es a) (source_readers plan s) (given_items x.emitted (source_given plan s t bound x)) x.subs (λ to u index. inl (given-sure plan s t bound x))

emits-surely : (plan : Plan) (es : List Envelope) (a s t : ℕ) (x : SourceState) → Each (SurelyMail es a) (source_emits plan s t x).sends
unfolding source_emits
emits-surely plan es a s t x = gives-surely plan es a s t None x

releases-surely : (plan : Plan) (es : List Envelope) (a s t : ℕ) (x : SourceState) → Each (SurelyMail es a) (source_releases plan s t x).sends
unfolding source_releases
releases-surely plan es a s t x = gives-surely plan es a s t (cond (nat_lt x.bound t) (bound_at plan s t) None) (record x { bound = max x.bound t })

ticks-surely : (plan : Plan) (es : List Envelope) (a s now : ℕ) (x : SourceState) → Each (SurelyMail es a) (source_tick_step plan s now x).sends
unfolding source_tick_step
ticks-surely plan es a s now x = each-zipped (SurelyMail es a) (λ sub. source_beat (tally_of sub)) (source_readers plan s) x.subs (λ to sub. tt)

-- an envelope that comes to a source
module _ (plan : Plan) (es : List Envelope) (k s : ℕ) (e : Envelope) (there : slice_get es k ≡ Some e) where
  first-surely : (asked : Subscribe) (x : SourceState) → e.packet ≡ Plain (message.Subscribe asked) → (to : ℕ) → to ≡ e.sender → SendsSurely es e.to to (Plain (message.Batch asked.sess 0 (first_batch (source_shown plan s x) asked)))
  first-surely asked x packet to same = by-asked asked.tentative refl
    where
      ts : List Tuple
      ts = drop asked.n (take x.emitted (log_of plan s))

      by-asked : (b : Bool) → asked.tentative ≡ b → SendsSurely es e.to to (Plain (message.Batch asked.sess 0 (first_batch (source_shown plan s x) asked)))
      by-asked false f =
          let items : first_batch (source_shown plan s x) asked ≡ stable_items asked.n ts ++ boundary_item (bound_at plan s x.bound) ++ [] ++ [] ++ [] = rw f refl in
          inl (ap (λ (xs : List Item). list_all is_sure_item xs) items ∙ padded-sure asked.n ts (bound_at plan s x.bound))
      by-asked true f =
          inr (
            refl,
            record {
              place = k;
              envelope = e;
              asked = asked;
              sure = stable_items asked.n ts ++ boundary_item (bound_at plan s x.bound) ++ [] ++ [];
              there = there;
              of_reader = sym same;
              at_sender = refl;
              asks = packet;
              session = refl;
              tentative = f;
              are_sure = padded-sure-2 asked.n ts (bound_at plan s x.bound);
              all = rw f refl;
            },
          )

  answer-surely : (asked : Subscribe) (x : SourceState) (sub : Sub) → e.packet ≡ Plain (message.Subscribe asked) → (to : ℕ) → to ≡ e.sender →
      Each (SurelyMail es e.to) (elim (answer_to (source_shown plan s x) sub asked).answer [ None ↦ [] | Some m ↦ mail to m ∷ [] ])
  answer-surely asked x sub packet to same =
      elim (is_newer_than_kept asked.sess sub.kept) as (λ b. Each (SurelyMail es e.to) (elim (cond {A = Answered} (not b) (record { after = sub; answer = None })
      (cond (nat_lt asked.n 0) (record { after = record { kept = Some asked.sess; is_open = false; batches = 0 }; answer = Some (message.Truncated asked.sess 0) })
      (record { after = record { kept = Some asked.sess; is_open = true; batches = 1 }; answer = Some (message.Batch asked.sess 0 (first_batch (source_shown plan s x) asked)) }))).answer as (λ _. List Mail) [ None ↦ [] | Some m ↦ mail to m ∷ [] ])) [
        | false ↦ tt
        | true ↦
            let none : nat_lt asked.n 0 ≡ false = grind (arith, common_steps) in
            rw none (first-surely asked x packet to same, tt)
      ]

  message-surely : (x : SourceState) (m : Message) → e.packet ≡ Plain m → Each (SurelyMail es e.to) (source_message plan s e.sender m x).sends
  message-surely x (message.Subscribe asked) packet =
      (elim (place_of (λ b. e.sender == b) (source_readers plan s)) as (λ o. place_of (λ b. e.sender == b) (source_readers plan s) ≡ o → Each (SurelyMail es e.to) (source_subscribed plan s asked o x).sends) [
        | None ↦ λ f. tt
        | Some j ↦ λ f. answer-surely asked x (nth no_session x.subs j) packet (nth 0 (source_readers plan s) j) (place-nth e.sender (source_readers plan s) j f)
      ]) refl
  message-surely x (message.Batch u index items) packet = tt
  message-surely x (message.Truncated u base) packet = tt
  message-surely x (message.Beat b) packet = tt
  message-surely x (message.Ack i n) packet = tt
  message-surely x (message.Ask i n) packet = tt
  message-surely x (message.Grant i n) packet = tt
  message-surely x (message.SnapAsk i n) packet = tt

  packet-surely : (x : SourceState) (p : Packet) → e.packet ≡ p → Each (SurelyMail es e.to) (source_packet_step plan s e.sender p x).sends
  unfolding source_packet_step
  packet-surely x (Plain m) same = message-surely x m same
  packet-surely x (SnapFor i try snap) same = tt

-- ---- the world

surely-later : (es more : List Envelope) (a to : ℕ) (p : Packet) → SendsSurely es a to p → SendsSurely (es ++ more) a to p
surely-later es more a to (Plain (message.Batch u index items)) (inl h) = inl h
surely-later es more a to (Plain (message.Batch u index items)) (inr h) =
    let g = h.1 in
    inr (
      h.0,
      record {
        place = g.place;
        envelope = g.envelope;
        asked = g.asked;
        sure = g.sure;
        there = get-first es more g.place g.envelope g.there;
        of_reader = g.of_reader;
        at_sender = g.at_sender;
        asks = g.asks;
        session = g.session;
        tentative = g.tentative;
        are_sure = g.are_sure;
        all = g.all;
      },
    )
surely-later es more a to (Plain (message.Beat b)) h = tt
surely-later es more a to (Plain (message.Subscribe asked)) h = h
surely-later es more a to (Plain (message.Truncated u base)) h = h
surely-later es more a to (Plain (message.Ack i n)) h = h
surely-later es more a to (Plain (message.Ask i n)) h = h
surely-later es more a to (Plain (message.Grant i n)) h = h
surely-later es more a to (Plain (message.SnapAsk i n)) h = h
surely-later es more a to (SnapFor i try s) h = h

module _ (w : World) (h : SourcesSendSurely w.plan w.envelopes) where
  abbrev IfSource : ℕ → Mail → Type 0
  IfSource a m = (s : ℕ) → role_of w.plan a ≡ IsSource s → SurelyMail w.envelopes a m

  abbrev After : ℕ → List Mail → Type 0
  After a ms = SourcesSendSurely w.plan (w.envelopes ++ map (from a) ms)

  -- an actor's mails are sure, or it is no source
  mailed-surely : (a : ℕ) (ms : List Mail) → Each (IfSource a) ms → After a ms
  mailed-surely a ms each k s e there role =
      surely-later w.envelopes (map (from a) ms) e.sender e.to e.packet (by-place (got-sent (IfSource a) a w.envelopes ms k e each there))
    where
      by-place : (slice_get w.envelopes k ≡ Some e) ⊎ ((m : Mail) × (e ≡ from a m) × IfSource a m) → SendsSurely w.envelopes e.sender e.to e.packet
      by-place (inl old) = h k s e old role
      by-place (inr (m, of, sure)) =
          let sender : a ≡ e.sender = sym (ap (λ (x : Envelope). x.sender) of) in
          subst (λ (x : Envelope). SendsSurely w.envelopes x.sender x.to x.packet) (sym of) (sure s (ap (λ (y : ℕ). role_of w.plan y) sender ∙ role))

  each-any : (P : Mail → Type 0) (ms : List Mail) → ((m : Mail) → P m) → Each P ms
  each-any P [] f = tt
  each-any P (m ∷ ms) f = (f m, each-any P ms f)

  source-surely : (a : ℕ) (ms : List Mail) → Each (SurelyMail w.envelopes a) ms → After a ms
  source-surely a ms each = mailed-surely a ms (each-weaker (SurelyMail w.envelopes a) (IfSource a) ms (λ m g s role. g) each)

  other-surely : (a : ℕ) (ms : List Mail) → ((s : ℕ) → role_of w.plan a ≡ IsSource s → ⊥) → After a ms
  other-surely a ms none = mailed-surely a ms (each-any (IfSource a) ms (λ m s role. absurd (none s role)))

  surely-cases : AreCases w (λ e next. SourcesSendSurely next.plan next.envelopes)
  surely-cases =
      record {
        still = λ e. h;
        wires = λ e cuts. h;
        emitted = λ a s t role. source-surely a (source_emits w.plan s t (source_at w s)).sends (emits-surely w.plan w.envelopes a s t (source_at w s));
        released = λ a s t role. source-surely a (source_releases w.plan s t (source_at w s)).sends (releases-surely w.plan w.envelopes a s t (source_at w s));
        source_took = λ k s e there can role. source-surely e.to (source_packet_step w.plan s e.sender e.packet (source_at w s)).sends
            (packet-surely w.plan w.envelopes k s e there (source_at w s) e.packet refl);
        source_ticks = λ a s now role. source-surely a (source_tick_step w.plan s now (source_at w s)).sends (ticks-surely w.plan w.envelopes a s now (source_at w s));
        crashed = λ a f r role. h;
        restarted = λ a i f r role. h;
        node_took = λ k f r e n there can role up. other-surely e.to (packet_step (home_of w.plan (f, r)) e.sender e.packet n).sends (λ s is. no-node f r s (sym role ∙ is));
        node_ticked = λ a now f r n role up clock. other-surely a (tick_step (home_of w.plan (f, r)) now n).sends (λ s is. no-node f r s (sym role ∙ is));
        node_milled = λ a m f r n role up can. other-surely a (mill_step (home_of w.plan (f, r)) m n).sends (λ s is. no-node f r s (sym role ∙ is));
        client_took = λ k c e there can role. h;
        client_ticks = λ a c now role. other-surely a (client_tick_step w.plan c now (client_at w c)).sends (λ s is. no-client c s (sym role ∙ is));
      }
    where
      no-node : (f r s : ℕ) → IsNode f r ≡ IsSource s → ⊥
      no-node f r s clash = cc

      no-client : (c s : ℕ) → IsClient c ≡ IsSource s → ⊥
      no-client c s clash = cc

new-surely : (plan : Plan) → SourcesSendSurely (new_world plan).plan (new_world plan).envelopes
unfolding new_world
new-surely plan k s e there role = cc

pub sources-sure : (plan : Plan) (events : List Event) → SourcesAreSure plan events
sources-sure plan events =
    subst (λ (p : Plan). SourcesSendSurely p (run plan events).envelopes) (run-plan plan events)
    (every-run plan (λ w. SourcesSendSurely w.plan w.envelopes) (new-surely plan) (λ before e h. by-event (run plan before) (λ e next. SourcesSendSurely next.plan next.envelopes) (surely-cases (run plan before) h) e) events)
