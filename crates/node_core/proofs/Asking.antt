-- What a node asks of the other replicas.
use Rattle.std.proofs.Common.{◌≡◌, ℕ, Bool, true, false, ◌&&◌, List, [], map, refl, sym, ap, subst, ◌∙◌, Option, Some, None, is_none}
use Rattle.std.specs.Prelude.{if◌then◌else◌}
use Rattle.dpc_model.specs.Granting.{own_key, with_ask}
use Rattle.dpc_lists.specs.Lists.{list_all}
use Rattle.dpc_model.specs.Parts.{Neighbours}
use Rattle.dpc_model.specs.Replicas.{is_absent}
use Rattle.dpc_model.specs.declared.messages.Message.TheVariants as message
use Rattle.dpc_lists.proofs.Truths.{and-none}
use Rattle.node_links.specs.Linking.{LinksValue, peers_in, asking, after_asking}
use Rattle.node_links.specs.declared.links.Asked.{Asked}
use Rattle.node_links.specs.declared.links.Asked.TheVariants as asked
use Rattle.node_model.specs.Mails.{Stepped, to_each}
use Rattle.node_model.specs.Nodes.{Home, PlainNode, out_stable, wants_to_reconcile}
use Rattle.node_model.specs.NodeSteps.{idle_step, peers_of, peer_watches, enter_step, ask_step, snapshot_ask_step}
use Rattle.node_model.specs.NodeParts.{neighbours_of}
use Rattle.node_model.specs.Fitting.{IsFit}
use Rattle.node_core.specs.declared.packets.Mail as code_mail
use Rattle.node_core.specs.Standing.{NodeValue, StandsForNode, AreMails}
use Rattle.node_core.specs.Stepping.{IsSound, Steps, taken_back, plain_mail}
use Rattle.node_core.proofs.Sendings.{peers-mails}

-- for a snapshot
pub snapshot-asked : (v : NodeValue) (peers : List ℕ) (told : List code_mail.Mail) → peers ≡ peers_in v.links →
    told ≡ map (λ a. plain_mail a (message.SnapAsk v.links.known.grants.inc v.links.known.tries)) peers → Steps snapshot_ask_step v v told
snapshot-asked v peers told same sent = record {
  after = λ home p h fit. h;
  sends = λ home p h fit.
      let to = sent ∙ ap (λ (n : Neighbours). map (λ a. plain_mail a (message.SnapAsk n.grants.inc n.tries)) peers) h.links in
      peers-mails home v p (message.SnapAsk p.grants.inc p.tries) peers told h same to;
}

-- the plain step, by its tests
abbrev ask_by : Bool → Bool → Bool → Home → PlainNode → Stepped PlainNode
ask_by wants free silent home p =
    if wants && free
    then (if silent then enter_step home p
    else record { after = record p { grants = with_ask p.grants }; sends = to_each (message.Ask (own_key p.grants).0 (own_key p.grants).1) (peers_of home) })
    else idle_step p

ask-is : (home : Home) (p : PlainNode) (wants free silent : Bool) → wants_to_reconcile home p ≡ wants → is_none p.grants.promise ≡ free → list_all is_absent (peer_watches home p) ≡ silent →
    ask_step home p ≡ ask_by wants free silent home p
ask-is home p wants free silent e f g =
    ap (λ (b : Bool). ask_by b (is_none p.grants.promise) (list_all is_absent (peer_watches home p)) home p) e
    ∙ ap (λ (b : Bool). ask_by wants b (list_all is_absent (peer_watches home p)) home p) f ∙ ap (λ (b : Bool). ask_by wants free b home p) g

silent-same : (wants free silent : Bool) (home : Home) (p : PlainNode) → (wants && free) ≡ false → ask_by wants free silent home p ≡ idle_step p
silent-same wants free silent home p e =
    ap (λ (b : Bool). if b then (if silent then enter_step home p
    else record { after = record p { grants = with_ask p.grants }; sends = to_each (message.Ask (own_key p.grants).0 (own_key p.grants).1) (peers_of home) })
    else idle_step p) e

-- what the links answer
abbrev asked_by : Bool → Bool → ℕ → ℕ → Option Asked
asked_by free silent inc ask = if free then (if silent then Some asked.Enter else Some (asked.Ask inc ask)) else None

asking-plain : (home : Home) (v : NodeValue) (p : PlainNode) → StandsForNode home v p →
    asking v.links.me v.links.known ≡ asked_by (is_none p.grants.promise) (list_all is_absent (peer_watches home p)) (own_key p.grants).0 (own_key p.grants).1
asking-plain home v p h = ap (λ (x : Neighbours). asking v.links.me x) h.links ∙ ap (λ (me : ℕ). asking me (neighbours_of p)) h.knows.me

is-nothing : (free silent : Bool) (inc ask : ℕ) → asked_by free silent inc ask ≡ None → free ≡ false
is-nothing true true inc ask e = cc
is-nothing true false inc ask e = cc
is-nothing false silent inc ask e = refl

is-enter : (free silent : Bool) (inc ask : ℕ) → asked_by free silent inc ask ≡ Some asked.Enter → (free ≡ true) × (silent ≡ true)
is-enter true true inc ask e = (refl, refl)
is-enter true false inc ask e = cc
is-enter false silent inc ask e = cc

is-ask : (free silent : Bool) (inc ask i n : ℕ) → asked_by free silent inc ask ≡ Some (asked.Ask i n) → (free ≡ true) × ((silent ≡ false) × ((i ≡ inc) × (n ≡ ask)))
is-ask true true inc ask i n e = cc
is-ask true false inc ask i n e = let a : i ≡ inc = cc in let b : n ≡ ask = cc in (refl, (refl, (a, b)))
is-ask false silent inc ask i n e = cc

-- the links after asking
asked-known : (v : NodeValue) (home : Home) (p : PlainNode) (free : Bool) → StandsForNode home v p → is_none p.grants.promise ≡ free →
    after_asking v.links.known ≡ record (neighbours_of p) { grants = if free then with_ask p.grants else p.grants }
asked-known v home p free h e = ap after_asking h.links ∙ ap (λ (b : Bool). record (neighbours_of p) { grants = if b then with_ask p.grants else p.grants }) e

-- the ask runs
pub asks-stand : (home : Home) (v : NodeValue) (p : PlainNode) (links : LinksValue) → StandsForNode home v p → links ≡ record v.links { known = after_asking v.links.known } → is_none p.grants.promise ≡ true →
    StandsForNode home (record v { links = links }) (record p { grants = with_ask p.grants })
asks-stand home v p links h same free =
    subst (λ (l : LinksValue). StandsForNode home (record v { links = l }) (record p { grants = with_ask p.grants })) (sym same)
    (record {
      setting = h.setting;
      knows = record { senders = h.knows.senders; replicas = h.knows.replicas; me = h.knows.me };
      readers = h.readers;
      path = h.path;
      links = asked-known v home p true h free;
      clock = h.clock;
      state = h.state;
      recovering = h.recovering;
    })

-- no ask runs
rests-stand : (home : Home) (v : NodeValue) (p : PlainNode) (links : LinksValue) → StandsForNode home v p → links ≡ record v.links { known = after_asking v.links.known } → is_none p.grants.promise ≡ false →
    StandsForNode home (record v { links = links }) p
rests-stand home v p links h same free =
    subst (λ (l : LinksValue). StandsForNode home (record v { links = l }) p) (sym same)
    (record {
      setting = h.setting;
      knows = record { senders = h.knows.senders; replicas = h.knows.replicas; me = h.knows.me };
      readers = h.readers;
      path = h.path;
      links = asked-known v home p false h free;
      clock = h.clock;
      state = h.state;
      recovering = h.recovering;
    })

pub fit-asked : (home : Home) (p : PlainNode) → IsFit home p → IsFit home (record p { grants = with_ask p.grants })
fit-asked home p fit = record { end = fit.end; inputs = fit.inputs; ports = fit.ports; readers = fit.readers; silent = fit.silent }

-- it has promised another
pub promised : (v : NodeValue) (links : LinksValue) (told : Option Asked) → links ≡ record v.links { known = after_asking v.links.known } → told ≡ asking v.links.me v.links.known → told ≡ None →
    Steps ask_step v (record v { links = links }) []
promised v links told same from none = record {
  after = λ home p h fit.
      let free = is-nothing (is_none p.grants.promise) (list_all is_absent (peer_watches home p)) (own_key p.grants).0 (own_key p.grants).1 (sym (asking-plain home v p h) ∙ sym from ∙ none) in
      subst (λ (s : Stepped PlainNode). StandsForNode home (record v { links = links }) s.after) (sym (rests home p free)) (rests-stand home v p links h same free);
  sends = λ home p h fit.
      let free = is-nothing (is_none p.grants.promise) (list_all is_absent (peer_watches home p)) (own_key p.grants).0 (own_key p.grants).1 (sym (asking-plain home v p h) ∙ sym from ∙ none) in
      subst (λ (s : Stepped PlainNode). AreMails home [] s.sends) (sym (rests home p free)) tt;
}
  where
    rests : (home : Home) (p : PlainNode) → is_none p.grants.promise ≡ false → ask_step home p ≡ idle_step p
    rests home p free =
        ask-is home p (wants_to_reconcile home p) false (list_all is_absent (peer_watches home p)) refl free refl
        ∙ silent-same (wants_to_reconcile home p) false (list_all is_absent (peer_watches home p)) home p (and-none (wants_to_reconcile home p))

-- every other one is absent
pub alone : (v : NodeValue) (told : Option Asked) (home : Home) (p : PlainNode) → StandsForNode home v p → told ≡ asking v.links.me v.links.known → told ≡ Some asked.Enter →
    (is_none p.grants.promise ≡ true) × (list_all is_absent (peer_watches home p) ≡ true)
alone v told home p h from enter =
    is-enter (is_none p.grants.promise) (list_all is_absent (peer_watches home p)) (own_key p.grants).0 (own_key p.grants).1 (sym (asking-plain home v p h) ∙ sym from ∙ enter)

enters-so : (home : Home) (p : PlainNode) → enter_step home p ≡ taken_back home (record p { grants = with_ask p.grants })
unfolding enter_step out_stable
enters-so home p = refl

pub sound-asked : (v : NodeValue) (links : LinksValue) (told : Option Asked) → IsSound v → links ≡ record v.links { known = after_asking v.links.known } → told ≡ asking v.links.me v.links.known →
    told ≡ Some asked.Enter → IsSound (record v { links = links })
sound-asked v links told sound same from enter =
    let home = sound.0 in
    let p = sound.1 in
    (home, record p { grants = with_ask p.grants }, asks-stand home v p links sound.2 same (alone v told home p sound.2 from enter).0, fit-asked home p sound.3)

pub entered : (v new : NodeValue) (links : LinksValue) (told : Option Asked) (sent : List code_mail.Mail) → ((home : Home) (p : PlainNode) → StandsForNode home v p → true ≡ wants_to_reconcile home p) →
    links ≡ record v.links { known = after_asking v.links.known } → told ≡ asking v.links.me v.links.known → told ≡ Some asked.Enter →
    Steps taken_back (record v { links = links }) new sent → Steps ask_step v new sent
entered v new links told sent wish same from enter steps = record {
  after = λ home p h fit.
      subst (λ (s : Stepped PlainNode). StandsForNode home new s.after) (sym (so home p (wish home p h) (alone v told home p h from enter).0 (alone v told home p h from enter).1))
      (steps.after home (record p { grants = with_ask p.grants }) (asks-stand home v p links h same (alone v told home p h from enter).0) (fit-asked home p fit));
  sends = λ home p h fit.
      subst (λ (s : Stepped PlainNode). AreMails home sent s.sends) (sym (so home p (wish home p h) (alone v told home p h from enter).0 (alone v told home p h from enter).1))
      (steps.sends home (record p { grants = with_ask p.grants }) (asks-stand home v p links h same (alone v told home p h from enter).0) (fit-asked home p fit));
}
  where
    so : (home : Home) (p : PlainNode) → true ≡ wants_to_reconcile home p → is_none p.grants.promise ≡ true → list_all is_absent (peer_watches home p) ≡ true →
        ask_step home p ≡ taken_back home (record p { grants = with_ask p.grants })
    so home p e f g = ask-is home p true true true (sym e) f g ∙ enters-so home p

-- the others are asked
pub others-asked : (v : NodeValue) (links : LinksValue) (told : Option Asked) (inc ask : ℕ) (peers : List ℕ) (sent : List code_mail.Mail) →
    ((home : Home) (p : PlainNode) → StandsForNode home v p → true ≡ wants_to_reconcile home p) →
    links ≡ record v.links { known = after_asking v.links.known } → told ≡ asking v.links.me v.links.known → told ≡ Some (asked.Ask inc ask) →
    peers ≡ peers_in v.links → sent ≡ map (λ a. plain_mail a (message.Ask inc ask)) peers → Steps ask_step v (record v { links = links }) sent
others-asked v links told inc ask peers sent wish same from asks all each = record {
  after = λ home p h fit.
      let keys = key home p h in
      subst (λ (s : Stepped PlainNode). StandsForNode home (record v { links = links }) s.after) (sym (so home p (wish home p h) keys.0 keys.1.0)) (asks-stand home v p links h same keys.0);
  sends = λ home p h fit.
      let keys = key home p h in
      let to : sent ≡ map (λ a. plain_mail a (message.Ask (own_key p.grants).0 (own_key p.grants).1)) peers =
      each ∙ ap (λ (i : ℕ). map (λ a. plain_mail a (message.Ask i ask)) peers) keys.1.1.0 ∙ ap (λ (n : ℕ). map (λ a. plain_mail a (message.Ask (own_key p.grants).0 n)) peers) keys.1.1.1 in
      subst (λ (s : Stepped PlainNode). AreMails home sent s.sends) (sym (so home p (wish home p h) keys.0 keys.1.0))
      (peers-mails home v p (message.Ask (own_key p.grants).0 (own_key p.grants).1) peers sent h all to);
}
  where
    key : (home : Home) (p : PlainNode) → StandsForNode home v p →
        (is_none p.grants.promise ≡ true) × ((list_all is_absent (peer_watches home p) ≡ false) × ((inc ≡ (own_key p.grants).0) × (ask ≡ (own_key p.grants).1)))
    key home p h =
        is-ask (is_none p.grants.promise) (list_all is_absent (peer_watches home p)) (own_key p.grants).0 (own_key p.grants).1 inc ask (sym (asking-plain home v p h) ∙ sym from ∙ asks)

    so : (home : Home) (p : PlainNode) → true ≡ wants_to_reconcile home p → is_none p.grants.promise ≡ true → list_all is_absent (peer_watches home p) ≡ false →
        ask_step home p ≡ ask_by true true false home p
    so home p e f g = ask-is home p true true false (sym e) f g
