-- A replica is chosen for one port.
use Rattle.std.proofs.Common.{◌≡◌, ℕ, zero, suc, ◌<◌, Bool, true, false, List, [], ◌∷◌, map, length, refl, sym, ap, subst, ◌∙◌, arith, Option, Some, None}
use Rattle.std.specs.Prelude.{if◌then◌else◌}
use Rattle.dpc_model.specs.Actors.{senders_of}
use Rattle.dpc_model.specs.Inlets.{InletState, with_next_session, asked_by}
use Rattle.dpc_lists.specs.Lists.{nth}
use Rattle.dpc_model.specs.Parts.{Inputs, Upstream, Neighbours}
use Rattle.dpc_model.specs.Ports.{Port, no_port, choice_at, must_reopen, port_after_choice}
use Rattle.dpc_model.specs.declared.messages.Message.TheVariants as message
use Rattle.dpc_model.specs.declared.messages.Subscribe.{Subscribe}
use Rattle.dpc_model.specs.declared.plans.Plan.{Plan}
use Rattle.dpc_model.specs.declared.plans.StreamRef.{StreamRef}
use Rattle.dpc_model.specs.declared.plans.StreamRef.TheVariants.{Source}
use Rattle.dpc_model.specs.declared.operators.OpSpec.{OpSpec}
use Rattle.dpc_model.specs.Parts.{Outputs}
use Rattle.dpc_lists.proofs.Elements.{length-changed}
use Rattle.sunion.specs.Laws.{with_inlet}
use Rattle.sunion.specs.Unions.{no_value}
use Rattle.upstream.specs.Upstreams.{with_choice, asked_actor}
use Rattle.node_links.specs.Linking.{LinksValue, no_upstream, with_upstream, upstream_at}
use Rattle.pipeline.specs.Flowing.{PipelineValue, StandsForData, IsSetAs}
use Rattle.pipeline.specs.Messages.{IsReopened}
use Rattle.pipeline.proofs.Plainly.{broken-shown, answered-shown}
use Rattle.node_model.specs.Mails.{Plain, mails}
use Rattle.node_model.specs.Nodes.{Home, spec_of, streams_of, PlainNode}
use Rattle.node_model.specs.NodeSteps.{with_port}
use Rattle.node_model.specs.NodeParts.{inputs_of, outputs_of, upstream_of, neighbours_of}
use Rattle.node_model.specs.Fitting.{IsFit}
use Rattle.law_node.proofs.Messages.{choice-inputs, choice-neighbours}
use Rattle.node_model.proofs.Viewed.{inlet-at}
use Rattle.node_core.specs.Standing.{NodeValue, StandsForNode, AreMails}
use Rattle.node_core.specs.Stepping.{IsSound, Steps, plain_mail, choice_at_port}
use Rattle.node_core.proofs.Frames.{set-later, inlets-many, upstreams-many}

pub upstream-there : (i : ℕ) (ports : List Port) → nth no_upstream (map upstream_of ports) i ≡ upstream_of (nth no_port ports i)
upstream-there i [] = refl
upstream-there zero (p ∷ ports) = refl
upstream-there (suc i) (p ∷ ports) = upstream-there i ports

pub senders-there : (plan : Plan) (i : ℕ) (streams : List StreamRef) → i < length streams → nth [] (map (senders_of plan) streams) i ≡ senders_of plan (nth (Source 0) streams i)
senders-there plan i [] low = absurd (omega (arith, low))
senders-there plan zero (s ∷ streams) low = refl
senders-there plan (suc i) (s ∷ streams) low = senders-there plan i streams (omega (arith, low))

-- what is told of the port's session, as the code reads it
pub record IsToldOf (v : NodeValue) (port : ℕ) (told_broken told_answered : Bool) : Type 0 where
  pub inside : port < length v.links.known.upstreams
  pub broken : told_broken ≡ (nth no_value v.path.union.union.inlets port).state.broken
  pub answered : told_answered ≡ (nth no_value v.path.union.union.inlets port).state.answered

-- as many inlets as ports
pub port-inlet : (v : NodeValue) (port : ℕ) → IsSound v → port < length v.links.known.upstreams → port < length v.path.union.union.inlets
port-inlet v port sound low =
    let home = sound.0 in
    let p = sound.1 in
    let many = upstreams-many home v p sound.2 in
    let inlets = inlets-many home v p sound.2 in
    omega (arith, low, many, inlets)

told-broken : (home : Home) (v : NodeValue) (p : PlainNode) (port : ℕ) (broken answered : Bool) → StandsForNode home v p → IsToldOf v port broken answered →
    (broken ≡ (nth no_port p.ports port).inlet.broken) × (answered ≡ (nth no_port p.ports port).inlet.answered)
told-broken home v p port broken answered h told =
    let many = upstreams-many home v p h in
    let inlets = inlets-many home v p h in
    let inside = told.inside in
    let low : port < length v.path.union.union.inlets = omega (arith, inside, many, inlets) in
    let here = inlet-at port p.ports in (
      told.broken ∙ broken-shown (spec_of home).ops v.path (inputs_of p) (outputs_of p) port low h.path ∙ ap (λ (i : InletState). i.broken) here,
      told.answered ∙ answered-shown (spec_of home).ops v.path (inputs_of p) (outputs_of p) port low h.path ∙ ap (λ (i : InletState). i.answered) here,
    )

-- the links after the choice are the plain node's
chosen-known : (home : Home) (v : NodeValue) (p : PlainNode) (port : ℕ) (broken answered : Bool) → StandsForNode home v p → IsToldOf v port broken answered →
    with_upstream port (with_choice broken answered) v.links.known ≡ neighbours_of (with_port port port_after_choice p)
chosen-known home v p port broken answered h told =
    let same = told-broken home v p port broken answered h told in
    ap (λ (b : Bool). with_upstream port (with_choice b answered) v.links.known) same.0
    ∙ ap (λ (a : Bool). with_upstream port (with_choice (nth no_port p.ports port).inlet.broken a) v.links.known) same.1
    ∙ ap (λ (n : Neighbours). with_upstream port (with_choice (nth no_port p.ports port).inlet.broken (nth no_port p.ports port).inlet.answered) n) h.links
    ∙ choice-neighbours port p

abbrev asked_of : List ℕ → Port → Option ℕ
asked_of senders q = if must_reopen q then Some (nth 0 senders (choice_at q)) else None

-- whoever is asked is the sender that the plain port asks
asked-plain : (home : Home) (v : NodeValue) (p : PlainNode) (port : ℕ) (broken answered : Bool) → StandsForNode home v p → IsFit home p → IsToldOf v port broken answered →
    asked_actor broken answered (upstream_at port v.links) ≡ asked_of (senders_of home.plan (nth (Source 0) (streams_of home) port)) (nth no_port p.ports port)
asked-plain home v p port broken answered h fit told =
    let same = told-broken home v p port broken answered h told in
    let q = nth no_port p.ports port in
    let known : nth no_upstream v.links.known.upstreams port ≡ upstream_of q = ap (λ (n : Neighbours). nth no_upstream n.upstreams port) h.links ∙ upstream-there port p.ports in
    let many = upstreams-many home v p h in
    let ports = fit.ports in
    let inside = told.inside in
    let senders : nth [] v.links.senders port ≡ senders_of home.plan (nth (Source 0) (streams_of home) port) =
    ap (λ (ss : List (List ℕ)). nth [] ss port) h.knows.senders ∙ senders-there home.plan port (streams_of home) (omega (arith, inside, many, ports)) in
    ap (λ (b : Bool). asked_actor b answered (upstream_at port v.links)) same.0
    ∙ ap (λ (a : Bool). asked_actor q.inlet.broken a (upstream_at port v.links)) same.1
    ∙ ap (λ (u : Upstream). asked_actor q.inlet.broken q.inlet.answered (record { senders = nth [] v.links.senders port; known = u })) known
    ∙ ap (λ (s : List ℕ). asked_of s q) senders

asked-none : (senders : List ℕ) (q : Port) → asked_of senders q ≡ None → must_reopen q ≡ false
asked-none senders q e =
    (elim (must_reopen q) as (λ (b : Bool). (if b then Some (nth 0 senders (choice_at q)) else None) ≡ None → b ≡ false) [ true ↦ λ h. cc | false ↦ λ h. refl ]) e

asked-some : (senders : List ℕ) (q : Port) (to : ℕ) → asked_of senders q ≡ Some to → (must_reopen q ≡ true) × (to ≡ nth 0 senders (choice_at q))
asked-some senders q to e =
    (elim (must_reopen q) as (λ (b : Bool). (if b then Some (nth 0 senders (choice_at q)) else None) ≡ Some to → (b ≡ true) × (to ≡ nth 0 senders (choice_at q))) [
      | true ↦ λ h. let same : nth 0 senders (choice_at q) ≡ to = cc in (refl, sym same)
      | false ↦ λ h. cc
    ]) e

-- the path and what is known of others change at once
stand-choice : (home : Home) (v : NodeValue) (p : PlainNode) (port : ℕ) (path : PipelineValue) (links : LinksValue) (known : Neighbours) (x : Inputs) → StandsForNode home v p → IsSetAs v.path path →
    StandsForData (spec_of home).ops path x (outputs_of p) → inputs_of (with_port port port_after_choice p) ≡ x → known ≡ neighbours_of (with_port port port_after_choice p) →
    links ≡ record v.links { known = known } → StandsForNode home (record v { path = path; links = links }) (with_port port port_after_choice p)
stand-choice home v p port path links known x h set stood inputs same told =
    let there : StandsForNode home (record v { path = path; links = record v.links { known = known } }) (with_port port port_after_choice p) = record {
      setting = set-later home.plan (spec_of home) v.path path h.setting set;
      knows = record { senders = h.knows.senders; replicas = h.knows.replicas; me = h.knows.me };
      readers = h.readers;
      path = subst (λ (y : Inputs). StandsForData (spec_of home).ops path y (outputs_of p)) (sym inputs) stood;
      links = same;
      clock = h.clock;
      state = h.state;
      recovering = h.recovering;
    } in
    subst (λ (l : LinksValue). StandsForNode home (record v { path = path; links = l }) (with_port port port_after_choice p)) (sym told) there

-- the session stays
pub kept-choice : (port : ℕ) (v : NodeValue) (links : LinksValue) (broken answered : Bool) (asked : Option ℕ) → IsToldOf v port broken answered →
    links ≡ record v.links { known = with_upstream port (with_choice broken answered) v.links.known } → asked ≡ asked_actor broken answered (upstream_at port v.links) → asked ≡ None →
    Steps (choice_at_port port) v (record v { links = links }) []
kept-choice port v links broken answered asked told after actor none = record {
  after = λ home p h fit.
      let q = nth no_port p.ports port in
      let kept = asked-none (senders_of home.plan (nth (Source 0) (streams_of home) port)) q (sym (asked-plain home v p port broken answered h fit told) ∙ sym actor ∙ none) in
      let inputs : inputs_of (with_port port port_after_choice p) ≡ inputs_of p = choice-inputs port p ∙ ap (λ (b : Bool). if b then with_inlet port with_next_session (inputs_of p) else inputs_of p) kept in
      stand-choice home v p port v.path links _ (inputs_of p) h (record { inputs = record { width = refl; buckets = refl; delay = refl }; marks = refl }) h.path inputs (chosen-known home v p port broken answered h told) after;
  sends = λ home p h fit.
      let q = nth no_port p.ports port in
      let s = nth (Source 0) (streams_of home) port in
      let kept = asked-none (senders_of home.plan s) q (sym (asked-plain home v p port broken answered h fit told) ∙ sym actor ∙ none) in
      subst (λ (b : Bool). AreMails home [] (mails (if b then record { to = nth 0 (senders_of home.plan s) (choice_at q); message = message.Subscribe (asked_by (with_next_session q.inlet)) } ∷ [] else []))) (sym kept) tt;
}

-- a session is opened anew
pub new-choice : (port : ℕ) (v : NodeValue) (path : PipelineValue) (links : LinksValue) (broken answered : Bool) (asked : Option ℕ) (to : ℕ) (subscribe : Subscribe) → IsToldOf v port broken answered →
    links ≡ record v.links { known = with_upstream port (with_choice broken answered) v.links.known } → asked ≡ asked_actor broken answered (upstream_at port v.links) → asked ≡ Some to →
    IsSetAs v.path path → ((ops : List OpSpec) → (x : Inputs) → (o : Outputs) → StandsForData ops v.path x o → IsReopened ops port path x o subscribe) →
    Steps (choice_at_port port) v (record v { path = path; links = links }) (plain_mail to (message.Subscribe subscribe) ∷ [])
new-choice port v path links broken answered asked to subscribe told after actor some set reopened = record {
  after = λ home p h fit.
      let q = nth no_port p.ports port in
      let opened = (asked-some (senders_of home.plan (nth (Source 0) (streams_of home) port)) q to (sym (asked-plain home v p port broken answered h fit told) ∙ sym actor ∙ some)).0 in
      let inputs : inputs_of (with_port port port_after_choice p) ≡ with_inlet port with_next_session (inputs_of p) =
      choice-inputs port p ∙ ap (λ (b : Bool). if b then with_inlet port with_next_session (inputs_of p) else inputs_of p) opened in
      stand-choice home v p port path links _ _ h set (reopened (spec_of home).ops (inputs_of p) (outputs_of p) h.path).stands inputs (chosen-known home v p port broken answered h told) after;
  sends = λ home p h fit.
      let q = nth no_port p.ports port in
      let s = nth (Source 0) (streams_of home) port in
      let opened = asked-some (senders_of home.plan s) q to (sym (asked-plain home v p port broken answered h fit told) ∙ sym actor ∙ some) in
      let same : asked_by (with_next_session q.inlet) ≡ subscribe =
      ap (λ (i : InletState). asked_by (with_next_session i)) (sym (inlet-at port p.ports)) ∙ sym (reopened (spec_of home).ops (inputs_of p) (outputs_of p) h.path).asked_as in
      subst (λ (b : Bool). AreMails home (plain_mail to (message.Subscribe subscribe) ∷ []) (mails (if b then record { to = nth 0 (senders_of home.plan s) (choice_at q); message = message.Subscribe (asked_by (with_next_session q.inlet)) } ∷ [] else []))) (sym opened.0)
      (record { to = opened.1; packet = ap (λ (a : Subscribe). Plain (message.Subscribe a)) same }, tt);
}

-- as many ports as before
pub chosen-many : (port : ℕ) (f : Upstream → Upstream) (l m : LinksValue) → m ≡ record l { known = with_upstream port f l.known } → length m.known.upstreams ≡ length l.known.upstreams
chosen-many port f l m e = ap (λ (x : LinksValue). length x.known.upstreams) e ∙ length-changed port f l.known.upstreams
