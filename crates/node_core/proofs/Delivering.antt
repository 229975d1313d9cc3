-- What a node leaves that ends marks, and that takes a batch, a beat or a truncation.
use Rattle.std.proofs.Common.{◌≡◌, ℕ, zero, suc, ◌<◌, Bool, true, false, ◌==◌, List, [], ◌∷◌, map, length, refl, sym, ap, subst, ◌∙◌, arith, Option, Some, None}
use Rattle.std.proofs.lemmas.Grind.{common_steps}
use Rattle.std.proofs.lemmas.List.{length-map}
use Rattle.std.specs.Prelude.{if◌then◌else◌}
use Rattle.dpc_lists.specs.Lists.{nth, place_of}
use Rattle.dpc_model.specs.Inlets.{InletState, AfterBatch, take_batch, after_tally}
use Rattle.dpc_model.specs.Ports.{Port, no_port, sender_at}
use Rattle.dpc_model.specs.Parts.{Inputs, Outputs, Upstream, Neighbours, done_in}
use Rattle.dpc_model.specs.Actors.{senders_of}
use Rattle.dpc_model.specs.declared.batches.Taken.{Taken}
use Rattle.dpc_model.specs.declared.batches.Taken.TheVariants as taken_as
use Rattle.dpc_model.specs.declared.tuples.Item.{Item}
use Rattle.dpc_model.specs.declared.messages.Beat.{Beat}
use Rattle.dpc_model.specs.declared.messages.Sess.{Sess}
use Rattle.dpc_model.specs.declared.messages.Message.TheVariants as message
use Rattle.sunion.specs.Laws.{with_inlet}
use Rattle.sunion.specs.Unions.{taken_at, after_taking_at}
use Rattle.sunion.specs.declared.sunion.Verdict.{Verdict}
use Rattle.node_links.specs.Linking.{LinksValue, sender_among, no_upstream, after_upstream_beat, after_own_beat, chosen_by}
use Rattle.node_links.proofs.Lawful.{finds-senders, messages-stand}
use Rattle.node_links.proofs.Within.{sender-within}
use Rattle.node_model.specs.Nodes.{Home, PlainNode, spec_of, streams_of}
use Rattle.node_model.specs.NodeSteps.{after_taking, on_batch, on_upstream_beat, on_peer_beat, replica_number}
use Rattle.node_model.specs.NodeParts.{inputs_of, outputs_of, upstream_of, neighbours_of}
use Rattle.pipeline.specs.Flowing.{PipelineValue, StandsForData, IsSetAs}
use Rattle.pipeline.specs.Messages.{IsTakenAt}
use Rattle.node_model.specs.Fitting.{IsFit, IsFitMessage}
use Rattle.node_model.proofs.Viewed.{inlet-at}
use Rattle.law_node.proofs.Messages.{taking-inputs, taking-neighbours, beat-inputs}
use Rattle.node_core.specs.Standing.{NodeValue, StandsForNode}
use Rattle.node_core.proofs.Frames.{set-later, stand-path, inlets-many, upstreams-many}

-- ---- who sends

pub sender-is : (home : Home) (v : NodeValue) (p : PlainNode) (a : ℕ) (o : Option (ℕ × ℕ)) → StandsForNode home v p → o ≡ sender_among 0 v.links.senders a → o ≡ sender_at home.plan (streams_of home) a
sender-is home v p a o h e = e ∙ (finds-senders home v.links h.knows).0 a

-- a port that was found is one of the node's
pub record IsLow (v : NodeValue) (port r : ℕ) : Type 0 where
  pub seen : port < length v.links.known.upstreams
  pub inlet : port < length v.path.union.union.inlets
  pub replica : r < length (nth [] v.links.senders port)

pub sender-low : (home : Home) (v : NodeValue) (p : PlainNode) (a port r : ℕ) → StandsForNode home v p → IsFit home p → sender_among 0 v.links.senders a ≡ Some (port, r) → IsLow v port r
sender-low home v p a port r h fit found =
    let s = sender-within 0 v.links.senders a port r found in
    let here : port ≡ s.place = let is = s.port in omega (arith, is) in
    let low = s.low in
    let ports = fit.ports in
    let streams : length v.links.senders ≡ length (streams_of home) = ap length h.knows.senders ∙ length-map (streams_of home) (senders_of home.plan) in
    let upstreams = upstreams-many home v p h in
    let inlets = inlets-many home v p h in
    record {
      seen = omega (arith, here, low, ports, streams, upstreams);
      inlet = omega (arith, here, low, ports, streams, inlets);
      replica = subst (λ (q : ℕ). r < length (nth [] v.links.senders q)) (sym here) s.replica;
    }

seen-at : (i : ℕ) (ports : List Port) → nth no_upstream (map upstream_of ports) i ≡ upstream_of (nth no_port ports i)
seen-at i [] = refl
seen-at zero (q ∷ ports) = refl
seen-at (suc i) (q ∷ ports) = seen-at i ports

pub upstream-at : (home : Home) (v : NodeValue) (p : PlainNode) (port : ℕ) → StandsForNode home v p → nth no_upstream v.links.known.upstreams port ≡ upstream_of (nth no_port p.ports port)
upstream-at home v p port h = ap (λ (n : Neighbours). nth no_upstream n.upstreams port) h.links ∙ seen-at port p.ports

-- ---- batches

-- another replica's batch is not read
pub batch-left : (home : Home) (v : NodeValue) (p : PlainNode) (a port r index : ℕ) (s : Sess) (items : List Item) → StandsForNode home v p → Some (port, r) ≡ sender_at home.plan (streams_of home) a →
    ((nth no_upstream v.links.known.upstreams port).chosen ≡ r → ⊥) → StandsForNode home v (on_batch home s index items (sender_at home.plan (streams_of home) a) p)
batch-left home v p a port r index s items h found other =
    let differs : ((nth no_port p.ports port).chosen ≡ r → ⊥) = λ e. other (ap (λ (u : Upstream). u.chosen) (upstream-at home v p port h) ∙ e) in
    subst (λ (o : Option (ℕ × ℕ)). StandsForNode home v (on_batch home s index items o p)) found (left ((nth no_port p.ports port).chosen == r) refl differs)
  where
    left : (b : Bool) → ((nth no_port p.ports port).chosen == r) ≡ b → ((nth no_port p.ports port).chosen ≡ r → ⊥) →
        StandsForNode home v (if b then after_taking home port (take_batch (nth no_port p.ports port).inlet s index items) p else p)
    left true e n = absurd (n (grind (arith, common_steps, e)))
    left false e n = h

taking-stays : (home : Home) (port : ℕ) (t : AfterBatch) (n : PlainNode) →
    (outputs_of (after_taking home port t n) ≡ outputs_of n) × ((after_taking home port t n).clock ≡ n.clock) × ((after_taking home port t n).state ≡ n.state)
    × ((after_taking home port t n).recovering ≡ n.recovering)
taking-stays home port t n =
    let leaves : Taken → PlainNode = λ a. after_taking home port (record t { answer = a }) n in
    (elim t.answer as (λ (a : Taken). (outputs_of (leaves a) ≡ outputs_of n) × ((leaves a).clock ≡ n.clock) × ((leaves a).state ≡ n.state) × ((leaves a).recovering ≡ n.recovering)) [
      | taken_as.Used items ↦ (refl, refl, refl, refl)
      | taken_as.Old ↦ (refl, refl, refl, refl)
      | taken_as.Broken ↦ (refl, refl, refl, refl)
    ])

batch-read : (home : Home) (p : PlainNode) (port r index : ℕ) (s : Sess) (items : List Item) → (nth no_port p.ports port).chosen ≡ r →
    on_batch home s index items (Some (port, r)) p ≡ after_taking home port (take_batch (nth no_port p.ports port).inlet s index items) p
batch-read home p port r index s items e =
    let same : ((nth no_port p.ports port).chosen == r) ≡ true = grind (arith, common_steps, e) in
    ap (λ (b : Bool). if b then after_taking home port (take_batch (nth no_port p.ports port).inlet s index items) p else p) same

-- a batch of the chosen replica is taken
pub batch-taken : (home : Home) (v : NodeValue) (p : PlainNode) (path : PipelineValue) (a port r index : ℕ) (s : Sess) (items : List Item) (answer : Verdict) → StandsForNode home v p →
    Some (port, r) ≡ sender_at home.plan (streams_of home) a → (nth no_upstream v.links.known.upstreams port).chosen ≡ r → IsFitMessage home a p (message.Batch s index items) →
    IsSetAs v.path path → IsTakenAt (spec_of home).ops port s index items v.clock v.path path (inputs_of p) (outputs_of p) answer →
    StandsForNode home (record v { path = path }) (on_batch home s index items (sender_at home.plan (streams_of home) a) p)
batch-taken home v p path a port r index s items answer h found read fits set taken =
    let t = take_batch (nth no_port p.ports port).inlet s index items in
    let q = after_taking home port t p in
    let x = inputs_of p in
    let is : on_batch home s index items (sender_at home.plan (streams_of home) a) p ≡ q =
    ap (λ (o : Option (ℕ × ℕ)). on_batch home s index items o p) (sym found) ∙ batch-read home p port r index s items (sym (ap (λ (u : Upstream). u.chosen) (upstream-at home v p port h)) ∙ read) in
    let told_same : taken_at port s index items x ≡ t = ap (λ (i : InletState). take_batch i s index items) (inlet-at port p.ports) in
    let after : after_taking_at v.path.union.width v.clock port (taken_at port s index items x) x ≡ inputs_of q =
    ap (λ (w : ℕ). after_taking_at w v.clock port (taken_at port s index items x) x) h.setting.width
    ∙ ap (λ (k : ℕ). after_taking_at home.plan.width k port (taken_at port s index items x) x) h.clock
    ∙ ap (λ (u : AfterBatch). after_taking_at home.plan.width p.clock port u x) told_same ∙ sym (taking-inputs home port t p) in
    let whole : done_in home.plan.width (inputs_of q) ≡ done_in home.plan.width x = sym (ap (λ (n : PlainNode). done_in home.plan.width (inputs_of n)) is) ∙ fits in
    let below : done_in v.path.union.width (after_taking_at v.path.union.width v.clock port (taken_at port s index items x) x) ≡ done_in v.path.union.width x =
    ap (λ (y : Inputs). done_in v.path.union.width y) after ∙ subst (λ (w : ℕ). done_in w (inputs_of q) ≡ done_in w x) (sym h.setting.width) whole in
    let flows = subst (λ (y : Inputs). StandsForData (spec_of home).ops path y (outputs_of p)) after (taken.stands below) in
    let stays = taking-stays home port t p in
    subst (λ (n : PlainNode). StandsForNode home (record v { path = path }) n) (sym is)
    (stand-path home v p q path (inputs_of q) (outputs_of p) h set flows refl stays.0 (taking-neighbours home port t p) stays.1 stays.2 stays.3)

-- ---- beats

-- the port that reads the sender hears the tally
abbrev pub heard_in : Beat → Option ℕ → Inputs → Inputs
heard_in b None x = x
heard_in b (Some port) x = with_inlet port (λ (i : InletState). after_tally i b.tally) x

own-inputs : (b : Beat) (r : Option ℕ) (n : PlainNode) → inputs_of (on_peer_beat b r n) ≡ inputs_of n
own-inputs b None n = refl
own-inputs b (Some r) n = refl

upstream-hears : (b : Beat) (o : Option (ℕ × ℕ)) (n : PlainNode) → inputs_of (on_upstream_beat b o n) ≡ heard_in b (chosen_by o (neighbours_of n)) (inputs_of n)
upstream-hears b None n = refl
upstream-hears b (Some (port, r)) n =
    let x = inputs_of n in
    let hears : Bool → Inputs = λ c. if c then with_inlet port (λ (i : InletState). after_tally i b.tally) x else x in
    let alike : (c : Bool) → hears c ≡ heard_in b (if c then Some port else None) x = λ c. (elim c as (λ c. hears c ≡ heard_in b (if c then Some port else None) x) [ true ↦ refl | false ↦ refl ]) in
    beat-inputs b port r n ∙ alike (r == (nth no_port n.ports port).chosen)
    ∙ ap (λ (u : Upstream). heard_in b (if r == u.chosen then Some port else None) x) (sym (seen-at port n.ports))

beat-stays : (b : Beat) (o : Option (ℕ × ℕ)) (r : Option ℕ) (n : PlainNode) → let m = on_peer_beat b r (on_upstream_beat b o n) in
    (outputs_of m ≡ outputs_of n) × (m.clock ≡ n.clock) × (m.state ≡ n.state) × (m.recovering ≡ n.recovering)
beat-stays b None None n = (refl, refl, refl, refl)
beat-stays b None (Some r) n = (refl, refl, refl, refl)
beat-stays b (Some o) None n = (refl, refl, refl, refl)
beat-stays b (Some o) (Some r) n = (refl, refl, refl, refl)

-- both the inputs and what is known of others change
pub stand-both : (home : Home) (v : NodeValue) (p q : PlainNode) (path : PipelineValue) (links : LinksValue) (known : Neighbours) → StandsForNode home v p → IsSetAs v.path path →
    StandsForData (spec_of home).ops path (inputs_of q) (outputs_of q) → links ≡ record v.links { known = known } → known ≡ neighbours_of q → q.clock ≡ p.clock → q.state ≡ p.state → q.recovering ≡ p.recovering →
    StandsForNode home (record v { path = path; links = links }) q
stand-both home v p q path links known h set flows is same clock state recovering =
    subst (λ (l : LinksValue). StandsForNode home (record v { path = path; links = l }) q) (sym is)
    (record {
      setting = set-later home.plan (spec_of home) v.path path h.setting set;
      knows = record { senders = h.knows.senders; replicas = h.knows.replicas; me = h.knows.me };
      readers = h.readers;
      path = flows;
      links = same;
      clock = h.clock ∙ sym clock;
      state = h.state ∙ sym state;
      recovering = h.recovering ∙ sym recovering;
    })

pub beat-taken : (home : Home) (v : NodeValue) (p : PlainNode) (path : PipelineValue) (links : LinksValue) (a : ℕ) (b : Beat) (heard : Option ℕ) → StandsForNode home v p →
    links ≡ record v.links { known = after_own_beat b (place_of (λ c. a == c) v.links.replicas) (after_upstream_beat b (sender_among 0 v.links.senders a) v.links.known) } →
    heard ≡ chosen_by (sender_among 0 v.links.senders a) v.links.known → IsSetAs v.path path → StandsForData (spec_of home).ops path (heard_in b heard (inputs_of p)) (outputs_of p) →
    StandsForNode home (record v { path = path; links = links }) (on_peer_beat b (replica_number home a) (on_upstream_beat b (sender_at home.plan (streams_of home) a) p))
beat-taken home v p path links a b heard h is told set flows =
    let o = sender_at home.plan (streams_of home) a in
    let r = replica_number home a in
    let q = on_peer_beat b r (on_upstream_beat b o p) in
    let found : sender_among 0 v.links.senders a ≡ o = (finds-senders home v.links h.knows).0 a in
    let hears : heard ≡ chosen_by o (neighbours_of p) =
    told ∙ ap (λ (o : Option (ℕ × ℕ)). chosen_by o v.links.known) found ∙ ap (λ (n : Neighbours). chosen_by o n) h.links in
    let inputs : heard_in b heard (inputs_of p) ≡ inputs_of q = ap (λ (o : Option ℕ). heard_in b o (inputs_of p)) hears ∙ sym (own-inputs b r (on_upstream_beat b o p) ∙ upstream-hears b o p) in
    let stays = beat-stays b o r p in
    let known : after_own_beat b (place_of (λ c. a == c) v.links.replicas) (after_upstream_beat b (sender_among 0 v.links.senders a) v.links.known) ≡ neighbours_of q =
    ap (λ (rs : List ℕ). after_own_beat b (place_of (λ c. a == c) rs) (after_upstream_beat b (sender_among 0 v.links.senders a) v.links.known)) h.knows.replicas
    ∙ ap (λ (o : Option (ℕ × ℕ)). after_own_beat b r (after_upstream_beat b o v.links.known)) found
    ∙ ap (λ (n : Neighbours). after_own_beat b r (after_upstream_beat b o n)) h.links ∙ (messages-stand home p).0 b o r in
    stand-both home v p q path links _ h set
    (subst (λ (y : Inputs). StandsForData (spec_of home).ops path y (outputs_of q)) inputs (subst (λ (u : Outputs). StandsForData (spec_of home).ops path (heard_in b heard (inputs_of p)) u) (sym stays.0) flows))
    is known stays.1 stays.2 stays.3

-- the port that reads a sender is its port
pub chosen-found : (o : Option (ℕ × ℕ)) (x : Neighbours) (port : ℕ) → Some port ≡ chosen_by o x → (r : ℕ) × (o ≡ Some (port, r))
chosen-found None x port e = absurd (cc)
chosen-found (Some (k, r)) x port e = (r, ap (λ (i : ℕ). Some (i, r)) (which (r == (nth no_upstream x.upstreams k).chosen) e))
  where
    which : (c : Bool) → Some port ≡ (if c then Some k else None) → k ≡ port
    which true e = cc
    which false e = absurd (cc)

pub set-same : (v : PipelineValue) → IsSetAs v v
set-same v = record { inputs = record { width = refl; buckets = refl; delay = refl }; marks = refl }
