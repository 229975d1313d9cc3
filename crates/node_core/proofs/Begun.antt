-- A new node, and one that restarted.
use Rattle.std.proofs.Common.{◌≡◌, ℕ, zero, suc, ◌<◌, true, false, ◌==◌, List, [], ◌∷◌, map, length, refl, sym, ap, subst, ◌∙◌, arith, Some, slice_get, replicate}
use Rattle.dpc_lists.specs.Lists.{nth}
use Rattle.dpc_model.specs.Inlets.{InletState, new_inlet, restarted_inlet, sess_of}
use Rattle.dpc_model.specs.Ports.{port_at}
use Rattle.dpc_model.specs.Parts.{Inputs, Outputs}
use Rattle.dpc_model.specs.Reading.{stable_reader}
use Rattle.dpc_model.specs.Sessions.{Acked, no_session}
use Rattle.dpc_model.specs.declared.sessions.Sub.{Sub}
use Rattle.dpc_model.specs.declared.messages.NodeState.TheVariants.{Stable, Stabilization}
use Rattle.dpc_model.specs.declared.plans.FragSpec.{FragSpec}
use Rattle.dpc_model.specs.declared.plans.Plan.{Plan}
use Rattle.dpc_model.specs.declared.plans.StreamRef.{StreamRef}
use Rattle.dpc_lists.proofs.Places.{same-each}
use Rattle.node_model.specs.Nodes.{Home, no_fragment, spec_of, streams_of, own_readers, new_node, restarted_node, first_session}
use Rattle.node_model.specs.NodeParts.{inputs_of, outputs_of}
use Rattle.node_links.specs.Linking.{LinksValue, new_links}
use Rattle.node_links.specs.Laws.{KnowsNeighbours}
use Rattle.node_links.proofs.Lawful.{new-links-stand}
use Rattle.sunion.specs.Laws.{new_inputs}
use Rattle.pipeline.specs.Flowing.{PipelineValue, StandsForData}
use Rattle.pipeline.specs.Recovery.{IsSetFor, opened_outputs, restarted_inputs, restarted_outputs}
use Rattle.node_model.proofs.Viewed.{inlets}
use Rattle.node_model.specs.Making.{IsReplica}
use Rattle.node_core.specs.Standing.{StandsForNode}

there : {X : Type 0} (d : X) (xs : List X) (i : ℕ) → i < length xs → slice_get xs i ≡ Some (nth d xs i)
there d [] i h = absurd (omega (arith, h))
there d (x ∷ xs) zero h = refl
there d (x ∷ xs) (suc i) h = there d xs i (omega (arith, h))

-- the fragment of a place
frag-there : (home : Home) → IsReplica home → slice_get home.plan.frags home.frag ≡ Some (spec_of home)
frag-there home place = there no_fragment home.plan.frags home.frag place.frag

begun-inlets : (plan : Plan) (i : InletState) (streams : List StreamRef) → replicate (length streams) i ≡ inlets (map (port_at plan i) streams)
begun-inlets plan i [] = refl
begun-inlets plan i (s ∷ streams) = ap (λ (is : List InletState). i ∷ is) (begun-inlets plan i streams)

pub opened-stands : (home : Home) (path : PipelineValue) (links : LinksValue) (readers : List ℕ) → IsReplica home →
    ((f : FragSpec) → slice_get home.plan.frags home.frag ≡ Some f → IsSetFor home.plan f path) →
    ((f : FragSpec) → slice_get home.plan.frags home.frag ≡ Some f → StandsForData f.ops path (new_inputs (length f.inputs) 1) (opened_outputs (length readers) (home.replica == 0))) →
    links ≡ new_links home 1 → readers ≡ own_readers home →
    StandsForNode home (record { path = path; links = links; readers = readers; clock = 0; state = Stable; recovering = false; spent = false }) (new_node home)
unfolding new_node
opened-stands home path links readers place set stands known same =
    let here = frag-there home place in
    let inputs : new_inputs (length (streams_of home)) 1 ≡ inputs_of (new_node home) =
    ap (λ (is : List InletState). record { inlets = is; stamps = []; cursor = 0; closed = [] }) (begun-inlets home.plan (new_inlet 1) (streams_of home)) in
    let subs : replicate (length readers) (first_session home) ≡ map (λ _. first_session home) (own_readers home) =
    ap (λ (rs : List ℕ). replicate (length rs) (first_session home)) same ∙ same-each (first_session home) (own_readers home) in
    let acks : replicate (length readers) (0, 0) ≡ map (λ _. (0, 0)) (own_readers home) = ap (λ (rs : List ℕ). replicate (length rs) (0, 0)) same ∙ same-each (0, 0) (own_readers home) in
    let outputs : opened_outputs (length readers) (home.replica == 0) ≡ outputs_of (new_node home) =
    ap (λ (ss : List Sub). record { subs = ss; acks = replicate (length readers) (0, 0); base = 0 }) subs
    ∙ ap (λ (ns : List Acked). record (outputs_of (new_node home)) { acks = ns }) acks in
    record {
      setting = set (spec_of home) here;
      knows = subst (λ (l : LinksValue). KnowsNeighbours home l) (sym known) (record { senders = refl; replicas = refl; me = refl });
      readers = same;
      path = subst (λ (x : Inputs). StandsForData (spec_of home).ops path x (outputs_of (new_node home))) inputs
          (subst (λ (o : Outputs). StandsForData (spec_of home).ops path (new_inputs (length (streams_of home)) 1) o) outputs (stands (spec_of home) here));
      links = ap (λ (l : LinksValue). l.known) known ∙ (new-links-stand home).0;
      clock = refl;
      state = refl;
      recovering = refl;
    }

pub restarted-stands : (home : Home) (inc : ℕ) (path : PipelineValue) (links : LinksValue) (readers : List ℕ) → IsReplica home →
    ((f : FragSpec) → slice_get home.plan.frags home.frag ≡ Some f → IsSetFor home.plan f path) →
    ((f : FragSpec) → slice_get home.plan.frags home.frag ≡ Some f → StandsForData f.ops path (restarted_inputs (length f.inputs) inc) (restarted_outputs (length readers))) →
    links ≡ new_links home inc → readers ≡ own_readers home →
    StandsForNode home (record { path = path; links = links; readers = readers; clock = 0; state = Stabilization; recovering = true; spent = false }) (restarted_node home inc)
unfolding restarted_node
restarted-stands home inc path links readers place set stands known same =
    let here = frag-there home place in
    let inputs : restarted_inputs (length (streams_of home)) inc ≡ inputs_of (restarted_node home inc) =
    ap (λ (is : List InletState). record { inlets = is; stamps = []; cursor = 0; closed = [] }) (begun-inlets home.plan (restarted_inlet (stable_reader [] 0) (sess_of inc 0)) (streams_of home)) in
    let subs : replicate (length readers) no_session ≡ map (λ _. no_session) (own_readers home) =
    ap (λ (rs : List ℕ). replicate (length rs) no_session) same ∙ same-each no_session (own_readers home) in
    let acks : replicate (length readers) (0, 0) ≡ map (λ _. (0, 0)) (own_readers home) = ap (λ (rs : List ℕ). replicate (length rs) (0, 0)) same ∙ same-each (0, 0) (own_readers home) in
    let outputs : restarted_outputs (length readers) ≡ outputs_of (restarted_node home inc) =
    ap (λ (ss : List Sub). record { subs = ss; acks = replicate (length readers) (0, 0); base = 0 }) subs
    ∙ ap (λ (ns : List Acked). record (outputs_of (restarted_node home inc)) { acks = ns }) acks in
    record {
      setting = set (spec_of home) here;
      knows = subst (λ (l : LinksValue). KnowsNeighbours home l) (sym known) (record { senders = refl; replicas = refl; me = refl });
      readers = same;
      path = subst (λ (x : Inputs). StandsForData (spec_of home).ops path x (outputs_of (restarted_node home inc))) inputs
          (subst (λ (o : Outputs). StandsForData (spec_of home).ops path (restarted_inputs (length (streams_of home)) inc) o) outputs (stands (spec_of home) here));
      links = ap (λ (l : LinksValue). l.known) known ∙ (new-links-stand home).1 inc;
      clock = refl;
      state = refl;
      recovering = refl;
    }
