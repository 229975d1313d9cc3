-- Losing what is held, going on from a snapshot, and reconciling.
use Rattle.std.proofs.Common.{◌≡◌, ℕ, ◌*◌, ◌<◌, ◌^◌, true, false, List, [], ◌∷◌, map, length, refl, sym, ap, subst, ◌∙◌, arith, All}
use Rattle.dpc_model.specs.Inlets.{InletState, restarted_inlet}
use Rattle.dpc_model.specs.Ports.{Port}
use Rattle.dpc_model.specs.Parts.{Inputs, Upstream}
use Rattle.dpc_model.specs.Reading.{stable_reader}
use Rattle.dpc_lists.specs.Lists.{nth}
use Rattle.dpc_model.specs.Sessions.{batches_of, with_batches}
use Rattle.dpc_model.specs.declared.messages.Message.{Message}
use Rattle.dpc_model.specs.declared.tuples.Item.TheVariants.{Undo}
use Rattle.dpc_model.specs.declared.messages.NodeState.TheVariants.{Stable, Stabilization}
use Rattle.dpc_model.specs.declared.tuples.Tuple.{Tuple}
use Rattle.node_model.specs.Mails.{Snap}
use Rattle.node_model.specs.Nodes.{Home, spec_of, own_readers, PlainNode, out_stable}
use Rattle.node_model.specs.NodeSteps.{after_loss, after_adoption, with_fresh_start, emptied_port, adopted_ports, snapshot}
use Rattle.node_model.specs.NodeParts.{inputs_of, outputs_of, upstream_of, neighbours_of}
use Rattle.upstream.specs.Upstreams.{with_no_tick}
use Rattle.node_links.specs.Linking.{LinksValue, with_recovery, with_upstreams}
use Rattle.node_links.proofs.Lawful.{messages-stand}
use Rattle.std.proofs.lemmas.List.{length-map}
use Rattle.fragment_mill.specs.Mills.{MillState}
use Rattle.sunion.specs.Laws.{inlets_anew}
use Rattle.node_model.specs.Stands.{SnapValue}
use Rattle.pipeline.specs.Flowing.{PipelineValue, StandsForData, IsSetAs, IsUndone, stream_at}
use Rattle.pipeline.specs.Recovery.{StandsForSnapshot, snap_of, CanAdopt as CanAdoptPath, lost_inputs, lost_outputs, adopted_inputs, adopted_outputs}
use Rattle.node_model.proofs.Viewed.{inlets, mapped-inlets, done-is}
use Rattle.node_core.specs.Standing.{NodeValue, StandsForNode, AreMails}
use Rattle.node_core.specs.Stepping.{CanAdopt, taken_back, plain_mail}
use Rattle.node_core.proofs.Mailing.{readers-mails}
use Rattle.node_core.proofs.Frames.{set-later, stand-path, inlets-many, stable-at}

-- ---- what is lost

loss-inputs : (home : Home) (p : PlainNode) → inputs_of (after_loss home p) ≡ lost_inputs (inputs_of p)
unfolding after_loss
loss-inputs home p =
    ap (λ (is : List InletState). record { inlets = is; stamps = []; cursor = 0; closed = [] })
    (mapped-inlets (λ (i : InletState). restarted_inlet (stable_reader [] 0) i.sess) (emptied_port [] 0) (λ q. refl) p.ports)

pub lost-stands : (home : Home) (v : NodeValue) (p : PlainNode) (path : PipelineValue) (links : LinksValue) → StandsForNode home v p → IsSetAs v.path path →
    StandsForData (spec_of home).ops path (lost_inputs (inputs_of p)) (lost_outputs (outputs_of p)) → links ≡ record v.links { known = with_recovery v.links.known } →
    StandsForNode home (record v { path = path; links = links; state = Stabilization; recovering = true }) (after_loss home p)
unfolding after_loss
lost-stands home v p path links h set stood same =
    let known : with_recovery v.links.known ≡ neighbours_of (after_loss home p) = ap with_recovery h.links ∙ (messages-stand home p).2 in
    let there : StandsForNode home (record v { path = path; links = record v.links { known = with_recovery v.links.known }; state = Stabilization; recovering = true }) (after_loss home p) = record {
      setting = set-later home.plan (spec_of home) v.path path h.setting set;
      knows = record { senders = h.knows.senders; replicas = h.knows.replicas; me = h.knows.me };
      readers = h.readers;
      path = subst (λ (x : Inputs). StandsForData (spec_of home).ops path x (lost_outputs (outputs_of p))) (sym (loss-inputs home p)) stood;
      links = known;
      clock = h.clock;
      state = refl;
      recovering = refl;
    } in
    subst (λ (l : LinksValue). StandsForNode home (record v { path = path; links = l; state = Stabilization; recovering = true }) (after_loss home p)) (sym same) there

-- ---- what is taken over

adopted-inlets : (b : ℕ) (inputs : List (List Tuple)) (ports : List Port) → inlets (adopted_ports b inputs ports) ≡ inlets_anew b inputs (inlets ports)
adopted-inlets b [] ports = refl
adopted-inlets b (ts ∷ rest) [] = refl
adopted-inlets b (ts ∷ rest) (p ∷ ports) = ap (λ (is : List InletState). restarted_inlet (stable_reader ts b) p.inlet.sess ∷ is) (adopted-inlets b rest ports)

adopted-seen : (b : ℕ) (inputs : List (List Tuple)) (ports : List Port) → length inputs ≡ length ports → map with_no_tick (map upstream_of ports) ≡ map upstream_of (adopted_ports b inputs ports)
adopted-seen b [] [] many = refl
adopted-seen b [] (p ∷ ports) many = cc
adopted-seen b (ts ∷ rest) [] many = cc
adopted-seen b (ts ∷ rest) (p ∷ ports) many = ap (λ (us : List Upstream). with_no_tick (upstream_of p) ∷ us) (adopted-seen b rest ports (omega (arith, many)))

adoption-inputs : (home : Home) (s : Snap) (p : PlainNode) → inputs_of (after_adoption home s p) ≡ adopted_inputs home.plan.width s (inputs_of p)
unfolding after_adoption
adoption-inputs home s p =
    ap (λ (is : List InletState). record { inlets = is; stamps = []; cursor = s.cursor; closed = [] }) (adopted-inlets (s.cursor * home.plan.width) s.inputs p.ports)

-- as many ports as the snapshot has
pub ports-many : (v : NodeValue) (home : Home) (p : PlainNode) (snapshot : SnapValue MillState) (s : Snap) → CanAdopt v snapshot home p s → length s.inputs ≡ length p.ports
ports-many v home p snapshot s can = can.fits.ports ∙ sym can.fit.ports

pub counts-many : (v : NodeValue) (home : Home) (p : PlainNode) (snapshot : SnapValue MillState) (s : Snap) → CanAdopt v snapshot home p s →
    length snapshot.counts ≡ length v.path.union.union.inlets
counts-many v home p snapshot s can =
    ap length can.alike.counts ∙ length-map s.inputs length ∙ ports-many v home p snapshot s can ∙ sym (inlets-many home v p can.stands)

pub cursor-low : (v : NodeValue) (home : Home) (p : PlainNode) (snapshot : SnapValue MillState) (s : Snap) → CanAdopt v snapshot home p s → snapshot.cursor * v.path.union.width < 2 ^ 64
cursor-low v home p snapshot s can =
    let same : snapshot.cursor * v.path.union.width ≡ s.cursor * home.plan.width = ap (λ (k : ℕ). k * v.path.union.width) can.alike.cursor ∙ ap (λ (w : ℕ). s.cursor * w) can.stands.setting.width in
    let end = can.fits.end in
    let low = can.fit.end in
    omega (arith, same, end, low)

-- so the data path can take it over
pub can-adopt-path : (v : NodeValue) (home : Home) (p : PlainNode) (snapshot : SnapValue MillState) (s : Snap) → CanAdopt v snapshot home p s → v.recovering ≡ true →
    CanAdoptPath (spec_of home).ops v.path (inputs_of p) (outputs_of p) snapshot s
can-adopt-path v home p snapshot s can recovers =
    record {
      stands = can.stands.path;
      snapshot_stands = subst (λ (w : ℕ). StandsForSnapshot (spec_of home).ops w snapshot s) (sym can.stands.setting.width) can.alike;
      below = subst (λ (w : ℕ). All (λ (ts : List Tuple). All (λ (t : Tuple). t.stime < s.cursor * w) ts) s.inputs) (sym can.stands.setting.width) can.fits.below;
      unacked = can.fit.silent (sym can.stands.recovering ∙ recovers);
    }

pub adopted-stands : (v : NodeValue) (home : Home) (p : PlainNode) (snapshot : SnapValue MillState) (s : Snap) (path : PipelineValue) (links : LinksValue) → CanAdopt v snapshot home p s →
    IsSetAs v.path path → StandsForData (spec_of home).ops path (adopted_inputs v.path.union.width s (inputs_of p)) (adopted_outputs s (outputs_of p)) →
    links ≡ record v.links { known = with_upstreams with_no_tick v.links.known } →
    StandsForNode home (record v { path = path; links = links; state = Stable; recovering = false }) (after_adoption home s p)
unfolding after_adoption
adopted-stands v home p snapshot s path links can set stood same =
    let h = can.stands in
    let known : with_upstreams with_no_tick v.links.known ≡ neighbours_of (after_adoption home s p) =
    ap (with_upstreams with_no_tick) h.links
    ∙ ap (λ (us : List Upstream). record (neighbours_of p) { upstreams = us }) (adopted-seen (s.cursor * home.plan.width) s.inputs p.ports (ports-many v home p snapshot s can)) in
    let inputs : adopted_inputs v.path.union.width s (inputs_of p) ≡ inputs_of (after_adoption home s p) =
    ap (λ (w : ℕ). adopted_inputs w s (inputs_of p)) h.setting.width ∙ sym (adoption-inputs home s p) in
    let there : StandsForNode home (record v { path = path; links = record v.links { known = with_upstreams with_no_tick v.links.known }; state = Stable; recovering = false }) (after_adoption home s p) = record {
      setting = set-later home.plan (spec_of home) v.path path h.setting set;
      knows = record { senders = h.knows.senders; replicas = h.knows.replicas; me = h.knows.me };
      readers = h.readers;
      path = subst (λ (x : Inputs). StandsForData (spec_of home).ops path x (adopted_outputs s (outputs_of p))) inputs stood;
      links = known;
      clock = h.clock;
      state = refl;
      recovering = refl;
    } in
    subst (λ (l : LinksValue). StandsForNode home (record v { path = path; links = l; state = Stable; recovering = false }) (after_adoption home s p)) (sym same) there

-- ---- a fresh start

pub afresh-stands : (home : Home) (v : NodeValue) (p : PlainNode) → StandsForNode home v p → StandsForNode home (record v { state = Stable; recovering = false }) (with_fresh_start p)
afresh-stands home v p h =
    record { setting = h.setting; knows = h.knows; readers = h.readers; path = h.path; links = h.links; clock = h.clock; state = refl; recovering = refl }

-- ---- reconciling

-- tentative output goes, and what is sent is what the plain node sends
pub taken-back-stands : (home : Home) (v : NodeValue) (p : PlainNode) (path : PipelineValue) (sends : List (ℕ × Message)) → StandsForNode home v p → IsSetAs v.path path →
    IsUndone (spec_of home).ops v.path path (inputs_of p) (outputs_of p) sends → StandsForNode home (record v { path = path; state = Stabilization }) (taken_back home p).after
taken-back-stands home v p path sends h set undone =
    let h2 : StandsForNode home (record v { state = Stabilization }) (record p { state = Stabilization }) =
    record { setting = h.setting; knows = h.knows; readers = h.readers; path = h.path; links = h.links; clock = h.clock; state = refl; recovering = h.recovering } in
    let count : length (stream_at (spec_of home).ops v.path (inputs_of p)).stable ≡ length (out_stable home p) = sym (ap length (stable-at home v p h)) in
    stand-path home (record v { state = Stabilization }) (record p { state = Stabilization }) (taken_back home p).after path _ _ h2 set undone.stands refl
    (ap (λ (k : ℕ). record (outputs_of p) { subs = with_batches (Undo k ∷ []) p.subs }) (sym count)) refl refl refl refl

pub taken-back-sends : (home : Home) (v : NodeValue) (p : PlainNode) (path : PipelineValue) (sends : List (ℕ × Message)) → StandsForNode home v p →
    IsUndone (spec_of home).ops v.path path (inputs_of p) (outputs_of p) sends →
    AreMails home (map (λ (m : ℕ × Message). plain_mail (nth 0 v.readers m.0) m.1) sends) (taken_back home p).sends
taken-back-sends home v p path sends h undone =
    let count : length (stream_at (spec_of home).ops v.path (inputs_of p)).stable ≡ length (out_stable home p) = sym (ap length (stable-at home v p h)) in
    let same : sends ≡ batches_of (Undo (length (out_stable home p)) ∷ []) p.subs = undone.answer ∙ ap (λ (k : ℕ). batches_of (Undo k ∷ []) p.subs) count in
    subst (λ (ms : List (ℕ × Message)). AreMails home (map (λ (m : ℕ × Message). plain_mail (nth 0 v.readers m.0) m.1) ms) (taken_back home p).sends) (sym same)
    (subst (λ (rs : List ℕ). AreMails home (map (λ (m : ℕ × Message). plain_mail (nth 0 rs m.0) m.1) (batches_of (Undo (length (out_stable home p)) ∷ []) p.subs)) (taken_back home p).sends)
    (sym h.readers) (readers-mails home (own_readers home) (batches_of (Undo (length (out_stable home p)) ∷ []) p.subs)))

-- ---- a snapshot

pub snapshot-stands : (home : Home) (v : NodeValue) (p : PlainNode) (s : SnapValue MillState) → StandsForNode home v p →
    StandsForSnapshot (spec_of home).ops v.path.union.width s (snap_of v.path.union.width (inputs_of p) (outputs_of p)) → StandsForSnapshot (spec_of home).ops home.plan.width s (snapshot home p)
snapshot-stands home v p s h stood =
    let same : snap_of home.plan.width (inputs_of p) (outputs_of p) ≡ snapshot home p = ap (λ (ts : List (List Tuple)). record { cursor = p.cursor; inputs = ts; base = p.base }) (sym (done-is home p)) in
    subst (λ (t : Snap). StandsForSnapshot (spec_of home).ops home.plan.width s t) same
    (subst (λ (w : ℕ). StandsForSnapshot (spec_of home).ops w s (snap_of w (inputs_of p) (outputs_of p))) h.setting.width stood)
