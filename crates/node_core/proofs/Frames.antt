-- A node goes on to stand for a plain one where its parts do.
use Rattle.std.proofs.Common.{◌≡◌, ℕ, ◌*◌, Bool, length, sym, ap, subst, ◌∙◌}
use Rattle.std.proofs.lemmas.Slice.Zip.{AllZip-long}
use Rattle.std.proofs.lemmas.List.{length-map}
use Rattle.dpc_model.specs.Fragments.{fragment_value}
use Rattle.dpc_model.specs.Ports.{Port}
use Rattle.dpc_model.specs.Parts.{Inputs, Stream, stream_by, Outputs, Neighbours}
use Rattle.dpc_model.specs.PartStands.{StandsForInlet}
use Rattle.dpc_model.specs.declared.plans.FragSpec.{FragSpec}
use Rattle.dpc_model.specs.declared.plans.Plan.{Plan}
use Rattle.node_model.specs.Nodes.{Home, spec_of, PlainNode, out_stable}
use Rattle.node_model.specs.NodeParts.{inputs_of, outputs_of, upstream_of, neighbours_of}
use Rattle.pipeline.specs.Flowing.{PipelineValue, StandsForData, IsSetAs, stream_at}
use Rattle.pipeline.specs.Recovery.{IsSetFor}
use Rattle.law_node.proofs.Stepped.{made_by}
use Rattle.node_model.proofs.Viewed.{made_of, stable-is}
use Rattle.node_core.specs.Standing.{NodeValue, StandsForNode}

-- ---- what is set

pub set-later : (plan : Plan) (f : FragSpec) (v w : PipelineValue) → IsSetFor plan f v → IsSetAs v w → IsSetFor plan f w
set-later plan f v w h s =
    record { width = s.inputs.width ∙ h.width; buckets = s.inputs.buckets ∙ h.buckets; delay = s.inputs.delay ∙ h.delay; marks = s.marks ∙ h.marks }

-- ---- one part changes

-- the inputs and outputs change, and what is known of others stays
pub stand-path : (home : Home) (v : NodeValue) (p q : PlainNode) (path : PipelineValue) (x : Inputs) (o : Outputs) → StandsForNode home v p → IsSetAs v.path path →
    StandsForData (spec_of home).ops path x o → inputs_of q ≡ x → outputs_of q ≡ o → neighbours_of q ≡ neighbours_of p → q.clock ≡ p.clock → q.state ≡ p.state → q.recovering ≡ p.recovering →
    StandsForNode home (record v { path = path }) q
stand-path home v p q path x o h set stood inputs outputs others clock state recovering =
    record {
      setting = set-later home.plan (spec_of home) v.path path h.setting set;
      knows = h.knows;
      readers = h.readers;
      path = subst (λ (y : Inputs). StandsForData (spec_of home).ops path y (outputs_of q)) (sym inputs) (subst (λ (u : Outputs). StandsForData (spec_of home).ops path x u) (sym outputs) stood);
      links = h.links ∙ sym others;
      clock = h.clock ∙ sym clock;
      state = h.state ∙ sym state;
      recovering = h.recovering ∙ sym recovering;
    }

-- what is known of others changes, and the inputs and outputs stay
pub stand-links : (home : Home) (v : NodeValue) (p q : PlainNode) (known : Neighbours) → StandsForNode home v p → known ≡ neighbours_of q →
    inputs_of q ≡ inputs_of p → outputs_of q ≡ outputs_of p → q.clock ≡ p.clock → q.state ≡ p.state → q.recovering ≡ p.recovering →
    StandsForNode home (record v { links = record v.links { known = known } }) q
stand-links home v p q known h same inputs outputs clock state recovering =
    record {
      setting = h.setting;
      knows = record { senders = h.knows.senders; replicas = h.knows.replicas; me = h.knows.me };
      readers = h.readers;
      path = subst (λ (y : Inputs). StandsForData (spec_of home).ops v.path y (outputs_of q)) (sym inputs) (subst (λ (u : Outputs). StandsForData (spec_of home).ops v.path (inputs_of p) u) (sym outputs) h.path);
      links = same;
      clock = h.clock ∙ sym clock;
      state = h.state ∙ sym state;
      recovering = h.recovering ∙ sym recovering;
    }

-- ---- how many there are

-- as many inlets as ports, as many of what is known of their senders, and as many sessions
pub inlets-many : (home : Home) (v : NodeValue) (p : PlainNode) → StandsForNode home v p → length v.path.union.union.inlets ≡ length p.ports
inlets-many home v p h =
    sym (AllZip-long (StandsForInlet ((inputs_of p).cursor * v.path.union.width)) v.path.union.union.inlets (inputs_of p).inlets h.path.ports.inlets)
    ∙ length-map p.ports (λ (q : Port). q.inlet)

pub upstreams-many : (home : Home) (v : NodeValue) (p : PlainNode) → StandsForNode home v p → length v.links.known.upstreams ≡ length p.ports
upstreams-many home v p h = ap (λ (n : Neighbours). length n.upstreams) h.links ∙ length-map p.ports upstream_of

pub sessions-many : (home : Home) (v : NodeValue) (p : PlainNode) → StandsForNode home v p → length v.path.output.subs ≡ length p.subs
sessions-many home v p h = ap length h.path.output.subs

-- ---- the output

-- the stream that its data path makes of inputs is the plain node's
pub made-as : (home : Home) (v : NodeValue) (p : PlainNode) (x : Inputs) → StandsForNode home v p → stream_at (spec_of home).ops v.path x ≡ made_by home x
made-as home v p x h =
    ap (λ (w : ℕ). stream_by (fragment_value (spec_of home).ops) w v.path.passing x) h.setting.width
    ∙ ap (λ (b : Bool). stream_by (fragment_value (spec_of home).ops) home.plan.width b x) h.setting.marks

pub made-at : (home : Home) (v : NodeValue) (p : PlainNode) → StandsForNode home v p → stream_at (spec_of home).ops v.path (inputs_of p) ≡ made_of home p
made-at home v p h = made-as home v p (inputs_of p) h

pub stable-at : (home : Home) (v : NodeValue) (p : PlainNode) → StandsForNode home v p → out_stable home p ≡ (stream_at (spec_of home).ops v.path (inputs_of p)).stable
stable-at home v p h = stable-is home p ∙ ap (λ (s : Stream). s.stable) (sym (made-at home v p h))
