-- What a node leaves that ends marks, and where a replica truncated what was asked for.
use Rattle.std.proofs.Common.{◌≡◌, ℕ, zero, suc, ◌+◌, ◌*◌, ◌<◌, Bool, true, false, not, ◌&&◌, List, [], ◌∷◌, map, length, refl, sym, ap, subst, ◌∙◌, arith, Option, Some}
use Rattle.std.specs.List.{AllZip}
use Rattle.std.specs.Prelude.{if◌then◌else◌}
use Rattle.dpc_lists.specs.Lists.{nth, changed}
use Rattle.dpc_model.specs.Inlets.{InletState, same_sess}
use Rattle.dpc_model.specs.Ports.{Port, no_port, sender_at, on_truncated, all_truncated, without_ended_marks}
use Rattle.dpc_model.specs.Parts.{Inputs, Upstream, Neighbours}
use Rattle.dpc_model.specs.PartStands.{InletValue, StandsForInlet}
use Rattle.dpc_model.specs.Replicas.{with_mark, after_count}
use Rattle.dpc_model.specs.declared.messages.Sess.{Sess}
use Rattle.dpc_lists.proofs.Elements.{length-changed, changed-to-same, nth-here}
use Rattle.dpc_lists.proofs.Truths.{not-twice}
use Rattle.dpc_model.proofs.Alike.{same_sess-self}
use Rattle.upstream.specs.Upstreams.{with_marks_ended, with_truncation, port_by}
use Rattle.sunion.specs.Unions.{no_value}
use Rattle.node_links.specs.Linking.{LinksValue, with_upstream, no_upstream, HaveNoMarks}
use Rattle.node_links.proofs.Kept.{no-mark-ends}
use Rattle.node_links.proofs.Lawful.{messages-stand}
use Rattle.node_model.specs.Nodes.{Home, PlainNode, spec_of, streams_of, buckets_of}
use Rattle.node_model.specs.NodeSteps.{with_port, after_loss, on_truncation}
use Rattle.node_model.specs.NodeSteps.{with_marks_ended as with_ended_marks}
use Rattle.node_model.specs.NodeParts.{inputs_of, outputs_of, upstream_of, neighbours_of}
use Rattle.pipeline.proofs.Plainly.{sess-shown}
use Rattle.node_model.specs.Fitting.{AreFitInputs, IsFit}
use Rattle.node_model.proofs.Viewed.{inlets, inlet-at}
use Rattle.law_node.proofs.Messages.{marks-inputs, truncated-inputs, changed-there}
use Rattle.node_core.specs.Standing.{NodeValue, StandsForNode}
use Rattle.node_core.proofs.Frames.{stand-links, upstreams-many}
use Rattle.node_core.proofs.Delivering.{upstream-at}

-- ---- marks

-- of the first so many ports the marks are ended that their counts reach
abbrev pub ended : ℕ → List InletValue → List Upstream → List Upstream
ended zero is us = us
ended (suc k) [] us = us
ended (suc k) (i ∷ is) [] = []
ended (suc k) (i ∷ is) (u ∷ us) = with_marks_ended i.count u ∷ ended k is us

abbrev pub ended_node : ℕ → NodeValue → NodeValue
ended_node k v = record v { links = record v.links { known = record v.links.known { upstreams = ended k v.path.union.union.inlets v.links.known.upstreams } } }

pub ended-many : (k : ℕ) (is : List InletValue) (us : List Upstream) → length (ended k is us) ≡ length us
ended-many zero is us = refl
ended-many (suc k) [] us = refl
ended-many (suc k) (i ∷ is) [] = refl
ended-many (suc k) (i ∷ is) (u ∷ us) = ap suc (ended-many k is us)

ended-next : (k : ℕ) (is : List InletValue) (us : List Upstream) → k < length is → k < length us → changed k (with_marks_ended (nth no_value is k).count) (ended k is us) ≡ ended (suc k) is us
ended-next k [] us some low = absurd (omega (arith, some))
ended-next k (i ∷ is) [] some low = absurd (omega (arith, low))
ended-next zero (i ∷ is) (u ∷ us) some low = refl
ended-next (suc k) (i ∷ is) (u ∷ us) some low = ap (λ (vs : List Upstream). with_marks_ended i.count u ∷ vs) (ended-next k is us (omega (arith, some)) (omega (arith, low)))

-- the marks of one port more are ended
pub ended-more : (k count : ℕ) (old v : NodeValue) (links : LinksValue) → v ≡ ended_node k old → count ≡ (nth no_value v.path.union.union.inlets k).count →
    links ≡ record v.links { known = with_upstream k (with_marks_ended count) v.links.known } → k < length old.path.union.union.inlets → k < length old.links.known.upstreams →
    record v { links = links } ≡ ended_node (k + 1) old
ended-more k count old v links is counted made some low =
    let with_links : NodeValue → LinksValue → NodeValue = λ v l. record v { links = l } in
    let seen : NodeValue → ℕ → LinksValue = λ v n. record v.links { known = with_upstream k (with_marks_ended n) v.links.known } in
    let with_seen : List Upstream → NodeValue = λ us. record old { links = record old.links { known = record old.links.known { upstreams = us } } } in
    let next : k + 1 ≡ suc k = omega arith in
    ap (λ (l : LinksValue). with_links v l) made ∙ ap (λ (n : ℕ). with_links v (seen v n)) counted
    ∙ ap (λ (w : NodeValue). with_links w (seen w (nth no_value w.path.union.union.inlets k).count)) is
    ∙ ap with_seen (ended-next k old.path.union.union.inlets old.links.known.upstreams some low) ∙ sym (ap (λ (n : ℕ). ended_node n old) next)

ended-all : (b : ℕ) (is : List InletValue) (ports : List Port) → AllZip (StandsForInlet b) is (inlets ports) → ended (length ports) is (map upstream_of ports) ≡ map upstream_of (map without_ended_marks ports)
ended-all b is [] z = refl
ended-all b [] (q ∷ ports) z = absurd z
ended-all b (i ∷ is) (q ∷ ports) z =
    let marked : ℕ → Upstream = λ n. record { chosen = q.chosen; watches = map (after_count n) q.watches; ticks = q.ticks } in
    ap (λ (n : ℕ). marked n ∷ ended (length ports) is (map upstream_of ports)) z.0.count
    ∙ ap (λ (us : List Upstream). marked (length q.inlet.held.stable) ∷ us) (ended-all b is ports z.1)

pub marks-ended : (home : Home) (v new : NodeValue) (p : PlainNode) (n : ℕ) → StandsForNode home v p → n ≡ length v.links.known.upstreams → new ≡ ended_node n v → StandsForNode home new (with_ended_marks p)
marks-ended home v new p n h many is =
    let is_of = v.path.union.union.inlets in
    let all : n ≡ length p.ports = many ∙ upstreams-many home v p h in
    let known : record v.links.known { upstreams = ended n is_of v.links.known.upstreams } ≡ neighbours_of (with_ended_marks p) =
    ap (λ (k : Neighbours). record k { upstreams = ended n is_of k.upstreams }) h.links
    ∙ ap (λ (m : ℕ). record (neighbours_of p) { upstreams = ended m is_of (map upstream_of p.ports) }) all
    ∙ ap (λ (us : List Upstream). record (neighbours_of p) { upstreams = us }) (ended-all ((inputs_of p).cursor * v.path.union.width) is_of p.ports h.path.ports.inlets) in
    subst (λ (w : NodeValue). StandsForNode home w (with_ended_marks p)) (sym is) (stand-links home v p (with_ended_marks p) _ h known (marks-inputs p) refl refl refl refl)

-- nothing ends where nothing is marked
ended-none : (k : ℕ) (is : List InletValue) (us : List Upstream) → HaveNoMarks us → ended k is us ≡ us
ended-none zero is us h = refl
ended-none (suc k) [] us h = refl
ended-none (suc k) (i ∷ is) [] h = refl
ended-none (suc k) (i ∷ is) (u ∷ us) h = ap (λ (w : Upstream). w ∷ ended k is us) (no-mark-ends i.count u h.0) ∙ ap (λ (vs : List Upstream). u ∷ vs) (ended-none k is us h.1)

pub no-marks : (home : Home) (v : NodeValue) (p : PlainNode) → StandsForNode home v p → HaveNoMarks v.links.known.upstreams → StandsForNode home v (with_ended_marks p)
no-marks home v p h none =
    let us = v.links.known.upstreams in
    let n = length us in
    let with_seen : List Upstream → NodeValue = λ us. record v { links = record v.links { known = record v.links.known { upstreams = us } } } in
    marks-ended home v v p n h refl (ap with_seen (sym (ended-none n v.path.union.union.inlets us none)))

-- ---- truncations

-- the session of a port
session-at : (home : Home) (v : NodeValue) (p : PlainNode) (port : ℕ) → StandsForNode home v p → port < length v.path.union.union.inlets →
    (nth no_value v.path.union.union.inlets port).state.sess ≡ (nth no_port p.ports port).inlet.sess
session-at home v p port h low =
    sess-shown (spec_of home).ops v.path (inputs_of p) (outputs_of p) port low h.path ∙ ap (λ (i : InletState). i.sess) (inlet-at port p.ports)

same-session : (s u t : Sess) (b : Bool) → u ≡ t → b ≡ not (same_sess s u) → same_sess s t ≡ not b
same-session s u t b e told = ap (λ (x : Sess). same_sess s x) (sym e) ∙ not-twice (same_sess s u) b told

-- a node whose port has a mark
abbrev pub marked : Sess → ℕ → ℕ → ℕ → PlainNode → PlainNode
marked s port r base p = with_port port (λ _. on_truncated r s base (nth no_port p.ports port)) p

truncation-is : (home : Home) (s : Sess) (port r base : ℕ) (p : PlainNode) (same all : Bool) → same_sess s (nth no_port p.ports port).inlet.sess ≡ same →
    all_truncated (on_truncated r s base (nth no_port p.ports port)) ≡ all →
    on_truncation home s base (Some (port, r)) p ≡ (if same && all then after_loss home (marked s port r base p) else marked s port r base p)
truncation-is home s port r base p same all e f =
    let m = marked s port r base p in
    let leaves : Bool → Bool → PlainNode = λ c d. if c && d then after_loss home m else m in
    ap (λ (c : Bool). leaves c (all_truncated (on_truncated r s base (nth no_port p.ports port)))) e ∙ ap (λ (d : Bool). leaves same d) f

-- another session's truncation changes nothing
pub truncation-left : (home : Home) (v : NodeValue) (p : PlainNode) (a port r base : ℕ) (s u : Sess) → StandsForNode home v p → Some (port, r) ≡ sender_at home.plan (streams_of home) a →
    port < length v.path.union.union.inlets → u ≡ (nth no_value v.path.union.union.inlets port).state.sess → true ≡ not (same_sess s u) →
    StandsForNode home v (on_truncation home s base (sender_at home.plan (streams_of home) a) p)
truncation-left home v p a port r base s u h found low is other =
    let old = nth no_port p.ports port in
    let differs : same_sess s old.inlet.sess ≡ false = same-session s u old.inlet.sess true (is ∙ session-at home v p port h low) other in
    let stays : on_truncated r s base old ≡ old = ap (λ (b : Bool). record old { watches = if b then changed r (with_mark base) old.watches else old.watches }) differs in
    let same : marked s port r base p ≡ p = ap (λ (q : Port). with_port port (λ _. q) p) stays ∙ ap (λ (ports : List Port). record p { ports = ports }) (changed-to-same no_port port p.ports) in
    let left : on_truncation home s base (sender_at home.plan (streams_of home) a) p ≡ p =
    ap (λ (o : Option (ℕ × ℕ)). on_truncation home s base o p) (sym found) ∙ truncation-is home s port r base p false _ differs refl ∙ same in
    subst (λ (n : PlainNode). StandsForNode home v n) (sym left) h

-- a replica of the port is marked
pub mark-stands : (home : Home) (v : NodeValue) (p : PlainNode) (links : LinksValue) (port r base : ℕ) (s : Sess) → StandsForNode home v p → same_sess s (nth no_port p.ports port).inlet.sess ≡ true →
    links ≡ record v.links { known = with_upstream port (with_truncation r base) v.links.known } → StandsForNode home (record v { links = links }) (marked s port r base p)
mark-stands home v p links port r base s h same is =
    let old = nth no_port p.ports port in
    let m = marked s port r base p in
    let marks : Port → Port = λ q. record q { watches = (on_truncated r old.inlet.sess base q).watches } in
    let alike : marks old ≡ on_truncated r s base old = ap (λ (b : Bool). record old { watches = if b then changed r (with_mark base) old.watches else old.watches }) (same_sess-self old.inlet.sess ∙ sym same) in
    let here : with_port port marks p ≡ m =
    ap (λ (ports : List Port). record p { ports = ports }) (sym (changed-there no_port marks port p.ports)) ∙ ap (λ (q : Port). with_port port (λ _. q) p) alike in
    let known : with_upstream port (with_truncation r base) v.links.known ≡ neighbours_of m =
    ap (λ (k : Neighbours). with_upstream port (with_truncation r base) k) h.links ∙ (messages-stand home p).1 s port r base ∙ ap neighbours_of here in
    subst (λ (l : LinksValue). StandsForNode home (record v { links = l }) m) (sym is) (stand-links home v p m _ h known (truncated-inputs s port r base p) refl refl refl refl)

pub fit-marked : (home : Home) (p : PlainNode) (port r base : ℕ) (s : Sess) → IsFit home p → IsFit home (marked s port r base p)
fit-marked home p port r base s fit =
    record {
      end = fit.end;
      inputs = subst (λ (x : Inputs). AreFitInputs home.plan.width (buckets_of home.plan) home.plan.end x) (sym (truncated-inputs s port r base p)) fit.inputs;
      ports = length-changed port (λ _. on_truncated r s base (nth no_port p.ports port)) p.ports ∙ fit.ports;
      readers = fit.readers;
      silent = fit.silent;
    }

-- whether all of its replicas are
all-marked : (home : Home) (v : NodeValue) (p : PlainNode) (links : LinksValue) (port r base : ℕ) (s : Sess) → StandsForNode home v p → same_sess s (nth no_port p.ports port).inlet.sess ≡ true →
    links ≡ record v.links { known = with_upstream port (with_truncation r base) v.links.known } → port < length v.links.known.upstreams →
    all_truncated (port_by false false (nth no_upstream links.known.upstreams port)) ≡ all_truncated (on_truncated r s base (nth no_port p.ports port))
all-marked home v p links port r base s h same is low =
    let old = nth no_port p.ports port in
    let tells : Upstream → Bool = λ u. all_truncated (port_by false false u) in
    ap (λ (l : LinksValue). tells (nth no_upstream l.known.upstreams port)) is ∙ ap tells (nth-here no_upstream port (with_truncation r base) v.links.known.upstreams low)
    ∙ ap (λ (u : Upstream). tells (with_truncation r base u)) (upstream-at home v p port h)
    ∙ ap (λ (b : Bool). all_truncated (record old { watches = if b then changed r (with_mark base) old.watches else old.watches })) (sym same)

pub truncation-marked : (home : Home) (v : NodeValue) (p : PlainNode) (links : LinksValue) (a port r base : ℕ) (s u : Sess) (all : Bool) → StandsForNode home v p → IsFit home p →
    Some (port, r) ≡ sender_at home.plan (streams_of home) a → port < length v.path.union.union.inlets → port < length v.links.known.upstreams →
    u ≡ (nth no_value v.path.union.union.inlets port).state.sess → false ≡ not (same_sess s u) → links ≡ record v.links { known = with_upstream port (with_truncation r base) v.links.known } →
    all ≡ all_truncated (port_by false false (nth no_upstream links.known.upstreams port)) →
    StandsForNode home (record v { links = links }) (marked s port r base p) × IsFit home (marked s port r base p)
    × (on_truncation home s base (sender_at home.plan (streams_of home) a) p ≡ (if all then after_loss home (marked s port r base p) else marked s port r base p))
truncation-marked home v p links a port r base s u all h fit found inside low is this made told =
    let same : same_sess s (nth no_port p.ports port).inlet.sess ≡ true = same-session s u (nth no_port p.ports port).inlet.sess false (is ∙ session-at home v p port h inside) this in (
      mark-stands home v p links port r base s h same made,
      fit-marked home p port r base s fit,
      ap (λ (o : Option (ℕ × ℕ)). on_truncation home s base o p) (sym found)
          ∙ truncation-is home s port r base p true all same (sym (told ∙ all-marked home v p links port r base s h same made low)),
    )

-- a node that stands for what a plain node is
pub stand-as : (home : Home) (v : NodeValue) (m n : PlainNode) → m ≡ n → StandsForNode home v n → StandsForNode home v m
stand-as home v m n e h = subst (λ (q : PlainNode). StandsForNode home v q) (sym e) h
