-- What a snapshot of a data path stands for, and the data path that goes on from one.
use Rattle.std.proofs.Common.{◌≡◌, ℕ, ◌+◌, ◌-◌, ◌*◌, ◌^◌, ◌<◌, ◌≤◌, List, [], ◌∷◌, ◌++◌, map, length, drop, refl, sym, ap, subst, ◌∙◌, arith, append-nil, length-drop, false, None}
use Rattle.std.specs.Prelude.{IfSome}
use Rattle.std.specs.List.{All}
use Rattle.std.proofs.lemmas.List.Elements.{All-head, All-tail}
use Rattle.std.proofs.lemmas.List.{length-map}
use Rattle.std.proofs.lemmas.Slice.Zip.{AllZip-long}
use Rattle.dpc_model.specs.Operators.{all_of}
use Rattle.dpc_model.specs.Streams.{cut}
use Rattle.dpc_model.specs.Fragments.{serial, fragment_value}
use Rattle.dpc_model.specs.Inlets.{InletState, restarted_inlet}
use Rattle.dpc_model.specs.Parts.{Inputs, frontier_of, done_in, processed, processed_and_closed, Stream, stream_by, Outputs}
use Rattle.dpc_model.specs.PartStands.{KeeperValue, at_cursor, OutputValue, StandsForInlet, StandsForPorts, StandsForOutput, StandsForKeeper}
use Rattle.dpc_model.specs.Reading.{stable_reader}
use Rattle.dpc_model.specs.Sessions.{Acked, with_session_shut}
use Rattle.dpc_model.specs.declared.operators.OpSpec.{OpSpec}
use Rattle.dpc_model.specs.declared.sessions.Sub.{Sub}
use Rattle.dpc_model.specs.declared.tuples.Tagged.{Tagged}
use Rattle.dpc_model.specs.declared.tuples.Tuple.{Tuple}
use Rattle.dpc_model.proofs.Cuts.{cut-below}
use Rattle.law_buckets.proofs.Advancing.{open-stream}
use Rattle.checkpoint_redo.specs.Keeping.{KeptValue}
use Rattle.fragment_mill.specs.Mills.{MillState, MillAfter}
use Rattle.node_model.specs.Mails.{Snap}
use Rattle.node_model.specs.Stands.{SnapValue}
use Rattle.soutput.specs.Giving.{restarted_output}
use Rattle.sunion.specs.Values.{SUnionValue}
use Rattle.sunion.specs.Unions.{restarted_union, after_advancing}
use Rattle.sunion.specs.Laws.{inlets_anew}
use Rattle.sunion.proofs.Lawful.{restarting-stands}
use Rattle.pipeline.specs.Flowing.{PipelineValue, IsMillOf, StandsForData, CanProcess, stably_upto, count_upto}
use Rattle.pipeline.specs.Recovery.{StandsForSnapshot, snap_of, lost_inputs, zeros_for, adopted_inputs, adopted_outputs, CanAdopt}
use Rattle.pipeline.proofs.Ranges.{ends-below}
use Rattle.pipeline.proofs.Wholes.{work-data}
use Rattle.pipeline.proofs.Work.{cursor-mill}

-- ---- a snapshot

pub snaps : (ops : List OpSpec) (v : PipelineValue) (x : Inputs) (o : Outputs) (s : SnapValue MillState) → StandsForData ops v x o → s.cursor ≡ v.union.union.cursor →
    s.counts ≡ map length (done_in v.union.width x) → s.mill ≡ at_cursor v.keeper.keeper → s.base ≡ v.output.base → s.kept ≡ v.output.kept → StandsForSnapshot ops v.union.width s (snap_of v.union.width x o)
snaps ops v x o s h cursor counts mill base kept =
    let w = v.union.width in
    let k = v.keeper.keeper in
    record {
      cursor = cursor ∙ h.ports.cursor;
      counts = counts;
      mill = subst (λ (m : MillState). MillAfter m (processed w x) x.cursor) (sym mill) (h.keeper.cursor refl);
      of = subst (λ (m : MillState). IsMillOf ops w m) (sym mill) (cursor-mill (IsMillOf ops w) k.held k.state h.state h.held);
      base = base ∙ h.output.base;
      within = h.output.within;
      kept = kept ∙ h.output.kept;
    }

-- ---- the inputs that are taken over

anew-done : (b : ℕ) (ss : List (List Tuple)) (xs : List InletState) → length ss ≡ length xs → All (λ (ts : List Tuple). All (λ (t : Tuple). t.stime < b) ts) ss → map (λ (i : InletState). cut i.held.stable b) (inlets_anew b ss xs) ≡ ss
anew-done b [] xs e low = refl
anew-done b (ts ∷ ss) [] e low = absurd (omega (arith, e))
anew-done b (ts ∷ ss) (x ∷ xs) e low =
    let here = cut-below b ts (All-head (λ (us : List Tuple). All (λ (t : Tuple). t.stime < b) us) ts ss low) in
    let rest = anew-done b ss xs (omega (arith, e)) (All-tail (λ (us : List Tuple). All (λ (t : Tuple). t.stime < b) us) ts ss low) in
    ap (λ (us : List Tuple). us ∷ map (λ (i : InletState). cut i.held.stable b) (inlets_anew b ss xs)) here ∙ ap (λ (uss : List (List Tuple)). ts ∷ uss) rest

-- they are what was processed
pub adopted-processed : (w : ℕ) (s : Snap) (x : Inputs) → length s.inputs ≡ length x.inlets → All (λ (ts : List Tuple). All (λ (t : Tuple). t.stime < s.cursor * w) ts) s.inputs → processed w (adopted_inputs w s x) ≡ serial s.inputs
adopted-processed w s x long low = ap (λ (ss : List (List Tuple)). serial ss) (anew-done (s.cursor * w) s.inputs x.inlets long low)

adopted-ports : (u v : SUnionValue) (x : Inputs) (s : Snap) (cursor : ℕ) (counts : List ℕ) → StandsForPorts v.width v.union x → All (λ (ts : List Tuple). All (λ (t : Tuple). t.stime < s.cursor * v.width) ts) s.inputs →
    cursor ≡ s.cursor → counts ≡ map length s.inputs → u ≡ restarted_union cursor counts v → StandsForPorts u.width u.union (adopted_inputs v.width s x)
adopted-ports u v x s cursor counts h low at many is =
    let law = restarting-stands v x s.cursor s.inputs h low in
    let same : restarted_union s.cursor (map (λ (ts : List Tuple). length ts) s.inputs) v ≡ u =
    ap (λ (cs : List ℕ). restarted_union s.cursor cs v) (sym many) ∙ ap (λ (k : ℕ). restarted_union k counts v) (sym at) ∙ sym is in
    subst (λ (t : SUnionValue). StandsForPorts t.width t.union (adopted_inputs v.width s x)) same law

-- ---- the operators and the output

-- a mill that took what was processed, where no bucket is closed
pub open-keeper : (w : ℕ) (k : KeeperValue MillState) (m : MillState) (y : Inputs) → k ≡ record { state = m; held = None } → y.closed ≡ [] → MillAfter m (processed w y) y.cursor → StandsForKeeper MillAfter w false k y
open-keeper w k m y is none at =
    let zero : y.cursor + 0 ≡ y.cursor = omega arith in
    let frontier : MillAfter m (processed_and_closed w y) (frontier_of y) =
    subst (λ (cs : List (List Tagged)). MillAfter m (processed w y ++ all_of cs) (y.cursor + length cs)) (sym none) (rw (zero, append-nil (processed w y)) at) in
    subst (λ (j : KeeperValue MillState). StandsForKeeper MillAfter w false j y) (sym is) (record { held = (λ _. none, λ _. refl); cursor = λ _. at; frontier = λ _. frontier })

adopted-output : (s : Snap) (ts : List Tuple) (b base bound : ℕ) (kept : List Tuple) (v out : OutputValue) (t : Stream) (o : Outputs) → t ≡ record { stable = ts; bound = b; tentative = []; passed = None } →
    out ≡ restarted_output base kept bound v → base ≡ s.base → s.base ≤ length ts → kept ≡ drop s.base ts → bound ≡ b → v.subs ≡ o.subs → v.acks ≡ o.acks → o.acks ≡ zeros_for o.acks → StandsForOutput t out (adopted_outputs s o)
adopted-output s ts b base bound kept v out t o is new from within rest end subs acks zeros =
    let many : length kept ≡ length ts - s.base = ap (λ (us : List Tuple). length us) rest ∙ length-drop s.base ts in
    subst (λ (z : Stream). StandsForOutput z out (adopted_outputs s o)) (sym is)
    (subst (λ (z : OutputValue). StandsForOutput (record { stable = ts; bound = b; tentative = []; passed = None }) z (adopted_outputs s o)) (sym new)
    (record {
      count = omega (arith, many, from, within);
      within = within;
      kept = rest;
      base = from;
      bound = end;
      tentative = refl;
      passed = refl;
      subs = ap (λ (ss : List Sub). map with_session_shut ss) subs;
      acks = ap (λ (zs : List Acked). zeros_for zs) acks ∙ sym zeros;
    }))

pub adopts : (ops : List OpSpec) (old : PipelineValue) (u : SUnionValue) (k : KeptValue MillState) (out : OutputValue) (x : Inputs) (o : Outputs) (v : SnapValue MillState) (s : Snap) (bound : ℕ) →
    CanAdopt ops old x o v s → length v.counts ≡ length old.union.union.inlets → u ≡ restarted_union v.cursor v.counts old.union → k.keeper ≡ record { state = v.mill; held = None } →
    bound ≡ v.cursor * old.union.width → out ≡ restarted_output v.base v.kept bound old.output →
    StandsForData ops (record { union = u; keeper = k; output = out; passing = old.passing }) (adopted_inputs old.union.width s x) (adopted_outputs s o)
adopts ops old u k out x o v s bound can many union keeper end output =
    let w = old.union.width in
    let y = adopted_inputs w s x in
    let snap = can.snapshot_stands in
    let wide : u.width ≡ w = ap (λ (t : SUnionValue). t.width) union in
    let zip = AllZip-long (StandsForInlet (x.cursor * w)) old.union.union.inlets x.inlets can.stands.ports.inlets in
    let counted : length v.counts ≡ length s.inputs = ap (λ (cs : List ℕ). length cs) snap.counts ∙ length-map s.inputs length in
    let long : length s.inputs ≡ length x.inlets = omega (arith, zip, counted, many) in
    let done = adopted-processed w s x long can.below in
    let ts = fragment_value ops (serial s.inputs) (s.cursor * w) in
    let after : MillAfter v.mill (processed w y) s.cursor = subst (λ (xs : List Tagged). MillAfter v.mill xs s.cursor) (sym done) snap.mill in
    let stream = open-stream ops w old.passing y ts refl (ap (λ (xs : List Tagged). fragment_value ops xs (s.cursor * w)) done) in
    let end_at : bound ≡ s.cursor * w = end ∙ ap (λ (n : ℕ). n * w) snap.cursor in
    let given = adopted-output s ts (s.cursor * w) v.base bound v.kept old.output out (stream_by (fragment_value ops) w old.passing y) o stream output snap.base snap.within snap.kept end_at can.stands.output.subs can.stands.output.acks can.unacked in
    let mill : IsMillOf ops w k.keeper.state = subst (λ (j : KeeperValue MillState). IsMillOf ops w j.state) (sym keeper) snap.of in
    let none : IfSome k.keeper.held (IsMillOf ops w) = subst (λ (j : KeeperValue MillState). IfSome j.held (IsMillOf ops w)) (sym keeper) tt in
    let stood = open-keeper w k.keeper v.mill y keeper refl after in
    work-data ops u k out old.passing w y (adopted_outputs s o)
    (record {
      sound = can.stands.sound;
      some = subst (λ (j : ℕ). 0 < j) (sym wide) can.stands.some;
      ports = adopted-ports u old.union x s v.cursor v.counts can.stands.ports can.below snap.cursor snap.counts union;
      state = subst (λ (j : ℕ). IsMillOf ops j k.keeper.state) (sym wide) mill;
      held = subst (λ (j : ℕ). IfSome k.keeper.held (IsMillOf ops j)) (sym wide) none;
      keeper = subst (λ (j : ℕ). StandsForKeeper MillAfter j false k.keeper y) (sym wide) stood;
    }) wide given

-- a data path that was lost has as many ports as a snapshot of it counts
pub as-many : (ops : List OpSpec) (w : ℕ) (n : PipelineValue) (x : Inputs) (o lost : Outputs) (s : SnapValue MillState) → StandsForSnapshot ops w s (snap_of w x o) → StandsForData ops n (lost_inputs x) lost →
    length s.counts ≡ length n.union.union.inlets
as-many ops w n x o lost s h stood =
    let zip = AllZip-long (StandsForInlet (0 * n.union.width)) n.union.union.inlets (lost_inputs x).inlets stood.ports.inlets in
    let counted : length s.counts ≡ length x.inlets = ap (λ (cs : List ℕ). length cs) h.counts ∙ length-map (done_in w x) length ∙ length-map x.inlets (λ (i : InletState). cut i.held.stable (x.cursor * w)) in
    let kept : length (lost_inputs x).inlets ≡ length x.inlets = length-map x.inlets (λ (i : InletState). restarted_inlet (stable_reader [] 0) i.sess) in
    omega (arith, zip, counted, kept)

-- and the cursor's bucket of the snapshot begins in range, where buckets can be processed
pub in-range : (ops : List OpSpec) (v n : PipelineValue) (x : Inputs) (o : Outputs) (last : ℕ) (s : SnapValue MillState) → CanProcess ops v x o last → StandsForSnapshot ops v.union.width s (snap_of v.union.width x o) → n.union.width ≡ v.union.width →
    s.cursor * n.union.width < 2 ^ 64
in-range ops v n x o last s can h wide =
    let w = v.union.width in
    let r = stably_upto w last x in
    let cursor = h.cursor in
    let low : s.cursor * w < 2 ^ 64 = ends-below w s.cursor (frontier_of (after_advancing r x) + (count_upto last x - r)) (2 ^ 64) (omega (arith, cursor)) can.closing.end in
    subst (λ (j : ℕ). s.cursor * j < 2 ^ 64) (sym wide) low
