-- Buckets up to the last one that is due are processed: where the node stands then, and what it sends.
use Rattle.std.proofs.Common.{◌≡◌, ℕ, ◌-◌, ◌<◌, Bool, false, not, ◌==◌, nat_lt, List, [], ◌∷◌, map, length, refl, sym, ap, subst, ◌∙◌, arith, Option, Some, None}
use Rattle.std.proofs.lemmas.Grind.{common_steps}
use Rattle.std.specs.Prelude.{if◌then◌else◌}
use Rattle.dpc_model.specs.Due.{DueInputs, last_due, delay_of}
use Rattle.dpc_lists.specs.Lists.{nth, is_nil}
use Rattle.dpc_model.specs.Parts.{Inputs, Outputs, Stream, frontier_of}
use Rattle.dpc_model.specs.Reading.{Reader}
use Rattle.dpc_model.specs.Sessions.{batches_of}
use Rattle.dpc_model.specs.declared.messages.Message.{Message}
use Rattle.dpc_model.specs.declared.messages.NodeState.{NodeState}
use Rattle.dpc_model.specs.declared.messages.NodeState.TheVariants.{Stable, UpFailure, Stabilization}
use Rattle.dpc_model.specs.declared.operators.OpSpec.{OpSpec}
use Rattle.dpc_model.specs.declared.tuples.Item.{Item}
use Rattle.dpc_model.specs.NodeStates.{is_stabilization}
use Rattle.sunion.specs.Unions.{held_in, last_due_in, after_advancing}
use Rattle.law_buckets.specs.Series.{AreReady, CanClose}
use Rattle.pipeline.specs.Flowing.{PipelineValue, StandsForData, IsSetAs, CanProcess, IsProcessedTo, stream_at, items_between, processed_items, outputs_given, count_upto, stably_upto, after_processing}
use Rattle.node_model.specs.Mails.{Stepped, Mail, to_readers}
use Rattle.node_model.specs.Nodes.{Home, spec_of, own_readers, buckets_of, PlainNode, due_at, due_inputs}
use Rattle.node_model.specs.NodeSteps.{idle_step, processing_upto, processing_step}
use Rattle.node_model.specs.NodeParts.{inputs_of, outputs_of}
use Rattle.node_model.specs.Fitting.{IsFit}
use Rattle.law_node.proofs.Buckets.{held-in-is}
use Rattle.law_node.proofs.Fits.{due-lies, can-close, can-advance}
use Rattle.law_node.proofs.Stepped.{made_by, upto_items, upto-inputs, upto-sends, upto-outputs}
use Rattle.node_model.proofs.Viewed.{made_of}
use Rattle.node_core.specs.declared.packets.Mail as code_mail
use Rattle.node_core.specs.Standing.{NodeValue, StandsForNode, AreMails}
use Rattle.node_core.specs.Stepping.{IsSound, Steps, plain_mail}
use Rattle.node_core.proofs.Frames.{set-later, made-as}
use Rattle.node_core.proofs.Mailing.{readers-mails}

-- the bucket that is due is the plain node's
pub due-same : (home : Home) (v : NodeValue) (p : PlainNode) → StandsForNode home v p → last_due_in v.path.union v.path.passing v.clock (inputs_of p) ≡ due_at home p p.clock
due-same home v p h =
    let x = inputs_of p in
    let frontier : ℕ → ℕ → Bool → List Reader → DueInputs = λ w d b rs.
    record { width = w; delay = d; passing = b; ports = rs; stamps = p.stamps; frontier = frontier_of x; any_closed = not (is_nil p.closed) } in
    ap (λ (w : ℕ). last_due (frontier w v.path.union.delay v.path.passing (held_in x)) v.clock v.path.union.buckets) h.setting.width
    ∙ ap (λ (d : ℕ). last_due (frontier home.plan.width d v.path.passing (held_in x)) v.clock v.path.union.buckets) h.setting.delay
    ∙ ap (λ (b : Bool). last_due (frontier home.plan.width (delay_of home.plan (spec_of home)) b (held_in x)) v.clock v.path.union.buckets) h.setting.marks
    ∙ ap (λ (rs : List Reader). last_due (frontier home.plan.width (delay_of home.plan (spec_of home)) home.plan.passing rs) v.clock v.path.union.buckets) (held-in-is p)
    ∙ ap (λ (n : ℕ). last_due (due_inputs home p) v.clock n) h.setting.buckets
    ∙ ap (λ (now : ℕ). last_due (due_inputs home p) now (buckets_of home.plan)) h.clock

-- what the data path tells of the bucket that is due
abbrev pub TellsDue : NodeValue → Option ℕ → Type 0
TellsDue v told = (ops : List OpSpec) → (x : Inputs) → (o : Outputs) → StandsForData ops v.path x o → told ≡ last_due_in v.path.union v.path.passing v.clock x

told-due : (home : Home) (v : NodeValue) (p : PlainNode) (told : Option ℕ) → StandsForNode home v p → TellsDue v told → due_at home p p.clock ≡ told
told-due home v p told h tells = sym (due-same home v p h) ∙ sym (tells (spec_of home).ops (inputs_of p) (outputs_of p) h.path)

-- the plain step, by its tests
abbrev process_by : Bool → Option ℕ → Home → PlainNode → Stepped PlainNode
process_by reconciles due home p = if reconciles then idle_step p else elim due [ None ↦ idle_step p | Some last ↦ processing_upto home last p ]

pub not-stabilizing : (s : NodeState) → (s ≡ Stabilization → ⊥) → is_stabilization s ≡ false
not-stabilizing Stable other = refl
not-stabilizing UpFailure other = refl
not-stabilizing Stabilization other = absurd (other refl)

-- nor does one with no bucket that is due
pub none-due : (v : NodeValue) (told : Option ℕ) → is_stabilization v.state ≡ false → TellsDue v told → told ≡ None → Steps processing_step v v []
none-due v told state tells none = record {
  after = λ home p h fit. subst (λ (s : Stepped PlainNode). StandsForNode home v s.after) (sym (so home p h)) h;
  sends = λ home p h fit. subst (λ (s : Stepped PlainNode). AreMails home [] s.sends) (sym (so home p h)) tt;
}
  where
    so : (home : Home) (p : PlainNode) → StandsForNode home v p → processing_step home p ≡ idle_step p
    so home p h =
        ap (λ (b : Bool). process_by b (due_at home p p.clock) home p) (ap is_stabilization (sym h.state) ∙ state)
        ∙ ap (λ (o : Option ℕ). process_by false o home p) (told-due home v p told h tells ∙ none)

-- the buckets up to the last one that is due can be processed
pub can-process : (home : Home) (v : NodeValue) (p : PlainNode) (last : ℕ) → StandsForNode home v p → IsFit home p → due_at home p p.clock ≡ Some last →
    CanProcess (spec_of home).ops v.path (inputs_of p) (outputs_of p) last
can-process home v p last h fit due =
    let x = inputs_of p in
    let lies = due-lies (due_inputs home p) p.clock (buckets_of home.plan) last due in
    let pos : 0 < home.plan.width = subst (λ (w : ℕ). 0 < w) h.setting.width h.path.some in
    record {
      stands = h.path;
      frontier = lies.0;
      stable = subst (λ (w : ℕ). 0 < stably_upto w last x → AreReady w x (stably_upto w last x)) (sym h.setting.width)
          (can-advance home.plan.width (buckets_of home.plan) home.plan.end last x pos fit.end fit.inputs);
      closing = subst (λ (w : ℕ). CanClose w (after_advancing (stably_upto w last x) x) (count_upto last x - stably_upto w last x)) (sym h.setting.width)
          (can-close home.plan.width (buckets_of home.plan) home.plan.end last x refl fit.end fit.inputs lies.0 lies.1);
    }

pub can-process-path : (v : NodeValue) (told : Option ℕ) (last : ℕ) → IsSound v → TellsDue v told → told ≡ Some last →
    (ops : List OpSpec) × (x : Inputs) × (o : Outputs) × CanProcess ops v.path x o last
can-process-path v told last sound tells some =
    let home = sound.0 in
    let p = sound.1 in
    ((spec_of home).ops, inputs_of p, outputs_of p, can-process home v p last sound.2 sound.3 (told-due home v p told sound.2 tells ∙ some))

-- the items are those of the plain step
processed-same : (home : Home) (v : NodeValue) (p : PlainNode) (last : ℕ) → StandsForNode home v p → processed_items (spec_of home).ops v.path (inputs_of p) last ≡ upto_items home last p
processed-same home v p last h =
    let x = inputs_of p in
    let w = v.path.union.width in
    let r = stably_upto w last x in
    ap (λ (s : Stream). items_between s (stream_at (spec_of home).ops v.path (after_processing w last x)) (nat_lt 0 r) (nat_lt r (count_upto last x)) false) (made-as home v p x h)
    ∙ ap (λ (t : Stream). items_between (made_of home p) t (nat_lt 0 r) (nat_lt r (count_upto last x)) false) (made-as home v p (after_processing w last x) h)
    ∙ ap (λ (k : ℕ). items_between (made_of home p) (made_by home (after_processing k last x)) (nat_lt 0 (stably_upto k last x)) (nat_lt (stably_upto k last x) (count_upto last x)) false) h.setting.width

processed-outputs : (home : Home) (v : NodeValue) (p : PlainNode) (last : ℕ) → StandsForNode home v p →
    outputs_given (processed_items (spec_of home).ops v.path (inputs_of p) last) (stream_at (spec_of home).ops v.path (after_processing v.path.union.width last (inputs_of p))) (outputs_of p)
    ≡ outputs_of (processing_upto home last p).after
processed-outputs home v p last h =
    let x = inputs_of p in
    let t = stream_at (spec_of home).ops v.path (after_processing v.path.union.width last x) in
    ap (λ (items : List Item). outputs_given items t (outputs_of p)) (processed-same home v p last h)
    ∙ ap (λ (s : Stream). outputs_given (upto_items home last p) s (outputs_of p)) (made-as home v p (after_processing v.path.union.width last x) h)
    ∙ ap (λ (w : ℕ). outputs_given (upto_items home last p) (made_by home (after_processing w last x)) (outputs_of p)) h.setting.width
    ∙ sym (upto-outputs home last p)

none-closed : {X : Type 0} (xs : List X) → (length xs == 0) ≡ is_nil xs
none-closed [] = refl
none-closed (x ∷ xs) = grind (arith, common_steps)

-- where the node stands behind them
processed-stands : (home : Home) (v : NodeValue) (p : PlainNode) (last : ℕ) (path : PipelineValue) (state : NodeState) (sends : List (ℕ × Message)) → StandsForNode home v p → IsSetAs v.path path →
    IsProcessedTo (spec_of home).ops v.path path (inputs_of p) (outputs_of p) last sends → state ≡ (if path.union.union.closed == 0 then v.state else UpFailure) →
    StandsForNode home (record v { path = path; state = state }) (processing_upto home last p).after
processed-stands home v p last path state sends h set processed told =
    let q = (processing_upto home last p).after in
    let inputs : after_processing v.path.union.width last (inputs_of p) ≡ inputs_of q = ap (λ (w : ℕ). after_processing w last (inputs_of p)) h.setting.width ∙ sym (upto-inputs home last p) in
    let stood : StandsForData (spec_of home).ops path (inputs_of q) (outputs_of q) =
    subst (λ (o : Outputs). StandsForData (spec_of home).ops path (inputs_of q) o) (processed-outputs home v p last h)
    (subst (λ (x : Inputs). StandsForData (spec_of home).ops path x (outputs_given (processed_items (spec_of home).ops v.path (inputs_of p) last) (stream_at (spec_of home).ops v.path (after_processing v.path.union.width last (inputs_of p))) (outputs_of p))) inputs processed.stands) in
    let closed : (path.union.union.closed == 0) ≡ is_nil q.closed = ap (λ (k : ℕ). k == 0) stood.ports.closed ∙ none-closed q.closed in
    record {
      setting = set-later home.plan (spec_of home) v.path path h.setting set;
      knows = h.knows;
      readers = h.readers;
      path = stood;
      links = h.links;
      clock = h.clock;
      state = told ∙ ap (λ (b : Bool). if b then v.state else UpFailure) closed ∙ ap (λ (s : NodeState). if is_nil q.closed then s else UpFailure) h.state;
      recovering = h.recovering;
    }

-- and what it sends
processed-sends : (home : Home) (v : NodeValue) (p : PlainNode) (last : ℕ) (path : PipelineValue) (sends : List (ℕ × Message)) → StandsForNode home v p →
    IsProcessedTo (spec_of home).ops v.path path (inputs_of p) (outputs_of p) last sends →
    AreMails home (map (λ (m : ℕ × Message). plain_mail (nth 0 v.readers m.0) m.1) sends) (processing_upto home last p).sends
processed-sends home v p last path sends h processed =
    let ms = batches_of (upto_items home last p) p.subs in
    let same : sends ≡ ms = processed.answer ∙ ap (λ (items : List Item). batches_of items p.subs) (processed-same home v p last h) in
    subst (λ (qs : List Mail). AreMails home (map (λ (m : ℕ × Message). plain_mail (nth 0 v.readers m.0) m.1) sends) qs) (sym (upto-sends home last p))
    (subst (λ (ns : List (ℕ × Message)). AreMails home (map (λ (m : ℕ × Message). plain_mail (nth 0 v.readers m.0) m.1) ns) (to_readers (own_readers home) ms)) (sym same)
    (subst (λ (rs : List ℕ). AreMails home (map (λ (m : ℕ × Message). plain_mail (nth 0 rs m.0) m.1) ms) (to_readers (own_readers home) ms)) (sym h.readers) (readers-mails home (own_readers home) ms)))

pub processed : (v : NodeValue) (told : Option ℕ) (last : ℕ) (path : PipelineValue) (state : NodeState) (sends : List (ℕ × Message)) (sent : List code_mail.Mail) → is_stabilization v.state ≡ false → TellsDue v told →
    told ≡ Some last → IsSetAs v.path path →
    ((ops : List OpSpec) → (x : Inputs) → (o : Outputs) → CanProcess ops v.path x o last → IsProcessedTo ops v.path path x o last sends) → state ≡ (if path.union.union.closed == 0 then v.state else UpFailure) →
    sent ≡ map (λ (m : ℕ × Message). plain_mail (nth 0 v.readers m.0) m.1) sends → Steps processing_step v (record v { path = path; state = state }) sent
processed v told last path state sends sent serving tells some set done failed each = record {
  after = λ home p h fit.
      subst (λ (s : Stepped PlainNode). StandsForNode home (record v { path = path; state = state }) s.after) (sym (so home p h))
      (processed-stands home v p last path state sends h set (done (spec_of home).ops (inputs_of p) (outputs_of p) (can-process home v p last h fit (told-due home v p told h tells ∙ some))) failed);
  sends = λ home p h fit.
      subst (λ (s : Stepped PlainNode). AreMails home sent s.sends) (sym (so home p h))
      (subst (λ (ms : List code_mail.Mail). AreMails home ms (processing_upto home last p).sends) (sym each)
      (processed-sends home v p last path sends h (done (spec_of home).ops (inputs_of p) (outputs_of p) (can-process home v p last h fit (told-due home v p told h tells ∙ some)))));
}
  where
    so : (home : Home) (p : PlainNode) → StandsForNode home v p → processing_step home p ≡ processing_upto home last p
    so home p h =
        ap (λ (b : Bool). process_by b (due_at home p p.clock) home p) (ap is_stabilization (sym h.state) ∙ serving)
        ∙ ap (λ (o : Option ℕ). process_by false o home p) (told-due home v p told h tells ∙ some)
