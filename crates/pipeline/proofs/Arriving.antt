-- What comes to a port or goes to a reader leaves the rest of the data path as it stands.
use Rattle.std.proofs.Common.{◌≡◌, ℕ, zero, suc, ◌*◌, Bool, not, ◌&&◌, List, [], ◌∷◌, ◌++◌, map, drop, length, refl, sym, ap, subst, Option, Some, None}
use Rattle.std.specs.Prelude.{if◌then◌else◌, ◌<◌, false, IfSome}
use Rattle.dpc_lists.specs.Lists.{nth, changed, is_nil}
use Rattle.dpc_model.specs.Streams.{cut}
use Rattle.dpc_model.specs.Operators.{all_of}
use Rattle.dpc_model.specs.Engines.{Value}
use Rattle.dpc_model.specs.Fragments.{serial, fragment_value}
use Rattle.dpc_model.specs.Inlets.{InletState, with_next_session, after_tally, asked_by, no_inlet}
use Rattle.dpc_model.specs.Reading.{Reader}
use Rattle.dpc_model.specs.Due.{Stamps}
use Rattle.dpc_model.specs.Parts.{Inputs, frontier_of, done_in, Stream, Outputs}
use Rattle.dpc_model.specs.PartStands.{at_cursor, StandsForPorts, StandsForKeeper, OutputValue, StandsForOutput}
use Rattle.dpc_model.specs.declared.operators.OpSpec.{OpSpec}
use Rattle.dpc_model.specs.Sessions.{after_ack}
use Rattle.dpc_model.specs.declared.tuples.Tuple.{Tuple}
use Rattle.dpc_model.specs.declared.tuples.Item.{Item}
use Rattle.dpc_model.specs.declared.messages.Message.{Message}
use Rattle.dpc_model.specs.declared.messages.Sess.{Sess}
use Rattle.dpc_model.specs.declared.messages.Subscribe.{Subscribe}
use Rattle.checkpoint_redo.specs.Keeping.{KeptValue}
use Rattle.fragment_mill.specs.Mills.{MillState, MillAfter}
use Rattle.sunion.specs.Laws.{with_inlet}
use Rattle.sunion.specs.Values.{SUnionValue}
use Rattle.sunion.specs.Unions.{StandsForInputs, IsAccepted, taken_at, stamps_after, with_inlet_state}
use Rattle.sunion.specs.declared.sunion.Verdict.{Verdict}
use Rattle.sunion.proofs.Lawful.{sessions-stand}
use Rattle.soutput.specs.Giving.{with_base_after, IsAnswered}
use Rattle.soutput.specs.Laws.{outputs_at}
use Rattle.soutput.proofs.Standing.{answering-stands, acking-stands}
use Rattle.pipeline.specs.Flowing.{PipelineValue, IsMillOf, HasSameSetting, IsSetAs, StandsForData, stream_at}
use Rattle.pipeline.specs.Messages.{IsTakenAt, IsReopened, answer_in, HasAnswered}
use Rattle.pipeline.specs.Running.{StandsForWork}
use Rattle.pipeline.proofs.Wholes.{data-work, work-data}

-- ---- the inlets and the stamps

-- the stream that is made of inputs with these stable tuples below the cursor's bucket
abbrev stream_done : Value → ℕ → Bool → Inputs → List (List Tuple) → Stream
stream_done value w passing x done =
    let stable = value (serial done) (x.cursor * w) in
    record {
      stable = stable;
      bound = x.cursor * w;
      tentative = drop (length stable) (value (serial done ++ all_of x.closed) (frontier_of x * w));
      passed = if passing && not (is_nil x.closed) then Some (frontier_of x * w) else None;
    }

-- the inputs with other inlets and stamps
abbrev pub with_ports : List InletState → Stamps → Inputs → Inputs
with_ports inlets stamps x = record x { inlets = inlets; stamps = stamps }

work-arrived : (ops : List OpSpec) (u v : SUnionValue) (k : KeptValue MillState) (x : Inputs) (inlets : List InletState) (stamps : Stamps) → StandsForWork ops v k x → u.width ≡ v.width →
    StandsForPorts u.width u.union (with_ports inlets stamps x) → done_in v.width (with_ports inlets stamps x) ≡ done_in v.width x → StandsForWork ops u k (with_ports inlets stamps x)
work-arrived ops u v k x inlets stamps h wide ports same =
    let w = v.width in
    let y = with_ports inlets stamps x in
    let keeper : StandsForKeeper MillAfter w false k.keeper y = record {
      held = h.keeper.held;
      cursor = λ e. subst (λ (done : List (List Tuple)). MillAfter (at_cursor k.keeper) (serial done) x.cursor) (sym same) (h.keeper.cursor e);
      frontier = λ e. subst (λ (done : List (List Tuple)). MillAfter k.keeper.state (serial done ++ all_of x.closed) (frontier_of x)) (sym same) (h.keeper.frontier e);
    } in
    record {
      sound = h.sound;
      some = subst (λ (j : ℕ). 0 < j) (sym wide) h.some;
      ports = ports;
      state = subst (λ (j : ℕ). IsMillOf ops j k.keeper.state) (sym wide) h.state;
      held = subst (λ (j : ℕ). IfSome k.keeper.held (IsMillOf ops j)) (sym wide) h.held;
      keeper = subst (λ (j : ℕ). StandsForKeeper MillAfter j false k.keeper y) (sym wide) keeper;
    }

-- where what is processed stays, the whole goes on to stand
pub inputs-arrive : (ops : List OpSpec) (v : PipelineValue) (u : SUnionValue) (x : Inputs) (inlets : List InletState) (stamps : Stamps) (o : Outputs) → StandsForData ops v x o → u.width ≡ v.union.width →
    StandsForPorts u.width u.union (with_ports inlets stamps x) → done_in v.union.width (with_ports inlets stamps x) ≡ done_in v.union.width x →
    StandsForData ops (record { union = u; keeper = v.keeper; output = v.output; passing = v.passing }) (with_ports inlets stamps x) o
inputs-arrive ops v u x inlets stamps o h wide ports same =
    let w = v.union.width in
    work-data ops u v.keeper v.output v.passing w (with_ports inlets stamps x) o (work-arrived ops u v.union v.keeper x inlets stamps (data-work ops v x o h) wide ports same) wide
    (subst (λ (done : List (List Tuple)). StandsForOutput (stream_done (fragment_value ops) w v.passing x done) v.output o) (sym same) h.output)

-- ---- the session of a port

-- an inlet that holds what it held leaves what is processed
done-changed : (b port : ℕ) (f : InletState → InletState) (inlets : List InletState) → ((i : InletState) → (f i).held ≡ i.held) →
    map (λ (i : InletState). cut i.held.stable b) (changed port f inlets) ≡ map (λ (i : InletState). cut i.held.stable b) inlets
done-changed b port f [] same = refl
done-changed b zero f (i ∷ inlets) same = ap (λ (r : Reader). cut r.stable b ∷ map (λ (i : InletState). cut i.held.stable b) inlets) (same i)
done-changed b (suc port) f (i ∷ inlets) same = ap (λ (ts : List (List Tuple)). cut i.held.stable b ∷ ts) (done-changed b port f inlets same)

pub same-session : (port : ℕ) (f : InletState → InletState) (v u : SUnionValue) → u ≡ with_inlet_state port f v → HasSameSetting v u
same-session port f v u e = record { width = ap (λ (t : SUnionValue). t.width) e; buckets = ap (λ (t : SUnionValue). t.buckets) e; delay = ap (λ (t : SUnionValue). t.delay) e }

pub session-arrives : (ops : List OpSpec) (v : PipelineValue) (u : SUnionValue) (x : Inputs) (o : Outputs) (port : ℕ) (f : InletState → InletState) → StandsForData ops v x o → u ≡ with_inlet_state port f v.union →
    ((i : InletState) → (f i).held ≡ i.held) → StandsForInputs (with_inlet_state port f v.union) (with_inlet port f x) →
    StandsForData ops (record { union = u; keeper = v.keeper; output = v.output; passing = v.passing }) (with_inlet port f x) o
session-arrives ops v u x o port f h e same ports =
    let bare : StandsForData ops (record { union = with_inlet_state port f v.union; keeper = v.keeper; output = v.output; passing = v.passing }) (with_inlet port f x) o =
    inputs-arrive ops v (with_inlet_state port f v.union) x (changed port f x.inlets) x.stamps o h refl ports (done-changed (x.cursor * v.union.width) port f x.inlets same) in
    subst (λ (t : SUnionValue). StandsForData ops (record { union = t; keeper = v.keeper; output = v.output; passing = v.passing }) (with_inlet port f x) o) (sym e) bare

-- ---- the output

pub output-goes : (ops : List OpSpec) (v : PipelineValue) (out : OutputValue) (x : Inputs) (o p : Outputs) → StandsForData ops v x o → StandsForOutput (stream_at ops v x) out p →
    StandsForData ops (record { union = v.union; keeper = v.keeper; output = out; passing = v.passing }) x p
output-goes ops v out x o p h output = record { sound = h.sound; some = h.some; ports = h.ports; state = h.state; held = h.held; keeper = h.keeper; output = output }

-- ---- each call

pub taken : (ops : List OpSpec) (v : PipelineValue) (u : SUnionValue) (x : Inputs) (o : Outputs) (port : ℕ) (s : Sess) (index : ℕ) (items : List Item) (clock : ℕ) (answer : Verdict) →
    StandsForData ops v x o → IsAccepted port s index items clock v.union u answer →
    IsTakenAt ops port s index items clock v (record { union = u; keeper = v.keeper; output = v.output; passing = v.passing }) x o answer
taken ops v u x o port s index items clock answer h a =
    let t = taken_at port s index items x in
    record {
      answer = a.answer x h.ports;
      stands = λ same. inputs-arrive ops v u x (changed port (λ _. t.after) x.inlets) (stamps_after v.union.width clock t.answer x) o h a.fixed.0 (a.after x h.ports) same;
    }

pub tally-arrives : (ops : List OpSpec) (v : PipelineValue) (u : SUnionValue) (x : Inputs) (o : Outputs) (port : ℕ) (tally : Option (Sess × ℕ)) → StandsForData ops v x o →
    u ≡ with_inlet_state port (λ (i : InletState). after_tally i tally) v.union →
    StandsForData ops (record { union = u; keeper = v.keeper; output = v.output; passing = v.passing }) (with_inlet port (λ (i : InletState). after_tally i tally) x) o
tally-arrives ops v u x o port tally h e =
    session-arrives ops v u x o port (λ (i : InletState). after_tally i tally) h e (λ i. refl) ((sessions-stand v.union x port h.ports).1 tally)

pub reopened : (ops : List OpSpec) (v : PipelineValue) (u : SUnionValue) (x : Inputs) (o : Outputs) (port : ℕ) (asked : Subscribe) → StandsForData ops v x o → u ≡ with_inlet_state port with_next_session v.union →
    ((y : Inputs) → StandsForInputs v.union y → asked ≡ asked_by (with_next_session (nth no_inlet y.inlets port))) →
    IsReopened ops port (record { union = u; keeper = v.keeper; output = v.output; passing = v.passing }) x o asked
reopened ops v u x o port asked h e told = record {
  asked_as = told x h.ports;
  stands = session-arrives ops v u x o port with_next_session h e (λ i. refl) (sessions-stand v.union x port h.ports).0;
}

pub same-set : (v : PipelineValue) (out : OutputValue) → IsSetAs v (record { union = v.union; keeper = v.keeper; output = out; passing = v.passing })
same-set v out = record { inputs = record { width = refl; buckets = refl; delay = refl }; marks = refl }

pub answered : (ops : List OpSpec) (v : PipelineValue) (out : OutputValue) (x : Inputs) (o : Outputs) (reader : ℕ) (asked : Subscribe) (stable_now : Bool) (told : Option Message) → StandsForData ops v x o →
    IsAnswered stable_now reader asked v.output out told →
    HasAnswered ops reader asked stable_now v (record { union = v.union; keeper = v.keeper; output = out; passing = v.passing }) x o told
answered ops v out x o reader asked stable_now told h a =
    let law = answering-stands stable_now reader asked told (stream_at ops v x) v.output out o h.output a in
    record { answer = law.0; stands = output-goes ops v out x o (record o { subs = changed reader (λ _. (answer_in ops v stable_now reader asked x o).after) o.subs }) h law.1 }

pub acked : (ops : List OpSpec) (v : PipelineValue) (out : OutputValue) (x : Inputs) (o : Outputs) (reader inc count : ℕ) → StandsForData ops v x o →
    out ≡ with_base_after (record v.output { acks = changed reader (after_ack inc count) v.output.acks }) →
    StandsForData ops (record { union = v.union; keeper = v.keeper; output = out; passing = v.passing }) x
    (outputs_at (length (stream_at ops v x).stable) (record o { acks = changed reader (after_ack inc count) o.acks }))
acked ops v out x o reader inc count h e =
    let s = stream_at ops v x in
    let left = outputs_at (length s.stable) (record o { acks = changed reader (after_ack inc count) o.acks }) in
    output-goes ops v out x o left h (subst (λ (q : OutputValue). StandsForOutput s q left) (sym e) (acking-stands reader inc count s v.output o h.output))
