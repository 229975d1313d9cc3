-- What a call leaves of the whole data path.
use Rattle.std.proofs.Common.{◌≡◌, ℕ, ◌+◌, ◌-◌, ◌*◌, ◌^◌, ◌<◌, ◌≤◌, Bool, true, false, ◌&&◌, nat_lt, List, [], ◌∷◌, ◌++◌, length, refl, sym, ap, subst, ◌∙◌, arith, append-nil, min, Option, Some, None}
use Rattle.std.specs.Prelude.{if◌then◌else◌}
use Rattle.dpc_lists.specs.Lists.{is_nil}
use Rattle.dpc_model.specs.Fragments.{fragment_value}
use Rattle.dpc_model.specs.Parts.{Inputs, frontier_of, processed, Stream, stream_by, Outputs}
use Rattle.dpc_model.specs.PartStands.{KeeperValue, at_cursor, OutputValue, StandsForOutput}
use Rattle.dpc_model.specs.Sessions.{batches_of, with_batches}
use Rattle.dpc_model.specs.declared.operators.OpSpec.{OpSpec}
use Rattle.dpc_model.specs.declared.messages.Message.{Message}
use Rattle.dpc_model.specs.declared.tuples.Item.TheVariants.{Undo}
use Rattle.dpc_model.specs.declared.tuples.Tuple.{Tuple}
use Rattle.checkpoint_redo.specs.Keeping.{KeptValue}
use Rattle.fragment_mill.specs.Mills.{MillState, MillAfter}
use Rattle.sunion.specs.Values.{SUnionValue}
use Rattle.sunion.specs.Unions.{complete_upto_in, after_advancing, without_closed, with_closed}
use Rattle.sunion.proofs.Lawful.{undoing-stands}
use Rattle.soutput.specs.declared.fresh.Fresh.{Fresh}
use Rattle.soutput.specs.Giving.{fresh_items, after_giving, with_batch_of, without_tentative}
use Rattle.soutput.specs.Laws.{stream_with}
use Rattle.soutput.proofs.Standing.{undoing-stands as output-undone}
use Rattle.law_buckets.proofs.Advancing.{undoing-keeps-stable}
use Rattle.pipeline.specs.Flowing.{PipelineValue, IsMillOf, IsEngineOf, HasSameSetting, StandsForData, stream_at, items_between, outputs_given, count_upto, stably_upto, after_processing, CanMill, CanProcess, IsMilled, IsProcessedTo, IsUndone}
use Rattle.pipeline.specs.Running.{StandsForWork, CanAdvance, HasAdvanced, HasClosed}
use Rattle.pipeline.proofs.Ranges.{ends-below}
use Rattle.pipeline.proofs.Givings.{gave}
use Rattle.pipeline.proofs.Streaming.{mill-stream, passed-given, process-stream}
use Rattle.pipeline.proofs.Work.{cursor-mill}

-- ---- what is set

pub same-then : (u v w : SUnionValue) → HasSameSetting u v → HasSameSetting v w → HasSameSetting u w
same-then u v w a b = record { width = b.width ∙ a.width; buckets = b.buckets ∙ a.buckets; delay = b.delay ∙ a.delay }

pub same-undone : (u v : SUnionValue) → v ≡ with_closed 0 u → HasSameSetting u v
same-undone u v e = record { width = ap (λ (t : SUnionValue). t.width) e; buckets = ap (λ (t : SUnionValue). t.buckets) e; delay = ap (λ (t : SUnionValue). t.delay) e }

-- ---- the inputs and the operators of it

pub data-work : (ops : List OpSpec) (v : PipelineValue) (x : Inputs) (o : Outputs) → StandsForData ops v x o → StandsForWork ops v.union v.keeper x
data-work ops v x o h = record { sound = h.sound; some = h.some; ports = h.ports; state = h.state; held = h.held; keeper = h.keeper }

-- the engine at the cursor
pub cursor-engine : (ops : List OpSpec) (v : PipelineValue) (x : Inputs) (o : Outputs) → StandsForData ops v x o → IsEngineOf ops v.union.width x (at_cursor v.keeper.keeper)
cursor-engine ops v x o h = record {
  of = cursor-mill (IsMillOf ops v.union.width) v.keeper.keeper.held v.keeper.keeper.state h.state h.held;
  took = h.keeper.cursor refl;
}

pub work-data : (ops : List OpSpec) (u : SUnionValue) (k : KeptValue MillState) (out : OutputValue) (passing : Bool) (w : ℕ) (x : Inputs) (o : Outputs) → StandsForWork ops u k x → u.width ≡ w →
    StandsForOutput (stream_by (fragment_value ops) w passing x) out o → StandsForData ops (record { union = u; keeper = k; output = out; passing = passing }) x o
work-data ops u k out passing w x o h wide output = record {
  sound = h.sound;
  some = h.some;
  ports = h.ports;
  state = h.state;
  held = h.held;
  keeper = h.keeper;
  output = subst (λ (j : ℕ). StandsForOutput (stream_by (fragment_value ops) j passing x) out o) (sym wide) output;
}

-- the time of the cursor after so many buckets
pub cursor-time : (ops : List OpSpec) (u : SUnionValue) (k : KeptValue MillState) (w : ℕ) (x : Inputs) (count cursor width : ℕ) (added : List Tuple) → HasAdvanced ops u k w x count added → u.width ≡ w → cursor ≡ u.union.cursor → width ≡ u.width →
    cursor * width ≡ (x.cursor + count) * w
cursor-time ops u k w x count cursor width added h wide here same =
    ap (λ (n : ℕ). n * width) (here ∙ h.stands.ports.cursor) ∙ ap (λ (n : ℕ). (x.cursor + count) * n) (same ∙ wide)

-- ---- milling

pub mill-can : (ops : List OpSpec) (v : PipelineValue) (x : Inputs) (o : Outputs) (count : ℕ) → CanMill ops v x o count → CanAdvance v.union.width x count
mill-can ops v x o count can = record { ready = λ _. can.ready; end = can.ready.end }

pub milled : (ops : List OpSpec) (old : PipelineValue) (u : SUnionValue) (k : KeptValue MillState) (out : OutputValue) (x : Inputs) (o : Outputs) (count : ℕ) (new : Fresh) (told : List (ℕ × Message)) →
    CanMill ops old x o count → u.width ≡ old.union.width → HasAdvanced ops u k old.union.width x count new.stable →
    new.bound ≡ Some ((x.cursor + count) * old.union.width) → new.tentative ≡ [] → new.passed ≡ None →
    told ≡ batches_of (fresh_items old.output new) old.output.subs → out ≡ after_giving new old.output →
    IsMilled ops old (record { union = u; keeper = k; output = out; passing = old.passing }) x o count new.done told
milled ops old u k out x o count new told can wide advanced bound tentative passed sent after =
    let w = old.union.width in
    let s = stream_at ops old x in
    let y = after_advancing count x in
    let t = stream_at ops old y in
    let e = mill-stream ops w old.passing x count new can.stands.sound can.stands.some can.some can.ready advanced.output bound tentative passed in
    let g = gave new s t old.output o true false told can.stands.output e bound passed sent in
    record {
      answer = g.0;
      stands = work-data ops u k out old.passing w y (outputs_given (items_between s t true false new.done) t o) advanced.stands wide
          (subst (λ (v : OutputValue). StandsForOutput t v (outputs_given (items_between s t true false new.done) t o)) (sym after) g.1);
    }

-- ---- processing up to a bucket

pub count-is : (ops : List OpSpec) (v : PipelineValue) (x : Inputs) (o : Outputs) (last cursor closed : ℕ) → StandsForData ops v x o → cursor ≡ v.union.union.cursor → closed ≡ v.union.union.closed →
    last + 1 - (cursor + closed) ≡ count_upto last x
count-is ops v x o last cursor closed h a b = ap (λ (n : ℕ). last + 1 - (n + closed)) (a ∙ h.ports.cursor) ∙ ap (λ (n : ℕ). last + 1 - (x.cursor + n)) (b ∙ h.ports.closed)

-- what is ready in a value that is another one
pub ready-in : (ops : List OpSpec) (x : Inputs) (o : Outputs) (v now : PipelineValue) (ready : ℕ) → v ≡ now →
    ((os : List OpSpec) (y : Inputs) (p : Outputs) → StandsForData os now y p → ready ≡ (if is_nil y.closed then complete_upto_in now.union.width y - y.cursor else 0)) →
    StandsForData ops v x o → ready ≡ (if is_nil x.closed then complete_upto_in v.union.width x - x.cursor else 0)
ready-in ops x o v now ready same told h =
    told ops x o (subst (λ (d : PipelineValue). StandsForData ops d x o) same h) ∙ ap (λ (d : PipelineValue). if is_nil x.closed then complete_upto_in d.union.width x - x.cursor else 0) (sym same)

pub stably-is : (w last : ℕ) (x : Inputs) (r count ready : ℕ) → r ≡ min count ready → count ≡ count_upto last x → ready ≡ (if is_nil x.closed then complete_upto_in w x - x.cursor else 0) → r ≡ stably_upto w last x
stably-is w last x r count ready e a b = e ∙ ap (λ (n : ℕ). min n ready) a ∙ ap (λ (n : ℕ). min (count_upto last x) n) b

min-below : (a b : ℕ) → min a b ≤ a
min-below a b = omega arith

some-upto : (last frontier : ℕ) → frontier ≤ last → 0 < last + 1 - frontier
some-upto last frontier h = omega (arith, h)

pub process-can : (ops : List OpSpec) (v : PipelineValue) (x : Inputs) (o : Outputs) (last : ℕ) → CanProcess ops v x o last → CanAdvance v.union.width x (stably_upto v.union.width last x)
process-can ops v x o last can =
    let w = v.union.width in
    let r = stably_upto w last x in
    record {
      ready = can.stable;
      end = ends-below w (x.cursor + r) (frontier_of (after_advancing r x) + (count_upto last x - r)) (2 ^ 64) (within x.cursor r (length x.closed) (count_upto last x - r)) can.closing.end;
    }
  where
    within : (a b c d : ℕ) → a + b ≤ a + b + c + d
    within a b c d = omega arith

end-upto : (last cursor closed r : ℕ) → cursor + closed ≤ last → r ≤ last + 1 - (cursor + closed) → last + 1 ≡ (cursor + r) + closed + ((last + 1 - (cursor + closed)) - r)
end-upto last cursor closed r h low = omega (arith, h, low)

pub processed-upto : (ops : List OpSpec) (old : PipelineValue) (u v : SUnionValue) (k n : KeptValue MillState) (out : OutputValue) (x : Inputs) (o : Outputs) (last r count : ℕ) (new : Fresh) (told : List (ℕ × Message)) →
    CanProcess ops old x o last → r ≡ stably_upto old.union.width last x → count ≡ count_upto last x → u.width ≡ old.union.width → v.width ≡ u.width →
    HasAdvanced ops u k old.union.width x r new.stable → HasClosed ops v n u.width (after_advancing r x) (count - r) new.tentative →
    new.bound ≡ (if nat_lt 0 r then Some ((x.cursor + r) * old.union.width) else None) →
    new.passed ≡ (if old.passing && nat_lt r count then Some ((last + 1) * old.union.width) else None) → new.done ≡ false →
    told ≡ batches_of (fresh_items old.output new) old.output.subs → out ≡ after_giving new old.output →
    IsProcessedTo ops old (record { union = v; keeper = n; output = out; passing = old.passing }) x o last told
processed-upto ops old u v k n out x o last r count new told can same_r same_count wide wider advanced closed bound passed done sent after =
    let w = old.union.width in
    let few = stably_upto w last x in
    let all = count_upto last x in
    let y = after_advancing few x in
    let s = stream_at ops old x in
    let z = after_processing w last x in
    let t = stream_at ops old z in
    let low : few ≤ all = min-below all (if is_nil x.closed then complete_upto_in w x - x.cursor else 0) in
    let advanced_few : HasAdvanced ops u k w x few new.stable = subst (λ (j : ℕ). HasAdvanced ops u k w x j new.stable) same_r advanced in
    let closed_few : HasClosed ops v n w y (all - few) new.tentative =
    subst (λ (j : ℕ). HasClosed ops v n j y (all - few) new.tentative) wide
    (subst (λ (j : ℕ). HasClosed ops v n u.width y (j - few) new.tentative) same_count (subst (λ (j : ℕ). HasClosed ops v n u.width (after_advancing j x) (count - j) new.tentative) same_r closed)) in
    let bound_few : new.bound ≡ (if nat_lt 0 few then Some ((x.cursor + few) * w) else None) =
    bound ∙ ap (λ (j : ℕ). if nat_lt 0 j then Some ((x.cursor + j) * w) else None) same_r in
    let upto = (last + 1) * w in
    let passed_few : new.passed ≡ (if old.passing && nat_lt few all then Some upto else None) =
    passed ∙ ap (λ (j : ℕ). if old.passing && nat_lt j count then Some upto else None) same_r ∙ ap (λ (j : ℕ). if old.passing && nat_lt few j then Some upto else None) same_count in
    let end : upto ≡ (frontier_of y + (all - few)) * w = ap (λ (j : ℕ). j * w) (end-upto last x.cursor (length x.closed) few can.frontier low) in
    let e : t ≡ stream_with new s =
    process-stream ops w old.passing x few all upto new can.stands.sound can.stands.some low (some-upto last (frontier_of x) can.frontier) can.stable can.closing end advanced_few.output bound_few closed_few.output passed_few in
    let told_few : new.passed ≡ (if nat_lt few all then t.passed else None) =
    passed-given old.passing (nat_lt few all) (is_nil x.closed) upto (frontier_of x * w) new.passed t.passed passed_few (ap (λ (q : Stream). q.passed) e) in
    let g = gave new s t old.output o (nat_lt 0 few) (nat_lt few all) told can.stands.output e bound_few told_few sent in
    let items = items_between s t (nat_lt 0 few) (nat_lt few all) in
    record {
      answer = subst (λ (b : Bool). told ≡ batches_of (items b) o.subs) done g.0;
      stands = work-data ops v n out old.passing w z (outputs_given (items false) t o) closed_few.stands (wider ∙ wide)
          (subst (λ (b : Bool). StandsForOutput t out (outputs_given (items b) t o)) done
          (subst (λ (q : OutputValue). StandsForOutput t q (outputs_given (items new.done) t o)) (sym after) g.1));
    }

-- ---- undoing

-- the keeper goes back to the state at the cursor
restored : (old k : KeptValue MillState) → ((m : MillState) → old.keeper.held ≡ Some m → k ≡ record old { keeper = record { state = m; held = None } }) → (old.keeper.held ≡ None → k ≡ old) →
    k.keeper ≡ record { state = at_cursor old.keeper; held = None }
restored old k held none =
    (elim old.keeper.held as (λ o. old.keeper.held ≡ o → k.keeper ≡ record { state = elim o as (λ _. MillState) [ None ↦ old.keeper.state | Some m ↦ m ]; held = None }) [
      | None ↦ λ e. ap (λ (j : KeptValue MillState). j.keeper) (none e) ∙ ap (λ (h : Option MillState). record { state = old.keeper.state; held = h }) e
      | Some m ↦ λ e. ap (λ (j : KeptValue MillState). j.keeper) (held m e)
    ]) refl

-- the inputs and the operators without closed buckets
work-undone : (ops : List OpSpec) (u : SUnionValue) (k n : KeptValue MillState) (x : Inputs) → StandsForWork ops u k x → n.keeper ≡ record { state = at_cursor k.keeper; held = None } → StandsForWork ops (with_closed 0 u) n (without_closed x)
work-undone ops u k n x h same =
    let w = u.width in
    let at = at_cursor k.keeper in
    let zero : x.cursor + 0 ≡ x.cursor = omega arith in
    let frontier : MillAfter at (processed w x ++ []) (x.cursor + 0) = rw (zero, append-nil (processed w x)) (h.keeper.cursor refl) in
    let mill : IsMillOf ops w at = cursor-mill (IsMillOf ops w) k.keeper.held k.keeper.state h.state h.held in
    let bare : StandsForWork ops (with_closed 0 u) (record { keeper = record { state = at; held = None }; spent = n.spent }) (without_closed x) = record {
      sound = h.sound;
      some = h.some;
      ports = undoing-stands u x h.ports;
      state = mill;
      held = tt;
      keeper = record { held = (λ _. refl, λ _. refl); cursor = λ _. h.keeper.cursor refl; frontier = λ _. frontier };
    } in
    subst (λ (q : KeeperValue MillState). StandsForWork ops (with_closed 0 u) (record { keeper = q; spent = n.spent }) (without_closed x)) (sym same) bare

pub undone : (ops : List OpSpec) (old : PipelineValue) (u : SUnionValue) (k : KeptValue MillState) (out : OutputValue) (x : Inputs) (o : Outputs) (told : List (ℕ × Message)) → StandsForData ops old x o → u ≡ with_closed 0 old.union →
    ((m : MillState) → old.keeper.keeper.held ≡ Some m → k ≡ record old.keeper { keeper = record { state = m; held = None } }) → (old.keeper.keeper.held ≡ None → k ≡ old.keeper) →
    told ≡ batches_of (Undo old.output.count ∷ []) old.output.subs → out ≡ with_batch_of (Undo old.output.count ∷ []) (without_tentative old.output) →
    IsUndone ops old (record { union = u; keeper = k; output = out; passing = old.passing }) x o told
undone ops old u k out x o told h union held none sent after =
    let w = old.union.width in
    let s = stream_at ops old x in
    let law = output-undone s old.output o h.output in
    let y = without_closed x in
    let left = record o { subs = with_batches (Undo (length s.stable) ∷ []) o.subs } in
    let work : StandsForWork ops u k y =
    subst (λ (q : SUnionValue). StandsForWork ops q k y) (sym union) (work-undone ops old.union old.keeper k x (data-work ops old x o h) (restored old.keeper k held none)) in
    let output : StandsForOutput (stream_at ops old y) out left =
    subst (λ (q : OutputValue). StandsForOutput (stream_at ops old y) q left) (sym after)
    (subst (λ (r : Stream). StandsForOutput r (with_batch_of (Undo old.output.count ∷ []) (without_tentative old.output)) left) (sym (undoing-keeps-stable ops w old.passing x)) law.1) in
    record { answer = sent ∙ law.0; stands = work-data ops u k out old.passing w y left work (ap (λ (q : SUnionValue). q.width) union) output }
