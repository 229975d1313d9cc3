-- What was judged, by the parts of the input.
use Rattle.std.proofs.Common.{◌≡◌, ℕ, List, Option, Some, None, refl, ap, sym, ◌∙◌, subst}
use Rattle.std.specs.Prelude.{Result, Ok, Err, Vec, slice_get}
use Rattle.std.specs.declared.alloc.Global.{Global}
use Rattle.dpc_model.specs.declared.plans.ClientSpec.{ClientSpec}
use Rattle.dpc_model.specs.declared.plans.Plan.{Plan}
use Rattle.dpc_model.specs.declared.scripts.Script.{Script}
use Rattle.dpc_model.specs.declared.tuples.Item.{Item}
use Rattle.script_rules.specs.Reading.{reading}
use Rattle.script_rules.specs.declared.reasons.PlanFault.{PlanFault}
use Rattle.ideal_run.specs.IdealPlans.{IsIdealPlan}
use Rattle.input_parts.specs.Parts.{part_before, part_from}
use Rattle.input_parts.specs.declared.notation.Notation.{Notation}
use Rattle.audit_core.specs.Audits.{audited}
use Rattle.audit_core.specs.Meanings.{Says}
use Rattle.audit_core.specs.declared.verdict.Verdict.{Verdict}
use Rattle.audit_core.proofs.Lawful.{says-so}
use Rattle.journal_inputs.specs.Inputs.{and_then, IsScript, IsText, script_or_refusal, script_in}
use Rattle.journal_inputs.specs.declared.faults.InputFault.{InputFault}
use Rattle.journal_inputs.specs.declared.faults.Refusal.TheVariants.{Stream}
use Rattle.journal_inputs.proofs.ByParts.{ok_is, taken, script_is}
use Rattle.journal_inputs.proofs.Refused.{handed_on, script_view}
use Rattle.stream_audits.specs.Answers.{IsVerdict, IsRecorded}
use Rattle.stream_audits.specs.Judging.{stream_key, recorded_in, verdict_on, or_refusal, judged_behind, judged_input, audited_text, IsJudged}
use Rattle.stream_audits.specs.Verdicts.{verdict_line}
use Rattle.stream_audits.proofs.Ideals.{read_ideal}

pub script_in_is : (text : List ℕ) (s : Script) → script_in text ≡ Ok s → reading text ≡ Ok s
script_in_is text s h = by-reading (reading text) refl h
  where
    by-reading : (r : Result Script PlanFault) → reading text ≡ r → script_or_refusal r ≡ Ok s → r ≡ Ok s
    by-reading (Ok q) e h = let same : q ≡ s = ok_is q s h in ap (λ x. Ok x) same
    by-reading (Err fault) e h = absurd cc

accepted : {X : Type 0} (r : Result X ℕ) (x : X) → or_refusal r ≡ Ok x → r ≡ Ok x
accepted (Ok y) x h = let same : y ≡ x = ok_is y x h in ap (λ z. Ok z) same
accepted (Err n) x h = absurd cc

-- the verdict is on a client of the plan
record IsOfClient (plan : Plan) (number : ℕ) (items : List Item) (v : Verdict) : Type 0 where
  client : ClientSpec
  named : slice_get plan.clients number ≡ Some client
  says : Says plan client.input items v

of-client : (plan : Plan) (x : ℕ × List Item) (v : Verdict) → IsIdealPlan plan → verdict_on plan x ≡ Ok v → IsOfClient plan x.0 x.1 v
of-client plan x v ideal h = by-client (slice_get plan.clients x.0) refl h
  where
    by-client : (o : Option ClientSpec) → slice_get plan.clients x.0 ≡ o →
        ◌≡◌ {A = Result Verdict ℕ} (elim o [ None ↦ Err 0 | Some client ↦ audited plan client.input x.1 ]) (Ok v) → IsOfClient plan x.0 x.1 v
    by-client None e h = absurd cc
    by-client (Some client) e h = record { client = client; named = e; says = says-so plan client.input x.1 v ideal h }

pub is_judged : (notation : Notation) (input : List ℕ) (v : Verdict) → judged_input notation input ≡ Ok v → IsJudged notation input v
unfolding judged_input
is_judged notation input v h =
    let key = stream_key notation in
    let first = taken (script_in (part_before key input)) (λ s. judged_behind notation s (part_from key input)) v h in
    by-part first.0 first.1 (part_from key input) refl first.2
  where
    by-part : (s : Script) → script_in (part_before (stream_key notation) input) ≡ Ok s → (o : Option (List ℕ)) → part_from (stream_key notation) input ≡ o →
        judged_behind notation s o ≡ Ok v → IsJudged notation input v
    by-part s is None there h = absurd cc
    by-part s is (Some text) there h =
        let second = taken (or_refusal (recorded_in notation s.plan text)) (λ x. or_refusal (verdict_on s.plan x)) v h in
        let x = second.0 in
        let read = script_in_is (part_before (stream_key notation) input) s is in
        let told = of-client s.plan x v (read_ideal (part_before (stream_key notation) input) s read) (accepted (verdict_on s.plan x) v second.2) in
        record {
          script = s;
          is = script_is (reading (part_before (stream_key notation) input)) s is;
          behind = text;
          there = there;
          number = x.0;
          items = x.1;
          recorded = accepted (recorded_in notation s.plan text) x second.1;
          client = told.client;
          named = told.named;
          says = told.says;
        }

-- ---- the verdict of a client

pub no_client : (plan : Plan) (c : ℕ) (items : List Item) → slice_get plan.clients c ≡ None → or_refusal (verdict_on plan (c, items)) ≡ Err (Stream 0)
no_client plan c items e =
    ap (λ (o : Option ClientSpec). or_refusal (elim o as (λ _. Result Verdict ℕ) [ None ↦ Err 0 | Some client ↦ audited plan client.input items ])) e

of-one : (plan : Plan) (c : ℕ) (items : List Item) (client : ClientSpec) → slice_get plan.clients c ≡ Some client → or_refusal (verdict_on plan (c, items)) ≡ or_refusal (audited plan client.input items)
of-one plan c items client e =
    ap (λ (o : Option ClientSpec). or_refusal (elim o as (λ _. Result Verdict ℕ) [ None ↦ Err 0 | Some x ↦ audited plan x.input items ])) e

pub client_judged : (plan : Plan) (c : ℕ) (items : List Item) (client : ClientSpec) (v : Verdict) → slice_get plan.clients c ≡ Some client → audited plan client.input items ≡ Ok v →
    or_refusal (verdict_on plan (c, items)) ≡ Ok v
client_judged plan c items client v e h = of-one plan c items client e ∙ ap or_refusal h

pub client_refused : (plan : Plan) (c : ℕ) (items : List Item) (client : ClientSpec) (n : ℕ) → slice_get plan.clients c ≡ Some client → audited plan client.input items ≡ Err n →
    or_refusal (verdict_on plan (c, items)) ≡ Err (Stream n)
client_refused plan c items client n e h = of-one plan c items client e ∙ ap or_refusal h

-- ---- what code answers of the parts, it answers of the whole

abbrev same_verdict : Verdict → Verdict
same_verdict v = v

abbrev recorded_view : ℕ × Vec Item Global → ℕ × List Item
recorded_view x = (x.0, x.1.items)

pub stream_refused : (notation : Notation) (s : Script) (text : List ℕ) (fault : InputFault) → IsRecorded (or_refusal (recorded_in notation s.plan text)) (Err fault) →
    IsVerdict (judged_behind notation s (Some text)) (Err fault)
stream_refused notation s text fault h =
    handed_on recorded_view same_verdict (or_refusal (recorded_in notation s.plan text)) (λ x. or_refusal (verdict_on s.plan x)) fault h

pub stream_judged : (notation : Notation) (s : Script) (text : List ℕ) (client : ℕ) (items : List Item) (r : Result Verdict InputFault) →
    or_refusal (recorded_in notation s.plan text) ≡ Ok (client, items) → IsVerdict (or_refusal (verdict_on s.plan (client, items))) r → IsVerdict (judged_behind notation s (Some text)) r
stream_judged notation s text client items r e h =
    subst (λ x. IsVerdict x r) (sym (ap (λ x. and_then x (λ y. or_refusal (verdict_on s.plan y))) e)) h

pub script_refused_by : (notation : Notation) (input part key : List ℕ) (fault : InputFault) → key ≡ stream_key notation → part ≡ part_before key input → IsScript (script_in part) (Err fault) →
    IsVerdict (judged_input notation input) (Err fault)
unfolding judged_input
script_refused_by notation input part key fault k e h =
    handed_on script_view same_verdict (script_in (part_before (stream_key notation) input)) (λ s. judged_behind notation s (part_from (stream_key notation) input)) fault
    (subst (λ p. IsScript (script_in p) (Err fault)) (e ∙ ap (λ w. part_before w input) k) h)

pub script_judged : (notation : Notation) (input part key : List ℕ) (s : Script) (o : Option (List ℕ)) (r : Result Verdict InputFault) → key ≡ stream_key notation → part ≡ part_before key input →
    script_in part ≡ Ok s → part_from key input ≡ o → IsVerdict (judged_behind notation s o) r → IsVerdict (judged_input notation input) r
unfolding judged_input
script_judged notation input part key s o r k e is there h =
    let same : and_then (script_in (part_before (stream_key notation) input)) (λ s. judged_behind notation s (part_from (stream_key notation) input)) ≡ judged_behind notation s o =
    ap (λ w. and_then (script_in (part_before w input)) (λ s. judged_behind notation s (part_from w input))) (sym k)
    ∙ ap (λ p. and_then (script_in p) (λ s. judged_behind notation s (part_from key input))) (sym e)
    ∙ ap (λ x. and_then x (λ s. judged_behind notation s (part_from key input))) is ∙ ap (λ j. judged_behind notation s j) there in
    subst (λ x. IsVerdict x r) (sym same) h

pub text_refused : (notation : Notation) (input : List ℕ) (fault : InputFault) → IsVerdict (judged_input notation input) (Err fault) → IsText (audited_text notation input) (Err fault)
text_refused notation input fault h = handed_on same_verdict (λ (v : Vec ℕ Global). v.items) (judged_input notation input) (λ v. Ok (verdict_line v)) fault h

pub text_told : (notation : Notation) (input text : List ℕ) (v : Verdict) → judged_input notation input ≡ Ok v → text ≡ verdict_line v → audited_text notation input ≡ Ok text
text_told notation input text v e t = ap (λ r. and_then r (λ w. Ok (verdict_line w))) e ∙ ap (λ l. Ok l) (sym t)
