use Rattle.std.proofs.Common.{◌≡◌, ◌∙◌, ◌==◌, ap, sym, List, ℕ, Some, None}
use Rattle.dpc_model.specs.declared.messages.Message.{Message}
use Rattle.dpc_model.specs.declared.messages.Out.{Out}
use Rattle.node_model.specs.Mails.{mails, Stepped}
use Rattle.node_model.specs.Sources.{SourceState, source_message, source_subscribed}
use Rattle.source_core.specs.Emitting.{SourceValue, after_step}
use Rattle.dpc_lists.proofs.Places.{place-within}
use Rattle.dpc_lists.specs.Lists.{place_of}
use Rattle.source_core.proofs.Subscribed.{at-place}
use Rattle.source_core.proofs.source.SourceNode.deliver.Goals as goal

pub returns-in_default-place_of-clause-sends : goal.returns-in_default-place_of-clause-sends
returns-in_default-place_of-clause-sends c =
    let plan = c.args.plan.now in
    let v = c.args.self.now in
    let asked = c.in-Subscribe.asked in
    let found : place_of (λ b. c.args.sender == b) v.readers ≡ None =
    ap (λ (rs : List ℕ). place_of (λ b. c.args.sender == b) rs) (sym (c.as_slice.ensures.value ∙ ap (λ (w : SourceValue). w.readers) c.self.view_is)) ∙ sym (c.in_default-place_of.ensures {u = tt}) in
    let step : source_message plan v.number c.args.sender c.args.message.now v.state ≡ source_subscribed plan v.number asked (None) v.state =
    ap (λ (m : Message). source_message plan v.number c.args.sender m v.state) c.in-Subscribe.is ∙ at-place plan v c.args.sender asked (None) c.requires found in
    ap (λ (outs : List Out). mails outs) c.new-in_default-place_of.ensures.items ∙ sym (ap (λ (s : Stepped SourceState). s.sends) step)

pub returns-in_default-place_of-clause-after : goal.returns-in_default-place_of-clause-after
returns-in_default-place_of-clause-after c =
    let plan = c.args.plan.now in
    let v = c.args.self.now in
    let asked = c.in-Subscribe.asked in
    let found : place_of (λ b. c.args.sender == b) v.readers ≡ None =
    ap (λ (rs : List ℕ). place_of (λ b. c.args.sender == b) rs) (sym (c.as_slice.ensures.value ∙ ap (λ (w : SourceValue). w.readers) c.self.view_is)) ∙ sym (c.in_default-place_of.ensures {u = tt}) in
    let step : source_message plan v.number c.args.sender c.args.message.now v.state ≡ source_subscribed plan v.number asked (None) v.state =
    ap (λ (m : Message). source_message plan v.number c.args.sender m v.state) c.in-Subscribe.is ∙ at-place plan v c.args.sender asked (None) c.requires found in
    sym (ap (λ (s : Stepped SourceState). after_step v s) step)

pub answer-requires-clause-reader : goal.answer-requires-clause-reader
answer-requires-clause-reader c =
    let plan = c.args.plan.now in
    let v = c.args.self.now in
    let asked = c.in-Subscribe.asked in
    let found : place_of (λ b. c.args.sender == b) v.readers ≡ Some c.in-Some.reader =
    ap (λ (rs : List ℕ). place_of (λ b. c.args.sender == b) rs) (sym (c.as_slice.ensures.value ∙ ap (λ (w : SourceValue). w.readers) c.self.view_is)) ∙ sym (c.in-Some.ensures {u = tt}) in
    place-within (λ b. c.args.sender == b) v.readers c.in-Some.reader found

pub returns-clause-sends : goal.returns-clause-sends
returns-clause-sends c =
    let plan = c.args.plan.now in
    let v = c.args.self.now in
    let asked = c.in-Subscribe.asked in
    let found : place_of (λ b. c.args.sender == b) v.readers ≡ Some c.in-Some.reader =
    ap (λ (rs : List ℕ). place_of (λ b. c.args.sender == b) rs) (sym (c.as_slice.ensures.value ∙ ap (λ (w : SourceValue). w.readers) c.self.view_is)) ∙ sym (c.in-Some.ensures {u = tt}) in
    let step : source_message plan v.number c.args.sender c.args.message.now v.state ≡ source_subscribed plan v.number asked (Some c.in-Some.reader) v.state =
    ap (λ (m : Message). source_message plan v.number c.args.sender m v.state) c.in-Subscribe.is ∙ at-place plan v c.args.sender asked (Some c.in-Some.reader) c.requires found in
    (c.in_ok-outs.ensures {u = tt}).sends ∙ sym (ap (λ (s : Stepped SourceState). s.sends) step)

pub returns-clause-after : goal.returns-clause-after
returns-clause-after c =
    let plan = c.args.plan.now in
    let v = c.args.self.now in
    let asked = c.in-Subscribe.asked in
    let found : place_of (λ b. c.args.sender == b) v.readers ≡ Some c.in-Some.reader =
    ap (λ (rs : List ℕ). place_of (λ b. c.args.sender == b) rs) (sym (c.as_slice.ensures.value ∙ ap (λ (w : SourceValue). w.readers) c.self.view_is)) ∙ sym (c.in-Some.ensures {u = tt}) in
    let step : source_message plan v.number c.args.sender c.args.message.now v.state ≡ source_subscribed plan v.number asked (Some c.in-Some.reader) v.state =
    ap (λ (m : Message). source_message plan v.number c.args.sender m v.state) c.in-Subscribe.is ∙ at-place plan v c.args.sender asked (Some c.in-Some.reader) c.requires found in
    (c.in_ok-outs.ensures {u = tt}).after ∙ sym (ap (λ (s : Stepped SourceState). after_step v s) step)
