use Rattle.std.proofs.Common.{List, subst}
use Rattle.std.proofs.lemmas.Result.{err_from_is_err_and}
use Rattle.stream_codec.specs.Frames.{AreNumbers, IsBadField}
use Rattle.stream_codec.specs.declared.kinds.Field.{Field}
use Rattle.stream_codec.proofs.Parts.{all-hold, body-read, bad-field, bad-count}
use Rattle.stream_codec.proofs.decoding.decode_body.Goals as goal

pub returns-in_err-numbers : goal.returns-in_err-numbers
returns-in_err-numbers c =
    let p = err_from_is_err_and c.from_residual.result c.from_residual.ensures.1 in
    rw (p.1, p.2)
    (bad-field c.args.kind c.args.size c.args.body.now c.in_err-numbers.field-0.0
    (subst (λ (fs : List Field). IsBadField fs c.args.body.now c.in_err-numbers.field-0.0) c.fields.ensures c.in_err-numbers.ensures))

pub returns-in_err-values : goal.returns-in_err-values
returns-in_err-values c =
    let p = err_from_is_err_and c.from_residual-in_err-values.result c.from_residual-in_err-values.ensures.1 in
    rw (p.1, p.2)
    (bad-count c.args.kind c.args.size c.args.body.now c.in_ok-numbers.numbers c.in_err-values.field-0.0
    (subst (λ (fs : List Field). AreNumbers fs c.args.body.now c.in_ok-numbers.numbers) c.fields.ensures c.in_ok-numbers.ensures)
    c.in_err-values.ensures)

pub frame_of-requires : goal.frame_of-requires
frame_of-requires c =
    all-hold _ c.args.body.now c.in_ok-numbers.numbers
    (subst (λ (fs : List Field). AreNumbers fs c.args.body.now c.in_ok-numbers.numbers) c.fields.ensures c.in_ok-numbers.ensures)

pub returns : goal.returns
returns c =
    body-read c.args.kind c.args.size c.args.body.now c.in_ok-numbers.numbers c.in_ok-values.values c.frame_of.result
    (subst (λ (fs : List Field). AreNumbers fs c.args.body.now c.in_ok-numbers.numbers) c.fields.ensures c.in_ok-numbers.ensures)
    c.in_ok-values.ensures c.frame_of.ensures
