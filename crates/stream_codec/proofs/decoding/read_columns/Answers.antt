use Rattle.std.proofs.Common.{eqb-true, refl, sym, ◌∙◌}
use Rattle.stream_codec.proofs.Parts.{count-right, columns-read}
use Rattle.stream_codec.proofs.decoding.read_columns.Goals as goal

pub returns-then-not-has_columns : goal.returns-then-not-has_columns
returns-then-not-has_columns c =
    let none = sym c.has_columns.ensures ∙ c.if-not-has_columns.true in
    record {
      right = rw none refl;
      read = rw none c.new.ensures;
    }

pub returns : goal.returns
returns c =
    let some = sym c.has_columns.ensures ∙ c.if-not-has_columns.false in
    record {
      right = count-right c.args.kind c.args.size c.args.body.now c.fields_length-place.result _ _ some c.fields_length-place.ensures.value refl refl (eqb-true _ _ (sym c.has_count.ensures ∙ c.if-not-has_count.false));
      read = columns-read c.args.kind c.args.size c.args.body.now c.behind.result.now c.fields_length-place.result c.in_ok-read_values.field-0 some c.fields_length-place.ensures.value c.in_ok-read_values.ensures c.behind.ensures;
    }
