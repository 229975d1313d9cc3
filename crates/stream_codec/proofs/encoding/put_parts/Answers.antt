use Rattle.std.proofs.Common.{ℕ, List, ◌++◌, ◌∷◌, [], sym, ap, ◌∙◌}
use Rattle.stream_codec.specs.Frames.{number_bytes}
use Rattle.stream_codec.specs.declared.kinds.Field.{Field}
use Rattle.stream_codec.proofs.Bytes.{parts}
use Rattle.stream_codec.proofs.encoding.put_parts.Goals as goal

pub returns-in_ok-put_columns : goal.returns-in_ok-put_columns
returns-in_ok-put_columns c =
    parts c.args.kind c.args.numbers.now c.args.values.now c.args.bytes.now.items _ _ _ _ _ c.requires
    (c.in_ok-push.ensures.items ∙ ap (λ (b : ℕ). c.args.bytes.now.items ++ b ∷ []) c.byte.ensures)
    c.body_length.ensures c.in_ok-put_number.ensures
    (c.in_ok-put_numbers.ensures ∙ ap (λ (fs : List Field). c.put_number.new.bytes.items ++ number_bytes fs c.args.numbers.now) c.fields.ensures)
    (sym c.has_columns.ensures ∙ c.if-has_columns.true) c.in_ok-put_columns.ensures
