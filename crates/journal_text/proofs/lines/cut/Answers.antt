use Rattle.std.proofs.Common.{◌∷◌, ap, sym, ◌∙◌}
use Rattle.journal_text.specs.Entries.{is_of_other_length}
use Rattle.journal_text.proofs.Pieces.{at_last, at_some, at_more, too_many, nothing}
use Rattle.journal_text.proofs.lines.cut.Goals as goal

pub returns-in_err-behind : goal.returns-in_err-behind
returns-in_err-behind c =
    let alone = at_last c.args.line.now c.cut_at_space.result.0.now c.cut_at_space.result.1 c.cut_at_space.ensures.front (c.in_err-behind.was {u = tt}) c.cut_at_space.ensures.parts in
    rw c.from_residual.ensures (ap is_of_other_length alone)

pub returns-in_default : goal.returns-in_default
returns-in_default c =
    let first = at_some c.args.line.now c.cut_at_space.result.0.now c.cut_at_space.result.1 c.in_ok-behind.field-0 c.cut_at_space.ensures.front (c.in_ok-behind.was {u = tt}) c.cut_at_space.ensures.parts in
    let second = at_last c.in_ok-behind.field-0.now c.cut_at_space-2.result.0.now c.cut_at_space-2.result.1 c.cut_at_space-2.ensures.front c.in_default.is c.cut_at_space-2.ensures.parts in
    first ∙ ap (λ ps. c.cut_at_space.result.0.now ∷ ps) second

pub returns-then-is_some : goal.returns-then-is_some
returns-then-is_some c =
    let first = at_some c.args.line.now c.cut_at_space.result.0.now c.cut_at_space.result.1 c.in_ok-behind.field-0 c.cut_at_space.ensures.front (c.in_ok-behind.was {u = tt}) c.cut_at_space.ensures.parts in
    let second = at_some c.in_ok-behind.field-0.now c.cut_at_space-2.result.0.now c.cut_at_space-2.result.1 c.in-Some.behind c.cut_at_space-2.ensures.front c.in-Some.is c.cut_at_space-2.ensures.parts in
    let third = at_more c.in-Some.behind.now c.cut_at_space-3.result.0.now c.cut_at_space-3.result.1 c.cut_at_space-3.ensures.front (sym c.is_some.ensures ∙ c.if-is_some.true) c.cut_at_space-3.ensures.parts in
    ap is_of_other_length (first ∙ ap (λ ps. c.cut_at_space.result.0.now ∷ ps) (second ∙ ap (λ ps. c.cut_at_space-2.result.0.now ∷ ps) third.1))
    ∙ too_many c.cut_at_space.result.0.now c.cut_at_space-2.result.0.now c.cut_at_space-3.result.0.now third.0

pub returns : goal.returns
returns c =
    let first = at_some c.args.line.now c.cut_at_space.result.0.now c.cut_at_space.result.1 c.in_ok-behind.field-0 c.cut_at_space.ensures.front (c.in_ok-behind.was {u = tt}) c.cut_at_space.ensures.parts in
    let second = at_some c.in_ok-behind.field-0.now c.cut_at_space-2.result.0.now c.cut_at_space-2.result.1 c.in-Some.behind c.cut_at_space-2.ensures.front c.in-Some.is c.cut_at_space-2.ensures.parts in
    let third = at_last c.in-Some.behind.now c.cut_at_space-3.result.0.now c.cut_at_space-3.result.1 c.cut_at_space-3.ensures.front (nothing c.cut_at_space-3.result.1 (sym c.is_some.ensures ∙ c.if-is_some.false)) c.cut_at_space-3.ensures.parts in
    first ∙ ap (λ ps. c.cut_at_space.result.0.now ∷ ps) (second ∙ ap (λ ps. c.cut_at_space-2.result.0.now ∷ ps) third)
