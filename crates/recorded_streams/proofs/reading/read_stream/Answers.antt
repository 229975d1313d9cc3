use Rattle.std.proofs.Common.{◌≡◌, [], ◌∷◌, Some, None, sym, ap, ◌∙◌}
use Rattle.script_rules.specs.Lines.{lines_of}
use Rattle.script_words.specs.Cursors.{lines_left}
use Rattle.recorded_streams.specs.Streams.{items_of_lines, of_client}
use Rattle.recorded_streams.proofs.ByLines.{by_lines, by_client, of_fault}
use Rattle.recorded_streams.proofs.reading.read_stream.Goals as goal

pub returns-in_default : goal.returns-in_default
returns-in_default c = by_lines c.args.plan.now c.args.text.now [] (sym c.of-lines.ensures ∙ c.in_default.ensures.line)

pub returns-in_default-client_behind : goal.returns-in_default-client_behind
returns-in_default-client_behind c =
    let lines : lines_of c.args.text.now ≡ c.in-Some.line.now ∷ lines_left c.next.new.self = sym c.of-lines.ensures ∙ c.in-Some.ensures.line in
    by_client c.args.plan.now c.args.text.now c.in-Some.line.now (lines_left c.next.new.self) None lines c.in_default-client_behind.ensures

pub returns-in_err-items_of_lines : goal.returns-in_err-items_of_lines
returns-in_err-items_of_lines c =
    let lines : lines_of c.args.text.now ≡ c.in-Some.line.now ∷ lines_left c.next.new.self = sym c.of-lines.ensures ∙ c.in-Some.ensures.line in
    let client = c.in-Some-client_behind.client in
    rw (by_client c.args.plan.now c.args.text.now c.in-Some.line.now (lines_left c.next.new.self) (Some client) lines c.in-Some-client_behind.ensures)
    (of_fault (items_of_lines c.args.plan.now.passing [] (lines_left c.next.new.self)) client c.from_residual.result c.in_err-items_of_lines.field-0.0 c.from_residual.ensures.1 (c.in_err-items_of_lines.ensures {u = tt}))

pub returns : goal.returns
returns c =
    let lines : lines_of c.args.text.now ≡ c.in-Some.line.now ∷ lines_left c.next.new.self = sym c.of-lines.ensures ∙ c.in-Some.ensures.line in
    let client = c.in-Some-client_behind.client in
    by_client c.args.plan.now c.args.text.now c.in-Some.line.now (lines_left c.next.new.self) (Some client) lines c.in-Some-client_behind.ensures
    ∙ ap (of_client (Some client)) c.in_ok-items_of_lines.ensures
