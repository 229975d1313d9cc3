use Rattle.std.proofs.Common.{Some, None, ap, ◌∙◌}
use Rattle.recorded_streams.specs.Streams.{of_client}
use Rattle.recorded_streams.proofs.ByLines.{by_frames}
use Rattle.recorded_streams.proofs.reading.read_stream_frames.Goals as goal

pub returns-in_default : goal.returns-in_default
returns-in_default c =
    by_frames c.args.plan.now c.args.bytes.now c.first_line.result.0.now c.first_line.result.1.now None c.first_line.ensures.line c.first_line.ensures.behind c.in_default.ensures

pub returns-in-Ok : goal.returns-in-Ok
returns-in-Ok c =
    by_frames c.args.plan.now c.args.bytes.now c.first_line.result.0.now c.first_line.result.1.now (Some c.in-Some.client) c.first_line.ensures.line c.first_line.ensures.behind c.in-Some.ensures
    ∙ ap (of_client (Some c.in-Some.client)) c.in-Ok.ensures

pub returns-in-Err-NoFrame : goal.returns-in-Err-NoFrame
returns-in-Err-NoFrame c =
    by_frames c.args.plan.now c.args.bytes.now c.first_line.result.0.now c.first_line.result.1.now (Some c.in-Some.client) c.first_line.ensures.line c.first_line.ensures.behind c.in-Some.ensures
    ∙ ap (of_client (Some c.in-Some.client)) (rw c.in-Err-NoFrame.field-0-is at c.in-Err-NoFrame.ensures)
