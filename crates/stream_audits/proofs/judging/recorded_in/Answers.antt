use Rattle.recorded_streams.specs.Streams.{stream_of, framed_stream_of}
use Rattle.stream_audits.proofs.judging.recorded_in.Goals as goal

pub returns-in-Lines : goal.returns-in-Lines
returns-in-Lines c = rw c.in-Lines.is (c.told.ensures (stream_of c.args.plan.now c.args.text.now) c.read_stream.ensures)

pub returns-in-Frames : goal.returns-in-Frames
returns-in-Frames c = rw c.in-Frames.is (c.told-in-Frames.ensures (framed_stream_of c.args.plan.now c.args.text.now) c.read_stream_frames.ensures)
