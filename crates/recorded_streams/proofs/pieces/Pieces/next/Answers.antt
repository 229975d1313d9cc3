use Rattle.recorded_streams.proofs.Cutting.{next_piece}
use Rattle.recorded_streams.proofs.pieces.Pieces.next.Goals as goal

pub returns : goal.returns
returns c = next_piece c.args.self.now.rest c.in_ok-self.field-0 c.cut_at_space.result.0.now c.cut_at_space.result.1 (c.in_ok-self.was {u = tt}) c.cut_at_space.ensures.front c.cut_at_space.ensures.parts
