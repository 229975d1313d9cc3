use Rattle.recorded_streams.proofs.Cutting.{none_left, nothing_left}
use Rattle.recorded_streams.proofs.pieces.Pieces.is_empty.Goals as goal

pub returns : goal.returns
returns c = (none_left c.args.self.now.rest c.is_none.result c.is_none.ensures, nothing_left c.args.self.now.rest c.is_none.result c.is_none.ensures)
