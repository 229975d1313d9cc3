-- What is left of a line that is cut at each of its spaces.
use Rattle.std.specs.Prelude.{List, [], Some, None}
use Rattle.dpc_model.specs.Words.{Word}
use Rattle.script_rules.specs.Lines.{pieces}
use Rattle.recorded_streams.specs.declared.pieces.Pieces.{Pieces}

abbrev pub pieces_left : Pieces → List Word
pieces_left p = elim p.rest [ None ↦ [] | Some rest ↦ pieces 32 rest.now ]
