use Rattle.std.proofs.Common.{◌≡◌, map, take}
use Rattle.script_draft.specs.Columns.{columns_in, source_columns}
use Rattle.script_draft.proofs.draft.columns.port_columns.Given as goal

abbrev pub invariant-loop-stream : goal.invariant-loop-stream
invariant-loop-stream l = l.columns.items ≡ map (columns_in (source_columns l.sources) l.frags) (take l.stream-index l.streams)
