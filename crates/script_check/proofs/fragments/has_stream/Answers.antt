use Rattle.std.proofs.Common.{map, ap, ◌∙◌}
use Rattle.std.specs.Prelude.{is_some}
use Rattle.dpc_model.specs.ScriptText.{stream_name}
use Rattle.script_draft.proofs.Names.{among-place}
use Rattle.script_check.proofs.fragments.has_stream.Goals as goal

pub returns : goal.returns
returns c = c.is_some.ensures ∙ ap is_some c.place_of_stream.ensures ∙ among-place c.args.name.now (map (stream_name c.args.plan.now) c.args.streams.now)
