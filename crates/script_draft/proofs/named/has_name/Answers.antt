use Rattle.std.proofs.Common.{◌∙◌, ap, map}
use Rattle.std.specs.Prelude.{is_some}
use Rattle.script_draft.proofs.Names.{among-place}
use Rattle.script_draft.proofs.named.has_name.Goals as goal

pub returns : goal.returns
returns g c = c.is_some.ensures ∙ ap is_some c.place_of.ensures ∙ among-place c.args.name.now (map g.T.Named.name c.args.all.now)
