-- What a mill keeps, as it is lent.
use Rattle.ops_window.specs.Saving.{all_saved}
use Rattle.fragment_mill.specs.declared.states.OperatorParts.{OperatorParts}
use Rattle.fragment_mill.specs.declared.states.OperatorParts.TheVariants as part
use Rattle.fragment_mill.specs.declared.views.KeptView.{KeptView}
use Rattle.fragment_mill.specs.declared.views.KeptView.TheVariants.{Plain, Join, Aggregate}

-- the plain data that a view shows
abbrev pub shown : KeptView → OperatorParts
shown Plain = part.Plain
shown (Join left right) = part.Join left.now.items right.now.items
shown (Aggregate cells) = part.Aggregate (all_saved cells.now)
