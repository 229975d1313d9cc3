-- What is shown of a phase in a lane, as a number or a letter.
use Rattle.std.specs.Prelude.{ℕ, ◌+◌, List, map}
use Rattle.dpc_lists.specs.Lists.{nth, range_with_len}
use Rattle.picture_model.specs.Points.{first_point}
use Rattle.picture_model.specs.declared.columns.Column.{Column}
use Rattle.picture_model.specs.declared.columns.ReplicaState.{ReplicaState}
use Rattle.picture_model.specs.declared.columns.ReplicaState.TheVariants.{Stable, UpFailure, Stabilization, Recovering, Down}
use Rattle.picture_text.specs.Signs.{link_sign, reads_sign}
use Rattle.picture_text.specs.Strips.{first_client}
use Rattle.picture_svg.specs.Layout.{count_of, column_at}
use Rattle.picture_svg.specs.declared.values.What.{What}
use Rattle.picture_svg.specs.declared.values.What.TheVariants as what

-- S, U, C, R or x
abbrev pub state_letter : ReplicaState → ℕ
state_letter Stable = 83
state_letter UpFailure = 85
state_letter Stabilization = 67
state_letter Recovering = 82
state_letter Down = 120

abbrev pub value_of : What → Column → ℕ
value_of (what.Bound s) c = (nth first_point c.sources s).bound
value_of (what.Sent s) c = (nth first_point c.sources s).sent
value_of what.Links c = link_sign c.cuts
value_of (what.State r) c = state_letter (nth Down c.replicas r)
value_of (what.Stable x) c = (nth first_client c.clients x).stable
value_of (what.Held x) c = (nth first_client c.clients x).stable + (nth first_client c.clients x).tentative
value_of (what.Undos x) c = (nth first_client c.clients x).undos
value_of (what.Dones x) c = (nth first_client c.clients x).dones
value_of (what.Reads x) c = reads_sign (nth first_client c.clients x)

-- at each phase that is shown
abbrev pub values_of : What → List Column → List ℕ
values_of w columns = map (λ j. value_of w (column_at columns j)) (range_with_len 0 (count_of columns))
