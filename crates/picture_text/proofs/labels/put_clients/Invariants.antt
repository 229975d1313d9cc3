use Rattle.std.proofs.Common.{◌≡◌, ◌++◌, take}
use Rattle.std.specs.Prelude.{flat_map}
use Rattle.picture_text.specs.Text.{client_labels}
use Rattle.picture_text.proofs.labels.put_clients.Given as goal

abbrev pub invariant-loop-client : goal.invariant-loop-client
invariant-loop-client l = l.labels.items ≡ l.fn.labels.items ++ flat_map client_labels (take l.client-index l.clients)
