use Rattle.node_model.specs.Clients.{client_stream}
use Rattle.live_view.proofs.TakenItems.{client-held, client-counted, client-bounded}
use Rattle.live_view.proofs.laws.a_client_is_told.Goals as goal

pub returns : goal.returns
returns c = record {
  held = λ plan c. client-held plan (client_stream plan c) c;
  count = λ plan c. client-counted plan (client_stream plan c);
  bound = λ plan c. client-bounded plan (client_stream plan c);
}
