use Rattle.std.proofs.Common.{◌≡◌, ◌∙◌, ap, List, slice_index_or}
use Rattle.dpc_model.specs.Actors.{senders_of}
use Rattle.dpc_model.specs.Inlets.{new_inlet}
use Rattle.dpc_model.specs.PartStands.{InletValue}
use Rattle.dpc_model.specs.declared.plans.ClientSpec.{ClientSpec}
use Rattle.dpc_model.specs.declared.plans.Plan.{Plan}
use Rattle.dpc_model.specs.declared.plans.StreamRef.{StreamRef}
use Rattle.dpc_model.specs.declared.tuples.Item.{Item}
use Rattle.node_model.specs.Clients.{client_stream}
use Rattle.upstream.specs.Upstreams.{UpstreamValue, new_upstream}
use Rattle.client_fold.proofs.Batching.{valued}
use Rattle.client_fold.proofs.Following.{stream-in, new-stands}
use Rattle.client_fold.proofs.client.Client.new.Goals as goal

pub returns : goal.returns
returns c =
    let plan : Plan = c.args.plan.now in
    let client : ClientSpec = c.index-as_slice-c.result in
    let stream = stream-in c.args.c plan.clients client c.requires.is_client in
    let opened : UpstreamValue = new_upstream (senders_of plan (client_stream plan c.args.c)) in
    let upstream : c.in_ok-upstream.upstream ≡ opened =
    c.in_ok-upstream.ensures ∙ ap (λ (clients : List ClientSpec). new_upstream (senders_of plan (slice_index_or clients c.args.c client).input)) c.as_slice.ensures
    ∙ ap (λ (s : StreamRef). new_upstream (senders_of plan s)) stream in
    new-stands plan c.args.c (valued c.in_ok-upstream.upstream plan.end 0 c.new-2.result c.new-3.result.items)
    (ap (λ (u : UpstreamValue). valued u plan.end 0 c.new-2.result c.new-3.result.items) upstream ∙ ap (λ (i : InletValue). valued opened plan.end 0 i c.new-3.result.items) c.new-2.ensures
    ∙ ap (λ (batches : List (List Item)). valued opened plan.end 0 (record { count = 0; state = new_inlet 1 }) batches) c.new-3.ensures.items)
