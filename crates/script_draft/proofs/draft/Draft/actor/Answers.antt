use Rattle.std.proofs.Common.{◌≡◌, ◌+◌, Some, None, false, sym, subst, length, arith}
use Rattle.std.specs.Prelude.{slice_get}
use Rattle.dpc_model.specs.Actors.{nodes_from}
use Rattle.dpc_model.specs.declared.actors.Role.TheVariants.{Node as IsNode, Client as IsClient}
use Rattle.dpc_model.specs.declared.plans.ClientSpec.{ClientSpec}
use Rattle.script_rules.specs.Drafts.{source_named, source_names, actor_named, place_of_name}
use Rattle.script_rules.specs.Reasons.{is_among}
use Rattle.script_draft.specs.Nodes.{IsActor, names_of_nodes}
use Rattle.script_draft.specs.contracts.draft.Draft.{the_view}
use Rattle.script_rules.proofs.Called.{client_names}
use Rattle.script_draft.proofs.Names.{named-within}
use Rattle.script_draft.proofs.Nodes.{none-among, few-places}
use Rattle.script_draft.proofs.Actors.{source-actor, node-actor, client-actor, no-actor}
use Rattle.script_draft.proofs.draft.Draft.actor.Goals as goal

pub returns-in-Some : goal.returns-in-Some
returns-in-Some c = source-actor c.args.self.now c.args.name.now c.in-Some.source (sym c.in-Some.ensures)

pub overflow_add-result : goal.overflow_add-result
overflow_add-result c =
    let placed : place_of_name c.args.name.now (names_of_nodes c.self.inside.frags.items) ≡ Some c.in-Some-node_named.node.place = rw c.as_slice.ensures.value at c.in-Some-node_named.ensures.0 in
    let few = few-places c.args.name.now c.self.inside.frags.items c.in-Some-node_named.node.place c.self.invariant.nodes placed in
    omega (arith, few, c.self.inside.sources.ok)

pub returns-in-Some-node_named : goal.returns-in-Some-node_named
returns-in-Some-node_named c =
    let d = the_view c.self.inside in
    let node = c.in-Some-node_named.node in
    let none : source_named d c.args.name.now ≡ None = subst (λ x. source_named x c.args.name.now ≡ None) (sym c.self.view_is) (sym c.in_default.ensures) in
    let placed : place_of_name c.args.name.now (names_of_nodes d.frags) ≡ Some node.place = rw c.as_slice.ensures.value at c.in-Some-node_named.ensures.0 in
    let at : slice_get (nodes_from 0 d.frags) node.place ≡ Some (node.frag, node.replica) = rw c.as_slice.ensures.value at c.in-Some-node_named.ensures.1 in
    let many : length d.sources ≡ c.len-sources.result = omega (arith, c.self.inside.sources.ok) in
    let is = node-actor d c.args.name.now node.place node.frag node.replica (none-among c.args.name.now (source_names d) none) placed at in
    subst (λ x. IsActor x c.args.name.now (c.len-sources.result + node.place) (IsNode node.frag node.replica)) c.self.view_is
    (subst (λ k. IsActor d c.args.name.now (k + node.place) (IsNode node.frag node.replica)) many is)

pub returns-in_err-client : goal.returns-in_err-client
returns-in_err-client c =
    let d = the_view c.self.inside in
    let none : source_named d c.args.name.now ≡ None = subst (λ x. source_named x c.args.name.now ≡ None) (sym c.self.view_is) (sym c.in_default.ensures) in
    let no_node : is_among c.args.name.now (names_of_nodes d.frags) ≡ false = rw c.as_slice.ensures.value at c.in_default-node_named.ensures in
    let no_client : place_of_name c.args.name.now (client_names d) ≡ None = rw c.as_slice-2.ensures.value at (sym c.in_err-client.ensures) in
    rw c.from_residual.ensures
    (subst (λ x. actor_named x c.args.name.now ≡ None) c.self.view_is (no-actor d c.args.name.now (none-among c.args.name.now (source_names d) none) no_node no_client))

pub overflow_add-result-3 : goal.overflow_add-result-3
overflow_add-result-3 c =
    let placed : place_of_name c.args.name.now (client_names (the_view c.self.inside)) ≡ Some c.in_ok-client.client = rw c.as_slice-2.ensures.value at (sym c.in_ok-client.ensures) in
    let low = named-within (λ (x : ClientSpec). x.name) c.args.name.now c.self.inside.clients.items c.in_ok-client.client placed in
    let few = c.count_nodes.ensures.few in
    omega (arith, low, few, c.self.inside.sources.ok, c.self.inside.clients.ok)

pub returns : goal.returns
returns c =
    let d = the_view c.self.inside in
    let none : source_named d c.args.name.now ≡ None = subst (λ x. source_named x c.args.name.now ≡ None) (sym c.self.view_is) (sym c.in_default.ensures) in
    let no_node : is_among c.args.name.now (names_of_nodes d.frags) ≡ false = rw c.as_slice.ensures.value at c.in_default-node_named.ensures in
    let placed : place_of_name c.args.name.now (client_names d) ≡ Some c.in_ok-client.client = rw c.as_slice-2.ensures.value at (sym c.in_ok-client.ensures) in
    let nodes : c.count_nodes.result ≡ length (nodes_from 0 d.frags) = rw c.as_slice-3.ensures.value at c.count_nodes.ensures.count in
    let many : length d.sources + length (nodes_from 0 d.frags) ≡ c.len-sources.result + c.count_nodes.result = omega (arith, nodes, c.self.inside.sources.ok) in
    let is = client-actor d c.args.name.now c.in_ok-client.client (none-among c.args.name.now (source_names d) none) no_node placed in
    subst (λ x. IsActor x c.args.name.now (c.len-sources.result + c.count_nodes.result + c.in_ok-client.client) (IsClient c.in_ok-client.client)) c.self.view_is
    (subst (λ k. IsActor d c.args.name.now (k + c.in_ok-client.client) (IsClient c.in_ok-client.client)) many is)
