use Rattle.std.proofs.Common.{◌≡◌, Some, None, length, sym, ◌∙◌, arith}
use Rattle.script_rules.specs.Drafts.{place_of_name}
use Rattle.journal_text.specs.Actors.{node_names}
use Rattle.journal_text.proofs.Found.{source_found, node_found, client_found, no_actor}
use Rattle.journal_text.proofs.actors.actor_named.Goals as goal

pub returns-in-Some : goal.returns-in-Some
returns-in-Some c = source_found c.args.plan.now c.args.word.now c.in-Some.source (rw c.as_slice.ensures at c.in-Some.ensures)

pub returns-in-Some-2 : goal.returns-in-Some-2
returns-in-Some-2 c =
    let placed : Some c.in-Some-2.node ≡ place_of_name c.args.word.now (node_names c.args.plan.now.frags) = sym c.in-Some-2.is ∙ rw c.as_slice-frags.ensures at c.in_ok-node.ensures in
    node_found c.args.plan.now c.args.word.now c.in-Some-2.node c.in_ok-add.field-0 (rw c.as_slice.ensures at c.in_default.ensures) placed (omega (arith, c.in_ok-add.ensures, c.len-sources.ensures))

pub returns-in_default-place_of : goal.returns-in_default-place_of
returns-in_default-place_of c =
    let none : None ≡ place_of_name c.args.word.now (node_names c.args.plan.now.frags) = sym c.in_default-2.is ∙ rw c.as_slice-frags.ensures at c.in_ok-node.ensures in
    no_actor c.args.plan.now c.args.word.now (rw c.as_slice.ensures at c.in_default.ensures) none (rw c.as_slice-2.ensures at c.in_default-place_of.ensures)

pub returns : goal.returns
returns c =
    let none : None ≡ place_of_name c.args.word.now (node_names c.args.plan.now.frags) = sym c.in_default-2.is ∙ rw c.as_slice-frags.ensures at c.in_ok-node.ensures in
    let many : c.in_ok-count_nodes.field-0 ≡ length (node_names c.args.plan.now.frags) = rw c.as_slice-frags.ensures at c.in_ok-count_nodes.ensures in
    client_found c.args.plan.now c.args.word.now c.in-Some-place_of.client c.in_ok-add-2.field-0 (rw c.as_slice.ensures at c.in_default.ensures) none (rw c.as_slice-2.ensures at c.in-Some-place_of.ensures)
    (omega (arith, c.in_ok-add-2.ensures, c.in_ok-others.ensures, c.len-sources.ensures, many))
