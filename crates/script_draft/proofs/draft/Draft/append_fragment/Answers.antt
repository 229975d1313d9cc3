use Rattle.std.proofs.Common.{◌≡◌, ◌<◌, [], true, length, map, sym, subst}
use Rattle.dpc_lists.specs.Lists.{list_all}
use Rattle.script_draft.specs.Columns.{source_columns, outputs_behind, columns_in, is_among_streams, are_few}
use Rattle.script_draft.specs.contracts.draft.Draft.{the_view}
use Rattle.script_draft.proofs.Nodes.{few-push}
use Rattle.script_draft.proofs.Columns.{columns-fragment, few-outputs}
use Rattle.script_draft.proofs.draft.Draft.append_fragment.Goals as goal

pub invariant_of-self-2 : goal.invariant_of-self-2
invariant_of-self-2 c =
    let d = the_view c.self.inside in
    let sources = source_columns c.self.inside.sources.items in
    let frags = c.self.inside.frags.items in
    let room = subst (λ x. length x.frags < 16) (sym c.self.view_is) c.requires.room in
    let inputs = subst (λ x. list_all (is_among_streams (length (source_columns x.sources)) (length x.frags)) c.args.frag.inputs ≡ true) (sym c.self.view_is) c.requires.inputs in
    let earlier = subst (λ x. c.args.earlier.items ≡ outputs_behind (source_columns x.sources) [] x.frags) (sym c.self.view_is) c.requires.earlier in
    let ports = subst (λ x. c.args.ports.items ≡ map (columns_in (source_columns x.sources) c.args.earlier.items) c.args.frag.inputs) (sym c.self.view_is) c.requires.ports in
    let few = subst (λ l. are_few l ≡ true) (sym earlier) (few-outputs sources frags _ _ _ c.self.invariant.columns) in
    record {
      entries = c.self.invariant.entries;
      down = c.self.invariant.down;
      nodes = rw c.in_ok-push.ensures.items (few-push frags c.args.frag c.self.invariant.nodes room c.requires.few);
      columns = rw (c.in_ok-push.ensures.items, c.clear.ensures.items)
          (columns-fragment sources frags _ _ _ c.args.frag c.args.earlier.items c.args.ports.items c.self.invariant.columns c.requires.empty earlier ports inputs few);
    }
