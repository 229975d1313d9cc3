use Rattle.script_draft.proofs.Downs.{down-restart}
use Rattle.script_draft.proofs.draft.Draft.add_directive.Goals as goal

pub invariant_of-self-in-Restart : goal.invariant_of-self-in-Restart
invariant_of-self-in-Restart c = record {
  entries = c.self.invariant.entries;
  down = rw (c.remove.ensures, c.in_ok-push-in-Restart.ensures.items) (down-restart c.self.inside.phases.items c.self.inside.directives.items c.in-Restart.node c.self.inside.down.items c.self.invariant.down);
  nodes = c.self.invariant.nodes;
  columns = c.self.invariant.columns;
}
