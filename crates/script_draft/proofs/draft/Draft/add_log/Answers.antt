use Rattle.std.proofs.Common.{◌≡◌, ◌∙◌, Some, refl, ap, sym, subst, ◌<◌, ◌+◌, length, length-append, arith}
use Rattle.script_rules.specs.Statements.{LogLine}
use Rattle.script_rules.specs.Drafts.{and_then, source_named}
use Rattle.script_rules.specs.Reasons.{log_entries}
use Rattle.script_draft.specs.Columns.{AreColumns}
use Rattle.script_draft.specs.contracts.draft.Draft.{the_view}
use Rattle.script_draft.proofs.Changes.{log-added, entries-log}
use Rattle.script_draft.proofs.Columns.{source-columns-set}
use Rattle.script_draft.proofs.draft.Draft.add_log.Goals as goal

pub returns-clause-ok : goal.returns-clause-ok
returns-clause-ok c name named =
    let named_then : source_named (the_view c.self.inside) name ≡ Some c.args.source = subst (λ d. source_named d name ≡ Some c.args.source) (sym c.self.view_is) named in
    log-added (the_view c.self.inside) name c.args.source (record { stime = c.args.time; vals = c.args.vals }) c.index_mut.result.now _ (subst (λ d. c.args.source < length d.sources) (sym c.self.view_is) c.requires.there) c.index_mut.ensures.value (rw c.in_ok-push.ensures.ok refl) named_then
    ∙ ap (λ d. and_then d (LogLine name c.args.time c.args.vals)) c.self.view_is

pub invariant_of-self : goal.invariant_of-self
invariant_of-self c =
    let low = subst (λ d. c.args.source < length d.sources) (sym c.self.view_is) c.requires.there in
    let few = c.self.invariant.entries.few in
    let same : length c.push.new.self ≡ length c.index_mut.result.now.log + 0 = rw c.in_err-push.ensures.err (omega arith) in
    record {
      entries = entries-log c.self.inside.sources.items c.args.source c.self.inside.entries c.self.inside.entries 0 c.index_mut.result.now _ low c.index_mut.ensures.value same c.self.invariant.entries (omega arith) few;
      down = c.self.invariant.down;
      nodes = c.self.invariant.nodes;
      columns = subst (λ l. AreColumns l c.self.inside.frags.items c.self.inside.earlier.items c.self.inside.ports.items c.self.inside.outs.items)
          (sym (source-columns-set c.self.inside.sources.items c.args.source c.index_mut.result.now _ c.index_mut.ensures.value refl)) c.self.invariant.columns;
    }

pub invariant_of-self-2 : goal.invariant_of-self-2
invariant_of-self-2 c =
    let low = subst (λ d. c.args.source < length d.sources) (sym c.self.view_is) c.requires.there in
    let few = subst (λ d. log_entries d < 200000) (sym c.self.view_is) c.requires.room in
    let count = c.self.invariant.entries.count in
    let more : length c.push.new.self ≡ length c.index_mut.result.now.log + 1 = rw c.in_ok-push.ensures.ok (length-append c.index_mut.result.now.log _) in
    record {
      entries = entries-log c.self.inside.sources.items c.args.source c.self.inside.entries (c.self.inside.entries + 1) 1 c.index_mut.result.now _ low c.index_mut.ensures.value more c.self.invariant.entries refl (omega (arith, few, count));
      down = c.self.invariant.down;
      nodes = c.self.invariant.nodes;
      columns = subst (λ l. AreColumns l c.self.inside.frags.items c.self.inside.earlier.items c.self.inside.ports.items c.self.inside.outs.items)
          (sym (source-columns-set c.self.inside.sources.items c.args.source c.index_mut.result.now _ c.index_mut.ensures.value refl)) c.self.invariant.columns;
    }
