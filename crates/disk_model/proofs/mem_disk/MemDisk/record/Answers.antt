use Rattle.std.proofs.Common.{List, sym, subst, ap, ◌∙◌}
use Rattle.disk_model.specs.Disk.{MayLeave, History}
use Rattle.disk_model.specs.Paging.{image_of}
use Rattle.disk_model.specs.Calls.{blank, history_of, faults_of, AreMarked}
use Rattle.disk_model.specs.declared.call.Call.{Call}
use Rattle.disk_model.proofs.Records.{replayed_push, faults_push, marked_push, may_record, either}
use Rattle.disk_model.proofs.mem_disk.MemDisk.record.Goals as goal

pub invariant_of-self : goal.invariant_of-self
invariant_of-self c =
    let old = c.args.self.now in
    let call : Call = record { kind = c.args.kind; done = c.args.done } in
    let calls = old.calls.items in
    let image = image_of old.pages.map in
    let may = may_record (history_of calls) c.args.kind c.args.done old.pages c.requires.of_now old.kept in
    record {
      marked = either _ calls _ call c.push.ensures.items (AreMarked old.fails.items) (marked_push old.fails.items calls call old.marked c.requires.listed) old.marked;
      kept = either _ calls _ call c.push.ensures.items (λ (cs : List Call). MayLeave (history_of cs).now image) (subst (λ (h : History). MayLeave h.now image) (sym (replayed_push blank calls call)) may) old.kept;
    }

pub returns-clause-history : goal.returns-clause-history
returns-clause-history c = ap history_of c.in_ok-push.ensures.items ∙ replayed_push blank c.args.self.now.calls.items (record { kind = c.args.kind; done = c.args.done })

pub returns-clause-faults : goal.returns-clause-faults
returns-clause-faults c = ap faults_of c.in_ok-push.ensures.items ∙ faults_push c.args.self.now.calls.items (record { kind = c.args.kind; done = c.args.done })
