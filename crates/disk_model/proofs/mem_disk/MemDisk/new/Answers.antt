use Rattle.std.proofs.Common.{◌≡◌, List, length, sym, ap, ◌∙◌, arith}
use Rattle.disk_model.specs.Disk.{Image}
use Rattle.disk_model.specs.Calls.{history_of}
use Rattle.disk_model.specs.declared.call.Call.{Call}
use Rattle.disk_model.proofs.mem_disk.MemDisk.new.Goals as goal

pub invariant_of-result : goal.invariant_of-result
invariant_of-result c = record {
  marked = λ k call low. let none : length c.new-calls.result.items ≡ 0 = ap length c.new-calls.ensures.items in absurd (omega arith);
  kept = λ i out. ap (λ (image : Image). image i) c.new-pages.ensures ∙ sym (ap (λ (calls : List Call). (history_of calls).now.synced i) c.new-calls.ensures.items);
}
