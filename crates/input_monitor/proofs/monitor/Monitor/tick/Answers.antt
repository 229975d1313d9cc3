use Rattle.std.proofs.Common.{◌≡◌, ◌∙◌, List, map, length, ap, sym, subst}
use Rattle.std.proofs.lemmas.List.{length-map}
use Rattle.dpc_model.specs.Replicas.{Watch, after_tick}
use Rattle.input_monitor.specs.Marks.{AreUnmarked}
use Rattle.input_monitor.proofs.Marked.{unmarked-tick}
use Rattle.input_monitor.proofs.Refilled.{refill-same}
use Rattle.input_monitor.proofs.monitor.Monitor.tick.Goals as goal

pub invariant_of-self : goal.invariant_of-self
invariant_of-self c = λ e.
    let items = c.self.inside.watches.items in
    let ticked : c.tick_all.new.watches ≡ map after_tick items = c.tick_all.ensures ∙ ap (λ (ws : List Watch). map after_tick ws) c.as_mut_slice.ensures.value in
    let long : length c.tick_all.new.watches ≡ length items = ap (λ (ws : List Watch). length ws) ticked ∙ length-map items after_tick in
    subst (λ (ws : List Watch). AreUnmarked ws) (sym (refill-same items c.tick_all.new.watches long ∙ ticked)) (unmarked-tick items (c.self.invariant e))
