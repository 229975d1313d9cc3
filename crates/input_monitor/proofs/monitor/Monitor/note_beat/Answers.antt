use Rattle.std.proofs.Common.{◌<◌, ◌∙◌, ap, sym, subst, List, length}
use Rattle.dpc_lists.specs.Lists.{changed}
use Rattle.dpc_model.specs.Replicas.{Watch, after_beat}
use Rattle.input_monitor.specs.Marks.{AreUnmarked}
use Rattle.input_monitor.proofs.Marked.{unmarked-beat}
use Rattle.input_monitor.proofs.Refilled.{refill-changed}
use Rattle.input_monitor.proofs.monitor.Monitor.note_beat.Goals as goal

pub returns : goal.returns
returns c =
    let low = subst (λ (ws : List Watch). c.args.r < length ws) (sym c.self.view_is) c.requires in
    refill-changed c.self.inside.watches.items c.deref_mut.result.now c.args.r (after_beat c.args.inc c.args.state c.args.recovering) c.index-deref_mut-r.result c.note_beat.new.self
    c.deref_mut.ensures.value low c.index-deref_mut-r.is
    (c.note_beat.ensures ∙ ap (after_beat c.args.inc c.args.state c.args.recovering) (sym c.index-deref_mut-r.is))
    ∙ ap (λ (ws : List Watch). changed c.args.r (after_beat c.args.inc c.args.state c.args.recovering) ws) c.self.view_is

pub invariant_of-self : goal.invariant_of-self
invariant_of-self c = λ e.
    let low = subst (λ (ws : List Watch). c.args.r < length ws) (sym c.self.view_is) c.requires in
    let noted =
    refill-changed c.self.inside.watches.items c.deref_mut.result.now c.args.r (after_beat c.args.inc c.args.state c.args.recovering) c.index-deref_mut-r.result c.note_beat.new.self
    c.deref_mut.ensures.value low c.index-deref_mut-r.is
    (c.note_beat.ensures ∙ ap (after_beat c.args.inc c.args.state c.args.recovering) (sym c.index-deref_mut-r.is)) in
    subst (λ (ws : List Watch). AreUnmarked ws) (sym noted) (unmarked-beat c.args.r c.args.inc c.args.state c.args.recovering c.self.inside.watches.items (c.self.invariant e))
