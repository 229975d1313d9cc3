use Rattle.std.proofs.Common.{◌≡◌, ap, sym, subst, ◌∙◌, false, true, ◌≤◌, length, slice_get, Some, get_or}
use Rattle.std.proofs.lemmas.Option.{slice_get-get_or}
use Rattle.dpc_model.specs.declared.messages.Event.TheVariants.{Phase}
use Rattle.live_run.specs.Lives.{LiveRunOf, world_in}
use Rattle.world_core.specs.Runs.{RunOf}
use Rattle.journal_replay.proofs.Entries.{HasReplayed, none-replayed, next-replayed, all-replayed, stopped, stop-err, whole, unfinished, run-of}
use Rattle.journal_replay.proofs.replaying.replay_watched.Goals as goal

pub loop-entry-init : goal.loop-entry-init
loop-entry-init g c =
    let state = c.in_ok-run.ensures {u = tt} in
    record {
      replayed = none-replayed c.args.script c.in_ok-run.run' state;
      saw = λ start h. subst (λ (r : LiveRunOf). g.W.Watcher.saw start (world_in r) c.args.watcher.now) (sym state) h;
      stays = λ start h. h;
    }

pub step-requires : goal.step-requires
step-requires g c = ap (λ (r : LiveRunOf). r.spent) c.loop-entry.invariant.replayed.state

pub returns-in_err-step-clause-err : goal.returns-in_err-step-clause-err
returns-in_err-step-clause-err g c =
    let events = c.args.events.now in
    stop-err _ c.in_err-step.field-0.0 c.args.script events c.from_residual-in_err-step.ensures
    (stopped c.args.script events c.loop-entry.entry (get_or events c.loop-entry.entry (Phase 0)) c.loop-entry.run c.in_err-step.field-0.0
    (slice_get-get_or events c.loop-entry.entry (Phase 0) c.loop-entry-test.true) c.loop-entry.invariant.replayed c.in_err-step.ensures.err)

pub loop-entry-preserved : goal.loop-entry-preserved
loop-entry-preserved g c =
    let events = c.args.events.now in
    let next = next-replayed c.args.script events c.loop-entry.entry (get_or events c.loop-entry.entry (Phase 0)) c.loop-entry.run c.step.new.run
    (slice_get-get_or events c.loop-entry.entry (Phase 0) c.loop-entry-test.true) c.loop-entry.invariant.replayed c.in_ok-step.ensures.ok in
    record {
      replayed = next;
      saw = λ start h. c.in_ok-step.ensures.saw start (c.loop-entry.invariant.saw start h);
      stays = λ start h. c.step.ensures.stays start (c.loop-entry.invariant.stays start h);
    }

pub is_complete-requires : goal.is_complete-requires
is_complete-requires g c = ap (λ (r : LiveRunOf). r.spent) c.loop-entry.invariant.replayed.state

pub returns-then-not-is_complete-clause-err : goal.returns-then-not-is_complete-clause-err
returns-then-not-is_complete-clause-err g c =
    unfinished c.args.script c.args.events.now c.loop-entry.run
    (all-replayed c.args.script c.args.events.now c.loop-entry.entry c.loop-entry.run c.loop-entry-test.false c.loop-entry.invariant.replayed)
    (sym c.is_complete.ensures ∙ c.if-not-is_complete.true)

pub returns-clause-run : goal.returns-clause-run
returns-clause-run g c =
    run-of c.args.script c.args.events.now c.loop-entry.run c.into_world.result
    (all-replayed c.args.script c.args.events.now c.loop-entry.entry c.loop-entry.run c.loop-entry-test.false c.loop-entry.invariant.replayed)
    c.into_world.ensures.plan c.into_world.ensures.events c.into_world.ensures.spent

pub returns-clause-whole : goal.returns-clause-whole
returns-clause-whole g c =
    whole c.args.script c.args.events.now c.loop-entry.run
    (all-replayed c.args.script c.args.events.now c.loop-entry.entry c.loop-entry.run c.loop-entry-test.false c.loop-entry.invariant.replayed)
    (sym c.is_complete.ensures ∙ c.if-not-is_complete.false)

pub returns-clause-saw : goal.returns-clause-saw
returns-clause-saw g c = λ seen.
    let whole = all-replayed c.args.script c.args.events.now c.loop-entry.entry c.loop-entry.run c.loop-entry-test.false c.loop-entry.invariant.replayed in
    subst (λ (w : RunOf). g.W.Watcher.saw c.args.watcher.now w c.loop-entry.watcher)
    (ap world_in whole.state ∙ sym (run-of c.args.script c.args.events.now c.loop-entry.run c.into_world.result whole c.into_world.ensures.plan c.into_world.ensures.events c.into_world.ensures.spent))
    (c.loop-entry.invariant.saw c.args.watcher.now seen)
