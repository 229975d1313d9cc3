use Rattle.std.proofs.Common.{Vec, Global, ◌≡◌, ◌∙◌, ◌++◌, [], ◌∷◌, ap, sym, cond, List, Bool}
use Rattle.std.proofs.lemmas.List.{append-nil}
use Rattle.dpc_model.specs.declared.messages.Event.{Event}
use Rattle.dpc_model.specs.declared.messages.Event.TheVariants.{Tick}
use Rattle.world_model.specs.Worlds.{is_up}
use Rattle.world_core.specs.Runs.{world_of}
use Rattle.lockstep.proofs.Counting.{kept-more}
use Rattle.lockstep.proofs.events.push_ticks.Goals as goal
use Rattle.lockstep.proofs.events.push_ticks.Goals.{then-is_up+in_ok-push, else-is_up}

pub loop-actor-preserved : goal.loop-actor-preserved
loop-actor-preserved c =
    let pushed : Bool → List Event = λ b. c.loop-actor.events.items ++ cond b (Tick c.loop-actor.actor c.args.now ∷ []) [] in
    let one : c.if-is_up.events.items ≡ pushed c.is_up.result =
    elim c.if-is_up.branch [
      | then-is_up+in_ok-push w ↦ ap (λ (v : Vec Event Global). v.items) w.events-is ∙ w.in_ok-push.ensures.items ∙ ap pushed (sym w.if-is_up.true)
      | else-is_up w ↦ ap (λ (v : Vec Event Global). v.items) w.events-is ∙ sym (append-nil c.loop-actor.events.items) ∙ ap pushed (sym w.if-is_up.false)
    ] in
    kept-more (λ a. Tick a c.args.now) (is_up (world_of c.args.world.now)) c.loop-actor.actor c.args.events.now.items c.loop-actor.events.items c.if-is_up.events.items c.loop-actor.invariant
    (one ∙ ap pushed (c.is_up.ensures ∙ ap (is_up (world_of c.args.world.now)) c.from.ensures))
