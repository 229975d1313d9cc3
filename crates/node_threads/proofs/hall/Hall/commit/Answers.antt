use Rattle.std.proofs.Common.{◌≡◌, ◌∙◌, Bool, length, refl, sym, subst, ap, arith, Result, Ok, Err, IfErr, true}
use Rattle.dpc_model.specs.declared.messages.Event.{Event}
use Rattle.dpc_model.specs.declared.messages.Event.TheVariants as event
use Rattle.world_core.specs.Handing.{IsStaleAt, is_loss}
use Rattle.world_core.specs.declared.faults.CommitFault.{CommitFault}
use Rattle.live_run.specs.Lives.{LiveRunOf, IsLost, world_in}
use Rattle.node_threads.specs.Halls.{HallOf, IsHall}
use Rattle.fragment_mill.specs.Mills.{MillState}
use Rattle.mill_work.specs.Milling.{OrderValue}
use Rattle.world_core.specs.declared.faults.CommitFault.TheVariants.{NoMemory}
use Rattle.node_threads.proofs.Keeping.{happened, lost_behind, lost_before, together_same}
use Rattle.node_threads.proofs.hall.Hall.commit.Goals as goal

-- what a fault says that leaves the run spent
lost_in : (r : Result Bool CommitFault) (why : CommitFault) (old new : LiveRunOf) (e : Event) → r ≡ Err why → is_loss why ≡ true → IfErr r (λ w. is_loss w ≡ true → IsLost old new e) → IsLost old new e
lost_in r why old new e told loss h = subst (λ (x : Result Bool CommitFault). IfErr x (λ w. is_loss w ≡ true → IsLost old new e)) told h loss

-- where the work is stale nothing changes
pub invariant_of-self-in-Err : goal.invariant_of-self-in-Err
invariant_of-self-in-Err g c =
    let told = c.in-Err.is ∙ ap Err c.in-Stale.is in
    let stays = (c.commit-told.ensures.stale c.in-Stale.had c.in-Stale.needed told).0 in
    subst (λ (r : LiveRunOf). IsHall g.N.RunName.script r c.self.inside.book.total c.self.inside.stop) (sym stays) c.self.invariant

pub returns-in-Stale-clause-stale : goal.returns-in-Stale-clause-stale
returns-in-Stale-clause-stale g c = λ had needed same.
    let told = c.in-Err.is ∙ same in
    let at = c.commit-told.ensures.stale had needed told in
    let seen : LiveRunOf → HallOf = λ r. record { run = r; stop = c.self.inside.stop } in (
      ap seen at.0 ∙ c.self.view_is,
      refl,
      subst (λ (h : HallOf). IsStaleAt (world_in h.run) c.args.milled.order had needed) c.self.view_is at.1,
    )

pub returns-in-Stale-clause-together : goal.returns-in-Stale-clause-together
returns-in-Stale-clause-together g c =
    let told = c.in-Err.is ∙ ap Err c.in-Stale.is in
    let stays = (c.commit-told.ensures.stale c.in-Stale.had c.in-Stale.needed told).0 in
    together_same c.args.self.now.run c.commit-told.new.self c.args.share.now c.args.share.now
    (ap (λ (r : LiveRunOf). r.events) (stays ∙ ap (λ (h : HallOf). h.run) c.self.view_is)) refl

-- the event of the order
abbrev milled_at : OrderValue MillState → Event
milled_at o = event.Mill o.node (length o.buckets)

pub invariant_of-self : goal.invariant_of-self
invariant_of-self g c =
    happened g.N.RunName.script c.self.inside.run c.commit-told.new.self c.self.inside.book.total c.count.new.book.total c.self.inside.stop c.self.invariant
    (milled_at c.args.milled.order) (sym c.is_spent.ensures ∙ c.if-is_spent.false) (c.commit-told.ensures.yes (c.in-Ok-true.is ∙ ap Ok c.in-Ok-true.field-0-test))
    (c.commit-told.ensures.within (c.in-Ok-true.is ∙ ap Ok c.in-Ok-true.field-0-test)) c.count.ensures.book

pub invariant_of-self-then-count_of-before : goal.invariant_of-self-then-count_of-before
invariant_of-self-then-count_of-before g c =
    let r = c.self.inside.run in
    let next = c.commit-told.new.self in
    let e = milled_at c.args.milled.order in
    let lost = lost_in c.commit-told.result NoMemory r next e (c.in-Err.is ∙ ap Err c.in-NoMemory.is) refl c.commit-told.ensures.lost in
    lost_behind g.N.RunName.script r next c.self.inside.book.total c.count-then-count_of-before.new.book.total c.self.inside.stop c.self.invariant e
    (sym c.is_spent.ensures ∙ c.if-is_spent.false) lost (omega (arith, c.count_of.ensures, c.count_of-before.ensures, c.if-count_of-before.true)) c.count-then-count_of-before.ensures.book

pub invariant_of-self-else-count_of-before : goal.invariant_of-self-else-count_of-before
invariant_of-self-else-count_of-before g c =
    let r = c.self.inside.run in
    let next = c.commit-told.new.self in
    let e = milled_at c.args.milled.order in
    let lost = lost_in c.commit-told.result NoMemory r next e (c.in-Err.is ∙ ap Err c.in-NoMemory.is) refl c.commit-told.ensures.lost in
    lost_before g.N.RunName.script r next c.self.inside.book.total c.self.inside.book.total c.self.inside.stop c.self.invariant e
    (sym c.is_spent.ensures ∙ c.if-is_spent.false) lost (omega (arith, c.count_of.ensures, c.count_of-before.ensures, c.if-count_of-before.false))
