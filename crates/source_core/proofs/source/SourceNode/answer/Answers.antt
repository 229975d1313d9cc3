use Rattle.std.proofs.Common.{◌≡◌, ◌∙◌, ◌<◌, ◌++◌, ◌∷◌, [], ap, sym, subst, refl, length, true, false, Some, List, arith}
use Rattle.dpc_lists.specs.Lists.{nth, changed}
use Rattle.dpc_model.specs.declared.sessions.Sub.{Sub}
use Rattle.dpc_model.specs.declared.messages.Message.TheVariants as message
use Rattle.dpc_model.specs.declared.messages.Out.{Out}
use Rattle.dpc_lists.proofs.Elements.{set-changed, nth-is}
use Rattle.node_model.specs.Mails.{mails}
use Rattle.source_core.specs.Emitting.{SourceValue}
use Rattle.source_core.specs.contracts.source.SourceNode.{the_view}
use Rattle.source_core.proofs.Subscribed.{newer-at, old-stays, old-silent, new-opens, new-told}
use Rattle.source_core.proofs.source.SourceNode.answer.Goals as goal

pub returns-then-not-is_older_than-clause-sends : goal.returns-then-not-is_older_than-clause-sends
returns-then-not-is_older_than-clause-sends c =
    let v = c.args.self.now in
    let reader = c.args.reader in
    let asked = c.args.asked in
    let inside : reader < length c.self.inside.readers.items = subst (λ (v : SourceValue). reader < length v.readers) (sym c.self.view_is) c.requires.reader in
    let invariant : length c.self.inside.sessions.items ≡ length c.self.inside.readers.items = c.self.invariant in
    let low : reader < length c.self.inside.sessions.items = omega (arith, inside, invariant) in
    let subs = ap (λ (w : SourceValue). w.state.subs) c.self.view_is in
    let newer = newer-at false asked v c.self.inside.sessions.items reader c.index.result.now subs low c.index.ensures c.if-not-is_older_than.ensures in
    ap (λ (outs : List Out). mails outs) c.in_ok-outs.ensures.items ∙ old-silent c.args.plan.now v reader asked newer

pub returns-then-not-is_older_than-clause-after : goal.returns-then-not-is_older_than-clause-after
returns-then-not-is_older_than-clause-after c =
    let v = c.args.self.now in
    let reader = c.args.reader in
    let asked = c.args.asked in
    let inside : reader < length c.self.inside.readers.items = subst (λ (v : SourceValue). reader < length v.readers) (sym c.self.view_is) c.requires.reader in
    let invariant : length c.self.inside.sessions.items ≡ length c.self.inside.readers.items = c.self.invariant in
    let low : reader < length c.self.inside.sessions.items = omega (arith, inside, invariant) in
    let subs = ap (λ (w : SourceValue). w.state.subs) c.self.view_is in
    let newer = newer-at false asked v c.self.inside.sessions.items reader c.index.result.now subs low c.index.ensures c.if-not-is_older_than.ensures in
    old-stays c.args.plan.now v reader asked newer

pub returns-clause-sends : goal.returns-clause-sends
returns-clause-sends c =
    let v = c.args.self.now in
    let reader = c.args.reader in
    let asked = c.args.asked in
    let inside : reader < length c.self.inside.readers.items = subst (λ (v : SourceValue). reader < length v.readers) (sym c.self.view_is) c.requires.reader in
    let invariant : length c.self.inside.sessions.items ≡ length c.self.inside.readers.items = c.self.invariant in
    let low : reader < length c.self.inside.sessions.items = omega (arith, inside, invariant) in
    let subs = ap (λ (w : SourceValue). w.state.subs) c.self.view_is in
    let newer = newer-at true asked v c.self.inside.sessions.items reader c.index.result.now subs low c.index.ensures c.if-not-is_older_than.ensures in
    let items = c.in_ok-items.items in
    let o : Out = record { to = c.index-to.result.now; message = message.Batch asked.sess 0 items } in
    let stays = c.self-2.view_is ∙ c.first_batch.ensures.stays in
    let behind : reader < length c.self-2.inside.readers.items = subst (λ (v : SourceValue). reader < length v.readers) (sym stays) c.requires.reader in
    let to : c.index-to.result.now ≡ nth 0 v.readers reader =
    subst (λ (w : SourceValue). c.index-to.result.now ≡ nth 0 w.readers reader) stays (sym (nth-is 0 c.index-to.result.now reader c.self-2.inside.readers.items behind c.index-to.ensures)) in
    ap (λ (outs : List Out). mails outs) ((c.in_ok-push.ensures {u = tt}).items ∙ ap (λ (outs : List Out). outs ++ o ∷ []) c.in_ok-outs.ensures.items)
    ∙ new-told c.args.plan.now v reader c.index-to.result.now asked items c.requires.source newer to c.in_ok-items.ensures.items

pub returns-clause-after : goal.returns-clause-after
returns-clause-after c =
    let v = c.args.self.now in
    let reader = c.args.reader in
    let asked = c.args.asked in
    let inside : reader < length c.self.inside.readers.items = subst (λ (v : SourceValue). reader < length v.readers) (sym c.self.view_is) c.requires.reader in
    let invariant : length c.self.inside.sessions.items ≡ length c.self.inside.readers.items = c.self.invariant in
    let low : reader < length c.self.inside.sessions.items = omega (arith, inside, invariant) in
    let subs = ap (λ (w : SourceValue). w.state.subs) c.self.view_is in
    let newer = newer-at true asked v c.self.inside.sessions.items reader c.index.result.now subs low c.index.ensures c.if-not-is_older_than.ensures in
    let stays = c.self-2.view_is ∙ c.first_batch.ensures.stays in
    let behind : reader < length c.self-2.inside.readers.items = subst (λ (v : SourceValue). reader < length v.readers) (sym stays) c.requires.reader in
    let kept : length c.self-2.inside.sessions.items ≡ length c.self-2.inside.readers.items = c.self-2.invariant in
    let low-2 : reader < length c.self-2.inside.sessions.items = omega (arith, behind, kept) in
    let sessions = c.self-2.inside.sessions.items in
    let opened : Sub = record { kept = Some asked.sess; is_open = true; batches = 1 } in
    let set = set-changed sessions reader (λ _. c.opened.result) c.index_mut.result.now c.opened.result low-2 c.index_mut.ensures.value refl in
    ap (λ (ss : List Sub). record (the_view c.self-2.inside) { state = record (the_view c.self-2.inside).state { subs = ss } })
    (set ∙ ap (λ (s : Sub). changed reader (λ _. s) sessions) c.opened.ensures)
    ∙ ap (λ (w : SourceValue). record w { state = record w.state { subs = changed reader (λ _. opened) w.state.subs } }) stays
    ∙ new-opens c.args.plan.now v reader asked newer
