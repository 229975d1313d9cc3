use Rattle.std.proofs.Common.{◌≡◌, ◌+◌, length, get_or, vec_len, sym, refl, ap, ◌∙◌, subst, rules, arith}
use Rattle.std.proofs.lemmas.List.FromFn.{length-range_with_len, get_or-range_with_len}
use Rattle.std.proofs.lemmas.Option.{slice_get_read}
use Rattle.client_views.proofs.Places.{set-back}
use Rattle.client_views.proofs.Sights.{AreSeen, seen-more, seen-all}
use Rattle.client_views.proofs.seat.Seat.look_last.Goals as goal

pub index_mut-requires : goal.index_mut-requires
index_mut-requires g c =
    let many = ap length (c.loop-c.invariant.0 ∙ c.requires) in
    let count = length-range_with_len 0 (length c.args.clients.now) in
    let whole : vec_len c.loop-c.self-inside.watches ≡ length c.loop-c.self-inside.watches.items = search rules in
    omega (arith, many, count, c.loop-c-test.true, whole)

pub loop-c-preserved : goal.loop-c-preserved
loop-c-preserved g c =
    let n = c.loop-c.c in
    let clients = c.args.clients.now in
    let v = c.index-clients-c.result in
    let at = slice_get_read clients (length clients) n v refl c.loop-c-test.true c.index-clients-c.is in
    let h = c.in_ok-look_last.ensures in
    let order = c.loop-c.invariant.0 ∙ c.requires in
    let here : 0 + n ≡ n = omega arith in
    let mine = h.place.1 ∙ c.index_mut.ensures.value ∙ ap (λ l. get_or l n c.index_mut.result.now) order ∙ get_or-range_with_len 0 (length clients) n c.index_mut.result.now c.loop-c-test.true ∙ here in (
      set-back c.loop-c.self-inside.watches.items n c.index_mut.result.now c.look_last.new.self h.same c.index_mut.ensures.value ∙ c.loop-c.invariant.0,
      subst (λ ws. AreSeen g.N.ViewName.plan c.args.reader clients (n + 1) ws) (sym (c.in_ok-push.ensures {u = tt}).items)
          (seen-more g.N.ViewName.plan c.args.reader clients n c.loop-c.watched.items v c.in_ok-look_last.field-0 c.loop-c.invariant.1 at (h.place.0, mine) h.within h.whole h.held),
    )

pub returns-clause-watched : goal.returns-clause-watched
returns-clause-watched g c = seen-all g.N.ViewName.plan c.args.reader c.args.clients.now c.loop-c.c c.loop-c.watched.items c.loop-c.invariant.1 (omega (arith, c.loop-c-test.false))
