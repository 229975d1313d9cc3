-- In a live journal a session is answered in one incarnation of its sender; so who answers it anew has sent nothing in it.
use Rattle.std.proofs.Common.{◌≡◌, ℕ, true, List, [], ◌∷◌, ◌++◌, refl, sym, ap, subst, ◌∙◌, Option}
use Rattle.std.proofs.lemmas.List.{append-nil, append_assoc}
use Rattle.dpc_lists.specs.Lists.{range_with_len}
use Rattle.dpc_model.specs.Actors.{role_of, sends_stream}
use Rattle.dpc_model.specs.declared.actors.Role.{Role}
use Rattle.dpc_model.specs.declared.actors.Role.TheVariants.{Node as IsNode}
use Rattle.dpc_model.specs.declared.messages.Event.{Event}
use Rattle.dpc_model.specs.declared.messages.Sess.{Sess}
use Rattle.dpc_model.specs.declared.plans.Plan.{Plan}
use Rattle.dpc_model.specs.declared.plans.StreamRef.TheVariants.{Frag}
use Rattle.dpc_model.specs.declared.scripts.Script.{Script}
use Rattle.node_model.specs.Nodes.{PlainNode}
use Rattle.world_model.specs.Worlds.{World, happens, run, run_from, new_world}
use Rattle.world_model.specs.Schedules.{is_live_so_far}
use Rattle.world_model.specs.Safe.{EachStep}
use Rattle.world_model.specs.SessionLaw.{Channel}
use Rattle.dpc_lists.proofs.Truths.{eq-test}
use Rattle.law_safety.specs.Plans.{IsCheckedPlan}
use Rattle.law_safety.proofs.Distinct.{readers-distinct}
use Rattle.law_safety.proofs.Growing.{run-plan}
use Rattle.law_granting.specs.Taken.{subscribes, node_inc, role_inc}
use Rattle.law_granting.proofs.Sent.{IsNodeLine}
use Rattle.law_granting.proofs.Prefix.{IsReader}
use Rattle.law_readers.specs.Newest.{IsPortOf}
use Rattle.law_readers.proofs.Viewed.{node-order}
use Rattle.law_settling_readers.proofs.Answered.{answered-once}
use Rattle.law_settling_readers.proofs.Comings.{run-is}
use Rattle.law_calm.proofs.Kept.{none-indexed}
use Rattle.law_survivors.proofs.Kept.{NoneIsFresh}

each-split : (P : World → Event → Type 0) (w : World) (es : List Event) (d : Event) → EachStep P w (es ++ d ∷ []) → EachStep P w es × P (run_from w es) d
each-split P w [] d h = (tt, h.0)
each-split P w (e ∷ es) d h = let k = each-split P (happens w e) es d h.1 in ((h.0, k.0), k.1)

each-at : (P : World → Event → Type 0) (w : World) (es : List Event) (d : Event) (rest : List Event) → EachStep P w (es ++ d ∷ rest) → P (run_from w es) d
each-at P w [] d rest h = h.0
each-at P w (e ∷ es) d rest h = each-at P (happens w e) es d rest h.1

module _ (script : Script) (events : List Event) (checked : IsCheckedPlan script.plan) (live : is_live_so_far script events ≡ true) (x p f : ℕ) (port : IsPortOf script.plan x p (Frag f)) (reader : IsReader script.plan (Frag f) x) where
  abbrev plan : Plan
  plan = script.plan

  sends-it : (a r : ℕ) → role_of plan a ≡ IsNode f r → sends_stream (Frag f) (role_of plan a) ≡ true
  sends-it a r role = ap (λ (z : Role). sends_stream (Frag f) z) role ∙ eq-test f f refl

  -- a replica that answers a session by this event sent nothing in it before
  pub fresh-at : (done rest : List Event) (d : Event) → events ≡ done ++ d ∷ rest → NoneIsFresh plan x f reader.place (run plan done) d
  fresh-at done rest d is a r s n role up newer comes answered =
      let l : Channel = record { sender = a; reader = x; sess = s } in
      let k = answered-once script events checked live x p a (Frag f) s port (sends-it a r role) (done ++ d ∷ []) rest (is ∙ sym (append_assoc done (d ∷ []) rest)) in
      let parts = each-split (λ w e. subscribes l w e ≡ true → role_inc w a (role_of w.plan a) ≡ k.0) (new_world plan) done d k.1.subscribed in
      let here : role_inc (run plan done) a (role_of (run plan done).plan a) ≡ k.0 = subst (λ (w : World). subscribes l w d ≡ true → role_inc w a (role_of w.plan a) ≡ k.0) (sym (run-is plan done)) parts.1 comes in
      let role_w : role_of (run plan done).plan a ≡ IsNode f r = ap (λ (z : Plan). role_of z a) (run-plan plan done) ∙ role in
      let inc : n.grants.inc ≡ k.0 = sym (ap (λ (o : Role). role_inc (run plan done) a o) role_w ∙ ap (λ (o : Option PlainNode). node_inc o) up) ∙ here in
      let line : IsNodeLine plan a x f r reader.place = record { role = role; reader = reader.it; distinct = readers-distinct plan (Frag f); low = reader.low } in
      let order = node-order plan done a x f r reader.place k.0 s checked line (record { opening = k.1.opening; subscribed = parts.0 }) in
      let many = ((order.there n up).0 inc).newer newer in
      none-indexed l (run plan done).envelopes answered.place answered.envelope answered.index (order.order ∙ ap (λ (m : ℕ). range_with_len 0 m) many) answered.there answered.batch

  -- the incarnation in which a session is asked for, at every point
  pub asked-in : (a r : ℕ) (s : Sess) → role_of plan a ≡ IsNode f r → (i : ℕ) × ((done rest : List Event) (d : Event) → events ≡ done ++ d ∷ rest → subscribes (record { sender = a; reader = x; sess = s }) (run plan done) d ≡ true → role_inc (run plan done) a (role_of (run plan done).plan a) ≡ i)
  asked-in a r s role =
      let l : Channel = record { sender = a; reader = x; sess = s } in
      let k = answered-once script events checked live x p a (Frag f) s port (sends-it a r role) events [] (sym (append-nil events)) in
      let P : World → Event → Type 0 = λ w e. subscribes l w e ≡ true → role_inc w a (role_of w.plan a) ≡ k.0 in
      (k.0, λ done rest d is. subst (λ (w : World). P w d) (sym (run-is plan done)) (each-at P (new_world plan) done d rest (subst (λ (es : List Event). EachStep P (new_world plan) es) is k.1.subscribed)))
