-- Session (1, 1) is not opened again.
use Rattle.std.proofs.Common.{◌≡◌, ℕ, ◌+◌, ◌<◌, ◌≤◌, Bool, true, false, nat_lt, List, [], ◌∷◌, length, refl, sym, ap, ◌∙◌, arith, Option, Some, None, ◌⊎◌, inl, inr, unwrap_or}
use Rattle.std.proofs.lemmas.Option.{slice_get_past}
use Rattle.dpc_lists.specs.Lists.{nth}
use Rattle.dpc_model.specs.Inlets.{same_sess, sess_of}
use Rattle.dpc_model.specs.Actors.{role_of}
use Rattle.dpc_model.specs.declared.actors.Role.{Role}
use Rattle.dpc_model.specs.declared.actors.Role.TheVariants.{Source as IsSource, Node as IsNode, Client as IsClient, Nobody}
use Rattle.dpc_model.specs.Sessions.{no_session, tally_of}
use Rattle.dpc_model.specs.declared.sessions.Sub.{Sub}
use Rattle.dpc_model.specs.declared.messages.Event.{Event}
use Rattle.dpc_model.specs.declared.messages.Sess.{Sess}
use Rattle.dpc_model.specs.declared.messages.Subscribe.{Subscribe}
use Rattle.dpc_model.specs.declared.plans.Plan.{Plan}
use Rattle.dpc_model.specs.declared.plans.StreamRef.TheVariants.{Frag}
use Rattle.node_model.specs.Nodes.{PlainNode, own_readers}
use Rattle.node_model.specs.Sources.{SourceState, source_readers}
use Rattle.world_model.specs.Worlds.{World, home_of, slot_of, source_at, no_source, happens, run_from, run, new_world}
use Rattle.world_model.specs.SessionLaw.{Channel}
use Rattle.law_safety.specs.Plans.{IsCheckedPlan}
use Rattle.dpc_lists.proofs.Truths.{lt-of, not-lt}
use Rattle.law_safety.proofs.EventCases.{by-event}
use Rattle.world_model.proofs.Running.{run_from-append}
use Rattle.law_safety.proofs.Distinct.{readers-distinct}
use Rattle.law_safety.proofs.Emptied.{shape-of}
use Rattle.law_safety.proofs.Growing.{event-grows}
use Rattle.law_safety.proofs.Happening.{IsFine, node-here, source-here, happens-next}
use Rattle.law_safety.proofs.Law.{new_world-fine, run-fine}
use Rattle.law_sessions.proofs.Worlds.{same-many}
use Rattle.law_sessions.proofs.Sources.{source-many}
use Rattle.law_granting.proofs.Sending.{NotOpen}
use Rattle.law_session_origins.specs.FirstSession.{is_first_link, node_keeps, role_keeps, keeps_first, FirstStaysShut}
use Rattle.law_session_origins.proofs.FirstSession.{IsPastWorld, event-past, new_world-past, run-past}
use Rattle.law_session_origins.proofs.Firsts.{Brings}
use Rattle.law_session_origins.proofs.Opening.{brings-none}
use Rattle.law_session_origins.proofs.Opened.{NoneOpen, event-goes as node-goes}
use Rattle.law_session_origins.proofs.OpenedSources.{source-goes}

-- ---- what is not open

shut-of : (sub : Sub) → is_first_link (tally_of sub) ≡ false → NotOpen (sess_of 1 1) sub
shut-of sub e = record { other = λ v m tally. ap is_first_link (sym tally) ∙ e }

of-shut : (sub : Sub) → NotOpen (sess_of 1 1) sub → is_first_link (tally_of sub) ≡ false
of-shut sub h = by-tally (tally_of sub) refl
  where
    by-tally : (o : Option (Sess × ℕ)) → tally_of sub ≡ o → is_first_link o ≡ false
    by-tally None tally = refl
    by-tally (Some u) tally = h.other u.0 u.1 tally

-- nobody brings a subscription to it
no-bringing : (l : Channel) (w : World) (e : Event) → same_sess l.sess (sess_of 1 1) ≡ true → IsPastWorld w → Brings l w e → ⊥
no-bringing l w e first past came = let none = brings-none l w e first past in let it = came.1 in let clash : ◌≡◌ {A = Option Subscribe} (Some came.0) None = sym it ∙ none in cc

-- ---- a place among the subs, or past them

low-or-past : (subs : List Sub) (k many : ℕ) → length subs ≤ many → (k < many) ⊎ (nth no_session subs k ≡ no_session)
low-or-past subs k many few = by-value (nat_lt k many) refl
  where
    by-value : (b : Bool) → nat_lt k many ≡ b → (k < many) ⊎ (nth no_session subs k ≡ no_session)
    by-value true e = inl (lt-of k many e)
    by-value false e = let high = not-lt k many e in inr (ap (λ (o : Option Sub). unwrap_or o no_session) (slice_get_past subs k (omega (arith, high, few))))

-- ---- the subs of a source

-- a source that is not there keeps no session
no-subs : (w : World) (u k : ℕ) → length w.sources ≤ u → nth no_session (source_at w u).subs k ≡ no_session
no-subs w u k far = ap (λ (o : Option SourceState). nth no_session (unwrap_or o no_source).subs k) (slice_get_past w.sources u far)

-- ---- one event, and a run

event-shut : (w : World) (most a k : ℕ) (e : Event) → IsFine w most → IsPastWorld w → keeps_first w a k ≡ false → keeps_first (happens w e) a k ≡ false
event-shut w most a k e fine past shut = ap (λ (p : Plan). role_keeps (happens w e) a k (role_of p a)) (event-grows w e).plan ∙ by-role (role_of w.plan a) refl (shut)
  where
    next-fine : IsFine (happens w e) (most + 1)
    next-fine = (happens-next w most e fine).fine

    of-plan : (happens w e).plan ≡ w.plan
    of-plan = (event-grows w e).plan

    source-shut : (u : ℕ) → role_of w.plan a ≡ IsSource u → is_first_link (tally_of (nth no_session (source_at w u).subs k)) ≡ false → u < length w.sources → is_first_link (tally_of (nth no_session (source_at (happens w e) u).subs k)) ≡ false
    source-shut u is h within =
        let few = (source-here (happens w e) (most + 1) u next-fine).subs in
        let same : length (source_readers (happens w e).plan u) ≡ length (source_readers w.plan u) = ap (λ (p : Plan). length (source_readers p u)) of-plan in
        elim (low-or-past (source_at (happens w e) u).subs k (length (source_readers w.plan u)) (omega (arith, few, same))) [
          | inr far ↦ ap (λ (z : Sub). is_first_link (tally_of z)) far
          | inl low ↦ elim (source-goes w a (nth 0 (source_readers w.plan u) k) u k (sess_of 1 1) (record { role = is; reader = refl; low = low })
              (record { few = source-many w most u fine within; none = shut-of (nth no_session (source_at w u).subs k) h }) e) [
                | inl opens ↦ absurd (no-bringing (record { sender = a; reader = nth 0 (source_readers w.plan u) k; sess = sess_of 1 1 }) w e refl past opens.1)
                | inr still ↦ of-shut (nth no_session (source_at (happens w e) u).subs k) still.none
              ]
        ]

    by-role : (role : Role) → role_of w.plan a ≡ role → role_keeps w a k role ≡ false → role_keeps (happens w e) a k role ≡ false
    by-role (IsClient c) is h = refl
    by-role Nobody is h = refl
    by-role (IsSource u) is h = by-place (nat_lt u (length w.sources)) refl
      where
        many : length (happens w e).sources ≡ length w.sources
        many = by-event w (λ e next. length next.sources ≡ length w.sources) (same-many w) e

        by-place : (b : Bool) → nat_lt u (length w.sources) ≡ b → is_first_link (tally_of (nth no_session (source_at (happens w e) u).subs k)) ≡ false
        by-place false f = let far = not-lt u (length w.sources) f in ap (λ (z : Sub). is_first_link (tally_of z)) (no-subs (happens w e) u k (omega (arith, far, many)))
        by-place true f = source-shut u is h (lt-of u (length w.sources) f)
    by-role (IsNode f r) is h = by-node (slot_of (happens w e) a).node refl
      where
        none-here : NoneOpen w a k (sess_of 1 1)
        none-here n up = shut-of (nth no_session n.subs k) (ap (λ (o : Option PlainNode). node_keeps k o) (sym up) ∙ h)

        by-node : (o : Option PlainNode) → (slot_of (happens w e) a).node ≡ o → node_keeps k o ≡ false
        by-node None up = refl
        by-node (Some n) up =
            let role_next : role_of (happens w e).plan a ≡ IsNode f r = ap (λ (p : Plan). role_of p a) of-plan ∙ is in
            let many = (shape-of (home_of (happens w e).plan (f, r)) (most + 1) n (node-here (happens w e) (most + 1) a f r n next-fine role_next up).orderly.shape).subs in
            let same : length (own_readers (home_of (happens w e).plan (f, r))) ≡ length (own_readers (home_of w.plan (f, r))) = ap (λ (p : Plan). length (own_readers (home_of p (f, r)))) of-plan in
            elim (low-or-past n.subs k (length (own_readers (home_of w.plan (f, r)))) (omega (arith, many, same))) [
              | inr far ↦ ap (λ (z : Sub). is_first_link (tally_of z)) far
              | inl low ↦ elim (node-goes w most a (nth 0 (own_readers (home_of w.plan (f, r))) k) f r k (sess_of 1 1) fine (record { role = is; reader = refl; distinct = readers-distinct w.plan (Frag f); low = low }) none-here e) [
                | inl opens ↦ absurd (no-bringing (record { sender = a; reader = nth 0 (own_readers (home_of w.plan (f, r))) k; sess = sess_of 1 1 }) w e refl past opens.1)
                | inr still ↦ of-shut (nth no_session n.subs k) (still n up)
              ]
            ]

run-shut : (w : World) (most a k : ℕ) (events : List Event) → IsFine w most → IsPastWorld w → keeps_first w a k ≡ false → keeps_first (run_from w events) a k ≡ false
run-shut w most a k [] fine past h = h
run-shut w most a k (e ∷ events) fine past h = run-shut (happens w e) (most + 1) a k events (happens-next w most e fine).fine (event-past w e past) (event-shut w most a k e fine past h)

pub stays-shut : (plan : Plan) (events more : List Event) → IsCheckedPlan plan → FirstStaysShut plan events more
unfolding run
stays-shut plan events more checked a k shut =
    ap (λ (w : World). keeps_first w a k) (run_from-append (new_world plan) events more)
    ∙ run-shut (run_from (new_world plan) events) (1 + length events) a k more (run-fine (new_world plan) 1 events (new_world-fine plan checked)).fine (run-past (new_world plan) events (new_world-past plan)) shut
