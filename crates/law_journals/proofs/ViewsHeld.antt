-- The subscription that a session was opened by is the one that its reader sent, whatever is taken for the opening's.
use Rattle.std.proofs.Common.{◌≡◌, ℕ, Bool, true, false, cond, not, List, [], ◌∷◌, length, drop, refl, sym, ap, subst, ◌∙◌, Option, Some, None, slice_get, unwrap_or, ◌⊎◌, inl, inr, append-nil}
use Rattle.std.specs.Prelude.{IfSome}
use Rattle.dpc_lists.specs.Lists.{nth}
use Rattle.dpc_model.specs.Reading.{is_sure}
use Rattle.dpc_model.specs.Inlets.{same_sess, sess_of}
use Rattle.dpc_model.specs.Actors.{role_of, sends_stream, senders_of, readers_of}
use Rattle.dpc_model.specs.Ports.{Port}
use Rattle.dpc_model.specs.Sessions.{Shown, tally_of}
use Rattle.dpc_model.specs.declared.actors.Role.{Role}
use Rattle.dpc_model.specs.declared.actors.Role.TheVariants.{Source as IsSource, Node as IsNode, Client as IsClient, Nobody}
use Rattle.dpc_model.specs.declared.sessions.Sub.{Sub}
use Rattle.dpc_model.specs.declared.messages.Event.{Event}
use Rattle.dpc_model.specs.declared.messages.Sess.{Sess}
use Rattle.dpc_model.specs.declared.messages.Subscribe.{Subscribe}
use Rattle.dpc_model.specs.declared.plans.Plan.{Plan}
use Rattle.dpc_model.specs.declared.plans.StreamRef.{StreamRef}
use Rattle.dpc_model.specs.declared.plans.StreamRef.TheVariants.{Source, Frag}
use Rattle.dpc_model.specs.declared.scripts.Script.{Script}
use Rattle.dpc_model.proofs.Alike.{same_sess-eq, same_sess-self}
use Rattle.node_model.specs.Nodes.{PlainNode, own_readers}
use Rattle.node_model.specs.Sources.{source_readers}
use Rattle.script_rules.specs.Checking.{IsChecked}
use Rattle.world_model.specs.Worlds.{World, home_of, slot_of, source_at, happens, run, new_world}
use Rattle.world_model.specs.Schedules.{is_live_so_far}
use Rattle.world_model.specs.SessionLaw.{Channel, Fits, taken_whole}
use Rattle.law_safety.specs.Plans.{IsCheckedPlan}
use Rattle.law_sessions.specs.Openings.{first_subscription, asks_for, brings, has_first, asked_next, opened_by}
use Rattle.law_granting.specs.Taken.{line_of}
use Rattle.law_readers.specs.Newest.{subs_of, node_subs, IsPortOf}
use Rattle.law_readers.specs.Held.{HasRead, TookAll, told_by, opening_of, HoldsView}
use Rattle.law_readers.proofs.Known.{sends-source, sends-node}
use Rattle.law_readers.proofs.Steps.{reads-sender}
use Rattle.law_readers.proofs.Viewed.{asks-parts, views-held}
use Rattle.law_session_origins.specs.Asking.{IsSentFor, OpenedByAsking, OpenedOf}
use Rattle.law_session_origins.proofs.OpenedAll.{opened-by-asking}
use Rattle.law_settling_readers.proofs.Answered.{answered-once}
use Rattle.law_settling_scripts.proofs.Can.{can_settle}
use Rattle.law_journals.specs.Views.{opening_in, HoldsAsAsked, AreHeldAsAsked}

-- ---- whatever stood before

-- what opened a session is the same, or is what stood before
abbrev AreAlike : Channel → Subscribe → Subscribe → Subscribe → Subscribe → Type 0
AreAlike l first other x y = (x ≡ y) ⊎ ((x ≡ first) × (y ≡ other))

asked-alike : (l : Channel) (first other : Subscribe) (w : World) (e : Event) → AreAlike l first other (asked_next l first w e) (asked_next l other w e)
asked-alike l first other w e =
    elim (has_first l (drop (length w.envelopes) (happens w e).envelopes)) as (λ b. AreAlike l first other (cond b (unwrap_or (brings l w e) first) first) (cond b (unwrap_or (brings l w e) other) other)) [
      | false ↦ inr (refl, refl)
      | true ↦ elim (brings l w e) as (λ o. AreAlike l first other (unwrap_or o first) (unwrap_or o other)) [ None ↦ inr (refl, refl) | Some x ↦ inl refl ]
    ]

opened-alike : (l : Channel) (first other : Subscribe) (w : World) (events : List Event) → AreAlike l first other (opened_by l first w events) (opened_by l other w events)
opened-alike l first other w [] = inr (refl, refl)
opened-alike l first other w (e ∷ events) =
    elim (asked-alike l first other w e) [
      | inl same ↦ inl (ap (λ (x : Subscribe). opened_by l x (happens w e) events) same)
      | inr old ↦
          subst (λ (x : Subscribe). AreAlike l first other (opened_by l x (happens w e) events) (opened_by l (asked_next l other w e) (happens w e) events)) (sym old.0)
          (subst (λ (y : Subscribe). AreAlike l first other (opened_by l first (happens w e) events) (opened_by l y (happens w e) events)) (sym old.1) (opened-alike l first other (happens w e) events))
    ]

-- ---- a port that took all

module _ (plan : Plan) (events : List Event) (x p a : ℕ) (s : StreamRef) (q : Port) (checked : IsCheckedPlan plan) (port : IsPortOf plan x p s) (took : TookAll plan (run plan events) x p s q a) where
  abbrev line : Channel
  line = record { sender = a; reader = x; sess = q.inlet.sess }

  line-is : line_of plan x s q ≡ line
  line-is = ap (λ (z : ℕ). record { sender = z; reader = x; sess = q.inlet.sess }) took.sender

  sends : sends_stream s (role_of plan a) ≡ true
  sends = subst (λ (z : ℕ). sends_stream s (role_of plan z) ≡ true) took.sender (reads-sender plan events x p s q checked port took.port)

  tally : tally_of took.sub ≡ Some (q.inlet.sess, took.sub.batches)
  tally = rw (took.kept, took.is_open) refl

  sent-at : (readers : List ℕ) (subs : List Sub) → OpenedByAsking plan events a readers subs → nth 0 readers took.place ≡ x → slice_get subs took.place ≡ Some took.sub → same_sess q.inlet.sess (sess_of 1 1) ≡ false →
      IsSentFor line (run plan events).envelopes (opening_in plan events line)
  sent-at readers subs opened reader there later =
      let here = subst (λ (o : Option (Sess × ℕ)). IfSome o (λ u. same_sess u.0 (sess_of 1 1) ≡ false →
      let l : Channel = record { sender = a; reader = nth 0 readers took.place; sess = u.0 } in IsSentFor l (run plan events).envelopes (opened_by l (first_subscription l) (new_world plan) events))) tally (opened took.place took.sub there) in
      subst (λ (z : ℕ). let l : Channel = record { sender = a; reader = z; sess = q.inlet.sess } in IsSentFor l (run plan events).envelopes (opened_by l (first_subscription l) (new_world plan) events)) reader (here later)

  was-sent : same_sess q.inlet.sess (sess_of 1 1) ≡ false → IsSentFor line (run plan events).envelopes (opening_in plan events line)
  was-sent later = by-role (role_of plan a) refl (opened-by-asking plan events checked a)
    where
      by-role : (role : Role) → role_of plan a ≡ role → OpenedOf plan events (run plan events) a role → IsSentFor line (run plan events).envelopes (opening_in plan events line)
      by-role (IsSource v) is opened =
          let same : s ≡ Source v = sends-source s v (subst (λ (z : Role). sends_stream s z ≡ true) is sends) in
          let reader : nth 0 (source_readers plan v) took.place ≡ x = subst (λ (z : StreamRef). nth 0 (readers_of plan z) took.place ≡ x) same took.reader in
          sent-at (source_readers plan v) (source_at (run plan events) v).subs opened reader (subst (λ (z : Role). slice_get (subs_of (run plan events) a z) took.place ≡ Some took.sub) is took.there) later
      by-role (IsNode f r) is opened = by-node (slot_of (run plan events) a).node refl opened
        where
          by-node : (o : Option PlainNode) → (slot_of (run plan events) a).node ≡ o → IfSome o (λ (n : PlainNode). OpenedByAsking plan events a (own_readers (home_of plan (f, r))) n.subs) → IsSentFor line (run plan events).envelopes (opening_in plan events line)
          by-node None up g =
              let none : slice_get (node_subs None) took.place ≡ Some took.sub = subst (λ (o : Option PlainNode). slice_get (node_subs o) took.place ≡ Some took.sub) up (subst (λ (z : Role). slice_get (subs_of (run plan events) a z) took.place ≡ Some took.sub) is took.there) in cc
          by-node (Some n) up g =
              let same : s ≡ Frag f = sends-node s f r (subst (λ (z : Role). sends_stream s z ≡ true) is sends) in
              let reader : nth 0 (own_readers (home_of plan (f, r))) took.place ≡ x = subst (λ (z : StreamRef). nth 0 (readers_of plan z) took.place ≡ x) same took.reader in
              sent-at (own_readers (home_of plan (f, r))) n.subs g reader
              (subst (λ (o : Option PlainNode). slice_get (node_subs o) took.place ≡ Some took.sub) up (subst (λ (z : Role). slice_get (subs_of (run plan events) a z) took.place ≡ Some took.sub) is took.there)) later
      by-role (IsClient c) is opened = let none : sends_stream s (IsClient c) ≡ true = subst (λ (z : Role). sends_stream s z ≡ true) is sends in cc
      by-role Nobody is opened = let none : sends_stream s Nobody ≡ true = subst (λ (z : Role). sends_stream s z ≡ true) is sends in cc

  turned : same_sess (sess_of 1 1) q.inlet.sess ≡ false → same_sess q.inlet.sess (sess_of 1 1) ≡ false
  turned e = by-test (same_sess q.inlet.sess (sess_of 1 1)) refl
    where
      by-test : (b : Bool) → same_sess q.inlet.sess (sess_of 1 1) ≡ b → b ≡ false
      by-test false f = refl
      by-test true f =
          let same = same_sess-eq q.inlet.sess (sess_of 1 1) f in
          let here : same_sess (sess_of 1 1) q.inlet.sess ≡ true = ap (λ (u : Sess). same_sess (sess_of 1 1) u) same in
          let clash : true ≡ false = sym here ∙ e in cc

  -- what was told is what opened the session, or is the opening's
  told-same : (read : HasRead plan x s (run plan events).envelopes q) → opening_of plan events read.start line ≡ opening_in plan events line
  told-same read = by-first (same_sess (sess_of 1 1) q.inlet.sess) refl
    where
      told-is : (b : Bool) → same_sess (sess_of 1 1) q.inlet.sess ≡ b → told_by read.start line ≡ cond b (first_subscription line) (record { sess = q.inlet.sess; n = length read.start.stable; tentative = not (is_sure read.start) })
      told-is b e = ap (λ (c : Bool). cond c (first_subscription line) (record { sess = q.inlet.sess; n = length read.start.stable; tentative = not (is_sure read.start) })) e

      by-first : (b : Bool) → same_sess (sess_of 1 1) q.inlet.sess ≡ b → opening_of plan events read.start line ≡ opening_in plan events line
      by-first true e = ap (λ (y : Subscribe). opened_by line y (new_world plan) events) (told-is true e)
      by-first false e =
          elim (opened-alike line (told_by read.start line) (first_subscription line) (new_world plan) events) [
            | inl same ↦ same
            | inr old ↦
                let sent = was-sent (turned e) in
                let asks : asks_for line sent.envelope ≡ Some (first_subscription line) = sent.asks ∙ ap {B = Option Subscribe} Some old.1 in
                let it = asks-parts line sent.envelope (first_subscription line) asks in
                let told = read.asks sent.number sent.envelope (first_subscription line) sent.there it.sender (subst (λ (z : ℕ). sends_stream s (role_of plan z) ≡ true) (sym it.to) sends) it.packet (same_sess-self q.inlet.sess) in
                let same : told_by read.start line ≡ first_subscription line = told-is false e ∙ both-same told.0 told.1 in
                old.0 ∙ same ∙ sym old.1
          ]
        where
          both-same : 0 ≡ length read.start.stable → false ≡ not (is_sure read.start) → record { sess = q.inlet.sess; n = length read.start.stable; tentative = not (is_sure read.start) } ≡ first_subscription line
          both-same n t =
              ap (λ (z : ℕ). record { sess = q.inlet.sess; n = z; tentative = not (is_sure read.start) }) (sym n) ∙ ap (λ (b : Bool). record { sess = q.inlet.sess; n = 0; tentative = b }) (sym t)

  held-as-asked : (shows : Shown) → HoldsView plan events x s q shows → HoldsAsAsked plan events x s q shows
  held-as-asked shows h =
      let same : opening_of plan events h.read.start (line_of plan x s q) ≡ opening_in plan events (line_of plan x s q) =
      subst (λ (l : Channel). opening_of plan events h.read.start l ≡ opening_in plan events l) (sym line-is) (told-same h.read) in
      record {
        read = h.read;
        asked = λ later. subst (λ (l : Channel). IsSentFor l (run plan events).envelopes (opening_in plan events l)) (sym line-is) (was-sent later);
        fits = subst (λ (y : Subscribe). Fits plan s y h.read.start) same h.fits;
        view = subst (λ (y : Subscribe). q.inlet.held ≡ taken_whole plan s y shows h.read.start) same h.view;
      }

pub are-held : (script : Script) (events : List Event) → IsChecked script → is_live_so_far script events ≡ true → AreHeldAsAsked script.plan events
are-held script events checked live x p a s q shows reads took is =
    let can = can_settle script checked in
    let port : IsPortOf script.plan x p s = record { there = reads; only = λ r also. can.once x r p s also reads } in
    let sends = reads-sender script.plan events x p s q can.plan port took.port in
    let answered = answered-once script events can.plan live x p (nth 0 (senders_of script.plan s) q.chosen) s q.inlet.sess port sends events [] (sym (append-nil events)) in
    held-as-asked script.plan events x p a s q can.plan port took shows (views-held script.plan events can.plan x p a answered.0 s q shows port took answered.1 is)
