-- Past the first quiet phase each acknowledgement that waits is of its sender's present incarnation.
use Rattle.std.proofs.Common.{◌≡◌, ◌==◌, ℕ, ◌+◌, ◌<◌, ◌≤◌, true, false, List, [], ◌∷◌, ◌++◌, length, refl, sym, ap, subst, ◌∙◌, arith, Some, slice_get, ◌⊎◌, inl, inr}
use Rattle.std.proofs.lemmas.Option.{slice_get_within}
use Rattle.dpc_model.specs.Actors.{role_of}
use Rattle.dpc_model.specs.declared.actors.Role.TheVariants.{Node as IsNode}
use Rattle.dpc_model.specs.declared.messages.Event.{Event}
use Rattle.dpc_model.specs.declared.messages.Event.TheVariants.{Phase, Deliver}
use Rattle.dpc_model.specs.declared.messages.Message.TheVariants as message
use Rattle.dpc_model.specs.declared.plans.Plan.{Plan}
use Rattle.dpc_model.specs.declared.scripts.Script.{Script}
use Rattle.dpc_model.proofs.Numbers.{le-or}
use Rattle.dpc_lists.proofs.Somes.{some-same}
use Rattle.dpc_lists.proofs.Truths.{both, eq-of, eq-test}
use Rattle.dpc_lists.proofs.Each.{Each}
use Rattle.node_model.specs.Mails.{Packet, Plain, Stepped}
use Rattle.node_model.specs.Nodes.{Home, PlainNode}
use Rattle.node_model.specs.NodeSteps.{packet_step, mill_step, tick_step}
use Rattle.world_model.specs.Worlds.{World, Envelope, home_of, slot_of, happens}
use Rattle.world_model.specs.Schedules.{Undelivered, Progress, next_progress, progress, may_come, may_follow, may_deliver, is_free, is_first_of_its_way, is_live_so_far}
use Rattle.world_model.specs.Events.{is_quiet}
use Rattle.world_model.specs.Steady.{OpensWell}
use Rattle.law_granting.proofs.Slots.{got-sent}
use Rattle.law_readers.specs.Settling.{CanSettle}
use Rattle.law_settling.proofs.Along.{every-prefix, progress-push, live-may, running-along}
use Rattle.law_settling.proofs.Promises.{IsOpenAt, open-of}
use Rattle.law_settling.proofs.Splitting.{stays, in-quiet}
use Rattle.law_settling_readers.proofs.Comings.{inc-stays, not-gone}
use Rattle.law_settling.proofs.Ports.{node-there}
use Rattle.law_settling_readers.proofs.Orderly.{each-next, each-opened}
use Rattle.law_survivors.proofs.Doing.{HasStepped, SendsNone, ReplicaDoes, replica-does}
use Rattle.law_survivors.proofs.Peers.{SaysOf, SaysMail, packet-says, milled-says, ticked-says}

-- an acknowledgement of a is of its present incarnation
abbrev pub IsPresentAt : ℕ → World → ℕ → Type 0
IsPresentAt a w j = (i count : ℕ) (e : Envelope) (m : PlainNode) → slice_get w.envelopes j ≡ Some e → e.sender ≡ a → e.packet ≡ Plain (message.Ack i count) → (slot_of w a).node ≡ Some m → i ≡ m.grants.inc

module _ (script : Script) (a g r : ℕ) (role_a : role_of script.plan a ≡ IsNode g r) where
  role-here : (z : Progress) → IsOpenAt script z → role_of z.world.plan a ≡ IsNode g r
  role-here z here = ap (λ (pl : Plan). role_of pl a) here.of_plan ∙ role_a

  -- ---- an event of a quiet phase

  module _ (z : Progress) (e : Event) (here : IsOpenAt script z) (quiet : is_quiet e ≡ true) where
    abbrev next : World
    next = happens z.world e

    abbrev Here : Home
    Here = home_of z.world.plan (g, r)

    -- the incarnation stays
    same-inc : (n m : PlainNode) → (slot_of z.world a).node ≡ Some n → (slot_of next a).node ≡ Some m → m.grants.inc ≡ n.grants.inc
    same-inc n m up now =
        let k = inc-stays z.world here.most a g r here.fine (role-here z here) e quiet n up in
        ap (λ (y : PlainNode). y.grants.inc) (some-same m k.0 (sym now ∙ k.1)) ∙ k.2

    stepped-present : (j : ℕ) → IsPresentAt a z.world j → (n : PlainNode) (t : Stepped PlainNode) → HasStepped z.world next a n t → Each (SaysMail Here t.after) t.sends → IsPresentAt a next j
    stepped-present j old n t s each i count f m there mine packet up =
        elim (got-sent (SaysMail Here t.after) a z.world.envelopes t.sends j f each (sym (ap (λ (es : List Envelope). slice_get es j) s.sends) ∙ there)) [
          | inl before ↦ old i count f n before mine packet s.up ∙ sym (same-inc n m s.up up)
          | inr (y, of, says) ↦ (
              let is : i ≡ t.after.grants.inc = subst (λ (p : Packet). SaysOf t.after p) packet (subst (λ (q : Envelope). SaysOf t.after q.packet) (sym of) says) in
              is ∙ ap (λ (q : PlainNode). q.grants.inc) (some-same t.after m (sym s.now ∙ up)))
        ]

    rested-present : (j : ℕ) → IsPresentAt a z.world j → SendsNone z.world next a → IsPresentAt a next j
    rested-present j old sends i count f m there mine packet up =
        let n = node-there z.world here.most a g r here.fine here.up (role-here z here) in
        old i count f n.0 (sends j f there mine) mine packet n.1 ∙ sym (same-inc n.0 m n.1 up)

    present-does : (j : ℕ) → IsPresentAt a z.world j → ReplicaDoes z.world Here a e next → IsPresentAt a next j
    present-does j old (ReplicaDoes.Rests slot sends) = rested-present j old sends
    present-does j old (ReplicaDoes.Falls crash down last sends) = rested-present j old sends
    present-does j old (ReplicaDoes.Starts i newer down now last sends) = rested-present j old sends
    present-does j old (ReplicaDoes.Takes q f n event there can to s) = stepped-present j old n (packet_step Here f.sender f.packet n) s (packet-says Here (packet_step Here f.sender f.packet n).after f.sender f.packet n)
    present-does j old (ReplicaDoes.Ticks now n event s) = stepped-present j old n (tick_step Here now n) s (ticked-says Here now n)
    present-does j old (ReplicaDoes.Mills m n s) = stepped-present j old n (mill_step Here m n) s (milled-says Here (mill_step Here m n).after m n)

    pub present-next : (j : ℕ) → IsPresentAt a z.world j → IsPresentAt a next j
    present-next j old = present-does j old (replica-does z.world here.most here.fine a g r (role-here z here) e)

  -- nothing was sent under a number that is to come
  not-sent : (w : World) (j : ℕ) → length w.envelopes ≤ j → IsPresentAt a w j
  not-sent w j high i count e m there mine packet up = let low = slice_get_within w.envelopes j e there in absurd (omega (arith, low, high))

  -- ---- what waits

  abbrev Fine : World → Undelivered → Type 0
  Fine w y = IsPresentAt a w y.number

  -- what is not pending, or all
  abbrev NewFine : World → Undelivered → Type 0
  NewFine w y = y.pending ≡ false → IsPresentAt a w y.number

  abbrev Inv : Progress → Type 0
  Inv z = (length script.phases < z.phase → Each (NewFine z.world) z.waiting) × (length script.phases + 1 < z.phase → Each (Fine z.world) z.waiting)

  fine-next : (z : Progress) (e : Event) → IsOpenAt script z → is_quiet e ≡ true → Each (Fine z.world) z.waiting → Each (Fine (happens z.world e)) (next_progress script z e).waiting
  fine-next z e here quiet h =
      each-next script z e (Fine z.world) (Fine (happens z.world e))
      (record { left = λ y n one k. k; same = λ y k. present-next z e here quiet y.number k; due = λ ds y none k. present-next z e here quiet y.number k; new = λ j high. present-next z e here quiet j (not-sent z.world j high) }) h

  new-next : (z : Progress) (e : Event) → IsOpenAt script z → is_quiet e ≡ true → Each (NewFine z.world) z.waiting → Each (NewFine (happens z.world e)) (next_progress script z e).waiting
  new-next z e here quiet h =
      each-next script z e (NewFine z.world) (NewFine (happens z.world e)) (record {
        left = λ y n one k. k;
        same = λ y k none. present-next z e here quiet y.number (k none);
        due = λ ds y none k pending. present-next z e here quiet y.number (k none);
        new = λ j high none. present-next z e here quiet j (not-sent z.world j high);
      }) h

  -- a phase opens: what waits is pending
  new-opened : (z : Progress) (p : ℕ) → Each (NewFine z.world) (next_progress script z (Phase p)).waiting
  new-opened z p = each-opened script z p (λ y. Unit {0}) (NewFine z.world) (λ ds y none k pending. cc) (λ j high none. not-sent z.world j high) (each-any z.waiting)
    where
      each-any : (xs : List Undelivered) → Each (λ (y : Undelivered). Unit {0}) xs
      each-any [] = tt
      each-any (x ∷ xs) = (tt, each-any xs)

  fine-opened : (z : Progress) (p : ℕ) → Each (NewFine z.world) z.waiting → Each (Fine z.world) (next_progress script z (Phase p)).waiting
  fine-opened z p h = each-opened script z p (NewFine z.world) (Fine z.world) (λ ds y none k. k none) (λ j high. not-sent z.world j high) h

  module _ (events : List Event) (can : CanSettle script) (live : is_live_so_far script events ≡ true) (well : OpensWell script events) where
    first-inv : Inv (progress script [])
    unfolding progress
    first-inv = (λ far. absurd (omega (arith, far)), λ far. absurd (omega (arith, far)))

    inv-next : (done rest : List Event) (e : Event) → events ≡ done ++ e ∷ rest → Inv (progress script done) → Inv (progress script (done ++ e ∷ []))
    inv-next done rest e is h =
        let z = progress script done in
        let follows = live-may script events done rest e live is in
        subst Inv (sym (progress-push script done e)) (elim (le-or (length script.phases + 1) z.phase) [
          | inl high ↦
              let here = open-of script can z (running-along script events live well done (e ∷ rest) is (omega (arith, high))) in
              elim (in-quiet script z e here.at follows) [
                | inr o ↦ subst (λ (c : Event). Inv (next_progress script z c)) (sym o.0) (λ far. new-opened z (z.phase + 1), λ far. fine-opened z (z.phase + 1) (h.0 (omega (arith, high))))
                | inl quiet ↦ elim (stays script z e follows) [
                  | inr o ↦ let clash : false ≡ true = ap is_quiet (sym o.0) ∙ quiet in cc
                  | inl same ↦ (λ far. new-next z e here quiet (h.0 (omega (arith, same, far))), λ far. fine-next z e here quiet (h.1 (omega (arith, same, far))))
                ]
              ]
          | inr less ↦ elim (stays script z e follows) [
            | inl same ↦ (λ far. absurd (omega (arith, same, far, less)), λ far. absurd (omega (arith, same, far, less)))
            | inr o ↦ subst (λ (c : Event). Inv (next_progress script z c)) (sym o.0) (λ far. new-opened z (z.phase + 1), λ far. absurd (omega (arith, far, less)))
          ]
        ])

    -- past the first quiet phase
    pub waits-present : (done rest : List Event) → events ≡ done ++ rest → length script.phases + 1 < (progress script done).phase → Each (λ (y : Undelivered). IsPresentAt a (progress script done).world y.number) (progress script done).waiting
    waits-present done rest is far = (every-prefix events (λ (es : List Event). Inv (progress script es)) first-inv (λ before after e at h. inv-next before after e at h) done rest is).1 far

-- what is delivered waited
pub waited : (script : Script) (a : ℕ) (z : Progress) (j : ℕ) (e : Event) → e ≡ Deliver j → may_follow script z e ≡ true → Each (λ (y : Undelivered). IsPresentAt a z.world y.number) z.waiting → IsPresentAt a z.world j
waited script a z j e event may h =
    let may_it = subst (λ (d : Event). may_follow script z d ≡ true) event may in
    let parts = both (is_free z) (may_deliver z j) may_it in
    let way = both (may_come z.world (slice_get z.world.envelopes j)) (is_first_of_its_way z.world j z.waiting) parts.1 in
    by-found (look z.waiting h) way.1
  where
    look : (xs : List Undelivered) → Each (λ (y : Undelivered). IsPresentAt a z.world y.number) xs → IsPresentAt a z.world j ⊎ Each (λ (y : Undelivered). y.number ≡ j → ⊥) xs
    look [] k = inr tt
    look (y ∷ ys) k =
        (elim (y.number == j) as (λ b. (y.number == j) ≡ b → IsPresentAt a z.world j ⊎ Each (λ (y : Undelivered). y.number ≡ j → ⊥) (y ∷ ys)) [
          | true ↦ λ e. inl (subst (λ (i : ℕ). IsPresentAt a z.world i) (eq-of y.number j e) k.0)
          | false ↦ λ e. elim (look ys k.1) [
            | inl there ↦ inl there
            | inr none ↦ inr ((λ same. let clash : false ≡ true = sym e ∙ eq-test y.number j same in cc), none)
          ]
        ]) refl

    by-found : IsPresentAt a z.world j ⊎ Each (λ (y : Undelivered). y.number ≡ j → ⊥) z.waiting → is_first_of_its_way z.world j z.waiting ≡ true → IsPresentAt a z.world j
    by-found (inl there) first = there
    by-found (inr none) first = absurd (not-gone z.world j z.waiting first none)
