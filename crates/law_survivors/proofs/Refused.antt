-- Along a live journal: what was refused in a session is not answered in it.
use Rattle.std.proofs.Common.{◌≡◌, ℕ, ◌+◌, true, List, [], ◌∷◌, ◌++◌, length, sym, ap, subst, ◌∙◌, Some, slice_get, ◌⊎◌, inl, inr}
use Rattle.std.proofs.lemmas.List.{append-nil}
use Rattle.dpc_model.specs.Inlets.{same_sess}
use Rattle.dpc_model.specs.Actors.{role_of}
use Rattle.dpc_model.specs.declared.actors.Role.TheVariants.{Node as IsNode}
use Rattle.dpc_model.specs.declared.messages.Event.{Event}
use Rattle.dpc_model.specs.declared.messages.Sess.{Sess}
use Rattle.dpc_model.specs.declared.messages.Message.TheVariants as message
use Rattle.dpc_model.specs.declared.plans.Plan.{Plan}
use Rattle.dpc_model.specs.declared.plans.StreamRef.TheVariants.{Frag}
use Rattle.dpc_model.specs.declared.scripts.Script.{Script}
use Rattle.node_model.specs.Mails.{Plain}
use Rattle.world_model.specs.Worlds.{World, Envelope, home_of, happens, run, new_world}
use Rattle.world_model.specs.Schedules.{is_live_so_far}
use Rattle.dpc_lists.proofs.Elements.{none-there}
use Rattle.world_model.proofs.Running.{run-push, new_world-none}
use Rattle.law_safety.specs.Plans.{IsCheckedPlan}
use Rattle.law_safety.proofs.Distinct.{readers-distinct}
use Rattle.law_safety.proofs.Law.{run-good, new_world-fine}
use Rattle.law_safety.proofs.Growing.{run-plan}
use Rattle.law_granting.proofs.Asked.{IsAskingWorld}
use Rattle.law_granting.proofs.Prefix.{IsReader}
use Rattle.law_granting.proofs.Running.{run-asking, new_world-asking}
use Rattle.law_readers.specs.Newest.{IsPortOf}
use Rattle.law_settling.proofs.Along.{every-prefix}
use Rattle.law_calm.proofs.Kept.{WasAnswered}
use Rattle.law_survivors.proofs.Doing.{ReplicaDoes, replica-does}
use Rattle.law_survivors.proofs.Once.{fresh-at, asked-in}
use Rattle.law_survivors.proofs.Unanswered.{NoneRefused, IsOver, over-next}

pub asking-run : (plan : Plan) (events : List Event) → IsCheckedPlan plan → IsAskingWorld (run plan events)
unfolding run
asking-run plan events checked = run-asking (new_world plan) 1 events (new_world-fine plan checked) (new_world-asking plan)

module _ (script : Script) (events : List Event) (checked : IsCheckedPlan script.plan) (live : is_live_so_far script events ≡ true) (x p f : ℕ) (port : IsPortOf script.plan x p (Frag f)) (reader : IsReader script.plan (Frag f) x) (a r : ℕ) (u : Sess) (role : role_of script.plan a ≡ IsNode f r) where
  abbrev plan : Plan
  plan = script.plan

  abbrev Ever : ℕ
  Ever = (asked-in script events checked live x p f port reader a r u role).0

  abbrev Inv : World → Type 0
  Inv w = NoneRefused a x f r plan reader.place Ever u (readers-distinct plan (Frag f)) reader.low reader.it w ⊎ IsOver a x f r plan reader.place Ever u (readers-distinct plan (Frag f)) reader.low reader.it w

  first-inv : Inv (run plan [])
  unfolding run
  first-inv = inl (λ j base e s there mine to packet same. none-there j e (new_world plan).envelopes (new_world-none plan) there)

  inv-next : (done rest : List Event) (d : Event) → events ≡ done ++ d ∷ rest → Inv (run plan done) → Inv (run plan (done ++ d ∷ []))
  inv-next done rest d is h =
      let w = run plan done in
      let good = run-good plan done checked in
      let same = run-plan plan done in
      let role_w : role_of w.plan a ≡ IsNode f r = ap (λ (z : Plan). role_of z a) same ∙ role in
      let does = subst (λ (z : Plan). ReplicaDoes w (home_of z (f, r)) a d (happens w d)) same (replica-does w (1 + length done) good.fine a f r role_w d) in
      subst Inv (sym (run-push plan done d))
      (over-next a x f r plan reader.place Ever u (readers-distinct plan (Frag f)) reader.low reader.it w (happens w d) (1 + length done) d good.fine same role_w does
      (λ asks. (asked-in script events checked live x p f port reader a r u role).1 done rest d is asks) (λ n up. ((asking-run plan done checked).nodes a f r n role_w up).inc)
      (λ n up newer asks answered. fresh-at script events checked live x p f port reader done rest d is a r u n role up newer asks answered) h)

  -- no batch was sent in a session that was refused, at any point
  pub refused-at : (done rest : List Event) → events ≡ done ++ rest → (j base : ℕ) (e : Envelope) (s : Sess) → slice_get (run plan done).envelopes j ≡ Some e → e.sender ≡ a → e.to ≡ x → e.packet ≡ Plain (message.Truncated s base) → same_sess s u ≡ true → WasAnswered (run plan done) a x u → ⊥
  refused-at done rest is j base e s there mine to packet same answered = by-state (every-prefix events (λ (es : List Event). Inv (run plan es)) first-inv inv-next done rest is)
    where
      by-state : Inv (run plan done) → ⊥
      by-state (inl none) = none j base e s there mine to packet same
      by-state (inr over) = over.none answered

  pub refused-unanswered : (j base : ℕ) (e : Envelope) (s : Sess) → slice_get (run plan events).envelopes j ≡ Some e → e.sender ≡ a → e.to ≡ x → e.packet ≡ Plain (message.Truncated s base) → same_sess s u ≡ true → WasAnswered (run plan events) a x u → ⊥
  refused-unanswered = refused-at events [] (sym (append-nil events))
