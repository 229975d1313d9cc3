-- Whom a script spares stands whole in each of its live runs.
use Rattle.std.proofs.Common.{◌≡◌, ℕ, ◌+◌, true, false, List, [], ◌∷◌, ◌++◌, length, refl, sym, ap, subst, ◌∙◌, Some, slice_get}
use Rattle.std.proofs.lemmas.List.{append-nil}
use Rattle.dpc_lists.specs.Lists.{list_all}
use Rattle.dpc_model.specs.Actors.{role_of, inputs_of}
use Rattle.dpc_model.specs.declared.actors.Role.TheVariants.{Node as IsNode}
use Rattle.dpc_model.specs.declared.messages.Event.{Event}
use Rattle.dpc_model.specs.declared.plans.Plan.{Plan}
use Rattle.dpc_model.specs.declared.plans.StreamRef.{StreamRef}
use Rattle.dpc_model.specs.declared.plans.StreamRef.TheVariants.{Frag}
use Rattle.dpc_model.specs.declared.scripts.Script.{Script}
use Rattle.node_model.specs.Nodes.{PlainNode, new_node}
use Rattle.world_model.specs.Worlds.{World, Envelope, Slot, home_of, happens, run, new_world}
use Rattle.world_model.specs.Schedules.{is_live_so_far}
use Rattle.dpc_lists.proofs.Truths.{both}
use Rattle.dpc_lists.proofs.Elements.{none-there}
use Rattle.dpc_lists.proofs.Somes.{some-same}
use Rattle.world_model.proofs.Running.{run-push, new_world-none}
use Rattle.law_safety.proofs.Law.{run-good}
use Rattle.law_safety.proofs.Growing.{run-plan}
use Rattle.law_granting.proofs.Prefix.{IsReader}
use Rattle.law_granting.proofs.Running.{new-slot}
use Rattle.law_readers.specs.Newest.{IsPortOf, KnowsNoNewer}
use Rattle.law_readers.specs.Sure.{SourcesSendSurely}
use Rattle.law_readers.specs.Settling.{CanSettle}
use Rattle.law_readers.proofs.Counting.{IsLow}
use Rattle.law_readers.proofs.Kept.{new-node-low}
use Rattle.law_readers.proofs.Known.{none-newer}
use Rattle.law_readers.proofs.Surely.{sources-sure}
use Rattle.law_settling.proofs.Along.{every-prefix}
use Rattle.law_survivors.specs.Spared.{spares_at, is_spared}
use Rattle.law_survivors.proofs.Levels.{IsLevel}
use Rattle.law_survivors.proofs.Kept.{NoneIsFresh}
use Rattle.law_survivors.proofs.Done.{done_of}
use Rattle.law_survivors.proofs.Heard.{first-heard}
use Rattle.law_survivors.proofs.Spared.{IsSparedWorld, spared-event}
use Rattle.law_survivors.proofs.Scripts.{all-parts, live-spares}
use Rattle.law_survivors.proofs.Once.{fresh-at}

-- ---- the opening

new-whole : (home : _) → (new_node home).recovering ≡ false
unfolding new_node
new-whole home = refl

new-first : (home : _) → (new_node home).grants.inc ≡ 1
unfolding new_node
new-first home = refl

pub never-sent : (plan : Plan) (k : ℕ) (e : Envelope) → slice_get (new_world plan).envelopes k ≡ Some e → ⊥
never-sent plan k e there = none-there k e (new_world plan).envelopes (new_world-none plan) there

new-level : (plan : Plan) (x f b : ℕ) → IsLevel plan x f b (new_world plan)
new-level plan x f b =
    record {
      nodes = λ a r n role up.
          let slot = new-slot plan a f r role in
          let it = some-same (new_node (home_of plan (f, r))) n (sym (ap (λ (z : Slot). z.node) slot) ∙ up) in
          subst (λ (z : PlainNode). IsLow (home_of plan (f, r)) x b z.acks z.base) it (new-node-low (home_of plan (f, r)) x b);
      snaps = λ k r e there role. absurd (never-sent plan k e there);
      told = λ k i count e counted there mine to packet. absurd (never-sent plan k e there);
    }

new-spared : (plan : Plan) (x g b : ℕ) → role_of plan x ≡ IsNode g b → IsSparedWorld plan x g b (new_world plan)
new-spared plan x g b role =
    record {
      stands = record { node = new_node (home_of plan (g, b)); up = ap (λ (z : Slot). z.node) (new-slot plan x g b role); inc = new-first (home_of plan (g, b)); whole = new-whole (home_of plan (g, b)) };
      kept = λ p f port. record {
        level = λ q there. new-level plan x f (length q.inlet.held.stable);
        asked = λ k e asks q there mine to packet at same. absurd (never-sent plan k e there);
        truncated = λ k base e u q there to sends packet at. absurd (never-sent plan k e there);
      };
      done = λ p f n port up. new-level plan x f (done_of plan f n);
      heard = record {
        sent = λ k e there mine. absurd (never-sent plan k e there);
        heard = λ a r m u role_a up at.
            let is = some-same (new_node (home_of plan (g, r))) m (sym (ap (λ (z : Slot). z.node) (new-slot plan a g r role_a)) ∙ up) in
            first-heard (home_of plan (g, r)) m b u (sym is) at;
      };
    }

module _ (script : Script) (events : List Event) (can : CanSettle script) (live : is_live_so_far script events ≡ true) (x g b : ℕ) (role : role_of script.plan x ≡ IsNode g b) (spared : is_spared script x ≡ true) where
  abbrev plan : Plan
  plan = script.plan

  -- ---- a run

  abbrev Inv : List Event → Type 0
  Inv done = IsSparedWorld plan x g b (run plan done)

  spared-next : (done rest : List Event) (d : Event) → events ≡ done ++ d ∷ rest → Inv done → Inv (done ++ d ∷ [])
  spared-next done rest d is h =
      let w = run plan done in
      let good = run-good plan done can.plan in
      let same = run-plan plan done in
      let all = all-parts (spares_at x) done (d ∷ rest) (ap (λ (es : List Event). list_all (spares_at x) es) (sym is) ∙ live-spares script x spared events live) in
      let spares_it = (both (spares_at x d) (list_all (spares_at x) rest) all.1).0 in
      let here : IsSparedWorld w.plan x g b (happens w d) =
      spared-event w (1 + length done) good.fine x g b (ap (λ (z : Plan). role_of z x) same ∙ role)
      (subst (λ (z : Plan). (p q : ℕ) (s : StreamRef) → slice_get (inputs_of z (role_of z x)) p ≡ Some s → slice_get (inputs_of z (role_of z x)) q ≡ Some s → p ≡ q) (sym same) (λ p q s. can.once x p q s))
      (λ p s port. subst (λ (z : Plan). KnowsNoNewer z w x p s) (sym same) (none-newer plan done can.plan x p s (subst (λ (z : Plan). IsPortOf z x p s) same port)))
      (subst (λ (z : Plan). SourcesSendSurely z w.envelopes) (sym same) (sources-sure plan done)) (subst (λ (z : Plan). IsSparedWorld z x g b w) (sym same) h) d spares_it
      (subst (λ (z : Plan). (p f : ℕ) → IsPortOf z x p (Frag f) → (reader : IsReader z (Frag f) x) → NoneIsFresh z x f reader.place w d) (sym same) (λ p f port reader. fresh-at script events can.plan live x p f port reader done rest d is)) in
      subst (λ (v : World). IsSparedWorld plan x g b v) (sym (run-push plan done d)) (subst (λ (z : Plan). IsSparedWorld z x g b (happens w d)) same here)

  first-spared : Inv []
  unfolding run
  first-spared = new-spared plan x g b role

  -- at each point
  pub spared-at : (done rest : List Event) → events ≡ done ++ rest → IsSparedWorld plan x g b (run plan done)
  spared-at done rest is = every-prefix events Inv first-spared spared-next done rest is

  pub spared-run : IsSparedWorld plan x g b (run plan events)
  spared-run = spared-at events [] (sym (append-nil events))
