-- Along a live journal: what a replica acknowledged since its last start a spared one has done, as long as the first one recovers.
use Rattle.std.proofs.Common.{◌≡◌, ℕ, ◌+◌, ◌*◌, ◌≤◌, true, false, List, [], ◌∷◌, ◌++◌, length, refl, sym, ap, subst, ◌∙◌, arith, Some, slice_get, inl, inr}
use Rattle.std.proofs.lemmas.List.{append-nil, append_assoc}
use Rattle.dpc_model.specs.Inlets.{same_sess}
use Rattle.dpc_model.specs.Actors.{role_of, inputs_of}
use Rattle.dpc_model.specs.declared.actors.Role.{Role}
use Rattle.dpc_model.specs.declared.actors.Role.TheVariants.{Node as IsNode}
use Rattle.dpc_model.specs.declared.messages.Event.{Event}
use Rattle.dpc_model.specs.declared.messages.Sess.{Sess}
use Rattle.dpc_model.specs.declared.messages.Message.TheVariants as message
use Rattle.dpc_model.specs.declared.plans.Plan.{Plan}
use Rattle.dpc_model.specs.declared.plans.StreamRef.{StreamRef}
use Rattle.dpc_model.specs.declared.plans.StreamRef.TheVariants.{Frag}
use Rattle.dpc_model.specs.declared.scripts.Script.{Script}
use Rattle.dpc_model.proofs.Numbers.{times-le}
use Rattle.dpc_lists.proofs.Somes.{some-same}
use Rattle.dpc_lists.proofs.Truths.{true-not-false}
use Rattle.node_model.specs.Mails.{Plain}
use Rattle.node_model.specs.Nodes.{PlainNode, streams_of, new_node}
use Rattle.world_model.specs.Worlds.{World, Envelope, Slot, home_of, slot_of, happens, run}
use Rattle.world_model.specs.Schedules.{is_live_so_far}
use Rattle.world_model.proofs.Running.{run-push}
use Rattle.law_safety.proofs.Milling.{upto_le}
use Rattle.law_safety.proofs.Frames.{IsGood}
use Rattle.law_safety.proofs.Numbering.{home-inputs}
use Rattle.law_safety.proofs.Happening.{IsFine, node-here}
use Rattle.law_safety.proofs.Law.{run-good}
use Rattle.law_safety.proofs.Growing.{run-plan}
use Rattle.law_granting.proofs.Running.{new-slot}
use Rattle.law_readers.specs.Newest.{IsPortOf, KnowsNoNewer}
use Rattle.law_readers.specs.Sure.{SourcesSendSurely}
use Rattle.law_readers.specs.Settling.{CanSettle}
use Rattle.law_readers.proofs.Known.{none-newer}
use Rattle.law_readers.proofs.Surely.{sources-sure}
use Rattle.law_settling.proofs.Along.{every-prefix}
use Rattle.law_calm.proofs.Kept.{WasAnswered}
use Rattle.law_survivors.specs.Spared.{is_spared, StandsWhole, AckedIsDone}
use Rattle.law_survivors.proofs.Levels.{IsLevel}
use Rattle.law_survivors.proofs.Done.{done-is}
use Rattle.law_survivors.proofs.Spared.{reads-it}
use Rattle.law_survivors.proofs.Running.{spared-at, never-sent}
use Rattle.law_survivors.proofs.Refused.{asking-run, refused-at}
use Rattle.law_survivors.proofs.Behind.{done_upto, Standing, IsBehind, AreRefusedBelow, refused-next, behind-next}

new-whole : (home : _) → (new_node home).recovering ≡ false
unfolding new_node
new-whole home = refl

-- an event, over the plan of the script
world-step : (script : Script) (can : CanSettle script) (x g b : ℕ) (role_x : role_of script.plan x ≡ IsNode g b) (a r : ℕ) (role_a : role_of script.plan a ≡ IsNode g r) (w : World) → w.plan ≡ script.plan → (d : Event) (most : ℕ) → IsFine w most → (stands : StandsWhole w x) (later : StandsWhole (happens w d) x) →
    ((p f : ℕ) → IsPortOf script.plan x p (Frag f) → IsLevel script.plan x f (done_upto script.plan f stands.node.cursor) w) → ((p : ℕ) (s : StreamRef) → IsPortOf script.plan a p s → KnowsNoNewer script.plan w a p s) → SourcesSendSurely script.plan w.envelopes →
    ((p f c t j base : ℕ) (e : Envelope) (u v : Sess) → IsPortOf script.plan a p (Frag f) → role_of script.plan t ≡ IsNode f c → slice_get w.envelopes j ≡ Some e → e.sender ≡ t → e.to ≡ a → e.packet ≡ Plain (message.Truncated v base) → same_sess v u ≡ true → WasAnswered w t a u → ⊥) →
    ((m : PlainNode) → (slot_of w a).node ≡ Some m → m.grants.inc ≡ (slot_of w a).last_inc) → IsBehind script.plan a stands.node.cursor w × AreRefusedBelow script.plan a stands.node.cursor w →
    IsBehind script.plan a later.node.cursor (happens w d) × AreRefusedBelow script.plan a later.node.cursor (happens w d)
world-step script can x g b role_x a r role_a w same d most fine stands later level known sure unanswered inc-last h =
    over script.plan (sym same) role_x role_a level known sure (λ p q s. can.once a p q s) unanswered h
  where
    -- the plan is that of the world
    over : (plan : Plan) → plan ≡ w.plan → role_of plan x ≡ IsNode g b → role_of plan a ≡ IsNode g r → ((p f : ℕ) → IsPortOf plan x p (Frag f) → IsLevel plan x f (done_upto plan f stands.node.cursor) w) → ((p : ℕ) (s : StreamRef) → IsPortOf plan a p s → KnowsNoNewer plan w a p s) → SourcesSendSurely plan w.envelopes →
        ((p q : ℕ) (s : StreamRef) → slice_get (inputs_of plan (role_of plan a)) p ≡ Some s → slice_get (inputs_of plan (role_of plan a)) q ≡ Some s → p ≡ q) →
        ((p f c t j base : ℕ) (e : Envelope) (u v : Sess) → IsPortOf plan a p (Frag f) → role_of plan t ≡ IsNode f c → slice_get w.envelopes j ≡ Some e → e.sender ≡ t → e.to ≡ a → e.packet ≡ Plain (message.Truncated v base) → same_sess v u ≡ true → WasAnswered w t a u → ⊥) →
        IsBehind plan a stands.node.cursor w × AreRefusedBelow plan a stands.node.cursor w → IsBehind plan a later.node.cursor (happens w d) × AreRefusedBelow plan a later.node.cursor (happens w d)
    over plan e =
        subst (λ (z : Plan). role_of z x ≡ IsNode g b → role_of z a ≡ IsNode g r → ((p f : ℕ) → IsPortOf z x p (Frag f) → IsLevel z x f (done_upto z f stands.node.cursor) w) → ((p : ℕ) (s : StreamRef) → IsPortOf z a p s → KnowsNoNewer z w a p s) → SourcesSendSurely z w.envelopes →
        ((p q : ℕ) (s : StreamRef) → slice_get (inputs_of z (role_of z a)) p ≡ Some s → slice_get (inputs_of z (role_of z a)) q ≡ Some s → p ≡ q) →
        ((p f c t j base : ℕ) (e : Envelope) (u v : Sess) → IsPortOf z a p (Frag f) → role_of z t ≡ IsNode f c → slice_get w.envelopes j ≡ Some e → e.sender ≡ t → e.to ≡ a → e.packet ≡ Plain (message.Truncated v base) → same_sess v u ≡ true → WasAnswered w t a u → ⊥) →
        IsBehind z a stands.node.cursor w × AreRefusedBelow z a stands.node.cursor w → IsBehind z a later.node.cursor (happens w d) × AreRefusedBelow z a later.node.cursor (happens w d)) (sym e)
        (λ role_x role_a level known sure once unanswered h. (
          behind-next w most d fine x g b role_x stands later a r role_a level known sure once (λ p f port. reads-it w.plan a p f port.there) unanswered inc-last h.0 h.1,
          refused-next w most d fine x g b role_x stands later a r role_a level known sure once (λ p f port. reads-it w.plan a p f port.there) unanswered inc-last h.0 h.1,
        ))

module _ (script : Script) (events : List Event) (can : CanSettle script) (live : is_live_so_far script events ≡ true) (x g b : ℕ) (role_x : role_of script.plan x ≡ IsNode g b) (spared : is_spared script x ≡ true) (a r : ℕ) (role_a : role_of script.plan a ≡ IsNode g r) where
  abbrev plan : Plan
  plan = script.plan

  -- what holds at a world, with the cursor of x
  abbrev Both : ℕ → World → Type 0
  Both s w = IsBehind plan a s w × AreRefusedBelow plan a s w

  abbrev Inv : List Event → Type 0
  Inv done = (n : PlainNode) → (slot_of (run plan done) x).node ≡ Some n → Both n.cursor (run plan done)

  first-inv : Inv []
  unfolding run
  first-inv n up = (
    record {
      top = 0;
      acked = λ k i count p f e m at is port there mine to packet. absurd (never-sent plan k e there);
      state = λ m at. inr (
        subst (λ (z : PlainNode). z.recovering ≡ false) (some-same (new_node (home_of plan (g, r))) m (sym (ap (λ (z : Slot). z.node) (new-slot plan a g r role_a)) ∙ at)) (new-whole (home_of plan (g, r))),
        λ p f q port there k e asks sent mine to packet same. absurd (never-sent plan k e sent),
        inl (omega arith),
      );
      incs = λ k i count e there mine packet. absurd (never-sent plan k e there);
    },
    λ j base p f e u port there to sends packet. absurd (never-sent plan j e there),
  )

  inv-next : (done rest : List Event) (d : Event) → events ≡ done ++ d ∷ rest → Inv done → Inv (done ++ d ∷ [])
  inv-next done rest d is h n up =
      let w = run plan done in
      let same = run-plan plan done in
      let push = run-push plan done d in
      let sp = spared-at script events can live x g b role_x spared done (d ∷ rest) is in
      let sp_next = spared-at script events can live x g b role_x spared (done ++ d ∷ []) rest (is ∙ sym (append_assoc done (d ∷ []) rest)) in
      let later : StandsWhole (happens w d) x = subst (λ (v : World). StandsWhole v x) push sp_next.stands in
      let cursor : later.node ≡ n = some-same later.node n (sym later.up ∙ ap (λ (v : World). (slot_of v x).node) (sym push) ∙ up) in
      let now = world-step script can x g b role_x a r role_a w same d (1 + length done) (run-good plan done can.plan).fine sp.stands later (λ p f port. sp.done p f sp.stands.node port sp.stands.up) (λ p s port. none-newer plan done can.plan a p s port) (sources-sure plan done)
      (λ p f c t j base e u v port role_t there from to packet named answered. refused-at script events can.plan live a p f port (reads-it plan a p f port.there) t c u role_t done (d ∷ rest) is j base e v there from to packet named answered)
      (λ m at. ((asking-run plan done can.plan).nodes a g r m (ap (λ (z : Plan). role_of z a) same ∙ role_a) at).inc) (h sp.stands.node sp.stands.up) in
      subst (λ (v : World). Both n.cursor v) (sym push) (subst (λ (z : PlainNode). Both z.cursor (happens w d)) cursor now)

  -- at each point
  pub both-at : (done rest : List Event) → events ≡ done ++ rest → (n : PlainNode) → (slot_of (run script.plan done) x).node ≡ Some n → IsBehind script.plan a n.cursor (run script.plan done) × AreRefusedBelow script.plan a n.cursor (run script.plan done)
  both-at done rest is = every-prefix events Inv first-inv inv-next done rest is

-- ---- the law

pub acked-done : (script : Script) (events : List Event) → AckedIsDone script events
acked-done script events can live x g b a r p f k i count n m e role_x spared role_a port up_x up_a recovers there mine to packet inc =
    let plan = script.plan in
    let home = home_of plan (g, b) in
    let h = (both-at script events can live x g b role_x spared a r role_a events [] (sym (append-nil events)) n up_x).0 in
    let sp = spared-at script events can live x g b role_x spared events [] (sym (append-nil events)) in
    let whole = subst (λ (z : PlainNode). z.recovering ≡ false) (some-same sp.stands.node n (sym sp.stands.up ∙ up_x)) sp.stands.whole in
    let good = subst (λ (z : Plan). IsGood (home_of z (g, b)) (1 + length events) n) (run-plan plan events)
    (node-here (run plan events) (1 + length events) x g b n (run-good plan events can.plan).fine (ap (λ (z : Plan). role_of z x) (run-plan plan events) ∙ role_x) up_x) in
    let inputs : inputs_of plan (role_of plan a) ≡ inputs_of plan (role_of plan x) = ap (λ (z : Role). inputs_of plan z) role_a ∙ sym (ap (λ (z : Role). inputs_of plan z) role_x) in
    let reads : slice_get (streams_of home) p ≡ Some (Frag f) =
    sym (ap (λ (ss : List StreamRef). slice_get ss p) (home-inputs home b)) ∙ ap (λ (z : Role). slice_get (inputs_of plan z) p) (sym role_x) ∙ ap (λ (ss : List StreamRef). slice_get ss p) (sym inputs) ∙ port.there in
    let is = done-is home (1 + length events) n can.plan.checked good whole p (Frag f) reads in
    let low = h.acked k i count p f e m up_a inc port there mine to packet in
    let few = top-low h (h.state m up_a) in
    let more = upto_le plan (Frag f) (h.top * plan.width) (n.cursor * plan.width) can.plan.checked.sound (times-le h.top n.cursor plan.width few) in
    omega (arith, low, more, is)
  where
    top-low : (h : IsBehind script.plan a n.cursor (run script.plan events)) → Standing script.plan a (run script.plan events) h.top n.cursor m → h.top ≤ n.cursor
    top-low h (inl (broken, few)) = few
    top-low h (inr (whole, asked, so)) = absurd (true-not-false (sym recovers ∙ whole))
