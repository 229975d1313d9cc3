-- An ask of the least asking replica is granted by the next one, and the grant lets it enter.
use Rattle.std.proofs.Common.{◌≡◌, ℕ, ◌+◌, ◌≤◌, Bool, true, false, not, ◌&&◌, ◌||◌, ◌==◌, nat_lt, nat_le, refl, sym, ap, subst, ◌∙◌, arith, Option, Some, None, slice_get, ◌⊎◌, inl, inr}
use Rattle.std.specs.Prelude.{is_none, IfSome}
use Rattle.std.proofs.lemmas.Option.{slice_get_within}
use Rattle.dpc_lists.specs.Lists.{nth}
use Rattle.dpc_model.specs.Actors.{role_of}
use Rattle.dpc_model.specs.Granting.{Key, key_le, grants, promised_other, over_by, known_over, may_enter_by}
use Rattle.dpc_model.specs.NodeStates.{is_up_failure, is_stabilization}
use Rattle.dpc_model.specs.declared.actors.Role.TheVariants.{Node as IsNode}
use Rattle.dpc_model.specs.declared.messages.Event.{Event}
use Rattle.dpc_model.specs.declared.messages.Event.TheVariants.{Deliver}
use Rattle.dpc_model.specs.declared.messages.Message.{Message}
use Rattle.dpc_model.specs.declared.messages.Message.TheVariants as message
use Rattle.dpc_model.specs.declared.plans.Plan.{Plan}
use Rattle.dpc_model.specs.declared.scripts.Script.{Script}
use Rattle.node_model.specs.Mails.{mail, Plain}
use Rattle.node_model.specs.Nodes.{PlainNode}
use Rattle.node_model.specs.NodeSteps.{packet_step}
use Rattle.world_model.specs.Worlds.{World, Envelope, home_of, from, can_come, happens}
use Rattle.world_model.specs.Schedules.{Progress, next_progress, may_come}
use Rattle.dpc_lists.proofs.Truths.{both-of, eq-test, eq-of, lt-of, le-of}
use Rattle.law_safety.proofs.Numbering.{replica-at}
use Rattle.law_safety.proofs.Emptied.{shape-of}
use Rattle.world_model.specs.Events.{is_delivery}
use Rattle.law_settling.proofs.Waitings.{waits, waits-on, comes}
use Rattle.law_settling.proofs.Rules.{MayGo}
use Rattle.law_settling.proofs.Opening.{all-come}
use Rattle.law_settling.proofs.PortSteps.{sent-place}
use Rattle.law_settling.proofs.Fresh.{new-waits, still-sent}
use Rattle.law_settling.proofs.Ports.{node-there}
use Rattle.law_settling.proofs.Bounded.{IsFirst}
use Rattle.law_settling.proofs.Fellows.{many_replicas}
use Rattle.law_settling.proofs.Replicas.{number-is}
use Rattle.law_settling.proofs.Nodes.{node-took-now, node-took-world}
use Rattle.law_settling.proofs.Entering.{ask-granted, grant-enters}
use Rattle.law_settling.proofs.Moving.{IsReplica, IsWorking, role-here, good-here}
use Rattle.law_settling.proofs.Resting.{none-stabilizes, came}
use Rattle.law_settling.proofs.Trying.{IsTrying, Broke, IsPeerOf, asking-failed, trying-next, least-free, second-free}

-- a message with the present key of the least asking replica's ask is on its way
pub record IsOnWay (script : Script) (f : ℕ) (Was : ℕ → Type 0) (E : ℕ → Bool) (l b x y i o : ℕ) (msg : Message) (k : ℕ) (z : Progress) : Type 0 where
  pub trying : IsTrying script f Was E z
  pub key : (n : PlainNode) → IsReplica script f z b l n → (n.grants.inc ≡ i) × (n.grants.over + 1 ≡ o)
  pub sent : slice_get z.world.envelopes k ≡ Some (from x (mail y msg))
  pub waits : waits k z.waiting ≡ true

or-none : (a b c d : Bool) → a ≡ false → b ≡ false → c ≡ false → d ≡ false → not (a || b || c || d) ≡ true
or-none true b c d e f g h = cc
or-none false true c d e f g h = cc
or-none false false true d e f g h = cc
or-none false false false true e f g h = cc
or-none false false false false e f g h = refl

-- a later ask is not at most an earlier one
key-past : (i k : ℕ) (h : Key) → h.0 ≤ i → (h.0 ≡ i → h.1 ≤ k) → key_le (i, k + 1) h ≡ false
key-past i k h low over = by-first (nat_lt i h.0) refl (i == h.0) refl (nat_le (k + 1) h.1) refl
  where
    by-first : (a : Bool) → nat_lt i h.0 ≡ a → (b : Bool) → (i == h.0) ≡ b → (c : Bool) → nat_le (k + 1) h.1 ≡ c → (nat_lt i h.0 || (i == h.0 && nat_le (k + 1) h.1)) ≡ false
    by-first true ea b eb c ec = let more = lt-of i h.0 ea in absurd (omega (arith, more, low))
    by-first false ea false eb c ec = rw (ea, eb) refl
    by-first false ea true eb false ec = rw (ea, eb, ec) refl
    by-first false ea true eb true ec = let same = eq-of i h.0 eb in let few = over (sym same) in let more = le-of (k + 1) h.1 ec in absurd (omega (arith, few, more))

module _ (script : Script) (f : ℕ) (Was : ℕ → Type 0) (E : ℕ → Bool) (l b : ℕ) (role_b : role_of script.plan b ≡ IsNode f l) (first : IsFirst E (many_replicas script.plan f) l) where
  -- the actor's replica
  pub at-actor : (z : Progress) (a q : ℕ) → IsWorking script f z → role_of script.plan a ≡ IsNode f q → (n : PlainNode) × IsReplica script f z a q n
  at-actor z a q good role =
      let here : role_of z.world.plan a ≡ IsNode f q = ap (λ (pl : Plan). role_of pl a) good.here.of_plan ∙ role in
      let node = node-there z.world good.here.most a f q good.here.fine good.here.up here in
      (node.0, record { role = role; up = node.1 })

  pub comes-so : (z : Progress) (n : ℕ) (g : Envelope) → IsWorking script f z → slice_get z.world.envelopes n ≡ Some g → comes z.world n ≡ true
  comes-so z n g good there = all-come z.world good.here.most n good.here.fine good.here.up (slice_get_within z.world.envelopes n g there)

  -- its key stays
  pub key-next : (i o : ℕ) (z : Progress) (e : Event) → MayGo script (IsWorking script f) z e → IsTrying script f Was E z → ((n : PlainNode) → IsReplica script f z b l n → (n.grants.inc ≡ i) × (n.grants.over + 1 ≡ o)) →
      (m : PlainNode) → IsReplica script f (next_progress script z e) b l m → (m.grants.inc ≡ i) × (m.grants.over + 1 ≡ o)
  key-next i o z e may h key m there =
      let c = came script f Was z e may b l m there in
      let old = key c.old c.at in
      let over = c.way.even.over (none-stabilizes script f Was z b l c.old may.here c.at (h.resting.sorted b l c.old c.at)) in
      let next = old.1 in
      (c.way.inc ∙ old.0, omega (arith, over, next))

  pub way-next : (x y i o : ℕ) (msg : Message) (k : ℕ) (z : Progress) (e : Event) → MayGo script (IsWorking script f) z e → is_delivery k e ≡ false → IsOnWay script f Was E l b x y i o msg k z → IsOnWay script f Was E l b x y i o msg k (next_progress script z e) ⊎ Broke script f Was E (next_progress script z e)
  way-next x y i o msg k z e may apart h =
      elim (trying-next script f Was E z e may h.trying) [
        | inr out ↦ inr out
        | inl trying ↦ inl (record { trying = trying; key = key-next i o z e may h.trying h.key; sent = still-sent z.world e k _ h.sent; waits = waits-on script z e k may.quiet apart h.waits })
      ]

  -- ---- the grant comes

  pub grant-taken : (x i o k : ℕ) (z : Progress) → MayGo script (IsWorking script f) z (Deliver k) → IsOnWay script f Was E l b x b i o (message.Grant i o) k z → Broke script f Was E (next_progress script z (Deliver k))
  grant-taken x i o k z may h =
      let good = may.here in
      let w = z.world in
      let n = at-actor z b l good role_b in
      let role = role-here script f z b l n.0 good n.1 in
      let g : Envelope = from x (mail b (message.Grant i o)) in
      let can : can_come w g ≡ true = sym (ap (λ (y : Option Envelope). may_come w y) h.sent) ∙ comes-so z k g good h.sent in
      let now = node-took-now w good.here.most b f l good.here.fine role k g n.0 h.sent can refl n.1.up in
      let runs : n.0.grants.running ≡ true = h.trying.asking b l n.0 n.1 ∙ first.passes in
      let failed = asking-failed script f Was z b l n.0 good h.trying.resting n.1 runs in
      let key = h.key n.0 n.1 in
      let free = least-free script f Was E z l good h.trying first b n.0 n.1 in
      let none : is_none n.0.grants.promise ≡ true = ap {B = Bool} (λ (y : Option (ℕ × Key)). is_none y) free in
      let may_in : may_enter_by n.0.grants (i, o) ≡ true =
      both-of (n.0.grants.running && i == n.0.grants.inc && o == n.0.grants.over + 1) (is_none n.0.grants.promise)
      (both-of (n.0.grants.running && i == n.0.grants.inc) (o == n.0.grants.over + 1) (both-of n.0.grants.running (i == n.0.grants.inc) runs (eq-test i n.0.grants.inc (sym key.0))) (eq-test o (n.0.grants.over + 1) (sym key.1))) none in
      let state = grant-enters (home_of w.plan (f, l)) x i o n.0 failed.1 may_in in
      inl (record { actor = b; number = l; node = (packet_step (home_of w.plan (f, l)) x (Plain (message.Grant i o)) n.0).after; replica = record { role = role_b; up = now }; was = failed.0; fine = ap is_up_failure state })

  -- ---- the ask comes

  module _ (s c : ℕ) (role_c : role_of script.plan c ≡ IsNode f s) (peer : IsPeerOf E (many_replicas script.plan f) l s) where
    grants-so : (z : Progress) → IsWorking script f z → IsTrying script f Was E z → (n x : PlainNode) → IsReplica script f z b l n → IsReplica script f z c s x → grants x.grants x.state l (n.grants.inc, n.grants.over + 1) ≡ true
    grants-so z good h n x at there =
        let me = (shape-of (home_of z.world.plan (f, s)) good.here.most x (good-here script f z c s x good there).orderly.shape).me in
        let calm = none-stabilizes script f Was z c s x good there (h.resting.sorted c s x there) in
        or-none (is_stabilization x.state) (promised_other x.grants l) (x.grants.running && nat_lt x.grants.me l) (known_over x.grants l (n.grants.inc, n.grants.over + 1))
        calm (second-free script f Was E z l s good h peer c x there) (by-number me (nat_lt x.grants.me l) refl x.grants.running refl) (by-heard (nth None x.grants.heard l) refl)
      where
        by-number : x.grants.me ≡ s → (a : Bool) → nat_lt x.grants.me l ≡ a → (d : Bool) → x.grants.running ≡ d → (x.grants.running && nat_lt x.grants.me l) ≡ false
        by-number me false ea false ed = rw (ea, ed) refl
        by-number me false ea true ed = rw (ea, ed) refl
        by-number me true ea false ed = rw (ea, ed) refl
        by-number me true ea true ed =
            let low = lt-of x.grants.me l ea in
            let off = first.before s (omega (arith, low, me)) in
            let on = sym (h.asking c s x there) ∙ ed in
            let clash : true ≡ false = sym on ∙ off in cc

        by-heard : (y : Option Key) → nth None x.grants.heard l ≡ y → known_over x.grants l (n.grants.inc, n.grants.over + 1) ≡ false
        by-heard None e = ap {B = Bool} (λ (y : Option Key). over_by (n.grants.inc, n.grants.over + 1) y) e
        by-heard (Some y) e =
            let over = good.order.heard c b f s l x y (record { role = role-here script f z c s x good there; up = there.up }) (role-here script f z b l n good at) e in
            let inc = good.order.incarnation b f l n (record { role = role-here script f z b l n good at; up = at.up }) in
            let is : y.0 ≡ n.grants.inc → y.1 ≤ n.grants.over = subst (λ (t : Option PlainNode). IfSome t (λ (v : PlainNode). y.0 ≡ v.grants.inc → y.1 ≤ v.grants.over)) at.up over.over in
            let came = over.came in
            ap {B = Bool} (λ (t : Option Key). over_by (n.grants.inc, n.grants.over + 1) t) e ∙ key-past n.grants.inc n.grants.over y (omega (arith, came, inc)) is

    pub ask-taken : (i o k : ℕ) (z : Progress) → MayGo script (IsWorking script f) z (Deliver k) → IsOnWay script f Was E l b b c i o (message.Ask i o) k z →
        ((j : ℕ) × IsOnWay script f Was E l b c b i o (message.Grant i o) j (next_progress script z (Deliver k))) ⊎ Broke script f Was E (next_progress script z (Deliver k))
    ask-taken i o k z may h = elim (trying-next script f Was E z (Deliver k) may h.trying) [ inr out ↦ inr out | inl trying ↦ inl (granted trying) ]
      where
        granted : IsTrying script f Was E (next_progress script z (Deliver k)) → (j : ℕ) × IsOnWay script f Was E l b c b i o (message.Grant i o) j (next_progress script z (Deliver k))
        granted trying =
            let good = may.here in
            let w = z.world in
            let n = at-actor z b l good role_b in
            let x = at-actor z c s good role_c in
            let role = role-here script f z c s x.0 good x.1 in
            let home = home_of w.plan (f, s) in
            let g : Envelope = from b (mail c (message.Ask i o)) in
            let can : can_come w g ≡ true = sym (ap (λ (y : Option Envelope). may_come w y) h.sent) ∙ comes-so z k g good h.sent in
            let t = packet_step home b (Plain (message.Ask i o)) x.0 in
            let event = node-took-world w good.here.most c f s good.here.fine role k g x.0 h.sent can refl x.1.up in
            let key = h.key n.0 n.1 in
            let role_bz = role-here script f z b l n.0 good n.1 in
            let may_so : grants x.0.grants x.0.state l (i, o) ≡ true = subst (λ (y : ℕ). grants x.0.grants x.0.state l (i, y) ≡ true) key.1 (subst (λ (y : ℕ). grants x.0.grants x.0.state l (y, n.0.grants.over + 1) ≡ true) key.0 (grants-so z good h.trying n.0 x.0 n.1 x.1)) in
            let inside = ask-granted home b l i o x.0 (number-is w.plan b f l s role_bz) (replica-at w.plan b f l role_bz) may_so in
            let place = sent-place c w.envelopes (mail b (message.Grant i o)) t.sends inside in
            let sent : slice_get (happens w (Deliver k)).envelopes place.0 ≡ Some (from c (mail b (message.Grant i o))) = ap (λ (v : World). slice_get v.envelopes place.0) event ∙ place.1 in
            (place.0, record { trying = trying; key = key-next i o z (Deliver k) may h.trying h.key; sent = sent; waits = new-waits script z (Deliver k) place.0 _ place.2 sent })
