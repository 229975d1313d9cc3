-- Replicas with whole inputs: what an event of a quiet phase makes of each.
use Rattle.std.proofs.Common.{◌≡◌, ℕ, ◌<◌, ◌≤◌, true, false, sym, ap, subst, ◌∙◌, arith, Some, ◌⊎◌, inl}
use Rattle.dpc_model.specs.Actors.{role_of}
use Rattle.dpc_model.specs.Granting.{Key}
use Rattle.dpc_model.specs.NodeStates.{is_up_failure}
use Rattle.dpc_model.specs.declared.actors.Role.TheVariants.{Node as IsNode}
use Rattle.dpc_model.specs.declared.messages.Event.{Event}
use Rattle.dpc_model.specs.declared.plans.Plan.{Plan}
use Rattle.dpc_model.specs.declared.scripts.Script.{Script}
use Rattle.dpc_lists.proofs.Truths.{true-not-false}
use Rattle.node_model.specs.Nodes.{PlainNode, buckets_of}
use Rattle.node_model.specs.NodeSteps.{packet_step}
use Rattle.world_model.specs.Worlds.{home_of, slot_of}
use Rattle.world_model.specs.Schedules.{Progress, next_progress}
use Rattle.law_safety.proofs.Frames.{IsGood}
use Rattle.law_safety.proofs.Happening.{node-here}
use Rattle.law_safety.proofs.Worlding.{actor-at}
use Rattle.law_granting.specs.Asking.{AreAsksInOrder, AsksInOrder}
use Rattle.law_granting.proofs.Saying.{own-delivered, own-milled, own-ticked}
use Rattle.law_schedules.proofs.Nodes.{IsCalmNode, delivered-calm, ticked-calm, milled-moves}
use Rattle.law_settling.specs.Finished.{has_whole_inputs, IsFinished}
use Rattle.law_settling.proofs.Rules.{MayGo}
use Rattle.law_settling.proofs.Ports.{node-there}
use Rattle.law_settling.proofs.Promises.{IsOpenAt}
use Rattle.law_settling.proofs.Fellows.{many_replicas, replica-of}
use Rattle.law_settling.proofs.Nodes.{NodeWent, Rests, Takes, Ticked, Mills, node-went}
use Rattle.law_settling.proofs.Knowing.{Knows, taken-knows, milled-knows, ticked-knows}
use Rattle.law_settling.proofs.Finishing.{finished-of}
use Rattle.law_settling.proofs.Failing.{IsEven, taken-even, milled-even, ticked-even}

-- a node is up as this replica of the fragment
pub record IsReplica (script : Script) (f : ℕ) (z : Progress) (b q : ℕ) (n : PlainNode) : Type 0 where
  pub role : role_of script.plan b ≡ IsNode f q
  pub up : (slot_of z.world b).node ≡ Some n

-- a state in which the fragment's replicas do not recover and have whole inputs
pub record IsWorking (script : Script) (f : ℕ) (z : Progress) : Type 0 where
  pub here : IsOpenAt script z
  pub calm : (b q : ℕ) (n : PlainNode) → IsReplica script f z b q n → n.recovering ≡ false
  pub order : AreAsksInOrder z.world
  pub whole : (b q : ℕ) (n : PlainNode) → IsReplica script f z b q n → has_whole_inputs script.plan n ≡ true
  pub numbered : (b q : ℕ) (n : PlainNode) (p : ℕ × Key) → IsReplica script f z b q n → n.grants.promise ≡ Some p → p.0 < many_replicas script.plan f

-- what an event makes of a replica
pub record Moved (script : Script) (f : ℕ) (next : Progress) (b q : ℕ) (n m : PlainNode) : Type 0 where
  pub replica : IsReplica script f next b q m
  pub even : IsEven n m
  pub inc : m.grants.inc ≡ n.grants.inc
  pub runs : n.grants.running ≡ true → (m.grants.running ≡ true) ⊎ (n.grants.over < m.grants.over)
  pub knows : (c : ℕ) (key : Key) → Knows c key n.grants → Knows c key m.grants
  pub cursor : n.cursor ≤ m.cursor

module _ (script : Script) (f : ℕ) where
  pub role-here : (z : Progress) (b q : ℕ) (n : PlainNode) → IsWorking script f z → IsReplica script f z b q n → role_of z.world.plan b ≡ IsNode f q
  role-here z b q n good at = ap (λ (pl : Plan). role_of pl b) good.here.of_plan ∙ at.role

  pub good-here : (z : Progress) (b q : ℕ) (n : PlainNode) → (good : IsWorking script f z) → IsReplica script f z b q n → IsGood (home_of z.world.plan (f, q)) good.here.most n
  good-here z b q n good at = node-here z.world good.here.most b f q n good.here.fine (role-here z b q n good at) at.up

  pub calm-here : (z : Progress) (b q : ℕ) (n : PlainNode) → IsWorking script f z → IsReplica script f z b q n → n.recovering ≡ false
  calm-here z b q n good at = good.calm b q n at

  pub order-here : (z : Progress) (b q : ℕ) (n : PlainNode) → IsWorking script f z → IsReplica script f z b q n → AsksInOrder (home_of z.world.plan (f, q)) n
  order-here z b q n good at = good.order.nodes b f q n (record { role = role-here z b q n good at; up = at.up })

  -- the replica with that number
  pub pick : (z : Progress) (q : ℕ) → IsWorking script f z → q < many_replicas script.plan f → (b : ℕ) × (n : PlainNode) × IsReplica script f z b q n
  pick z q good low =
      let b = replica-of script.plan f q low in
      let role : role_of z.world.plan b.0 ≡ IsNode f q = ap (λ (pl : Plan). role_of pl b.0) good.here.of_plan ∙ b.1 in
      let node = node-there z.world good.here.most b.0 f q good.here.fine good.here.up role in
      (b.0, node.0, record { role = b.1; up = node.1 })

  -- whoever is past the last bucket has finished
  pub finished-here : (z : Progress) (b q : ℕ) (n : PlainNode) → IsWorking script f z → IsReplica script f z b q n → buckets_of script.plan ≤ n.cursor → IsFinished (home_of z.world.plan (f, q)) n
  finished-here z b q n good at past =
      let role = role-here z b q n good at in
      let same : buckets_of z.world.plan ≡ buckets_of script.plan = ap (λ (pl : Plan). buckets_of pl) good.here.of_plan in
      finished-of (home_of z.world.plan (f, q)) good.here.most n (actor-at z.world.plan b f q good.here.fine.checked role).place (good-here z b q n good at) (order-here z b q n good at) (calm-here z b q n good at) (omega (arith, same, past))

  pub moved : (z : Progress) (e : Event) → MayGo script (IsWorking script f) z e → (b q : ℕ) (n : PlainNode) → IsReplica script f z b q n → (m : PlainNode) × Moved script f (next_progress script z e) b q n m
  moved z e may b q n at =
      let good = may.here in
      let went = node-went z.world good.here.most b f q good.here.fine (role-here z b q n good at) e may.quiet n at.up in
      let next : IsReplica script f (next_progress script z e) b q went.0 = record { role = at.role; up = went.1 } in
      (went.0, on went.0 next (calm-here z b q n good at) (calm-here (next_progress script z e) b q went.0 may.next next) went.2)
    where
      by-calm : (m : PlainNode) → IsCalmNode n m → n.recovering ≡ false → m.recovering ≡ false → n.cursor ≤ m.cursor
      by-calm m c old new = c.cursor (λ e. absurd (true-not-false (sym e ∙ old))) new

      on : (m : PlainNode) → IsReplica script f (next_progress script z e) b q m → n.recovering ≡ false → m.recovering ≡ false → NodeWent (home_of z.world.plan (f, q)) n m → Moved script f (next_progress script z e) b q n m
      on m next old new (Rests same) =
          let cursor = ap (λ (y : PlainNode). y.cursor) same in
          record {
            replica = next;
            even = record { fine = λ d. ap (λ (y : PlainNode). is_up_failure y.state) same ∙ d; over = λ d. ap (λ (y : PlainNode). y.grants.over) same };
            inc = ap (λ (y : PlainNode). y.grants.inc) same;
            runs = λ d. inl (ap (λ (y : PlainNode). y.grants.running) same ∙ d);
            knows = λ c key k. subst (λ (y : PlainNode). Knows c key y.grants) (sym same) k;
            cursor = omega (arith, cursor);
          }
      on m next old new (Takes g same) =
          let home = home_of z.world.plan (f, q) in
          let t = packet_step home g.sender g.packet n in
          let s = (own-delivered home g.sender g.packet n).grants in
          let cursor = by-calm m (subst (IsCalmNode n) (sym same) (delivered-calm home g.sender g.packet n)) old new in
          record {
            replica = next;
            even = subst (IsEven n) (sym same) (taken-even home g.sender g.packet n old (sym (ap (λ (y : PlainNode). y.recovering) same) ∙ new));
            inc = ap (λ (y : PlainNode). y.grants.inc) same ∙ s.inc;
            runs = subst (λ (y : PlainNode). n.grants.running ≡ true → (y.grants.running ≡ true) ⊎ (n.grants.over < y.grants.over)) (sym same) s.runs;
            knows = λ c key k. subst (λ (y : PlainNode). Knows c key y.grants) (sym same) (taken-knows home g.sender c key g.packet n k);
            cursor = cursor;
          }
      on m next old new (Ticked now same) =
          let home = home_of z.world.plan (f, q) in
          let good = may.here in
          let role = role-here z b q n good at in
          let s = (own-ticked home now n).grants in
          let cursor = by-calm m (subst (IsCalmNode n) (sym same) (ticked-calm home now n)) old new in
          let whole : has_whole_inputs z.world.plan n ≡ true = ap (λ (pl : Plan). has_whole_inputs pl n) good.here.of_plan ∙ good.whole b q n at in
          record {
            replica = next;
            even = subst (IsEven n) (sym same) (ticked-even home good.here.most now n (actor-at z.world.plan b f q good.here.fine.checked role).place (good-here z b q n good at) old whole);
            inc = ap (λ (y : PlainNode). y.grants.inc) same ∙ s.inc;
            runs = subst (λ (y : PlainNode). n.grants.running ≡ true → (y.grants.running ≡ true) ⊎ (n.grants.over < y.grants.over)) (sym same) s.runs;
            knows = λ c key k. subst (λ (y : PlainNode). Knows c key y.grants) (sym same) (ticked-knows home now c key n k);
            cursor = cursor;
          }
      on m next old new (Mills u same) =
          let home = home_of z.world.plan (f, q) in
          let s = (own-milled home u n).grants in
          let went = (milled-moves home u n).moved in
          let one = ap (λ (y : PlainNode). y.cursor) same in
          record {
            replica = next;
            even = subst (IsEven n) (sym same) (milled-even home u n);
            inc = ap (λ (y : PlainNode). y.grants.inc) same ∙ s.inc;
            runs = subst (λ (y : PlainNode). n.grants.running ≡ true → (y.grants.running ≡ true) ⊎ (n.grants.over < y.grants.over)) (sym same) s.runs;
            knows = λ c key k. subst (λ (y : PlainNode). Knows c key y.grants) (sym same) (milled-knows home u c key n k);
            cursor = omega (arith, went, one);
          }
