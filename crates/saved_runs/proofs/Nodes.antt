-- Nodes in order, and what they have.
use Rattle.std.proofs.Common.{◌≡◌, ℕ, zero, suc, ◌+◌, ◌-◌, ◌<◌, ◌≤◌, List, [], ◌∷◌, ◌++◌, length, Some, slice_get, refl, sym, ap, subst, ◌∙◌, arith, All}
use Rattle.std.proofs.lemmas.List.Elements.{All-nil, All-cons, All-head, All-tail}
use Rattle.std.specs.List.{AllZip}
use Rattle.disk_model.specs.declared.disk.Disk.{Ghosts}
use Rattle.dpc_model.specs.Actors.{role_of, nodes_of}
use Rattle.dpc_model.specs.declared.actors.Role.TheVariants.{Node as IsNode}
use Rattle.dpc_model.specs.declared.plans.Plan.{Plan}
use Rattle.dpc_model.specs.declared.scripts.Script.{Script}
use Rattle.dpc_model.proofs.Numbers.{node-role}
use Rattle.script_rules.specs.Checking.{IsChecked}
use Rattle.phase_saves.specs.Nodes.{HasBegun, IsSame}
use Rattle.phase_saves.specs.Runs.{IsDone}
use Rattle.phase_saves.specs.declared.node.SavingNode.{SavingNode}
use Rattle.world_core.specs.Runs.{RunOf}
use Rattle.saved_runs.specs.Nodes.{IsNodeOf, IsNumbered, IsReady}

-- ---- the node of a number

get-some : {X : Type 0} (xs : List X) (i : ℕ) → i < length xs → (x : X) × (slice_get xs i ≡ Some x)
get-some [] i l = absurd (omega (arith, l))
get-some (x ∷ xs) zero l = (x, refl)
get-some (x ∷ xs) (suc i) l = get-some xs i (omega (arith, l))

pub node-here : (plan : Plan) (a i : ℕ) → a ≡ length plan.sources + i → i < length (nodes_of plan) → (n : ℕ × ℕ) × (slice_get (nodes_of plan) i ≡ Some n) × (role_of plan a ≡ IsNode n.0 n.1)
node-here plan a i is l =
    let found = get-some (nodes_of plan) i l in
    let low : length plan.sources ≤ a = omega (arith, is) in
    let place : a - length plan.sources ≡ i = omega (arith, is) in
    (found.0, found.1, node-role plan a found.0 low (ap (slice_get (nodes_of plan)) place ∙ found.1))

pub same-node : (f r : ℕ) (n : ℕ × ℕ) → IsNode f r ≡ IsNode n.0 n.1 → ◌≡◌ {A = ℕ × ℕ} (f, r) n
same-node f r n is = let one : f ≡ n.0 = cc in let other : r ≡ n.1 = cc in rw (one, other) refl

module _ {D : Type 0} {g : Ghosts D} where
  -- ---- downwards

  pub numbered-pushed : (top : ℕ) (ns : List (SavingNode D g)) (n : SavingNode D g) → IsNumbered top ns → n.actor + length ns + 1 ≡ top → IsNumbered top (ns ++ n ∷ [])
  numbered-pushed top [] n h is = (omega (arith, is), tt)
  numbered-pushed top (m ∷ ns) n h is = let one = h.0 in (h.0, numbered-pushed m.actor ns n h.1 (omega (arith, is, one)))

  pub numbered-popped : (top : ℕ) (ns : List (SavingNode D g)) (n : SavingNode D g) → IsNumbered top (ns ++ n ∷ []) → IsNumbered top ns × (n.actor + length ns + 1 ≡ top)
  numbered-popped top [] n h = let one = h.0 in (tt, omega (arith, one))
  numbered-popped top (m ∷ ns) n h = let one = h.0 in let rest = numbered-popped m.actor ns n h.1 in let last = rest.1 in ((h.0, rest.0), omega (arith, one, last))

  pub numbered-same : (top : ℕ) (ns ms : List (SavingNode D g)) → AllZip IsSame ns ms → IsNumbered top ns → IsNumbered top ms
  numbered-same top [] [] s h = h
  numbered-same top [] (m ∷ ms) s h = absurd s
  numbered-same top (n ∷ ns) [] s h = absurd s
  numbered-same top (n ∷ ns) (m ∷ ms) s h =
      (ap (λ a. a + 1) (s.0.actor) ∙ h.0, subst (λ a. IsNumbered a ms) (sym s.0.actor) (numbered-same n.actor ns ms s.1 h.1))

  pub length-same : (ns ms : List (SavingNode D g)) → AllZip IsSame ns ms → length ms ≡ length ns
  length-same [] [] s = refl
  length-same [] (m ∷ ms) s = absurd s
  length-same (n ∷ ns) [] s = absurd s
  length-same (n ∷ ns) (m ∷ ms) s = ap (λ k. suc k) (length-same ns ms s.1)

  -- ---- places

  pub places-same : (plan : Plan) (room : ℕ) (ns ms : List (SavingNode D g)) → AllZip IsSame ns ms → All (IsNodeOf plan room) ns → All (IsNodeOf plan room) ms
  places-same plan room [] [] s h = All-nil (IsNodeOf plan room)
  places-same plan room [] (m ∷ ms) s h = absurd s
  places-same plan room (n ∷ ns) [] s h = absurd s
  places-same plan room (n ∷ ns) (m ∷ ms) s h =
      let one = All-head (IsNodeOf plan room) n ns h in
      All-cons (IsNodeOf plan room) m ms
      (record {
        replica = one.replica;
        role = subst (λ a. role_of plan a ≡ IsNode m.frag one.replica) (sym s.0.actor) (subst (λ f. role_of plan n.actor ≡ IsNode f one.replica) (sym s.0.frag) one.role);
        slots = s.0.room ∙ one.slots;
      }) (places-same plan room ns ms s.1 (All-tail (IsNodeOf plan room) n ns h))

  -- ---- at the end of a run

  pub ready-done : (script : Script) (run : RunOf) (ns ms : List (SavingNode D g)) → IsChecked script → script.plan ≡ run.plan → All HasBegun ns → AllZip (IsDone run) ns ms → All (IsReady run.plan run.events) ms
  ready-done script run [] [] checked is begun done = All-nil (IsReady run.plan run.events)
  ready-done script run [] (m ∷ ms) checked is begun done = absurd done
  ready-done script run (n ∷ ns) [] checked is begun done = absurd done
  ready-done script run (n ∷ ns) (m ∷ ms) checked is begun done =
      let first = All-head HasBegun n ns begun in
      All-cons (IsReady run.plan run.events) m ms (record { rests = done.0.rests first.rests; has = λ r role. done.0.saved script r checked is role first })
      (ready-done script run ns ms checked is (All-tail HasBegun n ns begun) done.1)
