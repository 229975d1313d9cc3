-- No two readers of a stream, nor two replicas, disagree.
use Rattle.std.proofs.Common.{◌≡◌, ℕ, ◌+◌, true, false, cond, List, [], ◌∷◌, ◌++◌, length, refl, sym, subst, ◌∙◌, Option, Some, None, ◌⊎◌, inl, inr}
use Rattle.dpc_lists.specs.Lists.{IsPrefixOf}
use Rattle.dpc_model.specs.Fragments.{ideal}
use Rattle.dpc_model.specs.Reading.{Reader}
use Rattle.dpc_model.specs.Actors.{role_of}
use Rattle.dpc_model.specs.declared.actors.Role.{Role}
use Rattle.dpc_model.specs.declared.actors.Role.TheVariants.{Source as IsSource, Node as IsNode, Client as IsClient, Nobody}
use Rattle.dpc_model.specs.declared.tuples.Tuple.{Tuple}
use Rattle.dpc_model.specs.declared.messages.Event.{Event}
use Rattle.dpc_model.specs.declared.plans.Plan.{Plan}
use Rattle.dpc_model.specs.declared.plans.StreamRef.{StreamRef}
use Rattle.dpc_model.specs.declared.plans.StreamRef.TheVariants.{Frag}
use Rattle.node_model.specs.Nodes.{Home, PlainNode, out_stable}
use Rattle.world_model.specs.Worlds.{World, home_of, slot_of, source_at, run}
use Rattle.law_safety.specs.Plans.{IsPlace, IsCheckedPlan}
use Rattle.law_safety.specs.Holders.{holding}
use Rattle.law_safety.proofs.Frames.{IsGood}
use Rattle.law_safety.proofs.Worlding.{actor-at}
use Rattle.law_safety.proofs.Happening.{IsFine, node-here, source-here}
use Rattle.law_safety.proofs.Law.{run-good}
use Rattle.law_safety.proofs.NodeViews.{shown-view}
use Rattle.law_safety.proofs.Promises.{Holds, holder-holds}
use Rattle.law_sessions.specs.Agreement.{Place, Held, Output, stable_of, node_stable, output_stable, stable_at, NoneDisagree}
use Rattle.law_sessions.proofs.Sources.{source-view}

-- ---- two beginnings of one list

rest-same : (x y : Tuple) (xs ys : List Tuple) → ◌≡◌ {A = List Tuple} (x ∷ xs) (y ∷ ys) → (x ≡ y) × (xs ≡ ys)
rest-same x y xs ys e = (cc, cc)

comparable : (ts us whole : List Tuple) → IsPrefixOf ts whole → IsPrefixOf us whole → IsPrefixOf ts us ⊎ IsPrefixOf us ts
comparable [] us whole p q = inl (us, refl)
comparable (t ∷ ts) [] whole p q = inr (t ∷ ts, refl)
comparable (t ∷ ts) (u ∷ us) whole p q =
    let same = rest-same t u (ts ++ p.0) (us ++ q.0) (sym p.1 ∙ q.1) in
    longer same.0 (comparable ts us (ts ++ p.0) (p.0, refl) (q.0, same.1))
  where
    longer : t ≡ u → IsPrefixOf ts us ⊎ IsPrefixOf us ts → IsPrefixOf (t ∷ ts) (u ∷ us) ⊎ IsPrefixOf (u ∷ us) (t ∷ ts)
    longer e (inl h) = inl (h.0, rw (e, h.1) refl)
    longer e (inr h) = inr (h.0, rw (e, h.1) refl)

-- ---- each list is a beginning of the failure-free stream

-- the tuples that are told are a beginning of their stream
abbrev IsBeginning : Plan → Option (StreamRef × List Tuple) → Type 0
IsBeginning plan None = Unit {0}
IsBeginning plan (Some x) = IsPrefixOf x.1 (ideal plan x.0)

held-beginning : (plan : Plan) (o : Option (StreamRef × Reader)) → Holds plan o → IsBeginning plan (stable_of o)
held-beginning plan None h = tt
held-beginning plan (Some x) h = h.stable

node-beginning : (home : Home) (most : ℕ) (n : PlainNode) → IsPlace home → IsGood home most n → IsBeginning home.plan (node_stable home (Some n))
node-beginning home most n place g =
    (elim n.recovering as (λ b. n.recovering ≡ b → IsBeginning home.plan (cond b None (Some (Frag home.frag, out_stable home n)))) [
      | true ↦ λ e. tt
      | false ↦ λ e. (shown-view home most n place e g).beginning
    ]) refl

output-beginning : (w : World) (most a : ℕ) (role : Role) → role_of w.plan a ≡ role → IsFine w most → IsBeginning w.plan (output_stable w a role)
output-beginning w most a (IsSource s) e fine = (source-view w.plan s (source_at w s) fine.checked.checked (source-here w most s fine)).beginning
output-beginning w most a (IsNode f r) e fine = by-node (slot_of w a).node refl
  where
    by-node : (o : Option PlainNode) → (slot_of w a).node ≡ o → IsBeginning w.plan (node_stable (home_of w.plan (f, r)) o)
    by-node None up = tt
    by-node (Some n) up = node-beginning (home_of w.plan (f, r)) most n (actor-at w.plan a f r fine.checked e).place (node-here w most a f r n fine e up)
output-beginning w most a (IsClient c) e fine = tt
output-beginning w most a Nobody e fine = tt

place-beginning : (w : World) (most : ℕ) (x : Place) → IsFine w most → IsBeginning w.plan (stable_at w x)
place-beginning w most (Held h) fine = held-beginning w.plan (holding w h) (holder-holds w most h fine)
place-beginning w most (Output a) fine = output-beginning w most a (role_of w.plan a) refl fine

-- ---- runs

run-beginning : (plan : Plan) (events : List Event) (x : Place) (s : StreamRef) (ts : List Tuple) → IsCheckedPlan plan → stable_at (run plan events) x ≡ Some (s, ts) → IsPrefixOf ts (ideal plan s)
run-beginning plan events x s ts checked e =
    let g = run-good plan events checked in
    let told = place-beginning (run plan events) (1 + length events) x g.fine in
    subst (λ (p : Plan). IsPrefixOf ts (ideal p s)) g.of_plan (subst (λ (o : Option (StreamRef × List Tuple)). IsBeginning (run plan events).plan o) e told)

pub none-disagree : (plan : Plan) (events others : List Event) → IsCheckedPlan plan → NoneDisagree plan events others
none-disagree plan events others checked x y s ts us e f = comparable ts us (ideal plan s) (run-beginning plan events x s ts checked e) (run-beginning plan others y s us checked f)
