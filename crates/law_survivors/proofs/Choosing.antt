-- A replica of each fragment that a script never crashes, where it keeps one of each.
use Rattle.std.proofs.Common.{◌≡◌, ℕ, ◌+◌, ◌<◌, Bool, true, false, ◌||◌, List, [], ◌∷◌, length, refl, sym, ap, ◌∙◌, zero-le, arith}
use Rattle.dpc_lists.specs.Lists.{list_any, list_all}
use Rattle.dpc_lists.proofs.Truths.{both, eq-of, in-range}
use Rattle.dpc_model.specs.Actors.{role_of, replicas_of, is_replica_of}
use Rattle.dpc_model.specs.declared.actors.Role.{Role}
use Rattle.dpc_model.specs.declared.actors.Role.TheVariants.{Source as IsSource, Node as IsNode, Client as IsClient, Nobody}
use Rattle.dpc_model.specs.declared.scripts.Script.{Script}
use Rattle.law_safety.proofs.Numbering.{actors-pass}
use Rattle.law_survivors.specs.Spared.{is_spared, keeps_one}

-- one of those of whom another thing holds of each
some-of : (p q : ℕ → Bool) (xs : List ℕ) → list_any p xs ≡ true → list_all q xs ≡ true → (x : ℕ) × (p x ≡ true) × (q x ≡ true)
some-of p q [] any all = absurd (cc)
some-of p q (x ∷ xs) any all =
    let each = both (q x) (list_all q xs) all in
    (elim (p x) as (λ b. p x ≡ b → (y : ℕ) × (p y ≡ true) × (q y ≡ true)) [
      | true ↦ λ e. (x, e, each.0)
      | false ↦ λ e. some-of p q xs (sym (ap (λ b. b || list_any p xs) e) ∙ any) each.1
    ]) refl

replica-of : (f : ℕ) (role : Role) → is_replica_of f role ≡ true → (r : ℕ) × (role ≡ IsNode f r)
replica-of f (IsSource s) e = absurd (cc)
replica-of f (IsNode g r) e = (r, ap (λ k. IsNode k r) (sym (eq-of f g e)))
replica-of f (IsClient c) e = absurd (cc)
replica-of f Nobody e = absurd (cc)

pub spared-of : (script : Script) → keeps_one script ≡ true → (f : ℕ) → f < length script.plan.frags → (x : ℕ) × (r : ℕ) × (role_of script.plan x ≡ IsNode f r) × (is_spared script x ≡ true)
spared-of script keeps f low =
    let n = length script.plan.frags in
    let upto : f < 0 + n = omega (arith, low) in
    let any = in-range (λ g. list_any (is_spared script) (replicas_of script.plan g)) 0 n f keeps zero-le upto in
    let found = some-of (is_spared script) (λ a. is_replica_of f (role_of script.plan a)) (replicas_of script.plan f) any (actors-pass (is_replica_of f) script.plan) in
    let role = replica-of f (role_of script.plan found.0) found.2 in
    (found.0, role.0, role.1, found.1)
