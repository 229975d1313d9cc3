-- What comes from a sender that a port names is of the port's stream.
use Rattle.std.proofs.Common.{◌≡◌, ℕ, suc, ◌+◌, ◌-◌, ◌≤◌, Bool, true, false, cond, ◌==◌, nat_eq, List, [], ◌∷◌, map, refl, arith, Option, Some, None}
use Rattle.std.proofs.lemmas.Grind.{common_steps}
use Rattle.std.specs.List.{filter, enumerate_from}
use Rattle.dpc_lists.specs.Lists.{nth, place_of}
use Rattle.dpc_model.specs.Actors.{role_of, roles_of, sends_stream, senders_of}
use Rattle.dpc_model.specs.declared.actors.Role.{Role}
use Rattle.dpc_model.specs.declared.actors.Role.TheVariants.{Source as IsSource, Node as IsNode, Client as IsClient, Nobody}
use Rattle.dpc_model.specs.declared.tuples.Item.{Item}
use Rattle.dpc_model.specs.declared.messages.Sess.{Sess}
use Rattle.dpc_model.specs.declared.messages.Message.TheVariants as message
use Rattle.dpc_model.specs.declared.plans.Plan.{Plan}
use Rattle.dpc_model.specs.declared.plans.StreamRef.{StreamRef}
use Rattle.dpc_model.specs.declared.plans.StreamRef.TheVariants.{Source, Frag}
use Rattle.dpc_model.proofs.Alike.{same_stream-eq}
use Rattle.dpc_model.proofs.Roles.{numbers_where}
use Rattle.node_model.specs.Mails.{Plain}
use Rattle.world_model.specs.Safe.{AreTrueItems, IsTruePacket}

-- the role of an actor behind the first
behind : (k a : ℕ) (role : Role) (roles : List Role) → k + 1 ≤ a → nth Nobody (role ∷ roles) (a - k) ≡ nth Nobody roles (a - (k + 1))
behind k a role roles h = let one : a - k ≡ suc (a - (k + 1)) = omega arith in rw one refl

-- a number that is found behind the first is found
found_behind : (a k r : ℕ) (ns : List ℕ) → nat_eq a k ≡ false → place_of (λ b. a == b) (k ∷ ns) ≡ Some r → (q : ℕ) × (place_of (λ b. a == b) ns ≡ Some q)
found_behind a k r ns h e =
    (elim (place_of (λ b. a == b) ns) as (λ o. place_of (λ b. a == b) ns ≡ o → cond (nat_eq a k) (Some 0) (elim o [ None ↦ None | Some i ↦ Some (suc i) ]) ≡ Some r → (q : ℕ) × (o ≡ Some q)) [
      | None ↦ λ f g. let no : cond {A = Option ℕ} (nat_eq a k) (Some 0) None ≡ None = rw h refl in absurd (cc)
      | Some i ↦ λ f g. (i, refl)
    ]) refl e

-- one of them passes it
pub found_passes : (test : Role → Bool) (k a r : ℕ) (roles : List Role) → place_of (λ b. a == b) (numbers_where test k roles) ≡ Some r →
    (k ≤ a) × (test (nth Nobody roles (a - k)) ≡ true)
found_passes test k a r [] e = cc
found_passes test k a r (role ∷ roles) e =
    let rest = filter (λ (x : ℕ × Role). test x.1) (enumerate_from (k + 1) roles) in
    (elim (test role) as (λ c. test role ≡ c → place_of (λ b. a == b) (map (λ (x : ℕ × Role). x.0) (cond c ((k, role) ∷ rest) rest)) ≡ Some r →
    (k ≤ a) × (test (nth Nobody (role ∷ roles) (a - k)) ≡ true)) [
      | true ↦ λ f. (elim (nat_eq a k) as (λ c. nat_eq a k ≡ c → place_of (λ b. a == b) (k ∷ map (λ (x : ℕ × Role). x.0) rest) ≡ Some r → (k ≤ a) × (test (nth Nobody (role ∷ roles) (a - k)) ≡ true)) [
        | true ↦ λ h g. let same : a ≡ k = grind (arith, common_steps) in let none : a - k ≡ 0 = omega arith in (omega arith, rw none f)
        | false ↦ λ h g.
            let found = found_behind a k r (map (λ (x : ℕ × Role). x.0) rest) h g in
            let p = found_passes test (k + 1) a found.0 roles found.1 in
            (omega (arith, p.0), rw (behind k a role roles p.0) p.1)
      ]) refl
      | false ↦ λ f g.
          let p = found_passes test (k + 1) a r roles g in
          (omega (arith, p.0), rw (behind k a role roles p.0) p.1)
    ]) refl e

-- a sender of a stream
pub sender_sends : (plan : Plan) (s : StreamRef) (a r : ℕ) → place_of (λ b. a == b) (senders_of plan s) ≡ Some r → sends_stream s (role_of plan a) ≡ true
sender_sends plan s a r e = let zero_off : a - 0 ≡ a = omega arith in (rw zero_off at (found_passes (sends_stream s) 0 a r (roles_of plan) e).1)

-- true packets of it carry true items of the stream
pub role_items : (plan : Plan) (s : StreamRef) (role : Role) (u : Sess) (index : ℕ) (items : List Item) → sends_stream s role ≡ true →
    IsTruePacket plan role (Plain (message.Batch u index items)) → AreTrueItems plan s items
role_items plan s (IsSource v) u index items e h = rw (same_stream-eq s (Source v) e) h
role_items plan s (IsNode f r) u index items e h = rw (same_stream-eq s (Frag f) e) h
role_items plan s (IsClient c) u index items e h = cc
role_items plan s Nobody u index items e h = cc

-- a batch that comes to a port
pub batch_items : (plan : Plan) (s : StreamRef) (a r : ℕ) (u : Sess) (index : ℕ) (items : List Item) → place_of (λ b. a == b) (senders_of plan s) ≡ Some r →
    IsTruePacket plan (role_of plan a) (Plain (message.Batch u index items)) → AreTrueItems plan s items
batch_items plan s a r u index items e h = role_items plan s (role_of plan a) u index items (sender_sends plan s a r e) h
