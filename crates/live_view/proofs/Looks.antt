-- What is shown, as a look.
use Rattle.std.proofs.Common.{◌≡◌, ℕ, zero, suc, [], ◌∷◌, refl, ◌++◌, ◌≤◌, List, Option, Some, None, IsSome, IfSome, unwrap_or, length, take, drop, sym, subst, ap, ◌∙◌, arith}
use Rattle.std.proofs.Math.Seq.{take-append_seam}
use Rattle.std.proofs.lemmas.List.{length-append, take-append-drop, take-take}
use Rattle.dpc_lists.specs.Lists.{IsPrefixOf}
use Rattle.dpc_model.specs.Fragments.{ideal}
use Rattle.dpc_model.specs.declared.plans.Plan.{Plan}
use Rattle.dpc_model.specs.declared.tuples.Tuple.{Tuple}
use Rattle.node_model.specs.Clients.{client_stream}
use Rattle.live_view.specs.Showing.{IsTrueShown, sight_of, Precedes}
use Rattle.live_view.specs.Looking.{IsLook}
use Rattle.live_view.specs.declared.shown.Shown.{Shown}
use Rattle.live_view.specs.declared.sight.Sight.{Sight}

pub prefix-take : {X : Type 0} (xs ys : List X) → IsPrefixOf xs ys → take (length xs) ys ≡ xs
prefix-take xs ys p = ap (take (length xs)) p.1 ∙ take-append_seam xs p.0

pub prefix-length : {X : Type 0} (xs ys : List X) → IsPrefixOf xs ys → length xs ≤ length ys
prefix-length xs ys p = rw p.1 (omega (arith, length-append xs p.0))

same_client : (o : Option ℕ) (c : ℕ) → IsSome o → IfSome o (λ d. Some c ≡ Some d) → c ≡ unwrap_or o 0
same_client (Some d) c some e = cc
same_client None c some e = absurd (cc)

look_of : (plan : Plan) (x : Shown) (c from : ℕ) → x.client ≡ c → IsTrueShown plan x → IsLook plan c from (length x.tuples) x.bound (drop from x.tuples)
look_of plan x c from e h =
    subst (λ d. IsLook plan d from (length x.tuples) x.bound (drop from x.tuples)) e
    (record {
      within = prefix-length x.tuples (ideal plan (client_stream plan x.client)) h.0;
      whole = h.1;
      shown = ap (drop from) (sym (prefix-take x.tuples (ideal plan (client_stream plan x.client)) h.0));
    })

-- a look after what v had seen is at the same client
pub is_look : (plan : Plan) (v : Sight) (x : Shown) (from count bound : ℕ) (tuples : List Tuple) → IsSome v.client → IsTrueShown plan x → Precedes v (sight_of x)
    → (count ≡ length x.tuples) × (bound ≡ x.bound) × (tuples ≡ drop from x.tuples) → IsLook plan (unwrap_or v.client 0) from count bound tuples
is_look plan v x from count bound tuples some h p e =
    rw (e.0, e.1, e.2) (look_of plan x (unwrap_or v.client 0) from (same_client v.client x.client some p.0) h)

drop-prefix : {X : Type 0} (n : ℕ) (xs ys : List X) → IsPrefixOf xs ys → IsPrefixOf (drop n xs) (drop n ys)
drop-prefix zero xs ys p = p
drop-prefix (suc n) [] ys p = (drop (suc n) ys, refl)
drop-prefix (suc n) (x ∷ xs) ys p = subst (λ l. IsPrefixOf (drop n xs) (drop (suc n) l)) (sym p.1) (drop-prefix n xs (xs ++ p.0) (p.0, refl))

take-prefix : {X : Type 0} (n m : ℕ) (xs : List X) → n ≤ m → IsPrefixOf (take n xs) (take m xs)
take-prefix n m xs h = (drop n (take m xs), sym (take-append-drop n (take m xs)) ∙ ap (λ l. l ++ drop n (take m xs)) (take-take n m xs h))

-- of two looks from one number, the one that counts no more begins the other
pub look-prefix : (plan : Plan) (c from count bound more later : ℕ) (xs ys : List Tuple) → IsLook plan c from count bound xs → IsLook plan c from more later ys → count ≤ more
    → IsPrefixOf xs ys
look-prefix plan c from count bound more later xs ys l m h =
    let all = ideal plan (client_stream plan c) in rw (l.shown, m.shown) (drop-prefix from (take count all) (take more all) (take-prefix count more all h))
