-- Whether every client is settled.
use Rattle.std.proofs.Common.{◌≡◌, ℕ, suc, ◌+◌, ◌≤◌, Bool, true, false, not, ◌||◌, List, [], ◌∷◌, length, take, get_or, refl, sym, ap, subst, ◌∙◌, arith, Some, slice_get}
use Rattle.std.proofs.lemmas.List.{take_all}
use Rattle.std.proofs.lemmas.List.Folds.{list_any_more, list_any_at}
use Rattle.std.proofs.lemmas.Option.{get_or_from_slice_get, slice_get_within}
use Rattle.dpc_lists.specs.Lists.{list_any}
use Rattle.dpc_model.specs.declared.plans.Plan.{Plan}
use Rattle.node_model.specs.Clients.{ClientState, client_settled}
use Rattle.client_fold.specs.Folding.{ClientValue, StandsForClient, StandForClients}
use Rattle.world_model.specs.Worlds.{World, all_settled}
use Rattle.world_parts.specs.Parts.{WorldPartsValue, StandsForWorld}
use Rattle.world_parts.proofs.ClientPlaces.{client-stands}

-- as one of them tells of itself
abbrev pub Tells : ClientValue → Bool → Type 0
Tells client b = (plan : Plan) (c : ℕ) (y : ClientState) → StandsForClient plan c client y → b ≡ client_settled plan y

pub one_told :
    (plan : Plan) (v : WorldPartsValue) (x : World) (i : ℕ) (client : ClientValue) (b : Bool) → StandsForWorld plan v x → slice_get v.clients i ≡ Some client → Tells client b →
    (y : ClientState) × (slice_get x.clients i ≡ Some y) × (client_settled x.plan y ≡ b)
one_told plan v x i client b h at tells =
    let found = client-stands plan 0 i v.clients x.clients client h.clients at in
    (found.0, found.1, ap (λ (p : Plan). client_settled p found.0) h.plan_is ∙ sym (tells plan (0 + i) found.0 found.2))

pub one_waits : (plan : Plan) (v : WorldPartsValue) (x : World) (i : ℕ) (client : ClientValue) (b : Bool) → StandsForWorld plan v x → slice_get v.clients i ≡ Some client → Tells client b → b ≡ false → false ≡ all_settled x
one_waits plan v x i client b h at tells is =
    let found = one_told plan v x i client b h at tells in
    let y = found.0 in
    let test = λ (z : ClientState). not (client_settled x.plan z) in
    let here : test y ≡ true = ap not (found.2 ∙ is) in
    let any : list_any test x.clients ≡ true =
    list_any_at test x.clients i y (slice_get_within x.clients i y found.1) (ap test (get_or_from_slice_get x.clients i y y found.1) ∙ here) in
    sym (ap not any)

pub one_more :
    (plan : Plan) (v : WorldPartsValue) (x : World) (i : ℕ) (client : ClientValue) (b : Bool) → StandsForWorld plan v x → slice_get v.clients i ≡ Some client → Tells client b → b ≡ true →
    list_any (λ (y : ClientState). not (client_settled x.plan y)) (take i x.clients) ≡ false → list_any (λ (y : ClientState). not (client_settled x.plan y)) (take (i + 1) x.clients) ≡ false
one_more plan v x i client b h at tells is before =
    let found = one_told plan v x i client b h at tells in
    let y = found.0 in
    let test = λ (z : ClientState). not (client_settled x.plan z) in
    let here : test y ≡ false = ap not (found.2 ∙ is) in
    let last : test (get_or x.clients i y) ≡ false = ap test (get_or_from_slice_get x.clients i y y found.1) ∙ here in
    list_any_more test x.clients i y (slice_get_within x.clients i y found.1) ∙ ap (λ (c : Bool). c || test (get_or x.clients i y)) before ∙ last

pub all_told :
    (plan : Plan) (v : WorldPartsValue) (x : World) (n : ℕ) → StandsForWorld plan v x → length v.clients ≤ n → list_any (λ (y : ClientState). not (client_settled x.plan y)) (take n x.clients) ≡ false → true ≡ all_settled x
all_told plan v x n h all before =
    let test = λ (z : ClientState). not (client_settled x.plan z) in
    let many : length x.clients ≤ n = let same = lengths plan 0 v.clients x.clients h.clients in omega (arith, same, all) in
    let any : list_any test x.clients ≡ false = subst (λ (ys : List ClientState). list_any test ys ≡ false) (take_all n x.clients many) before in
    sym (ap not any)
  where
    lengths : (plan : Plan) (c : ℕ) (vs : List ClientValue) (xs : List ClientState) → StandForClients plan c vs xs → length vs ≡ length xs
    lengths plan c [] [] h = refl
    lengths plan c [] (x ∷ xs) h = absurd h
    lengths plan c (v ∷ vs) [] h = absurd h
    lengths plan c (v ∷ vs) (x ∷ xs) h = ap suc (lengths plan (c + 1) vs xs h.1)
