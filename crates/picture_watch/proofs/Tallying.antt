-- What clients took is counted while it grows.
use Rattle.std.proofs.Common.{◌≡◌, ℕ, zero, suc, ◌+◌, ◌-◌, ◌≤◌, cond, Bool, List, [], ◌∷◌, ◌++◌, map, length, take, drop, min, refl, sym, ap, subst, ◌∙◌, arith, Some, slice_get, unwrap_or}
use Rattle.std.specs.Prelude.{replicate}
use Rattle.std.specs.List.{count_by}
use Rattle.std.proofs.lemmas.List.{map-append, length-append, take-append-drop, take-append-le, take_all, length-map}
use Rattle.std.proofs.lemmas.List.Sums.{sum_by-append}
use Rattle.std.proofs.Math.Seq.{take-length}
use Rattle.dpc_lists.specs.Lists.{nth, changed}
use Rattle.dpc_model.specs.declared.messages.Event.{Event}
use Rattle.dpc_model.specs.declared.plans.Plan.{Plan}
use Rattle.dpc_model.specs.declared.tuples.Item.{Item}
use Rattle.node_model.specs.Clients.{ClientState, new_client}
use Rattle.client_fold.specs.Folding.{ClientValue, StandsForClient, StandForClients, all_taken}
use Rattle.world_parts.proofs.ClientPlaces.{client-count, client-stands}
use Rattle.world_model.specs.Worlds.{World, client_at, happens}
use Rattle.law_session_origins.specs.Standing.{takes}
use Rattle.law_journals.proofs.Items.{takes-more}
use Rattle.picture_model.specs.Points.{is_undo, is_done, client_point}
use Rattle.picture_watch.specs.Tallies.{first_tally, tally_of, tally_by, IsTally, counted_in, AreTallied, AreSeen}
use Rattle.picture_model.specs.declared.columns.ClientPoint.{ClientPoint}
use Rattle.picture_watch.specs.declared.clients.Seen.{Seen}
use Rattle.picture_watch.specs.declared.tallies.Tally.{Tally}

-- ---- counts

count-both : (p : Item → Bool) (xs ys : List Item) → count_by p (xs ++ ys) ≡ count_by p xs + count_by p ys
count-both p xs ys = sum_by-append (λ x. cond (p x) 1 0) xs ys

-- more items, in two parts
pub counted-both : (t : Tally) (xs ys : List Item) → counted_in t (xs ++ ys) ≡ counted_in (counted_in t xs) ys
counted-both t xs ys =
    let u : t.undos + count_by is_undo (xs ++ ys) ≡ t.undos + count_by is_undo xs + count_by is_undo ys = (let both = count-both is_undo xs ys in omega (arith, both)) in
    let d : t.dones + count_by is_done (xs ++ ys) ≡ t.dones + count_by is_done xs + count_by is_done ys = (let both = count-both is_done xs ys in omega (arith, both)) in
    ap (λ (n : ℕ). record t { undos = n; dones = t.dones + count_by is_done (xs ++ ys) }) u
    ∙ ap (λ (n : ℕ). record t { undos = t.undos + count_by is_undo xs + count_by is_undo ys; dones = n }) d

pub counted-none : (t : Tally) → counted_in t [] ≡ t
counted-none t =
    let u : t.undos + 0 ≡ t.undos = omega arith in
    let d : t.dones + 0 ≡ t.dones = omega arith in
    ap (λ (n : ℕ). record t { undos = n; dones = t.dones + 0 }) u ∙ ap (λ (n : ℕ). record t { undos = t.undos; dones = n }) d

-- ---- batches

-- what is left of one batch and of those behind it
pub drop-parts : (s : ℕ) (xs ys : List Item) → drop s (xs ++ ys) ≡ drop (min s (length xs)) xs ++ drop (s - min s (length xs)) ys
drop-parts s [] ys =
    let none : min s 0 ≡ 0 = omega arith in
    let all : s - 0 ≡ s = omega arith in rw (none, all) refl
drop-parts zero (x ∷ xs) ys = let none : min 0 (suc (length xs)) ≡ 0 = omega arith in rw none refl
drop-parts (suc s) (x ∷ xs) ys =
    let fewer : min (suc s) (suc (length xs)) ≡ suc (min s (length xs)) = omega arith in
    let left : suc s - suc (min s (length xs)) ≡ s - min s (length xs) = omega arith in rw (fewer, left) (drop-parts s xs ys)

drop-got : {X : Type 0} (xs : List X) (i : ℕ) (x : X) → slice_get xs i ≡ Some x → drop i xs ≡ x ∷ drop (suc i) xs
drop-got [] i x e = cc
drop-got (y ∷ xs) zero x e = let same : y ≡ x = cc in ap (λ z. z ∷ xs) same
drop-got (y ∷ xs) (suc i) x e = drop-got xs i x e

-- one batch is counted, but the items that are skipped
pub batch-counted : (t u : Tally) (s k i j : ℕ) (bs : List (List Item)) (b items : List Item) → slice_get bs i ≡ Some b → k ≡ min s (length b) → items ≡ drop k b → u ≡ counted_in t items → j ≡ suc i →
    counted_in u (drop (s - k) (all_taken (drop j bs))) ≡ counted_in t (drop s (all_taken (drop i bs)))
batch-counted t u s k i j bs b items at many is counted next =
    let m = min s (length b) in
    let rest = all_taken (drop (suc i) bs) in
    rw (counted, is, many, next)
    (sym (counted-both t (drop m b) (drop (s - m) rest)) ∙ ap (λ xs. counted_in t xs) (sym (drop-parts s b rest)) ∙ ap (λ xs. counted_in t (drop s (all_taken xs))) (sym (drop-got bs i b at)))

-- ---- the tally of first items

pub tally-grows : (t : Tally) (items more : List Item) → IsTally t items → IsTally t (items ++ more)
tally-grows t items more h =
    record {
      within = (let many = length-append items more in let low = h.within in omega (arith, many, low));
      first = h.first ∙ ap tally_of (sym (take-append-le t.mark items more h.within));
    }

pub tally-whole : (items : List Item) → IsTally (tally_of items) items
tally-whole items = record { within = omega arith; first = ap tally_of (sym (take-length items)) }

pub tally-none : (items : List Item) → IsTally first_tally items
tally-none items = record { within = omega arith; first = refl }

-- all were looked at
pub tally-done : (t : Tally) (items : List Item) → length items ≤ t.mark → IsTally t items → t ≡ tally_of items
tally-done t items past h = h.first ∙ ap tally_of (take_all t.mark items past)

-- the rest is counted
pub tally-renewed : (t : Tally) (items : List Item) → IsTally t items →
    record (counted_in t (drop t.mark items)) { mark = length items } ≡ tally_of items
tally-renewed t items h =
    let first = take t.mark items in
    let rest = drop t.mark items in
    let undos : t.undos ≡ count_by is_undo first = ap (λ (x : Tally). x.undos) h.first in
    let dones : t.dones ≡ count_by is_done first = ap (λ (x : Tally). x.dones) h.first in
    let whole : first ++ rest ≡ items = take-append-drop t.mark items in
    let all_undos : t.undos + count_by is_undo rest ≡ count_by is_undo items = ap (λ (n : ℕ). n + count_by is_undo rest) undos ∙ sym (count-both is_undo first rest) ∙ ap (count_by is_undo) whole in
    let all_dones : t.dones + count_by is_done rest ≡ count_by is_done items = ap (λ (n : ℕ). n + count_by is_done rest) dones ∙ sym (count-both is_done first rest) ∙ ap (count_by is_done) whole in
    ap (λ (n : ℕ). record (tally_of items) { undos = n; dones = t.dones + count_by is_done rest }) all_undos
    ∙ ap (λ (n : ℕ). record (tally_of items) { dones = n }) all_dones

-- so where the code counted it
pub renewed-is : (t u : Tally) (items rest : List Item) (n : ℕ) → IsTally t items → rest ≡ drop t.mark items → u ≡ counted_in t rest → n ≡ length items →
    record { mark = n; undos = u.undos; dones = u.dones } ≡ tally_of items
renewed-is t u items rest n h behind counted many =
    let f : ℕ → Tally → Tally = λ m x. record { mark = m; undos = x.undos; dones = x.dones } in
    ap (λ m. f m u) many ∙ ap (λ x. f (length items) x) (counted ∙ ap (λ xs. counted_in t xs) behind) ∙ tally-renewed t items h

-- ---- all clients

nth-got : {X : Type 0} (d x : X) (i : ℕ) (xs : List X) → slice_get xs i ≡ Some x → nth d xs i ≡ x
nth-got d x i xs e = ap (λ o. unwrap_or o d) e

pub get-map-got : {X Y : Type 0} (f : X → Y) (xs : List X) (i : ℕ) (y : Y) → slice_get (map f xs) i ≡ Some y → (x : X) × (slice_get xs i ≡ Some x) × (f x ≡ y)
get-map-got f [] i y e = cc
get-map-got f (x ∷ xs) zero y e = (x, refl, cc)
get-map-got f (x ∷ xs) (suc i) y e = get-map-got f xs i y e

pub get-copies : {X : Type 0} (x y : X) (n i : ℕ) → slice_get (replicate n x) i ≡ Some y → x ≡ y
get-copies x y zero i e = cc
get-copies x y (suc n) zero e = cc
get-copies x y (suc n) (suc i) e = get-copies x y n i e

pub length-copies : {X : Type 0} (x : X) (n : ℕ) → length (replicate n x) ≡ n
length-copies x zero = refl
length-copies x (suc n) = ap suc (length-copies x n)

pub map-copies : {X Y : Type 0} (y : Y) (xs : List X) → map (λ (x : X). y) xs ≡ replicate (length xs) y
map-copies y [] = refl
map-copies y (x ∷ xs) = ap (λ ys. y ∷ ys) (map-copies y xs)

pub take-got : {X : Type 0} (xs : List X) (i : ℕ) (x : X) → slice_get xs i ≡ Some x → take (suc i) xs ≡ take i xs ++ x ∷ []
take-got [] i x e = cc
take-got (y ∷ xs) zero x e = let same : y ≡ x = cc in ap (λ z. z ∷ []) same
take-got (y ∷ xs) (suc i) x e = ap (λ zs. y ∷ zs) (take-got xs i x e)

-- an event leaves the tallies
pub tallied-next : (plan : Plan) (w : World) (e : Event) (ts : List Tally) → AreTallied plan w ts → AreTallied plan (happens w e) ts
tallied-next plan w e ts h =
    record {
      count = h.count;
      each = λ c t there. subst (λ (items : List Item). IsTally t items) (sym (takes-more w e c)) (tally-grows t (client_at w c).taken (takes w e c) (h.each c t there));
    }

-- before the first event
pub tallied-first : (plan : Plan) (w : World) (ts : List Tally) → ts ≡ replicate (length plan.clients) first_tally → AreTallied plan w ts
tallied-first plan w ts is =
    record {
      count = ap (λ (us : List Tally). length us) is ∙ length-copies first_tally (length plan.clients);
      each = λ c t there.
          let same : first_tally ≡ t = get-copies first_tally t (length plan.clients) c (subst (λ (us : List Tally). slice_get us c ≡ Some t) is there) in
          subst (λ (u : Tally). IsTally u (client_at w c).taken) same (tally-none (client_at w c).taken);
    }

-- all clients were looked at
pub tallied-whole : (plan : Plan) (w : World) (vs : List ClientValue) (ts : List Tally) → StandForClients plan 0 vs w.clients → length vs ≡ length w.clients → ts ≡ map tally_by w.clients → AreTallied plan w ts
tallied-whole plan w vs ts stand both is =
    let many = client-count plan 0 vs w.clients stand in
    record {
      count = (let mapped : length ts ≡ length w.clients = ap (λ (us : List Tally). length us) is ∙ length-map w.clients tally_by in omega (arith, many, both, mapped));
      each = λ c t there.
          let got = get-map-got tally_by w.clients c t (subst (λ (us : List Tally). slice_get us c ≡ Some t) is there) in
          let here : client_at w c ≡ got.0 = nth-got (new_client w.plan c) got.0 c w.clients got.1 in
          subst (λ (x : ClientState). IsTally t x.taken) (sym here) (subst (λ (u : Tally). IsTally u got.0.taken) got.2 (tally-whole got.0.taken));
    }

pub stand-both : (plan : Plan) (c : ℕ) (vs : List ClientValue) (xs : List ClientState) → StandForClients plan c vs xs → length vs ≡ length xs
stand-both plan c [] [] h = refl
stand-both plan c [] (x ∷ xs) h = absurd h
stand-both plan c (v ∷ vs) [] h = absurd h
stand-both plan c (v ∷ vs) (x ∷ xs) h = ap suc (stand-both plan (c + 1) vs xs h.1)

-- ---- a place that is not there

pub changed-none : {X : Type 0} (xs : List X) (i : ℕ) (f : X → X) → length xs ≤ i → changed i f xs ≡ xs
changed-none [] i f past = refl
changed-none (x ∷ xs) zero f past = absurd (omega (arith, past))
changed-none (x ∷ xs) (suc i) f past = ap (λ ys. x ∷ ys) (changed-none xs i f (omega (arith, past)))

-- ---- what is shown of one client more

module _ (plan : Plan) (w : World) (vs : List ClientValue) (ts : List Tally) (i : ℕ) (v : ClientValue) (t u : Tally) (point : ClientPoint)
    (stand : StandForClients plan 0 vs w.clients) (tallied : AreTallied plan w ts) (here : slice_get vs i ≡ Some v) (its : slice_get ts i ≡ Some t)
    (renewed : IsTally t v.taken → u ≡ tally_of v.taken) (shown : (plan : Plan) (c : ℕ) (x : ClientState) → StandsForClient plan c v x → u ≡ tally_of x.taken → point ≡ client_point plan x) where
  plain : (x : ClientState) × (slice_get w.clients i ≡ Some x) × StandsForClient plan (0 + i) v x
  plain = client-stands plan 0 i vs w.clients v stand here

  its-tally : u ≡ tally_of plain.0.taken
  its-tally =
      let x = plain.0 in
      let same : client_at w i ≡ x = nth-got (new_client w.plan i) x i w.clients plain.1 in
      let taken : (client_at w i).taken ≡ v.taken = ap (λ (y : ClientState). y.taken) same ∙ sym plain.2.taken in
      renewed (subst (λ (items : List Item). IsTally t items) taken (tallied.each i t its)) ∙ ap tally_of plain.2.taken

  more : {X : Type 0} (f : ClientState → X) (xs : List X) (y : X) → xs ≡ map f (take i w.clients) → y ≡ f plain.0 → xs ++ y ∷ [] ≡ map f (take (i + 1) w.clients)
  more {X} f xs y old is =
      let next : i + 1 ≡ suc i = omega arith in
      ap (λ (zs : List X). zs ++ y ∷ []) old ∙ ap (λ z. map f (take i w.clients) ++ z ∷ []) is ∙ sym (map-append f (take i w.clients) (plain.0 ∷ []))
      ∙ ap (map f) (sym (take-got w.clients i plain.0 plain.1)) ∙ ap (λ n. map f (take n w.clients)) (sym next)

  pub points-more : (xs : List ClientPoint) → xs ≡ map (client_point plan) (take i w.clients) → xs ++ point ∷ [] ≡ map (client_point plan) (take (i + 1) w.clients)
  points-more xs old = more (client_point plan) xs point old (shown plan (0 + i) plain.0 plain.2 its-tally)

  pub tallies-more : (xs : List Tally) → xs ≡ map tally_by (take i w.clients) → xs ++ u ∷ [] ≡ map tally_by (take (i + 1) w.clients)
  tallies-more xs old = more tally_by xs u old its-tally

-- all were looked at
pub all-seen : (plan : Plan) (w : World) (vs : List ClientValue) (ts : List Tally) (i : ℕ) (seen : Seen) → StandForClients plan 0 vs w.clients → AreTallied plan w ts → min (length vs) (length ts) ≤ i →
    seen.points.items ≡ map (client_point plan) (take i w.clients) → seen.tallies.items ≡ map tally_by (take i w.clients) → AreSeen plan w seen
all-seen plan w vs ts i seen stand tallied past points tallies =
    let many = client-count plan 0 vs w.clients stand in
    let both = stand-both plan 0 vs w.clients stand in
    let count = tallied.count in
    let whole = take_all i w.clients (omega (arith, many, both, count, past)) in
    record { points = points ∙ ap (map (client_point plan)) whole; tallies = tallies ∙ ap (map tally_by) whole }
