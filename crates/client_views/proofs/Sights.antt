-- What readers saw, one client and one reader after the other.
use Rattle.std.proofs.Common.{◌≡◌, ℕ, zero, suc, ◌+◌, ◌-◌, ◌≤◌, List, [], ◌∷◌, ◌++◌, Some, length, take, slice_get, refl, sym, ap, ◌∙◌, subst, arith}
use Rattle.std.proofs.lemmas.List.{append-nil, append_assoc}
use Rattle.dpc_model.specs.Fragments.{ideal, ideal_upto}
use Rattle.dpc_model.specs.declared.plans.Plan.{Plan}
use Rattle.node_model.specs.Clients.{ClientState, client_stream}
use Rattle.client_fold.specs.Folding.{ClientValue, StandsForClient, StandForClients}
use Rattle.world_parts.proofs.ClientPlaces.{client-stands}
use Rattle.client_views.specs.declared.watched.Watched.{Watched}
use Rattle.client_views.specs.Watching.{IsWatched, AreWatchedBy, AreWatchedFrom, AreWatched}

-- there are as many plain clients
pub same-count : (plan : Plan) (c : ℕ) (vs : List ClientValue) (xs : List ClientState) → StandForClients plan c vs xs → length vs ≡ length xs
same-count plan c [] [] h = refl
same-count plan c [] (x ∷ xs) h = absurd h
same-count plan c (v ∷ vs) [] h = absurd h
same-count plan c (v ∷ vs) (x ∷ xs) h = ap suc (same-count plan (c + 1) vs xs h.1)

is-watched : (plan : Plan) (c : ℕ) (v : ClientValue) (x : ClientState) (w : Watched) → StandsForClient plan c v x → w.count ≤ length (ideal plan (client_stream plan w.client))
    → length (ideal_upto plan (client_stream plan w.client) w.bound) ≤ w.count → v.inlet.count ≤ w.count → v.inlet.state.held.bound ≤ w.bound → IsWatched plan x w
is-watched plan c v x w h within whole count bound =
    let kept = h.inlet.1 in
    record {
      within = within;
      whole = whole;
      count = subst (λ n. n ≤ w.count) kept.count count;
      bound = subst (λ n. n ≤ w.bound) (ap (λ s. s.held.bound) kept.rest) bound;
    }

-- one client more
by-more : (plan : Plan) (reader c : ℕ) (xs : List ClientState) (ws : List Watched) (x : ClientState) (w : Watched) → AreWatchedBy plan reader c xs ws → w.reader ≡ reader → w.client ≡ c + length xs
    → IsWatched plan x w → AreWatchedBy plan reader c (xs ++ x ∷ []) (ws ++ w ∷ [])
by-more plan reader c [] [] x w h r k is = let here : c + 0 ≡ c = omega arith in (r, k ∙ here, is, tt)
by-more plan reader c [] (v ∷ ws) x w h r k is = absurd h
by-more plan reader c (y ∷ xs) [] x w h r k is = absurd h
by-more plan reader c (y ∷ xs) (v ∷ ws) x w h r k is =
    let next : c + length (y ∷ xs) ≡ c + 1 + length xs = omega arith in (h.0, h.1, h.2, by-more plan reader (c + 1) xs ws x w h.3 r (k ∙ next) is)

take-more : {X : Type 0} (xs : List X) (i : ℕ) (x : X) → slice_get xs i ≡ Some x → (take (suc i) xs ≡ take i xs ++ x ∷ []) × (length (take i xs) ≡ i)
take-more [] i x e = absurd (cc)
take-more (y ∷ xs) zero x e = let same : y ≡ x = cc in (ap (λ z. z ∷ []) same, refl)
take-more (y ∷ xs) (suc i) x e = let r = take-more xs i x e in (ap (λ l. y ∷ l) r.0, ap suc r.1)

-- what was seen of the first so many clients
abbrev pub AreSeen : Plan → ℕ → List ClientValue → ℕ → List Watched → Type 0
AreSeen plan reader vs n ws = (xs : List ClientState) → StandForClients plan 0 vs xs → AreWatchedBy plan reader 0 (take n xs) ws

pub seen-none : (plan : Plan) (reader : ℕ) (vs : List ClientValue) → AreSeen plan reader vs 0 []
seen-none plan reader vs xs h = tt

pub seen-more : (plan : Plan) (reader : ℕ) (vs : List ClientValue) (n : ℕ) (ws : List Watched) (v : ClientValue) (w : Watched) → AreSeen plan reader vs n ws → slice_get vs n ≡ Some v
    → (w.reader ≡ reader) × (w.client ≡ n) → w.count ≤ length (ideal plan (client_stream plan w.client)) → length (ideal_upto plan (client_stream plan w.client) w.bound) ≤ w.count
    → (v.inlet.count ≤ w.count) × (v.inlet.state.held.bound ≤ w.bound) → AreSeen plan reader vs (n + 1) (ws ++ w ∷ [])
seen-more plan reader vs n ws v w h e place within whole held xs stand =
    let x = client-stands plan 0 n vs xs v stand e in
    let t = take-more xs n x.0 x.1 in
    let at : n ≡ 0 + length (take n xs) = omega (arith, t.1) in
    let next : suc n ≡ n + 1 = omega arith in
    subst (λ l. AreWatchedBy plan reader 0 l (ws ++ w ∷ [])) (sym t.0 ∙ ap (λ k. take k xs) next)
    (by-more plan reader 0 (take n xs) ws x.0 w (h xs stand) place.0 (place.1 ∙ at) (is-watched plan (0 + n) v x.0 w x.2 within whole held.0 held.1))

take-whole : {X : Type 0} (xs : List X) (n : ℕ) → length xs ≤ n → take n xs ≡ xs
take-whole [] zero h = refl
take-whole [] (suc n) h = refl
take-whole (x ∷ xs) zero h = absurd (omega (arith, h))
take-whole (x ∷ xs) (suc n) h = ap (λ l. x ∷ l) (take-whole xs n (omega (arith, h)))

pub seen-all : (plan : Plan) (reader : ℕ) (vs : List ClientValue) (n : ℕ) (ws : List Watched) → AreSeen plan reader vs n ws → length vs ≤ n
    → (xs : List ClientState) → StandForClients plan 0 vs xs → AreWatchedBy plan reader 0 xs ws
seen-all plan reader vs n ws h l xs stand =
    let few : length xs ≤ n = omega (arith, l, same-count plan 0 vs xs stand) in subst (λ ys. AreWatchedBy plan reader 0 ys ws) (take-whole xs n few) (h xs stand)

-- one reader more
pub from-more : (plan : Plan) (xs : List ClientState) (reader n : ℕ) (ws more : List Watched) → AreWatchedFrom plan xs reader n ws → AreWatchedBy plan (reader + n) 0 xs more
    → AreWatchedFrom plan xs reader (suc n) (ws ++ more)
from-more plan xs reader zero ws more h by =
    let here : reader + 0 ≡ reader = omega arith in
    (more, [], ap (λ l. l ++ more) h ∙ sym (append-nil more), subst (λ r. AreWatchedBy plan r 0 xs more) here by, refl)
from-more plan xs reader (suc n) ws more h by =
    let next : reader + suc n ≡ reader + 1 + n = omega arith in (
      h.0,
      h.1 ++ more,
      ap (λ l. l ++ more) h.2 ∙ append_assoc h.0 h.1 more,
      h.3,
      from-more plan xs (reader + 1) n h.1 more h.4 (subst (λ r. AreWatchedBy plan r 0 xs more) next by),
    )

-- what was seen by the first so many readers
abbrev pub AreSeenBy : Plan → List ClientValue → ℕ → List Watched → Type 0
AreSeenBy plan vs n ws = (xs : List ClientState) → StandForClients plan 0 vs xs → AreWatched plan xs n ws

pub seen-by-more : (plan : Plan) (vs : List ClientValue) (first i : ℕ) (ws more : List Watched) → first ≤ i → AreSeenBy plan vs (i - first) ws
    → ((xs : List ClientState) → StandForClients plan 0 vs xs → AreWatchedBy plan (i - first) 0 xs more) → AreSeenBy plan vs (i + 1 - first) (ws ++ more)
seen-by-more plan vs first i ws more low h by xs stand =
    let here : i - first ≡ 0 + (i - first) = omega arith in
    let next : suc (i - first) ≡ i + 1 - first = omega (arith, low) in
    subst (λ n. AreWatchedFrom plan xs 0 n (ws ++ more)) next (from-more plan xs 0 (i - first) ws more (h xs stand) (subst (λ r. AreWatchedBy plan r 0 xs more) here (by xs stand)))
