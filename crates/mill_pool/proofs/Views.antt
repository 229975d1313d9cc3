-- What a change of one view leaves of what holds of all views.
use Rattle.std.proofs.Common.{◌≡◌, ◌≢◌, ℕ, zero, suc, ◌+◌, ◌-◌, ◌<◌, ◌≤◌, ⊎_elim, List, [], ◌∷◌, ◌++◌, length, set, sym, refl, ap, ◌∙◌, subst, arith}
use Rattle.std.specs.List.{flat_map, sum_by}
use Rattle.std.proofs.lemmas.List.{length-set}
use Rattle.std.proofs.lemmas.List.Sums.{sum_by-cons, sum_by_push}
use mathlib.Core.Option.{some, some-injective, some-ne-none}
use lib.ListN.{get_elem?}
use Rattle.crossbeam_queue.proofs.Lists.{at_set}
use Rattle.mill_pool.specs.declared.rule.SeatView.{SeatView}
use Rattle.mill_pool.specs.Rule.{AreSeats, maker_view, made_view, gathered_view, ended_view}
use Rattle.mill_pool.proofs.Parts.{others, sum-set}

module _ {X : Type 0} where
  -- a fact of each element and its place
  abbrev pub Every : (ℕ → X → Type 0) → List X → Type 0
  Every F xs = (n : ℕ) (x : X) → get_elem? xs n ≡ some x → F n x

  -- after one of them was changed
  pub every-set : (F : ℕ → X → Type 0) (xs : List X) (n : ℕ) (y : X) → F n y → ((k : ℕ) (x : X) → k ≢ n → get_elem? xs k ≡ some x → F k x) → Every F (set xs n y)
  every-set F xs n y mine rest k x e =
      ⊎_elim (λ (here : (k ≡ n) × (y ≡ x)). subst (λ i. F i x) (sym here.0) (subst (λ z. F n z) here.1 mine))
      (λ (there : (k ≢ n) × (get_elem? xs k ≡ some x)). rest k x there.0 there.1) (at_set xs n k y x e)

  -- with one more at the end
  pub every-push : (F : ℕ → X → Type 0) (xs : List X) (y : X) → Every F xs → F (length xs) y → Every F (xs ++ y ∷ [])
  every-push F [] y old last zero x e = subst (λ a. F 0 a) (some-injective y x e) last
  every-push F [] y old last (suc n) x e = absurd (some-ne-none x (sym e))
  every-push F (z ∷ xs) y old last zero x e = old 0 x e
  every-push F (z ∷ xs) y old last (suc n) x e = every-push (λ i a. F (suc i) a) xs y (λ i a at. old (suc i) a at) last n x e

pub length-push : {X : Type 0} (xs : List X) (x : X) → length (xs ++ x ∷ []) ≡ length xs + 1
length-push [] x = refl
length-push (z ∷ xs) x = let h = length-push xs x in omega arith

module _ {M : Type 0} where
  -- a view stood at this place before that hadn't ended, had this number, and had put no more
  pub record WasAt (views : List (SeatView M)) (place : ℕ) (v : SeatView M) : Type 0 where
    pub before : SeatView M
    pub there : get_elem? views place ≡ some before
    pub live : 0 < before.parts
    pub number : before.number ≡ v.number
    pub puts : before.puts ≤ v.puts

  abbrev pub Was : List (SeatView M) → ℕ → SeatView M → Type 0
  Was views place v = 0 < v.parts → WasAt views place v

  pub was-set : (views : List (SeatView M)) (place : ℕ) (v w : SeatView M) → get_elem? views place ≡ some v → 0 < v.parts → v.number ≡ w.number → v.puts ≤ w.puts
      → Every (Was views) (set views place w)
  was-set views place v w at live same more =
      every-set (Was views) views place w (λ _. record { before = v; there = at; live = live; number = same; puts = more })
      (λ j u _ e alive. record { before = u; there = e; live = alive; number = refl; puts = omega arith })

  -- the facts of `AreSeats`
  abbrev EndsEmpty : ℕ → SeatView M → Type 0
  EndsEmpty place v = v.parts ≡ 0 → (v.put ≡ []) × (v.taken ≡ [])

  abbrev MakesOf : ℕ → ℕ → SeatView M → Type 0
  MakesOf n place v = 0 < v.made → (v.made ≡ n) × (place ≡ 0) × (0 < v.parts)

  numbered-still : (views after : List (SeatView M)) → Every (Was views) after → AreSeats views → Every (λ place v. 0 < v.parts → v.number ≡ place) after
  numbered-still views after was h place v e live = let a = was place v e live in sym a.number ∙ h.numbered place a.before a.there a.live

  makes-still : (m n place : ℕ) (v : SeatView M) → n ≡ m → MakesOf m place v → MakesOf n place v
  makes-still m n place v same h made = let k = h made in (k.0 ∙ sym same, k.1, k.2)

  -- a view with the same number and the same parts in the place of one that hasn't ended
  pub seats-set : (views : List (SeatView M)) (place : ℕ) (v w : SeatView M) → get_elem? views place ≡ some v → 0 < v.parts → w.parts ≡ v.parts → w.number ≡ v.number
      → w.made ≡ v.made → v.puts ≤ w.puts → AreSeats views → AreSeats (set views place w)
  seats-set views place v w at live parts number made more h =
      let after : List (SeatView M) = set views place w in
      let long : length after ≡ length views = length-set views place w in record {
        parts = (let s = sum-set (λ u. u.parts) views place v w at in let p = h.parts in omega arith);
        ended = every-set EndsEmpty views place w (λ none. absurd (omega arith)) (λ j u _ e. h.ended j u e);
        numbered = numbered-still views after (was-set views place v w at live (sym number) more) h;
        makes = every-set (MakesOf (length after)) views place w
            (λ m. let k = h.makes place v at (omega arith) in (made ∙ k.0 ∙ sym long, k.1, omega arith))
            (λ j u _ e. makes-still (length views) (length after) j u long (h.makes j u e));
      }

  -- one seat more
  pub seats-more : (views : List (SeatView M)) (place : ℕ) (v : SeatView M) → get_elem? views place ≡ some v → 1 < v.parts → 0 < v.made → AreSeats views
      → AreSeats (set views place (maker_view v) ++ made_view v ∷ [])
  seats-more views place v at two may h =
      let left : SeatView M = maker_view v in
      let right : SeatView M = made_view v in
      let middle : List (SeatView M) = set views place left in
      let after : List (SeatView M) = middle ++ right ∷ [] in
      let many : length middle ≡ length views = length-set views place left in
      let long : length after ≡ length middle + 1 = length-push middle right in
      let was : Every (Was views) middle = was-set views place v left at (omega arith) refl (omega arith) in
      let mine = h.makes place v at may in record {
        parts = (let s = sum-set (λ u. u.parts) views place v left at in
            let p = h.parts in
            let q = sum_by_push (λ (u : SeatView M). u.parts) middle right in
            let e : left.parts ≡ v.parts - 1 = refl in
            let one : right.parts ≡ 1 = refl in omega arith);
        ended = every-push EndsEmpty middle right
            (every-set EndsEmpty views place left (λ none. absurd (omega arith)) (λ j u _ e. h.ended j u e)) (λ none. absurd (omega arith));
        numbered = every-push (λ j u. 0 < u.parts → u.number ≡ j) middle right (numbered-still views middle was h) (λ _. mine.0 ∙ sym many);
        makes = every-push (MakesOf (length after)) middle right
            (every-set (MakesOf (length after)) views place left (λ _. let a = mine.0 in (omega arith, mine.1, omega arith))
            (λ j u apart e m. absurd (apart ((h.makes j u e m).1 ∙ sym mine.1))))
            (λ m. absurd (omega arith));
      }

  -- one seat less
  pub was-less : (views : List (SeatView M)) (place : ℕ) (v : SeatView M) (other : ℕ) (w : SeatView M) → get_elem? views place ≡ some v → 0 < v.parts
      → Every (Was views) (set (set views place (gathered_view v w)) other ended_view)
  was-less views place v other w at live =
      every-set (Was views) (set views place (gathered_view v w)) other ended_view (λ none. absurd (omega arith))
      (λ j u _ e. was-set views place v (gathered_view v w) at live refl (omega arith) j u e)

  pub seats-less : (views : List (SeatView M)) (place : ℕ) (v : SeatView M) (other : ℕ) (w : SeatView M) → get_elem? views place ≡ some v → 0 < v.parts
      → get_elem? (set views place (gathered_view v w)) other ≡ some w → AreSeats views → AreSeats (set (set views place (gathered_view v w)) other ended_view)
  seats-less views place v other w at live there h =
      let both : SeatView M = gathered_view v w in
      let middle : List (SeatView M) = set views place both in
      let after : List (SeatView M) = set middle other ended_view in
      let long : length after ≡ length views = length-set middle other ended_view ∙ length-set views place both in record {
        parts = (let s = sum-set (λ u. u.parts) views place v both at in
            let t = sum-set (λ u. u.parts) middle other w ended_view there in
            let p = h.parts in
            let e : both.parts ≡ v.parts + w.parts = refl in omega arith);
        ended = every-set EndsEmpty middle other ended_view (λ _. (refl, refl))
            (λ j u _ e. every-set EndsEmpty views place both (λ none. absurd (omega arith)) (λ i x _ k. h.ended i x k) j u e);
        numbered = numbered-still views after (was-less views place v other w at live) h;
        makes = every-set (MakesOf (length after)) middle other ended_view (λ m. absurd (omega arith))
            (λ j u _ e. every-set (MakesOf (length after)) views place both
            (λ m. let k = h.makes place v at m in (k.0 ∙ sym long, k.1, omega arith))
            (λ i x _ k. makes-still (length views) (length after) i x long (h.makes i x k)) j u e);
      }

  -- ---- where one seat has every part

  nothing-left : {A : Type 0} (f : SeatView M → List A) (views : List (SeatView M)) → Every (λ _ u. u.parts ≡ 0 → f u ≡ []) views → sum_by (λ u. u.parts) views ≡ 0 → flat_map f views ≡ []
  nothing-left f [] none zeroes = refl
  nothing-left f (x ∷ xs) none zeroes =
      let s = sum_by-cons (λ (u : SeatView M). u.parts) x xs in
      ap (λ l. l ++ flat_map f xs) (none 0 x refl (omega arith)) ∙ nothing-left f xs (λ j u e. none (suc j) u e) (omega arith)

  pub nothing-else : {A : Type 0} (f : SeatView M → List A) (views : List (SeatView M)) (place : ℕ) → Every (λ _ u. u.parts ≡ 0 → f u ≡ []) views
      → sum_by (λ u. u.parts) (others views place) ≡ 0 → flat_map f (others views place) ≡ []
  nothing-else f [] place none zeroes = refl
  nothing-else f (x ∷ xs) zero none zeroes = nothing-left f xs (λ j u e. none (suc j) u e) zeroes
  nothing-else f (x ∷ xs) (suc place) none zeroes =
      let s = sum_by-cons (λ (u : SeatView M). u.parts) x (others xs place) in
      ap (λ l. l ++ flat_map f (others xs place)) (none 0 x refl (omega arith)) ∙ nothing-else f xs place (λ j u e. none (suc j) u e) (omega arith)
