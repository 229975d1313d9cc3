-- The seats of a new pool.
use Rattle.std.proofs.Common.{◌≡◌, ℕ, zero, suc, ◌+◌, ◌-◌, ◌≤◌, List, [], ◌∷◌, ◌++◌, length, sym, refl, ap, ◌∙◌, subst, arith}
use Rattle.std.proofs.lemmas.List.Sums.{sum_by-cons}
use mathlib.Core.Option.{some, some-injective}
use lib.ListN.{get_elem?}
use Rattle.crossbeam_queue.specs.Passes.{IsPassOf}
use Rattle.mill_pool.specs.Rule.{every_part, maker_view, made_view}
use Rattle.mill_pool.specs.declared.rule.SeatView.{SeatView}
use Rattle.mill_pool.specs.Seats.{SeatOf, QueueOf, known, IsFresh, AreOf, AreAllOf, AreMade, maker_at, parts_of}
use Rattle.mill_pool.proofs.Views.{every-push, length-push}

module _ {M : Type 0} where
  next_maker : (n : ℕ) → maker_view (maker_at {M = M} n) ≡ maker_at (n + 1)
  next_maker n =
      let less : every_part + 1 - n - 1 ≡ every_part + 1 - (n + 1) = omega arith in
      λ i. record { number = 0; puts = 0; parts = less i; made = n + 1; put = []; taken = [] }

  one_each : (seats : List (SeatOf M)) → ((k : ℕ) (s : SeatOf M) → get_elem? seats k ≡ some s → (known s).parts ≡ 1) → parts_of seats ≡ length seats
  one_each [] ones = refl
  one_each (s ∷ seats) ones =
      let more = sum_by-cons (λ (x : SeatOf M). (known x).parts) s seats in
      let one = ones 0 s refl in
      let rest = one_each seats (λ k x e. ones (suc k) x e) in omega arith

  made_fresh : (v w : SeatView M) (n k : ℕ) → v ≡ maker_at n → w ≡ made_view v → n ≡ k → IsFresh k w × (w.parts ≡ 1)
  made_fresh v w n k maker made same =
      let is : w ≡ made_view (maker_at n) = made ∙ ap made_view maker in
      subst (λ u. IsFresh k u × (u.parts ≡ 1)) (sym is) ((same, refl, refl, refl), refl)

module _ {M Q A : Type 0} where
  -- the first seat has made these, so that there are n
  pub record HasMade (queue : QueueOf M Q A) (first : SeatOf M) (seats : List (SeatOf M)) (n : ℕ) : Type 0 where
    pub ours : IsPassOf queue first
    pub maker : known first ≡ maker_at n
    pub theirs : AreMade queue seats
    pub many : length seats + 1 ≡ n

  -- one more
  pub made_more : (queue : QueueOf M Q A) (old new next seat : SeatOf M) (n : ℕ) (seats after : List (SeatOf M)) → HasMade queue old seats n
      → known new ≡ maker_view (known old) → known next ≡ made_view (known old) → IsPassOf queue new → IsPassOf queue next → seat ≡ next → after ≡ seats ++ seat ∷ []
      → HasMade queue new after (n + 1)
  made_more queue old new next seat n seats after h left right ours others same put =
      let is : after ≡ seats ++ next ∷ [] = put ∙ ap (λ s. seats ++ s ∷ []) same in
      let fresh = made_fresh (known old) (known next) n (length seats + 1) h.maker right (sym h.many) in record {
        ours = ours;
        maker = left ∙ ap maker_view h.maker ∙ next_maker n;
        theirs = subst (λ l. AreMade queue l) (sym is)
            (every-push (λ k s. IsPassOf queue s × IsFresh (k + 1) (known s) × ((known s).parts ≡ 1)) seats next h.theirs (others, fresh.0, fresh.1));
        many = ap (λ l. length l + 1) is ∙ ap (λ k. k + 1) (length-push seats next ∙ h.many);
      }

  all_of : (queue : QueueOf M Q A) (first : SeatOf M) (seats : List (SeatOf M)) (n : ℕ) → HasMade queue first seats n → n ≤ 32 → AreAllOf queue (first ∷ seats)
  all_of queue first seats n h few = (
    of,
    (let sum = sum_by-cons (λ (x : SeatOf M). (known x).parts) first seats in
        let ones = one_each seats (λ k s e. (h.theirs k s e).2) in
        let many = h.many in
        let mine : (known first).parts ≡ every_part + 1 - n = ap (λ (v : SeatView M). v.parts) h.maker in omega arith),
  )
    where
      of : AreOf queue (first ∷ seats)
      of zero s e = subst (λ x. IsPassOf queue x) (some-injective first s e) h.ours
      of (suc k) s e = (h.theirs k s e).0

  -- the first seat in front of those that it made
  pub all_with : (queue : QueueOf M Q A) (first seat : SeatOf M) (seats all : List (SeatOf M)) (n : ℕ) → HasMade queue first seats n → n ≤ 32 → seat ≡ first → all ≡ seat ∷ seats
      → AreAllOf queue all
  all_with queue first seat seats all n h few same is = subst (λ l. AreAllOf queue l) (sym (is ∙ ap (λ s. s ∷ seats) same)) (all_of queue first seats n h few)
