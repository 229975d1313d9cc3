-- How many jobs have a ticket, and what stays true of jobs that are put, taken or counted in another order.
use Rattle.std.proofs.Common.{◌≡◌, ◌≢◌, ℕ, zero, suc, ◌+◌, ◌<◌, ◌⊎◌, inl, inr, ⊎_elim, Bool, true, false, cond, ◌&&◌, eqb, List, [], ◌∷◌, ◌++◌, sym, refl, ap, ◌∙◌, append_assoc, arith}
use Rattle.std.specs.List.Sorted.{IsPermutation}
use Rattle.std.proofs.lemmas.Bool.Decides.{eqb_tells}
use Rattle.std.proofs.lemmas.List.Sorted.{IsPermutation-append_left, sum_by-IsPermutation}
use Rattle.std.proofs.lemmas.List.Sums.{sum_by_push}
use Rattle.mill_pool.specs.declared.job.Ticket.{Ticket}
use Rattle.mill_pool.specs.Jobs.{JobValue, TakenOrLeft, is_ticket, count_of}
use Rattle.mill_pool.proofs.Parts.{then_moves, same_list}

pub none_or_some : (n : ℕ) → (n ≡ 0) ⊎ (0 < n)
none_or_some zero = inl refl
none_or_some (suc n) = inr (omega arith)

-- 1 where the two are the same
abbrev pub one : Ticket → Ticket → ℕ
one t u = cond (is_ticket t u) 1 0

pub told : (t u : Ticket) → (one t u ≡ 0) ⊎ ((one t u ≡ 1) × (t ≡ u))
told t u =
    let as_number : Bool → Bool → ℕ = λ a b. cond (a && b) 1 0 in
    ⊎_elim
    (λ (a : (eqb t.seat u.seat ≡ true) × (t.seat ≡ u.seat)). ⊎_elim
    (λ (b : (eqb t.number u.number ≡ true) × (t.number ≡ u.number)).
    inr (ap (λ c. as_number c (eqb t.number u.number)) a.0 ∙ ap (λ c. as_number true c) b.0, λ i. record { seat = a.1 i; number = b.1 i }))
    (λ (b : (eqb t.number u.number ≡ false) × (t.number ≢ u.number)).
    inl (ap (λ c. as_number c (eqb t.number u.number)) a.0 ∙ ap (λ c. as_number true c) b.0)) (eqb_tells t.number u.number))
    (λ (a : (eqb t.seat u.seat ≡ false) × (t.seat ≢ u.seat)). inl (ap (λ c. as_number c (eqb t.number u.number)) a.0)) (eqb_tells t.seat u.seat)

module _ {M : Type 0} where
  pub same-count : (t : Ticket) (xs ys : List (JobValue M)) → IsPermutation xs ys → count_of t xs ≡ count_of t ys
  same-count t xs ys p = sym (sum_by-IsPermutation (λ j. one t j.ticket) xs ys p)

  pub count-push : (t : Ticket) (jobs : List (JobValue M)) (x : JobValue M) → count_of t (jobs ++ x ∷ []) ≡ count_of t jobs + one t x.ticket
  count-push t jobs x = sum_by_push (λ (j : JobValue M). one t j.ticket) jobs x

  -- the same jobs were put, and taken, in other orders
  pub moved : (put put' taken taken' left : List (JobValue M)) → IsPermutation put' put → IsPermutation taken taken' → TakenOrLeft put taken left → TakenOrLeft put' taken' left
  moved put put' taken taken' left p q h = record {
    once = λ t. let o = h.once t in let s = same-count t put' put p in omega arith;
    whole = then_moves p (then_moves h.whole (IsPermutation-append_left left taken taken' q));
  }

  -- one more was put
  pub put_in : (put taken left : List (JobValue M)) (x : JobValue M) → count_of x.ticket put ≡ 0 → TakenOrLeft put taken left → TakenOrLeft (put ++ x ∷ []) taken (left ++ x ∷ [])
  put_in put taken left x fresh h = record {
    once = λ t. let o = h.once t in let k = count-push t put x in ⊎_elim (λ z. omega arith)
        (λ (z : (one t x.ticket ≡ 1) × (t ≡ x.ticket)). let y = z.0 in let none = ap (λ u. count_of u put) z.1 ∙ fresh in omega arith) (told t x.ticket);
    whole = then_moves (IsPermutation-append_left (x ∷ []) put (taken ++ left) h.whole)
        (same_list ((taken ++ left) ++ x ∷ []) (taken ++ (left ++ x ∷ [])) (append_assoc taken left (x ∷ [])));
  }

  -- one more was taken
  pub taken_out : (put taken left : List (JobValue M)) (x : JobValue M) → TakenOrLeft put taken (x ∷ left) → TakenOrLeft put (taken ++ x ∷ []) left
  taken_out put taken left x h = record {
    once = h.once;
    whole = then_moves h.whole (same_list (taken ++ x ∷ left) ((taken ++ x ∷ []) ++ left) (sym (append_assoc taken (x ∷ []) left)));
  }
