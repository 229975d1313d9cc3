-- What is left at the close, by tickets.
use Rattle.std.proofs.Common.{◌≡◌, ℕ, zero, suc, ◌+◌, ◌<◌, Bool, true, false, not, cond, ◌||◌, ◌&&◌, eqb, eq-eqb, List, [], ◌∷◌, ◌++◌, sym, refl, ap, ◌∙◌, append-nil, arith}
use Rattle.std.specs.List.{flat_map, filter, list_any}
use Rattle.std.specs.List.Sorted.{IsPermutation}
use Rattle.std.proofs.lemmas.List.Concat.{flat_map-append}
use Rattle.std.proofs.lemmas.List.Elements.{filter-append}
use Rattle.std.proofs.lemmas.List.Sorted.{IsPermutation-append_right, IsPermutation-append_comm}
use Rattle.std.proofs.lemmas.List.Sums.{sum_by-append, sum_by-cons}
use mathlib.Core.Option.{some, some-injective, some-ne-none}
use lib.ListN.{get_elem?}
use Rattle.mill_pool.specs.declared.job.Ticket.{Ticket}
use Rattle.mill_pool.specs.Jobs.{JobValue, TakenOrLeft, is_ticket, count_of, tickets, left_of}
use Rattle.mill_pool.specs.Seats.{SeatOf, known, put_by, taken_by}
use Rattle.mill_pool.proofs.Parts.{then_moves, back, same_list}
use Rattle.mill_pool.proofs.Moves.{filter-moves, filter-none, filter-all, map-filter}
use Rattle.mill_pool.proofs.Counts.{one, same-count, moved}

itself : (t : Ticket) → is_ticket t t ≡ true
itself t = ap (λ b. b && eqb t.number t.number) (eq-eqb t.seat t.seat refl) ∙ eq-eqb t.number t.number refl

abbrev as_number : Bool → ℕ
as_number b = cond b 1 0

is_not : (b : Bool) → as_number b ≡ 0 → b ≡ false
is_not true e = absurd (omega arith)
is_not false e = refl

or_true : (b : Bool) → (b || true) ≡ true
or_true true = refl
or_true false = refl

module _ {M : Type 0} where
  -- whether a job's ticket is among these
  abbrev is_among : List Ticket → JobValue M → Bool
  is_among all j = list_any (is_ticket j.ticket) all

  count-cons : (t : Ticket) (x : JobValue M) (jobs : List (JobValue M)) → count_of t (x ∷ jobs) ≡ one t x.ticket + count_of t jobs
  count-cons t x jobs = sum_by-cons (λ (j : JobValue M). one t j.ticket) x jobs

  -- a job's ticket is among those of its list, and is counted there
  among_own : (jobs : List (JobValue M)) (k : ℕ) (x : JobValue M) → get_elem? jobs k ≡ some x → is_among (tickets jobs) x ≡ true
  among_own [] k x e = absurd (some-ne-none x (sym e))
  among_own (y ∷ jobs) zero x e =
      ap (λ (z : JobValue M). is_ticket x.ticket z.ticket || is_among (tickets jobs) x) (some-injective y x e)
      ∙ ap (λ b. b || is_among (tickets jobs) x) (itself x.ticket)
  among_own (y ∷ jobs) (suc k) x e = ap (λ b. is_ticket x.ticket y.ticket || b) (among_own jobs k x e) ∙ or_true (is_ticket x.ticket y.ticket)

  counted_own : (jobs : List (JobValue M)) (k : ℕ) (x : JobValue M) → get_elem? jobs k ≡ some x → 0 < count_of x.ticket jobs
  counted_own [] k x e = absurd (some-ne-none x (sym e))
  counted_own (y ∷ jobs) zero x e =
      let c = count-cons x.ticket y jobs in
      let mine : one x.ticket y.ticket ≡ 1 = ap (λ (z : JobValue M). one x.ticket z.ticket) (some-injective y x e) ∙ ap as_number (itself x.ticket) in omega arith
  counted_own (y ∷ jobs) (suc k) x e =
      let c = count-cons x.ticket y jobs in
      let h = counted_own jobs k x e in omega arith

  -- a ticket that isn't counted is not among those of the list
  among_none : (jobs : List (JobValue M)) (x : JobValue M) → count_of x.ticket jobs ≡ 0 → is_among (tickets jobs) x ≡ false
  among_none [] x none = refl
  among_none (y ∷ jobs) x none =
      let c = count-cons x.ticket y jobs in
      let first : one x.ticket y.ticket ≡ 0 = omega arith in
      ap (λ b. b || is_among (tickets jobs) x) (is_not (is_ticket x.ticket y.ticket) first) ∙ among_none jobs x (omega arith)

  -- the jobs that were put and whose tickets aren't among those taken
  abbrev pub left_jobs : List (JobValue M) → List (JobValue M) → List (JobValue M)
  left_jobs put taken = filter (λ j. not (is_among (tickets taken) j)) put

  pub left_tickets : (put taken : List (JobValue M)) → tickets (left_jobs put taken) ≡ left_of (tickets put) (tickets taken)
  left_tickets put taken = map-filter (λ (j : JobValue M). j.ticket) (λ t. not (list_any (is_ticket t) (tickets taken))) put

  -- they are what is left
  pub left_is : (put taken left : List (JobValue M)) → TakenOrLeft put taken left → TakenOrLeft put taken (left_jobs put taken)
  left_is put taken left h =
      let stays : JobValue M → Bool = λ j. not (is_among (tickets taken) j) in
      let gone : filter stays taken ≡ [] = filter-none stays taken (λ k x e. ap not (among_own taken k x e)) in
      let all : filter stays left ≡ left = filter-all stays left (λ k x e.
      let o = h.once x.ticket in
      let s = same-count x.ticket put (taken ++ left) h.whole in
      let a = sum_by-append (λ (j : JobValue M). one x.ticket j.ticket) taken left in
      let c = counted_own left k x e in ap not (among_none taken x (omega arith))) in
      let same : IsPermutation (filter stays put) left =
      then_moves (filter-moves stays put (taken ++ left) h.whole)
      (same_list (filter stays (taken ++ left)) left (filter-append stays taken left ∙ ap (λ l. l ++ filter stays left) gone ∙ all)) in
      record { once = h.once; whole = then_moves h.whole (IsPermutation-append_right taken left (filter stays put) (back same)) }

  -- the last seat's jobs go to the end
  to_last : (f : SeatOf M → List (JobValue M)) (seats : List (SeatOf M)) (last : SeatOf M) → IsPermutation (f last ++ flat_map f seats) (flat_map f (seats ++ last ∷ []))
  to_last f seats last =
      then_moves (IsPermutation-append_comm (f last) (flat_map f seats))
      (same_list (flat_map f seats ++ f last) (flat_map f (seats ++ last ∷ []))
      (sym (flat_map-append f seats (last ∷ []) ∙ ap (λ l. flat_map f seats ++ l) (append-nil (f last)))))

  pub with_last : (seats : List (SeatOf M)) (last : SeatOf M) (left : List (JobValue M)) → TakenOrLeft ((known last).put ++ put_by seats) ((known last).taken ++ taken_by seats) left
      → TakenOrLeft (put_by (seats ++ last ∷ [])) (taken_by (seats ++ last ∷ [])) left
  with_last seats last left h =
      moved ((known last).put ++ put_by seats) (put_by (seats ++ last ∷ [])) ((known last).taken ++ taken_by seats) (taken_by (seats ++ last ∷ [])) left
      (back (to_last (λ s. (known s).put) seats last)) (to_last (λ s. (known s).taken) seats last) h
