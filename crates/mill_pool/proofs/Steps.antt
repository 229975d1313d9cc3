-- Each kind of step keeps the rule.
use Rattle.std.proofs.Common.{◌≡◌, ◌≢◌, ℕ, ◌+◌, ◌<◌, ◌≤◌, ⊎_elim, List, [], ◌∷◌, ◌++◌, length, set, sym, refl, ap, ◌∙◌, subst, append-nil, arith}
use Rattle.std.specs.List.{flat_map}
use Rattle.std.specs.List.Sorted.{IsPermutation}
use Rattle.std.proofs.lemmas.List.{length-set}
use Rattle.std.proofs.lemmas.List.Sorted.{IsPermutation-refl}
use Rattle.std.proofs.lemmas.List.Concat.{flat_map-append}
use mathlib.Core.Option.{some, some-ne-none}
use lib.ListN.{get_elem?}
use Rattle.crossbeam_queue.specs.Fifo.{Pushes, Pops, Forks, Merges, Learns}
use Rattle.crossbeam_queue.proofs.Lists.{at_set, set_else}
use Rattle.mill_pool.specs.declared.job.Ticket.{Ticket}
use Rattle.mill_pool.specs.declared.rule.SeatView.{SeatView}
use Rattle.mill_pool.specs.Jobs.{JobValue, TakenOrLeft, count_of}
use Rattle.mill_pool.specs.Rule.{AreSeats, IsPool, SawQueue, every_part, first_view, maker_view, made_view, put_view, taken_view, gathered_view, ended_view, all_put, all_taken}
use Rattle.mill_pool.proofs.Parts.{inside, sum-there, then_moves, back, same_list, flat-there, flat-more, flat-same, flat-join}
use Rattle.mill_pool.proofs.Views.{Every, Was, every-push, was-set, was-less, length-push, seats-set, seats-more, seats-less, nothing-else}
use Rattle.mill_pool.proofs.Counts.{none_or_some, one, told, same-count, count-push, moved, put_in, taken_out}

module _ {M : Type 0} where
  -- the ticket's number is below what was put by the view at its seat
  abbrev BelowPuts : Ticket → List (SeatView M) → Type 0
  BelowPuts t views = (v : SeatView M) → get_elem? views t.seat ≡ some v → 0 < v.parts → t.number < v.puts

  below-still : (t : Ticket) (views after : List (SeatView M)) → Every (Was views) after → BelowPuts t views → BelowPuts t after
  below-still t views after was old v e live =
      let a = was t.seat v e live in
      let b = old a.before a.there a.live in omega arith

  -- ---- a look, a pop, a push

  pub sees : (place : ℕ) (v : SeatView M) → Learns IsPool place v (SawQueue v)
  sees place v items views h at = (views, place, h, at)

  pub pops : (place : ℕ) (v : SeatView M) → 0 < v.parts → Pops IsPool place v (λ x w. w ≡ taken_view v x)
  pops place v live x items views h at =
      let w : SeatView M = taken_view v x in
      let after : List (SeatView M) = set views place w in
      let long = length-set views place w in
      let put : IsPermutation (all_put after) (all_put views) = flat-same (λ u. u.put) views place v w at refl in
      let taken : IsPermutation (all_taken after) (all_taken views ++ x ∷ []) = flat-more (λ u. u.taken) views place v w (x ∷ []) at refl in (
        w,
        record {
          seats = seats-set views place v w at live refl refl refl (omega arith) h.seats;
          jobs = moved (all_put views) (all_put after) (all_taken views ++ x ∷ []) (all_taken after) items put (back taken) (taken_out (all_put views) (all_taken views) items x h.jobs);
          seat = λ t m. let s = same-count t (all_put after) (all_put views) put in let k = h.seat t (omega arith) in omega arith;
          number = λ t m. let s = same-count t (all_put after) (all_put views) put in
              below-still t views after (was-set views place v w at live refl (omega arith)) (h.number t (omega arith));
        },
        refl,
      )

  -- a seat's next ticket was never put
  never : (place : ℕ) (v : SeatView M) (x : JobValue M) (items : List (JobValue M)) (views : List (SeatView M)) → IsPool items views → get_elem? views place ≡ some v → 0 < v.parts
      → x.ticket.seat ≡ v.number → x.ticket.number ≡ v.puts → count_of x.ticket (all_put views) ≡ 0
  never place v x items views h at live seat number =
      ⊎_elim (λ none. none)
      (λ some. let k = h.number x.ticket some v (ap (λ n. get_elem? views n) (seat ∙ h.seats.numbered place v at live) ∙ at) live in absurd (omega arith))
      (none_or_some (count_of x.ticket (all_put views)))

  below-put : (t : Ticket) (place : ℕ) (v : SeatView M) (x : JobValue M) (views : List (SeatView M)) → get_elem? views place ≡ some v → 0 < v.parts
      → x.ticket.seat ≡ place → x.ticket.number ≡ v.puts
      → (0 < count_of t (all_put views) → BelowPuts t views) → 0 < count_of t (all_put views) + one t x.ticket → BelowPuts t (set views place (put_view v x))
  below-put t place v x views at live seat number old m u e alive =
      ⊎_elim
      (λ (here : (t.seat ≡ place) × (put_view v x ≡ u)). let more = ap (λ (a : SeatView M). a.puts) here.1 in ⊎_elim
      (λ z. let k = old (omega arith) v (ap (λ n. get_elem? views n) here.0 ∙ at) live in omega arith)
      (λ (z : (one t x.ticket ≡ 1) × (t ≡ x.ticket)). let y = ap (λ (a : Ticket). a.number) z.1 in omega arith) (told t x.ticket))
      (λ (there : (t.seat ≢ place) × (get_elem? views t.seat ≡ some u)). ⊎_elim
      (λ z. old (omega arith) u there.1 alive)
      (λ (z : (one t x.ticket ≡ 1) × (t ≡ x.ticket)). absurd (there.0 (ap (λ (a : Ticket). a.seat) z.1 ∙ seat))) (told t x.ticket))
      (at_set views place t.seat (put_view v x) u e)

  pub pushes : (room place : ℕ) (v : SeatView M) (x : JobValue M) → 0 < v.parts → x.ticket.seat ≡ v.number → x.ticket.number ≡ v.puts → Pushes IsPool room place v x (λ w. w ≡ put_view v x)
  pushes room place v x live seat number items views _ h at =
      let w : SeatView M = put_view v x in
      let after : List (SeatView M) = set views place w in
      let long : length after ≡ length views = length-set views place w in
      let here : x.ticket.seat ≡ place = seat ∙ h.seats.numbered place v at live in
      let put : IsPermutation (all_put after) (all_put views ++ x ∷ []) = flat-more (λ u. u.put) views place v w (x ∷ []) at refl in
      let taken : IsPermutation (all_taken after) (all_taken views) = flat-same (λ u. u.taken) views place v w at refl in
      let more : (t : Ticket) → count_of t (all_put after) ≡ count_of t (all_put views) + one t x.ticket =
      λ t. same-count t (all_put after) (all_put views ++ x ∷ []) put ∙ count-push t (all_put views) x in (
        w,
        record {
          seats = seats-set views place v w at live refl refl refl (omega arith) h.seats;
          jobs = moved (all_put views ++ x ∷ []) (all_put after) (all_taken views) (all_taken after) (items ++ x ∷ []) put (back taken)
              (put_in (all_put views) (all_taken views) items x (never place v x items views h at live seat number) h.jobs);
          seat = λ t m. let k = more t in ⊎_elim (λ z. let o = h.seat t (omega arith) in omega arith)
              (λ (z : (one t x.ticket ≡ 1) × (t ≡ x.ticket)). let y = ap (λ (a : Ticket). a.seat) z.1 in let o = inside views place v at in omega arith) (told t x.ticket);
          number = λ t m. let k = more t in below-put t place v x views at live here number (λ there. h.number t there) (omega arith);
        },
        refl,
      )

  -- ---- steps that move no job

  still : (items : List (JobValue M)) (views after : List (SeatView M)) → IsPool items views → AreSeats after → length views ≤ length after
      → ((t : Ticket) → 0 < count_of t (all_put views) → BelowPuts t after)
      → IsPermutation (all_put after) (all_put views) → IsPermutation (all_taken after) (all_taken views) → IsPool items after
  still items views after h seats long number put taken = record {
    seats = seats;
    jobs = moved (all_put views) (all_put after) (all_taken views) (all_taken after) items put (back taken) h.jobs;
    seat = λ t m. let s = same-count t (all_put after) (all_put views) put in let k = h.seat t (omega arith) in omega arith;
    number = λ t m. let s = same-count t (all_put after) (all_put views) put in number t (omega arith);
  }

  flat-empty : {A : Type 0} (f : SeatView M → List A) (views : List (SeatView M)) (v : SeatView M) → f v ≡ [] → IsPermutation (flat_map f (views ++ v ∷ [])) (flat_map f views)
  flat-empty f views v none =
      same_list (flat_map f (views ++ v ∷ [])) (flat_map f views)
      (flat_map-append f views (v ∷ []) ∙ ap (λ l. flat_map f views ++ (l ++ [])) none ∙ append-nil (flat_map f views))

  pub forks : (place : ℕ) (v : SeatView M) → 1 < v.parts → 0 < v.made → Forks IsPool place v (maker_view v) (made_view v)
  forks place v two may items views h at =
      let left : SeatView M = maker_view v in
      let right : SeatView M = made_view v in
      let middle : List (SeatView M) = set views place left in
      let after : List (SeatView M) = middle ++ right ∷ [] in
      let many = length-set views place left in
      let long = length-push middle right in
      let was : Every (Was views) middle = was-set views place v left at (omega arith) refl (omega arith) in
      still items views after h (seats-more views place v at two may h.seats) (omega arith)
      (λ t some u e live. every-push (λ j y. t.seat ≡ j → 0 < y.parts → t.number < y.puts) middle right
      (λ j y k same alive. below-still t views middle was (h.number t some) y (ap (λ n. get_elem? middle n) same ∙ k) alive)
      (λ same _. let k = h.seat t some in absurd (omega arith)) t.seat u e refl live)
      (then_moves (flat-empty (λ u. u.put) middle right refl) (flat-same (λ u. u.put) views place v left at refl))
      (then_moves (flat-empty (λ u. u.taken) middle right refl) (flat-same (λ u. u.taken) views place v left at refl))

  pub merges : (place : ℕ) (v : SeatView M) (other : ℕ) (w : SeatView M) → 0 < v.parts → Merges IsPool place v other w (gathered_view v w) ended_view
  merges place v other w live items views h at apart there =
      let both : SeatView M = gathered_view v w in
      let middle : List (SeatView M) = set views place both in
      let after : List (SeatView M) = set middle other ended_view in
      let long : length after ≡ length views = length-set middle other ended_view ∙ length-set views place both in
      let before : get_elem? views other ≡ some w = sym (set_else views place other both apart) ∙ there in
      still items views after h (seats-less views place v other w at live there h.seats) (omega arith)
      (λ t some. below-still t views after (was-less views place v other w at live) (h.number t some))
      (flat-join (λ u. u.put) views place other v w both ended_view at before apart refl refl)
      (flat-join (λ u. u.taken) views place other v w both ended_view at before apart refl refl)

  -- ---- the seat with every part knows the whole

  all_its : {A : Type 0} (f : SeatView M → List A) (views : List (SeatView M)) (place : ℕ) (v : SeatView M) → get_elem? views place ≡ some v → v.parts ≡ every_part → AreSeats views
      → Every (λ _ u. u.parts ≡ 0 → f u ≡ []) views → IsPermutation (flat_map f views) (f v)
  all_its f views place v at all h none =
      let p = h.parts in
      let s = sum-there (λ u. u.parts) views place v at in
      subst (λ l. IsPermutation (flat_map f views) l) (ap (λ l. f v ++ l) (nothing-else f views place none (omega arith)) ∙ append-nil (f v)) (flat-there f views place v at)

  pub learns : (place : ℕ) (v : SeatView M) → v.parts ≡ every_part → Learns IsPool place v (λ items. TakenOrLeft v.put v.taken items)
  learns place v all items views h at =
      let put : IsPermutation (all_put views) v.put = all_its (λ u. u.put) views place v at all h.seats (λ j u e none. (h.seats.ended j u e none).0) in
      let taken : IsPermutation (all_taken views) v.taken = all_its (λ u. u.taken) views place v at all h.seats (λ j u e none. (h.seats.ended j u e none).1) in
      moved (all_put views) v.put (all_taken views) v.taken items (back put) taken h.jobs

  -- ---- the start

  of_first : (F : ℕ → SeatView M → Type 0) (v : SeatView M) → F 0 v → Every F (v ∷ [])
  of_first F v mine = every-push F [] v (λ i y at. absurd (some-ne-none y (sym at))) mine

  pub begins : IsPool {M = M} [] (first_view ∷ [])
  begins = record {
    seats = record {
      parts = refl;
      ended = of_first (λ j u. u.parts ≡ 0 → (u.put ≡ []) × (u.taken ≡ [])) first_view (λ _. (refl, refl));
      numbered = of_first (λ j u. 0 < u.parts → u.number ≡ j) first_view (λ _. refl);
      makes = of_first (λ j u. 0 < u.made → (u.made ≡ 1) × (j ≡ 0) × (0 < u.parts)) first_view (λ _. (refl, refl, omega arith));
    };
    jobs = record { once = λ t. omega arith; whole = IsPermutation-refl [] };
    seat = λ t m. absurd (omega arith);
    number = λ t m. absurd (omega arith);
  }
