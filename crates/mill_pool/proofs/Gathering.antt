-- The seats that come together, one after another.
use Rattle.std.proofs.Common.{◌≡◌, suc, ◌+◌, ◌<◌, List, [], ◌∷◌, ◌++◌, length, sym, refl, ap, ◌∙◌, subst, append_assoc, arith}
use Rattle.std.specs.List.{flat_map}
use Rattle.std.proofs.lemmas.List.Sums.{sum_by-cons, sum_by_push}
use lib.ListN.{get_elem?}
use Rattle.crossbeam_queue.specs.Passes.{IsPassOf}
use Rattle.crossbeam_queue.proofs.Lists.{at_last, at_longer}
use Rattle.mill_pool.specs.declared.account.Account.{Account}
use Rattle.mill_pool.specs.declared.rule.SeatView.{SeatView}
use Rattle.mill_pool.specs.Jobs.{JobValue, TakenOrLeft, tickets, left_of}
use Rattle.mill_pool.specs.Rule.{gathered_view, every_part}
use Rattle.mill_pool.specs.Seats.{SeatOf, QueueOf, known, AreOf, parts_of, put_by, taken_by}
use Rattle.mill_pool.specs.Answers.{IsAccount}
use Rattle.mill_pool.proofs.Leaving.{with_last, left_is, left_jobs, left_tickets}

module _ {M : Type 0} where
  -- what a pass knows together with the seats that are left stays, where one of them comes to it
  gathered : (f : SeatView M → List (JobValue M)) → ((v w : SeatView M) → f (gathered_view v w) ≡ f v ++ f w) → (v new : SeatView M) (seat : SeatOf M) (before after : List (SeatOf M))
      → new ≡ gathered_view v (known seat) → before ≡ seat ∷ after → f new ++ flat_map (λ s. f (known s)) after ≡ f v ++ flat_map (λ s. f (known s)) before
  gathered f join v new seat before after is step =
      ap (λ u. f u ++ flat_map (λ s. f (known s)) after) is ∙ ap (λ l. l ++ flat_map (λ s. f (known s)) after) (join v (known seat))
      ∙ append_assoc (f v) (f (known seat)) (flat_map (λ s. f (known s)) after) ∙ ap (λ l. f v ++ flat_map (λ s. f (known s)) l) (sym step)

  gathered_parts : (v new : SeatView M) (seat : SeatOf M) (before after : List (SeatOf M)) → new ≡ gathered_view v (known seat) → before ≡ seat ∷ after
      → new.parts + parts_of after ≡ v.parts + parts_of before
  gathered_parts v new seat before after is step =
      let a = ap (λ (u : SeatView M). u.parts) is in
      let b = ap (λ l. parts_of l) step in
      let c = sum_by-cons (λ (s : SeatOf M). (known s).parts) seat after in omega arith

  pub last_parts : (seats : List (SeatOf M)) (last : SeatOf M) (all : List (SeatOf M)) → all ≡ seats ++ last ∷ [] → parts_of all ≡ every_part
      → (known last).parts + parts_of seats ≡ every_part
  last_parts seats last all is every =
      let a = ap (λ l. parts_of l) is in
      let b = sum_by_push (λ (s : SeatOf M). (known s).parts) seats last in omega arith

  -- what the last one knows, once all others came to it
  pub of_all : (seats : List (SeatOf M)) (last : SeatOf M) (all : List (SeatOf M)) (put taken left : List (JobValue M)) → all ≡ seats ++ last ∷ [] → put ≡ (known last).put ++ put_by seats
      → taken ≡ (known last).taken ++ taken_by seats → TakenOrLeft put taken left → TakenOrLeft (put_by all) (taken_by all) left
  of_all seats last all put taken left is puts takes h =
      subst (λ l. TakenOrLeft (put_by l) (taken_by l) left) (sym is)
      (with_last seats last left (subst (λ l. TakenOrLeft l ((known last).taken ++ taken_by seats) left) puts (subst (λ l. TakenOrLeft put l left) takes h)))

  -- the account of the tickets is that of the jobs
  pub closed : (seats now : List (SeatOf M)) (left : List (JobValue M)) (account : Account) → now ≡ seats → TakenOrLeft (put_by seats) (taken_by seats) left
      → account.put ≡ tickets (put_by now) → account.taken ≡ tickets (taken_by now) → account.left ≡ left_of (tickets (put_by now)) (tickets (taken_by now))
      → IsAccount (put_by seats) (taken_by seats) account
  closed seats now left account same h puts takes rests = record {
    left = left_jobs (put_by seats) (taken_by seats);
    jobs = left_is (put_by seats) (taken_by seats) left h;
    put_tickets = puts ∙ ap (λ l. tickets (put_by l)) same;
    taken_tickets = takes ∙ ap (λ l. tickets (taken_by l)) same;
    left_tickets = rests ∙ ap (λ l. left_of (tickets (put_by l)) (tickets (taken_by l))) same ∙ sym (left_tickets (put_by seats) (taken_by seats));
  }

module _ {M Q A : Type 0} where
  pub first_of : (queue : QueueOf M Q A) (before : List (SeatOf M)) (seat : SeatOf M) (after : List (SeatOf M)) → before ≡ seat ∷ after → AreOf queue before → IsPassOf queue seat
  first_of queue before seat after step of = of 0 seat (ap (λ l. get_elem? l 0) step)

  rest_of : (queue : QueueOf M Q A) (before : List (SeatOf M)) (seat : SeatOf M) (after : List (SeatOf M)) → before ≡ seat ∷ after → AreOf queue before → AreOf queue after
  rest_of queue before seat after step of k s e = of (suc k) s (ap (λ l. get_elem? l (suc k)) step ∙ e)

  pub last_of : (queue : QueueOf M Q A) (all seats : List (SeatOf M)) (last : SeatOf M) → all ≡ seats ++ last ∷ [] → AreOf queue all → IsPassOf queue last
  last_of queue all seats last is of = of (length seats) last (ap (λ l. get_elem? l (length seats)) is ∙ at_last seats last (length seats) refl)

  pub others_of : (queue : QueueOf M Q A) (all seats : List (SeatOf M)) (last : SeatOf M) → all ≡ seats ++ last ∷ [] → AreOf queue all → AreOf queue seats
  others_of queue all seats last is of k s e = of k s (ap (λ l. get_elem? l k) is ∙ at_longer seats (last ∷ []) k s e)

  -- where the passes of all these seats come to the first one: what holds of that one and of the seats that are left
  pub record IsUnderWay (queue : QueueOf M Q A) (first : SeatView M) (all : List (SeatOf M)) (pass : SeatOf M) (rest : List (SeatOf M)) : Type 0 where
    pub ours : IsPassOf queue pass
    pub theirs : AreOf queue rest
    pub live : 0 < (known pass).parts
    pub put : (known pass).put ++ put_by rest ≡ first.put ++ put_by all
    pub taken : (known pass).taken ++ taken_by rest ≡ first.taken ++ taken_by all
    pub parts : (known pass).parts + parts_of rest ≡ first.parts + parts_of all

  -- one of them came
  pub came : (queue : QueueOf M Q A) (first : SeatView M) (all : List (SeatOf M)) (old new other seat : SeatOf M) (before after : List (SeatOf M)) → IsUnderWay queue first all old before
      → known new ≡ gathered_view (known old) (known other) → other ≡ seat → before ≡ seat ∷ after → IsPassOf queue new → IsUnderWay queue first all new after
  came queue first all old new other seat before after h joined same step ours =
      let is : known new ≡ gathered_view (known old) (known seat) = joined ∙ ap (λ s. gathered_view (known old) (known s)) same in
      let more = ap (λ (v : SeatView M). v.parts) is in record {
        ours = ours;
        theirs = rest_of queue before seat after step h.theirs;
        live = let live = h.live in omega arith;
        put = gathered (λ v. v.put) (λ v w. refl) (known old) (known new) seat before after is step ∙ h.put;
        taken = gathered (λ v. v.taken) (λ v w. refl) (known old) (known new) seat before after is step ∙ h.taken;
        parts = gathered_parts (known old) (known new) seat before after is step ∙ h.parts;
      }
