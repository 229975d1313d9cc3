-- The seats that come back are all seats of the pool.
use Rattle.std.proofs.Common.{◌≡◌, ℕ, ◌≤◌, List, ◌++◌, length, take, drop, sym, ap, ◌∙◌, append-nil, arith}
use Rattle.std.proofs.Math.Seq.{drop-length}
use Rattle.std.proofs.lemmas.List.{length-map, take_all}
use Rattle.mill_pool.specs.Seats.{known}
use Rattle.trial_threads.proofs.pooled.taken_in.Goals as goal

written : {X : Type 0} (n : ℕ) (new items : List X) → length new ≡ length items → n ≡ length items → take n (new ++ drop (length new) items) ≡ new
written n new items same long =
    ap (λ l. take n (new ++ l)) (ap (λ k. drop k items) same ∙ drop-length items) ∙ ap (λ l. take n l) (append-nil new) ∙ take_all n new (omega arith)

pub close-requires : goal.close-requires
close-requires g c =
    let value = c.as_mut_slice.ensures.value in
    let numbers = ap length c.live_pool-run.ensures.numbers in
    let after = length-map c.live_pool-run.new.seats (λ s. (known s).number) in
    let before = length-map c.as_mut_slice.result.now (λ s. (known s).number) in
    let same : length c.live_pool-run.new.seats ≡ length c.in-Ok.seats.items = sym after ∙ numbers ∙ before ∙ ap length value in
    let long : c.in-Ok.seats.len ≡ length c.in-Ok.seats.items = sym c.as_mut_slice.ensures.len ∙ ap length value in
    rw (written c.in-Ok.seats.len c.live_pool-run.new.seats c.in-Ok.seats.items same long) c.live_pool-run.ensures.seats
