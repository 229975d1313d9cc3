use Rattle.std.proofs.Common.{◌+◌, ◌/◌, ◌∙◌, List, Option, ℕ, drop, get_or, refl, sym, ap}
use Rattle.sunion.specs.Clocks.{stamped}
use Rattle.sunion.proofs.Stamping.{stamped-next, stamped-again, stamped-within, get-own}
use Rattle.sunion.proofs.clocks.stamp.Goals as goal

pub loop-time-preserved-then-lies_in : goal.loop-time-preserved-then-lies_in
loop-time-preserved-then-lies_in c =
    let h = c.loop-time.invariant in
    let i = c.loop-time.time-index in
    let times = c.args.times.now in
    let clocks = c.loop-time.clocks.items in
    let rest = drop (i + 1) times in
    let within = stamped-within c.args.width c.args.cursor c.args.now (get_or times i 0) c.loop-time.begin clocks (c.if-lies_in.ensures refl) h.last in
    let next = stamped-next c.args.width c.args.cursor c.args.now i (get_or times i 0) clocks times c.loop-time-test.true (get-own times i 0 c.loop-time-test.true) in
    record {
      left = ap (λ (cs : List (Option ℕ)). stamped c.args.width c.args.cursor c.args.now cs rest) (sym within) ∙ sym next ∙ h.left;
      last = h.last;
    }

pub loop-time-preserved : goal.loop-time-preserved
loop-time-preserved c =
    let h = c.loop-time.invariant in
    let i = c.loop-time.time-index in
    let times = c.args.times.now in
    let clocks = c.loop-time.clocks.items in
    let bucket = get_or times i 0 / c.args.width in
    let next = stamped-next c.args.width c.args.cursor c.args.now i (get_or times i 0) clocks times c.loop-time-test.true (get-own times i 0 c.loop-time-test.true) in
    record {
      left = ap (λ (cs : List (Option ℕ)). stamped c.args.width c.args.cursor c.args.now cs (drop (i + 1) times)) c.stamp_bucket.ensures ∙ sym next ∙ h.left;
      last = (bucket, refl, rw c.stamp_bucket.ensures (stamped-again c.args.cursor c.args.now bucket clocks));
    }
