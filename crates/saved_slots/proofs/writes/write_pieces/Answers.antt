use Rattle.std.proofs.Common.{◌≡◌, ◌<◌, ◌+◌, ◌++◌, List, ℕ, length, take, vec_len, sym, subst, ap, ◌∙◌, arith, rules, length-append}
use Rattle.std.specs.List.{concat}
use Rattle.disk_model.specs.Disk.{Holds}
use Rattle.disk_model.specs.Synced.{WritesAt}
use Rattle.disk_model.proofs.Parts.{holds_none, holds_joined}
use Rattle.disk_model.proofs.Runs.{wrote, wrote_both, wrote_none, wrote_less}
use Rattle.saved_slots.proofs.Pieces.{concat_more, concat_some, concat_all}
use Rattle.saved_slots.proofs.writes.write_pieces.Goals as goal

pub loop-number-init : goal.loop-number-init
loop-number-init g c = record {
  place = omega arith;
  extent = search rules;
  faults = omega arith;
  honest = λ honest. honest;
  writes = λ honest. wrote_none c.args.at 0 (g.D.Disk.history c.args.disk.now);
  written = λ honest. holds_none (g.D.Disk.seen c.args.disk.now) c.args.at;
}

pub write-requires : goal.write-requires
write-requires g c =
    let pieces = g.P.Payload.pieces c.args.payload.now in
    let n = c.loop-number.number in
    let piece = c.give_piece.new.buf.items in
    let low : n < length pieces = omega (arith, c.count_pieces-number-end.ensures, c.loop-number-test.true) in
    let more = concat_more pieces n piece low (c.in_ok-give_piece.ensures piece) in
    let counted : length (concat (take (n + 1) pieces)) ≡ length (concat (take n pieces)) + length piece = ap length more ∙ length-append (concat (take n pieces)) piece in
    let bytes : length c.deref.result.now ≡ length piece = ap length c.deref.ensures.value in
    omega (arith, bytes, counted, concat_some pieces (n + 1), ap length (g.met.P.Payload.joined c.args.payload.now), c.loop-number.invariant.place, c.loop-number.invariant.extent, c.requires)

pub overflow_add-place : goal.overflow_add-place
overflow_add-place g c =
    let pieces = g.P.Payload.pieces c.args.payload.now in
    let n = c.loop-number.number in
    let piece = c.give_piece.new.buf.items in
    let low : n < length pieces = omega (arith, c.count_pieces-number-end.ensures, c.loop-number-test.true) in
    let more = concat_more pieces n piece low (c.in_ok-give_piece.ensures piece) in
    let counted : length (concat (take (n + 1) pieces)) ≡ length (concat (take n pieces)) + length piece = ap length more ∙ length-append (concat (take n pieces)) piece in
    let many : vec_len c.give_piece.new.buf ≡ length piece = search rules in
    omega (arith, c.len.ensures, many, counted, concat_some pieces (n + 1), ap length (g.met.P.Payload.joined c.args.payload.now), c.loop-number.invariant.place, c.requires, c.size-size.ensures)

pub loop-number-preserved : goal.loop-number-preserved
loop-number-preserved g c =
    let pieces = g.P.Payload.pieces c.args.payload.now in
    let n = c.loop-number.number in
    let inv = c.loop-number.invariant in
    let at = c.args.at in
    let place = c.loop-number.place in
    let piece = c.give_piece.new.buf.items in
    let before = concat (take n pieces) in
    let after = concat (take (n + 1) pieces) in
    let low : n < length pieces = omega (arith, c.count_pieces-number-end.ensures, c.loop-number-test.true) in
    let more : after ≡ before ++ piece = concat_more pieces n piece low (c.in_ok-give_piece.ensures piece) in
    let counted : length after ≡ length before + length piece = ap length more ∙ length-append before piece in
    let bytes : c.deref.result.now ≡ piece = c.deref.ensures.value in
    let many : vec_len c.give_piece.new.buf ≡ length piece = search rules in
    let old = g.D.Disk.history c.args.disk.now in
    let mid = g.D.Disk.history c.loop-number.disk in
    let new = g.D.Disk.history c.write.new.self in
    let seen = g.D.Disk.seen c.args.disk.now in
    let mid_seen = g.D.Disk.seen c.loop-number.disk in
    let new_seen = g.D.Disk.seen c.write.new.self in
    record {
      place = omega (arith, inv.place, counted, many, c.len.ensures);
      extent = c.write.ensures.extent ∙ inv.extent;
      faults = omega (arith, inv.faults, c.write.ensures.cause.later);
      honest = λ honest. c.write.ensures.honest (inv.honest honest);
      writes = λ honest.
          let one = subst (λ (xs : List ℕ). WritesAt place (length xs) mid new) bytes (wrote place (length c.deref.result.now) mid new (c.write.ensures.crash (inv.honest honest))) in
          wrote_both at (length after) old mid new at (length before) place (length piece) (omega arith) (omega (arith, counted)) (omega (arith, inv.place)) (omega (arith, inv.place, counted)) (inv.writes honest) one;
      written = λ honest.
          let one = subst (λ (xs : List ℕ). Holds mid_seen place xs new_seen) bytes (c.in_ok-write.ensures.written (inv.honest honest)) in
          subst (λ (xs : List ℕ). Holds seen at xs new_seen) (sym more) (holds_joined seen mid_seen new_seen at place before piece (sym inv.place) (inv.written honest) one);
    }

pub returns-in_err-give_piece-clause-writes : goal.returns-in_err-give_piece-clause-writes
returns-in_err-give_piece-clause-writes g c honest =
    let pieces = g.P.Payload.pieces c.args.payload.now in
    wrote_less c.args.at _ _ _ _ (omega (arith, concat_some pieces c.loop-number.number, ap length (g.met.P.Payload.joined c.args.payload.now))) (c.loop-number.invariant.writes honest)

pub returns-in_err-write-clause-writes : goal.returns-in_err-write-clause-writes
returns-in_err-write-clause-writes g c honest =
    let pieces = g.P.Payload.pieces c.args.payload.now in
    let n = c.loop-number.number in
    let inv = c.loop-number.invariant in
    let piece = c.give_piece.new.buf.items in
    let low : n < length pieces = omega (arith, c.count_pieces-number-end.ensures, c.loop-number-test.true) in
    let more = concat_more pieces n piece low (c.in_ok-give_piece.ensures piece) in
    let before = concat (take n pieces) in
    let counted : length (concat (take (n + 1) pieces)) ≡ length before + length piece = ap length more ∙ length-append before piece in
    let bytes : length c.deref.result.now ≡ length piece = ap length c.deref.ensures.value in
    let whole : length (concat pieces) ≡ length (g.P.Payload.bytes c.args.payload.now) = ap length (g.met.P.Payload.joined c.args.payload.now) in
    let all = concat_some pieces (n + 1) in
    let mid = g.D.Disk.history c.loop-number.disk in
    let new = g.D.Disk.history c.write.new.self in
    wrote_both c.args.at (length (g.P.Payload.bytes c.args.payload.now)) (g.D.Disk.history c.args.disk.now) mid new c.args.at (length before) c.loop-number.place (length c.deref.result.now)
    (omega arith) (omega (arith, counted, whole, all)) (omega (arith, inv.place)) (omega (arith, inv.place, bytes, counted, whole, all)) (inv.writes honest)
    (wrote c.loop-number.place (length c.deref.result.now) mid new (c.write.ensures.crash (inv.honest honest)))

pub returns-clause-writes : goal.returns-clause-writes
returns-clause-writes g c honest =
    let pieces = g.P.Payload.pieces c.args.payload.now in
    wrote_less c.args.at _ _ _ _ (omega (arith, concat_some pieces c.loop-number.number, ap length (g.met.P.Payload.joined c.args.payload.now))) (c.loop-number.invariant.writes honest)

pub returns-clause-written : goal.returns-clause-written
returns-clause-written g c honest =
    let pieces = g.P.Payload.pieces c.args.payload.now in
    let all = concat_all pieces c.loop-number.number (omega (arith, c.count_pieces-number-end.ensures, c.loop-number-test.false)) ∙ g.met.P.Payload.joined c.args.payload.now in
    subst (λ (xs : List ℕ). Holds (g.D.Disk.seen c.args.disk.now) c.args.at xs (g.D.Disk.seen c.loop-number.disk)) all (c.loop-number.invariant.written honest)
