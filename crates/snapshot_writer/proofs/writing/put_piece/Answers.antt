use Rattle.std.proofs.Common.{◌≡◌, ◌+◌, ◌-◌, ◌*◌, ℕ, List, ◌++◌, length, take, drop, get_or, Some, slice_get, sym, ap, subst, ◌∙◌, append_assoc, arith}
use Rattle.byteorder.specs.Endian.{big_bytes}
use Rattle.dpc_model.specs.declared.tuples.Tuple.{Tuple}
use Rattle.fragment_mill.specs.Mills.{MillState}
use Rattle.fragment_mill.specs.States.{parts_of}
use Rattle.fragment_mill.specs.Views.{shown}
use Rattle.snapshot_form.specs.Bytes.{head_bytes, tuples_bytes}
use Rattle.snapshot_form.specs.Pieces.{pieces_of, parts_before_last, piece_size}
use Rattle.snapshot_writer.proofs.Places.{length-pieces, piece-head, piece-kept, piece-part, part-short}
use Rattle.snapshot_writer.proofs.writing.put_piece.Goals as goal

pub returns-then-number-eq0 : goal.returns-then-number-eq0
returns-then-number-eq0 c other =
    let s = c.args.snapshot.now in
    let old = c.args.buf.now.items in
    c.in_ok-put_head.ensures
    ∙ append_assoc old (head_bytes s) (big_bytes 4 (length s.kept))
    ∙ ap (λ (bs : List ℕ). old ++ bs) (sym (piece-head s other) ∙ ap (λ (m : ℕ). get_or (pieces_of s) m other) (sym c.if-number-eq0.true))

pub returns-then-place-kept : goal.returns-then-place-kept
returns-then-place-kept c other =
    let s = c.args.snapshot.now in
    let old = c.args.buf.now.items in
    let place = c.args.number - 1 in
    let kept = c.count_kept_pieces-kept.ensures ∙ ap (λ (n : ℕ). parts_before_last n + 1) c.kept_count.ensures in
    let some = c.if-number-eq0.false in
    let within = c.if-place-kept.true in
    c.in_ok-put_tuples.ensures
    ∙ ap (λ (ts : List Tuple). old ++ tuples_bytes ts) (c.part.ensures ∙ ap (λ (ts : List Tuple). take piece_size (drop (piece_size * place) ts)) c.kept.ensures)
    ∙ ap (λ (bs : List ℕ). old ++ bs) (sym (piece-kept s c.args.number place other (omega (arith, some)) (omega (arith, kept, within))))

pub kept-requires-2 : goal.kept-requires-2
kept-requires-2 c =
    let s = c.args.snapshot.now in
    let kept = c.count_kept_pieces-kept.ensures ∙ ap (λ (n : ℕ). parts_before_last n + 1) c.kept_count.ensures in
    let many = ap (λ (m : MillState). length (parts_of m).operators) c.mill.ensures in
    let all = length-pieces s in
    omega (arith, c.requires.there, all, kept, many, c.if-number-eq0.false, c.if-place-kept.false)

pub put_part-requires : goal.put_part-requires
put_part-requires c =
    let number = c.args.number - 1 - c.count_kept_pieces-kept.result in
    part-short c.args.snapshot.now number (shown c.kept-2.result)
    (subst (λ (m : MillState). slice_get (parts_of m).operators number ≡ Some (shown c.kept-2.result)) c.mill.ensures c.kept-2.ensures)
    c.requires.short

pub returns : goal.returns
returns c other =
    let s = c.args.snapshot.now in
    let number = c.args.number - 1 - c.count_kept_pieces-kept.result in
    let kept = c.count_kept_pieces-kept.ensures ∙ ap (λ (n : ℕ). parts_before_last n + 1) c.kept_count.ensures in
    let some = c.if-number-eq0.false in
    let behind = c.if-place-kept.false in
    c.in_ok-put_part.ensures
    ∙ ap (λ (bs : List ℕ). c.args.buf.now.items ++ bs) (sym (piece-part s c.args.number number (shown c.kept-2.result) other (omega (arith, kept, some, behind))
    (subst (λ (m : MillState). slice_get (parts_of m).operators number ≡ Some (shown c.kept-2.result)) c.mill.ensures c.kept-2.ensures)))
