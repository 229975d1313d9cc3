use Rattle.std.proofs.Common.{◌≡◌, ℕ, ◌+◌, List, [], ◌∷◌, ◌++◌, length, take, drop, get_or, refl, sym, ap, ◌∙◌, arith, append-nil}
use Rattle.std.proofs.lemmas.List.{drop_all, length-set, take_more_set}
use Rattle.byteorder.specs.Endian.{big_number}
use Rattle.stream_codec.specs.Kinds.{width, holds}
use Rattle.stream_codec.specs.Frames.{numbers_at, bad_place}
use Rattle.stream_codec.specs.declared.kinds.Field.{Field}
use Rattle.stream_codec.specs.declared.kinds.Field.TheVariants.{Number}
use Rattle.stream_codec.proofs.Turns.{pushed, width-le, widths-step, numbers-step, bad_place-step, bad_place-here}
use Rattle.stream_codec.proofs.decoding.read_numbers.Goals as goal

pub returns-then-not-holds : goal.returns-then-not-holds
returns-then-not-holds c =
    let field = get_or c.args.fields.now c.loop-i.i Number in
    let number-is = c.read_number-number.ensures ∙ ap (big_number (width field)) c.behind.ensures in
    record {
      place = 5 + c.loop-i.place;
      bad = sym c.loop-i.invariant.bad
          ∙ bad_place-here c.args.fields.now c.loop-i.i c.loop-i.place Number c.args.body.now c.loop-i-test.true
          (ap (holds field) (sym number-is) ∙ sym c.holds.ensures ∙ c.if-not-holds.true);
      told = refl;
    }

pub loop-i-preserved : goal.loop-i-preserved
loop-i-preserved c =
    let field = get_or c.args.fields.now c.loop-i.i Number in
    let number-is = c.read_number-number.ensures ∙ ap (big_number (width field)) c.behind.ensures in
    let good = ap (holds field) (sym number-is) ∙ sym c.holds.ensures ∙ c.if-not-holds.false in
    record {
      size = length-set c.loop-i.numbers c.loop-i.i c.read_number-number.result ∙ c.loop-i.invariant.size;
      place = omega (arith, widths-step c.args.fields.now c.loop-i.i Number c.loop-i-test.true, c.width-place.ensures);
      most = omega (arith, width-le field, c.width-place.ensures);
      bad = sym (bad_place-step c.args.fields.now c.loop-i.i c.loop-i.place c.width-place.result Number c.args.body.now c.loop-i-test.true c.width-place.ensures good)
          ∙ c.loop-i.invariant.bad;
      read = pushed _ _ _ _ _ _ (take_more_set c.loop-i.numbers c.loop-i.i c.read_number-number.result (omega (arith, c.requires.few)))
          (numbers-step c.args.fields.now c.loop-i.i c.loop-i.place c.width-place.result Number c.args.body.now c.loop-i-test.true c.width-place.ensures
          ∙ ap (λ (n : ℕ). n ∷ numbers_at (drop (c.loop-i.i + 1) c.args.fields.now) (drop (c.loop-i.place + c.width-place.result) c.args.body.now)) (sym number-is))
          c.loop-i.invariant.read;
    }

pub returns : goal.returns
returns c =
    let none : drop c.loop-i.i c.args.fields.now ≡ [] = drop_all c.loop-i.i c.args.fields.now c.loop-i-test.false in
    let all : c.loop-i.i ≡ length c.args.fields.now = omega arith in
    record {
      size = c.loop-i.invariant.size;
      good = sym c.loop-i.invariant.bad ∙ ap (λ (xs : List Field). bad_place (5 + c.loop-i.place) xs (drop c.loop-i.place c.args.body.now)) none;
      read = ap (λ (n : ℕ). take n c.loop-i.numbers) (sym all)
          ∙ sym (append-nil (take c.loop-i.i c.loop-i.numbers))
          ∙ ap (λ (xs : List Field). take c.loop-i.i c.loop-i.numbers ++ numbers_at xs (drop c.loop-i.place c.args.body.now)) (sym none)
          ∙ c.loop-i.invariant.read;
    }
