use Rattle.std.proofs.Common.{◌+◌, ◌≤◌, ◌^◌, length, ap, ◌∙◌, arith}
use Rattle.script_words.specs.Cursors.{words_left}
use Rattle.script_words.proofs.Splitting.{length-words_of}
use Rattle.script_words.proofs.Scanning.{alike, goes_on, ends, past}
use Rattle.script_words.proofs.scans.fault_at.Goals as goal

pub add-requires-clause-alike : goal.add-requires-clause-alike
add-requires-clause-alike c =
    alike c.take.new.self c.in-Some-take.place c.in-Some.word.now (words_left c.next.new.self) c.look-seen.result c.in-Some-take.ensures.repeated c.look-seen.ensures

pub add-requires-clause-room : goal.add-requires-clause-room
add-requires-clause-room c =
    omega (arith, length-words_of c.args.words.rest.now, c.loop-word.invariant.room, c.in-Some-take.ensures.count, ap length c.in-Some.ensures.word)

pub loop-word-preserved : goal.loop-word-preserved
loop-word-preserved c =
    let count : c.add.new.self.count ≤ c.loop-word.unfilled.count + 2 ^ 64 = omega (arith, c.add.ensures.count, c.in-Some-take.ensures.count) in
    rw c.and-flaws.ensures
    (goes_on c.args.places.now (words_left c.args.words) (words_left c.loop-word.words) (words_left c.next.new.self) c.in-Some.word.now c.in-Some-take.place
    c.loop-word.unfilled c.take.new.self c.add.new.self c.look-seen.result c.loop-word.flaws c.in-Some.ensures.word c.in-Some-take.ensures.place c.look-seen.ensures (c.add.ensures.opened c.args.places.now) count c.loop-word.invariant)

pub returns : goal.returns
returns c =
    c.fault-2.ensures ∙ ends c.args.places.now (words_left c.args.words) (words_left c.loop-word.words) c.loop-word.unfilled c.loop-word.flaws c.needs_word.result c.in_default.ensures.word c.needs_word.ensures c.loop-word.invariant

pub returns-in_default-take : goal.returns-in_default-take
returns-in_default-take c =
    c.fault.ensures ∙ past c.args.places.now (words_left c.args.words) (words_left c.loop-word.words) (words_left c.next.new.self) c.in-Some.word.now c.loop-word.unfilled c.loop-word.flaws c.in-Some.ensures.word c.in_default-take.ensures.place c.loop-word.invariant
