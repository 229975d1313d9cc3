use Rattle.std.proofs.Common.{◌≡◌, ◌∙◌, map, drop, length, sym}
use Rattle.std.proofs.lemmas.List.{length-map}
use Rattle.script_rules.specs.Spelling.{value}
use Rattle.script_rules.specs.Statements.{word, number_at}
use Rattle.script_words.specs.Cursors.{words_left}
use Rattle.script_draft.specs.Caches.{StandsFor}
use Rattle.script_words.proofs.Faults.{log_values}
use Rattle.diagram_reader.proofs.Numbered.{time_stands, accepted_time}
use Rattle.diagram_reader.proofs.statements.log.Goals as goal

pub read_values-requires : goal.read_values-requires
read_values-requires c = rw c.skip.ensures (log_values _ _ c.requires.faultless)

pub returns-in_ok-add_log-in-Ok : goal.returns-in_ok-add_log-in-Ok
returns-in_ok-add_log-in-Ok c =
    let ws = words_left c.args.words in
    let stands : StandsFor c.number-time.result (number_at ws 1) = rw (c.number-time.ensures, c.word.ensures) (time_stands _ ws c.requires.faultless) in
    let many : length (map value (drop 2 ws)) ≡ c.count.result = length-map (drop 2 ws) value ∙ sym (rw c.skip.ensures at c.count.ensures.count) in
    let none = rw c.word-2.ensures at (sym (c.in-Ok.ensures.fault (number_at ws 1) (map value (drop 2 ws)) stands many)) in
    let named = rw c.word-2.ensures at c.in-Ok.ensures.found in
    let time = accepted_time c.args.draft.now (word ws 0) (number_at ws 1) (map value (drop 2 ws)) c.number-time.result c.requires.end stands none in
    let vals = rw c.skip.ensures at c.in_ok-vals-in-Ok.ensures in
    (none, rw (c.unwrap_or.ensures, time, vals) at (c.in_ok-add_log-in-Ok.ensures.ok (word ws 0) named))

pub returns-in-Err : goal.returns-in-Err
returns-in-Err c =
    let ws = words_left c.args.words in
    let stands : StandsFor c.number-time.result (number_at ws 1) = rw (c.number-time.ensures, c.word.ensures) (time_stands _ ws c.requires.faultless) in
    let many : length (map value (drop 2 ws)) ≡ c.count.result = length-map (drop 2 ws) value ∙ sym (rw c.skip.ensures at c.count.ensures.count) in
    rw c.word-2.ensures at (sym (c.in-Err.ensures.fault (number_at ws 1) (map value (drop 2 ws)) stands many))
